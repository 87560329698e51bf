-- What a pass knows of the journal, and how its calls end, by the sight of its seat.
use Rattle.std.specs.Prelude.{◌≡◌, ℕ, ◌+◌, ◌<◌, ◌≤◌, List, [], ◌∷◌, ◌++◌, length, Option, Some, None, is_some, true, false, Result, Ok, Err, ◌⊎◌}
use Rattle.lfm_model.specs.declared.answers.Asked.{Asked}
use Rattle.lfm_model.specs.declared.answers.How.{How}
use Rattle.lfm_model.specs.declared.answers.Locked.{Locked}
use Rattle.lfm_model.specs.declared.answers.Unlocked.{Unlocked}
use Rattle.lfm_model.specs.declared.journals.What.TheVariants.{Took, Did}
use Rattle.lfm_model.specs.declared.journals.Entry.{Entry}
use Rattle.lfm_model.specs.declared.refusals.Refusal.{Refusal}
use Rattle.lfm_model.specs.Journals.{after_all, LawfulJournal, one_to, own, entry, stamps, taker_from}
use Rattle.lfm_protocol.specs.Limits.{max_depth}
use Rattle.lfm_mutex.specs.calls.Trails.{Seen}
use Rattle.lfm_mutex.specs.calls.Sight.{Sight, BusySeen, Deepens}
use Rattle.lfm_monitor.specs.declared.journaled.Journaled.{Journaled}
use Rattle.lfm_monitor.specs.Journaled.{JournalFits, JournalFollows}

module _ {O A R : Type 0} {K : _} where
  abbrev pub found_or : Option (Journaled O A R K) → Option (Journaled O A R K) → Option (Journaled O A R K)
  found_or (Some v) last = Some v
  found_or None last = last

  -- the journaled object that the seat holds, or if it holds none, the one that it last left
  abbrev pub known_to : Sight (Journaled O A R K) → Option (Journaled O A R K)
  known_to s = found_or s.value s.last

  abbrev pub journal_at : Option (Journaled O A R K) → List (Entry A)
  journal_at (Some v) = v.journal.items
  journal_at None = []

  -- the journal that the pass holds, or if it holds none, the one that it last left
  abbrev pub journal_of : Sight (Journaled O A R K) → List (Entry A)
  journal_of s = journal_at (known_to s)

  -- the pass belongs to a monitor that was made with this object, this number of seats and this number of entries for each
  abbrev pub Began : O → ℕ → ℕ → Sight (Journaled O A R K) → Type 0
  Began opening seats share s = (l : Journaled O A R K) → s.last ≡ Some l → (l.opening.value ≡ opening) × (l.seats ≡ seats) × (l.share ≡ share)

  -- what a pass that doesn't hold knows of the value that it last left
  pub record Left (number seen mine : ℕ) (l : Journaled O A R K) : Type 0 where
    pub mine_is : mine ≡ length (own number l.journal.items)
    pub seen_is : seen ≡ length l.journal.items

  -- what a pass that holds knows of the value that it holds
  pub record InHand (s : Sight (Journaled O A R K)) (seen mine : ℕ) (v : Journaled O A R K) : Type 0 where
    pub mine_is : mine ≡ length (own s.number v.journal.items)
    pub taker : taker_from None v.journal.items ≡ Some s.number
    pub fit : JournalFits v s.queued
    pub follow : (l : Journaled O A R K) → s.last ≡ Some l → JournalFollows s.number l v

  -- a pass that sleeps has an entry left for its take
  pub record Sleeps (s : Sight (Journaled O A R K)) (mine : ℕ) : Type 0 where
    pub out : s.depth ≡ 0
    pub quiet : s.in_call ≡ false
    pub room : (l : Journaled O A R K) → s.last ≡ Some l → mine < l.share

  pub record PassKept (s : Sight (Journaled O A R K)) (seen mine : ℕ) : Type 0 where
    pub there : is_some s.last ≡ true
    pub seated : (l : Journaled O A R K) → s.last ≡ Some l → (0 < s.number) × (s.number ≤ l.seats)
    pub free : s.depth ≡ 0 → s.value ≡ None
    pub held : 0 < s.depth → is_some s.value ≡ true
    pub left : s.depth ≡ 0 → (l : Journaled O A R K) → s.last ≡ Some l → Left s.number seen mine l
    pub holds : (v : Journaled O A R K) → s.value ≡ Some v → InHand s seen mine v
    pub sleeps : s.asleep ≡ true → Sleeps s mine

  -- the pass has come to hold: it finds what it last left, followed by entries of others alone, and adds its own take
  abbrev pub Enters : How → Sight (Journaled O A R K) → Sight (Journaled O A R K) → Type 0
  Enters how s t = (between : List (Entry A)) × (own s.number between ≡ []) × (journal_of t ≡ (journal_of s ++ between) ++ entry s.number (Took how) ∷ [])

  -- the journal js is the one that the pass holds or last left, followed by entries of others alone
  abbrev pub GoesOnTo : Sight (Journaled O A R K) → List (Entry A) → Type 0
  GoesOnTo s js = (between : List (Entry A)) × (own s.number between ≡ []) × (js ≡ journal_of s ++ between)

  -- the pass now holds at depth 1, and has one more entry of its own
  abbrev pub ComesIn : How → Sight (Journaled O A R K) → Sight (Journaled O A R K) → ℕ → ℕ → Type 0
  ComesIn how s t mine mine' = (s.depth ≡ 0) × (t.depth ≡ 1) × (t.number ≡ s.number) × (t.asleep ≡ false) × (t.sends ≡ s.sends) × (mine' ≡ mine + 1) × Enters how s t

  -- why a call that would acquire the monitor is refused
  abbrev pub EnterRefused : ℕ → Sight (Journaled O A R K) → ℕ → Refusal → Type 0
  EnterRefused share s mine Refusal.Asleep = s.asleep ≡ true
  EnterRefused share s mine Refusal.DepthFull = (s.asleep ≡ false) × (max_depth ≤ s.depth)
  EnterRefused share s mine Refusal.Spent = (s.asleep ≡ false) × (s.depth ≡ 0) × ((share ≤ mine) ⊎ (share ≤ s.takes))
  EnterRefused share s mine _ = ⊥

  -- how try_enter ends
  abbrev pub TryEnds : ℕ → Sight (Journaled O A R K) → Sight (Journaled O A R K) → ℕ → ℕ → Result Locked Refusal → Type 0
  TryEnds share s t mine mine' (Ok (Locked.Held how)) = (s.asleep ≡ false) × (t.takes ≡ s.takes + 1) × ComesIn how s t mine mine'
  TryEnds share s t mine mine' (Ok (Locked.Again d)) = Deepens s t d × (mine' ≡ mine)
  TryEnds share s t mine mine' (Err Refusal.Busy) =
      (s.asleep ≡ false) × (s.depth ≡ 0) × (s.takes < share) × (mine < share) × (t ≡ record s { trail = t.trail }) × (mine' ≡ mine)
      × ((new : List Seen) × (t.trail ≡ s.trail ++ new) × BusySeen s.number new)
  TryEnds share s t mine mine' (Err r) = EnterRefused share s mine r × (t ≡ s) × (mine' ≡ mine)

  -- how ask ends
  abbrev pub AskEnds : ℕ → Sight (Journaled O A R K) → Sight (Journaled O A R K) → ℕ → ℕ → Result Asked Refusal → Type 0
  AskEnds share s t mine mine' (Ok (Asked.Held how)) = (s.asleep ≡ false) × (t.takes ≡ s.takes + 1) × ComesIn how s t mine mine'
  AskEnds share s t mine mine' (Ok (Asked.Again d)) = Deepens s t d × (mine' ≡ mine)
  AskEnds share s t mine mine' (Ok Asked.Asleep) =
      (s.asleep ≡ false) × (s.depth ≡ 0) × (t ≡ record s { takes = s.takes + 1; asleep = true; in_call = false; trail = t.trail }) × (mine' ≡ mine)
  AskEnds share s t mine mine' (Err r) = EnterRefused share s mine r × (t ≡ s) × (mine' ≡ mine)

  -- how enter ends
  abbrev pub EnterEnds : ℕ → Sight (Journaled O A R K) → Sight (Journaled O A R K) → ℕ → ℕ → Result Locked Refusal → Type 0
  EnterEnds share s t mine mine' (Ok (Locked.Held how)) = (s.asleep ≡ false) × (t.takes ≡ s.takes + 1) × ComesIn how s t mine mine'
  EnterEnds share s t mine mine' (Ok (Locked.Again d)) = Deepens s t d × (mine' ≡ mine)
  EnterEnds share s t mine mine' (Err r) = EnterRefused share s mine r × (t ≡ s) × (mine' ≡ mine)

  -- how try_receive ends
  abbrev pub ReceiveEnds : Sight (Journaled O A R K) → Sight (Journaled O A R K) → ℕ → ℕ → Result (Option How) Refusal → Type 0
  ReceiveEnds s t mine mine' (Ok (Some how)) = (s.asleep ≡ true) × (t.takes ≡ s.takes) × ComesIn how s t mine mine'
  ReceiveEnds s t mine mine' (Ok None) = (s.asleep ≡ true) × (t ≡ record s { trail = t.trail }) × (mine' ≡ mine)
  ReceiveEnds s t mine mine' (Err Refusal.NotWaiting) = (s.asleep ≡ false) × (t ≡ s) × (mine' ≡ mine)
  ReceiveEnds s t mine mine' (Err r) = ⊥

  -- how leave ends: a pass that gives up the monitor has seen the journal that it held
  abbrev pub LeaveEnds : Sight (Journaled O A R K) → Sight (Journaled O A R K) → ℕ → ℕ → Result Unlocked Refusal → Type 0
  LeaveEnds s t seen seen' (Ok (Unlocked.Still d)) = (s.asleep ≡ false) × (0 < d) × (s.depth ≡ d + 1) × (t ≡ record s { depth = d }) × (seen' ≡ seen)
  LeaveEnds s t seen seen' (Ok u) =
      (s.asleep ≡ false) × (s.depth ≡ 1) × (t.depth ≡ 0) × (t.number ≡ s.number) × (t.takes ≡ s.takes) × (t.asleep ≡ false) × (t.sends ≡ s.sends) × (journal_of t ≡ journal_of s)
      × (seen' ≡ length (journal_of s))
  LeaveEnds s t seen seen' (Err Refusal.Asleep) = (s.asleep ≡ true) × (t ≡ s) × (seen' ≡ seen)
  LeaveEnds s t seen seen' (Err Refusal.NotOwner) = (s.asleep ≡ false) × (s.depth ≡ 0) × (t ≡ s) × (seen' ≡ seen)
  LeaveEnds s t seen seen' (Err _) = ⊥

module _ {O A R : Type 0} {K : _} (after : O → A → O) where
  -- the value that the pass holds is legal: the journal is lawful, the object is its replay, and the stamps are those of all
  -- queued takes so far
  abbrev pub IsLegal : O → Sight (Journaled O A R K) → Type 0
  IsLegal opening s = (v : Journaled O A R K) → s.value ≡ Some v → (v.object ≡ after_all after opening v.journal.items) × LawfulJournal v.journal.items × (stamps v.journal.items ≡ one_to s.queued)

module _ {O A R : Type 0} {K : _} (after : O → A → O) (reply : O → A → R) where
  -- an op was applied: the reply and the new object are those of the object's own functions, and the entry was added
  abbrev pub Applies : A → Sight (Journaled O A R K) → Sight (Journaled O A R K) → R → Type 0
  Applies op s t r =
      (v w : Journaled O A R K) × (s.value ≡ Some v) × (t ≡ record s { value = Some w }) × (r ≡ reply v.object op) × (w.object ≡ after v.object op)
      × (w.journal.items ≡ v.journal.items ++ entry s.number (Did op) ∷ [])

  -- how apply ends
  abbrev pub ApplyEnds : ℕ → A → Sight (Journaled O A R K) → Sight (Journaled O A R K) → ℕ → ℕ → Result R Refusal → Type 0
  ApplyEnds share op s t mine mine' (Ok r) = (s.asleep ≡ false) × (mine' ≡ mine + 1) × Applies op s t r
  ApplyEnds share op s t mine mine' (Err Refusal.Asleep) = (s.asleep ≡ true) × (t ≡ s) × (mine' ≡ mine)
  ApplyEnds share op s t mine mine' (Err Refusal.NotOwner) = (s.asleep ≡ false) × (s.depth ≡ 0) × (t ≡ s) × (mine' ≡ mine)
  ApplyEnds share op s t mine mine' (Err Refusal.Spent) = (s.asleep ≡ false) × (0 < s.depth) × (share ≤ mine) × (t ≡ s) × (mine' ≡ mine)
  ApplyEnds share op s t mine mine' (Err _) = ⊥
