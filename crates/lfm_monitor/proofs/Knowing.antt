-- What a pass knows after each call.
use Rattle.std.proofs.Common.{◌≡◌, ◌⊎◌, ⊎_elim, ℕ, ◌+◌, ◌<◌, ◌≤◌, true, false, List, [], ◌∷◌, ◌++◌, length, Option, Some, None, refl, sym, ◌∙◌, ap, subst, arith, is_some, Ok, Err}
use Rattle.lfm_model.specs.declared.answers.How.{How}
use Rattle.lfm_model.specs.declared.answers.How.TheVariants.{Free as FreeTake, Queued as QueuedTake}
use Rattle.lfm_model.specs.declared.journals.What.TheVariants.{Took, Did}
use Rattle.lfm_model.specs.declared.journals.Entry.{Entry}
use Rattle.lfm_model.specs.Journals.{own, entry, MayTake, queued_from, queued_at, taker_from}
use Rattle.lfm_model.proofs.JournalSteps.{taker_more, queued_more, own_more_length}
use Rattle.lfm_model.proofs.Sums.{one_same}
use Rattle.lfm_model.specs.declared.answers.Unlocked.{Unlocked}
use Rattle.lfm_model.specs.declared.refusals.Refusal.{Refusal}
use Rattle.lfm_model.specs.declared.seat_numbers.SeatNo.{SeatNo}
use Rattle.lfm_mutex.specs.declared.mutex.Mutex.{Mutex}
use Rattle.lfm_mutex.specs.declared.seat.Seat.{Seat}
use Rattle.lfm_mutex.specs.Belongs.{Beside, OfMutex}
use Rattle.lfm_mutex.specs.calls.Sight.{Sight, sight, Gains, Locks, TakesUp, Finds, Suits, MayLeave, Unlocks, IsLeft, LeavesOff, Deepens as MutexDeepens}
use Rattle.lfm_monitor.specs.declared.journaled.Journaled.{Journaled}
use Rattle.lfm_monitor.specs.Journaled.{JournalFits, JournalFollows, SameOpening}
use Rattle.lfm_monitor.specs.Passes.{Left, InHand, Sleeps, PassKept, Began, Enters, ComesIn, LeaveEnds, journal_of, known_to, found_or, journal_at}
use Rattle.lfm_monitor.specs.Writes.{MayWrite, Writes}
use Rattle.lfm_monitor.proofs.Growth.{found, own_kept, same_monitor, goes_first, goes_more}

pub some_of : {A : Type 0} (o : Option A) → is_some o ≡ true → (x : A) × (o ≡ Some x)
some_of (Some x) h = (x, refl)
some_of None h = cc

some_is : {A : Type 0} (o : Option A) (x : A) → o ≡ Some x → is_some o ≡ true
some_is o x e = ap is_some e

pub one_some : {A : Type 0} (o : Option A) (x y : A) → o ≡ Some x → o ≡ Some y → x ≡ y
one_some o x y e f = let q : Some x ≡ Some y = sym e ∙ f in cc

pub room_left : (share mine : ℕ) → (share ≤ mine → false ≡ true) → mine < share
room_left share mine h = let no : share ≤ mine → ⊥ = (λ q. let e = h q in cc) in omega arith

-- a seat that has not changed differs at most in its trail
pub same_trail : {T : Type 0} (s t : Sight T) → t ≡ s → t ≡ record s { trail = t.trail }
same_trail s t e = e ∙ ap (λ (u : Sight _). record s { trail = u.trail }) (sym e)

pub given_up : (u : Unlocked) → (u ≡ Unlocked.Free) ⊎ (((k : SeatNo) × (u ≡ Unlocked.Granted k)) ⊎ ((u ≡ Unlocked.Posted) ⊎ (u ≡ Unlocked.TakenOver))) → IsLeft u
given_up (Unlocked.Still d) h = ⊎_elim (λ q. absurd cc) (λ h. ⊎_elim (λ q. absurd (let e = q.1 in cc)) (λ h. ⊎_elim (λ q. absurd cc) (λ q. absurd cc) h) h) h
given_up Unlocked.Free h = tt
given_up (Unlocked.Granted k) h = tt
given_up Unlocked.Posted h = tt
given_up Unlocked.TakenOver h = tt

module _ {O A R : Type 0} {K : _} where
  -- A refusal of try_lock leaves the seat as it was, except for its trail. By cases on the refusal
  pub try_refused : (r : Refusal) (budget : ℕ) (s t : Sight (Journaled O A R K)) → Locks JournalFollows JournalFits budget s t (Err r) → t ≡ record s { trail = t.trail }
  try_refused Refusal.Busy budget s t h = h.3
  try_refused Refusal.Asleep budget s t h = same_trail s t h.1
  try_refused Refusal.NotOwner budget s t h = absurd h.0
  try_refused Refusal.Nested budget s t h = absurd h.0
  try_refused Refusal.DepthFull budget s t h = same_trail s t h.1
  try_refused Refusal.Spent budget s t h = same_trail s t h.1
  try_refused Refusal.NoSuchSeat budget s t h = absurd h.0
  try_refused Refusal.NotWaiting budget s t h = absurd h.0

  -- a pass that did not hold has come to hold
  pub record Comes (how : How) (s t : Sight (Journaled O A R K)) : Type 0 where
    pub start : s.depth ≡ 0
    pub number : t.number ≡ s.number
    pub deep : t.depth ≡ 1
    pub awake : t.asleep ≡ false
    pub sends : t.sends ≡ s.sends
    pub finds : Finds JournalFollows JournalFits how s t

  pub gained : (how : How) (budget : ℕ) (s t : Sight (Journaled O A R K)) → Gains JournalFollows JournalFits budget how s t → Comes how s t
  gained how budget s t g = record { start = g.1; number = g.3; deep = g.4; awake = g.6; sends = g.7; finds = g.8 }

  pub woken : (how : How) (s t : Sight (Journaled O A R K)) (seen mine : ℕ) → PassKept s seen mine → TakesUp JournalFollows JournalFits how s t → Comes how s t
  woken how s t seen mine kept w = record { start = (kept.sleeps w.0).out; number = w.3; deep = w.4; awake = w.2; sends = w.6; finds = w.7 }

  stamp_next : (how : How) (w : Journaled O A R K) (k : ℕ) → Suits JournalFollows JournalFits how w k → MayTake (queued_from 0 w.journal.items) how
  stamp_next FreeTake w k h = tt
  stamp_next (QueuedTake x) w k h = let e = h.1 in let f = h.3 in omega arith

  stamp_after : (how : How) (w : Journaled O A R K) (k : ℕ) → Suits JournalFollows JournalFits how w k → queued_at {A = A} (queued_from 0 w.journal.items) (Took how) ≡ k
  stamp_after FreeTake w k h = h
  stamp_after (QueuedTake x) w k h = let e = h.1 in let f = h.3 in let g = h.2 in omega arith

  -- what a pass that did not hold found when it came to hold
  pub record Found (s t : Sight (Journaled O A R K)) (mine : ℕ) (v : Journaled O A R K) : Type 0 where
    pub last : t.last ≡ Some v
    pub before : Journaled O A R K
    pub was : s.last ≡ Some before
    pub same : SameOpening before v
    pub within : (0 < s.number) × (s.number ≤ v.seats)
    pub mine_is : mine ≡ length (own s.number v.journal.items)
    pub between : List (Entry A)
    pub grown : v.journal.items ≡ before.journal.items ++ between
    pub none_own : own s.number between ≡ []

  pub finds : (how : How) (s t : Sight (Journaled O A R K)) (seen mine : ℕ) (v : Journaled O A R K) → PassKept s seen mine → Comes how s t → t.value ≡ Some v → Found s t mine v
  finds how s t seen mine v kept locks is = let f = locks.finds in let l = some_of s.last kept.there in let same = one_some t.value f.0 v f.1 is in let r = found t.seats s.number l.0 f.0 (f.3 l.0 l.1) in
      let at : SameOpening l.0 v = subst (SameOpening l.0) same r.0 in record {
        last = f.2 ∙ ap Some same;
        before = l.0;
        was = l.1;
        same = at;
        within = (let p = kept.seated l.0 l.1 in let e = at.1 in (p.0, omega arith));
        mine_is = (kept.left locks.start l.0 l.1).mine_is ∙ ap length (sym (own_kept s.number l.0.journal.items f.0.journal.items r.1) ∙ ap (λ (b : Journaled O A R K). own s.number b.journal.items) same);
        between = r.1.between;
        grown = ap (λ (b : Journaled O A R K). b.journal.items) (sym same) ∙ r.1.grown;
        none_own = r.1.none_own;
      }

  pub may_write : (how : How) (s t : Sight (Journaled O A R K)) (v : Journaled O A R K) → Comes how s t → t.value ≡ Some v → MayTake (queued_from 0 v.journal.items) how
  may_write how s t v locks is = let f = locks.finds in stamp_next how v t.queued (subst (λ (b : Journaled O A R K). Suits JournalFollows JournalFits how b t.queued) (one_some t.value f.0 v f.1 is) f.4)

  pub entered : (how : How) (s t : Sight (Journaled O A R K)) (seen mine : ℕ) (v w : Journaled O A R K) → Comes how s t → t.value ≡ Some v → Found s t mine v
      → w.journal.items ≡ v.journal.items ++ entry s.number (Took how) ∷ [] → SameOpening v w → PassKept (record t { value = Some w }) seen (mine + 1)
  entered how s t seen mine v w locks is f grown same = let named : t.number ≡ s.number = locks.number in let deep : t.depth ≡ 1 = locks.deep in let e = entry {A = A} s.number (Took how) in
      let suits : Suits JournalFollows JournalFits how v t.queued = subst (λ (b : Journaled O A R K). Suits JournalFollows JournalFits how b t.queued) (one_some t.value locks.finds.0 v locks.finds.1 is) locks.finds.4 in record {
        there = some_is t.last v f.last;
        seated = λ l at. let q : v ≡ l = one_some t.last v l f.last at in let n : v.seats ≡ l.seats = ap (λ (b : Journaled O A R K). b.seats) q in let p = f.within in (omega arith, omega arith);
        free = λ z. absurd (omega arith);
        held = λ h. refl;
        left = λ z l at. absurd (omega arith);
        holds = λ u at. let q : w ≡ u = one_some (Some w) w u refl at in subst (λ (b : Journaled O A R K). InHand (record t { value = Some w }) seen (mine + 1) b) q record {
          mine_is = (let a = own_more_length v.journal.items e s.number in let o = one_same s.number s.number refl in let m = f.mine_is in
              let g : length (own t.number w.journal.items) ≡ length (own s.number (v.journal.items ++ e ∷ [])) = (λ i. length (own (named i) (grown i))) in omega arith);
          taker = ap (taker_from None) grown ∙ (taker_more v.journal.items e ∙ ap Some (sym named));
          fit = ap (queued_from 0) grown ∙ (queued_more v.journal.items e ∙ stamp_after how v t.queued suits);
          follow = λ l lat. let r : v ≡ l = one_some t.last v l f.last lat in subst (λ (b : Journaled O A R K). JournalFollows t.number b w) r
              (same, goes_first t.number v.journal.items w.journal.items how (grown ∙ ap (λ n. v.journal.items ++ entry n (Took how) ∷ []) (sym named)));
        };
        sleeps = λ z. absurd (let q = locks.awake in cc);
      }

  pub known_left : (s : Sight (Journaled O A R K)) (l : Journaled O A R K) → s.value ≡ None → s.last ≡ Some l → known_to s ≡ Some l
  known_left s l none is = ap (λ (o : Option (Journaled O A R K)). found_or o s.last) none ∙ is

  pub enters : (how : How) (s t : Sight (Journaled O A R K)) (mine : ℕ) (v w : Journaled O A R K) → s.value ≡ None → Found s t mine v → w.journal.items ≡ v.journal.items ++ entry s.number (Took how) ∷ [] → Enters how s (record t { value = Some w })
  enters how s t mine v w none f grown = (
    f.between,
    f.none_own,
    grown ∙ ap (λ js. js ++ entry s.number (Took how) ∷ []) (f.grown ∙ ap (λ js. js ++ f.between) (sym (ap (λ o. journal_at o) (known_left s f.before none f.was)))),
  )

  pub still_of : (opening : O) (seats share : ℕ) (s t : Sight (Journaled O A R K)) (mine : ℕ) (v w : Journaled O A R K) → Began opening seats share s → Found s t mine v → Began opening seats share (record t { value = Some w })
  still_of opening seats share s t mine v w of f l at = let q : v ≡ l = one_some t.last v l f.last at in let o = of f.before f.was in
      subst (λ (b : Journaled O A R K). (b.opening.value ≡ opening) × (b.seats ≡ seats) × (b.share ≡ share)) q (f.same.0 ∙ o.0, f.same.1 ∙ o.1, f.same.2 ∙ o.2)

  pub may_all : (how : How) (s t : Sight (Journaled O A R K)) (seen mine : ℕ) (opening : O) (seats share n : ℕ) (v : Journaled O A R K) → n ≡ s.number → PassKept s seen mine → Began opening seats share s → mine < share
      → Comes how s t → t.value ≡ Some v → MayWrite n v × MayTake (queued_from 0 v.journal.items) how
  may_all how s t seen mine opening seats share n v named kept of room locks is = let f = finds how s t seen mine v kept locks is in let w = f.within in let o = of f.before f.was in let a = f.same in let m = f.mine_is in
      let e : length (own n v.journal.items) ≡ length (own s.number v.journal.items) = ap (λ k. length (own k v.journal.items)) named in
      let b = a.2 in let d = o.2 in ((omega arith, omega arith, omega arith), may_write how s t v locks is)

  -- a pass after it has come to hold and has written its take
  pub record Came (how : How) (s u : Sight (Journaled O A R K)) (seen mine : ℕ) (opening : O) (seats share : ℕ) : Type 0 where
    pub kept : PassKept u seen (mine + 1)
    pub still : Began opening seats share u
    pub comes : ComesIn how s u mine (mine + 1)

  pub came : (how : How) (s t u : Sight (Journaled O A R K)) (seen mine : ℕ) (opening : O) (seats share n : ℕ) (v w : Journaled O A R K) → n ≡ s.number → PassKept s seen mine → Began opening seats share s
      → Comes how s t → t.value ≡ Some v → u ≡ record t { value = Some w } → w.journal.items ≡ v.journal.items ++ entry n (Took how) ∷ [] → SameOpening v w → Came how s u seen mine opening seats share
  came how s t u seen mine opening seats share n v w named kept of locks is wrote grown same = let f = finds how s t seen mine v kept locks is in
      let g : w.journal.items ≡ v.journal.items ++ entry s.number (Took how) ∷ [] = grown ∙ ap (λ k. v.journal.items ++ entry k (Took how) ∷ []) named in
      subst (λ (u : Sight (Journaled O A R K)). Came how s u seen mine opening seats share) (sym wrote) record {
        kept = entered how s t seen mine v w locks is f g same;
        still = still_of opening seats share s t mine v w of f;
        comes = (locks.start, locks.deep, locks.number, locks.awake, locks.sends, refl, enters how s t mine v w (kept.free locks.start) f g);
      }

  -- the same, from the entry that was written into the journal of the seat
  pub arrived : (how : How) (s : Sight (Journaled O A R K)) (t u : Seat (Journaled O A R K)) (seen mine : ℕ) (opening : O) (seats share : ℕ) → PassKept s seen mine → Began opening seats share s
      → Comes how s (sight t) → Writes (Took how) t u → Came how s (sight u) seen mine opening seats share
  arrived how s t u seen mine opening seats share kept of comes w =
      came how s (sight t) (sight u) seen mine opening seats share (sight t).number w.0 w.1 comes.number kept of comes w.2 w.3 w.4 w.5

  pub of_next : (m : Mutex (Journaled O A R K)) (s t : Seat (Journaled O A R K)) → OfMutex s m → Beside s t → OfMutex t m
  of_next m s t o b = (b.0 ∙ o.0, b.1 ∙ o.1)

  pub again : (d : ℕ) (s t : Sight (Journaled O A R K)) (seen mine : ℕ) → PassKept s seen mine → MutexDeepens s t d → PassKept t seen mine
  again d s t seen mine kept h = subst (λ (u : Sight (Journaled O A R K)). PassKept u seen mine) (sym h.4) record {
    there = kept.there;
    seated = kept.seated;
    free = λ z. absurd (let a = h.1 in let b = h.3 in omega arith);
    held = λ d. kept.held h.1;
    left = λ z. absurd (let a = h.1 in let b = h.3 in omega arith);
    holds = λ v is. let k = kept.holds v is in record { mine_is = k.mine_is; taker = k.taker; fit = k.fit; follow = k.follow };
    sleeps = λ z. absurd (let q = h.0 in cc);
  }

  pub may_leave : (s : Sight (Journaled O A R K)) (seen mine : ℕ) → PassKept s seen mine → MayLeave JournalFollows JournalFits s
  may_leave s seen mine kept x is = let h = kept.holds x is in (h.fit, h.follow)

  -- an unlock that gave up the monitor
  pub gave_up : (u : Unlocked) (s t : Sight (Journaled O A R K)) → IsLeft u → Unlocks s t (Ok u) → LeavesOff s t × (t.takes ≡ s.takes) × (t.asleep ≡ false)
  gave_up (Unlocked.Still d) s t left h = absurd left
  gave_up Unlocked.Free s t left h = h
  gave_up (Unlocked.Granted k) s t left h = h
  gave_up Unlocked.Posted s t left h = h
  gave_up Unlocked.TakenOver s t left h = h

  pub left_it : (s t : Sight (Journaled O A R K)) (seen mine n : ℕ) → PassKept s seen mine → LeavesOff s t → (t.asleep ≡ true → Sleeps t mine) → ((v : Journaled O A R K) → s.value ≡ Some v → n ≡ length v.journal.items) → PassKept t n mine
  left_it s t seen mine n kept u sleeps long = let v = some_of s.value (kept.held (let d = u.1 in omega arith)) in let h = kept.holds v.0 v.1 in let last = u.5 v.0 v.1 in let named : t.number ≡ s.number = u.2 in
      let old = some_of s.last kept.there in record {
        there = some_is t.last v.0 last;
        seated = λ l at. (let p = kept.seated old.0 old.1 in let e = (h.follow old.0 old.1).0.1 in subst (λ (b : Journaled O A R K). (0 < t.number) × (t.number ≤ b.seats)) (one_some t.last v.0 l last at) (omega arith, omega arith));
        free = λ z. u.4;
        held = λ d. absurd (let z = u.3 in omega arith);
        left = λ z l at. subst (λ (b : Journaled O A R K). Left t.number n mine b) (one_some t.last v.0 l last at) record { mine_is = h.mine_is ∙ ap (λ k. length (own k v.0.journal.items)) (sym named); seen_is = long v.0 v.1 };
        holds = λ x at. absurd (let q : None ≡ Some x = sym u.4 ∙ at in cc);
        sleeps = sleeps;
      }

  pub left_of : (opening : O) (seats share : ℕ) (s t : Sight (Journaled O A R K)) (seen mine : ℕ) → PassKept s seen mine → Began opening seats share s → LeavesOff s t → Began opening seats share t
  left_of opening seats share s t seen mine kept of u l at = let v = some_of s.value (kept.held (let d = u.1 in omega arith)) in let h = kept.holds v.0 v.1 in let old = some_of s.last kept.there in let a = (h.follow old.0 old.1).0 in let o = of old.0 old.1 in
      subst (λ (b : Journaled O A R K). (b.opening.value ≡ opening) × (b.seats ≡ seats) × (b.share ≡ share)) (one_some t.last v.0 l (u.5 v.0 v.1) at) (a.0 ∙ o.0, a.1 ∙ o.1, a.2 ∙ o.2)

  pub left_journal : (s t : Sight (Journaled O A R K)) (seen mine : ℕ) → PassKept s seen mine → LeavesOff s t → journal_of t ≡ journal_of s
  left_journal s t seen mine kept u = let v = some_of s.value (kept.held (let d = u.1 in omega arith)) in
      ap journal_at (known_left t v.0 u.4 (u.5 v.0 v.1)) ∙ sym (ap (λ o. journal_at (found_or o s.last)) v.1)

  pub left_length : (s : Sight (Journaled O A R K)) (seen mine n : ℕ) → PassKept s seen mine → 0 < s.depth → ((v : Journaled O A R K) → s.value ≡ Some v → n ≡ length v.journal.items) → n ≡ length (journal_of s)
  left_length s seen mine n kept deep long = let v = some_of s.value (kept.held deep) in long v.0 v.1 ∙ sym (ap (λ o. length (journal_at (found_or o s.last))) v.1)

  -- the facts that leave states after the monitor was given up
  leave_facts : (s t : Sight (Journaled O A R K)) (seen mine n : ℕ) → PassKept s seen mine → LeavesOff s t → t.takes ≡ s.takes → t.asleep ≡ false → ((v : Journaled O A R K) → s.value ≡ Some v → n ≡ length v.journal.items)
      → (s.asleep ≡ false) × (s.depth ≡ 1) × (t.depth ≡ 0) × (t.number ≡ s.number) × (t.takes ≡ s.takes) × (t.asleep ≡ false) × (t.sends ≡ s.sends) × (journal_of t ≡ journal_of s) × (n ≡ length (journal_of s))
  leave_facts s t seen mine n kept u takes awake long = (u.0, u.1, u.3, u.2, takes, awake, u.6, left_journal s t seen mine kept u, left_length s seen mine n kept (let d = u.1 in omega arith) long)

  pub leave_ends : (u : Unlocked) (s t : Sight (Journaled O A R K)) (seen mine n : ℕ) → IsLeft u → PassKept s seen mine → Unlocks s t (Ok u) → ((v : Journaled O A R K) → s.value ≡ Some v → n ≡ length v.journal.items) → LeaveEnds s t seen n (Ok u)
  leave_ends (Unlocked.Still d) s t seen mine n left kept h long = absurd left
  leave_ends Unlocked.Free s t seen mine n left kept h long = leave_facts s t seen mine n kept h.0 h.1 h.2 long
  leave_ends (Unlocked.Granted k) s t seen mine n left kept h long = leave_facts s t seen mine n kept h.0 h.1 h.2 long
  leave_ends Unlocked.Posted s t seen mine n left kept h long = leave_facts s t seen mine n kept h.0 h.1 h.2 long
  leave_ends Unlocked.TakenOver s t seen mine n left kept h long = leave_facts s t seen mine n kept h.0 h.1 h.2 long

  pub still : (d : ℕ) (s t : Sight (Journaled O A R K)) (seen mine : ℕ) → PassKept s seen mine → s.asleep ≡ false → 0 < d → s.depth ≡ d + 1 → t ≡ record s { depth = d } → PassKept t seen mine
  still d s t seen mine kept awake deep was is = subst (λ (u : Sight (Journaled O A R K)). PassKept u seen mine) (sym is) record {
    there = kept.there;
    seated = kept.seated;
    free = λ z. absurd (omega arith);
    held = λ h. kept.held (omega arith);
    left = λ z. absurd (omega arith);
    holds = λ v at. let h = kept.holds v at in record { mine_is = h.mine_is; taker = h.taker; fit = h.fit; follow = h.follow };
    sleeps = λ z. absurd cc;
  }

  -- a pass that has fallen asleep
  pub asleep : (opening : O) (seats share : ℕ) (s t : Sight (Journaled O A R K)) (seen mine takes : ℕ) → PassKept s seen mine → Began opening seats share s → s.depth ≡ 0 → mine < share
      → t ≡ record s { takes = takes; asleep = true; in_call = false; trail = t.trail } → PassKept t seen mine
  asleep opening seats share s t seen mine takes kept of out room is = subst (λ (u : Sight (Journaled O A R K)). PassKept u seen mine) (sym is) record {
    there = kept.there;
    seated = kept.seated;
    free = kept.free;
    held = kept.held;
    left = kept.left;
    holds = λ v at. let h = kept.holds v at in record { mine_is = h.mine_is; taker = h.taker; fit = h.fit; follow = h.follow };
    sleeps = λ z. record { out = out; quiet = refl; room = λ l at. let e = (of l at).2 in omega arith };
  }

  -- a pass of which only the trail has changed
  pub looked : (s t : Sight (Journaled O A R K)) (seen mine : ℕ) → PassKept s seen mine → t ≡ record s { trail = t.trail } → PassKept t seen mine
  looked s t seen mine kept is = subst (λ (u : Sight (Journaled O A R K)). PassKept u seen mine) (sym is) record {
    there = kept.there;
    seated = kept.seated;
    free = kept.free;
    held = kept.held;
    left = kept.left;
    holds = λ v at. let h = kept.holds v at in record { mine_is = h.mine_is; taker = h.taker; fit = h.fit; follow = h.follow };
    sleeps = λ z. let q = kept.sleeps z in record { out = q.out; quiet = q.quiet; room = q.room };
  }

  pub may_did : (s : Sight (Journaled O A R K)) (seen mine : ℕ) (opening : O) (seats share n : ℕ) (v : Journaled O A R K) → n ≡ s.number → PassKept s seen mine → Began opening seats share s → mine < share → s.value ≡ Some v → MayWrite n v × (taker_from None v.journal.items ≡ Some n)
  may_did s seen mine opening seats share n v named kept of room is = let h = kept.holds v is in let old = some_of s.last kept.there in let f = (h.follow old.0 old.1).0 in let o = of old.0 old.1 in let p = kept.seated old.0 old.1 in let m = h.mine_is in
      let e : length (own n v.journal.items) ≡ length (own s.number v.journal.items) = ap (λ k. length (own k v.journal.items)) named in let a = f.1 in let b = f.2 in let d = o.2 in
      ((omega arith, omega arith, omega arith), h.taker ∙ ap Some (sym named))

  pub did : (op : A) (s u : Sight (Journaled O A R K)) (seen mine n : ℕ) (v w : Journaled O A R K) → n ≡ s.number → PassKept s seen mine → s.value ≡ Some v → u ≡ record s { value = Some w } → w.journal.items ≡ v.journal.items ++ entry n (Did op) ∷ [] → SameOpening v w → PassKept u seen (mine + 1)
  did op s u seen mine n v w named kept is wrote grown same = let h = kept.holds v is in let e = entry {A = A} s.number (Did op) in let g : w.journal.items ≡ v.journal.items ++ e ∷ [] = grown ∙ ap (λ k. v.journal.items ++ entry k (Did op) ∷ []) named in
      let deep : (s.depth ≡ 0) → ⊥ = (λ z. let q : None ≡ Some v = sym (kept.free z) ∙ is in cc) in
      subst (λ (u : Sight (Journaled O A R K)). PassKept u seen (mine + 1)) (sym wrote) record {
        there = kept.there;
        seated = kept.seated;
        free = λ z. absurd (deep z);
        held = λ h. refl;
        left = λ z. absurd (deep z);
        holds = λ x at. subst (λ (b : Journaled O A R K). InHand (record s { value = Some w }) seen (mine + 1) b) (one_some (Some w) w x refl at) record {
          mine_is = (let a = own_more_length v.journal.items e s.number in let o = one_same s.number s.number refl in let m = h.mine_is in let l : length (own s.number w.journal.items) ≡ length (own s.number (v.journal.items ++ e ∷ [])) = ap (λ js. length (own s.number js)) g in omega arith);
          taker = ap (taker_from None) g ∙ (taker_more v.journal.items e ∙ h.taker);
          fit = ap (queued_from 0) g ∙ (queued_more v.journal.items e ∙ h.fit);
          follow = λ l lat. let f = h.follow l lat in (same_monitor l v w f.0 same, goes_more s.number l.journal.items v.journal.items w.journal.items op f.1 g);
        };
        sleeps = λ z. absurd (deep (kept.sleeps z).out);
      }
