-- What the calls of one command add to the numbers of a pass.
use Rattle.std.proofs.Common.{◌≡◌, ◌<◌, ◌≤◌, ◌+◌, ℕ, zero, suc, List, [], ◌∷◌, ◌++◌, take, get_or, length, Bool, if◌then◌else◌, refl, sym, ◌∙◌, ap, append_assoc, append-nil, eq-eqb, arith, take_all, Ok, Err, Result}
use Rattle.std.proofs.Common.{true≢false, IsErr}
use Rattle.std.specs.Bool.{⊤}
use Rattle.lfm_model.specs.declared.answers.How.{How}
use Rattle.lfm_model.specs.declared.answers.Locked.{Locked}
use Rattle.lfm_model.specs.declared.answers.Locked.TheVariants.{Held, Again}
use Rattle.lfm_model.specs.declared.answers.Unlocked.{Unlocked}
use Rattle.lfm_model.specs.declared.answers.Unlocked.TheVariants.{Still, Free, Granted, Posted, TakenOver}
use Rattle.lfm_model.specs.declared.journals.Entry.{Entry}
use Rattle.lfm_model.specs.declared.journals.What.{What}
use Rattle.lfm_model.specs.declared.journals.What.TheVariants.{Took, Did}
use Rattle.lfm_model.specs.declared.objects.Total.{Total}
use Rattle.lfm_model.specs.declared.objects.TotalOp.{TotalOp}
use Rattle.lfm_model.specs.declared.refusals.Refusal.{Refusal}
use Rattle.lfm_model.specs.declared.refusals.Refusal.TheVariants.{Asleep, NotOwner, Nested, DepthFull, Spent, NoSuchSeat, NotWaiting, Busy}
use Rattle.lfm_model.specs.Journals.{own, entry}
use Rattle.lfm_model.proofs.JournalLists.{own-append}
use Rattle.lfm_mutex.specs.Close.{Idle}
use Rattle.lfm_mutex.specs.calls.Sight.{Sight}
use Rattle.lfm_monitor.specs.declared.journaled.Journaled.{Journaled}
use Rattle.lfm_monitor.specs.Conditions.{OnlySends, WaitReturns}
use Rattle.lfm_monitor.specs.Passes.{journal_of, journal_at, found_or, Enters, ComesIn, EnterEnds, Applies, ApplyEnds, LeaveEnds}
use Rattle.lfm_script.specs.declared.script.Command.{Command}
use Rattle.lfm_script.specs.Adds.{added, adds, all_adds, command_adds}
use Rattle.lfm_program.specs.Performs.{CommandEnds, HoldsOnce, own_adds}

adds-append : (xs ys : List (Entry TotalOp)) → adds (xs ++ ys) ≡ adds xs ++ adds ys
adds-append [] ys = refl
adds-append (e ∷ xs) ys = ap (λ r. added e.what ++ r) (adds-append xs ys) ∙ sym (append_assoc (added e.what) (adds xs) (adds ys))

own_entry : (s : ℕ) (w : What TotalOp) → own s (entry s w ∷ []) ≡ entry s w ∷ []
own_entry s w = ap (λ (b : Bool). (if b then entry s w ∷ [] else [])) (eq-eqb s s refl)

-- one more entry of a seat adds its number to the seat's numbers
adds_more : (s : ℕ) (js : List (Entry TotalOp)) (w : What TotalOp) → adds (own s (js ++ entry s w ∷ [])) ≡ adds (own s js) ++ added w
adds_more s js w = ap adds (own-append s js (entry s w ∷ []) ∙ ap (λ x. own s js ++ x) (own_entry s w)) ∙ (adds-append (own s js) (entry s w ∷ []) ∙ ap (λ x. adds (own s js) ++ x) (append-nil (added w)))

module _ {R : Type 0} {K : _} where
  -- the pass has changed from s to t: its number is the same, and it has added these numbers
  pub record Goes (s t : Sight (Journaled Total TotalOp R K)) (ks : List ℕ) : Type 0 where
    pub number : t.number ≡ s.number
    pub adds_are : own_adds t ≡ own_adds s ++ ks

  pub stays : (s t : Sight (Journaled Total TotalOp R K)) → t ≡ s → Goes s t []
  stays s t e = record { number = ap (λ u. u.number) e; adds_are = ap own_adds e ∙ sym (append-nil (own_adds s)) }

  pub followed : (s t u : Sight (Journaled Total TotalOp R K)) (ks ls : List ℕ) → Goes s t ks → Goes t u ls → Goes s u (ks ++ ls)
  followed s t u ks ls a b = record {
    number = b.number ∙ a.number;
    adds_are = b.adds_are ∙ (ap (λ x. x ++ ls) a.adds_are ∙ append_assoc (own_adds s) ks ls);
  }

  -- a refused command whose pass has added nothing
  pub failed : (m : Command) (s t : Sight (Journaled Total TotalOp R K)) (r : Result ⊤ Refusal) → IsErr r → Goes s t [] → CommandEnds m s t r
  failed m s t (Ok u) e g = absurd (true≢false (sym e))
  failed m s t (Err r) e g = g.adds_are ∙ append-nil (own_adds s)

  -- a take adds nothing
  pub comes : (how : How) (s t : Sight (Journaled Total TotalOp R K)) → Enters how s t → t.number ≡ s.number → Goes s t []
  comes how s t e named = record {
    number = named;
    adds_are = (λ i. adds (own (named i) (e.2 i))) ∙ (adds_more s.number (journal_of s ++ e.0) (Took how) ∙ (append-nil (adds (own s.number (journal_of s ++ e.0)))
        ∙ (ap adds (own-append s.number (journal_of s) e.0 ∙ (ap (λ x. own s.number (journal_of s) ++ x) e.1 ∙ append-nil (own s.number (journal_of s)))) ∙ sym (append-nil (own_adds s)))));
  }

  pub entered : (share : ℕ) (s t : Sight (Journaled Total TotalOp R K)) (m m' : ℕ) (x : Locked) → Idle s → EnterEnds share s t m m' (Ok x) → Goes s t [] × HoldsOnce t
  entered share s t m m' (Held how) idle e = let c : ComesIn how s t m m' = e.2 in let n : Enters how s t = c.6 in (comes how s t n c.2, record { depth = c.1; awake = c.3 })
  entered share s t m m' (Again d) idle e = absurd (let a = idle.0 in let b = e.1 in omega arith)

  pub not_entered : (share : ℕ) (s t : Sight (Journaled Total TotalOp R K)) (m m' : ℕ) (r : Refusal) → EnterEnds share s t m m' (Err r) → t ≡ s
  not_entered share s t m m' r e = e.1

  pub left : (s t : Sight (Journaled Total TotalOp R K)) (n n' : ℕ) (r : Result Unlocked Refusal) → HoldsOnce s → LeaveEnds s t n n' r → Goes s t [] × Idle t
  left s t n n' (Ok Free) h e = (record { number = e.3; adds_are = (λ i. adds (own (e.3 i) (e.7 i))) ∙ sym (append-nil (own_adds s)) }, (e.2, e.5))
  left s t n n' (Ok (Granted k)) h e = (record { number = e.3; adds_are = (λ i. adds (own (e.3 i) (e.7 i))) ∙ sym (append-nil (own_adds s)) }, (e.2, e.5))
  left s t n n' (Ok Posted) h e = (record { number = e.3; adds_are = (λ i. adds (own (e.3 i) (e.7 i))) ∙ sym (append-nil (own_adds s)) }, (e.2, e.5))
  left s t n n' (Ok TakenOver) h e = (record { number = e.3; adds_are = (λ i. adds (own (e.3 i) (e.7 i))) ∙ sym (append-nil (own_adds s)) }, (e.2, e.5))
  left s t n n' (Ok (Still k)) h e = absurd (let a = h.depth in let b = e.1 in let c = e.2 in omega arith)
  left s t n n' (Err Asleep) h e = absurd (true≢false (sym e.0 ∙ h.awake))
  left s t n n' (Err NotOwner) h e = absurd (let a = h.depth in let b = e.1 in omega arith)
  left s t n n' (Err Nested) h e = absurd e
  left s t n n' (Err DepthFull) h e = absurd e
  left s t n n' (Err Spent) h e = absurd e
  left s t n n' (Err NoSuchSeat) h e = absurd e
  left s t n n' (Err NotWaiting) h e = absurd e
  left s t n n' (Err Busy) h e = absurd e

  pub waited : (s t : Sight (Journaled Total TotalOp R K)) (n n' m m' : ℕ) (r : How × ℕ) → WaitReturns s t n n' m m' (Ok r) → Goes s t [] × HoldsOnce t
  waited s t n n' m m' r e = let b : Enters r.0 s t = e.8 in (comes r.0 s t b e.2, record { depth = e.3; awake = e.4 })

  pub not_waited : (s t : Sight (Journaled Total TotalOp R K)) (n n' m m' : ℕ) (r : Refusal) → WaitReturns s t n n' m m' (Err r) → t ≡ s
  not_waited s t n n' m m' r e = e.0

  -- a wake adds nothing
  pub woke : (s t : Sight (Journaled Total TotalOp R K)) → OnlySends s t → Goes s t []
  woke s t e = record { number = ap (λ u. u.number) e; adds_are = ap own_adds e ∙ sym (append-nil (own_adds s)) }

  pub still_idle : (s t : Sight (Journaled Total TotalOp R K)) → OnlySends s t → Idle s → Idle t
  still_idle s t e idle = (ap (λ u. u.depth) e ∙ idle.0, ap (λ u. u.asleep) e ∙ idle.1)

  -- a command that adds nothing
  pub added_nothing : (m : Command) (s t : Sight (Journaled Total TotalOp R K)) (r : Result ⊤ Refusal) → command_adds m ≡ [] → Goes s t [] → CommandEnds m s t r
  added_nothing m s t (Ok u) none g = g.adds_are ∙ ap (λ ks. own_adds s ++ ks) (sym none)
  added_nothing m s t (Err r) none g = g.adds_are ∙ append-nil (own_adds s)

module _ {R : Type 0} {K : _} (after : Total → TotalOp → Total) (reply : Total → TotalOp → R) where
  pub applied : (share : ℕ) (op : TotalOp) (s t : Sight (Journaled Total TotalOp R K)) (m m' : ℕ) (r : R) → HoldsOnce s → ApplyEnds after reply share op s t m m' (Ok r) → Goes s t (added (Did op)) × HoldsOnce t
  applied share op s t m m' r h e = let a : Applies after reply op s t r = e.2 in (
    record {
      number = ap (λ u. u.number) a.3;
      adds_are = ap own_adds a.3 ∙ (ap (λ js. adds (own s.number js)) a.6 ∙ (adds_more s.number a.0.journal.items (Did op) ∙ ap (λ js. adds (own s.number js) ++ added (Did op)) (sym (ap (λ o. journal_at (found_or o s.last)) a.2))));
    },
    record { depth = ap (λ u. u.depth) a.3 ∙ h.depth; awake = ap (λ u. u.asleep) a.3 ∙ h.awake },
  )

  pub not_applied : (share : ℕ) (op : TotalOp) (s t : Sight (Journaled Total TotalOp R K)) (m m' : ℕ) (r : Refusal) → ApplyEnds after reply share op s t m m' (Err r) → t ≡ s
  not_applied share op s t m m' Asleep e = e.1
  not_applied share op s t m m' NotOwner e = e.2
  not_applied share op s t m m' Spent e = e.3
  not_applied share op s t m m' Nested e = absurd e
  not_applied share op s t m m' DepthFull e = absurd e
  not_applied share op s t m m' NoSuchSeat e = absurd e
  not_applied share op s t m m' NotWaiting e = absurd e
  not_applied share op s t m m' Busy e = absurd e

all_adds-take : (ms : List Command) (i : ℕ) (d : Command) → i < length ms → all_adds (take (suc i) ms) ≡ all_adds (take i ms) ++ command_adds (get_or ms i d)
all_adds-take [] i d h = absurd (omega arith)
all_adds-take (m ∷ ms) zero d h = append-nil (command_adds m)
all_adds-take (m ∷ ms) (suc i) d h = ap (λ ks. command_adds m ++ ks) (all_adds-take ms i d (omega arith)) ∙ sym (append_assoc (command_adds m) (all_adds (take i ms)) (command_adds (get_or ms i d)))

-- one more command was made
pub one_more : (ms : List Command) (i : ℕ) (d : Command) (old now new : List ℕ) → i < length ms → now ≡ old ++ all_adds (take i ms) → new ≡ now ++ command_adds (get_or ms i d)
    → new ≡ old ++ all_adds (take (i + 1) ms)
one_more ms i d old now new h before made =
    let next : suc i ≡ i + 1 = omega arith in
    made ∙ ap (λ ks. ks ++ command_adds (get_or ms i d)) before ∙ append_assoc old (all_adds (take i ms)) (command_adds (get_or ms i d))
    ∙ ap (λ ks. old ++ ks) (sym (all_adds-take ms i d h)) ∙ ap (λ n. old ++ all_adds (take n ms)) next

-- all commands were made
pub all_made : (ms : List Command) (i : ℕ) (old now : List ℕ) → length ms ≤ i → now ≡ old ++ all_adds (take i ms) → now ≡ old ++ all_adds ms
all_made ms i old now h made = made ∙ ap (λ ks. old ++ all_adds ks) (take_all i ms h)
