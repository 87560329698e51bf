-- How one event changes the stages of seats and the locks of condvars.
use Rattle.std.proofs.Common.{◌≡◌, ◌≢◌, ◌⊎◌, ℕ, Bool, true, false, ◌+◌, ◌&&◌, List, [], ◌∷◌, nat_eq, refl, sym, ap, ◌∙◌, inl, inr, if◌then◌else◌}
use Rattle.std.proofs.lemmas.Bool.{cases_Bool, cases_eq, eq-eqb, ne_eqb, and_parts, false≢true}
use Rattle.lfm_protocol.specs.declared.answers.Call.TheVariants.{StartWait, SendLock, Receive}
use Rattle.lfm_protocol.specs.declared.points.Point.{Point}
use Rattle.lfm_protocol.specs.declared.points.Point.TheVariants.{Rest, Asleep}
use Rattle.lfm_protocol.specs.Seats.{seat, is_seat}
use Rattle.lfm_protocol.specs.Step.{begin, step}
use Rattle.lfm_protocol.specs.Turns.{is_open}
use Rattle.lfm_laws.specs.laws.Schedules.{is_call}
use Rattle.lfm_laws.proofs.lawful.touched.OneSeat.{steps_touch_one_word_and_one_seat, begins_touch_one_seat}
use Rattle.lfm_laws.proofs.steady.frames.Sums.{changed_same, changed_other}
use Rattle.lfm_condvar_laws.specs.Condvars.{Waiter, Condvar, Stage, outside, locking_to_wait, starting, receiving, locking_to_wake, claiming, sending, unlocking, CondvarCore, point_of, is_listed, put_stage, put_mutex, put_condvar, put_holder}
use Rattle.lfm_condvar_laws.specs.Events.{CondvarEvent, begins, waits, wakes, makes, is_outside, is_own_call, is_rest, mutex_begins, enlisted, enlists, gives_back, receives_at, sends_next, removed, goes_on, happens}
use Rattle.lfm_condvar_laws.specs.Stages.{has_lock}
use Rattle.lfm_condvar_laws.proofs.Invariant.{CondvarGhost, StageFits}

-- one of these is true of the lock of condvar w: it stays with the seat that has it, it is released, or seat s has it and its
-- call continues with it
abbrev pub LockMoves : CondvarCore → CondvarCore → ℕ → ℕ → Type 0
LockMoves k l s w =
    (((l.condvar w).holder ≡ (k.condvar w).holder) × (has_lock w (k.stage s) ≡ true → has_lock w (l.stage s) ≡ true))
    ⊎ (((l.condvar w).holder ≡ 0) ⊎ (((l.condvar w).holder ≡ s) × (has_lock w (l.stage s) ≡ true)))

-- seat s has moved: the stages of the other seats are unchanged, and so are their seats in the user mutex
pub record SeatMoves (k l : CondvarCore) (s : ℕ) : Type 0 where
  pub others : (t : ℕ) → t ≢ s → l.stage t ≡ k.stage t
  pub seats : (t : ℕ) → t ≢ s → seat l.mutex.seats t ≡ seat k.mutex.seats t
  pub locks : (w : ℕ) → LockMoves k l s w

moves_none : (k : CondvarCore) (s : ℕ) → SeatMoves k k s
moves_none k s = record { others = λ t other. refl; seats = λ t other. refl; locks = λ w. inl (refl, λ has. has) }

moves_if : (b : Bool) (k l m : CondvarCore) (s : ℕ) → SeatMoves m k s → SeatMoves m l s → SeatMoves m (if b then k else l) s
moves_if true k l m s first second = first
moves_if false k l m s first second = second

-- the stage of the seat changes from d to e, and the condvars are unchanged
goes_to : (k m : CondvarCore) (s : ℕ) (d e : Stage) → k.stage s ≡ d → m.stage ≡ k.stage
    → ((t : ℕ) → t ≢ s → seat m.mutex.seats t ≡ seat k.mutex.seats t)
    → ((w : ℕ) → (m.condvar w).holder ≡ (k.condvar w).holder)
    → ((w : ℕ) → has_lock w d ≡ true → has_lock w e ≡ true)
    → SeatMoves k (put_stage m s e) s
goes_to k m s d e stage stages seats holders keeps =
    record {
      others = λ t other. changed_other m.stage s t e other ∙ ap (λ f. f t) stages;
      seats = seats;
      locks = λ w. inl (holders w, λ has. rw (changed_same m.stage s e) (keeps w (ap (has_lock w) (sym stage) ∙ has)));
    }

-- setting condvar v to x changes no holder if x has the same holder
same_holder : (k : CondvarCore) (v w : ℕ) (x : Condvar) → x.holder ≡ (k.condvar v).holder
    → ((put_condvar k v x).condvar w).holder ≡ (k.condvar w).holder
same_holder k v w x same =
    elim (cases_eq w v) [
      | inl here ↦ rw here (ap (λ y. y.holder) (changed_same k.condvar v x) ∙ same)
      | inr elsewhere ↦ ap (λ y. y.holder) (changed_other k.condvar v w x elsewhere)
    ]

-- the seat takes the lock of condvar v, which becomes x
takes : (k m : CondvarCore) (s v : ℕ) (d e : Stage) (x : Condvar) → k.stage s ≡ d → m.stage ≡ k.stage → m.condvar ≡ k.condvar
    → ((t : ℕ) → t ≢ s → seat m.mutex.seats t ≡ seat k.mutex.seats t)
    → x.holder ≡ s → has_lock v e ≡ true → ((w : ℕ) → has_lock w d ≡ false)
    → SeatMoves k (put_stage (put_condvar m v x) s e) s
takes k m s v d e x stage stages condvars seats holder has none =
    let own = changed_same m.stage s e in
    record {
      others = λ t other. changed_other m.stage s t e other ∙ ap (λ f. f t) stages;
      seats = seats;
      locks = λ w.
          elim (cases_eq w v) [
            | inl here ↦ inr (inr (rw (here, own, changed_same m.condvar v x) (holder, has)))
            | inr elsewhere ↦ inl (
              ap (λ y. y.holder) (changed_other m.condvar v w x elsewhere ∙ ap (λ f. f w) condvars),
              λ had. absurd (false≢true (sym (none w) ∙ ap (has_lock w) (sym stage) ∙ had)),
            )
          ];
    }

-- the seat, which had the lock of condvar v alone, releases it
gives : (k : CondvarCore) (s v : ℕ) (d e : Stage) → k.stage s ≡ d → ((w : ℕ) → w ≢ v → has_lock w d ≡ false)
    → SeatMoves k (put_stage (gives_back k v) s e) s
gives k s v d e stage none =
    let x : Condvar = record (k.condvar v) { holder = 0 } in
    record {
      others = λ t other. changed_other k.stage s t e other;
      seats = λ t other. refl;
      locks = λ w.
          elim (cases_eq w v) [
            | inl here ↦ inr (inl (rw here (ap (λ y. y.holder) (changed_same k.condvar v x))))
            | inr elsewhere ↦ inl (
              ap (λ y. y.holder) (changed_other k.condvar v w x elsewhere),
              λ had. absurd (false≢true (sym (none w elsewhere) ∙ ap (has_lock w) (sym stage) ∙ had)),
            )
          ];
    }

-- Steps

is_itself : (v : ℕ) → nat_eq v v ≡ true
is_itself v = eq-eqb v v refl

is_other : (v w : ℕ) → w ≢ v → nat_eq v w ≡ false
is_other v w other = ne_eqb v w (λ same. other (sym same))

next_takes : (k : CondvarCore) (s v : ℕ) (all : Bool) (waiters : List Waiter) → k.stage s ≡ locking_to_wake v all
    → SeatMoves k (sends_next (put_holder k v s) s v all waiters) s
next_takes k s v all [] stage =
    takes k k s v (locking_to_wake v all) (unlocking v) _ stage refl refl (λ t other. refl) refl (is_itself v) (λ w. refl)
next_takes k s v all (oldest ∷ rest) stage =
    takes k (mutex_begins k s (SendLock oldest.seat)) s v (locking_to_wake v all) (claiming v all oldest) _ stage refl refl
    (begins_touch_one_seat k.mutex s (SendLock oldest.seat)).other_seats refl (is_itself v)
    (λ w. refl)

next_keeps : (k m : CondvarCore) (s v : ℕ) (all : Bool) (sent : Waiter) (waiters : List Waiter) → k.stage s ≡ sending v all sent
    → m.stage ≡ k.stage → m.mutex ≡ k.mutex → ((w : ℕ) → (m.condvar w).holder ≡ (k.condvar w).holder)
    → SeatMoves k (sends_next m s v all waiters) s
next_keeps k m s v all sent [] stage stages mutex holders =
    goes_to k m s (sending v all sent) (unlocking v) stage stages (λ t other. ap (λ c. seat c.seats t) mutex) holders (λ w has. has)
next_keeps k m s v all sent (oldest ∷ rest) stage stages mutex holders =
    goes_to k (mutex_begins m s (SendLock oldest.seat)) s (sending v all sent) (claiming v all oldest) stage stages
    (λ t other. (begins_touch_one_seat m.mutex s (SendLock oldest.seat)).other_seats t other ∙ ap (λ c. seat c.seats t) mutex) holders (λ w has. has)

receives_moves : (k : CondvarCore) (s v ticket : ℕ) (p : Point) → k.stage s ≡ receiving v ticket → SeatMoves k (receives_at k s p) s
receives_moves k s v ticket Rest stage =
    goes_to k k s (receiving v ticket) outside stage refl (λ t other. refl) (λ w. refl) (λ w has. absurd (false≢true has))
receives_moves k s v ticket (Asleep sleeper) stage = record { others = λ t other. refl; seats = (begins_touch_one_seat k.mutex s Receive).other_seats; locks = λ w. inl (refl, λ has. has) }
receives_moves k s v ticket _ stage = record { others = λ t other. refl; seats = (steps_touch_one_word_and_one_seat k.mutex s).other_seats; locks = λ w. inl (refl, λ has. has) }

steps_moves : (k : CondvarCore) (s : ℕ) → SeatMoves k (put_mutex k (step k.mutex s).core) s
steps_moves k s = record { others = λ t other. refl; seats = (steps_touch_one_word_and_one_seat k.mutex s).other_seats; locks = λ w. inl (refl, λ has. has) }

enlists_moves : (k : CondvarCore) (s v : ℕ) → k.stage s ≡ locking_to_wait v → SeatMoves k (enlists (put_holder k v s) s v) s
enlists_moves k s v stage =
    moves_if (is_listed s ((put_holder k v s).condvar v).waiters) _ _ k s
    (takes k k s v (locking_to_wait v) (unlocking v) _ stage refl refl (λ t other. refl) refl (is_itself v) (λ w. refl))
    (record {
      others = λ t other. changed_other k.stage s t _ other;
      seats = (begins_touch_one_seat k.mutex s StartWait).other_seats;
      locks = λ w.
          elim (cases_eq w v) [
            | inl here ↦ inr (inr (rw (here, changed_same k.stage s (starting v (((put_holder k v s).condvar v).added + 1)), changed_same (put_holder k v s).condvar v (enlisted ((put_holder k v s).condvar v) s), changed_same k.condvar v (record (k.condvar v) { holder = s })) (refl, is_itself v)))
            | inr elsewhere ↦ inl (
              ap (λ y. y.holder) (changed_other (put_holder k v s).condvar v w _ elsewhere ∙ changed_other k.condvar v w _ elsewhere),
              λ had. absurd (false≢true (ap (has_lock w) (sym stage) ∙ had)),
            )
          ];
    })

pub step_moves : (k : CondvarCore) (s : ℕ) (d : Stage) → k.stage s ≡ d → SeatMoves k (goes_on k s d) s
step_moves k s outside stage = steps_moves k s
step_moves k s (locking_to_wait v) stage =
    moves_if (nat_eq (k.condvar v).holder 0) _ k k s (enlists_moves k s v stage) (moves_none k s)
step_moves k s (starting v ticket) stage =
    moves_if (is_call (point_of k s)) _ _ k s (steps_moves k s)
    (gives k s v (starting v ticket) (receiving v ticket) stage (λ w other. is_other v w other))
step_moves k s (receiving v ticket) stage = receives_moves k s v ticket (point_of k s) stage
step_moves k s (locking_to_wake v all) stage =
    moves_if (nat_eq (k.condvar v).holder 0) _ k k s (next_takes k s v all (k.condvar v).waiters stage) (moves_none k s)
step_moves k s (claiming v all oldest) stage =
    elim (cases_Bool (is_open (step k.mutex s).turn)) [
      | inl opens ↦ rw opens (goes_to k (put_mutex k (step k.mutex s).core) s (claiming v all oldest) (sending v all oldest) stage refl (steps_touch_one_word_and_one_seat k.mutex s).other_seats (λ w. refl) (λ w has. has))
      | inr refused ↦ rw refused (goes_to k (put_mutex k (step k.mutex s).core) s (claiming v all oldest) (unlocking v) stage refl (steps_touch_one_word_and_one_seat k.mutex s).other_seats (λ w. refl) (λ w has. has))
    ]
step_moves k s (sending v all oldest) stage =
    moves_if (is_call (point_of k s)) _ _ k s (steps_moves k s)
    (moves_if all _ _ k s
    (next_keeps k (put_condvar k v (removed (k.condvar v))) s v all oldest _ stage refl refl (λ w. same_holder k v w _ refl))
    (goes_to k (put_condvar k v (removed (k.condvar v))) s (sending v all oldest) (unlocking v) stage refl (λ t other. refl) (λ w. same_holder k v w _ refl) (λ w has. has)))
step_moves k s (unlocking v) stage = gives k s v (unlocking v) outside stage (λ w other. is_other v w other)

-- The stage of a call on a condvar is changed only by steps of its own seat

stage_if : (b : Bool) (k l : CondvarCore) (s : ℕ) (d : Stage) → (b ≡ true → k.stage s ≡ d) → l.stage s ≡ d
    → (if b then k else l).stage s ≡ d
stage_if true k l s d first second = first refl
stage_if false k l s d first second = second

-- a seat that begins something is in no call on a condvar
begins_elsewhere : (k : CondvarCore) (s t : ℕ) (b : Bool) (e : Stage) → is_outside (k.stage s) ≡ false
    → (is_outside (k.stage t) && b) ≡ true → (put_stage k t e).stage s ≡ k.stage s
begins_elsewhere k s t b e inside begun =
    elim (cases_eq s t) [
      | inl same ↦ absurd (false≢true (sym inside ∙ ap (λ u. is_outside (k.stage u)) same ∙ (and_parts _ _ begun).0))
      | inr other ↦ changed_other k.stage t s e other
    ]

pub stage_by : (k : CondvarCore) (e : CondvarEvent) (s : ℕ) → is_outside (k.stage s) ≡ false
    → ((happens k e).stage s ≡ k.stage s) ⊎ (e ≡ makes s)
stage_by k (begins t call) s inside =
    inl (stage_if (is_outside (k.stage t) && is_own_call call) _ k s (k.stage s) (λ begun. refl) refl)
stage_by k (waits t v) s inside =
    inl (stage_if (is_outside (k.stage t) && is_open (begin k.mutex t StartWait).turn) _ k s (k.stage s)
    (begins_elsewhere k s t _ (locking_to_wait v) inside) refl)
stage_by k (wakes t v all) s inside =
    inl (stage_if (is_outside (k.stage t) && (is_seat k.mutex.seats t && is_rest (point_of k t))) _ k s (k.stage s)
    (begins_elsewhere k s t _ (locking_to_wake v all) inside) refl)
stage_by k (makes t) s inside =
    elim (cases_eq s t) [
      | inl same ↦ inr (ap makes (sym same))
      | inr other ↦ inl ((step_moves k t (k.stage t) refl).others s other)
    ]

-- Events

begin_moves : (k : CondvarCore) (s : ℕ) (b : Bool) (e : Stage) → (b ≡ true → k.stage s ≡ outside) → SeatMoves k (if b then put_stage k s e else k) s
begin_moves k s true e out = goes_to k k s outside e (out refl) refl (λ t other. refl) (λ w. refl) (λ w has. absurd (false≢true has))
begin_moves k s false e out = moves_none k s

pub is_so : (d : Stage) → is_outside d ≡ true → d ≡ outside
is_so outside is = refl
is_so _ is = absurd (false≢true is)

-- the seat that makes the event
abbrev pub actor : CondvarEvent → ℕ
actor (begins s call) = s
actor (waits s v) = s
actor (wakes s v all) = s
actor (makes s) = s

pub event_moves : (k : CondvarCore) (e : CondvarEvent) → SeatMoves k (happens k e) (actor e)
event_moves k (begins s call) =
    moves_if (is_outside (k.stage s) && is_own_call call) _ k k s (record {
      others = λ t other. refl;
      seats = (begins_touch_one_seat k.mutex s call).other_seats;
      locks = λ w. inl (refl, λ has. has);
    }) (moves_none k s)
event_moves k (waits s v) =
    begin_moves k s (is_outside (k.stage s) && is_open (begin k.mutex s StartWait).turn) (locking_to_wait v)
    (λ begun. is_so (k.stage s) (and_parts _ _ begun).0)
event_moves k (wakes s v all) =
    begin_moves k s (is_outside (k.stage s) && (is_seat k.mutex.seats s && is_rest (point_of k s))) (locking_to_wake v all)
    (λ begun. is_so (k.stage s) (and_parts _ _ begun).0)
event_moves k (makes s) = step_moves k s (k.stage s) refl

-- a call that has the lock is by the seat that holds the lock
pub same_condvar : (v w : ℕ) → nat_eq w v ≡ true → w ≡ v
same_condvar v w is =
    elim (cases_eq w v) [
      | inl same ↦ same
      | inr other ↦ absurd (false≢true (sym (ne_eqb w v other) ∙ is))
    ]

pub held_by : (k : CondvarCore) (g : CondvarGhost) (s v : ℕ) (d : Stage) → StageFits k g s d → has_lock v d ≡ true → (k.condvar v).holder ≡ s
held_by k g s v outside own has = absurd (false≢true has)
held_by k g s v (locking_to_wait w) own has = absurd (false≢true has)
held_by k g s v (starting w ticket) own has = ap (λ u. (k.condvar u).holder) (sym (same_condvar v w has)) ∙ own.locks.holds
held_by k g s v (receiving w ticket) own has = absurd (false≢true has)
held_by k g s v (locking_to_wake w all) own has = absurd (false≢true has)
held_by k g s v (claiming w all oldest) own has = ap (λ u. (k.condvar u).holder) (sym (same_condvar v w has)) ∙ own.locks.holds
held_by k g s v (sending w all oldest) own has = ap (λ u. (k.condvar u).holder) (sym (same_condvar v w has)) ∙ own.locks.holds
held_by k g s v (unlocking w) own has = ap (λ u. (k.condvar u).holder) (sym (same_condvar v w has)) ∙ own.locks.holds
