-- The records that the wakes of a run push, event by event: they increase by ticket, and each is for a claim.
use Rattle.std.proofs.Common.{◌≡◌, ◌≢◌, ℕ, Bool, true, false, ◌+◌, ◌&&◌, List, [], ◌∷◌, ◌++◌, nat_eq, refl, sym, ap, ◌∙◌, subst, inl, inr, arith, append_assoc, if◌then◌else◌}
use Rattle.std.proofs.lemmas.Bool.{cases_Bool, eq-eqb, ne_eqb, and_parts, false≢true}
use Rattle.std.specs.Prelude.{All, Contains, map}
use Rattle.lfm_protocol.specs.declared.answers.Call.TheVariants.{StartWait}
use Rattle.lfm_protocol.specs.declared.points.Point.{Point}
use Rattle.lfm_protocol.specs.declared.points.Point.TheVariants.{Rest, Asleep}
use Rattle.lfm_protocol.specs.Seats.{seat, is_seat}
use Rattle.lfm_protocol.specs.Step.{begin}
use Rattle.lfm_protocol.specs.Turns.{is_open}
use Rattle.lfm_laws.specs.laws.Events.{pushed_by}
use Rattle.lfm_laws.specs.laws.Schedules.{is_call}
use Rattle.lfm_laws.proofs.lawful.bounds.Leaving.{own_made}
use Rattle.lfm_laws.proofs.steady.Start.{start_steady, few_seats}
use Rattle.lfm_laws.proofs.steady.frames.Sums.{changed_same}
use Rattle.lfm_condvar_laws.specs.Claims.{claimed_at, claimed_in, claim_record, claims_on}
use Rattle.lfm_condvar_laws.specs.Condvars.{Waiter, Stage, outside, locking_to_wait, starting, receiving, locking_to_wake, claiming, sending, unlocking, CondvarCore, point_of, is_listed, put_stage, put_condvar, put_holder, condvar_start}
use Rattle.lfm_condvar_laws.specs.Events.{CondvarEvent, begins, waits, wakes, makes, is_outside, is_own_call, is_rest, mutex_begins, mutex_steps, receives_at, sends_next, removed, goes_on, happens, run_of}
use Rattle.lfm_condvar_laws.specs.Laws.{pushes_of, PushesAreInOrder}
use Rattle.lfm_condvar_laws.specs.Pushes.{pushed_at, pushed_for, pushed_in, push_record}
use Rattle.lfm_condvar_laws.specs.Stages.{has_lock}
use Rattle.lfm_condvar_laws.proofs.Invariant.{CondvarGhost, ClaimingFits, SendingFits, StageFits, CoreFits, claims_told}
use Rattle.lfm_condvar_laws.proofs.LockMoves.{SeatMoves, actor, event_moves, step_moves, held_by, is_so}
use Rattle.lfm_condvar_laws.proofs.Outcomes.{append_none}
use Rattle.lfm_condvar_laws.proofs.Pushed.{Back, PushFits, SendElsewhere, all_back, claimed_fits, pushed_fits, quiet_fits}
use Rattle.lfm_condvar_laws.proofs.Runs.{claims_on-append, event_outcome, start_fits, start_ghost}
use Rattle.lfm_condvar_laws.proofs.events.ClaimEvent.{target_of}
use Rattle.lfm_condvar_laws.proofs.mutex.MutexMoves.{step_is_made}
use Rattle.lfm_condvar_laws.proofs.mutex.OwnSeat.{claim_at, claim_turn, sent_rests}
use Rattle.lfm_condvar_laws.proofs.points.PushPoints.{pushes_one, still_pushes, to_push}

-- Seats that do not send

abbrev is_sending : Stage → Bool
is_sending (sending v all oldest) = true
is_sending _ = false

not_back : (k l : CondvarCore) (s : ℕ) → is_sending (l.stage s) ≡ false → Back k l s
not_back k l s none v all oldest stage = absurd (false≢true (sym none ∙ ap is_sending stage))

same_back : (k l : CondvarCore) (s : ℕ) → l.stage s ≡ k.stage s → seat l.mutex.seats s ≡ seat k.mutex.seats s → Back k l s
same_back k l s stays at v all oldest stage = (sym stays ∙ stage, λ t some. ap (λ x. to_push x.point) (sym at) ∙ some)

back_if : (b : Bool) (k m : CondvarCore) (s : ℕ) → (b ≡ true → Back k m s) → Back k (if b then m else k) s
back_if true k m s first = first refl
back_if false k m s first = same_back k k s refl refl

put_none : (k m : CondvarCore) (s : ℕ) (e : Stage) → is_sending e ≡ false → is_sending ((put_stage m s e).stage s) ≡ false
put_none k m s e none = ap is_sending (changed_same m.stage s e) ∙ none

none_if : (b : Bool) (k l : CondvarCore) (s : ℕ) → is_sending (k.stage s) ≡ false → is_sending (l.stage s) ≡ false
    → is_sending ((if b then k else l).stage s) ≡ false
none_if true k l s first second = first
none_if false k l s first second = second

next_none : (k : CondvarCore) (s v : ℕ) (all : Bool) (waiters : List Waiter) → is_sending ((sends_next k s v all waiters).stage s) ≡ false
next_none k s v all [] = ap is_sending (changed_same k.stage s (unlocking v))
next_none k s v all (oldest ∷ rest) = ap is_sending (changed_same k.stage s (claiming v all oldest))

receives_none : (k : CondvarCore) (s v ticket : ℕ) (p : Point) → k.stage s ≡ receiving v ticket → is_sending ((receives_at k s p).stage s) ≡ false
receives_none k s v ticket Rest stage = ap is_sending (changed_same k.stage s outside)
receives_none k s v ticket (Asleep sleeper) stage = ap is_sending stage
receives_none k s v ticket _ stage = ap is_sending stage

-- Events that claim no waiter and push no record

quiet_event : (k : CondvarCore) (g h : CondvarGhost) (e : CondvarEvent) (pushes : ℕ → List Waiter) → PushFits k g pushes
    → ((v : ℕ) → claims_told h v ≡ claims_told g v ++ []) → Back k (happens k e) (actor e)
    → PushFits (happens k e) h (λ v. pushes v ++ [])
quiet_event k g h e pushes fits history own =
    quiet_fits k (happens k e) g h pushes (λ v. pushes v ++ []) fits (λ v. history v ∙ sym (append_none (claims_told g v)))
    (λ v. sym (append_none (pushes v))) (all_back k (happens k e) (actor e) (event_moves k e) own)

quiet_step : (k : CondvarCore) (g h : CondvarGhost) (s : ℕ) (d : Stage) (pushes : ℕ → List Waiter) → PushFits k g pushes → k.stage s ≡ d
    → ((v : ℕ) → claims_told h v ≡ claims_told g v ++ []) → is_sending ((goes_on k s d).stage s) ≡ false
    → PushFits (goes_on k s d) h (λ v. pushes v ++ [])
quiet_step k g h s d pushes fits stage history none =
    quiet_fits k (goes_on k s d) g h pushes (λ v. pushes v ++ []) fits (λ v. history v ∙ sym (append_none (claims_told g v)))
    (λ v. sym (append_none (pushes v))) (all_back k (goes_on k s d) s (step_moves k s d stage) (not_back k (goes_on k s d) s none))

-- Steps of wakes

-- while the call of seat s has the lock of condvar v, no other call sends for v
elsewhere_of : (k : CondvarCore) (g : CondvarGhost) (s v : ℕ) (d : Stage) → CoreFits k g → k.stage s ≡ d → has_lock v d ≡ true
    → SendElsewhere k s v
elsewhere_of k g s v d fits stage has t w all oldest other sends same =
    let mine = held_by k g s v (k.stage s) (fits.stages s) (ap (has_lock v) stage ∙ has) in
    let its = held_by k g t w (k.stage t) (fits.stages t) (ap (has_lock w) sends ∙ eq-eqb w w refl) in
    other (sym its ∙ ap (λ u. (k.condvar u).holder) same ∙ mine)

on_here : (v seat ticket : ℕ) → claims_on v (record { condvar = v; seat = seat; ticket = ticket } ∷ []) ≡ record { seat = seat; ticket = ticket } ∷ []
on_here v seat ticket = rw (eq-eqb v v refl) refl

on_elsewhere : (v w seat ticket : ℕ) → w ≢ v → claims_on w (record { condvar = v; seat = seat; ticket = ticket } ∷ []) ≡ []
on_elsewhere v w seat ticket other = rw (ne_eqb v w (λ e. other (sym e))) refl

at_claim : (k : CondvarCore) (g h : CondvarGhost) (s v : ℕ) (all : Bool) (oldest : Waiter) (pushes : ℕ → List Waiter) → CoreFits k g
    → k.stage s ≡ claiming v all oldest → ClaimingFits k g s v oldest → PushFits k g pushes
    → ((u : ℕ) → claims_told h u ≡ claims_told g u ++ claims_on u (claimed_at k s (claiming v all oldest)))
    → PushFits (goes_on k s (claiming v all oldest)) h (λ u. pushes u ++ [])
at_claim k g h s v all oldest pushes fits stage own before history =
    let target = target_of k g s v all oldest fits stage own in
    let opens = claim_turn k.mutex s oldest.seat own.locks.is own.at target.word in
    let claimed : claimed_at k s (claiming v all oldest) ≡ record { condvar = v; seat = oldest.seat; ticket = oldest.ticket } ∷ [] =
    rw (opens, own.at) refl in
    let l = goes_on k s (claiming v all oldest) in
    let now : l.stage s ≡ sending v all oldest =
    changed_same k.stage s _ ∙ ap (λ (b : Bool). if b then sending v all oldest else unlocking v) opens in
    let at = ap (λ m. (seat m.core.seats s).point) (step_is_made k.mutex s own.locks.is) ∙ claim_at k.mutex s oldest.seat own.locks.is own.at target.word in
    let unclaimed = own.unclaimed in
    let ticket = own.ticket in
    claimed_fits k l g h pushes (λ u. pushes u ++ []) s v all oldest before (step_moves k s (claiming v all oldest) stage)
    (elsewhere_of k g s v (claiming v all oldest) fits stage (eq-eqb v v refl))
    (history v ∙ ap (λ those. claims_told g v ++ those) (ap (claims_on v) claimed ∙ on_here v oldest.seat oldest.ticket))
    (λ u other. history u ∙ ap (λ those. claims_told g u ++ those) (ap (claims_on u) claimed ∙ on_elsewhere v u oldest.seat oldest.ticket other)
    ∙ sym (append_none (claims_told g u)))
    (λ u. sym (append_none (pushes u))) now (ap to_push at) (omega (arith, unclaimed, ticket))

-- a step of a send that continues
at_send : (k : CondvarCore) (g h : CondvarGhost) (s v : ℕ) (all : Bool) (oldest : Waiter) (pushes : ℕ → List Waiter) → CoreFits k g
    → k.stage s ≡ sending v all oldest → SendingFits k g s v → PushFits k g pushes
    → ((u : ℕ) → claims_told h u ≡ claims_told g u ++ []) → SeatMoves k (mutex_steps k s) s
    → PushFits (mutex_steps k s) h (λ u. pushes u ++ claims_on u (map (pushed_for v oldest.ticket) (pushed_by k.mutex s)))
at_send k g h s v all oldest pushes fits stage own before history moves =
    let l = mutex_steps k s in
    let c = k.mutex in
    let at = ap (λ m. to_push (seat m.core.seats s).point) (step_is_made c s own.locks.is) ∙ ap (λ x. to_push x.point) (own_made c s own.locks.is) in
    let claims : (u : ℕ) → claims_told h u ≡ claims_told g u = λ u. history u ∙ sym (append_none (claims_told g u)) in
    elim (pushes_one c s (point_of k s) own.at) [
      | inl none ↦
          quiet_fits k l g h pushes _ before claims
          (λ u. ap (λ those. pushes u ++ claims_on u (map (pushed_for v oldest.ticket) those)) none ∙ sym (append_none (pushes u)))
          (all_back k l s moves (λ w each sent does. (does, λ t some. (still_pushes c s own.at t (sym at ∙ some)).0)))
      | inr one ↦
          let x = one.0 in
          pushed_fits k l g h pushes _ s v x.seat all oldest before moves
          (elsewhere_of k g s v (sending v all oldest) fits stage (eq-eqb v v refl)) claims
          (ap (λ those. pushes v ++ claims_on v (map (pushed_for v oldest.ticket) those)) one.1
          ∙ ap (λ those. pushes v ++ those) (on_here v x.seat oldest.ticket))
          (λ u other. ap (λ those. pushes u ++ claims_on u (map (pushed_for v oldest.ticket) those)) one.1
          ∙ ap (λ those. pushes u ++ those) (on_elsewhere v u x.seat oldest.ticket other) ∙ sym (append_none (pushes u)))
          stage refl one.2
          (λ t some.
          let none = (still_pushes c s own.at t (sym at ∙ some)).1 in
          let clash : [] ≡ x ∷ [] = sym none ∙ one.1 in cc)
    ]

at_sent : (k : CondvarCore) (g h : CondvarGhost) (s v : ℕ) (all : Bool) (oldest : Waiter) (pushes : ℕ → List Waiter) → CoreFits k g
    → k.stage s ≡ sending v all oldest → SendingFits k g s v → PushFits k g pushes
    → ((u : ℕ) → claims_told h u ≡ claims_told g u ++ [])
    → PushFits (goes_on k s (sending v all oldest)) h (λ u. pushes u ++ claims_on u (pushed_at k s (sending v all oldest)))
at_sent k g h s v all oldest pushes fits stage own before history =
    let moves = step_moves k s (sending v all oldest) stage in
    elim (cases_Bool (is_call (point_of k s))) [
      | inl inside ↦
          let steps : SeatMoves k (mutex_steps k s) s = rw inside at moves in
          rw inside (at_send k g h s v all oldest pushes fits stage own before history steps)
      | inr over ↦
          let rests = sent_rests (point_of k s) own.at over in
          let none : pushed_by k.mutex s ≡ [] = rw rests refl in
          let l = goes_on k s (sending v all oldest) in
          let quiet : is_sending (l.stage s) ≡ false =
          rw over (none_if all _ _ s (next_none (put_condvar k v (removed (k.condvar v))) s v all _)
          (ap is_sending (changed_same k.stage s (unlocking v)))) in
          quiet_fits k l g h pushes _ before (λ u. history u ∙ sym (append_none (claims_told g u)))
          (λ u. ap (λ those. pushes u ++ claims_on u (map (pushed_for v oldest.ticket) those)) none ∙ sym (append_none (pushes u)))
          (all_back k l s moves (not_back k l s quiet))
    ]

step_pushes : (k : CondvarCore) (g h : CondvarGhost) (s : ℕ) (d : Stage) (pushes : ℕ → List Waiter) → CoreFits k g → k.stage s ≡ d
    → StageFits k g s d → PushFits k g pushes → ((v : ℕ) → claims_told h v ≡ claims_told g v ++ claims_on v (claimed_at k s d))
    → PushFits (goes_on k s d) h (λ v. pushes v ++ claims_on v (pushed_at k s d))
step_pushes k g h s outside pushes fits stage own before history =
    quiet_step k g h s outside pushes before stage history (ap is_sending stage)
step_pushes k g h s (locking_to_wait v) pushes fits stage own before history =
    quiet_step k g h s (locking_to_wait v) pushes before stage history (none_if (nat_eq (k.condvar v).holder 0) _ k s
    (none_if (is_listed s ((put_holder k v s).condvar v).waiters) _ _ s (ap is_sending (changed_same k.stage s (unlocking v)))
    (ap is_sending (changed_same k.stage s (starting v (((put_holder k v s).condvar v).added + 1)))))
    (ap is_sending stage))
step_pushes k g h s (starting v ticket) pushes fits stage own before history =
    quiet_step k g h s (starting v ticket) pushes before stage history (none_if (is_call (point_of k s)) _ _ s (ap is_sending stage)
    (ap is_sending (changed_same k.stage s (receiving v ticket))))
step_pushes k g h s (receiving v ticket) pushes fits stage own before history =
    quiet_step k g h s (receiving v ticket) pushes before stage history (receives_none k s v ticket (point_of k s) stage)
step_pushes k g h s (locking_to_wake v all) pushes fits stage own before history =
    quiet_step k g h s (locking_to_wake v all) pushes before stage history (none_if (nat_eq (k.condvar v).holder 0) _ k s
    (next_none (put_holder k v s) s v all (k.condvar v).waiters) (ap is_sending stage))
step_pushes k g h s (claiming v all oldest) pushes fits stage own before history =
    at_claim k g h s v all oldest pushes fits stage own before history
step_pushes k g h s (sending v all oldest) pushes fits stage own before history =
    at_sent k g h s v all oldest pushes fits stage own before history
step_pushes k g h s (unlocking v) pushes fits stage own before history =
    quiet_step k g h s (unlocking v) pushes before stage history (ap is_sending (changed_same k.stage s outside))

-- Events

event_pushes : (k : CondvarCore) (g h : CondvarGhost) (e : CondvarEvent) (pushes : ℕ → List Waiter) → CoreFits k g → PushFits k g pushes
    → ((v : ℕ) → claims_told h v ≡ claims_told g v ++ claims_on v (claimed_in k e))
    → PushFits (happens k e) h (λ v. pushes v ++ claims_on v (pushed_in k e))
event_pushes k g h (begins s call) pushes fits before history =
    quiet_event k g h (begins s call) pushes before history (back_if (is_outside (k.stage s) && is_own_call call) k _ s
    (λ begun. not_back k (mutex_begins k s call) s (ap is_sending (is_so (k.stage s) (and_parts _ _ begun).0))))
event_pushes k g h (waits s v) pushes fits before history =
    quiet_event k g h (waits s v) pushes before history (back_if (is_outside (k.stage s) && is_open (begin k.mutex s StartWait).turn) k _ s
    (λ begun. not_back k (put_stage k s (locking_to_wait v)) s (ap is_sending (changed_same k.stage s (locking_to_wait v)))))
event_pushes k g h (wakes s v all) pushes fits before history =
    quiet_event k g h (wakes s v all) pushes before history
    (back_if (is_outside (k.stage s) && (is_seat k.mutex.seats s && is_rest (point_of k s))) k _ s
    (λ begun. not_back k (put_stage k s (locking_to_wake v all)) s (ap is_sending (changed_same k.stage s (locking_to_wake v all)))))
event_pushes k g h (makes s) pushes fits before history =
    step_pushes k g h s (k.stage s) pushes fits refl (fits.stages s) before history

-- Runs

record PushedRun (k : CondvarCore) (g : CondvarGhost) (events : List CondvarEvent) (pushes : ℕ → List Waiter) : Type 0 where
  to : CondvarGhost
  history : (v : ℕ) → claims_told to v ≡ claims_told g v ++ claims_on v (claim_record k events)
  fits : PushFits (run_of k events) to (λ v. pushes v ++ claims_on v (push_record k events))

push_run : (k : CondvarCore) (g : CondvarGhost) (events : List CondvarEvent) (pushes : ℕ → List Waiter) → CoreFits k g → PushFits k g pushes
    → PushedRun k g events pushes
push_run k g [] pushes fits before =
    record {
      to = g;
      history = λ v. append_none (claims_told g v);
      fits = quiet_fits k k g g pushes (λ v. pushes v ++ []) before (λ v. refl) (λ v. sym (append_none (pushes v)))
          (λ t. same_back k k t refl refl);
    }
push_run k g (e ∷ later) pushes fits before =
    let one = event_outcome k g e fits in
    let l = happens k e in
    let rest = push_run l one.to later (λ v. pushes v ++ claims_on v (pushed_in k e)) one.fits
    (event_pushes k g one.to e pushes fits before one.history) in
    record {
      to = rest.to;
      history = λ v.
          let claims = claim_record l later in
          rest.history v ∙ ap (λ those. those ++ claims_on v claims) (one.history v)
          ∙ append_assoc (claims_told g v) (claims_on v (claimed_in k e)) (claims_on v claims)
          ∙ ap (λ those. claims_told g v ++ those) (sym (claims_on-append v (claimed_in k e) claims));
      fits = quiet_fits (run_of l later) (run_of l later) rest.to rest.to _ (λ v. pushes v ++ claims_on v (pushed_in k e ++ push_record l later))
          rest.fits (λ v. refl)
          (λ v. ap (λ those. pushes v ++ those) (claims_on-append v (pushed_in k e) (push_record l later))
          ∙ sym (append_assoc (pushes v) (claims_on v (pushed_in k e)) (claims_on v (push_record l later))))
          (λ t. same_back (run_of l later) (run_of l later) t refl refl);
    }

nothing_pushed : (k : CondvarCore) (g : CondvarGhost) → ((s : ℕ) → k.stage s ≡ outside) → PushFits k g (λ v. [])
nothing_pushed k g none =
    record {
      ordered = λ v i j d before within. absurd (omega (arith, before, within));
      within = λ v i d within. absurd (omega (arith, within));
      told = λ v i d within. absurd (omega (arith, within));
      sends = λ s v all oldest stage. let clash : outside ≡ sending v all oldest = sym (none s) ∙ stage in cc;
    }

pub pushes_are_in_order : PushesAreInOrder
pushes_are_in_order r v =
    let l = r.limits in
    let begun = start_steady l (few_seats l.seats l.budget r.allowed) in
    let g = start_ghost begun.ghost_state in
    let run = push_run (condvar_start l) g r.events (λ u. []) (start_fits l begun.ghost_state begun.fits)
    (nothing_pushed (condvar_start l) g (λ s. refl)) in
    (run.fits.ordered v, subst (λ claims. All (Contains claims) (pushes_of r v)) (run.history v) (run.fits.told v))
