-- The grant of an unlock is its last step, and its answer names the seat.
use Rattle.std.proofs.Common.{◌≡◌, ℕ, Option, Some, None, Ok, Err, nat_eq, refl, sym, ap, ◌∙◌, subst, List, [], ◌∷◌, ◌++◌, append-nil}
use Rattle.std.proofs.lemmas.List.{append_cancel_left}
use Rattle.lfm_model.specs.declared.answers.Unlocked.{Unlocked}
use Rattle.lfm_words.specs.declared.pop_lists.Record.{Record}
use Rattle.lfm_protocol.specs.declared.answers.Answer.{Answer}
use Rattle.lfm_protocol.specs.declared.answers.Call.{Call}
use Rattle.lfm_protocol.specs.declared.answers.Turn.{Turn}
use Rattle.lfm_protocol.specs.declared.answers.Turn.TheVariants.{Open, Ended, Refused}
use Rattle.lfm_protocol.specs.declared.answers.Why.TheVariants.{Idle}
use Rattle.lfm_protocol.specs.declared.limits.Limits.{Limits}
use Rattle.lfm_protocol.specs.declared.points.Carrier.{Carrier}
use Rattle.lfm_protocol.specs.declared.points.Entrant.{Entrant}
use Rattle.lfm_protocol.specs.declared.points.Point.{Point}
use Rattle.lfm_protocol.specs.declared.points.Point.TheVariants.{PushLoad, LinkStore, PushExchange, PushedHandoffLoad, PushedHandoffExchange, ReleaseOwnerStore, ReleaseCountSubtract, ReleaseHandoffStore, ReleasePushRecheck, ReleaseHandoffExchange, TakeClearHead, TakeLinkLoad, GrantWakeStore, EnterOwnerStore}
use Rattle.lfm_protocol.specs.declared.points.Pusher.{Pusher}
use Rattle.lfm_protocol.specs.declared.points.Releaser.TheVariants.{Unlocker}
use Rattle.lfm_protocol.specs.declared.seats.SeatState.{SeatState}
use Rattle.lfm_protocol.specs.After.{same_handoff, take}
use Rattle.lfm_protocol.specs.Begin.{Stepped, begin, goes_on}
use Rattle.lfm_protocol.specs.Points.{kind}
use Rattle.lfm_laws.specs.table.Words.{stepped_by, handoff_of, link_of}
use Rattle.lfm_table.specs.declared.seat_view.Seen.{Seen}
use Rattle.lfm_table.specs.Grants.{granted_at}
use Rattle.lfm_table.proofs.tables.StepFacts.{made_of}
use Rattle.lfm_mutex.specs.calls.Granted.{granted_of, GrantsAreTold, WakeUpsAreTold}
use Rattle.lfm_mutex.specs.calls.Runs.{releasing, errand, IsTurn, end_of, trail_of}
use Rattle.lfm_mutex.specs.calls.Trails.{CallEnds}
use Rattle.lfm_mutex.specs.calls.WakeUps.{as_list, grants_of}
use Rattle.lfm_mutex.proofs.runs.StepResults.{open_point, turns_step}
use Rattle.lfm_mutex.proofs.runs.CallStarts.{start_at}
use Rattle.lfm_mutex.proofs.runs.Tests.{if_both}
use Rattle.lfm_mutex.proofs.runs.ShortCalls.{idle_run, idle_step}
use Rattle.lfm_mutex.proofs.runs.WakeUps.{grants_join}

-- what a turn says of a grant
abbrev granted_in : Turn → Option ℕ
granted_in (Ended (Answer.Unlocked u)) = granted_of (Ok u)
granted_in _ = None

-- a step of an unlock that stores this grant leads to this turn and point: a grant ends the call with an answer that tells it
abbrev Tells : Option ℕ → Turn → Point → Type 0
Tells g Open q = g ≡ None
Tells g (Ended answer) q = (g ≡ granted_in (Ended answer)) × (kind q ≡ None)
Tells g (Refused why) q = ⊥

abbrev TellsNone : Stepped → Type 0
TellsNone st = Tells None st.turn st.seat.point

tells_at : (d t ps s n : ℕ) (o : Option Record) (q : Point) → errand q ≡ releasing Unlocker → let st = stepped_by (made_of d t ps q) s n o in Tells (granted_at q) st.turn st.seat.point
tells_at d t ps s n o (ReleaseOwnerStore r) is = refl
tells_at d t ps s n o (ReleaseCountSubtract Unlocker) is = if_both TellsNone (nat_eq n 1) _ (goes_on (made_of d t ps (ReleaseCountSubtract Unlocker)) (take (Carrier.Releaser Unlocker) s o)) (refl, refl) refl
tells_at d t ps s n o (ReleaseHandoffStore r) is = refl
tells_at d t ps s n o (ReleasePushRecheck Unlocker) is = if_both TellsNone (nat_eq (link_of n).next 0) _ (goes_on (made_of d t ps (ReleasePushRecheck Unlocker)) (ReleaseHandoffExchange Unlocker)) (refl, refl) refl
tells_at d t ps s n o (ReleaseHandoffExchange Unlocker) is =
    if_both TellsNone (same_handoff (handoff_of n) (record { seat = s; post = ps })) (goes_on (made_of d t ps (ReleaseHandoffExchange Unlocker)) (take (Carrier.Reclaimer Unlocker) s o)) _ refl (refl, refl)
tells_at d t ps s n o (TakeClearHead carrier) is = refl
tells_at d t ps s n o (TakeLinkLoad carrier next) is = refl
tells_at d t ps s n o (GrantWakeStore (Carrier.Releaser Unlocker) oldest) is = (refl, refl)
tells_at d t ps s n o (GrantWakeStore (Carrier.Reclaimer Unlocker) oldest) is = (refl, refl)
tells_at d t ps s n o (PushLoad Pusher.Locker) is = absurd (cc)
tells_at d t ps s n o (LinkStore Pusher.Locker old) is = absurd (cc)
tells_at d t ps s n o (PushExchange Pusher.Locker old) is = absurd (cc)
tells_at d t ps s n o (PushedHandoffLoad Pusher.Locker) is = absurd (cc)
tells_at d t ps s n o (PushedHandoffExchange Pusher.Locker old) is = absurd (cc)
tells_at d t ps s n o (EnterOwnerStore Entrant.Locker how) is = absurd (cc)
tells_at d t ps s n o _ is = absurd (cc)

step_tells : (x : SeatState) (s n : ℕ) (o : Option Record) → errand x.point ≡ releasing Unlocker → Tells (granted_at x.point) (stepped_by x s n o).turn (stepped_by x s n o).seat.point
step_tells x s n o is = tells_at x.depth x.takes x.posts s n o x.point is

step_stays : (x : SeatState) (s n : ℕ) (o : Option Record) → errand x.point ≡ releasing Unlocker → IsTurn (releasing Unlocker) (stepped_by x s n o).turn (stepped_by x s n o).seat.point
step_stays x s n o is = subst (λ e. IsTurn e (stepped_by x s n o).turn (stepped_by x s n o).seat.point) is (turns_step x s n o (open_point x.point (λ none. absurd (cc))))

-- By induction on the steps: the grants of an unlock that ends with an answer are those that the answer tells.
run_tells : (n : ℕ) (finds : List (ℕ × Option Record)) (g : Option ℕ) (q : SeatState) (turn : Turn) (u : Unlocked) → Tells g turn q.point → IsTurn (releasing Unlocker) turn q.point
    → (end_of n (record { seat = q; turn = turn }) finds).turn ≡ Ended (Answer.Unlocked u) → as_list g ++ grants_of (trail_of n q finds) ≡ as_list (granted_of (Ok u))
run_tells n [] g q Open u tells is e = absurd (cc)
run_tells n [] g q (Ended answer) u tells is e = append-nil (as_list g) ∙ ap as_list (tells.0 ∙ ap granted_in e)
run_tells n finds g q (Refused why) u tells is e = absurd tells
run_tells n (f ∷ finds) g q Open u tells is e =
    let st = stepped_by q n f.0 f.1 in
    ap (λ (o : Option ℕ). as_list o ++ grants_of (trail_of n q (f ∷ finds))) tells ∙ run_tells n finds (granted_at q.point) st.seat st.turn u (step_tells q n f.0 f.1 is) (step_stays q n f.0 f.1 is) e
run_tells n (f ∷ finds) g q (Ended answer) u tells is e =
    let idle : Refused Idle ≡ Ended (Answer.Unlocked u) = sym (ap (λ (z : Stepped). (end_of n z finds).turn) (idle_step q n f.0 f.1 tells.1) ∙ idle_run n q finds tells.1) ∙ e in absurd (cc)

-- an unlock either ends at its start, without a grant, or begins at the first point of a release
abbrev Starts : Turn → Point → Type 0
Starts Open q = errand q ≡ releasing Unlocker
Starts (Ended answer) q = granted_in (Ended answer) ≡ None
Starts (Refused why) q = Unit {0}

starts : (x : SeatState) (l : Limits) → let st = begin x l Call.Unlock in Starts st.turn st.seat.point
starts x l = start_at (λ (st : Stepped). Starts st.turn st.seat.point) x l Call.Unlock x.point (λ why. tt) (λ q is. ap errand is) (λ d is. refl)

ends_tell : (first : Turn) (n : ℕ) (q y : SeatState) (trail trail' : List Seen) (u : Unlocked) → Starts first q.point → CallEnds first n q trail (Ended (Answer.Unlocked u)) y trail' → grants_of trail' ≡ grants_of trail ++ as_list (granted_of (Ok u))
ends_tell Open n q y trail trail' u starts leads =
    ap grants_of leads.2 ∙ (grants_join trail (trail_of n q leads.0) ∙ ap (λ (l : List ℕ). grants_of trail ++ l) (run_tells n leads.0 None q Open u refl starts (ap (λ (z : Stepped). z.turn) leads.1)))
ends_tell (Ended answer) n q y trail trail' u starts leads =
    ap grants_of leads.2 ∙ (sym (append-nil (grants_of trail)) ∙ ap (λ (o : Option ℕ). grants_of trail ++ as_list o) (sym (ap granted_in leads.0 ∙ starts)))
ends_tell (Refused why) n q y trail trail' u starts leads = absurd (cc)

pub grants_are_told : (T : Type 0) → GrantsAreTold T
grants_are_told T l s t (Ok u) by = let x = by.1.0 in
    ends_tell (begin x l Call.Unlock).turn s.number (begin x l Call.Unlock).seat by.1.1 s.trail t.trail u (starts x l) by.1.4
grants_are_told T l s t (Err r) by = ap (λ z. grants_of z.trail) by.0.1 ∙ sym (append-nil (grants_of s.trail))

abbrev first : List ℕ → Option ℕ
first [] = None
first (t ∷ later) = Some t

first_as : (o : Option ℕ) → first (as_list o) ≡ o
first_as None = refl
first_as (Some t) = refl

pub wake_ups_are_told : (T : Type 0) → WakeUpsAreTold T
wake_ups_are_told T l s t r wake_up by wakes =
    sym (first_as wake_up) ∙ (ap first (append_cancel_left (grants_of s.trail) (as_list wake_up) (as_list (granted_of r)) (sym wakes.granted ∙ grants_are_told T l s t r by)) ∙ first_as (granted_of r))
