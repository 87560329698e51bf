-- The wake-up of a call: what its steps have granted, step by step, and that no call grants twice.
use Rattle.std.proofs.Common.{◌≡◌, ℕ, ◌≤◌, Option, Some, None, List, [], ◌∷◌, ◌++◌, refl, sym, ap, subst, ◌∙◌, append_assoc, append-nil}
use Rattle.std.specs.Prelude.{◌<◌, false}
use Rattle.std.proofs.lemmas.Bool.{false≢true}
use Rattle.lfm_model.specs.declared.answers.Unlocked.{Unlocked}
use Rattle.lfm_words.specs.declared.pop_lists.Record.{Record}
use Rattle.lfm_protocol.specs.declared.answers.Answer.{Answer}
use Rattle.lfm_protocol.specs.declared.answers.Turn.{Turn}
use Rattle.lfm_protocol.specs.declared.answers.Turn.TheVariants.{Open, Ended}
use Rattle.lfm_protocol.specs.declared.points.Carrier.{Carrier}
use Rattle.lfm_protocol.specs.declared.points.Point.{Point}
use Rattle.lfm_protocol.specs.declared.points.Point.TheVariants.{GrantWakeStore, SendWakeStore, WaitWakeStore}
use Rattle.lfm_protocol.specs.declared.points.Releaser.TheVariants.{Unlocker, Waiter}
use Rattle.lfm_protocol.specs.declared.seats.SeatState.{SeatState}
use Rattle.lfm_protocol.specs.Points.{target}
use Rattle.lfm_laws.specs.table.Ready.{IsReady}
use Rattle.lfm_laws.specs.table.Words.{stepped_by}
use Rattle.lfm_table.specs.declared.rule.Moving.{Moving}
use Rattle.lfm_table.specs.declared.seat_view.Seen.{Seen}
use Rattle.lfm_table.specs.declared.seat_view.View.{View}
use Rattle.lfm_table.specs.Grants.{granted_at}
use Rattle.lfm_table.specs.Rule.{seen}
use Rattle.lfm_table.specs.Steps.{Event}
use Rattle.lfm_table.proofs.tables.StepFacts.{made_of}
use Rattle.lfm_mutex.specs.calls.Runs.{errand}
use Rattle.lfm_mutex.specs.calls.WakeUps.{as_list, first_of, grants_of, Wakes, may_grant}

none_some : (t : ℕ) → ◌≡◌ {A = Option ℕ} None (Some t) → ⊥
none_some t e = cc

ended_open : (answer : Answer) → Ended answer ≡ Open → ⊥
ended_open answer e = cc

pub grants_join : (xs ys : List Seen) → grants_of (xs ++ ys) ≡ grants_of xs ++ grants_of ys
grants_join [] ys = refl
grants_join (x ∷ xs) ys = ap (λ (l : List ℕ). as_list (granted_at x.point) ++ l) (grants_join xs ys) ∙ sym (append_assoc (as_list (granted_at x.point)) (grants_of xs) (grants_of ys))

-- By cases on the point: a granted seat is the one whose word the step accesses.
target_of : (q : Point) (s t : ℕ) → granted_at q ≡ Some t → target q s ≡ t
target_of (GrantWakeStore carrier oldest) s t is = cc
target_of (SendWakeStore u) s t is = cc
target_of _ s t is = absurd (none_some t is)

-- so the granted seat is one of the mutex's seats
pub within_of : (q : Point) (s t seats : ℕ) → granted_at q ≡ Some t → target q s ≤ seats → t ≤ seats
within_of q s t seats is most = subst (λ (n : ℕ). n ≤ seats) (target_of q s t is) most

-- One step

module _ {T : Type 0} (follows : ℕ → T → T → Type 0) (suits : T → ℕ → Type 0) (p q : SeatState) (v w : View T) (a b : Option (Moving T)) (turn : Turn) (e : Event follows suits p a v turn q b w) where
  step_grants : grants_of w.trail ≡ grants_of v.trail ++ as_list (granted_at p.point)
  step_grants =
      ap grants_of e.did.trail ∙ (grants_join v.trail (seen p.point e.found ∷ []) ∙ ap (λ (l : List ℕ). grants_of v.trail ++ l) (append-nil (as_list (granted_at p.point))))

  pub grants_none : granted_at p.point ≡ None → grants_of w.trail ≡ grants_of v.trail
  grants_none none = step_grants ∙ (ap (λ (o : Option ℕ). grants_of v.trail ++ as_list o) none ∙ append-nil (grants_of v.trail))

  pub wakes_one : (seats s : ℕ) (wake_up : Option ℕ) → wake_up ≡ granted_at p.point → IsReady seats s p → Wakes seats wake_up v.trail w.trail
  wakes_one seats s wake_up is ready = record {
    granted = step_grants ∙ ap (λ (o : Option ℕ). grants_of v.trail ++ as_list o) (sym is);
    above = λ t some. subst (λ (n : ℕ). 0 < n) (target_of p.point s t (sym is ∙ some)) ready.above;
    inside = λ t some. within_of p.point s t seats (sym is ∙ some) ready.within;
  }

-- Steps in a row

pub wakes_none : (seats : ℕ) (t u : List Seen) → grants_of u ≡ grants_of t → Wakes seats None t u
wakes_none seats t u same = record {
  granted = same ∙ sym (append-nil (grants_of t));
  above = λ n some. absurd (none_some n some);
  inside = λ n some. absurd (none_some n some);
}

-- steps that grant nothing, followed by others
pub wakes_after : (seats : ℕ) (wake_up : Option ℕ) (t u v : List Seen) → grants_of u ≡ grants_of t → Wakes seats wake_up u v → Wakes seats wake_up t v
wakes_after seats wake_up t u v same wakes = record { granted = wakes.granted ∙ ap (λ (l : List ℕ). l ++ as_list wake_up) same; above = wakes.above; inside = wakes.inside }

pub wakes_join : (seats : ℕ) (first then : Option ℕ) (t u v : List Seen) → ((n : ℕ) → first ≡ Some n → then ≡ None) → Wakes seats first t u → Wakes seats then u v → Wakes seats (first_of first then) t v
wakes_join seats None then t u v one h k = wakes_after seats then t u v (h.granted ∙ append-nil (grants_of t)) k
wakes_join seats (Some n) then t u v one h k = record {
  granted = k.granted ∙ (ap (λ (o : Option ℕ). grants_of u ++ as_list o) (one n refl) ∙ (append-nil (grants_of u) ∙ h.granted));
  above = h.above;
  inside = h.inside;
}

-- No call grants twice: only a start_wait has a step after its grant, and that is its last

waits_at : (d t ps : ℕ) (q : Point) (s n : ℕ) (o : Option Record) (u : ℕ) → granted_at q ≡ Some u → (stepped_by (made_of d t ps q) s n o).turn ≡ Open
    → (r : Unlocked) × ((stepped_by (made_of d t ps q) s n o).seat.point ≡ WaitWakeStore r)
waits_at d t ps (GrantWakeStore Carrier.Locker r) s n o u is more = absurd (ended_open _ more)
waits_at d t ps (GrantWakeStore (Carrier.Releaser Unlocker) r) s n o u is more = absurd (ended_open _ more)
waits_at d t ps (GrantWakeStore (Carrier.Releaser Waiter) r) s n o u is more = (Unlocked.Granted r.seat, refl)
waits_at d t ps (GrantWakeStore (Carrier.Reclaimer Unlocker) r) s n o u is more = absurd (ended_open _ more)
waits_at d t ps (GrantWakeStore (Carrier.Reclaimer Waiter) r) s n o u is more = (Unlocked.Granted r.seat, refl)
waits_at d t ps (GrantWakeStore Carrier.Sender r) s n o u is more = absurd (ended_open _ more)
waits_at d t ps (SendWakeStore k) s n o u is more = absurd (ended_open _ more)
waits_at d t ps _ s n o u is more = absurd (none_some u is)

waits_after : (x : SeatState) (s n : ℕ) (o : Option Record) (u : ℕ) → granted_at x.point ≡ Some u → (stepped_by x s n o).turn ≡ Open → (r : Unlocked) × ((stepped_by x s n o).seat.point ≡ WaitWakeStore r)
waits_after x s n o u is more = waits_at x.depth x.takes x.posts x.point s n o u is more

ends_at : (d t ps : ℕ) (q : Point) (r : Unlocked) (s n : ℕ) (o : Option Record) → q ≡ WaitWakeStore r → (stepped_by (made_of d t ps q) s n o).turn ≡ Open → ⊥
ends_at d t ps q r s n o at more = ended_open (Answer.Waiting r) (ap (λ (z : Point). (stepped_by (made_of d t ps z) s n o).turn) (sym at) ∙ more)

ends_there : (x : SeatState) (r : Unlocked) (s n : ℕ) (o : Option Record) → x.point ≡ WaitWakeStore r → (stepped_by x s n o).turn ≡ Open → ⊥
ends_there x r s n o at more = ends_at x.depth x.takes x.posts x.point r s n o at more

-- after a grant an open call is at the last step of a start_wait
pub once_more : (x : SeatState) (s n : ℕ) (o : Option Record) (first then : Option ℕ) → ((t : ℕ) → first ≡ Some t → (r : Unlocked) × (x.point ≡ WaitWakeStore r)) → then ≡ granted_at x.point → (stepped_by x s n o).turn ≡ Open
    → (t : ℕ) → first_of first then ≡ Some t → (r : Unlocked) × ((stepped_by x s n o).seat.point ≡ WaitWakeStore r)
once_more x s n o None then waits is more t some = waits_after x s n o t (sym is ∙ some) more
once_more x s n o (Some u) then waits is more t some = let w = waits u refl in absurd (ends_there x w.0 s n o w.1 more)

-- Which calls grant

pub none_idle : (q : Point) → may_grant (errand q) ≡ false → granted_at q ≡ None
none_idle (GrantWakeStore Carrier.Locker r) idle = absurd (false≢true (sym idle))
none_idle (GrantWakeStore (Carrier.Releaser releaser) r) idle = absurd (false≢true (sym idle))
none_idle (GrantWakeStore (Carrier.Reclaimer releaser) r) idle = absurd (false≢true (sym idle))
none_idle (GrantWakeStore Carrier.Sender r) idle = absurd (false≢true (sym idle))
none_idle (SendWakeStore t) idle = absurd (false≢true (sym idle))
none_idle _ idle = refl
