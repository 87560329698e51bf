-- Before the push: each round lowers what a call still needs, unless it pushes, and each push of another seat raises it by
-- at most four. At first it needs at most six rounds.
use Rattle.std.proofs.Common.{◌≡◌, ℕ, zero, suc, ◌+◌, ◌*◌, ◌<◌, ◌++◌, List, [], ◌∷◌, length, sym, ap, subst, inl, inr, arith}
use Rattle.std.specs.Prelude.{◌⊎◌}
use Rattle.std.proofs.lemmas.List.{length-append}
use Rattle.lfm_protocol.specs.Core.{Core}
use Rattle.lfm_protocol.specs.Seats.{seat}
use Rattle.lfm_laws.specs.laws.BeforePush.{PushesIn, CountedSeatsArePushedInRounds, CountedSeatsArePushedWithinBudgets}
use Rattle.lfm_laws.specs.laws.Errands.{asks_for}
use Rattle.lfm_laws.specs.laws.Rounds.{GoesOnIn, HasRounds}
use Rattle.lfm_laws.specs.laws.Schedules.{Event, happens, run_of, pushed_in, push_record}
use Rattle.lfm_laws.specs.steady.Steady.{Steady}
use Rattle.lfm_laws.proofs.lawful.bounds.LockFree.{steady_event}
use Rattle.lfm_laws.proofs.lawful.runs.Reached.{run_keeps, steady_reached}
use Rattle.lfm_laws.proofs.lawful.rounds.Asking.{left_to_push, left_to_push-le, left_to_push-some, asking_call, Asking, asking_event, goes_on_own}
use Rattle.lfm_laws.proofs.lawful.rounds.PushBudgets.{pushed_less}

-- Events

asking_run : (c : Core) (events : List Event) (s : ℕ) → Steady c → 0 < asks_for (seat c.seats s) s
    → PushesIn c s events ⊎ Asking c (run_of c events) s 0 (length (push_record c events))
asking_run c [] s steady asks = inr (record { asks = asks; left = omega arith })
asking_run c (e ∷ later) s steady asks =
    elim (asking_event c e s steady asks) [
      | inl pushes ↦ inl (inl pushes)
      | inr one ↦ elim (asking_run (happens c e).core later s (steady_event c e steady) one.asks) [
        | inl pushes ↦ inl (inr pushes)
        | inr rest ↦
            let all = length-append (pushed_in c e) (push_record (happens c e).core later) in
            let l = one.left in
            let m = rest.left in
            inr (record { asks = rest.asks; left = omega (arith, all, l, m) })
      ]
    ]

-- the call goes on in these events
round_run : (c : Core) (events : List Event) (s : ℕ) → Steady c → 0 < asks_for (seat c.seats s) s → GoesOnIn c s events
    → PushesIn c s events ⊎ Asking c (run_of c events) s 1 (length (push_record c events))
round_run c [] s steady asks going = absurd going
round_run c (e ∷ later) s steady asks going =
    let all = length-append (pushed_in c e) (push_record (happens c e).core later) in
    elim (asking_event c e s steady asks) [
      | inl pushes ↦ inl (inl pushes)
      | inr one ↦
          let l = one.left in
          elim going [
            | inl now ↦
                let own = goes_on_own c s e (asking_call c s asks) now in
                elim (asking_run (happens c e).core later s (steady_event c e steady) one.asks) [
                  | inl pushes ↦ inl (inr pushes)
                  | inr rest ↦ let m = rest.left in inr (record { asks = rest.asks; left = omega (arith, all, own, l, m) })
                ]
            | inr soon ↦ elim (round_run (happens c e).core later s (steady_event c e steady) one.asks soon) [
              | inl pushes ↦ inl (inr pushes)
              | inr rest ↦ let m = rest.left in inr (record { asks = rest.asks; left = omega (arith, all, l, m) })
            ]
          ]
    ]

-- Rounds

pushes_first : (c : Core) (s : ℕ) (first later : List Event) → PushesIn c s first → PushesIn c s (first ++ later)
pushes_first c s [] later pushes = absurd pushes
pushes_first c s (e ∷ first) later (inl now) = inl now
pushes_first c s (e ∷ first) later (inr soon) = inr (pushes_first (happens c e).core s first later soon)

pushes_later : (c : Core) (s : ℕ) (first later : List Event) → PushesIn (run_of c first) s later → PushesIn c s (first ++ later)
pushes_later c s [] later pushes = pushes
pushes_later c s (e ∷ first) later pushes = inr (pushes_later (happens c e).core s first later pushes)

pub pushed_append : (c : Core) (first later : List Event)
    → length (push_record c (first ++ later)) ≡ length (push_record c first) + length (push_record (run_of c first) later)
pushed_append c [] later = omega arith
pushed_append c (e ∷ first) later =
    let rest = pushed_append (happens c e).core first later in
    let whole = length-append (pushed_in c e) (push_record (happens c e).core (first ++ later)) in
    let part = length-append (pushed_in c e) (push_record (happens c e).core first) in
    omega (arith, rest, whole, part)

-- while the call has not pushed there were fewer rounds than it needs
few_rounds : (r : ℕ) (c : Core) (events : List Event) (s : ℕ) → Steady c → 0 < asks_for (seat c.seats s) s → HasRounds r c events
    → PushesIn c s events ⊎ (r < left_to_push c s + 4 * length (push_record c events))
few_rounds zero c events s steady asks has = let some = left_to_push-some c s asks in inr (omega (arith, some))
few_rounds (suc r) c events s steady asks has =
    let before : List Event = has.0 in
    let round : List Event = has.1 in
    let later : List Event = has.2 in
    let b : Core = run_of c before in
    let a : Core = run_of b round in
    let split : PushesIn c s (before ++ (round ++ later)) → PushesIn c s events = λ pushes. subst (λ (es : List Event). PushesIn c s es) (sym has.3) pushes in
    elim (asking_run c before s steady asks) [
      | inl pushes ↦ inl (split (pushes_first c s before (round ++ later) pushes))
      | inr start ↦
          let steady_b = run_keeps c before steady in
          elim (round_run b round s steady_b start.asks (has.4 s (inl (asking_call b s start.asks)))) [
            | inl pushes ↦ inl (split (pushes_later c s before (round ++ later) (pushes_first b s round later pushes)))
            | inr one ↦ elim (few_rounds r a later s (run_keeps b round steady_b) one.asks has.5) [
              | inl pushes ↦ inl (split (pushes_later c s before (round ++ later) (pushes_later b s round later pushes)))
              | inr rest ↦
                  let whole = ap (λ es. length (push_record c es)) has.3 in
                  let first = pushed_append c before (round ++ later) in
                  let second = pushed_append b round later in
                  let l = start.left in
                  let m = one.left in
                  inr (omega (arith, whole, first, second, l, m, rest))
            ]
          ]
    ]

pub counted_seats_are_pushed_in_rounds : CountedSeatsArePushedInRounds
counted_seats_are_pushed_in_rounds c events s reached asks has =
    elim (few_rounds (4 * length (push_record c events) + 6) c events s (steady_reached c reached) asks has) [
      | inl pushes ↦ pushes
      | inr few ↦ let most = left_to_push-le c s in absurd (omega (arith, few, most))
    ]

pub counted_seats_are_pushed_within_budgets : CountedSeatsArePushedWithinBudgets
counted_seats_are_pushed_within_budgets c events s reached asks has =
    let steady = steady_reached c reached in
    elim (asking_run c events s steady asks) [
      | inl pushes ↦ pushes
      | inr still ↦ elim (few_rounds (4 * (length c.seats * c.budget) + 2) c events s steady asks has) [
        | inl pushes ↦ pushes
        | inr few ↦
            let most = left_to_push-le c s in
            let less = pushed_less c events s steady still.asks in
            absurd (omega (arith, few, most, less))
      ]
    ]
