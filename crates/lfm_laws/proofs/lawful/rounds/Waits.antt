-- How many rounds are left until a queued record leaves: the weight of the seat that has to go on, the slack, and 7 for each
-- record before ours, since the weight is at most 7 after each of them has left. No event raises this number. If no seat
-- owns, it falls when the seat that has to go on does so.
use Rattle.std.proofs.Common.{◌≡◌, ℕ, ◌+◌, ◌-◌, ◌*◌, ◌≤◌, ◌<◌, length, refl, sym, ap, ◌∙◌, inl, inr, arith}
use Rattle.std.specs.Prelude.{◌⊎◌}
use Rattle.std.proofs.lemmas.Bool.{cases_Bool, false≢true}
use Rattle.lfm_model.specs.Abstract.{AbstractPlace, free, owner, passed, carried}
use Rattle.lfm_model.specs.Abstract as Abstract
use Rattle.lfm_protocol.specs.declared.answers.Call.{Call}
use Rattle.lfm_protocol.specs.Core.{Core}
use Rattle.lfm_protocol.specs.Seats.{is_seat, IsSeat}
use Rattle.lfm_protocol.specs.Step.{made, begin}
use Rattle.lfm_laws.specs.laws.Events.{popped_by}
use Rattle.lfm_laws.specs.laws.Schedules.{Event, begins, makes, happens, popped_in}
use Rattle.lfm_laws.specs.steady.Ghost.{Ghost}
use Rattle.lfm_laws.specs.steady.EventOutcome.{abstract_place}
use Rattle.lfm_laws.specs.steady.Steady.{Fits}
use Rattle.lfm_laws.specs.laws.Rounds.{GoesOnBy}
use Rattle.lfm_laws.proofs.lawful.bounds.HistoryCounts.{popped_by_history, pushed_by_history}
use Rattle.lfm_laws.proofs.lawful.bounds.LockFree.{size_event}
use Rattle.lfm_laws.proofs.lawful.bounds.Leaving.{begun_popped}
use Rattle.lfm_laws.proofs.lawful.runs.Reached.{absent_tested, begin_keeps, made_keeps}
use Rattle.lfm_laws.proofs.steady.frames.Seated.{seat_of_test}
use Rattle.lfm_laws.proofs.lawful.rounds.Weights.{Due, due_some}
use Rattle.lfm_laws.proofs.lawful.rounds.OtherSteps.{IsOwned}
use Rattle.lfm_laws.proofs.lawful.rounds.OwnerSteps.{Near, owner_case}
use Rattle.lfm_laws.proofs.lawful.rounds.Slack.{Slack, slack_made}
use Rattle.lfm_laws.proofs.lawful.rounds.Events.{Outcome, fell, walked, left, stays, made_outcome, begun_outcome}

-- An event, and the ghost after it

slack_kept : (c d : Core) (g : Ghost) (n k w : ℕ) → length d.popped ≡ length c.popped → Slack n c g k w → Slack n d g k w
slack_kept c d g n k w same (inl s) = inl (omega (arith, s.0, same), s.1)
slack_kept c d g n k w same (inr s) = inr s

-- an event by which this number of records leave keeps the slack of each queued record
abbrev KeepsSlack : Core → Core → Ghost → Ghost → ℕ → Type 0
KeepsSlack c d g h pops = (n k w : ℕ) → length c.seats ≡ n → g.popped + k < g.pushed → pops ≤ k → Slack n c g k w → Slack n d h (k - pops) w

record After (c d : Core) (g : Ghost) (u m pops : ℕ) (going : Type 0) : Type 0 where
  pub to : Ghost
  pub fits : Fits d to
  pub popped : to.popped ≡ g.popped + pops
  pub pushed : g.pushed ≤ to.pushed
  pub slack : KeepsSlack c d g to pops
  pub outcome : Outcome c d g to u m pops going

slack_begun : (c : Core) (g : Ghost) (t : ℕ) (call : Call) → KeepsSlack c (begin c t call).core g g 0
slack_begun c g t call n k w size inside few slack =
    let none : k - 0 ≡ k = omega arith in
    rw none (slack_kept c (begin c t call).core g n k w (ap length (begun_popped c t call)) slack)

slack_unseated : (c : Core) (g : Ghost) → KeepsSlack c c g g 0
slack_unseated c g n k w size inside few slack = let none : k - 0 ≡ k = omega arith in rw none slack

after_made : (c : Core) (g : Ghost) (t u m : ℕ) → (IsOwned (abstract_place g.place) → ⊥) → Fits c g → IsSeat c.seats t → Due c u m (abstract_place g.place)
    → g.popped + length (popped_by c t) < g.pushed → After c (made c t).core g u m (length (popped_by c t)) (GoesOnBy c u (makes t))
after_made c g t u m unowned fits is due some =
    let kept = made_keeps c g t is fits in
    let popped = popped_by_history g kept.to _ _ _ kept.history in
    let pushed = pushed_by_history g kept.to _ _ _ kept.history in
    record {
      to = kept.to;
      fits = kept.fits;
      popped = popped;
      pushed = pushed;
      slack = λ n k w size inside few slack. slack_made n c g kept.to t k w size is fits kept.fits popped pushed inside few slack;
      outcome = made_outcome c g kept.to t u m unowned fits (omega (arith, some)) is due (omega (arith, some, popped, pushed)) kept.fits kept.goes;
    }

after_event : (c : Core) (g : Ghost) (u m : ℕ) (e : Event) → (IsOwned (abstract_place g.place) → ⊥) → Fits c g → Due c u m (abstract_place g.place)
    → g.popped + length (popped_in c e) < g.pushed → After c (happens c e).core g u m (length (popped_in c e)) (GoesOnBy c u e)
after_event c g u m (begins t call) unowned fits due some =
    record {
      to = g;
      fits = begin_keeps c g t call fits;
      popped = omega arith;
      pushed = omega arith;
      slack = slack_begun c g t call;
      outcome = begun_outcome c g t u m call unowned fits due;
    }
after_event c g u m (makes t) unowned fits due some =
    elim (cases_Bool (is_seat c.seats t)) [
      | inl known ↦ rw known (after_made c g t u m unowned fits (seat_of_test c.seats t known) due some)
      | inr none ↦
          let absent = absent_tested c.seats t none in
          rw (none, absent) (record {
            to = g;
            fits = fits;
            popped = omega arith;
            pushed = omega arith;
            slack = slack_unseated c g;
            outcome = stays (record { place = refl; due = due }) (λ going. false≢true (rw (sym going.0, absent) at going.1));
          })
    ]

-- While a seat owns

record AfterOwned (c d : Core) (g : Ghost) (m pops : ℕ) : Type 0 where
  pub to : Ghost
  pub fits : Fits d to
  pub popped : to.popped ≡ g.popped + pops
  pub pushed : g.pushed ≤ to.pushed
  pub slack : KeepsSlack c d g to pops
  pub near : Near d to m

owned_due : (d : Core) (s m : ℕ) (p : AbstractPlace) → p ≡ owner s → 2 ≤ m → Due d 0 m p
owned_due d s m p place more = rw place more

after_owned : (c : Core) (g : Ghost) (s m : ℕ) (e : Event) → abstract_place g.place ≡ owner s → 2 ≤ m → Fits c g → AfterOwned c (happens c e).core g m (length (popped_in c e))
after_owned c g s m (begins t call) place more fits =
    record {
      to = g;
      fits = begin_keeps c g t call fits;
      popped = omega arith;
      pushed = omega arith;
      slack = slack_begun c g t call;
      near = record { who = 0; due = owned_due (begin c t call).core s m (abstract_place g.place) place more };
    }
after_owned c g s m (makes t) place more fits =
    elim (cases_Bool (is_seat c.seats t)) [
      | inl known ↦
          let kept = made_keeps c g t (seat_of_test c.seats t known) fits in
          rw known (record {
            to = kept.to;
            fits = kept.fits;
            popped = popped_by_history g kept.to _ _ _ kept.history;
            pushed = pushed_by_history g kept.to _ _ _ kept.history;
            slack = λ n k w size inside few slack.
                slack_made n c g kept.to t k w size (seat_of_test c.seats t known) fits kept.fits (popped_by_history g kept.to _ _ _ kept.history) (pushed_by_history g kept.to _ _ _ kept.history) inside few slack;
            near = owner_case c g kept.to t s m _ place more kept.fits kept.goes;
          })
      | inr none ↦
          rw (none, absent_tested c.seats t none) (record {
            to = g;
            fits = fits;
            popped = omega arith;
            pushed = omega arith;
            slack = slack_unseated c g;
            near = record { who = 0; due = owned_due c s m (abstract_place g.place) place more };
          })
    ]

-- A record with k before it is queued, and at most `rounds` rounds are left: those until the next record leaves, those in
-- which records are collected, and 7 for each record before it

pub record Waits (n : ℕ) (c : Core) (k rounds : ℕ) : Type 0 where
  pub ghost_state : Ghost
  pub fits : Fits c ghost_state
  pub queued : ghost_state.popped + k < ghost_state.pushed
  pub size : length c.seats ≡ n
  pub who : ℕ
  pub next : ℕ
  pub due : Due c who next (abstract_place ghost_state.place)
  pub walks : ℕ
  pub slack : Slack n c ghost_state k walks
  pub within : next + walks + 7 * k ≤ rounds

-- seat u has to go on, and no seat owns; at most `rounds` + 1 rounds are left
pub record MustGoOn (n : ℕ) (c : Core) (k rounds u m : ℕ) : Type 0 where
  pub ghost_state : Ghost
  pub fits : Fits c ghost_state
  pub queued : ghost_state.popped + k < ghost_state.pushed
  pub size : length c.seats ≡ n
  pub unowned : IsOwned (abstract_place ghost_state.place) → ⊥
  pub due : Due c u m (abstract_place ghost_state.place)
  pub walks : ℕ
  pub slack : Slack n c ghost_state k walks
  pub within : m + walks + 7 * k ≤ rounds + 1

pub due_event : (n : ℕ) (c : Core) (k rounds u m : ℕ) (e : Event) → MustGoOn n c k rounds u m → length (popped_in c e) ≤ k
    → Waits n (happens c e).core (k - length (popped_in c e)) rounds ⊎ (MustGoOn n (happens c e).core (k - length (popped_in c e)) rounds u m × (GoesOnBy c u e → ⊥))
due_event n c k rounds u m e here few =
    let pops : ℕ = length (popped_in c e) in
    let before = here.queued in
    let after = after_event c here.ghost_state u m e here.unowned here.fits here.due (omega (arith, before, few)) in
    let popped = after.popped in
    let pushed = after.pushed in
    let size = size_event c e ∙ here.size in
    let within = here.within in
    let kept = after.slack n k here.walks here.size here.queued few here.slack in
    elim after.outcome [
      | fell f ↦
          let lower = f.less in
          inl (record {
            ghost_state = after.to;
            fits = after.fits;
            queued = omega (arith, before, few, popped, pushed);
            size = size;
            who = f.who;
            next = f.left;
            due = f.due;
            walks = here.walks;
            slack = kept;
            within = omega (arith, within, lower);
          })
      | walked none w ↦
          let falls = w.falls k here.walks (omega (arith, popped, none)) pushed here.queued (rw (sym here.size) at here.slack) in
          let same : k - pops ≡ k = omega (arith, none) in
          let lower = falls.0 in
          inl (record {
            ghost_state = after.to;
            fits = after.fits;
            queued = omega (arith, before, few, popped, pushed);
            size = size;
            who = u;
            next = m;
            due = w.due;
            walks = here.walks - 1;
            slack = rw same (rw here.size at falls.1);
            within = omega (arith, within, lower, none);
          })
      | left one near ↦
          let some = due_some c u m (abstract_place here.ghost_state.place) here.due in
          inl (record {
            ghost_state = after.to;
            fits = after.fits;
            queued = omega (arith, before, few, popped, pushed);
            size = size;
            who = near.who;
            next = 7;
            due = near.due;
            walks = here.walks;
            slack = kept;
            within = omega (arith, within, one, few, some);
          })
      | stays same not ↦
          inr (
            record {
              ghost_state = after.to;
              fits = after.fits;
              queued = omega (arith, before, few, popped, pushed);
              size = size;
              unowned = rw same.place here.unowned;
              due = same.due;
              walks = here.walks;
              slack = kept;
              within = omega (arith, within);
            },
            not,
          )
    ]

-- Any event

-- the seat that has to go on then, and its weight
waits_same : (n : ℕ) (c d : Core) (k l rounds walks u m : ℕ) → m + walks + 7 * k ≤ rounds → l ≤ k → (to : Ghost) → Fits d to → to.popped + l < to.pushed → length d.seats ≡ n
    → Due d u m (abstract_place to.place) → Slack n d to l walks → Waits n d l rounds
waits_same n c d k l rounds walks u m within less to fits queued size due slack =
    record { ghost_state = to; fits = fits; queued = queued; size = size; who = u; next = m; due = due; walks = walks; slack = slack; within = omega (arith, within, less) }

wait_unowned : (n : ℕ) (c : Core) (k rounds : ℕ) (e : Event) → (here : Waits n c k rounds) → (IsOwned (abstract_place here.ghost_state.place) → ⊥) → length (popped_in c e) ≤ k
    → Waits n (happens c e).core (k - length (popped_in c e)) rounds
wait_unowned n c k rounds e here unowned few =
    let pops : ℕ = length (popped_in c e) in
    let before = here.queued in
    let after = after_event c here.ghost_state here.who here.next e unowned here.fits here.due (omega (arith, before, few)) in
    let popped = after.popped in
    let pushed = after.pushed in
    let size = size_event c e ∙ here.size in
    let within = here.within in
    let kept = after.slack n k here.walks here.size here.queued few here.slack in
    let still : after.to.popped + (k - pops) < after.to.pushed = omega (arith, before, few, popped, pushed) in
    elim after.outcome [
      | fell f ↦ let lower = f.less in waits_same n c (happens c e).core k (k - pops) rounds here.walks f.who f.left (omega (arith, within, lower)) (omega arith) after.to after.fits still size f.due kept
      | walked none w ↦ waits_same n c (happens c e).core k (k - pops) rounds here.walks here.who here.next within (omega arith) after.to after.fits still size w.due kept
      | left one near ↦
          let some = due_some c here.who here.next (abstract_place here.ghost_state.place) here.due in
          record {
            ghost_state = after.to;
            fits = after.fits;
            queued = still;
            size = size;
            who = near.who;
            next = 7;
            due = near.due;
            walks = here.walks;
            slack = kept;
            within = omega (arith, within, one, few, some);
          }
      | stays same not ↦ waits_same n c (happens c e).core k (k - pops) rounds here.walks here.who here.next within (omega arith) after.to after.fits still size same.due kept
    ]

pub wait_event : (n : ℕ) (c : Core) (k rounds : ℕ) (e : Event) (p : AbstractPlace) → (here : Waits n c k rounds) → abstract_place here.ghost_state.place ≡ p → length (popped_in c e) ≤ k
    → Waits n (happens c e).core (k - length (popped_in c e)) rounds
wait_event n c k rounds e (owner s) here place few =
    let due : Due c here.who here.next (owner s) = rw place at here.due in
    let after = after_owned c here.ghost_state s here.next e place due here.fits in
    let queued = here.queued in
    let popped = after.popped in
    let pushed = after.pushed in
    let within = here.within in
    record {
      ghost_state = after.to;
      fits = after.fits;
      queued = omega (arith, queued, few, popped, pushed);
      size = size_event c e ∙ here.size;
      who = after.near.who;
      next = here.next;
      due = after.near.due;
      walks = here.walks;
      slack = after.slack n k here.walks here.size here.queued few here.slack;
      within = omega (arith, within);
    }
wait_event n c k rounds e free here place few = absurd (let due = rw place at here.due in due)
wait_event n c k rounds e (passed s) here place few = wait_unowned n c k rounds e here (λ o. rw place at o) few
wait_event n c k rounds e Abstract.posted here place few = wait_unowned n c k rounds e here (λ o. rw place at o) few
wait_event n c k rounds e (carried s how) here place few = wait_unowned n c k rounds e here (λ o. rw place at o) few
