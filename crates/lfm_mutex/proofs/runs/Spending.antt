-- How many of the steps due to its call a run of steps has used: step by step, and for two runs in a row.
use Rattle.std.proofs.Common.{◌≡◌, ◌≢◌, ℕ, ◌+◌, ◌*◌, ◌<◌, ◌≤◌, Option, None, List, [], ◌∷◌, ◌++◌, length, sym, ap, subst, ◌∙◌, arith, append_assoc, append-nil, length-append}
use Rattle.lfm_words.specs.Popped.{oldest}
use Rattle.lfm_protocol.specs.declared.answers.Turn.{Turn}
use Rattle.lfm_protocol.specs.declared.seats.SeatState.{SeatState}
use Rattle.lfm_protocol.specs.Points.{kind}
use Rattle.lfm_laws.specs.table.Ready.{IsReady}
use Rattle.lfm_table.specs.declared.rule.Moving.{Moving}
use Rattle.lfm_table.specs.declared.seat_view.Seen.{Seen}
use Rattle.lfm_table.specs.declared.seat_view.View.{View}
use Rattle.lfm_table.specs.Rule.{seen}
use Rattle.lfm_table.specs.Steps.{Event}
use Rattle.lfm_mutex.specs.calls.Due.{due}
use Rattle.lfm_mutex.specs.calls.FailedPushes.{failed_push, failed_pushes, Spends}
use Rattle.lfm_mutex.specs.calls.Runs.{weight}
use Rattle.lfm_mutex.proofs.runs.DueFalls.{due_falls}
use Rattle.lfm_mutex.proofs.runs.Running.{walks_on, steps_left}

failed_join : (xs ys : List Seen) → failed_pushes (xs ++ ys) ≡ failed_pushes xs + failed_pushes ys
failed_join [] ys = omega arith
failed_join (x ∷ xs) ys = let h = failed_join xs ys in omega (arith, h)

pub spends_none : (k : ℕ) (trail : List Seen) → Spends k k trail trail
spends_none k trail = ([], sym (append-nil trail), omega arith)

pub spends_join : (i j k : ℕ) (t u v : List Seen) → Spends i j t u → Spends j k u v → Spends i k t v
spends_join i j k t u v first second =
    let long = length-append first.0 second.0 in let fails = failed_join first.0 second.0 in
    let most = first.2 in let more = second.2 in (
      first.0 ++ second.0,
      second.1 ∙ (ap (λ (l : List Seen). l ++ second.0) first.1 ∙ append_assoc t first.0 second.0),
      omega (arith, long, fails, most, more),
    )

-- if more was due, or less is left
pub spends_within : (i i' j j' : ℕ) (t u : List Seen) → i ≤ i' → j' ≤ j → Spends i j t u → Spends i' j' t u
spends_within i i' j j' t u more less spends = let most = spends.2 in (spends.0, spends.1, omega (arith, more, less, most))

-- at most the steps that were due have been made, and two more for each failed push
pub spent : (i k : ℕ) (t u : List Seen) → i ≤ k → Spends i 0 t u → (new : List Seen) × (u ≡ t ++ new) × (length new ≤ k + 2 * failed_pushes new)
spent i k t u more spends = let most = spends.2 in (spends.0, spends.1, omega (arith, more, most))

pub spent_nothing : (k : ℕ) (t u : List Seen) → u ≡ t → (new : List Seen) × (u ≡ t ++ new) × (length new ≤ k + 2 * failed_pushes new)
spent_nothing k t u same = ([], same ∙ sym (append-nil t), omega arith)

module _ {T : Type 0} (follows : ℕ → T → T → Type 0) (suits : T → ℕ → Type 0) (p q : SeatState) (v w : View T) (a b : Option (Moving T)) (turn : Turn) (e : Event follows suits p a v turn q b w) where
  -- a step of any kind
  pub spends_any : (k : ℕ) → Spends (k + 1) k v.trail w.trail
  spends_any k = (seen p.point e.found ∷ [], e.did.trail, omega arith)

  -- a step uses one of the steps that were due to the call
  pub spends_more : (seats s : ℕ) → kind p.point ≢ None → v.limits.seats ≡ seats → IsReady seats s p → Spends (due seats (length v.popped) p.point) (due seats (length w.popped) q.point) v.trail w.trail
  spends_more seats s some sized ready =
      let less = subst (λ (x : SeatState). weight seats (length w.popped) x.point < weight seats (length v.popped) p.point) e.seat_is (steps_left follows suits seats s p q v w a b turn some sized ready e) in
      let falls = subst (λ (x : SeatState). due seats (length w.popped) x.point < due seats (length v.popped) p.point + 2 * failed_push e.found p.point) (sym e.seat_is)
      (due_falls p v.number e.found (oldest e.did.popped) seats (length v.popped) (length w.popped) some (walks_on follows suits seats p q v w a b turn sized e) less)
      in
      (seen p.point e.found ∷ [], e.did.trail, omega (arith, falls))
