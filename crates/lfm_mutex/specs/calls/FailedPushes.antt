-- How often a seat failed to push in a trail: its exchange of the push word found another word than the one that it had read.
-- Each failure costs two steps, since the link is stored and the exchange made once more.
use Rattle.std.specs.Prelude.{◌≡◌, ℕ, ◌+◌, ◌*◌, ◌≤◌, List, [], ◌∷◌, ◌++◌, length, if◌then◌else◌}
use Rattle.lfm_protocol.specs.declared.points.Point.{Point}
use Rattle.lfm_protocol.specs.declared.points.Point.TheVariants.{PushExchange}
use Rattle.lfm_protocol.specs.After.{same_link}
use Rattle.lfm_laws.specs.table.Words.{link_of}
use Rattle.lfm_table.specs.declared.seat_view.Seen.{Seen}
use Rattle.lfm_mutex.specs.calls.Sight.{Sight}

-- 1 if a step at this point is a push exchange that found another word
abbrev pub failed_push : ℕ → Point → ℕ
failed_push found (PushExchange pusher expected) = if same_link (link_of found) expected then 0 else 1
failed_push found _ = 0

abbrev pub failed_pushes : List Seen → ℕ
failed_pushes [] = 0
failed_pushes (step ∷ steps) = failed_push step.found step.point + failed_pushes steps

-- A seat with the first trail had `due` steps left, not counting two for each failed push. It now has the second trail, and
-- `still` such steps left.
abbrev pub Spends : ℕ → ℕ → List Seen → List Seen → Type 0
Spends due still before after = (new : List Seen) × (after ≡ before ++ new) × (length new + still ≤ due + 2 * failed_pushes new)

-- the seat has made at most this number of steps, and two more for each of them that failed to push
abbrev pub MakesBesideFailures : {T : Type 0} → ℕ → Sight T → Sight T → Type 0
MakesBesideFailures k s t = (new : List Seen) × (t.trail ≡ s.trail ++ new) × (length new ≤ k + 2 * failed_pushes new)
