-- What the words of a command line ask for.
use Rattle.std.specs.Prelude.{◌≡◌, ℕ, List, Some, ⊤}
use Rattle.lfm_text.specs.Text.{number_of}
use Rattle.lfm_stress.specs.declared.arguments.Request.{Request}
use Rattle.lfm_stress.specs.declared.arguments.Request.TheVariants.{Run, Refused, Other, Unread}
use Rattle.lfm_test_tools.specs.declared.locking.Locking.{Locking}
use Rattle.lfm_stress.specs.Ranges.{refusal_of}

-- A request that this locking and these two words, for the threads and the turns, may give: a plan has the locking and the
-- words' numbers, and a refusal is that of their numbers.
abbrev pub AsksFor : Request → Locking → List ℕ → List ℕ → Type 0
AsksFor (Run p) locking threads turns = (p.locking ≡ locking) × (number_of threads ≡ Some p.threads) × (number_of turns ≡ Some p.turns)
AsksFor (Refused load why) locking threads turns = (t n : ℕ) × (number_of threads ≡ Some t) × (number_of turns ≡ Some n) × (refusal_of load t n ≡ Some why)
AsksFor Other locking threads turns = ⊤
AsksFor Unread locking threads turns = ⊥
