-- Which steps store a grant, and for which seat; and how a grant differs from the other states of a wake word.
use Rattle.std.specs.Prelude.{◌≡◌, ◌≢◌, ℕ, ◌%◌, ◌^◌, Option, Some, None, Bool, true, false}
use Rattle.lfm_words.specs.declared.wakes.Wake.{Wake}
use Rattle.lfm_words.specs.Words.{wake_word}
use Rattle.lfm_protocol.specs.declared.points.Point.{Point}
use Rattle.lfm_protocol.specs.declared.points.Point.TheVariants.{GrantWakeStore, SendWakeStore}

-- the seat that a step at this point grants the mutex: the seat of the oldest record, or the target of a send that found the
-- count at 0
abbrev pub granted_at : Point → Option ℕ
granted_at (GrantWakeStore carrier oldest) = Some oldest.seat
granted_at (SendWakeStore t) = Some t
granted_at _ = None

-- the seat that is to be woken after this state was stored in the wake word of seat t
abbrev pub owed : Wake → ℕ → Option ℕ
owed (Wake.Grant stamp) t = Some t
owed _ t = None

abbrev pub is_grant : Wake → Bool
is_grant (Wake.Grant stamp) = true
is_grant _ = false

-- the bits of a word that a park compares
abbrev pub low_bits : ℕ → ℕ
low_bits n = n % 2 ^ 32

abbrev pub GrantsDifferInTheirLowBits : Type 0
GrantsDifferInTheirLowBits = (a b : Wake) → is_grant a ≡ true → is_grant b ≡ false → low_bits (wake_word a) ≢ low_bits (wake_word b)
