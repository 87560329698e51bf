-- The texts of all seats, seat by seat.
use Rattle.std.proofs.Common.{◌≡◌, ◌+◌, ◌-◌, ◌<◌, ◌≤◌, ℕ, suc, List, Option, Result, Ok, Err, [], subst, arith}
use Rattle.std.specs.Prelude.{IsErrAnd}
use Rattle.lfm_protocol.specs.Core.{Core}
use Rattle.lfm_shown.specs.Graphs.{barred_text, seats_text}
use Rattle.lfm_text.specs.declared.faults.WriteFault.{WriteFault}
use Rattle.lfm_text.specs.Writing.{Writes}
use Rattle.lfm_text.proofs.Writes.{wrote_then, failed_within}

-- all seats are left at first
pub seats_begun : (old new : Option (List ℕ)) (c : Core) (n : ℕ) (r : Result (Unit {0}) WriteFault)
    → Writes old new (seats_text c 0 (n - 0)) r → Writes old new (seats_text c 0 n) r
seats_begun old new c n r p = let all : n - 0 ≡ n = omega arith in subst (λ (m : ℕ). Writes old new (seats_text c 0 m) r) all p

module _ (old mid : Option (List ℕ)) (c : Core) (s n : ℕ) where
  module _ (more : s < n) where
    one_less : n - s ≡ suc (n - (s + 1))
    one_less = omega (arith, more)

    -- the next seat was written, so if those after it are written next, all that were left are
    pub seat_written : Writes {T = Unit {0}} old mid (barred_text c (s + 1)) (Ok tt) → (new : Option (List ℕ)) (r : Result (Unit {0}) WriteFault)
        → Writes mid new (seats_text c (s + 1) (n - (s + 1))) r → Writes old new (seats_text c s (n - s)) r
    seat_written p new r q = rw one_less (wrote_then old mid new (barred_text c (s + 1)) (seats_text c (s + 1) (n - (s + 1))) tt r p q)

    pub seat_failed : (fault : WriteFault) (r : Result (Unit {0}) WriteFault) → Writes {T = Unit {0}} old mid (barred_text c (s + 1)) (Err fault)
        → IsErrAnd r (λ y. y ≡ fault) → Writes old mid (seats_text c s (n - s)) r
    seat_failed fault r p e = rw one_less (failed_within old mid (barred_text c (s + 1)) (seats_text c (s + 1) (n - (s + 1))) fault r p e)

  -- no seat is left
  pub seats_end : n ≤ s → (r : Result (Unit {0}) WriteFault) → Writes old mid [] r → Writes old mid (seats_text c s (n - s)) r
  seats_end past r p = let none : n - s ≡ 0 = omega (arith, past) in rw none p
