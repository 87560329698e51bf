-- Any two proofs that a plain seat belongs to a condvar are equal. So a struct can keep that fact.
use Rattle.std.specs.Prelude.{◌≡◌, ⊤, ℕ, List, Option, Some, None}
use Rattle.std.specs.Coded.{Coded, Coded-set, code_by, coded×, coded_bool, coded_ℕ, le_prop, ×_prop, Π_prop, →_prop}
use mathlib.Core.HLevel.{×₃_prop, is_prop→PathP}
use mathlib.Core.Path.{◌∙◌, Singl, ap, contract, path_j, refl, subst, sym}
use mathlib.Core.Option.{some}
use lib.ListN.{get_elem?}
use Rattle.atomic_table.specs.Seated.{TableId, table_id_coded}
use Rattle.lfm_protocol.specs.declared.limits.Limits.{Limits}
use Rattle.lfm_mutex.specs.calls.Sight.{Sight, sight}
use Rattle.lfm_plain_condvar.specs.declared.condvar.PlainCondvar.{PlainCondvar}
use Rattle.lfm_plain_condvar.specs.declared.parkers.Parkers.{Parkers}
use Rattle.lfm_plain_condvar.specs.declared.plain_seat.PlainSeat.{PlainSeat}
use Rattle.lfm_plain_condvar.specs.declared.waiters.Waiters.{Waiters}
use Rattle.lfm_plain_condvar.specs.Belongs.{HasWaker, OfPlain}
use Rattle.lfm_plain_condvar.specs.Holds.{SeatKept}

module _ {A : Type 0} where
  -- what the option has, or this if it has nothing
  abbrev held : A → Option A → A
  held x None = x
  held x (Some y) = y

  -- an equation of `Some` is made by an equation of what the options have
  abbrev IsMade : (x : A) (o : Option A) → Some x ≡ o → Type 0
  IsMade x None p = ⊤
  IsMade x (Some y) p = ap (λ (z : A). Some z) (ap (held x) p) ≡ p

  is_made : (x : A) {o : Option A} (p : Some x ≡ o) → IsMade x o p
  is_made x p = path_j (IsMade x) refl p

  -- what an option has, with the equation that says so
  abbrev Had : Option A → Type 0
  Had o = (y : A) × (o ≡ Some y)

  abbrev of_same : (x : A) → Singl x → Had (Some x)
  of_same x s = (s.0, ap (λ (z : A). Some z) s.1)

  made_again : (x : A) (u : Had (Some x)) → of_same x (u.0, ap (held x) u.1) ≡ u
  made_again x u = λ i. (u.0, is_made x u.1 i)

  only_one : (x : A) (u : Had (Some x)) → of_same x (x, refl) ≡ u
  only_one x u = ap (of_same x) (contract (ap (held x) u.1)) ∙ made_again x u

  abbrev IsNone : Option A → Type 0
  IsNone None = ⊤
  IsNone (Some y) = ⊥

  Had-prop : (o : Option A) → IsProp (Had o)
  Had-prop None u v = absurd (subst IsNone u.1 tt)
  Had-prop (Some x) u v = sym (only_one x u) ∙ only_one x v

coded_limits : Coded Limits
coded_limits = code_by (ℕ × ℕ) (coded× coded_ℕ coded_ℕ) (λ (l : Limits). (l.seats, l.budget)) (λ p. record { seats = p.0; budget = p.1 }) (λ _. refl)

SeatKept-prop : (z : TableId) (n : ℕ) (s : Sight Waiters) → IsProp (SeatKept z n s)
SeatKept-prop z n s u v =
    λ i. record {
      out = Coded-set coded_ℕ _ _ u.out v.out i;
      awake = Coded-set coded_bool _ _ u.awake v.awake i;
      low = le_prop u.low v.low i;
      high = le_prop u.high v.high i;
      there = Coded-set coded_bool _ _ u.there v.there i;
      made = λ l is. (Coded-set coded_ℕ _ _ (u.made l is).0 (v.made l is).0 i, Coded-set table_id_coded _ _ (u.made l is).1 (v.made l is).1 i);
    }

HasWaker-prop : (c : PlainSeat) (p : Parkers) → IsProp (HasWaker c p)
HasWaker-prop c p u v =
    let e = Had-prop c.waker (u.0, u.1) (v.0, v.1) in
    λ i. (
      (e i).0,
      (e i).1,
      is_prop→PathP (λ j. (e j).0.number ≡ (sight c.seat).number) (λ j. Coded-set coded_ℕ _ _) u.2 v.2 i,
      is_prop→PathP (λ j. (e j).0.seat.table_id ≡ p.table.shared.table_id) (λ j. Coded-set table_id_coded _ _) u.3 v.3 i,
    )

pub OfPlain-prop : (c : PlainSeat) (v : PlainCondvar) → IsProp (OfPlain c v)
OfPlain-prop c v = ×_prop (×₃_prop (×_prop (Coded-set table_id_coded _ _) (Coded-set coded_limits _ _)) (SeatKept-prop _ _ _) (Coded-set table_id_coded _ _)) (HasWaker-prop c v.parkers)

-- all these seats belong to the condvar
abbrev pub AreOfPlain : List PlainSeat → PlainCondvar → Type 0
AreOfPlain cs v = (j : ℕ) (c : _) → get_elem? cs j ≡ some c → OfPlain c v

pub AreOfPlain-prop : (cs : List PlainSeat) (v : PlainCondvar) → IsProp (AreOfPlain cs v)
AreOfPlain-prop cs v = Π_prop (λ j. Π_prop (λ c. →_prop (OfPlain-prop c v)))
