-- No grant is slept through. Each event keeps two facts: the thread that is about to park has loaded no grant, and a thread that
-- sleeps beside a grant is owed a wake-up. A park beside a grant does not sleep, since a grant differs in its low bits from what
-- the thread has loaded.
use Rattle.std.proofs.Common.{◌≡◌, ◌≢◌, ℕ, zero, suc, ◌+◌, ◌<◌, Bool, true, false, nat_eq, refl, sym, ◌∙◌, if◌then◌else◌, List, [], ◌∷◌, subst, arith}
use Rattle.std.proofs.lemmas.Bool.{false≢true, eqb-true}
use Rattle.lfm_words.specs.declared.wakes.Wake.{Wake}
use Rattle.lfm_words.specs.Words.{wake_word}
use Rattle.lfm_table.specs.Grants.{is_grant, low_bits, GrantsDifferInTheirLowBits}
use Rattle.lfm_table.specs.Parking.{Parking, ParkingEvent, Thread, after, after_all, after_load, after_park, after_wake, at_first, woken, running, about_to_park, sleeping, stores, wakes, loads, parks, returns, OwesSleeper, NoGrantIsSleptThrough}

record Kept (p : Parking) : Type 0 where
  pub owes : OwesSleeper p
  pub seen : (v : Wake) → p.thread ≡ about_to_park v → is_grant v ≡ false

woken_not : (t : Thread) → woken t ≢ sleeping
woken_not running e = cc
woken_not (about_to_park v) e = cc
woken_not sleeping e = cc

woken_same : (t : Thread) (v : Wake) → woken t ≡ about_to_park v → t ≡ about_to_park v
woken_same running v e = cc
woken_same (about_to_park u) v e = e
woken_same sleeping v e = cc

woken_kept : (p : Parking) (owed : ℕ) → Kept p → Kept (record { word = p.word; thread = woken p.thread; owed = owed })
woken_kept p owed k = record { owes = λ s granted. absurd (woken_not p.thread s); seen = λ v s. k.seen v (woken_same p.thread v s) }

-- a store of a grant leaves a wake-up, and after another store the word is no grant
store_owes : (w : Wake) (owed : ℕ) (g : Bool) → is_grant w ≡ g → is_grant w ≡ true → 0 < owed + (if g then 1 else 0)
store_owes w owed true is granted = omega arith
store_owes w owed false is granted = absurd (false≢true (sym is ∙ granted))

wake_kept : (n : ℕ) (p : Parking) → Kept p → Kept (after_wake n p)
wake_kept zero p k = k
wake_kept (suc n) p k = woken_kept p n k

load_running : (w : Wake) (owed : ℕ) (g : Bool) → is_grant w ≡ g → Kept (record { word = w; thread = if g then running else about_to_park w; owed = owed })
load_running w owed true is = record { owes = λ s granted. cc; seen = λ v s. cc }
load_running w owed false is = record { owes = λ s granted. cc; seen = λ v s. let e : w ≡ v = cc in subst (λ (x : Wake). is_grant x ≡ false) e is }

load_kept : (w : Wake) (t : Thread) (owed : ℕ) → Kept (record { word = w; thread = t; owed = owed }) → Kept (record { word = w; thread = after_load t w; owed = owed })
load_kept w running owed k = load_running w owed (is_grant w) refl
load_kept w (about_to_park v) owed k = k
load_kept w sleeping owed k = k

module _ (differ : GrantsDifferInTheirLowBits) where
  compared : (w v : Wake) (owed : ℕ) (same : Bool) → nat_eq (low_bits (wake_word w)) (low_bits (wake_word v)) ≡ same → is_grant v ≡ false
      → Kept (record { word = w; thread = if same then sleeping else running; owed = owed })
  compared w v owed true is none = record {
    owes = λ s granted. absurd (differ w v granted none (eqb-true (low_bits (wake_word w)) (low_bits (wake_word v)) is));
    seen = λ u s. cc;
  }
  compared w v owed false is none = record { owes = λ s granted. cc; seen = λ u s. cc }

  park_kept : (w : Wake) (t : Thread) (owed : ℕ) → Kept (record { word = w; thread = t; owed = owed }) → Kept (record { word = w; thread = after_park t w; owed = owed })
  park_kept w running owed k = k
  park_kept w (about_to_park v) owed k = compared w v owed (nat_eq (low_bits (wake_word w)) (low_bits (wake_word v))) refl (k.seen v refl)
  park_kept w sleeping owed k = k

  kept : (p : Parking) (e : ParkingEvent) → Kept p → Kept (after p e)
  kept p (stores w) k = record { owes = λ s granted. store_owes w p.owed (is_grant w) refl granted; seen = k.seen }
  kept p wakes k = wake_kept p.owed p k
  kept p loads k = load_kept p.word p.thread p.owed k
  kept p parks k = park_kept p.word p.thread p.owed k
  kept p returns k = woken_kept p p.owed k

  kept_all : (p : Parking) (events : List ParkingEvent) → Kept p → Kept (after_all p events)
  kept_all p [] k = k
  kept_all p (e ∷ later) k = kept_all (after p e) later (kept p e k)

  pub no_grant_is_slept_through : NoGrantIsSleptThrough
  no_grant_is_slept_through w events = (kept_all (at_first w) events (record { owes = λ s granted. cc; seen = λ v s. cc })).owes
