-- A seat that has the moving value neither before nor after its step does not read the pop list, so it does not need to have
-- it.
use Rattle.std.proofs.Common.{◌≡◌, ℕ, true, false, Bool, Option, Some, None, nat_eq, refl, sym, ◌∙◌, if◌then◌else◌}
use Rattle.std.proofs.lemmas.Bool.{false≢true}
use Rattle.lfm_protocol.specs.declared.points.Carrier.{Carrier}
use Rattle.lfm_protocol.specs.declared.points.Point.{Point}
use Rattle.lfm_protocol.specs.declared.points.Point.TheVariants.{PushedHandoffExchange, ReleaseCountSubtract, ReleaseHandoffExchange}
use Rattle.lfm_protocol.specs.declared.seats.SeatState.{SeatState}
use Rattle.lfm_words.specs.declared.pop_lists.Record.{Record}
use Rattle.lfm_protocol.specs.After.{take, serves, same_handoff, carrier_of}
use Rattle.lfm_protocol.specs.Begin.{Stepped, goes_on}
use Rattle.lfm_laws.specs.table.Carried.{carries_value}
use Rattle.lfm_protocol.specs.Place.{carries}
use Rattle.lfm_laws.specs.table.Words.{stepped_by, handoff_of}

carries_if : (b : Bool) (p q : Point) → carries p ≡ true → carries q ≡ true → carries (if b then p else q) ≡ true
carries_if true p q first second = first
carries_if false p q first second = second

serving_carries : (carrier : Carrier) (s : ℕ) (r : Record) → carries (serves carrier s r) ≡ true
serving_carries Carrier.Locker s r = carries_if (nat_eq r.seat s) _ _ refl refl
serving_carries (Carrier.Releaser releaser) s r = refl
serving_carries (Carrier.Reclaimer releaser) s r = refl
serving_carries Carrier.Sender s r = refl

taking_carries : (carrier : Carrier) (s : ℕ) (oldest : Option Record) → carries (take carrier s oldest) ≡ true
taking_carries carrier s None = refl
taking_carries carrier s (Some r) = serving_carries carrier s r

carries_by : (b : Bool) (p : Point) → carries p ≡ true → (if b then carries p else true) ≡ true
carries_by true p e = e
carries_by false p e = refl

-- a seat at a point that carries has the value
carries_at : (depth : ℕ) (p : Point) → carries p ≡ true → (if nat_eq depth 0 then carries p else true) ≡ true
carries_at depth p e = carries_by (nat_eq depth 0) p e

-- a branch that gains the pop list is not the one taken
not_taken : (b : Bool) (x : SeatState) (p q : Point) (fails : Stepped) → carries p ≡ true → carries_value (if b then goes_on x p else fails).seat ≡ false
    → (if b then goes_on x p else fails) ≡ (if b then goes_on x q else fails)
not_taken true x p q fails taken none = absurd (false≢true (sym none ∙ carries_at x.depth p taken))
not_taken false x p q fails taken none = refl

unread_at : (x : SeatState) (s n : ℕ) (o u : Option Record) (p : Point) → x.point ≡ p → carries_value x ≡ false → carries_value (stepped_by x s n o).seat ≡ false
    → stepped_by x s n o ≡ stepped_by x s n u
unread_at x s n o u (ReleaseCountSubtract releaser) at before after =
    let carried : carries_value x ≡ true = carries_at x.depth x.point (rw at refl) in
    absurd (false≢true (sym before ∙ carried))
unread_at x s n o u (PushedHandoffExchange pusher seen) at before after =
    let c = carrier_of pusher in
    let none = rw at at after in
    rw at (not_taken (same_handoff (handoff_of n) seen) x (take c s o) (take c s u) _ (taking_carries c s o) none)
unread_at x s n o u (ReleaseHandoffExchange releaser) at before after =
    let c = Carrier.Reclaimer releaser in
    let none = rw at at after in
    rw at (not_taken (same_handoff (handoff_of n) (record { seat = s; post = x.posts })) x (take c s o) (take c s u) _ (taking_carries c s o) none)
unread_at x s n o u _ at before after = rw at refl

pub oldest_unread : (x : SeatState) (s n : ℕ) (o u : Option Record) → carries_value x ≡ false → carries_value (stepped_by x s n o).seat ≡ false
    → stepped_by x s n o ≡ stepped_by x s n u
oldest_unread x s n o u before after = unread_at x s n o u x.point refl before after
