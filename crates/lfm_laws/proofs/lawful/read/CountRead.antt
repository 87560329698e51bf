-- The count word is the sum of the seats that ask, the length of the queue, and the units that belong to the place.
use Rattle.std.proofs.Common.{◌≡◌, ℕ, zero, suc, Bool, true, false, cond, ◌+◌, ◌-◌, ◌<◌, ◌≤◌, length, refl, ap, ◌∙◌, arith}
use Rattle.std.proofs.lemmas.Bool.{ne_eqb}
use Rattle.std.proofs.lemmas.List.{length-map}
use Rattle.lfm_model.specs.Abstract.{free}
use Rattle.lfm_model.specs.declared.answers.How.TheVariants as How
use Rattle.lfm_protocol.specs.declared.points.Entrant.TheVariants as Entrant
use Rattle.lfm_protocol.specs.declared.points.Point.{Point}
use Rattle.lfm_protocol.specs.declared.points.Point.TheVariants.{Rest, LockCountAdd, LockOwnerLoad, LockCountSubtract, TryCountExchange, TryOwnerLoad, TryCountAdd, SendWakeExchange, SendCountAdd, SendWakeStore, PushLoad, LinkStore, PushExchange, PushedHandoffLoad, ReleaseOwnerStore, EnterOwnerStore, ReceiveWakeStore}
use Rattle.lfm_protocol.specs.declared.points.Pusher.{Pusher}
use Rattle.lfm_words.specs.declared.pop_lists.Record.{Record}
use Rattle.lfm_protocol.specs.Core.{Core}
use Rattle.lfm_laws.specs.steady.Ghost.{Responsibility, nobody, owned, posted, entering, accepting, serving, Ghost}
use Rattle.lfm_laws.specs.steady.EventOutcome.{abstract, abstract_place, queue_of_ghost}
use Rattle.lfm_laws.specs.laws.Reading.{unit_of_entering, unit_of_recursion, own_count, again_count, IsCounted}
use Rattle.lfm_protocol.specs.Seats.{seat}
use Rattle.lfm_laws.specs.steady.Steady.{own_unit, again_unit, WorkFits, Fits}
use Rattle.lfm_laws.specs.steady.Views.{by_depth, claim_at, held_by}
use Rattle.lfm_laws.proofs.lawful.read.ClaimsRead.{held_self, self_claims}
use Rattle.lfm_laws.proofs.lawful.read.RecordsRead.{length-records}

-- the units of a place, by the point of its seat

-- the unit of a call that enters, 2 if no call enters
abbrev entering_unit : Responsibility → ℕ
entering_unit (entering s into stamp) = 1
entering_unit (accepting s) = 0
entering_unit _ = 2

owner_enters : (depth s : ℕ) (again : Bool) → 1 < entering_unit (by_depth depth s again)
owner_enters zero s again = omega arith
owner_enters (suc depth) s again = rw (ne_eqb (suc depth) 0 (omega arith)) (omega arith)

-- an entering call without its unit of the count is at one point
entering_at : (depth s : ℕ) (p : Point) → entering_unit (claim_at depth s p) ≤ 1 → unit_of_entering p ≡ entering_unit (claim_at depth s p)
entering_at depth s Rest enters = absurd (omega (arith, enters, owner_enters depth s false))
entering_at depth s LockCountAdd enters = absurd (omega (arith, enters, owner_enters depth s false))
entering_at depth s LockOwnerLoad enters = absurd (omega (arith, enters, owner_enters depth s true))
entering_at depth s TryCountExchange enters = absurd (omega (arith, enters, owner_enters depth s false))
entering_at depth s TryOwnerLoad enters = absurd (omega (arith, enters, owner_enters depth s false))
entering_at depth s (SendWakeExchange t) enters = absurd (omega (arith, enters, owner_enters depth s false))
entering_at depth s (SendCountAdd t) enters = absurd (omega (arith, enters, owner_enters depth s false))
entering_at depth s (PushLoad Pusher.Locker) enters = absurd (omega (arith, enters))
entering_at depth s (PushLoad (Pusher.Sender t)) enters = absurd (omega (arith, enters, owner_enters depth s false))
entering_at depth s (LinkStore Pusher.Locker seen) enters = absurd (omega (arith, enters))
entering_at depth s (LinkStore (Pusher.Sender t) seen) enters = absurd (omega (arith, enters, owner_enters depth s false))
entering_at depth s (PushExchange Pusher.Locker seen) enters = absurd (omega (arith, enters))
entering_at depth s (PushExchange (Pusher.Sender t) seen) enters = absurd (omega (arith, enters, owner_enters depth s false))
entering_at depth s (PushedHandoffLoad Pusher.Locker) enters = absurd (omega (arith, enters))
entering_at depth s (PushedHandoffLoad (Pusher.Sender t)) enters = absurd (omega (arith, enters, owner_enters depth s false))
entering_at depth s TryCountAdd enters = refl
entering_at depth s (EnterOwnerStore Entrant.Locker How.Free) enters = refl
entering_at depth s (EnterOwnerStore Entrant.Locker (How.Queued stamp)) enters = absurd (omega (arith, enters))
entering_at depth s (EnterOwnerStore Entrant.Trier how) enters = refl
entering_at depth s (EnterOwnerStore Entrant.Receiver how) enters = refl
entering_at depth s (SendWakeStore t) enters = refl
entering_at depth s (ReceiveWakeStore stamp) enters = refl
entering_at depth s _ enters = absurd (omega (arith, enters))

-- the unit of an owner's recursive lock, 2 if no seat owns
abbrev recursion_unit : Responsibility → ℕ
recursion_unit (owned s again) = cond again 1 0
recursion_unit _ = 2

-- an owner at any point except two is in no recursive lock
plain_owner : (depth s : ℕ) → recursion_unit (by_depth depth s false) ≤ 1 → 0 ≡ recursion_unit (by_depth depth s false)
plain_owner zero s owns = absurd (omega (arith, owns))
plain_owner (suc depth) s owns = rw (ne_eqb (suc depth) 0 (omega arith)) refl

locking_owner : (depth s : ℕ) → recursion_unit (by_depth depth s true) ≤ 1 → 1 ≡ recursion_unit (by_depth depth s true)
locking_owner zero s owns = absurd (omega (arith, owns))
locking_owner (suc depth) s owns = rw (ne_eqb (suc depth) 0 (omega arith)) refl

recursion_at : (depth s : ℕ) (p : Point) → recursion_unit (claim_at depth s p) ≤ 1 → unit_of_recursion p ≡ recursion_unit (claim_at depth s p)
recursion_at depth s LockOwnerLoad owns = locking_owner depth s owns
recursion_at depth s LockCountSubtract owns = refl
recursion_at depth s (ReleaseOwnerStore releaser) owns = refl
recursion_at depth s Rest owns = plain_owner depth s owns
recursion_at depth s LockCountAdd owns = plain_owner depth s owns
recursion_at depth s TryCountExchange owns = plain_owner depth s owns
recursion_at depth s TryOwnerLoad owns = plain_owner depth s owns
recursion_at depth s (SendWakeExchange t) owns = plain_owner depth s owns
recursion_at depth s (SendCountAdd t) owns = plain_owner depth s owns
recursion_at depth s (PushLoad Pusher.Locker) owns = absurd (omega (arith, owns))
recursion_at depth s (PushLoad (Pusher.Sender t)) owns = plain_owner depth s owns
recursion_at depth s (LinkStore Pusher.Locker seen) owns = absurd (omega (arith, owns))
recursion_at depth s (LinkStore (Pusher.Sender t) seen) owns = plain_owner depth s owns
recursion_at depth s (PushExchange Pusher.Locker seen) owns = absurd (omega (arith, owns))
recursion_at depth s (PushExchange (Pusher.Sender t) seen) owns = plain_owner depth s owns
recursion_at depth s (PushedHandoffLoad Pusher.Locker) owns = absurd (omega (arith, owns))
recursion_at depth s (PushedHandoffLoad (Pusher.Sender t)) owns = plain_owner depth s owns
recursion_at depth s (EnterOwnerStore Entrant.Locker How.Free) owns = absurd (omega (arith, owns))
recursion_at depth s (EnterOwnerStore Entrant.Locker (How.Queued stamp)) owns = absurd (omega (arith, owns))
recursion_at depth s (EnterOwnerStore Entrant.Trier how) owns = absurd (omega (arith, owns))
recursion_at depth s (EnterOwnerStore Entrant.Receiver how) owns = absurd (omega (arith, owns))
recursion_at depth s _ owns = absurd (omega (arith, owns))

-- the units of the place

enters_by : (c : Core) (g : Ghost) (s : ℕ) (place : Responsibility) → Fits c g → g.place ≡ place → held_by place s ≡ place → entering_unit place ≤ 1
    → unit_of_entering (seat c.seats s).point ≡ entering_unit place
enters_by c g s place fits here held enters =
    let unit = ap entering_unit (self_claims c g s place fits here held) in
    entering_at (seat c.seats s).depth s (seat c.seats s).point (omega (arith, unit, enters)) ∙ unit

own_read : (c : Core) (g : Ghost) (place : Responsibility) → Fits c g → g.place ≡ place → own_count c (abstract_place place) ≡ own_unit place
own_read c g (entering s into stamp) fits here = enters_by c g s (entering s into stamp) fits here (held_self s _) (omega arith)
own_read c g (accepting s) fits here = enters_by c g s (accepting s) fits here (held_self s _) (omega arith)
own_read c g _ fits here = refl

recursion_unit-le : (s : ℕ) (again : Bool) → recursion_unit (owned s again) ≤ 1
recursion_unit-le s true = omega arith
recursion_unit-le s false = omega arith

pub again_read : (c : Core) (g : Ghost) (place : Responsibility) → Fits c g → g.place ≡ place → again_count c (abstract_place place) ≡ again_unit place
again_read c g (owned s again) fits here =
    let unit = ap recursion_unit (self_claims c g s (owned s again) fits here (held_self s _)) in
    recursion_at (seat c.seats s).depth s (seat c.seats s).point (omega (arith, unit, recursion_unit-le s again)) ∙ unit
again_read c g _ fits here = refl

-- as many seats wait as records were pushed and not popped
waiting_read : (g : Ghost) → length (abstract g).waiting ≡ g.pushed - g.popped
waiting_read g = length-map (queue_of_ghost g) (λ (r : Record). r.seat) ∙ length-records g.pushed_at g.popped (g.pushed - g.popped)

pub counted_read : (c : Core) (g : Ghost) → Fits c g → IsCounted c (abstract g)
counted_read c g fits =
    omega (arith, fits.words.count, fits.words.parts, fits.sums.asking, waiting_read g, own_read c g g.place fits refl, again_read c g g.place fits refl)

-- the count is 0 exactly if the place is free

zero_free : (place : Responsibility) (count asking pushed popped : ℕ) → count + popped ≡ asking + pushed + own_unit place + again_unit place → WorkFits place asking pushed popped
    → popped ≤ pushed → count ≡ 0 → abstract_place place ≡ free
zero_free nobody count asking pushed popped sum work parts none = refl
zero_free posted count asking pushed popped sum work parts none = absurd (omega (arith, sum, work))
zero_free (serving s) count asking pushed popped sum work parts none = absurd (omega (arith, sum, work))
zero_free (accepting s) count asking pushed popped sum work parts none = absurd (omega (arith, sum, work))
zero_free _ count asking pushed popped sum work parts none = absurd (omega (arith, sum, parts))

free_zero : (place : Responsibility) (count asking pushed popped : ℕ) → count + popped ≡ asking + pushed + own_unit place + again_unit place → WorkFits place asking pushed popped
    → abstract_place place ≡ free → count ≡ 0
free_zero nobody count asking pushed popped sum work here = omega (arith, sum, work.0, work.1)
free_zero _ count asking pushed popped sum work here = cc

pub zero_count_is_free : (c : Core) (g : Ghost) → Fits c g → c.count ≡ 0 → abstract_place g.place ≡ free
zero_count_is_free c g fits none = zero_free g.place c.count g.asking g.pushed g.popped fits.words.count fits.words.work (omega (arith, fits.words.parts)) none

pub free_counts_zero : (c : Core) (g : Ghost) → Fits c g → abstract_place g.place ≡ free → c.count ≡ 0
free_counts_zero c g fits here = free_zero g.place c.count g.asking g.pushed g.popped fits.words.count fits.words.work here
