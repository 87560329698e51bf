use Rattle.std.proofs.Common.{◌≡◌, ℕ, sym, ◌∙◌, ◌<◌, subst, arith}
use Rattle.lfm_protocol.specs.declared.answers.Call.{Call}
use Rattle.std.specs.Prelude.{⊤, length}
use Rattle.lfm_table.specs.declared.operations.Access.{Access}
use Rattle.lfm_table.specs.declared.seat_view.View.{View}
use Rattle.lfm_pool.specs.Tables.{known, part}
use Rattle.lfm_pool.specs.Steps.{IsOwnAccessOf, Sits, StepsIn}
use Rattle.lfm_pool.proofs.FastPaths.{at_once, sits_after_begin, releasing, subtracting, left_free, left_to_serve, part_now, length_now, elsewhere_now}
use Rattle.std.proofs.Common.{ap, refl}
use Rattle.lfm_protocol.specs.declared.points.Releaser.TheVariants.{Unlocker}
use Rattle.lfm_protocol.specs.declared.points.Point.TheVariants.{ReleaseCountSubtract, ReleaseOwnerStore}
use Rattle.lfm_pool.proofs.FastPaths.{noted_released, released, unlock_begun}
use Rattle.lfm_pool.proofs.Keeping.{keeps_at, keeps_by_subtract, may_push}
use Rattle.lfm_pool.specs.Chain.{rested}
use Rattle.lfm_pool.specs.Seats.{note_of, state_of}
use Rattle.lfm_pool.specs.Steps.{begun_at, state_at}
use Rattle.lfm_pool.proofs.fast_paths.leave.Goals as goal

pub first_step-requires-clause-sits : goal.first_step-requires-clause-sits
first_step-requires-clause-sits c =
    let s = c.args.seat.now in let v = part s.place.me.0 c.args.mutex in sits_after_begin s.number s.place.id c.args.pool.now.limits (at_once v) v c.requires.holds.now Call.Unlock

pub first_step-requires-clause-is_next : goal.first_step-requires-clause-is_next
first_step-requires-clause-is_next c =
    let s = c.args.seat.now in let l = c.args.pool.now.limits in (releasing s.number s.place.id c.args.mutex l s.place.me s.place.me s.place.me (omega (arith, c.requires.mutex, c.requires.belongs.parts)) l.seats c.requires.holds)

pub next_step-requires-clause-table : goal.next_step-requires-clause-table
next_step-requires-clause-table c = let f = c.first_step in f.ensures.table.0 ∙ c.requires.belongs.table

pub next_step-requires-clause-inside : goal.next_step-requires-clause-inside
next_step-requires-clause-inside c =
    let s = c.args.seat.now in let l = c.args.pool.now.limits in let f = c.first_step in let t = f.new.seat in let d = f.ensures.step in (c.requires.mutex, length_now s.number s.place.id c.args.mutex l s.place.me t.place.me t.place.me (omega (arith, c.requires.mutex, c.requires.belongs.parts)) d.0 _ d.1 ∙ c.requires.belongs.parts)

pub next_step-requires-clause-sits : goal.next_step-requires-clause-sits
next_step-requires-clause-sits c =
    let s = c.args.seat.now in let l = c.args.pool.now.limits in let f = c.first_step in let t = f.new.seat in let d = f.ensures.step in
    subst (λ (z : ℕ × ℕ). Sits z.0 z.1 l (part t.place.me.0 c.args.mutex).state (part t.place.me.0 c.args.mutex)) (λ i. (sym f.ensures.table.2 i, sym f.ensures.table.1 i))
    (subst (λ (y : View ⊤). Sits s.number s.place.id l y.state y) (sym (part_now s.number s.place.id c.args.mutex l s.place.me t.place.me t.place.me (omega (arith, c.requires.mutex, c.requires.belongs.parts)) d.0 _ d.1)) d.2)

pub next_step-requires-clause-elsewhere : goal.next_step-requires-clause-elsewhere
next_step-requires-clause-elsewhere c =
    let s = c.args.seat.now in let l = c.args.pool.now.limits in let f = c.first_step in let t = f.new.seat in let d = f.ensures.step in elsewhere_now s.number s.place.id c.args.mutex l s.place.me t.place.me t.place.me (omega (arith, c.requires.mutex, c.requires.belongs.parts)) d.0 _ d.1 c.requires.elsewhere

pub next_step-requires-clause-is_next : goal.next_step-requires-clause-is_next
next_step-requires-clause-is_next c =
    let s = c.args.seat.now in let l = c.args.pool.now.limits in let f = c.first_step in let t = f.new.seat in let d = f.ensures.step in
    (subst (λ (n : ℕ). IsOwnAccessOf l.seats n (part t.place.me.0 c.args.mutex).state (Access.FetchSub 0 1)) (sym f.ensures.table.2) (subtracting s.number s.place.id c.args.mutex l s.place.me t.place.me t.place.me (omega (arith, c.requires.mutex, c.requires.belongs.parts)) l.seats f.result c.requires.holds d))

pub returns-clause-leaves : goal.returns-clause-leaves
returns-clause-leaves c =
    let s = c.args.seat.now in let l = c.args.pool.now.limits in let f = c.first_step in let t = f.new.seat in let d = f.ensures.step in let h = c.next_step in
    λ one. left_free s.number s.place.id c.args.mutex l s.place.me t.place.me h.new.seat.place.me (omega (arith, c.requires.mutex, c.requires.belongs.parts)) f.result h.result f.ensures.told one c.requires.holds d (subst (λ (z : ℕ × ℕ). StepsIn z.0 z.1 c.args.mutex l (part t.place.me.0 c.args.mutex).state t.place.me h.result h.new.seat.place.me) (λ i. (f.ensures.table.2 i, f.ensures.table.1 i)) h.ensures.step)

pub returns-clause-serves : goal.returns-clause-serves
returns-clause-serves c =
    let s = c.args.seat.now in let l = c.args.pool.now.limits in let f = c.first_step in let t = f.new.seat in let d = f.ensures.step in let h = c.next_step in
    λ more. left_to_serve s.number s.place.id c.args.mutex l s.place.me t.place.me h.new.seat.place.me (omega (arith, c.requires.mutex, c.requires.belongs.parts)) f.result h.result f.ensures.told more c.requires.holds d (subst (λ (z : ℕ × ℕ). StepsIn z.0 z.1 c.args.mutex l (part t.place.me.0 c.args.mutex).state t.place.me h.result h.new.seat.place.me) (λ i. (f.ensures.table.2 i, f.ensures.table.1 i)) h.ensures.step)

pub first_step-requires-clause-table : goal.first_step-requires-clause-table
first_step-requires-clause-table c = c.requires.belongs.table

pub first_step-requires-clause-inside : goal.first_step-requires-clause-inside
first_step-requires-clause-inside c = (c.requires.mutex, c.requires.belongs.parts)

pub returns-clause-belongs : goal.returns-clause-belongs
returns-clause-belongs c =
    let s = c.args.seat.now in let l = c.args.pool.now.limits in let f = c.first_step in let d = f.ensures.step in let h = c.next_step in let e = h.ensures.step in
    let here : c.args.mutex < length s.place.me.0.parts = omega (arith, c.requires.mutex, c.requires.belongs.parts) in
    let first = length_now s.number s.place.id c.args.mutex l s.place.me f.new.seat.place.me f.new.seat.place.me here d.0 _ d.1 in
    record {
      table = h.ensures.table.0 ∙ f.ensures.table.0;
      id = h.ensures.table.1 ∙ f.ensures.table.1;
      number = h.ensures.table.2 ∙ f.ensures.table.2;
      parts = length_now f.new.seat.number f.new.seat.place.id c.args.mutex l f.new.seat.place.me h.new.seat.place.me h.new.seat.place.me (omega (arith, here, first)) e.0 _ e.1 ∙ first;
    }

pub first_step-requires-clause-chained : goal.first_step-requires-clause-chained
first_step-requires-clause-chained c =
    let s = c.args.seat.now in let l = c.args.pool.now.limits in let holds = c.requires.holds in
    let x = begun_at s.place.me.0 c.args.mutex 1 l Call.Unlock in
    let at : x.point ≡ ReleaseOwnerStore Unlocker = ap (λ x. x.point) (unlock_begun (state_at s.place.me.0 c.args.mutex 1) l holds.rests refl) in (
      keeps_at x s.number (part s.place.me.0 c.args.mutex) (note_of s c.args.mutex) (ReleaseOwnerStore Unlocker) at refl refl,
      may_push (ReleaseOwnerStore Unlocker) (known s.place.me.0 c.args.mutex) x.point at tt,
    )

pub next_step-requires-clause-chained : goal.next_step-requires-clause-chained
next_step-requires-clause-chained c =
    let s = c.args.seat.now in let l = c.args.pool.now.limits in let f = c.first_step in let t = f.new.seat in let d = f.ensures.step in
    let here : c.args.mutex < length s.place.me.0.parts = omega (arith, c.requires.mutex, c.requires.belongs.parts) in
    let whole = noted_released s.number s.place.id c.args.mutex l s.place.me t.place.me t.place.me here f.result c.requires.holds d in
    let at : (state_of t c.args.mutex).point ≡ ReleaseCountSubtract Unlocker = ap (λ x. x.point) (released s.number s.place.id c.args.mutex l s.place.me t.place.me t.place.me here f.result c.requires.holds d) in (
      keeps_by_subtract (state_of t c.args.mutex) t.number (part t.place.me.0 c.args.mutex) (note_of t c.args.mutex) Unlocker at (whole.0 ∙ ap rested (sym whole.1)),
      may_push (ReleaseCountSubtract Unlocker) (known t.place.me.0 c.args.mutex) (state_of t c.args.mutex).point at tt,
    )
