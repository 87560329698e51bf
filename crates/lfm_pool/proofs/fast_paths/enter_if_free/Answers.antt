use Rattle.std.proofs.Common.{◌≡◌, ℕ, refl, sym, ◌∙◌, ◌<◌, subst, arith}
use Rattle.lfm_protocol.specs.declared.answers.Call.{Call}
use Rattle.std.specs.Prelude.{⊤, length}
use Rattle.lfm_table.specs.declared.operations.Access.{Access}
use Rattle.lfm_table.specs.declared.seat_view.View.{View}
use Rattle.lfm_pool.specs.Tables.{known, part}
use Rattle.lfm_pool.specs.Steps.{IsOwnAccessOf, Sits, StepsIn}
use Rattle.lfm_pool.proofs.FastPaths.{sits_begun, trying, entering, entered, found_taken, part_now, length_now, elsewhere_now}
use Rattle.std.proofs.Common.{ap}
use Rattle.lfm_model.specs.declared.answers.How.{How}
use Rattle.lfm_protocol.specs.declared.points.Entrant.{Entrant}
use Rattle.lfm_protocol.specs.declared.points.Point.TheVariants.{TryCountExchange, EnterOwnerStore}
use Rattle.lfm_pool.proofs.FastPaths.{entering_at, try_begun}
use Rattle.lfm_pool.proofs.Keeping.{keeps_at, may_push}
use Rattle.lfm_pool.specs.Seats.{note_of, state_of}
use Rattle.lfm_pool.specs.Steps.{begun_in}
use Rattle.lfm_pool.proofs.fast_paths.enter_if_free.Goals as goal

pub first_step-found-requires-clause-sits : goal.first_step-found-requires-clause-sits
first_step-found-requires-clause-sits c =
    let s = c.args.seat.now in sits_begun s.number s.place.id c.args.pool.now.limits (part s.place.me.0 c.args.mutex) c.requires.may.sits Call.TryLock

pub first_step-found-requires-clause-is_next : goal.first_step-found-requires-clause-is_next
first_step-found-requires-clause-is_next c =
    let s = c.args.seat.now in let l = c.args.pool.now.limits in (trying s.number s.place.id c.args.mutex l s.place.me s.place.me s.place.me (omega (arith, c.requires.mutex, c.requires.belongs.parts)) l.seats c.requires.may)

pub next_step-requires-clause-table : goal.next_step-requires-clause-table
next_step-requires-clause-table c = let f = c.first_step-found in f.ensures.table.0 ∙ c.requires.belongs.table

pub next_step-requires-clause-inside : goal.next_step-requires-clause-inside
next_step-requires-clause-inside c =
    let s = c.args.seat.now in let l = c.args.pool.now.limits in let f = c.first_step-found in let t = f.new.seat in let d = f.ensures.step in (c.requires.mutex, length_now s.number s.place.id c.args.mutex l s.place.me t.place.me t.place.me (omega (arith, c.requires.mutex, c.requires.belongs.parts)) d.0 _ d.1 ∙ c.requires.belongs.parts)

pub next_step-requires-clause-sits : goal.next_step-requires-clause-sits
next_step-requires-clause-sits c =
    let s = c.args.seat.now in let l = c.args.pool.now.limits in let f = c.first_step-found in let t = f.new.seat in let d = f.ensures.step in
    subst (λ (z : ℕ × ℕ). Sits z.0 z.1 l (part t.place.me.0 c.args.mutex).state (part t.place.me.0 c.args.mutex)) (λ i. (sym f.ensures.table.2 i, sym f.ensures.table.1 i))
    (subst (λ (y : View ⊤). Sits s.number s.place.id l y.state y) (sym (part_now s.number s.place.id c.args.mutex l s.place.me t.place.me t.place.me (omega (arith, c.requires.mutex, c.requires.belongs.parts)) d.0 _ d.1)) d.2)

pub next_step-requires-clause-elsewhere : goal.next_step-requires-clause-elsewhere
next_step-requires-clause-elsewhere c =
    let s = c.args.seat.now in let l = c.args.pool.now.limits in let f = c.first_step-found in let t = f.new.seat in let d = f.ensures.step in elsewhere_now s.number s.place.id c.args.mutex l s.place.me t.place.me t.place.me (omega (arith, c.requires.mutex, c.requires.belongs.parts)) d.0 _ d.1 c.requires.elsewhere

pub next_step-requires-clause-is_next : goal.next_step-requires-clause-is_next
next_step-requires-clause-is_next c =
    let s = c.args.seat.now in let l = c.args.pool.now.limits in let f = c.first_step-found in let t = f.new.seat in let d = f.ensures.step in
    (subst (λ (n : ℕ). IsOwnAccessOf l.seats n (part t.place.me.0 c.args.mutex).state (Access.Store 1 n)) (sym f.ensures.table.2) (entering s.number s.place.id c.args.mutex l s.place.me t.place.me t.place.me (omega (arith, c.requires.mutex, c.requires.belongs.parts)) l.seats f.result c.if-found-ne0.false c.requires.may d))

pub returns-then-found-ne0-clause-enters : goal.returns-then-found-ne0-clause-enters
returns-then-found-ne0-clause-enters c = λ none. absurd (c.if-found-ne0.true none)

pub returns-then-found-ne0-clause-finds : goal.returns-then-found-ne0-clause-finds
returns-then-found-ne0-clause-finds c =
    let s = c.args.seat.now in let l = c.args.pool.now.limits in let f = c.first_step-found in let t = f.new.seat in let d = f.ensures.step in λ some. found_taken s.number s.place.id c.args.mutex l s.place.me t.place.me t.place.me (omega (arith, c.requires.mutex, c.requires.belongs.parts)) f.result c.if-found-ne0.true c.requires.may d

pub returns-clause-enters : goal.returns-clause-enters
returns-clause-enters c =
    let s = c.args.seat.now in let l = c.args.pool.now.limits in let f = c.first_step-found in let t = f.new.seat in let d = f.ensures.step in let h = c.next_step in
    λ none. entered s.number s.place.id c.args.mutex l s.place.me t.place.me h.new.seat.place.me (omega (arith, c.requires.mutex, c.requires.belongs.parts)) f.result h.result c.if-found-ne0.false (h.ensures.told ∙ f.ensures.table.2) c.requires.may d (subst (λ (z : ℕ × ℕ). StepsIn z.0 z.1 c.args.mutex l (part t.place.me.0 c.args.mutex).state t.place.me h.result h.new.seat.place.me) (λ i. (f.ensures.table.2 i, f.ensures.table.1 i)) h.ensures.step)

pub returns-clause-finds : goal.returns-clause-finds
returns-clause-finds c = λ some. absurd (some refl)

pub first_step-found-requires-clause-table : goal.first_step-found-requires-clause-table
first_step-found-requires-clause-table c = c.requires.belongs.table

pub first_step-found-requires-clause-inside : goal.first_step-found-requires-clause-inside
first_step-found-requires-clause-inside c = (c.requires.mutex, c.requires.belongs.parts)

pub returns-then-found-ne0-clause-belongs : goal.returns-then-found-ne0-clause-belongs
returns-then-found-ne0-clause-belongs c =
    let s = c.args.seat.now in let f = c.first_step-found in let d = f.ensures.step in
    record {
      table = f.ensures.table.0;
      id = f.ensures.table.1;
      number = f.ensures.table.2;
      parts = length_now s.number s.place.id c.args.mutex c.args.pool.now.limits s.place.me f.new.seat.place.me f.new.seat.place.me (omega (arith, c.requires.mutex, c.requires.belongs.parts)) d.0 _ d.1;
    }

pub returns-clause-belongs : goal.returns-clause-belongs
returns-clause-belongs c =
    let s = c.args.seat.now in let l = c.args.pool.now.limits in let f = c.first_step-found in let d = f.ensures.step in let h = c.next_step in let e = h.ensures.step in
    let here : c.args.mutex < length s.place.me.0.parts = omega (arith, c.requires.mutex, c.requires.belongs.parts) in
    let first = length_now s.number s.place.id c.args.mutex l s.place.me f.new.seat.place.me f.new.seat.place.me here d.0 _ d.1 in
    record {
      table = h.ensures.table.0 ∙ f.ensures.table.0;
      id = h.ensures.table.1 ∙ f.ensures.table.1;
      number = h.ensures.table.2 ∙ f.ensures.table.2;
      parts = length_now f.new.seat.number f.new.seat.place.id c.args.mutex l f.new.seat.place.me h.new.seat.place.me h.new.seat.place.me (omega (arith, here, first)) e.0 _ e.1 ∙ first;
    }

pub first_step-found-requires-clause-chained : goal.first_step-found-requires-clause-chained
first_step-found-requires-clause-chained c =
    let s = c.args.seat.now in let l = c.args.pool.now.limits in let may = c.requires.may in
    let x = begun_in s.place.me.0 c.args.mutex l Call.TryLock in
    let at : x.point ≡ TryCountExchange = ap (λ x. x.point) (try_begun (state_of s c.args.mutex) l may.rests may.flat may.charged) in (
      keeps_at x s.number (part s.place.me.0 c.args.mutex) (note_of s c.args.mutex) TryCountExchange at refl refl,
      may_push TryCountExchange (known s.place.me.0 c.args.mutex) x.point at tt,
    )

pub next_step-requires-clause-chained : goal.next_step-requires-clause-chained
next_step-requires-clause-chained c =
    let s = c.args.seat.now in let l = c.args.pool.now.limits in let f = c.first_step-found in let t = f.new.seat in let d = f.ensures.step in
    let at = entering_at s.number s.place.id c.args.mutex l s.place.me t.place.me t.place.me (omega (arith, c.requires.mutex, c.requires.belongs.parts)) f.result c.if-found-ne0.false c.requires.may d in (
      keeps_at (state_of t c.args.mutex) t.number (part t.place.me.0 c.args.mutex) (note_of t c.args.mutex) (EnterOwnerStore Entrant.Trier How.Free) at refl refl,
      may_push (EnterOwnerStore Entrant.Trier How.Free) (known t.place.me.0 c.args.mutex) (state_of t c.args.mutex).point at tt,
    )
