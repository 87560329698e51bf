use Rattle.std.proofs.Common.{ℕ, sym, refl, subst}
use Rattle.lfm_protocol.specs.declared.answers.Call.{Call}
use Rattle.lfm_table.specs.declared.operations.Access.{Access}
use Rattle.lfm_pool.specs.Moves.{StartsAtIn}
use Rattle.lfm_pool.specs.Steps.{IsPlainAccessOf, Sits, begun_at, state_at}
use Rattle.lfm_pool.specs.Tables.{part}
use Rattle.lfm_pool.proofs.DeepCalls.{carries_there, exchanged, exchanges, loads_owner, noted_there, tries_again}
use Rattle.lfm_pool.proofs.Deepening.{may_noted}
use Rattle.lfm_pool.proofs.SeveralSteps.{same_then}
use Rattle.lfm_pool.proofs.deepen.try_again.Goals as goal

pub start_at-requires-clause-now : goal.start_at-requires-clause-now
start_at-requires-clause-now g c =
    let s = c.args.seat.now in let m = c.args.mutex in let r = c.requires in
    subst (λ (d : ℕ). Sits s.number s.place.id c.args.pool.now.limits (state_at s.place.me.0 m d) (part s.place.me.0 m)) (sym r.one) r.has.now

pub start_at-requires-clause-is_next : goal.start_at-requires-clause-is_next
start_at-requires-clause-is_next g c =
    let s = c.args.seat.now in let p = c.args.pool.now in let m = c.args.mutex in let r = c.requires in
    subst (λ (d : ℕ). IsPlainAccessOf p.limits.seats s.number (begun_at s.place.me.0 m d p.limits Call.TryLock) (Access.CompareExchange 0 0 1)) (sym r.one) (exchanges s p m c.args.depth r.may r.has r.holds.0 r.holds.1)

pub note_depth-requires-clause-belongs : goal.note_depth-requires-clause-belongs
note_depth-requires-clause-belongs g c = c.start_at.ensures.may.belongs

pub note_depth-requires-clause-mutex : goal.note_depth-requires-clause-mutex
note_depth-requires-clause-mutex g c = c.requires.may.mutex

pub note_depth-requires-clause-carries : goal.note_depth-requires-clause-carries
note_depth-requires-clause-carries g c =
    let s = c.args.seat.now in let p = c.args.pool.now in let m = c.args.mutex in let r = c.requires in let f = c.start_at in
    let did = subst (λ (d : ℕ). StartsAtIn s f.new.seat p m d Call.TryLock f.result) r.one f.ensures.step in
    carries_there s p m c.args.depth r.may r.has r.holds.0 r.holds.1 f.new.seat _ _ (exchanged s p m c.args.depth r.may r.has r.holds.0 r.holds.1 f.new.seat f.result did) refl

pub note_depth-requires-clause-noted : goal.note_depth-requires-clause-noted
note_depth-requires-clause-noted g c =
    let s = c.args.seat.now in let p = c.args.pool.now in let m = c.args.mutex in let r = c.requires in let f = c.start_at in
    let did = subst (λ (d : ℕ). StartsAtIn s f.new.seat p m d Call.TryLock f.result) r.one f.ensures.step in
    noted_there s p m c.args.depth r.may r.has r.holds.0 r.holds.1 f.new.seat _ _ (exchanged s p m c.args.depth r.may r.has r.holds.0 r.holds.1 f.new.seat f.result did) refl

pub go_on-requires-clause-may : goal.go_on-requires-clause-may
go_on-requires-clause-may g c =
    let f = c.start_at in let h = c.note_depth in may_noted f.new.seat h.new.seat c.args.pool.now c.args.mutex _ f.ensures.may h.ensures.belongs h.ensures.notes

pub go_on-requires-clause-is_next : goal.go_on-requires-clause-is_next
go_on-requires-clause-is_next g c =
    let s = c.args.seat.now in let p = c.args.pool.now in let m = c.args.mutex in let r = c.requires in let f = c.start_at in let h = c.note_depth in
    let did = subst (λ (d : ℕ). StartsAtIn s f.new.seat p m d Call.TryLock f.result) r.one f.ensures.step in
    loads_owner s p m c.args.depth r.may r.has r.holds.0 r.holds.1 f.new.seat f.result did f.ensures.belongs h.new.seat h.ensures.notes h.ensures.belongs

pub returns-clause-belongs : goal.returns-clause-belongs
returns-clause-belongs g c =
    let s = c.args.seat.now in let f = c.start_at in let h = c.note_depth in let k = c.go_on in
    same_then s h.new.seat k.new.seat (same_then s f.new.seat h.new.seat f.ensures.belongs h.ensures.belongs) k.ensures.belongs

pub returns-clause-deepens : goal.returns-clause-deepens
returns-clause-deepens g c =
    let s = c.args.seat.now in let p = c.args.pool.now in let m = c.args.mutex in let r = c.requires in let f = c.start_at in let h = c.note_depth in let k = c.go_on in
    let did = subst (λ (d : ℕ). StartsAtIn s f.new.seat p m d Call.TryLock f.result) r.one f.ensures.step in
    tries_again s p m c.args.depth r.may r.has r.holds.0 r.holds.1 f.new.seat f.result did f.ensures.belongs h.new.seat h.ensures.notes h.ensures.belongs k.new.seat k.result k.ensures.step
    (may_noted f.new.seat h.new.seat p m _ f.ensures.may h.ensures.belongs h.ensures.notes)
