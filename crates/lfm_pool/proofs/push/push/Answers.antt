use Rattle.std.proofs.Common.{ℕ, ◌<◌, refl, sym, ◌∙◌, subst, arith}
use Rattle.std.specs.Prelude.{length}
use Rattle.lfm_pool.specs.Seats.{state_of}
use Rattle.lfm_pool.specs.Steps.{Sits, StepsIn}
use Rattle.lfm_pool.specs.Tables.{known, part}
use Rattle.lfm_pool.proofs.FastPaths.{elsewhere_now}
use Rattle.lfm_pool.proofs.Pushing.{exchanges_push, pushed, sits_now}
use Rattle.lfm_pool.proofs.SeatWords.{packs_link}
use Rattle.lfm_pool.proofs.Keeping.{keeps_at, may_push}
use Rattle.lfm_protocol.specs.declared.points.Point.TheVariants.{LinkStore, PushExchange}
use Rattle.lfm_protocol.specs.declared.points.Pusher.{Pusher}
use Rattle.lfm_pool.specs.Seats.{note_of}
use Rattle.lfm_pool.proofs.Pushing.{exchanges_at}
use Rattle.lfm_pool.proofs.Admitted.{admitted_step}
use Rattle.lfm_pool.proofs.push.push.Goals as goal

pub next_step-requires-clause-table : goal.next_step-requires-clause-table
next_step-requires-clause-table c = c.link_store.ensures.belongs.table ∙ c.requires.belongs.table

pub next_step-requires-clause-inside : goal.next_step-requires-clause-inside
next_step-requires-clause-inside c = (c.requires.mutex, c.link_store.ensures.belongs.parts ∙ c.requires.belongs.parts)

pub next_step-requires-clause-sits : goal.next_step-requires-clause-sits
next_step-requires-clause-sits c =
    let s = c.args.seat.now in let l = c.args.pool.now.limits in let f = c.link_store in let t = f.new.seat in
    let here : c.args.mutex < length s.place.me.0.parts = (let less = c.requires.mutex in let many = c.requires.belongs.parts in omega (arith, less, many)) in
    subst (λ (z : ℕ × ℕ). Sits z.0 z.1 l (state_of t c.args.mutex) (part t.place.me.0 c.args.mutex)) (λ i. (sym f.ensures.belongs.number i, sym f.ensures.belongs.id i))
    (sits_now s.number s.place.id c.args.mutex l s.place.me t.place.me t.place.me here c.args.loaded _ 0 c.requires.at f.ensures.step)

pub next_step-requires-clause-elsewhere : goal.next_step-requires-clause-elsewhere
next_step-requires-clause-elsewhere c =
    let s = c.args.seat.now in let l = c.args.pool.now.limits in let f = c.link_store in let t = f.new.seat in let d = f.ensures.step in
    let here : c.args.mutex < length s.place.me.0.parts = (let less = c.requires.mutex in let many = c.requires.belongs.parts in omega (arith, less, many)) in
    elsewhere_now s.number s.place.id c.args.mutex l s.place.me t.place.me t.place.me here d.0 _ d.1 c.requires.elsewhere

pub next_step-requires-clause-is_next : goal.next_step-requires-clause-is_next
next_step-requires-clause-is_next c =
    let s = c.args.seat.now in let l = c.args.pool.now.limits in let f = c.link_store in let t = f.new.seat in
    let here : c.args.mutex < length s.place.me.0.parts = (let less = c.requires.mutex in let many = c.requires.belongs.parts in omega (arith, less, many)) in
    exchanges_push s.number s.place.id c.args.mutex l s.place.me t.place.me t.place.me here c.args.loaded _ 0 c.requires.at f.ensures.step l.seats t.number c.pack_link-expected.result c.pack_link-new.result
    f.ensures.belongs.number c.pack_link-expected.ensures c.pack_link-new.ensures

pub returns-clause-pushes : goal.returns-clause-pushes
returns-clause-pushes c =
    let s = c.args.seat.now in let l = c.args.pool.now.limits in let f = c.link_store in let t = f.new.seat in let h = c.next_step in
    let here : c.args.mutex < length s.place.me.0.parts = (let less = c.requires.mutex in let many = c.requires.belongs.parts in omega (arith, less, many)) in
    pushed s.number s.place.id c.args.mutex l s.place.me t.place.me h.new.seat.place.me here c.args.loaded _ h.result c.requires.at f.ensures.step refl c.requires.sits
    (subst (λ (z : ℕ × ℕ). StepsIn z.0 z.1 c.args.mutex l (state_of t c.args.mutex) t.place.me h.result h.new.seat.place.me) (λ i. (f.ensures.belongs.number i, f.ensures.belongs.id i)) h.ensures.step)

pub returns-clause-sees : goal.returns-clause-sees
returns-clause-sees c =
    let s = c.args.seat.now in let l = c.args.pool.now.limits in let f = c.link_store in let t = f.new.seat in
    let here : c.args.mutex < length s.place.me.0.parts = (let less = c.requires.mutex in let many = c.requires.belongs.parts in omega (arith, less, many)) in
    c.next_step.ensures.finds.sees Pusher.Locker c.args.loaded (exchanges_at s.number s.place.id c.args.mutex l s.place.me t.place.me t.place.me here c.args.loaded _ 0 c.requires.at f.ensures.step)

pub pack_link-expected-requires-clause-stamp : goal.pack_link-expected-requires-clause-stamp
pack_link-expected-requires-clause-stamp c = let k = packs_link c.args.pool.now.mutexes c.args.pool.now.limits.seats c.args.mutex c.args.seat.now.number 0 0 (state_of c.args.seat.now c.args.mutex) c.requires.sits.ready c.args.loaded c.requires.at in let small = k.stamp in omega (arith, small)

pub pack_link-expected-requires-clause-next : goal.pack_link-expected-requires-clause-next
pack_link-expected-requires-clause-next c = (packs_link c.args.pool.now.mutexes c.args.pool.now.limits.seats c.args.mutex c.args.seat.now.number 0 0 (state_of c.args.seat.now c.args.mutex) c.requires.sits.ready c.args.loaded c.requires.at).next

pub pack_link-new-requires-clause-stamp : goal.pack_link-new-requires-clause-stamp
pack_link-new-requires-clause-stamp c = (packs_link c.args.pool.now.mutexes c.args.pool.now.limits.seats c.args.mutex c.args.seat.now.number 0 0 (state_of c.args.seat.now c.args.mutex) c.requires.sits.ready c.args.loaded c.requires.at).stamp

pub pack_link-new-requires-clause-next : goal.pack_link-new-requires-clause-next
pack_link-new-requires-clause-next c =
    let high = c.requires.sits.rooted.high in let few = c.args.pool.now.few.0 in let same = c.link_store.ensures.belongs.number in omega (arith, high, few, same)

pub next_step-requires-clause-chained : goal.next_step-requires-clause-chained
next_step-requires-clause-chained c =
    let s = c.args.seat.now in let l = c.args.pool.now.limits in let f = c.link_store in let t = f.new.seat in
    let here : c.args.mutex < length s.place.me.0.parts = (let less = c.requires.mutex in let many = c.requires.belongs.parts in omega (arith, less, many)) in
    let at = exchanges_at s.number s.place.id c.args.mutex l s.place.me t.place.me t.place.me here c.args.loaded _ 0 c.requires.at f.ensures.step in (
      keeps_at (state_of t c.args.mutex) t.number (part t.place.me.0 c.args.mutex) (note_of t c.args.mutex) (PushExchange Pusher.Locker c.args.loaded) at refl refl,
      may_push (PushExchange Pusher.Locker c.args.loaded) (known t.place.me.0 c.args.mutex) (state_of t c.args.mutex).point at
          (admitted_step s.number s.place.id c.args.mutex l (state_of s c.args.mutex) s.place.me _ t.place.me here (LinkStore Pusher.Locker c.args.loaded) c.requires.at refl f.ensures.step c.requires.admitted),
    )
