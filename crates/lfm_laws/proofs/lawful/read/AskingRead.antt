-- A state has a call that asks for a seat exactly if the seat's standing is asking.
use Rattle.std.proofs.Common.{◌≡◌, ℕ, zero, suc, true, ◌<◌, refl, sym, ap, arith}
use Rattle.std.proofs.lemmas.Bool.{false≢true, ne_eqb}
use Rattle.lfm_protocol.specs.declared.points.Point.{Point}
use Rattle.lfm_protocol.specs.declared.points.Point.TheVariants.{LockOwnerLoad, PushLoad, LinkStore, PushExchange}
use Rattle.lfm_protocol.specs.Core.{Core}
use Rattle.lfm_laws.specs.laws.Errands.{Asks}
use Rattle.lfm_laws.specs.steady.Ghost.{Responsibility, Standing, apart, claimed, asks, queued, Ghost}
use Rattle.lfm_protocol.specs.Seats.{seat}
use Rattle.lfm_laws.specs.steady.Steady.{KnowsAt, StandsAt, Fits}
use Rattle.lfm_laws.specs.steady.Views.{asks_for_at, is_asking}
use Rattle.lfm_laws.proofs.steady.frames.Seated.{seat_of_asking}
use Rattle.lfm_laws.proofs.steady.queue.Linking.{pushed_asks}

-- the agent of a seat that asks
agent_of : (standing : Standing) → is_asking standing ≡ true → (agent : ℕ) × (standing ≡ asks agent)
agent_of apart e = absurd (false≢true e)
agent_of (claimed agent) e = absurd (false≢true e)
agent_of (asks agent) e = (agent, refl)
agent_of (queued stamp) e = absurd (false≢true e)

asks_by : (c : Core) (g : Ghost) (x agent : ℕ) → Fits c g → g.standing x ≡ asks agent → Asks c x
asks_by c g x agent fits stands =
    let is = seat_of_asking c g x agent fits stands in
    record { agent = agent; some = is.above; counts = (fits.agents x).asked agent stands }

pub asks_read : (c : Core) (g : Ghost) → Fits c g → (x : ℕ) → is_asking (g.standing x) ≡ true → Asks c x
asks_read c g fits x e = let by = agent_of (g.standing x) e in asks_by c g x by.0 fits by.1

locker_asks : (g : Ghost) (depth s x : ℕ) (place : Responsibility) → 0 < x → asks_for_at depth s LockOwnerLoad ≡ x → StandsAt place depth s (g.standing s) LockOwnerLoad → g.standing x ≡ asks s
locker_asks g zero s x place some counts stands = rw (sym counts) stands
locker_asks g (suc depth) s x place some counts stands =
    let none : 0 ≡ x = rw (ne_eqb (suc depth) 0 (omega arith)) at counts in
    absurd (omega arith)

stands_asking : (c : Core) (g : Ghost) (depth s x posts : ℕ) (p : Point) → 0 < x → asks_for_at depth s p ≡ x → StandsAt g.place depth s (g.standing s) p → KnowsAt c g s posts p
    → g.standing x ≡ asks s
stands_asking c g depth s x posts LockOwnerLoad some counts stands knows = locker_asks g depth s x g.place some counts stands
stands_asking c g depth s x posts (PushLoad pusher) some counts stands knows = rw (← counts) (pushed_asks g s pusher stands knows)
stands_asking c g depth s x posts (LinkStore pusher seen) some counts stands knows = rw (← counts) (pushed_asks g s pusher stands knows.0)
stands_asking c g depth s x posts (PushExchange pusher seen) some counts stands knows = rw (← counts) (pushed_asks g s pusher stands knows.0)
stands_asking c g depth s x posts _ some counts stands knows = absurd (omega arith)

pub asked_read : (c : Core) (g : Ghost) → Fits c g → (x : ℕ) → Asks c x → is_asking (g.standing x) ≡ true
asked_read c g fits x by =
    let here = fits.each by.agent in
    let stands = stands_asking c g (seat c.seats by.agent).depth by.agent x (seat c.seats by.agent).posts (seat c.seats by.agent).point by.some by.counts here.stands here.knows in
    ap is_asking stands
