-- The seats whose words a carrier touches: a seat whose record is collected or granted is queued, and so it has a link.
use Rattle.std.proofs.Common.{◌≡◌, ℕ, ◌+◌, nat_eq, if◌then◌else◌, refl, ap, ◌∙◌, subst, arith}
use Rattle.std.specs.Prelude.{Bool, true, false}
use Rattle.lfm_model.specs.declared.answers.How.{How}
use Rattle.lfm_words.specs.declared.pop_lists.Record.{Record}
use Rattle.lfm_protocol.specs.declared.points.Carrier.{Carrier}
use Rattle.lfm_protocol.specs.declared.points.Entrant.{Entrant}
use Rattle.lfm_protocol.specs.declared.points.Point.{Point}
use Rattle.lfm_protocol.specs.declared.points.Point.TheVariants.{Asleep, LockOwnerLoad, PushLoad, LinkStore, PushExchange, PushedHandoffLoad, PushedHandoffExchange, TakeClearHead, TakeLinkLoad, GrantWakeStore, EnterOwnerStore, ReceiveWakeLoad}
use Rattle.lfm_protocol.specs.declared.points.Pusher.{Pusher}
use Rattle.lfm_protocol.specs.Core.{Core}
use Rattle.lfm_protocol.specs.Seats.{seat, wake}
use Rattle.lfm_laws.specs.steady.Ghost.{Responsibility, Standing, apart, asks, queued, Ghost}
use Rattle.lfm_laws.specs.steady.Steady.{Fits, StandsAt}
use Rattle.lfm_laws.proofs.steady.queue.Popping.{first_of}
use Rattle.lfm_laws.proofs.steady.queue.Pushers.{fits_at}
use Rattle.lfm_pool.specs.Tables.{has_link_at}

asks_or_apart : (b : Bool) (stamp s : ℕ) → ◌≡◌ {A = Standing} (queued stamp) (if b then asks s else apart) → ⊥
asks_or_apart true stamp s e = absurd (cc)
asks_or_apart false stamp s e = absurd (cc)

queued_has_link : (place : Responsibility) (depth s stamp : ℕ) (q : Point) → StandsAt place depth s (queued stamp) q → has_link_at q ≡ true
queued_has_link place depth s stamp (Asleep sleeper) e = refl
queued_has_link place depth s stamp (ReceiveWakeLoad sleeper) e = refl
queued_has_link place depth s stamp LockOwnerLoad e = absurd (asks_or_apart (nat_eq depth 0) stamp s e)
queued_has_link place depth s stamp (PushLoad Pusher.Locker) e = absurd (cc)
queued_has_link place depth s stamp (PushLoad (Pusher.Sender t)) e = absurd (cc)
queued_has_link place depth s stamp (LinkStore Pusher.Locker seen) e = absurd (cc)
queued_has_link place depth s stamp (LinkStore (Pusher.Sender t) seen) e = absurd (cc)
queued_has_link place depth s stamp (PushExchange Pusher.Locker seen) e = refl
queued_has_link place depth s stamp (PushExchange (Pusher.Sender t) seen) e = absurd (cc)
queued_has_link place depth s stamp (PushedHandoffLoad Pusher.Locker) e = refl
queued_has_link place depth s stamp (PushedHandoffLoad (Pusher.Sender t)) e = absurd (cc)
queued_has_link place depth s stamp (PushedHandoffExchange Pusher.Locker seen) e = refl
queued_has_link place depth s stamp (PushedHandoffExchange (Pusher.Sender t) seen) e = absurd (cc)
queued_has_link place depth s stamp (TakeClearHead Carrier.Locker) e = refl
queued_has_link place depth s stamp (TakeClearHead (Carrier.Releaser r)) e = absurd (cc)
queued_has_link place depth s stamp (TakeClearHead (Carrier.Reclaimer r)) e = absurd (cc)
queued_has_link place depth s stamp (TakeClearHead Carrier.Sender) e = absurd (cc)
queued_has_link place depth s stamp (TakeLinkLoad Carrier.Locker next) e = refl
queued_has_link place depth s stamp (TakeLinkLoad (Carrier.Releaser r) next) e = absurd (cc)
queued_has_link place depth s stamp (TakeLinkLoad (Carrier.Reclaimer r) next) e = absurd (cc)
queued_has_link place depth s stamp (TakeLinkLoad Carrier.Sender next) e = absurd (cc)
queued_has_link place depth s stamp (GrantWakeStore Carrier.Locker r) e = refl
queued_has_link place depth s stamp (GrantWakeStore (Carrier.Releaser r) x) e = absurd (cc)
queued_has_link place depth s stamp (GrantWakeStore (Carrier.Reclaimer r) x) e = absurd (cc)
queued_has_link place depth s stamp (GrantWakeStore Carrier.Sender x) e = absurd (cc)
queued_has_link place depth s stamp (EnterOwnerStore Entrant.Locker How.Free) e = absurd (cc)
queued_has_link place depth s stamp (EnterOwnerStore Entrant.Locker (How.Queued n)) e = refl
queued_has_link place depth s stamp (EnterOwnerStore Entrant.Trier how) e = absurd (cc)
queued_has_link place depth s stamp (EnterOwnerStore Entrant.Receiver how) e = absurd (cc)
queued_has_link place depth s stamp _ e = absurd (cc)

module _ (c : Core) (g : Ghost) (fits : Fits c g) where
  pub queued_linked : (t stamp : ℕ) → g.standing t ≡ queued stamp → has_link_at (seat c.seats t).point ≡ true
  queued_linked t stamp e =
      let x = seat c.seats t in
      queued_has_link g.place x.depth t stamp x.point (subst (λ (z : Standing). StandsAt g.place x.depth t z x.point) e (fits.each t).stands)

  -- the seat whose link is loaded has it
  pub collected_linked : (s next : ℕ) (carrier : Carrier) → (seat c.seats s).point ≡ TakeLinkLoad carrier next → has_link_at (seat c.seats next).point ≡ true
  collected_linked s next carrier at =
      let here = fits_at c g s (seat c.seats s) (wake c.wakes s) (TakeLinkLoad carrier next) at (fits.each s) in
      let stamp = fits.stamps (g.popped + g.walk) (omega (arith, here.knows.0)) (let parts = fits.words.parts in omega (arith, parts)) in
      queued_linked next (g.popped + g.walk) (ap g.standing here.knows.1 ∙ stamp.stands)

  -- the seat that is granted has a link
  pub granted_linked : (s : ℕ) (carrier : Carrier) (oldest : Record) → (seat c.seats s).point ≡ GrantWakeStore carrier oldest → has_link_at (seat c.seats oldest.seat).point ≡ true
  granted_linked s carrier oldest at =
      let here = fits_at c g s (seat c.seats s) (wake c.wakes s) (GrantWakeStore carrier oldest) at (fits.each s) in
      let first = first_of c g oldest here.knows.1.0 fits here.knows.0 here.knows.1.1 in
      queued_linked oldest.seat _ first.stands
