use Rattle.std.proofs.Common.{refl, sym, ap, ◌∙◌, arith, ℕ, List, [], ◌∷◌, append-nil}
use Rattle.lfm_protocol.specs.declared.points.Point.TheVariants.{TryOwnerLoad}
use Rattle.lfm_table.specs.Rule.{seen, value_in}
use Rattle.lfm_mutex.proofs.runs.WakeUps.{grants_join}
use Rattle.lfm_mutex.proofs.ends.OwnerLoads.{reads_owner, depth_seen}
use Rattle.lfm_mutex.proofs.runs.SightParts.{owner_read_sight, owner_told}
use Rattle.lfm_mutex.specs.calls.WakeUps.{grants_of}
use Rattle.lfm_table.proofs.tables.Actions.{load_last, run_by}
use Rattle.lfm_mutex.proofs.mutex.Mutex.owner.Goals as goal

pub read_owner-found-requires-clause-allowed : goal.read_owner-found-requires-clause-allowed
read_owner-found-requires-clause-allowed g c κs within = reads_owner g.T.Kept.follows g.T.Kept.fits _ _ _ c.args.seat.now.seated.user

pub returns-clause-tells : goal.returns-clause-tells
returns-clause-tells g c = let s = c.args.seat.now in let n = c.read_owner-found.result in let told = c.read_owner-found.ensures.read in
    let deep = depth_seen s.table_seat.place.me.0.state s.table_seat.limits s.state s.became in
    let low = s.rooted.low in let high = s.rooted.high in let few = s.rooted.few in
    let own = owner_told c.new.result n s.table_seat.number s.state.depth c.new.ensures.valid c.new.ensures.value low (omega (arith, high, few)) (λ is. deep.1 (told.2 (is ∙ sym s.seated.named))) (λ d. told.3 (deep.0 d) ∙ s.seated.named) in
    (n, owner_read_sight s.table_seat.number n s.state s.table_seat.place.me.0 c.read_owner-found.new.place.me.0 (value_in s.table_seat.moving) (ap (λ m. m.0) told.0), own.0, own.1, own.2)

pub returns-clause-woken : goal.returns-clause-woken
returns-clause-woken g c = let s = c.args.seat.now in let told = c.read_owner-found.ensures.read in
    ([], ap (λ (l : List ℕ). record s.off_trail { woken = l }) (sym (append-nil s.off_trail.woken)), ap (λ m. grants_of m.0.trail) told.0 ∙ grants_join s.table_seat.place.me.0.trail (seen TryOwnerLoad c.read_owner-found.result ∷ []))

pub returns-clause-run : goal.returns-clause-run
returns-clause-run g c = let s = c.args.seat.now in let told = c.read_owner-found.ensures.read in
    run_by (ap (λ m. m.0.number) told.0) (ap (λ m. m.0.limits) told.0) (load_last s.table_seat.place.me.0.number s.table_seat.place.me.0.number refl) told.4
