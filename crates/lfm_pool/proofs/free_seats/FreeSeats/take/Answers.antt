use Rattle.std.proofs.Common.{◌≡◌, ◌+◌, ◌<◌, ◌≤◌, ◌∙◌, ℕ, ap, refl, arith}
use Rattle.lfm_pool.specs.declared.pool.TableSeat.{TableSeat}
use Rattle.lfm_pool.proofs.NewSeats.{last_taken, next_taken, others_free}
use Rattle.lfm_pool.proofs.free_seats.FreeSeats.take.Goals as goal

-- no seat is left beyond the one that is taken
is_last : (taken seats : ℕ) → seats ≤ taken + 1 → taken < seats → taken + 1 ≡ seats
is_last taken seats most below = omega (arith, most, below)

pub returns-then-taken-pool-clause-between : goal.returns-then-taken-pool-clause-between
returns-then-taken-pool-clause-between c =
    let f = c.args.self in let p = c.args.pool.now in let new = c.new.ensures in
    (last_taken f p c.requires.free c.new.result (is_last f.taken p.limits.seats c.if-taken-pool.true c.requires.free.left) new.0 new.1 new.2).1

pub returns-clause-takes : goal.returns-clause-takes
returns-clause-takes c =
    let f = c.args.self in let p = c.args.pool.now in let more = c.if-taken-pool.false in let cut = c.split_seat-seat.ensures in let new = c.new-2.ensures in (
      more,
      (next_taken f p c.requires.free c.new-2.result more (ap (λ (s : TableSeat). s.place.table_id) new.0 ∙ cut.split.1) (ap (λ (s : TableSeat). s.number) new.0 ∙ cut.split.3) (ap (λ (s : TableSeat). s.place.me) new.0 ∙ cut.split.2) new.1 new.2).0,
      others_free f p c.requires.free _ more refl cut.table.0 cut.table.1 cut.table.2 cut.split.0,
      refl,
    )

pub returns-clause-between : goal.returns-clause-between
returns-clause-between c =
    let f = c.args.self in let p = c.args.pool.now in let more = c.if-taken-pool.false in let cut = c.split_seat-seat.ensures in let new = c.new-2.ensures in
    (next_taken f p c.requires.free c.new-2.result more (ap (λ (s : TableSeat). s.place.table_id) new.0 ∙ cut.split.1) (ap (λ (s : TableSeat). s.number) new.0 ∙ cut.split.3) (ap (λ (s : TableSeat). s.place.me) new.0 ∙ cut.split.2) new.1 new.2).1

pub returns-clause-left : goal.returns-clause-left
returns-clause-left c =
    let more = c.if-taken-pool.false in let cut = c.split_seat-seat.ensures in others_free c.args.self c.args.pool.now c.requires.free _ more refl cut.table.0 cut.table.1 cut.table.2 cut.split.0
