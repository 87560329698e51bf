use Rattle.std.proofs.Common.{◌<◌, ℕ, sym, subst, arith}
use Rattle.lfm_mutex.specs.declared.seat.Seat.{Seat}
use Rattle.lfm_mutex.specs.Belongs.{OfMutex, limits_of}
use Rattle.lfm_mutex.specs.calls.Sight.{sight}
use Rattle.lfm_plain_condvar.specs.declared.waiters.Waiters.{Waiters}
use Rattle.lfm_plain_condvar.specs.Parkers.{times}
use Rattle.lfm_plain_condvar.proofs.Closing.{all_since, all_stand, have_run, left_by_last_hold, left_last, none_missing, same_at}
use Rattle.lfm_plain_condvar.proofs.Followed.{since_reached}
use Rattle.lfm_plain_condvar.proofs.condvar.PlainCondvar.close.Goals as goal

pub take_wakers-all-requires : goal.take_wakers-all-requires
take_wakers-all-requires c = record { have = λ j s at. let b = c.requires.belongs j s at in (b.1, b.0.1.high) }

pub close-requires-clause-belongs : goal.close-requires-clause-belongs
close-requires-clause-belongs c κs = λ j s at. let a = same_at c.args.seats.items c.take_wakers-all.new.seats.items c.take_wakers-all.ensures.same j s at in
    subst (λ (q : Seat Waiters). OfMutex q c.args.self.inner) a.2 (c.requires.belongs j a.0 a.1).0.0

pub last_counts-requires : goal.last_counts-requires
last_counts-requires c = let xs = c.args.seats.items in let ys = c.take_wakers-all.new.seats.items in let w = c.in-Ok.waiters in
    let l = left_last xs ys c.take_wakers-all.ensures.same w c.in-Ok.ensures.last in
    record {
      of = (c.requires.belongs l.0 l.1 l.2).0.1.made w l.3;
      all = c.take_wakers-all.ensures.all;
      has = λ k low high. let one = c.args.self.one in let h = (c.in_default.ensures k low (omega arith)).0 in
          subst (λ (n : ℕ). 0 < times n c.take_wakers-all.result.seat.me.0.wakers) h.3 (c.take_wakers-all.ensures.has h.0 h.1 h.2);
    }

pub returns-clause-counts : goal.returns-clause-counts
returns-clause-counts c = let xs = c.args.seats.items in let ys = c.take_wakers-all.new.seats.items in let same = c.take_wakers-all.ensures.same in let w = c.in-Ok.waiters in let e = c.in-Ok.ensures in
    (w, c.last_counts.ensures.counts, all_since xs ys same w (λ j s l at is. since_reached (sight s.seat).seats (sight s.seat).number l w (e.reached j s l at is)), left_last xs ys same w e.last, left_by_last_hold xs ys same w e.latest)

pub returns-clause-run : goal.returns-clause-run
returns-clause-run c = have_run c.args.seats.items c.take_wakers-all.new.seats.items c.take_wakers-all.ensures.same (limits_of c.args.self.inner) c.in-Ok.ensures.run

pub unreachable-requires : goal.unreachable-requires
unreachable-requires c = let xs = c.args.seats.items in let ys = c.take_wakers-all.new.seats.items in let n = (limits_of c.args.self.inner).seats in
    none_missing ys n _ (all_stand ys xs (sym c.take_wakers-all.ensures.same) n c.in_default.ensures) c.in-Err.ensures.missing.2
