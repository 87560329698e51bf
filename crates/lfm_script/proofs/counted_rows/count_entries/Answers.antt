use Rattle.std.proofs.Common.{◌-◌, ◌<◌, length, arith, rules}
use Rattle.lfm_script.proofs.RowCounts.{within_at, row_fits, entry_counted}
use Rattle.lfm_script.proofs.counted_rows.count_entries.Goals as goal

pub bounds-rows-at : goal.bounds-rows-at
bounds-rows-at c =
    let seat = within_at (length c.args.rows.now) c.args.entries.now c.counting.entry-index c.entry-item.result c.requires.within c.counting-test.true c.entry-item.is in
    let get = c.get.ensures.value in
    omega (arith, seat.0, seat.1, get, c.counting.invariant.all)

pub count_entry-requires : goal.count_entry-requires
count_entry-requires c =
    let seat = within_at (length c.args.rows.now) c.args.entries.now c.counting.entry-index c.entry-item.result c.requires.within c.counting-test.true c.entry-item.is in
    let get = c.get.ensures.value in
    let there : c.get.result - 1 < length c.args.rows.now = omega (arith, seat.0, seat.1, get) in
    record {
      fits = row_fits c.counting.rows c.args.rows.now c.args.entries.now c.counting.entry-index c.entry-item.result c.counting-test.true c.entry-item.is
          (c.get.result - 1) _ (omega (arith, seat.0, get)) there c.counting.invariant.left (c.requires.fits (c.get.result - 1) _ there);
    }

pub counting-preserved : goal.counting-preserved
counting-preserved c =
    let seat = within_at (length c.args.rows.now) c.args.entries.now c.counting.entry-index c.entry-item.result c.requires.within c.counting-test.true c.entry-item.is in
    let get = c.get.ensures.value in
    record {
      all = search rules;
      left = entry_counted c.counting.rows c.args.rows.now c.args.entries.now c.counting.entry-index c.entry-item.result c.counting-test.true c.entry-item.is
          (c.get.result - 1) _ c.count_entry.new.self (omega (arith, seat.0, get)) c.counting.invariant.all c.count_entry.ensures c.counting.invariant.left;
    }
