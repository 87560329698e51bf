use Rattle.std.proofs.Common.{ap, arith, get_or, length, ◌+◌, ◌<◌, ◌∙◌, ◌≡◌}
use Rattle.std.proofs.lemmas.Grind.{common_steps}
use Rattle.std.proofs.lemmas.List.{with_items_is}
use Rattle.lfm_script.specs.Rows.{refusal_at}
use Rattle.lfm_script.proofs.RowCounts.{idle_fits, rows_counted}
use Rattle.lfm_script.proofs.counted_rows.rows_of.Goals as goal

pub count_entries-requires-clause-fits : goal.count_entries-requires-clause-fits
count_entries-requires-clause-fits c i d below =
    let there : i < c.making.index = omega (arith, below, c.as_mut_slice.ensures.len, c.making.invariant.made) in
    idle_fits (get_or c.as_mut_slice.result.now i d) (i + 1) (i + 1) (refusal_at c.args.refusals.now (i + 1)) c.args.entries.now
    (ap (λ rows. get_or rows i d) c.as_mut_slice.ensures.value ∙ c.making.invariant.each i d there) c.requires.few c.requires.fits

pub returns : goal.returns
returns c =
    let end : c.making.index ≡ length c.args.refusals.now = omega (arith, c.making-test.false, c.making.auto.index-end) in
    let many : length c.as_mut_slice.result.now ≡ length c.args.refusals.now = c.as_mut_slice.ensures.len ∙ c.making.invariant.made ∙ end in
    with_items_is c.making.rows c.count_entries.new.rows (c.count_entries.ensures.all ∙ c.as_mut_slice.ensures.len)
    ∙ rows_counted c.as_mut_slice.result.now c.count_entries.new.rows (refusal_at c.args.refusals.now) c.args.entries.now (length c.args.refusals.now) many c.count_entries.ensures.all
    (λ i d below. ap (λ rows. get_or rows i d) c.as_mut_slice.ensures.value ∙ c.making.invariant.each i d (omega (arith, below, end)))
    c.count_entries.ensures.each

pub making-preserved : goal.making-preserved
making-preserved c = grind (arith, common_steps)
