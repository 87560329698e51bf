use Rattle.std.proofs.Common.{rules, ◌≡◌, [], ◌∷◌, ◌+◌, ◌*◌, List, replicate, ap, ◌∙◌, sym, subst, Some, Option}
use Rattle.lfm_table.specs.Table.{opening}
use Rattle.lfm_table.specs.declared.rule.Moving.{Moving}
use Rattle.lfm_table.specs.Rule.{Held, first_view}
use Rattle.lfm_table.proofs.tables.Starts.{starts}
use Rattle.lfm_mutex.proofs.open.new_table.Goals as goal

pub new-requires-3-clause-kept : goal.new-requires-3-clause-kept
new-requires-3-clause-kept g c κs within = let ws = c.as_slice.result.now in let l = c.args.limits in
    let x : Moving g.row.T.Denot = record { popped = c.in-Ok.popped; value = c.args.value } in let e : c.push.new.self.items ≡ Some x ∷ [] = search rules in let v : c.of.result.value ≡ c.args.value = search rules in
    let are : ws ≡ replicate (4 + 2 * c.args.limits.seats) 0 = c.as_slice.ensures.value ∙ c.in-Ok-from_elem.ensures.items_if_clones_equal (λ y q. q) in
    let allowed = c.requires.allowed in
    let made = c.in-Ok.ensures in
    subst (λ (t : List (Option (Moving g.row.T.Denot)) × g.row.T.Denot). Held g.T.Kept.follows g.T.Kept.fits (opening ws t.0 (first_view l t.1))) (λ i. (sym e i, sym v i))
    (starts g.T.Kept.follows g.T.Kept.fits l ws x allowed are (ap (λ p. p.records) made) (ap (λ p. p.room) made) c.requires.fits)
