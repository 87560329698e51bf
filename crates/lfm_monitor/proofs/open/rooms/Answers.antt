use Rattle.std.proofs.Common.{◌≡◌, [], ℕ, ◌∙◌, vec_capacity, arith, Vec}
use Rattle.std.specs.Global.{Global}
use Rattle.lfm_monitor.proofs.Places.{each_more}
use Rattle.lfm_monitor.proofs.open.rooms.Goals as goal

pub rooms-preserved : goal.rooms-preserved
rooms-preserved g c = let i = c.rooms.invariant in let p = c.push_reserved.ensures in record {
  count = (let z = i.count in let l = p.len in omega arith, p.capacity ∙ i.count.1);
  empty = each_more (λ (j : ℕ) (r : Vec g.row.T.Denot Global). (r.items ≡ []) × (vec_capacity r ≡ c.args.each)) c.rooms.lists.items c.push_reserved.new.self.items c.in-Ok-with_capacity.list p.items i.empty
      (c.in-Ok-with_capacity.ensures.items, c.in-Ok-with_capacity.ensures.exact);
}
