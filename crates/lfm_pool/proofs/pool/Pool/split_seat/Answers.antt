use Rattle.std.proofs.Common.{ℕ, sym, subst, arith}
use Rattle.atomic_table.specs.Table.{Splits}
use Rattle.lfm_pool.specs.Posts.{HeldPosts}
use Rattle.lfm_pool.specs.Rule.{left_view, right_view}
use Rattle.lfm_pool.proofs.Splitting.{posts_split}
use Rattle.lfm_pool.proofs.pool.Pool.split_seat.Goals as goal

pub split_seat-requires : goal.split_seat-requires
split_seat-requires c =
    let f = c.args.self.now in let v = c.args.first.now.place.me.0 in let some = c.requires.may.0 in let many = c.requires.inside in let wide = f.wide in (
      c.requires.table.0,
      omega (arith, some, many, wide),
      subst (λ (i : ℕ). Splits HeldPosts i v (left_view v) (right_view v)) (sym c.requires.table.1) (posts_split v c.requires.may),
    )
