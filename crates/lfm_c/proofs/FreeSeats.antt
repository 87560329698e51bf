-- Any two proofs that these are the free seats of a pool are equal. So a pool that keeps only that there is one has it.
use Rattle.std.specs.Prelude.{IfSome}
use Rattle.std.proofs.Common.{◌≡◌, ℕ, Option, Some, sym, subst}
use Rattle.std.proofs.Props.{props}
use Rattle.std.proofs.Math.Logic.{∥∥₁_elim}
use Rattle.std.specs.Coded.{Coded-set, coded×, coded_list, coded_ℕ}
use Rattle.atomic_table.specs.Seated.{table_id_coded}
use Rattle.atomic_table.specs.Table.{Me}
use Rattle.lfm_pool.specs.declared.free_seats.FreeSeats.{FreeSeats}
use Rattle.lfm_pool.specs.declared.pool.Pool.{Pool}
use Rattle.lfm_pool.specs.declared.view.PoolView.{PoolView}
use Rattle.lfm_pool.specs.contracts.view.PoolView.{the_row as view_row}
use Rattle.lfm_pool.specs.NewSeats.{AreFreeSeats}

Me-set : IsSet (Me ℕ PoolView)
Me-set = Coded-set (coded× view_row.coded (coded_list (coded× coded_ℕ coded_ℕ)))

AreFreeSeats-prop : (f : FreeSeats) (p : Pool) → IsProp (AreFreeSeats f p)
AreFreeSeats-prop f p = hlevel (props, table_id_coded, Me-set)

-- the fact, of seats of a pool p that keeps only that there is a proof; q is a reference to this pool
pub free : (o : Option FreeSeats) (f : FreeSeats) (p q : Pool) → ∥ IfSome o (λ g. AreFreeSeats g p) ∥₁ → o ≡ Some f → q ≡ p → AreFreeSeats f q
free o f p q kept is same =
    let one : ∥ AreFreeSeats f p ∥₁ = subst (λ (x : Option FreeSeats). ∥ IfSome x (λ g. AreFreeSeats g p) ∥₁) is kept in
    subst (λ (x : Pool). AreFreeSeats f x) (sym same) (∥∥₁_elim one (AreFreeSeats-prop f p) (λ x. x))
