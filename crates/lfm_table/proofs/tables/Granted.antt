-- Which steps store a grant.
use Rattle.std.proofs.Common.{◌≡◌, ◌≢◌, ℕ, sym, refl, Some, None}
use Rattle.lfm_protocol.specs.declared.kinds.Kind.{Kind}
use Rattle.lfm_protocol.specs.declared.points.Point.{Point}
use Rattle.lfm_protocol.specs.declared.points.Point.TheVariants.{GrantWakeStore, SendWakeStore}
use Rattle.lfm_protocol.specs.Points.{kind, target}
use Rattle.lfm_protocol.specs.Stores.{stored_wake_at}
use Rattle.lfm_table.specs.Grants.{granted_at, owed}

-- the state that is stored determines the seat that is granted
pub owed_there : (q : Point) (s : ℕ) → owed (stored_wake_at q) (target q s) ≡ granted_at q
owed_there (GrantWakeStore carrier oldest) s = refl
owed_there (SendWakeStore t) s = refl
owed_there _ s = refl

-- a step of another kind grants nothing
pub none_beside : (q : Point) (k : Kind) → kind q ≡ Some k → k ≢ Kind.WakeStore → granted_at q ≡ None
none_beside (GrantWakeStore carrier oldest) k is other = let e : Kind.WakeStore ≡ k = cc in absurd (other (sym e))
none_beside (SendWakeStore t) k is other = let e : Kind.WakeStore ≡ k = cc in absurd (other (sym e))
none_beside _ k is other = refl
