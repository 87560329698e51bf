-- The count step of a send that has claimed its target: the first step after the claim.
use Rattle.std.proofs.Common.{◌≡◌, ℕ, Option, refl, subst, sym}
use Rattle.lfm_protocol.specs.declared.answers.Turn.TheVariants.{Open}
use Rattle.lfm_protocol.specs.declared.limits.Limits.{Limits}
use Rattle.lfm_protocol.specs.declared.points.Point.{Point}
use Rattle.lfm_protocol.specs.declared.points.Point.TheVariants.{SendCountAdd}
use Rattle.lfm_protocol.specs.declared.seats.SeatState.{SeatState}
use Rattle.lfm_laws.specs.table.Words.{stepped_by}
use Rattle.lfm_table.specs.Table.{Me}
use Rattle.lfm_table.specs.declared.rule.Moving.{Moving}
use Rattle.lfm_table.specs.declared.seat_view.View.{View}
use Rattle.lfm_table.specs.Steps.{oldest_in}
use Rattle.lfm_table.specs.FastPath.{Fit, MadeStep}
use Rattle.lfm_table.proofs.tables.StepFacts.{made_of}
use Rattle.lfm_mutex.specs.calls.Runs.{opens}
use Rattle.lfm_mutex.proofs.runs.PlainCourses.{PlainSteps, plain_none, plain_next}

-- after the count step, a send by a seat of depth d is at the point q
pub counts : {T : Type 0} {follows : ℕ → T → T → Type 0} {suits : T → ℕ → Type 0} {s w0 i0 w1 i1 n u : ℕ} {l : Limits} {a b : Option (Moving T)} {m m' : Me (Option (Moving T)) (View T)} (x : SeatState) (d : ℕ) (q : Point)
    → x.point ≡ SendCountAdd u → x.depth ≡ d → Fit s w0 i0 l x m a
    → MadeStep follows suits s w1 i1 l (made_of d x.takes x.posts (SendCountAdd u)) n m a m' b → stepped_by (made_of d x.takes x.posts (SendCountAdd u)) s n (oldest_in b) ≡ opens (made_of d x.takes x.posts q)
    → PlainSteps follows suits s l x a m.0 Open (made_of d x.takes x.posts q) b m'
counts {T} {follows} {suits} {s} {w0} {i0} {w1} {i1} {n} {u} {l} {a} {b} {m} {m'} x d q at deep fit did is =
    let here : x ≡ made_of d x.takes x.posts (SendCountAdd u) = (λ i. record { depth = deep i; takes = x.takes; posts = x.posts; point = at i }) in
    let so = plain_next (opens (made_of d x.takes x.posts q)) (plain_none follows suits (subst (λ (z : SeatState). Fit s w0 i0 l z m a) here fit)) did is (λ e. cc) refl refl in
    subst (λ (z : SeatState). PlainSteps follows suits s l z a m.0 Open (made_of d x.takes x.posts q) b m') (sym here) so
