-- What each step needs of the chain: most need nothing, a step that gives the mutex away and the load of a link do. That none
-- but the exchange that pushes needs an admission. And what the seat notes after a step.
use Rattle.std.proofs.Common.{◌≡◌, ℕ, List, drop, refl, sym, ap, ◌∙◌, subst}
use Rattle.std.specs.Prelude.{⊤, Bool, true, false}
use Rattle.std.proofs.lemmas.Bool.{false≢true}
use Rattle.lfm_words.specs.declared.pop_lists.Record.{Record}
use Rattle.lfm_protocol.specs.declared.points.Carrier.{Carrier}
use Rattle.lfm_protocol.specs.declared.points.Point.{Point}
use Rattle.lfm_protocol.specs.declared.points.Point.TheVariants.{PushExchange, TakeLinkLoad, ReleaseCountSubtract, ReleaseHandoffStore, GrantWakeStore}
use Rattle.lfm_protocol.specs.declared.points.Releaser.{Releaser}
use Rattle.lfm_protocol.specs.declared.seats.SeatState.{SeatState}
use Rattle.lfm_protocol.specs.Place.{carries}
use Rattle.lfm_laws.specs.table.Carried.{carries_value}
use Rattle.lfm_laws.specs.table.Words.{popped_by_step}
use Rattle.lfm_table.specs.declared.seat_view.View.{View}
use Rattle.lfm_table.specs.Steps.{gives_at}
use Rattle.lfm_table.proofs.tables.StepFacts.{keeps_value, made_of}
use Rattle.lfm_pool.specs.declared.view.Known.{Known}
use Rattle.lfm_pool.specs.declared.view.Note.{Note}
use Rattle.lfm_pool.specs.Admissions.{MayPush}
use Rattle.lfm_pool.specs.Chain.{KeepsChain, due_after, needs_chain, note_after, note_by, note_if, note_since, rested}

-- the step at this point loads a link
abbrev pub is_link_load : Point → Bool
is_link_load (TakeLinkLoad carrier next) = true
is_link_load _ = false

plain_gives : (q : Point) → needs_chain q ≡ false → gives_at q ≡ false
plain_gives (TakeLinkLoad carrier next) plain = refl
plain_gives (PushExchange pusher seen) plain = refl
plain_gives _ plain = plain

plain_loads : (q : Point) → needs_chain q ≡ false → is_link_load q ≡ false
plain_loads (TakeLinkLoad carrier next) plain = absurd (false≢true (sym plain))
plain_loads _ plain = refl

-- a step that needs nothing of the chain needs no admission either
pub plain_push : (q : Point) (k : Known) → needs_chain q ≡ false → MayPush q k
plain_push (PushExchange pusher seen) k plain = absurd (false≢true (sym plain))
plain_push _ k plain = tt

-- what a step at this point needs, by what its point is
pub may_push : (q : Point) (k : Known) (p : Point) → p ≡ q → MayPush q k → MayPush p k
may_push q k p e may = subst (λ (x : Point). MayPush x k) (sym e) may

module _ (p : SeatState) (number : ℕ) (v : View ⊤) (note : Note) where
  loads_none : is_link_load p.point ≡ false → (carrier : Carrier) (next : ℕ) → p.point ≡ TakeLinkLoad carrier next → note.due ≡ 0
  loads_none plain carrier next e = absurd (false≢true (sym plain ∙ ap is_link_load e))

  -- a step that neither gives the mutex away nor loads a link
  pub keeps_at : (q : Point) → p.point ≡ q → gives_at q ≡ false → is_link_load q ≡ false → KeepsChain p number v note
  keeps_at q e gives loads = record {
    gives = λ n before gone. absurd (false≢true (sym gone ∙ keeps_value p number n _ (ap gives_at e ∙ gives) before));
    loads = loads_none (ap is_link_load e ∙ loads);
  }

  -- a step that needs nothing of the chain
  pub keeps_plain : needs_chain p.point ≡ false → KeepsChain p number v note
  keeps_plain plain = keeps_at p.point refl (plain_gives p.point plain) (plain_loads p.point plain)

  pub keeps_by_load : (carrier : Carrier) (next : ℕ) → p.point ≡ TakeLinkLoad carrier next → note.due ≡ 0 → KeepsChain p number v note
  keeps_by_load carrier next e whole = record {
    gives = λ n before gone. absurd (false≢true (sym gone ∙ keeps_value p number n _ (ap gives_at e) before));
    loads = λ other next' f. whole;
  }

  pub keeps_by_subtract : (r : Releaser) → p.point ≡ ReleaseCountSubtract r → note ≡ rested v.popped → KeepsChain p number v note
  keeps_by_subtract r e whole = record {
    gives = λ n before gone. whole ∙ ap (λ (q : Point). rested (popped_by_step (made_of p.depth p.takes p.posts q) number n v.popped)) (sym e);
    loads = loads_none (ap is_link_load e);
  }

  pub keeps_by_post : (r : Releaser) → p.point ≡ ReleaseHandoffStore r → note ≡ rested v.popped → KeepsChain p number v note
  keeps_by_post r e whole = record {
    gives = λ n before gone. whole ∙ ap (λ (q : Point). rested (popped_by_step (made_of p.depth p.takes p.posts q) number n v.popped)) (sym e);
    loads = loads_none (ap is_link_load e);
  }

  pub keeps_by_grant : (carrier : Carrier) (first : Record) → p.point ≡ GrantWakeStore carrier first → note ≡ rested (drop 1 v.popped) → KeepsChain p number v note
  keeps_by_grant carrier first e whole = record {
    gives = λ n before gone. whole ∙ ap (λ (q : Point). rested (popped_by_step (made_of p.depth p.takes p.posts q) number n v.popped)) (sym e);
    loads = loads_none (ap is_link_load e);
  }

-- What the seat notes

-- a seat that does not hold the mutex, at a point at which it does not carry it
pub idle_at : (x : SeatState) → x.depth ≡ 0 → carries x.point ≡ false → carries_value x ≡ false
idle_at x flat none = (λ i. carries_value (made_of (flat i) x.takes x.posts x.point)) ∙ none

begun_by : (c : Bool) (q : Point) (k : Note) (l : List Record) → note_by false c q k l ≡ note_if c k l
begun_by true q k l = refl
begun_by false q k l = refl

-- after the step of a seat that did not carry the mutex
pub since_step : (x : SeatState) (w : View ⊤) (k : Note) → carries_value x ≡ false → note_after x w k ≡ note_since w k
since_step x w k idle = (λ i. note_by (idle i) (carries_value w.state) x.point k w.popped) ∙ begun_by (carries_value w.state) x.point k w.popped

pub since_idle : (w : View ⊤) (k : Note) (x : SeatState) → w.state ≡ x → carries_value x ≡ false → note_since w k ≡ k
since_idle w k x is idle = λ i. note_if ((ap carries_value is ∙ idle) i) k w.popped

pub since_carrying : (w : View ⊤) (k : Note) (x : SeatState) → w.state ≡ x → carries_value x ≡ true → note_since w k ≡ rested w.popped
since_carrying w k x is on = λ i. note_if ((ap carries_value is ∙ on) i) k w.popped

due_same : (q : Point) (due : ℕ) → is_link_load q ≡ false → due_after q due ≡ due
due_same (TakeLinkLoad carrier next) due plain = absurd (false≢true (sym plain))
due_same _ due plain = refl

-- after the step of a seat that carries the mutex, and loads no link
pub carried_on : (x : SeatState) (w : View ⊤) (k : Note) → carries_value x ≡ true → is_link_load x.point ≡ false → note_after x w k ≡ k
carried_on x w k on plain =
    let due = due_same x.point k.due plain in
    (λ i. note_by (on i) (carries_value w.state) x.point k w.popped) ∙ (λ i. record k { due = due i })

-- if the step needs nothing of the chain
pub carried_step : (x : SeatState) (w : View ⊤) (k : Note) → carries_value x ≡ true → needs_chain x.point ≡ false → note_after x w k ≡ k
carried_step x w k on plain = carried_on x w k on (plain_loads x.point plain)
