-- Collecting one record: the seat after the load of its link, and after the store of its link in the chain.
use Rattle.std.proofs.Common.{◌≡◌, ℕ, ◌+◌, ◌-◌, ◌^◌, ◌<◌, List, ◌∷◌, length, refl, sym, ap, ◌∙◌, arith}
use Rattle.std.specs.Prelude.{⊤}
use Rattle.atomic_table.specs.Table.{Me}
use Rattle.lfm_words.specs.declared.pop_lists.Record.{Record}
use Rattle.lfm_words.specs.Popped.{oldest}
use Rattle.lfm_words.specs.Words.{link_of}
use Rattle.lfm_protocol.specs.declared.kinds.Kind.{Kind}
use Rattle.lfm_protocol.specs.declared.points.Point.{Point}
use Rattle.lfm_protocol.specs.declared.seats.SeatState.{SeatState}
use Rattle.lfm_protocol.specs.Points.{kind}
use Rattle.lfm_table.specs.declared.operations.Access.{Access}
use Rattle.lfm_protocol.specs.After.{loaded}
use Rattle.lfm_protocol.specs.Place.{carries}
use Rattle.lfm_laws.specs.table.Carried.{carries_value}
use Rattle.lfm_laws.specs.table.Words.{popped_by_step}
use Rattle.lfm_table.specs.declared.seat_view.View.{View}
use Rattle.lfm_table.specs.Steps.{gives_at}
use Rattle.lfm_table.proofs.tables.StepFacts.{carrying, keeps_value, made_of}
use Rattle.lfm_pool.specs.declared.pool.Pool.{Pool}
use Rattle.lfm_pool.specs.declared.pool.TableSeat.{TableSeat}
use Rattle.lfm_pool.specs.declared.view.Note.{Note}
use Rattle.lfm_pool.specs.declared.view.PoolView.{PoolView}
use Rattle.lfm_pool.specs.Belongs.{IsMutex, OfPool}
use Rattle.lfm_pool.specs.Carrying.{CarriesIn, NotesIn}
use Rattle.lfm_pool.specs.Chain.{note_after, note_by}
use Rattle.lfm_pool.specs.Collecting.{ClearsHead, CollectsOneIn}
use Rattle.lfm_pool.specs.Seats.{MovesIn, note_of, popped_of, state_of}
use Rattle.lfm_pool.specs.SeatWords.{LoadsLink}
use Rattle.lfm_pool.specs.Steps.{IsOwnAccessOf}
use Rattle.lfm_pool.specs.Tables.{part, with_part}
use Rattle.lfm_pool.proofs.FastPaths.{note_now, part_now, twice_with}

module _ (p : Pool) (s s1 : TableSeat) (m target n : ℕ) (mutex : IsMutex m p) (belongs : OfPool s p) (at : LoadsLink target (state_of s m)) (step : MovesIn s s1 p m n) where
  here : m < length s.place.me.0.parts
  here = let n = belongs.parts in omega (arith, n, mutex)

  now : part s1.place.me.0 m ≡ step.0
  now = part_now s.number s.place.id m p.limits s.place.me s1.place.me s1.place.me here step.0 _ step.1

  before : CarriesIn s m
  before = carrying (state_of s m) (ap carries at.1)

  pub collected_carries : CarriesIn s1 m
  collected_carries =
      ap (λ (y : View ⊤). carries_value y.state) now ∙ ap carries_value step.3.state
      ∙ keeps_value (state_of s m) s.number n (oldest step.3.popped) (ap gives_at at.1) (carrying (state_of s m) (ap carries at.1))

  -- the record is the oldest popped one
  pub collected_popped : popped_of s1 m ≡ loaded target (link_of n) ∷ popped_of s m
  collected_popped =
      ap (λ (y : View ⊤). y.popped) now ∙ step.3.listed
      ∙ ap (λ (q : Point). popped_by_step (made_of (state_of s m).depth (state_of s m).takes (state_of s m).posts q) s.number n step.3.popped) at.1
      ∙ ap (λ (l : List Record). loaded target (link_of n) ∷ l) (step.3.had (carrying (state_of s m) (ap carries at.1)))

  -- and not in the chain yet
  pub collected_note : note_of s1 m ≡ record { due = (note_of s m).due + 1; carried = (note_of s m).carried }
  collected_note =
      note_now s.number s.place.id m p.limits s.place.me s1.place.me s1.place.me here step.0 _ step.1
      ∙ (λ i. note_by (carrying (state_of s m) (ap carries at.1) i) (carries_value step.0.state) (at.1 i) (note_of s m) step.0.popped)

  pub collected_due : (note_of s m).due ≡ 0 → (note_of s1 m).due ≡ 1
  collected_due whole = ap (λ (k : Note). k.due) collected_note ∙ ap (λ (d : ℕ). d + 1) whole

  pub collected : (s2 : TableSeat) → (note_of s m).due ≡ 0 → NotesIn s1 s2 m (record (note_of s1 m) { due = 0 }) → CollectsOneIn s s2 p m n
  collected s2 whole notes = (
    step.0,
    record (note_of s1 m) { due = 0 },
    notes ∙ (λ i. (with_part s1.place.me.0 m (now i) (record (note_of s1 m) { due = 0 }), s1.place.me.1))
        ∙ ap (λ (z : Me ℕ PoolView). (with_part z.0 m step.0 (record (note_of s1 m) { due = 0 }), z.1)) step.1
        ∙ (λ i. (twice_with s.place.me.0 m step.0 step.0 (note_after (state_of s m) step.0 (note_of s m)) (record (note_of s1 m) { due = 0 }) i, s.place.me.1)),
    (
      step.3,
      step.2,
      λ i. record { due = sym whole i; carried = (ap (λ (k : Note). k.carried) collected_note) i },
    ),
  )

-- The clearing of the head

pub clears_head : (seats number : ℕ) (p : SeatState) → ClearsHead p → IsOwnAccessOf seats number p (Access.FetchAnd 3 (2 ^ 64 - 2 ^ 16))
clears_head seats number p at = ((Kind.ClearHead, ap kind at.1, refl, (λ n. refl), refl), omega arith, λ e. omega (arith, e))
