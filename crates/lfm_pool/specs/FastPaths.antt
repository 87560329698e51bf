-- What the fast paths of the calls need of a seat in one mutex, and what they leave.
use Rattle.std.specs.Prelude.{◌≡◌, ⊤, ℕ, ◌++◌, ◌+◌, ◌<◌, [], ◌∷◌}
use Rattle.atomic_table.specs.Table.{Me}
use Rattle.lfm_model.specs.declared.answers.How.{How}
use Rattle.lfm_words.specs.Popped.{oldest}
use Rattle.lfm_protocol.specs.After.{take}
use Rattle.lfm_protocol.specs.declared.points.Carrier.{Carrier}
use Rattle.lfm_protocol.specs.declared.points.Entrant.{Entrant}
use Rattle.lfm_protocol.specs.declared.limits.Limits.{Limits}
use Rattle.lfm_protocol.specs.declared.points.Releaser.TheVariants.{Unlocker}
use Rattle.lfm_protocol.specs.declared.points.Point.TheVariants.{Rest, TryCountExchange, TryOwnerLoad, ReleaseOwnerStore, ReleaseCountSubtract, EnterOwnerStore}
use Rattle.lfm_table.specs.declared.seat_view.View.{View}
use Rattle.lfm_table.specs.Actions.{RunGoesOn, seen}
use Rattle.lfm_pool.specs.declared.view.Note.{Note}
use Rattle.lfm_pool.specs.declared.view.PoolView.{PoolView}
use Rattle.lfm_pool.specs.Chain.{rested}
use Rattle.lfm_pool.specs.Tables.{with_part}
use Rattle.lfm_pool.specs.Steps.{Sits}

-- a seat at rest in mutex m that may start a try_lock there
pub record MayTry (number id : ℕ) (l : Limits) (v : View ⊤) : Type 0 where
  pub sits : Sits number id l v.state v
  pub rests : v.state.point ≡ Rest
  pub flat : v.state.depth ≡ 0
  pub charged : v.state.takes < l.budget

-- A seat at rest in mutex m that holds it once: the carried word has no further hold. Its depth was greater after its last
-- step there if it has given up holds since.
pub record HoldsOnce (number id : ℕ) (l : Limits) (v : View ⊤) (note : Note) : Type 0 where
  pub sits : Sits number id l v.state v
  pub now : Sits number id l (record v.state { depth = 1 }) v
  pub rests : v.state.point ≡ Rest
  pub noted : note ≡ rested v.popped

-- the seat with this number has acquired a free mutex by a try_lock: the exchange found the count at 0, and then it stored
-- its number as the owner
pub record Enters (number : ℕ) (v w : View ⊤) : Type 0 where
  pub trail : w.trail
      ≡ v.trail ++ (seen TryCountExchange 0 ∷ seen (EnterOwnerStore Entrant.Trier How.Free) number ∷ [])
  pub state : w.state ≡ record v.state { depth = 1; takes = v.state.takes + 1 }
  pub run : RunGoesOn v w

-- the seat has released the mutex, which was left free: it stored no owner, and then the subtraction found the count at 1
pub record Leaves (v w : View ⊤) : Type 0 where
  pub trail : w.trail
      ≡ v.trail ++ (seen (ReleaseOwnerStore Unlocker) 0 ∷ seen (ReleaseCountSubtract Unlocker) 1 ∷ [])
  pub rests : w.state.point ≡ Rest
  pub flat : w.state.depth ≡ 0
  pub takes : w.state.takes ≡ v.state.takes
  pub run : RunGoesOn v w

-- the exchange of a try_lock found the count n, which is not 0: the owner is loaded next
pub record FindsTaken (n : ℕ) (v w : View ⊤) : Type 0 where
  pub trail : w.trail ≡ v.trail ++ seen TryCountExchange n ∷ []
  pub state : w.state ≡ record v.state { takes = v.state.takes + 1; point = TryOwnerLoad }
  pub run : RunGoesOn v w

-- The seat has released the mutex and has the responsibility, since the subtraction found the count n, which is not 1: it
-- serves the oldest record of the pop list, which is as it was, or collects the push list first if there is none.
pub record Serves (number n : ℕ) (v w : View ⊤) : Type 0 where
  pub trail : w.trail
      ≡ v.trail ++ (seen (ReleaseOwnerStore Unlocker) 0 ∷ seen (ReleaseCountSubtract Unlocker) n ∷ [])
  pub state : w.state
      ≡ record v.state { depth = 0; point = take (Carrier.Releaser Unlocker) number (oldest v.popped) }
  pub kept : w.popped ≡ v.popped
  pub run : RunGoesOn v w

-- what the seat knows of mutex m has changed, to a view and a note of which this holds, and nothing that it knows of other
-- mutexes
abbrev pub KnowsMoreOf : ℕ → (View ⊤ → Note → Type 0) → Me ℕ PoolView → Me ℕ PoolView → Type 0
KnowsMoreOf m says me me' = (w : View ⊤) × (n : Note) × (me' ≡ (with_part me.0 m w n, me.1)) × says w n
