-- What a turn touches. A step touches the word that the table of kinds names, the seat that makes it and, at three kinds, the
-- pop list. The start of a call touches its seat only. What a step depends on: that word, its seat, and the oldest record of
-- the pop list.
use Rattle.std.specs.Prelude.{◌≡◌, ◌≢◌, ℕ, Bool, true, false, Option, Some, None, length}
use Rattle.lfm_protocol.specs.declared.kinds.Kind.{Kind}
use Rattle.lfm_protocol.specs.declared.kinds.Word.{Word}
use Rattle.lfm_words.specs.Popped.{oldest}
use Rattle.lfm_protocol.specs.Core.{Core}
use Rattle.lfm_protocol.specs.Points.{kind, target, word}
use Rattle.lfm_protocol.specs.Seats.{seat, link, wake}

-- the word is the same in both states
abbrev pub SameWord : Core → Core → Word → Type 0
SameWord c d Word.Count = d.count ≡ c.count
SameWord c d Word.Owner = d.owner ≡ c.owner
SameWord c d Word.Handoff = d.handoff ≡ c.handoff
SameWord c d Word.Push = d.push ≡ c.push
SameWord c d (Word.Link t) = link d.links t ≡ link c.links t
SameWord c d (Word.Wake t) = wake d.wakes t ≡ wake c.wakes t

-- the kind of the step that seat s makes next, none if it has no call open
abbrev pub kind_of : Core → ℕ → Option Kind
kind_of c s = kind (seat c.seats s).point

abbrev pub word_by : ℕ → Option Kind → Option Word
word_by t None = None
word_by t (Some k) = Some (word k t)

-- the word that this step touches
abbrev pub touched : Core → ℕ → Option Word
touched c s = word_by (target (seat c.seats s).point s) (kind_of c s)

-- a step of this kind writes no word
abbrev pub only_loads : Option Kind → Bool
only_loads None = true
only_loads (Some Kind.OwnerLoad) = true
only_loads (Some Kind.PushLoad) = true
only_loads (Some Kind.LinkLoad) = true
only_loads (Some Kind.HandoffLoad) = true
only_loads (Some Kind.WakeLoad) = true
only_loads (Some _) = false

-- a step of this kind may change the pop list: it loads the next record, or makes the store with which the oldest record leaves
abbrev pub may_pop : Option Kind → Bool
may_pop (Some Kind.LinkLoad) = true
may_pop (Some Kind.OwnerStore) = true
may_pop (Some Kind.WakeStore) = true
may_pop _ = false

-- what is unchanged from c to d when seat s makes its next step
pub record StepTouches (c d : Core) (s : ℕ) : Type 0 where
  pub budget : d.budget ≡ c.budget
  pub seats : length d.seats ≡ length c.seats
  pub other_seats : (t : ℕ) → t ≢ s → seat d.seats t ≡ seat c.seats t
  pub other_words : (w : Word) → touched c s ≢ Some w → SameWord c d w
  pub loaded_words : only_loads (kind_of c s) ≡ true → (w : Word) → SameWord c d w
  pub popped : may_pop (kind_of c s) ≡ false → d.popped ≡ c.popped

-- what is unchanged from c to d when seat s begins a call
pub record BeginTouches (c d : Core) (s : ℕ) : Type 0 where
  pub budget : d.budget ≡ c.budget
  pub seats : length d.seats ≡ length c.seats
  pub other_seats : (t : ℕ) → t ≢ s → seat d.seats t ≡ seat c.seats t
  pub words : (w : Word) → SameWord c d w
  pub popped : d.popped ≡ c.popped

-- in both states seat s, the word that it touches next and the oldest record of the pop list are the same
pub record LooksSame (c d : Core) (s : ℕ) : Type 0 where
  pub own : seat d.seats s ≡ seat c.seats s
  pub word : (w : Word) → touched c s ≡ Some w → SameWord c d w
  pub record_to_serve : oldest d.popped ≡ oldest c.popped
