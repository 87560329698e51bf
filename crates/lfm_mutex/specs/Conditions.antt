-- Conditions on the guarded value, for which a seat that holds may wait. `says v b`: the condition may return b for the value v.
use Rattle.std.specs.Prelude.{◌≡◌, ℕ, Bool, true, false, Some}
use Rattle.lfm_model.specs.declared.answers.How.{How}
use Rattle.lfm_mutex.specs.calls.Sight.{Sight, Finds, MayLeave}

module _ {T : Type 0} (follows : ℕ → T → T → Type 0) (fits : T → ℕ → Type 0) where
  -- a seat that comes to hold may leave the value as it found it
  abbrev pub FoundMayBeLeft : Type 0
  FoundMayBeLeft = (how : How) (s t : Sight T) → Finds follows fits how s t → t.number ≡ s.number → MayLeave follows fits t

module _ {T : Type 0} (says : T → Bool → Type 0) where
  -- the seat holds a value, and the condition is false of it
  abbrev pub NeedNotWait : Sight T → Type 0
  NeedNotWait s = (v : T) × (s.value ≡ Some v) × says v false

  -- if the seat holds a value, the condition is true of it
  abbrev pub WouldWait : Sight T → Type 0
  WouldWait s = (v : T) → s.value ≡ Some v → says v true
