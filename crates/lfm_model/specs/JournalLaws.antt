-- What the laws of journals state about ops and the seats that made them.
use Rattle.std.specs.Prelude.{◌≡◌, ℕ, Bool, true, false, List, [], ◌∷◌, ◌++◌, Option, Some, None}
use Rattle.std.specs.List.{filter, filter_map}
use Rattle.lfm_model.specs.declared.answers.How.{How}
use Rattle.lfm_model.specs.declared.journals.What.{What}
use Rattle.lfm_model.specs.declared.journals.What.TheVariants.{Took, Did}
use Rattle.lfm_model.specs.declared.journals.Entry.{Entry}
use Rattle.lfm_model.specs.Journals.{entry}

module _ {A : Type 0} where
  abbrev pub op_of : What A → Option A
  op_of (Took h) = None
  op_of (Did op) = Some op

  -- the ops of a journal, in order
  abbrev pub ops : List (Entry A) → List A
  ops es = filter_map (λ e. op_of e.what) es

  abbrev pub is_take : What A → Bool
  is_take (Took h) = true
  is_take (Did op) = false

  -- the takes of a journal, in order
  abbrev pub takes : List (Entry A) → List (Entry A)
  takes es = filter (λ e. is_take e.what) es

  -- the last take among these entries is by seat s
  abbrev pub TookLast : ℕ → List (Entry A) → Type 0
  TookLast s es =
      (before : List (Entry A)) × (how : How) × (since : List (Entry A))
      × (es ≡ before ++ entry s (Took how) ∷ since) × (takes since ≡ [])

  -- for each op of the journal, the last take before it is by the same seat
  abbrev pub OpsByTakers : List (Entry A) → Type 0
  OpsByTakers es = (before later : List (Entry A)) (s : ℕ) (op : A) → es ≡ before ++ entry s (Did op) ∷ later → TookLast s before
