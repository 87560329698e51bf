-- What a function that shares a value among threads requires of the closure that each thread calls.
use Rattle.std.specs.Prelude.{◌≡◌}
use Rattle.std.specs.Fn.{Shared}
use denote.Ref.{Bor}

module _ {F S P X : Type 0} (g : Shared F (Bor S × (P × Unit {0})) X) (f : F) (s : S) where
  -- the closure may be called with the shared value and this job
  abbrev pub TakesJob : P → Type 0
  TakesJob p = (b : Bor S) → b.now ≡ s → g.pre f (b, (p, tt))

  -- the closure returned this for the shared value and this job
  pub record GivesResult (p : P) (x : X) : Type 0 where
    pub shown : Bor S
    pub shows : shown.now ≡ s
    pub met : g.post f (shown, (p, tt)) x
