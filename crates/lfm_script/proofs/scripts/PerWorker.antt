-- Lists with one item for each worker, which change with each line of a script.
use Rattle.std.proofs.Common.{◌≡◌, ◌≢◌, ◌≤◌, ◌<◌, ◌+◌, ◌-◌, ◌==◌, ℕ, Bool, true, false, cond, List, [], ◌∷◌, ◌++◌, length, get_or, sym, ◌∙◌, ap, refl, arith, tests, append_assoc, length-append, Global, false-eqb, ne_eqb}
use Rattle.std.specs.Prelude.{slice_set, Vec, vec_capacity}
use Rattle.std.proofs.lemmas.List.{get_or-set_same, get_or-set_other}
use Rattle.lfm_script.specs.declared.script.Command.{Command}
use Rattle.lfm_script.specs.declared.script.ScriptLine.{ScriptLine}
use Rattle.lfm_script.specs.script.Limits.{is_there}
use Rattle.lfm_script.specs.script.Commands.{commands_of}

-- P is about a worker's number, the lines that are left, and the worker's item; here it holds for each worker
abbrev pub Each : {X : Type 0} → (ℕ → List ScriptLine → X → Type 0) → ℕ → List ScriptLine → List X → Type 0
Each {X} P workers rest xs = (i : ℕ) (d : X) → i < workers → P (i + 1) rest (get_or xs i d)

-- the lines of other workers change nothing
abbrev pub OthersKeep : {X : Type 0} → (ℕ → List ScriptLine → X → Type 0) → Type 0
OthersKeep {X} P = (w : ℕ) (l : ScriptLine) (rest : List ScriptLine) (x : X) → (l.worker == w) ≡ false → P w (l ∷ rest) x → P w rest x

module _ {X : Type 0} (P : ℕ → List ScriptLine → X → Type 0) (others : OthersKeep P) where
  -- the item of a line's worker, if the worker exists
  pub own : (l : ScriptLine) (rest : List ScriptLine) (workers : ℕ) (xs : List X) (x : X) → is_there l.worker workers ≡ true → x ≡ get_or xs (l.worker - 1) x → Each P workers rest xs → P l.worker rest x
  own l rest workers xs x there is each =
      let some : 0 < l.worker = search (tests, arith, there) in
      let inside : l.worker ≤ workers = search (tests, arith, there) in
      let back : l.worker - 1 + 1 ≡ l.worker = omega (arith, some) in
      let at : P l.worker rest (get_or xs (l.worker - 1) x) = rw back at (each (l.worker - 1) x (omega (arith, some, inside))) in
      rw (← is) at at

  not_there : (l : ScriptLine) (workers i : ℕ) → is_there l.worker workers ≡ false → i < workers → (l.worker == i + 1) ≡ false
  not_there l workers i none within = ne_eqb l.worker (i + 1) (λ same. absurd (search (tests, arith, none, within, same)))

  -- a line of a worker that does not exist changes nothing
  pub skipped : (l : ScriptLine) (rest : List ScriptLine) (workers : ℕ) (xs : List X) → is_there l.worker workers ≡ false → Each P workers (l ∷ rest) xs → Each P workers rest xs
  skipped l rest workers xs none each i d within = others (i + 1) l rest (get_or xs i d) (not_there l workers i none within) (each i d within)

  -- a line of a worker that exists changes this worker's item
  pub changed : (l : ScriptLine) (rest : List ScriptLine) (workers : ℕ) (xs : List X) (x : X) → is_there l.worker workers ≡ true → length xs ≡ workers
      → P l.worker rest x → Each P workers (l ∷ rest) xs → Each P workers rest (slice_set xs (l.worker - 1) x)
  changed l rest workers xs x there all its each i d within = by_worker (l.worker == i + 1) refl
    where
      some : 0 < l.worker
      some = search (tests, arith, there)

      inside : l.worker ≤ workers
      inside = search (tests, arith, there)

      by_worker : (t : Bool) → (l.worker == i + 1) ≡ t → P (i + 1) rest (get_or (slice_set xs (l.worker - 1) x) i d)
      by_worker true same =
          let is : l.worker ≡ i + 1 = search (tests, arith, same) in
          let at : l.worker - 1 ≡ i = omega (arith, is) in
          rw (at, get_or-set_same xs i x d (omega (arith, all, within)), ← is) its
      by_worker false other =
          let no : i ≢ l.worker - 1 = λ e. false-eqb l.worker (i + 1) (sym other) (omega (arith, e, some)) in
          rw (get_or-set_other xs (l.worker - 1) i x d no) (others (i + 1) l rest (get_or xs i d) other (each i d within))

length_commands_of : (w : ℕ) (ls : List ScriptLine) → length (commands_of w ls) ≤ length ls
length_commands_of w [] = omega arith
length_commands_of w (l ∷ ls) = by_worker (l.worker == w) (length_commands_of w ls)
  where
    by_worker : (t : Bool) → length (commands_of w ls) ≤ length ls → length (cond t (l.command ∷ commands_of w ls) (commands_of w ls)) ≤ length (l ∷ ls)
    by_worker true few = omega (arith, few)
    by_worker false few = omega (arith, few)

-- ---- how many commands were counted

-- the commands counted so far and those of the lines that are left are all commands
abbrev pub Counted : List ScriptLine → ℕ → List ScriptLine → ℕ → Type 0
Counted ls w rest n = n + length (commands_of w rest) ≡ length (commands_of w ls)

pub counted_others : (ls : List ScriptLine) → OthersKeep (Counted ls)
counted_others ls w l rest n other counted = rw other at counted

-- one command more was counted, and one fewer is left
pub counted_one : (ls : List ScriptLine) (l : ScriptLine) (rest : List ScriptLine) (n : ℕ) → Counted ls l.worker (l ∷ rest) n → Counted ls l.worker rest (n + 1) × (n < length ls)
counted_one ls l rest n counted =
    let same : (l.worker == l.worker) ≡ true = search (tests, arith) in
    let more : n + length (l.command ∷ commands_of l.worker rest) ≡ length (commands_of l.worker ls) = rw same at counted in
    (omega (arith, more), omega (arith, more, length_commands_of l.worker ls))

-- ---- which commands were handed out

-- the commands handed out so far and those of the lines that are left are all commands, and there is exactly room for these
abbrev pub Handed : List ScriptLine → ℕ → List ScriptLine → Vec Command Global → Type 0
Handed ls w rest v = (v.items ++ commands_of w rest ≡ commands_of w ls) × (vec_capacity v ≡ length (commands_of w ls))

pub handed_others : (ls : List ScriptLine) → OthersKeep (Handed ls)
handed_others ls w l rest v other handed = rw other at handed

-- a command was put behind those that were handed out, and one fewer is left
pub handed_one : (ls : List ScriptLine) (l : ScriptLine) (rest : List ScriptLine) (v x : Vec Command Global) → Handed ls l.worker (l ∷ rest) v
    → x.items ≡ v.items ++ l.command ∷ [] → vec_capacity x ≡ vec_capacity v → Handed ls l.worker rest x
handed_one ls l rest v x handed grew room =
    let same : (l.worker == l.worker) ≡ true = search (tests, arith) in
    let all : v.items ++ l.command ∷ commands_of l.worker rest ≡ commands_of l.worker ls = rw same at handed.0 in
    (rw grew (append_assoc v.items (l.command ∷ []) (commands_of l.worker rest) ∙ all), room ∙ handed.1)

-- so there is room for it
pub handed_room : (ls : List ScriptLine) (l : ScriptLine) (rest : List ScriptLine) (v : Vec Command Global) → Handed ls l.worker (l ∷ rest) v → length v.items < vec_capacity v
handed_room ls l rest v handed =
    let same : (l.worker == l.worker) ≡ true = search (tests, arith) in
    let all : v.items ++ l.command ∷ commands_of l.worker rest ≡ commands_of l.worker ls = rw same at handed.0 in
    omega (arith, ap length all, handed.1, length-append v.items (l.command ∷ commands_of l.worker rest))
