-- What the entries of a journal and the lines of a script add, summed over the workers.
use Rattle.std.proofs.Common.{◌≡◌, ◌≢◌, ◌≤◌, ◌<◌, ◌+◌, ◌*◌, ◌^◌, ◌==◌, ◌&&◌, not, nat_lt, zero, suc, ℕ, Bool, true, false, if◌then◌else◌, List, [], ◌∷◌, ◌++◌, length, sum, refl, sym, ap, arith, tests, eq-eqb, ne_eqb}
use mathlib.Core.Logic.{dite}
use native.Mathlib.Decide.{ℕ_discrete}
use Rattle.std.proofs.lemmas.List.Sums.{sum_by-append}
use Rattle.lfm_model.specs.declared.objects.Total.{Total}
use Rattle.lfm_model.specs.declared.objects.TotalOp.{TotalOp}
use Rattle.lfm_model.specs.declared.objects.TotalOp.TheVariants.{Add, Read}
use Rattle.lfm_model.specs.declared.journals.What.{What}
use Rattle.lfm_model.specs.declared.journals.What.TheVariants.{Took, Did}
use Rattle.lfm_model.specs.declared.journals.Entry.{Entry}
use Rattle.lfm_model.specs.Journals.{own, Within, after_what, after_all}
use Rattle.lfm_model.specs.Sums.{sum_to}
use Rattle.lfm_model.specs.Totals.{total_after}
use Rattle.lfm_model.proofs.Sums.{sum_ext, sum_add, sum_none}
use Rattle.lfm_script.specs.declared.script.Command.{Command}
use Rattle.lfm_script.specs.declared.script.Command.TheVariants.{Add as AddNumber, Until, One, All}
use Rattle.lfm_script.specs.declared.script.ScriptLine.{ScriptLine}
use Rattle.lfm_script.specs.script.Commands.{commands_of}
use Rattle.lfm_script.specs.Adds.{added, adds, command_adds, all_adds, worker_adds, lines_adds}
use Rattle.lfm_script.specs.script.Limits.{is_there, max_number, command_allowed, line_allowed, lines_allowed}

pub sum-append : (xs ys : List ℕ) → sum (xs ++ ys) ≡ sum xs + sum ys
sum-append xs ys = sum_by-append (λ x. x) xs ys

-- a at k, and 0 elsewhere
abbrev share_at : ℕ → ℕ → ℕ → ℕ
share_at a k s = (if k == s then a else 0)

share_same : (a k s : ℕ) → k ≡ s → share_at a k s ≡ a
share_same a k s e = ap (λ (b : Bool). (if b then a else 0)) (eq-eqb k s e)

share_other : (a k s : ℕ) → k ≢ s → share_at a k s ≡ 0
share_other a k s e = ap (λ (b : Bool). (if b then a else 0)) (ne_eqb k s e)

share_past : (a k n : ℕ) → n < k → sum_to (share_at a k) n ≡ 0
share_past a k zero h = refl
share_past a k (suc n) h = let rest = share_past a k n (omega arith) in let here = share_other a k (suc n) (λ e. omega arith) in omega arith

share_within : (a k n : ℕ) → 0 < k → k ≤ n → sum_to (share_at a k) n ≡ a
share_within a k zero p h = absurd (omega arith)
share_within a k (suc n) p h = dite (ℕ_discrete k (suc n))
    (λ e. let rest = share_past a k n (omega arith) in let here = share_same a k (suc n) e in omega arith)
    (λ ne. let rest = share_within a k n p (omega arith) in let here = share_other a k (suc n) ne in omega arith)

-- if g is greater than f by a at k and equal elsewhere, its sum is greater by a
one_more : (n k a : ℕ) (f g : ℕ → ℕ) → 0 < k → k ≤ n → ((s : ℕ) → g s ≡ share_at a k s + f s) → sum_to g n ≡ a + sum_to f n
one_more n k a f g above within splits =
    let all = sum_ext g (λ s. share_at a k s + f s) n splits in
    let parts = sum_add (share_at a k) f n in
    let here = share_within a k n above within in
    omega arith

own_adds : (b : Bool) (e : Entry TotalOp) (es : List (Entry TotalOp)) → sum (adds (if b then e ∷ es else es)) ≡ (if b then sum (added e.what) else 0) + sum (adds es)
own_adds true e es = sum-append (added e.what) (adds es)
own_adds false e es = omega arith

-- the sum of what all entries add is the sum of what the entries of each seat add
pub journal_sum : (n : ℕ) (es : List (Entry TotalOp)) → Within n es → sum (adds es) ≡ sum_to (λ s. sum (adds (own s es))) n
journal_sum n [] within = sym (sum_none n)
journal_sum n (e ∷ es) within =
    let rest = journal_sum n es within.1.1 in
    let first = sum-append (added e.what) (adds es) in
    let more = one_more n e.seat (sum (added e.what)) (λ s. sum (adds (own s es))) (λ s. sum (adds (own s (e ∷ es)))) within.0 within.1.0 (λ s. own_adds (e.seat == s) e (own s es)) in
    omega arith

own_commands : (b : Bool) (m : Command) (ms : List Command) → sum (all_adds (if b then m ∷ ms else ms)) ≡ (if b then sum (command_adds m) else 0) + sum (all_adds ms)
own_commands true m ms = sum-append (command_adds m) (all_adds ms)
own_commands false m ms = omega arith

-- an allowed line, in front of allowed lines
record Allowed (n c : ℕ) (l : ScriptLine) (ls : List ScriptLine) : Type 0 where
  above : 0 < l.worker
  within : l.worker ≤ n
  command : command_allowed c l.command ≡ true
  others : lines_allowed n c ls ≡ true

pub both : (a b : Bool) → (a && b) ≡ true → (a ≡ true) × (b ≡ true)
both true b e = (refl, e)
both false b e = absurd (cc)

there : (k n : ℕ) → is_there k n ≡ true → (0 < k) × (k ≤ n)
there k n e = grind (arith, tests)

allowed : (n c : ℕ) (l : ScriptLine) (ls : List ScriptLine) → lines_allowed n c (l ∷ ls) ≡ true → Allowed n c l ls
allowed n c l ls e =
    let first = both (line_allowed n c l) (lines_allowed n c ls) e in
    let parts = both (is_there l.worker n) (command_allowed c l.command) first.0 in
    let is = there l.worker n parts.0 in
    record { above = is.0; within = is.1; command = parts.1; others = first.1 }

pub lines_sum : (n c : ℕ) (ls : List ScriptLine) → lines_allowed n c ls ≡ true → sum (lines_adds ls) ≡ sum_to (λ s. sum (worker_adds s ls)) n
lines_sum n c [] e = sym (sum_none n)
lines_sum n c (l ∷ ls) e =
    let is = allowed n c l ls e in
    let rest = lines_sum n c ls is.others in
    let first = sum-append (command_adds l.command) (lines_adds ls) in
    let more = one_more n l.worker (sum (command_adds l.command)) (λ s. sum (worker_adds s ls)) (λ s. sum (worker_adds s (l ∷ ls))) is.above is.within
    (λ s. own_commands (l.worker == s) l.command (commands_of s ls)) in
    omega arith

small : (k : ℕ) → not (nat_lt max_number k) ≡ true → k ≤ max_number
small k e = grind (arith, tests)

sum_one : (k : ℕ) → sum (k ∷ []) ≡ k
sum_one k = omega arith

small_command : (c : ℕ) (m : Command) → command_allowed c m ≡ true → sum (command_adds m) ≤ max_number
small_command c (AddNumber k) e = let s = small k e in let one = sum_one k in omega arith
small_command c (Until d k) e = omega arith
small_command c (One d) e = omega arith
small_command c (All d) e = omega arith

pub lines_small : (n c : ℕ) (ls : List ScriptLine) → lines_allowed n c ls ≡ true → sum (lines_adds ls) ≤ length ls * max_number
lines_small n c [] e = omega arith
lines_small n c (l ∷ ls) e =
    let is = allowed n c l ls e in
    let rest = lines_small n c ls is.others in
    let first = sum-append (command_adds l.command) (lines_adds ls) in
    let here = small_command c l.command is.command in
    omega arith

after_one : (t : Total) (w : What TotalOp) → t.0 + sum (added w) < 2 ^ 64 → (after_what total_after t w).0 ≡ t.0 + sum (added w)
after_one t (Took h) fits = omega arith
after_one t (Did Read) fits = omega arith
after_one t (Did (Add k)) fits = let one = sum_one k in omega arith

-- a total that stays below 2^64 is the sum
pub total_is : (t : Total) (es : List (Entry TotalOp)) → t.0 + sum (adds es) < 2 ^ 64 → (after_all total_after t es).0 ≡ t.0 + sum (adds es)
total_is t [] fits = omega arith
total_is t (e ∷ es) fits =
    let parts = sum-append (added e.what) (adds es) in
    let one = after_one t e.what (omega arith) in
    let rest = total_is (after_what total_after t e.what) es (omega arith) in
    omega arith
