-- The results of the workers of a script's run: their passes can close the monitor, and its journal is a journal of the
-- commands that they made.
use Rattle.std.proofs.Common.{◌≡◌, ◌≤◌, ◌<◌, ◌+◌, ◌-◌, ◌/◌, ◌&&◌, zero, suc, ℕ, Bool, true, false, List, [], ◌∷◌, ◌++◌, take, length, get_or, slice_index_or, Option, Some, None, is_some, refl, sym, ◌∙◌, ap, subst, arith, take_all, true≢false, Vec, Global}
use mathlib.Core.Option.{some, some-injective}
use lib.ListN.{get_elem?}
use Rattle.lfm_model.specs.declared.objects.Total.{Total}
use Rattle.lfm_model.specs.declared.objects.TotalOp.{TotalOp}
use Rattle.lfm_model.specs.declared.journals.Entry.{Entry}
use Rattle.lfm_model.specs.declared.refusals.Refusal.{Refusal}
use Rattle.lfm_model.specs.Journals.{LawfulJournal, Within, own, total}
use Rattle.lfm_model.specs.Sums.{sum_to}
use Rattle.lfm_mutex.specs.Close.{Idle}
use Rattle.lfm_monitor.specs.declared.monitor.Monitor.{Monitor}
use Rattle.lfm_monitor.specs.declared.pass.Pass.{Pass}
use Rattle.lfm_monitor.specs.Begun.{NewPass}
use Rattle.lfm_monitor.specs.Belongs.{OfMonitor, conditions_of, mine_of, pass_sight, plain_conditions_of, share_of}
use Rattle.lfm_monitor.specs.Passes.{journal_of}
use Rattle.lfm_program.specs.declared.performed.Performed.TheVariants.{Done, Refused}
use Rattle.lfm_program.specs.declared.workers.WorkerEnd.{WorkerEnd}
use Rattle.lfm_program.specs.declared.workers.WorkerEnd.TheVariants.{Performed as LetGo}
use Rattle.lfm_script.specs.declared.script.Command.{Command}
use Rattle.lfm_script.specs.declared.script.ScriptLine.{ScriptLine}
use Rattle.lfm_script.specs.Adds.{adds, all_adds}
use Rattle.lfm_script.specs.script.Commands.{commands_of}
use Rattle.lfm_script.specs.script.Grammar.{Plan}
use Rattle.lfm_program.specs.Performs.{own_adds}
use Rattle.lfm_script.specs.Rows.{refusal_at}
use Rattle.lfm_program.specs.ScriptRuns.{EndsSo, are_none}
use Rattle.lfm_program.specs.Workers.{WorksAs}
use Rattle.lfm_script.specs.Runs.{IsRunOfMade, RefusedAt}
use Rattle.lfm_model.specs.Journals.{after_all}
use Rattle.lfm_model.specs.Totals.{total_after}
use Rattle.lfm_monitor.proofs.Places.{in_range}
use Rattle.lfm_script.specs.declared.rows.Row.{Row}
use Rattle.lfm_program.specs.declared.workers.Worked.{Worked}
use Rattle.lfm_script.specs.script.Grammar.{plan_allowed}
use Rattle.lfm_script.specs.Report.{report_text, total_of}
use Rattle.lfm_script.specs.Rows.{rows_from, run_row}
use Rattle.lfm_program.specs.ScriptRuns.{Divides, HasStopped, MadeReady}
use Rattle.lfm_program.specs.Workers.{StopsIn}
use Rattle.lfm_script.specs.Runs.{IsReport, max_journal}
use Rattle.lfm_text.specs.Text.{max_lines}
use Rattle.lfm_script.proofs.RunReports.{made_text_told}
use Rattle.lfm_program.proofs.JournalEnds.{Chosen, at_place, choose, total_is_sum, within_counted}
use Rattle.lfm_program.proofs.Refusals.{may_meet}
use Rattle.lfm_program.proofs.Threads.{read_here}

-- The numbers are those that the first i commands add. These are all commands if none was refused, and otherwise the commands
-- before the refused one
abbrev pub MadeBy : ℕ → List Command → Option Refusal → List ℕ → ℕ → Type 0
MadeBy conditions ms r ks i = (ks ≡ all_adds (take i ms)) × (r ≡ None → length ms ≤ i) × ((x : Refusal) → r ≡ Some x → RefusedAt conditions ms i x)

abbrev refusal_or : Refusal → Option Refusal → Refusal
refusal_or other None = other
refusal_or other (Some r) = r

made_from : (conditions : ℕ) (ms : List Command) (new : List ℕ) (end : WorkerEnd) (r : Option Refusal) → EndsSo end r → (end ≡ LetGo Done → new ≡ all_adds ms)
    → ((y : Refusal) → end ≡ LetGo (Refused y) → (i : ℕ) × (new ≡ all_adds (take i ms)) × RefusedAt conditions ms i y) → (i : ℕ) × MadeBy conditions ms r new i
made_from conditions ms new end None e made stops = let all : new ≡ all_adds ms = made e in
    (length ms, (all ∙ ap all_adds (sym (take_all (length ms) ms (omega arith))), (λ _. omega arith), λ y none. absurd (true≢false (sym (ap is_some none)))))
made_from conditions ms new end (Some r) e made stops = let at = stops r e in
    (at.0, (at.1, (λ none. absurd (true≢false (ap is_some none))), λ y is. subst (λ (z : Refusal). RefusedAt conditions ms at.0 z) (ap (refusal_or r) is) at.2))

pub none_at : (rs : List (Option Refusal)) → are_none rs ≡ true → (i : ℕ) → get_or rs i None ≡ None
none_at [] e i = refl
none_at (None ∷ rs) e zero = refl
none_at (None ∷ rs) e (suc i) = none_at rs e i
none_at (Some r ∷ rs) e i = absurd (true≢false (sym e))

pub one_refused : (rs : List (Option Refusal)) → are_none rs ≡ false → (i : ℕ) × (i < length rs) × (is_some (get_or rs i None) ≡ true)
one_refused [] e = absurd (true≢false e)
one_refused (None ∷ rs) e = let rest = one_refused rs e in (suc rest.0, (let lt = rest.1 in omega arith), rest.2)
one_refused (Some r ∷ rs) e = (0, omega arith, refl)

pub refusal_is : (rs : List (Option Refusal)) (j : ℕ) (r : Option Refusal) → get_elem? rs j ≡ some r → refusal_at rs (j + 1) ≡ r
refusal_is rs j r at = let e : j + 1 - 1 ≡ j = omega arith in subst (λ (k : ℕ). get_or rs k None ≡ r) (sym e) (read_here rs j r None at)

-- an option that is some has a value
something : {A : Type 0} (o : Option A) → is_some o ≡ true → (x : A) × (o ≡ Some x)
something None e = absurd (true≢false (sym e))
something (Some x) e = (x, refl)

-- the commands at a place are those of the worker there
its_commands : (p : Plan) (scripts commands : List (Vec Command Global)) (lines : List ScriptLine) (j : ℕ) (ms : Vec Command Global) → scripts ≡ commands → lines ≡ p.lines → length scripts ≡ p.workers
    → ((i : ℕ) (d : Vec Command Global) → i < p.workers → (slice_index_or commands i d).items ≡ commands_of (i + 1) lines) → get_elem? scripts j ≡ some ms → ms.items ≡ commands_of (j + 1) p.lines
its_commands p scripts commands lines j ms same_scripts same_lines many each at = let lt = in_range scripts j ms at in
    ap (λ v. v.items) (sym (read_here scripts j ms ms at) ∙ ap (λ cs. slice_index_or cs j ms) same_scripts) ∙ each j ms (omega arith) ∙ ap (commands_of (j + 1)) same_lines

-- the journal of a script's run, and the number of commands that each worker made
pub record Ran (p : Plan) (rs : List (Option Refusal)) (es : List (Entry TotalOp)) : Type 0 where
  pub made : ℕ → ℕ
  pub run : IsRunOfMade p made es
  pub whole : (w : ℕ) → 0 < w → w ≤ p.workers → refusal_at rs w ≡ None → length (commands_of w p.lines) ≤ made w
  pub fewer : (w : ℕ) → 0 < w → w ≤ p.workers → (r : Refusal) → refusal_at rs w ≡ Some r → RefusedAt p.conditions (commands_of w p.lines) (made w) r

module _ {R : Type 0} {K : _} where
  -- what is known of the pass at place j, and of its worker's refusal
  pub record GivesBack (m : Monitor Total TotalOp R K) (ls : List ScriptLine) (rs : List (Option Refusal)) (j : ℕ) (q : Pass Total TotalOp R K) : Type 0 where
    pub belongs : OfMonitor q m
    pub idle : Idle (pass_sight q)
    pub number : (pass_sight q).number ≡ j + 1
    pub count : ℕ
    pub made : MadeBy (conditions_of m) (commands_of (j + 1) ls) (refusal_at rs (j + 1)) (own_adds (pass_sight q)) count

  nothing_yet : (m : Monitor Total TotalOp R K) (n : ℕ) (p : Pass Total TotalOp R K) → NewPass m n p → own_adds (pass_sight p) ≡ []
  nothing_yet m n p new = ap own_adds new.sees ∙ ap (λ es. adds (own n es)) new.nothing

  pub gives_back : (m : Monitor Total TotalOp R K) (ls : List ScriptLine) (rs : List (Option Refusal)) (j : ℕ) (p q : Pass Total TotalOp R K) (stops : ℕ → ℕ → Type 0) (ms : List Command) (end : WorkerEnd) (r : Option Refusal)
      → plain_conditions_of m ≡ 0 → NewPass m (j + 1) p → ms ≡ commands_of (j + 1) ls → WorksAs m stops ms p q end → get_elem? rs j ≡ some r → EndsSo end r → GivesBack m ls rs j q
  gives_back m ls rs j p q stops ms end r sent new is works at ends =
      let from : end ≡ LetGo Done → own_adds (pass_sight q) ≡ all_adds ms = λ e. works.done e ∙ ap (λ ks. ks ++ all_adds ms) (nothing_yet m (j + 1) p new) in
      let refuses : (y : Refusal) → end ≡ LetGo (Refused y) → (i : ℕ) × (own_adds (pass_sight q) ≡ all_adds (take i ms)) × RefusedAt (conditions_of m) ms i y = λ y e.
      let cause = works.refused (Refused y) e in
      (cause.0, cause.3 ∙ ap (λ ks. ks ++ all_adds (take cause.0 ms)) (nothing_yet m (j + 1) p new), (cause.1, cause.2, may_meet m q cause.1 y (cause.4 sent))) in
      let made = made_from (conditions_of m) ms (own_adds (pass_sight q)) end r ends from refuses in record {
        belongs = works.belongs;
        idle = works.idle;
        number = works.number ∙ ap (λ s. s.number) new.sees;
        count = made.0;
        made = subst (λ cs. MadeBy (conditions_of m) cs (refusal_at rs (j + 1)) (own_adds (pass_sight q)) made.0) is (subst (λ o. MadeBy (conditions_of m) ms o (own_adds (pass_sight q)) made.0) (sym (refusal_is rs j r at)) made.1);
      }

  -- all workers returned their passes, in order
  pub record AllBack (m : Monitor Total TotalOp R K) (p : Plan) (rs : List (Option Refusal)) (ps : List (Pass Total TotalOp R K)) : Type 0 where
    pub many : length ps ≡ p.workers
    pub as_many : length rs ≡ p.workers
    pub each : (j : ℕ) (q : Pass Total TotalOp R K) → get_elem? ps j ≡ some q → GivesBack m p.lines rs j q

  -- if a journal has exactly the entries of these passes, all its entries are by the workers
  pub by_workers : (m : Monitor Total TotalOp R K) (p : Plan) (rs : List (Option Refusal)) (ps : List (Pass Total TotalOp R K)) (es : List (Entry TotalOp)) → AllBack m p rs ps
      → ((j : ℕ) (q : Pass Total TotalOp R K) → get_elem? ps j ≡ some q → mine_of q ≡ length (own (pass_sight q).number es)) → length es ≡ total (λ q. mine_of q) ps → Within p.workers es
  by_workers m p rs ps es back mine whole =
      let f : ℕ → ℕ = (λ s. length (own s es)) in
      let all = total_is_sum (λ q. mine_of q) f ps 0 (λ j q at. mine j q at ∙ ap f ((back.each j q at).number ∙ omega arith)) in
      let many = back.many in let e : 0 + length ps ≡ p.workers = omega arith in let a = ap (sum_to f) e in
      within_counted p.workers es (omega arith)

  -- a pass that neither holds nor sleeps has no more entries than its share
  own_share : (m : Monitor Total TotalOp R K) (q : Pass Total TotalOp R K) → OfMonitor q m → Idle (pass_sight q) → mine_of q ≤ share_of m
  own_share m q of idle = let k = q.kept in let l = something (pass_sight q).last k.there in
      let mine = (k.left idle.0 l.0 l.1).mine_is in let share = (of.1 l.0 l.1).2 in let few = l.0.shares (pass_sight q).number in omega arith

  -- in a journal of the entries of these passes, no worker has more than its share
  pub in_shares : (m : Monitor Total TotalOp R K) (p : Plan) (rs : List (Option Refusal)) (ps : List (Pass Total TotalOp R K)) (es : List (Entry TotalOp)) → share_of m ≡ max_journal / p.workers → AllBack m p rs ps
      → ((j : ℕ) (q : Pass Total TotalOp R K) → get_elem? ps j ≡ some q → mine_of q ≡ length (own (pass_sight q).number es)) → (w : ℕ) → 0 < w → w ≤ p.workers → length (own w es) ≤ max_journal / p.workers
  in_shares m p rs ps es share_is back mine w above low =
      let many = back.many in let there = at_place ps (w - 1) (omega arith) in let e : w - 1 + 1 ≡ w = omega arith in let b = back.each (w - 1) there.0 there.1 in
      let same = ap (λ s. length (own s es)) (b.number ∙ e) in let is = mine (w - 1) there.0 there.1 in let few = own_share m there.0 b.belongs b.idle in
      subst (λ (n : ℕ). length (own w es) ≤ n) share_is (omega arith)

  pub ran : (m : Monitor Total TotalOp R K) (p : Plan) (rs : List (Option Refusal)) (ps : List (Pass Total TotalOp R K)) (es : List (Entry TotalOp)) → conditions_of m ≡ p.conditions → AllBack m p rs ps
      → ((j : ℕ) (q : Pass Total TotalOp R K) → get_elem? ps j ≡ some q → own (pass_sight q).number es ≡ own (pass_sight q).number (journal_of (pass_sight q))) → Ran p rs es
  ran m p rs ps es conditions_are back same =
      let counts : Chosen (λ j q k. MadeBy (conditions_of m) (commands_of (j + 1) p.lines) (refusal_at rs (j + 1)) (own_adds (pass_sight q)) k) ps =
      choose (λ j q k. MadeBy (conditions_of m) (commands_of (j + 1) p.lines) (refusal_at rs (j + 1)) (own_adds (pass_sight q)) k) ps (λ j q at. ((back.each j q at).count, (back.each j q at).made)) in record {
        made = λ w. counts.at (w - 1);
        run = λ w above low. let many = back.many in let there = at_place ps (w - 1) (omega arith) in let e : w - 1 + 1 ≡ w = omega arith in
            let number : (pass_sight there.0).number ≡ w = (back.each (w - 1) there.0 there.1).number ∙ e in
            ap adds (subst (λ (s : ℕ). own s es ≡ own s (journal_of (pass_sight there.0))) number (same (w - 1) there.0 there.1))
            ∙ ap (λ s. adds (own s (journal_of (pass_sight there.0)))) (sym number)
            ∙ (counts.each (w - 1) there.0 there.1).0
            ∙ ap (λ s. all_adds (take (counts.at (w - 1)) (commands_of s p.lines))) e;
        whole = λ w above low none. let many = back.many in let there = at_place ps (w - 1) (omega arith) in let e : w - 1 + 1 ≡ w = omega arith in
            subst (λ (s : ℕ). refusal_at rs s ≡ None → length (commands_of s p.lines) ≤ counts.at (w - 1)) e (counts.each (w - 1) there.0 there.1).1 none;
        fewer = λ w above low r is. let many = back.many in let there = at_place ps (w - 1) (omega arith) in let e : w - 1 + 1 ≡ w = omega arith in
            subst (λ (n : ℕ). RefusedAt n (commands_of w p.lines) (counts.at (w - 1)) r) conditions_are
            (subst (λ (s : ℕ). refusal_at rs s ≡ Some r → RefusedAt (conditions_of m) (commands_of s p.lines) (counts.at (w - 1)) r) e ((counts.each (w - 1) there.0 there.1).2 r) is);
      }

-- the results of the threads, divided into passes and refusals
pub collected : (m : Monitor Total TotalOp _ _) (stops : ℕ → ℕ → Type 0) (p : Plan) (scripts commands : List (Vec Command Global)) (lines : List ScriptLine) (before : List (Pass Total TotalOp _ _)) (ws : List Worked)
    (ps : List (Pass Total TotalOp _ _)) (rs : List (Option Refusal)) → MadeReady p.workers p.conditions m before → scripts ≡ commands → lines ≡ p.lines → length scripts ≡ p.workers
    → ((i : ℕ) (d : Vec Command Global) → i < p.workers → (slice_index_or commands i d).items ≡ commands_of (i + 1) lines)
    → ((j : ℕ) (w : Worked) → get_elem? ws j ≡ some w → (q : Pass Total TotalOp _ _) × (ms : Vec Command Global) × (get_elem? before j ≡ some q) × (get_elem? scripts j ≡ some ms)
    × WorksAs m stops ms.items q w.pass w.end)
    → length ws ≡ length scripts → Divides ws ps rs → AllBack m p rs ps
collected m stops p scripts commands lines before ws ps rs ready same_scripts same_lines many each worked as_many divides = record {
  many = divides.many ∙ (as_many ∙ many);
  as_many = divides.as_many ∙ (as_many ∙ many);
  each = λ j q at.
      let lt : j < length ws = (let a = in_range ps j q at in let b = divides.many in omega arith) in
      let w = at_place ws j lt in let told = divides.each j w.0 w.1 in let same : w.0.pass ≡ q = some-injective w.0.pass q (sym told.0 ∙ at) in
      let t = worked j w.0 w.1 in let r = told.1 in let is = its_commands p scripts commands lines j t.1 same_scripts same_lines many each t.3 in
      subst (GivesBack m p.lines rs j) same (gives_back m p.lines rs j t.0 w.0.pass stops t.1.items w.0.end r.0 ready.sent (ready.passes j t.0 t.2) is t.4 r.1 r.2);
}

-- if a worker was stopped, the gate may stop it before one of its commands
pub stopped_in : (m : Monitor Total TotalOp _ _) (stops : ℕ → ℕ → Type 0) (p : Plan) (scripts commands : List (Vec Command Global)) (lines : List ScriptLine) (before : List (Pass Total TotalOp _ _)) (ws : List Worked)
    → MadeReady p.workers p.conditions m before → scripts ≡ commands → lines ≡ p.lines → length scripts ≡ p.workers
    → ((i : ℕ) (d : Vec Command Global) → i < p.workers → (slice_index_or commands i d).items ≡ commands_of (i + 1) lines)
    → ((j : ℕ) (w : Worked) → get_elem? ws j ≡ some w → (q : Pass Total TotalOp _ _) × (ms : Vec Command Global) × (get_elem? before j ≡ some q) × (get_elem? scripts j ≡ some ms)
    × WorksAs m stops ms.items q w.pass w.end)
    → HasStopped ws → StopsIn stops p
stopped_in m stops p scripts commands lines before ws ready same_scripts same_lines many each worked s =
    let j = s.0 in let t = worked j s.1 s.2 in let lt = in_range scripts j t.1 t.3 in let k = t.4.stopped s.3 in
    let is = its_commands p scripts commands lines j t.1 same_scripts same_lines many each t.3 in
    let number : (pass_sight t.0).number ≡ j + 1 = ap (λ x. x.number) (ready.passes j t.0 t.2).sees in (
      j + 1,
      omega arith,
      omega arith,
      (k.0, subst (λ ms. k.0 < length ms) is k.1, subst (λ (w : ℕ). stops w (k.0 + 1)) number k.3),
    )

pub both_true : (a b : Bool) → a ≡ true → b ≡ true → (a && b) ≡ true
both_true true b e f = f
both_true false b e f = absurd (true≢false (sym e))

pub and_true : (a b x : Bool) → a ≡ x → b ≡ true → (a && b) ≡ x
and_true true b x e f = f ∙ e
and_true false b x e f = e

-- the report of a run that ended
pub reported : (p : Plan) (rs : List (Option Refusal)) (es : List (Entry TotalOp)) (rows : List Row) (t o : Total) (lawful succeeded : Bool) → plan_allowed p ≡ true → length p.lines < max_lines
    → Within p.workers es → LawfulJournal es → ((w : ℕ) → 0 < w → w ≤ p.workers → length (own w es) ≤ max_journal / p.workers) → Ran p rs es → length rs ≡ p.workers → rows ≡ rows_from (run_row es (refusal_at rs)) 1 p.workers → t ≡ after_all total_after o es → o ≡ record { 0 = 0 } → lawful ≡ true
    → succeeded ≡ are_none rs → IsReport p (report_text rows t.0 lawful) succeeded
reported p rs es rows t o lawful succeeded is_allowed few within obeys shares ran many rows_are total_is opening_is lawful_is succeeded_is = record {
  made = ran.made;
  refused = refusal_at rs;
  whole = ran.whole;
  fewer = ran.fewer;
  journal = es;
  lawful = obeys;
  within = within;
  shares = shares;
  run = ran.run;
  none = λ v w above low. none_at rs (sym succeeded_is ∙ v) (w - 1);
  some = λ v. let one = one_refused rs (sym succeeded_is ∙ v) in let lt = one.1 in let e : one.0 + 1 - 1 ≡ one.0 = omega arith in
      (one.0 + 1, omega arith, omega arith, subst (λ (k : ℕ). is_some (get_or rs k None) ≡ true) (sym e) one.2);
  text_is =
      ap (λ x. report_text x t.0 lawful) rows_are
      ∙ ap (λ (x : Total). report_text (rows_from (run_row es (refusal_at rs)) 1 p.workers) x.0 lawful) (total_is ∙ ap (λ x. after_all total_after x es) opening_is)
      ∙ ap (λ b. report_text (rows_from (run_row es (refusal_at rs)) 1 p.workers) (total_of es) b) lawful_is
      ∙ made_text_told p ran.made (refusal_at rs) es is_allowed few within ran.run;
}
