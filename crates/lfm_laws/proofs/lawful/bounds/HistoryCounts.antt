-- How many records have left and were pushed after an event.
use Rattle.std.proofs.Common.{◌≡◌, ◌+◌, ◌≤◌, List, length, ap, ◌∙◌, arith}
use Rattle.std.proofs.lemmas.List.{length-append}
use Rattle.lfm_words.specs.declared.pop_lists.Record.{Record}
use Rattle.lfm_laws.specs.steady.Ghost.{Ghost}
use Rattle.lfm_laws.specs.steady.Numbered.{records}
use Rattle.lfm_laws.specs.steady.EventOutcome.{GoesOn}
use Rattle.lfm_laws.proofs.lawful.read.RecordsRead.{length-records}

-- the count of records that have left grows by those that leave, and the count of pushed records does not fall
pub popped_by_history : (g h : Ghost) (pushes pops answers : List Record) → GoesOn g h pushes pops answers → h.popped ≡ g.popped + length pops
popped_by_history g h pushes pops answers on =
    let before = length-records g.pushed_at 0 g.popped in
    let after = length-records h.pushed_at 0 h.popped in
    let grown = ap length on.popped ∙ length-append (records g.pushed_at 0 g.popped) pops in
    omega (arith, before, after, grown)

pub pushed_by_history : (g h : Ghost) (pushes pops answers : List Record) → GoesOn g h pushes pops answers → g.pushed ≤ h.pushed
pushed_by_history g h pushes pops answers on =
    let before = length-records g.pushed_at 0 g.pushed in
    let after = length-records h.pushed_at 0 h.pushed in
    let grown = ap length on.pushed ∙ length-append (records g.pushed_at 0 g.pushed) pushes in
    omega (arith, before, after, grown)
