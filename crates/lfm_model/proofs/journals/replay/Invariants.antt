use Rattle.std.proofs.Common.{◌≡◌, ◌≤◌, ◌++◌, drop, length, vec_len, vec_capacity}
use Rattle.lfm_model.specs.Journals.{after_all, replies_of}
use Rattle.lfm_model.proofs.journals.replay.Given as goal

abbrev pub invariant-loop-entry : goal.invariant-loop-entry
invariant-loop-entry g l =
    (vec_capacity l.replies ≡ length l.entries) × (vec_len l.replies ≤ l.entry-index)
    × (after_all g.O.Object.after l.object (drop l.entry-index l.entries) ≡ after_all g.O.Object.after l.fn.opening l.entries)
    × (l.replies.items ++ replies_of g.O.Object.after g.O.Object.reply l.object (drop l.entry-index l.entries) ≡ replies_of g.O.Object.after g.O.Object.reply l.fn.opening l.entries)
