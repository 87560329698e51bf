use Rattle.lfm_pool.proofs.DeepCalls.{carries_inner, gives_up, noted_inner}
use Rattle.lfm_pool.proofs.deepen.give_up_one.Goals as goal

pub note_depth-requires-clause-carries : goal.note_depth-requires-clause-carries
note_depth-requires-clause-carries c = carries_inner c.args.seat.now c.args.pool.now c.args.mutex c.args.depth c.requires.has c.requires.inner

pub note_depth-requires-clause-noted : goal.note_depth-requires-clause-noted
note_depth-requires-clause-noted c = noted_inner c.args.seat.now c.args.pool.now c.args.mutex c.args.depth c.requires.has c.requires.inner

pub returns-clause-gives : goal.returns-clause-gives
returns-clause-gives c = gives_up c.args.seat.now c.args.pool.now c.args.mutex c.args.depth c.requires.has c.requires.inner c.note_depth.new.seat c.note_depth.ensures.notes
