use Rattle.lfm_table.proofs.SleepingThreads as sleeping
use Rattle.lfm_table.proofs.laws.no_grant_is_slept_through.Goals as goal

pub returns : goal.returns
returns c = sleeping.no_grant_is_slept_through c.grants_differ_in_their_low_bits.ensures
