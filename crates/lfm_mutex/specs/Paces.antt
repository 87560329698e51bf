-- The pace of a new mutex.
use Rattle.lfm_mutex.specs.declared.pace.Pace.{Pace}

-- 12 spins and 4 naps before a seat queues, and then 800 polls if at most 8 seats hold or wait
abbrev pub usual_pace : Pace
usual_pace = record { polls = 800; near = 8; spins = 12; naps = 4 }
