-- Which mutex and which condvar a hand is of.
use Rattle.lfm_mutex.specs.declared.mutex.Mutex.{Mutex}
use Rattle.lfm_mutex.specs.Belongs.{OfMutex}
use Rattle.lfm_plain_condvar.specs.declared.condvar.PlainCondvar.{PlainCondvar}
use Rattle.lfm_plain_condvar.specs.Belongs.{OfPlain}
use Rattle.lfm_plain_test_tools.specs.declared.hands.Hand.{Hand}
use Rattle.std.specs.Prelude.{ℕ}

-- its seats are of this mutex and this condvar
abbrev pub IsHandOf : Hand → Mutex ℕ → PlainCondvar → Type 0
IsHandOf h m v = OfMutex h.seat m × OfPlain h.cond v
