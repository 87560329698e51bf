-- The words of parkers that were notified.
use Rattle.std.specs.Prelude.{ℕ}
use Rattle.lfm_plain_condvar.specs.declared.parkers.woken.Woken.{Woken}

-- the word of a parker whose waiter was woken like this
abbrev pub notified_word : Woken → ℕ
notified_word Woken.Alone = 2
notified_word Woken.WithOthers = 3
