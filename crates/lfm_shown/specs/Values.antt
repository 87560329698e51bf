-- What each word of a state holds.
use Rattle.lfm_protocol.specs.Core.{Core}
use Rattle.lfm_protocol.specs.Seats.{link, wake}
use Rattle.lfm_protocol.specs.declared.kinds.Word.{Word}
use Rattle.lfm_shown.specs.declared.values.Value.{Value}
use Rattle.lfm_shown.specs.declared.values.Value.TheVariants.{Number, Handoff, Link, Wake}

-- what this word holds, in its own coding
abbrev pub word_value : Core → Word → Value
word_value c Word.Count = Number c.count
word_value c Word.Owner = Number c.owner
word_value c Word.Handoff = Handoff c.handoff
word_value c Word.Push = Link c.push
word_value c (Word.Link t) = Link (link c.links t)
word_value c (Word.Wake t) = Wake (wake c.wakes t)
