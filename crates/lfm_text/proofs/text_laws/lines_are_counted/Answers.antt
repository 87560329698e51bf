use Rattle.lfm_text.proofs.LineCount.{length-lines_of, line_count-append, is_past_limit-append, is_past_limit-after_feeds}
use Rattle.lfm_text.proofs.text_laws.lines_are_counted.Goals as goal

pub returns-clause-count : goal.returns-clause-count
returns-clause-count c = length-lines_of

pub returns-clause-more : goal.returns-clause-more
returns-clause-more c = line_count-append

pub returns-clause-feeds : goal.returns-clause-feeds
returns-clause-feeds c = is_past_limit-after_feeds

pub returns-clause-past : goal.returns-clause-past
returns-clause-past c = is_past_limit-append
