use Rattle.lfm_laws.proofs.lawful.rounds.TriedPosts.{posts_with_records_are_tried}
use Rattle.lfm_laws.proofs.handoffs.posts_with_records_are_tried.Goals as goal

pub returns : goal.returns
returns c = posts_with_records_are_tried
