use Rattle.std.proofs.Common.{rules, ◌≡◌, refl}
use Rattle.lfm_mutex.specs.Belongs.{limits_of}
use Rattle.lfm_mutex.specs.calls.Sections.{with_value}
use Rattle.lfm_mutex.specs.calls.Sight.{sight}
use Rattle.example_time_limit.proofs.Leaving.{holds_once, leaves}
use Rattle.example_time_limit.proofs.desk.Desk.change.Goals as goal

-- the closure leaves the next request, and so does the seat
pub returns-clause-left : goal.returns-clause-left
returns-clause-left g c = let x = c.in_ok-with.ensures.section in
    let same : x.left ≡ c.args.next = search rules in
    let once = holds_once (limits_of c.args.self.now.request).budget (sight c.args.party.now.seat) x.held x.locked c.requires.1 x.holds.0 in
    leaves (with_value x.held x.left) (sight c.with.new.seat) x.unlocked x.left c.args.next once refl same x.leaves.0
