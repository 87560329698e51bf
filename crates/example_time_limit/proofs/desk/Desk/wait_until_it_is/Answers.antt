use Rattle.std.proofs.Common.{rules, ◌≡◌, ◌∙◌, sym}
use Rattle.lfm_mutex.specs.Belongs.{limits_of}
use Rattle.lfm_mutex.specs.calls.Sight.{sight}
use Rattle.example_time_limit.proofs.Leaving.{holds_once, leaves}
use Rattle.example_time_limit.proofs.desk.Desk.wait_until_it_is.Goals as goal

-- the seat holds a request that is no other, and leaves it so
pub returns-clause-left : goal.returns-clause-left
returns-clause-left g c = let w = c.wait_while-waited in
    let need = c.in_ok-waited.ensures.waits.2 in
    let says = need.2 in
    let same : says.shown.now ≡ c.args.wanted = search rules in
    let once = w.ensures.depth ∙ holds_once (limits_of c.args.self.now.request).budget (sight c.args.party.now.seat) (sight c.lock_barging.new.seat) c.in_ok-lock_barging.field-0 c.requires.1 c.in_ok-lock_barging.ensures.locks in
    leaves (sight w.new.seat) (sight c.unlock.new.seat) c.in_ok-unlock.field-0 need.0 c.args.wanted once need.1 (sym says.shows ∙ same) c.in_ok-unlock.ensures.unlocks
