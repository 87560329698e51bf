use Rattle.std.proofs.Common.{ℕ, subst}
use Rattle.lfm_protocol.specs.declared.answers.Answer.{Answer}
use Rattle.lfm_protocol.specs.declared.answers.Call.{Call}
use Rattle.lfm_mutex.specs.calls.Sight.{sight, Sends}
use Rattle.lfm_mutex.specs.calls.Trails.{MakesCall}
use Rattle.lfm_mutex.proofs.runs.SendEnds.{send_sends, send_makes}
use Rattle.lfm_mutex.proofs.mutex.Mutex.send_lock_without_waking.Goals as goal

pub returns-then-number-seat-clause-sends : goal.returns-then-number-seat-clause-sends
returns-then-number-seat-clause-sends g c = let l = c.args.self.now.limits in let s = sight c.args.seat.now in let x = c.send_awake in let t = sight x.new.seat in
    subst (λ (u : ℕ). Sends l.seats s u t x.result.0) c.get-number.ensures.value (send_sends g.T.Kept.follows g.T.Kept.fits l s t c.get-number.result x.result.0 x.ensures.made)

pub returns-then-number-seat-clause-steps : goal.returns-then-number-seat-clause-steps
returns-then-number-seat-clause-steps g c = let l = c.args.self.now.limits in let s = sight c.args.seat.now in let x = c.send_awake in let t = sight x.new.seat in
    subst (λ (u : ℕ). MakesCall l (λ y. Answer.Sent) (Call.SendLock u) s t x.result.0) c.get-number.ensures.value (send_makes g.T.Kept.follows g.T.Kept.fits l s t c.get-number.result x.result.0 x.ensures.made)
