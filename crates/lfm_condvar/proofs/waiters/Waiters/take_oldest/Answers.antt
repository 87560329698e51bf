use Rattle.std.proofs.Common.{rules, arith, subst, ◌≤◌, [], ◌∷◌}
use Rattle.lfm_condvar.specs.Lists.{GoOnFrom, times}
use Rattle.lfm_condvar.proofs.Followed.{follows_taken}
use Rattle.lfm_condvar.proofs.waiters.Waiters.take_oldest.Goals as goal

pub invariant_of-self-2-clause-tickets : goal.invariant_of-self-2-clause-tickets
invariant_of-self-2-clause-tickets c = let s = c.args.self.now in let t = subst (GoOnFrom s.sent) c.in_ok-oldest.ensures.items s.tickets in t.1

pub invariant_of-self-2-clause-once : goal.invariant_of-self-2-clause-once
invariant_of-self-2-clause-once c k = let s = c.args.self.now in let o = subst (λ ws. times k ws ≤ 1) c.in_ok-oldest.ensures.items (s.once k) in omega arith

pub returns-clause-follows : goal.returns-clause-follows
returns-clause-follows c s = follows_taken (c.in_ok-oldest.oldest ∷ []) s _ _ (search rules)

pub returns-in_err-oldest-clause-follows : goal.returns-in_err-oldest-clause-follows
returns-in_err-oldest-clause-follows c s = follows_taken [] s _ _ (search rules)
