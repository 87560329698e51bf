use Rattle.std.proofs.Common.{◌≡◌, ◌+◌, suc, Ok, Err, inl, inr, subst, sym, arith}
use Rattle.lfm_monitor.specs.Rounds.{AllGoOn, EndsRounds}
use Rattle.lfm_monitor.proofs.monitor.Monitor.make_rounds.Goals as goal

-- one more round returned Continue
pub rounds-preserved : goal.rounds-preserved
rounds-preserved g c = let i = c.rounds.invariant in let e = c.in-Ok-Continue.ensures in let went_on = rw c.in-Ok-Continue.field-0-is at e.holds in
    let one : suc c.rounds.round ≡ c.rounds.round + 1 = omega arith in record {
      belongs = e.belongs;
      rounds = subst (λ n. AllGoOn c.args.self.now (λ i p q r. g.S.CriticalSection.makes c.args.section.now i p q r) n c.args.pass c.hold.new.pass) one (c.rounds.pass, i.rounds, went_on);
    }

pub returns-in-Ok-Break-clause-rounds : goal.returns-in-Ok-Break-clause-rounds
returns-in-Ok-Break-clause-rounds g c = let b = c.in-Ok-Break in
    inr (c.rounds.round, c.rounds-test.true, (c.rounds.pass, Ok b.field-0, c.rounds.invariant.rounds, b.ensures.holds, subst (λ x. EndsRounds (Ok x)) (sym b.field-0-is) tt))

pub returns-in-Err-clause-rounds : goal.returns-in-Err-clause-rounds
returns-in-Err-clause-rounds g c = let b = c.in-Err in inr (c.rounds.round, c.rounds-test.true, (c.rounds.pass, Err b.field-0, c.rounds.invariant.rounds, b.ensures.holds, tt))

-- all rounds were made
pub returns-clause-rounds : goal.returns-clause-rounds
returns-clause-rounds g c = let past = c.rounds-test.false in let within = c.rounds.auto.round-end in let all : c.rounds.round ≡ c.args.rounds = omega arith in
    inl (subst (λ n. AllGoOn c.args.self.now (λ i p q r. g.S.CriticalSection.makes c.args.section.now i p q r) n c.args.pass c.rounds.pass) all c.rounds.invariant.rounds)
