use Rattle.std.proofs.Common.{◌≡◌, refl, subst, arith, inl}
use Rattle.lfm_mutex.specs.Rounds.{RoundGives, RoundsLead}
use Rattle.lfm_mutex.proofs.RoundEnds.{ends, goes_on, no_refusal, the_refusal}
use Rattle.lfm_mutex.proofs.rounds.make_rounds.Goals as goal

pub returns-then-is_err : goal.returns-then-is_err
returns-then-is_err g c = let i = c.rounds.invariant in let made : RoundGives g.F.Fn c.args.f.now c.rounds.round c.rounds.seat c.f.result c.f.new.arg3 = (_, _, refl, refl, c.f.ensures) in
    let no = the_refusal c.f.result c.is_err.result c.is_err.ensures.value c.if-is_err.true in
    ends g.F.Fn c.args.f.now c.args.rounds c.args.mutex.now c.requires.keeps c.args.seat c.rounds.seat c.f.new.arg3 c.rounds.round c.f.result c.rounds-test.true i.0 i.1 i.2 made no.0 no.1

pub rounds-preserved : goal.rounds-preserved
rounds-preserved g c = let i = c.rounds.invariant in let made : RoundGives g.F.Fn c.args.f.now c.rounds.round c.rounds.seat c.f.result c.f.new.arg3 = (_, _, refl, refl, c.f.ensures) in
    goes_on g.F.Fn c.args.f.now c.args.rounds c.args.mutex.now c.requires.keeps c.args.seat c.rounds.seat c.f.new.arg3 c.rounds.round c.f.result c.rounds-test.true i.0 i.1 i.2 made
    (no_refusal c.f.result c.is_err.result c.is_err.ensures.value c.if-is_err.false)

pub returns : goal.returns
returns g c = let i = c.rounds.invariant in let all : c.rounds.round ≡ c.args.rounds = (let a = c.rounds.auto.round-end in let b = c.rounds-test.false in omega arith) in
    (i.0, i.1, inl (subst (λ n. RoundsLead g.F.Fn c.args.f.now n c.args.seat c.rounds.seat) all i.2))
