use Rattle.std.proofs.Common.{rules, subst, sym}
use Rattle.lfm_mutex.specs.Belongs.{OfMutex}
use Rattle.lfm_mutex.specs.Rounds.{HasRounded, KeepsRound, MayRound}
use Rattle.lfm_mutex.proofs.RoundEnds.{if_ok}
use Rattle.lfm_mutex.proofs.mutex.Mutex.run.Goals as goal

pub returns-clause-rounds : goal.returns-clause-rounds
returns-clause-rounds g c = if_ok _ _ c.share.result (λ v gives j t at. let x = gives j t at in
    (x.0, x.1, subst (λ m. HasRounded g.F.Fn c.args.f.now c.args.rounds m x.0 t) x.2.shows x.2.met)) c.share.ensures.gives

pub returns-clause-belongs : goal.returns-clause-belongs
returns-clause-belongs g c = if_ok _ _ c.share.result (λ v gives j t at. let x = gives j t at in subst (λ m. OfMutex t m) x.2.shows x.2.met.0) c.share.ensures.gives

pub returns-clause-count : goal.returns-clause-count
returns-clause-count g c = c.share.ensures.count

pub returns-clause-back : goal.returns-clause-back
returns-clause-back g c = c.share.ensures.back

pub share-requires-after_bounds : goal.share-requires-after_bounds
share-requires-after_bounds g c κs within j s at b is = (subst (λ m. OfMutex s m × MayRound g.F.Fn c.args.f.now c.args.rounds m × KeepsRound g.F.Fn c.args.f.now c.args.rounds m) (sym is) (c.requires.belongs j s at, c.requires.callable, c.requires.keeps), search rules)
