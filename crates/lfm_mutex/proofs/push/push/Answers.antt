use Rattle.std.proofs.Common.{None, sym, ap, subst, ◌∙◌, refl}
use Rattle.lfm_words.specs.declared.links.Link.{Link}
use Rattle.lfm_protocol.specs.declared.points.Point.{Point}
use Rattle.lfm_protocol.specs.declared.points.Point.TheVariants.{LinkStore, PushExchange, PushedHandoffLoad}
use Rattle.lfm_protocol.specs.After.{found_posted, pushed}
use Rattle.lfm_protocol.specs.Begin.{Stepped}
use Rattle.lfm_laws.specs.table.Words.{stepped_by, handoff_of, link_of}
use Rattle.lfm_table.specs.Steps.{oldest_in}
use Rattle.lfm_table.specs.FastPath.{IsBetweenSteps}
use Rattle.lfm_table.proofs.tables.StepFacts.{made_of}
use Rattle.lfm_table.proofs.tables.FastPathSteps.{told_before, same_then}
use Rattle.lfm_mutex.specs.calls.Pushes.{PlainCourse}
use Rattle.lfm_mutex.specs.calls.Runs.{opens}
use Rattle.lfm_mutex.proofs.runs.PlainCourses.{plain_next}
use Rattle.lfm_mutex.proofs.runs.PushPoints.{exchanged, exchanged_not, found_none, found_one, queued_end, handoff_stays, pushes_by}
use Rattle.lfm_mutex.proofs.push.push.Goals as goal

pub keep-handoff-requires-clause-stays : goal.keep-handoff-requires-clause-stays
keep-handoff-requires-clause-stays g c κs within = let x = c.args.state.now in
    λ n. handoff_stays c.args.pusher x.depth x.takes x.posts c.keep-found.new.seat.number n None

pub keep-word-requires-clause-fit : goal.keep-word-requires-clause-fit
keep-word-requires-clause-fit g c κs within = let s = c.args.seat.now in let x = c.args.state.now in
    subst (λ (z : Point). IsBetweenSteps s (made_of x.depth x.takes x.posts z)) c.requires.stands c.requires.fit

pub returns-then-found-word-clause-fit : goal.returns-then-found-word-clause-fit
returns-then-found-word-clause-fit g c =
    let x = c.args.state.now in let u = c.args.pusher in
    let w = c.keep-word in let old = c.unpack_link-seen in let f = c.keep-found in
    subst (λ (z : Stepped). IsBetweenSteps f.new.seat z.seat)
    (ap (λ (z : Link). stepped_by (made_of x.depth x.takes x.posts (PushExchange u z)) f.new.seat.number f.result (oldest_in f.new.seat.moving)) old.ensures.holds
    ∙ exchanged_not u x.depth x.takes x.posts f.new.seat.number w.result f.result (oldest_in f.new.seat.moving) c.if-found-word.true) f.ensures.step.fit

pub returns-then-is_posted_in-clause-fit : goal.returns-then-is_posted_in-clause-fit
returns-then-is_posted_in-clause-fit g c =
    let x = c.args.state.now in let u = c.args.pusher in let k = c.keep-handoff in
    subst (λ (z : Stepped). IsBetweenSteps k.new.seat z.seat)
    (found_one u x.depth x.takes x.posts k.new.seat.number k.result (oldest_in k.new.seat.moving) (sym c.is_posted_in.ensures ∙ c.if-is_posted_in.true)) k.ensures.step.fit

pub returns-clause-fit : goal.returns-clause-fit
returns-clause-fit g c =
    let x = c.args.state.now in let u = c.args.pusher in let k = c.keep-handoff in
    subst (λ (z : Stepped). IsBetweenSteps k.new.seat z.seat)
    (found_none u x.depth x.takes x.posts k.new.seat.number k.result (oldest_in k.new.seat.moving) (sym c.is_posted_in.ensures ∙ c.if-is_posted_in.false) ∙ queued_end x u) k.ensures.step.fit

pub returns-then-found-word-clause-made : goal.returns-then-found-word-clause-made
returns-then-found-word-clause-made g c =
    let s = c.args.seat.now in let x = c.args.state.now in let u = c.args.pusher in
    let w = c.keep-word in let old = c.unpack_link-seen in let k = c.keep in let f = c.keep-found in
    let to2 = same_then w.ensures.same k.ensures.same in let to3 = same_then to2 f.ensures.same in
    let so = pushes_by x u old.result (opens (made_of x.depth x.takes x.posts (LinkStore u (link_of f.result)))) c.requires.stands c.requires.fit (told_before w.ensures.same w.ensures.step) old.ensures.holds (told_before to2 k.ensures.step) (told_before to3 f.ensures.step)
    (ap (λ (z : Link). stepped_by (made_of x.depth x.takes x.posts (PushExchange u z)) s.number f.result (oldest_in f.new.seat.moving)) old.ensures.holds ∙ exchanged_not u x.depth x.takes x.posts s.number w.result f.result (oldest_in f.new.seat.moving) c.if-found-word.true) in
    so.plain

pub returns-then-is_posted_in-clause-made : goal.returns-then-is_posted_in-clause-made
returns-then-is_posted_in-clause-made g c =
    let s = c.args.seat.now in let x = c.args.state.now in let u = c.args.pusher in
    let w = c.keep-word in let old = c.unpack_link-seen in let l = c.keep in let f = c.keep-found in let k = c.keep-handoff in
    let to2 = same_then w.ensures.same l.ensures.same in let to3 = same_then to2 f.ensures.same in let to4 = same_then to3 k.ensures.same in
    let so = pushes_by x u old.result (opens (made_of x.depth x.takes x.posts (PushedHandoffLoad u))) c.requires.stands c.requires.fit (told_before w.ensures.same w.ensures.step) old.ensures.holds (told_before to2 l.ensures.step) (told_before to3 f.ensures.step)
    (ap (λ (z : Link). stepped_by (made_of x.depth x.takes x.posts (PushExchange u z)) s.number f.result (oldest_in f.new.seat.moving)) old.ensures.holds ∙ exchanged u x.depth x.takes x.posts s.number w.result f.result (oldest_in f.new.seat.moving) c.if-found-word.false) in
    let some = sym c.is_posted_in.ensures ∙ c.if-is_posted_in.true in
    let so4 = plain_next (opens (made_of x.depth x.takes x.posts (found_posted u (handoff_of k.result)))) so (told_before to4 k.ensures.step) (found_one u x.depth x.takes x.posts s.number k.result (oldest_in k.new.seat.moving) some) (λ e. cc) refl refl in
    so4.plain

pub returns-clause-made : goal.returns-clause-made
returns-clause-made g c =
    let s = c.args.seat.now in let x = c.args.state.now in let u = c.args.pusher in
    let w = c.keep-word in let old = c.unpack_link-seen in let l = c.keep in let f = c.keep-found in let k = c.keep-handoff in
    let to2 = same_then w.ensures.same l.ensures.same in let to3 = same_then to2 f.ensures.same in let to4 = same_then to3 k.ensures.same in
    let at = made_of x.depth x.takes x.posts (PushedHandoffLoad u) in
    let so = pushes_by x u old.result (opens at) c.requires.stands c.requires.fit (told_before w.ensures.same w.ensures.step) old.ensures.holds (told_before to2 l.ensures.step) (told_before to3 f.ensures.step)
    (ap (λ (z : Link). stepped_by (made_of x.depth x.takes x.posts (PushExchange u z)) s.number f.result (oldest_in f.new.seat.moving)) old.ensures.holds ∙ exchanged u x.depth x.takes x.posts s.number w.result f.result (oldest_in f.new.seat.moving) c.if-found-word.false) in
    let none = sym c.is_posted_in.ensures ∙ c.if-is_posted_in.false in
    let so4 = plain_next (pushed at u) so (told_before to4 k.ensures.step) (found_none u x.depth x.takes x.posts s.number k.result (oldest_in k.new.seat.moving) none) (λ e. cc) refl refl in
    subst (λ (z : Stepped). PlainCourse g.T.Kept.follows g.T.Kept.fits s.number s.limits.seats x s.moving s.place.me.0 z.turn z.seat k.new.seat.moving k.new.seat.place.me.0) (queued_end x u) so4.plain
