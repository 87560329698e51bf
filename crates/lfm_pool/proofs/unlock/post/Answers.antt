use Rattle.std.proofs.Common.{ap, sym, ◌∙◌}
use Rattle.lfm_words.specs.declared.links.Link.{Link}
use Rattle.lfm_pool.proofs.Posting.{grants_back, has_posted, looks, makes, serves_back, tries, tries_own, was_taken, whole_back}
use Rattle.lfm_pool.proofs.SeveralSteps.{may_then}
use Rattle.lfm_pool.proofs.unlock.post.Goals as goal

pub handoff_store-requires-clause-at : goal.handoff_store-requires-clause-at
handoff_store-requires-clause-at c = makes c.args.seat.now c.args.pool.now c.args.mutex c.requires.may c.requires.at

pub go_on-word-requires-clause-is_next : goal.go_on-word-requires-clause-is_next
go_on-word-requires-clause-is_next c =
    let f = c.handoff_store in looks c.args.seat.now c.args.pool.now c.args.mutex c.requires.may c.requires.at f.new.seat f.ensures.step f.ensures.belongs f.ensures.may

pub returns-then-push-eq0-clause-posts : goal.returns-then-push-eq0-clause-posts
returns-then-push-eq0-clause-posts c =
    let f = c.handoff_store in let g = c.go_on-word in
    has_posted c.args.seat.now c.args.pool.now c.args.mutex c.requires.may c.requires.at f.new.seat f.ensures.step f.ensures.belongs f.ensures.may g.new.seat g.result g.ensures.step g.ensures.belongs g.ensures.may
    (sym (ap (λ (x : Link). x.next) c.unpack_link-push.ensures.holds) ∙ c.if-push-eq0.true)

pub handoff_exchange-found-requires-clause-at : goal.handoff_exchange-found-requires-clause-at
handoff_exchange-found-requires-clause-at c =
    let f = c.handoff_store in let g = c.go_on-word in
    tries c.args.seat.now c.args.pool.now c.args.mutex c.requires.may c.requires.at f.new.seat f.ensures.step f.ensures.belongs f.ensures.may g.new.seat g.result g.ensures.step g.ensures.belongs g.ensures.may
    (λ e. c.if-push-eq0.false (ap (λ (x : Link). x.next) c.unpack_link-push.ensures.holds ∙ e))

pub handoff_exchange-found-requires-clause-expected : goal.handoff_exchange-found-requires-clause-expected
handoff_exchange-found-requires-clause-expected c =
    let f = c.handoff_store in let g = c.go_on-word in
    tries_own c.args.seat.now c.args.pool.now c.args.mutex c.requires.may c.requires.at f.new.seat f.ensures.step f.ensures.belongs f.ensures.may g.new.seat g.result g.ensures.step g.ensures.belongs g.ensures.may
    (λ e. c.if-push-eq0.false (ap (λ (x : Link). x.next) c.unpack_link-push.ensures.holds ∙ e)) c.pack_handoff-own.result c.pack_handoff-own.ensures

pub returns-then-found-own-clause-posts : goal.returns-then-found-own-clause-posts
returns-then-found-own-clause-posts c =
    let f = c.handoff_store in let g = c.go_on-word in let h = c.handoff_exchange-found in
    was_taken c.args.seat.now c.args.pool.now c.args.mutex c.requires.may c.requires.at f.new.seat f.ensures.step f.ensures.belongs f.ensures.may g.new.seat g.result g.ensures.step g.ensures.belongs g.ensures.may
    (λ e. c.if-push-eq0.false (ap (λ (x : Link). x.next) c.unpack_link-push.ensures.holds ∙ e)) h.new.seat c.pack_handoff-own.result h.result h.ensures.step h.ensures.belongs h.ensures.may c.if-found-own.true

pub serve-requires-clause-at : goal.serve-requires-clause-at
serve-requires-clause-at c =
    let f = c.handoff_store in let g = c.go_on-word in let h = c.handoff_exchange-found in
    serves_back c.args.seat.now c.args.pool.now c.args.mutex c.requires.may c.requires.at f.new.seat f.ensures.step f.ensures.belongs f.ensures.may g.new.seat g.result g.ensures.step g.ensures.belongs g.ensures.may
    (λ e. c.if-push-eq0.false (ap (λ (x : Link). x.next) c.unpack_link-push.ensures.holds ∙ e)) h.new.seat c.pack_handoff-own.result h.result h.ensures.step h.ensures.belongs h.ensures.may c.if-found-own.false

pub serve-requires-clause-whole : goal.serve-requires-clause-whole
serve-requires-clause-whole c =
    let f = c.handoff_store in let g = c.go_on-word in let h = c.handoff_exchange-found in
    whole_back c.args.seat.now c.args.pool.now c.args.mutex c.requires.may c.requires.at f.new.seat f.ensures.step f.ensures.belongs f.ensures.may g.new.seat g.result g.ensures.step g.ensures.belongs g.ensures.may
    (λ e. c.if-push-eq0.false (ap (λ (x : Link). x.next) c.unpack_link-push.ensures.holds ∙ e)) h.new.seat c.pack_handoff-own.result h.result h.ensures.step h.ensures.belongs h.ensures.may c.if-found-own.false

pub returns-clause-posts : goal.returns-clause-posts
returns-clause-posts c =
    let f = c.handoff_store in let g = c.go_on-word in let h = c.handoff_exchange-found in
    grants_back c.args.seat.now c.args.pool.now c.args.mutex c.requires.may c.requires.at f.new.seat f.ensures.step f.ensures.belongs f.ensures.may g.new.seat g.result g.ensures.step g.ensures.belongs g.ensures.may
    (λ e. c.if-push-eq0.false (ap (λ (x : Link). x.next) c.unpack_link-push.ensures.holds ∙ e)) h.new.seat c.pack_handoff-own.result h.result h.ensures.step h.ensures.belongs h.ensures.may c.if-found-own.false
    c.serve.new.seat c.in-Some.served c.in-Some.ensures.grants

pub returns-clause-may : goal.returns-clause-may
returns-clause-may c =
    let h = c.handoff_exchange-found in let g = c.in-Some.ensures.grants in
    may_then h.new.seat c.serve.new.seat c.args.pool.now c.args.mutex h.ensures.may c.in-Some.ensures.belongs (g.0, g.1, g.2, g.3.1)
