use Rattle.std.proofs.Common.{◌≤◌, ◌*◌, ◌∷◌, [], ◌∙◌, ap, sym, subst, arith, length, ℕ}
use Rattle.lfm_model.specs.declared.journals.What.TheVariants.{Did}
use Rattle.lfm_model.specs.Journals.{after_all, LawfulJournal, Within, entry, own}
use Rattle.lfm_model.proofs.JournalLists.{after-append}
use Rattle.lfm_model.proofs.JournalSteps.{lawful_more, within_more, shares_more}
use Rattle.lfm_model.proofs.Sums.{own_room}
use Rattle.lfm_monitor.proofs.journaled.Journaled.did.Goals as goal

pub push_reserved-requires : goal.push_reserved-requires
push_reserved-requires g c = let b = c.args.self.now in let r = c.requires in let room = own_room b.seats b.share c.args.seat b.journal.items b.within b.shares r.seat.0 r.seat.1 r.share in let cap = b.room in let len = b.journal.ok in omega arith

pub invariant_of-self-clause-legal : goal.invariant_of-self-clause-legal
invariant_of-self-clause-legal g c = let b = c.args.self.now in c.apply-reply.ensures.changes ∙ ap (λ o. g.O.Object.after o c.args.op) b.legal ∙ sym (ap (after_all g.O.Object.after b.opening.value) c.push_reserved.ensures.items ∙ after-append g.O.Object.after b.opening.value b.journal.items (entry c.args.seat (Did c.args.op) ∷ []))

pub invariant_of-self-clause-lawful : goal.invariant_of-self-clause-lawful
invariant_of-self-clause-lawful g c = let b = c.args.self.now in subst LawfulJournal (sym c.push_reserved.ensures.items) (lawful_more b.journal.items (entry c.args.seat (Did c.args.op)) b.lawful c.requires.taker)

pub invariant_of-self-clause-within : goal.invariant_of-self-clause-within
invariant_of-self-clause-within g c = let b = c.args.self.now in subst (Within b.seats) (sym c.push_reserved.ensures.items) (within_more b.journal.items (entry c.args.seat (Did c.args.op)) b.seats b.within c.requires.seat.0 c.requires.seat.1)

pub invariant_of-self-clause-shares : goal.invariant_of-self-clause-shares
invariant_of-self-clause-shares g c = let b = c.args.self.now in subst (λ xs. (s : ℕ) → length (own s xs) ≤ b.share) (sym c.push_reserved.ensures.items) (shares_more b.journal.items (entry c.args.seat (Did c.args.op)) b.share b.shares c.requires.share)

pub invariant_of-self-clause-room : goal.invariant_of-self-clause-room
invariant_of-self-clause-room g c = let b = c.args.self.now in subst (λ n. b.seats * b.share ≤ n) (sym c.push_reserved.ensures.capacity) b.room

pub returns-clause-reply : goal.returns-clause-reply
returns-clause-reply g c = c.apply-reply.ensures.replies

pub returns-clause-object : goal.returns-clause-object
returns-clause-object g c = c.apply-reply.ensures.changes
