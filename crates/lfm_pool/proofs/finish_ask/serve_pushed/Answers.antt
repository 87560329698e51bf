use Rattle.std.proofs.Common.{refl, ap, sym, ◌∙◌, subst}
use Rattle.lfm_words.specs.declared.links.Link.{Link}
use Rattle.lfm_protocol.specs.declared.points.Carrier.{Carrier}
use Rattle.lfm_words.specs.declared.pop_lists.Record.{Record}
use Rattle.lfm_pool.specs.declared.finish_ask.Finished.{Finished}
use Rattle.lfm_pool.specs.FinishAsk.{FinishesIn}
use Rattle.lfm_pool.specs.Seats.{state_of}
use Rattle.lfm_pool.proofs.Finishing.{cleared_loads, cleared_none, cleared_whole, finished_other, finished_own, may_cleared, may_collected, other_grants, own_access, own_keeps, same_all, whole_left}
use Rattle.lfm_pool.proofs.SeatWords.{same_after}
use Rattle.lfm_pool.proofs.SeveralSteps.{same_then}
use Rattle.lfm_pool.proofs.finish_ask.serve_pushed.Goals as goal

pub clear_head-word-requires-clause-at : goal.clear_head-word-requires-clause-at
clear_head-word-requires-clause-at c = (Carrier.Locker, c.requires.clears)

pub collect-record-requires-clause-belongs : goal.collect-record-requires-clause-belongs
collect-record-requires-clause-belongs c = let s = c.args.seat.now in let p = c.args.pool.now in let m = c.args.mutex in let r = c.requires in let f = c.clear_head-word in (may_cleared s p m r.may r.clears r.none r.whole f.new.seat f.result f.ensures.belongs f.ensures.step).belongs

pub collect-record-requires-clause-sits : goal.collect-record-requires-clause-sits
collect-record-requires-clause-sits c = let s = c.args.seat.now in let p = c.args.pool.now in let m = c.args.mutex in let r = c.requires in let f = c.clear_head-word in (may_cleared s p m r.may r.clears r.none r.whole f.new.seat f.result f.ensures.belongs f.ensures.step).sits

pub collect-record-requires-clause-elsewhere : goal.collect-record-requires-clause-elsewhere
collect-record-requires-clause-elsewhere c = let s = c.args.seat.now in let p = c.args.pool.now in let m = c.args.mutex in let r = c.requires in let f = c.clear_head-word in (may_cleared s p m r.may r.clears r.none r.whole f.new.seat f.result f.ensures.belongs f.ensures.step).elsewhere

pub collect-record-requires-clause-at : goal.collect-record-requires-clause-at
collect-record-requires-clause-at c = let s = c.args.seat.now in let p = c.args.pool.now in let m = c.args.mutex in let r = c.requires in let f = c.clear_head-word in let l = c.unpack_link-cleared in cleared_loads s p m r.may r.clears r.none r.whole f.new.seat f.result f.ensures.belongs f.ensures.step l.result.next (ap (λ (x : Link). x.next) l.ensures.holds)

pub collect-record-requires-clause-none : goal.collect-record-requires-clause-none
collect-record-requires-clause-none c = let s = c.args.seat.now in let p = c.args.pool.now in let m = c.args.mutex in let r = c.requires in let f = c.clear_head-word in cleared_none s p m r.may r.clears r.none r.whole f.new.seat f.result f.ensures.belongs f.ensures.step

pub collect-record-requires-clause-whole : goal.collect-record-requires-clause-whole
collect-record-requires-clause-whole c = let s = c.args.seat.now in let p = c.args.pool.now in let m = c.args.mutex in let r = c.requires in let f = c.clear_head-word in cleared_whole s p m r.may r.clears r.none r.whole f.new.seat f.result f.ensures.belongs f.ensures.step

pub next_step-requires-clause-table : goal.next_step-requires-clause-table
next_step-requires-clause-table c = let s = c.args.seat.now in let p = c.args.pool.now in let m = c.args.mutex in let r = c.requires in let f = c.clear_head-word in let l = c.unpack_link-cleared in let is = ap (λ (x : Link). x.next) l.ensures.holds in let k = c.collect-record in (may_collected s p m r.may r.clears r.none r.whole f.new.seat f.result f.ensures.belongs f.ensures.step l.result.next is k.new.seat k.result k.ensures.belongs k.ensures.collects).belongs.table

pub next_step-requires-clause-inside : goal.next_step-requires-clause-inside
next_step-requires-clause-inside c = let s = c.args.seat.now in let p = c.args.pool.now in let m = c.args.mutex in let r = c.requires in let f = c.clear_head-word in let l = c.unpack_link-cleared in let is = ap (λ (x : Link). x.next) l.ensures.holds in let k = c.collect-record in ((may_collected s p m r.may r.clears r.none r.whole f.new.seat f.result f.ensures.belongs f.ensures.step l.result.next is k.new.seat k.result k.ensures.belongs k.ensures.collects).mutex, (may_collected s p m r.may r.clears r.none r.whole f.new.seat f.result f.ensures.belongs f.ensures.step l.result.next is k.new.seat k.result k.ensures.belongs k.ensures.collects).belongs.parts)

pub next_step-requires-clause-sits : goal.next_step-requires-clause-sits
next_step-requires-clause-sits c = let s = c.args.seat.now in let p = c.args.pool.now in let m = c.args.mutex in let r = c.requires in let f = c.clear_head-word in let l = c.unpack_link-cleared in let is = ap (λ (x : Link). x.next) l.ensures.holds in let k = c.collect-record in (may_collected s p m r.may r.clears r.none r.whole f.new.seat f.result f.ensures.belongs f.ensures.step l.result.next is k.new.seat k.result k.ensures.belongs k.ensures.collects).sits

pub next_step-requires-clause-elsewhere : goal.next_step-requires-clause-elsewhere
next_step-requires-clause-elsewhere c = let s = c.args.seat.now in let p = c.args.pool.now in let m = c.args.mutex in let r = c.requires in let f = c.clear_head-word in let l = c.unpack_link-cleared in let is = ap (λ (x : Link). x.next) l.ensures.holds in let k = c.collect-record in (may_collected s p m r.may r.clears r.none r.whole f.new.seat f.result f.ensures.belongs f.ensures.step l.result.next is k.new.seat k.result k.ensures.belongs k.ensures.collects).elsewhere

pub next_step-requires-clause-is_next : goal.next_step-requires-clause-is_next
next_step-requires-clause-is_next c = let s = c.args.seat.now in let p = c.args.pool.now in let m = c.args.mutex in let r = c.requires in let f = c.clear_head-word in let l = c.unpack_link-cleared in let is = ap (λ (x : Link). x.next) l.ensures.holds in let k = c.collect-record in own_access s p m r.may r.clears r.none r.whole f.new.seat f.result f.ensures.belongs f.ensures.step l.result.next is k.new.seat k.result k.ensures.belongs k.ensures.collects (sym c.get-own.ensures.value ∙ c.if-own-number.true ∙ (same_all s p m r.may r.clears r.none r.whole f.new.seat f.result f.ensures.belongs f.ensures.step l.result.next is k.new.seat k.result k.ensures.belongs k.ensures.collects).number) k.new.seat.number (same_all s p m r.may r.clears r.none r.whole f.new.seat f.result f.ensures.belongs f.ensures.step l.result.next is k.new.seat k.result k.ensures.belongs k.ensures.collects).number

pub next_step-requires-clause-chained : goal.next_step-requires-clause-chained
next_step-requires-clause-chained c = let s = c.args.seat.now in let p = c.args.pool.now in let m = c.args.mutex in let r = c.requires in let f = c.clear_head-word in let l = c.unpack_link-cleared in let is = ap (λ (x : Link). x.next) l.ensures.holds in let k = c.collect-record in own_keeps s p m r.may r.clears r.none r.whole f.new.seat f.result f.ensures.belongs f.ensures.step l.result.next is k.new.seat k.result k.ensures.belongs k.ensures.collects (sym c.get-own.ensures.value ∙ c.if-own-number.true ∙ (same_all s p m r.may r.clears r.none r.whole f.new.seat f.result f.ensures.belongs f.ensures.step l.result.next is k.new.seat k.result k.ensures.belongs k.ensures.collects).number)

pub returns-then-own-number-clause-belongs : goal.returns-then-own-number-clause-belongs
returns-then-own-number-clause-belongs c = let s = c.args.seat.now in let p = c.args.pool.now in let m = c.args.mutex in let r = c.requires in let f = c.clear_head-word in let l = c.unpack_link-cleared in let is = ap (λ (x : Link). x.next) l.ensures.holds in let k = c.collect-record in let h = c.next_step in same_then s k.new.seat h.new.seat (same_all s p m r.may r.clears r.none r.whole f.new.seat f.result f.ensures.belongs f.ensures.step l.result.next is k.new.seat k.result k.ensures.belongs k.ensures.collects) (same_after k.new.seat h.new.seat p.limits m h.result (state_of k.new.seat m) h.ensures.table h.ensures.step)

pub returns-then-own-number-clause-finishes : goal.returns-then-own-number-clause-finishes
returns-then-own-number-clause-finishes c = let s = c.args.seat.now in let p = c.args.pool.now in let m = c.args.mutex in let r = c.requires in let f = c.clear_head-word in let l = c.unpack_link-cleared in let is = ap (λ (x : Link). x.next) l.ensures.holds in let k = c.collect-record in let h = c.next_step in finished_own s p m r.may r.clears r.none r.whole f.new.seat f.result f.ensures.belongs f.ensures.step l.result.next is k.new.seat k.result k.ensures.belongs k.ensures.collects (sym c.get-own.ensures.value ∙ c.if-own-number.true ∙ (same_all s p m r.may r.clears r.none r.whole f.new.seat f.result f.ensures.belongs f.ensures.step l.result.next is k.new.seat k.result k.ensures.belongs k.ensures.collects).number) k.result.stamp refl h.new.seat h.result h.ensures.step (h.ensures.told ∙ (same_all s p m r.may r.clears r.none r.whole f.new.seat f.result f.ensures.belongs f.ensures.step l.result.next is k.new.seat k.result k.ensures.belongs k.ensures.collects).number)

pub grant-requires-clause-belongs : goal.grant-requires-clause-belongs
grant-requires-clause-belongs c = let s = c.args.seat.now in let p = c.args.pool.now in let m = c.args.mutex in let r = c.requires in let f = c.clear_head-word in let l = c.unpack_link-cleared in let is = ap (λ (x : Link). x.next) l.ensures.holds in let k = c.collect-record in (may_collected s p m r.may r.clears r.none r.whole f.new.seat f.result f.ensures.belongs f.ensures.step l.result.next is k.new.seat k.result k.ensures.belongs k.ensures.collects).belongs

pub grant-requires-clause-sits : goal.grant-requires-clause-sits
grant-requires-clause-sits c = let s = c.args.seat.now in let p = c.args.pool.now in let m = c.args.mutex in let r = c.requires in let f = c.clear_head-word in let l = c.unpack_link-cleared in let is = ap (λ (x : Link). x.next) l.ensures.holds in let k = c.collect-record in (may_collected s p m r.may r.clears r.none r.whole f.new.seat f.result f.ensures.belongs f.ensures.step l.result.next is k.new.seat k.result k.ensures.belongs k.ensures.collects).sits

pub grant-requires-clause-elsewhere : goal.grant-requires-clause-elsewhere
grant-requires-clause-elsewhere c = let s = c.args.seat.now in let p = c.args.pool.now in let m = c.args.mutex in let r = c.requires in let f = c.clear_head-word in let l = c.unpack_link-cleared in let is = ap (λ (x : Link). x.next) l.ensures.holds in let k = c.collect-record in (may_collected s p m r.may r.clears r.none r.whole f.new.seat f.result f.ensures.belongs f.ensures.step l.result.next is k.new.seat k.result k.ensures.belongs k.ensures.collects).elsewhere

pub grant-requires-clause-at : goal.grant-requires-clause-at
grant-requires-clause-at c = let s = c.args.seat.now in let p = c.args.pool.now in let m = c.args.mutex in let r = c.requires in let f = c.clear_head-word in let l = c.unpack_link-cleared in let is = ap (λ (x : Link). x.next) l.ensures.holds in let k = c.collect-record in other_grants s p m r.may r.clears r.none r.whole f.new.seat f.result f.ensures.belongs f.ensures.step l.result.next is k.new.seat k.result k.ensures.belongs k.ensures.collects (λ e. c.if-own-number.false (c.get-own.ensures.value ∙ e ∙ sym (same_all s p m r.may r.clears r.none r.whole f.new.seat f.result f.ensures.belongs f.ensures.step l.result.next is k.new.seat k.result k.ensures.belongs k.ensures.collects).number))

pub grant-requires-clause-whole : goal.grant-requires-clause-whole
grant-requires-clause-whole c = let s = c.args.seat.now in let p = c.args.pool.now in let m = c.args.mutex in let r = c.requires in let f = c.clear_head-word in let l = c.unpack_link-cleared in let is = ap (λ (x : Link). x.next) l.ensures.holds in let k = c.collect-record in whole_left s p m r.may r.clears r.none r.whole f.new.seat f.result f.ensures.belongs f.ensures.step l.result.next is k.new.seat k.result k.ensures.belongs k.ensures.collects

pub returns-clause-belongs : goal.returns-clause-belongs
returns-clause-belongs c = let s = c.args.seat.now in let p = c.args.pool.now in let m = c.args.mutex in let r = c.requires in let f = c.clear_head-word in let l = c.unpack_link-cleared in let is = ap (λ (x : Link). x.next) l.ensures.holds in let k = c.collect-record in same_then s k.new.seat c.grant.new.seat (same_all s p m r.may r.clears r.none r.whole f.new.seat f.result f.ensures.belongs f.ensures.step l.result.next is k.new.seat k.result k.ensures.belongs k.ensures.collects) c.grant.ensures.belongs

pub returns-clause-finishes : goal.returns-clause-finishes
returns-clause-finishes c = let s = c.args.seat.now in let p = c.args.pool.now in let m = c.args.mutex in let r = c.requires in let f = c.clear_head-word in let l = c.unpack_link-cleared in let is = ap (λ (x : Link). x.next) l.ensures.holds in let k = c.collect-record in subst (λ (x : Record). FinishesIn (Finished.Granted x) s c.grant.new.seat p m) (sym c.grant.ensures.owes) (finished_other s p m r.may r.clears r.none r.whole f.new.seat f.result f.ensures.belongs f.ensures.step l.result.next is k.new.seat k.result k.ensures.belongs k.ensures.collects (λ e. c.if-own-number.false (c.get-own.ensures.value ∙ e ∙ sym (same_all s p m r.may r.clears r.none r.whole f.new.seat f.result f.ensures.belongs f.ensures.step l.result.next is k.new.seat k.result k.ensures.belongs k.ensures.collects).number)) c.grant.new.seat c.grant.ensures.step)
