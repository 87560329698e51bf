use Rattle.std.proofs.Common.{rules, ◌≡◌, ◌≤◌, ℕ, Result, Ok, Err, refl, sym, ap, ◌∙◌, subst, arith}
use Rattle.lfm_mutex.specs.Belongs.{limits_of}
use Rattle.lfm_mutex.specs.calls.Sight.{Sight, sight}
use Rattle.lfm_condvar.specs.Belongs.{cond_limits, cond_sight, cond_tries}
use Rattle.lfm_condvar.specs.Waits.{Enlists, MayWait, ticket_of}
use Rattle.lfm_condvar.proofs.OneHold.{held_by, one_hold, one_some, woken_in_hold}
use Rattle.std.specs.Prelude.{IfErr}
use Rattle.lfm_model.specs.declared.refusals.Refusal.{Refusal}
use Rattle.lfm_model.specs.declared.refusals.Refusal.TheVariants.{Asleep, NotOwner, Nested, DepthFull, Spent, NoSuchSeat, NotWaiting, Busy}
use Rattle.lfm_protocol.specs.declared.limits.Limits.{Limits}
use Rattle.lfm_condvar.specs.declared.waiters.Waiters.{Waiters}
use Rattle.lfm_condvar.proofs.condvar.Condvar.enlist_in_one_hold.Goals as goal

pub returns-clause-enlists : goal.returns-clause-enlists
returns-clause-enlists g c = let a = c.args in let h = c.in-Ok.ensures.held in let e = c.enlist_in_hand-enlisted.ensures.enlists in let l = c.leave_list.ensures in
    let d = one_hold (cond_limits a.self.now) (cond_sight a.cond.now) (sight c.lock_list.new.cond) (sight c.enlist_in_hand-enlisted.new.cond) (sight c.leave_list.new.cond) h.0 e.0 e.1 h.1 e.2 l.leaves l.keeps.0 l.keeps.1 in
    (e.0, e.1, d.held, subst (λ (i : ℕ). Enlists (limits_of a.mutex.now) i (sight a.seat.now) (sight c.enlist_in_hand-enlisted.new.seat) e.0 e.1 (ticket_of c.enlist_in_hand-enlisted.result.0)) h.1.number e.3, e.4)

pub returns-clause-steps : goal.returns-clause-steps
returns-clause-steps g c = let a = c.args in let e = c.enlist_in_hand-enlisted.ensures.enlists in
    held_by (cond_limits a.self.now) (cond_tries a.self.now) (cond_sight a.cond.now) (sight c.lock_list.new.cond) (sight c.enlist_in_hand-enlisted.new.cond) (sight c.leave_list.new.cond) e.0 e.1 c.in-Ok.ensures.steps e.2 c.leave_list.ensures.steps

-- a seat that could make start_wait, and whose number is within the condvar's seats, can only be refused as Busy
only_busy : {T : Type 0} (user : Limits) (by : ℕ) (s t : Sight T) (v w : Waiters) (r : Result ℕ Refusal) → MayWait user.budget s → s.number ≤ v.seats → Enlists user by s t v w r → IfErr r (λ x. x ≡ Busy)
only_busy user by s t v w (Ok k) may known e = tt
only_busy user by s t v w (Err Busy) may known e = refl
only_busy user by s t v w (Err Asleep) may known e = let no = sym may.0 ∙ e.0 in cc
only_busy user by s t v w (Err NotOwner) may known e = let one = may.1 in let none = e.0.1 in absurd (omega arith)
only_busy user by s t v w (Err Nested) may known e = let one = may.1 in let more = e.0.1 in absurd (omega arith)
only_busy user by s t v w (Err Spent) may known e = let left = may.2 in let none = e.0.2 in absurd (omega arith)
only_busy user by s t v w (Err NoSuchSeat) may known e = let above = e.1 in absurd (omega arith)
only_busy user by s t v w (Err DepthFull) may known e = absurd e.0
only_busy user by s t v w (Err NotWaiting) may known e = absurd e.0

pub returns-clause-busy : goal.returns-clause-busy
returns-clause-busy g c = let a = c.args in let h = c.in-Ok.ensures.held in let e = c.enlist_in_hand-enlisted.ensures.enlists in
    let same : h.0 ≡ e.0 = one_some (sight c.lock_list.new.cond).value h.0 e.0 h.1.value e.2.0 in
    let seats = ap (λ (y : Waiters). y.seats) same in let made = h.1.seats in let within = c.requires.known in
    only_busy (limits_of a.mutex.now) (sight c.lock_list.new.cond).number (sight a.seat.now) (sight c.enlist_in_hand-enlisted.new.seat) e.0 e.1 (ticket_of c.enlist_in_hand-enlisted.result.0) c.requires.may (omega arith) e.3

pub invariant_of-cond : goal.invariant_of-cond
invariant_of-cond g c = search rules

pub returns-clause-cond_woken : goal.returns-clause-cond_woken
returns-clause-cond_woken g c = let h = c.enlist_in_hand-enlisted in
    woken_in_hold c.args.cond.now.seat c.lock_list.new.cond h.new.cond c.leave_list.new.cond h.ensures.enlists.0 h.ensures.enlists.1 c.lock_list.ensures.woken h.ensures.cond_woken h.ensures.enlists.2 c.leave_list.ensures.woken
