-- The seat's own methods at the points of a send, as equations.
use Rattle.std.proofs.Common.{◌≡◌, ◌≢◌, ℕ, ◌+◌, ◌<◌, ◌≤◌, if◌then◌else◌, nat_eq, nat_lt, sym, refl, ap, ◌∙◌, arith, tests, Option}
use Rattle.std.specs.Prelude.{Bool, true, false}
use Rattle.std.proofs.lemmas.Bool.{ne_eqb, false≢true}
use Rattle.lfm_model.specs.declared.refusals.Refusal.{Refusal}
use Rattle.lfm_words.specs.declared.pop_lists.Record.{Record}
use Rattle.lfm_words.specs.declared.wakes.Wake.TheVariants.{Quiet, Waiting, Claimed, Grant}
use Rattle.lfm_protocol.specs.declared.answers.Answer.{Answer}
use Rattle.lfm_protocol.specs.declared.answers.Call.{Call}
use Rattle.lfm_protocol.specs.declared.answers.Turn.TheVariants.{Ended, Refused}
use Rattle.lfm_protocol.specs.declared.answers.Why.{Why}
use Rattle.lfm_protocol.specs.declared.limits.Limits.{Limits}
use Rattle.lfm_protocol.specs.declared.points.Point.TheVariants.{PushLoad, Rest, SendCountAdd, SendWakeExchange, SendWakeStore}
use Rattle.lfm_protocol.specs.declared.points.Pusher.{Pusher}
use Rattle.lfm_protocol.specs.declared.seats.SeatState.{SeatState}
use Rattle.lfm_protocol.specs.After.{claims}
use Rattle.lfm_protocol.specs.Begin as Begin
use Rattle.lfm_laws.specs.table.Words.{stepped_by}
use Rattle.lfm_mutex.specs.calls.Runs.{opens}
use Rattle.lfm_table.proofs.tables.StepFacts.{made_of}

below : (m n : ℕ) → m < n → nat_lt m n ≡ true
below m n e = search (tests, arith, e)

pub begins_send : (p : SeatState) (l : Limits) (u : ℕ) → p.point ≡ Rest → 0 < u → u ≤ l.seats → Begin.begin p l (Call.SendLock u) ≡ opens (made_of p.depth p.takes p.posts (SendWakeExchange u))
begins_send p l u rests above within =
    let h = below 0 u above in
    let k = below u (l.seats + 1) (omega (arith, within)) in
    let e : Begin.begin (made_of p.depth p.takes p.posts Rest) l (Call.SendLock u) ≡ opens (made_of p.depth p.takes p.posts (SendWakeExchange u)) = rw (h, k) refl in
    ap (λ (x : SeatState). Begin.begin x l (Call.SendLock u)) (λ i. record { depth = p.depth; takes = p.takes; posts = p.posts; point = rests i }) ∙ e

-- The claim

pub claims_it : (d t ps s n u : ℕ) (o : Option Record) → n ≡ 1 → stepped_by (made_of d t ps (SendWakeExchange u)) s n o ≡ opens (made_of d t ps (SendCountAdd u))
claims_it d t ps s n u o e = rw e refl

other_word : (d t ps u k : ℕ) (b0 b1 b2 : Bool) → b1 ≡ false
    → claims (made_of d t ps (SendWakeExchange u)) u (if b0 then Quiet else (if b1 then Waiting else (if b2 then Claimed else Grant k))) ≡ record { seat = made_of d t ps Rest; turn = Refused (Why.By Refusal.NotWaiting) }
other_word d t ps u k true b1 b2 other = refl
other_word d t ps u k false true b2 other = absurd (false≢true (sym other))
other_word d t ps u k false false true other = refl
other_word d t ps u k false false false other = refl

pub waits_not : (d t ps s n u : ℕ) (o : Option Record) → n ≢ 1 → stepped_by (made_of d t ps (SendWakeExchange u)) s n o ≡ record { seat = made_of d t ps Rest; turn = Refused (Why.By Refusal.NotWaiting) }
waits_not d t ps s n u o e = other_word d t ps u _ (nat_eq n 0) (nat_eq n 1) (nat_eq n 2) (ne_eqb n 1 e)

-- The count

pub counted_none : (d t ps s n u : ℕ) (o : Option Record) → n ≡ 0 → stepped_by (made_of d t ps (SendCountAdd u)) s n o ≡ opens (made_of d t ps (SendWakeStore u))
counted_none d t ps s n u o e = rw e refl

pub counted_some : (d t ps s n u : ℕ) (o : Option Record) → n ≢ 0 → stepped_by (made_of d t ps (SendCountAdd u)) s n o ≡ opens (made_of d t ps (PushLoad (Pusher.Sender u)))
counted_some d t ps s n u o e = let h = ne_eqb n 0 e in rw h refl

pub granted_target : (d t ps s n u : ℕ) (o : Option Record) → stepped_by (made_of d t ps (SendWakeStore u)) s n o ≡ record { seat = made_of d t ps Rest; turn = Ended Answer.Sent }
granted_target d t ps s n u o = refl
