-- The seat's own methods at the points of a receive, as equations.
use Rattle.std.proofs.Common.{◌≡◌, ◌≢◌, ℕ, ◌-◌, ◌<◌, ◌≤◌, ◌/◌, if◌then◌else◌, nat_eq, sym, refl, ap, ◌∙◌, arith, Option, None}
use Rattle.std.specs.Prelude.{Bool, true, false}
use Rattle.std.proofs.lemmas.Bool.{ne_eqb, eq-eqb, false≢true}
use Rattle.lfm_words.specs.declared.pop_lists.Record.{Record}
use Rattle.lfm_words.specs.declared.wakes.Wake.TheVariants.{Quiet, Waiting, Claimed, Grant}
use Rattle.lfm_protocol.specs.declared.answers.Answer.{Answer}
use Rattle.lfm_protocol.specs.declared.answers.Call.{Call}
use Rattle.lfm_protocol.specs.declared.answers.Turn.TheVariants.{Ended}
use Rattle.lfm_protocol.specs.declared.limits.Limits.{Limits}
use Rattle.lfm_protocol.specs.declared.points.Entrant.{Entrant}
use Rattle.lfm_protocol.specs.declared.points.Point.TheVariants.{Asleep, EnterOwnerStore, ReceiveWakeLoad, ReceiveWakeStore}
use Rattle.lfm_protocol.specs.declared.points.Sleeper.{Sleeper}
use Rattle.lfm_protocol.specs.declared.seats.SeatState.{SeatState}
use Rattle.lfm_protocol.specs.After.{after_wake_load, how_granted}
use Rattle.lfm_protocol.specs.Begin as Begin
use Rattle.lfm_laws.specs.table.Words.{stepped_by}
use Rattle.lfm_mutex.specs.calls.Runs.{opens}
use Rattle.lfm_table.proofs.tables.StepFacts.{made_of}

pub begins_receive : (p : SeatState) (l : Limits) (w : Sleeper) → p.point ≡ Asleep w → p.depth ≡ 0 → Begin.begin p l Call.Receive ≡ opens (made_of 0 p.takes p.posts (ReceiveWakeLoad w))
begins_receive p l w sleeps flat = ap (λ (x : SeatState). Begin.begin x l Call.Receive) (λ i. record { depth = flat i; takes = p.takes; posts = p.posts; point = sleeps i })

pub granted : (t ps s n : ℕ) (o : Option Record) (w : Sleeper) → 2 < n → stepped_by (made_of 0 t ps (ReceiveWakeLoad w)) s n o ≡ opens (made_of 0 t ps (ReceiveWakeStore ((n - 3) / 4)))
granted t ps s n o w b =
    let h0 = ne_eqb n 0 (λ e. omega (arith, e, b)) in
    let h1 = ne_eqb n 1 (λ e. omega (arith, e, b)) in
    let h2 = ne_eqb n 2 (λ e. omega (arith, e, b)) in rw h0 (rw h1 (rw h2 refl))

small : (t ps k : ℕ) (w : Sleeper) (b0 b1 b2 : Bool) → (b0 ≡ false → b1 ≡ false → b2 ≡ true)
    → after_wake_load (made_of 0 t ps (ReceiveWakeLoad w)) (if b0 then Quiet else (if b1 then Waiting else (if b2 then Claimed else Grant k))) ≡ record { seat = made_of 0 t ps (Asleep w); turn = Ended (Answer.Got None) }
small t ps k w true b1 b2 e = refl
small t ps k w false true b2 e = refl
small t ps k w false false true e = refl
small t ps k w false false false e = absurd (false≢true (e refl refl))

differs : (n m : ℕ) → nat_eq n m ≡ false → n ≢ m
differs n m e f = false≢true (sym e ∙ eq-eqb n m f)

pub not_granted : (t ps s n : ℕ) (o : Option Record) (w : Sleeper) → n ≤ 2 → stepped_by (made_of 0 t ps (ReceiveWakeLoad w)) s n o ≡ record { seat = made_of 0 t ps (Asleep w); turn = Ended (Answer.Got None) }
not_granted t ps s n o w b = small t ps ((n - 3) / 4) w (nat_eq n 0) (nat_eq n 1) (nat_eq n 2) (λ e f. let x = differs n 0 e in let y = differs n 1 f in eq-eqb n 2 (omega (arith, x, y, b)))

pub quieted : (t ps k s n : ℕ) (o : Option Record) → stepped_by (made_of 0 t ps (ReceiveWakeStore k)) s n o ≡ opens (made_of 0 t ps (EnterOwnerStore Entrant.Receiver (how_granted k)))
quieted t ps k s n o = refl
