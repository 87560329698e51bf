-- The steps of a try_receive of a seat that sleeps.
use Rattle.std.proofs.Common.{◌≡◌, ◌≢◌, ℕ, ◌-◌, ◌<◌, ◌≤◌, ◌/◌, List, [], ◌∷◌, length, nat_eq, if◌then◌else◌, refl, sym, ap, ◌∙◌, subst, arith, Option, Some, None}
use Rattle.std.specs.Prelude.{Bool, IfSome, true, false}
use Rattle.std.proofs.lemmas.Bool.{eq-eqb, false≢true, leb-false, leb-true, ne_eqb}
use Rattle.lfm_model.specs.declared.answers.How.{How}
use Rattle.lfm_words.specs.declared.pop_lists.Record.{Record}
use Rattle.lfm_words.specs.declared.wakes.Wake.TheVariants.{Quiet, Waiting, Claimed, Grant}
use Rattle.lfm_words.specs.Words.{grant_stamp, is_grant_word, wake_word}
use Rattle.lfm_protocol.specs.After.{after_wake_load, how_granted}
use Rattle.lfm_protocol.specs.declared.answers.Call.{Call}
use Rattle.lfm_protocol.specs.declared.points.Entrant.{Entrant}
use Rattle.lfm_protocol.specs.declared.points.Point.{Point}
use Rattle.lfm_protocol.specs.declared.points.Point.TheVariants.{Rest, Asleep, ReceiveWakeLoad, ReceiveWakeStore, EnterOwnerStore}
use Rattle.lfm_protocol.specs.declared.points.Sleeper.{Sleeper}
use Rattle.lfm_protocol.specs.declared.seats.SeatState.{SeatState}
use Rattle.lfm_protocol.specs.Begin as Begin
use Rattle.lfm_laws.specs.table.Words.{stepped_by}
use Rattle.lfm_table.specs.declared.operations.Access.{Access}
use Rattle.lfm_table.specs.declared.seat_view.Seen.{Seen}
use Rattle.lfm_table.specs.Actions.{seen}
use Rattle.lfm_table.proofs.tables.StepFacts.{carrying, made_of}
use Rattle.lfm_pool.specs.declared.pool.Pool.{Pool}
use Rattle.lfm_pool.specs.declared.pool.TableSeat.{TableSeat}
use Rattle.lfm_pool.specs.Belongs.{SameSeat}
use Rattle.lfm_pool.specs.Moves.{MakesAtMostIn, MakesIn, MayStepIn, StartsIn}
use Rattle.lfm_pool.specs.Receive.{ReceivedIn, ReceiveSteps, received}
use Rattle.lfm_pool.specs.SeatWords.{Sleeps, TakesGrant}
use Rattle.lfm_pool.specs.Seats.{HoldsOnceIn, MovesIn, state_of}
use Rattle.lfm_pool.specs.Steps.{IsPlainAccessOf, begun_in}
use Rattle.lfm_pool.proofs.Keeping.{idle_at}
use Rattle.lfm_pool.proofs.SeveralSteps.{at_most, enters_by, holds_after, may_after, next_access, start_made, state_after, then_carry}

-- Where the load of the wake word leads

granted : (d t ps s n : ℕ) (o : Option Record) (w : Sleeper) → 2 < n → (stepped_by (made_of d t ps (ReceiveWakeLoad w)) s n o).seat ≡ made_of d t ps (ReceiveWakeStore (grant_stamp n))
granted d t ps s n o w b =
    let h0 = ne_eqb n 0 (λ e. omega (arith, e, b)) in
    let h1 = ne_eqb n 1 (λ e. omega (arith, e, b)) in
    let h2 = ne_eqb n 2 (λ e. omega (arith, e, b)) in rw h0 (rw h1 (rw h2 refl))

asleep_by : (d t ps k : ℕ) (w : Sleeper) (b0 b1 b2 : Bool) → (b0 ≡ false → b1 ≡ false → b2 ≡ true)
    → (after_wake_load (made_of d t ps (ReceiveWakeLoad w)) (if b0 then Quiet else (if b1 then Waiting else (if b2 then Claimed else Grant k)))).seat ≡ made_of d t ps (Asleep w)
asleep_by d t ps k w true b1 b2 e = refl
asleep_by d t ps k w false true b2 e = refl
asleep_by d t ps k w false false true e = refl
asleep_by d t ps k w false false false e = absurd (false≢true (e refl refl))

differs : (n m : ℕ) → nat_eq n m ≡ false → n ≢ m
differs n m e f = false≢true (sym e ∙ eq-eqb n m f)

not_granted : (d t ps s n : ℕ) (o : Option Record) (w : Sleeper) → n ≤ 2 → (stepped_by (made_of d t ps (ReceiveWakeLoad w)) s n o).seat ≡ made_of d t ps (Asleep w)
not_granted d t ps s n o w b = asleep_by d t ps ((n - 3) / 4) w (nat_eq n 0) (nat_eq n 1) (nat_eq n 2) (λ e f. let x = differs n 0 e in let y = differs n 1 f in eq-eqb n 2 (omega (arith, x, y, b)))

-- The call

module _ (s t : TableSeat) (p : Pool) (m word : ℕ) (may : MayStepIn s p m) (sleeps : Sleeps (state_of s m)) (did : StartsIn s t p m Call.Receive word) where
  abbrev x : SeatState
  x = state_of s m

  begun : begun_in s.place.me.0 m p.limits Call.Receive ≡ made_of x.depth x.takes x.posts (ReceiveWakeLoad sleeps.0)
  begun = ap (λ (q : Point). (Begin.begin_at x p.limits Call.Receive q).seat) sleeps.1

  pub may_loaded : SameSeat s t → MayStepIn t p m
  may_loaded same = may_after s t p m (begun_in s.place.me.0 m p.limits Call.Receive) word may same did

  pub sleeps_on : is_grant_word word ≡ false → ReceivedIn s t m None
  sleeps_on none =
      let small = leb-false 3 word none in (
        sleeps.0,
        seen (ReceiveWakeLoad sleeps.0) word ∷ [],
        sleeps.1,
        (word, none, refl),
        subst (λ (z : SeatState). MakesIn s t m (seen (ReceiveWakeLoad sleeps.0) word ∷ []) z) (λ i. record { depth = x.depth; takes = x.takes; posts = x.posts; point = sym sleeps.1 i })
            (start_made s t p m word (made_of x.depth x.takes x.posts (ReceiveWakeLoad sleeps.0)) (made_of x.depth x.takes x.posts (Asleep sleeps.0)) (λ o. not_granted x.depth x.takes x.posts s.number word o sleeps.0 (omega (arith, small)))
            (λ deep. idle_at (made_of x.depth x.takes x.posts (ReceiveWakeLoad sleeps.0)) deep refl) Call.Receive may begun did),
      )

  module _ (some : is_grant_word word ≡ true) (may1 : MayStepIn t p m) where
    loaded : MakesIn s t m (seen (ReceiveWakeLoad sleeps.0) word ∷ []) (made_of x.depth x.takes x.posts (ReceiveWakeStore (grant_stamp word)))
    loaded =
        let great = leb-true 3 word some in
        start_made s t p m word (made_of x.depth x.takes x.posts (ReceiveWakeLoad sleeps.0)) (made_of x.depth x.takes x.posts (ReceiveWakeStore (grant_stamp word))) (λ o. granted x.depth x.takes x.posts s.number word o sleeps.0 (omega (arith, great)))
        (λ deep. idle_at (made_of x.depth x.takes x.posts (ReceiveWakeLoad sleeps.0)) deep refl) Call.Receive may begun did

    pub at_grant : TakesGrant (state_of t m)
    at_grant = (grant_stamp word, ap (λ (z : SeatState). z.point) (state_after s t p m _ _ may loaded))

    module _ (u : TableSeat) (stored : MovesIn t u p m (wake_word Quiet)) where
      quieted : MakesIn s u m (seen (ReceiveWakeLoad sleeps.0) word ∷ seen (ReceiveWakeStore (grant_stamp word)) (wake_word Quiet) ∷ []) (made_of x.depth x.takes x.posts (EnterOwnerStore Entrant.Receiver (how_granted (grant_stamp word))))
      quieted =
          then_carry s t u p m may _ _ loaded (wake_word Quiet) (made_of x.depth x.takes x.posts (EnterOwnerStore Entrant.Receiver (how_granted (grant_stamp word)))) (λ o. refl) refl refl
          (carrying (made_of x.depth x.takes x.posts (EnterOwnerStore Entrant.Receiver (how_granted (grant_stamp word)))) refl) (λ l. refl) may1 stored

      pub may_quiet : SameSeat t u → MayStepIn u p m
      may_quiet same = may_after t u p m (state_of t m) (wake_word Quiet) may1 same stored

      pub enters : IsPlainAccessOf p.limits.seats u.number (state_of u m) (Access.Store 1 u.number)
      enters = next_access s u p m _ _ p.limits.seats (Access.Store 1 u.number) may quieted (enters_by p.limits.seats u.number x.depth x.takes x.posts Entrant.Receiver (how_granted (grant_stamp word)))

      pub receives : (v : TableSeat) (n : ℕ) (how : How) → MayStepIn u p m → MovesIn u v p m n → n ≡ s.number → how ≡ how_granted (grant_stamp word) → ReceivedIn s v m (Some how)
      receives v n how may2 entered told is = (
        sleeps.0,
        seen (ReceiveWakeLoad sleeps.0) word ∷ seen (ReceiveWakeStore (grant_stamp word)) (wake_word Quiet) ∷ seen (EnterOwnerStore Entrant.Receiver how) s.number ∷ [],
        sleeps.1,
        (word, some, is, refl),
        subst (λ (z : ℕ × How). MakesIn s v m (seen (ReceiveWakeLoad sleeps.0) word ∷ seen (ReceiveWakeStore (grant_stamp word)) (wake_word Quiet) ∷ seen (EnterOwnerStore Entrant.Receiver z.1) z.0 ∷ []) (made_of 1 x.takes x.posts Rest)) (λ i. (told i, sym is i))
            (then_carry s u v p m may _ _ quieted n (made_of 1 x.takes x.posts Rest) (λ o. refl) refl refl refl (λ l. refl) may2 entered),
      )

-- a seat that has acquired the mutex may release it
pub receive_holds : (s t : TableSeat) (p : Pool) (m : ℕ) (result : Option How) → MayStepIn s p m → MayStepIn t p m → ReceivedIn s t m result → IfSome result (λ _. HoldsOnceIn t p m)
receive_holds s t p m None may later did = tt
receive_holds s t p m (Some how) may later did = holds_after s t p m did.1 (received (Some how) (state_of s m)) may did.4 later refl refl

-- The number of steps

receive_length : (number : ℕ) (sleeper : Sleeper) (result : Option How) (new : List Seen) → ReceiveSteps number sleeper result new → length new ≤ 3
receive_length number sleeper None new h = let e = ap length h.2 in omega (arith, e)
receive_length number sleeper (Some how) new h = let e = ap length h.3 in omega (arith, e)

pub receive_bounded : (s t : TableSeat) (p : Pool) (m : ℕ) (result : Option How) → MayStepIn s p m → ReceivedIn s t m result → MakesAtMostIn 3 s t m
receive_bounded s t p m result may did = at_most s t p m 3 did.1 (received result (state_of s m)) may did.4 (receive_length s.number did.0 result did.1 did.3)
