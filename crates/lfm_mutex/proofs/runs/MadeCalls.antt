-- The steps of a call, as contracts state them between two sights of its seat.
use Rattle.std.proofs.Common.{◌≡◌, ◌⊎◌, inl, inr, ℕ, List, [], ◌∷◌, ◌++◌, true, false, Option, None, refl, sym, subst, ◌∙◌}
use Rattle.std.specs.Prelude.{Err}
use Rattle.std.proofs.lemmas.Bool.{false≢true}
use Rattle.lfm_model.specs.declared.refusals.Refusal.{Refusal}
use Rattle.lfm_protocol.specs.declared.answers.Answer.{Answer}
use Rattle.lfm_protocol.specs.declared.answers.Call.{Call}
use Rattle.lfm_protocol.specs.declared.answers.Turn.{Turn}
use Rattle.lfm_protocol.specs.declared.answers.Turn.TheVariants.{Open, Ended, Refused}
use Rattle.lfm_protocol.specs.declared.limits.Limits.{Limits}
use Rattle.lfm_protocol.specs.declared.seats.SeatState.{SeatState}
use Rattle.lfm_protocol.specs.Begin.{begin}
use Rattle.lfm_table.specs.declared.seat_view.Seen.{Seen}
use Rattle.lfm_table.specs.declared.seat_view.View.{View}
use Rattle.lfm_mutex.specs.calls.Runs.{Errand, errand_of, Called, CalledBy}
use Rattle.lfm_mutex.specs.calls.Sight.{Sight, sight_of, Receives}
use Rattle.lfm_mutex.specs.calls.Trails.{Shows, CallEnds, Makes, Made, FindNone}

shows : {T : Type 0} (n : ℕ) (p : SeatState) (v : View T) (a : Option T) → Shows p (sight_of n p v a)
shows n p v a = record { depth = refl; takes = refl; asleep = refl; in_call = refl }

leads : {T : Type 0} (first : Turn) (n : ℕ) (e : Errand) (q p' : SeatState) (v v' : View T) (turn : Turn) → CalledBy first n e q v turn p' v' → CallEnds first n q v.trail turn p' v'.trail
leads Open n e q p' v v' turn called = let ran = called.1 in (ran.finds, ran.ends, ran.trail)
leads (Ended answer) n e q p' v v' turn called = (called.0, called.1, λ i. (called.2 i).trail)
leads (Refused why) n e q p' v v' turn called = (called.0, called.1, λ i. (called.2 i).trail)

made : {T : Type 0} (l : Limits) (call : Call) (s t : Sight T) (turn : Turn) → Makes l call s t turn → Made l call s t turn
made l call s t Open m = tt
made l call s t (Ended answer) m = m
made l call s t (Refused why) m = (why, m)

-- a call on the seat's own state is a call between its sights
pub makes : {T : Type 0} (l : Limits) (call : Call) (n n' : ℕ) (p p' : SeatState) (v v' : View T) (a a' : Option T) (turn : Turn) → n' ≡ n → Called n l call p v turn p' v' → Made l call (sight_of n p v a) (sight_of n' p' v' a') turn
makes l call n n' p p' v v' a a' turn same called =
    made l call (sight_of n p v a) (sight_of n' p' v' a') turn
    (p, p', shows n p v a, shows n' p' v' a', leads (begin p l call).turn n (errand_of call) (begin p l call).seat p' v v' turn called)

-- one more receive
pub finds_none_more : {T : Type 0} (l : Limits) (s : Sight T) (ms : List (Sight T)) (m t : Sight T) → FindNone l s ms m → Makes l Call.Receive m t (Ended (Answer.Got None)) → FindNone l s (ms ++ t ∷ []) t
finds_none_more l s [] m t first last = (subst (λ (z : Sight _). Makes l Call.Receive z t (Ended (Answer.Got None))) first last, refl)
finds_none_more l s (x ∷ ms) m t first last = (first.0, finds_none_more l x ms m t first.1 last)

-- a refused receive has changed nothing
pub refused_receive : {T : Type 0} (follows : ℕ → T → T → Type 0) (fits : T → ℕ → Type 0) (m t : Sight T) (r : Refusal) → Receives follows fits m t (Err r) → (m.asleep ≡ false ⊎ (m.in_call ≡ true)) × (t ≡ m)
refused_receive follows fits m t Refusal.NotWaiting told = told
refused_receive follows fits m t _ told = absurd told

-- a seat that has received sleeps, so only the first receive can be refused
pub first_receive : {T : Type 0} (s m : Sight T) (trail : List Seen) → ((m ≡ s) ⊎ ((s.asleep ≡ true) × (s.in_call ≡ false))) → m ≡ record s { trail = trail } → (m.asleep ≡ false ⊎ (m.in_call ≡ true)) → m ≡ s
first_receive s m trail (inl same) seen refused = same
first_receive s m trail (inr sleeps) seen (inl awake) = absurd (false≢true (sym awake ∙ ((λ i. (seen i).asleep) ∙ sleeps.0)))
first_receive s m trail (inr sleeps) seen (inr called) = absurd (false≢true (sym sleeps.1 ∙ (sym (λ i. (seen i).in_call) ∙ called)))
