-- An unlock that serves the oldest queued seat: the seat after each part of it.
use Rattle.std.proofs.Common.{◌≡◌, ◌≢◌, ℕ, ◌<◌, List, [], ◌∷◌, ◌++◌, drop, length, refl, sym, ap, ◌∙◌, subst, arith, append_assoc}
use Rattle.std.specs.Prelude.{⊤, true}
use Rattle.std.proofs.lemmas.Bool.{false≢true, ne_eqb}
use Rattle.atomic_table.specs.Table.{Me}
use Rattle.lfm_words.specs.declared.pop_lists.Record.{Record}
use Rattle.lfm_words.specs.declared.wakes.Wake.TheVariants.{Grant}
use Rattle.lfm_words.specs.Popped.{oldest}
use Rattle.lfm_words.specs.Words.{link_of, wake_word}
use Rattle.lfm_protocol.specs.After.{granted, once_cleared, serves, take}
use Rattle.lfm_protocol.specs.declared.points.Carrier.{Carrier}
use Rattle.lfm_protocol.specs.declared.points.Point.{Point}
use Rattle.lfm_protocol.specs.declared.points.Point.TheVariants.{Rest, ReleaseHandoffStore, TakeClearHead, TakeLinkLoad, GrantWakeStore}
use Rattle.lfm_protocol.specs.declared.points.Releaser.TheVariants.{Unlocker}
use Rattle.lfm_protocol.specs.declared.seats.SeatState.{SeatState}
use Rattle.lfm_protocol.specs.Place.{carries}
use Rattle.lfm_protocol.specs.Points.{target}
use Rattle.lfm_laws.specs.table.Carried.{carries_value}
use Rattle.lfm_laws.specs.table.Words.{popped_by_step, stepped_by}
use Rattle.lfm_table.specs.declared.seat_view.View.{View}
use Rattle.lfm_table.specs.Actions.{RunGoesOn, seen}
use Rattle.lfm_table.proofs.tables.Actions.{run_next}
use Rattle.lfm_table.proofs.tables.StepFacts.{carrying, made_of, taking}
use Rattle.lfm_pool.specs.declared.pool.Pool.{Pool}
use Rattle.lfm_pool.specs.declared.pool.TableSeat.{TableSeat}
use Rattle.lfm_pool.specs.declared.view.Note.{Note}
use Rattle.lfm_pool.specs.declared.view.PoolView.{PoolView}
use Rattle.lfm_pool.specs.Belongs.{IsMutex, OfPool, SameSeat}
use Rattle.lfm_pool.specs.Carrying.{CarriesIn}
use Rattle.lfm_pool.specs.Chain.{first_seat, note_after, note_by, rested}
use Rattle.lfm_pool.specs.Collecting.{ClearsHead, Collects, CollectsIn, loads_of, walk_head}
use Rattle.lfm_pool.specs.FastPaths.{KnowsMoreOf}
use Rattle.lfm_pool.specs.Releasing.{AreQueued, FindsNone, FindsNoneIn, GrantsNext, GrantsNextIn, IsServing, collecting, is_unlock}
use Rattle.lfm_pool.specs.Seats.{MovesIn, RestsInOthers, SitsIn, note_of, popped_of, state_of}
use Rattle.lfm_pool.specs.SeatWords.{Grants, LoadsLink}
use Rattle.lfm_pool.specs.Serving.{GrantsIn, IsOldest, ServesOldest}
use Rattle.lfm_pool.specs.Steps.{RestsElsewhere, Sits}
use Rattle.lfm_pool.specs.Tables.{note, part, with_part}
use Rattle.lfm_pool.proofs.CarrierWords.{first_record}
use Rattle.lfm_pool.proofs.FastPaths.{elsewhere_with, goes_on, note_now, part_now, twice_with}

-- A seat that knows the same

module _ (p : Pool) (s t : TableSeat) (m : ℕ) (same : SameSeat s t) (knows : t.place.me ≡ s.place.me) where
  pub sits_too : SitsIn s p m → SitsIn t p m
  sits_too sits = subst (λ (y : ℕ × ℕ × Me ℕ PoolView). Sits y.0 y.1 p.limits (part y.2.0 m).state (part y.2.0 m)) (λ i. (sym same.number i, sym same.id i, sym knows i)) sits

  pub rests_too : RestsInOthers s m → RestsInOthers t m
  rests_too rest = subst (λ (z : Me ℕ PoolView). RestsElsewhere z.0 m) (sym knows) rest

  pub serving_too : (carrier : Carrier) → IsServing carrier s m → IsServing carrier t m
  serving_too carrier at = subst (λ (y : ℕ × Me ℕ PoolView). (part y.1.0 m).state.point ≡ take carrier y.0 (oldest (part y.1.0 m).popped)) (λ i. (sym same.number i, sym knows i)) at

  pub whole_too : note_of s m ≡ rested (popped_of s m) → note_of t m ≡ rested (popped_of t m)
  whole_too whole = subst (λ (z : Me ℕ PoolView). note z.0 m ≡ rested (part z.0 m).popped) (sym knows) whole

  pub grants_from : (carrier : Carrier) (u : TableSeat) (r : Record) → GrantsNextIn carrier t u p m r → GrantsNextIn carrier s u p m r
  grants_from carrier u r did = subst (λ (y : ℕ × ℕ × Me ℕ PoolView). KnowsMoreOf m (λ w k. GrantsNext carrier r (part y.2.0 m) w × Sits y.0 y.1 p.limits w.state w) y.2 u.place.me) (λ i. (same.number i, same.id i, knows i)) did

  pub none_from : (carrier : Carrier) (u : TableSeat) → FindsNoneIn carrier t u p m → FindsNoneIn carrier s u p m
  none_from carrier u did = (did.0, subst (λ (y : ℕ × ℕ × Me ℕ PoolView). KnowsMoreOf m (λ w k. FindsNone (part y.2.0 m) w × Sits y.0 y.1 p.limits w.state w × (k ≡ rested w.popped)) y.2 u.place.me) (λ i. (same.number i, same.id i, knows i)) did.1)

-- An unlock as a carrier

unlock_serves : (carrier : Carrier) → is_unlock carrier ≡ true → (number : ℕ) (r : Record) → serves carrier number r ≡ GrantWakeStore carrier r
unlock_serves (Carrier.Releaser Unlocker) is number r = refl
unlock_serves (Carrier.Reclaimer Unlocker) is number r = refl
unlock_serves _ is number r = absurd (false≢true is)

unlock_granted : (carrier : Carrier) → is_unlock carrier ≡ true → (x : SeatState) (r : Record) → (granted x carrier r).seat ≡ record x { point = Rest }
unlock_granted (Carrier.Releaser Unlocker) is x r = refl
unlock_granted (Carrier.Reclaimer Unlocker) is x r = refl
unlock_granted _ is x r = absurd (false≢true is)

unlock_loads : (carrier : Carrier) → is_unlock carrier ≡ true → (head : ℕ) → head ≢ 0 → once_cleared carrier head ≡ TakeLinkLoad carrier head
unlock_loads (Carrier.Releaser Unlocker) is head more = let h = ne_eqb head 0 more in rw h refl
unlock_loads (Carrier.Reclaimer Unlocker) is head more = refl
unlock_loads _ is head more = absurd (false≢true is)

-- an unlock that has taken its post back finds a record
unlock_finds : (carrier : Carrier) → is_unlock carrier ≡ true → (head number : ℕ) → head ≡ 0 → 0 < target (once_cleared carrier head) number
    → (carrier ≡ Carrier.Releaser Unlocker) × (once_cleared carrier head ≡ ReleaseHandoffStore Unlocker)
unlock_finds (Carrier.Releaser Unlocker) is head number none above = (refl, rw none refl)
unlock_finds (Carrier.Reclaimer Unlocker) is head number none above = absurd (omega (arith, above, none))
unlock_finds _ is head number none above = absurd (false≢true is)

-- The seat serves

module _ (p : Pool) (s : TableSeat) (m : ℕ) (carrier : Carrier) (unlocks : is_unlock carrier ≡ true) (sits : SitsIn s p m) (at : IsServing carrier s m) (whole : note_of s m ≡ rested (popped_of s m)) where
  pub serving_carries : CarriesIn s m
  serving_carries = carrying (state_of s m) (ap carries at ∙ taking carrier s.number (oldest (popped_of s m)))

  pub serving_oldest : (n : ℕ) → n ≡ (note_of s m).carried → n ≡ first_seat (popped_of s m)
  serving_oldest n e = e ∙ ap (λ (k : Note). k.carried) whole

  pub serves_popped : (n : ℕ) → n ≡ (note_of s m).carried → n ≢ 0 → ServesOldest s m
  serves_popped n e more =
      let same = e ∙ ap (λ (k : Note). k.carried) whole in
      let first = first_record (popped_of s m) (omega (arith, same, more)) in
      (carrier, first.0, at ∙ ap (λ (l : List Record). take carrier s.number (oldest l)) first.2 ∙ unlock_serves carrier unlocks s.number first.0, (first.1, first.2))

  none_by : (l : List Record) → popped_of s m ≡ l → first_seat l ≡ 0 → popped_of s m ≡ []
  none_by [] e none = e
  none_by (r ∷ rest) e none =
      let here : (state_of s m).point ≡ GrantWakeStore carrier r = at ∙ ap (λ (l : List Record). take carrier s.number (oldest l)) e ∙ unlock_serves carrier unlocks s.number r in
      let above : 0 < r.seat = subst (λ (q : Point). 0 < target q s.number) here sits.ready.above in
      absurd (omega (arith, above, none))

  pub none_popped : (n : ℕ) → n ≡ (note_of s m).carried → n ≡ 0 → popped_of s m ≡ []
  none_popped n e zero = none_by (popped_of s m) refl (sym (ap (λ (k : Note). k.carried) whole) ∙ sym e ∙ zero)

  pub clears : popped_of s m ≡ [] → ClearsHead (state_of s m)
  clears none = (carrier, at ∙ ap (λ (l : List Record). take carrier s.number (oldest l)) none)

  -- it has granted a record that was popped
  pub granted_popped : (t : TableSeat) (r : Record) → IsOldest r (popped_of s m) → GrantsIn s t p m r → GrantsNextIn carrier s t p m r
  granted_popped t r first did =
      let x = state_of s m in
      let v = part s.place.me.0 m in
      let n : ℕ = wake_word (Grant r.stamp) in
      let st = did.3.0 in
      let here : (state_of s m).point ≡ GrantWakeStore carrier r = at ∙ ap (λ (l : List Record). take carrier s.number (oldest l)) first.1 ∙ unlock_serves carrier unlocks s.number r in
      let left : did.0.popped ≡ first.0 =
      st.listed ∙ ap (λ (q : Point). popped_by_step (made_of x.depth x.takes x.posts q) s.number n st.popped) here
      ∙ ap (λ (l : List Record). drop 1 l) (st.had (carrying x (ap carries here)) ∙ first.1)
      in (
        did.0,
        did.1,
        did.2,
        (
          record {
            found = 0;
            queued = subst (λ (l : List Record). AreQueued l 0 (r ∷ did.0.popped)) (sym first.1) (ap (λ (l : List Record). r ∷ l) left);
            trail = subst (λ (l : List Record). did.0.trail ≡ v.trail ++ (collecting carrier l 0 (r ∷ did.0.popped) ++ seen (GrantWakeStore carrier r) n ∷ [])) (sym first.1)
                (st.trail ∙ ap (λ (q : Point). v.trail ++ seen q n ∷ []) here);
            state = st.state ∙ ap (λ (q : Point). (stepped_by (made_of x.depth x.takes x.posts q) s.number n (oldest st.popped)).seat) here
                ∙ unlock_granted carrier unlocks (made_of x.depth x.takes x.posts (GrantWakeStore carrier r)) r;
            run = goes_on s.number s.place.id p.limits x did.0.state v did.0 n sits did.3.1 st;
          },
          did.3.1,
        ),
      )

  -- It has cleared the head of the push word

  module _ (mutex : IsMutex m p) (belongs : OfPool s p) (none : popped_of s m ≡ []) (t : TableSeat) (n : ℕ) (same : SameSeat s t) (step : MovesIn s t p m n) where
    here : m < length s.place.me.0.parts
    here = let a = belongs.parts in omega (arith, a, mutex)

    now : part t.place.me.0 m ≡ step.0
    now = part_now s.number s.place.id m p.limits s.place.me t.place.me t.place.me here step.0 _ step.1

    clear_at : (state_of s m).point ≡ TakeClearHead carrier
    clear_at = at ∙ ap (λ (l : List Record). take carrier s.number (oldest l)) none

    left_none : step.0.popped ≡ []
    left_none =
        step.3.listed ∙ ap (λ (q : Point). popped_by_step (made_of (state_of s m).depth (state_of s m).takes (state_of s m).posts q) s.number n step.3.popped) clear_at
        ∙ step.3.had serving_carries ∙ none

    pub cleared_none : popped_of t m ≡ []
    cleared_none = ap (λ (y : View ⊤). y.popped) now ∙ left_none

    note_stays : note_after (state_of s m) step.0 (note_of s m) ≡ note_of s m
    note_stays = λ i. note_by (serving_carries i) (carries_value step.0.state) (clear_at i) (note_of s m) step.0.popped

    pub cleared_whole : (note_of t m).due ≡ 0
    cleared_whole = ap (λ (k : Note). k.due) (note_now s.number s.place.id m p.limits s.place.me t.place.me t.place.me here step.0 _ step.1 ∙ note_stays ∙ whole)

    cleared_state : step.0.state ≡ record (state_of s m) { point = once_cleared carrier (link_of n).next }
    cleared_state =
        step.3.state ∙ ap (λ (q : Point). (stepped_by (made_of (state_of s m).depth (state_of s m).takes (state_of s m).posts q) s.number n (oldest step.3.popped)).seat) clear_at

    cleared_run : RunGoesOn (part s.place.me.0 m) step.0
    cleared_run = goes_on s.number s.place.id p.limits (state_of s m) step.0.state (part s.place.me.0 m) step.0 n sits step.2 step.3

    cleared_trail : step.0.trail ≡ (part s.place.me.0 m).trail ++ seen (TakeClearHead carrier) n ∷ []
    cleared_trail = step.3.trail ∙ ap (λ (q : Point). (part s.place.me.0 m).trail ++ seen q n ∷ []) clear_at

    pub cleared_sits : SitsIn t p m
    cleared_sits = subst (λ (y : ℕ × ℕ × View ⊤). Sits y.0 y.1 p.limits y.2.state y.2) (λ i. (sym same.number i, sym same.id i, sym now i)) step.2

    pub cleared_elsewhere : RestsInOthers s m → RestsInOthers t m
    cleared_elsewhere elsewhere =
        subst (λ (z : Me ℕ PoolView). RestsElsewhere z.0 m) (sym step.1) (elsewhere_with s.place.me.0 m step.0 (note_after (state_of s m) step.0 (note_of s m)) elsewhere)

    -- where the step leads, and whose word the next one accesses
    above : 0 < target (once_cleared carrier (link_of n).next) s.number
    above = subst (λ (x : SeatState). 0 < target x.point s.number) cleared_state step.2.ready.above

    -- and found no record
    pub found_none : (link_of n).next ≡ 0 → FindsNoneIn carrier s t p m
    found_none empty =
        let is = unlock_finds carrier unlocks (link_of n).next s.number empty above in (
          is.0,
          (
            step.0,
            note_after (state_of s m) step.0 (note_of s m),
            step.1,
            (
              record {
                found = n;
                none = empty;
                trail = cleared_trail ∙ ap (λ (c : Carrier). (part s.place.me.0 m).trail ++ seen (TakeClearHead c) n ∷ []) is.0;
                state = cleared_state ∙ (λ i. record (state_of s m) { point = is.1 i });
                run = cleared_run;
              },
              step.2,
              note_stays ∙ whole ∙ ap rested (none ∙ sym left_none),
            ),
          ),
        )

    -- or some
    loads_at : (head : ℕ) → head ≡ (link_of n).next → head ≢ 0 → (state_of t m).point ≡ TakeLinkLoad carrier head
    loads_at head e more =
        ap (λ (y : View ⊤). y.state.point) now ∙ ap (λ (y : SeatState). y.point) cleared_state ∙ ap (once_cleared carrier) (sym e) ∙ unlock_loads carrier unlocks head more

    pub cleared_loads : (head : ℕ) → head ≡ (link_of n).next → head ≢ 0 → LoadsLink head (state_of t m)
    cleared_loads head e more = (carrier, loads_at head e more)

    module _ (head : ℕ) (head_is : head ≡ (link_of n).next) (more : head ≢ 0) (u : TableSeat) (r : Record) (same' : SameSeat t u) (collected : CollectsIn t u p m head r) where
      carrier_is : collected.0 ≡ carrier
      carrier_is =
          let e : TakeLinkLoad collected.0 head ≡ TakeLinkLoad carrier head = sym collected.1 ∙ loads_at head head_is more in cc

      there : m < length t.place.me.0.parts
      there = let a = same.parts in let b = belongs.parts in omega (arith, a, b, mutex)

      abbrev w2 : View ⊤
      w2 = collected.2.0

      now2 : part u.place.me.0 m ≡ collected.2.0
      now2 = part_now t.number t.place.id m p.limits t.place.me u.place.me u.place.me there collected.2.0 _ collected.2.2

      did2 : Collects collected.0 head t.number r (part t.place.me.0 m) collected.2.0
      did2 = collected.2.3.0

      pub collected_sits : SitsIn u p m
      collected_sits = subst (λ (y : ℕ × ℕ × View ⊤). Sits y.0 y.1 p.limits y.2.state y.2) (λ i. (sym same'.number i, sym same'.id i, sym now2 i)) collected.2.3.1

      pub collected_elsewhere : RestsInOthers s m → RestsInOthers u m
      collected_elsewhere elsewhere =
          subst (λ (z : Me ℕ PoolView). RestsElsewhere z.0 m) (sym collected.2.2) (elsewhere_with t.place.me.0 m collected.2.0 collected.2.1 (cleared_elsewhere elsewhere))

      grants_at : (state_of u m).point ≡ GrantWakeStore carrier r
      grants_at = ap (λ (y : View ⊤). y.state.point) now2 ∙ ap (λ (y : SeatState). y.point) did2.state ∙ ap (λ (k : Carrier). serves k t.number r) carrier_is ∙ unlock_serves carrier unlocks t.number r

      pub collected_grants : Grants r (state_of u m)
      collected_grants = (carrier, grants_at)

      pub collected_rest : note_of u m ≡ rested (drop 1 (popped_of u m))
      collected_rest =
          note_now t.number t.place.id m p.limits t.place.me u.place.me u.place.me there collected.2.0 _ collected.2.2 ∙ collected.2.3.2
          ∙ ap (λ (y : View ⊤). rested (drop 1 y.popped)) (sym now2)

      pub granted_collected : (z : TableSeat) → MovesIn u z p m (wake_word (Grant r.stamp)) → GrantsNextIn carrier s z p m r
      granted_collected z did =
          let x = state_of u m in
          let n3 : ℕ = wake_word (Grant r.stamp) in
          let st = did.3 in
          let v = part s.place.me.0 m in
          let rest = did2.oldest.0 in
          let left : did.0.popped ≡ rest =
          st.listed ∙ ap (λ (q : Point). popped_by_step (made_of x.depth x.takes x.posts q) u.number n3 st.popped) grants_at
          ∙ ap (λ (l : List Record). drop 1 l) (st.had (carrying x (ap carries grants_at)) ∙ ap (λ (y : View ⊤). y.popped) now2 ∙ did2.oldest.1)
          in
          let all : collected.2.0.popped ≡ r ∷ did.0.popped = did2.oldest.1 ∙ ap (λ (l : List Record). r ∷ l) (sym left) in
          let trail2 : collected.2.0.trail ≡ (v.trail ++ seen (TakeClearHead carrier) n ∷ []) ++ loads_of carrier (r ∷ did.0.popped) 0 =
          did2.trail ∙ (λ i. (ap (λ (y : View ⊤). y.trail) now ∙ cleared_trail) i ++ loads_of (carrier_is i) (all i) 0)
          in
          let trail3 = st.trail ∙ (λ i. (ap (λ (y : View ⊤). y.trail) now2 ∙ trail2) i ++ seen (grants_at i) n3 ∷ []) in
          let state1 : (part t.place.me.0 m).state ≡ record (state_of s m) { point = once_cleared carrier (link_of n).next } = ap (λ (y : View ⊤). y.state) now ∙ cleared_state in (
            did.0,
            note_after x did.0 (note_of u m),
            did.1 ∙ ap (λ (y : Me ℕ PoolView). (with_part y.0 m did.0 (note_after x did.0 (note_of u m)), y.1)) collected.2.2
                ∙ (λ i. (twice_with t.place.me.0 m collected.2.0 did.0 collected.2.1 (note_after x did.0 (note_of u m)) i, t.place.me.1))
                ∙ ap (λ (y : Me ℕ PoolView). (with_part y.0 m did.0 (note_after x did.0 (note_of u m)), y.1)) step.1
                ∙ (λ i. (twice_with s.place.me.0 m step.0 did.0 (note_after (state_of s m) step.0 (note_of s m)) (note_after x did.0 (note_of u m)) i, s.place.me.1)),
            (
              record {
                found = n;
                queued = subst (λ (l : List Record). AreQueued l n (r ∷ did.0.popped)) (sym none) (ap (λ (l : List Record). walk_head l 0) (sym all) ∙ did2.begins ∙ head_is);
                trail = subst (λ (l : List Record). did.0.trail ≡ v.trail ++ (collecting carrier l n (r ∷ did.0.popped) ++ seen (GrantWakeStore carrier r) n3 ∷ [])) (sym none)
                    (trail3 ∙ append_assoc (v.trail ++ seen (TakeClearHead carrier) n ∷ []) (loads_of carrier (r ∷ did.0.popped) 0) (seen (GrantWakeStore carrier r) n3 ∷ [])
                    ∙ append_assoc v.trail (seen (TakeClearHead carrier) n ∷ []) (loads_of carrier (r ∷ did.0.popped) 0 ++ seen (GrantWakeStore carrier r) n3 ∷ []));
                state = st.state ∙ ap (λ (q : Point). (stepped_by (made_of x.depth x.takes x.posts q) u.number n3 (oldest st.popped)).seat) grants_at
                    ∙ unlock_granted carrier unlocks (made_of x.depth x.takes x.posts (GrantWakeStore carrier r)) r
                    ∙ ap (λ (y : SeatState). record y { point = Rest }) (ap (λ (y : View ⊤). y.state) now2 ∙ did2.state ∙ ap (λ (y : SeatState). record y { point = serves collected.0 t.number r }) state1);
                run = run_next cleared_run (run_next (subst (λ (y : View ⊤). RunGoesOn y collected.2.0) now did2.run)
                    (subst (λ (y : View ⊤). RunGoesOn y did.0) now2 (goes_on u.number u.place.id p.limits x did.0.state (part u.place.me.0 m) did.0 n3 collected_sits did.2 st)));
              },
              subst (λ (y : ℕ × ℕ). Sits y.0 y.1 p.limits did.0.state did.0) (λ i. ((same'.number ∙ same.number) i, (same'.id ∙ same.id) i)) did.2,
            ),
          )
