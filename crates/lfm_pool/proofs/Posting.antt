-- The end of an unlock that posts: the store of the post, the load of the push word after it, the exchange that takes the
-- post back, and the serving of the oldest queued seat then.
use Rattle.std.proofs.Common.{◌≡◌, ◌≢◌, ℕ, ◌+◌, ◌<◌, List, [], ◌∷◌, ◌++◌, refl, sym, ap, ◌∙◌, subst, arith, append_assoc, Option}
use Rattle.std.specs.Prelude.{⊤, true, false}
use Rattle.std.proofs.lemmas.Bool.{eq-eqb, ne_eqb}
use Rattle.atomic_table.specs.Table.{Me}
use Rattle.lfm_words.specs.declared.pop_lists.Record.{Record}
use Rattle.lfm_words.specs.declared.wakes.Wake.TheVariants.{Grant}
use Rattle.lfm_words.specs.Popped.{oldest}
use Rattle.lfm_words.specs.Words.{handoff_of, handoff_word, link_of, wake_word}
use Rattle.lfm_protocol.specs.After.{same_handoff, take}
use Rattle.lfm_protocol.specs.declared.kinds.Kind.{Kind}
use Rattle.lfm_protocol.specs.declared.points.Carrier.{Carrier}
use Rattle.lfm_protocol.specs.declared.points.Point.{Point}
use Rattle.lfm_protocol.specs.declared.points.Point.TheVariants.{Rest, ReleaseHandoffStore, ReleasePushRecheck, ReleaseHandoffExchange, GrantWakeStore}
use Rattle.lfm_protocol.specs.declared.points.Releaser.TheVariants.{Unlocker}
use Rattle.lfm_protocol.specs.declared.seats.SeatState.{SeatState}
use Rattle.lfm_protocol.specs.Stores.{expected_handoff, stored_handoff_at}
use Rattle.lfm_laws.specs.steady.Steady.{DepthAt}
use Rattle.lfm_laws.specs.table.Carried.{carries_value}
use Rattle.lfm_laws.specs.table.Words.{popped_by_step, stepped_by}
use Rattle.lfm_table.specs.declared.operations.Access.{Access}
use Rattle.lfm_table.specs.declared.seat_view.Seen.{Seen}
use Rattle.lfm_table.specs.declared.seat_view.View.{View}
use Rattle.lfm_table.specs.Actions.{RunGoesOn, seen}
use Rattle.lfm_table.proofs.tables.Actions.{run_next}
use Rattle.lfm_table.proofs.tables.StepFacts.{carrying, made_of, taking}
use Rattle.lfm_pool.specs.declared.pool.Pool.{Pool}
use Rattle.lfm_pool.specs.declared.pool.TableSeat.{TableSeat}
use Rattle.lfm_pool.specs.declared.unlock.Released.{Released}
use Rattle.lfm_pool.specs.declared.view.PoolView.{PoolView}
use Rattle.lfm_pool.specs.Belongs.{SameSeat}
use Rattle.lfm_pool.specs.Chain.{note_after, rested}
use Rattle.lfm_pool.specs.FastPaths.{KnowsMoreOf}
use Rattle.lfm_pool.specs.Handoff.{MakesPostIn, TriesPostIn, makes_post, recounted, tried_post, tries_post}
use Rattle.lfm_pool.specs.Moves.{Made, MayStepIn}
use Rattle.lfm_pool.specs.Releasing.{FindsNoneIn, GrantsNextIn, IsServing, collecting}
use Rattle.lfm_pool.specs.Seats.{MovesIn, note_of, popped_of, state_of}
use Rattle.lfm_pool.specs.Steps.{IsPlainAccessOf, Sits, StepsIn, state_in}
use Rattle.lfm_pool.specs.Tables.{part}
use Rattle.lfm_pool.specs.Unlock.{PostsIn, post_word, posting}
use Rattle.lfm_pool.proofs.FastPaths.{both, goes_on, note_now, part_now}
use Rattle.lfm_pool.proofs.Forgotten.{forgets_none, may_recounted}
use Rattle.lfm_pool.proofs.Keeping.{idle_at, since_carrying, since_step}
use Rattle.lfm_pool.proofs.PostNumbers.{unpacks}
use Rattle.lfm_pool.proofs.SeveralSteps.{at_point, inside, made_by}
use Rattle.lfm_pool.proofs.Trying.{posts_differ, same_post}

-- Steps that say nothing of the note

-- from s to t the seat has made exactly these steps in mutex m, and its data are x now
abbrev pub DoesIn : TableSeat → TableSeat → Pool → ℕ → List Seen → SeatState → Type 0
DoesIn s t p m new x = KnowsMoreOf m (λ w k. Made new x (part s.place.me.0 m) w × Sits s.number s.place.id p.limits w.state w) s.place.me t.place.me

module _ (s t : TableSeat) (p : Pool) (m : ℕ) (may : MayStepIn s p m) (new : List Seen) (x : SeatState) (first : DoesIn s t p m new x) where
  pub does_part : part t.place.me.0 m ≡ first.0
  does_part = part_now s.number s.place.id m p.limits s.place.me t.place.me t.place.me (inside s t p m may) first.0 first.1 first.2

  pub does_state : state_of t m ≡ x
  does_state = ap (λ (y : View ⊤). y.state) does_part ∙ first.3.0.state

  pub does_join : (u : TableSeat) (more : List Seen) (y : SeatState) → SameSeat s t → DoesIn t u p m more y → DoesIn s u p m (new ++ more) y
  does_join u more y same second = (
    second.0,
    second.1,
    both s.number s.place.id m p.limits s.place.me t.place.me u.place.me (inside s t p m may) first.0 second.0 first.1 second.1 first.2 second.2,
    (
      record {
        trail = second.3.0.trail ∙ (ap (λ (v : View ⊤). v.trail ++ more) does_part ∙ (ap (λ (l : List Seen). l ++ more) first.3.0.trail ∙ append_assoc (part s.place.me.0 m).trail new more));
        state = second.3.0.state;
        run = run_next first.3.0.run (subst (λ (v : View ⊤). RunGoesOn v second.0) does_part second.3.0.run);
      },
      subst (λ (z : ℕ × ℕ). Sits z.0 z.1 p.limits second.0.state second.0) (λ i. (same.number i, same.id i)) second.3.1,
    ),
  )

-- one step
does_step : (s t : TableSeat) (p : Pool) (m n : ℕ) (x y : SeatState) → ((o : Option Record) → (stepped_by x s.number n o).seat ≡ y) → MayStepIn s p m → state_of s m ≡ x → MovesIn s t p m n → DoesIn s t p m (seen x.point n ∷ []) y
does_step s t p m n x y leads may at did =
    let d = subst (λ (z : SeatState). StepsIn s.number s.place.id m p.limits z s.place.me n t.place.me) at did in (
      d.0,
      note_after x d.0 (note_of s m),
      d.1,
      (made_by s t p m n x y leads (subst (λ (z : SeatState). Sits s.number s.place.id p.limits z (part s.place.me.0 m)) at may.sits) d, d.2),
    )

-- Where each step leads

module _ (d t ps s n : ℕ) (o : Option Record) where
  looked_none : (link_of n).next ≡ 0 → (stepped_by (made_of d t ps (ReleasePushRecheck Unlocker)) s n o).seat ≡ made_of d t ps Rest
  looked_none none = let h = eq-eqb (link_of n).next 0 none in rw h refl

  looked_some : (link_of n).next ≢ 0 → (stepped_by (made_of d t ps (ReleasePushRecheck Unlocker)) s n o).seat ≡ made_of d t ps (ReleaseHandoffExchange Unlocker)
  looked_some more = let h = ne_eqb (link_of n).next 0 more in rw h refl

  is_tried : s < 65536 → handoff_of (post_word s ps) ≡ record { seat = s; post = ps }
  is_tried small = unpacks (record { seat = s; post = ps }) small

  taken_over : s < 65536 → n ≢ post_word s ps → (stepped_by (made_of d t ps (ReleaseHandoffExchange Unlocker)) s n o).seat ≡ made_of d t ps Rest
  taken_over small other =
      let h : same_handoff (handoff_of n) (record { seat = s; post = ps }) ≡ false = ap (same_handoff (handoff_of n)) (sym (is_tried small)) ∙ posts_differ (post_word s ps) n other in rw h refl

  taken_back : s < 65536 → n ≡ post_word s ps → (stepped_by (made_of d t ps (ReleaseHandoffExchange Unlocker)) s n o).seat ≡ made_of d t ps (take (Carrier.Reclaimer Unlocker) s o)
  taken_back small same =
      let h : same_handoff (handoff_of n) (record { seat = s; post = ps }) ≡ true = ap (same_handoff (handoff_of n)) (sym (is_tried small)) ∙ same_post (post_word s ps) n same in rw h refl

module _ (s : TableSeat) (p : Pool) (m : ℕ) (may : MayStepIn s p m) (at : (state_of s m).point ≡ ReleaseHandoffStore Unlocker) where
  abbrev x : SeatState
  x = state_of s m

  abbrev next : ℕ
  next = (state_of s m).posts + 1

  abbrev counted : TableSeat
  counted = recounted s (s.posts + 1)

  pub makes : makes_post (state_of s m).point ≡ true
  makes = ap makes_post at

  small : s.number < 65536
  small = let e = ap (λ (q : Point). (stored_handoff_at x s.number q).seat) at in let f = may.sits.ready.stored_handoff.seat in omega (arith, e, f)

  may0 : MayStepIn counted p m
  may0 = may_recounted s p m (s.posts + 1) may

  module _ (a : TableSeat) (stored : MakesPostIn s a p m) (same1 : SameSeat s a) (may1 : MayStepIn a p m) where
    same0 : SameSeat counted a
    same0 = record { table = same1.table; id = same1.id; number = same1.number; parts = same1.parts }

    first : DoesIn counted a p m (seen (ReleaseHandoffStore Unlocker) (post_word s.number next) ∷ []) (made_of x.depth x.takes next (ReleasePushRecheck Unlocker))
    first = does_step counted a p m (post_word s.number next) (made_of x.depth x.takes x.posts (ReleaseHandoffStore Unlocker)) (made_of x.depth x.takes next (ReleasePushRecheck Unlocker)) (λ o. refl) may0
        (at_point x (ReleaseHandoffStore Unlocker) at) stored.0

    state1 : state_of a m ≡ made_of x.depth x.takes next (ReleasePushRecheck Unlocker)
    state1 = does_state counted a p m may0 _ _ first

    pub looks : IsPlainAccessOf p.limits.seats a.number (state_of a m) (Access.Load 3)
    looks = subst (λ (z : SeatState). IsPlainAccessOf p.limits.seats a.number z (Access.Load 3)) (sym state1) (((Kind.PushLoad, refl, refl, (λ n. refl), refl), omega arith, λ e. omega (arith, e)), refl)

    module _ (b : TableSeat) (look : ℕ) (looked : MovesIn a b p m look) (same2 : SameSeat a b) (may2 : MayStepIn b p m) where
      same_b : SameSeat counted b
      same_b = record { table = same2.table ∙ same1.table; id = same2.id ∙ same1.id; number = same2.number ∙ same1.number; parts = same2.parts ∙ same1.parts }

      looked_to : (y : SeatState) → ((o : Option Record) → (stepped_by (made_of x.depth x.takes next (ReleasePushRecheck Unlocker)) a.number look o).seat ≡ y) → DoesIn counted b p m (posting s.number next look) y
      looked_to y leads =
          does_join counted a p m may0 _ _ first b (seen (ReleasePushRecheck Unlocker) look ∷ []) y same0
          (does_step a b p m look (made_of x.depth x.takes next (ReleasePushRecheck Unlocker)) y leads may1 state1 looked)

      -- the push list is empty
      pub has_posted : (link_of look).next ≡ 0 → PostsIn Released.Posted s b p m
      has_posted none =
          let d = looked_to (made_of x.depth x.takes next Rest) (λ o. looked_none x.depth x.takes next a.number look o none) in (d.0, d.1, d.2, ((posting s.number next look, (look, none, refl), d.3.0), d.3.1))

      module _ (more : (link_of look).next ≢ 0) where
        second : DoesIn counted b p m (posting s.number next look) (made_of x.depth x.takes next (ReleaseHandoffExchange Unlocker))
        second = looked_to (made_of x.depth x.takes next (ReleaseHandoffExchange Unlocker)) (λ o. looked_some x.depth x.takes next a.number look o more)

        state2 : state_of b m ≡ made_of x.depth x.takes next (ReleaseHandoffExchange Unlocker)
        state2 = does_state counted b p m may0 _ _ second

        pub tries : tries_post (state_of b m).point ≡ true
        tries = ap (λ (z : SeatState). tries_post z.point) state2

        pub tries_own : (own : ℕ) → own ≡ handoff_word (record { seat = b.number; post = b.posts }) → own ≡ handoff_word (tried_post b.number b.place.me.0 (state_of b m).point)
        tries_own own is = is ∙ ap (λ (k : ℕ). handoff_word (record { seat = b.number; post = k })) (sym b.counted) ∙ ap (λ (z : SeatState). handoff_word (tried_post b.number b.place.me.0 z.point)) (sym state2)

        unfound : b.place.me.0.found ≡ 0
        unfound = ap (λ (z : Me ℕ PoolView). z.0.found) second.2 ∙ stored.1

        expects : handoff_word (expected_handoff (state_of b m) b.number) ≡ post_word s.number next
        expects = (λ i. handoff_word (expected_handoff (state2 i) (same_b.number i)))

        small_b : b.number < 65536
        small_b = let e = same_b.number in let f = small in omega (arith, e, f)

        module _ (c : TableSeat) (own n : ℕ) (tried : TriesPostIn b c p m own n) (same3 : SameSeat b c) (may3 : MayStepIn c p m) where
          abbrev l : ℕ
          l = tried.0

          moved : MovesIn b c p m l
          moved = subst (λ (z : Me ℕ PoolView). StepsIn b.number b.place.id m p.limits (state_in z.0 m) z l c.place.me) (forgets_none b.place.me unfound) tried.1

          same_c : SameSeat counted c
          same_c = record { table = same3.table ∙ same_b.table; id = same3.id ∙ same_b.id; number = same3.number ∙ same_b.number; parts = same3.parts ∙ same_b.parts }

          number_b : b.number ≡ s.number
          number_b = same_b.number

          -- another call has taken it over
          pub was_taken : n ≢ own → PostsIn Released.TakenOver s c p m
          was_taken miss =
              let other : l ≢ post_word s.number next = λ e. tried.2.misses miss (e ∙ sym expects) in
              let d = does_join counted b p m may0 _ _ second c (seen (ReleaseHandoffExchange Unlocker) l ∷ []) (made_of x.depth x.takes next Rest) same_b
              (does_step b c p m l (made_of x.depth x.takes next (ReleaseHandoffExchange Unlocker)) (made_of x.depth x.takes next Rest)
              (λ o. taken_over x.depth x.takes next b.number l o small_b (λ e. other (e ∙ ap (λ (t : ℕ). post_word t next) number_b))) may2 state2 moved)
              in (d.0, d.1, d.2, ((posting s.number next look ++ seen (ReleaseHandoffExchange Unlocker) l ∷ [], (look, l, more, other, refl), d.3.0), d.3.1))

          module _ (hit : n ≡ own) where
            same_word : l ≡ post_word s.number next
            same_word = tried.2.hits hit ∙ expects

            abbrev w : View ⊤
            w = moved.0

            flat : x.depth ≡ 0
            flat = subst (λ (z : SeatState). DepthAt z.depth z.point) state2 moved.3.deep

            same_list : moved.0.popped ≡ moved.3.popped
            same_list = moved.3.listed ∙ ap (λ (z : SeatState). popped_by_step z b.number l moved.3.popped) state2

            state_w : moved.0.state ≡ made_of x.depth x.takes next (take (Carrier.Reclaimer Unlocker) b.number (oldest moved.0.popped))
            state_w =
                moved.3.state ∙ ap (λ (z : SeatState). (stepped_by z b.number l (oldest moved.3.popped)).seat) state2
                ∙ taken_back x.depth x.takes next b.number l (oldest moved.3.popped) small_b (same_word ∙ ap (λ (t : ℕ). post_word t next) (sym number_b))
                ∙ ap (λ (r : List Record). made_of x.depth x.takes next (take (Carrier.Reclaimer Unlocker) b.number (oldest r))) (sym same_list)

            third : DoesIn b c p m (seen (ReleaseHandoffExchange Unlocker) l ∷ []) (made_of x.depth x.takes next (take (Carrier.Reclaimer Unlocker) b.number (oldest moved.0.popped)))
            third = (
              moved.0,
              note_after (state_of b m) moved.0 (note_of b m),
              moved.1,
              (
                record {
                  trail = moved.3.trail ∙ ap (λ (z : SeatState). (part b.place.me.0 m).trail ++ seen z.point l ∷ []) state2;
                  state = state_w;
                  run = goes_on b.number b.place.id p.limits (state_of b m) moved.0.state (part b.place.me.0 m) moved.0 l may2.sits moved.2 moved.3;
                },
                moved.2,
              ),
            )

            all : DoesIn counted c p m (posting s.number next look ++ seen (ReleaseHandoffExchange Unlocker) l ∷ []) (made_of x.depth x.takes next (take (Carrier.Reclaimer Unlocker) b.number (oldest moved.0.popped)))
            all = does_join counted b p m may0 _ _ second c (seen (ReleaseHandoffExchange Unlocker) l ∷ []) _ same_b third

            part_c : part c.place.me.0 m ≡ moved.0
            unfolding moved third
            part_c = does_part b c p m may2 _ _ third

            state_c : state_of c m ≡ made_of x.depth x.takes next (take (Carrier.Reclaimer Unlocker) b.number (oldest moved.0.popped))
            state_c = does_state b c p m may2 _ _ third

            pub serves_back : IsServing (Carrier.Reclaimer Unlocker) c m
            serves_back = ap (λ (z : SeatState). z.point) state_c ∙ (λ i. take (Carrier.Reclaimer Unlocker) (sym same3.number i) (oldest (sym part_c i).popped))

            -- the seat carries the mutex again, and finds the chain whole
            pub whole_back : note_of c m ≡ rested (popped_of c m)
            whole_back =
                let idle : carries_value (state_of b m) ≡ false = ap carries_value state2 ∙ idle_at (made_of x.depth x.takes next (ReleaseHandoffExchange Unlocker)) flat refl in
                let on = carrying (made_of x.depth x.takes next (take (Carrier.Reclaimer Unlocker) b.number (oldest moved.0.popped))) (taking (Carrier.Reclaimer Unlocker) b.number (oldest moved.0.popped)) in
                note_now b.number b.place.id m p.limits b.place.me c.place.me c.place.me (inside b c p m may2) moved.0 _ moved.1
                ∙ since_step (state_of b m) moved.0 (note_of b m) idle
                ∙ since_carrying moved.0 (note_of b m) (made_of x.depth x.takes next (take (Carrier.Reclaimer Unlocker) b.number (oldest moved.0.popped))) state_w on
                ∙ ap (λ (y : View ⊤). rested y.popped) (sym part_c)

            module _ (d : TableSeat) where
              -- a seat is queued
              pub finds_one : FindsNoneIn (Carrier.Reclaimer Unlocker) c d p m → ⊥
              finds_one none = let e : Carrier.Reclaimer Unlocker ≡ Carrier.Releaser Unlocker = none.0 in cc

              pub grants_back : (r : Record) → GrantsNextIn (Carrier.Reclaimer Unlocker) c d p m r → PostsIn (Released.Granted r) s d p m
              unfolding does_join
              grants_back r last =
                  let g = last.3.0 in
                  let steps : List Seen = collecting (Carrier.Reclaimer Unlocker) (popped_of c m) g.found (r ∷ last.0.popped) ++ seen (GrantWakeStore (Carrier.Reclaimer Unlocker) r) (wake_word (Grant r.stamp)) ∷ [] in
                  let fourth : DoesIn c d p m steps (made_of x.depth x.takes next Rest) = (
                    last.0,
                    last.1,
                    last.2,
                    (record { trail = g.trail; state = g.state ∙ ap (λ (z : SeatState). record z { point = Rest }) state_c; run = g.run }, last.3.1),
                  )
                  in
                  let e = does_join counted c p m may0 _ _ all d steps (made_of x.depth x.takes next Rest) same_c fourth in
                  let new : List Seen = posting s.number next look ++ (seen (ReleaseHandoffExchange Unlocker) (post_word s.number next) ∷ steps) in
                  let is : (posting s.number next look ++ seen (ReleaseHandoffExchange Unlocker) l ∷ []) ++ steps ≡ new =
                  append_assoc (posting s.number next look) (seen (ReleaseHandoffExchange Unlocker) l ∷ []) steps ∙ ap (λ (k : ℕ). posting s.number next look ++ (seen (ReleaseHandoffExchange Unlocker) k ∷ steps)) same_word
                  in (
                    e.0,
                    e.1,
                    e.2,
                    (
                      (new, (look, g.found, popped_of c m, more, g.queued, refl), subst (λ (k : List Seen). Made k (made_of x.depth x.takes next Rest) (part s.place.me.0 m) e.0) is e.3.0),
                      e.3.1,
                    ),
                  )
