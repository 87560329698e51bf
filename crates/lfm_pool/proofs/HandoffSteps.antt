-- The steps on the handoff word keep the rule of the pool's table, and tell of the word of the mutex's table.
use Rattle.std.proofs.Common.{◌≡◌, ◌≢◌, ℕ, ◌+◌, ◌-◌, ◌*◌, ◌^◌, ◌<◌, ◌≤◌, List, [], ◌∷◌, ◌++◌, length, nat_eq, set, refl, sym, ap, ◌∙◌, subst, inl, inr, arith, length-set, Option, Some, None}
use Rattle.std.specs.Prelude.{⊤, Bool, true, false, slice_index}
use Rattle.std.proofs.lemmas.Bool.{cases_eq, eq-eqb, false≢true, ne_eqb}
use Rattle.std.proofs.lemmas.List.{get_or-set_other}
use prog.Atomic.{either}
use mathlib.Core.Option.{some}
use lib.ListN.{get_elem?}
use Rattle.atomic_table.specs.Table.{State, Me, Allows, keeps}
use Rattle.lfm_words.specs.declared.handoffs.Handoff.{Handoff}
use Rattle.lfm_words.specs.declared.pop_lists.Record.{Record}
use Rattle.lfm_words.specs.Popped.{oldest}
use Rattle.lfm_words.specs.Words.{handoff_of, handoff_word}
use Rattle.lfm_protocol.specs.declared.kinds.Kind.{Kind}
use Rattle.lfm_protocol.specs.declared.points.Carrier.{Carrier}
use Rattle.lfm_protocol.specs.declared.points.Point.{Point}
use Rattle.lfm_protocol.specs.declared.points.Point.TheVariants.{Rest, TryHandoffLoad, TryHandoffExchange, PushExchange, PushedHandoffLoad, PushedHandoffExchange, ReleaseHandoffStore, ReleaseHandoffExchange}
use Rattle.lfm_protocol.specs.declared.points.Pusher.{Pusher}
use Rattle.lfm_protocol.specs.declared.points.Releaser.TheVariants.{Unlocker}
use Rattle.lfm_protocol.specs.declared.seats.SeatState.{SeatState}
use Rattle.lfm_protocol.specs.After.{same_handoff, take}
use Rattle.lfm_protocol.specs.Points.{kind}
use Rattle.lfm_protocol.specs.Seats.{seat, wake}
use Rattle.lfm_protocol.specs.Stores.{expected_handoff, expected_handoff_at, stored_handoff, stored_handoff_at}
use Rattle.lfm_laws.specs.steady.Steady.{IsOld}
use Rattle.lfm_laws.specs.table.Words.{stepped_by}
use Rattle.lfm_laws.proofs.steady.queue.Pushers.{fits_at}
use Rattle.lfm_table.specs.declared.operations.Access.{Access}
use Rattle.lfm_laws.specs.steady.Steady.{DepthAt}
use Rattle.lfm_table.specs.declared.seat_view.Seen.{Seen}
use Rattle.lfm_table.specs.declared.seat_view.View.{View}
use Rattle.lfm_table.specs.Accesses.{word_at, becomes, is_store}
use Rattle.lfm_table.specs.Actions.{seen, told_of}
use Rattle.lfm_table.specs.Rule.{Advanced}
use Rattle.lfm_table.specs.Steps.{CanMake}
use Rattle.lfm_table.proofs.tables.RuleKept.{length_at}
use Rattle.lfm_table.proofs.tables.StepFacts.{made_of}
use Rattle.lfm_pool.specs.declared.pool.Pool.{Pool}
use Rattle.lfm_pool.specs.declared.pool.TableSeat.{TableSeat}
use Rattle.lfm_pool.specs.declared.accesses.PoolAccess.{PoolAccess}
use Rattle.lfm_pool.specs.declared.view.Admission.{Admission}
use Rattle.lfm_pool.specs.declared.view.Known.{Known}
use Rattle.lfm_pool.specs.declared.view.Note.{Note}
use Rattle.lfm_pool.specs.declared.view.PoolView.{PoolView}
use Rattle.lfm_pool.specs.Admissions.{MayPush, admitted_in, pushed_at, pushes, stamp_in}
use Rattle.lfm_pool.specs.Chain.{needs_chain, note_after, rested}
use Rattle.lfm_pool.specs.Belongs.{SameSeat}
use Rattle.lfm_pool.specs.Handoff.{LoadsWordIn, MakesPostIn, TellsOfLoad, TellsOfPost, TellsOfTry, TriesPostIn, forgetting, forgotten, loads_handoff, makes_post, recounted, tried_post, tries_post}
use Rattle.lfm_pool.specs.Moves.{MayStepIn}
use Rattle.lfm_pool.specs.Posts.{HeldPosts, has_posted, loaded_post, named}
use Rattle.lfm_pool.specs.Rule.{HeldPool, own_at}
use Rattle.lfm_pool.specs.Seats.{MovesIn, note_of, state_of}
use Rattle.lfm_pool.specs.Steps.{IsAccessOf, IsStepOf, KeepsChainIn, RestsElsewhere, Stepped, StepsIn, hand_out, slots_out, state_in}
use Rattle.lfm_pool.specs.Tables.{Slot, any_follows, any_fits, known, note, part, rests_at, with_part}
use Rattle.lfm_pool.proofs.Forgotten.{forgotten_same, may_forgotten, may_recounted, may_remember, recounted_same, same_forgotten}
use Rattle.lfm_pool.proofs.Keeping.{keeps_by_post, keeps_plain}
use Rattle.lfm_pool.proofs.Lifting.{within}
use Rattle.lfm_pool.proofs.LoneTables.{admission_same, part_other, part_same}
use Rattle.lfm_pool.proofs.Numbers.{not_handoff, numbers_of, own_posts}
use Rattle.lfm_pool.proofs.PostNumbers.{after_first, after_here, after_mutex, after_old, after_other, after_rises, named_empty, named_none, named_number, named_seat, named_word, names_after, renumbered_new, same_named}
use Rattle.lfm_pool.proofs.PostStates.{PostState, at_take, post_state}
use Rattle.lfm_pool.proofs.PostsKept.{Renames, held_posts}
use Rattle.lfm_pool.proofs.Parts.{sits_after, stepped}
use Rattle.lfm_pool.proofs.SameParts.{held_same}
use Rattle.lfm_pool.proofs.SeveralSteps.{may_after}
use Rattle.lfm_pool.proofs.Stamps.{admitted_elsewhere, admitted_same, pushes_more, stamps_kept}
use Rattle.lfm_pool.proofs.Steps.{Numbered, here as step_here, step_lone}

-- The points

resting : (q : Point) → rests_at q ≡ true → (loaded_post q ≡ None) × (has_posted q ≡ false)
resting Rest e = (refl, refl)
resting _ e = absurd (false≢true e)

loads_kind : (q : Point) → loads_handoff q ≡ true → (kind q ≡ Some Kind.HandoffLoad) × (needs_chain q ≡ false) × (loaded_post q ≡ None)
loads_kind (PushedHandoffLoad Pusher.Locker) e = (refl, refl, refl)
loads_kind TryHandoffLoad e = (refl, refl, refl)
loads_kind _ e = absurd (false≢true e)

tries_kind : (q : Point) → tries_post q ≡ true → (kind q ≡ Some Kind.HandoffExchange) × (needs_chain q ≡ false)
tries_kind (PushedHandoffExchange Pusher.Locker seen) e = (refl, refl)
tries_kind (TryHandoffExchange seen) e = (refl, refl)
tries_kind (ReleaseHandoffExchange Unlocker) e = (refl, refl)
tries_kind _ e = absurd (false≢true e)

makes_is : (q : Point) → makes_post q ≡ true → q ≡ ReleaseHandoffStore Unlocker
makes_is (ReleaseHandoffStore Unlocker) e = refl
makes_is _ e = absurd (false≢true e)

-- none of these steps pushes

calm_loads : (q : Point) (k : Known) → loads_handoff q ≡ true → MayPush q k × ((n : ℕ) → pushed_at q n ≡ 0)
calm_loads (PushExchange pusher old) k e = absurd (false≢true e)
calm_loads _ k e = (tt, λ n. refl)

calm_tries : (q : Point) (k : Known) → tries_post q ≡ true → MayPush q k × ((n : ℕ) → pushed_at q n ≡ 0)
calm_tries (PushExchange pusher old) k e = absurd (false≢true e)
calm_tries _ k e = (tt, λ n. refl)

calm_makes : (q : Point) (k : Known) → makes_post q ≡ true → MayPush q k × ((n : ℕ) → pushed_at q n ≡ 0)
calm_makes (PushExchange pusher old) k e = absurd (false≢true e)
calm_makes _ k e = (tt, λ n. refl)

-- what the seat has loaded and posted after each step
loads_after : (d t ps s n : ℕ) (o : Option Record) (q : Point) → loads_handoff q ≡ true
    → ((handoff_of n).seat ≡ 0 → ◌≡◌ {A = PostState} (post_state (stepped_by (made_of d t ps q) s n o).seat) (ps, None, false))
    × ((handoff_of n).seat ≢ 0 → ◌≡◌ {A = PostState} (post_state (stepped_by (made_of d t ps q) s n o).seat) (ps, Some (handoff_of n), false))
loads_after d t ps s n o (PushedHandoffLoad Pusher.Locker) e = (
  (λ none. let h = eq-eqb (handoff_of n).seat 0 none in rw h refl),
  λ full. let h = ne_eqb (handoff_of n).seat 0 full in rw h refl,
)
loads_after d t ps s n o TryHandoffLoad e = (
  (λ none. let h = eq-eqb (handoff_of n).seat 0 none in rw h refl),
  λ full. let h = ne_eqb (handoff_of n).seat 0 full in rw h refl,
)
loads_after d t ps s n o _ e = absurd (false≢true e)

took : (d t ps s : ℕ) (carrier : Carrier) (o : Option Record) → ◌≡◌ {A = PostState} (post_state (made_of d t ps (take carrier s o))) (ps, None, false)
took d t ps s carrier o = λ i. (ps, (at_take carrier s o i).0, (at_take carrier s o i).1)

tried_if : (d t ps s n : ℕ) (o : Option Record) (q : Point) (b : Bool) → (b ≡ true → ◌≡◌ {A = PostState} (post_state (stepped_by (made_of d t ps q) s n o).seat) (ps, None, false))
    → (b ≡ false → ◌≡◌ {A = PostState} (post_state (stepped_by (made_of d t ps q) s n o).seat) (ps, None, false)) → ◌≡◌ {A = PostState} (post_state (stepped_by (made_of d t ps q) s n o).seat) (ps, None, false)
tried_if d t ps s n o q true f g = f refl
tried_if d t ps s n o q false f g = g refl

tries_after : (d t ps s n : ℕ) (o : Option Record) (q : Point) → tries_post q ≡ true → ◌≡◌ {A = PostState} (post_state (stepped_by (made_of d t ps q) s n o).seat) (ps, None, false)
tries_after d t ps s n o (PushedHandoffExchange Pusher.Locker seen) e =
    tried_if d t ps s n o (PushedHandoffExchange Pusher.Locker seen) (same_handoff (handoff_of n) seen) (λ hit. rw hit (took d t ps s Carrier.Locker o)) (λ miss. rw miss refl)
tries_after d t ps s n o (TryHandoffExchange seen) e = tried_if d t ps s n o (TryHandoffExchange seen) (same_handoff (handoff_of n) seen) (λ hit. rw hit refl) (λ miss. rw miss refl)
tries_after d t ps s n o (ReleaseHandoffExchange Unlocker) e =
    tried_if d t ps s n o (ReleaseHandoffExchange Unlocker) (same_handoff (handoff_of n) (record { seat = s; post = ps })) (λ hit. rw hit (took d t ps s (Carrier.Reclaimer Unlocker) o)) (λ miss. rw miss refl)
tries_after d t ps s n o _ e = absurd (false≢true e)

makes_after : (d t ps s n : ℕ) (o : Option Record) (q : Point) → makes_post q ≡ true → ◌≡◌ {A = PostState} (post_state (stepped_by (made_of d t ps q) s n o).seat) (ps + 1, None, true)
makes_after d t ps s n o (ReleaseHandoffStore Unlocker) e = refl
makes_after d t ps s n o _ e = absurd (false≢true e)

-- a step that pushes nothing leaves the number of pushes
still_after : (q : Point) (n : ℕ) (w : View ⊤) (trail : List Seen) → w.trail ≡ trail ++ seen q n ∷ [] → pushed_at q n ≡ 0 → pushes w.trail ≡ pushes trail
still_after q n w trail grown none = let more = ap pushes grown ∙ pushes_more trail (seen q n) in omega (arith, more, none)

-- The accesses to the word of the table

loads_access : (seats number : ℕ) (p : SeatState) → loads_handoff p.point ≡ true → IsAccessOf seats number p (Access.Load 2)
loads_access seats number p at = (Kind.HandoffLoad, (loads_kind p.point at).0, refl, (λ n. refl), refl)

tries_access : (seats number : ℕ) (p : SeatState) → tries_post p.point ≡ true → IsAccessOf seats number p (Access.CompareExchange 2 (handoff_word (expected_handoff p number)) 0)
tries_access seats number p at = (Kind.HandoffExchange, (tries_kind p.point at).0, refl, (λ n. refl), refl)

makes_access : (seats number : ℕ) (p : SeatState) → makes_post p.point ≡ true → IsAccessOf seats number p (Access.Store 2 (handoff_word (stored_handoff p number)))
makes_access seats number p at = (Kind.HandoffStore, ap kind (makes_is p.point at), refl, (λ n. refl), refl)

module _ (id m number mutexes seats : ℕ) (me : Me ℕ PoolView) (p : SeatState) (hand : Option ⊤) (slots : List (ℕ × Slot)) (inside : (m < mutexes) × (length me.0.parts ≡ mutexes))
    (can : CanMake any_follows any_fits p hand number seats (4 + 2 * seats) (part me.0 m, slots)) (elsewhere : RestsElsewhere me.0 m) (now : p ≡ (part me.0 m).state) where
  here : m < length me.0.parts
  here = omega (arith, inside.0, inside.1)

  module _ (s : State ℕ PoolView) (h : HeldPosts s) (at : get_elem? s.views id ≡ some me.0) where
    abbrev own : State ℕ PoolView
    own = record { words = h.own; homes = s.homes; views = s.views }

    abbrev l : ℕ
    l = slice_index h.own (own_at m 2)

    abbrev inner : m < h.held.mutexes
    inner = within id m me.0 here elsewhere (record { words = h.own; homes = s.homes; views = s.views }) h.held at

    id_inside : id < length s.views
    id_inside = length_at s.views id me.0 at

    own_view : get_elem? (h.held.tables m).views id ≡ some (part me.0 m)
    own_view = h.held.parts m id me.0 inner at

    number_is : number ≡ id + 1
    number_is = sym can.named ∙ ((h.held.kept m inner).each id (part me.0 m) own_view).number

    n_is : slice_index s.words (own_at m 2) ≡ named (h.names m) (slice_index h.own (own_at m 2))
    n_is = h.handed m inner

    other_mutex : (i : ℕ) → own_at m 2 ≡ own_at i 2 → i ≡ m
    other_mutex i e = omega (arith, e)

    away : (i : ℕ) → i < h.held.mutexes → i ≢ m → (loaded_post (part me.0 i).state.point ≡ None) × (has_posted (part me.0 i).state.point ≡ false)
    away i less other = resting (part me.0 i).state.point (elsewhere i (let w = h.held.wide id me.0 at in omega (arith, w, less)) other)

    -- the numbers fit before a step that pushes nothing, and after it
    fits_for : (a : PoolAccess) (is : IsStepOf mutexes seats m number p a) (keeps_chain : KeepsChainIn number m p me.0) → ((n : ℕ) → pushed_at p.point n ≡ 0) → ((n : ℕ) (o : Option Record) → (stepped_by p number n o).seat.posts + 1 < 2 ^ 48)
        → Numbered id m number mutexes seats me p hand slots inside can elsewhere a is keeps_chain own h.held at
    fits_for a is keeps_chain none posts =
        let numbers = numbers_of s h m (within id m me.0 (step_here id m number mutexes seats me p hand slots inside can elsewhere a is keeps_chain) elsewhere own h.held at) in (
          numbers,
          (let stamp = numbers.stamp in let calm = none (told_of (is_store a.access) (becomes a.access (slice_index (h.held.tables m).words (word_at a.access))) (slice_index (h.held.tables m).words (word_at a.access))) in omega (arith, stamp, calm)),
          posts,
        )

    posts_few : p.posts + 1 < 2 ^ 48
    posts_few =
        let most = own_posts s h m inner id me.0 at in
        let few = h.few id me.0 at in
        let same = ap (λ (x : SeatState). x.posts) now in
        omega (arith, most, few, same)

    -- a seat that has loaded no post in the mutex remembers no number
    none_found : loaded_post p.point ≡ None → me.0.found ≡ 0
    none_found none = h.unfound id me.0 at (λ i less. elim (cases_eq i m) [
      | inl same ↦ ap (λ (k : ℕ). loaded_post (part me.0 k).state.point) same ∙ ap (λ (x : SeatState). loaded_post x.point) (sym now) ∙ none
      | inr other ↦ (away i less other).0
    ])

    -- The seat knows u now: another view of the mutex, another count of posts, or another number that it remembers

    module _ (w : View ⊤) (k : Note) (posts found : ℕ) where
      abbrev u : PoolView
      u = record (with_part me.0 m w k) { posts = posts; found = found }

      part_here : part u m ≡ w
      part_here = part_same me.0 m w k here

      part_away : (i : ℕ) → i ≢ m → part u i ≡ part me.0 i
      part_away i other = part_other me.0 m i w k other

      abbrev state_at : ℕ → SeatState
      state_at i = (part (record (with_part me.0 m w k) { posts = posts; found = found }) i).state

      state_here : (i : ℕ) → i ≡ m → state_at i ≡ w.state
      state_here i same = ap state_at same ∙ ap (λ (y : View ⊤). y.state) part_here

      state_away : (i : ℕ) → i ≢ m → state_at i ≡ (part me.0 i).state
      state_away i other = ap (λ (y : View ⊤). y.state) (part_away i other)

      long : length u.parts ≡ length me.0.parts
      long = length-set me.0.parts m _

      module _ (x y : ℕ) (names : ℕ → ℕ → ℕ → ℕ) (word : x ≡ named (names m) y) (others : (i : ℕ) → i ≢ m → names i ≡ h.names i) (seats_same : (t a : ℕ) → t ≢ number → names m t a ≡ h.names m t a)
          (old : (seen : Handoff) → (seen.seat ≡ number → seen.post ≤ p.posts) → names m seen.seat seen.post ≡ h.names m seen.seat seen.post)
          (rising : (i t a b : ℕ) → a < b → names i t a < names i t b) (first : (i t : ℕ) → names i t 0 ≡ 0)
          (more : me.0.posts ≤ posts) (counted : names m number w.state.posts ≤ posts) (loaded : (seen : Handoff) → loaded_post w.state.point ≡ Some seen → found ≡ names m seen.seat seen.post)
          (posted : has_posted w.state.point ≡ true → posts ≡ names m number w.state.posts) (unfound : loaded_post w.state.point ≡ None → found ≡ 0)
          (calm : pushes w.trail ≡ pushes (part me.0 m).trail) (few : posts + 1 < 2 ^ 48) where
        -- a post that another seat has loaded is no later one
        loaded_old : (j : ℕ) (z : PoolView) (seen : Handoff) → get_elem? s.views j ≡ some z → loaded_post (part z m).state.point ≡ Some seen → seen.seat ≡ number → seen.post ≤ p.posts
        loaded_old j z seen e has same =
            let kept = h.held.kept m inner in
            let view = h.held.parts m j z inner e in
            let state = (kept.each j (part z m) view).state in
            let is : IsOld kept.core.seats seen = by_point (part z m).state.point refl has in
            let mine = (kept.each id (part me.0 m) own_view).state in
            let posts_are : (seat kept.core.seats seen.seat).posts ≡ p.posts = ap (λ (t : ℕ). (seat kept.core.seats t).posts) (same ∙ number_is) ∙ ap (λ (y : SeatState). y.posts) (mine ∙ sym now) in
            let before = is.before in
            omega (arith, before, posts_are) where
              knows : (q : Point) → (part z m).state.point ≡ q → (seat (h.held.kept m inner).core.seats (j + 1)).point ≡ q
              knows q is = ap (λ (y : SeatState). y.point) ((h.held.kept m inner).each j (part z m) (h.held.parts m j z inner e)).state ∙ is

              by_point : (q : Point) → (part z m).state.point ≡ q → loaded_post q ≡ Some seen → IsOld (h.held.kept m inner).core.seats seen
              by_point (PushedHandoffExchange Pusher.Locker found_post) is f =
                  let c = (h.held.kept m inner).core in
                  let one : found_post ≡ seen = cc in
                  subst (λ (b : Handoff). IsOld c.seats b) one (fits_at c (h.held.kept m inner).ghost_state (j + 1) (seat c.seats (j + 1)) (wake c.wakes (j + 1)) (PushedHandoffExchange Pusher.Locker found_post) (knows (PushedHandoffExchange Pusher.Locker found_post) is) ((h.held.kept m inner).fits.each (j + 1))).knows.0
              by_point (TryHandoffExchange found_post) is f =
                  let c = (h.held.kept m inner).core in
                  let one : found_post ≡ seen = cc in
                  subst (λ (b : Handoff). IsOld c.seats b) one (fits_at c (h.held.kept m inner).ghost_state (j + 1) (seat c.seats (j + 1)) (wake c.wakes (j + 1)) (TryHandoffExchange found_post) (knows (TryHandoffExchange found_post) is) ((h.held.kept m inner).fits.each (j + 1))).knows
              by_point _ is f = absurd (cc)

        renames : Renames s h id me.0 at (own_at m 2) x y u names
        renames = record {
          parts = long;
          plain = λ out. absurd (out m inner refl);
          handed = λ i less e. subst (λ (j : ℕ). x ≡ named (names j) y) (sym (other_mutex i e)) word;
          others_handed = λ i less miss. ap (λ (f : ℕ → ℕ → ℕ). named f (slice_index h.own (own_at i 2))) (others i (λ same. miss (ap (λ (j : ℕ). own_at j 2) (sym same))));
          rising = rising;
          first = first;
          others = λ i j a less other. elim (cases_eq i m) [
            | inl same ↦ rw same (seats_same (j + 1) a (λ e. other (omega (arith, e, number_is))))
            | inr apart ↦ ap (λ (f : ℕ → ℕ → ℕ). f (j + 1) a) (others i apart)
          ];
          stable = λ i j z seen less other e has. elim (cases_eq i m) [
            | inl same ↦ rw same (old seen (loaded_old j z seen e (ap (λ (n : ℕ). loaded_post (part z n).state.point) (sym same) ∙ has)))
            | inr apart ↦ ap (λ (f : ℕ → ℕ → ℕ). f seen.seat seen.post) (others i apart)
          ];
          counted = λ i less. elim (cases_eq i m) [
            | inl same ↦ subst (λ (y : ℕ × ℕ × SeatState). names y.0 y.1 y.2.posts ≤ posts) (λ d. (sym same d, number_is d, sym (state_here i same) d)) counted
            | inr apart ↦
                let e : names i (id + 1) (state_at i).posts ≡ h.names i (id + 1) (part me.0 i).state.posts = (λ d. others i apart d (id + 1) (state_away i apart d).posts) in
                let b = h.counted i id me.0 less at in
                omega (arith, e, b, more)
          ];
          loaded = λ i seen less has. elim (cases_eq i m) [
            | inl same ↦ loaded seen (ap (λ (y : SeatState). loaded_post y.point) (sym (state_here i same)) ∙ has) ∙ ap (λ (j : ℕ). names j seen.seat seen.post) (sym same)
            | inr apart ↦ (let none : ◌≡◌ {A = Option Handoff} None (Some seen) = sym (away i less apart).0 ∙ ap (λ (y : SeatState). loaded_post y.point) (sym (state_away i apart)) ∙ has in absurd (cc))
          ];
          posted = λ i less has. elim (cases_eq i m) [
            | inl same ↦
                posted (ap (λ (y : SeatState). has_posted y.point) (sym (state_here i same)) ∙ has)
                ∙ (λ d. names (sym same d) (number_is d) (sym (state_here i same) d).posts)
            | inr apart ↦ absurd (false≢true (sym (away i less apart).1 ∙ ap (λ (y : SeatState). has_posted y.point) (sym (state_away i apart)) ∙ has))
          ];
          unfound = λ none. unfound (ap (λ (y : SeatState). loaded_post y.point) (sym (state_here m refl)) ∙ none m inner);
          stamps = λ i less. stamps_kept i s.words (set s.words (own_at m 2) x) s.views id me.0 u at (h.stamps i less)
              (let word = push_kept i in let unit = admitted_still i in omega (arith, word, unit));
          seen = λ i less. let before = h.seen i id me.0 less at in let same = ap (λ (a : Admission). stamp_in a.found) (admission_same me.0 m i w k) in let word = push_kept i in omega (arith, before, same, word);
          grows = λ i less. let word = push_kept i in omega (arith, word);
          few = few;
        } where
          -- the handoff word is no push word
          push_kept : (i : ℕ) → stamp_in (slice_index (set s.words (own_at m 2) x) (own_at i 3)) ≡ stamp_in (slice_index s.words (own_at i 3))
          push_kept i = ap stamp_in (get_or-set_other s.words (own_at m 2) (own_at i 3) x 0 (not_handoff i m))

          -- the seat may push as often as before
          admitted_still : (i : ℕ) → admitted_in i (record (with_part me.0 m w k) { posts = posts; found = found }) ≡ admitted_in i me.0
          admitted_still i = elim (cases_eq i m) [
            | inl same ↦ rw same (admitted_same me.0 m w k here calm)
            | inr apart ↦ admitted_elsewhere me.0 m w k here i apart
          ]

        pub after_handoff : HeldPool (record { words = set h.own (own_at m 2) y; homes = s.homes; views = set s.views id (with_part me.0 m w k) })
            → HeldPosts (record { words = set s.words (own_at m 2) x; homes = s.homes; views = set s.views id (record (with_part me.0 m w k) { posts = posts; found = found }) })
        after_handoff held =
            held_posts s h id me.0 at (own_at m 2) x y s.homes u names renames
            (held_same (set h.own (own_at m 2) y) s.homes s.views id u (with_part me.0 m w k) (λ i. (refl, refl)) refl id_inside held)

  -- The load

  module _ (at_load : loads_handoff p.point ≡ true) where
    load_step : IsStepOf mutexes seats m number p (record { index = own_at m 2; access = Access.Load 2 })
    load_step = (loads_access seats number p at_load, inl (omega arith, refl), inl (omega arith))

    pub load_allowed : Allows HeldPosts 0 id me (own_at m 2) (λ n. n) (λ n me'. TellsOfLoad m p (λ x. Advanced any_follows any_fits p hand (part me.0 m, slots) x) me n me')
    load_allowed s h none at small =
        let lone : State ℕ PoolView = record { words = h.own; homes = s.homes; views = s.views } in
        let calm = calm_loads p.point (known me.0 m) at_load in
        let keeps_chain : KeepsChainIn number m p me.0 = (keeps_plain p number (part me.0 m) (note me.0 m) (loads_kind p.point at_load).1, calm.0) in
        let done = step_lone id m number mutexes seats me p hand slots inside can elsewhere (record { index = own_at m 2; access = Access.Load 2 }) load_step keeps_chain lone h.held at
        (fits_for s h at (record { index = own_at m 2; access = Access.Load 2 }) load_step keeps_chain calm.1 (λ n o.
        let few = posts_few s h at in
        let leads = loads_after p.depth p.takes p.posts number n o p.point at_load in
        let same : (stepped_by p number n o).seat.posts ≡ p.posts = elim (cases_eq (handoff_of n).seat 0) [
          | inl empty ↦ ap (λ (z : PostState). z.0) (leads.0 empty)
          | inr full ↦ ap (λ (z : PostState). z.0) (leads.1 full)
        ]
        in
        omega (arith, few, same)))
        in
        let n : ℕ = slice_index s.words (own_at m 2) in
        let there : ℕ = slice_index h.own (own_at m 2) in
        let w = done.0 in
        let leads = loads_after p.depth p.takes p.posts (part me.0 m).number there (oldest done.3.popped) p.point at_load in
        let same_posts : w.state.posts ≡ p.posts = elim (cases_eq (handoff_of there).seat 0) [
          | inl empty ↦ ap (λ (x : SeatState). x.posts) done.3.state ∙ ap (λ (z : PostState). z.0) (leads.0 empty)
          | inr full ↦ ap (λ (x : SeatState). x.posts) done.3.state ∙ ap (λ (z : PostState). z.0) (leads.1 full)
        ]
        in
        let not_posted : has_posted w.state.point ≡ false = elim (cases_eq (handoff_of there).seat 0) [
          | inl empty ↦ ap (λ (x : SeatState). has_posted x.point) done.3.state ∙ ap (λ (z : PostState). z.2) (leads.0 empty)
          | inr full ↦ ap (λ (x : SeatState). has_posted x.point) done.3.state ∙ ap (λ (z : PostState). z.2) (leads.1 full)
        ]
        in
        let is = n_is s h at in
        let now_loaded : (seen : Handoff) → loaded_post w.state.point ≡ Some seen → (handoff_of n).post ≡ h.names m seen.seat seen.post = λ seen has. elim (cases_eq (handoff_of there).seat 0) [
          | inl empty ↦
              (let gone : ◌≡◌ {A = Option Handoff} None (Some seen) = sym (ap (λ (x : SeatState). loaded_post x.point) done.3.state ∙ ap (λ (z : PostState). z.1) (leads.0 empty)) ∙ has in absurd (cc))
          | inr full ↦
              (let both : ◌≡◌ {A = Option Handoff} (Some (handoff_of there)) (Some seen) = sym (ap (λ (x : SeatState). loaded_post x.point) done.3.state ∙ ap (λ (z : PostState). z.1) (leads.1 full)) ∙ has in
              let one : handoff_of there ≡ seen = cc in
              ap (λ (k : ℕ). (handoff_of k).post) is ∙ named_number (h.names m) there full ∙ ap (λ (b : Handoff). h.names m b.seat b.post) one)
        ]
        in
        let now_unfound : loaded_post w.state.point ≡ None → (handoff_of n).post ≡ 0 = λ gone. elim (cases_eq (handoff_of there).seat 0) [
          | inl empty ↦ ap (λ (k : ℕ). (handoff_of k).post) (is ∙ named_none (h.names m) there empty)
          | inr full ↦
              (let both : ◌≡◌ {A = Option Handoff} (Some (handoff_of there)) None = sym (ap (λ (x : SeatState). loaded_post x.point) done.3.state ∙ ap (λ (z : PostState). z.1) (leads.1 full)) ∙ gone in absurd (cc))
        ]
        in
        let number_at = number_is s h at in
        let counted : h.names m number w.state.posts ≤ me.0.posts =
        subst (λ (y : ℕ × ℕ). h.names m y.0 y.1 ≤ me.0.posts) (λ i. (sym number_at i, (ap (λ (x : SeatState). x.posts) (sym now) ∙ sym same_posts) i)) (h.counted m id me.0 (inner s h at) at)
        in (
          record (with_part me.0 m w (note_after p w (note me.0 m))) { found = (handoff_of n).post },
          keeps,
          tt,
          after_handoff s h at w (note_after p w (note me.0 m)) me.0.posts (handoff_of n).post n there h.names is (λ i other. refl) (λ t a other. refl) (λ seen old. refl) h.rising h.first
              (omega arith) counted now_loaded (λ has. absurd (false≢true (sym not_posted ∙ has))) now_unfound (still_after p.point there w (part me.0 m).trail done.3.trail (calm.1 there)) (h.few id me.0 at) done.2,
          (
            w,
            done.1,
            there,
            done.3,
            refl,
            record {
              seat = sym (ap (λ (k : ℕ). (handoff_of k).seat) is ∙ named_seat (h.names m) there);
              none = λ empty. ap (λ (k : ℕ). (handoff_of k).post) is ∙ named_empty (h.names m) there (ap (λ (k : ℕ). (handoff_of k).seat) (sym is) ∙ empty);
              unfound = none_found s h at (loads_kind p.point at_load).2;
            },
            done.4,
          ),
        )

  -- The exchange

  module _ (at_try : tries_post p.point ≡ true) (expected : ℕ) (is_expected : expected ≡ handoff_word (tried_post number me.0 p.point)) where
    abbrev post : Handoff
    post = expected_handoff p number

    try_step : IsStepOf mutexes seats m number p (record { index = own_at m 2; access = Access.CompareExchange 2 (handoff_word post) 0 })
    try_step = (tries_access seats number p at_try, inl (omega arith, refl), inl (omega arith))

    module _ (s : State ℕ PoolView) (h : HeldPosts s) (at : get_elem? s.views id ≡ some me.0) where
      abbrev IsTried : Type 0
      IsTried = (0 < post.seat) × (tried_post number me.0 p.point ≡ record { seat = post.seat; post = h.names m post.seat post.post })

      core_point : (q : Point) → p.point ≡ q → (seat (h.held.kept m (inner s h at)).core.seats (id + 1)).point ≡ q
      core_point q is = ap (λ (y : SeatState). y.point) (((h.held.kept m (inner s h at)).each id (part me.0 m) (own_view s h at)).state ∙ sym now) ∙ is

      own_point : (q : Point) → p.point ≡ q → (part me.0 m).state.point ≡ q
      own_point q is = ap (λ (y : SeatState). y.point) (sym now) ∙ is

      by_point : (q : Point) → p.point ≡ q → tries_post q ≡ true → IsTried
      by_point (PushedHandoffExchange Pusher.Locker seen) is e =
          let kept = h.held.kept m (inner s h at) in
          let c = kept.core in
          let old = (fits_at c kept.ghost_state (id + 1) (seat c.seats (id + 1)) (wake c.wakes (id + 1)) (PushedHandoffExchange Pusher.Locker seen) (core_point (PushedHandoffExchange Pusher.Locker seen) is) (kept.fits.each (id + 1))).knows.0 in
          let found = h.loaded m id me.0 seen (inner s h at) at (ap loaded_post (own_point (PushedHandoffExchange Pusher.Locker seen) is)) in
          let is_post : expected_handoff_at p number p.point ≡ seen = ap (expected_handoff_at p number) is in (
            subst (λ (b : Handoff). 0 < b.seat) (sym is_post) old.above,
            ap (tried_post number me.0) is ∙ (λ i. record { seat = (sym is_post i).seat; post = (found ∙ ap (λ (b : Handoff). h.names m b.seat b.post) (sym is_post)) i }),
          )
      by_point (TryHandoffExchange seen) is e =
          let kept = h.held.kept m (inner s h at) in
          let c = kept.core in
          let old = (fits_at c kept.ghost_state (id + 1) (seat c.seats (id + 1)) (wake c.wakes (id + 1)) (TryHandoffExchange seen) (core_point (TryHandoffExchange seen) is) (kept.fits.each (id + 1))).knows in
          let found = h.loaded m id me.0 seen (inner s h at) at (ap loaded_post (own_point (TryHandoffExchange seen) is)) in
          let is_post : expected_handoff_at p number p.point ≡ seen = ap (expected_handoff_at p number) is in (
            subst (λ (b : Handoff). 0 < b.seat) (sym is_post) old.above,
            ap (tried_post number me.0) is ∙ (λ i. record { seat = (sym is_post i).seat; post = (found ∙ ap (λ (b : Handoff). h.names m b.seat b.post) (sym is_post)) i }),
          )
      by_point (ReleaseHandoffExchange Unlocker) is e =
          let posted = h.posted m id me.0 (inner s h at) at (ap has_posted (own_point (ReleaseHandoffExchange Unlocker) is)) in
          let is_post : expected_handoff_at p number p.point ≡ record { seat = number; post = p.posts } = ap (expected_handoff_at p number) is in
          let number_at = number_is s h at in (
            subst (λ (b : Handoff). 0 < b.seat) (sym is_post) (omega (arith, number_at)),
            ap (tried_post number me.0) is
                ∙ (λ i. record { seat = (sym is_post i).seat; post = (posted ∙ (λ d. h.names m (sym number_at d) (sym now d).posts) ∙ ap (λ (b : Handoff). h.names m b.seat b.post) (sym is_post)) i }),
          )
      by_point _ is e = absurd (false≢true e)

      tried : IsTried
      tried = by_point p.point refl at_try

      small : post.seat < 65536
      small = can.ready.expected_handoff.seat

      real_is : expected ≡ handoff_word (record { seat = post.seat; post = h.names m post.seat post.post })
      real_is = is_expected ∙ ap handoff_word tried.1

      hits : slice_index s.words (own_at m 2) ≡ expected → slice_index h.own (own_at m 2) ≡ handoff_word post
      hits e = same_named (h.names m) post (h.rising m post.seat) tried.0 small (slice_index h.own (own_at m 2)) (sym (n_is s h at) ∙ e ∙ real_is)

      misses : slice_index s.words (own_at m 2) ≢ expected → slice_index h.own (own_at m 2) ≢ handoff_word post
      misses other e = other (n_is s h at ∙ ap (named (h.names m)) e ∙ named_word (h.names m) post tried.0 small ∙ sym real_is)

      written : either (nat_eq (slice_index s.words (own_at m 2)) expected) 0 (slice_index s.words (own_at m 2))
          ≡ named (h.names m) (either (nat_eq (slice_index h.own (own_at m 2)) (handoff_word post)) 0 (slice_index h.own (own_at m 2)))
      written = elim (cases_eq (slice_index s.words (own_at m 2)) expected) [
        | inl hit ↦
            (let a = eq-eqb (slice_index s.words (own_at m 2)) expected hit in
            let b = eq-eqb (slice_index h.own (own_at m 2)) (handoff_word post) (hits hit) in
            rw (a, b) refl)
        | inr miss ↦
            (let a = ne_eqb (slice_index s.words (own_at m 2)) expected miss in
            let b = ne_eqb (slice_index h.own (own_at m 2)) (handoff_word post) (misses miss) in
            rw (a, b) (n_is s h at))
      ]

    pub try_allowed : Allows HeldPosts 0 id me (own_at m 2) (λ n. either (nat_eq n expected) 0 n) (λ n me'. TellsOfTry m number p expected (λ x. Advanced any_follows any_fits p hand (part me.0 m, slots) x) me n me')
    try_allowed s h none at below =
        let lone : State ℕ PoolView = record { words = h.own; homes = s.homes; views = s.views } in
        let calm = calm_tries p.point (known me.0 m) at_try in
        let keeps_chain : KeepsChainIn number m p me.0 = (keeps_plain p number (part me.0 m) (note me.0 m) (tries_kind p.point at_try).1, calm.0) in
        let done = step_lone id m number mutexes seats me p hand slots inside can elsewhere (record { index = own_at m 2; access = Access.CompareExchange 2 (handoff_word post) 0 }) try_step keeps_chain lone h.held at
        (fits_for s h at (record { index = own_at m 2; access = Access.CompareExchange 2 (handoff_word post) 0 }) try_step keeps_chain calm.1 (λ n o.
        let few = posts_few s h at in
        let same : (stepped_by p number n o).seat.posts ≡ p.posts = ap (λ (z : PostState). z.0) (tries_after p.depth p.takes p.posts number n o p.point at_try) in
        omega (arith, few, same)))
        in
        let n : ℕ = slice_index s.words (own_at m 2) in
        let there : ℕ = slice_index h.own (own_at m 2) in
        let w = done.0 in
        let leads = ap post_state done.3.state ∙ tries_after p.depth p.takes p.posts (part me.0 m).number there (oldest done.3.popped) p.point at_try in
        let number_at = number_is s h at in
        let counted : h.names m number w.state.posts ≤ me.0.posts =
        subst (λ (y : ℕ × ℕ). h.names m y.0 y.1 ≤ me.0.posts) (λ i. (sym number_at i, (ap (λ (x : SeatState). x.posts) (sym now) ∙ sym (ap (λ (z : PostState). z.0) leads)) i)) (h.counted m id me.0 (inner s h at) at)
        in (
          record (with_part me.0 m w (note_after p w (note me.0 m))) { found = 0 },
          keeps,
          tt,
          after_handoff s h at w (note_after p w (note me.0 m)) me.0.posts 0 (either (nat_eq n expected) 0 n) (either (nat_eq there (handoff_word post)) 0 there) h.names (written s h at) (λ i other. refl) (λ t a other. refl) (λ seen old. refl) h.rising h.first
              (omega arith) counted (λ seen has. let gone : ◌≡◌ {A = Option Handoff} None (Some seen) = sym (ap (λ (z : PostState). z.1) leads) ∙ has in absurd (cc)) (λ has. absurd (false≢true (sym (ap (λ (z : PostState). z.2) leads) ∙ has))) (λ gone. refl) (still_after p.point there w (part me.0 m).trail done.3.trail (calm.1 there)) (h.few id me.0 at) done.2,
          (w, done.1, there, done.3, refl, record { hits = hits s h at; misses = misses s h at; unfound = none_found s h at }, done.4),
        )

  -- The store of a post

  module _ (at_post : makes_post p.point ≡ true) (whole : note me.0 m ≡ rested (part me.0 m).popped) (stored : ℕ) (is_stored : stored ≡ handoff_word (record { seat = number; post = me.0.posts + 1 })) (left : me.0.posts + 2 < 2 ^ 48) where
    abbrev next : Handoff
    next = stored_handoff p number

    store_step : IsStepOf mutexes seats m number p (record { index = own_at m 2; access = Access.Store 2 (handoff_word next) })
    store_step = (makes_access seats number p at_post, inl (omega arith, refl), inl (omega arith))

    next_is : stored_handoff_at p number p.point ≡ record { seat = number; post = p.posts + 1 }
    next_is = ap (stored_handoff_at p number) (makes_is p.point at_post)

    small_number : number < 65536
    small_number = let small = can.ready.stored_handoff.seat in let e = ap (λ (b : Handoff). b.seat) next_is in omega (arith, small, e)

    pub store_allowed : Allows HeldPosts 0 id me (own_at m 2) (λ n. stored) (λ n me'. TellsOfPost m number p (λ x. Advanced any_follows any_fits p hand (part me.0 m, slots) x) me me')
    store_allowed s h none at below =
        let lone : State ℕ PoolView = record { words = h.own; homes = s.homes; views = s.views } in
        let calm = calm_makes p.point (known me.0 m) at_post in
        let keeps_chain : KeepsChainIn number m p me.0 = (keeps_by_post p number (part me.0 m) (note me.0 m) Unlocker (makes_is p.point at_post) whole, calm.0) in
        let done = step_lone id m number mutexes seats me p hand slots inside can elsewhere (record { index = own_at m 2; access = Access.Store 2 (handoff_word next) }) store_step keeps_chain lone h.held at
        (fits_for s h at (record { index = own_at m 2; access = Access.Store 2 (handoff_word next) }) store_step keeps_chain calm.1 (λ n o.
        let most = own_posts s h m (inner s h at) id me.0 at in
        let same = ap (λ (x : SeatState). x.posts) now in
        let one : (stepped_by p number n o).seat.posts ≡ p.posts + 1 = ap (λ (z : PostState). z.0) (makes_after p.depth p.takes p.posts number n o p.point at_post) in
        omega (arith, most, same, one, left)))
        in
        let w = done.0 in
        let number_at = number_is s h at in
        let leads = ap post_state done.3.state ∙ makes_after p.depth p.takes p.posts (part me.0 m).number (handoff_word next) (oldest done.3.popped) p.point at_post in
        let now_posts : w.state.posts ≡ p.posts + 1 = ap (λ (z : PostState). z.0) leads in
        let most : h.names m number p.posts ≤ me.0.posts = subst (λ (y : ℕ × ℕ). h.names m y.0 y.1 ≤ me.0.posts) (λ i. (sym number_at i, ap (λ (x : SeatState). x.posts) (sym now) i)) (h.counted m id me.0 (inner s h at) at) in
        let names : ℕ → ℕ → ℕ → ℕ = names_after h.names m number p.posts me.0.posts in
        let newest : names_after h.names m number p.posts me.0.posts m number (p.posts + 1) ≡ me.0.posts + 1 =
        after_here h.names m number p.posts me.0.posts (p.posts + 1) ∙ renumbered_new p.posts me.0.posts (h.names m number) (p.posts + 1) (omega arith) ∙ (let e : me.0.posts + (p.posts + 1 - p.posts) ≡ me.0.posts + 1 = omega arith in e)
        in
        let numbered : names_after h.names m number p.posts me.0.posts m number w.state.posts ≡ me.0.posts + 1 = ap (names_after h.names m number p.posts me.0.posts m number) now_posts ∙ newest in
        let word : stored ≡ named (names_after h.names m number p.posts me.0.posts m) (handoff_word next) =
        is_stored ∙ ap (λ (k : ℕ). handoff_word (record { seat = number; post = k })) (sym newest)
        ∙ sym (named_word (names_after h.names m number p.posts me.0.posts m) (record { seat = number; post = p.posts + 1 }) (omega (arith, number_at)) small_number)
        ∙ ap (λ (b : Handoff). named (names_after h.names m number p.posts me.0.posts m) (handoff_word b)) (sym next_is)
        in (
          record (with_part me.0 m w (note_after p w (note me.0 m))) { posts = me.0.posts + 1 },
          keeps,
          tt,
          after_handoff s h at w (note_after p w (note me.0 m)) (me.0.posts + 1) me.0.found stored (handoff_word next) (names_after h.names m number p.posts me.0.posts) word
              (λ i other. after_mutex h.names m number p.posts me.0.posts i other) (λ t a other. after_seat_here t a other)
              (λ seen old. after_old h.names m number p.posts me.0.posts seen.seat seen.post old)
              (after_rises h.names m number p.posts me.0.posts h.rising most) (after_first h.names m number p.posts me.0.posts h.first)
              (omega arith) (omega (arith, numbered))
              (λ seen has. let gone : ◌≡◌ {A = Option Handoff} None (Some seen) = sym (ap (λ (z : PostState). z.1) leads) ∙ has in absurd (cc))
              (λ has. sym numbered) (λ gone. none_found s h at none_loaded) (still_after p.point (handoff_word next) w (part me.0 m).trail done.3.trail (calm.1 (handoff_word next))) (omega (arith, left)) done.2,
          (w, done.1, done.3, refl, none_found s h at none_loaded, done.4),
        ) where
          after_seat_here : (t a : ℕ) → t ≢ number → names_after h.names m number p.posts me.0.posts m t a ≡ h.names m t a
          after_seat_here t a other = after_other h.names m number p.posts me.0.posts m t a other

          none_loaded : loaded_post p.point ≡ None
          none_loaded = ap loaded_post (makes_is p.point at_post)

-- What the table requires of these accesses

module _ (f : Pool) (s : TableSeat) (m picked_m : ℕ) (p : SeatState) (hand : Option ⊤) (slots : List (ℕ × Slot)) (index : ℕ) (one : picked_m ≡ m) (now : p ≡ state_in s.place.me.0 m) (table : s.place.table_id ≡ f.table.shared.table_id)
    (inside : (m < f.mutexes) × (length s.place.me.0.parts ≡ f.mutexes)) (can : CanMake any_follows any_fits p hand s.number f.limits.seats (4 + 2 * f.limits.seats) (part s.place.me.0 m, slots)) (elsewhere : RestsElsewhere s.place.me.0 m) (is_index : index ≡ own_at m 2) where
  low : index < f.table.shared.table_id.words
  low = let wide = f.wide in let less = inside.0 in omega (arith, wide, less, is_index)

  -- the access, with the numbers of slots and the index and the mutex as the table and the step name them
  abbrev Permits : (ℕ → ℕ) → (ℕ → ℕ → Me ℕ PoolView → Type 0) → ℕ × ℕ × ℕ → Type 0
  Permits g tells z = Allows HeldPosts z.0 s.place.id s.place.me z.1 g (λ n me'. tells z.2 n me')

  named_so : (g : ℕ → ℕ) (tells : ℕ → ℕ → Me ℕ PoolView → Type 0) → Permits g tells (0, own_at m 2, m) → Permits g tells (f.table.shared.table_id.slots, index, picked_m)
  named_so g tells allowed = subst (Permits g tells) (λ i. (sym f.no_slots i, sym is_index i, sym one i)) allowed

  pub load_required : loads_handoff p.point ≡ true
      → (s.place.table_id ≡ f.table.shared.table_id) × (index < f.table.shared.table_id.words)
      × Allows HeldPosts f.table.shared.table_id.slots s.place.id s.place.me index (λ n. n) (λ n me'. TellsOfLoad picked_m p (λ x. Advanced any_follows any_fits p hand (part s.place.me.0 picked_m, slots) x) s.place.me n me')
  load_required at = (
    table,
    low,
    named_so (λ n. n) (λ j n me'. TellsOfLoad j p (λ x. Advanced any_follows any_fits p hand (part s.place.me.0 j, slots) x) s.place.me n me')
        (load_allowed s.place.id m s.number f.mutexes f.limits.seats s.place.me p hand slots inside can elsewhere now at),
  )

  pub exchange_required : (expected picked_number picked_expected : ℕ) → picked_number ≡ s.number → picked_expected ≡ expected → tries_post p.point ≡ true → expected ≡ handoff_word (tried_post s.number s.place.me.0 p.point)
      → (s.place.table_id ≡ f.table.shared.table_id) × (index < f.table.shared.table_id.words)
      × Allows HeldPosts f.table.shared.table_id.slots s.place.id s.place.me index (λ n. either (nat_eq n expected) 0 n)
      (λ n me'. TellsOfTry picked_m picked_number p picked_expected (λ x. Advanced any_follows any_fits p hand (part s.place.me.0 picked_m, slots) x) s.place.me n me')
  exchange_required expected picked_number picked_expected same_number same_expected at is = (
    table,
    low,
    named_so (λ n. either (nat_eq n expected) 0 n) (λ j n me'. TellsOfTry j picked_number p picked_expected (λ x. Advanced any_follows any_fits p hand (part s.place.me.0 j, slots) x) s.place.me n me')
        (subst (λ (z : ℕ × ℕ). Permits (λ n. either (nat_eq n expected) 0 n) (λ j n me'. TellsOfTry j z.0 p z.1 (λ x. Advanced any_follows any_fits p hand (part s.place.me.0 j, slots) x) s.place.me n me') (0, own_at m 2, m))
        (λ i. (sym same_number i, sym same_expected i)) (try_allowed s.place.id m s.number f.mutexes f.limits.seats s.place.me p hand slots inside can elsewhere now at expected is)),
  )

  pub store_required : (stored picked_number : ℕ) → picked_number ≡ s.number → makes_post p.point ≡ true → note s.place.me.0 m ≡ rested (part s.place.me.0 m).popped → stored ≡ handoff_word (record { seat = s.number; post = s.place.me.0.posts + 1 }) → s.place.me.0.posts + 2 < 2 ^ 48
      → (s.place.table_id ≡ f.table.shared.table_id) × (index < f.table.shared.table_id.words)
      × Allows HeldPosts f.table.shared.table_id.slots s.place.id s.place.me index (λ n. stored)
      (λ n me'. TellsOfPost picked_m picked_number p (λ x. Advanced any_follows any_fits p hand (part s.place.me.0 picked_m, slots) x) s.place.me me')
  store_required stored picked_number same_number at whole is left = (
    table,
    low,
    named_so (λ n. stored) (λ j n me'. TellsOfPost j picked_number p (λ x. Advanced any_follows any_fits p hand (part s.place.me.0 j, slots) x) s.place.me me')
        (subst (λ (z : ℕ). Permits (λ n. stored) (λ j n me'. TellsOfPost j z p (λ x. Advanced any_follows any_fits p hand (part s.place.me.0 j, slots) x) s.place.me me') (0, own_at m 2, m))
        (sym same_number) (store_allowed s.place.id m s.number f.mutexes f.limits.seats s.place.me p hand slots inside can elsewhere now at whole stored is left)),
  )

-- The seat after such a step

module _ (p : Pool) (s t : TableSeat) (m : ℕ) where
  abbrev x : SeatState
  x = state_of s m

  -- what such a step does at the table of the mutex
  abbrev Tells : ℕ → Me Slot (View ⊤) → Type 0
  Tells n z = Advanced any_follows any_fits (state_of s m) (hand_out p.limits.seats (state_of s m) (part s.place.me.0 m)) (part s.place.me.0 m, slots_out p.limits.seats (state_of s m) (part s.place.me.0 m)) n z

  -- the seat knows these two of the mutex now, and nothing more
  abbrev Same : Type 0
  Same = (t.place.table_id ≡ s.place.table_id) × (t.place.id ≡ s.place.id) × (t.number ≡ s.number)

  same_with : Same → (v : PoolView) (w : View ⊤) (k : Note) → length v.parts ≡ length s.place.me.0.parts → t.place.me.0.parts ≡ (with_part v m w k).parts → SameSeat s t
  same_with same v w k long is = record {
    table = same.0;
    id = same.1;
    number = same.2;
    parts = ap (λ l. length l) is ∙ length-set v.parts m _ ∙ long;
  }

  module _ (may : MayStepIn s p m) (same : Same) where
    -- the step of the seat, at the table of the mutex
    steps : (me : Me ℕ PoolView) (me' : Me ℕ PoolView) (n : ℕ) (w : View ⊤) (slots : List (ℕ × Slot)) → part me.0 m ≡ part s.place.me.0 m → Tells n (w, slots) → me' ≡ (with_part me.0 m w (note_after (state_of s m) w (note me.0 m)), me.1)
        → DepthAt w.state.depth w.state.point → StepsIn s.number s.place.id m p.limits (state_of s m) me n me'
    steps me me' n w slots view did is deep = (
      w,
      is,
      sits_after s.number s.place.id p.limits (state_of s m) (part s.place.me.0 m) may.sits n w slots did deep,
      subst (λ (v : View ⊤). Stepped s.number (state_of s m) v n w) (sym view) (stepped s.number s.place.id p.limits (state_of s m) (part s.place.me.0 m) may.sits n w slots did deep),
    )

    module _ (n : ℕ) (did : TellsOfLoad m (state_of s m) (λ k z. Tells k z) s.place.me n t.place.me) where
      pub loaded_same : SameSeat s t
      loaded_same = same_with same s.place.me.0 did.0 (note_after (state_of s m) did.0 (note_of s m)) refl (ap (λ (z : Me ℕ PoolView). z.0.parts) did.4)

      pub loaded_word : LoadsWordIn s t p m n
      loaded_word = (
        did.2,
        steps s.place.me (forgetting t.place.me) did.2 did.0 did.1 refl did.3
            (ap forgetting did.4 ∙ (λ i. (record (with_part s.place.me.0 m did.0 (note_after (state_of s m) did.0 (note_of s m))) { found = sym did.5.unfound i }, s.place.me.1))) did.6,
        did.5,
        ap (λ (z : Me ℕ PoolView). z.0.found) did.4,
      )

      pub loaded_may : MayStepIn t p m
      unfolding loaded_word
      loaded_may = may_remember t p m (may_after s (forgotten t) p m (state_of s m) did.2 may (same_forgotten s t loaded_same) loaded_word.1)

    module _ (post n : ℕ) (did : TellsOfTry m s.number (state_of s m) post (λ k z. Tells k z) s.place.me n t.place.me) where
      pub tried_same : SameSeat s t
      tried_same = same_with same s.place.me.0 did.0 (note_after (state_of s m) did.0 (note_of s m)) refl (ap (λ (z : Me ℕ PoolView). z.0.parts) did.4)

      pub tried_word : TriesPostIn s t p m post n
      tried_word = (
        did.2,
        steps (forgetting s.place.me) t.place.me did.2 did.0 did.1 refl did.3 did.4 did.6,
        did.5,
        ap (λ (z : Me ℕ PoolView). z.0.found) did.4,
      )

      pub tried_may : MayStepIn t p m
      unfolding tried_word
      tried_may = may_after (forgotten s) t p m (state_of s m) did.2 (may_forgotten s p m may) (forgotten_same s t tried_same) tried_word.1

    module _ (did : TellsOfPost m s.number (state_of s m) (λ k z. Tells k z) s.place.me t.place.me) (at : makes_post (state_of s m).point ≡ true) where
      pub stored_same : SameSeat s t
      stored_same = same_with same s.place.me.0 did.0 (note_after (state_of s m) did.0 (note_of s m)) refl (ap (λ (z : Me ℕ PoolView). z.0.parts) did.3)

      stored_is : stored_handoff (state_of s m) s.number ≡ record { seat = s.number; post = (state_of s m).posts + 1 }
      stored_is = ap (stored_handoff_at (state_of s m) s.number) (makes_is (state_of s m).point at)

      pub stored_word : MakesPostIn s t p m
      stored_word = (
        subst (λ (b : Handoff). MovesIn (recounted s (s.posts + 1)) t p m (handoff_word b)) stored_is
            (steps (record s.place.me.0 { posts = s.posts + 1 }, s.place.me.1) t.place.me (handoff_word (stored_handoff (state_of s m) s.number)) did.0 did.1 refl did.2
            (did.3 ∙ (λ i. (record (with_part s.place.me.0 m did.0 (note_after (state_of s m) did.0 (note_of s m))) { posts = s.counted i + 1 }, s.place.me.1))) did.5),
        did.4,
      )

      pub stored_may : MayStepIn t p m
      unfolding stored_word
      stored_may =
          may_after (recounted s (s.posts + 1)) t p m (state_of s m) (handoff_word (record { seat = s.number; post = (state_of s m).posts + 1 })) (may_recounted s p m (s.posts + 1) may) (recounted_same s t stored_same (s.posts + 1)) stored_word.0
