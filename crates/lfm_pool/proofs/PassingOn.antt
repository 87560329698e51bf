-- The whole of an unlock that posts: its start, which finds no seat in the queue, and its end.
use Rattle.std.proofs.Common.{◌≡◌, ℕ, ◌+◌, ◌≤◌, List, [], ◌∷◌, ◌++◌, length, sym, ap, ◌∙◌, subst, inr, arith, append_assoc, length-append}
use Rattle.std.specs.Prelude.{⊤}
use Rattle.atomic_table.specs.Table.{Me}
use Rattle.lfm_words.specs.declared.pop_lists.Record.{Record}
use Rattle.lfm_words.specs.declared.wakes.Wake.TheVariants.{Grant}
use Rattle.lfm_words.specs.Words.{wake_word}
use Rattle.lfm_protocol.specs.declared.points.Carrier.{Carrier}
use Rattle.lfm_protocol.specs.declared.points.Point.TheVariants.{Rest, ReleaseHandoffStore, TakeClearHead, GrantWakeStore}
use Rattle.lfm_protocol.specs.declared.points.Releaser.TheVariants.{Unlocker}
use Rattle.lfm_protocol.specs.declared.seats.SeatState.{SeatState}
use Rattle.lfm_table.specs.declared.seat_view.Seen.{Seen}
use Rattle.lfm_table.specs.declared.seat_view.View.{View}
use Rattle.lfm_table.specs.Actions.{RunGoesOn, seen}
use Rattle.lfm_table.proofs.tables.Actions.{run_next}
use Rattle.lfm_pool.specs.declared.pool.Pool.{Pool}
use Rattle.lfm_pool.specs.declared.pool.TableSeat.{TableSeat}
use Rattle.lfm_pool.specs.declared.unlock.Released.{Released}
use Rattle.lfm_pool.specs.declared.unlock.Unlocking.{Unlocking}
use Rattle.lfm_pool.specs.declared.view.PoolView.{PoolView}
use Rattle.lfm_pool.specs.Belongs.{SameSeat}
use Rattle.lfm_pool.specs.Chain.{rested}
use Rattle.lfm_pool.specs.Handoff.{recounted}
use Rattle.lfm_pool.specs.Moves.{MakesAtMostIn, MayStepIn}
use Rattle.lfm_pool.specs.Releasing.{collecting}
use Rattle.lfm_pool.specs.Seats.{note_of, popped_of, state_of}
use Rattle.lfm_pool.specs.Steps.{Sits}
use Rattle.lfm_pool.specs.Tables.{part, with_part}
use Rattle.lfm_pool.specs.Unlock.{PassesOnIn, PostSteps, PostsIn, ReleasesIn, UnlocksIn, release}
use Rattle.lfm_pool.proofs.FastPaths.{note_now, part_now, twice_with}
use Rattle.lfm_pool.proofs.Forgotten.{may_recounted}
use Rattle.lfm_pool.proofs.SeveralSteps.{inside}
use Rattle.lfm_pool.proofs.UnlockSteps.{bounded_by, collecting_length}

module _ (s t : TableSeat) (p : Pool) (m : ℕ) (may : MayStepIn s p m) (begun : UnlocksIn Unlocking.Posts s t p m) where
  part_t : part t.place.me.0 m ≡ begun.0
  part_t = part_now s.number s.place.id m p.limits s.place.me t.place.me t.place.me (inside s t p m may) begun.0 begun.1 begun.2

  state_t : state_of t m ≡ record (state_of s m) { depth = 0; point = ReleaseHandoffStore Unlocker }
  state_t = ap (λ (y : View ⊤). y.state) part_t ∙ begun.3.0.state

  pub posts_next : (state_of t m).point ≡ ReleaseHandoffStore Unlocker
  posts_next = ap (λ (x : SeatState). x.point) state_t

  pub whole_to_post : note_of t m ≡ rested (popped_of t m)
  whole_to_post =
      note_now s.number s.place.id m p.limits s.place.me t.place.me t.place.me (inside s t p m may) begun.0 begun.1 begun.2 ∙ begun.3.2 ∙ ap (λ (y : View ⊤). rested y.popped) (sym part_t)

  -- it has counted no post yet
  pub same_posts : t.posts ≡ s.posts
  same_posts = sym t.counted ∙ ap (λ (z : Me ℕ PoolView). z.0.posts) begun.2 ∙ s.counted

  module _ (u : TableSeat) (same : SameSeat s t) (result : Released) (posted : PostsIn result t u p m) where
    pub passes_on : PassesOnIn result s u p m
    passes_on =
        let f = begun.3.0 in
        let g = posted.3.0 in
        let posts_are : (state_of t m).posts ≡ (state_of s m).posts = ap (λ (x : SeatState). x.posts) state_t in (
          posted.0,
          posted.1,
          posted.2
              ∙ ap (λ (z : ℕ × Me ℕ PoolView). (with_part (record z.1.0 { posts = z.0 + 1 }) m posted.0 posted.1, z.1.1)) (λ i. (same_posts i, begun.2 i))
              ∙ (λ i. (twice_with (record s.place.me.0 { posts = s.posts + 1 }) m begun.0 posted.0 begun.1 posted.1 i, s.place.me.1)),
          (
            record {
              count = f.count;
              others = f.others;
              found = f.found;
              none = f.none;
              later = g.0;
              steps = subst (λ (z : ℕ × ℕ). PostSteps result z.0 (z.1 + 1) posted.0.popped g.0) (λ i. (same.number i, posts_are i)) g.1;
              trail = g.2.trail ∙ (λ i. (ap (λ (y : View ⊤). y.trail) part_t ∙ f.trail) i ++ g.0)
                  ∙ append_assoc (part s.place.me.0 m).trail (release f.count ++ seen (TakeClearHead (Carrier.Releaser Unlocker)) f.found ∷ []) g.0;
              state = g.2.state ∙ ap (λ (x : SeatState). record x { posts = x.posts + 1; point = Rest }) state_t;
              run = run_next f.run (subst (λ (y : View ⊤). RunGoesOn y posted.0) part_t g.2.run);
            },
            subst (λ (z : ℕ × ℕ). Sits z.0 z.1 p.limits posted.0.state posted.0) (λ i. (same.number i, same.id i)) posted.3.1,
          ),
        )

-- the answer of an unlock that has posted
pub has_released : (result : Released) (s u : TableSeat) (p : Pool) (m : ℕ) → PassesOnIn result s u p m → ReleasesIn result s u p m
has_released Released.Free s u p m did = absurd did.3.0.steps
has_released (Released.Granted r) s u p m did = inr did
has_released Released.Posted s u p m did = did
has_released Released.TakenOver s u p m did = did

-- The number of steps

post_length : (result : Released) (number post : ℕ) (popped : List Record) (new : List Seen) → PostSteps result number post popped new → length new ≤ 6 + length popped
post_length Released.Free number post popped new h = absurd h
post_length Released.Posted number post popped new h = let e = ap length h.2 in omega (arith, e)
post_length Released.TakenOver number post popped new h = let e = ap length h.4 in omega (arith, e)
post_length (Released.Granted r) number post popped new h =
    let e = ap length h.5 in
    let less = collecting_length (Carrier.Reclaimer Unlocker) h.2 h.1 (r ∷ popped) in
    let long = length-append (collecting (Carrier.Reclaimer Unlocker) h.2 h.1 (r ∷ popped)) (seen (GrantWakeStore (Carrier.Reclaimer Unlocker) r) (wake_word (Grant r.stamp)) ∷ []) in
    omega (arith, e, less, long)

pub passes_bounded : (result : Released) (s u : TableSeat) (p : Pool) (m : ℕ) → MayStepIn s p m → PassesOnIn result s u p m → MakesAtMostIn (9 + length (popped_of u m)) s u m
passes_bounded result s u p m may did =
    let d = did.3.0 in
    let less = post_length result s.number ((state_of s m).posts + 1) did.0.popped d.later d.steps in
    bounded_by (recounted s (s.posts + 1)) u p m (may_recounted s p m (s.posts + 1) may) 9 did.0 did.1 (release d.count ++ (seen (TakeClearHead (Carrier.Releaser Unlocker)) d.found ∷ d.later)) did.2 d.trail (omega (arith, less))
