-- A load of the owner word keeps the rule of the pool, and tells the seat whether it holds the mutex.
use Rattle.std.proofs.Common.{◌≡◌, ℕ, ◌<◌, List, set, sym, refl, ap, ◌∙◌, subst, arith}
use Rattle.std.specs.Prelude.{⊤, slice_index}
use Rattle.std.proofs.lemmas.List.{get_or-set_other, set-get_or}
use mathlib.Core.Option.{some}
use lib.ListN.{get_elem?}
use Rattle.atomic_table.specs.Table.{Me, State, keeps, Allows}
use Rattle.atomic_table.proofs.Lists.{set_again}
use Rattle.lfm_protocol.specs.declared.seats.SeatState.{SeatState}
use Rattle.lfm_protocol.specs.Seats.{seat, IsSeat}
use Rattle.lfm_table.specs.declared.seat_view.View.{View}
use Rattle.lfm_table.proofs.tables.CoreFacts.{owner_told}
use Rattle.lfm_table.proofs.tables.RuleKept.{length_at}
use Rattle.lfm_pool.specs.declared.pool.Pool.{Pool}
use Rattle.lfm_pool.specs.declared.pool.TableSeat.{TableSeat}
use Rattle.lfm_pool.specs.declared.view.PoolView.{PoolView}
use Rattle.lfm_pool.specs.Admissions.{stamp_in}
use Rattle.lfm_pool.specs.Belongs.{IsMutex, OfPool}
use Rattle.lfm_pool.specs.Depths.{TellsOwner}
use Rattle.lfm_pool.specs.Posts.{HeldPosts, KeepsPosts}
use Rattle.lfm_pool.specs.Rule.{own_at, HeldPool}
use Rattle.lfm_pool.specs.Tables.{part}
use Rattle.lfm_pool.proofs.PostStates.{keeps_same}
use Rattle.lfm_pool.proofs.PostsKept.{LeavesStamps, allows_posts}
use Rattle.lfm_pool.proofs.Stamps.{stamps_kept}

module _ (p : Pool) (t : TableSeat) (m : ℕ) (belongs : OfPool t p) (mutex : IsMutex m p) where
  abbrev v : View ⊤
  v = part t.place.me.0 m

  module _ (s : State ℕ PoolView) (h : HeldPool s) (at : get_elem? s.views t.place.id ≡ some t.place.me.0) where
    inner : m < h.mutexes
    inner = let wide = h.wide t.place.id t.place.me.0 at in let n = belongs.parts in omega (arith, wide, n, mutex)

    tells : (found : ℕ) → found ≡ slice_index s.words (own_at m 1) → TellsOwner (part t.place.me.0 m) found
    tells found is =
        let lone = h.kept m inner in
        let mine = h.parts m t.place.id t.place.me.0 inner at in
        let sits = lone.each t.place.id (part t.place.me.0 m) mine in
        let low = length_at (h.tables m).views t.place.id (part t.place.me.0 m) mine in
        let few = lone.few in
        let named = sits.number in
        let is_seat : IsSeat lone.core.seats (part t.place.me.0 m).number = record { above = omega (arith, named); within = omega (arith, named, few, low) } in
        let told = owner_told lone.core lone.ghost_state (part t.place.me.0 m).number is_seat lone.fits in
        let owner : found ≡ lone.core.owner = is ∙ h.own m 1 inner (omega arith) ∙ ap (λ (ws : List ℕ). slice_index ws 1) lone.words_are in
        let stands : seat lone.core.seats (part t.place.me.0 m).number ≡ (part t.place.me.0 m).state = ap (λ (n : ℕ). seat lone.core.seats n) sits.number ∙ sits.state in (
          λ e. subst (λ (x : SeatState). 0 < x.depth) stands (told.0 (sym owner ∙ e)),
          λ deep. owner ∙ told.1 (subst (λ (x : SeatState). 0 < x.depth) (sym stands) deep),
        )

  keeps_pool : (slots index picked : ℕ) → picked ≡ m → index ≡ own_at m 1
      → Allows HeldPool slots t.place.id t.place.me index (λ n. n) (λ n me'. (me' ≡ t.place.me) × TellsOwner (part t.place.me.0 picked) n)
  keeps_pool slots index picked same e =
      subst (λ (z : ℕ). Allows HeldPool slots t.place.id t.place.me index (λ n. n) (λ n me'. (me' ≡ t.place.me) × TellsOwner (part t.place.me.0 z) n)) (sym same) (λ s h none at small. (
        t.place.me.0,
        keeps,
        tt,
        subst HeldPool (λ i. record { words = sym (set-get_or s.words index 0) i; homes = s.homes; views = sym (set_again s.views t.place.id t.place.me.0 at) i }) h,
        (refl, tells s h at (slice_index s.words index) (ap (λ (i : ℕ). slice_index s.words i) e)),
      ))

  -- the owner word is no handoff word, and the seat's knowledge of posts stays
  pub reads_owner : (slots index picked : ℕ) → picked ≡ m → index ≡ own_at m 1
      → Allows HeldPosts slots t.place.id t.place.me index (λ n. n) (λ n me'. (me' ≡ t.place.me) × TellsOwner (part t.place.me.0 picked) n)
  reads_owner slots index picked same e =
      allows_posts slots t.place.id index t.place.me (λ n. n) (λ n me'. (me' ≡ t.place.me) × TellsOwner (part t.place.me.0 picked) n) (keeps_pool slots index picked same e)
      (λ s h at i less hit. omega (arith, e, hit))
      (λ n me' told. subst (λ (z : Me ℕ PoolView). KeepsPosts t.place.me.0 z.0) (sym told.0) (record { parts = refl; posts = refl; found = refl; each = λ i. keeps_same (part t.place.me.0 i).state }))
      (λ s h at me' told i less.
      let word = ap stamp_in (get_or-set_other s.words index (own_at i 3) (slice_index h.own index) 0 (λ hit. omega (arith, e, hit))) in
      let before = h.seen i t.place.id t.place.me.0 less at in
      subst (λ (z : Me ℕ PoolView). LeavesStamps i s.words (set s.words index (slice_index h.own index)) (set s.views t.place.id z.0) z.0) (sym told.0) (
        stamps_kept i s.words (set s.words index (slice_index h.own index)) s.views t.place.id t.place.me.0 t.place.me.0 at (h.stamps i less) (omega (arith, word)),
        omega (arith, word, before),
        omega (arith, word),
      ))
