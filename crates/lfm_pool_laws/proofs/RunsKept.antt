-- A run of a mutex of a pool is one of it in another state of the pool, in which the words of the mutex and what the seats
-- know of it are the same.
use Rattle.std.proofs.Common.{◌≡◌, ℕ, ◌+◌, ◌*◌, ◌<◌, List, length, sym, ap, ◌∙◌, subst, arith}
use Rattle.std.specs.Prelude.{⊤, false, slice_index}
use mathlib.Core.Option.{some}
use lib.ListN.{get_elem?}
use Rattle.atomic_table.specs.Table.{State}
use Rattle.lfm_words.specs.Words.{handoff_of, is_posted_word}
use Rattle.lfm_protocol.specs.declared.limits.Limits.{Limits}
use Rattle.lfm_table.specs.declared.seat_view.Action.{Action}
use Rattle.lfm_table.specs.declared.seat_view.View.{View}
use Rattle.lfm_pool.specs.declared.view.PoolView.{PoolView}
use Rattle.lfm_pool.specs.Layout.{own_at, wake_at}
use Rattle.lfm_pool.specs.Posts.{HeldPosts}
use Rattle.lfm_pool.specs.Tables.{part, rests}
use Rattle.lfm_pool_laws.specs.Mutexes.{HasRunOf, HasTable}

-- two states of a pool have as many mutexes and seats, if they have as many words, and a seat knows as many mutexes in both
module _ (s t : State ℕ PoolView) (h : HeldPosts s) (g : HeldPosts t) (id : ℕ) (v u : PoolView) (at : get_elem? s.views id ≡ some v) (there : get_elem? t.views id ≡ some u) (wide : length u.parts ≡ length v.parts)
    (long : length t.words ≡ length s.words) where
  pub same_mutexes : g.held.mutexes ≡ h.held.mutexes
  same_mutexes = let after = g.held.wide id u there in let before = h.held.wide id v at in omega (arith, after, before, wide)

  pub same_seats : g.held.seats ≡ h.held.seats
  same_seats = omega (arith, g.held.long, g.long, h.held.long, h.long, long, same_mutexes)

-- What two states have to agree on
-- - counted: how many seats are split off
-- - knew: a seat knew the same of the mutex
-- - words: the four words of the mutex
-- - wakes: the wake words of seats that do not rest in the mutex
pub record AgreeOn (s t : State ℕ PoolView) (mutexes m : ℕ) : Type 0 where
  pub counted : length t.views ≡ length s.views
  pub knew : (j : ℕ) (z : PoolView) → get_elem? t.views j ≡ some z → (y : PoolView) × (get_elem? s.views j ≡ some y) × (part z m ≡ part y m)
  pub words : (n : ℕ) → n < 4 → slice_index t.words (own_at m n) ≡ slice_index s.words (own_at m n)
  pub wakes : (j : ℕ) (y : PoolView) → get_elem? s.views j ≡ some y → rests (part y m) ≡ false → slice_index t.words (wake_at mutexes j) ≡ slice_index s.words (wake_at mutexes j)

module _ (s t : State ℕ PoolView) (m : ℕ) (l : Limits) (actions : List Action) (r : HasRunOf s m l actions) (g : HeldPosts t) (mutexes : g.held.mutexes ≡ r.rule.held.mutexes) (seats : g.held.seats ≡ r.rule.held.seats)
    (agree : AgreeOn s t r.rule.held.mutexes m) where
  has_table : HasTable t g.held.mutexes g.held.seats m r.table
  has_table = record {
    counted = r.has.counted ∙ sym agree.counted;
    sized = r.has.sized ∙ ap (λ (n : ℕ). 4 + 2 * n) (sym seats);
    views = λ j z e. let y = agree.knew j z e in r.has.views j y.0 y.1 ∙ ap (λ (q : View ⊤). some q) (sym y.2);
    count = agree.words 0 (omega arith) ∙ r.has.count;
    owner = agree.words 1 (omega arith) ∙ r.has.owner;
    push = agree.words 3 (omega arith) ∙ r.has.push;
    posted = ap is_posted_word (agree.words 2 (omega arith)) ∙ r.has.posted;
    poster = ap (λ (n : ℕ). (handoff_of n).seat) (agree.words 2 (omega arith)) ∙ r.has.poster;
    wakes = λ j z e busy.
        let y = agree.knew j z e in
        let was = ap rests (sym y.2) ∙ busy in
        ap (λ (n : ℕ). slice_index t.words (wake_at n j)) mutexes ∙ agree.wakes j y.0 y.1 was ∙ r.has.wakes j y.0 y.1 was
        ∙ ap (λ (n : ℕ). slice_index r.table.words (4 + n + j)) (sym seats);
  }

  pub run_kept : HasRunOf t m l actions
  run_kept = record { rule = g; inside = subst (λ (n : ℕ). m < n) (sym mutexes) r.inside; table = r.table; has = has_table; holds = r.holds }
