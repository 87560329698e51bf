-- A pool of free mutexes keeps the rule: each table of a mutex is as it is when it opens.
use Rattle.std.proofs.Common.{◌≡◌, ℕ, zero, suc, ◌+◌, ◌*◌, ◌<◌, ◌≤◌, List, [], ◌∷◌, length, replicate, get_or, refl, sym, ap, ◌∙◌, subst, arith, Option, Some, None}
use Rattle.std.specs.Prelude.{⊤, true, slice_index, if◌then◌else◌}
use Rattle.std.proofs.lemmas.Bool.{false≢true}
use Rattle.std.proofs.lemmas.List.{length-replicate}
use mathlib.Core.Option.{some, some-injective, some-ne-none}
use lib.ListN.{get_elem?}
use Rattle.atomic_table.specs.Table.{opening}
use Rattle.lfm_protocol.specs.declared.limits.Limits.{Limits}
use Rattle.lfm_protocol.specs.Limits.{max_seats}
use Rattle.lfm_table.specs.declared.rule.Moving.{Moving}
use Rattle.lfm_table.specs.declared.seat_view.View.{View}
use Rattle.lfm_table.specs.Rule.{first_view, no_view}
use Rattle.lfm_protocol.specs.Core.{Core}
use Rattle.lfm_laws.specs.laws.Schedules.{reached}
use Rattle.lfm_laws.specs.table.Carried.{carries_value}
use Rattle.lfm_table.specs.Actions.{events_of}
use Rattle.lfm_table.proofs.tables.Starts.{starts_within, starts_within_at}
use Rattle.lfm_pool.proofs.NewSeats.{part_same_of_each}
use Rattle.lfm_pool.specs.declared.view.PoolView.{PoolView}
use Rattle.lfm_pool.specs.declared.view.Known.{Known}
use Rattle.lfm_pool.specs.Admissions.{HasSeen, admitted_in, is_admitted, stamp_in}
use Rattle.lfm_pool.specs.Tables.{any_follows, any_fits, HasFewSeats, MutexTable, IsKept, known, part, rests, has_link, unnoted}
use Rattle.lfm_words.specs.declared.handoffs.Handoff.{Handoff}
use Rattle.lfm_pool.specs.Posts.{HeldPosts, has_posted, loaded_post, named}
use Rattle.lfm_pool.specs.Rule.{own_at, wake_at, HeldPool, first_pool_view}

zero_at : (n i : ℕ) → ◌≡◌ {A = ℕ} (get_or (replicate n 0) i 0) 0
zero_at zero i = refl
zero_at (suc n) zero = refl
zero_at (suc n) (suc i) = zero_at n i

one_at : (v z : PoolView) (j : ℕ) → get_elem? (v ∷ []) j ≡ some z → (j ≡ 0) × (v ≡ z)
one_at v z zero e = (refl, some-injective v z e)
one_at v z (suc j) e = absurd (some-ne-none z (sym e))

known_of_each : (n m : ℕ) (x d : Known) → m < n → get_or (replicate n x) m d ≡ x
known_of_each zero m x d less = absurd (omega (arith, less))
known_of_each (suc n) zero x d less = refl
known_of_each (suc n) (suc m) x d less = known_of_each n m x d (omega (arith, less))

module _ (mutexes : ℕ) (l : Limits) (seats : (0 < l.seats) × (l.seats ≤ max_seats)) where
  abbrev moving : Moving ⊤
  moving = record { popped = record { records = []; room = l.seats }; value = tt }

  abbrev table : MutexTable
  table = opening (replicate (4 + 2 * l.seats) 0) (Some moving ∷ []) (first_view l tt)

  table_opens : IsKept table
  table_opens = starts_within any_follows any_fits HasFewSeats l (replicate (4 + 2 * l.seats) 0) moving seats.1 seats.0 seats.1 refl refl refl tt

  -- no record is popped
  none_popped : table_opens.core.popped ≡ []
  unfolding table_opens
  none_popped =
      let at = starts_within_at any_follows any_fits HasFewSeats l (replicate (4 + 2 * l.seats) 0) moving seats.1 seats.0 seats.1 refl refl refl tt in
      ap (λ (c : Core). c.popped) (table_opens.run.here ∙ (λ i. reached (at.0 i) (events_of (at.1 i))))

  part_is : (m : ℕ) → m < mutexes → part (first_pool_view mutexes l) m ≡ first_view l tt
  part_is m less = part_same_of_each mutexes m (first_view l tt) less

  part_at : (j m : ℕ) (z : PoolView) → m < mutexes → get_elem? (first_pool_view mutexes l ∷ []) j ≡ some z → part z m ≡ first_view l tt
  part_at j m z less e = ap (λ (y : PoolView). part y m) (sym (one_at (first_pool_view mutexes l) z j e).1) ∙ part_is m less

  pub pool_opens : (ws : List ℕ) → ◌≡◌ {A = List ℕ} ws (replicate (mutexes * 8 + l.seats * 2) 0) → HeldPool (opening ws [] (first_pool_view mutexes l))
  pool_opens ws are =
      let zero_word : (i : ℕ) → slice_index ws i ≡ 0 = λ i. ap (λ w. get_or w i 0) are ∙ zero_at (mutexes * 8 + l.seats * 2) i in
      record {
        mutexes = mutexes;
        seats = l.seats;
        tables = λ m. table;
        kept = λ m less. table_opens;
        sized = λ m less. length-replicate (4 + 2 * l.seats) 0;
        long = ap (λ w. length w) are ∙ length-replicate (mutexes * 8 + l.seats * 2) 0;
        wide = λ j z e. ap (λ (y : PoolView). length y.parts) (sym (one_at (first_pool_view mutexes l) z j e).1) ∙ length-replicate mutexes (unnoted (first_view l tt));
        counted = λ m less. refl;
        parts = λ m j z less e. rw ((one_at (first_pool_view mutexes l) z j e).0, part_at j m z less e) refl;
        own = λ m i less few. zero_word (own_at m i) ∙ sym (zero_at (4 + 2 * l.seats) i);
        elsewhere = λ m n j z less less' differ e busy. absurd (false≢true (sym busy ∙ ap rests (part_at j m z less e)));
        popped = λ m. [];
        listed = λ m less. none_popped;
        linked = λ m j z less e has. absurd (false≢true (sym (ap has_link (part_at j m z less e)) ∙ has.linked));
        dues = λ m. 0;
        chain = λ m less. tt;
        noted = λ m j z less e carries. absurd (false≢true (sym (ap (λ (y : View ⊤). carries_value y.state) (part_at j m z less e)) ∙ carries));
        idle = λ m less none. (refl, zero_word (own_at m 4));
        wakes = λ m j z less e busy. absurd (false≢true (sym busy ∙ ap rests (part_at j m z less e)));
        quiet = λ j z e all. zero_word (wake_at mutexes j);
        fresh = λ j far less. zero_word (wake_at mutexes j);
      }

  pub posts_open : (ws : List ℕ) → ◌≡◌ {A = List ℕ} ws (replicate (mutexes * 8 + l.seats * 2) 0) → HeldPosts (opening ws [] (first_pool_view mutexes l))
  unfolding pool_opens
  posts_open ws are =
      let zero_word : (i : ℕ) → slice_index ws i ≡ 0 = λ i. ap (λ w. get_or w i 0) are ∙ zero_at (mutexes * 8 + l.seats * 2) i in
      record {
        own = ws;
        held = pool_opens ws are;
        names = λ m t a. a;
        long = refl;
        same = λ i off. refl;
        handed = λ m less. zero_word (own_at m 2) ∙ ap (named (λ t a. a)) (sym (zero_word (own_at m 2)));
        rising = λ m t a b less. less;
        first = λ m t. refl;
        counted = λ m j z less e. let none = ap (λ (y : View ⊤). y.state.posts) (part_at j m z less e) in omega (arith, none);
        loaded = λ m j z seen less e has.
            let none : ◌≡◌ {A = Option Handoff} None (Some seen) = ap (λ (y : View ⊤). loaded_post y.state.point) (sym (part_at j m z less e)) ∙ has in absurd (cc);
        posted = λ m j z less e has. absurd (false≢true (ap (λ (y : View ⊤). has_posted y.state.point) (sym (part_at j m z less e)) ∙ has));
        unfound = λ j z e none. ap (λ (y : PoolView). y.found) (sym (one_at (first_pool_view mutexes l) z j e).1);
        stamps = λ m less.
            let word = ap stamp_in (zero_word (own_at m 3)) in
            let unit : admitted_in m (first_pool_view mutexes l) ≡ 0 = ap (λ (k : Known). if is_admitted k then 1 else 0) (known_of_each mutexes m (unnoted (first_view l tt)) (unnoted no_view) less) in
            omega (arith, word, unit);
        seen = λ m j z less e.
            let none : stamp_in (known (first_pool_view mutexes l) m).admission.found ≡ 0 = ap (λ (k : Known). stamp_in k.admission.found) (known_of_each mutexes m (unnoted (first_view l tt)) (unnoted no_view) less) in
            subst (λ (y : PoolView). HasSeen m ws y) (one_at (first_pool_view mutexes l) z j e).1 (omega (arith, none));
        few = λ j z e. let none = ap (λ (y : PoolView). y.posts) (sym (one_at (first_pool_view mutexes l) z j e).1) in omega (arith, none);
      }
