-- The table of a mutex of a pool, and the state of the core that it is.
use Rattle.std.proofs.Common.{◌≡◌, ◌≢◌, ℕ, ◌+◌, ◌<◌, ◌≤◌, List, length, nat_eq, sym, ap, ◌∙◌, subst, arith}
use Rattle.std.specs.Prelude.{not, slice_index}
use mathlib.Core.Option.{some}
use lib.ListN.{get_elem?}
use Rattle.atomic_table.specs.Table.{State}
use Rattle.lfm_words.specs.declared.handoffs.Handoff.{Handoff}
use Rattle.lfm_words.specs.Words.{handoff_of, is_posted_word, wake_word}
use Rattle.lfm_protocol.specs.declared.kinds.Word.{Word}
use Rattle.lfm_protocol.specs.declared.limits.Limits.{Limits}
use Rattle.lfm_protocol.specs.declared.seats.SeatState.{SeatState}
use Rattle.lfm_protocol.specs.Core.{Core}
use Rattle.lfm_protocol.specs.Limits.{max_seats}
use Rattle.lfm_protocol.specs.Seats.{wake}
use Rattle.lfm_laws.specs.steady.Ghost.{Responsibility, posted}
use Rattle.lfm_laws.specs.steady.Steady.{HandoffFits, Steady}
use Rattle.lfm_laws.specs.table.Words.{words}
use Rattle.lfm_laws.proofs.lawful.runs.LimitsKept.{limits_stay}
use Rattle.lfm_laws.proofs.table.Reads.{read_word}
use Rattle.lfm_table.specs.declared.seat_view.Action.{Action}
use Rattle.lfm_table.specs.Actions.{events_of}
use Rattle.lfm_table.proofs.tables.RuleKept.{length_at}
use Rattle.lfm_mutex.specs.TableRuns.{state_after}
use Rattle.lfm_pool.specs.declared.view.PoolView.{PoolView}
use Rattle.lfm_pool.specs.Layout.{own_at, wake_at}
use Rattle.lfm_pool.specs.Posts.{HeldPosts, named}
use Rattle.lfm_pool.specs.Tables.{IsKept, part}
use Rattle.lfm_pool.proofs.LoneTables.{seats_of}
use Rattle.lfm_pool.proofs.PostNumbers.{named_seat, seat_of}
use Rattle.lfm_pool_laws.specs.Mutexes.{HasRunOf, HasTable, MutexIs}

-- the state of a pool in which each handoff word is that of the table of its mutex
abbrev pub inner : (s : State ℕ PoolView) → HeldPosts s → State ℕ PoolView
inner s h = record { words = h.own; homes = s.homes; views = s.views }

-- a wake word is no handoff word
pub not_handoff : (mutexes j n : ℕ) → n < mutexes → wake_at mutexes j ≢ own_at n 2
not_handoff mutexes j n less e = omega (arith, less, e)

-- a handoff is posted in a handoff word exactly if one is posted in the word of the table
same_posted : (f : ℕ → ℕ → ℕ) (n : ℕ) → is_posted_word (named f n) ≡ is_posted_word n
same_posted f n = ap (λ (t : ℕ). not (nat_eq t 0)) (named_seat f n)

-- each mutex has the table that the rule names
pub has_table : (s : State ℕ PoolView) (h : HeldPosts s) (m : ℕ) → m < h.held.mutexes → HasTable s h.held.mutexes h.held.seats m (h.held.tables m)
has_table s h m less = record {
  counted = h.held.counted m less;
  sized = h.held.sized m less;
  views = λ j v at. h.held.parts m j v less at;
  count = h.same (own_at m 0) (λ n within e. omega (arith, e)) ∙ h.held.own m 0 less (omega arith);
  owner = h.same (own_at m 1) (λ n within e. omega (arith, e)) ∙ h.held.own m 1 less (omega arith);
  push = h.same (own_at m 3) (λ n within e. omega (arith, e)) ∙ h.held.own m 3 less (omega arith);
  posted = ap is_posted_word (h.handed m less) ∙ same_posted (h.names m) (slice_index h.own (own_at m 2)) ∙ ap is_posted_word (h.held.own m 2 less (omega arith));
  poster = ap (λ (n : ℕ). (handoff_of n).seat) (h.handed m less) ∙ named_seat (h.names m) (slice_index h.own (own_at m 2)) ∙ ap (λ (n : ℕ). (handoff_of n).seat) (h.held.own m 2 less (omega arith));
  wakes = λ j v at busy. h.same (wake_at h.held.mutexes j) (not_handoff h.held.mutexes j) ∙ h.held.wakes m j v less at busy;
}

-- the seat of a post fits its word
small_poster : (seats : List SeatState) (place : Responsibility) (h : Handoff) → length seats ≤ max_seats → HandoffFits seats place h → h.seat < 65536
small_poster seats posted h few fits = let w = fits.within in omega (arith, few, w)
small_poster seats _ h few fits = let e = ap (λ (x : Handoff). x.seat) fits in omega (arith, e)

module _ (s : State ℕ PoolView) (m : ℕ) (l : Limits) (actions : List Action) (r : HasRunOf s m l actions) where
  abbrev pub kept : IsKept r.table
  kept = r.holds.0

  -- the core that the rule of the table names is the state to which the run leads
  pub led : (r.holds.0).core ≡ state_after l actions
  led = kept.run.here ∙ (λ i. state_after (r.holds.1 i) (r.holds.2 i))

  pub steady : Steady (state_after l actions)
  steady = subst Steady led (record { ghost_state = kept.ghost_state; fits = kept.fits })

  -- the limits allow no more seats than a mutex may have
  pub few : l.seats ≤ max_seats
  few = subst (λ (k : Limits). k.seats ≤ max_seats) r.holds.1 kept.run.allowed

  many : length kept.core.seats ≡ r.rule.held.seats
  many = let w = seats_of r.table kept in omega (arith, w, r.has.sized)

  -- the core has as many seats as the limits say, and so has the pool
  pub seats_are : length (state_after l actions).seats ≡ l.seats
  seats_are = ap (λ (k : Limits). k.seats) (limits_stay l (events_of actions))

  pub as_many : l.seats ≡ r.rule.held.seats
  as_many = sym seats_are ∙ ap (λ (c : Core). length c.seats) (sym led) ∙ many

  -- the wake word of the seat at this place
  wake_there : (j : ℕ) (v : PoolView) → get_elem? s.views j ≡ some v → slice_index r.table.words (4 + r.rule.held.seats + j) ≡ wake_word (wake kept.core.wakes (j + 1))
  wake_there j v at =
      let below : j < length kept.core.seats = let b = length_at r.table.views j (part v m) (r.has.views j v at) in omega (arith, b, kept.few) in
      let read = read_word kept.core (Word.Wake (j + 1)) kept.fits.sizes (record { above = omega arith; within = omega (arith, below) }) in
      let index : 4 + r.rule.held.seats + j ≡ 3 + length kept.core.seats + (j + 1) = omega (arith, many) in
      ap (λ (ws : List ℕ). slice_index ws (4 + r.rule.held.seats + j)) kept.words_are ∙ ap (λ (i : ℕ). slice_index (words kept.core) i) index ∙ read

  is_core : MutexIs s r.rule.held.mutexes m kept.core
  is_core = record {
    count = r.has.count ∙ ap (λ (ws : List ℕ). slice_index ws 0) kept.words_are;
    owner = r.has.owner ∙ ap (λ (ws : List ℕ). slice_index ws 1) kept.words_are;
    push = r.has.push ∙ ap (λ (ws : List ℕ). slice_index ws 3) kept.words_are;
    posted = r.has.posted ∙ ap (λ (ws : List ℕ). is_posted_word (slice_index ws 2)) kept.words_are;
    poster = r.has.poster ∙ ap (λ (ws : List ℕ). (handoff_of (slice_index ws 2)).seat) kept.words_are
        ∙ seat_of kept.core.handoff (small_poster kept.core.seats kept.ghost_state.place kept.core.handoff kept.fits.sizes.seats kept.fits.words.handoff);
    seats_are = λ j v at. (kept.each j (part v m) (r.has.views j v at)).state;
    limits_are = λ j v at. (kept.each j (part v m) (r.has.views j v at)).limits_are;
    wakes = λ j v at busy. r.has.wakes j v at busy ∙ wake_there j v at;
  }

  -- the mutex is that state
  pub mutex_is : MutexIs s r.rule.held.mutexes m (state_after l actions)
  mutex_is = subst (λ (c : Core). MutexIs s r.rule.held.mutexes m c) led is_core
