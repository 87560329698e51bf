-- Each start of a call keeps a state steady with the same ghost, and so does a step that is refused.
use Rattle.std.proofs.Common.{◌≡◌, ◌≢◌, ℕ, true, false, ◌+◌, ◌-◌, ◌<◌, ◌≤◌, length, refl, sym, ◌∙◌, inl, inr, arith}
use Rattle.std.proofs.lemmas.Bool.{cases_eq, cases_lt, cases_Bool, ne_eqb, eq-eqb, lt-ltb, le-ltb}
use Rattle.lfm_protocol.specs.declared.answers.Call.{Call}
use Rattle.lfm_protocol.specs.declared.answers.Call.TheVariants.{Lock, TryLock, Unlock, StartWait, SendLock, Receive}
use Rattle.lfm_protocol.specs.declared.points.Point.{Point}
use Rattle.lfm_protocol.specs.declared.points.Point.TheVariants.{Rest, Asleep, LockCountAdd, TryCountExchange, SendWakeExchange, ReleaseOwnerStore, ReceiveWakeLoad}
use Rattle.lfm_protocol.specs.declared.points.Releaser.TheVariants.{Unlocker, Waiter}
use Rattle.lfm_protocol.specs.declared.points.Sleeper.{Sleeper}
use Rattle.lfm_words.specs.declared.wakes.Wake.{Wake}
use Rattle.lfm_words.specs.declared.wakes.Wake.TheVariants.{Quiet}
use Rattle.lfm_protocol.specs.Begin as Begin
use Rattle.lfm_protocol.specs.Core.{Core, put, limits}
use Rattle.lfm_laws.specs.steady.Ghost.{apart, Ghost}
use Rattle.lfm_laws.specs.steady.EventOutcome.{Kept}
use Rattle.lfm_protocol.specs.Limits.{max_depth}
use Rattle.lfm_protocol.specs.Seats.{seat, wake, is_seat, IsSeat}
use Rattle.lfm_laws.specs.steady.Steady.{StandsAt, DepthAt, KnowsAt, SeatFits, Fits}
use Rattle.lfm_protocol.specs.Step.{begin}
use Rattle.lfm_laws.specs.steady.Views.{is_some, grant_at, claim_at, by_depth, wake_at, asks_for_at, claims_for_at, due_posts_at, due_pushes_at, due_unless_held, due_by_depth}
use Rattle.lfm_laws.proofs.steady.frames.Frames.{view_moves}
use Rattle.lfm_laws.proofs.steady.frames.Histories.{history_stays}
use Rattle.lfm_laws.proofs.steady.grant.Wakings.{none_from, wake_to_load}
use Rattle.lfm_laws.proofs.steady.frames.Seated.{seat_of_test}

-- Refused and idle steps

pub at_Rest : (c : Core) (g : Ghost) (s : ℕ) → IsSeat c.seats s → (seat c.seats s).point ≡ Rest → Fits c g → Kept c g s
at_Rest c g s is at fits =
    rw at (record {
      to = g;
      fits = fits;
      goes = record { place = refl; asking = λ x. refl; waiting = refl };
      history = history_stays g g refl refl refl refl;
    })

pub at_Asleep : (c : Core) (g : Ghost) (s : ℕ) (sleeper : Sleeper) → IsSeat c.seats s → (seat c.seats s).point ≡ Asleep sleeper → Fits c g → Kept c g s
at_Asleep c g s sleeper is at fits =
    rw at (record {
      to = g;
      fits = fits;
      goes = record { place = refl; asking = λ x. refl; waiting = refl };
      history = history_stays g g refl refl refl refl;
    })

-- A resting seat that begins a call

-- what the new point and depth must satisfy
pub record BeginFits (c : Core) (g : Ghost) (s depth depth' takes' posts : ℕ) (p : Point) (w : Wake) : Type 0 where
  pub claims : claim_at depth' s p ≡ by_depth depth s false
  pub woken : wake_at g.place (g.standing s) s p ≡ Quiet
  pub stands : g.standing s ≡ apart → StandsAt g.place depth' s (g.standing s) p
  pub deep : DepthAt depth' p
  pub knows : KnowsAt c g s posts p
  pub within : takes' ≤ c.budget
  pub post_room : posts + due_posts_at depth' p ≤ takes'
  pub push_room : g.pushes s + due_pushes_at depth' w (g.standing s) p ≤ takes'

leaves_own : (c : Core) (g : Ghost) (s depth depth' takes takes' posts : ℕ) (p : Point) (w : Wake)
    → SeatFits c g s (record { depth = depth; takes = takes; posts = posts; point = Rest }) w
    → BeginFits c g s depth depth' takes' posts p w
    → SeatFits c g s (record { depth = depth'; takes = takes'; posts = posts; point = p }) w
leaves_own c g s depth depth' takes takes' posts p w here leaves =
    let unknown : is_some (grant_at g.place s) ≢ true = λ some. let f = (here.granted some).0 in cc in
    let none = none_from (grant_at g.place s) unknown in
    record {
      claims = leaves.claims ∙ here.claims;
      woken = (rw none at here.woken) ∙ rw none (sym leaves.woken);
      granted = λ some. absurd (unknown some);
      entered = λ is held. let f = (here.entered is held).0 in cc;
      listed = here.listed;
      stands = leaves.stands here.stands;
      depth = leaves.deep;
      knows = leaves.knows;
      number = here.number;
      takes = leaves.within;
      posts = leaves.post_room;
      pushes = leaves.push_room;
      watches = λ posted watcher. absurd (here.watches posted watcher);
    }

leaves_rest : (c : Core) (g : Ghost) (s depth' takes' : ℕ) (p : Point) → IsSeat c.seats s → (seat c.seats s).point ≡ Rest → Fits c g → asks_for_at depth' s p ≡ 0
    → claims_for_at p ≡ 0 → BeginFits c g s (seat c.seats s).depth depth' takes' (seat c.seats s).posts p (wake c.wakes s)
    → Fits (put c s (record { depth = depth'; takes = takes'; posts = (seat c.seats s).posts; point = p })) g
leaves_rest c g s depth' takes' p is at fits asks sends leaves =
    let x = seat c.seats s in
    view_moves c g s (record { depth = depth'; takes = takes'; posts = (seat c.seats s).posts; point = p }) is fits
    (record { asks_same = rw at asks; claims_same = rw at sends; posts_same = refl })
    (leaves_own c g s x.depth depth' x.takes takes' x.posts p (wake c.wakes s) (rw at at (fits.each s)) leaves)

-- a refused call writes its seat back unchanged
stays : (c : Core) (g : Ghost) (s : ℕ) → IsSeat c.seats s → Fits c g → Fits (put c s (seat c.seats s)) g
stays c g s is fits = view_moves c g s (seat c.seats s) is fits (record { asks_same = refl; claims_same = refl; posts_same = refl }) (fits.each s)

-- Calls of a seat at rest

-- what the first point must satisfy in a call that may come to hold or deepen the hold
abbrev EntersBy : Core → Ghost → ℕ → Point → Type 0
EntersBy c g s p =
    (depth takes posts : ℕ) (w : Wake) → depth < max_depth → takes ≤ c.budget → posts + 1 ≤ takes → g.pushes s + due_unless_held depth ≤ takes
    → BeginFits c g s depth depth takes posts p w

lock_enters : (c : Core) (g : Ghost) (s : ℕ) → EntersBy c g s LockCountAdd
lock_enters c g s depth takes posts w deep within room pushes =
    record { claims = refl; woken = refl; stands = λ e. e; deep = deep; knows = tt; within = within; post_room = room; push_room = pushes }

try_enters : (c : Core) (g : Ghost) (s : ℕ) → EntersBy c g s TryCountExchange
try_enters c g s depth takes posts w deep within room pushes =
    record { claims = refl; woken = refl; stands = λ e. e; deep = deep; knows = tt; within = within; post_room = room; push_room = pushes }

-- a take is charged for an outermost hold
entry_charged : (c : Core) (g : Ghost) (s : ℕ) (p : Point) → IsSeat c.seats s → (seat c.seats s).point ≡ Rest → Fits c g
    → ((depth : ℕ) → asks_for_at depth s p ≡ 0) → claims_for_at p ≡ 0 → EntersBy c g s p → (seat c.seats s).depth ≡ 0 → (seat c.seats s).depth < max_depth
    → Fits (put c s (Begin.charges (seat c.seats s) c.budget p).seat) g
entry_charged c g s p is at fits asks sends enters free deep =
    let x = seat c.seats s in
    let here = rw at at (fits.each s) in
    let one : due_unless_held (seat c.seats s).depth ≡ 1 = rw (eq-eqb (seat c.seats s).depth 0 free) in
    elim (cases_lt (seat c.seats s).takes c.budget) [
      | inl left ↦ rw (lt-ltb (seat c.seats s).takes c.budget left)
          (leaves_rest c g s x.depth (x.takes + 1) p is at fits (asks x.depth) sends
          (enters x.depth (x.takes + 1) x.posts (wake c.wakes s) deep (omega arith) (omega (arith, here.posts)) (omega (arith, here.pushes))))
      | inr spent ↦ rw (le-ltb (seat c.seats s).takes c.budget spent) (stays c g s is fits)
    ]

begin_entry_keeps : (c : Core) (g : Ghost) (s : ℕ) (p : Point) → IsSeat c.seats s → (seat c.seats s).point ≡ Rest → Fits c g
    → ((depth : ℕ) → asks_for_at depth s p ≡ 0) → claims_for_at p ≡ 0 → EntersBy c g s p → Fits (put c s (Begin.begin_entry (seat c.seats s) c.budget p).seat) g
begin_entry_keeps c g s p is at fits asks sends enters =
    let x = seat c.seats s in
    let here = rw at at (fits.each s) in
    elim (cases_lt 65534 (seat c.seats s).depth) [
      | inl full ↦ rw (lt-ltb 65534 (seat c.seats s).depth full) (stays c g s is fits)
      | inr room ↦ rw (le-ltb 65534 (seat c.seats s).depth room) (elim (cases_eq (seat c.seats s).depth 0) [
        | inl free ↦ rw (eq-eqb (seat c.seats s).depth 0 free) (entry_charged c g s p is at fits asks sends enters free (omega arith))
        | inr held ↦ rw (ne_eqb (seat c.seats s).depth 0 held) (
            let none : due_unless_held (seat c.seats s).depth ≡ 0 = rw (ne_eqb (seat c.seats s).depth 0 held) in
            let due : due_by_depth (seat c.seats s).depth ≡ 1 = rw (ne_eqb (seat c.seats s).depth 0 held) in
            leaves_rest c g s x.depth x.takes p is at fits (asks x.depth) sends
            (enters x.depth x.takes x.posts (wake c.wakes s) (omega arith) here.takes (omega (arith, here.posts, due)) (omega (arith, here.pushes, none))))
      ])
    ]

-- an unlock that lowers the depth
unlock_lowers : (c : Core) (g : Ghost) (s : ℕ) → IsSeat c.seats s → (seat c.seats s).point ≡ Rest → Fits c g → (seat c.seats s).depth ≢ 0 → (seat c.seats s).depth ≢ 1
    → Fits (put c s (record (seat c.seats s) { depth = (seat c.seats s).depth - 1 })) g
unlock_lowers c g s is at fits held deeper =
    let x = seat c.seats s in
    let here = rw at at (fits.each s) in
    let due : due_by_depth (seat c.seats s).depth ≡ 1 = rw (ne_eqb (seat c.seats s).depth 0 held) in
    let still : (seat c.seats s).depth - 1 ≢ 0 = λ e. absurd (omega arith) in
    let due_less : due_by_depth ((seat c.seats s).depth - 1) ≡ 1 = rw (ne_eqb ((seat c.seats s).depth - 1) 0 still) in
    rw at (leaves_rest c g s (x.depth - 1) x.takes Rest is at fits refl refl (record {
      claims = rw (ne_eqb ((seat c.seats s).depth - 1) 0 still, ne_eqb (seat c.seats s).depth 0 held);
      woken = refl;
      stands = λ e. e;
      deep = omega (arith, here.depth);
      knows = tt;
      within = here.takes;
      post_room = omega (arith, here.posts, due, due_less);
      push_room = here.pushes;
    }))

begin_unlock_keeps : (c : Core) (g : Ghost) (s : ℕ) → IsSeat c.seats s → (seat c.seats s).point ≡ Rest → Fits c g
    → Fits (put c s (Begin.begin_unlock (seat c.seats s)).seat) g
begin_unlock_keeps c g s is at fits =
    let x = seat c.seats s in
    let here = rw at at (fits.each s) in
    elim (cases_eq (seat c.seats s).depth 0) [
      | inl none ↦ rw (eq-eqb (seat c.seats s).depth 0 none) (stays c g s is fits)
      | inr held ↦ rw (ne_eqb (seat c.seats s).depth 0 held) (elim (cases_eq (seat c.seats s).depth 1) [
        | inl one ↦ rw (eq-eqb (seat c.seats s).depth 1 one) (
            let due : due_by_depth (seat c.seats s).depth ≡ 1 = rw one in
            leaves_rest c g s x.depth x.takes (ReleaseOwnerStore Unlocker) is at fits refl refl (record {
              claims = rw one;
              woken = refl;
              stands = λ e. e;
              deep = one;
              knows = tt;
              within = here.takes;
              post_room = omega (arith, here.posts, due);
              push_room = here.pushes;
            }))
        | inr deeper ↦ rw (ne_eqb (seat c.seats s).depth 1 deeper) (unlock_lowers c g s is at fits held deeper)
      ])
    ]

-- a take is charged for a wait
wait_charged : (c : Core) (g : Ghost) (s : ℕ) → IsSeat c.seats s → (seat c.seats s).point ≡ Rest → Fits c g → (seat c.seats s).depth ≡ 1
    → Fits (put c s (Begin.charges (seat c.seats s) c.budget (ReleaseOwnerStore Waiter)).seat) g
wait_charged c g s is at fits one =
    let x = seat c.seats s in
    let here = rw at at (fits.each s) in
    let due : due_by_depth (seat c.seats s).depth ≡ 1 = rw one in
    elim (cases_lt (seat c.seats s).takes c.budget) [
      | inl left ↦ rw (lt-ltb (seat c.seats s).takes c.budget left) (leaves_rest c g s x.depth (x.takes + 1) (ReleaseOwnerStore Waiter) is at fits refl refl (record {
        claims = rw one;
        woken = refl;
        stands = λ e. e;
        deep = one;
        knows = tt;
        within = omega arith;
        post_room = omega (arith, here.posts, due);
        push_room = omega (arith, here.pushes);
      }))
      | inr spent ↦ rw (le-ltb (seat c.seats s).takes c.budget spent) (stays c g s is fits)
    ]

begin_wait_keeps : (c : Core) (g : Ghost) (s : ℕ) → IsSeat c.seats s → (seat c.seats s).point ≡ Rest → Fits c g
    → Fits (put c s (Begin.begin_wait (seat c.seats s) c.budget).seat) g
begin_wait_keeps c g s is at fits =
    elim (cases_eq (seat c.seats s).depth 0) [
      | inl none ↦ rw (eq-eqb (seat c.seats s).depth 0 none) (stays c g s is fits)
      | inr held ↦ rw (ne_eqb (seat c.seats s).depth 0 held) (elim (cases_lt 1 (seat c.seats s).depth) [
        | inl nested ↦ rw (lt-ltb 1 (seat c.seats s).depth nested) (stays c g s is fits)
        | inr single ↦ rw (le-ltb 1 (seat c.seats s).depth single) (wait_charged c g s is at fits (omega arith))
      ])
    ]

begin_send_keeps : (c : Core) (g : Ghost) (s t : ℕ) → IsSeat c.seats s → (seat c.seats s).point ≡ Rest → Fits c g
    → Fits (put c s (Begin.begin_send (seat c.seats s) (length c.seats) t).seat) g
begin_send_keeps c g s t is at fits =
    let x = seat c.seats s in
    let here = rw at at (fits.each s) in
    elim (cases_Bool (is_seat c.seats t)) [
      | inl known ↦ rw known (leaves_rest c g s x.depth x.takes (SendWakeExchange t) is at fits refl refl (record {
        claims = refl;
        woken = refl;
        stands = λ e. e;
        deep = here.depth;
        knows = seat_of_test c.seats t known;
        within = here.takes;
        post_room = here.posts;
        push_room = here.pushes;
      }))
      | inr unknown ↦ rw unknown (stays c g s is fits)
    ]

begin_awake_keeps : (c : Core) (g : Ghost) (s : ℕ) (call : Call) → IsSeat c.seats s → (seat c.seats s).point ≡ Rest → Fits c g
    → Fits (put c s (Begin.begin_awake (seat c.seats s) (limits c) call).seat) g
begin_awake_keeps c g s Lock is at fits = begin_entry_keeps c g s LockCountAdd is at fits (λ depth. refl) refl (lock_enters c g s)
begin_awake_keeps c g s TryLock is at fits = begin_entry_keeps c g s TryCountExchange is at fits (λ depth. refl) refl (try_enters c g s)
begin_awake_keeps c g s Unlock is at fits = begin_unlock_keeps c g s is at fits
begin_awake_keeps c g s StartWait is at fits = begin_wait_keeps c g s is at fits
begin_awake_keeps c g s (SendLock t) is at fits = begin_send_keeps c g s t is at fits
begin_awake_keeps c g s Receive is at fits = stays c g s is fits

-- Calls of a seat that sleeps

woken_own : (c : Core) (g : Ghost) (s depth takes posts : ℕ) (sleeper : Sleeper) (w : Wake)
    → SeatFits c g s (record { depth = depth; takes = takes; posts = posts; point = Asleep sleeper }) w
    → SeatFits c g s (record { depth = depth; takes = takes; posts = posts; point = ReceiveWakeLoad sleeper }) w
woken_own c g s depth takes posts Sleeper.Locker w here =
    record {
      claims = here.claims;
      woken = here.woken ∙ sym (wake_to_load g.place (g.standing s) s Sleeper.Locker);
      granted = here.granted;
      entered = here.entered;
      listed = here.listed;
      stands = here.stands;
      depth = here.depth;
      knows = tt;
      number = here.number;
      takes = here.takes;
      posts = here.posts;
      pushes = here.pushes;
      watches = here.watches;
    }
woken_own c g s depth takes posts Sleeper.Waiter w here =
    record {
      claims = here.claims;
      woken = here.woken ∙ sym (wake_to_load g.place (g.standing s) s Sleeper.Waiter);
      granted = here.granted;
      entered = here.entered;
      listed = here.listed;
      stands = here.stands;
      depth = here.depth;
      knows = tt;
      number = here.number;
      takes = here.takes;
      posts = here.posts;
      pushes = here.pushes;
      watches = here.watches;
    }

begin_asleep_keeps : (c : Core) (g : Ghost) (s : ℕ) (sleeper : Sleeper) (call : Call) → IsSeat c.seats s → (seat c.seats s).point ≡ Asleep sleeper → Fits c g
    → Fits (put c s (Begin.begin_asleep (seat c.seats s) sleeper call).seat) g
begin_asleep_keeps c g s sleeper Receive is at fits =
    let x = seat c.seats s in
    view_moves c g s (record (seat c.seats s) { point = ReceiveWakeLoad sleeper }) is fits (record { asks_same = rw at; claims_same = rw at; posts_same = refl })
    (woken_own c g s x.depth x.takes x.posts sleeper (wake c.wakes s) (rw at at (fits.each s)))
begin_asleep_keeps c g s sleeper _ is at fits = stays c g s is fits

begin_at_keeps : (c : Core) (g : Ghost) (s : ℕ) (call : Call) (p : Point) → IsSeat c.seats s → (seat c.seats s).point ≡ p → Fits c g
    → Fits (put c s (Begin.begin_at (seat c.seats s) (limits c) call p).seat) g
begin_at_keeps c g s call Rest is at fits = begin_awake_keeps c g s call is at fits
begin_at_keeps c g s call (Asleep sleeper) is at fits = begin_asleep_keeps c g s sleeper call is at fits
begin_at_keeps c g s call _ is at fits = stays c g s is fits

-- each start of a call keeps a state steady, refused or not
pub begin_keeps : (c : Core) (g : Ghost) (s : ℕ) (call : Call) → Fits c g → Fits (begin c s call).core g
begin_keeps c g s call fits =
    elim (cases_Bool (is_seat c.seats s)) [
      | inl known ↦ rw known (begin_at_keeps c g s call (seat c.seats s).point (seat_of_test c.seats s known) refl fits)
      | inr unknown ↦ rw unknown fits
    ]
