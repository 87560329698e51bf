-- The start of an unlock: the two steps of its release, and the serving of the oldest queued seat after them.
use Rattle.std.proofs.Common.{◌≡◌, ◌≢◌, ℕ, ◌+◌, ◌≤◌, List, [], ◌∷◌, ◌++◌, length, Option, Some, None, refl, sym, ap, ◌∙◌, subst, arith, append_assoc, length-append}
use Rattle.std.specs.Prelude.{⊤}
use Rattle.lfm_words.specs.declared.pop_lists.Record.{Record}
use Rattle.lfm_words.specs.declared.wakes.Wake.TheVariants.{Grant}
use Rattle.lfm_words.specs.Popped.{oldest}
use Rattle.lfm_words.specs.Words.{link_word, wake_word}
use Rattle.lfm_protocol.specs.After.{take}
use Rattle.lfm_protocol.specs.declared.points.Carrier.{Carrier}
use Rattle.lfm_protocol.specs.declared.points.Point.TheVariants.{Rest, ReleaseHandoffStore, TakeClearHead, TakeLinkLoad, GrantWakeStore}
use Rattle.lfm_protocol.specs.declared.points.Releaser.TheVariants.{Unlocker}
use Rattle.lfm_protocol.specs.declared.seats.SeatState.{SeatState}
use Rattle.lfm_table.specs.declared.seat_view.Seen.{Seen}
use Rattle.lfm_table.specs.declared.seat_view.View.{View}
use Rattle.lfm_table.specs.Actions.{RunGoesOn, seen}
use Rattle.lfm_table.proofs.tables.Actions.{run_next}
use Rattle.lfm_pool.specs.declared.pool.Pool.{Pool}
use Rattle.lfm_pool.specs.declared.pool.TableSeat.{TableSeat}
use Rattle.lfm_pool.specs.declared.unlock.Unlocking.{Unlocking}
use Rattle.lfm_pool.specs.declared.view.Note.{Note}
use Rattle.lfm_pool.specs.Belongs.{IsMutex, OfPool, SameSeat}
use Rattle.lfm_pool.specs.Chain.{rested}
use Rattle.lfm_pool.specs.Collecting.{loads_of}
use Rattle.lfm_pool.specs.Moves.{MakesAtMostIn, MayStepIn}
use Rattle.lfm_pool.specs.Releasing.{AreQueued, FindsNoneIn, GrantsNextIn, IsServing, collecting}
use Rattle.lfm_pool.specs.Seats.{HoldsOnceIn, LeavesIn, RestsInOthers, ServesIn, note_of, popped_of, state_of}
use Rattle.lfm_pool.specs.Steps.{Sits}
use Rattle.lfm_pool.specs.Tables.{part, with_part}
use Rattle.lfm_pool.specs.Unlock.{UnlocksIn, release}
use Rattle.lfm_pool.proofs.FastPaths.{both, note_now, part_now}
use Rattle.lfm_pool.proofs.SeveralSteps.{inside, may_then}

pub may_release : (s : TableSeat) (p : Pool) (m : ℕ) → OfPool s p → IsMutex m p → HoldsOnceIn s p m → RestsInOthers s m → MayStepIn s p m
may_release s p m belongs less holds rests = record { belongs = belongs; mutex = less; sits = holds.sits; elsewhere = rests }

pub may_free : (s t : TableSeat) (p : Pool) (m : ℕ) → MayStepIn s p m → SameSeat s t → LeavesIn s t p m → MayStepIn t p m
may_free s t p m may same did = may_then s t p m may same (did.0, did.1, did.2, did.3.1)

-- The call serves after its release

module _ (s t : TableSeat) (p : Pool) (m count : ℕ) (may : MayStepIn s p m) (same : SameSeat s t) (did : ServesIn s t p m count) where
  pub may_serve : MayStepIn t p m
  may_serve = may_then s t p m may same (did.0, did.1, did.2, did.3.1)

  now : part t.place.me.0 m ≡ did.0
  now = part_now s.number s.place.id m p.limits s.place.me t.place.me t.place.me (inside s t p m may) did.0 did.1 did.2

  -- the popped records are as they were
  list_now : popped_of t m ≡ popped_of s m
  list_now = ap (λ (y : View ⊤). y.popped) now ∙ did.3.0.kept

  state_now : state_of t m ≡ record (state_of s m) { depth = 0; point = take (Carrier.Releaser Unlocker) s.number (oldest (popped_of s m)) }
  state_now = ap (λ (y : View ⊤). y.state) now ∙ did.3.0.state

  pub is_serving : IsServing (Carrier.Releaser Unlocker) t m
  is_serving = ap (λ (x : SeatState). x.point) state_now ∙ (λ i. take (Carrier.Releaser Unlocker) (sym same.number i) (oldest (sym list_now i)))

  pub whole_to_serve : note_of t m ≡ rested (popped_of t m)
  whole_to_serve =
      note_now s.number s.place.id m p.limits s.place.me t.place.me t.place.me (inside s t p m may) did.0 did.1 did.2 ∙ did.3.2 ∙ ap (λ (y : View ⊤). rested y.popped) (sym now)

  module _ (others : count ≢ 1) (u : TableSeat) where
    -- what the trail of the seat has after its release and these steps
    longer : (w : View ⊤) (more : List Record → List Seen) → w.trail ≡ (part t.place.me.0 m).trail ++ more (popped_of t m) → w.trail ≡ (part s.place.me.0 m).trail ++ (release count ++ more (popped_of s m))
    longer w more e =
        e ∙ (λ i. (ap (λ (y : View ⊤). y.trail) now ∙ did.3.0.trail) i ++ more (list_now i)) ∙ append_assoc (part s.place.me.0 m).trail (release count) (more (popped_of s m))

    run_on : (w : View ⊤) → RunGoesOn (part t.place.me.0 m) w → RunGoesOn (part s.place.me.0 m) w
    run_on w run = run_next did.3.0.run (subst (λ (y : View ⊤). RunGoesOn y w) now run)

    sits_on : (w : View ⊤) → Sits t.number t.place.id p.limits w.state w → Sits s.number s.place.id p.limits w.state w
    sits_on w sits = subst (λ (z : ℕ × ℕ). Sits z.0 z.1 p.limits w.state w) (λ i. (same.number i, same.id i)) sits

    pub hands : (r : Record) → GrantsNextIn (Carrier.Releaser Unlocker) t u p m r → UnlocksIn (Unlocking.Granted r) s u p m
    hands r last = (
      last.0,
      last.1,
      both s.number s.place.id m p.limits s.place.me t.place.me u.place.me (inside s t p m may) did.0 last.0 did.1 last.1 did.2 last.2,
      (
        record {
          count = count;
          others = others;
          found = last.3.0.found;
          queued = subst (λ (l : List Record). AreQueued l last.3.0.found (r ∷ last.0.popped)) list_now last.3.0.queued;
          trail = longer last.0 (λ (l : List Record). collecting (Carrier.Releaser Unlocker) l last.3.0.found (r ∷ last.0.popped) ++ seen (GrantWakeStore (Carrier.Releaser Unlocker) r) (wake_word (Grant r.stamp)) ∷ []) last.3.0.trail;
          state = last.3.0.state ∙ ap (λ (x : SeatState). record x { point = Rest }) state_now;
          run = run_on last.0 last.3.0.run;
        },
        sits_on last.0 last.3.1,
      ),
    )

    pub finds_nobody : FindsNoneIn (Carrier.Releaser Unlocker) t u p m → UnlocksIn Unlocking.Posts s u p m
    finds_nobody found = let last = found.1 in (
      last.0,
      last.1,
      both s.number s.place.id m p.limits s.place.me t.place.me u.place.me (inside s t p m may) did.0 last.0 did.1 last.1 did.2 last.2,
      (
        record {
          count = count;
          others = others;
          found = last.3.0.found;
          none = last.3.0.none;
          trail = longer last.0 (λ (l : List Record). seen (TakeClearHead (Carrier.Releaser Unlocker)) last.3.0.found ∷ []) last.3.0.trail;
          state = last.3.0.state ∙ ap (λ (x : SeatState). record x { point = ReleaseHandoffStore Unlocker }) state_now;
          run = run_on last.0 last.3.0.run;
        },
        sits_on last.0 last.3.1,
        last.3.2,
      ),
    )

-- an answer that is no record is None
pub none_of : (o : Option Record) → ((r : Record) → o ≡ Some r → ⊥) → o ≡ None
none_of None other = refl
none_of (Some r) other = absurd (other r refl)

-- The seat after it, and the number of steps

module _ (s t : TableSeat) (p : Pool) (m : ℕ) (may : MayStepIn s p m) (same : SameSeat s t) where
  pub may_unlocked : (unlocking : Unlocking) → UnlocksIn unlocking s t p m → MayStepIn t p m
  may_unlocked Unlocking.Free did = may_then s t p m may same (did.0, did.1, did.2, did.3.1)
  may_unlocked (Unlocking.Granted r) did = may_then s t p m may same (did.0, did.1, did.2, did.3.1)
  may_unlocked Unlocking.Posts did = may_then s t p m may same (did.0, did.1, did.2, did.3.1)

loads_length : (carrier : Carrier) (records : List Record) (next : ℕ) → length (loads_of carrier records next) ≡ length records
loads_length carrier [] next = refl
loads_length carrier (r ∷ rest) next =
    let shorter = loads_length carrier rest r.seat in
    let long = length-append (loads_of carrier rest r.seat) (seen (TakeLinkLoad carrier r.seat) (link_word (record { stamp = r.stamp; next = next })) ∷ []) in
    omega (arith, shorter, long)

pub collecting_length : (carrier : Carrier) (popped : List Record) (found : ℕ) (records : List Record) → length (collecting carrier popped found records) ≤ 1 + length records
collecting_length carrier [] found records = let long = loads_length carrier records 0 in omega (arith, long)
collecting_length carrier (x ∷ rest) found records = omega arith

module _ (s t : TableSeat) (p : Pool) (m : ℕ) (may : MayStepIn s p m) where
  -- by what the trail has got
  pub bounded_by : (most : ℕ) (w : View ⊤) (k : Note) (new : List Seen) → t.place.me ≡ (with_part s.place.me.0 m w k, s.place.me.1) → w.trail ≡ (part s.place.me.0 m).trail ++ new → length new ≤ most + length w.popped
      → MakesAtMostIn (most + length (popped_of t m)) s t m
  bounded_by most w k new is trail less =
      let now = part_now s.number s.place.id m p.limits s.place.me t.place.me t.place.me (inside s t p m may) w k is in
      let long = ap length (ap (λ (y : View ⊤). y.trail) now ∙ trail) ∙ length-append (part s.place.me.0 m).trail new in
      let list = ap (λ (y : View ⊤). length y.popped) now in
      omega (arith, long, less, list)

  pub unlock_bounded : (unlocking : Unlocking) → UnlocksIn unlocking s t p m → MakesAtMostIn (5 + length (popped_of t m)) s t m
  unlock_bounded Unlocking.Free did = bounded_by 5 did.0 did.1 (release 1) did.2 did.3.0.trail (omega arith)
  unlock_bounded (Unlocking.Granted r) did =
      let d = did.3.0 in
      let less = collecting_length (Carrier.Releaser Unlocker) (popped_of s m) d.found (r ∷ did.0.popped) in
      let long = length-append (collecting (Carrier.Releaser Unlocker) (popped_of s m) d.found (r ∷ did.0.popped)) (seen (GrantWakeStore (Carrier.Releaser Unlocker) r) (wake_word (Grant r.stamp)) ∷ []) in
      bounded_by 5 did.0 did.1 (release d.count ++ (collecting (Carrier.Releaser Unlocker) (popped_of s m) d.found (r ∷ did.0.popped) ++ seen (GrantWakeStore (Carrier.Releaser Unlocker) r) (wake_word (Grant r.stamp)) ∷ [])) did.2 d.trail
      (omega (arith, less, long))
  unlock_bounded Unlocking.Posts did = bounded_by 5 did.0 did.1 (release did.3.0.count ++ seen (TakeClearHead (Carrier.Releaser Unlocker)) did.3.0.found ∷ []) did.2 did.3.0.trail (omega arith)
