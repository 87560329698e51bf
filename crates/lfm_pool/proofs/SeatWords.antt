-- The steps on link words and wake words, by the points at which a seat makes them.
use Rattle.std.proofs.Common.{◌≡◌, ℕ, zero, suc, ◌+◌, ◌*◌, ◌<◌, ◌≤◌, length, refl, sym, ap, ◌∙◌, subst, inl, inr, arith}
use Rattle.lfm_words.specs.declared.links.Link.{Link}
use Rattle.lfm_words.specs.declared.pop_lists.Record.{Record}
use Rattle.lfm_words.specs.declared.wakes.Wake.TheVariants.{Quiet, Grant}
use Rattle.lfm_words.specs.Words.{IsSmallWake, link_word, wake_word}
use Rattle.lfm_protocol.specs.declared.answers.Call.TheVariants.{Receive}
use Rattle.lfm_protocol.specs.declared.kinds.Kind.{Kind}
use Rattle.lfm_protocol.specs.declared.limits.Limits.{Limits}
use Rattle.lfm_protocol.specs.declared.points.Point.{Point}
use Rattle.lfm_protocol.specs.declared.points.Point.TheVariants.{LinkStore, ReceiveWakeLoad, ReceiveWakeStore}
use Rattle.lfm_protocol.specs.declared.points.Pusher.{Pusher}
use Rattle.lfm_protocol.specs.declared.points.Sleeper.{Sleeper}
use Rattle.lfm_protocol.specs.declared.seats.SeatState.{SeatState}
use Rattle.lfm_protocol.specs.Begin as Begin
use Rattle.lfm_protocol.specs.Points.{kind, target}
use Rattle.lfm_protocol.specs.Stores.{stored_link_at, stored_wake_at}
use Rattle.lfm_laws.specs.table.Ready.{IsReady, PacksLink}
use Rattle.lfm_table.specs.declared.operations.Access.{Access}
use Rattle.lfm_pool.specs.declared.pool.TableSeat.{TableSeat}
use Rattle.lfm_pool.specs.Belongs.{SameSeat}
use Rattle.lfm_pool.specs.Chain.{note_after}
use Rattle.lfm_pool.specs.Tables.{note}
use Rattle.lfm_pool.specs.SeatWords.{StoresLink, LoadsLink, Grants, Sleeps, TakesGrant}
use Rattle.lfm_pool.specs.Steps.{IsStepAt, IsWordAt, StepsIn, is_at_seat_word}
use Rattle.lfm_pool.proofs.FastPaths.{length_with}

-- Indexes

place_of : (t : ℕ) → 0 < t → (j : ℕ) × (t ≡ j + 1)
place_of zero above = absurd (omega (arith, above))
place_of (suc j) above = (j, omega arith)

module _ (mutexes seats m index word t : ℕ) (above : 0 < t) (within : t ≤ seats) where
  at_link : word ≡ 3 + t → index + 2 ≡ mutexes * 8 + t * 2 → IsWordAt mutexes seats m index word
  at_link e f = let j = place_of t above in inr (j.0, omega (arith, j.1, within), inl (omega (arith, j.1, e), omega (arith, j.1, f)))

  at_wake : word ≡ 3 + seats + t → index + 1 ≡ mutexes * 8 + t * 2 → IsWordAt mutexes seats m index word
  at_wake e f = let j = place_of t above in inr (j.0, omega (arith, j.1, within), inr (omega (arith, j.1, e), omega (arith, j.1, f)))

-- Steps

module _ (mutexes seats m number index word : ℕ) (p : SeatState) (ready : IsReady seats number p) where
  -- what packs exactly
  pub packs_link : (seen : Link) → StoresLink seen p → PacksLink (record { stamp = seen.stamp + 1; next = seen.next })
  packs_link seen e = subst (λ (q : Point). PacksLink (stored_link_at q)) e ready.stored_link

  pub small_grant : (first : Record) → Grants first p → IsSmallWake (Grant first.stamp)
  small_grant first at = subst (λ (q : Point). IsSmallWake (stored_wake_at q)) at.1 ready.stored_wake

  -- the seat whose word it is
  pub target_of_load : (t : ℕ) → LoadsLink t p → (0 < t) × (t ≤ seats)
  target_of_load t at = subst (λ (q : Point). (0 < target q number) × (target q number ≤ seats)) at.1 (ready.above, ready.within)

  pub target_of_grant : (first : Record) → Grants first p → (0 < first.seat) × (first.seat ≤ seats)
  target_of_grant first at = subst (λ (q : Point). (0 < target q number) × (target q number ≤ seats)) at.1 (ready.above, ready.within)

  own_number : (q : Point) → p.point ≡ q → target q number ≡ number → (0 < number) × (number ≤ seats)
  own_number q e same = subst (λ (t : ℕ). (0 < t) × (t ≤ seats)) (ap (λ (x : Point). target x number) e ∙ same) (ready.above, ready.within)

  pub stores_link : (seen : Link) → StoresLink seen p → (link : ℕ) → link ≡ link_word (record { stamp = seen.stamp + 1; next = seen.next }) → word ≡ 3 + number → index + 2 ≡ mutexes * 8 + number * 2
      → IsStepAt mutexes seats m number p (record { index = index; access = Access.Store word link })
  stores_link seen e link stored at_word at_index =
      let own = own_number (LinkStore Pusher.Locker seen) e refl in (
        (
          (Kind.LinkStore, ap kind e, at_word ∙ ap (λ (q : Point). 3 + target q number) (sym e), (λ n. stored ∙ ap (λ (q : Point). link_word (stored_link_at q)) (sym e)), refl),
          at_link mutexes seats m index word number own.0 own.1 at_word at_index,
          inr (ap is_at_seat_word e),
        ),
        λ two. omega (arith, two, at_word),
      )

  pub loads_link : (t : ℕ) → LoadsLink t p → word ≡ 3 + t → index + 2 ≡ mutexes * 8 + t * 2 → IsStepAt mutexes seats m number p (record { index = index; access = Access.Load word })
  loads_link t at at_word at_index =
      let there = target_of_load t at in (
        (
          (Kind.LinkLoad, ap kind at.1, at_word ∙ ap (λ (q : Point). 3 + target q number) (sym at.1), (λ n. refl), refl),
          at_link mutexes seats m index word t there.0 there.1 at_word at_index,
          inr (ap is_at_seat_word at.1),
        ),
        λ two. omega (arith, two, at_word),
      )

  pub grants : (first : Record) → Grants first p → (wake : ℕ) → wake ≡ wake_word (Grant first.stamp) → word ≡ 3 + seats + first.seat → index + 1 ≡ mutexes * 8 + first.seat * 2
      → IsStepAt mutexes seats m number p (record { index = index; access = Access.Store word wake })
  grants first at wake stored at_word at_index =
      let there = target_of_grant first at in (
        (
          (Kind.WakeStore, ap kind at.1, at_word ∙ ap (λ (q : Point). 3 + seats + target q number) (sym at.1), (λ n. stored ∙ ap (λ (q : Point). wake_word (stored_wake_at q)) (sym at.1)), refl),
          at_wake mutexes seats m index word first.seat there.0 there.1 at_word at_index,
          inr (ap is_at_seat_word at.1),
        ),
        λ two. omega (arith, two, at_word),
      )

  pub takes_grant : TakesGrant p → (wake : ℕ) → wake ≡ wake_word Quiet → word ≡ 3 + seats + number → index + 1 ≡ mutexes * 8 + number * 2
      → IsStepAt mutexes seats m number p (record { index = index; access = Access.Store word wake })
  takes_grant at wake stored at_word at_index =
      let own = own_number (ReceiveWakeStore at.0) at.1 refl in (
        (
          (Kind.WakeStore, ap kind at.1, at_word ∙ ap (λ (q : Point). 3 + seats + target q number) (sym at.1), (λ n. stored ∙ ap (λ (q : Point). wake_word (stored_wake_at q)) (sym at.1)), refl),
          at_wake mutexes seats m index word number own.0 own.1 at_word at_index,
          inr (ap is_at_seat_word at.1),
        ),
        λ two. omega (arith, two, at_word),
      )

  pub loads_wake : (sleeper : Sleeper) → p.point ≡ ReceiveWakeLoad sleeper → word ≡ 3 + seats + number → index + 1 ≡ mutexes * 8 + number * 2 → IsStepAt mutexes seats m number p (record { index = index; access = Access.Load word })
  loads_wake sleeper e at_word at_index =
      let own = own_number (ReceiveWakeLoad sleeper) e refl in (
        (
          (Kind.WakeLoad, ap kind e, at_word ∙ ap (λ (q : Point). 3 + seats + target q number) (sym e), (λ n. refl), refl),
          at_wake mutexes seats m index word number own.0 own.1 at_word at_index,
          inr (ap is_at_seat_word e),
        ),
        λ two. omega (arith, two, at_word),
      )

-- the start of a receive
pub receives : (x : SeatState) (l : Limits) → (at : Sleeps x) → (Begin.begin x l Receive).seat.point ≡ ReceiveWakeLoad at.0
receives x l at = ap (λ (q : Point). (Begin.begin_at x l Receive q).seat.point) at.1

-- The seat after a step

pub same_after : (s t : TableSeat) (l : Limits) (m n : ℕ) (p : SeatState) → (t.place.table_id ≡ s.place.table_id) × (t.place.id ≡ s.place.id) × (t.number ≡ s.number) → StepsIn s.number s.place.id m l p s.place.me n t.place.me → SameSeat s t
same_after s t l m n p same did = record {
  table = same.0;
  id = same.1;
  number = same.2;
  parts = ap (λ z. length z.0.parts) did.1 ∙ length_with s.place.me.0 m did.0 (note_after p did.0 (note s.place.me.0 m));
}
