-- The seat whose link word or wake word a step accesses: it is the seat that steps, or it does not rest in the mutex of the
-- step.
use Rattle.std.proofs.Common.{◌≡◌, ℕ, zero, suc, ◌+◌, ◌<◌, ◌≤◌, length, refl, sym, ap, ◌∙◌, subst, inl, inr, arith, Some}
use Rattle.std.specs.Prelude.{true}
use Rattle.std.proofs.lemmas.Bool.{cases_eq, false≢true}
use mathlib.Core.Option.{some}
use lib.ListN.{get_elem?}
use Rattle.atomic_table.specs.Table.{State}
use Rattle.lfm_protocol.specs.declared.kinds.Kind.{Kind}
use Rattle.lfm_protocol.specs.declared.limits.Limits.{Limits}
use Rattle.lfm_protocol.specs.declared.points.Point.{Point}
use Rattle.lfm_protocol.specs.declared.points.Point.TheVariants.{LinkStore, TakeLinkLoad, GrantWakeStore, ReceiveWakeLoad, ReceiveWakeStore}
use Rattle.lfm_protocol.specs.declared.points.Pusher.{Pusher}
use Rattle.lfm_protocol.specs.declared.seats.SeatState.{SeatState}
use Rattle.lfm_protocol.specs.Core.{Core, limits, put}
use Rattle.lfm_protocol.specs.Points.{kind, target}
use Rattle.lfm_protocol.specs.Seats.{IsSeat, seat, with_entry}
use Rattle.lfm_laws.specs.steady.Steady.{Fits}
use Rattle.lfm_laws.specs.table.Settles.{Settles}
use Rattle.lfm_laws.specs.table.Words.{index_by}
use Rattle.lfm_laws.proofs.steady.frames.Entries.{seat-with_other, seat-with_same, seat_zero}
use Rattle.lfm_laws.proofs.table.Settled.{settles_keeps}
use Rattle.lfm_table.specs.Accesses.{word_at}
use Rattle.lfm_table.specs.Settled.{Became}
use Rattle.lfm_table.proofs.tables.RuleKept.{length_at}
use Rattle.lfm_table.proofs.tables.SettledKept.{settles_of}
use Rattle.lfm_pool.specs.declared.accesses.PoolAccess.{PoolAccess}
use Rattle.lfm_pool.specs.declared.view.PoolView.{PoolView}
use Rattle.lfm_pool.specs.Rule.{HeldPool}
use Rattle.lfm_pool.specs.Steps.{IsStepOf, is_at_seat_word}
use Rattle.lfm_pool.specs.Tables.{IsKept, has_link_at, part}
use Rattle.lfm_pool.proofs.Lifting.{IsBusyIn}
use Rattle.lfm_pool.proofs.Links.{link_of_begun, linked_busy}
use Rattle.lfm_pool.proofs.LoneTables.{seats_of}
use Rattle.lfm_pool.proofs.PoppedViews.{HasLinkAt, linked_view, place_of}
use Rattle.lfm_pool.proofs.Targets.{collected_linked, granted_linked}
use Rattle.lfm_pool.proofs.WordIndexes.{IsOfSeat, link_same, not_link, wake_same}

-- a seat with a link has a number above 0
has_number : (c : Core) (t : ℕ) → has_link_at (seat c.seats t).point ≡ true → 0 < t
has_number c zero has = absurd (false≢true (sym (ap (λ (x : SeatState). has_link_at x.point) (seat_zero c.seats)) ∙ has))
has_number c (suc t) has = omega arith

module _ (s : State ℕ PoolView) (h : HeldPool s) (id m : ℕ) (v : PoolView) (p : SeatState) (a : PoolAccess) (less : m < h.mutexes) (at : get_elem? s.views id ≡ some v)
    (became : Became (part v m).state (part v m).limits p) (is : IsStepOf h.mutexes h.seats m (id + 1) p a) where
  abbrev lone : IsKept (h.tables m)
  lone = h.kept m less

  abbrev c : Core
  c = (h.kept m less).core

  own_view : get_elem? (h.tables m).views id ≡ some (part v m)
  own_view = h.parts m id v less at

  many : length c.seats ≡ h.seats
  many = let w = seats_of (h.tables m) lone in omega (arith, w, h.sized m less)

  -- the seats of the pool that are split off are seats of the core
  within : (j : ℕ) (z : PoolView) → get_elem? s.views j ≡ some z → j < h.seats
  within j z e = let b = length_at (h.tables m).views j (part z m) (h.parts m j z less e) in omega (arith, b, lone.few, many)

  is_seat : IsSeat c.seats (id + 1)
  is_seat = record { above = omega arith; within = let b = within id v at in omega (arith, b, many) }

  stands : seat c.seats (id + 1) ≡ (part v m).state
  stands = (lone.each id (part v m) own_view).state

  settles : Settles (seat c.seats (id + 1)) (limits c) p
  settles =
      subst (λ (t : SeatState × Limits). Settles t.0 t.1 p) (λ i. (sym stands i, (lone.each id (part v m) own_view).limits_are i))
      (settles_of (part v m).state (part v m).limits p became)

  settled : Fits (put lone.core (id + 1) p) lone.ghost_state
  settled = settles_keeps lone.core lone.ghost_state (id + 1) p is_seat lone.fits settles

  own_seat : seat (with_entry lone.core.seats (id + 1) p) (id + 1) ≡ p
  own_seat = seat-with_same lone.core.seats (id + 1) p is_seat

  -- a seat that has a link at the step does not rest in the mutex
  linked_seat : (j : ℕ) → has_link_at (seat (with_entry lone.core.seats (id + 1) p) (j + 1)).point ≡ true → HasLinkAt s h m less j
  linked_seat j has = elim (cases_eq (j + 1) (id + 1)) [
    | inl same ↦
        let place : j ≡ id = omega (arith, same) in
        let mine : has_link_at p.point ≡ true = ap (λ (x : SeatState). has_link_at x.point) (sym own_seat) ∙ ap (λ (n : ℕ). has_link_at (seat (with_entry lone.core.seats (id + 1) p) n).point) (sym same) ∙ has in
        (v, ap (λ (i : ℕ). get_elem? s.views i) place ∙ at, link_of_begun (part v m).state (part v m).limits p became mine)
    | inr other ↦
        linked_view s h m less j (ap (λ (x : SeatState). has_link_at x.point) (sym (seat-with_other lone.core.seats (id + 1) (j + 1) p other)) ∙ has)
  ]

  -- the seat with number t has a link at the step
  abbrev Linked : ℕ → Type 0
  Linked t = (j : ℕ) × (t ≡ j + 1) × HasLinkAt s h m less j

  linked_by : (t : ℕ) → has_link_at (seat (put lone.core (id + 1) p).seats t).point ≡ true → Linked t
  linked_by t has =
      let d = place_of t (has_number (put lone.core (id + 1) p) t has) in
      (d.0, d.1, linked_seat d.0 (ap (λ (n : ℕ). has_link_at (seat (with_entry lone.core.seats (id + 1) p) n).point) (sym d.1) ∙ has))

  busy : (t j : ℕ) → Linked t → t ≡ j + 1 → IsBusyIn s id m j
  busy t j z e = inr (z.2.0, ap (λ (n : ℕ). get_elem? s.views n) (omega (arith, e, z.1)) ∙ z.2.1, linked_busy (part z.2.0 m).state.point z.2.2)

  linked_within : (t : ℕ) → Linked t → t ≤ h.seats
  linked_within t z = let b = within z.0 z.2.0 z.2.1 in omega (arith, b, z.1)

  -- a word of a seat, by its kind and the number of that seat
  link_of : (t j : ℕ) → word_at a.access ≡ 3 + t → t ≤ h.seats → IsOfSeat h.mutexes a.index j → t ≡ j + 1
  link_of t j e most of_seat = elim of_seat [
    | inl link ↦ let w = link_same h.mutexes h.seats m a.index (word_at a.access) less is.1 j link in omega (arith, w, e)
    | inr wake ↦ let w = wake_same h.mutexes h.seats m a.index (word_at a.access) less is.1 j wake in absurd (omega (arith, w, e, most))
  ]

  wake_of : (t j : ℕ) → word_at a.access ≡ 3 + h.seats + t → 0 < t → IsOfSeat h.mutexes a.index j → t ≡ j + 1
  wake_of t j e above of_seat = elim of_seat [
    | inl link ↦ absurd (not_link h.mutexes h.seats m a.index (word_at a.access) less is.1 j (inr (omega (arith, e, above))) link)
    | inr wake ↦ let w = wake_same h.mutexes h.seats m a.index (word_at a.access) less is.1 j wake in omega (arith, w, e)
  ]

  own_only : (j : ℕ) → id + 1 ≡ j + 1 → IsBusyIn s id m j
  own_only j e = inl (omega (arith, e))

  own_within : id + 1 ≤ h.seats
  own_within = let b = within id v at in omega (arith, b)

  -- the step of a seat on its own wake word
  own_wake : (k : Kind) → is.0.0 ≡ k → index_by h.seats (target p.point (id + 1)) (Some k) ≡ 3 + h.seats + (id + 1) → (j : ℕ) → IsOfSeat h.mutexes a.index j → IsBusyIn s id m j
  own_wake k by at_wake j of_seat =
      let there : word_at a.access ≡ 3 + h.seats + (id + 1) = is.0.2 ∙ ap (λ (x : Kind). index_by h.seats (target p.point (id + 1)) (Some x)) by ∙ at_wake in
      own_only j (wake_of (id + 1) j there (omega arith) of_seat)

  by_point : (q : Point) → p.point ≡ q → is_at_seat_word q ≡ true → (j : ℕ) → IsOfSeat h.mutexes a.index j → IsBusyIn s id m j
  by_point (LinkStore Pusher.Locker seen) e at_seat j of_seat =
      let by : is.0.0 ≡ Kind.LinkStore = let q = sym (ap kind e) ∙ is.0.1 in cc in
      let there : word_at a.access ≡ 3 + (id + 1) = is.0.2 ∙ (λ i. index_by h.seats (target (e i) (id + 1)) (Some (by i))) in
      own_only j (link_of (id + 1) j there own_within of_seat)
  by_point (TakeLinkLoad carrier next) e at_seat j of_seat =
      let by : is.0.0 ≡ Kind.LinkLoad = let q = sym (ap kind e) ∙ is.0.1 in cc in
      let there : word_at a.access ≡ 3 + next = is.0.2 ∙ (λ i. index_by h.seats (target (e i) (id + 1)) (Some (by i))) in
      let z = linked_by next (collected_linked (put lone.core (id + 1) p) lone.ghost_state settled (id + 1) next carrier (ap (λ (x : SeatState). x.point) own_seat ∙ e)) in
      busy next j z (link_of next j there (linked_within next z) of_seat)
  by_point (GrantWakeStore carrier first) e at_seat j of_seat =
      let by : is.0.0 ≡ Kind.WakeStore = let q = sym (ap kind e) ∙ is.0.1 in cc in
      let there : word_at a.access ≡ 3 + h.seats + first.seat = is.0.2 ∙ (λ i. index_by h.seats (target (e i) (id + 1)) (Some (by i))) in
      let z = linked_by first.seat (granted_linked (put lone.core (id + 1) p) lone.ghost_state settled (id + 1) carrier first (ap (λ (x : SeatState). x.point) own_seat ∙ e)) in
      busy first.seat j z (wake_of first.seat j there (omega (arith, z.1)) of_seat)
  by_point (ReceiveWakeLoad sleeper) e at_seat j of_seat =
      own_wake Kind.WakeLoad (let q = sym (ap kind e) ∙ is.0.1 in cc) (ap (λ (q : Point). 3 + h.seats + target q (id + 1)) e) j of_seat
  by_point (ReceiveWakeStore stamp) e at_seat j of_seat =
      own_wake Kind.WakeStore (let q = sym (ap kind e) ∙ is.0.1 in cc) (ap (λ (q : Point). 3 + h.seats + target q (id + 1)) e) j of_seat
  by_point _ e at_seat j of_seat = absurd (false≢true at_seat)

  -- a word of the mutex is of no seat
  of_mutex : word_at a.access < 4 → (j : ℕ) → IsOfSeat h.mutexes a.index j → IsBusyIn s id m j
  of_mutex low j of_seat = elim of_seat [
    | inl link ↦ absurd (not_link h.mutexes h.seats m a.index (word_at a.access) less is.1 j (inl low) link)
    | inr wake ↦ let w = wake_same h.mutexes h.seats m a.index (word_at a.access) less is.1 j wake in absurd (omega (arith, w, low))
  ]

  -- the seat at place j, if the step accesses its link word or its wake word
  pub is_busy : (j : ℕ) → IsOfSeat h.mutexes a.index j → IsBusyIn s id m j
  is_busy = elim is.2 [ inl low ↦ of_mutex low | inr at_seat ↦ by_point p.point refl at_seat ]
