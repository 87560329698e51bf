-- Serving the oldest popped record: what the load of its link tells, and the seat after the store of the carried word and
-- the grant.
use Rattle.std.proofs.Common.{◌≡◌, ℕ, ◌+◌, ◌*◌, ◌<◌, ◌≤◌, List, [], ◌∷◌, drop, length, refl, sym, ap, ◌∙◌, subst, inl, inr, arith}
use Rattle.std.specs.Prelude.{⊤}
use Rattle.atomic_table.specs.Table.{Me}
use Rattle.lfm_words.specs.declared.links.Link.{Link}
use Rattle.lfm_words.specs.declared.pop_lists.Record.{Record}
use Rattle.lfm_words.specs.declared.wakes.Wake.TheVariants.{Grant}
use Rattle.lfm_words.specs.Words.{link_word, seat_field_size, wake_word}
use Rattle.lfm_protocol.specs.declared.points.Point.{Point}
use Rattle.lfm_protocol.specs.declared.points.Point.TheVariants.{GrantWakeStore}
use Rattle.lfm_protocol.specs.Limits.{max_seats}
use Rattle.lfm_protocol.specs.Place.{carries}
use Rattle.lfm_protocol.specs.Points.{target}
use Rattle.lfm_table.specs.declared.seat_view.View.{View}
use Rattle.lfm_table.proofs.tables.StepFacts.{carrying}
use Rattle.lfm_pool.specs.declared.pool.Pool.{Pool}
use Rattle.lfm_pool.specs.declared.pool.TableSeat.{TableSeat}
use Rattle.lfm_pool.specs.declared.view.Note.{Note}
use Rattle.lfm_pool.specs.declared.view.PoolView.{PoolView}
use Rattle.lfm_pool.specs.Belongs.{IsMutex, OfPool, SameSeat}
use Rattle.lfm_pool.specs.Carrying.{CarriesIn, NotesIn}
use Rattle.lfm_pool.specs.Chain.{AreWithin, HasRecord, first_link, first_seat, note_after, rested}
use Rattle.lfm_pool.specs.Seats.{MovesIn, RestsInOthers, SitsIn, note_of, popped_of, state_of}
use Rattle.lfm_pool.specs.SeatWords.{Grants}
use Rattle.lfm_pool.specs.Serving.{GrantsIn, ServesOldest}
use Rattle.lfm_pool.specs.Steps.{RestsElsewhere, Sits, Stepped}
use Rattle.lfm_pool.specs.Tables.{note, part, with_part}
use Rattle.lfm_pool.proofs.FastPaths.{elsewhere_with, twice_with}
use Rattle.lfm_pool.proofs.LoneTables.{note_same, part_same}

pub first_within : (most : ℕ) (l : List Record) → AreWithin most l → first_seat l ≤ most
first_within most [] within = omega arith
first_within most (r ∷ rest) within = within r.seat (inl refl)

-- a call that grants the oldest record next
module _ (p : Pool) (s : TableSeat) (m : ℕ) (sits : SitsIn s p m) (serves : ServesOldest s m) where
  abbrev r : Record
  r = serves.1

  abbrev rest : List Record
  rest = serves.3.0

  pub serves_carries : CarriesIn s m
  serves_carries = carrying (state_of s m) (ap carries serves.2)

  pub serves_seat : (oldest : ℕ) → oldest ≡ first_seat (popped_of s m) → (0 < oldest) × (oldest ≤ p.limits.seats)
  serves_seat oldest is =
      let there = subst (λ (q : Point). (0 < target q s.number) × (target q s.number ≤ p.limits.seats)) serves.2 (sits.ready.above, sits.ready.within) in
      let same : oldest ≡ serves.1.seat = is ∙ ap first_seat serves.3.1 in
      (omega (arith, there.0, same), omega (arith, there.1, same))

  -- what the link word tells
  pub serves_link : (link : Link) (word : ℕ) → link_word link ≡ word → link.next < seat_field_size → word ≡ first_link (popped_of s m) → AreWithin max_seats (popped_of s m)
      → link ≡ record { stamp = serves.1.stamp; next = first_seat serves.3.0 }
  serves_link link word packs small finds within =
      let l : List Record = serves.3.0 in
      let same : link.stamp * seat_field_size + link.next ≡ serves.1.stamp * seat_field_size + first_seat serves.3.0 = packs ∙ finds ∙ ap first_link serves.3.1 in
      let later : AreWithin max_seats serves.3.0 = λ t has. within t (subst (λ (k : List Record). HasRecord t k) (sym serves.3.1) (inr has)) in
      let low = first_within max_seats serves.3.0 later in
      λ i. record { stamp = (let q : link.stamp ≡ serves.1.stamp = omega (arith, same, small, low) in q) i; next = (let q : link.next ≡ first_seat serves.3.0 = omega (arith, same, small, low) in q) i }

  -- after the load of the link and the store of the carried word
  module _ (mutex : IsMutex m p) (belongs : OfPool s p) (s1 s2 : TableSeat) (knows : s1.place.me ≡ s.place.me) (same1 : SameSeat s s1) (same2 : SameSeat s1 s2) (next : ℕ)
      (notes : NotesIn s1 s2 m (record (note_of s1 m) { carried = next })) where
    here : m < length s1.place.me.0.parts
    here = let a = same1.parts in let b = belongs.parts in omega (arith, a, b, mutex)

    abbrev k : Note
    k = record (note_of s1 m) { carried = next }

    pub served_part : part s2.place.me.0 m ≡ part s.place.me.0 m
    served_part = ap (λ (z : Me ℕ PoolView). part z.0 m) notes ∙ part_same s1.place.me.0 m (part s1.place.me.0 m) (record (note_of s1 m) { carried = next }) here ∙ ap (λ (z : Me ℕ PoolView). part z.0 m) knows

    served_note : note_of s2 m ≡ record (note_of s1 m) { carried = next }
    served_note = ap (λ (z : Me ℕ PoolView). note z.0 m) notes ∙ note_same s1.place.me.0 m (part s1.place.me.0 m) (record (note_of s1 m) { carried = next }) here

    -- the rest of the popped records is in the chain, and the carried word names the oldest of it
    pub served_whole : note_of s m ≡ rested (popped_of s m) → next ≡ first_seat serves.3.0 → note_of s2 m ≡ rested (drop 1 (popped_of s2 m))
    served_whole whole e =
        let due : (note_of s1 m).due ≡ 0 = ap (λ (z : Me ℕ PoolView). (note z.0 m).due) knows ∙ ap (λ (n : Note). n.due) whole in
        let list : popped_of s2 m ≡ serves.1 ∷ serves.3.0 = ap (λ (y : View ⊤). y.popped) served_part ∙ serves.3.1 in
        served_note ∙ (λ i. record { due = due i; carried = (e ∙ ap (λ (l : List Record). first_seat (drop 1 l)) (sym list)) i })

    number_is : s2.number ≡ s.number
    number_is = same2.number ∙ same1.number

    id_is : s2.place.id ≡ s.place.id
    id_is = same2.id ∙ same1.id

    pub served_sits : SitsIn s2 p m
    served_sits = subst (λ (y : ℕ × ℕ × View ⊤). Sits y.0 y.1 p.limits y.2.state y.2) (λ i. (sym number_is i, sym id_is i, sym served_part i)) sits

    pub served_elsewhere : RestsInOthers s m → RestsInOthers s2 m
    served_elsewhere elsewhere =
        subst (λ (z : Me ℕ PoolView). RestsElsewhere z.0 m) (sym notes)
        (elsewhere_with s1.place.me.0 m (part s1.place.me.0 m) (record (note_of s1 m) { carried = next }) (subst (λ (z : Me ℕ PoolView). RestsElsewhere z.0 m) (sym knows) elsewhere))

    pub served_grants : (o : Record) → o ≡ serves.1 → Grants o (state_of s2 m)
    served_grants o e = (serves.0, ap (λ (y : View ⊤). y.state.point) served_part ∙ serves.2 ∙ ap (λ (x : Record). GrantWakeStore serves.0 x) (sym e))

    pub granted : (s3 : TableSeat) (o : Record) → MovesIn s2 s3 p m (wake_word (Grant o.stamp)) → GrantsIn s s3 p m o
    granted s3 o did = (
      did.0,
      note_after (state_of s2 m) did.0 (note_of s2 m),
      did.1 ∙ ap (λ (z : Me ℕ PoolView). (with_part z.0 m did.0 (note_after (state_of s2 m) did.0 (note_of s2 m)), z.1)) notes
          ∙ (λ i. (twice_with s1.place.me.0 m (part s1.place.me.0 m) did.0 (record (note_of s1 m) { carried = next }) (note_after (state_of s2 m) did.0 (note_of s2 m)) i, s1.place.me.1))
          ∙ ap (λ (z : Me ℕ PoolView). (with_part z.0 m did.0 (note_after (state_of s2 m) did.0 (note_of s2 m)), z.1)) knows,
      (
        subst (λ (y : ℕ × View ⊤). Stepped y.0 y.1.state y.1 (wake_word (Grant o.stamp)) did.0) (λ i. (number_is i, served_part i)) did.3,
        subst (λ (y : ℕ × ℕ). Sits y.0 y.1 p.limits did.0.state did.0) (λ i. (number_is i, id_is i)) did.2,
      ),
    )
