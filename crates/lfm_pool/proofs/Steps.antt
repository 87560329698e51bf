-- The next step of a seat in one mutex keeps the rule of the pool.
use Rattle.std.proofs.Common.{◌≡◌, ◌≢◌, ◌⊎◌, ℕ, ◌+◌, ◌*◌, ◌^◌, ◌<◌, ◌≤◌, List, drop, length, set, refl, sym, ap, ◌∙◌, subst, inl, inr, arith, tests, length-set, Option, Some}
use Rattle.std.specs.Prelude.{⊤, Bool, true, false, slice_index}
use Rattle.std.proofs.lemmas.List.{get_or-set_other, get_or-set_same}
use Rattle.std.proofs.lemmas.Bool.{cases_eq, false≢true}
use mathlib.Core.Option.{some, some-injective}
use lib.ListN.{get_elem?}
use Rattle.atomic_table.specs.Table.{State, Me, Act, keeps, stepped, carried_after, Valid, Allows}
use Rattle.atomic_table.proofs.Lists.{set_here, set_else}
use Rattle.lfm_model.specs.declared.answers.How.{How}
use Rattle.lfm_words.specs.declared.links.Link.{Link}
use Rattle.lfm_words.specs.declared.pop_lists.Record.{Record}
use Rattle.lfm_words.specs.declared.wakes.Wake.TheVariants.{Grant}
use Rattle.lfm_words.specs.Popped.{oldest}
use Rattle.lfm_words.specs.Words.{is_grant_word, link_of as link_in, wake_word}
use Rattle.lfm_protocol.specs.declared.kinds.Kind.{Kind}
use Rattle.lfm_protocol.specs.declared.kinds.Word.{Word}
use Rattle.lfm_protocol.specs.declared.limits.Limits.{Limits}
use Rattle.lfm_protocol.specs.declared.points.Carrier.{Carrier}
use Rattle.lfm_protocol.specs.declared.points.Point.{Point}
use Rattle.lfm_protocol.specs.declared.points.Entrant.{Entrant}
use Rattle.lfm_protocol.specs.declared.points.Point.TheVariants.{LinkStore, PushExchange, TakeLinkLoad, GrantWakeStore, EnterOwnerStore, ReceiveWakeLoad, ReceiveWakeStore}
use Rattle.lfm_protocol.specs.declared.points.Pusher.{Pusher}
use Rattle.lfm_protocol.specs.declared.points.Sleeper.{Sleeper}
use Rattle.lfm_protocol.specs.declared.seats.SeatState.{SeatState}
use Rattle.lfm_protocol.specs.Core.{Core, limits, put}
use Rattle.lfm_protocol.specs.Points.{kind, target}
use Rattle.lfm_protocol.specs.Place.{carries}
use Rattle.lfm_protocol.specs.Seats.{seat, wake, with_entry, IsSeat}
use Rattle.lfm_protocol.specs.Step.{made}
use Rattle.lfm_laws.specs.steady.EventOutcome.{abstract}
use Rattle.lfm_laws.specs.steady.Steady.{DepthAt, Fits, NumbersFit}
use Rattle.lfm_laws.specs.table.Carried.{carries_value}
use Rattle.lfm_laws.specs.table.Settles.{Settles}
use Rattle.lfm_laws.specs.table.Words.{words, index, index_by, written_by, stepped_by, popped_by_step}
use Rattle.lfm_laws.proofs.steady.frames.Entries.{seat-with_same, seat-with_other}
use Rattle.lfm_laws.proofs.steady.queue.Pushers.{fits_at}
use Rattle.lfm_laws.proofs.table.Reads.{read_word}
use Rattle.lfm_laws.proofs.table.Settled.{settles_keeps}
use Rattle.lfm_laws.proofs.table.TableSteps.{found_at, table_step}
use Rattle.lfm_laws.proofs.table.Values.{carried_alone, tells_value}
use Rattle.lfm_table.specs.declared.seat_view.View.{View}
use Rattle.lfm_table.specs.declared.operations.Access.{Access}
use Rattle.lfm_table.specs.Accesses.{word_at, becomes, is_store}
use Rattle.lfm_table.specs.Actions.{seen, told_of}
use Rattle.lfm_table.specs.Rule.{Advanced}
use Rattle.lfm_table.specs.Settled.{Became}
use Rattle.lfm_table.specs.Steps.{CanMake, gives_at, stores}
use Rattle.lfm_table.proofs.tables.CoreFacts.{carried_same, push_found}
use Rattle.lfm_table.proofs.tables.RuleKept.{led_within, length_at}
use Rattle.lfm_table.proofs.tables.SettledKept.{settles_of}
use Rattle.lfm_table.proofs.tables.StepFacts.{carrying, keeps_value, list_stays, made_of, told_list}
use Rattle.lfm_pool.specs.declared.accesses.PoolAccess.{PoolAccess}
use Rattle.lfm_pool.specs.declared.pool.Pool.{Pool}
use Rattle.lfm_pool.specs.declared.pool.TableSeat.{TableSeat}
use Rattle.lfm_pool.specs.declared.view.Admission.{Admission}
use Rattle.lfm_pool.specs.declared.view.Note.{Note}
use Rattle.lfm_pool.specs.declared.view.PoolView.{PoolView}
use Rattle.lfm_pool.specs.Admissions.{HasSeen, HasStamps, pushed_at, pushes, stamp_in}
use Rattle.lfm_pool.specs.Chain.{HasRecord, IsChain, due_after, first_seat, note_after, note_by, rested}
use Rattle.lfm_pool.specs.Tables.{any_follows, any_fits, Slot, MutexTable, IsKept, IsUncollected, note, part, with_part, has_link, has_link_at}
use Rattle.lfm_pool.specs.Posts.{HeldPosts, KeepsPost, KeepsPosts}
use Rattle.lfm_pool.specs.Rule.{own_at, link_at, wake_at, HeldPool, NobodyCarries}
use Rattle.lfm_pool.specs.Steps.{KeepsChainIn, RestsElsewhere, TellsOf, IsStepAt, IsStepOf, IsWordAt, is_at_seat_word}
use Rattle.lfm_pool.proofs.Chains.{chain_less, first_or_rest}
use Rattle.lfm_pool.proofs.Lifting.{Chained, IsBusyIn, held_after, mine, own_wake, within}
use Rattle.lfm_pool.proofs.Links.{gains_link, link_kept, link_of_begun, linked_busy, own_gains_none}
use Rattle.lfm_pool.proofs.LoneTables.{admission_same, part_other, part_same, seats_of}
use Rattle.lfm_pool.proofs.PoppedRecords.{collected_ungranted, collected_unpopped, popped_linked}
use Rattle.lfm_pool.proofs.PoppedViews.{HasLinkAt, linked_view, place_of}
use Rattle.lfm_pool.proofs.PostStates.{is_at_handoff, is_other, keeps_became, keeps_same, keeps_stepped}
use Rattle.lfm_pool.proofs.Numbers.{numbers_of, own_posts, same_stamps, same_stamps_own, stamp_of, stamp_of_table}
use Rattle.lfm_pool.proofs.PostsKept.{Does, LeavesStamps, does_posts}
use Rattle.lfm_pool.proofs.Stamps.{admitted_after, admitted_elsewhere, pushes_more, stamp_left, stamps_kept}
use Rattle.lfm_pool.proofs.StepNumbers.{numbers_after, stamp_after}
use Rattle.lfm_pool.proofs.Targets.{collected_linked, granted_linked}
use Rattle.lfm_pool.proofs.WordIndexes.{IsOfSeat, index_inside, link_same, link_there, not_link, own_same, wake_same, wake_there, word_inside}

-- Words of wakes

is_grant : (stamp : ℕ) → is_grant_word (wake_word (Grant stamp)) ≡ true
is_grant stamp = search (tests, arith)

-- Two seats do not carry one mutex

pub one_carries : (q : MutexTable) (k : IsKept q) (i j : ℕ) (y z : View ⊤) → i ≢ j → get_elem? q.views i ≡ some y → get_elem? q.views j ≡ some z → (b : Bool) → carries_value y.state ≡ b → carries_value z.state ≡ true → b ≡ false
one_carries q k i j y z differ e f false is carries = refl
one_carries q k i j y z differ e f true is carries =
    let first = ap carries_value (k.each i y e).state ∙ is in
    let second = ap carries_value (k.each j z f).state ∙ carries in
    let same : i + 1 ≡ j + 1 = carried_alone k.core.seats (abstract k.ghost_state).place (i + 1) (j + 1) (tells_value k.core k.ghost_state k.fits) first second in
    absurd (differ (omega (arith, same)))

-- The load of a link

loading : (p : SeatState) (carrier : Carrier) (next : ℕ) → p.point ≡ TakeLinkLoad carrier next → carries_value p ≡ true
loading p carrier next e = carrying p (ap carries e)

not_loading_at : (d t ps due : ℕ) (q : Point) → carries_value (made_of d t ps q) ≡ false → due_after q due ≡ due
not_loading_at d t ps due (TakeLinkLoad carrier next) none = absurd (false≢true (sym none ∙ carrying (made_of d t ps (TakeLinkLoad carrier next)) refl))
not_loading_at d t ps due _ none = refl

not_loading : (p : SeatState) (due : ℕ) → carries_value p ≡ false → due_after p.point due ≡ due
not_loading p due none = not_loading_at p.depth p.takes p.posts due p.point none

gives_at_none : (due : ℕ) (q : Point) → gives_at q ≡ true → due_after q due ≡ due
gives_at_none due (TakeLinkLoad carrier next) gives = absurd (false≢true gives)
gives_at_none due _ gives = refl

gives_by : (b : Bool) (p : SeatState) → gives_at p.point ≡ b → (number n : ℕ) (o : Option Record) (due : ℕ) → carries_value p ≡ true → carries_value (stepped_by p number n o).seat ≡ false → due_after p.point due ≡ due
gives_by true p e number n o due before gone = gives_at_none due p.point e
gives_by false p e number n o due before gone = absurd (false≢true (sym gone ∙ keeps_value p number n o e before))

-- a step that gives the mutex away loads no link
gives_no_load : (p : SeatState) (number n : ℕ) (o : Option Record) (due : ℕ) → carries_value p ≡ true → carries_value (stepped_by p number n o).seat ≡ false → due_after p.point due ≡ due
gives_no_load p number n o due before gone = gives_by (gives_at p.point) p refl number n o due before gone

-- what is in the chain before a step is so after it, except a record that leaves the pop list
shorter_at : (mutexes : ℕ) (ws : List ℕ) (d t ps number n due : ℕ) (l : List Record) (q : Point) → ((carrier : Carrier) (next : ℕ) → q ≡ TakeLinkLoad carrier next → due ≡ 0)
    → IsChain mutexes ws (drop due l) → IsChain mutexes ws (drop (due_after q due) (popped_by_step (made_of d t ps q) number n l))
shorter_at mutexes ws d t ps number n due l (TakeLinkLoad carrier next) whole chain =
    let none = whole carrier next refl in
    subst (λ (i : ℕ). IsChain mutexes ws (drop (i + 1) (popped_by_step (made_of d t ps (TakeLinkLoad carrier next)) number n l))) (sym none)
    (subst (λ (i : ℕ). IsChain mutexes ws (drop i l)) none chain)
shorter_at mutexes ws d t ps number n due l (EnterOwnerStore Entrant.Locker (How.Queued stamp)) whole chain = chain_less mutexes ws due l chain
shorter_at mutexes ws d t ps number n due l (GrantWakeStore carrier first) whole chain = chain_less mutexes ws due l chain
shorter_at mutexes ws d t ps number n due l _ whole chain = chain

module _ (id m number mutexes seats : ℕ) (me : Me ℕ PoolView) (p : SeatState) (hand : Option ⊤) (slots : List (ℕ × Slot)) (inside : (m < mutexes) × (length me.0.parts ≡ mutexes))
    (can : CanMake any_follows any_fits p hand number seats (4 + 2 * seats) (part me.0 m, slots)) (elsewhere : RestsElsewhere me.0 m) (a : PoolAccess) (is : IsStepOf mutexes seats m number p a) (keeps_chain : KeepsChainIn number m p me.0) where
  pub here : m < length me.0.parts
  here = omega (arith, inside.0, inside.1)

  abbrev X : ℕ
  X = a.index

  abbrev Y : ℕ
  Y = word_at a.access

  -- what the word becomes, and what the step tells, if it finds n
  abbrev f : ℕ → ℕ
  f n = becomes a.access n

  abbrev k : ℕ → ℕ
  k n = told_of (is_store a.access) (becomes a.access n) n

  -- the numbers fit before the step and after it
  module _ (s : State ℕ PoolView) (h : HeldPool s) (at : get_elem? s.views id ≡ some me.0) (numbers : NumbersFit (h.kept m (within id m me.0 here elsewhere s h at)).core)
      (stamp : (h.kept m (within id m me.0 here elsewhere s h at)).core.push.stamp + pushed_at p.point (k (slice_index (h.tables m).words Y)) + 1 < 2 ^ 48) (posts : (n : ℕ) (o : Option Record) → (stepped_by p number n o).seat.posts + 1 < 2 ^ 48) where
    abbrev inner : m < h.mutexes
    inner = within id m me.0 here elsewhere s h at

    abbrev lone : IsKept (h.tables m)
    lone = h.kept m (within id m me.0 here elsewhere s h at)

    abbrev c : Core
    c = lone.core

    own_view : get_elem? (h.tables m).views id ≡ some (part me.0 m)
    own_view = mine id m me.0 here elsewhere s h at

    number_is : number ≡ id + 1
    number_is = sym can.named ∙ (lone.each id (part me.0 m) own_view).number

    limits_are : (part me.0 m).limits ≡ limits c
    limits_are = (lone.each id (part me.0 m) own_view).limits_are

    seats_are : h.seats ≡ seats
    seats_are = let w = seats_of (h.tables m) lone in let l = ap (λ (x : Limits). x.seats) limits_are in omega (arith, w, h.sized m inner, l, can.seats_are)

    mutexes_are : h.mutexes ≡ mutexes
    mutexes_are = sym (h.wide id me.0 at) ∙ inside.1

    id_inside : id < h.seats
    id_inside = let l = length_at (h.tables m).views id (part me.0 m) own_view in let w = seats_of (h.tables m) lone in omega (arith, l, w, h.sized m inner, lone.few)

    is_word : IsWordAt h.mutexes h.seats m X Y
    is_word = subst (λ (z : ℕ × ℕ). IsWordAt z.0 z.1 m X Y) (λ i. (sym mutexes_are i, sym seats_are i)) is.1

    -- The seat at the table of the mutex

    is_seat : IsSeat c.seats number
    is_seat = record { above = omega (arith, number_is); within = let l = length_at (h.tables m).views id (part me.0 m) own_view in omega (arith, number_is, lone.few, l) }

    stands : seat c.seats number ≡ (part me.0 m).state
    stands = ap (λ (n : ℕ). seat c.seats n) number_is ∙ (lone.each id (part me.0 m) own_view).state

    settles : Settles (seat c.seats number) (limits c) p
    settles = subst (λ (t : SeatState × Limits). Settles t.0 t.1 p) (λ j. (sym stands j, limits_are j)) (settles_of (part me.0 m).state (part me.0 m).limits p can.became)

    settled : Fits (put lone.core number p) lone.ghost_state
    settled = settles_keeps lone.core lone.ghost_state number p is_seat lone.fits settles

    own_seat : seat (with_entry lone.core.seats number p) number ≡ p
    own_seat = seat-with_same lone.core.seats number p is_seat

    same_carries : carries_value (part me.0 m).state ≡ carries_value p
    same_carries = ap carries_value (sym stands) ∙ carried_same c lone.ghost_state number p is_seat lone.fits settles

    -- if it carries the mutex, it knows the popped records, and how many of them are not in the chain
    knows_popped : carries_value p ≡ true → (part me.0 m).popped ≡ c.popped
    knows_popped carries = (lone.outside id (part me.0 m) own_view (same_carries ∙ carries)).popped

    knows_note : carries_value p ≡ true → note me.0 m ≡ record { due = h.dues m; carried = slice_index s.words (own_at m 4) }
    knows_note carries = h.noted m id me.0 inner at (same_carries ∙ carries)

    -- and no other seat does
    alone : (j : ℕ) (z : PoolView) → j ≢ id → get_elem? s.views j ≡ some z → carries_value (part z m).state ≡ true → carries_value p ≡ false
    alone j z other e carries = one_carries (h.tables m) lone id j (part me.0 m) (part z m) (λ same. other (sym same)) own_view (h.parts m j z inner e) (carries_value p) same_carries carries

    -- The step at the table of the mutex

    abbrev found : ℕ
    found = slice_index s.words X

    abbrev found_there : ℕ
    found_there = slice_index (h.tables m).words Y

    -- the popped records after the step, and how many of them are not in the chain then
    abbrev popped_now : List Record
    popped_now = popped_by_step p number (k (slice_index (h.tables m).words Y)) lone.core.popped

    abbrev due_now : ℕ
    due_now = due_after p.point (h.dues m)

    abbrev Goes : ℕ × ℕ → Type 0
    Goes z =
        (w : View ⊤) × (b : Act Slot) × Valid (h.tables m).homes slots b × (after : IsKept (stepped (h.tables m) Y z.0 id slots w b)) × (after.core.popped ≡ popped_now) × Advanced any_follows any_fits p hand (part me.0 m, slots) z.1 (w, carried_after slots b)
        × (after.core.push.stamp ≡ lone.core.push.stamp + pushed_at p.point z.1)

    -- a step that does not store tells what it finds
    tells_found : (n : ℕ) → stores (kind p.point) ≡ false → k n ≡ n
    tells_found n none = ap (λ (b : Bool). told_of b (becomes a.access n) n) (is.0.4 ∙ ap stores (sym is.0.1) ∙ none)

    at_core : index p (length c.seats) number ≡ Y
    at_core = (λ j. index_by ((sym (ap (λ (x : Limits). x.seats) limits_are) ∙ can.seats_are) j) (target p.point number) (is.0.1 j)) ∙ sym is.0.2

    found_is : found_at lone.core number p ≡ found_there
    found_is = ap (λ (t : List ℕ × ℕ). slice_index t.0 t.1) (λ j. (sym lone.words_are j, at_core j))

    -- an exchange of the push word finds the push word
    found_push : (pusher : Pusher) (old : Link) → p.point ≡ PushExchange pusher old → link_in (k found_there) ≡ lone.core.push
    found_push pusher old e =
        let by : kind p.point ≡ Some Kind.PushExchange = ap kind e in
        ap link_in (tells_found found_there (ap stores by) ∙ (sym found_is ∙ ap (λ (q : Option Kind). slice_index (words lone.core) (index_by (length lone.core.seats) (target p.point number) q)) by))
        ∙ push_found lone.core lone.ghost_state number p is_seat lone.fits settles

    fit_after : NumbersFit (made (put lone.core number p) number).core
    fit_after = numbers_after lone.core lone.ghost_state number p is_seat lone.fits settles (k found_there) found_push lone.narrow numbers stamp (posts (found_at lone.core number p) (oldest lone.core.popped))

    stamped : (made (put lone.core number p) number).core.push.stamp ≡ lone.core.push.stamp + pushed_at p.point (k found_there)
    stamped = stamp_after lone.core lone.ghost_state number p is_seat lone.fits settles (k found_there) found_push

    popped_made : (made (put lone.core number p) number).core.popped ≡ popped_now
    popped_made =
        let ts = table_step lone.core lone.ghost_state number p is_seat lone.fits lone.narrow numbers fit_after settles in
        ap (λ (e : Core). e.popped) (sym ts.is_made) ∙ ts.popped_are ∙ ap (λ (n : ℕ). popped_by_step p number n lone.core.popped) found_is
        ∙ told_list p (target p.point number) found_there (k found_there) lone.core.popped (kind p.point) (tells_found found_there)

    led : Goes (f found_there, k found_there)
    led =
        let at_word = is.0.2 ∙ (λ j. index_by (sym can.seats_are j) (target p.point (sym can.named j)) (sym is.0.1 j)) in
        let writes : (n : ℕ) → becomes a.access n ≡ written_by p (part me.0 m).number n (kind p.point) = λ n. is.0.3 n ∙ (λ j. written_by p (sym can.named j) n (sym is.0.1 j)) in
        let d = led_within any_follows any_fits 1 id (part me.0 m, slots) p hand (word_at a.access) (λ n. becomes a.access n) (λ n. told_of (is_store a.access) (becomes a.access n) n) can.user can.became at_word writes
        (λ n. ap (λ (b : Bool). told_of b (becomes a.access n) n) is.0.4 ∙ (λ j. told_of (stores (sym is.0.1 j)) (writes n j) n)) can.hand (h.tables m) lone own_view
        numbers (subst (λ (i : ℕ). NumbersFit (made (put lone.core i p) i).core) (sym can.named) fit_after)
        in (
          d.0,
          d.1,
          d.2,
          d.3.0,
          ap (λ (e : Core). e.popped) d.3.1 ∙ ap (λ (i : ℕ). (made (put lone.core i p) i).core.popped) can.named ∙ popped_made,
          d.4,
          ap (λ (e : Core). e.push.stamp) d.3.1 ∙ ap (λ (i : ℕ). (made (put lone.core i p) i).core.push.stamp) can.named ∙ stamped,
        )

    -- What the pool needs of it

    -- the record of the seat at place j can't be collected after the step: the step grants it, or the seat is the one that
    -- steps, and has no link after it
    abbrev IsOut : ℕ → Type 0
    IsOut j = ((Y ≡ 4 + h.seats + j) × (is_grant_word (f found_there) ≡ true)) ⊎ ((j ≡ id) × ((n : ℕ) (o : Option Record) → has_link_at (stepped_by p number n o).seat.point ≡ false))

    -- same: the step does the same with the pool's word as with the table's
    -- gains: it gains a link by storing it
    -- busy: the seat whose word it is does not rest in the mutex
    -- calm: it changes no link word but the seat's own, whose record is not popped
    -- wakes: it changes a wake word only if it grants, or takes its own grant
    abbrev Lifts : Type 0
    Lifts = ((f found ≡ f found_there) × (k found ≡ k found_there))
        × ((n : ℕ) (o : Option Record) → has_link_at (stepped_by p number n o).seat.point ≡ true → (has_link_at p.point ≡ true) ⊎ (link_at h.mutexes id ≡ X))
        × ((j : ℕ) → IsOfSeat h.mutexes X j → IsBusyIn s id m j)
        × ((j : ℕ) → link_at h.mutexes j ≡ X → (f found ≡ found) ⊎ ((j ≡ id) × (HasRecord (id + 1) (h.popped m) → ⊥)))
        × ((j : ℕ) → Y ≡ 4 + h.seats + j → (f found_there ≡ found_there) ⊎ IsOut j)

    same_words : found ≡ found_there → (f found ≡ f found_there) × (k found ≡ k found_there)
    same_words e = (ap (λ (n : ℕ). becomes a.access n) e, ap (λ (n : ℕ). told_of (is_store a.access) (becomes a.access n) n) e)

    gains_none : gains_link p.point ≡ false → (n : ℕ) (o : Option Record) → has_link_at (stepped_by p number n o).seat.point ≡ true → (has_link_at p.point ≡ true) ⊎ (link_at h.mutexes id ≡ X)
    gains_none plain n o has = inl (link_kept p number n o plain has)

    of_mutex : Y < 4 → Lifts
    of_mutex low =
        let there : X ≡ own_at m Y = elim is.1 [
          | inl own ↦ own.1
          | inr seat ↦ elim seat.2 [ inl link ↦ absurd (omega (arith, link.0, low)) | inr wake ↦ absurd (omega (arith, wake.0, low)) ]
        ]
        in
        let some : 0 < target p.point number = can.ready.above in
        let low_by : index_by seats (target p.point number) (Some is.0.0) < 4 = subst (λ (i : ℕ). i < 4) is.0.2 low in (
          same_words (ap (λ (i : ℕ). slice_index s.words i) there ∙ h.own m Y inner low),
          gains_none (own_gains_none seats number p.point is.0.0 is.0.1 some low_by),
          (λ j of_seat. elim of_seat [ inl e ↦ absurd (omega (arith, e, there, low, inner)) | inr e ↦ absurd (omega (arith, e, there, low, inner)) ]),
          (λ j e. absurd (not_link h.mutexes h.seats m X Y inner is_word j (inl low) e)),
          λ j e. absurd (omega (arith, e, low)),
        )

    -- a word of a seat, by its kind and the number of that seat
    link_of : (t j : ℕ) → Y ≡ 3 + t → t ≤ seats → IsOfSeat h.mutexes X j → t ≡ j + 1
    link_of t j e within of_seat = elim of_seat [
      | inl link ↦ let w = link_same h.mutexes h.seats m X Y inner is_word j link in omega (arith, w, e)
      | inr wake ↦ let w = wake_same h.mutexes h.seats m X Y inner is_word j wake in absurd (omega (arith, w, e, within, seats_are))
    ]

    wake_of : (t j : ℕ) → Y ≡ 3 + seats + t → 0 < t → IsOfSeat h.mutexes X j → t ≡ j + 1
    wake_of t j e above of_seat = elim of_seat [
      | inl link ↦ absurd (not_link h.mutexes h.seats m X Y inner is_word j (inr (omega (arith, e, above, seats_are))) link)
      | inr wake ↦ let w = wake_same h.mutexes h.seats m X Y inner is_word j wake in omega (arith, w, e, seats_are)
    ]

    own_link_at : Y ≡ 3 + number → link_at h.mutexes id ≡ X
    own_link_at e = link_there h.mutexes h.seats m X Y inner is_word id id_inside (omega (arith, e, number_is))

    wake_word_at : (j : ℕ) → Y ≡ 4 + h.seats + j → wake_at h.mutexes j ≡ X
    wake_word_at j e = wake_there h.mutexes h.seats m X Y inner is_word j (sym e)

    -- its own link or wake word
    own_only : (j : ℕ) → number ≡ j + 1 → IsBusyIn s id m j
    own_only j e = inl (omega (arith, e, number_is))

    same_own_wake : Y ≡ 3 + seats + number → found ≡ found_there
    same_own_wake e =
        let there : Y ≡ 4 + h.seats + id = omega (arith, e, number_is, seats_are) in
        ap (λ (i : ℕ). slice_index s.words i) (sym (wake_word_at id there)) ∙ own_wake id m me.0 here elsewhere s h at ∙ ap (λ (i : ℕ). slice_index (h.tables m).words i) (sym there)

    -- A queued seat

    abbrev HasLink : ℕ → Type 0
    HasLink j = HasLinkAt s h m (within id m me.0 here elsewhere s h at) j

    linked_seat : (j : ℕ) → has_link_at (seat (with_entry lone.core.seats number p) (j + 1)).point ≡ true → HasLink j
    linked_seat j has = elim (cases_eq (j + 1) number) [
      | inl same ↦
          let place : j ≡ id = omega (arith, same, number_is) in
          let mine : has_link_at p.point ≡ true = ap (λ (x : SeatState). has_link_at x.point) (sym own_seat) ∙ ap (λ (n : ℕ). has_link_at (seat (with_entry lone.core.seats number p) n).point) (sym same) ∙ has in
          (me.0, ap (λ (i : ℕ). get_elem? s.views i) place ∙ at, link_of_begun (part me.0 m).state (part me.0 m).limits p can.became mine)
      | inr other ↦
          linked_view s h m inner j (ap (λ (x : SeatState). has_link_at x.point) (sym (seat-with_other lone.core.seats number (j + 1) p other)) ∙ has)
    ]

    busy_seat : (t : ℕ) (i : ℕ) → t ≡ i + 1 → HasLink i → (j : ℕ) → t ≡ j + 1 → IsBusyIn s id m j
    busy_seat t i placed z j e = inr (z.0, ap (λ (n : ℕ). get_elem? s.views n) (omega (arith, placed, e)) ∙ z.1, linked_busy (part z.0 m).state.point z.2)

    -- the record of a seat without a link is not popped
    unpopped : has_link_at p.point ≡ false → HasRecord (id + 1) (h.popped m) → ⊥
    unpopped none has =
        let listed : HasRecord number lone.core.popped = subst (λ (y : ℕ × List Record). HasRecord y.0 y.1) (λ i. (sym number_is i, sym (h.listed m inner) i)) has in
        let linked = popped_linked (put lone.core number p) lone.ghost_state settled number listed in
        false≢true (sym none ∙ ap (λ (x : SeatState). has_link_at x.point) (sym own_seat) ∙ linked)

    -- By the point of the seat

    link_store : (seen : Link) → p.point ≡ LinkStore Pusher.Locker seen → Lifts
    link_store seen e =
        let by : Kind.LinkStore ≡ is.0.0 = let q = sym (ap kind e) ∙ is.0.1 in cc in
        let there : Y ≡ 3 + number = is.0.2 ∙ (λ i. index_by seats (target (e i) number) (Some (sym by i))) in
        let most : number ≤ seats = let w = can.ready.within in subst (λ (q : Point). target q number ≤ seats) e w in
        let storing : is_store a.access ≡ true = is.0.4 ∙ (λ i. stores (Some (sym by i))) in
        let stored : (n : ℕ) → becomes a.access n ≡ written_by p number 0 (Some Kind.LinkStore) = λ n. is.0.3 n ∙ (λ i. written_by p number n (Some (sym by i))) in
        let same : becomes a.access found ≡ becomes a.access found_there = stored found ∙ sym (stored found_there) in
        let told : (n : ℕ) → told_of (is_store a.access) (becomes a.access n) n ≡ becomes a.access n = λ n. ap (λ (b : Bool). told_of b (becomes a.access n) n) storing in (
          (same, told found ∙ same ∙ sym (told found_there)),
          (λ n o has. inr (own_link_at there)),
          (λ j of_seat. own_only j (link_of number j there most of_seat)),
          (λ j hit. inr (let w = link_of number j there most (inl hit) in omega (arith, w, number_is), unpopped (ap has_link_at e))),
          λ j wake. absurd (omega (arith, there, wake, most, seats_are)),
        )

    -- the step of a seat on its own wake word: a load, or a store by which it takes its grant
    own_wake_step : (b : Kind) → is.0.0 ≡ b → index_by seats (target p.point number) (Some b) ≡ 3 + seats + number → gains_link p.point ≡ false
        → (f found_there ≡ found_there) ⊎ ((n : ℕ) (o : Option Record) → has_link_at (stepped_by p number n o).seat.point ≡ false) → Lifts
    own_wake_step b by at_wake plain keeps_or_takes =
        let there : Y ≡ 3 + seats + number = is.0.2 ∙ ap (λ (x : Kind). index_by seats (target p.point number) (Some x)) by ∙ at_wake in (
          same_words (same_own_wake there),
          gains_none plain,
          (λ j of_seat. own_only j (wake_of number j there (omega (arith, number_is)) of_seat)),
          (λ j hit. absurd (not_link h.mutexes h.seats m X Y inner is_word j (inr (omega (arith, there, number_is, seats_are))) hit)),
          λ j wake. elim keeps_or_takes [
            | inl same ↦ inl same
            | inr none ↦ inr (inr (omega (arith, wake, there, number_is, seats_are), none))
          ],
        )

    -- a load leaves the word as it was
    load_keeps : (b : Kind) → is.0.0 ≡ b → ((n : ℕ) → written_by p number n (Some b) ≡ n) → (n : ℕ) → becomes a.access n ≡ n
    load_keeps b by same n = is.0.3 n ∙ ap (λ (x : Kind). written_by p number n (Some x)) by ∙ same n

    wake_load : (sleeper : Sleeper) → p.point ≡ ReceiveWakeLoad sleeper → Lifts
    wake_load sleeper e =
        let by : is.0.0 ≡ Kind.WakeLoad = let q = sym (ap kind e) ∙ is.0.1 in cc in
        own_wake_step Kind.WakeLoad by (ap (λ (q : Point). 3 + seats + target q number) e) (ap gains_link e) (inl (load_keeps Kind.WakeLoad by (λ n. refl) found_there))

    wake_store : (stamp : ℕ) → p.point ≡ ReceiveWakeStore stamp → Lifts
    wake_store stamp e =
        own_wake_step Kind.WakeStore (let q = sym (ap kind e) ∙ is.0.1 in cc) (ap (λ (q : Point). 3 + seats + target q number) e) (ap gains_link e)
        (inr (λ n o. ap (λ (q : Point). has_link_at (stepped_by (made_of p.depth p.takes p.posts q) number n o).seat.point) e))

    -- the link of the next seat is that of the table, since its record is not collected yet
    link_found : (carrier : Carrier) (next : ℕ) → p.point ≡ TakeLinkLoad carrier next → (j : ℕ) → next ≡ j + 1 → j < h.seats → (z : HasLink j) → IsUncollected (h.tables m) h.seats (h.popped m) j (part z.0 m)
    link_found carrier next e j placed within z =
        let d = put lone.core number p in
        let at_point = ap (λ (x : SeatState). x.point) own_seat ∙ e in
        let many = seats_of (h.tables m) lone in
        let there : IsSeat lone.core.seats (j + 1) = record { above = omega arith; within = omega (arith, within, many, h.sized m inner) } in
        let read : slice_index (words lone.core) (3 + length lone.core.seats + (j + 1)) ≡ wake_word (wake lone.core.wakes (j + 1)) = read_word lone.core (Word.Wake (j + 1)) lone.fits.sizes there in
        let word : slice_index (h.tables m).words (4 + h.seats + j) ≡ wake_word (wake lone.core.wakes (j + 1)) =
        ap (λ (t : List ℕ × ℕ). slice_index t.0 t.1) (λ i. (lone.words_are i, (let q : 4 + h.seats + j ≡ 3 + length lone.core.seats + (j + 1) = omega (arith, many, h.sized m inner) in q) i)) ∙ read
        in
        record {
          linked = z.2;
          ungranted = ap is_grant_word word ∙ ap (λ (n : ℕ). is_grant_word (wake_word (wake lone.core.wakes n))) (sym placed) ∙ collected_ungranted d lone.ghost_state settled number next carrier at_point;
          unpopped = λ has. collected_unpopped d lone.ghost_state settled number next carrier at_point (subst (λ (y : ℕ × List Record). HasRecord y.0 y.1) (λ i. (sym placed i, sym (h.listed m inner) i)) has);
        }

    link_load : (carrier : Carrier) (next : ℕ) → p.point ≡ TakeLinkLoad carrier next → Lifts
    link_load carrier next e =
        let by : is.0.0 ≡ Kind.LinkLoad = let q = sym (ap kind e) ∙ is.0.1 in cc in
        let there : Y ≡ 3 + next = is.0.2 ∙ (λ i. index_by seats (target (e i) number) (Some (by i))) in
        let placed = place_of next (subst (λ (q : Point). 0 < target q number) e can.ready.above) in
        let most : next ≤ seats = subst (λ (q : Point). target q number ≤ seats) e can.ready.within in
        let at_next = collected_linked (put lone.core number p) lone.ghost_state settled number next carrier (ap (λ (x : SeatState). x.point) own_seat ∙ e) in
        let z = linked_seat placed.0 (ap (λ (t : ℕ). has_link_at (seat (with_entry lone.core.seats number p) t).point) (sym placed.1) ∙ at_next) in
        let low : placed.0 < h.seats = omega (arith, placed.1, most, seats_are) in
        let word_is : Y ≡ 4 + placed.0 = omega (arith, there, placed.1) in
        let index_is : link_at h.mutexes placed.0 ≡ X = link_there h.mutexes h.seats m X Y inner is_word placed.0 low (sym word_is) in (
          same_words (ap (λ (i : ℕ). slice_index s.words i) (sym index_is) ∙ h.linked m placed.0 z.0 inner z.1 (link_found carrier next e placed.0 placed.1 low z) ∙ ap (λ (i : ℕ). slice_index (h.tables m).words i) (sym word_is)),
          gains_none (ap gains_link e),
          (λ j of_seat. busy_seat next placed.0 placed.1 z j (link_of next j there most of_seat)),
          (λ j hit. inl (load_keeps Kind.LinkLoad by (λ n. refl) found)),
          λ j wake. absurd (omega (arith, there, wake, most, seats_are)),
        )

    grant : (carrier : Carrier) (first : Record) → p.point ≡ GrantWakeStore carrier first → Lifts
    grant carrier first e =
        let by : is.0.0 ≡ Kind.WakeStore = let q = sym (ap kind e) ∙ is.0.1 in cc in
        let there : Y ≡ 3 + seats + first.seat = is.0.2 ∙ (λ i. index_by seats (target (e i) number) (Some (by i))) in
        let above : 0 < first.seat = subst (λ (q : Point). 0 < target q number) e can.ready.above in
        let placed = place_of first.seat above in
        let at_first = granted_linked (put lone.core number p) lone.ghost_state settled number carrier first (ap (λ (x : SeatState). x.point) own_seat ∙ e) in
        let z = linked_seat placed.0 (ap (λ (t : ℕ). has_link_at (seat (with_entry lone.core.seats number p) t).point) (sym placed.1) ∙ at_first) in
        let word_is : Y ≡ 4 + h.seats + placed.0 = omega (arith, there, placed.1, seats_are) in
        let granting : f found_there ≡ wake_word (Grant first.stamp) = is.0.3 found_there ∙ (λ i. written_by (made_of p.depth p.takes p.posts (e i)) number found_there (Some (by i))) in (
          same_words (ap (λ (i : ℕ). slice_index s.words i) (sym (wake_word_at placed.0 word_is)) ∙ h.wakes m placed.0 z.0 inner z.1 (linked_busy (part z.0 m).state.point z.2) ∙ ap (λ (i : ℕ). slice_index (h.tables m).words i) (sym word_is)),
          gains_none (ap gains_link e),
          (λ j of_seat. busy_seat first.seat placed.0 placed.1 z j (wake_of first.seat j there above of_seat)),
          (λ j hit. absurd (not_link h.mutexes h.seats m X Y inner is_word j (inr (omega (arith, there, above, seats_are))) hit)),
          λ j wake. inr (inl (wake, ap is_grant_word granting ∙ is_grant first.stamp)),
        )

    by_point : (q : Point) → p.point ≡ q → is_at_seat_word q ≡ true → Lifts
    by_point (LinkStore Pusher.Locker seen) e of_seat = link_store seen e
    by_point (TakeLinkLoad carrier next) e of_seat = link_load carrier next e
    by_point (GrantWakeStore carrier first) e of_seat = grant carrier first e
    by_point (ReceiveWakeLoad sleeper) e of_seat = wake_load sleeper e
    by_point (ReceiveWakeStore stamp) e of_seat = wake_store stamp e
    by_point _ e of_seat = absurd (false≢true of_seat)

    lifts : Lifts
    lifts = elim is.2 [ inl low ↦ of_mutex low | inr of_seat ↦ by_point p.point refl of_seat ]

    goes : Goes (f found, k found)
    goes = subst Goes (λ i. (sym lifts.0.0 i, sym lifts.0.1 i)) led

    -- The chain

    -- a record that is popped no more was granted, or was the seat's own
    drops_by : (q : Point) → p.point ≡ q → (j : ℕ) → HasRecord (j + 1) lone.core.popped → HasRecord (j + 1) popped_now ⊎ IsOut j
    drops_by (EnterOwnerStore Entrant.Locker (How.Queued stamp)) e j has =
        let less : popped_now ≡ drop 1 lone.core.popped = ap (λ (q : Point). popped_by_step (made_of p.depth p.takes p.posts q) number (k found_there) lone.core.popped) e in
        let d = put lone.core number p in
        let knows = (fits_at d lone.ghost_state number (seat d.seats number) (wake d.wakes number) (EnterOwnerStore Entrant.Locker (How.Queued stamp)) (ap (λ (x : SeatState). x.point) own_seat ∙ e) (settled.each number)).knows in
        elim (first_or_rest (j + 1) lone.core.popped has) [
          | inl first ↦ inr (inr (
            let own : first_seat lone.core.popped ≡ number = ap first_seat knows.1.1 in omega (arith, first, own, number_is),
            λ n o. ap (λ (q : Point). has_link_at (stepped_by (made_of p.depth p.takes p.posts q) number n o).seat.point) e,
          ))
          | inr later ↦ inl (subst (λ (l : List Record). HasRecord (j + 1) l) (sym less) later)
        ]
    drops_by (GrantWakeStore carrier granted) e j has =
        let less : popped_now ≡ drop 1 lone.core.popped = ap (λ (q : Point). popped_by_step (made_of p.depth p.takes p.posts q) number (k found_there) lone.core.popped) e in
        let d = put lone.core number p in
        let knows = (fits_at d lone.ghost_state number (seat d.seats number) (wake d.wakes number) (GrantWakeStore carrier granted) (ap (λ (x : SeatState). x.point) own_seat ∙ e) (settled.each number)).knows in
        let by : is.0.0 ≡ Kind.WakeStore = let q = sym (ap kind e) ∙ is.0.1 in cc in
        let there : Y ≡ 3 + seats + granted.seat = is.0.2 ∙ (λ i. index_by seats (target (e i) number) (Some (by i))) in
        let granting : f found_there ≡ wake_word (Grant granted.stamp) = is.0.3 found_there ∙ (λ i. written_by (made_of p.depth p.takes p.posts (e i)) number found_there (Some (by i))) in
        elim (first_or_rest (j + 1) lone.core.popped has) [
          | inl first ↦ inr (inl (
            let own : first_seat lone.core.popped ≡ granted.seat = ap first_seat knows.1.1 in omega (arith, first, own, there, seats_are),
            ap is_grant_word granting ∙ is_grant granted.stamp,
          ))
          | inr later ↦ inl (subst (λ (l : List Record). HasRecord (j + 1) l) (sym less) later)
        ]
    drops_by (TakeLinkLoad carrier next) e j has =
        let more = ap (λ (q : Point). popped_by_step (made_of p.depth p.takes p.posts q) number (k found_there) lone.core.popped) e in
        inl (subst (λ (l : List Record). HasRecord (j + 1) l) (sym more) (inr has))
    drops_by q e j has = inl (subst (λ (l : List Record). HasRecord (j + 1) l) (sym (ap (λ (r : Point). popped_by_step (made_of p.depth p.takes p.posts r) number (k found_there) lone.core.popped) e)) has)

    abbrev after : MutexTable
    after = stepped (h.tables m) Y (f found) id slots goes.0 goes.1

    written_there : slice_index (set (h.tables m).words Y (f found)) Y ≡ f found_there
    written_there = get_or-set_same (h.tables m).words Y (f found) 0 (let i = word_inside h.mutexes h.seats m X Y inner is_word in rw (h.sized m inner) i) ∙ lifts.0.0

    -- a record that is not collected after the step was not collected before it
    module _ (j : ℕ) (y z : View ⊤) (has : IsUncollected after h.seats popped_now j z) (own_view_is : j ≡ id → z ≡ goes.0) where
      not_out : IsOut j → ⊥
      not_out out = elim out [
        | inl granted ↦
            false≢true (sym has.ungranted ∙ ap (λ (i : ℕ). is_grant_word (slice_index (set (h.tables m).words Y (f found)) i)) (sym granted.0) ∙ ap is_grant_word written_there ∙ granted.1)
        | inr own ↦
            let did = goes.5 in
            let now : has_link_at (stepped_by p (part me.0 m).number (k found) (oldest did.popped)).seat.point ≡ true =
            ap (λ (x : SeatState). has_link_at x.point) (sym did.state) ∙ ap has_link (sym (own_view_is own.0)) ∙ has.linked
            in
            let none = own.1 (k found) (oldest did.popped) in
            false≢true (sym none ∙ ap (λ (i : ℕ). has_link_at (stepped_by p i (k found) (oldest did.popped)).seat.point) (sym can.named) ∙ now)
      ]

      was_ungranted : is_grant_word (slice_index (h.tables m).words (4 + h.seats + j)) ≡ false
      was_ungranted = elim (cases_eq (4 + h.seats + j) Y) [
        | inr other ↦ ap is_grant_word (sym (get_or-set_other (h.tables m).words Y (4 + h.seats + j) (f found) 0 other)) ∙ has.ungranted
        | inl same ↦ elim (lifts.4 j (sym same)) [
          | inl kept ↦ ap (λ (i : ℕ). is_grant_word (slice_index (h.tables m).words i)) same ∙ ap is_grant_word (sym kept ∙ sym written_there)
              ∙ ap (λ (i : ℕ). is_grant_word (slice_index (set (h.tables m).words Y (f found)) i)) (sym same) ∙ has.ungranted
          | inr out ↦ absurd (not_out out)
        ]
      ]

      was_uncollected : has_link y ≡ true → IsUncollected (h.tables m) h.seats (h.popped m) j y
      was_uncollected linked = record {
        linked = linked;
        ungranted = was_ungranted;
        unpopped = λ old. elim (drops_by p.point refl j (subst (λ (l : List Record). HasRecord (j + 1) l) (sym (h.listed m inner)) old)) [
          | inl now ↦ has.unpopped now
          | inr out ↦ not_out out
        ];
      }

    link_after : has_link goes.0 ≡ true → (has_link (part me.0 m) ≡ true) ⊎ (link_at h.mutexes id ≡ X)
    link_after has =
        let did = goes.5 in
        let now = ap (λ (x : SeatState). has_link_at x.point) (sym did.state) ∙ has in
        let by = ap (λ (i : ℕ). has_link_at (stepped_by p i (k found) (oldest did.popped)).seat.point) (sym can.named) ∙ now in
        elim (lifts.1 (k found) (oldest did.popped) by) [
          | inl before ↦ inl (link_of_begun (part me.0 m).state (part me.0 m).limits p can.became before)
          | inr hit ↦ inr hit
        ]

    -- the seat's view is the only one that has changed
    own_after : get_elem? (set (h.tables m).views id goes.0) id ≡ some goes.0
    own_after = set_here (h.tables m).views id goes.0 (length_at (h.tables m).views id (part me.0 m) own_view)

    other_after : (j : ℕ) (z : PoolView) → j ≢ id → get_elem? s.views j ≡ some z → get_elem? (set (h.tables m).views id goes.0) j ≡ some (part z m)
    other_after j z other e = set_else (h.tables m).views id j goes.0 other ∙ h.parts m j z inner e

    -- nobody carries the mutex before a step of a seat that does not, if no other seat does after it, or the seat does
    none_before : carries_value p ≡ false → ((j : ℕ) (z : PoolView) → j ≢ id → get_elem? s.views j ≡ some z → carries_value (part z m).state ≡ false) → NobodyCarries m s.views
    none_before own others j z e = elim (cases_eq j id) [
      | inl same ↦
          let one : z ≡ me.0 = some-injective z me.0 (sym e ∙ ap (λ (i : ℕ). get_elem? s.views i) same ∙ at) in
          ap (λ (y : PoolView). carries_value (part y m).state) one ∙ same_carries ∙ own
      | inr other ↦ others j z other e
    ]

    none_other : carries_value goes.0.state ≡ true → (j : ℕ) (z : PoolView) → j ≢ id → get_elem? s.views j ≡ some z → carries_value (part z m).state ≡ false
    none_other carries j z other e = one_carries after goes.3 j id (part z m) goes.0 other (other_after j z other e) own_after (carries_value (part z m).state) refl carries

    popped_same : carries_value p ≡ false → popped_now ≡ h.popped m
    popped_same none = list_stays p number (k found_there) lone.core.popped none ∙ h.listed m inner

    noted_by : (b : Bool) → carries_value p ≡ b → carries_value goes.0.state ≡ true
        → note_by b (carries_value goes.0.state) p.point (note me.0 m) goes.0.popped ≡ record { due = due_now; carried = slice_index s.words (own_at m 4) }
    noted_by true before carries = ap (λ (n : Note). record n { due = due_after p.point n.due }) (knows_note before)
    noted_by false before carries =
        let idle = h.idle m inner (none_before before (none_other carries)) in
        let list : goes.0.popped ≡ h.popped m = (goes.3.outside id goes.0 own_after carries).popped ∙ goes.4 ∙ popped_same before in
        ap (λ (b : Bool). note_by false b p.point (note me.0 m) goes.0.popped) carries
        ∙ (λ i. record { due = (sym idle.0 ∙ sym (not_loading p (h.dues m) before)) i; carried = (ap first_seat list ∙ sym idle.1) i })

    idle_by : (b : Bool) → carries_value p ≡ b → carries_value goes.0.state ≡ false → ((j : ℕ) (z : PoolView) → j ≢ id → get_elem? s.views j ≡ some z → carries_value (part z m).state ≡ false)
        → (due_now ≡ 0) × (slice_index s.words (own_at m 4) ≡ first_seat popped_now)
    idle_by true before none others =
        let did = goes.5 in
        let had : did.popped ≡ (part me.0 m).popped = did.had before in
        let gone : carries_value (stepped_by p number (k found) (oldest (part me.0 m).popped)).seat ≡ false =
        (λ i. carries_value (stepped_by p (sym can.named i) (k found) (oldest (sym had i))).seat) ∙ ap carries_value (sym did.state) ∙ none
        in
        let rest : note me.0 m ≡ rested (popped_by_step p number (k found) (part me.0 m).popped) = keeps_chain.0.gives (k found) before gone in
        let both = sym (knows_note before) ∙ rest in (
          gives_no_load p number (k found) (oldest (part me.0 m).popped) (h.dues m) before gone ∙ ap (λ (n : Note). n.due) both,
          ap (λ (n : Note). n.carried) both ∙ (λ i. first_seat (popped_by_step p number (lifts.0.1 i) (knows_popped before i))),
        )
    idle_by false before none others =
        let idle = h.idle m inner (none_before before others) in
        (not_loading p (h.dues m) before ∙ idle.0, idle.1 ∙ ap first_seat (sym (popped_same before)))

    chained : Chained s h id m me.0 X (f found) after goes.0 (note_after p goes.0 (note me.0 m)) popped_now due_now
    chained = record {
      calm = lifts.3;
      shorter = λ ws chain. shorter_at h.mutexes ws p.depth p.takes p.posts number (k found_there) (h.dues m) lone.core.popped p.point
          (λ carrier next e. ap (λ (n : Note). n.due) (sym (knows_note (loading p carrier next e))) ∙ keeps_chain.0.loads carrier next e)
          (subst (λ (l : List Record). IsChain h.mutexes ws (drop (h.dues m) l)) (sym (h.listed m inner)) chain);
      own = λ has. elim (link_after has.linked) [
        | inl before ↦ inr (was_uncollected id (part me.0 m) goes.0 has (λ e. refl) before)
        | inr hit ↦ inl hit
      ];
      others = λ j z other e has. was_uncollected j (part z m) (part z m) has (λ same. absurd (other same)) has.linked;
      noted = noted_by (carries_value p) refl;
      same = λ j z other e carries. not_loading p (h.dues m) (alone j z other e carries);
      idle = idle_by (carries_value p) refl;
    }

    -- its depth is one that a seat has at its point
    deep_now : DepthAt goes.0.state.depth goes.0.state.point
    deep_now = subst (λ (x : SeatState). DepthAt x.depth x.point) (goes.3.each id goes.0 own_after).state (goes.3.fits.each (id + 1)).depth

    held : HeldPool (record { words = set s.words X (f found); homes = s.homes; views = set s.views id (with_part me.0 m goes.0 (note_after p goes.0 (note me.0 m))) })
    held = held_after id m me.0 here elsewhere s h at X Y (f found) slots goes.0 (note_after p goes.0 (note me.0 m)) goes.1 popped_now due_now goes.3 goes.4 is_word lifts.2 chained

    -- Stamps

    -- the push word of the mutex is still that of its table
    push_same : slice_index (set s.words X (f found)) (own_at m 3) ≡ slice_index (set (h.tables m).words Y (f found)) 3
    push_same = elim is_word [
      | inl own ↦ elim (cases_eq 3 Y) [
        | inl hit ↦
            let there : own_at m 3 ≡ X = omega (arith, own.1, hit) in
            rw (there, hit)
            (get_or-set_same s.words X (f found) 0 (let long = h.long in let at_own = own.1 in let low = own.0 in omega (arith, long, at_own, low, inner))
            ∙ sym (get_or-set_same (h.tables m).words Y (f found) 0 (let sized = h.sized m inner in let low = own.0 in omega (arith, sized, low))))
        | inr miss ↦
            get_or-set_other s.words X (own_at m 3) (f found) 0 (λ e. miss (let at_own = own.1 in omega (arith, e, at_own)))
            ∙ h.own m 3 inner (omega arith) ∙ sym (get_or-set_other (h.tables m).words Y 3 (f found) 0 miss)
      ]
      | inr of_seat ↦
          get_or-set_other s.words X (own_at m 3) (f found) 0 (seat_word_apart of_seat m inner)
          ∙ h.own m 3 inner (omega arith) ∙ sym (get_or-set_other (h.tables m).words Y 3 (f found) 0 (λ e. seat_word_high of_seat (omega (arith, e))))
    ] where
      seat_word_high : (j : ℕ) × (j < h.seats) × (((Y ≡ 4 + j) × (X ≡ link_at h.mutexes j)) ⊎ ((Y ≡ 4 + h.seats + j) × (X ≡ wake_at h.mutexes j))) → Y < 4 → ⊥
      seat_word_high of_seat low = elim of_seat.2 [ inl link ↦ omega (arith, link.0, low) | inr wake ↦ omega (arith, wake.0, low) ]

      seat_word_apart : (j : ℕ) × (j < h.seats) × (((Y ≡ 4 + j) × (X ≡ link_at h.mutexes j)) ⊎ ((Y ≡ 4 + h.seats + j) × (X ≡ wake_at h.mutexes j))) → (i : ℕ) → i < h.mutexes → own_at i 3 ≢ X
      seat_word_apart of_seat i less e = elim of_seat.2 [ inl link ↦ omega (arith, link.1, e, less) | inr wake ↦ omega (arith, wake.1, e, less) ]

    push_elsewhere : (i : ℕ) → i < h.mutexes → i ≢ m → slice_index (set s.words X (f found)) (own_at i 3) ≡ slice_index s.words (own_at i 3)
    push_elsewhere i less other = get_or-set_other s.words X (own_at i 3) (f found) 0 (λ e. elim is_word [
      | inl own ↦ other (let at_own = own.1 in let low = own.0 in omega (arith, e, at_own, low))
      | inr of_seat ↦ elim of_seat.2 [ inl link ↦ absurd (omega (arith, link.1, e, less)) | inr wake ↦ absurd (omega (arith, wake.1, e, less)) ]
    ])

    stamp_now : stamp_in (slice_index (set s.words X (f found)) (own_at m 3)) ≡ stamp_in (slice_index s.words (own_at m 3)) + pushed_at p.point (k found)
    stamp_now =
        let before = ap stamp_in (h.own m 3 inner (omega arith)) ∙ stamp_of_table (h.tables m) lone in
        let now = ap stamp_in push_same ∙ stamp_of_table (stepped (h.tables m) Y (f found) id slots goes.0 goes.1) goes.3 in
        let grown = goes.6 in
        omega (arith, before, now, grown)

    trail_now : pushes goes.0.trail ≡ pushes (part me.0 m).trail + pushed_at p.point (k found)
    trail_now = ap pushes goes.5.trail ∙ pushes_more (part me.0 m).trail (seen p.point (k found))

    stamp_grows : (i : ℕ) → i < h.mutexes → stamp_in (slice_index s.words (own_at i 3)) ≤ stamp_in (slice_index (set s.words X (f found)) (own_at i 3))
    stamp_grows i less = elim (cases_eq i m) [
      | inl same ↦ let grown = stamp_now in rw same (omega (arith, grown))
      | inr other ↦ let word = ap stamp_in (push_elsewhere i less other) in omega (arith, word)
    ]

    left_stamps : (i : ℕ) → i < h.mutexes → HasStamps i s.words s.views → HasStamps i (set s.words X (f found)) (set s.views id (with_part me.0 m goes.0 (note_after p goes.0 (note me.0 m))))
    left_stamps i less has = stamps_kept i s.words (set s.words X (f found)) s.views id me.0 (with_part me.0 m goes.0 (note_after p goes.0 (note me.0 m))) at has (elim (cases_eq i m) [
      | inl same ↦
          let own = admitted_after me.0 m goes.0 (note_after p goes.0 (note me.0 m)) here p.point (k found) trail_now keeps_chain.1 in
          let grown = stamp_now in
          rw same (omega (arith, own, grown))
      | inr other ↦
          let own = admitted_elsewhere me.0 m goes.0 (note_after p goes.0 (note me.0 m)) here i other in
          let word = ap stamp_in (push_elsewhere i less other) in
          omega (arith, own, word)
    ])

    -- a stamp is left for each seat that may push, and none is lower than before
    has_stamps : (i : ℕ) → i < h.mutexes → HasStamps i s.words s.views × HasSeen i s.words me.0
        → LeavesStamps i s.words (set s.words X (f found)) (set s.views id (with_part me.0 m goes.0 (note_after p goes.0 (note me.0 m)))) (with_part me.0 m goes.0 (note_after p goes.0 (note me.0 m)))
    has_stamps i less both =
        let same = ap (λ (a : Admission). stamp_in a.found) (admission_same me.0 m i goes.0 (note_after p goes.0 (note me.0 m))) in
        let more = stamp_grows i less in
        let before = both.1 in
        (left_stamps i less both.0, omega (arith, same, more, before), more)

  -- the numbers fit before the step of the seat in this pool, and after it
  abbrev pub Numbered : (s : State ℕ PoolView) (h : HeldPool s) → get_elem? s.views id ≡ some me.0 → Type 0
  Numbered s h at =
      (numbers : NumbersFit (h.kept m (within id m me.0 here elsewhere s h at)).core)
      × ((h.kept m (within id m me.0 here elsewhere s h at)).core.push.stamp + pushed_at p.point (k (slice_index (h.tables m).words Y)) + 1 < 2 ^ 48) × ((n : ℕ) (o : Option Record) → (stepped_by p number n o).seat.posts + 1 < 2 ^ 48)

  -- the step without what the table tells: the seat's view of the mutex after it
  pub step_lone : (s : State ℕ PoolView) (h : HeldPool s) (at : get_elem? s.views id ≡ some me.0) → Numbered s h at
      → (w : View ⊤) × (slots_now : List (ℕ × Slot))
      × HeldPool (record { words = set s.words a.index (becomes a.access (slice_index s.words a.index)); homes = s.homes; views = set s.views id (with_part me.0 m w (note_after p w (note me.0 m))) })
      × Advanced any_follows any_fits p hand (part me.0 m, slots) (told_of (is_store a.access) (becomes a.access (slice_index s.words a.index)) (slice_index s.words a.index)) (w, slots_now)
      × DepthAt w.state.depth w.state.point
  step_lone s h at fit =
      let g = goes s h at fit.0 fit.1 fit.2 in (g.0, carried_after slots g.1, held s h at fit.0 fit.1 fit.2, g.5, deep_now s h at fit.0 fit.1 fit.2)

  -- the number that the table tells, if it finds n
  abbrev pub Tells : ℕ → Me ℕ PoolView → Type 0
  Tells n me' = TellsOf m p (λ x. Advanced any_follows any_fits p hand (part me.0 m, slots) x) me (told_of (is_store a.access) (becomes a.access n) n) me'

  -- the step, and the stamps that are left after it
  pub step_does : (s : State ℕ PoolView) (h : HeldPool s) (at : get_elem? s.views id ≡ some me.0) → Numbered s h at
      → (d : Does HeldPool id me a.index (becomes a.access) Tells s (slice_index s.words a.index))
      × ((i : ℕ) → i < h.mutexes → HasStamps i s.words s.views × HasSeen i s.words me.0 → LeavesStamps i s.words (set s.words a.index (becomes a.access (slice_index s.words a.index))) (set s.views id d.0) d.0)
  step_does s h at fit =
      let g = goes s h at fit.0 fit.1 fit.2 in (
        (with_part me.0 m g.0 (note_after p g.0 (note me.0 m)), keeps, tt, held s h at fit.0 fit.1 fit.2, (g.0, carried_after slots g.1, g.5, refl, deep_now s h at fit.0 fit.1 fit.2)),
        has_stamps s h at fit.0 fit.1 fit.2,
      )

-- a step on another word than the handoff word leaves what the seat knows of posts
pub tells_keep : (m : ℕ) (p : SeatState) (hand : Option ⊤) (slots : List (ℕ × Slot)) (me : Me ℕ PoolView) (n : ℕ) (me' : Me ℕ PoolView) → m < length me.0.parts → Became (part me.0 m).state (part me.0 m).limits p → is_at_handoff p.point ≡ false
    → TellsOf m p (λ x. Advanced any_follows any_fits p hand (part me.0 m, slots) x) me n me' → KeepsPosts me.0 me'.0
tells_keep m p hand slots me n me' here became other told =
    let now : me'.0 ≡ with_part me.0 m told.0 (note_after p told.0 (note me.0 m)) = ap (λ (z : Me ℕ PoolView). z.0) told.3 in
    let adv = told.2 in
    subst (λ (u : PoolView). KeepsPosts me.0 u) (sym now) (record {
      parts = length-set me.0.parts m _;
      posts = refl;
      found = refl;
      each = λ i. elim (cases_eq i m) [
        | inl same ↦
            subst (λ (x : SeatState × SeatState). KeepsPost x.0 x.1)
            (λ d. (ap (λ (k : ℕ). (part me.0 k).state) (sym same) d, (sym adv.state ∙ ap (λ (y : View ⊤). y.state) (sym (part_same me.0 m told.0 (note_after p told.0 (note me.0 m)) here)) ∙ ap (λ (k : ℕ). (part (with_part me.0 m told.0 (note_after p told.0 (note me.0 m))) k).state) (sym same)) d))
            (keeps_became (part me.0 m).state (part me.0 m).limits p (stepped_by p (part me.0 m).number n (oldest adv.popped)).seat became (keeps_stepped p (part me.0 m).number n (oldest adv.popped) other))
        | inr away ↦ subst (λ (y : View ⊤). KeepsPost (part me.0 i).state y.state) (sym (part_other me.0 m i told.0 (note_after p told.0 (note me.0 m)) away)) (keeps_same (part me.0 i).state)
      ];
    })

-- A step on another word than the handoff word keeps the rule of the pool's table

module _ (id m number mutexes seats : ℕ) (me : Me ℕ PoolView) (p : SeatState) (hand : Option ⊤) (slots : List (ℕ × Slot)) (inside : (m < mutexes) × (length me.0.parts ≡ mutexes))
    (can : CanMake any_follows any_fits p hand number seats (4 + 2 * seats) (part me.0 m, slots)) (elsewhere : RestsElsewhere me.0 m) (a : PoolAccess) (is : IsStepOf mutexes seats m number p a) (keeps_chain : KeepsChainIn number m p me.0)
    (other : is_at_handoff p.point ≡ false) (off : (i : ℕ) → i < mutexes → a.index ≢ own_at i 2) where
  module _ (s : State ℕ PoolView) (h : HeldPosts s) (at : get_elem? s.views id ≡ some me.0) where
    abbrev own : State ℕ PoolView
    own = record { words = h.own; homes = s.homes; views = s.views }

    abbrev within_here : m < h.held.mutexes
    within_here = within id m me.0 (here id m number mutexes seats me p hand slots inside can elsewhere a is keeps_chain) elsewhere (record { words = h.own; homes = s.homes; views = s.views }) h.held at

    many : h.held.mutexes ≡ mutexes
    many = sym (h.held.wide id me.0 at) ∙ inside.1

    -- a seat that makes such a step makes no post
    posts_fit : (n : ℕ) (o : Option Record) → (stepped_by p number n o).seat.posts + 1 < 2 ^ 48
    posts_fit n o =
        let kept = (keeps_became (part me.0 m).state (part me.0 m).limits p (stepped_by p number n o).seat can.became (keeps_stepped p number n o other)).posts in
        let most = own_posts s h m within_here id me.0 at in
        let few = h.few id me.0 at in
        omega (arith, kept, most, few)

    fits : Numbered id m number mutexes seats me p hand slots inside can elsewhere a is keeps_chain own h.held at
    fits = (
      numbers_of s h m within_here,
      (let left = stamp_left m s.words s.views id me.0 at (h.stamps m within_here) p.point (told_of (is_store a.access) (becomes a.access (slice_index (h.held.tables m).words (word_at a.access))) (slice_index (h.held.tables m).words (word_at a.access))) keeps_chain.1 in
          let is_stamp = stamp_of s h m within_here in omega (arith, left, is_stamp)),
      posts_fit,
    )

    pub step_kept : Does HeldPosts id me a.index (becomes a.access) (Tells id m number mutexes seats me p hand slots inside can elsewhere a is keeps_chain) s (slice_index s.words a.index)
    step_kept =
        let d = step_does id m number mutexes seats me p hand slots inside can elsewhere a is keeps_chain own h.held at fits in
        does_posts id a.index me (becomes a.access) (Tells id m number mutexes seats me p hand slots inside can elsewhere a is keeps_chain) s h at
        (λ i less. off i (subst (λ (n : ℕ). i < n) many less))
        (λ n me' told. tells_keep m p hand slots me (told_of (is_store a.access) (becomes a.access n) n) me' (here id m number mutexes seats me p hand slots inside can elsewhere a is keeps_chain) can.became other told)
        d.0
        (λ i less. same_stamps s h a.index (becomes a.access (slice_index h.own a.index)) (set s.views id d.0.0) d.0.0 i (d.1 i less (same_stamps_own s h s.views me.0 i (h.stamps i less, h.seen i id me.0 less at))))

  pub step_posts : Allows HeldPosts 0 id me a.index (becomes a.access) (Tells id m number mutexes seats me p hand slots inside can elsewhere a is keeps_chain)
  step_posts s h none at small = step_kept s h at

-- The same with the number of slots and the mutex as the table and the step name them
pub allowed_at : (slot_count picked_m : ℕ) → slot_count ≡ 0 → (id m number mutexes seats : ℕ) (me : Me ℕ PoolView) (p : SeatState) (hand : Option ⊤) (slots : List (ℕ × Slot)) → picked_m ≡ m → (m < mutexes) × (length me.0.parts ≡ mutexes)
    → CanMake any_follows any_fits p hand number seats (4 + 2 * seats) (part me.0 m, slots) → RestsElsewhere me.0 m → (a : PoolAccess) → IsStepOf mutexes seats m number p a → KeepsChainIn number m p me.0
    → is_at_handoff p.point ≡ false → ((i : ℕ) → i < mutexes → a.index ≢ own_at i 2)
    → Allows HeldPosts slot_count id me a.index (becomes a.access) (λ n me'. TellsOf picked_m p (λ x. Advanced any_follows any_fits p hand (part me.0 picked_m, slots) x) me (told_of (is_store a.access) (becomes a.access n) n) me')
allowed_at slot_count picked_m none id m number mutexes seats me p hand slots same_m inside can elsewhere a is chained other off =
    subst (λ (z : ℕ × ℕ). Allows HeldPosts z.0 id me a.index (becomes a.access) (λ n me'. TellsOf z.1 p (λ x. Advanced any_follows any_fits p hand (part me.0 z.1, slots) x) me (told_of (is_store a.access) (becomes a.access n) n) me'))
    (λ i. (sym none i, sym same_m i)) (step_posts id m number mutexes seats me p hand slots inside can elsewhere a is chained other off)

-- What the table requires of an access, which is one of the six
pub required : (f : Pool) (s : TableSeat) (m picked_m : ℕ) (p : SeatState) (hand : Option ⊤) (slots : List (ℕ × Slot)) (at : PoolAccess) (a : Access) → at.access ≡ a → picked_m ≡ m → s.place.table_id ≡ f.table.shared.table_id
    → (m < f.mutexes) × (length s.place.me.0.parts ≡ f.mutexes) → CanMake any_follows any_fits p hand s.number f.limits.seats (4 + 2 * f.limits.seats) (part s.place.me.0 m, slots) → RestsElsewhere s.place.me.0 m → IsStepAt f.mutexes f.limits.seats m s.number p at → KeepsChainIn s.number m p s.place.me.0
    → (s.place.table_id ≡ f.table.shared.table_id) × (at.index < f.table.shared.table_id.words)
    × Allows HeldPosts f.table.shared.table_id.slots s.place.id s.place.me at.index (becomes a) (λ n me'. TellsOf picked_m p (λ x. Advanced any_follows any_fits p hand (part s.place.me.0 picked_m, slots) x) s.place.me (told_of (is_store a) (becomes a n) n) me')
required f s m picked_m p hand slots at a e one table inside can elsewhere is chained =
    let is_a = subst (λ (x : Access). IsStepAt f.mutexes f.limits.seats m s.number p (record { index = at.index; access = x })) e is in
    let low = index_inside f.mutexes f.limits.seats m at.index (word_at a) inside.0 is_a.0.1 in
    let other = is_other f.limits.seats s.number p.point is_a.0.0.0 is_a.0.0.1 (λ e'. is_a.1 (is_a.0.0.2 ∙ e')) in (
      table,
      rw f.wide low,
      allowed_at f.table.shared.table_id.slots picked_m f.no_slots s.place.id m s.number f.mutexes f.limits.seats s.place.me p hand slots one inside can elsewhere (record { index = at.index; access = a }) is_a.0 chained other
          (λ i less e'. is_a.1 (sym (own_same f.mutexes f.limits.seats m at.index (word_at a) inside.0 is_a.0.1 i 2 less (omega arith) (sym e')).1)),
    )
