-- The calls of a seat that holds the mutex already, each as its steps.
use Rattle.std.proofs.Common.{◌≡◌, ◌≢◌, ℕ, ◌+◌, ◌-◌, ◌*◌, ◌<◌, List, [], ◌∷◌, length, refl, sym, ap, ◌∙◌, subst, inl, inr, arith}
use Rattle.std.specs.Prelude.{true, ◌/◌, ◌%◌}
use Rattle.std.proofs.lemmas.Bool.{cases_eq}
use Rattle.atomic_table.specs.Table.{Me}
use Rattle.lfm_words.specs.declared.pop_lists.Record.{Record}
use Rattle.lfm_words.specs.Popped.{oldest}
use Rattle.lfm_words.specs.Words.{seat_field_size}
use Rattle.lfm_protocol.specs.declared.answers.Call.{Call}
use Rattle.lfm_protocol.specs.declared.points.Point.TheVariants.{Rest, LockCountAdd, LockOwnerLoad, LockCountSubtract, TryCountExchange, TryOwnerLoad}
use Rattle.lfm_protocol.specs.declared.seats.SeatState.{SeatState}
use Rattle.lfm_protocol.specs.Limits.{max_depth, max_seats}
use Rattle.lfm_laws.specs.table.Carried.{carries_value}
use Rattle.lfm_table.specs.declared.operations.Access.{Access}
use Rattle.lfm_table.specs.declared.seat_view.Seen.{Seen}
use Rattle.lfm_table.specs.Actions.{seen}
use Rattle.lfm_table.proofs.tables.StepFacts.{became_depth, made_of}
use Rattle.lfm_pool.specs.declared.pool.Pool.{Pool}
use Rattle.lfm_pool.specs.declared.pool.TableSeat.{TableSeat}
use Rattle.lfm_pool.specs.declared.view.PoolView.{PoolView}
use Rattle.lfm_pool.specs.declared.view.Note.{Note}
use Rattle.lfm_pool.specs.Belongs.{SameSeat}
use Rattle.lfm_pool.specs.Carrying.{CarriesIn, NotesIn}
use Rattle.lfm_pool.specs.Chain.{AreWithin, deep, first_seat}
use Rattle.lfm_pool.specs.Depths.{AskAgainSteps, DeepensBy, GivesUpIn, HasDepthIn, TellsOwner, TryAgainSteps}
use Rattle.lfm_pool.specs.Moves.{MayStepIn, StartsAtIn}
use Rattle.lfm_pool.specs.Seats.{MovesIn, note_of, popped_of, state_of}
use Rattle.lfm_pool.specs.Steps.{IsPlainAccessOf, Sits, StepsIn, begun_at, state_at, state_in}
use Rattle.lfm_pool.specs.Tables.{note, part, with_part}
use Rattle.lfm_pool.proofs.Deepening.{GoesTo, access_goes, ask_begun_deep, asked_finds, asked_leads, asks_owner, carries_deep, count_finds, count_leads, counts_deep, deepened, exchange_finds, exchange_leads, exchanges_deep, list_goes, moved, note_goes, start_goes, state_goes, stored, subtracts_deep, told_depth, tried_finds, tried_leads, tries_owner, try_begun_deep, unlock_begun_deep}
use Rattle.lfm_pool.proofs.FastPaths.{sits_after_begin}
use Rattle.lfm_pool.proofs.SeveralSteps.{inside, same_then}

-- The carried word

pub first_below : (l : List Record) → AreWithin max_seats l → first_seat l < seat_field_size
first_below [] within = omega arith
first_below (r ∷ rest) within = let most = within r.seat (inl refl) in omega (arith, most)

-- a seat that stores another depth keeps the seat of the oldest popped record
pub kept_first : (more carried first depth : ℕ) → carried ≡ more * seat_field_size + first → first < seat_field_size → (depth - 1) * seat_field_size + carried % seat_field_size ≡ (depth - 1) * seat_field_size + first
kept_first more carried first depth is small = omega (arith, is, small)

pub noted_deep : (s t u : TableSeat) (m more depth number : ℕ) → t.place.me ≡ s.place.me → note_of s m ≡ deep more (popped_of s m) → number ≡ (depth - 1) * seat_field_size + first_seat (popped_of s m)
    → NotesIn t u m (record (note_of t m) { carried = number }) → NotesIn s u m (deep (depth - 1) (popped_of s m))
noted_deep s t u m more depth number same noted is notes =
    subst (λ (z : Me ℕ PoolView). u.place.me ≡ (with_part z.0 m (part z.0 m) (record (note z.0 m) { carried = number }), z.1)) same notes
    ∙ (λ i. (with_part s.place.me.0 m (part s.place.me.0 m) (record (noted i) { carried = is i }), s.place.me.1))

-- the depth that the carried word tells
pub depth_told : (carried first depth : ℕ) → carried ≡ (depth - 1) * seat_field_size + first → first < seat_field_size → 0 < depth → carried / seat_field_size + 1 ≡ depth
depth_told carried first depth is small above = omega (arith, is, small, above)

-- try_lock of a seat that holds the mutex

module _ (s : TableSeat) (p : Pool) (m depth : ℕ) (may : MayStepIn s p m) (has : HasDepthIn s p m depth) (above : 0 < depth) (less : depth < max_depth) where
  abbrev tk : ℕ
  tk = (state_of s m).takes

  abbrev ps : ℕ
  ps = (state_of s m).posts

  here : m < length s.place.me.0.parts
  here = inside s s p m may

  carries : (q : SeatState) → q.depth ≡ depth → carries_value q ≡ true
  carries q e = carries_deep q (omega (arith, e, above))

  try_begun : begun_at s.place.me.0 m depth p.limits Call.TryLock ≡ made_of depth tk ps TryCountExchange
  try_begun = try_begun_deep (state_at s.place.me.0 m depth) p.limits has.rests above less

  ask_begun : begun_at s.place.me.0 m depth p.limits Call.Lock ≡ made_of depth tk ps LockCountAdd
  ask_begun = ask_begun_deep (state_at s.place.me.0 m depth) p.limits has.rests above less

  pub exchanges : IsPlainAccessOf p.limits.seats s.number (begun_at s.place.me.0 m depth p.limits Call.TryLock) (Access.CompareExchange 0 0 1)
  exchanges = subst (λ (z : SeatState). IsPlainAccessOf p.limits.seats s.number z (Access.CompareExchange 0 0 1)) (sym try_begun) (exchanges_deep p.limits.seats s.number depth tk ps)

  pub counts : IsPlainAccessOf p.limits.seats s.number (begun_at s.place.me.0 m depth p.limits Call.Lock) (Access.FetchAdd 0 1)
  counts = subst (λ (z : SeatState). IsPlainAccessOf p.limits.seats s.number z (Access.FetchAdd 0 1)) (sym ask_begun) (counts_deep p.limits.seats s.number depth tk ps)

  -- the seat after its first step may store its depth
  module _ (t : TableSeat) (new : List Seen) (q : SeatState) (first : GoesTo s t p m new q (note_of s m)) (deep_there : q.depth ≡ depth) where
    pub carries_there : CarriesIn t m
    carries_there = ap carries_value (state_goes s t t p m here new q (note_of s m) first) ∙ carries q deep_there

    pub noted_there : (more : ℕ) × (note_of t m ≡ deep more (popped_of t m))
    noted_there = (
      depth - 1,
      note_goes s t t p m here new q (note_of s m) first ∙ has.noted above ∙ ap (deep (depth - 1)) (sym (list_goes s t t p m here new q (note_of s m) first)),
    )

    -- and has this note then
    pub noted_here : (u : TableSeat) → NotesIn t u m (deep (depth + 1 - 1) (popped_of t m)) → GoesTo s u p m new q (deep (depth + 1 - 1) (popped_of s m))
    noted_here u notes =
        subst (λ (l : List Record). GoesTo s u p m new q (deep (depth + 1 - 1) l)) (list_goes s t t p m here new q (note_of s m) first)
        (stored s t u p m here new q (note_of s m) first (deep (depth + 1 - 1) (popped_of t m)) notes)

  -- try_lock: the exchange of the count

  module _ (t : TableSeat) (count : ℕ) (did : StartsAtIn s t p m depth Call.TryLock count) where
    exchange : StepsIn s.number s.place.id m p.limits (made_of depth tk ps TryCountExchange) s.place.me count t.place.me
    exchange = subst (λ (z : SeatState). StepsIn s.number s.place.id m p.limits z s.place.me count t.place.me) try_begun did

    taken : count ≢ 0
    taken = exchange_finds depth tk ps s.number count (oldest exchange.3.popped) above (told_depth s t p m count (made_of depth tk ps TryCountExchange) exchange)

    pub exchanged : GoesTo s t p m (seen TryCountExchange count ∷ []) (made_of depth tk ps TryOwnerLoad) (note_of s m)
    exchanged = start_goes s t p m count (made_of depth tk ps TryCountExchange) (made_of depth tk ps TryOwnerLoad)
        (record { carries = carries (made_of depth tk ps TryCountExchange) refl; plain = refl; list = λ l. refl; leads = λ o h. exchange_leads depth tk ps s.number count o above h }) depth Call.TryLock has.now try_begun did

    -- the store of the depth, and the load of the owner
    module _ (same : SameSeat s t) (u : TableSeat) (notes : NotesIn t u m (deep (depth + 1 - 1) (popped_of t m))) (same' : SameSeat t u) where
      noted : GoesTo s u p m (seen TryCountExchange count ∷ []) (made_of depth tk ps TryOwnerLoad) (deep (depth + 1 - 1) (popped_of s m))
      noted = noted_here t (seen TryCountExchange count ∷ []) (made_of depth tk ps TryOwnerLoad) exchanged refl u notes

      pub loads_owner : IsPlainAccessOf p.limits.seats u.number (state_of u m) (Access.Load 1)
      loads_owner = access_goes s u u p m here (seen TryCountExchange count ∷ []) (made_of depth tk ps TryOwnerLoad) (deep (depth + 1 - 1) (popped_of s m)) noted p.limits.seats (Access.Load 1) (tries_owner p.limits.seats u.number depth tk ps)

      module _ (v : TableSeat) (owner : ℕ) (loads : MovesIn u v p m owner) (may_now : MayStepIn u p m) where
        same_u : SameSeat s u
        same_u = same_then s t u same same'

        load : StepsIn u.number u.place.id m p.limits (made_of depth tk ps TryOwnerLoad) u.place.me owner v.place.me
        load = subst (λ (z : SeatState). StepsIn u.number u.place.id m p.limits z u.place.me owner v.place.me) (state_goes s u u p m here _ _ _ noted) loads

        own : owner ≡ s.number
        own = tried_finds depth tk ps u.number owner (oldest load.3.popped) above (told_depth u v p m owner (made_of depth tk ps TryOwnerLoad) load) ∙ same_u.number

        loaded : GoesTo s v p m (seen TryCountExchange count ∷ seen TryOwnerLoad owner ∷ []) (made_of (depth + 1) tk ps Rest) (deep (depth + 1 - 1) (popped_of s m))
        loaded = moved s u v p m here (seen TryCountExchange count ∷ []) (made_of depth tk ps TryOwnerLoad) (deep (depth + 1 - 1) (popped_of s m)) noted owner (made_of (depth + 1) tk ps Rest)
            (record { carries = carries (made_of depth tk ps TryOwnerLoad) refl; plain = refl; list = λ l. refl; leads = λ o h. tried_leads depth tk ps u.number owner o above h }) same_u may_now.sits loads

        pub tries_again : DeepensBy TryAgainSteps s v p m (depth + 1)
        tries_again = deepened s v v p m here (seen TryCountExchange count ∷ seen TryOwnerLoad owner ∷ []) (made_of (depth + 1) tk ps Rest) (deep (depth + 1 - 1) (popped_of s m)) loaded TryAgainSteps (depth + 1)
            (count, taken, λ i. seen TryCountExchange count ∷ seen TryOwnerLoad (own i) ∷ []) refl has.rests (omega (arith, less)) refl

  -- lock: the addition to the count

  module _ (t : TableSeat) (count : ℕ) (did : StartsAtIn s t p m depth Call.Lock count) where
    addition : StepsIn s.number s.place.id m p.limits (made_of depth tk ps LockCountAdd) s.place.me count t.place.me
    addition = subst (λ (z : SeatState). StepsIn s.number s.place.id m p.limits z s.place.me count t.place.me) ask_begun did

    counted : count ≢ 0
    counted = count_finds depth tk ps s.number count (oldest addition.3.popped) above (told_depth s t p m count (made_of depth tk ps LockCountAdd) addition)

    pub added : GoesTo s t p m (seen LockCountAdd count ∷ []) (made_of depth tk ps LockOwnerLoad) (note_of s m)
    added = start_goes s t p m count (made_of depth tk ps LockCountAdd) (made_of depth tk ps LockOwnerLoad)
        (record { carries = carries (made_of depth tk ps LockCountAdd) refl; plain = refl; list = λ l. refl; leads = λ o h. count_leads depth tk ps s.number count o above h }) depth Call.Lock has.now ask_begun did

    pub asks_for_owner : IsPlainAccessOf p.limits.seats t.number (state_of t m) (Access.Load 1)
    asks_for_owner = access_goes s t t p m here (seen LockCountAdd count ∷ []) (made_of depth tk ps LockOwnerLoad) (note_of s m) added p.limits.seats (Access.Load 1) (asks_owner p.limits.seats t.number depth tk ps)

    -- the load of the owner
    module _ (same : SameSeat s t) (may_t : MayStepIn t p m) (u : TableSeat) (owner : ℕ) (loads : MovesIn t u p m owner) (same' : SameSeat t u) where
      owner_load : StepsIn t.number t.place.id m p.limits (made_of depth tk ps LockOwnerLoad) t.place.me owner u.place.me
      owner_load = subst (λ (z : SeatState). StepsIn t.number t.place.id m p.limits z t.place.me owner u.place.me) (state_goes s t t p m here _ _ _ added) loads

      owns : owner ≡ s.number
      owns = asked_finds depth tk ps t.number owner (oldest owner_load.3.popped) above (told_depth t u p m owner (made_of depth tk ps LockOwnerLoad) owner_load) ∙ same.number

      pub owner_loaded : GoesTo s u p m (seen LockCountAdd count ∷ seen LockOwnerLoad owner ∷ []) (made_of depth tk ps LockCountSubtract) (note_of s m)
      owner_loaded = moved s t u p m here (seen LockCountAdd count ∷ []) (made_of depth tk ps LockOwnerLoad) (note_of s m) added owner (made_of depth tk ps LockCountSubtract)
          (record { carries = carries (made_of depth tk ps LockOwnerLoad) refl; plain = refl; list = λ l. refl; leads = λ o h. asked_leads depth tk ps t.number owner o above h }) same may_t.sits loads

      -- the store of the depth, and the subtraction from the count
      module _ (v : TableSeat) (notes : NotesIn u v m (deep (depth + 1 - 1) (popped_of u m))) (same'' : SameSeat u v) where
        noted_ask : GoesTo s v p m (seen LockCountAdd count ∷ seen LockOwnerLoad owner ∷ []) (made_of depth tk ps LockCountSubtract) (deep (depth + 1 - 1) (popped_of s m))
        noted_ask = noted_here u (seen LockCountAdd count ∷ seen LockOwnerLoad owner ∷ []) (made_of depth tk ps LockCountSubtract) owner_loaded refl v notes

        pub subtracts : IsPlainAccessOf p.limits.seats v.number (state_of v m) (Access.FetchSub 0 1)
        subtracts = access_goes s v v p m here (seen LockCountAdd count ∷ seen LockOwnerLoad owner ∷ []) (made_of depth tk ps LockCountSubtract) (deep (depth + 1 - 1) (popped_of s m)) noted_ask p.limits.seats (Access.FetchSub 0 1)
            (subtracts_deep p.limits.seats v.number depth tk ps)

        module _ (w : TableSeat) (last : ℕ) (taken_back : MovesIn v w p m last) (may_v : MayStepIn v p m) where
          ended : GoesTo s w p m (seen LockCountAdd count ∷ seen LockOwnerLoad owner ∷ seen LockCountSubtract last ∷ []) (made_of (depth + 1) tk ps Rest) (deep (depth + 1 - 1) (popped_of s m))
          ended = moved s v w p m here (seen LockCountAdd count ∷ seen LockOwnerLoad owner ∷ []) (made_of depth tk ps LockCountSubtract) (deep (depth + 1 - 1) (popped_of s m)) noted_ask last (made_of (depth + 1) tk ps Rest)
              (record { carries = carries (made_of depth tk ps LockCountSubtract) refl; plain = refl; list = λ l. refl; leads = λ o h. refl }) (same_then s u v (same_then s t u same same') same'') may_v.sits taken_back

          pub asks_again : DeepensBy AskAgainSteps s w p m (depth + 1)
          asks_again =
              deepened s w w p m here (seen LockCountAdd count ∷ seen LockOwnerLoad owner ∷ seen LockCountSubtract last ∷ []) (made_of (depth + 1) tk ps Rest) (deep (depth + 1 - 1) (popped_of s m)) ended AskAgainSteps (depth + 1)
              (count, last, counted, λ i. seen LockCountAdd count ∷ seen LockOwnerLoad (owns i) ∷ seen LockCountSubtract last ∷ []) refl has.rests (omega (arith, less)) refl

-- unlock of a seat that holds the mutex more than once

module _ (s : TableSeat) (p : Pool) (m depth : ℕ) (has : HasDepthIn s p m depth) (inner : 1 < depth) where
  held : 0 < (state_of s m).depth
  held = let more = has.now.became.deep in omega (arith, more, inner)

  pub carries_inner : CarriesIn s m
  carries_inner = carries_deep (state_of s m) held

  pub noted_inner : (more : ℕ) × (note_of s m ≡ deep more (popped_of s m))
  noted_inner = (depth - 1, has.noted (omega (arith, inner)))

  pub gives_up : (t : TableSeat) → NotesIn s t m (deep (depth - 1 - 1) (popped_of s m)) → GivesUpIn s t p m (depth - 1)
  gives_up t notes = (
    part s.place.me.0 m,
    deep (depth - 1 - 1) (popped_of s m),
    notes,
    (
      refl,
      record {
        sits = has.sits;
        now = subst (λ (z : SeatState). Sits s.number s.place.id p.limits z (part s.place.me.0 m)) (unlock_begun_deep (state_at s.place.me.0 m depth) p.limits has.rests inner)
            (sits_after_begin s.number s.place.id p.limits (state_at s.place.me.0 m depth) (part s.place.me.0 m) has.now Call.Unlock);
        rests = has.rests;
        most = let few = has.most in omega (arith, few);
        noted = λ above. refl;
      },
    ),
  )

-- How many times a seat holds a mutex

module _ (s : TableSeat) (p : Pool) (m depth owner : ℕ) (has : HasDepthIn s p m depth) (tells : TellsOwner (part s.place.me.0 m) owner) where
  -- another seat owns it, or none
  pub depth_none : owner ≢ s.number → HasDepthIn s p m 0
  depth_none other =
      let more = has.now.became.deep in
      let flat : depth ≡ 0 = elim (cases_eq (state_of s m).depth 0) [
        | inl none ↦ omega (arith, more, none)
        | inr some ↦ absurd (other (tells.1 (omega (arith, some)) ∙ has.sits.seated.named))
      ] in
      subst (λ (d : ℕ). HasDepthIn s p m d) flat has

  module _ (own : owner ≡ s.number) where
    holds : 0 < (state_of s m).depth
    holds = tells.0 (own ∙ sym has.sits.seated.named)

    pub carries_own : CarriesIn s m
    carries_own = carries_deep (state_of s m) holds

    above_own : 0 < depth
    above_own = elim (cases_eq depth 0) [
      | inl none ↦ let flat = became_depth (state_of s m) p.limits (state_at s.place.me.0 m depth) has.now.became none in let h = holds in absurd (omega (arith, flat, h))
      | inr some ↦ omega (arith, some)
    ]

    pub depth_is : (carried : ℕ) → carried ≡ (note_of s m).carried → AreWithin max_seats (popped_of s m) → carried / seat_field_size + 1 ≡ depth
    depth_is carried is within =
        depth_told carried (first_seat (popped_of s m)) depth (is ∙ ap (λ (k : Note). k.carried) (has.noted above_own)) (first_below (popped_of s m) within) above_own

    -- at the seat after the load of the owner, which changes nothing
    module _ (t : TableSeat) (knows : t.place.me ≡ s.place.me) where
      pub carries_then : CarriesIn t m
      carries_then = subst (λ (z : Me ℕ PoolView). carries_value (state_in z.0 m) ≡ true) (sym knows) carries_own

      pub depth_then : (carried : ℕ) → carried ≡ (note_of t m).carried → AreWithin max_seats (popped_of t m) → carried / seat_field_size + 1 ≡ depth
      depth_then carried is within =
          depth_is carried (is ∙ ap (λ (z : Me ℕ PoolView). (note z.0 m).carried) knows) (subst (λ (z : Me ℕ PoolView). AreWithin max_seats (part z.0 m).popped) knows within)
