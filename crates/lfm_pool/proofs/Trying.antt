-- The steps of a try_lock of a seat that does not hold the mutex.
use Rattle.std.proofs.Common.{◌≡◌, ◌≢◌, ℕ, ◌+◌, ◌-◌, ◌<◌, ◌≤◌, List, [], ◌∷◌, length, nat_eq, refl, sym, ap, ◌∙◌, subst, inl, inr, arith, Option}
use Rattle.std.specs.Prelude.{Bool, IfOk, not, true, false, Result, Ok, Err}
use Rattle.std.proofs.lemmas.Bool.{eq-eqb, eqb-true, ne_eqb, not-false, not-true}
use Rattle.atomic_table.specs.Table.{Me}
use Rattle.lfm_model.specs.declared.answers.How.{How}
use Rattle.lfm_model.specs.declared.answers.Locked.{Locked}
use Rattle.lfm_model.specs.declared.refusals.Refusal.{Refusal}
use Rattle.lfm_words.specs.declared.pop_lists.Record.{Record}
use Rattle.lfm_words.specs.Words.{handoff_of, handoff_word, is_posted_word, seat_field_size}
use Rattle.lfm_protocol.specs.After.{same_handoff}
use Rattle.lfm_protocol.specs.declared.kinds.Kind.{Kind}
use Rattle.lfm_protocol.specs.declared.points.Entrant.{Entrant}
use Rattle.lfm_protocol.specs.declared.points.Point.{Point}
use Rattle.lfm_protocol.specs.declared.points.Point.TheVariants.{Rest, TryCountExchange, TryOwnerLoad, TryHandoffLoad, TryHandoffExchange, TryCountAdd, EnterOwnerStore}
use Rattle.lfm_protocol.specs.declared.seats.SeatState.{SeatState}
use Rattle.lfm_protocol.specs.Points.{kind}
use Rattle.lfm_protocol.specs.Stores.{expected_handoff_at}
use Rattle.lfm_laws.specs.table.Words.{stepped_by}
use Rattle.lfm_laws.proofs.table.Packing.{same_handoff_word}
use Rattle.lfm_table.specs.declared.operations.Access.{Access}
use Rattle.lfm_table.specs.declared.seat_view.Seen.{Seen}
use Rattle.lfm_table.specs.Actions.{seen}
use Rattle.lfm_table.proofs.tables.StepFacts.{carrying, made_of}
use Rattle.lfm_pool.specs.declared.pool.Pool.{Pool}
use Rattle.lfm_pool.specs.declared.pool.TableSeat.{TableSeat}
use Rattle.lfm_pool.specs.declared.view.PoolView.{PoolView}
use Rattle.lfm_pool.specs.Belongs.{IsMutex, OfPool, SameSeat}
use Rattle.lfm_pool.specs.Finds.{Finds}
use Rattle.lfm_pool.specs.Moves.{Made, MakesAtMostIn, MakesIn, MayStepIn}
use Rattle.lfm_pool.specs.Chain.{needs_chain, note_since}
use Rattle.lfm_pool.specs.FastPaths.{KnowsMoreOf}
use Rattle.lfm_pool.specs.Handoff.{LoadsWordIn, TriesPostIn, forgotten, loads_handoff, tried_post, tries_post}
use Rattle.lfm_pool.specs.Seats.{EntersIn, FindsTakenIn, HoldsOnceIn, MayTryIn, MovesIn, RestsInOthers, note_of, state_of}
use Rattle.lfm_pool.specs.Steps.{IsPlainAccessOf}
use Rattle.lfm_pool.specs.Tables.{part}
use Rattle.lfm_pool.specs.TryLock.{AcceptsIn, AcceptSteps, AcceptsWordIn, EndsTryIn, IsPostWord, StepsIfPosted, TakenSteps, TriesIn, TrySteps, ended, tried}
use Rattle.lfm_pool.proofs.Forgotten.{forgets_none, may_forgotten}
use Rattle.lfm_pool.proofs.Keeping.{idle_at, since_carrying, since_idle}
use Rattle.lfm_pool.proofs.SeveralSteps.{at_most, at_point, enters_by, holds_after, join, may_then, move_made, next_access, packs_handoff, state_after, then_carry, then_move}

-- Where each step leads

module _ (d t ps s n : ℕ) (o : Option Record) where
  owner_loaded : n ≢ s → (stepped_by (made_of d t ps TryOwnerLoad) s n o).seat ≡ made_of d t ps TryHandoffLoad
  owner_loaded other = let h = ne_eqb n s other in rw h refl

  nothing_posted : is_posted_word n ≡ false → (stepped_by (made_of d t ps TryHandoffLoad) s n o).seat ≡ made_of d (t - 1) ps Rest
  nothing_posted none = let h = not-false (nat_eq (handoff_of n).seat 0) none in rw h refl

  post_found : is_posted_word n ≡ true → (stepped_by (made_of d t ps TryHandoffLoad) s n o).seat ≡ made_of d t ps (TryHandoffExchange (handoff_of n))
  post_found some = let h = not-true (nat_eq (handoff_of n).seat 0) some in rw h refl

seat_fits : (n : ℕ) → (handoff_of n).seat < seat_field_size
seat_fits n = omega arith

-- different words hold different posts
pub posts_differ : (post n : ℕ) → n ≢ post → same_handoff (handoff_of n) (handoff_of post) ≡ false
posts_differ post n other =
    same_handoff_word (handoff_of n) (handoff_of post) (seat_fits n) (seat_fits post)
    ∙ ne_eqb (handoff_word (handoff_of n)) (handoff_word (handoff_of post)) (λ e. other (sym (packs_handoff n) ∙ (e ∙ packs_handoff post)))

pub same_post : (post n : ℕ) → n ≡ post → same_handoff (handoff_of n) (handoff_of post) ≡ true
same_post post n e =
    let seat = eq-eqb (handoff_of n).seat (handoff_of post).seat (ap (λ (m : ℕ). (handoff_of m).seat) e) in
    let number = eq-eqb (handoff_of n).post (handoff_of post).post (ap (λ (m : ℕ). (handoff_of m).post) e) in
    rw (seat, number) refl

module _ (d t ps s post n : ℕ) (o : Option Record) where
  post_gone : n ≢ post → (stepped_by (made_of d t ps (TryHandoffExchange (handoff_of post))) s n o).seat ≡ made_of d (t - 1) ps Rest
  post_gone other = let h = posts_differ post n other in rw h refl

  post_accepted : n ≡ post → (stepped_by (made_of d t ps (TryHandoffExchange (handoff_of post))) s n o).seat ≡ made_of d t ps TryCountAdd
  post_accepted same = let h = same_post post n same in rw h refl

-- The exchange from a post, and what follows if it succeeds

module _ (s : TableSeat) (p : Pool) (m post : ℕ) (may : MayStepIn s p m) (at : (state_of s m).point ≡ TryHandoffExchange (handoff_of post)) where
  abbrev x : SeatState
  x = state_of s m

  module _ (t : TableSeat) (found : ℕ) (did : MovesIn s t p m found) where
    pub loses : found ≢ post → AcceptsIn s t m post (Err Refusal.Busy)
    loses other = (
      seen (TryHandoffExchange (handoff_of post)) found ∷ [],
      (found, other, refl),
      move_made s t p m found (made_of x.depth x.takes x.posts (TryHandoffExchange (handoff_of post))) (made_of x.depth (x.takes - 1) x.posts Rest) (λ o. post_gone x.depth x.takes x.posts s.number post found o other)
          (λ deep. idle_at (made_of x.depth x.takes x.posts (TryHandoffExchange (handoff_of post))) deep refl) may (at_point x (TryHandoffExchange (handoff_of post)) at) did,
    )

    module _ (same : found ≡ post) (may1 : MayStepIn t p m) where
      exchanged : MakesIn s t m (seen (TryHandoffExchange (handoff_of post)) post ∷ []) (made_of x.depth x.takes x.posts TryCountAdd)
      exchanged =
          subst (λ (n : ℕ). MakesIn s t m (seen (TryHandoffExchange (handoff_of post)) n ∷ []) (made_of x.depth x.takes x.posts TryCountAdd)) same
          (move_made s t p m found (made_of x.depth x.takes x.posts (TryHandoffExchange (handoff_of post))) (made_of x.depth x.takes x.posts TryCountAdd) (λ o. post_accepted x.depth x.takes x.posts s.number post found o same)
          (λ deep. idle_at (made_of x.depth x.takes x.posts (TryHandoffExchange (handoff_of post))) deep refl) may (at_point x (TryHandoffExchange (handoff_of post)) at) did)

      pub adds : IsPlainAccessOf p.limits.seats t.number (state_of t m) (Access.FetchAdd 0 1)
      adds = next_access s t p m _ _ p.limits.seats (Access.FetchAdd 0 1) may exchanged (((Kind.CountAdd, refl, refl, (λ n. refl), refl), omega arith, λ e. omega (arith, e)), refl)

      module _ (u : TableSeat) (count : ℕ) (added : MovesIn t u p m count) (may2 : MayStepIn u p m) where
        counted : MakesIn s u m (seen (TryHandoffExchange (handoff_of post)) post ∷ seen TryCountAdd count ∷ []) (made_of x.depth x.takes x.posts (EnterOwnerStore Entrant.Trier How.Free))
        counted =
            then_carry s t u p m may _ _ exchanged count (made_of x.depth x.takes x.posts (EnterOwnerStore Entrant.Trier How.Free)) (λ o. refl) refl refl
            (carrying (made_of x.depth x.takes x.posts (EnterOwnerStore Entrant.Trier How.Free)) refl) (λ l. refl) may1 added

        pub enters : IsPlainAccessOf p.limits.seats u.number (state_of u m) (Access.Store 1 u.number)
        enters = next_access s u p m _ _ p.limits.seats (Access.Store 1 u.number) may counted (enters_by p.limits.seats u.number x.depth x.takes x.posts Entrant.Trier How.Free)

        pub accepts : (v : TableSeat) (stored : ℕ) → MovesIn u v p m stored → stored ≡ s.number → AcceptsIn s v m post (Ok (Locked.Held How.Free))
        accepts v stored entered told = (
          seen (TryHandoffExchange (handoff_of post)) post ∷ seen TryCountAdd count ∷ seen (EnterOwnerStore Entrant.Trier How.Free) s.number ∷ [],
          (count, refl),
          subst (λ (n : ℕ). MakesIn s v m (seen (TryHandoffExchange (handoff_of post)) post ∷ seen TryCountAdd count ∷ seen (EnterOwnerStore Entrant.Trier How.Free) n ∷ []) (made_of 1 x.takes x.posts Rest)) told
              (then_carry s u v p m may _ _ counted stored (made_of 1 x.takes x.posts Rest) (λ o. refl) refl refl refl (λ l. refl) may2 entered),
        )

-- The same by the handoff word of the mutex

-- a seat that tries to accept a post makes an exchange that expects it
pub tries_word : (s : TableSeat) (m word l : ℕ) → IsPostWord word s m l → (tries_post (state_of s m).point ≡ true) × (word ≡ handoff_word (tried_post s.number s.place.me.0 (state_of s m).point))
tries_word s m word l is = (ap tries_post is.0, is.1 ∙ ap (λ (q : Point). handoff_word (tried_post s.number s.place.me.0 q)) (sym is.0))

module _ (s : TableSeat) (p : Pool) (m word : ℕ) (may : MayStepIn s p m) (at : (l : ℕ) × IsPostWord word s m l) (t : TableSeat) (n : ℕ) (did : TriesPostIn s t p m word n) where
  expects_it : handoff_word (expected_handoff_at (state_of s m) s.number (state_of s m).point) ≡ at.0
  expects_it = ap (λ (q : Point). handoff_word (expected_handoff_at (state_of s m) s.number q)) at.1.0 ∙ packs_handoff at.0

  pub loses_word : n ≢ word → AcceptsWordIn s t m word (Err Refusal.Busy)
  loses_word other = (at.0, at.1, loses (forgotten s) p m at.0 (may_forgotten s p m may) at.1.0 t did.0 did.1 (λ e. did.2.misses other (e ∙ sym expects_it)))

  module _ (same : n ≡ word) (may1 : MayStepIn t p m) where
    hit : did.0 ≡ at.0
    hit = did.2.hits same ∙ expects_it

    pub adds_word : IsPlainAccessOf p.limits.seats t.number (state_of t m) (Access.FetchAdd 0 1)
    adds_word = adds (forgotten s) p m at.0 (may_forgotten s p m may) at.1.0 t did.0 did.1 hit may1

    module _ (u : TableSeat) (count : ℕ) (added : MovesIn t u p m count) (may2 : MayStepIn u p m) where
      pub enters_word : IsPlainAccessOf p.limits.seats u.number (state_of u m) (Access.Store 1 u.number)
      enters_word = enters (forgotten s) p m at.0 (may_forgotten s p m may) at.1.0 t did.0 did.1 hit may1 u count added may2

      pub accepts_word : (v : TableSeat) (stored : ℕ) → MovesIn u v p m stored → stored ≡ s.number → AcceptsWordIn s v m word (Ok (Locked.Held How.Free))
      accepts_word v stored entered told = (at.0, at.1, accepts (forgotten s) p m at.0 (may_forgotten s p m may) at.1.0 t did.0 did.1 hit may1 u count added may2 v stored entered told)

-- The loads of the owner and of the handoff word

-- the end of a try_lock does not depend on the point
ended_anywhere : (result : Result Locked Refusal) (d t ps : ℕ) (q r : Point) → ended result (made_of d t ps q) ≡ ended result (made_of d t ps r)
ended_anywhere (Ok locked) d t ps q r = refl
ended_anywhere (Err refusal) d t ps q r = refl

module _ (s : TableSeat) (p : Pool) (m : ℕ) (may : MayStepIn s p m) (at : (state_of s m).point ≡ TryOwnerLoad) (flat : (state_of s m).depth ≡ 0) where
  abbrev y : SeatState
  y = state_of s m

  pub loads_owner : IsPlainAccessOf p.limits.seats s.number (state_of s m) (Access.Load 1)
  loads_owner = (((Kind.OwnerLoad, ap kind at, refl, (λ n. refl), refl), omega arith, λ e. omega (arith, e)), ap needs_chain at)

  module _ (t : TableSeat) (owner : ℕ) (did : MovesIn s t p m owner) (finds : Finds s.number (state_of s m) owner) (may1 : MayStepIn t p m) where
    other_owner : owner ≢ s.number
    other_owner same = let held = finds.owner (ap kind at) same in omega (arith, held, flat)

    loaded : MakesIn s t m (seen TryOwnerLoad owner ∷ []) (made_of y.depth y.takes y.posts TryHandoffLoad)
    loaded = move_made s t p m owner (made_of y.depth y.takes y.posts TryOwnerLoad) (made_of y.depth y.takes y.posts TryHandoffLoad) (λ o. owner_loaded y.depth y.takes y.posts s.number owner o other_owner)
        (λ deep. idle_at (made_of y.depth y.takes y.posts TryOwnerLoad) flat refl) may (at_point y TryOwnerLoad at) did

    pub at_load : loads_handoff (state_of t m).point ≡ true
    at_load = ap (λ (z : SeatState). loads_handoff z.point) (state_after s t p m _ _ may loaded)

    module _ (u : TableSeat) (word : ℕ) (read : MovesIn t u p m word) where
      pub ends_without : is_posted_word word ≡ false → EndsTryIn s u m (Err Refusal.Busy)
      ends_without none = (
        seen TryOwnerLoad owner ∷ seen TryHandoffLoad word ∷ [],
        (owner, word, [], other_owner, subst (λ (b : Bool). StepsIfPosted b s.number word (Err Refusal.Busy) []) (sym none) (refl, refl), refl),
        then_move s t u p m may _ _ loaded word (made_of y.depth (y.takes - 1) y.posts Rest) (λ o. nothing_posted y.depth y.takes y.posts t.number word o none) flat refl may1 read,
      )

      module _ (some : is_posted_word word ≡ true) where
        found : MakesIn s u m (seen TryOwnerLoad owner ∷ seen TryHandoffLoad word ∷ []) (made_of y.depth y.takes y.posts (TryHandoffExchange (handoff_of word)))
        found = then_move s t u p m may _ _ loaded word (made_of y.depth y.takes y.posts (TryHandoffExchange (handoff_of word))) (λ o. post_found y.depth y.takes y.posts t.number word o some) flat refl may1 read

        pub at_post : (state_of u m).point ≡ TryHandoffExchange (handoff_of word)
        at_post = ap (λ (z : SeatState). z.point) (state_after s u p m _ _ may found)

        pub ends_by : (v : TableSeat) (result : Result Locked Refusal) → u.number ≡ s.number → AcceptsIn u v m word result → EndsTryIn s v m result
        ends_by v result named accepts = (
          seen TryOwnerLoad owner ∷ seen TryHandoffLoad word ∷ accepts.0,
          (
            owner,
            word,
            accepts.0,
            other_owner,
            subst (λ (b : Bool). StepsIfPosted b s.number word result accepts.0) (sym some) (subst (λ (n : ℕ). AcceptSteps n word result accepts.0) named accepts.1),
            refl,
          ),
          join s u v p m may _ _ found (idle_at (made_of y.depth y.takes y.posts (TryHandoffExchange (handoff_of word))) flat refl) accepts.0 (ended result y) (subst (λ (z : SeatState). MakesIn u v m accepts.0 z) (ap (ended result) (state_after s u p m _ _ may found) ∙ ended_anywhere result y.depth y.takes y.posts (TryHandoffExchange (handoff_of word)) y.point) accepts.2),
        )

-- a seat that remembers no number knows all that it knows without it
ends_remember : (s u : TableSeat) (m : ℕ) (result : Result Locked Refusal) → u.place.me.0.found ≡ 0 → EndsTryIn s (forgotten u) m result → EndsTryIn s u m result
ends_remember s u m result none ends =
    subst
    (λ (z : Me ℕ PoolView).
    (new : List Seen) × TakenSteps s.number result new
    × KnowsMoreOf m (λ w k. Made new (ended result (state_of s m)) (part s.place.me.0 m) w × (k ≡ note_since w (note_of s m))) s.place.me z)
    (forgets_none u.place.me none) ends

module _ (s : TableSeat) (p : Pool) (m : ℕ) (may : MayStepIn s p m) (at : (state_of s m).point ≡ TryOwnerLoad) (flat : (state_of s m).depth ≡ 0) (t : TableSeat) (owner : ℕ) (did : MovesIn s t p m owner) (finds : Finds s.number (state_of s m) owner)
    (may1 : MayStepIn t p m) (u : TableSeat) (n : ℕ) (read : LoadsWordIn t u p m n) where
  posted_there : is_posted_word read.0 ≡ is_posted_word n
  posted_there = ap (λ (k : ℕ). not (nat_eq k 0)) read.2.seat

  pub ends_at_none : is_posted_word n ≡ false → EndsTryIn s u m (Err Refusal.Busy)
  ends_at_none none =
      let zero : (handoff_of n).seat ≡ 0 = eqb-true (handoff_of n).seat 0 (not-false (nat_eq (handoff_of n).seat 0) none) in
      ends_remember s u m (Err Refusal.Busy) (read.3 ∙ read.2.none zero) (ends_without s p m may at flat t owner did finds may1 (forgotten u) read.0 read.1 (posted_there ∙ none))

  module _ (some : is_posted_word n ≡ true) where
    there : (state_of u m).point ≡ TryHandoffExchange (handoff_of read.0)
    there = at_post s p m may at flat t owner did finds may1 (forgotten u) read.0 read.1 (posted_there ∙ some)

    pub at_word : (l : ℕ) × IsPostWord n u m l
    at_word = (read.0, (there, sym (packs_handoff n) ∙ (λ i. handoff_word (record { seat = sym read.2.seat i; post = sym read.3 i }))))

    pub ends_by_word : (v : TableSeat) (result : Result Locked Refusal) → u.number ≡ s.number → AcceptsWordIn u v m n result → EndsTryIn s v m result
    ends_by_word v result named accepted =
        let e : TryHandoffExchange (handoff_of accepted.0) ≡ TryHandoffExchange (handoff_of read.0) = sym accepted.1.0 ∙ there in
        let one : handoff_of accepted.0 ≡ handoff_of read.0 = cc in
        let same : accepted.0 ≡ read.0 = sym (packs_handoff accepted.0) ∙ ap handoff_word one ∙ packs_handoff read.0 in
        ends_by s p m may at flat t owner did finds may1 (forgotten u) read.0 read.1 (posted_there ∙ some) v result named (subst (λ (k : ℕ). AcceptsIn (forgotten u) v m k result) same accepted.2)

-- The whole call

-- a seat that is at rest and rests in all other mutexes
pub may_try : (s : TableSeat) (p : Pool) (m : ℕ) → OfPool s p → IsMutex m p → MayTryIn s p m → RestsInOthers s m → MayStepIn s p m
may_try s p m belongs less may rests = record { belongs = belongs; mutex = less; sits = may.sits; elsewhere = rests }

-- a charge that is given back leaves the seat as it was
ended_tried : (result : Result Locked Refusal) (x : SeatState) → x.point ≡ Rest → ended result (record x { takes = x.takes + 1; point = TryOwnerLoad }) ≡ tried result x
ended_tried (Ok locked) x rests = λ i. record { depth = 1; takes = x.takes + 1; posts = x.posts; point = sym rests i }
ended_tried (Err refusal) x rests = let back : x.takes + 1 - 1 ≡ x.takes = omega arith in λ i. record { depth = x.depth; takes = back i; posts = x.posts; point = sym rests i }

module _ (s t : TableSeat) (p : Pool) (m : ℕ) where
  -- the mutex was free
  pub entered_free : EntersIn s t p m → TriesIn s t m (Ok (Locked.Held How.Free))
  entered_free did = (
    seen TryCountExchange 0 ∷ seen (EnterOwnerStore Entrant.Trier How.Free) s.number ∷ [],
    inl (refl, refl),
    (
      did.0,
      did.1,
      did.2,
      (
        record { trail = did.3.0.trail; state = did.3.0.state; run = did.3.0.run },
        did.3.1.noted ∙ sym (since_carrying did.0 (note_of s m) (record (state_of s m) { depth = 1; takes = (state_of s m).takes + 1 }) did.3.0.state refl),
      ),
    ),
  )

  pub may_free : MayStepIn s p m → SameSeat s t → EntersIn s t p m → MayStepIn t p m
  may_free may same did = may_then s t p m may same (did.0, did.1, did.2, did.3.1.sits)

  module _ (count : ℕ) (may : MayStepIn s p m) (did : FindsTakenIn s t p m count) (flat : (state_of s m).depth ≡ 0) where
    -- the seat does not carry the mutex
    abbrev taken_state : SeatState
    taken_state = record (state_of s m) { takes = (state_of s m).takes + 1; point = TryOwnerLoad }

    taken : MakesIn s t m (seen TryCountExchange count ∷ []) taken_state
    taken = (
      did.0,
      did.1,
      did.2,
      (
        record { trail = did.3.0.trail; state = did.3.0.state; run = did.3.0.run },
        did.3.2 ∙ sym (since_idle did.0 (note_of s m) taken_state did.3.0.state (idle_at taken_state flat refl)),
      ),
    )

    pub may_taken : SameSeat s t → MayStepIn t p m
    may_taken same = may_then s t p m may same (did.0, did.1, did.2, did.3.1)

    pub at_owner : (state_of t m).point ≡ TryOwnerLoad
    at_owner = ap (λ (z : SeatState). z.point) (state_after s t p m _ _ may taken)

    pub still_flat : (state_of t m).depth ≡ 0
    still_flat = ap (λ (z : SeatState). z.depth) (state_after s t p m _ _ may taken) ∙ flat

    pub tries_by : (u : TableSeat) (result : Result Locked Refusal) → count ≢ 0 → (state_of s m).point ≡ Rest → t.number ≡ s.number → EndsTryIn t u m result → TriesIn s u m result
    tries_by u result some rests named ends = (
      seen TryCountExchange count ∷ ends.0,
      inr (count, ends.0, some, subst (λ (n : ℕ). TakenSteps n result ends.0) named ends.1, refl),
      join s t u p m may _ _ taken (idle_at taken_state flat refl) ends.0 (tried result (state_of s m)) (subst (λ (z : SeatState). MakesIn t u m ends.0 z) (ap (ended result) (state_after s t p m _ _ may taken) ∙ ended_tried result (state_of s m) rests) ends.2),
    )

-- a seat that has acquired the mutex may release it
pub try_holds : (s t : TableSeat) (p : Pool) (m : ℕ) (result : Result Locked Refusal) → MayStepIn s p m → (state_of s m).point ≡ Rest → MayStepIn t p m → TriesIn s t m result → IfOk result (λ _. HoldsOnceIn t p m)
try_holds s t p m (Ok locked) may rests later tries = holds_after s t p m tries.0 (tried (Ok locked) (state_of s m)) may tries.2 later rests refl
try_holds s t p m (Err refusal) may rests later tries = tt

-- The number of steps

accept_length : (number post : ℕ) (result : Result Locked Refusal) (new : List Seen) → AcceptSteps number post result new → length new ≤ 3
accept_length number post (Ok (Locked.Held How.Free)) new h = let e = ap length h.1 in omega (arith, e)
accept_length number post (Err Refusal.Busy) new h = let e = ap length h.2 in omega (arith, e)
accept_length number post _ new h = absurd h

posted_length : (b : Bool) (number word : ℕ) (result : Result Locked Refusal) (new : List Seen) → StepsIfPosted b number word result new → length new ≤ 3
posted_length true number word result new h = accept_length number word result new h
posted_length false number word result new h = let e = ap length h.1 in omega (arith, e)

taken_length : (number : ℕ) (result : Result Locked Refusal) (new : List Seen) → TakenSteps number result new → length new ≤ 5
taken_length number result new h = let e = ap length h.5 in let less = posted_length (is_posted_word h.1) number h.1 result h.2 h.4 in omega (arith, e, less)

try_length : (number : ℕ) (result : Result Locked Refusal) (new : List Seen) → TrySteps number result new → length new ≤ 6
try_length number result new steps =
    elim steps [
      | inl h ↦ let e = ap length h.1 in omega (arith, e)
      | inr h ↦ let e = ap length h.4 in let less = taken_length number result h.1 h.3 in omega (arith, e, less)
    ]

pub try_bounded : (s t : TableSeat) (p : Pool) (m : ℕ) (result : Result Locked Refusal) → MayStepIn s p m → TriesIn s t m result → MakesAtMostIn 6 s t m
try_bounded s t p m result may tries = at_most s t p m 6 tries.0 (tried result (state_of s m)) may tries.2 (try_length s.number result tries.0 tries.1)
