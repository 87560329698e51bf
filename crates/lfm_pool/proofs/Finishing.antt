-- The end of a lock that has taken a post over: the seat after each part of it.
use Rattle.std.proofs.Common.{◌≡◌, ◌≢◌, ℕ, ◌+◌, ◌*◌, ◌<◌, ◌≤◌, List, [], ◌∷◌, ◌++◌, drop, length, Option, refl, sym, ap, ◌∙◌, subst, inr, arith, append_assoc, length-append}
use Rattle.std.specs.Prelude.{⊤, true, false}
use Rattle.std.proofs.lemmas.Bool.{eq-eqb, ne_eqb}
use Rattle.atomic_table.specs.Table.{Me}
use Rattle.lfm_model.specs.declared.answers.How.{How}
use Rattle.lfm_words.specs.declared.links.Link.{Link}
use Rattle.lfm_words.specs.declared.pop_lists.Record.{Record}
use Rattle.lfm_words.specs.declared.wakes.Wake.TheVariants.{Grant}
use Rattle.lfm_words.specs.Popped.{oldest}
use Rattle.lfm_words.specs.Words.{link_of, link_word, seat_field_size, wake_word}
use Rattle.lfm_protocol.specs.Limits.{max_seats}
use Rattle.lfm_protocol.specs.After.{serves, take}
use Rattle.lfm_protocol.specs.Points.{target}
use Rattle.lfm_protocol.specs.declared.kinds.Kind.{Kind}
use Rattle.lfm_protocol.specs.declared.points.Carrier.{Carrier}
use Rattle.lfm_protocol.specs.declared.points.Entrant.{Entrant}
use Rattle.lfm_protocol.specs.declared.points.Point.{Point}
use Rattle.lfm_protocol.specs.declared.points.Point.TheVariants.{Rest, Asleep, TakeClearHead, TakeLinkLoad, GrantWakeStore, EnterOwnerStore}
use Rattle.lfm_protocol.specs.declared.points.Sleeper.TheVariants as Sleeper
use Rattle.lfm_protocol.specs.declared.seats.SeatState.{SeatState}
use Rattle.lfm_protocol.specs.Place.{carries}
use Rattle.lfm_laws.specs.table.Words.{popped_by_step, stepped_by}
use Rattle.lfm_table.specs.declared.operations.Access.{Access}
use Rattle.lfm_table.specs.declared.seat_view.Seen.{Seen}
use Rattle.lfm_table.specs.declared.seat_view.View.{View}
use Rattle.lfm_table.specs.Actions.{seen}
use Rattle.lfm_table.proofs.tables.Actions.{run_next}
use Rattle.lfm_table.proofs.tables.StepFacts.{carrying, made_of, taking}
use Rattle.lfm_pool.specs.declared.finish_ask.Finished.{Finished}
use Rattle.lfm_pool.specs.declared.pool.Pool.{Pool}
use Rattle.lfm_pool.specs.declared.pool.TableSeat.{TableSeat}
use Rattle.lfm_pool.specs.declared.view.Note.{Note}
use Rattle.lfm_pool.specs.declared.view.PoolView.{PoolView}
use Rattle.lfm_pool.specs.Belongs.{SameSeat}
use Rattle.lfm_pool.specs.Carrying.{CarriesIn, NotesIn}
use Rattle.lfm_pool.specs.Chain.{AreWithin, HasRecord, first_link, first_seat, note_after, rested}
use Rattle.lfm_pool.specs.Collecting.{CollectsIn, loads_of, walk_head}
use Rattle.lfm_pool.specs.FastPaths.{KnowsMoreOf}
use Rattle.lfm_pool.specs.FinishAsk.{ClearsForLock, EntersByOwn, FinishesIn, FinishSteps, IsReadyFinished, NotesFinished, TakesOldest, finished}
use Rattle.lfm_pool.specs.Moves.{Made, MakesAtMostIn, MayStepIn}
use Rattle.lfm_pool.specs.Releasing.{AreQueued, collecting}
use Rattle.lfm_pool.specs.Seats.{MovesIn, note_of, popped_of, state_of}
use Rattle.lfm_pool.specs.SeatWords.{Grants, LoadsLink}
use Rattle.lfm_pool.specs.Serving.{GrantsIn, IsOldest, ServesOldest}
use Rattle.lfm_pool.specs.Steps.{IsOwnAccessOf, KeepsChainIn, RestsElsewhere, Sits, StepsIn}
use Rattle.lfm_pool.specs.Tables.{known, note, part, with_part}
use Rattle.lfm_pool.proofs.CarrierWords.{first_record}
use Rattle.lfm_pool.proofs.FastPaths.{both, elsewhere_with, goes_on, note_now, part_now, twice_with}
use Rattle.lfm_pool.proofs.Keeping.{carried_on, is_link_load, keeps_at, may_push}
use Rattle.lfm_pool.proofs.LoneTables.{note_same, part_same}
use Rattle.lfm_pool.proofs.ServingRecords.{first_within}
use Rattle.lfm_pool.proofs.SeveralSteps.{at_point, inside, made_by, may_after, may_then}
use Rattle.lfm_pool.proofs.UnlockSteps.{bounded_by, collecting_length}

-- Two parts of a call, each of which has made some steps

made_then : (v w z : View ⊤) (new more : List Seen) (x y : SeatState) → Made new x v w → Made more y w z → Made (new ++ more) y v z
made_then v w z new more x y first second = record {
  trail = second.trail ∙ ap (λ (l : List Seen). l ++ more) first.trail ∙ append_assoc v.trail new more;
  state = second.state;
  run = run_next first.run second.run;
}

-- where a lock with the number s serves the record r
own_next : (s : ℕ) (r : Record) → r.seat ≡ s → serves Carrier.Locker s r ≡ EnterOwnerStore Entrant.Locker (How.Queued r.stamp)
own_next s r own = let h = eq-eqb r.seat s own in rw h refl

other_next : (s : ℕ) (r : Record) → r.seat ≢ s → serves Carrier.Locker s r ≡ GrantWakeStore Carrier.Locker r
other_next s r other = let h = ne_eqb r.seat s other in rw h refl

-- The last step: the seat u has the data y, and serves the first of these records

module _ (u z : TableSeat) (p : Pool) (m n : ℕ) (may : MayStepIn u p m) (y y' : SeatState) (at : state_of u m ≡ y) (on : carries y.point ≡ true) (loads : is_link_load y.point ≡ false) (r : Record) (rest : List Record)
    (list : popped_of u m ≡ r ∷ rest) (whole : note_of u m ≡ rested rest) (leads : (o : Option Record) → (stepped_by y u.number n o).seat ≡ y') (drops : (l : List Record) → popped_by_step y u.number n l ≡ drop 1 l) (did : MovesIn u z p m n) where
  abbrev Did : SeatState → Type 0
  Did x = StepsIn u.number u.place.id m p.limits x u.place.me n z.place.me

  pub last : Did y
  last = subst Did at did

  last_made : Made (seen y.point n ∷ []) y' (part u.place.me.0 m) last.0
  last_made = made_by u z p m n y y' leads (subst (λ (x : SeatState). Sits u.number u.place.id p.limits x (part u.place.me.0 m)) at may.sits) last

  last_left : last.0.popped ≡ rest
  last_left = last.3.listed ∙ drops last.3.popped ∙ ap (λ (l : List Record). drop 1 l) (last.3.had (carrying y on) ∙ list)

  last_note : note_after y last.0 (note_of u m) ≡ rested last.0.popped
  last_note = carried_on y last.0 (note_of u m) (carrying y on) loads ∙ whole ∙ ap rested (sym last_left)

  -- the whole, from the seat s on, which has come to u by these steps, and has the same number
  module _ (s : TableSeat) (same : SameSeat s u) (result : Finished) (new : List Seen) (x : SeatState) (earlier : Made new x (part s.place.me.0 m) (part u.place.me.0 m))
      (reaches : (w : View ⊤) (k : Note) → z.place.me ≡ (with_part u.place.me.0 m w k, u.place.me.1) → z.place.me ≡ (with_part s.place.me.0 m w k, s.place.me.1))
      (steps : FinishSteps result s.number (popped_of s m) rest (new ++ seen y.point n ∷ [])) (ends : y' ≡ finished result (state_of s m)) (notes : NotesFinished result (note_after y last.0 (note_of u m)) last.0.popped) where
    pub finishes : FinishesIn result s z p m
    finishes = (
      last.0,
      note_after y last.0 (note_of u m),
      reaches last.0 (note_after y last.0 (note_of u m)) last.1,
      (
        (
          new ++ seen y.point n ∷ [],
          subst (λ (l : List Record). FinishSteps result s.number (popped_of s m) l (new ++ seen y.point n ∷ [])) (sym last_left) steps,
          subst (λ (q : SeatState). Made (new ++ seen y.point n ∷ []) q (part s.place.me.0 m) last.0) ends (made_then (part s.place.me.0 m) (part u.place.me.0 m) last.0 new (seen y.point n ∷ []) x y' earlier last_made),
        ),
        subst (λ (i : ℕ × ℕ). Sits i.0 i.1 p.limits last.0.state last.0) (λ i. (same.number i, same.id i)) last.2,
        notes,
      ),
    )

-- The seat after it

module _ (s t : TableSeat) (p : Pool) (m : ℕ) (may : MayStepIn s p m) (same : SameSeat s t) where
  pub may_finished : (result : Finished) → FinishesIn result s t p m → MayStepIn t p m
  may_finished result did = may_then s t p m may same (did.0, did.1, did.2, did.3.1)

  module _ (result : Finished) (did : FinishesIn result s t p m) where
    now : part t.place.me.0 m ≡ did.0
    now = part_now s.number s.place.id m p.limits s.place.me t.place.me t.place.me (inside s t p m may) did.0 did.1 did.2

    state_now : state_of t m ≡ finished result (state_of s m)
    state_now = ap (λ (y : View ⊤). y.state) now ∙ did.3.0.2.state

    whole_now : did.1 ≡ rested did.0.popped → note_of t m ≡ rested (popped_of t m)
    whole_now e = note_now s.number s.place.id m p.limits s.place.me t.place.me t.place.me (inside s t p m may) did.0 did.1 did.2 ∙ e ∙ ap (λ (y : View ⊤). rested y.popped) (sym now)

  pub ready_finished : (result : Finished) → FinishesIn result s t p m → IsReadyFinished result t p m
  ready_finished (Finished.Held stamp) did = record {
    sits = (may_finished (Finished.Held stamp) did).sits;
    rests = ap (λ (y : SeatState). y.point) (state_now (Finished.Held stamp) did);
    now = subst (λ (d : ℕ). Sits t.number t.place.id p.limits (record (state_of t m) { depth = d }) (part t.place.me.0 m)) (ap (λ (y : SeatState). y.depth) (state_now (Finished.Held stamp) did)) (may_finished (Finished.Held stamp) did).sits;
    noted = whole_now (Finished.Held stamp) did did.3.2;
  }
  ready_finished (Finished.Granted r) did = (Sleeper.Locker, ap (λ (y : SeatState). y.point) (state_now (Finished.Granted r) did))

pub finish_length : (result : Finished) (number : ℕ) (before after : List Record) (new : List Seen) → FinishSteps result number before after new → length new ≤ 3 + length after
finish_length (Finished.Held stamp) number before after new h =
    let less = collecting_length Carrier.Locker before h.0 (h.1 ∷ after) in
    let long = ap length h.5 ∙ length-append (collecting Carrier.Locker before h.0 (h.1 ∷ after)) (seen (EnterOwnerStore Entrant.Locker (How.Queued h.1.stamp)) number ∷ []) in
    omega (arith, less, long)
finish_length (Finished.Granted r) number before after new h =
    let less = collecting_length Carrier.Locker before h.0 (r ∷ after) in
    let long = ap length h.3 ∙ length-append (collecting Carrier.Locker before h.0 (r ∷ after)) (seen (GrantWakeStore Carrier.Locker r) (wake_word (Grant r.stamp)) ∷ []) in
    omega (arith, less, long)

pub finish_bounded : (s t : TableSeat) (p : Pool) (m : ℕ) → MayStepIn s p m → (result : Finished) → FinishesIn result s t p m → MakesAtMostIn (3 + length (popped_of t m)) s t m
finish_bounded s t p m may result did = bounded_by s t p m may 3 did.0 did.1 did.3.0.0 did.2 did.3.0.2.trail (finish_length result s.number (popped_of s m) did.0.popped did.3.0.0 did.3.0.1)

-- Its parts

-- a seat that knows the same as s
module _ (s t : TableSeat) (p : Pool) (m : ℕ) (same : SameSeat s t) (knows : t.place.me ≡ s.place.me) where
  pub may_too : MayStepIn s p m → MayStepIn t p m
  may_too may = record {
    belongs = record { table = same.table ∙ may.belongs.table; parts = same.parts ∙ may.belongs.parts };
    mutex = may.mutex;
    sits = subst (λ (y : ℕ × ℕ × Me ℕ PoolView). Sits y.0 y.1 p.limits (part y.2.0 m).state (part y.2.0 m)) (λ i. (sym same.number i, sym same.id i, sym knows i)) may.sits;
    elsewhere = subst (λ (z : Me ℕ PoolView). RestsElsewhere z.0 m) (sym knows) may.elsewhere;
  }

  pub takes_too : TakesOldest s m → TakesOldest t m
  takes_too takes = subst (λ (y : ℕ × Me ℕ PoolView). (part y.1.0 m).state.point ≡ take Carrier.Locker y.0 (oldest (part y.1.0 m).popped)) (λ i. (sym same.number i, sym knows i)) takes

  pub whole_too : note_of s m ≡ rested (popped_of s m) → note_of t m ≡ rested (popped_of t m)
  whole_too whole = subst (λ (z : Me ℕ PoolView). note z.0 m ≡ rested (part z.0 m).popped) (sym knows) whole

  pub finishes_from : (u : TableSeat) (result : Finished) → FinishesIn result t u p m → FinishesIn result s u p m
  finishes_from u result did =
      subst (λ (y : ℕ × ℕ × Me ℕ PoolView). KnowsMoreOf m (λ w k. ((new : List Seen) × FinishSteps result y.0 (part y.2.0 m).popped w.popped new × Made new (finished result (part y.2.0 m).state) (part y.2.0 m) w) × Sits y.0 y.1 p.limits w.state w × NotesFinished result k w.popped) y.2 u.place.me) (λ i. (same.number i, same.id i, knows i)) did

module _ (s : TableSeat) (p : Pool) (m : ℕ) (may : MayStepIn s p m) (takes : TakesOldest s m) (whole : note_of s m ≡ rested (popped_of s m)) where
  pub taking_carries : CarriesIn s m
  taking_carries = carrying (state_of s m) (ap carries takes ∙ taking Carrier.Locker s.number (oldest (popped_of s m)))

  pub taking_oldest : (n : ℕ) → n ≡ (note_of s m).carried → n ≡ first_seat (popped_of s m)
  taking_oldest n e = e ∙ ap (λ (k : Note). k.carried) whole

  -- the first record, if the carried word names one
  first_of : (n : ℕ) → n ≡ (note_of s m).carried → n ≢ 0 → (r : Record) × (rest : List Record) × (popped_of s m ≡ r ∷ rest)
  first_of n e more = let same = taking_oldest n e in first_record (popped_of s m) (omega (arith, same, more))

  serving_at : (r : Record) (rest : List Record) → popped_of s m ≡ r ∷ rest → (state_of s m).point ≡ serves Carrier.Locker s.number r
  serving_at r rest list = takes ∙ ap (λ (l : List Record). take Carrier.Locker s.number (oldest l)) list

  pub enters_own : (n : ℕ) → n ≡ (note_of s m).carried → n ≢ 0 → n ≡ s.number → EntersByOwn s m
  enters_own n e more own =
      let f = first_of n e more in
      let is : f.0.seat ≡ s.number = sym (taking_oldest n e ∙ ap first_seat f.2) ∙ own in
      (f.0, is, serving_at f.0 f.1 f.2 ∙ own_next s.number f.0 is, (f.1, f.2))

  pub grants_other : (n : ℕ) → n ≡ (note_of s m).carried → n ≢ 0 → n ≢ s.number → ServesOldest s m
  grants_other n e more other =
      let f = first_of n e more in
      let not : f.0.seat ≢ s.number = λ own. other (taking_oldest n e ∙ ap first_seat f.2 ∙ own) in
      (Carrier.Locker, f.0, serving_at f.0 f.1 f.2 ∙ other_next s.number f.0 not, (f.1, f.2))

  none_by : (l : List Record) → popped_of s m ≡ l → first_seat l ≡ 0 → popped_of s m ≡ []
  none_by [] e none = e
  none_by (r ∷ rest) e none =
      let low = may.sits.rooted.low in
      let here = serving_at r rest e ∙ other_next s.number r (λ own. omega (arith, own, none, low)) in
      let above : 0 < r.seat = subst (λ (q : Point). 0 < target q s.number) here may.sits.ready.above in
      absurd (omega (arith, above, none))

  pub none_popped : (n : ℕ) → n ≡ (note_of s m).carried → n ≡ 0 → popped_of s m ≡ []
  none_popped n e zero = none_by (popped_of s m) refl (sym (taking_oldest n e) ∙ zero)

  pub clears_next : popped_of s m ≡ [] → ClearsForLock (state_of s m)
  clears_next none = takes ∙ ap (λ (l : List Record). take Carrier.Locker s.number (oldest l)) none

  -- it has granted a record that was popped
  pub granted_other : (n : ℕ) → n ≡ (note_of s m).carried → n ≢ 0 → n ≢ s.number → (t : TableSeat) (r : Record) → IsOldest r (popped_of s m) → GrantsIn s t p m r → FinishesIn (Finished.Granted r) s t p m
  granted_other n e more other t r first did =
      let x = state_of s m in
      let v = part s.place.me.0 m in
      let k : ℕ = wake_word (Grant r.stamp) in
      let not : r.seat ≢ s.number = λ own. other (taking_oldest n e ∙ ap first_seat first.1 ∙ own) in
      let here : x.point ≡ GrantWakeStore Carrier.Locker r = serving_at r first.0 first.1 ∙ other_next s.number r not in
      let left : did.0.popped ≡ first.0 =
      did.3.0.listed ∙ ap (λ (q : Point). popped_by_step (made_of x.depth x.takes x.posts q) s.number k did.3.0.popped) here
      ∙ ap (λ (l : List Record). drop 1 l) (did.3.0.had (carrying x (ap carries here)) ∙ first.1)
      in (
        did.0,
        did.1,
        did.2,
        (
          (
            seen (GrantWakeStore Carrier.Locker r) k ∷ [],
            (
              0,
              not,
              subst (λ (l : List Record). AreQueued l 0 (r ∷ did.0.popped)) (sym first.1) (ap (λ (l : List Record). r ∷ l) left),
              subst (λ (l : List Record). seen (GrantWakeStore Carrier.Locker r) k ∷ [] ≡ collecting Carrier.Locker l 0 (r ∷ did.0.popped) ++ seen (GrantWakeStore Carrier.Locker r) k ∷ []) (sym first.1) refl,
            ),
            record {
              trail = did.3.0.trail ∙ ap (λ (q : Point). v.trail ++ seen q k ∷ []) here;
              state = did.3.0.state ∙ ap (λ (q : Point). (stepped_by (made_of x.depth x.takes x.posts q) s.number k (oldest did.3.0.popped)).seat) here;
              run = goes_on s.number s.place.id p.limits x did.0.state v did.0 k may.sits did.3.1 did.3.0;
            },
          ),
          did.3.1,
          tt,
        ),
      )

-- It acquires the mutex by a record that was popped

module _ (s : TableSeat) (p : Pool) (m : ℕ) (may : MayStepIn s p m) (own : EntersByOwn s m) (whole : note_of s m ≡ rested (popped_of s m)) where
  abbrev entering : SeatState
  entering = made_of (state_of s m).depth (state_of s m).takes (state_of s m).posts (EnterOwnerStore Entrant.Locker (How.Queued own.0.stamp))

  pub enter_carries : CarriesIn s m
  enter_carries = carrying (state_of s m) (ap carries own.2)

  pub enter_oldest : s.number ≡ first_seat (popped_of s m)
  enter_oldest = sym own.1 ∙ sym (ap first_seat own.3.1)

  -- what the link word tells
  pub enter_next : (link : Link) (word : ℕ) → link_word link ≡ word → link.next < seat_field_size → word ≡ first_link (popped_of s m) → AreWithin max_seats (popped_of s m) → link.next ≡ first_seat own.3.0
  enter_next link word packs small finds within =
      let same : link.stamp * seat_field_size + link.next ≡ own.0.stamp * seat_field_size + first_seat own.3.0 = packs ∙ finds ∙ ap first_link own.3.1 in
      let later : AreWithin max_seats own.3.0 = λ t has. within t (subst (λ (k : List Record). HasRecord t k) (sym own.3.1) (inr has)) in
      let low = first_within max_seats own.3.0 later in
      omega (arith, same, small, low)

  pub enter_stamp : (link : Link) (word : ℕ) → link_word link ≡ word → link.next < seat_field_size → word ≡ first_link (popped_of s m) → AreWithin max_seats (popped_of s m) → own.0.stamp ≡ link.stamp
  enter_stamp link word packs small finds within =
      let same : link.stamp * seat_field_size + link.next ≡ own.0.stamp * seat_field_size + first_seat own.3.0 = packs ∙ finds ∙ ap first_link own.3.1 in
      let later : AreWithin max_seats own.3.0 = λ t has. within t (subst (λ (k : List Record). HasRecord t k) (sym own.3.1) (inr has)) in
      let low = first_within max_seats own.3.0 later in
      omega (arith, same, small, low)

  module _ (s1 s2 : TableSeat) (knows : s1.place.me ≡ s.place.me) (same1 : SameSeat s s1) (same2 : SameSeat s1 s2) (next : ℕ) (notes : NotesIn s1 s2 m (record (note_of s1 m) { carried = next })) (next_is : next ≡ first_seat own.3.0) where
    here : m < length s1.place.me.0.parts
    here = let a = same1.parts in let b = may.belongs.parts in let c = may.mutex in omega (arith, a, b, c)

    part2 : part s2.place.me.0 m ≡ part s.place.me.0 m
    part2 = ap (λ (z : Me ℕ PoolView). part z.0 m) notes ∙ part_same s1.place.me.0 m (part s1.place.me.0 m) (record (note_of s1 m) { carried = next }) here ∙ ap (λ (z : Me ℕ PoolView). part z.0 m) knows

    note2 : note_of s2 m ≡ rested own.3.0
    note2 =
        let due : (note_of s1 m).due ≡ 0 = ap (λ (z : Me ℕ PoolView). (note z.0 m).due) knows ∙ ap (λ (n : Note). n.due) whole in
        ap (λ (z : Me ℕ PoolView). note z.0 m) notes ∙ note_same s1.place.me.0 m (part s1.place.me.0 m) (record (note_of s1 m) { carried = next }) here ∙ (λ i. record { due = due i; carried = next_is i })

    pub same_both : SameSeat s s2
    same_both = record { table = same2.table ∙ same1.table; id = same2.id ∙ same1.id; number = same2.number ∙ same1.number; parts = same2.parts ∙ same1.parts }

    pub may_enter : MayStepIn s2 p m
    may_enter = record {
      belongs = record { table = same_both.table ∙ may.belongs.table; parts = same_both.parts ∙ may.belongs.parts };
      mutex = may.mutex;
      sits = subst (λ (y : ℕ × ℕ × View ⊤). Sits y.0 y.1 p.limits y.2.state y.2) (λ i. (sym same_both.number i, sym same_both.id i, sym part2 i)) may.sits;
      elsewhere = subst (λ (z : Me ℕ PoolView). RestsElsewhere z.0 m) (sym notes)
          (elsewhere_with s1.place.me.0 m (part s1.place.me.0 m) (record (note_of s1 m) { carried = next }) (subst (λ (z : Me ℕ PoolView). RestsElsewhere z.0 m) (sym knows) may.elsewhere));
    }

    state2 : state_of s2 m ≡ entering
    state2 = ap (λ (y : View ⊤). y.state) part2 ∙ at_point (state_of s m) (EnterOwnerStore Entrant.Locker (How.Queued own.0.stamp)) own.2

    pub enter_access : (number : ℕ) → number ≡ s.number → IsOwnAccessOf p.limits.seats s2.number (state_of s2 m) (Access.Store 1 number)
    enter_access number e =
        subst (λ (y : SeatState × ℕ). IsOwnAccessOf p.limits.seats s2.number y.0 (Access.Store 1 y.1)) (λ i. (sym state2 i, (same_both.number ∙ sym e) i)) ((Kind.OwnerStore, refl, refl, (λ n. refl), refl), omega arith, λ e. omega (arith, e))

    pub enter_keeps : KeepsChainIn s2.number m (state_of s2 m) s2.place.me.0
    enter_keeps =
        let at = ap (λ (y : SeatState). y.point) state2 in (
          keeps_at (state_of s2 m) s2.number (part s2.place.me.0 m) (note_of s2 m) (EnterOwnerStore Entrant.Locker (How.Queued own.0.stamp)) at refl refl,
          may_push (EnterOwnerStore Entrant.Locker (How.Queued own.0.stamp)) (known s2.place.me.0 m) (state_of s2 m).point at tt,
        )

    pub entered : (stamp : ℕ) → own.0.stamp ≡ stamp → (z : TableSeat) (n : ℕ) → MovesIn s2 z p m n → n ≡ s.number → FinishesIn (Finished.Held stamp) s z p m
    entered stamp stamp_is z n moved told =
        let did : MovesIn s2 z p m s.number = subst (λ (k : ℕ). MovesIn s2 z p m k) told moved in
        let list : popped_of s2 m ≡ own.0 ∷ own.3.0 = ap (λ (y : View ⊤). y.popped) part2 ∙ own.3.1 in
        let w = last s2 z p m s.number may_enter entering (made_of 1 (state_of s m).takes (state_of s m).posts Rest) state2 refl refl own.0 own.3.0 list note2 (λ o. refl) (λ l. refl) did in
        let left : w.0.popped ≡ own.3.0 = last_left s2 z p m s.number may_enter entering (made_of 1 (state_of s m).takes (state_of s m).posts Rest) state2 refl refl own.0 own.3.0 list note2 (λ o. refl) (λ l. refl) did in (
          w.0,
          note_after entering w.0 (note_of s2 m),
          w.1 ∙ ap (λ (i : Me ℕ PoolView). (with_part i.0 m w.0 (note_after entering w.0 (note_of s2 m)), i.1)) notes
              ∙ (λ i. (twice_with s1.place.me.0 m (part s1.place.me.0 m) w.0 (record (note_of s1 m) { carried = next }) (note_after entering w.0 (note_of s2 m)) i, s1.place.me.1))
              ∙ ap (λ (i : Me ℕ PoolView). (with_part i.0 m w.0 (note_after entering w.0 (note_of s2 m)), i.1)) knows,
          (
            (
              seen (EnterOwnerStore Entrant.Locker (How.Queued own.0.stamp)) s.number ∷ [],
              (
                0,
                own.0,
                own.1,
                stamp_is,
                subst (λ (l : List Record). AreQueued l 0 (own.0 ∷ w.0.popped)) (sym own.3.1) (ap (λ (l : List Record). own.0 ∷ l) left),
                subst (λ (l : List Record). seen (EnterOwnerStore Entrant.Locker (How.Queued own.0.stamp)) s.number ∷ [] ≡ collecting Carrier.Locker l 0 (own.0 ∷ w.0.popped) ++ seen (EnterOwnerStore Entrant.Locker (How.Queued own.0.stamp)) s.number ∷ []) (sym own.3.1) refl,
              ),
              subst (λ (v : View ⊤). Made (seen (EnterOwnerStore Entrant.Locker (How.Queued own.0.stamp)) s.number ∷ []) (made_of 1 (state_of s m).takes (state_of s m).posts Rest) v w.0) part2
                  (last_made s2 z p m s.number may_enter entering (made_of 1 (state_of s m).takes (state_of s m).posts Rest) state2 refl refl own.0 own.3.0 list note2 (λ o. refl) (λ l. refl) did),
            ),
            subst (λ (i : ℕ × ℕ). Sits i.0 i.1 p.limits w.0.state w.0) (λ i. (same_both.number i, same_both.id i)) w.2,
            last_note s2 z p m s.number may_enter entering (made_of 1 (state_of s m).takes (state_of s m).posts Rest) state2 refl refl own.0 own.3.0 list note2 (λ o. refl) (λ l. refl) did,
          ),
        )

-- It collects the push list, and serves the oldest record of it

module _ (s : TableSeat) (p : Pool) (m : ℕ) (may : MayStepIn s p m) (clears : ClearsForLock (state_of s m)) (none : popped_of s m ≡ []) (whole : note_of s m ≡ rested (popped_of s m)) (t : TableSeat) (n : ℕ) (same : SameSeat s t)
    (did : MovesIn s t p m n) where
  pub may_cleared : MayStepIn t p m
  may_cleared = may_after s t p m (state_of s m) n may same did

  now_t : part t.place.me.0 m ≡ did.0
  now_t = part_now s.number s.place.id m p.limits s.place.me t.place.me t.place.me (inside s t p m may) did.0 _ did.1

  cleared_state : did.0.state ≡ record (state_of s m) { point = TakeLinkLoad Carrier.Locker (link_of n).next }
  cleared_state = did.3.state ∙ ap (λ (q : Point). (stepped_by (made_of (state_of s m).depth (state_of s m).takes (state_of s m).posts q) s.number n (oldest did.3.popped)).seat) clears

  pub cleared_none : popped_of t m ≡ []
  cleared_none =
      ap (λ (y : View ⊤). y.popped) now_t ∙ did.3.listed ∙ ap (λ (q : Point). popped_by_step (made_of (state_of s m).depth (state_of s m).takes (state_of s m).posts q) s.number n did.3.popped) clears
      ∙ did.3.had (carrying (state_of s m) (ap carries clears)) ∙ none

  pub cleared_whole : (note_of t m).due ≡ 0
  cleared_whole =
      ap (λ (k : Note). k.due)
      (note_now s.number s.place.id m p.limits s.place.me t.place.me t.place.me (inside s t p m may) did.0 _ did.1 ∙ carried_on (state_of s m) did.0 (note_of s m) (carrying (state_of s m) (ap carries clears)) (ap is_link_load clears) ∙ whole)

  cleared_at : (head : ℕ) → head ≡ (link_of n).next → (state_of t m).point ≡ TakeLinkLoad Carrier.Locker head
  cleared_at head e = ap (λ (y : View ⊤). y.state.point) now_t ∙ ap (λ (y : SeatState). y.point) cleared_state ∙ ap (λ (h : ℕ). TakeLinkLoad Carrier.Locker h) (sym e)

  pub cleared_loads : (head : ℕ) → head ≡ (link_of n).next → LoadsLink head (state_of t m)
  cleared_loads head e = (Carrier.Locker, cleared_at head e)

  cleared_made : Made (seen (TakeClearHead Carrier.Locker) n ∷ []) (record (state_of s m) { point = TakeLinkLoad Carrier.Locker (link_of n).next }) (part s.place.me.0 m) (part t.place.me.0 m)
  cleared_made =
      subst (λ (w : View ⊤). Made (seen (TakeClearHead Carrier.Locker) n ∷ []) (record (state_of s m) { point = TakeLinkLoad Carrier.Locker (link_of n).next }) (part s.place.me.0 m) w) (sym now_t)
      (record {
        trail = did.3.trail ∙ ap (λ (q : Point). (part s.place.me.0 m).trail ++ seen q n ∷ []) clears;
        state = cleared_state;
        run = goes_on s.number s.place.id p.limits (state_of s m) did.0.state (part s.place.me.0 m) did.0 n may.sits did.2 did.3;
      })

  module _ (head : ℕ) (head_is : head ≡ (link_of n).next) (u : TableSeat) (r : Record) (same' : SameSeat t u) (collected : CollectsIn t u p m head r) where
    carrier_is : collected.0 ≡ Carrier.Locker
    carrier_is = let e : TakeLinkLoad collected.0 head ≡ TakeLinkLoad Carrier.Locker head = sym collected.1 ∙ cleared_at head head_is in cc

    now_u : part u.place.me.0 m ≡ collected.2.0
    now_u = part_now t.number t.place.id m p.limits t.place.me u.place.me u.place.me (inside t u p m may_cleared) collected.2.0 collected.2.1 collected.2.2

    pub may_collected : MayStepIn u p m
    may_collected = may_then t u p m may_cleared same' (collected.2.0, collected.2.1, collected.2.2, collected.2.3.1)

    pub same_all : SameSeat s u
    same_all = record { table = same'.table ∙ same.table; id = same'.id ∙ same.id; number = same'.number ∙ same.number; parts = same'.parts ∙ same.parts }

    list_u : popped_of u m ≡ r ∷ collected.2.3.0.oldest.0
    list_u = ap (λ (y : View ⊤). y.popped) now_u ∙ collected.2.3.0.oldest.1

    note_u : note_of u m ≡ rested collected.2.3.0.oldest.0
    note_u =
        note_now t.number t.place.id m p.limits t.place.me u.place.me u.place.me (inside t u p m may_cleared) collected.2.0 collected.2.1 collected.2.2 ∙ collected.2.3.2 ∙ ap (λ (l : List Record). rested (drop 1 l)) collected.2.3.0.oldest.1

    pub whole_left : note_of u m ≡ rested (drop 1 (popped_of u m))
    whole_left = note_u ∙ ap (λ (l : List Record). rested (drop 1 l)) (sym list_u)

    serves_now : serves collected.0 t.number r ≡ serves Carrier.Locker s.number r
    serves_now = λ i. serves (carrier_is i) (same.number i) r

    state_u : state_of u m ≡ record (state_of s m) { point = serves Carrier.Locker s.number r }
    state_u =
        ap (λ (y : View ⊤). y.state) now_u ∙ collected.2.3.0.state ∙ (λ i. record (state_of t m) { point = serves_now i })
        ∙ ap (λ (y : SeatState). record y { point = serves Carrier.Locker s.number r }) (ap (λ (y : View ⊤). y.state) now_t ∙ cleared_state)

    earlier : Made (seen (TakeClearHead Carrier.Locker) n ∷ loads_of Carrier.Locker (r ∷ collected.2.3.0.oldest.0) 0) (record (state_of s m) { point = serves Carrier.Locker s.number r }) (part s.place.me.0 m) (part u.place.me.0 m)
    earlier =
        made_then (part s.place.me.0 m) (part t.place.me.0 m) (part u.place.me.0 m) (seen (TakeClearHead Carrier.Locker) n ∷ []) (loads_of Carrier.Locker (r ∷ collected.2.3.0.oldest.0) 0)
        (record (state_of s m) { point = TakeLinkLoad Carrier.Locker (link_of n).next }) (record (state_of s m) { point = serves Carrier.Locker s.number r }) cleared_made
        (subst (λ (w : View ⊤). Made (loads_of Carrier.Locker (r ∷ collected.2.3.0.oldest.0) 0) (record (state_of s m) { point = serves Carrier.Locker s.number r }) (part t.place.me.0 m) w) (sym now_u)
        (record {
          trail = collected.2.3.0.trail ∙ (λ i. (part t.place.me.0 m).trail ++ loads_of (carrier_is i) (collected.2.3.0.oldest.1 i) 0);
          state = sym (ap (λ (y : View ⊤). y.state) now_u) ∙ state_u;
          run = collected.2.3.0.run;
        }))

    queued_all : AreQueued (popped_of s m) n (r ∷ collected.2.3.0.oldest.0)
    queued_all = subst (λ (l : List Record). AreQueued l n (r ∷ collected.2.3.0.oldest.0)) (sym none) (ap (λ (l : List Record). walk_head l 0) (sym collected.2.3.0.oldest.1) ∙ collected.2.3.0.begins ∙ head_is)

    reaches : (z : TableSeat) (w : View ⊤) (k : Note) → z.place.me ≡ (with_part u.place.me.0 m w k, u.place.me.1) → z.place.me ≡ (with_part s.place.me.0 m w k, s.place.me.1)
    reaches z w k e =
        both s.number s.place.id m p.limits s.place.me t.place.me z.place.me (inside s t p m may) did.0 w _ k did.1
        (both t.number t.place.id m p.limits t.place.me u.place.me z.place.me (inside t u p m may_cleared) collected.2.0 w collected.2.1 k collected.2.2 e)

    -- the record is its own
    module _ (own : r.seat ≡ s.number) where
      abbrev entering_own : SeatState
      entering_own = made_of (state_of s m).depth (state_of s m).takes (state_of s m).posts (EnterOwnerStore Entrant.Locker (How.Queued r.stamp))

      state_own : state_of u m ≡ entering_own
      state_own = state_u ∙ (λ i. record (state_of s m) { point = own_next s.number r own i })

      pub own_access : (number : ℕ) → number ≡ s.number → IsOwnAccessOf p.limits.seats u.number (state_of u m) (Access.Store 1 number)
      own_access number e =
          subst (λ (y : SeatState × ℕ). IsOwnAccessOf p.limits.seats u.number y.0 (Access.Store 1 y.1)) (λ i. (sym state_own i, (same_all.number ∙ sym e) i)) ((Kind.OwnerStore, refl, refl, (λ n. refl), refl), omega arith, λ e. omega (arith, e))

      pub own_keeps : KeepsChainIn u.number m (state_of u m) u.place.me.0
      own_keeps =
          let at = ap (λ (y : SeatState). y.point) state_own in (
            keeps_at (state_of u m) u.number (part u.place.me.0 m) (note_of u m) (EnterOwnerStore Entrant.Locker (How.Queued r.stamp)) at refl refl,
            may_push (EnterOwnerStore Entrant.Locker (How.Queued r.stamp)) (known u.place.me.0 m) (state_of u m).point at tt,
          )

      pub finished_own : (stamp : ℕ) → r.stamp ≡ stamp → (z : TableSeat) (k : ℕ) → MovesIn u z p m k → k ≡ s.number → FinishesIn (Finished.Held stamp) s z p m
      finished_own stamp stamp_is z k moved told =
          let moves : MovesIn u z p m s.number = subst (λ (i : ℕ). MovesIn u z p m i) told moved in
          finishes u z p m s.number may_collected entering_own (made_of 1 (state_of s m).takes (state_of s m).posts Rest) state_own refl refl r collected.2.3.0.oldest.0 list_u note_u (λ o. refl) (λ l. refl) moves
          s same_all (Finished.Held stamp) (seen (TakeClearHead Carrier.Locker) n ∷ loads_of Carrier.Locker (r ∷ collected.2.3.0.oldest.0) 0) (record (state_of s m) { point = serves Carrier.Locker s.number r }) earlier (reaches z) (
            n,
            r,
            own,
            stamp_is,
            queued_all,
            subst (λ (l : List Record). (seen (TakeClearHead Carrier.Locker) n ∷ loads_of Carrier.Locker (r ∷ collected.2.3.0.oldest.0) 0) ++ seen (EnterOwnerStore Entrant.Locker (How.Queued r.stamp)) s.number ∷ [] ≡ collecting Carrier.Locker l n (r ∷ collected.2.3.0.oldest.0) ++ seen (EnterOwnerStore Entrant.Locker (How.Queued r.stamp)) s.number ∷ []) (sym none) refl,
          )
          refl
          (last_note u z p m s.number may_collected entering_own (made_of 1 (state_of s m).takes (state_of s m).posts Rest) state_own refl refl r collected.2.3.0.oldest.0 list_u note_u (λ o. refl) (λ l. refl) moves)

    -- the record is another seat's
    module _ (other : r.seat ≢ s.number) where
      abbrev granting : SeatState
      granting = made_of (state_of s m).depth (state_of s m).takes (state_of s m).posts (GrantWakeStore Carrier.Locker r)

      state_other : state_of u m ≡ granting
      state_other = state_u ∙ (λ i. record (state_of s m) { point = other_next s.number r other i })

      pub other_grants : Grants r (state_of u m)
      other_grants = (Carrier.Locker, ap (λ (y : SeatState). y.point) state_other)

      pub finished_other : (z : TableSeat) → MovesIn u z p m (wake_word (Grant r.stamp)) → FinishesIn (Finished.Granted r) s z p m
      finished_other z moves =
          finishes u z p m (wake_word (Grant r.stamp)) may_collected granting (made_of (state_of s m).depth (state_of s m).takes (state_of s m).posts (Asleep Sleeper.Locker)) state_other refl refl r collected.2.3.0.oldest.0 list_u note_u (λ o. refl) (λ l. refl) moves
          s same_all (Finished.Granted r) (seen (TakeClearHead Carrier.Locker) n ∷ loads_of Carrier.Locker (r ∷ collected.2.3.0.oldest.0) 0) (record (state_of s m) { point = serves Carrier.Locker s.number r }) earlier (reaches z) (
            n,
            other,
            queued_all,
            subst (λ (l : List Record). (seen (TakeClearHead Carrier.Locker) n ∷ loads_of Carrier.Locker (r ∷ collected.2.3.0.oldest.0) 0) ++ seen (GrantWakeStore Carrier.Locker r) (wake_word (Grant r.stamp)) ∷ [] ≡ collecting Carrier.Locker l n (r ∷ collected.2.3.0.oldest.0) ++ seen (GrantWakeStore Carrier.Locker r) (wake_word (Grant r.stamp)) ∷ []) (sym none) refl,
          )
          refl
          tt
