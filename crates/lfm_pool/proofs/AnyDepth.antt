-- The calls of a seat of any depth: what holds of the seat before and after them.
use Rattle.std.proofs.Common.{◌≡◌, ◌≢◌, ℕ, ◌+◌, ◌-◌, ◌*◌, ◌<◌, ◌≤◌, List, [], ◌++◌, length, Option, Some, None, refl, sym, ap, ◌∙◌, subst, inl, inr, arith, tests, append-nil, length-append}
use Rattle.std.specs.Prelude.{⊤, Bool, IfOk, true, false, nat_lt, Result, Ok, Err}
use Rattle.std.proofs.lemmas.Bool.{cases_eq}
use Rattle.atomic_table.specs.Table.{Me}
use Rattle.lfm_model.specs.declared.answers.Asked.{Asked}
use Rattle.lfm_model.specs.declared.answers.How.{How}
use Rattle.lfm_model.specs.declared.answers.Locked.{Locked}
use Rattle.lfm_model.specs.declared.refusals.Refusal.{Refusal}
use Rattle.lfm_words.specs.declared.pop_lists.Record.{Record}
use Rattle.lfm_words.specs.Words.{is_posted_word, seat_field_size}
use Rattle.lfm_protocol.specs.Limits.{max_depth}
use Rattle.lfm_protocol.specs.declared.points.Point.TheVariants.{Rest}
use Rattle.lfm_protocol.specs.declared.seats.SeatState.{SeatState}
use Rattle.lfm_table.specs.declared.seat_view.Seen.{Seen}
use Rattle.lfm_table.specs.declared.seat_view.View.{View}
use Rattle.lfm_table.proofs.tables.StepFacts.{became_depth}
use Rattle.lfm_pool.specs.declared.ask.Asking.{Asking}
use Rattle.lfm_pool.specs.declared.pool.Pool.{Pool}
use Rattle.lfm_pool.specs.declared.pool.TableSeat.{TableSeat}
use Rattle.lfm_pool.specs.declared.finish_ask.Finished.{Finished}
use Rattle.lfm_pool.specs.declared.unlock.Released.{Released}
use Rattle.lfm_pool.specs.declared.unlock.Unlocking.{Unlocking}
use Rattle.lfm_pool.specs.declared.view.Note.{Note}
use Rattle.lfm_pool.specs.declared.view.PoolView.{PoolView}
use Rattle.lfm_pool.specs.Admissions.{IsAdmittedIn, after_load, most_stamps, stamp_in, with_admission}
use Rattle.lfm_pool.specs.Ask.{AskSteps, AsksIn, MakesBesideFailuresIn, asked, failed_pushes}
use Rattle.lfm_pool.specs.AskAll.{AsksAllIn, IsReadyAsked, TakesOverAllIn}
use Rattle.lfm_pool.specs.Belongs.{IsMutex, OfPool, SameSeat}
use Rattle.lfm_pool.specs.AnyDepth.{AsksAtAnyDepth, FindsNoStamp, IsAtRest, IsAwayIn, IsPlacedBy, TriesAtAnyDepth, UnlocksAtAnyDepth}
use Rattle.lfm_pool.specs.SeatWords.{Sleeps}
use Rattle.lfm_pool.specs.declared.any_depth.Release.{Release}
use Rattle.lfm_pool.specs.Chain.{deep, first_seat, note_since, rested}
use Rattle.lfm_pool.specs.Depths.{AskAgainSteps, DeepensBy, GivesUpIn, HasDepth, HasDepthIn, TryAgainSteps}
use Rattle.lfm_pool.specs.FastPaths.{KnowsMoreOf, Leaves}
use Rattle.lfm_pool.specs.FinishAsk.{FinishSteps, NotesFinished, finished}
use Rattle.lfm_pool.specs.Handoff.{recounted}
use Rattle.lfm_pool.specs.Receive.{ReceivedIn}
use Rattle.lfm_pool.specs.Moves.{Made, MakesAtMostIn, MayStepIn}
use Rattle.lfm_pool.specs.Seats.{HoldsOnceIn, MayTryIn, RestsInOthers, popped_of, state_of}
use Rattle.lfm_pool.specs.Steps.{Sits, state_at, state_in}
use Rattle.lfm_pool.specs.Tables.{note, part, rests_at, with_part}
use Rattle.lfm_pool.specs.TryLock.{AcceptSteps, StepsIfPosted, TriesIn, TrySteps, tried}
use Rattle.lfm_pool.specs.Unlock.{Hands, PassesOn, PassesOnIn, ReleasesIn, UnlocksIn}
use Rattle.lfm_pool.proofs.Admitted.{admitted_loaded, belongs_loaded, depth_loaded, length_admission, loaded_part, loaded_state}
use Rattle.lfm_pool.proofs.FastPaths.{note_now, part_now}
use Rattle.lfm_pool.proofs.LoneTables.{note_other, part_other}
use Rattle.lfm_pool.proofs.SeveralSteps.{inside, same_then, state_after}

-- Of a seat that holds the mutex once, or not at all

once_noted : (popped : List Record) → rested popped ≡ deep (1 - 1) popped
once_noted popped = let e : first_seat popped ≡ (1 - 1) * seat_field_size + first_seat popped = omega arith in λ i. record (rested popped) { carried = e i }

pub has_one : (s : TableSeat) (p : Pool) (m : ℕ) → HoldsOnceIn s p m → HasDepthIn s p m 1
has_one s p m holds = record {
  sits = holds.sits;
  now = holds.now;
  rests = holds.rests;
  most = omega arith;
  noted = λ above. holds.noted ∙ once_noted (popped_of s m);
}

pub holds_one : (s : TableSeat) (p : Pool) (m : ℕ) → HasDepthIn s p m 1 → HoldsOnceIn s p m
holds_one s p m has = record {
  sits = has.sits;
  now = has.now;
  rests = has.rests;
  noted = has.noted (omega arith) ∙ sym (once_noted (popped_of s m));
}

has_none : (number id : ℕ) (p : Pool) (v : View ⊤) (k : Note) → Sits number id p.limits v.state v → v.state.point ≡ Rest → v.state.depth ≡ 0 → HasDepth number id p.limits v k 0
has_none number id p v k sits rests flat = record {
  sits = sits;
  now = subst (λ (d : ℕ). Sits number id p.limits (record v.state { depth = d }) v) flat sits;
  rests = rests;
  most = omega arith;
  noted = λ above. absurd (omega (arith, above));
}

pub may_try_flat : (s : TableSeat) (p : Pool) (m : ℕ) → HasDepthIn s p m 0 → (state_of s m).takes < p.limits.budget → MayTryIn s p m
may_try_flat s p m has charged = record {
  sits = has.sits;
  rests = has.rests;
  flat = became_depth (state_of s m) p.limits (state_at s.place.me.0 m 0) has.now.became refl;
  charged = charged;
}

-- A seat at rest

-- what a seat knows of a mutex at which it is at rest does not depend on more than this
abbrev pub DepthFrom : ℕ × ℕ × Me ℕ PoolView → Pool → ℕ → ℕ → Type 0
DepthFrom z p m depth = HasDepth z.0 z.1 p.limits (part z.2.0 m) (note z.2.0 m) depth

abbrev pub from_of : TableSeat → ℕ × ℕ × Me ℕ PoolView
from_of s = (s.number, s.place.id, s.place.me)

pub same_from : (s t : TableSeat) → SameSeat s t → t.place.me ≡ s.place.me → from_of t ≡ from_of s
same_from s t same knows = λ i. (same.number i, same.id i, knows i)

pub rest_then : (s t : TableSeat) (p : Pool) → IsAtRest s p → SameSeat s t → t.place.me ≡ s.place.me → IsAtRest t p
rest_then s t p rest same knows = record {
  belongs = record { table = same.table ∙ rest.belongs.table; parts = same.parts ∙ rest.belongs.parts };
  depths = λ m less. let d = rest.depths m less in (d.0, subst (λ (z : ℕ × ℕ × Me ℕ PoolView). DepthFrom z p m d.0) (sym (same_from s t same knows)) d.1);
}

module _ (s : TableSeat) (p : Pool) (rest : IsAtRest s p) where
  pub others_rest : (m : ℕ) → RestsInOthers s m
  others_rest m n less other = let parts = rest.belongs.parts in ap rests_at (rest.depths n (omega (arith, parts, less))).1.rests

  pub may_at_rest : (m : ℕ) → IsMutex m p → MayStepIn s p m
  may_at_rest m less = record { belongs = rest.belongs; mutex = less; sits = (rest.depths m less).1.sits; elsewhere = others_rest m }

-- a call in mutex m changes nothing in the others
module _ (s t : TableSeat) (p : Pool) (m : ℕ) (belongs : OfPool s p) (less : IsMutex m p) (others : (n : ℕ) → IsMutex n p → n ≢ m → (depth : ℕ) × HasDepthIn s p n depth) (same : SameSeat s t)
    (w : View ⊤) (k : Note) (knows : t.place.me ≡ (with_part s.place.me.0 m w k, s.place.me.1)) where
  here : m < length s.place.me.0.parts
  here = let parts = belongs.parts in omega (arith, parts, less)

  other_depth : (n : ℕ) → IsMutex n p → n ≢ m → (depth : ℕ) × HasDepthIn t p n depth
  other_depth n inner other =
      let d = others n inner other in
      let view : part t.place.me.0 n ≡ part s.place.me.0 n = ap (λ (z : Me ℕ PoolView). part z.0 n) knows ∙ part_other s.place.me.0 m n w k other in
      let noted : note t.place.me.0 n ≡ note s.place.me.0 n = ap (λ (z : Me ℕ PoolView). note z.0 n) knows ∙ note_other s.place.me.0 m n w k other in
      (d.0, subst (λ (z : ℕ × ℕ × View ⊤ × Note). HasDepth z.0 z.1 p.limits z.2 z.3 d.0) (λ i. (sym same.number i, sym same.id i, sym view i, sym noted i)) d.1)

  -- the seat is at rest in mutex m too
  pub depth_after : (depth : ℕ) → HasDepth s.number s.place.id p.limits w k depth → HasDepthIn t p m depth
  depth_after depth has =
      let view = part_now s.number s.place.id m p.limits s.place.me t.place.me t.place.me here w k knows in
      let noted = note_now s.number s.place.id m p.limits s.place.me t.place.me t.place.me here w k knows in
      subst (λ (z : ℕ × ℕ × View ⊤ × Note). HasDepth z.0 z.1 p.limits z.2 z.3 depth) (λ i. (sym same.number i, sym same.id i, sym view i, sym noted i)) has

  pub rest_after : (depth : ℕ) → HasDepthIn t p m depth → IsAtRest t p
  rest_after depth has = record {
    belongs = record { table = same.table ∙ belongs.table; parts = same.parts ∙ belongs.parts };
    depths = λ n inner. elim (cases_eq n m) [
      | inl is ↦ (depth, subst (λ (i : ℕ). HasDepthIn t p i depth) (sym is) has)
      | inr other ↦ other_depth n inner other
    ];
  }

  -- it is not
  pub away_after : MayStepIn t p m → IsAwayIn t p m
  away_after may = record { may = may; depths = other_depth }

-- What a call tells of a seat of which nothing has changed since, before it

abbrev pub TriesFrom : ℕ × ℕ × Me ℕ PoolView → TableSeat → ℕ → Result Locked Refusal → Type 0
TriesFrom z u m result =
    (new : List Seen) × TrySteps z.0 result new
    × KnowsMoreOf m (λ w k. Made new (tried result (state_in z.2.0 m)) (part z.2.0 m) w × (k ≡ note_since w (note z.2.0 m))) z.2 u.place.me

module _ (s t u : TableSeat) (p : Pool) (m : ℕ) (same : SameSeat s t) (knows : t.place.me ≡ s.place.me) where
  pub tries_then : (result : Result Locked Refusal) → TriesIn t u m result → TriesIn s u m result
  tries_then result did = subst (λ (z : ℕ × ℕ × Me ℕ PoolView). TriesFrom z u m result) (same_from s t same knows) did

abbrev pub AsksFrom : ℕ × ℕ × Me ℕ PoolView → TableSeat → ℕ → Asking → Type 0
AsksFrom z u m asking =
    (new : List Seen) × AskSteps asking z.0 new
    × KnowsMoreOf m (λ w k. Made new (asked asking z.0 (part u.place.me.0 m).popped (state_in z.2.0 m)) (part z.2.0 m) w × (k ≡ note_since w (note z.2.0 m))) z.2 u.place.me

abbrev pub DeepensFrom : ℕ × ℕ × Me ℕ PoolView → (ℕ → List Seen → Type 0) → TableSeat → Pool → ℕ → ℕ → Type 0
DeepensFrom z steps u p m depth =
    KnowsMoreOf m
    (λ w k. ((new : List Seen) × steps z.0 new × Made new (record (state_in z.2.0 m) { depth = depth }) (part z.2.0 m) w) × HasDepth z.0 z.1 p.limits w k depth)
    z.2 u.place.me

abbrev pub GivesUpFrom : ℕ × ℕ × Me ℕ PoolView → TableSeat → Pool → ℕ → ℕ → Type 0
GivesUpFrom z u p m depth = KnowsMoreOf m (λ w k. (w ≡ part z.2.0 m) × HasDepth z.0 z.1 p.limits w k depth) z.2 u.place.me

abbrev pub TakesOverFrom : Finished → ℕ × ℕ × Me ℕ PoolView → TableSeat → Pool → ℕ → Type 0
TakesOverFrom result z u p m =
    KnowsMoreOf m
    (λ w k.
    ((first later : List Seen) × (before : List Record) × AskSteps Asking.Carries z.0 first × FinishSteps result z.0 before w.popped later
    × Made (first ++ later) (finished result (record (state_in z.2.0 m) { takes = (state_in z.2.0 m).takes + 1 })) (part z.2.0 m) w)
    × Sits z.0 z.1 p.limits w.state w × NotesFinished result k w.popped)
    z.2 u.place.me

abbrev pub LeavesFrom : ℕ × ℕ × Me ℕ PoolView → TableSeat → Pool → ℕ → Type 0
LeavesFrom z u p m = KnowsMoreOf m (λ w k. Leaves (part z.2.0 m) w × Sits z.0 z.1 p.limits w.state w) z.2 u.place.me

abbrev pub HandsFrom : Record → ℕ × ℕ × Me ℕ PoolView → TableSeat → Pool → ℕ → Type 0
HandsFrom r z u p m = KnowsMoreOf m (λ w k. Hands r (part z.2.0 m) w × Sits z.0 z.1 p.limits w.state w) z.2 u.place.me

abbrev pub PassesOnFrom : Released → ℕ × (ℕ × ℕ × Me ℕ PoolView) → TableSeat → Pool → ℕ → Type 0
PassesOnFrom result z u p m =
    KnowsMoreOf m (λ w k. PassesOn result z.1.0 (part z.1.2.0 m) w × Sits z.1.0 z.1.1 p.limits w.state w) (record z.1.2.0 { posts = z.0 + 1 }, z.1.2.1) u.place.me

module _ (s t u : TableSeat) (p : Pool) (m : ℕ) (same : SameSeat s t) (knows : t.place.me ≡ s.place.me) where
  asks_then : (asking : Asking) → AsksIn t u m asking → AsksIn s u m asking
  asks_then asking did = subst (λ (z : ℕ × ℕ × Me ℕ PoolView). AsksFrom z u m asking) (same_from s t same knows) did

  takes_over_then : (result : Finished) → TakesOverAllIn result t u p m → TakesOverAllIn result s u p m
  takes_over_then result did = subst (λ (z : ℕ × ℕ × Me ℕ PoolView). TakesOverFrom result z u p m) (same_from s t same knows) did

  pub asks_all_then : (asked : Asked) (granted : Option Record) → AsksAllIn asked granted t u p m → AsksAllIn asked granted s u p m
  asks_all_then (Asked.Held How.Free) None did = asks_then Asking.Held did
  asks_all_then (Asked.Held (How.Queued stamp)) None did = takes_over_then (Finished.Held stamp) did
  asks_all_then (Asked.Held How.Free) (Some r) did = absurd did
  asks_all_then (Asked.Held (How.Queued stamp)) (Some r) did = absurd did
  asks_all_then Asked.Asleep None did = asks_then Asking.Asleep did
  asks_all_then Asked.Asleep (Some r) did = takes_over_then (Finished.Granted r) did
  asks_all_then (Asked.Again depth) None did = absurd did
  asks_all_then (Asked.Again depth) (Some r) did = absurd did

  pub deepens_then : (steps : ℕ → List Seen → Type 0) (depth : ℕ) → DeepensBy steps t u p m depth → DeepensBy steps s u p m depth
  deepens_then steps depth did = subst (λ (z : ℕ × ℕ × Me ℕ PoolView). DeepensFrom z steps u p m depth) (same_from s t same knows) did

  pub gives_up_then : (depth : ℕ) → GivesUpIn t u p m depth → GivesUpIn s u p m depth
  gives_up_then depth did = subst (λ (z : ℕ × ℕ × Me ℕ PoolView). GivesUpFrom z u p m depth) (same_from s t same knows) did

  -- it has counted no post since
  pub posts_then : t.posts ≡ s.posts
  posts_then = sym t.counted ∙ ap (λ (z : Me ℕ PoolView). z.0.posts) knows ∙ s.counted

  hands_then : (r : Record) → UnlocksIn (Unlocking.Granted r) t u p m → UnlocksIn (Unlocking.Granted r) s u p m
  hands_then r did = subst (λ (z : ℕ × ℕ × Me ℕ PoolView). HandsFrom r z u p m) (same_from s t same knows) did

  passes_then : (result : Released) → PassesOnIn result t u p m → PassesOnIn result s u p m
  passes_then result did = subst (λ (z : ℕ × (ℕ × ℕ × Me ℕ PoolView)). PassesOnFrom result z u p m) (λ i. (posts_then i, same_from s t same knows i)) did

  pub releases_then : (result : Released) → ReleasesIn result t u p m → ReleasesIn result s u p m
  releases_then Released.Free did = subst (λ (z : ℕ × ℕ × Me ℕ PoolView). LeavesFrom z u p m) (same_from s t same knows) did
  releases_then (Released.Granted r) did = elim did [
    | inl handed ↦ inl (hands_then r handed)
    | inr passed ↦ inr (passes_then (Released.Granted r) passed)
  ]
  releases_then Released.Posted did = passes_then Released.Posted did
  releases_then Released.TakenOver did = passes_then Released.TakenOver did

-- The seat after each call, which began at rest

module _ (s t : TableSeat) (p : Pool) (m : ℕ) (rest : IsAtRest s p) (less : IsMutex m p) (same : SameSeat s t) where
  may : MayStepIn s p m
  may = may_at_rest s p rest m less

  others : (n : ℕ) → IsMutex n p → n ≢ m → (depth : ℕ) × HasDepthIn s p n depth
  others n inner other = rest.depths n inner

  -- after a try_lock of a mutex that it did not hold
  pub try_rest : (result : Result Locked Refusal) → HasDepthIn s p m 0 → TriesIn s t m result → MayStepIn t p m → IfOk result (λ _. HoldsOnceIn t p m) → IsAtRest t p
  try_rest (Ok locked) has did later holds = rest_after s t p m rest.belongs less others same did.2.0 did.2.1 did.2.2 1 (has_one t p m holds)
  try_rest (Err refusal) has did later holds =
      let is = state_after s t p m did.0 (state_of s m) may did.2 in
      let flat = became_depth (state_of s m) p.limits (state_at s.place.me.0 m 0) has.now.became refl in
      rest_after s t p m rest.belongs less others same did.2.0 did.2.1 did.2.2 0
      (has_none t.number t.place.id p (part t.place.me.0 m) (note t.place.me.0 m) later.sits (ap (λ (x : SeatState). x.point) is ∙ has.rests) (ap (λ (x : SeatState). x.depth) is ∙ flat))

  -- after a call that made its hold deeper, or gave one hold up
  pub deep_rest : (steps : ℕ → List Seen → Type 0) (depth : ℕ) → DeepensBy steps s t p m depth → IsAtRest t p
  deep_rest steps depth did = rest_after s t p m rest.belongs less others same did.0 did.1 did.2 depth (depth_after s t p m rest.belongs less others same did.0 did.1 did.2 depth did.3.1)

  pub fewer_rest : (depth : ℕ) → GivesUpIn s t p m depth → IsAtRest t p
  fewer_rest depth did = rest_after s t p m rest.belongs less others same did.0 did.1 did.2 depth (depth_after s t p m rest.belongs less others same did.0 did.1 did.2 depth did.3.1)

  -- after an unlock
  free_rest : UnlocksIn Unlocking.Free s t p m → IsAtRest t p
  free_rest did =
      rest_after s t p m rest.belongs less others same did.0 did.1 did.2 0 (depth_after s t p m rest.belongs less others same did.0 did.1 did.2 0 (has_none s.number s.place.id p did.0 did.1 did.3.1 did.3.0.rests did.3.0.flat))

  granted_rest : (r : Record) → UnlocksIn (Unlocking.Granted r) s t p m → IsAtRest t p
  granted_rest r did =
      rest_after s t p m rest.belongs less others same did.0 did.1 did.2 0
      (depth_after s t p m rest.belongs less others same did.0 did.1 did.2 0 (has_none s.number s.place.id p did.0 did.1 did.3.1 (ap (λ (x : SeatState). x.point) did.3.0.state) (ap (λ (x : SeatState). x.depth) did.3.0.state)))

  abbrev one_more : TableSeat
  one_more = recounted s (s.posts + 1)

  passed_rest : (result : Released) → PassesOnIn result s t p m → IsAtRest t p
  passed_rest result did =
      rest_after one_more t p m (record { table = rest.belongs.table; parts = rest.belongs.parts }) less others (record { table = same.table; id = same.id; number = same.number; parts = same.parts }) did.0 did.1 did.2 0
      (depth_after one_more t p m (record { table = rest.belongs.table; parts = rest.belongs.parts }) less others (record { table = same.table; id = same.id; number = same.number; parts = same.parts }) did.0 did.1 did.2 0
      (has_none s.number s.place.id p did.0 did.1 did.3.1 (ap (λ (x : SeatState). x.point) did.3.0.state) (ap (λ (x : SeatState). x.depth) did.3.0.state)))

  pub released_rest : (result : Released) → ReleasesIn result s t p m → IsAtRest t p
  released_rest Released.Free did = free_rest did
  released_rest (Released.Granted r) did = elim did [
    | inl handed ↦ granted_rest r handed
    | inr passed ↦ passed_rest (Released.Granted r) passed
  ]
  released_rest Released.Posted did = passed_rest Released.Posted did
  released_rest Released.TakenOver did = passed_rest Released.TakenOver did

  -- after an ask
  held_rest : AsksIn s t m Asking.Held → HoldsOnceIn t p m → IsAtRest t p
  held_rest did holds = rest_after s t p m rest.belongs less others same did.2.0 did.2.1 did.2.2 1 (has_one t p m holds)

  served_rest : (result : Finished) → TakesOverAllIn result s t p m → HoldsOnceIn t p m → IsAtRest t p
  served_rest result did holds = rest_after s t p m rest.belongs less others same did.0 did.1 did.2 1 (has_one t p m holds)

  -- it sleeps there, or rests in every mutex
  pub placed : (asked : Asked) (granted : Option Record) → AsksAllIn asked granted s t p m → MayStepIn t p m → IsReadyAsked asked t p m → IsPlacedBy (Ok asked) t p m
  placed (Asked.Held How.Free) None did later ready = held_rest did ready
  placed (Asked.Held (How.Queued stamp)) None did later ready = served_rest (Finished.Held stamp) did ready
  placed (Asked.Held How.Free) (Some r) did later ready = absurd did
  placed (Asked.Held (How.Queued stamp)) (Some r) did later ready = absurd did
  placed Asked.Asleep None did later ready = (away_after s t p m rest.belongs less others same did.2.0 did.2.1 did.2.2 later, ready)
  placed Asked.Asleep (Some r) did later ready = (away_after s t p m rest.belongs less others same did.0 did.1 did.2 later, ready)
  placed (Asked.Again depth) None did later ready = absurd did
  placed (Asked.Again depth) (Some r) did later ready = absurd did

-- what a seat has been told of its depth holds of it after a load that changes nothing
pub depth_then_at : (s t : TableSeat) (p : Pool) (m depth : ℕ) → SameSeat s t → t.place.me ≡ s.place.me → HasDepthIn s p m depth → HasDepthIn t p m depth
depth_then_at s t p m depth same knows has = subst (λ (z : ℕ × ℕ × Me ℕ PoolView). DepthFrom z p m depth) (sym (same_from s t same knows)) has

-- A seat that has loaded the owner word, and then the push word

less_same : (a b c : ℕ) → a ≡ b → b < c → a < c
less_same a b c is less = omega (arith, is, less)

pub is_below : (n most : ℕ) → nat_lt n most ≡ true → n < most
is_below n most is = search (tests, arith, is)

not_below : (n most : ℕ) → nat_lt n most ≡ false → most ≤ n
not_below n most is = search (tests, arith, is)

module _ (s t u : TableSeat) (m found : ℕ) (same : SameSeat s t) (knows : t.place.me ≡ s.place.me) (same' : SameSeat t u) (loads : u.place.me ≡ (after_load t m found).place.me) where
  pub knows_loaded : u.place.me ≡ (after_load s m found).place.me
  knows_loaded = loads ∙ ap (λ (z : Me ℕ PoolView). (with_admission z.0 m found, z.1)) knows

  pub same_both : SameSeat s u
  same_both = same_then s t u same same'

  same_from_load : SameSeat (after_load s m found) u
  same_from_load = record { table = same_both.table; id = same_both.id; number = same_both.number; parts = same_both.parts ∙ sym (length_admission s.place.me.0 m found) }

  -- it rests in every mutex as before
  pub rest_from_load : (p : Pool) → IsAtRest s p → IsAtRest u p
  rest_from_load p rest = record {
    belongs = belongs_loaded s u m found knows_loaded p same_both rest.belongs;
    depths = λ n inner. let d = rest.depths n inner in (d.0, depth_loaded s u m found knows_loaded p same_both n d.0 d.1);
  }

  -- it may ask, if it has a take left and did not hold the mutex
  pub may_try_from_load : (p : Pool) → HasDepthIn s p m 0 → (state_of s m).takes < p.limits.budget → MayTryIn u p m
  may_try_from_load p has charged =
      may_try_flat u p m (depth_loaded s u m found knows_loaded p same_both m 0 has)
      (less_same (state_of u m).takes (state_of s m).takes p.limits.budget (ap (λ (x : SeatState). x.takes) (loaded_state s u m found knows_loaded m)) charged)

  -- a stamp was left, or none was
  pub admits_from_load : (p : Pool) → OfPool s p → IsMutex m p → nat_lt (stamp_in found) most_stamps ≡ true → IsAdmittedIn u m
  admits_from_load p belongs less left = admitted_loaded s u m found knows_loaded (let parts = belongs.parts in omega (arith, parts, less)) left

  pub finds_none : nat_lt (stamp_in found) most_stamps ≡ false → FindsNoStamp s u m
  finds_none many = (found, knows_loaded, not_below (stamp_in found) most_stamps many)

  -- what its ask has done since counts from the load on
  pub asks_from_load : (v : TableSeat) (p : Pool) (asked : Asked) (granted : Option Record) → AsksAllIn asked granted u v p m → AsksAllIn asked granted (after_load s m found) v p m
  asks_from_load v p asked granted did = asks_all_then (after_load s m found) u v p m same_from_load knows_loaded asked granted did

  trail_from_load : (part u.place.me.0 m).trail ≡ (part s.place.me.0 m).trail
  trail_from_load = ap (λ (y : View ⊤). y.trail) (loaded_part s u m found knows_loaded m)

  pub beside_from_load : (v : TableSeat) (most : ℕ) → MakesBesideFailuresIn most u v m → MakesBesideFailuresIn most s v m
  beside_from_load v most less =
      subst (λ (l : List Seen). (new : List Seen) × ((part v.place.me.0 m).trail ≡ l ++ new) × (length new ≤ most + 2 * failed_pushes new)) trail_from_load less

  -- the load is no step
  pub loads_beside : (most : ℕ) → MakesBesideFailuresIn most s u m
  loads_beside most = ([], trail_from_load ∙ sym (append-nil (part s.place.me.0 m).trail), omega arith)

-- The answers

-- an answer that a try_lock of a seat gives which does not hold the mutex
abbrev IsTryAnswer : Result Locked Refusal → Type 0
IsTryAnswer (Ok (Locked.Held how)) = ⊤
IsTryAnswer (Err Refusal.Busy) = ⊤
IsTryAnswer _ = ⊥

accept_answers : (number post : ℕ) (result : Result Locked Refusal) (new : List Seen) → AcceptSteps number post result new → IsTryAnswer result
accept_answers number post (Ok (Locked.Held How.Free)) new h = tt
accept_answers number post (Err Refusal.Busy) new h = tt
accept_answers number post _ new h = absurd h

posted_answers : (b : Bool) (number word : ℕ) (result : Result Locked Refusal) (new : List Seen) → StepsIfPosted b number word result new → IsTryAnswer result
posted_answers true number word result new h = accept_answers number word result new h
posted_answers false number word result new h = subst IsTryAnswer (sym h.0) tt

try_answers : (number : ℕ) (result : Result Locked Refusal) (new : List Seen) → TrySteps number result new → IsTryAnswer result
try_answers number result new steps =
    elim steps [
      | inl h ↦ subst IsTryAnswer (sym h.0) tt
      | inr h ↦ let later = h.3 in posted_answers (is_posted_word later.1) number later.1 result later.2 later.4
    ]

module _ (s u : TableSeat) (p : Pool) (m : ℕ) where
  try_told_by : (result : Result Locked Refusal) → IsTryAnswer result → HasDepthIn s p m 0 → TriesIn s u m result → IfOk result (λ _. HoldsOnceIn u p m) → TriesAtAnyDepth result s u p m
  try_told_by (Ok (Locked.Held how)) is has did holds = (has, did, has_one u p m holds)
  try_told_by (Err Refusal.Busy) is has did holds = (has, did)
  try_told_by _ is has did holds = absurd is

  pub try_told : (result : Result Locked Refusal) → HasDepthIn s p m 0 → TriesIn s u m result → IfOk result (λ _. HoldsOnceIn u p m) → TriesAtAnyDepth result s u p m
  try_told result has did holds = try_told_by result (try_answers s.number result did.0 did.1) has did holds

  -- a hold that was made deeper
  pub again_told : (held deeper : ℕ) → deeper ≡ held + 1 → 0 < held → HasDepthIn s p m held → DeepensBy TryAgainSteps s u p m (held + 1) → TriesAtAnyDepth (Ok (Locked.Again deeper)) s u p m
  again_told held deeper is above has did = (
    omega (arith, is, above),
    subst (λ (d : ℕ). HasDepthIn s p m d) (let e : held ≡ deeper - 1 = omega (arith, is) in e) has,
    subst (λ (d : ℕ). DeepensBy TryAgainSteps s u p m d) (sym is) did,
  )

  pub asked_again : (held deeper : ℕ) → deeper ≡ held + 1 → 0 < held → HasDepthIn s p m held → DeepensBy AskAgainSteps s u p m (held + 1) → AsksAtAnyDepth (Ok (Asked.Again deeper)) None s u p m
  asked_again held deeper is above has did = (
    omega (arith, is, above),
    subst (λ (d : ℕ). HasDepthIn s p m d) (let e : held ≡ deeper - 1 = omega (arith, is) in e) has,
    subst (λ (d : ℕ). DeepensBy AskAgainSteps s u p m d) (sym is) did,
  )

  -- an ask of a seat that has found this push word
  pub asked_first : (found : ℕ) → stamp_in found < most_stamps → (asked : Asked) (granted : Option Record) → HasDepthIn s p m 0 → AsksAllIn asked granted (after_load s m found) u p m → IsReadyAsked asked u p m → AsksAtAnyDepth (Ok asked) granted s u p m
  asked_first found left (Asked.Held How.Free) None has did ready = (has, (found, left, did), ready)
  asked_first found left (Asked.Held (How.Queued stamp)) None has did ready = (has, (found, left, did), ready)
  asked_first found left (Asked.Held How.Free) (Some r) has did ready = absurd did
  asked_first found left (Asked.Held (How.Queued stamp)) (Some r) has did ready = absurd did
  asked_first found left Asked.Asleep None has did ready = (has, (found, left, did), ready)
  asked_first found left Asked.Asleep (Some r) has did ready = (has, (found, left, did), ready)
  asked_first found left (Asked.Again depth) None has did ready = absurd did
  asked_first found left (Asked.Again depth) (Some r) has did ready = absurd did

  -- a hold that was given up
  pub still_told : (held fewer : ℕ) → fewer + 1 ≡ held → 1 < held → HasDepthIn s p m held → GivesUpIn s u p m (held - 1) → UnlocksAtAnyDepth (Ok (Release.Still fewer)) s u p m
  still_told held fewer is inner has did = (
    omega (arith, is, inner),
    subst (λ (d : ℕ). HasDepthIn s p m d) (sym is) has,
    subst (λ (d : ℕ). GivesUpIn s u p m d) (let e : held - 1 ≡ fewer = omega (arith, is) in e) did,
  )

  pub last_told : (result : Released) → HasDepthIn s p m 1 → ReleasesIn result s u p m → UnlocksAtAnyDepth (Ok (Release.Last result)) s u p m
  last_told result has did = (has, did)

-- a seat that is refused at its greatest depth
pub full : (s : TableSeat) (p : Pool) (m held : ℕ) → HasDepthIn s p m held → max_depth ≤ held → HasDepthIn s p m max_depth
full s p m held has most = subst (λ (d : ℕ). HasDepthIn s p m d) (let few = has.most in let e : held ≡ max_depth = omega (arith, few, most) in e) has

pub same_self : (s : TableSeat) → SameSeat s s
same_self s = record { table = refl; id = refl; number = refl; parts = refl }

-- A receive

module _ (s u : TableSeat) (p : Pool) (m : ℕ) (away : IsAwayIn s p m) (same : SameSeat s u) where
  pub receive_rests : (how : How) → ReceivedIn s u m (Some how) → HoldsOnceIn u p m → IsAtRest u p
  receive_rests how did holds = rest_after s u p m away.may.belongs away.may.mutex away.depths same did.4.0 did.4.1 did.4.2 1 (has_one u p m holds)

  pub receive_sleeps : ReceivedIn s u m None → MayStepIn u p m → Sleeps (state_of s m) → IsAwayIn u p m × Sleeps (state_of u m)
  receive_sleeps did later sleeping =
      let is = state_after s u p m did.1 (state_of s m) away.may did.4 in
      (away_after s u p m away.may.belongs away.may.mutex away.depths same did.4.0 did.4.1 did.4.2 later, (sleeping.0, ap (λ (x : SeatState). x.point) is ∙ sleeping.1))

-- The number of steps

pub bounded_then : (s t u : TableSeat) (m most : ℕ) → t.place.me ≡ s.place.me → MakesAtMostIn most t u m → MakesAtMostIn most s u m
bounded_then s t u m most knows less = subst (λ (z : Me ℕ PoolView). length (part u.place.me.0 m).trail ≤ length (part z.0 m).trail + most) knows less

-- a call that made no step
pub none_made : (s t : TableSeat) (m most : ℕ) → part t.place.me.0 m ≡ part s.place.me.0 m → MakesAtMostIn most s t m
none_made s t m most same = let long = ap (λ (v : View ⊤). length v.trail) same in omega (arith, long)

pub refused_made : (s t : TableSeat) (m most : ℕ) → t.place.me ≡ s.place.me → MakesAtMostIn most s t m
refused_made s t m most knows = none_made s t m most (ap (λ (z : Me ℕ PoolView). part z.0 m) knows)

pub beside_then : (s t u : TableSeat) (m most : ℕ) → t.place.me ≡ s.place.me → MakesBesideFailuresIn most t u m → MakesBesideFailuresIn most s u m
beside_then s t u m most knows less =
    subst (λ (z : Me ℕ PoolView). (new : List Seen) × ((part u.place.me.0 m).trail ≡ (part z.0 m).trail ++ new) × (length new ≤ most + 2 * failed_pushes new)) knows less

pub refused_beside : (s t : TableSeat) (m most : ℕ) → t.place.me ≡ s.place.me → MakesBesideFailuresIn most s t m
refused_beside s t m most knows = ([], ap (λ (z : Me ℕ PoolView). (part z.0 m).trail) knows ∙ sym (append-nil (part s.place.me.0 m).trail), omega arith)

module _ (s u : TableSeat) (p : Pool) (m : ℕ) (may : MayStepIn s p m) where
  made_now : (steps : ℕ → List Seen → Type 0) (depth : ℕ) → (did : DeepensBy steps s u p m depth) → (part u.place.me.0 m).trail ≡ (part s.place.me.0 m).trail ++ did.3.0.0
  made_now steps depth did =
      ap (λ (v : View ⊤). v.trail) (part_now s.number s.place.id m p.limits s.place.me u.place.me u.place.me (inside s s p m may) did.0 did.1 did.2) ∙ did.3.0.2.trail

  pub tried_again_made : (depth : ℕ) → DeepensBy TryAgainSteps s u p m depth → MakesAtMostIn 6 s u m
  tried_again_made depth did =
      let two = ap length did.3.0.1.2 in
      let long = ap length (made_now TryAgainSteps depth did) ∙ length-append (part s.place.me.0 m).trail did.3.0.0 in omega (arith, two, long)

  pub asked_again_made : (depth most : ℕ) → 3 ≤ most → DeepensBy AskAgainSteps s u p m depth → MakesBesideFailuresIn most s u m
  asked_again_made depth most least did = let three = ap length did.3.0.1.3 in (did.3.0.0, made_now AskAgainSteps depth did, omega (arith, three, least))

  pub given_up_made : (depth most : ℕ) → GivesUpIn s u p m depth → MakesAtMostIn most s u m
  given_up_made depth most did =
      none_made s u m most (part_now s.number s.place.id m p.limits s.place.me u.place.me u.place.me (inside s s p m may) did.0 did.1 did.2 ∙ did.3.0)
