-- What a seat keeps between two calls, after each call.
use Rattle.std.proofs.Common.{◌≡◌, ◌≢◌, ℕ, ◌+◌, ◌-◌, ◌<◌, inl, inr, refl, sym, ap, ◌∙◌, subst, arith, tests, Option, Some, None}
use Rattle.std.specs.Prelude.{Result, Ok, Err, Bool, true, false, ◌&&◌, nat_lt, is_some, IfSome}
use Rattle.std.proofs.lemmas.Bool.{and_left, and_right, false≢true}
use Rattle.atomic_table.specs.Table.{Me}
use Rattle.lfm_model.specs.declared.answers.Asked.{Asked}
use Rattle.lfm_model.specs.declared.answers.How.{How}
use Rattle.lfm_model.specs.declared.answers.Locked.{Locked}
use Rattle.lfm_model.specs.declared.refusals.Refusal.{Refusal}
use Rattle.lfm_words.specs.declared.pop_lists.Record.{Record}
use Rattle.lfm_pool.specs.declared.any_depth.Release.{Release}
use Rattle.lfm_pool.specs.declared.pool.Pool.{Pool}
use Rattle.lfm_pool.specs.declared.pool.TableSeat.{TableSeat}
use Rattle.lfm_pool.specs.declared.seat.PoolSeat.{PoolSeat}
use Rattle.lfm_pool.specs.declared.view.PoolView.{PoolView}
use Rattle.lfm_pool.specs.Admissions.{after_load, most_posts}
use Rattle.lfm_pool.specs.AnyDepth.{AsksAtAnyDepth, IsAtRest, IsAwayIn, IsPlacedBy, TriesAtAnyDepth, UnlocksAtAnyDepth}
use Rattle.lfm_pool.specs.Belongs.{IsMutex, OfPool, SameSeat}
use Rattle.lfm_pool.specs.Calls.{IsBetweenCalls}
use Rattle.lfm_pool.specs.Counts.{CountsTakes}
use Rattle.lfm_pool.specs.Depths.{AskAgainSteps, HasDepthIn, TryAgainSteps}
use Rattle.lfm_pool.specs.Moves.{MayStepIn}
use Rattle.lfm_pool.specs.Receive.{ReceivedIn}
use Rattle.lfm_pool.specs.Seats.{HoldsOnceIn, state_of}
use Rattle.lfm_pool.specs.SeatWords.{Sleeps}
use Rattle.lfm_pool.specs.Steps.{RestsElsewhere, Sits, state_in}
use Rattle.lfm_pool.specs.Tables.{part}
use Rattle.lfm_pool.proofs.Admitted.{belongs_loaded, same_loaded}
use Rattle.lfm_pool.proofs.AnyDepth.{depth_then_at, receive_rests, receive_sleeps, rest_then, same_from}
use Rattle.lfm_pool.proofs.CountedTakes.{counted_refused, counts_asked, counts_asleep, counts_busy, counts_deeper, counts_fewer, counts_loaded, counts_received, counts_released, counts_tried, counts_waiting}

some_injective : {A : Type 0} (x y : A) → Some x ≡ Some y → x ≡ y
some_injective x y e = cc

-- Whether it has a take and a number for a post left

below_by : (b : Bool) (n most : ℕ) → nat_lt n most ≡ b → (b ≡ false → ⊥) → n < most
below_by true n most is some = search (tests, arith, is)
below_by false n most is some = absurd (some refl)

below : (n most : ℕ) → (nat_lt n most ≡ false → ⊥) → n < most
below n most some = below_by (nat_lt n most) n most refl some

-- this is the answer of `has_take`
abbrev pub TellsTake : Bool → PoolSeat → Pool → Type 0
TellsTake has_take s p = has_take ≡ (nat_lt s.takes p.limits.budget && nat_lt s.table_seat.posts most_posts)

-- it has both, if it has not been refused
has_left : (has_take : Bool) (s : PoolSeat) (p : Pool) → TellsTake has_take s p → (has_take ≡ false → ⊥) → (s.takes < p.limits.budget) × (s.table_seat.posts < most_posts)
has_left has_take s p tells some = (
  below s.takes p.limits.budget (λ e. some (tells ∙ and_left (nat_lt s.takes p.limits.budget) (nat_lt s.table_seat.posts most_posts) e)),
  below s.table_seat.posts most_posts (λ e. some (tells ∙ and_right (nat_lt s.takes p.limits.budget) (nat_lt s.table_seat.posts most_posts) e)),
)

one_before : (depth : ℕ) → 1 < depth → 0 < depth - 1
one_before depth more = omega (arith, more)

-- What it has counted after a call that takes nothing

module _ (s t : TableSeat) (p : Pool) (m takes : ℕ) (rest : IsAtRest s p) (less : IsMutex m p) (counts : CountsTakes takes 0 s p) where
  counts_again : (depth : ℕ) → TriesAtAnyDepth (Ok (Locked.Again depth)) s t p m → CountsTakes takes 0 t p
  counts_again depth did = counts_deeper s t p m takes rest.belongs less counts TryAgainSteps (depth - 1) depth (one_before depth did.0) did.1 did.2

  counts_refused_try : (refusal : Refusal) → TriesAtAnyDepth (Err refusal) s t p m → CountsTakes takes 0 t p
  counts_refused_try Refusal.DepthFull did = counted_refused s t p takes 0 counts did.1
  counts_refused_try Refusal.Spent did = counted_refused s t p takes 0 counts did.1
  counts_refused_try Refusal.Busy did = counts_busy s t p m takes rest.belongs less counts Refusal.Busy did.1
  counts_refused_try _ did = absurd did

  counts_asked_again : (depth : ℕ) (granted : Option Record) → AsksAtAnyDepth (Ok (Asked.Again depth)) granted s t p m → CountsTakes takes 0 t p
  counts_asked_again depth None did = counts_deeper s t p m takes rest.belongs less counts AskAgainSteps (depth - 1) depth (one_before depth did.0) did.1 did.2
  counts_asked_again depth (Some r) did = absurd did.2

  counts_not_asked : (refusal : Refusal) (granted : Option Record) → AsksAtAnyDepth (Err refusal) granted s t p m → CountsTakes takes 0 t p
  counts_not_asked Refusal.DepthFull None did = counted_refused s t p takes 0 counts did.1
  counts_not_asked Refusal.Spent None did = elim did.1 [
    | inl refused ↦ counted_refused s t p takes 0 counts refused
    | inr none ↦ counts_loaded s t m none.0 none.1 p takes 0 counts
  ]
  counts_not_asked _ _ did = absurd did

  counts_unlocked : (result : Result Release Refusal) → UnlocksAtAnyDepth result s t p m → CountsTakes takes 0 t p
  counts_unlocked (Err Refusal.NotOwner) did = counted_refused s t p takes 0 counts did.1
  counts_unlocked (Ok (Release.Still depth)) did = counts_fewer s t p m takes rest.belongs less counts depth did.2
  counts_unlocked (Ok (Release.Last released)) did = counts_released s t p m takes rest.belongs less counts did.0 released did.1
  counts_unlocked _ did = absurd did

-- The seat after a call, which began awake

module _ (s : PoolSeat) (t : TableSeat) (p : Pool) (m : ℕ) (between : IsBetweenCalls s p) (less : IsMutex m p) (awake : s.asleep_in ≡ None) where
  rest : IsAtRest s.table_seat p
  rest = (between.awake awake).0

  counts : CountsTakes s.takes 0 s.table_seat p
  counts = (between.awake awake).1

  stays : (takes : ℕ) → IsAtRest t p → CountsTakes takes 0 t p → IsBetweenCalls (record s { table_seat = t; takes = takes }) p
  stays takes later counted = record { awake = λ e. (later, counted); sleeps = λ n e. let no : None ≡ Some n = sym awake ∙ e in absurd (cc) }

  -- a try_lock
  pub tried_held : (result : Result Locked Refusal) (how : How) → result ≡ Ok (Locked.Held how) → IsAtRest t p → TriesAtAnyDepth result s.table_seat t p m
      → (has_take : Bool) → TellsTake has_take s p → (HasDepthIn s.table_seat p m 0 → has_take ≡ false → result ≡ Err Refusal.Spent)
      → IsBetweenCalls (record s { table_seat = t; takes = s.takes + 1 }) p
  tried_held result how is later did has_take tells refuses =
      let done = subst (λ (r : Result Locked Refusal). TriesAtAnyDepth r s.table_seat t p m) is did in
      let left = has_left has_take s p tells (λ e. let spent = refuses done.0 e in absurd (cc)) in
      stays (s.takes + 1) later (counts_tried s.table_seat t p m s.takes rest.belongs less counts left.0 left.1 (Locked.Held how) done.1)

  pub tried_again : (result : Result Locked Refusal) (depth : ℕ) → result ≡ Ok (Locked.Again depth) → IsAtRest t p → TriesAtAnyDepth result s.table_seat t p m
      → IsBetweenCalls (record s { table_seat = t }) p
  tried_again result depth is later did =
      stays s.takes later (counts_again s.table_seat t p m s.takes rest less counts depth (subst (λ (r : Result Locked Refusal). TriesAtAnyDepth r s.table_seat t p m) is did))

  pub try_refused : (result : Result Locked Refusal) (refusal : Refusal) → result ≡ Err refusal → IsAtRest t p → TriesAtAnyDepth result s.table_seat t p m
      → IsBetweenCalls (record s { table_seat = t }) p
  try_refused result refusal is later did =
      stays s.takes later (counts_refused_try s.table_seat t p m s.takes rest less counts refusal (subst (λ (r : Result Locked Refusal). TriesAtAnyDepth r s.table_seat t p m) is did))

  -- an ask, before whose steps it has loaded the push word
  abbrev loaded : ℕ → TableSeat
  loaded found = after_load s.table_seat m found

  loaded_belongs : (found : ℕ) → OfPool (loaded found) p
  loaded_belongs found = belongs_loaded s.table_seat (loaded found) m found refl p (same_loaded s.table_seat (loaded found) m found refl (refl, refl, refl)) rest.belongs

  loaded_counts : (found : ℕ) → CountsTakes s.takes 0 (loaded found) p
  loaded_counts found = counts_loaded s.table_seat (loaded found) m found refl p s.takes 0 counts

  pub asked_held : (result : Result Asked Refusal) (granted : Option Record) (how : How) → result ≡ Ok (Asked.Held how) → IsPlacedBy result t p m → AsksAtAnyDepth result granted s.table_seat t p m
      → (has_take : Bool) → TellsTake has_take s p → (HasDepthIn s.table_seat p m 0 → has_take ≡ false → result ≡ Err Refusal.Spent)
      → IsBetweenCalls (record s { table_seat = t; takes = s.takes + 1 }) p
  asked_held result granted how is placed did has_take tells refuses =
      let done = subst (λ (r : Result Asked Refusal). AsksAtAnyDepth r granted s.table_seat t p m) is did in
      let left = has_left has_take s p tells (λ e. let spent = refuses done.0 e in absurd (cc)) in
      stays (s.takes + 1) (subst (λ (r : Result Asked Refusal). IsPlacedBy r t p m) is placed)
      (counts_asked (loaded done.1.0) t p m s.takes (loaded_belongs done.1.0) less (loaded_counts done.1.0) left.0 left.1 how granted done.1.2)

  pub asked_asleep : (result : Result Asked Refusal) (granted : Option Record) → result ≡ Ok Asked.Asleep → IsPlacedBy result t p m → AsksAtAnyDepth result granted s.table_seat t p m
      → (has_take : Bool) → TellsTake has_take s p → (HasDepthIn s.table_seat p m 0 → has_take ≡ false → result ≡ Err Refusal.Spent)
      → IsBetweenCalls (record s { table_seat = t; takes = s.takes + 1; asleep_in = Some m }) p
  asked_asleep result granted is placed did has_take tells refuses =
      let done = subst (λ (r : Result Asked Refusal). AsksAtAnyDepth r granted s.table_seat t p m) is did in
      let left = has_left has_take s p tells (λ e. let spent = refuses done.0 e in absurd (cc)) in
      let away = subst (λ (r : Result Asked Refusal). IsPlacedBy r t p m) is placed in
      let counted = counts_waiting (loaded done.1.0) t p m s.takes (loaded_belongs done.1.0) less (loaded_counts done.1.0) left.0 left.1 granted done.1.2 in record {
        awake = λ e. absurd (cc);
        sleeps = λ n e. subst (λ (i : ℕ). IsAwayIn t p i × Sleeps (state_of t i) × CountsTakes (s.takes + 1) 1 t p) (some_injective m n e) (away.0, away.1, counted);
      }

  pub asked_again : (result : Result Asked Refusal) (granted : Option Record) (depth : ℕ) → result ≡ Ok (Asked.Again depth) → IsPlacedBy result t p m → AsksAtAnyDepth result granted s.table_seat t p m
      → IsBetweenCalls (record s { table_seat = t }) p
  asked_again result granted depth is placed did =
      stays s.takes (subst (λ (r : Result Asked Refusal). IsPlacedBy r t p m) is placed)
      (counts_asked_again s.table_seat t p m s.takes rest less counts depth granted (subst (λ (r : Result Asked Refusal). AsksAtAnyDepth r granted s.table_seat t p m) is did))

  pub ask_refused : (result : Result Asked Refusal) (granted : Option Record) (refusal : Refusal) → result ≡ Err refusal → IsPlacedBy result t p m → AsksAtAnyDepth result granted s.table_seat t p m
      → IsBetweenCalls (record s { table_seat = t }) p
  ask_refused result granted refusal is placed did =
      stays s.takes (subst (λ (r : Result Asked Refusal). IsPlacedBy r t p m) is placed)
      (counts_not_asked s.table_seat t p m s.takes rest less counts refusal granted (subst (λ (r : Result Asked Refusal). AsksAtAnyDepth r granted s.table_seat t p m) is did))

  -- an unlock
  pub unlocked : (result : Result Release Refusal) → IsAtRest t p → UnlocksAtAnyDepth result s.table_seat t p m → IsBetweenCalls (record s { table_seat = t }) p
  unlocked result later did = stays s.takes later (counts_unlocked s.table_seat t p m s.takes rest less counts result did)

-- The seat after a receive, which began asleep in the mutex

module _ (s : PoolSeat) (t : TableSeat) (p : Pool) (m : ℕ) (between : IsBetweenCalls s p) (less : IsMutex m p) (asleep : s.asleep_in ≡ Some m) (same : SameSeat s.table_seat t) where
  abbrev pub away : IsAwayIn s.table_seat p m × Sleeps (state_of s.table_seat m) × CountsTakes s.takes 1 s.table_seat p
  away = between.sleeps m asleep

  -- it has found no grant
  pub still_asleep : (result : Option How) → is_some result ≡ false → ReceivedIn s.table_seat t m result → MayStepIn t p m → IsBetweenCalls (record s { table_seat = t }) p
  still_asleep None is did later =
      let sleeps = receive_sleeps s.table_seat t p m away.0 same did later away.1 in
      let counted = counts_asleep s.table_seat t p m s.takes away.0.may.belongs less away.2 did in record {
        awake = λ e. let no : None ≡ Some m = sym e ∙ asleep in absurd (cc);
        sleeps = λ n e. subst (λ (i : ℕ). IsAwayIn t p i × Sleeps (state_of t i) × CountsTakes s.takes 1 t p) (some_injective m n (sym asleep ∙ e)) (sleeps.0, sleeps.1, counted);
      }
  still_asleep (Some how) is did later = absurd (false≢true (sym is))

  -- it has found its grant
  pub woken : (result : Option How) → is_some result ≡ true → ReceivedIn s.table_seat t m result → IfSome result (λ _. HoldsOnceIn t p m) → IsBetweenCalls (record s { table_seat = t; asleep_in = None }) p
  woken None is did holds = absurd (false≢true is)
  woken (Some how) is did holds = record {
    awake = λ e. (receive_rests s.table_seat t p m away.0 same how did holds, counts_received s.table_seat t p m s.takes away.0.may.belongs less away.2 how did);
    sleeps = λ n e. absurd (cc);
  }

-- The seat between two calls, whether it sleeps or not

module _ (s : PoolSeat) (p : Pool) (between : IsBetweenCalls s p) where
  belongs_if : (o : Option ℕ) → s.asleep_in ≡ o → OfPool s.table_seat p
  belongs_if None e = (between.awake e).0.belongs
  belongs_if (Some m) e = (between.sleeps m e).0.may.belongs

  pub belongs_between : OfPool s.table_seat p
  belongs_between = belongs_if s.asleep_in refl

  -- it rests in a mutex in which it does not sleep
  module _ (m : ℕ) (less : IsMutex m p) (other : s.asleep_in ≢ Some m) where
    depth_if : (o : Option ℕ) → s.asleep_in ≡ o → (depth : ℕ) × HasDepthIn s.table_seat p m depth
    depth_if None e = (between.awake e).0.depths m less
    depth_if (Some n) e = (between.sleeps n e).0.depths m less (λ is. other (e ∙ ap (λ (i : ℕ). Some i) (sym is)))

    pub depth_between : (depth : ℕ) × HasDepthIn s.table_seat p m depth
    depth_between = depth_if s.asleep_in refl

-- The seat after a load that is no step

away_then : (s t : TableSeat) (p : Pool) (m : ℕ) → IsAwayIn s p m → SameSeat s t → t.place.me ≡ s.place.me → IsAwayIn t p m
away_then s t p m away same knows = record {
  may = record {
    belongs = record { table = same.table ∙ away.may.belongs.table; parts = same.parts ∙ away.may.belongs.parts };
    mutex = away.may.mutex;
    sits = subst (λ (z : ℕ × ℕ × Me ℕ PoolView). Sits z.0 z.1 p.limits (state_in z.2.0 m) (part z.2.0 m)) (sym (same_from s t same knows)) away.may.sits;
    elsewhere = subst (λ (z : Me ℕ PoolView). RestsElsewhere z.0 m) (sym knows) away.may.elsewhere;
  };
  depths = λ n inner other. let d = away.depths n inner other in (d.0, depth_then_at s t p n d.0 same knows d.1);
}

takes_then : (s t : PoolSeat) (p : Pool) (waits : ℕ) → t.table_seat.place.me ≡ s.table_seat.place.me → t.takes ≡ s.takes → CountsTakes s.takes waits s.table_seat p → CountsTakes t.takes waits t.table_seat p
takes_then s t p waits knows takes counts = subst (λ (k : ℕ). CountsTakes k waits t.table_seat p) (sym takes) (counted_refused s.table_seat t.table_seat p s.takes waits counts knows)

pub between_then : (s t : PoolSeat) (p : Pool) → SameSeat s.table_seat t.table_seat → t.table_seat.place.me ≡ s.table_seat.place.me → t.takes ≡ s.takes → t.asleep_in ≡ s.asleep_in → IsBetweenCalls s p → IsBetweenCalls t p
between_then s t p same knows takes asleep between = record {
  awake = λ e. let before = between.awake (sym asleep ∙ e) in (rest_then s.table_seat t.table_seat p before.0 same knows, takes_then s t p 0 knows takes before.1);
  sleeps = λ m e. let before = between.sleeps m (sym asleep ∙ e) in (
    away_then s.table_seat t.table_seat p m before.0 same knows,
    subst (λ (z : Me ℕ PoolView). Sleeps (state_in z.0 m)) (sym knows) before.1,
    takes_then s t p 1 knows takes before.2,
  );
}
