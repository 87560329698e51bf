-- What is said of plain seats when a condvar is closed is the same after their wakers were taken: it is about the seats of
-- the inner mutex.
use Rattle.std.proofs.Common.{◌≡◌, ℕ, zero, suc, ◌+◌, ◌<◌, ◌≤◌, List, [], ◌∷◌, ◌++◌, ⊎_elim, inl, inr, Some, None, map, set, refl, sym, ◌∙◌, ap, subst, arith}
use mathlib.Core.Option.{some, some-injective, some-ne-none}
use lib.ListN.{get_elem?}
use Rattle.atomic_table.proofs.Lists.{at_map}
use Rattle.lfm_model.specs.declared.refusals.Missing.{Missing}
use Rattle.lfm_model.specs.declared.refusals.Missing.TheVariants.{Asleep, Holding, NotBack}
use Rattle.lfm_model.proofs.Sums.{one_at, one_same}
use Rattle.lfm_protocol.specs.declared.limits.Limits.{Limits}
use Rattle.lfm_protocol.specs.Step.{start}
use Rattle.lfm_table.specs.Actions.{KnowsRun, part_of}
use Rattle.lfm_mutex.specs.declared.seat.Seat.{Seat}
use Rattle.lfm_mutex.specs.Close.{AllStand, EndedLast, FirstMissing, HaveRun, Idle, LeftByLastHold, LeftLast, NoneHasEnded, NoneHasHeld, Stands}
use Rattle.lfm_mutex.specs.calls.RunGoesOn.{past_of}
use Rattle.lfm_mutex.specs.calls.Sight.{Sight, sight}
use Rattle.lfm_plain_condvar.specs.declared.plain_seat.PlainSeat.{PlainSeat}
use Rattle.lfm_plain_condvar.specs.declared.waiters.Waiters.{Waiters}
use Rattle.lfm_plain_condvar.specs.Belongs.{inner_seats}
use Rattle.lfm_plain_condvar.specs.Keeping.{Since}
use Rattle.lfm_plain_condvar.specs.Parkers.{times}

map_at : {A : Type 0} {B : Type 0} (f : A → B) (xs : List A) (i : ℕ) (b : B) → get_elem? (map f xs) i ≡ some b → (a : A) × (get_elem? xs i ≡ some a) × (f a ≡ b)
map_at f [] i b e = absurd (some-ne-none b (sym e))
map_at f (x ∷ xs) zero b e = (x, refl, some-injective (f x) b e)
map_at f (x ∷ xs) (suc i) b e = map_at f xs i b e

-- one was changed, but not its seat of the inner mutex
pub same_set : (xs : List PlainSeat) (i : ℕ) (s t : PlainSeat) → get_elem? xs i ≡ some s → t.seat ≡ s.seat → inner_seats (set xs i t) ≡ inner_seats xs
same_set [] i s t at e = absurd (some-ne-none s (sym at))
same_set (x ∷ xs) zero s t at e = ap (λ (q : Seat Waiters). q ∷ inner_seats xs) (e ∙ sym (ap (λ (p : PlainSeat). p.seat) (some-injective x s at)))
same_set (x ∷ xs) (suc i) s t at e = ap (λ (l : List (Seat Waiters)). x.seat ∷ l) (same_set xs i s t at e)

pub same_at : (xs ys : List PlainSeat) → inner_seats ys ≡ inner_seats xs → (i : ℕ) (s : PlainSeat) → get_elem? ys i ≡ some s → (t : PlainSeat) × (get_elem? xs i ≡ some t) × (t.seat ≡ s.seat)
same_at xs ys same i s at = map_at (λ (c : PlainSeat). c.seat) xs i s.seat (ap (λ (l : List (Seat Waiters)). get_elem? l i) (sym same) ∙ at_map (λ (c : PlainSeat). c.seat) ys i s at)

abbrev pub look : PlainSeat → Sight Waiters
look s = sight s.seat

module _ (xs ys : List PlainSeat) (same : inner_seats ys ≡ inner_seats xs) where
  stands : (k : ℕ) → Stands look ys k → Stands look xs k
  stands k h = let a = same_at xs ys same h.0.0 h.0.1 h.0.2 in (
    (h.0.0, a.0, a.1, ap (λ (q : Seat Waiters). (sight q).number) a.2 ∙ h.0.3),
    λ i t at is. let b = same_at ys xs (sym same) i t at in
        subst (λ (q : Seat Waiters). Idle (sight q)) b.2 (h.1 i b.0 b.1 (ap (λ (q : Seat Waiters). (sight q).number) b.2 ∙ is)),
  )

  pub all_stand : (n : ℕ) → AllStand look ys n → AllStand look xs n
  all_stand n h = λ k low high. stands k (h k low high)

  none_held : NoneHasHeld look ys → NoneHasHeld look xs
  none_held h = λ i t at. let b = same_at ys xs (sym same) i t at in subst (λ (q : Seat Waiters). (sight q).found ≡ None) b.2 (h i b.0 b.1)

  pub left_last : (v : Waiters) → LeftLast look ys v → LeftLast look xs v
  left_last v h = let a = same_at xs ys same h.0 h.1 h.2 in
      (h.0, a.0, a.1, subst (λ (q : Seat Waiters). (sight q).last ≡ Some v) (sym a.2) h.3, λ none. none_held (h.4 (subst (λ (q : Seat Waiters). (sight q).found ≡ None) a.2 none)))

  ended : (v : Waiters) → EndedLast look ys v → EndedLast look xs v
  ended v h = let a = same_at xs ys same h.0 h.1 h.2 in (
    h.0,
    a.0,
    a.1,
    subst (λ (q : Seat Waiters). (sight q).last ≡ Some v) (sym a.2) h.3,
    subst (λ (q : Seat Waiters). 0 < (sight q).ended) (sym a.2) h.4,
    λ j t at other. let b = same_at ys xs (sym same) j t at in
        subst (λ (q : Seat Waiters). (sight q).ended < (look a.0).ended) b.2
        (subst (λ (q : Seat Waiters). (look b.0).ended < (sight q).ended) (sym a.2)
        (h.5 j b.0 b.1 (λ e. other (sym (ap (λ (q : Seat Waiters). (sight q).number) b.2) ∙ e ∙ sym (ap (λ (q : Seat Waiters). (sight q).number) a.2))))),
  )

  none_ended : (v : Waiters) → NoneHasEnded look ys v → NoneHasEnded look xs v
  none_ended v h = λ j t at. let b = same_at ys xs (sym same) j t at in subst (λ (q : Seat Waiters). ((sight q).ended ≡ 0) × ((sight q).last ≡ Some v)) b.2 (h j b.0 b.1)

  pub left_by_last_hold : (v : Waiters) → LeftByLastHold look ys v → LeftByLastHold look xs v
  left_by_last_hold v h = ⊎_elim (λ e. inl (ended v e)) (λ n. inr (none_ended v n)) h

  pub have_run : (l : Limits) → HaveRun look (λ s. past_of s.seat) l ys → HaveRun look (λ s. past_of s.seat) l xs
  have_run l h = record {
    actions = h.actions;
    allowed = h.allowed;
    free = h.free;
    trails = λ i t at. let b = same_at ys xs (sym same) i t at in subst (λ (q : Seat Waiters). (sight q).trail ≡ part_of (start l) (sight q).number h.actions) b.2 (h.trails i b.0 b.1);
    known = λ i t at. let b = same_at ys xs (sym same) i t at in subst (λ (q : Seat Waiters). KnowsRun l h.actions (sight q).number (past_of q) (sight q).trail) b.2 (h.known i b.0 b.1);
    others = h.others;
    nobody_else = h.nobody_else;
  }

  -- what others have done since the list that a seat left last
  pub all_since : (w : Waiters) → ((j : ℕ) (s : PlainSeat) (l : Waiters) → get_elem? ys j ≡ some s → (look s).last ≡ Some l → Since (look s).number l w)
      → (j : ℕ) (s : PlainSeat) (l : Waiters) → get_elem? xs j ≡ some s → (look s).last ≡ Some l → Since (look s).number l w
  all_since w h j t l at last = let b = same_at ys xs (sym same) j t at in
      subst (λ (q : Seat Waiters). Since (sight q).number l w) b.2 (h j b.0 l b.1 (subst (λ (q : Seat Waiters). (sight q).last ≡ Some l) (sym b.2) last))

-- if all stand, none is missing
pub none_missing : (xs : List PlainSeat) (n : ℕ) (m : Missing) → AllStand look xs n → FirstMissing look xs n m → ⊥
none_missing xs n (NotBack k) all f = let h = (all k f.0 f.1).0 in f.2 h.0 h.1 h.2 h.3
none_missing xs n (Holding k) all f = let h = (all k f.0 f.1).1 f.2.0 f.2.1 f.2.2 f.2.3.0 in let a = h.0 in let b = f.2.3.1 in omega arith
none_missing xs n (Asleep k) all f = let h = (all k f.0 f.1).1 f.2.0 f.2.1 f.2.2 f.2.3.0 in let no = sym h.1 ∙ f.2.3.2 in cc

-- The wakers that were taken so far

times_more : (k : ℕ) (xs : List ℕ) (n : ℕ) → times k (xs ++ n ∷ []) ≡ times k xs + one_at n k
times_more k [] n = omega arith
times_more k (x ∷ xs) n = let h = times_more k xs n in omega arith

pub not_less : (k : ℕ) (xs ys : List ℕ) (n : ℕ) → ys ≡ xs ++ n ∷ [] → 0 < times k xs → 0 < times k ys
not_less k xs ys n is h = let m = times_more k xs n in let e : times k ys ≡ times k (xs ++ n ∷ []) = ap (times k) is in omega arith

pub now_there : (xs ys : List ℕ) (n : ℕ) → ys ≡ xs ++ n ∷ [] → 0 < times n ys
now_there xs ys n is = let m = times_more n xs n in let o = one_same n n refl in let e : times n ys ≡ times n (xs ++ n ∷ []) = ap (times n) is in omega arith

-- a waker that is added to those that are each there once was not among them
pub was_not_there : (xs ys : List ℕ) (n : ℕ) → ys ≡ xs ++ n ∷ [] → times n ys ≤ 1 → times n xs ≡ 0
was_not_there xs ys n is few = let m = times_more n xs n in let o = one_same n n refl in let e : times n ys ≡ times n (xs ++ n ∷ []) = ap (times n) is in omega arith
