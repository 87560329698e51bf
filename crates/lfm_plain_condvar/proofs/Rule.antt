-- The steps on parkers keep their rule.
use Rattle.std.proofs.Common.{◌≡◌, ℕ, zero, suc, ◌+◌, ◌<◌, ◌≤◌, List, [], ◌∷◌, ◌++◌, refl, sym, ◌∙◌, ap, subst, arith, get_or, set, length, map, get_or-set_other}
use mathlib.Core.Option.{Option, some, none, some-injective, some-ne-none}
use mathlib.Core.Logic.{dite}
use native.Mathlib.Decide.{ℕ_discrete, dec_le}
use lib.ListN.{get_elem?}
use Rattle.atomic_table.specs.Table.{Me, Act, keeps, takes, gives, Valid, carried_after, homes_after, put_back, Allows, Arrives, Enters, Joins, step}
use Rattle.atomic_table.proofs.Lists.{set_here, set_else, some_there}
use Rattle.lfm_model.proofs.Sums.{one_most, one_other, one_same}
use Rattle.lfm_plain_condvar.specs.declared.parkers.Notices.{Notices}
use Rattle.lfm_plain_condvar.specs.declared.parkers.woken.Woken.{Woken}
use Rattle.lfm_plain_condvar.specs.WokenWords.{notified_word}
use Rattle.lfm_plain_condvar.specs.Parkers.{HasEachOnce, Notifies, ParkersHold, Retires, StartsWithNone, TakesIfNotified, if_parked, no_notices, owners, times, with_those}

abbrev U : Type 0
U = Unit {0}

-- Words and homes

-- a word that was set to less than 2 is less than 2
low : (l : List ℕ) (i n : ℕ) → n < 2 → get_or (set l i n) i 0 < 2
low [] i n h = omega arith
low (x ∷ xs) zero n h = h
low (x ∷ xs) (suc i) n h = low xs i n h

same_word : (l : List ℕ) (i k : ℕ) → get_or (set l i (get_or l i 0)) k 0 ≡ get_or l k 0
same_word [] i k = refl
same_word (x ∷ xs) zero zero = refl
same_word (x ∷ xs) zero (suc k) = refl
same_word (x ∷ xs) (suc i) zero = refl
same_word (x ∷ xs) (suc i) (suc k) = same_word xs i k

-- the rule of these words and homes
abbrev pub Home : List ℕ → List (Option U) → Type 0
Home words homes = (k : ℕ) → 2 ≤ get_or words k 0 → get_elem? homes k ≡ some (some tt)

-- the waker of parker i was taken, and its word is less than 2
pub taken : (words : List ℕ) (homes : List (Option U)) (i n : ℕ) → n < 2 → Home words homes → Home (set words i n) (set homes i none)
taken words homes i n h all k two = dite (ℕ_discrete k i)
    (λ e. let l = low words i n h in let t : 2 ≤ get_or (set words i n) i 0 = subst (λ (j : ℕ). 2 ≤ get_or (set words i n) j 0) e two in absurd (omega arith))
    (λ ne. let same = get_or-set_other words i k n 0 ne in set_else homes i k none ne ∙ all k (omega arith))

-- the word of parker i is less than 2
pub emptied : (words : List ℕ) (homes : List (Option U)) (i n : ℕ) → n < 2 → Home words homes → Home (set words i n) homes
emptied words homes i n h all k two = dite (ℕ_discrete k i)
    (λ e. let l = low words i n h in let t : 2 ≤ get_or (set words i n) i 0 = subst (λ (j : ℕ). 2 ≤ get_or (set words i n) j 0) e two in absurd (omega arith))
    (λ ne. let same = get_or-set_other words i k n 0 ne in all k (omega arith))

-- the waker of parker i went home
pub given : (words : List ℕ) (homes : List (Option U)) (i n : ℕ) → i < length homes → Home words homes → Home (set words i n) (set homes i (some tt))
given words homes i n h all k two = dite (ℕ_discrete k i)
    (λ e. subst (λ (j : ℕ). get_elem? (set homes i (some tt)) j ≡ some (some tt)) (sym e) (set_here homes i (some tt) h))
    (λ ne. let same = get_or-set_other words i k n 0 ne in set_else homes i k (some tt) ne ∙ all k (omega arith))

-- Words and views

-- the rule of these words and views
abbrev pub Owned : List ℕ → List Notices → Type 0
Owned words views = (k : ℕ) → (owners k views ≤ 1) × (2 ≤ get_or words k 0 → owners k views ≡ 0)

times_join : (k : ℕ) (xs ys : List ℕ) → times k (xs ++ ys) ≡ times k xs + times k ys
times_join k [] ys = omega arith
times_join k (x ∷ xs) ys = let h = times_join k xs ys in omega arith

owners_more : (k : ℕ) (vs : List Notices) (v : Notices) → owners k (vs ++ v ∷ []) ≡ owners k vs + times k v.wakers
owners_more k [] v = omega arith
owners_more k (x ∷ vs) v = let h = owners_more k vs v in omega arith

-- a seat's view was changed
owners_set : (k : ℕ) (vs : List Notices) (i : ℕ) (v w : Notices) → get_elem? vs i ≡ some v → owners k (set vs i w) + times k v.wakers ≡ owners k vs + times k w.wakers
owners_set k [] i v w e = absurd (some-ne-none v (sym e))
owners_set k (x ∷ vs) zero v w e = let h : times k x.wakers ≡ times k v.wakers = ap (λ (z : Notices). times k z.wakers) (some-injective x v e) in omega arith
owners_set k (x ∷ vs) (suc i) v w e = let h = owners_set k vs i v w e in omega arith

-- the word of parker i is less than 2, and who had its waker has it
lowered : (words : List ℕ) (views after : List Notices) (i n : ℕ) → n < 2 → ((k : ℕ) → owners k after ≡ owners k views) → Owned words views → Owned (set words i n) after
lowered words views after i n h same all k = let a = all k in let b = a.0 in let c = same k in (
  omega arith,
  λ two. dite (ℕ_discrete k i)
      (λ e. let l = low words i n h in let t : 2 ≤ get_or (set words i n) i 0 = subst (λ (j : ℕ). 2 ≤ get_or (set words i n) j 0) e two in absurd (omega arith))
      (λ ne. let o = get_or-set_other words i k n 0 ne in let d = a.1 (omega arith) in omega arith),
)

-- parker i had been notified, and a new seat has its waker
one_more : (words : List ℕ) (views : List Notices) (i n : ℕ) → n < 2 → 2 ≤ get_or words i 0 → Owned words views → Owned (set words i n) (views ++ record { parkers = []; wakers = i ∷ []; parked = [] } ∷ [])
one_more words views i n h notified all k = let m = owners_more k views (record { parkers = []; wakers = i ∷ []; parked = [] }) in let a = all k in let b = a.0 in dite (ℕ_discrete k i)
    (λ e. let none : owners k views ≡ 0 = a.1 (subst (λ (j : ℕ). 2 ≤ get_or words j 0) (sym e) notified) in let one = one_most i k in let l = low words i n h in
    ((omega arith), λ two. let t : 2 ≤ get_or (set words i n) i 0 = subst (λ (j : ℕ). 2 ≤ get_or (set words i n) j 0) e two in absurd (omega arith)))
    (λ ne. let one = one_other i k (λ e. ne (sym e)) in let o = get_or-set_other words i k n 0 ne in ((omega arith), λ two. let d = a.1 (omega arith) in omega arith))

-- the seat that had the waker of parker i has notified it, by the word n
one_less : (words : List ℕ) (views : List Notices) (i n id : ℕ) (v : Notices) (found : List ℕ) → v.wakers ≡ i ∷ [] → get_elem? views id ≡ some v → Owned words views → Owned (set words i n) (set views id (record { parkers = i ∷ []; wakers = []; parked = found }))
one_less words views i n id v found its at all k =
    let m = owners_set k views id v (record { parkers = i ∷ []; wakers = []; parked = found }) at in let a = all k in let b = a.0 in
    let had : times k v.wakers ≡ times k (i ∷ []) = ap (times k) its in dite (ℕ_discrete k i)
    (λ e. let one = one_same i k (sym e) in (omega arith, λ two. omega arith))
    (λ ne. let one = one_other i k (λ e. ne (sym e)) in let o = get_or-set_other words i k n 0 ne in (omega arith, λ two. let d = a.1 (omega arith) in omega arith))

-- Steps

-- a swap by a new seat takes the waker if it finds that the parker was notified
pub arrives : (slots i n : ℕ) → n < 2 → Arrives ParkersHold slots i (λ _. n) (TakesIfNotified (step slots i n 0 none) (no_notices, []))
arrives slots i n h s all len small = arrive (dec_le 2 (get_or s.words i 0)) where
  arrive : Dec (2 ≤ get_or s.words i 0)
      → (w : Notices) × (a : Act U) × Valid s.homes [] a × ParkersHold record { words = set s.words i n; homes = homes_after s.homes [] a; views = s.views ++ w ∷ [] } × TakesIfNotified (step slots i n 0 none) (no_notices, []) (get_or s.words i 0) (w, carried_after [] a)
  arrive (yes notified) = (record { parkers = []; wakers = i ∷ []; parked = [] }, takes i tt, all.0 i notified, (taken s.words s.homes i n h all.0, one_more s.words s.views i n h notified all.1), λ _. (refl, refl))
  arrive (no not) = (no_notices, keeps, tt, (emptied s.words s.homes i n h all.0, lowered s.words s.views (s.views ++ no_notices ∷ []) i n h (λ k. let m = owners_more k s.views no_notices in omega arith) all.1), λ notified. absurd (not notified))

-- a swap by the seat that has the waker notifies the parker, and gives the waker back
pub notifies : (slots id i n : ℕ) (me : Me U Notices) (w : Woken) → n ≡ notified_word w → me.0.wakers ≡ i ∷ [] → me.1 ≡ (i, tt) ∷ [] → i < slots → Allows ParkersHold slots id me i (λ _. n) (Notifies (step slots i n 0 none) me)
notifies slots id i n me w says has its inside s all len view small = (
  record { parkers = i ∷ []; wakers = []; parked = if_parked i (get_or s.words i 0) },
  gives,
  tt,
  (subst (λ (c : List (ℕ × U)). Home (set s.words i n) (put_back s.homes c)) (sym its) (given s.words s.homes i n (omega arith) all.0), one_less s.words s.views i n id me.0 (if_parked i (get_or s.words i 0)) has view all.1),
  ((w, says), refl, refl),
)

-- the views are as they were
as_before : (k : ℕ) (vs : List Notices) (i : ℕ) (v : Notices) → get_elem? vs i ≡ some v → owners k (set vs i v) ≡ owners k vs
as_before k vs i v at = let m = owners_set k vs i v v at in omega arith

-- a swap by the seat that has the waker gives it back, and leaves the parker empty
pub retires : (slots id i : ℕ) (me : Me U Notices) → me.1 ≡ (i, tt) ∷ [] → i < slots → Allows ParkersHold slots id me i (λ _. 0) (Retires (step slots i 0 0 none) me)
retires slots id i me its inside s all len view small = (
  me.0,
  gives,
  tt,
  (subst (λ (c : List (ℕ × U)). Home (set s.words i 0) (put_back s.homes c)) (sym its) (given s.words s.homes i 0 (omega arith) all.0), lowered s.words s.views (set s.views id me.0) i 0 (omega arith) (λ k. as_before k s.views id me.0 view) all.1),
  refl,
)

-- how often a seat's view has the number is at most how many seats have it
within_all : (k : ℕ) (vs : List Notices) (i : ℕ) (v : Notices) → get_elem? vs i ≡ some v → times k v.wakers ≤ owners k vs
within_all k [] i v e = absurd (some-ne-none v (sym e))
within_all k (x ∷ vs) zero v e = let h : times k x.wakers ≡ times k v.wakers = ap (λ (z : Notices). times k z.wakers) (some-injective x v e) in omega arith
within_all k (x ∷ vs) (suc i) v e = let h = within_all k vs i v e in omega arith

-- a load shows that the seat has each waker once
pub shows : (slots id i : ℕ) (me : Me U Notices) → Allows ParkersHold slots id me i (λ n. n) (HasEachOnce (step slots i 0 0 none) me)
shows slots id i me s all len view small = (
  me.0,
  keeps,
  tt,
  ((λ k two. let w = same_word s.words i k in all.0 k (omega arith)), λ k. let a = all.1 k in let b = a.0 in let o = as_before k s.views id me.0 view in let w = same_word s.words i k in (omega arith, λ two. let d = a.1 (omega arith) in omega arith)),
  λ k. let a = (all.1 k).0 in let b = within_all k s.views id me.0 view in omega arith,
)

-- a load by a new seat changes nothing
pub enters : (slots i : ℕ) → Enters ParkersHold slots i (λ n w. StartsWithNone (step slots i 0 0 none) (no_notices, []) n (w, []))
enters slots i s all len small = (no_notices, (all.0, λ k. let a = all.1 k in let b = a.0 in let m = owners_more k s.views no_notices in (omega arith, λ two. let d = a.1 two in omega arith)), refl)

-- two seats' views are joined
pub joins : (id other : ℕ) (v w : Notices) → Joins ParkersHold id v other w (with_those v w) no_notices
joins id other v w s all has others there = (
  all.0,
  λ k. let a = all.1 k in let b = a.0 in
      let m = owners_set k s.views id v (with_those v w) has in let n = owners_set k (set s.views id (with_those v w)) other w no_notices there in let j = times_join k v.wakers w.wakers in
      (omega arith, λ two. let d = a.1 two in omega arith),
)

in_range : (l : List ℕ) (k : ℕ) → 2 ≤ get_or l k 0 → k < length l
in_range [] k h = absurd (omega arith)
in_range (x ∷ xs) zero h = omega arith
in_range (x ∷ xs) (suc k) h = let r = in_range xs k h in omega arith

-- at the start each waker is at home
pub opened : (words : List ℕ) (wakers : List U) → length words ≡ length wakers → Home words (map some wakers)
opened words wakers same k two = let r = in_range words k two in (some_there wakers k (omega arith)).1
