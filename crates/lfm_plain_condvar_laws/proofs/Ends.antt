-- What ends waits: a waiter that was taken out stays on its way until it returns, and those that ended are counted.
use Rattle.std.proofs.Common.{◌≡◌, ◌⊎◌, ⊎_elim, inl, inr, ℕ, ◌+◌, ◌==◌, if◌then◌else◌, List, [], ◌∷◌, ◌++◌, length, length-append, sym, ap, subst, arith}
use Rattle.lfm_plain_condvar_laws.specs.Events.{Event, Happens, Run, enlists, finds_none, leaves, returns, wakes}
use Rattle.lfm_plain_condvar_laws.specs.Laws.{WaitsEndByWakesOrLimits, limits_in, limits_of, returns_of, wakes_in}
use Rattle.lfm_plain_condvar_laws.specs.Waits.{IsIn, Waiter, Waits, WasTaken, none_yet, waits_of}
use Rattle.lfm_plain_condvar_laws.proofs.Members.{in_first, in_second, without}

-- One event

woken_stays : (e : Event) (v w : Waits) (x : Waiter) → Happens e v w → IsIn x v.woken → IsIn x w.woken
woken_stays (enlists s) v w x h i = subst (λ (u : Waits). IsIn x u.woken) (sym h) i
woken_stays wakes v w x h i = subst (λ (u : Waits). IsIn x u.woken) (sym h.3) i
woken_stays finds_none v w x h i = subst (λ (u : Waits). IsIn x u.woken) (sym h.1) i
woken_stays (leaves s) v w x h i = subst (λ (u : Waits). IsIn x u.woken) (sym h.5) i
woken_stays (returns s) v w x h i = subst (λ (u : Waits). IsIn x u.woken) (sym h.5) (in_first x v.woken (h.1 ∷ []) i)

over_stays : (e : Event) (v w : Waits) (x : Waiter) → Happens e v w → IsIn x v.timed_out → IsIn x w.timed_out
over_stays (enlists s) v w x h i = subst (λ (u : Waits). IsIn x u.timed_out) (sym h) i
over_stays wakes v w x h i = subst (λ (u : Waits). IsIn x u.timed_out) (sym h.3) i
over_stays finds_none v w x h i = subst (λ (u : Waits). IsIn x u.timed_out) (sym h.1) i
over_stays (leaves s) v w x h i = subst (λ (u : Waits). IsIn x u.timed_out) (sym h.5) (in_first x v.timed_out (h.1 ∷ []) i)
over_stays (returns s) v w x h i = subst (λ (u : Waits). IsIn x u.timed_out) (sym h.5) i

owed_goes : (e : Event) (v w : Waits) (x : Waiter) → Happens e v w → IsIn x v.owed → IsIn x w.owed ⊎ IsIn x w.woken
owed_goes (enlists s) v w x h i = subst (λ (u : Waits). IsIn x u.owed ⊎ IsIn x u.woken) (sym h) (inl i)
owed_goes wakes v w x h i = subst (λ (u : Waits). IsIn x u.owed ⊎ IsIn x u.woken) (sym h.3) (inl (in_first x v.owed (h.0 ∷ []) i))
owed_goes finds_none v w x h i = subst (λ (u : Waits). IsIn x u.owed ⊎ IsIn x u.woken) (sym h.1) (inl i)
owed_goes (leaves s) v w x h i = subst (λ (u : Waits). IsIn x u.owed ⊎ IsIn x u.woken) (sym h.5) (inl i)
owed_goes (returns s) v w x h i = subst (λ (u : Waits). IsIn x u.owed ⊎ IsIn x u.woken) (sym h.5)
    (⊎_elim (λ e. inr (in_second x v.woken (h.1 ∷ []) (inl e))) (λ a. inl a) (without x h.1 h.0 h.2 (subst (IsIn x) h.4 i)))

-- in the list, taken out by a wake, or timed out
abbrev Somewhere : Waiter → Waits → Type 0
Somewhere x w = IsIn x w.listed ⊎ (WasTaken x w ⊎ IsIn x w.timed_out)

listed_goes : (e : Event) (v w : Waits) (x : Waiter) → Happens e v w → IsIn x v.listed → Somewhere x w
listed_goes (enlists s) v w x h i = subst (Somewhere x) (sym h) (inl (in_first x v.listed (_ ∷ []) i))
listed_goes wakes v w x h i = subst (Somewhere x) (sym h.3) (⊎_elim (λ e. inr (inl (inl (in_second x v.owed (h.0 ∷ []) (inl e))))) (λ a. inl a) (subst (IsIn x) h.2 i))
listed_goes finds_none v w x h i = subst (Somewhere x) (sym h.1) (inl i)
listed_goes (leaves s) v w x h i = subst (Somewhere x) (sym h.5)
    (⊎_elim (λ e. inr (inr (in_second x v.timed_out (h.1 ∷ []) (inl e)))) (λ a. inl a) (without x h.1 h.0 h.2 (subst (IsIn x) h.4 i)))
listed_goes (returns s) v w x h i = subst (Somewhere x) (sym h.5) (inl i)

-- Runs

stays_woken : (es : List Event) (v w : Waits) (x : Waiter) → Run es v w → IsIn x v.woken → IsIn x w.woken
stays_woken [] v w x r i = subst (λ (u : Waits). IsIn x u.woken) r i
stays_woken (e ∷ es) v w x r i = stays_woken es r.0 w x r.2 (woken_stays e v r.0 x r.1 i)

stays_timed_out : (es : List Event) (v w : Waits) (x : Waiter) → Run es v w → IsIn x v.timed_out → IsIn x w.timed_out
stays_timed_out [] v w x r i = subst (λ (u : Waits). IsIn x u.timed_out) r i
stays_timed_out (e ∷ es) v w x r i = stays_timed_out es r.0 w x r.2 (over_stays e v r.0 x r.1 i)

on_its_way : (es : List Event) (v w : Waits) (x : Waiter) → Run es v w → IsIn x v.owed → IsIn x w.owed ⊎ IsIn x w.woken
on_its_way [] v w x r i = inl (subst (λ (u : Waits). IsIn x u.owed) r i)
on_its_way (e ∷ es) v w x r i = ⊎_elim (λ a. on_its_way es r.0 w x r.2 a) (λ a. inr (stays_woken es r.0 w x r.2 a)) (owed_goes e v r.0 x r.1 i)

stays_taken : (es : List Event) (v w : Waits) (x : Waiter) → Run es v w → WasTaken x v → WasTaken x w
stays_taken es v w x r (inl i) = on_its_way es v w x r i
stays_taken es v w x r (inr i) = inr (stays_woken es v w x r i)

stays_listed : (es : List Event) (v w : Waits) (x : Waiter) → Run es v w → IsIn x v.listed → Somewhere x w
stays_listed [] v w x r i = inl (subst (λ (u : Waits). IsIn x u.listed) r i)
stays_listed (e ∷ es) v w x r i = ⊎_elim
    (λ a. stays_listed es r.0 w x r.2 a)
    (λ b. ⊎_elim (λ t. inr (inl (stays_taken es r.0 w x r.2 t))) (λ o. inr (inr (stays_timed_out es r.0 w x r.2 o))) b)
    (listed_goes e v r.0 x r.1 i)

-- Counts

-- those that a wake took out
abbrev taken_out : Waits → ℕ
taken_out v = length v.owed + length v.woken

wakes_counted : (es : List Event) (v w : Waits) → Run es v w → wakes_in es + taken_out v ≡ taken_out w
wakes_counted [] v w r = let e = ap taken_out r in omega arith
wakes_counted (enlists s ∷ es) v w r = let h = wakes_counted es r.0 w r.2 in let e = ap taken_out r.1 in omega arith
wakes_counted (wakes ∷ es) v w r = let h = wakes_counted es r.0 w r.2 in let e = ap taken_out r.1.3 in let l = length-append v.owed (r.1.0 ∷ []) in omega arith
wakes_counted (finds_none ∷ es) v w r = let h = wakes_counted es r.0 w r.2 in let e = ap taken_out r.1.1 in omega arith
wakes_counted (leaves s ∷ es) v w r = let h = wakes_counted es r.0 w r.2 in let e = ap taken_out r.1.5 in omega arith
wakes_counted (returns s ∷ es) v w r = let h = wakes_counted es r.0 w r.2 in let e = ap taken_out r.1.5 in let o = ap length r.1.4 in
    let a = length-append r.1.0 (r.1.1 ∷ r.1.2) in let b = length-append r.1.0 r.1.2 in let c = length-append v.woken (r.1.1 ∷ []) in omega arith

abbrev over : Waits → ℕ
over v = length v.timed_out

limits_counted : (es : List Event) (v w : Waits) → Run es v w → limits_in es + over v ≡ over w
limits_counted [] v w r = let e = ap over r in omega arith
limits_counted (enlists s ∷ es) v w r = let h = limits_counted es r.0 w r.2 in let e = ap over r.1 in omega arith
limits_counted (wakes ∷ es) v w r = let h = limits_counted es r.0 w r.2 in let e = ap over r.1.3 in omega arith
limits_counted (finds_none ∷ es) v w r = let h = limits_counted es r.0 w r.2 in let e = ap over r.1.1 in omega arith
limits_counted (leaves s ∷ es) v w r = let h = limits_counted es r.0 w r.2 in let e = ap over r.1.5 in let l = length-append v.timed_out (r.1.1 ∷ []) in omega arith
limits_counted (returns s ∷ es) v w r = let h = limits_counted es r.0 w r.2 in let e = ap over r.1.5 in omega arith

-- Counts of one seat

waits_join : (k : ℕ) (xs ys : List Waiter) → waits_of k (xs ++ ys) ≡ waits_of k xs + waits_of k ys
waits_join k [] ys = omega arith
waits_join k (x ∷ xs) ys = let h = waits_join k xs ys in omega arith

abbrev one_of : ℕ → ℕ → ℕ
one_of k i = if i == k then 1 else 0

as_often : (k i j : ℕ) → i ≡ j → one_of k i ≡ one_of k j
as_often k i j e = ap (one_of k) e

own_limits : (k : ℕ) (es : List Event) (v w : Waits) → Run es v w → limits_of k es + waits_of k v.timed_out ≡ waits_of k w.timed_out
own_limits k [] v w r = let e = ap (λ (u : Waits). waits_of k u.timed_out) r in omega arith
own_limits k (enlists s ∷ es) v w r = let h = own_limits k es r.0 w r.2 in let e = ap (λ (u : Waits). waits_of k u.timed_out) r.1 in omega arith
own_limits k (wakes ∷ es) v w r = let h = own_limits k es r.0 w r.2 in let e = ap (λ (u : Waits). waits_of k u.timed_out) r.1.3 in omega arith
own_limits k (finds_none ∷ es) v w r = let h = own_limits k es r.0 w r.2 in let e = ap (λ (u : Waits). waits_of k u.timed_out) r.1.1 in omega arith
own_limits k (leaves s ∷ es) v w r = let h = own_limits k es r.0 w r.2 in let e = ap (λ (u : Waits). waits_of k u.timed_out) r.1.5 in
    let j = waits_join k v.timed_out (r.1.1 ∷ []) in let n = as_often k r.1.1.seat s r.1.3 in omega arith
own_limits k (returns s ∷ es) v w r = let h = own_limits k es r.0 w r.2 in let e = ap (λ (u : Waits). waits_of k u.timed_out) r.1.5 in omega arith

own_returns : (k : ℕ) (es : List Event) (v w : Waits) → Run es v w → returns_of k es + waits_of k v.woken ≡ waits_of k w.woken
own_returns k [] v w r = let e = ap (λ (u : Waits). waits_of k u.woken) r in omega arith
own_returns k (enlists s ∷ es) v w r = let h = own_returns k es r.0 w r.2 in let e = ap (λ (u : Waits). waits_of k u.woken) r.1 in omega arith
own_returns k (wakes ∷ es) v w r = let h = own_returns k es r.0 w r.2 in let e = ap (λ (u : Waits). waits_of k u.woken) r.1.3 in omega arith
own_returns k (finds_none ∷ es) v w r = let h = own_returns k es r.0 w r.2 in let e = ap (λ (u : Waits). waits_of k u.woken) r.1.1 in omega arith
own_returns k (leaves s ∷ es) v w r = let h = own_returns k es r.0 w r.2 in let e = ap (λ (u : Waits). waits_of k u.woken) r.1.5 in omega arith
own_returns k (returns s ∷ es) v w r = let h = own_returns k es r.0 w r.2 in let e = ap (λ (u : Waits). waits_of k u.woken) r.1.5 in
    let j = waits_join k v.woken (r.1.1 ∷ []) in let n = as_often k r.1.1.seat s r.1.3 in omega arith

pub waits_end_by_wakes_or_limits : WaitsEndByWakesOrLimits
waits_end_by_wakes_or_limits = record {
  stays_listed = stays_listed;
  on_its_way = on_its_way;
  stays_woken = stays_woken;
  stays_timed_out = stays_timed_out;
  by_wakes = λ es w r. let h = wakes_counted es none_yet w r in omega arith;
  by_limits = λ es w r. let h = limits_counted es none_yet w r in omega arith;
  by_own_limits = λ es w k r. let h = own_limits k es none_yet w r in omega arith;
  by_own_returns = λ es w k r. let h = own_returns k es none_yet w r in omega arith;
}
