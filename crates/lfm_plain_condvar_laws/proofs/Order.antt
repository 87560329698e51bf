-- The list is in the order of the tickets, and wakes take out the oldest.
use Rattle.std.proofs.Common.{◌≡◌, ◌⊎◌, ⊎_elim, inl, inr, ℕ, ◌+◌, ◌<◌, ◌≤◌, List, [], ◌∷◌, ◌++◌, sym, ap, subst, arith}
use Rattle.lfm_plain_condvar_laws.specs.Events.{Event, Happens, Run, enlists, finds_none, leaves, returns, wakes}
use Rattle.lfm_plain_condvar_laws.specs.Laws.{WakesTakeTheOldest}
use Rattle.lfm_plain_condvar_laws.specs.Waits.{InOrder, IsIn, Waiter, Waits, WasTaken, none_yet, waiter}
use Rattle.lfm_plain_condvar_laws.proofs.Members.{among, in_middle, in_parts}

-- Lists in order

in_order_more : (n k s : ℕ) (xs : List Waiter) → InOrder n k xs → InOrder (n + 1) k (xs ++ waiter s (n + 1) ∷ [])
in_order_more n k s [] h = (omega arith, omega arith)
in_order_more n k s (x ∷ xs) h = (h.0, in_order_more n x.ticket s xs h.1)

in_order_below : (n j k : ℕ) (xs : List Waiter) → j ≤ k → InOrder n k xs → InOrder n j xs
in_order_below n j k [] low h = omega arith
in_order_below n j k (x ∷ xs) low h = (let a = h.0 in omega arith, h.1)

in_order_without : (n k : ℕ) (xs : List Waiter) (x : Waiter) (ys : List Waiter) → InOrder n k (xs ++ x ∷ ys) → InOrder n k (xs ++ ys)
in_order_without n k [] x ys h = in_order_below n k x.ticket ys (let a = h.0 in omega arith) h.1
in_order_without n k (z ∷ xs) x ys h = (h.0, in_order_without n z.ticket xs x ys h.1)

-- a waiter of the list has a ticket above k
above : (n k : ℕ) (xs : List Waiter) (y : Waiter) → InOrder n k xs → IsIn y xs → k < y.ticket
above n k [] y h i = absurd i
above n k (x ∷ xs) y h (inl e) = subst (λ (z : Waiter). k < z.ticket) (sym e) h.0
above n k (x ∷ xs) y h (inr i) = let a = h.0 in let b = above n x.ticket xs y h.1 i in omega arith

top : (n k : ℕ) (xs : List Waiter) → InOrder n k xs → k ≤ n
top n k [] h = h
top n k (x ∷ xs) h = let a = h.0 in let b = top n x.ticket xs h.1 in omega arith

-- a waiter of the list has a ticket of at most n
at_most : (n k : ℕ) (xs : List Waiter) (y : Waiter) → InOrder n k xs → IsIn y xs → y.ticket ≤ n
at_most n k [] y h i = absurd i
at_most n k (x ∷ xs) y h (inl e) = subst (λ (z : Waiter). z.ticket ≤ n) (sym e) (top n x.ticket xs h.1)
at_most n k (x ∷ xs) y h (inr i) = at_most n x.ticket xs y h.1 i

-- Events

record Sorted (w : Waits) : Type 0 where
  pub listed : InOrder w.added 0 w.listed
  pub oldest : (x y : Waiter) → WasTaken x w → IsIn y w.listed → x.ticket < y.ticket
  pub given : (x : Waiter) → WasTaken x w → x.ticket ≤ w.added

abbrev longer : ℕ → Waits → Waits
longer s v = record v { added = v.added + 1; listed = v.listed ++ waiter s (v.added + 1) ∷ [] }

added : (s : ℕ) (v : Waits) → Sorted v → Sorted (longer s v)
added s v h = record {
  listed = in_order_more v.added 0 s v.listed h.listed;
  oldest = λ x y t i. ⊎_elim
      (λ a. h.oldest x y t a)
      (λ e. let g = h.given x t in let n = ap (λ (z : Waiter). z.ticket) e in omega arith)
      (in_parts y v.listed (waiter s (v.added + 1)) i);
  given = λ x t. let g = h.given x t in omega arith;
}

-- the waits after a wake took out x
abbrev taken : Waiter → List Waiter → Waits → Waits
taken x rest v = record v { listed = rest; owed = v.owed ++ x ∷ [] }

-- whom a wake had taken out before, or x
before_or : (x z : Waiter) (rest : List Waiter) (v : Waits) → WasTaken z (taken x rest v) → WasTaken z v ⊎ (z ≡ x)
before_or x z rest v (inl i) = ⊎_elim (λ a. inl (inl a)) (λ e. inr e) (in_parts z v.owed x i)
before_or x z rest v (inr i) = inl (inr i)

woke : (x : Waiter) (rest : List Waiter) (v : Waits) → v.listed ≡ x ∷ rest → Sorted v → Sorted (taken x rest v)
woke x rest v e h = let o = subst (InOrder v.added 0) e h.listed in record {
  listed = in_order_below v.added 0 x.ticket rest (omega arith) o.1;
  oldest = λ z y t i. ⊎_elim
      (λ a. h.oldest z y a (subst (IsIn y) (sym e) (inr i)))
      (λ q. subst (λ (u : Waiter). u.ticket < y.ticket) (sym q) (above v.added x.ticket rest y o.1 i))
      (before_or x z rest v t);
  given = λ z t. ⊎_elim
      (λ a. h.given z a)
      (λ q. subst (λ (u : Waiter). u.ticket ≤ v.added) (sym q) (top v.added x.ticket rest o.1))
      (before_or x z rest v t);
}

-- the waits after the time of x was over
abbrev without : List Waiter → Waiter → List Waiter → Waits → Waits
without ahead x behind v = record v { listed = ahead ++ behind; timed_out = v.timed_out ++ x ∷ [] }

timed_out : (ahead : List Waiter) (x : Waiter) (behind : List Waiter) (v : Waits) → v.listed ≡ ahead ++ x ∷ behind → Sorted v → Sorted (without ahead x behind v)
timed_out ahead x behind v e h = record {
  listed = in_order_without v.added 0 ahead x behind (subst (InOrder v.added 0) e h.listed);
  oldest = λ z y t i. h.oldest z y t (subst (IsIn y) (sym e) (among y ahead x behind i));
  given = h.given;
}

-- the waits after x returned
abbrev returned : List Waiter → Waiter → List Waiter → Waits → Waits
returned ahead x behind v = record v { owed = ahead ++ behind; woken = v.woken ++ x ∷ [] }

was_taken : (ahead : List Waiter) (x : Waiter) (behind : List Waiter) (v : Waits) (z : Waiter) → v.owed ≡ ahead ++ x ∷ behind → WasTaken z (returned ahead x behind v) → WasTaken z v
was_taken ahead x behind v z e (inl i) = inl (subst (IsIn z) (sym e) (among z ahead x behind i))
was_taken ahead x behind v z e (inr i) = ⊎_elim (λ a. inr a) (λ q. inl (subst (IsIn z) (sym e) (subst (λ (u : Waiter). IsIn u (ahead ++ x ∷ behind)) (sym q) (in_middle x ahead behind)))) (in_parts z v.woken x i)

came_back : (ahead : List Waiter) (x : Waiter) (behind : List Waiter) (v : Waits) → v.owed ≡ ahead ++ x ∷ behind → Sorted v → Sorted (returned ahead x behind v)
came_back ahead x behind v e h = record {
  listed = h.listed;
  oldest = λ z y t i. h.oldest z y (was_taken ahead x behind v z e t) i;
  given = λ z t. h.given z (was_taken ahead x behind v z e t);
}

step : (e : Event) (v w : Waits) → Happens e v w → Sorted v → Sorted w
step (enlists s) v w h p = subst Sorted (sym h) (added s v p)
step wakes v w h p = subst Sorted (sym h.3) (woke h.0 h.1 v h.2 p)
step finds_none v w h p = subst Sorted (sym h.1) p
step (leaves s) v w h p = subst Sorted (sym h.5) (timed_out h.0 h.1 h.2 v h.4 p)
step (returns s) v w h p = subst Sorted (sym h.5) (came_back h.0 h.1 h.2 v h.4 p)

sorted : (es : List Event) (v w : Waits) → Run es v w → Sorted v → Sorted w
sorted [] v w r p = subst Sorted r p
sorted (e ∷ es) v w r p = sorted es r.0 w r.2 (step e v r.0 r.1 p)

nobody : (x : Waiter) → WasTaken x none_yet → ⊥
nobody x (inl i) = i
nobody x (inr i) = i

at_first : Sorted none_yet
at_first = record { listed = omega arith; oldest = λ x y t i. absurd i; given = λ x t. absurd (nobody x t) }

pub wakes_take_the_oldest : WakesTakeTheOldest
wakes_take_the_oldest = record {
  listed = λ es w r. (sorted es none_yet w r at_first).listed;
  oldest = λ es w x y r t i. (sorted es none_yet w r at_first).oldest x y t i;
}
