-- What becomes of tickets. The tickets of a list and of those added since rise. So one waiter has a ticket, and of a list
-- that divides into those that stay and those that leave, no two have the same.
use Rattle.std.proofs.Common.{◌≡◌, ◌≢◌, ℕ, zero, suc, ◌+◌, ◌<◌, ◌≤◌, List, [], ◌∷◌, ◌++◌, refl, sym, ◌∙◌, ap, subst, arith, ◌⊎◌, ⊎_elim, inl, inr, length}
use mathlib.Core.Option.{some, some-injective, some-ne-none}
use lib.ListN.{get_elem?}
use Rattle.lfm_plain_condvar.specs.declared.waiters.Waiter.{Waiter}
use Rattle.lfm_plain_condvar.specs.declared.waiters.Waiters.{Waiters}
use Rattle.lfm_plain_condvar.specs.Keeping.{GoesOn, Since}
use Rattle.lfm_plain_condvar.specs.Lists.{AllBy, Divides, GoOnFrom, InOrder, IsIn}
use Rattle.lfm_plain_condvar.specs.Order.{Changed, ChangedBy, Ends, HasEnded, NoLongerIsWoken, Rise, TicketsKeepTheirPlaces, TimedOutIsNotWoken, Waits}
use Rattle.lfm_plain_condvar.proofs.Followed.{goes_on_more, goes_on_none, goes_on_widened}

-- Who is in a list

in_first : (x : Waiter) (xs ys : List Waiter) → IsIn x xs → IsIn x (xs ++ ys)
in_first x [] ys i = absurd i
in_first x (z ∷ xs) ys (inl e) = inl e
in_first x (z ∷ xs) ys (inr i) = inr (in_first x xs ys i)

in_second : (x : Waiter) (xs ys : List Waiter) → IsIn x ys → IsIn x (xs ++ ys)
in_second x [] ys i = i
in_second x (z ∷ xs) ys i = inr (in_second x xs ys i)

in_either : (x : Waiter) (xs ys : List Waiter) → IsIn x (xs ++ ys) → IsIn x xs ⊎ IsIn x ys
in_either x [] ys i = inr i
in_either x (z ∷ xs) ys (inl e) = inl (inl e)
in_either x (z ∷ xs) ys (inr i) = ⊎_elim (λ a. inl (inr a)) (λ b. inr b) (in_either x xs ys i)

in_at : (xs : List Waiter) (i : ℕ) (x : Waiter) → get_elem? xs i ≡ some x → IsIn x xs
in_at [] i x e = absurd (some-ne-none x (sym e))
in_at (y ∷ xs) zero x e = inl (sym (some-injective y x e))
in_at (y ∷ xs) (suc i) x e = inr (in_at xs i x e)

at_in : (xs : List Waiter) (x : Waiter) → IsIn x xs → (i : ℕ) × (get_elem? xs i ≡ some x)
at_in [] x i = absurd i
at_in (y ∷ xs) x (inl e) = (0, ap some (sym e))
at_in (y ∷ xs) x (inr i) = let r = at_in xs x i in (suc r.0, r.1)

all_in : (by : ℕ → Type 0) (xs : List Waiter) (x : Waiter) → AllBy by xs → IsIn x xs → by x.waker.number
all_in by [] x a i = absurd i
all_in by (y ∷ xs) x a (inl e) = subst (λ (z : Waiter). by z.waker.number) (sym e) a.0
all_in by (y ∷ xs) x a (inr i) = all_in by xs x a.1 i

-- Divisions of a list

either_way : (x : Waiter) (xs ys ls : List Waiter) → Divides xs ys ls → IsIn x xs → IsIn x ys ⊎ IsIn x ls
either_way x [] ys ls d i = absurd i
either_way x (z ∷ xs) ys ls (inl d) (inl e) = inl (subst (IsIn x) (sym d.1) (inl e))
either_way x (z ∷ xs) ys ls (inl d) (inr i) = ⊎_elim (λ a. inl (subst (IsIn x) (sym d.1) (inr a))) (λ b. inr b) (either_way x xs d.0 ls d.2 i)
either_way x (z ∷ xs) ys ls (inr d) (inl e) = inr (subst (IsIn x) (sym d.1) (inl e))
either_way x (z ∷ xs) ys ls (inr d) (inr i) = ⊎_elim (λ a. inl a) (λ b. inr (subst (IsIn x) (sym d.1) (inr b))) (either_way x xs ys d.0 d.2 i)

stayed : (x : Waiter) (xs ys ls : List Waiter) → Divides xs ys ls → IsIn x ys → IsIn x xs
stayed x [] ys ls d i = absurd (subst (IsIn x) d.0 i)
stayed x (z ∷ xs) ys ls (inl d) i = ⊎_elim (λ e. inl e) (λ a. inr (stayed x xs d.0 ls d.2 a)) (subst (IsIn x) d.1 i)
stayed x (z ∷ xs) ys ls (inr d) i = inr (stayed x xs ys d.0 d.2 i)

gone : (x : Waiter) (xs ys ls : List Waiter) → Divides xs ys ls → IsIn x ls → IsIn x xs
gone x [] ys ls d i = absurd (subst (IsIn x) d.1 i)
gone x (z ∷ xs) ys ls (inl d) i = inr (gone x xs d.0 ls d.2 i)
gone x (z ∷ xs) ys ls (inr d) i = ⊎_elim (λ e. inl e) (λ a. inr (gone x xs ys d.0 d.2 a)) (subst (IsIn x) d.1 i)

-- Tickets that rise

rise_below : (j k : ℕ) (xs : List Waiter) → j ≤ k → Rise k xs → Rise j xs
rise_below j k [] h r = tt
rise_below j k (x ∷ xs) h r = let a = r.0 in (omega arith, r.1)

above : (k : ℕ) (xs : List Waiter) (x : Waiter) → Rise k xs → IsIn x xs → k < x.ticket
above k [] x r i = absurd i
above k (y ∷ xs) x r (inl e) = subst (λ (z : Waiter). k < z.ticket) (sym e) r.0
above k (y ∷ xs) x r (inr i) = let a = r.0 in let b = above y.ticket xs x r.1 i in omega arith

one_waiter : (k : ℕ) (xs : List Waiter) (x y : Waiter) → Rise k xs → IsIn x xs → IsIn y xs → y.ticket ≡ x.ticket → y ≡ x
one_waiter k [] x y r i j same = absurd i
one_waiter k (z ∷ xs) x y r (inl e) (inl f) same = f ∙ sym e
one_waiter k (z ∷ xs) x y r (inl e) (inr j) same = let a = above z.ticket xs y r.1 j in let b = ap (λ (q : Waiter). q.ticket) e in absurd (omega arith)
one_waiter k (z ∷ xs) x y r (inr i) (inl f) same = let a = above z.ticket xs x r.1 i in let b = ap (λ (q : Waiter). q.ticket) f in absurd (omega arith)
one_waiter k (z ∷ xs) x y r (inr i) (inr j) same = one_waiter z.ticket xs x y r.1 i j same

rise_first : (k : ℕ) (xs ys : List Waiter) → Rise k (xs ++ ys) → Rise k xs
rise_first k [] ys r = tt
rise_first k (x ∷ xs) ys r = (r.0, rise_first x.ticket xs ys r.1)

rise_across : (k : ℕ) (xs ys : List Waiter) (x y : Waiter) → Rise k (xs ++ ys) → IsIn x xs → IsIn y ys → x.ticket < y.ticket
rise_across k [] ys x y r i j = absurd i
rise_across k (z ∷ xs) ys x y r (inl e) j = let a = above z.ticket (xs ++ ys) y r.1 (in_second y xs ys j) in let b = ap (λ (q : Waiter). q.ticket) e in omega arith
rise_across k (z ∷ xs) ys x y r (inr i) j = rise_across z.ticket xs ys x y r.1 i j

stay_rise : (k : ℕ) (xs ys ls : List Waiter) → Divides xs ys ls → Rise k xs → Rise k ys
stay_rise k [] ys ls d r = subst (Rise k) (sym d.0) tt
stay_rise k (z ∷ xs) ys ls (inl d) r = subst (Rise k) (sym d.1) (r.0, stay_rise z.ticket xs d.0 ls d.2 r.1)
stay_rise k (z ∷ xs) ys ls (inr d) r = let a = r.0 in rise_below k z.ticket ys (omega arith) (stay_rise z.ticket xs ys d.0 d.2 r.1)

leave_rise : (k : ℕ) (xs ys ls : List Waiter) → Divides xs ys ls → Rise k xs → Rise k ls
leave_rise k [] ys ls d r = subst (Rise k) (sym d.1) tt
leave_rise k (z ∷ xs) ys ls (inr d) r = subst (Rise k) (sym d.1) (r.0, leave_rise z.ticket xs ys d.0 d.2 r.1)
leave_rise k (z ∷ xs) ys ls (inl d) r = let a = r.0 in rise_below k z.ticket ls (omega arith) (leave_rise z.ticket xs d.0 ls d.2 r.1)

-- one that stays and one that leaves have different tickets
not_the_same : (k : ℕ) (xs ys ls : List Waiter) (x y : Waiter) → Divides xs ys ls → Rise k xs → IsIn x ys → IsIn y ls → y.ticket ≡ x.ticket → ⊥
not_the_same k [] ys ls x y d r i j same = absurd (subst (IsIn x) d.0 i)
not_the_same k (z ∷ xs) ys ls x y (inl d) r i j same = ⊎_elim
    (λ e. let a = above z.ticket xs y r.1 (gone y xs d.0 ls d.2 j) in let b = ap (λ (q : Waiter). q.ticket) e in omega arith)
    (λ a. not_the_same z.ticket xs d.0 ls x y d.2 r.1 a j same)
    (subst (IsIn x) d.1 i)
not_the_same k (z ∷ xs) ys ls x y (inr d) r i j same = ⊎_elim
    (λ e. let a = above z.ticket xs x r.1 (stayed x xs ys d.0 d.2 i) in let b = ap (λ (q : Waiter). q.ticket) e in omega arith)
    (λ a. not_the_same z.ticket xs ys d.0 x y d.2 r.1 i a same)
    (subst (IsIn y) d.1 j)

go_on_rise : (k n : ℕ) (xs : List Waiter) → k ≤ n → GoOnFrom n xs → Rise k xs
go_on_rise k n [] h g = tt
go_on_rise k n (x ∷ xs) h g = let e = g.0 in (omega arith, go_on_rise x.ticket (n + 1) xs (omega arith) g.1)

-- those of a list and those added behind it
all_rise : (n k : ℕ) (xs ys : List Waiter) → InOrder n k xs → GoOnFrom n ys → Rise k (xs ++ ys)
all_rise n k [] ys o g = go_on_rise k n ys o g
all_rise n k (x ∷ xs) ys o g = (o.0, all_rise n x.ticket xs ys o.1 g)

last_at_most : (n k : ℕ) (xs : List Waiter) → InOrder n k xs → k ≤ n
last_at_most n k [] o = o
last_at_most n k (z ∷ zs) o = let a = o.0 in let b = last_at_most n z.ticket zs o.1 in omega arith

at_most : (n k : ℕ) (xs : List Waiter) (x : Waiter) → InOrder n k xs → IsIn x xs → x.ticket ≤ n
at_most n k [] x o i = absurd i
at_most n k (y ∷ xs) x o (inl e) = let a = last_at_most n y.ticket xs o.1 in let b = ap (λ (q : Waiter). q.ticket) e in omega arith
at_most n k (y ∷ xs) x o (inr i) = at_most n y.ticket xs x o.1 i

new_at_most : (n : ℕ) (xs : List Waiter) (x : Waiter) → GoOnFrom n xs → IsIn x xs → x.ticket ≤ n + length xs
new_at_most n [] x g i = absurd i
new_at_most n (y ∷ xs) x g (inl e) = let a = g.0 in let b = ap (λ (q : Waiter). q.ticket) e in omega arith
new_at_most n (y ∷ xs) x g (inr i) = let a = new_at_most (n + 1) xs x g.1 i in omega arith

-- One list and a later one

abbrev Any : ℕ → Type 0
Any k = Unit {0}

rise : (v w : Waiters) (g : Changed v w) → Rise 0 (v.list.items ++ g.new)
rise v w g = all_rise v.added 0 v.list.items g.new v.tickets g.tickets

-- a ticket of the later list, or one that has ended, is of the old list or new
was_there : (v w : Waiters) (g : Changed v w) (y : Waiter) → Waits y w ⊎ HasEnded v w g y → IsIn y (v.list.items ++ g.new)
was_there v w g y (inl i) = stayed y (v.list.items ++ g.new) (g.woken ++ w.list.items) g.left g.places (in_second y g.woken w.list.items i)
was_there v w g y (inr (inl i)) = stayed y (v.list.items ++ g.new) (g.woken ++ w.list.items) g.left g.places (in_first y g.woken w.list.items i)
was_there v w g y (inr (inr i)) = gone y (v.list.items ++ g.new) (g.woken ++ w.list.items) g.left g.places i

still : (v w : Waiters) (g : Changed v w) (x : Waiter) → Waits x v → Waits x w ⊎ HasEnded v w g x
still v w g x i = ⊎_elim
    (λ a. ⊎_elim (λ b. inr (inl b)) (λ b. inl b) (in_either x g.woken w.list.items a))
    (λ a. inr (inr a))
    (either_way x (v.list.items ++ g.new) (g.woken ++ w.list.items) g.left g.places (in_first x v.list.items g.new i))

ends : (v w : Waiters) (g : Changed v w) → Ends v w g
ends v w g = let all = v.list.items ++ g.new in let stay = g.woken ++ w.list.items in let r = rise v w g in let s = stay_rise 0 all stay g.left g.places r in record {
  still = still v w g;
  keeps = λ x y i j same. one_waiter 0 all x y r (in_first x v.list.items g.new i) (was_there v w g y j) same;
  woken_rise = rise_first 0 g.woken w.list.items s;
  in_order = λ x y i j. rise_across 0 g.woken w.list.items x y s i j;
  left_rise = leave_rise 0 all stay g.left g.places r;
  left_once = λ x y i j same. not_the_same 0 all stay g.left y x g.places r (in_second y g.woken w.list.items j) i (sym same);
  not_both = λ x y i j. not_the_same 0 all stay g.left x y g.places r (in_first x g.woken w.list.items i) j;
}

-- a ticket that has ended is one of those that were given
given : (v w : Waiters) (g : Changed v w) (x : Waiter) → HasEnded v w g x → x.ticket ≤ w.added
given v w g x i = ⊎_elim
    (λ a. let n = at_most v.added 0 v.list.items x v.tickets a in let c = g.counts.0 in omega arith)
    (λ a. let n = new_at_most v.added g.new x g.tickets a in let c = g.counts.0 in omega arith)
    (in_either x v.list.items g.new (was_there v w g x (inr i)))

-- one that ended earlier and one that ended later
one_end : (u v w : Waiters) (g : Changed u v) (h : Changed v w) (x y : Waiter) → HasEnded u v g x → HasEnded v w h y → y.ticket ≡ x.ticket → ⊥
one_end u v w g h x y i j same = ⊎_elim
    (λ a. ⊎_elim
    (λ b. let n = (ends u v g).in_order x y b a in omega arith)
    (λ b. (ends u v g).left_once x y b a same)
    i)
    (λ a. let n = above v.added h.new y (go_on_rise v.added v.added h.new (omega arith) h.tickets) a in let m = given u v g x i in omega arith)
    (in_either y v.list.items h.new (was_there v w h y (inr j)))

woken_later : (u v w : Waiters) (g : Changed u v) (h : Changed v w) (x y : Waiter) → IsIn x g.woken → IsIn y h.woken → x.ticket < y.ticket
woken_later u v w g h x y i j = ⊎_elim
    (λ a. (ends u v g).in_order x y i a)
    (λ a. let n = above v.added h.new y (go_on_rise v.added v.added h.new (omega arith) h.tickets) a in let m = given u v g x (inl i) in omega arith)
    (in_either y v.list.items h.new (was_there v w h y (inr (inl j))))

-- Seats

abbrev any_seat : (by : ℕ → Type 0) (v w : Waiters) → GoesOn by v w → Changed v w
any_seat by v w g = goes_on_widened by Any (λ k i. tt) v w g

changed : (path : List (ℕ × Waiters)) (v w : Waiters) → ChangedBy path v w → Changed v w
changed [] v w e = subst (Changed v) e (goes_on_none Any v)
changed (p ∷ ps) v w h = goes_on_more Any v p.1 w (any_seat (λ k. k ≡ p.0) v p.1 h.0) (changed ps p.1 w h.1)

-- a seat that others didn't wake still waits
own_waits : (s : ℕ) (v w : Waiters) (g : Since s v w) (x : Waiter) → Waits x v → x.waker.number ≡ s → Waits x w ⊎ IsIn x g.woken
own_waits s v w g x i own = ⊎_elim
    (λ a. inl a)
    (λ a. ⊎_elim (λ b. inr b) (λ b. absurd (all_in (λ k. k ≢ s) g.left x g.leaves_by b own)) a)
    (still v w (any_seat (λ k. k ≢ s) v w g) x i)

-- Two holds of a wait

no_longer : NoLongerIsWoken
no_longer own tries ticket c e d l n =
    let v = l.1 in let w = n.0 in let named : e.number ≡ c.number = l.5.0.number in
    let g : Since c.number v w = subst (λ (k : ℕ). Since k v w) named (n.2.0.finds v l.5.0.leaves) in
    let x : Waiter = record { waker = l.2; ticket = ticket } in
    let waits : Waits x v = subst (IsIn x) (sym l.4.0) (in_second x l.0.list.items (x ∷ []) (inl refl)) in (
      v,
      w,
      l.5.0.leaves,
      n.2.0.found,
      g,
      x,
      (l.3, refl),
      waits,
      ⊎_elim
          (λ a. let at = at_in w.list.items x a in absurd (n.1 at.0 x at.1 (l.3 ∙ sym named, refl)))
          (λ a. a)
          (own_waits c.number v w g x waits l.3),
    )

timed_out : TimedOutIsNotWoken
timed_out own tries ticket c e d l n =
    let v = l.1 in let w = n.0 in let named : e.number ≡ c.number = l.5.0.number in
    let g : Since c.number v w = subst (λ (k : ℕ). Since k v w) named (n.6.0.finds v l.5.0.leaves) in
    let found : Waits n.2 w = in_at w.list.items n.5.0 n.2 n.5.1 in
    (v, w, l.5.0.leaves, n.6.0.found, g, λ x i same. let a = (ends v w (any_seat (λ k. k ≢ c.number) v w g)).in_order x n.2 i found in let b = n.4 in omega arith)

-- The law

pub tickets_keep_their_places : TicketsKeepTheirPlaces
tickets_keep_their_places = record {
  later = changed;
  ends = ends;
  once = λ u v w g h. record { once = one_end u v w g h; in_order = woken_later u v w g h };
  own = own_waits;
  no_longer = no_longer;
  timed_out = timed_out;
}
