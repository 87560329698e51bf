-- How seats change the list: by nothing, by one change after another, by a waiter that is added, by waiters that are woken,
-- and by one whose time is over. What a seat left last and what it finds later are related by such changes of other seats.
use Rattle.std.proofs.Common.{◌≡◌, ◌≢◌, ℕ, zero, suc, ◌+◌, List, [], ◌∷◌, ◌++◌, Option, Some, Result, Ok, Err, None, inl, inr, refl, sym, ◌∙◌, ap, subst, arith, append_assoc, append-nil, length, length-append, take, drop}
use mathlib.Core.Option.{some, some-injective, some-ne-none}
use lib.ListN.{get_elem?}
use Rattle.lfm_mutex.specs.Reach.{Leads, Reached}
use Rattle.lfm_plain_condvar.specs.declared.parkers.Waker.{Waker}
use Rattle.lfm_plain_condvar.specs.declared.waiters.Enlisted.{Enlisted}
use Rattle.lfm_plain_condvar.specs.declared.waiters.Waiter.{Waiter}
use Rattle.lfm_plain_condvar.specs.declared.waiters.Waiters.{Waiters}
use Rattle.lfm_plain_condvar.specs.Keeping.{Adds, GoesOn, Leaves, Puts, Since, TakesFirst, TakesMaybe, TakesOut, WaitersFollow}
use Rattle.lfm_plain_condvar.specs.Lists.{AllBy, Divides, GoOnFrom}

-- Lists

-- tickets that go on from those of a list
pub go_on_join : (k n : ℕ) (ws xs : List Waiter) → GoOnFrom k ws → n ≡ k + length ws → GoOnFrom n xs → GoOnFrom k (ws ++ xs)
go_on_join k n [] xs g e h = subst (λ (j : ℕ). GoOnFrom j xs) (omega arith) h
go_on_join k n (w ∷ ws) xs g e h = (g.0, go_on_join (k + 1) n ws xs g.1 (omega arith) h)

pub all_join : (by : ℕ → Type 0) (xs ys : List Waiter) → AllBy by xs → AllBy by ys → AllBy by (xs ++ ys)
all_join by [] ys a b = b
all_join by (x ∷ xs) ys a b = (a.0, all_join by xs ys a.1 b)

pub all_widened : (by more : ℕ → Type 0) → ((k : ℕ) → by k → more k) → (xs : List Waiter) → AllBy by xs → AllBy more xs
all_widened by more f [] a = tt
all_widened by more f (x ∷ xs) a = (f x.waker.number a.0, all_widened by more f xs a.1)

-- Divisions of a list

pub all_stay : (xs : List Waiter) → Divides xs xs []
all_stay [] = (refl, refl)
all_stay (x ∷ xs) = inl (xs, refl, all_stay xs)

-- these stay, and so do those behind the list
stay_behind : (xs ys ls zs : List Waiter) → Divides xs ys ls → Divides (xs ++ zs) (ys ++ zs) ls
stay_behind [] ys ls zs d = subst (λ (l : List Waiter). Divides zs (ys ++ zs) l) (sym d.1) (subst (λ (y : List Waiter). Divides zs (y ++ zs) []) (sym d.0) (all_stay zs))
stay_behind (x ∷ xs) ys ls zs (inl d) = inl (d.0 ++ zs, ap (λ (l : List Waiter). l ++ zs) d.1, stay_behind xs d.0 ls zs d.2)
stay_behind (x ∷ xs) ys ls zs (inr d) = inr (d.0, d.1, stay_behind xs ys d.0 zs d.2)

-- these stay, and so do those ahead of the list
stay_ahead : (zs xs ys ls : List Waiter) → Divides xs ys ls → Divides (zs ++ xs) (zs ++ ys) ls
stay_ahead [] xs ys ls d = d
stay_ahead (z ∷ zs) xs ys ls d = inl (zs ++ ys, refl, stay_ahead zs xs ys ls d)

-- the one at this index leaves
one_leaves : (xs : List Waiter) (i : ℕ) (x : Waiter) → get_elem? xs i ≡ some x → Divides xs (take i xs ++ drop (suc i) xs) (x ∷ [])
one_leaves [] i x e = absurd (some-ne-none x (sym e))
one_leaves (y ∷ xs) zero x e = inr ([], ap (λ (w : Waiter). w ∷ []) (sym (some-injective y x e)), all_stay xs)
one_leaves (y ∷ xs) (suc i) x e = inl (take i xs ++ drop (suc i) xs, refl, one_leaves xs i x e)

-- First some leave, and later some of those that stayed
record Leave (by : ℕ → Type 0) (xs ys first later : List Waiter) : Type 0 where
  pub all : List Waiter
  pub divides : Divides xs ys all
  pub counted : length all ≡ length first + length later
  pub whose : AllBy by first → AllBy by later → AllBy by all

-- x stays at first, and some of those behind it leave; later it stays or leaves
stays_first : (by : ℕ → Type 0) (x : Waiter) (xs ms ys first later : List Waiter) → ((zs ls : List Waiter) → Divides ms zs ls → Leave by xs zs first ls) → Divides (x ∷ ms) ys later → Leave by (x ∷ xs) ys first later
stays_first by x xs ms ys first later behind (inl f) = let r = behind f.0 later f.2 in record { all = r.all; divides = inl (f.0, f.1, r.divides); counted = r.counted; whose = r.whose }
stays_first by x xs ms ys first later behind (inr f) =
    let r = behind ys f.0 f.2 in let n = ap length f.1 in let m = r.counted in
    record { all = x ∷ r.all; divides = inr (r.all, refl, r.divides); counted = omega arith; whose = λ a b. let c = subst (AllBy by) f.1 b in (c.0, r.whose a c.1) }

leave_both : (by : ℕ → Type 0) (xs ms ys first later : List Waiter) → Divides xs ms first → Divides ms ys later → Leave by xs ys first later
leave_both by [] ms ys first later d e =
    let e' : Divides [] ys later = subst (λ (m : List Waiter). Divides m ys later) d.0 e in let n = ap length d.1 in let m = ap length e'.1 in
    record { all = []; divides = (e'.0, refl); counted = omega arith; whose = λ a b. tt }
leave_both by (x ∷ xs) ms ys first later (inl d) e =
    stays_first by x xs d.0 ys first later (λ zs ls f. leave_both by xs d.0 zs first ls d.2 f) (subst (λ (m : List Waiter). Divides m ys later) d.1 e)
leave_both by (x ∷ xs) ms ys first later (inr d) e =
    let r = leave_both by xs ms ys d.0 later d.2 e in let n = ap length d.1 in let m = r.counted in
    record { all = x ∷ r.all; divides = inr (r.all, refl, r.divides); counted = omega arith; whose = λ a b. let c = subst (AllBy by) d.1 a in (c.0, r.whose c.1 b) }

-- Changes of the list

pub goes_on_none : (by : ℕ → Type 0) (v : Waiters) → GoesOn by v v
goes_on_none by v = record {
  same = (refl, refl);
  new = [];
  woken = [];
  left = [];
  tickets = tt;
  places = subst (λ (l : List Waiter). Divides l v.list.items []) (sym (append-nil v.list.items)) (all_stay v.list.items);
  counts = (omega arith, omega arith, omega arith);
  adds_by = tt;
  leaves_by = tt;
}

-- all that waited in u, or were added since, divide into those that left and those that did not
both_places : (by : ℕ → Type 0) (u v w : Waiters) (a : GoesOn by u v) (b : GoesOn by v w) → Leave by (u.list.items ++ (a.new ++ b.new)) ((a.woken ++ b.woken) ++ w.list.items) a.left b.left
both_places by u v w a b =
    let first : Divides ((u.list.items ++ a.new) ++ b.new) ((a.woken ++ v.list.items) ++ b.new) a.left = stay_behind (u.list.items ++ a.new) (a.woken ++ v.list.items) a.left b.new a.places in
    let later : Divides (a.woken ++ (v.list.items ++ b.new)) (a.woken ++ (b.woken ++ w.list.items)) b.left = stay_ahead a.woken (v.list.items ++ b.new) (b.woken ++ w.list.items) b.left b.places in
    leave_both by (u.list.items ++ (a.new ++ b.new)) (a.woken ++ (v.list.items ++ b.new)) ((a.woken ++ b.woken) ++ w.list.items) a.left b.left
    (subst (λ (l : List Waiter). Divides l (a.woken ++ (v.list.items ++ b.new)) a.left) (append_assoc u.list.items a.new b.new) (subst (λ (l : List Waiter). Divides ((u.list.items ++ a.new) ++ b.new) l a.left) (append_assoc a.woken v.list.items b.new) first))
    (subst (λ (l : List Waiter). Divides (a.woken ++ (v.list.items ++ b.new)) l b.left) (sym (append_assoc a.woken b.woken w.list.items)) later)

pub goes_on_more : (by : ℕ → Type 0) (u v w : Waiters) → GoesOn by u v → GoesOn by v w → GoesOn by u w
goes_on_more by u v w a b = let r = both_places by u v w a b in let p = a.counts in let q = b.counts in record {
  same = (b.same.0 ∙ a.same.0, b.same.1 ∙ a.same.1);
  new = a.new ++ b.new;
  woken = a.woken ++ b.woken;
  left = r.all;
  tickets = go_on_join u.added v.added a.new b.new a.tickets a.counts.0 b.tickets;
  places = r.divides;
  counts = (
    (let x = p.0 in let y = q.0 in let n = length-append a.new b.new in omega arith),
    (let x = p.1 in let y = q.1 in let n = length-append a.woken b.woken in omega arith),
    (let x = p.2 in let y = q.2 in let n = r.counted in omega arith),
  );
  adds_by = all_join by a.new b.new a.adds_by b.adds_by;
  leaves_by = r.whose a.leaves_by b.leaves_by;
}

abbrev pub goes_on_widened : (by more : ℕ → Type 0) → ((k : ℕ) → by k → more k) → (v w : Waiters) → GoesOn by v w → GoesOn more v w
goes_on_widened by more f v w g = record {
  same = g.same;
  new = g.new;
  woken = g.woken;
  left = g.left;
  tickets = g.tickets;
  places = g.places;
  counts = g.counts;
  adds_by = all_widened by more f g.new g.adds_by;
  leaves_by = all_widened by more f g.left g.leaves_by;
}

-- the waker was added
pub goes_on_put : (by : ℕ → Type 0) (k : Waker) (ticket : ℕ) (v w : Waiters) → by k.number → Puts k ticket v w → GoesOn by v w
goes_on_put by k ticket v w own p = let x : Waiter = record { waker = k; ticket = ticket } in record {
  same = p.5;
  new = x ∷ [];
  woken = [];
  left = [];
  tickets = (p.1, tt);
  places = subst (λ (l : List Waiter). Divides (v.list.items ++ x ∷ []) l []) (sym p.0) (all_stay (v.list.items ++ x ∷ []));
  counts = ((let a = p.1 in let b = p.2 in omega arith), (let c = p.3 in omega arith), (let d = p.4 in omega arith));
  adds_by = (own, tt);
  leaves_by = tt;
}

-- these were woken
pub goes_on_taken : (by : ℕ → Type 0) (gone : List Waiter) (v w : Waiters) → TakesFirst gone v w → GoesOn by v w
goes_on_taken by gone v w p = record {
  same = p.4;
  new = [];
  woken = gone;
  left = [];
  tickets = tt;
  places = subst (λ (l : List Waiter). Divides l (gone ++ w.list.items) []) (sym (append-nil v.list.items ∙ p.0)) (all_stay (gone ++ w.list.items));
  counts = ((let a = p.1 in omega arith), p.2, (let c = p.3 in omega arith));
  adds_by = tt;
  leaves_by = tt;
}

-- the time of this one was over
pub goes_on_left : (by : ℕ → Type 0) (x : Waiter) (v w : Waiters) → by x.waker.number → TakesOut x v w → GoesOn by v w
goes_on_left by x v w own p = record {
  same = p.6;
  new = [];
  woken = [];
  left = x ∷ [];
  tickets = tt;
  places = subst (λ (l : List Waiter). Divides l w.list.items (x ∷ [])) (sym (append-nil v.list.items)) (subst (λ (l : List Waiter). Divides v.list.items l (x ∷ [])) (sym p.2) (one_leaves v.list.items p.0 x p.1));
  counts = ((let a = p.3 in omega arith), (let b = p.4 in omega arith), p.5);
  adds_by = tt;
  leaves_by = (own, tt);
}

-- Changes in one hold

pub follows_put : (k : Waker) (s : ℕ) (v w : Waiters) (r : Result Enlisted Waker) → k.number ≡ s → Adds k v w r → WaitersFollow s v w
follows_put k s v w (Ok e) own a = goes_on_put (λ n. n ≡ s) k e.ticket v w own a.0
follows_put k s v w (Err back) own a = subst (WaitersFollow s v) (sym a.1) (goes_on_none (λ n. n ≡ s) v)

pub follows_taken : (s : ℕ) (v w : Waiters) (o : Option Waiter) → TakesMaybe v w o → WaitersFollow s v w
follows_taken s v w (Some x) a = goes_on_taken (λ n. n ≡ s) (x ∷ []) v w a.0
follows_taken s v w None a = subst (WaitersFollow s v) (sym a.1) (goes_on_none (λ n. n ≡ s) v)

pub follows_left : (number s ticket : ℕ) (v w : Waiters) (o : Option Waiter) → number ≡ s → Leaves number ticket v w o → WaitersFollow s v w
follows_left number s ticket v w (Some x) own a = goes_on_left (λ n. n ≡ s) x v w (a.0 ∙ own) a.3
follows_left number s ticket v w None own a = subst (WaitersFollow s v) (sym a.1) (goes_on_none (λ n. n ≡ s) v)

-- Changes by other seats

led : (n s : ℕ) (path : List (ℕ × Waiters)) (v w : Waiters) → Leads WaitersFollow n s path v w → Since s v w
led n s [] v w e = subst (Since s v) e (goes_on_none (λ k. k ≢ s) v)
led n s (p ∷ ps) v w h =
    goes_on_more (λ k. k ≢ s) v p.1 w (goes_on_widened (λ k. k ≡ p.0) (λ k. k ≢ s) (λ k is same. h.0.0 (sym is ∙ same)) v p.1 h.1) (led n s ps p.1 w h.2)

pub since_reached : (n s : ℕ) (v w : Waiters) → Reached WaitersFollow n s v w → Since s v w
since_reached n s v w r = led n s r.0 v w r.1
