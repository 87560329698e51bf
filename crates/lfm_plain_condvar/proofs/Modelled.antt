-- The list of a running plain condvar changes as that of the model.
use Rattle.std.proofs.Common.{◌≡◌, ℕ, zero, suc, ◌+◌, List, [], ◌∷◌, ◌++◌, refl, sym, ◌∙◌, ap, arith, drop, length, map, take}
use mathlib.Core.Option.{some, some-injective, some-ne-none}
use lib.ListN.{get_elem?}
use Rattle.lfm_plain_condvar_laws.specs.Events.{Event, Run, enlists, finds_none, leaves, wakes}
use Rattle.lfm_plain_condvar_laws.specs.Laws.{wakes_in}
use Rattle.lfm_plain_condvar_laws.specs.Waits.{Waits, waiter, Waiter as InModel}
use Rattle.lfm_plain_condvar.specs.declared.parkers.Waker.{Waker}
use Rattle.lfm_plain_condvar.specs.declared.waiters.Waiter.{Waiter}
use Rattle.lfm_plain_condvar.specs.declared.waiters.Waiters.{Waiters}
use Rattle.lfm_plain_condvar.specs.Keeping.{Puts, TakesFirst, TakesOut}
use Rattle.lfm_plain_condvar.specs.Modelled.{GoesBy, ListsGoAsTheModel, Shows, as_waiter}

-- Lists

map_join : (xs ys : List Waiter) → map as_waiter (xs ++ ys) ≡ map as_waiter xs ++ map as_waiter ys
map_join [] ys = refl
map_join (x ∷ xs) ys = ap (λ (l : List InModel). as_waiter x ∷ l) (map_join xs ys)

-- the list around the waiter at this index
around : (xs : List Waiter) (i : ℕ) (x : Waiter) → get_elem? xs i ≡ some x → xs ≡ take i xs ++ x ∷ drop (suc i) xs
around [] i x e = absurd (some-ne-none x (sym e))
around (y ∷ xs) zero x e = ap (λ (z : Waiter). z ∷ xs) (some-injective y x e)
around (y ∷ xs) (suc i) x e = ap (λ (l : List Waiter). y ∷ l) (around xs i x e)

-- Changes

adds : (k : Waker) (ticket : ℕ) (v w : Waiters) (m : Waits) → Puts k ticket v w → Shows v m → GoesBy (enlists k.number) m w
adds k ticket v w m p s =
    let x : Waiter = record { waker = k; ticket = ticket } in
    let named : ticket ≡ m.added + 1 = (let a = p.1 in let b = s.0 in omega arith) in
    let list : map as_waiter w.list.items ≡ m.listed ++ waiter k.number (m.added + 1) ∷ [] =
    ap (map as_waiter) p.0 ∙ map_join v.list.items (x ∷ []) ∙ ap (λ (l : List InModel). l ++ as_waiter x ∷ []) (sym s.1) ∙ ap (λ (t : ℕ). m.listed ++ waiter k.number t ∷ []) named in
    (record m { added = m.added + 1; listed = m.listed ++ waiter k.number (m.added + 1) ∷ [] }, refl, ((let a = p.1 in let b = p.2 in let c = s.0 in omega arith), sym list))

takes : (x : Waiter) (v w : Waiters) (m : Waits) → TakesFirst (x ∷ []) v w → Shows v m → GoesBy wakes m w
takes x v w m p s =
    let list : m.listed ≡ as_waiter x ∷ map as_waiter w.list.items = s.1 ∙ ap (map as_waiter) p.0 in
    (record m { listed = map as_waiter w.list.items; owed = m.owed ++ as_waiter x ∷ [] }, (as_waiter x, map as_waiter w.list.items, list, refl), (s.0 ∙ sym p.1, refl))

none : (v : Waiters) (m : Waits) → v.list.items ≡ [] → Shows v m → GoesBy finds_none m v
none v m e s = (m, (s.1 ∙ ap (map as_waiter) e, refl), s)

takes_out : (x : Waiter) (v w : Waiters) (m : Waits) → TakesOut x v w → Shows v m → GoesBy (leaves x.waker.number) m w
takes_out x v w m p s =
    let ahead = take p.0 v.list.items in let behind = drop (suc p.0) v.list.items in
    let list : m.listed ≡ map as_waiter ahead ++ as_waiter x ∷ map as_waiter behind = s.1 ∙ ap (map as_waiter) (around v.list.items p.0 x p.1) ∙ map_join ahead (x ∷ behind) in
    let left : map as_waiter w.list.items ≡ map as_waiter ahead ++ map as_waiter behind = ap (map as_waiter) p.2 ∙ map_join ahead behind in
    (record m { listed = map as_waiter ahead ++ map as_waiter behind; timed_out = m.timed_out ++ as_waiter x ∷ [] }, (map as_waiter ahead, as_waiter x, map as_waiter behind, refl, list, refl), (s.0 ∙ sym p.3, sym left))

-- these are taken one after another
all_taken : (gone rest : List Waiter) (m : Waits) → m.listed ≡ map as_waiter gone ++ map as_waiter rest
    → (es : List Event) × (wakes_in es ≡ length gone) × (n : Waits) × Run es m n × (n.added ≡ m.added) × (n.listed ≡ map as_waiter rest)
all_taken [] rest m e = ([], refl, m, refl, refl, e)
all_taken (x ∷ gone) rest m e =
    let u : Waits = record m { listed = map as_waiter gone ++ map as_waiter rest; owed = m.owed ++ as_waiter x ∷ [] } in
    let r = all_taken gone rest u refl in let c = r.1 in
    (wakes ∷ r.0, omega arith, r.2, (u, (as_waiter x, map as_waiter gone ++ map as_waiter rest, e, refl), r.3), r.4, r.5)

takes_all : (gone : List Waiter) (v w : Waiters) (m : Waits) → TakesFirst gone v w → Shows v m
    → (es : List Event) × (wakes_in es ≡ length gone) × (n : Waits) × Run es m n × Shows w n
takes_all gone v w m p s =
    let r = all_taken gone w.list.items m (s.1 ∙ ap (map as_waiter) p.0 ∙ map_join gone w.list.items) in
    (r.0, r.1, r.2, r.3, (r.4 ∙ s.0 ∙ sym p.1, r.5))

pub plain_lists_go_as_the_model : ListsGoAsTheModel
plain_lists_go_as_the_model = record { adds = adds; takes = takes; finds_none = none; takes_out = takes_out; takes_all = takes_all }
