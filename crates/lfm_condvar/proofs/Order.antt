-- Waiters leave the list in the order of their tickets. A ticket is a place: of the waiter at place i of a list it is sent + i +
-- 1, and places are the same in the old list with the new waiters behind it and in those that left followed by the later list.
use Rattle.std.proofs.Common.{◌≡◌, ℕ, zero, suc, ◌+◌, ◌<◌, ◌≤◌, List, [], ◌∷◌, ◌++◌, All, refl, sym, ◌∙◌, ap, subst, arith, ◌⊎◌, ⊎_elim, inl, inr, append_assoc, length, length-append, get_or}
use Rattle.lfm_condvar.specs.declared.waiters.Waiter.{Waiter}
use Rattle.lfm_condvar.specs.declared.waiters.Waiters.{Waiters}
use Rattle.lfm_condvar.specs.Keeping.{GoesOnInOrder}
use Rattle.lfm_condvar.specs.Lists.{GoOnFrom, waiter}
use Rattle.lfm_condvar.specs.Order.{ChangedBy, SentInOrder, TicketsKeepTheirSeats, TicketsLeaveInOrder, WaitersAreSentInOrder, WaitersKeepTheirPlaces, WaitsBehind, WakeTakesTheTicket, WasSent}
use Rattle.lfm_condvar.proofs.Followed.{goes_on_more, goes_on_none}
use Rattle.lfm_condvar.proofs.ListFacts.{go_on_join}

-- Lists

-- of a list that is read in two ways, the waiters at the same place are the same
same_place : (xs ys : List Waiter) (x y : Waiter) (behind rest : List Waiter) → xs ++ x ∷ behind ≡ ys ++ y ∷ rest → length xs ≡ length ys → y ≡ x
same_place [] [] x y behind rest e n = cc
same_place [] (b ∷ ys) x y behind rest e n = absurd (omega arith)
same_place (a ∷ xs) [] x y behind rest e n = absurd (omega arith)
same_place (a ∷ xs) (b ∷ ys) x y behind rest e n = same_place xs ys x y behind rest (cc) (omega arith)

-- The first waiters of a list, up to x, are all among `gone`, which come first in it too; or x comes after `gone`
up_to : (gone ahead : List Waiter) (x : Waiter) (rest behind : List Waiter) → gone ++ rest ≡ ahead ++ x ∷ behind
    → ((more : List Waiter) × (gone ≡ ahead ++ x ∷ more)) ⊎ ((still : List Waiter) × (ahead ≡ gone ++ still) × (rest ≡ still ++ x ∷ behind))
up_to [] ahead x rest behind e = inr (ahead, refl, e)
up_to (g ∷ gone) [] x rest behind e = inl (gone, cc)
up_to (g ∷ gone) (a ∷ ahead) x rest behind e = ⊎_elim (λ u. inl (u.0, let h = u.1 in cc)) (λ u. inr (u.0, (let h = u.1 in cc), u.2)) (up_to gone ahead x rest behind (cc))

-- Tickets

first_go_on : (k : ℕ) (xs ys : List Waiter) → GoOnFrom k (xs ++ ys) → GoOnFrom k xs
first_go_on k [] ys g = tt
first_go_on k (x ∷ xs) ys g = (g.0, first_go_on (k + 1) xs ys g.1)

ticket_behind : (k : ℕ) (ahead : List Waiter) (x : Waiter) (behind : List Waiter) → GoOnFrom k (ahead ++ x ∷ behind) → x.ticket ≡ k + length ahead + 1
ticket_behind k [] x behind g = let e = g.0 in omega arith
ticket_behind k (a ∷ ahead) x behind g = let e = ticket_behind (k + 1) ahead x behind g.1 in omega arith

ticket_at : (k : ℕ) (xs : List Waiter) (i : ℕ) (d : Waiter) → GoOnFrom k xs → i < length xs → (get_or xs i d).ticket ≡ k + i + 1
ticket_at k [] i d g h = absurd (omega arith)
ticket_at k (x ∷ xs) zero d g h = let e = g.0 in omega arith
ticket_at k (x ∷ xs) (suc i) d g h = let e = ticket_at (k + 1) xs i d g.1 (omega arith) in omega arith

all_sent : (w : Waiters) (k : ℕ) (xs : List Waiter) → GoOnFrom k xs → k + length xs ≤ w.sent → All (WasSent w) xs
all_sent w k xs g h i d below = let e = ticket_at k xs i d g below in omega arith

-- the tickets of a waiter of the list
its_ticket : (v : Waiters) (ahead : List Waiter) (x : Waiter) → WaitsBehind ahead x v → x.ticket ≡ v.sent + length ahead + 1
its_ticket v ahead x b = ticket_behind v.sent ahead x b.0 (subst (GoOnFrom v.sent) b.1 v.tickets)

-- the tickets of the old list and of the new waiters behind it go on from those that were sent before
all_go_on : (v w : Waiters) (g : GoesOnInOrder v w) → GoOnFrom v.sent (v.list.items ++ g.new)
all_go_on v w g = go_on_join v.sent v.added v.list.items g.new v.tickets (let l = v.length in let o = v.list.ok in omega arith) g.tickets

gone_go_on : (v w : Waiters) (g : GoesOnInOrder v w) → GoOnFrom v.sent g.gone
gone_go_on v w g = first_go_on v.sent g.gone w.list.items (subst (GoOnFrom v.sent) g.list (all_go_on v w g))

-- the waiter in the list with the new waiters behind it
placed : (v w : Waiters) (g : GoesOnInOrder v w) (ahead : List Waiter) (x : Waiter) (b : WaitsBehind ahead x v) → v.list.items ++ g.new ≡ ahead ++ x ∷ (b.0 ++ g.new)
placed v w g ahead x b = ap (λ (l : List Waiter). l ++ g.new) b.1 ∙ append_assoc ahead (x ∷ b.0) g.new

-- The law

seats : (v w : Waiters) → GoesOnInOrder v w → TicketsKeepTheirSeats v w
seats v w g before ahead x y b c same = let p = its_ticket v before x b in let q = its_ticket w ahead y c in let s = g.sent in let l = length-append g.gone ahead in
    let one : before ++ x ∷ (b.0 ++ g.new) ≡ (g.gone ++ ahead) ++ y ∷ c.0 = sym (placed v w g before x b) ∙ (g.list ∙ (ap (λ (r : List Waiter). g.gone ++ r) c.1 ∙ sym (append_assoc g.gone ahead (y ∷ c.0)))) in
    ap (λ (z : Waiter). z.seat) (same_place before (g.gone ++ ahead) x y (b.0 ++ g.new) c.0 one (omega arith))

places : (v w : Waiters) → GoesOnInOrder v w → WaitersKeepTheirPlaces v w
places v w g ahead x b = let tickets = gone_go_on v w g in let s = g.sent in ⊎_elim
    (λ u. inl (let h : g.gone ≡ (ahead ++ x ∷ []) ++ u.0 = u.1 ∙ sym (append_assoc ahead (x ∷ []) u.0) in let n = length-append (ahead ++ x ∷ []) u.0 in let m = ap length h in
    all_sent w v.sent (ahead ++ x ∷ []) (first_go_on v.sent (ahead ++ x ∷ []) u.0 (subst (GoOnFrom v.sent) h tickets)) (omega arith)))
    (λ u. inr (g.gone, u.0, u.1, all_sent w v.sent g.gone tickets (omega arith), s, (b.0 ++ g.new, u.2)))
    (up_to g.gone ahead x w.list.items (b.0 ++ g.new) (sym g.list ∙ placed v w g ahead x b))

leaving : (v w : Waiters) → GoesOnInOrder v w → TicketsLeaveInOrder v w
leaving v w g = (g.gone, g.new, g.list, gone_go_on v w g, g.sent, g.tickets)

in_order : (v w : Waiters) → GoesOnInOrder v w → SentInOrder v w
in_order v w g = record { seats = seats v w g; places = places v w g; leaving = leaving v w g }

changed : (path : List (ℕ × Waiters)) (v w : Waiters) → ChangedBy path v w → GoesOnInOrder v w
changed [] v w e = subst (GoesOnInOrder v) e (goes_on_none v)
changed (p ∷ ps) v w h = goes_on_more v p.1 w h.0.order (changed ps p.1 w h.1)

-- the ticket of a wait is taken off with the seat that waited
taken_off : (user seat : ℕ) (v w : Waiters) → GoesOnInOrder v w → WakeTakesTheTicket user seat v w → seat ≡ user
taken_off user seat v w g h = seats v w g h.1.list.items [] (waiter user v.added) (waiter seat v.added) ([], h.2.list) (h.3.list.items, h.4.list) refl

pub waiters_are_sent_in_order : WaitersAreSentInOrder
waiters_are_sent_in_order = record {
  later = λ path v w h. in_order v w (changed path v w h);
  found = λ s v w h. in_order v w h.order;
  wakes = λ path user seat v w h. taken_off user seat v w (changed path v w h);
}
