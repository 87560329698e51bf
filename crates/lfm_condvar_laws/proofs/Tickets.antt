-- Lists of waiters whose tickets are consecutive: their length, their first and their last waiter, and the seats with one
-- ticket.
use Rattle.std.proofs.Common.{◌≡◌, ◌≢◌, ℕ, zero, suc, Bool, true, false, ◌+◌, ◌<◌, ◌≤◌, List, [], ◌∷◌, ◌++◌, length, map, get_or, nat_eq, refl, sym, ap, ◌∙◌, inl, inr, arith, if◌then◌else◌}
use Rattle.std.proofs.lemmas.Bool.{cases_eq, eq-eqb, ne_eqb}
use Rattle.std.specs.List.{range_with_len}
use Rattle.lfm_condvar_laws.specs.Claims.{seats_with}
use Rattle.lfm_condvar_laws.specs.Condvars.{Waiter, is_listed}

-- this number of waiters: their tickets follow `last`, and their seats are given by the function
abbrev pub waiters_of : (ℕ → ℕ) → ℕ → ℕ → List Waiter
waiters_of given last zero = []
waiters_of given last (suc n) = record { seat = given (last + 1); ticket = last + 1 } ∷ waiters_of given (last + 1) n

-- two such lists are the same if the tickets were given to the same seats
pub waiters_agree : (f f' : ℕ → ℕ) (last n : ℕ) → ((ticket : ℕ) → ticket ≤ last + n → f' ticket ≡ f ticket)
    → waiters_of f' last n ≡ waiters_of f last n
waiters_agree f f' last zero same = refl
waiters_agree f f' last (suc n) same =
    let here = same (last + 1) (omega arith) in
    let later = waiters_agree f f' (last + 1) n (λ ticket within. same ticket (omega (arith, within))) in
    rw (here, later) refl

pub length-waiters : (f : ℕ → ℕ) (last n : ℕ) → length (waiters_of f last n) ≡ n
length-waiters f last zero = refl
length-waiters f last (suc n) = ap suc (length-waiters f (last + 1) n)

pub tickets-waiters : (f : ℕ → ℕ) (last n : ℕ) → map (λ x. x.ticket) (waiters_of f last n) ≡ range_with_len (last + 1) n
tickets-waiters f last zero = refl
tickets-waiters f last (suc n) = ap (λ rest. (last + 1) ∷ rest) (tickets-waiters f (last + 1) n)

pub get_or-waiters : (f : ℕ → ℕ) (last n i : ℕ) (d : Waiter) → i < n
    → get_or (waiters_of f last n) i d ≡ record { seat = f (last + i + 1); ticket = last + i + 1 }
get_or-waiters f last zero i d within = absurd (omega arith)
get_or-waiters f last (suc n) zero d within = let here : last + 0 + 1 ≡ last + 1 = omega arith in rw here refl
get_or-waiters f last (suc n) (suc i) d within =
    let there : last + suc i + 1 ≡ last + 1 + i + 1 = omega arith in
    rw there (get_or-waiters f (last + 1) n i d (omega arith))

-- The first waiter

pub record IsOldestWaiter (f : ℕ → ℕ) (last n : ℕ) (oldest : Waiter) : Type 0 where
  pub some : 0 < n
  pub seat : oldest.seat ≡ f (last + 1)
  pub ticket : oldest.ticket ≡ last + 1

pub oldest_waiter : (f : ℕ → ℕ) (last n : ℕ) (oldest : Waiter) (rest : List Waiter) → oldest ∷ rest ≡ waiters_of f last n
    → IsOldestWaiter f last n oldest
oldest_waiter f last zero oldest rest e = cc
oldest_waiter f last (suc n) oldest rest e =
    let same : oldest ≡ record { seat = f (last + 1); ticket = last + 1 } = cc in
    record { some = omega arith; seat = ap (λ x. x.seat) same; ticket = ap (λ x. x.ticket) same }

-- The last waiter

abbrev pub waiter_with : ℕ → ℕ → Waiter
waiter_with s ticket = record { seat = s; ticket = ticket }

pub same_waiter : (s t m n : ℕ) → s ≡ t → m ≡ n → waiter_with s m ≡ waiter_with t n
same_waiter s t m n seats tickets i = record { seat = seats i; ticket = tickets i }

pub waiters_last : (f : ℕ → ℕ) (last n : ℕ)
    → waiters_of f last (suc n) ≡ waiters_of f last n ++ waiter_with (f (last + n + 1)) (last + n + 1) ∷ []
waiters_last f last zero = let here : last + 0 + 1 ≡ last + 1 = omega arith in rw here refl
waiters_last f last (suc n) =
    let there : last + suc n + 1 ≡ last + 1 + n + 1 = omega arith in
    rw there (ap (λ rest. waiter_with (f (last + 1)) (last + 1) ∷ rest) (waiters_last f (last + 1) n))

-- with one more waiter, the list is extended by its seat and ticket
pub one_more : (f : ℕ → ℕ) (last n s ticket : ℕ) → f (last + n + 1) ≡ s → ticket ≡ last + n + 1
    → waiters_of f last (suc n) ≡ waiters_of f last n ++ waiter_with s ticket ∷ []
one_more f last n s ticket given next =
    waiters_last f last n ∙ ap (λ one. waiters_of f last n ++ one ∷ []) (same_waiter _ _ _ _ given (sym next))

-- Seats and tickets

listed_if : (n : ℕ) (s : ℕ) (rest : Bool) → n ≢ s → rest ≡ false → (if nat_eq n s then true else rest) ≡ false
listed_if n s rest other none = rw (ne_eqb n s other) none

pub not_listed : (f : ℕ → ℕ) (last n s : ℕ) → ((ticket : ℕ) → last < ticket → ticket ≤ last + n → f ticket ≢ s)
    → is_listed s (waiters_of f last n) ≡ false
not_listed f last zero s none = refl
not_listed f last (suc n) s none =
    listed_if (f (last + 1)) s _ (none (last + 1) (omega arith) (omega arith))
    (not_listed f (last + 1) n s (λ ticket above within. none ticket (omega (arith, above)) (omega (arith, within))))

-- a ticket that is none of these has no seat among them

pub no_seat_below : (f : ℕ → ℕ) (last n ticket : ℕ) → ticket ≤ last → seats_with ticket (waiters_of f last n) ≡ []
no_seat_below f last zero ticket below = refl
no_seat_below f last (suc n) ticket below =
    rw (ne_eqb (last + 1) ticket (λ e. omega (arith, e, below))) (no_seat_below f (last + 1) n ticket (omega arith))

pub no_seat_above : (f : ℕ → ℕ) (last n ticket : ℕ) → last + n < ticket → seats_with ticket (waiters_of f last n) ≡ []
no_seat_above f last zero ticket above = refl
no_seat_above f last (suc n) ticket above =
    rw (ne_eqb (last + 1) ticket (λ e. omega (arith, e, above))) (no_seat_above f (last + 1) n ticket (omega arith))

-- a ticket that is one of these has exactly the seat that it was given to
pub one_seat : (f : ℕ → ℕ) (last n ticket : ℕ) → last < ticket → ticket ≤ last + n
    → seats_with ticket (waiters_of f last n) ≡ f ticket ∷ []
one_seat f last zero ticket above within = absurd (omega (arith, above, within))
one_seat f last (suc n) ticket above within =
    elim (cases_eq (last + 1) ticket) [
      | inl same ↦ rw (same, eq-eqb ticket ticket refl, no_seat_below f ticket n ticket (omega arith)) refl
      | inr other ↦ rw (ne_eqb (last + 1) ticket other) (one_seat f (last + 1) n ticket (omega (arith, other, above))
          (omega (arith, within)))
    ]
