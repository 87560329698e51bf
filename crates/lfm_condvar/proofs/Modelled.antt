-- The list of a running condvar changes as that of the model.
use Rattle.std.proofs.Common.{◌≡◌, ◌==◌, ℕ, suc, ◌+◌, ◌<◌, ◌≤◌, Bool, true, false, List, [], ◌∷◌, ◌++◌, map, length, drop, Some, None, Ok, Err, refl, sym, ap, subst, ◌∙◌, arith, if◌then◌else◌}
use Rattle.lfm_model.specs.declared.refusals.Refusal.TheVariants.{Asleep, NotOwner, Nested, DepthFull, Spent, NoSuchSeat, NotWaiting, Busy}
use Rattle.lfm_model.proofs.Sums.{one_same}
use Rattle.lfm_mutex.specs.calls.Sight.{Sight}
use Rattle.lfm_condvar_laws.specs.Condvars.{Condvar, Waiter, is_listed}
use Rattle.lfm_condvar_laws.specs.Events.{enlisted, removed}
use Rattle.lfm_condvar.specs.declared.waiters.Waiter.{Waiter as Listed}
use Rattle.lfm_condvar.specs.declared.waiters.Waiters.{Waiters}
use Rattle.lfm_condvar.specs.Keeping.{Appended, Taken}
use Rattle.lfm_condvar.specs.Lists.{times, waiter}
use Rattle.lfm_condvar.specs.Wakes.{SentEach}
use Rattle.lfm_condvar.specs.Modelled.{as_waiter, as_condvar, removed_times, SentAndRemoved, EnlistsAsTheModel, SendsAsTheModel, SendsAllAsTheModel, ListsGoAsTheModel}
use Rattle.lfm_condvar.proofs.ListFacts.{times_more}

-- Lists

mapped : (xs ys : List Listed) → map as_waiter (xs ++ ys) ≡ map as_waiter xs ++ map as_waiter ys
mapped [] ys = refl
mapped (x ∷ xs) ys = ap (λ (l : List Waiter). as_waiter x ∷ l) (mapped xs ys)

long : (xs : List Listed) → length (map as_waiter xs) ≡ length xs
long [] = refl
long (x ∷ xs) = ap suc (long xs)

same_seats : (xs : List Listed) → map (λ (x : Listed). x.seat) xs ≡ map (λ (w : Waiter). w.seat) (map as_waiter xs)
same_seats [] = refl
same_seats (x ∷ xs) = ap (λ (l : List ℕ). x.seat ∷ l) (same_seats xs)

nothing_more : (xs : List ℕ) → xs ≡ xs ++ []
nothing_more [] = refl
nothing_more (x ∷ xs) = ap (λ (l : List ℕ). x ∷ l) (nothing_more xs)

nobody_more : (xs : List Waiter) → xs ++ [] ≡ xs
nobody_more [] = refl
nobody_more (x ∷ xs) = ap (λ (l : List Waiter). x ∷ l) (nobody_more xs)

-- Which seats are listed

not_here : (b : Bool) (n : ℕ) (c : Bool) → (if b then 1 else 0) + n ≡ 0 → (n ≡ 0 → c ≡ false) → (if b then true else c) ≡ false
not_here true n c h behind = absurd (omega arith)
not_here false n c h behind = behind (omega arith)

here : (b : Bool) (n : ℕ) (c : Bool) → 0 < (if b then 1 else 0) + n → (0 < n → c ≡ true) → (if b then true else c) ≡ true
here true n c h behind = refl
here false n c h behind = behind (omega arith)

not_listed : (s : ℕ) (xs : List Listed) → times s xs ≡ 0 → is_listed s (map as_waiter xs) ≡ false
not_listed s [] none = refl
not_listed s (x ∷ xs) none = not_here (x.seat == s) (times s xs) (is_listed s (map as_waiter xs)) none (not_listed s xs)

listed : (s : ℕ) (xs : List Listed) → 0 < times s xs → is_listed s (map as_waiter xs) ≡ true
listed s [] some = absurd (omega arith)
listed s (x ∷ xs) some = here (x.seat == s) (times s xs) (is_listed s (map as_waiter xs)) some (listed s xs)

-- a seat that was appended to a list in which each is listed once was not listed before
was_new : (by s : ℕ) (v w : Waiters) → Appended by s v w → times s v.list.items ≡ 0
was_new by s v w a = let once = subst (λ (l : List Listed). times s l ≤ 1) a.list (w.once s) in let more = times_more s v.list.items (waiter s w.added) in let own = one_same s s refl in omega arith

-- Enlisted

appended : (by s holder : ℕ) (v w : Waiters) → Appended by s v w → as_condvar holder w ≡ enlisted (as_condvar holder v) s
appended by s holder v w a =
    let list : map as_waiter w.list.items ≡ map as_waiter v.list.items ++ record { seat = s; ticket = v.added + 1 } ∷ [] =
    ap (λ (l : List Listed). map as_waiter l) a.list ∙ (mapped v.list.items (waiter s w.added ∷ []) ∙ ap (λ (k : ℕ). map as_waiter v.list.items ++ record { seat = s; ticket = k } ∷ []) a.added)
    in
    λ i. record { sent = a.sent i; added = a.added i; waiters = list i; holder = holder }

same : (holder : ℕ) (v w : Waiters) → w ≡ v → as_condvar holder w ≡ as_condvar holder v
same holder v w e = ap (as_condvar holder) e

module _ {T : Type 0} where
  enlists : EnlistsAsTheModel T
  enlists user by holder s t v w (Ok ticket) e = (not_listed s.number v.list.items (was_new by s.number v w e.0), appended by s.number holder v w e.0, e.1 ∙ e.0.added)
  enlists user by holder s t v w (Err Busy) e = (listed s.number v.list.items e.2, same holder v w e.3)
  enlists user by holder s t v w (Err Asleep) e = same holder v w e.1
  enlists user by holder s t v w (Err NotOwner) e = same holder v w e.1
  enlists user by holder s t v w (Err Nested) e = same holder v w e.1
  enlists user by holder s t v w (Err DepthFull) e = same holder v w e.1
  enlists user by holder s t v w (Err Spent) e = same holder v w e.1
  enlists user by holder s t v w (Err NoSuchSeat) e = same holder v w e.2
  enlists user by holder s t v w (Err NotWaiting) e = same holder v w e.1

-- Sent

-- The model removes as many waiters as the list lost. By induction on them
removes : (gone : List Waiter) (x y : Condvar) → x.waiters ≡ gone ++ y.waiters → y.sent ≡ x.sent + length gone → y.added ≡ x.added → y.holder ≡ x.holder → y ≡ removed_times (length gone) x
removes [] x y list sent added holder = let s : y.sent ≡ x.sent = omega arith in let l = sym list in λ i. record { sent = s i; added = added i; waiters = l i; holder = holder i }
removes (g ∷ gone) x y list sent added holder = removes gone (removed x) y (ap (λ (l : List Waiter). drop 1 l) list) (omega arith) added holder

taken : (holder : ℕ) (gone : List Listed) (v w : Waiters) → Taken gone v w → as_condvar holder w ≡ removed_times (length (map as_waiter gone)) (as_condvar holder v)
taken holder gone v w a = let n = long gone in let s = a.sent in
    removes (map as_waiter gone) (as_condvar holder v) (as_condvar holder w) (ap (λ (l : List Listed). map as_waiter l) a.list ∙ mapped gone w.list.items) (omega arith) a.added refl

module _ {T : Type 0} where
  none_sent : (holder : ℕ) (s t : Sight T) (v w : Waiters) → t.sends ≡ s.sends → w ≡ v → SentAndRemoved s.sends t.sends [] (as_condvar holder v) (as_condvar holder w)
  none_sent holder s t v w quiet e = (quiet ∙ nothing_more s.sends, sym (ap (λ (x : Waiters). map as_waiter x.list.items) e), same holder v w e)

  some_sent : (holder : ℕ) (gone : List Listed) (s t : Sight T) (v w : Waiters) → SentEach gone s t → Taken gone v w → SentAndRemoved s.sends t.sends (map as_waiter gone) (as_condvar holder v) (as_condvar holder w)
  some_sent holder gone s t v w e a = (
    ap (λ (z : Sight T). z.sends) e ∙ ap (λ (l : List ℕ). s.sends ++ l) (same_seats gone),
    ap (λ (l : List Listed). map as_waiter l) a.list ∙ mapped gone w.list.items,
    taken holder gone v w a,
  )

  sends : SendsAsTheModel T
  sends n holder s t v w (Ok None) e = (none_sent holder s t v w (ap (λ (z : Sight T). z.sends) e.3) e.2, ap (λ (x : Waiters). map as_waiter x.list.items) e.2 ∙ ap (λ (l : List Listed). map as_waiter l) e.1)
  sends n holder s t v w (Ok (Some p)) e = some_sent holder (waiter p.0 p.1 ∷ []) s t v w e.2.3 e.0
  sends n holder s t v w (Err Asleep) e = none_sent holder s t v w (ap (λ (z : Sight T). z.sends) e.2) e.1
  sends n holder s t v w (Err NotWaiting) e = none_sent holder s t v w (ap (λ (z : Sight T). z.sends) e.1.3.3) e.0
  sends n holder s t v w (Err NotOwner) e = absurd e
  sends n holder s t v w (Err Nested) e = absurd e
  sends n holder s t v w (Err DepthFull) e = absurd e
  sends n holder s t v w (Err Spent) e = absurd e
  sends n holder s t v w (Err NoSuchSeat) e = absurd e
  sends n holder s t v w (Err Busy) e = absurd e

  -- a send that is refused adds no send
  refused_after : (holder : ℕ) (gone : List Listed) (s m t : Sight T) (v w : Waiters) → SentEach gone s m → t.sends ≡ m.sends → Taken gone v w → SentAndRemoved s.sends t.sends (map as_waiter gone) (as_condvar holder v) (as_condvar holder w)
  refused_after holder gone s m t v w e quiet a = let b = some_sent holder gone s m v w e a in (quiet ∙ b.0, b.1, b.2)

  sends_all : SendsAllAsTheModel T
  sends_all n holder s t v w (Ok k) e = (map as_waiter v.list.items, some_sent holder v.list.items s t v w e.3 e.2, e.0 ∙ sym (long v.list.items), ap (λ (l : List Listed). map as_waiter l) e.1)
  sends_all n holder s t v w (Err NotWaiting) e = let o = e.4 in
      (map as_waiter e.0, refused_after holder e.0 s e.1 t v w e.3 (ap (λ (z : Sight T). z.sends) o.3.3) e.2, as_waiter o.0, map as_waiter o.1, ap (λ (l : List Listed). map as_waiter l) o.2)
  sends_all n holder s t v w (Err Asleep) e = absurd e
  sends_all n holder s t v w (Err NotOwner) e = absurd e
  sends_all n holder s t v w (Err Nested) e = absurd e
  sends_all n holder s t v w (Err DepthFull) e = absurd e
  sends_all n holder s t v w (Err Spent) e = absurd e
  sends_all n holder s t v w (Err NoSuchSeat) e = absurd e
  sends_all n holder s t v w (Err Busy) e = absurd e

  pub lists_go_as_the_model : ListsGoAsTheModel T
  lists_go_as_the_model = record { enlists = enlists; sends = sends; sends_all = sends_all }
