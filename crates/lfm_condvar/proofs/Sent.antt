-- What holds after waiters were sent, or one of them was not waiting.
use Rattle.std.proofs.Common.{◌≡◌, ℕ, ◌+◌, ◌≤◌, List, [], ◌∷◌, ◌++◌, false, Option, None, Result, Ok, Err, refl, sym, ap, ◌∙◌, subst, arith, length, slice_index, append_assoc, length-append}
use Rattle.std.specs.Prelude.{⊤, map}
use Rattle.lfm_model.specs.declared.refusals.Refusal.{Refusal}
use Rattle.lfm_model.specs.declared.refusals.Refusal.TheVariants.{Asleep, NotOwner, Nested, DepthFull, Spent, NoSuchSeat, NotWaiting, Busy}
use Rattle.lfm_protocol.specs.declared.limits.Limits.{Limits}
use Rattle.lfm_protocol.specs.declared.answers.Answer.{Answer}
use Rattle.lfm_protocol.specs.declared.answers.Call.{Call}
use Rattle.lfm_mutex.specs.calls.Sight.{Sight, Sends}
use Rattle.lfm_mutex.specs.calls.Trails.{MakesCall}
use Rattle.lfm_condvar.specs.declared.waiters.Waiter.{Waiter}
use Rattle.lfm_condvar.specs.declared.waiters.Waiters.{Waiters}
use Rattle.lfm_condvar.specs.Holds.{StepsOfOneHold, HeldOnce}
use Rattle.lfm_condvar.specs.Keeping.{WaitersFollow, Taken}
use Rattle.lfm_condvar.specs.Wakes.{OldestNotWaiting, SendsAll, SendsBy, SendsInTurn, SendsOldest, SentEach, WakeAllEnds, WakeOneEnds}

pub taken_none : (v : Waiters) → Taken [] v v
taken_none v = record { list = refl; sent = omega arith; added = refl; counts = refl; seats = refl; budget = refl }

pub taken_more : (gone : List Waiter) (x : Waiter) (u v w : Waiters) → Taken gone u v → Taken (x ∷ []) v w → Taken (gone ++ x ∷ []) u w
taken_more gone x u v w a b = record {
  list = a.list ∙ (ap (λ (ys : List Waiter). gone ++ ys) b.list ∙ sym (append_assoc gone (x ∷ []) w.list.items));
  sent = (let p = a.sent in let q = b.sent in let l = length-append gone (x ∷ []) in omega arith);
  added = b.added ∙ a.added;
  counts = b.counts ∙ a.counts;
  seats = b.seats ∙ a.seats;
  budget = b.budget ∙ a.budget;
}

-- a change that counts no ticket for any cond seat keeps every count
pub same_count : (v w : Waiters) (k : ℕ) → ((s : ℕ) → WaitersFollow s v w) → slice_index w.counts.items k ≤ slice_index v.counts.items k + 1
same_count v w k f = let same = (f (k + 1)).others k (λ q. omega arith) in omega arith

seats_more : (xs : List Waiter) (x : Waiter) → map (λ (y : Waiter). y.seat) (xs ++ x ∷ []) ≡ map (λ (y : Waiter). y.seat) xs ++ x.seat ∷ []
seats_more [] x = refl
seats_more (y ∷ xs) x = ap (λ zs. y.seat ∷ zs) (seats_more xs x)

append_none : (xs : List Waiter) → xs ++ [] ≡ xs
append_none [] = refl
append_none (x ∷ xs) = ap (λ zs. x ∷ zs) (append_none xs)

no_sends : (xs : List ℕ) → xs ≡ xs ++ []
no_sends [] = refl
no_sends (x ∷ xs) = ap (λ zs. x ∷ zs) (no_sends xs)

module _ {T : Type 0} where
  pub sent_none : (s : Sight T) → SentEach [] s s
  sent_none s = ap (λ (xs : List ℕ). record s { sends = xs }) (no_sends s.sends)

  pub sent_more : (n : ℕ) (gone : List Waiter) (x : Waiter) (s m t : Sight T) → SentEach gone s m → Sends n m x.seat t (Ok tt) → SentEach (gone ++ x ∷ []) s t
  sent_more n gone x s m t a b = let names = seats_more gone x in
      let joined : m.sends ++ x.seat ∷ [] ≡ s.sends ++ map (λ (y : Waiter). y.seat) (gone ++ x ∷ []) = ap (λ (z : Sight T). z.sends ++ x.seat ∷ []) a ∙ (append_assoc s.sends (map (λ (y : Waiter). y.seat) gone) (x.seat ∷ []) ∙ ap (λ ys. s.sends ++ ys) (sym names)) in
      b.3 ∙ (ap (λ (z : Sight T). record z { trail = t.trail; sends = m.sends ++ x.seat ∷ [] }) a ∙ ap (λ (ys : List ℕ). record s { trail = t.trail; sends = ys }) joined)

  pub awake_still : (gone : List Waiter) (s m : Sight T) → s.asleep ≡ false → SentEach gone s m → m.asleep ≡ false
  awake_still gone s m a e = ap (λ (z : Sight T). z.asleep) e ∙ a

  -- all were sent
  pub all_sent : (n k : ℕ) (gone : List Waiter) (s m t : Sight T) (u v w : Waiters) → Taken gone u v → SentEach gone s m → k ≡ length gone → s.asleep ≡ false → SendsOldest n m t v w (Ok None) → SendsAll n s t u w (Ok k)
  all_sent n k gone s m t u v w a b e aw o =
      let whole : u.list.items ≡ gone = a.list ∙ (ap (λ ys. gone ++ ys) o.1 ∙ append_none gone) in
      let q = sym o.2 in (
        e ∙ ap length (sym whole),
        subst (λ (y : Waiters). y.list.items ≡ []) q o.1,
        subst (λ (ys : List Waiter). Taken ys u w) (sym whole) (subst (λ (y : Waiters). Taken gone u y) q a),
        subst (λ (ys : List Waiter). SentEach ys s t) (sym whole) (subst (λ (z : Sight T). SentEach gone s z) (sym o.3) b),
        aw,
      )

  -- some were sent, and the next was not waiting
  pub some_sent : (n : ℕ) (gone : List Waiter) (s m t : Sight T) (u v w : Waiters) (r : Refusal) → Taken gone u v → SentEach gone s m → s.asleep ≡ false → SendsOldest n m t v w (Err r) → SendsAll n s t u w (Err r)
  some_sent n gone s m t u v w Asleep a b aw o = let no = sym (awake_still gone s m aw b) ∙ o.0 in cc
  some_sent n gone s m t u v w NotWaiting a b aw o = let q = sym o.0 in (gone, m, subst (λ (y : Waiters). Taken gone u y) q a, b, subst (λ (y : Waiters). OldestNotWaiting n m t y) q o.1)
  some_sent n gone s m t u v w NotOwner a b aw o = absurd o
  some_sent n gone s m t u v w Nested a b aw o = absurd o
  some_sent n gone s m t u v w DepthFull a b aw o = absurd o
  some_sent n gone s m t u v w Spent a b aw o = absurd o
  some_sent n gone s m t u v w NoSuchSeat a b aw o = absurd o
  some_sent n gone s m t u v w Busy a b aw o = absurd o

  -- Steps

  -- some sends, and then some more
  pub in_turn : (user : Limits) (xs ys : List (ℕ × Sight T)) (s m t : Sight T) → SendsInTurn user s xs m → SendsInTurn user m ys t → SendsInTurn user s (xs ++ ys) t
  in_turn user [] ys s m t a b = subst (λ (z : Sight T). SendsInTurn user z ys t) a b
  in_turn user (x ∷ xs) ys s m t a b = (a.0, a.1, in_turn user xs ys x.1 m t a.2 b)

  -- one send that was refused
  pub refused_by : (A : Type 0) (user : Limits) (x : ℕ) (s t : Sight T) (r : Refusal) → Sends user.seats s x t (Err r)
      → MakesCall user (λ (y : ⊤). Answer.Sent) (Call.SendLock x) s t (Err r) → SendsBy {A = A} user s t (Err r)
  refused_by A user x s t NotWaiting a b = ([], s, x, b.0, refl, b.1)
  refused_by A user x s t Asleep a b = a.1
  refused_by A user x s t NotOwner a b = a.1
  refused_by A user x s t Nested a b = a.1
  refused_by A user x s t DepthFull a b = a.1
  refused_by A user x s t Spent a b = a.1
  refused_by A user x s t NoSuchSeat a b = a.1
  refused_by A user x s t Busy a b = a.1

  -- some sends, and then one that was refused as NotWaiting
  pub some_by : (A B : Type 0) (n : ℕ) (user : Limits) (xs : List (ℕ × Sight T)) (s m t : Sight T) (v w : Waiters) (r : Refusal) → m.asleep ≡ false → SendsOldest n m t v w (Err r) → SendsInTurn user s xs m
      → SendsBy {A = A} user m t (Err r) → SendsBy {A = B} user s t (Err r)
  some_by A B n user xs s m t v w NotWaiting aw o a b = (xs ++ b.0, b.1, b.2, b.3, in_turn user xs b.0 s m b.1 a b.4, b.5)
  some_by A B n user xs s m t v w Asleep aw o a b = let no = sym aw ∙ o.0 in cc
  some_by A B n user xs s m t v w NotOwner aw o a b = absurd o
  some_by A B n user xs s m t v w Nested aw o a b = absurd o
  some_by A B n user xs s m t v w DepthFull aw o a b = absurd o
  some_by A B n user xs s m t v w Spent aw o a b = absurd o
  some_by A B n user xs s m t v w NoSuchSeat aw o a b = absurd o
  some_by A B n user xs s m t v w Busy aw o a b = absurd o

  -- a wake that held the inner mutex
  pub one_ends : (n : ℕ) (own : Limits) (tries : ℕ) (c d : Sight Waiters) (s t : Sight T) (v w : Waiters) (r : Result (Option (ℕ × ℕ)) Refusal) → s.asleep ≡ false → HeldOnce own.budget c d v w → StepsOfOneHold own tries c d → SendsOldest n s t v w r → WakeOneEnds n own tries c d s t r
  one_ends n own tries c d s t v w (Ok p) aw h k o = (v, w, h, o, k)
  one_ends n own tries c d s t v w (Err Asleep) aw h k o = let no = sym aw ∙ o.0 in cc
  one_ends n own tries c d s t v w (Err NotWaiting) aw h k o = (v, w, h, o, k)
  one_ends n own tries c d s t v w (Err NotOwner) aw h k o = absurd o
  one_ends n own tries c d s t v w (Err Nested) aw h k o = absurd o
  one_ends n own tries c d s t v w (Err DepthFull) aw h k o = absurd o
  one_ends n own tries c d s t v w (Err Spent) aw h k o = absurd o
  one_ends n own tries c d s t v w (Err NoSuchSeat) aw h k o = absurd o
  one_ends n own tries c d s t v w (Err Busy) aw h k o = absurd o

  pub all_end : (n : ℕ) (own : Limits) (tries : ℕ) (c d : Sight Waiters) (s t : Sight T) (v w : Waiters) (r : Result ℕ Refusal) → HeldOnce own.budget c d v w → StepsOfOneHold own tries c d → SendsAll n s t v w r → WakeAllEnds n own tries c d s t r
  all_end n own tries c d s t v w (Ok p) h k o = (v, w, h, o, k)
  all_end n own tries c d s t v w (Err NotWaiting) h k o = (v, w, h, o, k)
  all_end n own tries c d s t v w (Err Asleep) h k o = absurd o
  all_end n own tries c d s t v w (Err NotOwner) h k o = absurd o
  all_end n own tries c d s t v w (Err Nested) h k o = absurd o
  all_end n own tries c d s t v w (Err DepthFull) h k o = absurd o
  all_end n own tries c d s t v w (Err Spent) h k o = absurd o
  all_end n own tries c d s t v w (Err NoSuchSeat) h k o = absurd o
  all_end n own tries c d s t v w (Err Busy) h k o = absurd o
