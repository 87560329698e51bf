-- Waiters that are taken off the list one after another, for a wake of all.
use Rattle.std.proofs.Common.{◌≡◌, ℕ, List, [], ◌∷◌, ◌++◌, refl, sym, ◌∙◌, ap, arith, append_assoc, length-append}
use Rattle.lfm_plain_condvar.specs.declared.waiters.Waiter.{Waiter}
use Rattle.lfm_plain_condvar.specs.declared.waiters.Waiters.{Waiters}
use Rattle.lfm_plain_condvar.specs.Belongs.{numbers_of}
use Rattle.lfm_plain_condvar.specs.Keeping.{TakesFirst}

pub takes_none : (v : Waiters) → TakesFirst [] v v
takes_none v = (refl, refl, omega arith, refl, (refl, refl))

pub takes_more : (gone : List Waiter) (x : Waiter) (u v w : Waiters) → TakesFirst gone u v → TakesFirst (x ∷ []) v w → TakesFirst (gone ++ x ∷ []) u w
takes_more gone x u v w a b = (
  a.0 ∙ (ap (λ (l : List Waiter). gone ++ l) b.0 ∙ sym (append_assoc gone (x ∷ []) w.list.items)),
  b.1 ∙ a.1,
  (let p = a.2 in let q = b.2 in let l = length-append gone (x ∷ []) in omega arith),
  b.3 ∙ a.3,
  (b.4.0 ∙ a.4.0, b.4.1 ∙ a.4.1),
)

numbers_more : (gone : List Waiter) (x : Waiter) → numbers_of (gone ++ x ∷ []) ≡ numbers_of gone ++ x.waker.number ∷ []
numbers_more [] x = refl
numbers_more (y ∷ gone) x = ap (λ (l : List ℕ). y.waker.number ∷ l) (numbers_more gone x)

-- one more was notified
pub told_more : (gone : List Waiter) (x : Waiter) (first before after : List ℕ) → before ≡ first ++ numbers_of gone → after ≡ before ++ x.waker.number ∷ [] → after ≡ first ++ numbers_of (gone ++ x ∷ [])
told_more gone x first before after a b = b ∙ (ap (λ (l : List ℕ). l ++ x.waker.number ∷ []) a ∙ (append_assoc first (numbers_of gone) (x.waker.number ∷ []) ∙ ap (λ (l : List ℕ). first ++ l) (sym (numbers_more gone x))))
