-- The seat after failed tries, and how these tries and the steps after them make one lock_barging.
use Rattle.std.proofs.Common.{◌≡◌, inl, inr, ℕ, ◌+◌, ◌≤◌, ◌∙◌, List, [], ◌∷◌, ◌++◌, length-append, Option, Some, None, Result, Ok, Err, refl, sym, ap, subst, arith}
use Rattle.std.proofs.lemmas.Bool.{false≢true}
use Rattle.lfm_model.specs.declared.answers.How.{How}
use Rattle.lfm_model.specs.declared.answers.Locked.{Locked}
use Rattle.lfm_model.specs.declared.refusals.Refusal.{Refusal}
use Rattle.lfm_protocol.specs.declared.answers.Answer.{Answer}
use Rattle.lfm_protocol.specs.declared.answers.Call.{Call}
use Rattle.lfm_protocol.specs.declared.limits.Limits.{Limits}
use Rattle.lfm_mutex.specs.calls.Barging.{BargesBy, FailedTries, GainsIf, MayTry, TriesBy}
use Rattle.lfm_mutex.specs.calls.Sight.{Sight, Gains, Locks, LocksWaiting}
use Rattle.lfm_mutex.specs.calls.Trails.{LocksBy, MakesCall}

module _ {T : Type 0} (l : Limits) where
  -- By induction on the tries: failed tries change only the trail of the seat.
  pub failed_leave : (s : Sight T) (ms : List (Sight T)) (t : Sight T) → FailedTries l s ms t → t ≡ record s { trail = t.trail }
  failed_leave s [] t e = subst (λ (z : Sight T). z ≡ record s { trail = z.trail }) (sym e) refl
  failed_leave s (m ∷ ms) t e = failed_leave m ms t e.1 ∙ ap (λ (z : Sight T). record z { trail = t.trail }) e.0.same

  failed_join : (s : Sight T) (ms : List (Sight T)) (m : Sight T) (ns : List (Sight T)) (t : Sight T) → FailedTries l s ms m → FailedTries l m ns t → FailedTries l s (ms ++ ns) t
  failed_join s [] m ns t e f = subst (λ (z : Sight T). FailedTries l z ns t) e f
  failed_join s (x ∷ ms) m ns t e f = (e.0, failed_join x ms m ns t e.1 f)

  -- failed tries, and then more tries
  pub tries_join : (a b : ℕ) (s m t : Sight T) (r : Option How) → TriesBy l a s m None → TriesBy l b m t r → TriesBy l (a + b) s t r
  tries_join a b s m t None e f =
      let x = e.1 in let y = f.1 in (e.0 ++ f.0, (let h = length-append e.0 f.0 in omega arith), failed_join s e.0 m f.0 t e.2 f.2)
  tries_join a b s m t (Some how) e f =
      let x = e.1 in let y = f.2 in (e.0 ++ f.0, f.1, (let h = length-append e.0 f.0 in omega arith), failed_join s e.0 m f.0 f.1 e.2 f.3, f.4)

  -- tries within a smaller bound are within a larger one
  pub tries_fewer : (a b : ℕ) (s t : Sight T) (r : Option How) → a ≤ b → TriesBy l a s t r → TriesBy l b s t r
  tries_fewer a b s t None few e = let x = e.1 in (e.0, omega arith, e.2)
  tries_fewer a b s t (Some how) few e = let x = e.2 in (e.0, e.1, omega arith, e.3, e.4)

  pub no_tries : (n : ℕ) (s : Sight T) → TriesBy l n s s None
  no_tries n s = ([], omega arith, refl)

  -- after failed tries only the seat's trail has changed, so the seat may try again
  pub tries_leave : (n : ℕ) (s t : Sight T) → TriesBy l n s t None → t ≡ record s { trail = t.trail }
  tries_leave n s t e = failed_leave s e.0 t e.2

  pub still_may_try : (n : ℕ) (s t : Sight T) → TriesBy l n s t None → MayTry l.budget s → MayTry l.budget t
  still_may_try n s t e free = subst (λ (z : Sight T). MayTry l.budget z) (sym (tries_leave n s t e)) free

module _ {T : Type 0} (follows : ℕ → T → T → Type 0) (fits : T → ℕ → Type 0) (l : Limits) where
  -- an acquisition by a try after failed tries is one from the seat before these tries
  pub gains_after : (n : ℕ) (s m t : Sight T) (r : Option How) → TriesBy l n s m None → GainsIf follows fits l.budget m t r → GainsIf follows fits l.budget s t r
  gains_after n s m t None e g = tt
  gains_after n s m t (Some how) e g = subst (λ (z : Sight T). Gains follows fits l.budget how z t) (tries_leave l n s m e) g

  -- By cases on the refusal: a try of a seat that may try is refused only as Busy.
  pub try_failed : (s t : Sight T) (refusal : Refusal) → MayTry l.budget s → Locks follows fits l.budget s t (Err refusal) → MakesCall l (λ x. Answer.Locked x) Call.TryLock s t (Err refusal) → TriesBy l 1 s t None
  try_failed s t Refusal.Busy free e made = (t ∷ [], omega arith, (record { same = e.3; finds = e.4; makes = made }, refl))
  try_failed s t Refusal.Asleep free e made = absurd (false≢true (sym free.0 ∙ e.0))
  try_failed s t Refusal.DepthFull free e made = let a = free.1 in let b = e.0.1 in absurd (omega arith)
  try_failed s t Refusal.Spent free e made = let a = free.2 in let b = e.0.2 in absurd (omega arith)
  try_failed s t Refusal.NotOwner free e made = absurd e.0
  try_failed s t Refusal.Nested free e made = absurd e.0
  try_failed s t Refusal.NoSuchSeat free e made = absurd e.0
  try_failed s t Refusal.NotWaiting free e made = absurd e.0

  -- By cases on the refusal: a lock of a seat that may try is not refused.
  lock_refused : (s t : Sight T) (refusal : Refusal) → MayTry l.budget s → LocksWaiting follows fits l.budget s t (Err refusal) → ⊥
  lock_refused s t Refusal.Asleep free e = false≢true (sym free.0 ∙ e.0)
  lock_refused s t Refusal.DepthFull free e = let a = free.1 in let b = e.0.1 in omega arith
  lock_refused s t Refusal.Spent free e = let a = free.2 in let b = e.0.2 in omega arith
  lock_refused s t Refusal.NotOwner free e = e.0
  lock_refused s t Refusal.Nested free e = e.0
  lock_refused s t Refusal.NoSuchSeat free e = e.0
  lock_refused s t Refusal.NotWaiting free e = e.0
  lock_refused s t Refusal.Busy free e = e.0

  -- failed tries, and then a lock
  pub locks_after : (n : ℕ) (s m t : Sight T) (r : Result Locked Refusal) → MayTry l.budget s → TriesBy l n s m None → LocksWaiting follows fits l.budget m t r → LocksWaiting follows fits l.budget s t r
  locks_after n s m t (Ok (Locked.Held how)) free e g = subst (λ (z : Sight T). Gains follows fits l.budget how z t) (tries_leave l n s m e) g
  locks_after n s m t (Ok (Locked.Again d)) free e g = let a = (still_may_try l n s m e free).1 in let b = g.1 in absurd (omega arith)
  locks_after n s m t (Err refusal) free e g = absurd (lock_refused m t refusal (still_may_try l n s m e free) g)

  pub barges_after : (n : ℕ) (s m t : Sight T) (r : Result Locked Refusal) → MayTry l.budget s → TriesBy l n s m None → LocksWaiting follows fits l.budget m t r → LocksBy l m t r → BargesBy l n s t r
  barges_after n s m t (Ok (Locked.Held how)) free e g made = inr (m, e, made)
  barges_after n s m t (Ok (Locked.Again d)) free e g made = let a = (still_may_try l n s m e free).1 in let b = g.1 in absurd (omega arith)
  barges_after n s m t (Err refusal) free e g made = absurd (lock_refused m t refusal (still_may_try l n s m e free) g)

  -- failed tries, and then a lock_barging
  pub barges_on : (a b n : ℕ) (s m t : Sight T) (r : Result Locked Refusal) → MayTry l.budget s → a + b ≤ n → TriesBy l a s m None → LocksWaiting follows fits l.budget m t r → BargesBy l b m t r → BargesBy l n s t r
  barges_on a b n s m t (Ok (Locked.Held how)) free few e g (inl held) = inl (tries_fewer l (a + b) n s t (Some how) few (tries_join l a b s m t (Some how) e held))
  barges_on a b n s m t (Ok (Locked.Held how)) free few e g (inr (u, failed, made)) = inr (u, tries_fewer l (a + b) n s u None few (tries_join l a b s m u None e failed), made)
  barges_on a b n s m t (Ok (Locked.Again d)) free few e g made = let x = (still_may_try l a s m e free).1 in let y = g.1 in absurd (omega arith)
  barges_on a b n s m t (Err refusal) free few e g made = absurd (lock_refused m t refusal (still_may_try l a s m e free) g)
