-- One try of a seat that may try, and then a lock if the try failed, make one lock_barging.
use Rattle.std.proofs.Common.{inl, inr, ℕ, ◌<◌, ◌∙◌, [], ◌∷◌, Result, Ok, Err, refl, sym, subst, arith}
use Rattle.std.proofs.lemmas.Bool.{false≢true}
use Rattle.lfm_model.specs.declared.answers.Locked.{Locked}
use Rattle.lfm_model.specs.declared.refusals.Refusal.{Refusal}
use Rattle.lfm_protocol.specs.declared.answers.Answer.{Answer}
use Rattle.lfm_protocol.specs.declared.answers.Call.{Call}
use Rattle.lfm_protocol.specs.declared.limits.Limits.{Limits}
use Rattle.lfm_mutex.specs.calls.Barging.{BargesBy, FailedTry, MayTry, TriesFirst}
use Rattle.lfm_mutex.specs.calls.Sight.{Sight, Locks, LocksWaiting}
use Rattle.lfm_mutex.specs.calls.Trails.{LocksBy, MakesCall}

module _ {T : Type 0} (follows : ℕ → T → T → Type 0) (fits : T → ℕ → Type 0) (l : Limits) where
  abbrev Tried : Sight T → Sight T → Result Locked Refusal → Type 0
  Tried s t r = Locks follows fits l.budget s t r × MakesCall l (λ x. Answer.Locked x) Call.TryLock s t r

  -- By cases on the refusal: a try of a seat that may try is refused only as Busy.
  pub try_failed : (s t : Sight T) (refusal : Refusal) → MayTry l.budget s → Tried s t (Err refusal) → FailedTry l s t
  try_failed s t Refusal.Busy free e = record { same = e.0.3; finds = e.0.4; makes = e.1 }
  try_failed s t Refusal.Asleep free e = absurd (false≢true (sym free.0 ∙ e.0.0))
  try_failed s t Refusal.DepthFull free e = let a = free.1 in let b = e.0.0.1 in absurd (omega arith)
  try_failed s t Refusal.Spent free e = let a = free.2 in let b = e.0.0.2 in absurd (omega arith)
  try_failed s t Refusal.NotOwner free e = absurd e.0.0
  try_failed s t Refusal.Nested free e = absurd e.0.0
  try_failed s t Refusal.NoSuchSeat free e = absurd e.0.0
  try_failed s t Refusal.NotWaiting free e = absurd e.0.0

  -- a try that succeeded
  pub try_barges : (n : ℕ) (s t : Sight T) (locked : Locked) → 0 < n → MayTry l.budget s → Tried s t (Ok locked) → BargesBy l n s t (Ok locked)
  try_barges n s t (Locked.Held how) some free e = inl ([], s, some, refl, e.1)
  try_barges n s t (Locked.Again d) some free e = let a = free.1 in let b = e.0.1 in absurd (omega arith)

  -- By cases on the refusal: a lock of a seat that may try is not refused.
  lock_refused : (s t : Sight T) (refusal : Refusal) → MayTry l.budget s → LocksWaiting follows fits l.budget s t (Err refusal) → ⊥
  lock_refused s t Refusal.Asleep free e = false≢true (sym free.0 ∙ e.0)
  lock_refused s t Refusal.DepthFull free e = let a = free.1 in let b = e.0.1 in omega arith
  lock_refused s t Refusal.Spent free e = let a = free.2 in let b = e.0.2 in omega arith
  lock_refused s t Refusal.NotOwner free e = e.0
  lock_refused s t Refusal.Nested free e = e.0
  lock_refused s t Refusal.NoSuchSeat free e = e.0
  lock_refused s t Refusal.NotWaiting free e = e.0
  lock_refused s t Refusal.Busy free e = e.0

  may_still_try : (s m : Sight T) → FailedTry l s m → MayTry l.budget s → MayTry l.budget m
  may_still_try s m failed free = subst (λ (z : Sight T). MayTry l.budget z) (sym failed.same) free

  -- a failed try, and then a lock
  pub lock_barges : (n : ℕ) (s m t : Sight T) (r : Result Locked Refusal) → 0 < n → MayTry l.budget s → FailedTry l s m → LocksWaiting follows fits l.budget m t r → LocksBy l m t r → BargesBy l n s t r
  lock_barges n s m t (Ok (Locked.Held how)) some free failed e made = inr (m, (m ∷ [], omega arith, (failed, refl)), made)
  lock_barges n s m t (Ok (Locked.Again d)) some free failed e made = let a = (may_still_try s m failed free).1 in let b = e.1 in absurd (omega arith)
  lock_barges n s m t (Err refusal) some free failed e made = absurd (lock_refused m t refusal (may_still_try s m failed free) e)

  lock_alone : (n : ℕ) (m t : Sight T) (r : Result Locked Refusal) → LocksBy l m t r → BargesBy l n m t r
  lock_alone n m t (Ok (Locked.Held how)) made = inr (m, ([], omega arith, refl), made)
  lock_alone n m t (Ok (Locked.Again d)) made = made
  lock_alone n m t (Err refusal) made = made

  pub tries_first : (n : ℕ) (s m t : Sight T) (r : Result Locked Refusal) → FailedTry l s m → LocksBy l m t r → TriesFirst l n s t r
  tries_first n s m t r failed made = inr (m, failed, lock_alone n m t r made)
