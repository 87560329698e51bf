-- A call that would acquire the monitor, or a receive, that was refused, and a call that deepened the hold.
use Rattle.std.proofs.Common.{◌≡◌, ℕ, ◌≤◌, Bool, true, false, IsErrAnd, Option, Result, Ok, Err, ⊎_elim, inr, refl, sym, ◌∙◌, subst, arith}
use Rattle.lfm_model.specs.declared.answers.Asked.{Asked}
use Rattle.lfm_model.specs.declared.answers.How.{How}
use Rattle.lfm_model.specs.declared.answers.Locked.{Locked}
use Rattle.lfm_model.specs.declared.refusals.Refusal.{Refusal}
use Rattle.lfm_protocol.specs.declared.answers.Answer.TheVariants as Answered
use Rattle.lfm_protocol.specs.declared.answers.Call.{Call}
use Rattle.lfm_protocol.specs.declared.limits.Limits.{Limits}
use Rattle.lfm_mutex.specs.calls.Sight.{Sight, Asks, Deepens, LockRefused, Locks, LocksWaiting, Receives}
use Rattle.lfm_mutex.specs.calls.Trails.{MakesCall}
use Rattle.lfm_monitor.specs.declared.enter.Locking.{Locking}
use Rattle.lfm_monitor.specs.declared.journaled.Journaled.{Journaled}
use Rattle.lfm_monitor.specs.Journaled.{JournalFits, JournalFollows}
use Rattle.lfm_monitor.specs.Passes.{AskEnds, Began, EnterEnds, EnterRefused, PassKept, ReceiveEnds, TryEnds}
use Rattle.lfm_monitor.specs.Steps.{ByLockingAs, BySteps}
use Rattle.lfm_monitor.proofs.Knowing.{room_left}

awake : (b : Bool) → (b ≡ true → false ≡ true) → b ≡ false
awake true h = sym (h refl)
awake false h = refl

module _ {O A R : Type 0} {K : _} where
  lock_refused : (budget share mine : ℕ) (r : Refusal) (s : Sight (Journaled O A R K)) → budget ≡ share → LockRefused budget s r → EnterRefused share s mine r
  lock_refused budget share mine Refusal.Asleep s is h = h
  lock_refused budget share mine Refusal.NotOwner s is h = absurd h
  lock_refused budget share mine Refusal.Nested s is h = absurd h
  lock_refused budget share mine Refusal.DepthFull s is h = h
  lock_refused budget share mine Refusal.Spent s is h = (h.0, h.1, inr (let e = is in let f = h.2 in omega arith))
  lock_refused budget share mine Refusal.NoSuchSeat s is h = absurd h
  lock_refused budget share mine Refusal.NotWaiting s is h = absurd h
  lock_refused budget share mine Refusal.Busy s is h = absurd h

  pub enter_refused : (budget share mine : ℕ) (q : Result Locked Refusal) (r : Refusal) (s t : Sight (Journaled O A R K)) → budget ≡ share → LocksWaiting JournalFollows JournalFits budget s t (Err r) → IsErrAnd q (λ y. y ≡ r) → EnterEnds share s t mine mine q
  enter_refused budget share mine (Ok u) r s t is h e = absurd e
  enter_refused budget share mine (Err y) r s t is h e = subst (λ (x : Refusal). EnterEnds share s t mine mine (Err x)) (sym e) (lock_refused budget share mine r s is h.0, h.1, refl)

  pub enter_none : (l : Limits) (locking : Locking) (n : ℕ) (r : Refusal) (s t : Sight (Journaled O A R K)) → t ≡ s → ByLockingAs l locking n s t (Err r)
  enter_none l Locking.InOrder n r s t same = same
  enter_none l Locking.Barging n r s t same = same

  pub enter_steps : (l : Limits) (locking : Locking) (n budget : ℕ) (q : Result Locked Refusal) (r : Refusal) (s t : Sight (Journaled O A R K)) → LocksWaiting JournalFollows JournalFits budget s t (Err r) → IsErrAnd q (λ y. y ≡ r) → ByLockingAs l locking n s t q
  enter_steps l locking n budget (Ok u) r s t h e = absurd e
  enter_steps l locking n budget (Err y) r s t h e = enter_none l locking n y s t h.1

  ask_ends : (budget share mine : ℕ) (r : Refusal) (s t : Sight (Journaled O A R K)) → budget ≡ share → Asks JournalFollows JournalFits budget s t (Err r) → AskEnds share s t mine mine (Err r)
  ask_ends budget share mine r s t is h = (lock_refused budget share mine r s is h.0, h.1, refl)

  pub ask_refused : (budget share mine : ℕ) (q : Result Asked Refusal) (r : Refusal) (s t : Sight (Journaled O A R K)) → budget ≡ share → Asks JournalFollows JournalFits budget s t (Err r) → IsErrAnd q (λ y. y ≡ r) → AskEnds share s t mine mine q
  ask_refused budget share mine (Ok u) r s t is h e = absurd e
  ask_refused budget share mine (Err y) r s t is h e = subst (λ (x : Refusal). AskEnds share s t mine mine (Err x)) (sym e) (ask_ends budget share mine r s t is h)

  ask_none : (l : Limits) (budget : ℕ) (r : Refusal) (s t : Sight (Journaled O A R K)) → Asks JournalFollows JournalFits budget s t (Err r) → BySteps l (λ (x : Asked). Answered.Asked x) Call.Lock s t (Err r)
  ask_none l budget Refusal.Asleep s t h = h.1
  ask_none l budget Refusal.NotOwner s t h = h.1
  ask_none l budget Refusal.Nested s t h = h.1
  ask_none l budget Refusal.DepthFull s t h = h.1
  ask_none l budget Refusal.Spent s t h = h.1
  ask_none l budget Refusal.NoSuchSeat s t h = h.1
  ask_none l budget Refusal.NotWaiting s t h = h.1
  ask_none l budget Refusal.Busy s t h = absurd h.0

  pub ask_steps : (l : Limits) (budget : ℕ) (q : Result Asked Refusal) (r : Refusal) (s t : Sight (Journaled O A R K)) → Asks JournalFollows JournalFits budget s t (Err r) → IsErrAnd q (λ y. y ≡ r) → BySteps l (λ (x : Asked). Answered.Asked x) Call.Lock s t q
  ask_steps l budget (Ok u) r s t h e = absurd e
  ask_steps l budget (Err y) r s t h e = subst (λ (x : Refusal). BySteps l (λ (x : Asked). Answered.Asked x) Call.Lock s t (Err x)) (sym e) (ask_none l budget r s t h)

  pub again_began : (opening : O) (seats share d : ℕ) (s t : Sight (Journaled O A R K)) → Deepens s t d → Began opening seats share s → Began opening seats share t
  again_began opening seats share d s t h of = subst (λ (u : Sight (Journaled O A R K)). Began opening seats share u) (sym h.4) of

  pub last_began : (opening : O) (seats share : ℕ) (s t : Sight (Journaled O A R K)) → t.last ≡ s.last → Began opening seats share s → Began opening seats share t
  last_began opening seats share s t same of l at = of l (sym same ∙ at)

  try_ends : (budget share mine : ℕ) (r : Refusal) (s t : Sight (Journaled O A R K)) → budget ≡ share → ((s.asleep ≡ false) × (s.depth ≡ 0) × (share ≤ mine) → false ≡ true) → Locks JournalFollows JournalFits budget s t (Err r) → TryEnds share s t mine mine (Err r)
  try_ends budget share mine Refusal.Asleep s t is bars h = (h.0, h.1, refl)
  try_ends budget share mine Refusal.NotOwner s t is bars h = absurd h.0
  try_ends budget share mine Refusal.Nested s t is bars h = absurd h.0
  try_ends budget share mine Refusal.DepthFull s t is bars h = (h.0, h.1, refl)
  try_ends budget share mine Refusal.Spent s t is bars h = ((h.0.0, h.0.1, inr (let f = h.0.2 in omega arith)), h.1, refl)
  try_ends budget share mine Refusal.NoSuchSeat s t is bars h = absurd h.0
  try_ends budget share mine Refusal.NotWaiting s t is bars h = absurd h.0
  try_ends budget share mine Refusal.Busy s t is bars h = (h.0, h.1, (let f = h.2 in omega arith), room_left share mine (λ q. bars (h.0, h.1, q)), h.3, refl, h.4)

  try_none : (l : Limits) (budget : ℕ) (r : Refusal) (s t : Sight (Journaled O A R K)) → Locks JournalFollows JournalFits budget s t (Err r) → MakesCall l (λ (x : Locked). Answered.Locked x) Call.TryLock s t (Err r) → BySteps l (λ (x : Locked). Answered.Locked x) Call.TryLock s t (Err r)
  try_none l budget Refusal.Asleep s t h m = h.1
  try_none l budget Refusal.NotOwner s t h m = h.1
  try_none l budget Refusal.Nested s t h m = h.1
  try_none l budget Refusal.DepthFull s t h m = h.1
  try_none l budget Refusal.Spent s t h m = h.1
  try_none l budget Refusal.NoSuchSeat s t h m = h.1
  try_none l budget Refusal.NotWaiting s t h m = h.1
  try_none l budget Refusal.Busy s t h m = m

  pub try_enter_refused : (budget share mine : ℕ) (q : Result Locked Refusal) (r : Refusal) (s t : Sight (Journaled O A R K)) → budget ≡ share → ((s.asleep ≡ false) × (s.depth ≡ 0) × (share ≤ mine) → false ≡ true) → Locks JournalFollows JournalFits budget s t (Err r) → IsErrAnd q (λ y. y ≡ r)
      → TryEnds share s t mine mine q
  try_enter_refused budget share mine (Ok u) r s t is bars h e = absurd e
  try_enter_refused budget share mine (Err y) r s t is bars h e = subst (λ (x : Refusal). TryEnds share s t mine mine (Err x)) (sym e) (try_ends budget share mine r s t is bars h)

  pub try_enter_steps : (l : Limits) (budget : ℕ) (q : Result Locked Refusal) (r : Refusal) (s t : Sight (Journaled O A R K)) → Locks JournalFollows JournalFits budget s t (Err r) → MakesCall l (λ (x : Locked). Answered.Locked x) Call.TryLock s t (Err r) → IsErrAnd q (λ y. y ≡ r)
      → BySteps l (λ (x : Locked). Answered.Locked x) Call.TryLock s t q
  try_enter_steps l budget (Ok u) r s t h m e = absurd e
  try_enter_steps l budget (Err y) r s t h m e = subst (λ (x : Refusal). BySteps l (λ (x : Locked). Answered.Locked x) Call.TryLock s t (Err x)) (sym e) (try_none l budget r s t h m)

  receive_ends : (seen mine : ℕ) (r : Refusal) (s t : Sight (Journaled O A R K)) → PassKept s seen mine → Receives JournalFollows JournalFits s t (Err r) → ReceiveEnds s t mine mine (Err r)
  receive_ends seen mine Refusal.Asleep s t kept h = absurd h
  receive_ends seen mine Refusal.NotOwner s t kept h = absurd h
  receive_ends seen mine Refusal.Nested s t kept h = absurd h
  receive_ends seen mine Refusal.DepthFull s t kept h = absurd h
  receive_ends seen mine Refusal.Spent s t kept h = absurd h
  receive_ends seen mine Refusal.NoSuchSeat s t kept h = absurd h
  receive_ends seen mine Refusal.NotWaiting s t kept h = (⊎_elim (λ q. q) (λ q. awake s.asleep (λ z. let a = (kept.sleeps z).quiet in cc)) h.0, h.1, refl)
  receive_ends seen mine Refusal.Busy s t kept h = absurd h

  receive_none : (l : Limits) (r : Refusal) (s t : Sight (Journaled O A R K)) → Receives JournalFollows JournalFits s t (Err r) → BySteps l (λ (x : Option How). Answered.Got x) Call.Receive s t (Err r)
  receive_none l Refusal.Asleep s t h = absurd h
  receive_none l Refusal.NotOwner s t h = absurd h
  receive_none l Refusal.Nested s t h = absurd h
  receive_none l Refusal.DepthFull s t h = absurd h
  receive_none l Refusal.Spent s t h = absurd h
  receive_none l Refusal.NoSuchSeat s t h = absurd h
  receive_none l Refusal.NotWaiting s t h = h.1
  receive_none l Refusal.Busy s t h = absurd h

  pub receive_refused : (seen mine : ℕ) (q : Result (Option How) Refusal) (r : Refusal) (s t : Sight (Journaled O A R K)) → PassKept s seen mine → Receives JournalFollows JournalFits s t (Err r) → IsErrAnd q (λ y. y ≡ r) → ReceiveEnds s t mine mine q
  receive_refused seen mine (Ok u) r s t kept h e = absurd e
  receive_refused seen mine (Err y) r s t kept h e = subst (λ (x : Refusal). ReceiveEnds s t mine mine (Err x)) (sym e) (receive_ends seen mine r s t kept h)

  pub receive_steps : (l : Limits) (q : Result (Option How) Refusal) (r : Refusal) (s t : Sight (Journaled O A R K)) → Receives JournalFollows JournalFits s t (Err r) → IsErrAnd q (λ y. y ≡ r) → BySteps l (λ (x : Option How). Answered.Got x) Call.Receive s t q
  receive_steps l (Ok u) r s t h e = absurd e
  receive_steps l (Err y) r s t h e = subst (λ (x : Refusal). BySteps l (λ (x : Option How). Answered.Got x) Call.Receive s t (Err x)) (sym e) (receive_none l r s t h)

  pub receive_still : (r : Refusal) (s t : Sight (Journaled O A R K)) → Receives JournalFollows JournalFits s t (Err r) → t ≡ s
  receive_still Refusal.Asleep s t h = absurd h
  receive_still Refusal.NotOwner s t h = absurd h
  receive_still Refusal.Nested s t h = absurd h
  receive_still Refusal.DepthFull s t h = absurd h
  receive_still Refusal.Spent s t h = absurd h
  receive_still Refusal.NoSuchSeat s t h = absurd h
  receive_still Refusal.NotWaiting s t h = h.1
  receive_still Refusal.Busy s t h = absurd h
