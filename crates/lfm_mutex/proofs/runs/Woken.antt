-- The seats that were woken are those that were granted the mutex: for one call, and for calls in a row. A try and a receive
-- grant nothing.
use Rattle.std.proofs.Common.{◌≡◌, inl, inr, ℕ, List, [], ◌∷◌, ◌++◌, true, Option, Some, None, Result, Ok, Err, refl, sym, ap, ◌∙◌, append_assoc, append-nil}
use Rattle.std.proofs.lemmas.Bool.{false≢true}
use Rattle.lfm_model.specs.declared.answers.How.{How}
use Rattle.lfm_model.specs.declared.answers.Locked.{Locked}
use Rattle.lfm_model.specs.declared.refusals.Refusal.{Refusal}
use Rattle.lfm_words.specs.declared.pop_lists.Record.{Record}
use Rattle.lfm_protocol.specs.declared.answers.Answer.{Answer}
use Rattle.lfm_protocol.specs.declared.answers.Call.{Call}
use Rattle.lfm_protocol.specs.declared.answers.Turn.{Turn}
use Rattle.lfm_protocol.specs.declared.answers.Turn.TheVariants.{Open, Ended, Refused}
use Rattle.lfm_protocol.specs.declared.limits.Limits.{Limits}
use Rattle.lfm_protocol.specs.declared.points.Point.{Point}
use Rattle.lfm_protocol.specs.declared.points.Point.TheVariants.{GrantWakeStore, SendWakeStore}
use Rattle.lfm_protocol.specs.declared.seats.SeatState.{SeatState}
use Rattle.lfm_protocol.specs.Begin as Begin
use Rattle.lfm_laws.specs.table.Words.{stepped_by}
use Rattle.lfm_table.specs.declared.shared_table.off_trail.OffTrail.{OffTrail}
use Rattle.lfm_table.specs.declared.seat_view.Seen.{Seen}
use Rattle.lfm_table.specs.Grants.{granted_at}
use Rattle.lfm_mutex.specs.declared.seat.Seat.{Seat}
use Rattle.lfm_mutex.specs.calls.Barging.{FailedTries, TriesBy}
use Rattle.lfm_mutex.specs.calls.Runs.{trail_of}
use Rattle.lfm_mutex.specs.calls.Sight.{Sight, sight}
use Rattle.lfm_mutex.specs.calls.Trails.{CallEnds, Makes, MakesCall}
use Rattle.lfm_mutex.specs.calls.WakeUps.{as_list, grants_of}
use Rattle.lfm_mutex.specs.calls.Woken.{woken_of, WakesNobody, WakesThese, WokenAsGranted, PollsOnce, PollsAndWakesNobody, PollsAndWakesAsGranted}
use Rattle.lfm_mutex.proofs.runs.ShortCalls.{Short, is_short, short_step_at, idle_step, try_opens, receive_opens}
use Rattle.lfm_mutex.proofs.runs.WakeUps.{grants_join}

-- For one call, and for two in a row

abbrev with_woken : {T : Type 0} → Seat T → List ℕ → OffTrail
with_woken s seats = record s.off_trail { woken = seats }

pub woken_none : {T : Type 0} (s t : Seat T) → WakesNobody s t → grants_of (sight t).trail ≡ grants_of (sight s).trail → WokenAsGranted s t
woken_none s t nobody none = ([], nobody ∙ ap (with_woken s) (sym (append-nil (woken_of s))), none ∙ sym (append-nil (grants_of (sight s).trail)))

pub these_none : {T : Type 0} (s t : Seat T) → WakesThese [] s t → WakesNobody s t
these_none s t woke = woke ∙ ap (with_woken s) (append-nil (woken_of s))

pub these_join : {T : Type 0} (s m t : Seat T) (l k : List ℕ) → WakesThese l s m → WakesThese k m t → WakesThese (l ++ k) s t
these_join s m t l k h w = w ∙ (ap (λ (o : OffTrail). record o { woken = o.woken ++ k }) h ∙ ap (with_woken s) (append_assoc (woken_of s) l k))

pub woken_join : {T : Type 0} (s m t : Seat T) → WokenAsGranted s m → WokenAsGranted m t → WokenAsGranted s t
woken_join s m t h k = (
  h.0 ++ k.0,
  these_join s m t h.0 k.0 h.1 k.1,
  k.2 ∙ (ap (λ (l : List ℕ). l ++ k.0) h.2 ∙ append_assoc (grants_of (sight s).trail) h.0 k.0),
)

-- a call woke nobody, and then a wake-up of the seats that it granted the mutex was made
pub woken_from : {T : Type 0} (s m t : Seat T) (l : List ℕ) → WakesNobody s m → grants_of (sight m).trail ≡ grants_of (sight s).trail ++ l → WakesThese l m t → sight t ≡ sight m → WokenAsGranted s t
woken_from {T} s m t l nobody granted woke same = (l, woke ∙ ap (λ (o : OffTrail). record o { woken = o.woken ++ l }) nobody, ap (λ (z : Sight T). grants_of z.trail) same ∙ granted)

-- The same if polls may have been made

pub may_poll : {T : Type 0} (s t : Seat T) → WokenAsGranted s t → PollsAndWakesAsGranted s t
may_poll s t woken = (woken.0, ap (λ (o : OffTrail). o.woken) woken.1, woken.2)

pub polls_none : {T : Type 0} (s t : Seat T) → PollsAndWakesNobody s t → grants_of (sight t).trail ≡ grants_of (sight s).trail → PollsAndWakesAsGranted s t
polls_none s t nobody none = ([], nobody ∙ sym (append-nil (woken_of s)), none ∙ sym (append-nil (grants_of (sight s).trail)))

pub polls_once : {T : Type 0} (s t : Seat T) → PollsOnce s t → sight t ≡ sight s → PollsAndWakesAsGranted s t
polls_once {T} s t poll same = polls_none s t (ap (λ (o : OffTrail). o.woken) poll) (ap (λ (z : Sight T). grants_of z.trail) same)

pub polls_join : {T : Type 0} (s m t : Seat T) → PollsAndWakesAsGranted s m → PollsAndWakesAsGranted m t → PollsAndWakesAsGranted s t
polls_join s m t h k = (
  h.0 ++ k.0,
  k.1 ∙ (ap (λ (l : List ℕ). l ++ k.0) h.1 ∙ append_assoc (woken_of s) h.0 k.0),
  k.2 ∙ (ap (λ (l : List ℕ). l ++ k.0) h.2 ∙ append_assoc (grants_of (sight s).trail) h.0 k.0),
)

-- A try and a receive grant nothing

short_point : (q : Point) → is_short q ≡ true → granted_at q ≡ None
short_point (GrantWakeStore carrier oldest) short = absurd (false≢true short)
short_point (SendWakeStore t) short = absurd (false≢true short)
short_point _ short = refl

short_grants : (s : ℕ) (finds : List (ℕ × Option Record)) (k : ℕ) (x : SeatState) → Short k x.point → grants_of (trail_of s x finds) ≡ []
short_grants s [] k x short = refl
short_grants s (f ∷ finds) k x short =
    ap (λ (o : Option ℕ). as_list o ++ grants_of (trail_of s (stepped_by x s f.0 f.1).seat finds)) (short_point x.point short.0)
    ∙ elim (short_step_at x.depth x.takes x.posts s f.0 k f.1 x.point short) [
      | inl none ↦ ap (λ (z : SeatState). grants_of (trail_of s z finds)) (ap (λ (z : Begin.Stepped). z.seat) (idle_step x s f.0 f.1 none)) ∙ short_grants s finds k x short
      | inr less ↦ short_grants s finds less.0 (stepped_by x s f.0 f.1).seat less.2
    ]

ends_none : (first : Turn) (n k : ℕ) (q y : SeatState) (turn : Turn) (trail trail' : List Seen) → (first ≡ Open → Short k q.point) → CallEnds first n q trail turn y trail' → grants_of trail' ≡ grants_of trail
ends_none Open n k q y turn trail trail' short leads =
    ap grants_of leads.2 ∙ (grants_join trail (trail_of n q leads.0) ∙ (ap (λ (l : List ℕ). grants_of trail ++ l) (short_grants n leads.0 k q (short refl)) ∙ append-nil (grants_of trail)))
ends_none (Ended answer) n k q y turn trail trail' short leads = ap grants_of leads.2
ends_none (Refused why) n k q y turn trail trail' short leads = ap grants_of leads.2

module _ {T : Type 0} (l : Limits) where
  abbrev GrantsNone : Sight T → Sight T → Type 0
  GrantsNone s t = grants_of t.trail ≡ grants_of s.trail

  pub try_grants : (s t : Sight T) (turn : Turn) → Makes l Call.TryLock s t turn → GrantsNone s t
  try_grants s t turn made = let x = made.0 in
      ends_none (Begin.begin x l Call.TryLock).turn s.number 6 (Begin.begin x l Call.TryLock).seat made.1 turn s.trail t.trail (try_opens x l x.point) made.4

  receive_grants : (s t : Sight T) (turn : Turn) → Makes l Call.Receive s t turn → GrantsNone s t
  receive_grants s t turn made = let x = made.0 in
      ends_none (Begin.begin x l Call.Receive).turn s.number 3 (Begin.begin x l Call.Receive).seat made.1 turn s.trail t.trail (receive_opens x l x.point) made.4

  pub try_lock_grants : (s t : Sight T) (r : Result Locked Refusal) → MakesCall l (λ x. Answer.Locked x) Call.TryLock s t r → GrantsNone s t
  try_lock_grants s t (Ok locked) made = try_grants s t (Ended (Answer.Locked locked)) made
  try_lock_grants s t (Err refusal) made = try_grants s t (Refused made.0) made.1

  pub try_receive_grants : (s t : Sight T) (r : Result (Option How) Refusal) → MakesCall l (λ x. Answer.Got x) Call.Receive s t r → GrantsNone s t
  try_receive_grants s t (Ok got) made = receive_grants s t (Ended (Answer.Got got)) made
  try_receive_grants s t (Err refusal) made = receive_grants s t (Refused made.0) made.1

  failed_grant : (s : Sight T) (ms : List (Sight T)) (t : Sight T) → FailedTries l s ms t → GrantsNone s t
  failed_grant s [] t same = ap (λ (z : Sight T). grants_of z.trail) same
  failed_grant s (m ∷ ms) t tries = failed_grant m ms t tries.1 ∙ try_lock_grants s m (Err Refusal.Busy) tries.0.makes

  pub tries_grant : (n : ℕ) (s t : Sight T) (r : Option How) → TriesBy l n s t r → GrantsNone s t
  tries_grant n s t None by = failed_grant s by.0 t by.2
  tries_grant n s t (Some how) by = try_grants by.1 t (Ended (Answer.Locked (Locked.Held how))) by.4 ∙ failed_grant s by.0 by.1 by.3
