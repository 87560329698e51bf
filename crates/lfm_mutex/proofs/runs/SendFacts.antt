-- Which steps a send makes: its exchange is the first step of its call.
use Rattle.std.proofs.Common.{◌≡◌, ℕ, false, Option, refl, sym, ap, ◌∙◌, List, [], ◌∷◌, ◌++◌, subst, append_assoc}
use Rattle.std.proofs.lemmas.Bool.{false≢true}
use Rattle.lfm_words.specs.declared.pop_lists.Record.{Record}
use Rattle.lfm_words.specs.declared.wakes.Wake.{Wake}
use Rattle.lfm_words.specs.declared.wakes.Wake.TheVariants.{Waiting}
use Rattle.lfm_protocol.specs.declared.points.Point.{Point}
use Rattle.lfm_protocol.specs.declared.points.Point.TheVariants.{SendWakeExchange, SendCountAdd}
use Rattle.lfm_protocol.specs.declared.seats.SeatState.{SeatState}
use Rattle.lfm_protocol.specs.After.{claims}
use Rattle.lfm_protocol.specs.Begin.{Stepped}
use Rattle.lfm_laws.specs.table.Words.{stepped_by, wake_of}
use Rattle.lfm_mutex.specs.calls.Runs.{end_of, trail_of}
use Rattle.lfm_table.specs.Rule.{seen}
use Rattle.lfm_table.specs.declared.seat_view.Seen.{Seen}
use Rattle.lfm_mutex.specs.calls.Sight.{sends_of, send_at, claimed}
use Rattle.lfm_protocol.specs.declared.answers.Answer.{Answer}
use Rattle.lfm_protocol.specs.declared.answers.Turn.{Turn}
use Rattle.lfm_protocol.specs.declared.answers.Turn.TheVariants.{Open, Ended, Refused}
use Rattle.lfm_protocol.specs.declared.answers.Why.{Why}
use Rattle.lfm_model.specs.declared.refusals.Refusal.{Refusal}
use Rattle.lfm_mutex.proofs.runs.BusyFacts.{idle_runs}
use Rattle.lfm_mutex.proofs.runs.StepResults.{is_send, is_not_waiting, no_send, answers_step}
use Rattle.lfm_table.proofs.tables.StepFacts.{made_of}

none_at : (q : Point) (n : ℕ) → is_send q ≡ false → send_at q n ≡ []
none_at (SendWakeExchange u) n other = absurd (false≢true (sym other))
none_at _ n other = refl

-- a run that doesn't start with the exchange of a send sends no seat
pub no_sends : (s : ℕ) (x : SeatState) (finds : List (ℕ × Option Record)) → is_send x.point ≡ false → sends_of (trail_of s x finds) ≡ []
no_sends s x [] other = refl
no_sends s x (f ∷ finds) other = ap (λ (l : List ℕ). l ++ sends_of (trail_of s (stepped_by x s f.0 f.1).seat finds)) (none_at x.point f.0 other) ∙ no_sends s (stepped_by x s f.0 f.1).seat finds (no_send x s f.0 f.1)

pub sends_join : (xs ys : List Seen) → sends_of (xs ++ ys) ≡ sends_of xs ++ sends_of ys
sends_join [] ys = refl
sends_join (x ∷ xs) ys = ap (λ (l : List ℕ). send_at x.point x.found ++ l) (sends_join xs ys) ∙ sym (append_assoc (send_at x.point x.found) (sends_of xs) (sends_of ys))

-- Only the exchange of a send answers NotWaiting

no_not_waiting : (s : ℕ) (x : SeatState) (turn : Turn) (finds : List (ℕ × Option Record)) → is_send x.point ≡ false → is_not_waiting turn ≡ false → is_not_waiting (end_of s (record { seat = x; turn = turn }) finds).turn ≡ false
no_not_waiting s x turn [] other first = first
no_not_waiting s x turn (f ∷ finds) other first =
    no_not_waiting s (stepped_by x s f.0 f.1).seat (stepped_by x s f.0 f.1).turn finds (no_send x s f.0 f.1) (answers_step x s f.0 f.1 other)

-- The run of a send

not_sent : (t : Turn) (why : Why) → t ≡ Refused why → t ≡ Ended Answer.Sent → ⊥
not_sent t why is e = let z : Refused why ≡ Ended Answer.Sent = sym is ∙ e in absurd (cc)

not_idle : Refused Why.Idle ≡ Refused (Why.By Refusal.NotWaiting) → ⊥
not_idle e = cc

sent_open : Open ≡ Ended Answer.Sent → ⊥
sent_open e = cc

waiting_open : Open ≡ Refused (Why.By Refusal.NotWaiting) → ⊥
waiting_open e = cc

abbrev Claims : (d t ps u : ℕ) → Wake → Stepped
Claims d t ps u w = claims (made_of d t ps (SendWakeExchange u)) u w

sent_by : (s d t ps u : ℕ) (w : Wake) (finds : List (ℕ × Option Record)) → (end_of s (Claims d t ps u w) finds).turn ≡ Ended Answer.Sent → claimed u w ++ sends_of (trail_of s (Claims d t ps u w).seat finds) ≡ u ∷ []
sent_by s d t ps u Waiting finds e = ap (λ (l : List ℕ). u ∷ l) (no_sends s (made_of d t ps (SendCountAdd u)) finds refl)
sent_by s d t ps u _ [] e = absurd (not_sent _ _ refl e)
sent_by s d t ps u _ (f ∷ finds) e = absurd (not_sent _ _ (idle_runs s d t ps finds) e)

refused_by : (s d t ps u : ℕ) (w : Wake) (finds : List (ℕ × Option Record)) → (end_of s (Claims d t ps u w) finds).turn ≡ Refused (Why.By Refusal.NotWaiting) → (claimed u w ≡ []) × (trail_of s (Claims d t ps u w).seat finds ≡ [])
refused_by s d t ps u Waiting finds e =
    absurd (false≢true (sym (no_not_waiting s (made_of d t ps (SendCountAdd u)) Open finds refl refl) ∙ ap is_not_waiting e))
refused_by s d t ps u _ [] e = (refl, refl)
refused_by s d t ps u _ (f ∷ finds) e = absurd (not_idle (sym (idle_runs s d t ps finds) ∙ e))

abbrev SentSo : ℕ → SeatState → ℕ → List (ℕ × Option Record) → Type 0
SentSo s x u finds = (end_of s (record { seat = x; turn = Open }) finds).turn ≡ Ended Answer.Sent → sends_of (trail_of s x finds) ≡ u ∷ []

abbrev RefusedSo : ℕ → SeatState → ℕ → List (ℕ × Option Record) → Type 0
RefusedSo s x u finds =
    (end_of s (record { seat = x; turn = Open }) finds).turn ≡ Refused (Why.By Refusal.NotWaiting) → (k : ℕ) × (claimed u (wake_of k) ≡ []) × (trail_of s x finds ≡ seen (SendWakeExchange u) k ∷ [])

sent_first : (s d t ps u : ℕ) (finds : List (ℕ × Option Record)) → SentSo s (made_of d t ps (SendWakeExchange u)) u finds
sent_first s d t ps u [] e = absurd (sent_open e)
sent_first s d t ps u (f ∷ finds) e = sent_by s d t ps u (wake_of f.0) finds e

refused_first : (s d t ps u : ℕ) (finds : List (ℕ × Option Record)) → RefusedSo s (made_of d t ps (SendWakeExchange u)) u finds
refused_first s d t ps u [] e = absurd (waiting_open e)
refused_first s d t ps u (f ∷ finds) e = let r = refused_by s d t ps u (wake_of f.0) finds e in (f.0, r.0, ap (λ (l : List Seen). seen (SendWakeExchange u) f.0 ∷ l) r.1)

pub sent_path : (s : ℕ) (x : SeatState) (u : ℕ) (finds : List (ℕ × Option Record)) → x.point ≡ SendWakeExchange u → SentSo s x u finds
sent_path s x u finds at = subst (λ (q : Point). SentSo s (made_of x.depth x.takes x.posts q) u finds) (sym at) (sent_first s x.depth x.takes x.posts u finds)

pub refused_path : (s : ℕ) (x : SeatState) (u : ℕ) (finds : List (ℕ × Option Record)) → x.point ≡ SendWakeExchange u → RefusedSo s x u finds
refused_path s x u finds at = subst (λ (q : Point). RefusedSo s (made_of x.depth x.takes x.posts q) u finds) (sym at) (refused_first s x.depth x.takes x.posts u finds)
