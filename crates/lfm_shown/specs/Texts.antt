-- The text of what a word holds, of the next step of a seat, and of all that a seat has in a state.
use Rattle.std.specs.Prelude.{ℕ, List, [], ◌∷◌, Option, Some, None, codes, decimal, nat_eq, if◌then◌else◌}
use Rattle.lfm_core.specs.text.Trace.{answer_text, handoff_text, record_text}
use Rattle.lfm_model.specs.declared.answers.How.{How}
use Rattle.lfm_model.specs.declared.answers.How.TheVariants.{Free, Queued}
use Rattle.lfm_protocol.specs.Core.{Core}
use Rattle.lfm_protocol.specs.Points.{kind, target, word}
use Rattle.lfm_protocol.specs.Seats.{seat, link, wake}
use Rattle.lfm_protocol.specs.declared.answers.Answer.TheVariants.{Unlocked}
use Rattle.lfm_protocol.specs.declared.kinds.Kind.{Kind}
use Rattle.lfm_protocol.specs.declared.kinds.Word.{Word}
use Rattle.lfm_protocol.specs.declared.points.Point.{Point}
use Rattle.lfm_protocol.specs.declared.points.Point.TheVariants.{Asleep, TryHandoffExchange, SendWakeExchange, SendCountAdd, SendPushRecheck, SendWakeStore, PushLoad, LinkStore, PushExchange, PushedHandoffLoad, PushedHandoffExchange, WaitWakeStore, GrantWakeStore, EnterOwnerStore, ReceiveWakeStore}
use Rattle.lfm_protocol.specs.declared.points.Pusher.{Pusher}
use Rattle.lfm_protocol.specs.declared.points.Pusher.TheVariants.{Sender}
use Rattle.lfm_protocol.specs.declared.points.Sleeper.{Sleeper}
use Rattle.lfm_protocol.specs.declared.points.Sleeper.TheVariants.{Locker, Waiter}
use Rattle.lfm_shown.specs.Names.{kind_name, step_name}
use Rattle.lfm_shown.specs.declared.values.Value.{Value}
use Rattle.lfm_text.specs.Writing.{joined}
use Rattle.lfm_words.specs.declared.links.Link.{Link}
use Rattle.lfm_words.specs.declared.wakes.Wake.{Wake}
use Rattle.lfm_words.specs.declared.wakes.Wake.TheVariants.{Quiet, Waiting, Claimed, Grant}

-- ---- words and what they hold

-- a text, and a number after it
abbrev pub numbered : List ℕ → ℕ → List ℕ
numbered name number = joined (name ∷ decimal number ∷ [])

abbrev pub word_text : Word → List ℕ
word_text Word.Count = codes "count"
word_text Word.Owner = codes "owner"
word_text Word.Handoff = codes "handoff"
word_text Word.Push = codes "push"
word_text (Word.Link t) = numbered (codes "link.") t
word_text (Word.Wake t) = numbered (codes "wake.") t

abbrev pub next_seat_text : ℕ → List ℕ
next_seat_text next = if nat_eq next 0 then codes "none" else decimal next

-- a stamp and a seat
abbrev pub link_text : Link → List ℕ
link_text l = joined (numbered (codes "(") l.stamp ∷ codes ", " ∷ next_seat_text l.next ∷ codes ")" ∷ [])

abbrev pub wake_text : Wake → List ℕ
wake_text Quiet = codes "QUIET"
wake_text Waiting = codes "WAITING"
wake_text Claimed = codes "CLAIMED"
wake_text (Grant stamp) = joined (numbered (codes "GRANT(") stamp ∷ codes ")" ∷ [])

abbrev pub value_text : Value → List ℕ
value_text (Value.Number number) = decimal number
value_text (Value.Handoff handoff) = handoff_text handoff
value_text (Value.Link link) = link_text link
value_text (Value.Wake wake) = wake_text wake

-- ---- the next step of a seat

abbrev pub entry_memory : How → List ℕ
entry_memory Free = []
entry_memory (Queued stamp) = numbered (codes " as #") stamp

abbrev pub target_memory : Pusher → List ℕ
target_memory (Sender t) = numbered (codes " for ") t
target_memory _ = []

-- What the call remembers of its earlier steps: the word that it has seen, the record or the seat that it serves, the stamp by
-- which it acquires, or the answer of its release. Nothing if it remembers none of these.
abbrev pub memory_text : Point → List ℕ
memory_text (LinkStore by seen) = joined (codes " seen " ∷ link_text seen ∷ [])
memory_text (PushExchange by seen) = joined (codes " seen " ∷ link_text seen ∷ [])
memory_text (TryHandoffExchange seen) = joined (codes " seen " ∷ handoff_text seen ∷ [])
memory_text (PushedHandoffExchange by seen) = joined (codes " seen " ∷ handoff_text seen ∷ [])
memory_text (SendPushRecheck t seen) = joined (codes " seen " ∷ handoff_text seen ∷ [])
memory_text (GrantWakeStore by oldest) = joined (codes " for " ∷ record_text oldest ∷ [])
memory_text (EnterOwnerStore by how) = entry_memory how
memory_text (ReceiveWakeStore stamp) = numbered (codes " as #") stamp
memory_text (WaitWakeStore released) = joined (codes " after " ∷ answer_text (Unlocked released) ∷ [])
memory_text (SendWakeExchange t) = numbered (codes " for ") t
memory_text (SendCountAdd t) = numbered (codes " for ") t
memory_text (SendWakeStore t) = numbered (codes " for ") t
memory_text (PushLoad by) = target_memory by
memory_text (PushedHandoffLoad by) = target_memory by
memory_text _ = []

-- the word and the operation of the step of seat s
abbrev pub operation_text : Point → ℕ → Kind → List ℕ
operation_text p s k = joined (word_text (word k (target p s)) ∷ codes " " ∷ kind_name k ∷ [])

abbrev pub sleep_text : Sleeper → List ℕ
sleep_text Locker = codes "sleeps in its lock"
sleep_text Waiter = codes "sleeps in its start_wait"

-- a seat of which no call is open
abbrev pub idle_text : Point → List ℕ
idle_text (Asleep sleeper) = sleep_text sleeper
idle_text _ = codes "rests"

abbrev pub next_of_kind : Point → ℕ → Option Kind → List ℕ
next_of_kind p s None = idle_text p
next_of_kind p s (Some k) = joined (step_name p ∷ codes ": " ∷ operation_text p s k ∷ memory_text p ∷ [])

-- what seat s does next at this point
abbrev pub next_text : Point → ℕ → List ℕ
next_text p s = next_of_kind p s (kind p)

-- ---- a seat

-- depth, takes and posts
abbrev pub plain_text : Core → ℕ → List ℕ
plain_text c s = joined (decimal (seat c.seats s).depth ∷ codes " " ∷ decimal (seat c.seats s).takes ∷ codes " " ∷ decimal (seat c.seats s).posts ∷ [])

-- its wake word and its link word
abbrev pub seat_words_text : Core → ℕ → List ℕ
seat_words_text c s = joined (wake_text (wake c.wakes s) ∷ codes " " ∷ link_text (link c.links s) ∷ [])

abbrev pub seat_text : Core → ℕ → List ℕ
seat_text c s = joined (plain_text c s ∷ codes " " ∷ seat_words_text c s ∷ codes " " ∷ next_text (seat c.seats s).point s ∷ [])
