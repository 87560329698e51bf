-- For the proof alone, each mutex of a pool has the table that it would have by itself. What a seat of the pool knows of a
-- mutex is its view at that table.
use Rattle.std.specs.Prelude.{◌≡◌, ⊤, ℕ, ◌+◌, ◌≤◌, Bool, true, false, List, [], Option, slice_index, slice_index_or, slice_set}
use Rattle.atomic_table.specs.Table.{State}
use Rattle.lfm_model.specs.declared.answers.How.{How}
use Rattle.lfm_words.specs.declared.pop_lists.Record.{Record}
use Rattle.lfm_words.specs.Words.{is_grant_word}
use Rattle.lfm_protocol.specs.declared.points.Carrier.{Carrier}
use Rattle.lfm_protocol.specs.declared.points.Entrant.{Entrant}
use Rattle.lfm_protocol.specs.declared.points.Point.{Point}
use Rattle.lfm_protocol.specs.declared.points.Pusher.{Pusher}
use Rattle.lfm_protocol.specs.declared.points.Point.TheVariants.{Rest, Asleep, PushExchange, PushedHandoffLoad, PushedHandoffExchange, TakeClearHead, TakeLinkLoad, GrantWakeStore, EnterOwnerStore, ReceiveWakeLoad}
use Rattle.lfm_table.specs.declared.rule.Moving.{Moving}
use Rattle.lfm_table.specs.declared.seat_view.View.{View}
use Rattle.lfm_protocol.specs.declared.limits.Limits.{Limits}
use Rattle.lfm_protocol.specs.Limits.{max_seats}
use Rattle.lfm_table.specs.Rule.{HeldWithin, no_view}
use Rattle.lfm_pool.specs.declared.view.Admission.{Admission}
use Rattle.lfm_pool.specs.declared.view.Known.{Known}
use Rattle.lfm_pool.specs.declared.view.Note.{Note}
use Rattle.lfm_pool.specs.declared.view.PoolView.{PoolView}
use Rattle.lfm_pool.specs.Chain.{HasRecord}

-- The mutexes of a pool guard no value

abbrev pub any_follows : ℕ → ⊤ → ⊤ → Type 0
any_follows _ _ _ = Unit {0}

abbrev pub any_fits : ⊤ → ℕ → Type 0
any_fits _ _ = Unit {0}

-- what the slot of such a table holds
abbrev pub Slot : Type 0
Slot = Option (Moving ⊤)

-- the table that a mutex would have by itself
abbrev pub MutexTable : Type 0
MutexTable = State Slot (View ⊤)

-- the limits of a mutex of a pool: the number of its seats is within the range, and the budget is any
abbrev pub HasFewSeats : Limits → Type 0
HasFewSeats l = l.seats ≤ max_seats

abbrev pub IsKept : MutexTable → Type 0
IsKept = HeldWithin any_follows any_fits HasFewSeats

-- Views

-- the note of a seat that has carried no mutex
abbrev pub no_note : Note
no_note = record { due = 0; carried = 0 }

-- the admission of a seat that has made no load for one
abbrev pub no_admission : Admission
no_admission = record { found = 0; next_push = 0 }

-- what a seat knows of a mutex, if its view there is v and it has carried none
abbrev pub unnoted : View ⊤ → Known
unnoted v = record { view = v; note = no_note; admission = no_admission }

-- what a seat of a pool without mutexes knows
abbrev pub no_pool_view : PoolView
no_pool_view = record { parts = []; posts = 0; found = 0 }

-- what the seat knows of mutex m
abbrev pub known : PoolView → ℕ → Known
known v m = slice_index_or v.parts m (unnoted no_view)

-- its view at the table of mutex m
abbrev pub part : PoolView → ℕ → View ⊤
part v m = (known v m).view

-- its note of mutex m
abbrev pub note : PoolView → ℕ → Note
note v m = (known v m).note

-- the view of a seat that knows this of mutex m now, and has the admission that it had
abbrev pub with_part : PoolView → ℕ → View ⊤ → Note → PoolView
with_part v m w n = record v { parts = slice_set v.parts m (record (known v m) { view = w; note = n }) }

abbrev pub rests_at : Point → Bool
rests_at Rest = true
rests_at _ = false

abbrev pub rests : View ⊤ → Bool
rests v = rests_at v.state.point

-- the record of a seat at this point may be in the queue, or has just been written to be pushed
abbrev pub has_link_at : Point → Bool
has_link_at (Asleep sleeper) = true
has_link_at (PushExchange Pusher.Locker seen) = true
has_link_at (PushedHandoffLoad Pusher.Locker) = true
has_link_at (PushedHandoffExchange Pusher.Locker seen) = true
has_link_at (TakeClearHead Carrier.Locker) = true
has_link_at (TakeLinkLoad Carrier.Locker next) = true
has_link_at (GrantWakeStore Carrier.Locker oldest) = true
has_link_at (EnterOwnerStore Entrant.Locker (How.Queued stamp)) = true
has_link_at (ReceiveWakeLoad sleeper) = true
has_link_at _ = false

abbrev pub has_link : View ⊤ → Bool
has_link v = has_link_at v.state.point

-- The record of the seat at place j, whose view is v, may be in the push list of this table, among this many seats, or has
-- just been written to be pushed: it is not among the popped records, and the seat has no grant. A call that carries the
-- mutex may load its link.
pub record IsUncollected (table : MutexTable) (seats : ℕ) (popped : List Record) (j : ℕ) (v : View ⊤) : Type 0 where
  pub linked : has_link v ≡ true
  pub ungranted : is_grant_word (slice_index table.words (4 + seats + j)) ≡ false
  pub unpopped : HasRecord (j + 1) popped → ⊥
