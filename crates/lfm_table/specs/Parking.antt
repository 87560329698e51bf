-- What `parking` relies on, as a small model: one wake word, the thread of its seat, and the wake-ups that are owed. A park
-- compares the word with what the thread loaded and puts the thread to sleep in one atomic step, as the system promises.
use Rattle.std.specs.Prelude.{◌≡◌, ℕ, zero, suc, ◌+◌, ◌<◌, List, [], ◌∷◌, true, nat_eq, if◌then◌else◌}
use Rattle.lfm_words.specs.declared.wakes.Wake.{Wake}
use Rattle.lfm_words.specs.Words.{wake_word}
use Rattle.lfm_table.specs.Grants.{is_grant, low_bits}

pub data Thread : Type 0 where
  running : Thread
  -- it has loaded this state, which is no grant, and calls the system to park
  about_to_park : Wake → Thread
  -- it sleeps in the system
  sleeping : Thread

pub record Parking : Type 0 where
  pub word : Wake
  pub thread : Thread
  -- how many wake-ups were left by grants and not yet made
  pub owed : ℕ

pub data ParkingEvent : Type 0 where
  -- a step of any seat stores this state in the word
  stores : Wake → ParkingEvent
  -- some thread makes a wake-up that is owed
  wakes : ParkingEvent
  -- the thread loads the word, and goes on to park if it is no grant
  loads : ParkingEvent
  -- the system compares the word with what the thread loaded, and puts the thread to sleep if their low bits are equal
  parks : ParkingEvent
  -- the park ends without a wake-up, or after its time
  returns : ParkingEvent

-- the wake-ups that the store of this state leaves
abbrev pub left_by : Wake → ℕ
left_by w = if is_grant w then 1 else 0

-- a wake-up ends the park of a thread that sleeps, and does nothing to another thread
abbrev pub woken : Thread → Thread
woken sleeping = running
woken t = t

abbrev pub after_wake : ℕ → Parking → Parking
after_wake zero p = p
after_wake (suc n) p = record { word = p.word; thread = woken p.thread; owed = n }

abbrev pub after_load : Thread → Wake → Thread
after_load running w = if is_grant w then running else about_to_park w
after_load t w = t

abbrev pub after_park : Thread → Wake → Thread
after_park (about_to_park seen) w = if nat_eq (low_bits (wake_word w)) (low_bits (wake_word seen)) then sleeping else running
after_park t w = t

abbrev pub after : Parking → ParkingEvent → Parking
after p (stores w) = record { word = w; thread = p.thread; owed = p.owed + left_by w }
after p wakes = after_wake p.owed p
after p loads = record p { thread = after_load p.thread p.word }
after p parks = record p { thread = after_park p.thread p.word }
after p returns = record p { thread = woken p.thread }

abbrev pub after_all : Parking → List ParkingEvent → Parking
after_all p [] = p
after_all p (e ∷ later) = after_all (after p e) later

-- the thread runs, and no wake-up is owed
abbrev pub at_first : Wake → Parking
at_first w = record { word = w; thread = running; owed = 0 }

-- If the thread sleeps and the word is a grant, a wake-up is owed. So once each wake-up is made, the thread does not sleep
-- beside a grant
abbrev pub OwesSleeper : Parking → Type 0
OwesSleeper p = p.thread ≡ sleeping → is_grant p.word ≡ true → 0 < p.owed

-- whatever state the word has at first, and in whatever order the events come
abbrev pub NoGrantIsSleptThrough : Type 0
NoGrantIsSleptThrough = (w : Wake) (events : List ParkingEvent) → OwesSleeper (after_all (at_first w) events)
