-- How the content of a word is packed into a number, and unpacked.
use Rattle.std.specs.Prelude.{ℕ, Bool, not, ◌+◌, ◌-◌, ◌*◌, ◌/◌, ◌%◌, ◌^◌, ◌<◌, ◌||◌, nat_eq, nat_le, nat_lt, if◌then◌else◌}
use Rattle.lfm_words.specs.declared.handoffs.Handoff.{Handoff}
use Rattle.lfm_words.specs.declared.links.Link.{Link}
use Rattle.lfm_words.specs.declared.wakes.Wake.{Wake}
use Rattle.lfm_words.specs.declared.wakes.Wake.TheVariants.{Quiet, Waiting, Claimed, Grant}

-- the number of values of the seat field, which is the lower 16 bits of a packed word: a seat number is below it
abbrev pub seat_field_size : ℕ
seat_field_size = 65536

-- the stamp in the upper bits, the seat in the lower 16
abbrev pub link_word : Link → ℕ
link_word l = l.stamp * seat_field_size + l.next

-- the post in the upper bits, the seat in the lower 16
abbrev pub handoff_word : Handoff → ℕ
handoff_word h = h.post * seat_field_size + h.seat

-- the low two bits distinguish the four states
abbrev pub wake_word : Wake → ℕ
wake_word Quiet = 0
wake_word Waiting = 1
wake_word Claimed = 2
wake_word (Grant stamp) = 3 + 4 * stamp

-- some state packs to this number
abbrev pub is_wake_word : ℕ → Bool
is_wake_word n = nat_lt n 3 || nat_eq (n % 4) 3

-- the stamp of a grant is below 2^48
abbrev pub IsSmallWake : Wake → Type 0
IsSmallWake (Grant stamp) = stamp < 2 ^ 48
IsSmallWake _ = Unit {0}

-- Unpacking

abbrev pub link_of : ℕ → Link
link_of n = record { stamp = n / seat_field_size; next = n % seat_field_size }

abbrev pub handoff_of : ℕ → Handoff
handoff_of n = record { seat = n % seat_field_size; post = n / seat_field_size }

-- a number to which no state packs is unpacked as a grant
abbrev pub wake_of : ℕ → Wake
wake_of n =
    if nat_eq n 0 then Quiet else (if nat_eq n 1 then Waiting else (if nat_eq n 2 then Claimed else Grant ((n - 3) / 4)))

-- Tests of a word without unpacking it

-- a handoff is posted in the word
abbrev pub is_posted_word : ℕ → Bool
is_posted_word n = not (nat_eq (handoff_of n).seat 0)

-- the word is a grant
abbrev pub is_grant_word : ℕ → Bool
is_grant_word n = nat_le 3 n

-- the stamp of the grant in the word
abbrev pub grant_stamp : ℕ → ℕ
grant_stamp n = (n - 3) / 4
