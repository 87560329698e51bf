-- What a seat knows about its next step without any other state: its numbers fit, the words that it touches exist, and what it
-- writes and expects packs exactly. A running seat knows no more than this.
use Rattle.std.specs.Prelude.{ℕ, ◌^◌, ◌<◌, ◌≤◌}
use Rattle.lfm_protocol.specs.declared.seats.SeatState.{SeatState}
use Rattle.lfm_words.specs.declared.handoffs.Handoff.{Handoff}
use Rattle.lfm_words.specs.declared.links.Link.{Link}
use Rattle.lfm_words.specs.Words.{IsSmallWake, seat_field_size}
use Rattle.lfm_protocol.specs.Points.{target}
use Rattle.lfm_protocol.specs.Room.{HasNumbers}
use Rattle.lfm_protocol.specs.Stores.{stored_link, expected_push, exchanged_push, stored_handoff, expected_handoff, stored_wake}

pub record PacksLink (l : Link) : Type 0 where
  pub stamp : l.stamp < 2 ^ 48
  pub next : l.next < seat_field_size

pub record PacksHandoff (h : Handoff) : Type 0 where
  pub seat : h.seat < seat_field_size
  pub post : h.post < 2 ^ 48

-- for seat s with state x and this number of seats
pub record IsReady (seats s : ℕ) (x : SeatState) : Type 0 where
  pub numbers : HasNumbers x x.point
  pub above : 0 < target x.point s
  pub within : target x.point s ≤ seats
  pub stored_link : PacksLink (stored_link x)
  pub expected_push : PacksLink (expected_push x)
  pub exchanged_push : PacksLink (exchanged_push x s)
  pub stored_handoff : PacksHandoff (stored_handoff x s)
  pub expected_handoff : PacksHandoff (expected_handoff x s)
  pub stored_wake : IsSmallWake (stored_wake x)
