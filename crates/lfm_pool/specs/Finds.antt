-- What a step of a seat in one mutex finds in the word that it accesses, beyond what the step does to the seat.
use Rattle.std.specs.Prelude.{◌≡◌, ℕ, ◌<◌, Some}
use Rattle.lfm_words.specs.declared.links.Link.{Link}
use Rattle.lfm_words.specs.Words.{link_of}
use Rattle.lfm_protocol.specs.declared.kinds.Kind.{Kind}
use Rattle.lfm_protocol.specs.declared.points.Point.TheVariants.{PushExchange}
use Rattle.lfm_protocol.specs.declared.points.Pusher.{Pusher}
use Rattle.lfm_protocol.specs.declared.seats.SeatState.{SeatState}
use Rattle.lfm_protocol.specs.Points.{kind}
use Rattle.lfm_laws.specs.steady.Steady.{IsSeen}

-- The step of the seat with this number, whose data are p, has found n.
-- - owner: a load of the owner finds the number of the seat only if it holds the mutex
-- - sees: an exchange of the push word finds the word that was loaded, or one with a later stamp, or one whose list was
--   cleared
pub record Finds (number : ℕ) (p : SeatState) (n : ℕ) : Type 0 where
  pub owner : kind p.point ≡ Some Kind.OwnerLoad → n ≡ number → 0 < p.depth
  pub sees : (pusher : Pusher) (loaded : Link) → p.point ≡ PushExchange pusher loaded → IsSeen (link_of n) loaded
