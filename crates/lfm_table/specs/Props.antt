-- Facts of which any two proofs are equal, so that a seat can keep such facts.
use Rattle.std.specs.Prelude.{◌≡◌, ℕ}
use Rattle.std.specs.Coded.{×_prop, Unit-prop, le_prop}
use Rattle.lfm_protocol.specs.declared.limits.Limits.{Limits}
use Rattle.lfm_protocol.specs.declared.points.Point.{Point}
use Rattle.lfm_protocol.specs.declared.points.Point.TheVariants.{LockCountSubtract, TryOwnerLoad, TryHandoffLoad, TryHandoffExchange, LinkStore, PushExchange, ReleaseHandoffStore, TakeLinkLoad}
use Rattle.lfm_protocol.specs.declared.seats.SeatState.{SeatState}
use Rattle.lfm_words.specs.declared.handoffs.Handoff.{Handoff}
use Rattle.lfm_words.specs.declared.links.Link.{Link}
use Rattle.lfm_words.specs.declared.wakes.Wake.{Wake}
use Rattle.lfm_words.specs.declared.wakes.Wake.TheVariants.{Grant}
use Rattle.lfm_words.specs.Words.{IsSmallWake}
use Rattle.lfm_laws.specs.table.Ready.{IsReady, PacksLink, PacksHandoff}
use Rattle.lfm_protocol.specs.Room.{HasNumbers}
use Rattle.lfm_protocol.specs.Stores.{stored_link, expected_push, exchanged_push, stored_handoff, expected_handoff, stored_wake}
use Rattle.lfm_laws.specs.table.Settles.{begun}
use Rattle.lfm_table.specs.Settled.{Became, calls_to}

HasNumbers-prop : (x : SeatState) (q : Point) → IsProp (HasNumbers x q)
HasNumbers-prop x LockCountSubtract = le_prop
HasNumbers-prop x TryOwnerLoad = le_prop
HasNumbers-prop x TryHandoffLoad = le_prop
HasNumbers-prop x (TryHandoffExchange seen) = le_prop
HasNumbers-prop x (LinkStore pusher seen) = le_prop
HasNumbers-prop x (PushExchange pusher seen) = le_prop
HasNumbers-prop x (ReleaseHandoffStore releaser) = le_prop
HasNumbers-prop x (TakeLinkLoad carrier next) = ×_prop le_prop le_prop
HasNumbers-prop x _ = Unit-prop

IsSmallWake-prop : (w : Wake) → IsProp (IsSmallWake w)
IsSmallWake-prop (Grant stamp) = le_prop
IsSmallWake-prop _ = Unit-prop

PacksLink-prop : (l : Link) → IsProp (PacksLink l)
PacksLink-prop l u v = λ i. record { stamp = le_prop u.stamp v.stamp i; next = le_prop u.next v.next i }

PacksHandoff-prop : (h : Handoff) → IsProp (PacksHandoff h)
PacksHandoff-prop h u v = λ i. record { seat = le_prop u.seat v.seat i; post = le_prop u.post v.post i }

pub IsReady-prop : (seats s : ℕ) (x : SeatState) → IsProp (IsReady seats s x)
IsReady-prop seats s x u v =
    λ i. record {
      numbers = HasNumbers-prop x x.point u.numbers v.numbers i;
      above = le_prop u.above v.above i;
      within = le_prop u.within v.within i;
      stored_link = PacksLink-prop (stored_link x) u.stored_link v.stored_link i;
      expected_push = PacksLink-prop (expected_push x) u.expected_push v.expected_push i;
      exchanged_push = PacksLink-prop (exchanged_push x s) u.exchanged_push v.exchanged_push i;
      stored_handoff = PacksHandoff-prop (stored_handoff x s) u.stored_handoff v.stored_handoff i;
      expected_handoff = PacksHandoff-prop (expected_handoff x s) u.expected_handoff v.expected_handoff i;
      stored_wake = IsSmallWake-prop (stored_wake x) u.stored_wake v.stored_wake i;
    }

-- if any two proofs that the data of two seats are equal are themselves equal
pub Became-prop : ((a b : SeatState) → IsProp (a ≡ b)) → (x : SeatState) (l : Limits) (p : SeatState) → IsProp (Became x l p)
Became-prop one x l p u v = λ i. record { deep = le_prop u.deep v.deep i; leads = one p (begun x l (calls_to x p)) u.leads v.leads i }
