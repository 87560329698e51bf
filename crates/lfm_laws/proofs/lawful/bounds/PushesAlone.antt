-- A push exchange that fails goes on with the word that it found: if only its seat makes steps, the seat stores its link for
-- that word and the next exchange succeeds.
use Rattle.std.proofs.Common.{◌≡◌, ℕ, true, false, ◌+◌, refl, sym, ap, ◌∙◌, arith}
use Rattle.lfm_protocol.specs.declared.points.Point.{Point}
use Rattle.lfm_protocol.specs.declared.points.Point.TheVariants.{LinkStore, PushExchange, PushedHandoffLoad}
use Rattle.lfm_protocol.specs.declared.points.Pusher.{Pusher}
use Rattle.lfm_protocol.specs.declared.seats.SeatState.{SeatState}
use Rattle.lfm_words.specs.declared.links.Link.{Link}
use Rattle.lfm_protocol.specs.After.{same_link}
use Rattle.lfm_protocol.specs.Core.{Core, put, put_link}
use Rattle.lfm_laws.specs.laws.Laws.{PushesAloneFailOnce}
use Rattle.lfm_protocol.specs.Points.{pushed_seat}
use Rattle.lfm_protocol.specs.Seats.{seat, IsSeat}
use Rattle.lfm_protocol.specs.Step.{step}
use Rattle.lfm_laws.proofs.steady.frames.Entries.{seat-with_same, length-with_entry}
use Rattle.lfm_laws.proofs.steady.frames.Seated.{seat_of_point, test_of_seat}
use Rattle.lfm_laws.proofs.lawful.bounds.StepsFall.{same_link_self}

-- seat s is at this point, and this is the push word
record Stands (c : Core) (s : ℕ) (push : Link) (p : Point) : Type 0 where
  pub is : IsSeat c.seats s
  pub word : c.push ≡ push
  pub at : (seat c.seats s).point ≡ p

stands_put : (d : Core) (s : ℕ) (y : SeatState) → IsSeat d.seats s → Stands (put d s y) s d.push y.point
stands_put d s y is =
    record {
      is = record { above = is.above; within = omega (arith, is.within, length-with_entry d.seats s y) };
      word = refl;
      at = ap (λ x. x.point) (seat-with_same d.seats s y is);
    }

fails : (c : Core) (s : ℕ) (pusher : Pusher) (seen : Link) → IsSeat c.seats s → (seat c.seats s).point ≡ PushExchange pusher seen → same_link c.push seen ≡ false
    → Stands (step c s).core s c.push (LinkStore pusher c.push)
fails c s pusher seen is at other =
    rw (test_of_seat c.seats s is, at, at, other) (stands_put c s (record (seat c.seats s) { point = LinkStore pusher c.push }) is)

stores : (c : Core) (s : ℕ) (pusher : Pusher) (seen : Link) → IsSeat c.seats s → (seat c.seats s).point ≡ LinkStore pusher seen
    → Stands (step c s).core s c.push (PushExchange pusher seen)
stores c s pusher seen is at =
    rw (test_of_seat c.seats s is, at, at)
    (stands_put (put_link c (pushed_seat pusher s) (record { stamp = seen.stamp + 1; next = seen.next })) s (record (seat c.seats s) { point = PushExchange pusher seen }) is)

succeeds : (c : Core) (s : ℕ) (pusher : Pusher) (seen : Link) → IsSeat c.seats s → (seat c.seats s).point ≡ PushExchange pusher seen → c.push ≡ seen
    → (seat (step c s).core.seats s).point ≡ PushedHandoffLoad pusher
succeeds c s pusher seen is at found =
    let same : same_link c.push seen ≡ true = rw found (same_link_self seen) in
    rw (test_of_seat c.seats s is, at, at, same) (ap (λ x. x.point) (seat-with_same c.seats s (record (seat c.seats s) { point = PushedHandoffLoad pusher }) is))

pub pushes_alone_fail_once : PushesAloneFailOnce
pushes_alone_fail_once c s pusher seen is at other =
    let here = seat_of_point c.seats s (λ e. let f = sym at ∙ e in cc) in
    let first = fails c s pusher seen here at other in
    let second = stores (step c s).core s pusher c.push first.is first.at in
    succeeds (step (step c s).core s).core s pusher c.push second.is second.at (second.word ∙ first.word)
