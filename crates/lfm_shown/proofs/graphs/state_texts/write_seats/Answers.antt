use Rattle.std.proofs.Common.{◌<◌, ◌≤◌, ℕ, length, subst}
use Rattle.lfm_shown.proofs.SeatTexts.{seats_begun, seat_written, seat_failed, seats_end}
use Rattle.lfm_shown.proofs.graphs.state_texts.write_seats.Goals as goal

pub seats-init : goal.seats-init
seats-init g c = record { finishes = λ new r rest. seats_begun _ _ c.args.state.now (length c.args.state.now.seats) r rest }

pub seats-preserved : goal.seats-preserved
seats-preserved g c =
    let more = subst (λ (n : ℕ). c.seats.s < n) c.seats-s-end.ensures.number c.seats-test.true in
    record {
      finishes = λ new r rest. c.seats.invariant.finishes new r
          (seat_written _ _ c.args.state.now c.seats.s (length c.args.state.now.seats) more c.in_ok-write_barred.ensures new r rest);
    }

pub returns-in_err-write_barred : goal.returns-in_err-write_barred
returns-in_err-write_barred g c =
    let more = subst (λ (n : ℕ). c.seats.s < n) c.seats-s-end.ensures.number c.seats-test.true in
    c.seats.invariant.finishes _ _
    (seat_failed _ _ c.args.state.now c.seats.s (length c.args.state.now.seats) more _ _ c.in_err-write_barred.ensures c.from_residual.ensures.1)

pub returns : goal.returns
returns g c =
    let past = subst (λ (n : ℕ). n ≤ c.seats.s) c.seats-s-end.ensures.number c.seats-test.false in
    c.seats.invariant.finishes _ _ (seats_end _ _ c.args.state.now c.seats.s (length c.args.state.now.seats) past _ c.write_text.ensures)
