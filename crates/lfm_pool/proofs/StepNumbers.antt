-- The stamp and the numbers of posts after a step at the table of one mutex.
use Rattle.std.proofs.Common.{◌≡◌, ℕ, ◌+◌, ◌^◌, ◌<◌, List, [], ◌∷◌, length, true, false, refl, sym, ap, ◌∙◌, inl, inr, arith}
use Rattle.std.specs.Prelude.{Bool, if◌then◌else◌}
use Rattle.std.proofs.lemmas.Bool.{cases_eq}
use Rattle.std.proofs.lemmas.List.{length-append}
use Rattle.lfm_words.specs.declared.links.Link.{Link}
use Rattle.lfm_words.specs.declared.pop_lists.Record.{Record}
use Rattle.lfm_words.specs.Popped.{oldest}
use Rattle.lfm_words.specs.Words.{link_of}
use Rattle.lfm_protocol.specs.After.{same_link}
use Rattle.lfm_protocol.specs.declared.points.Point.{Point}
use Rattle.lfm_protocol.specs.declared.points.Point.TheVariants.{PushExchange}
use Rattle.lfm_protocol.specs.declared.points.Pusher.{Pusher}
use Rattle.lfm_protocol.specs.declared.seats.SeatState.{SeatState}
use Rattle.lfm_protocol.specs.Core.{Core, limits, put}
use Rattle.lfm_protocol.specs.Points.{pushed_seat}
use Rattle.lfm_protocol.specs.Seats.{seat, IsSeat}
use Rattle.lfm_protocol.specs.Step.{made}
use Rattle.lfm_laws.specs.laws.Events.{pushed_at_point, pushed_by}
use Rattle.lfm_laws.specs.steady.Ghost.{Ghost}
use Rattle.lfm_laws.specs.steady.Steady.{Fits, NumbersFit}
use Rattle.lfm_laws.specs.table.Settles.{Settles}
use Rattle.lfm_laws.specs.table.Words.{AreNarrow, stepped_by}
use Rattle.lfm_laws.specs.steady.EventOutcome.{GoesOn}
use Rattle.lfm_laws.specs.steady.Numbered.{records}
use Rattle.lfm_laws.proofs.lawful.read.RecordsRead.{length-records}
use Rattle.lfm_laws.proofs.steady.StepsKept.{made_keeps}
use Rattle.lfm_laws.proofs.steady.frames.Entries.{seat-with_same, seat-with_other}
use Rattle.lfm_laws.proofs.table.Narrow.{narrow_with}
use Rattle.lfm_laws.proofs.table.Settled.{is_seat-with, numbers_put, settles_keeps, settles_narrow}
use Rattle.lfm_laws.proofs.table.TableSteps.{found_at, put_seats}
use Rattle.lfm_pool.specs.Admissions.{pushed_at}

-- the count of pushed records grows by those that are pushed
pushed_grows : (g h : Ghost) (pushes pops answers : List Record) → GoesOn g h pushes pops answers → h.pushed ≡ g.pushed + length pushes
pushed_grows g h pushes pops answers goes =
    let before = length-records g.pushed_at 0 g.pushed in
    let now = length-records h.pushed_at 0 h.pushed in
    let grown = ap length goes.pushed ∙ length-append (records g.pushed_at 0 g.pushed) pushes in
    omega (arith, before, now, grown)

-- one record is pushed by an exchange that found the word that it expected, and none by any other step
length_if : (b : Bool) (r : Record) → length (if b then r ∷ [] else []) ≡ (if b then 1 else 0)
length_if true r = refl
length_if false r = refl

pushed_count : (c : Core) (s : ℕ) (q : Point) (n : ℕ) → ((pusher : Pusher) (old : Link) → q ≡ PushExchange pusher old → link_of n ≡ c.push) → length (pushed_at_point c s q) ≡ pushed_at q n
pushed_count c s (PushExchange pusher old) n found =
    length_if (same_link c.push old) (record { seat = pushed_seat pusher s; stamp = old.stamp + 1 })
    ∙ ap (λ (l : Link). if same_link l old then 1 else 0) (sym (found pusher old refl))
pushed_count c s _ n found = refl

module _ (c : Core) (g : Ghost) (s : ℕ) (p : SeatState) (is : IsSeat c.seats s) (fits : Fits c g) (settles : Settles (seat c.seats s) (limits c) p) (n : ℕ)
    (found : (pusher : Pusher) (old : Link) → p.point ≡ PushExchange pusher old → link_of n ≡ c.push) where
  -- the stamp grows by the records that the step pushes
  pub stamp_after : (made (put c s p) s).core.push.stamp ≡ c.push.stamp + pushed_at p.point n
  stamp_after =
      let kept = made_keeps (put c s p) g s (is_seat-with c.seats s s p is) (settles_keeps c g s p is fits settles) in
      let grows = pushed_grows g kept.to _ _ _ kept.history in
      let one : length (pushed_by (put c s p) s) ≡ pushed_at p.point n =
      ap (λ (x : SeatState). length (pushed_at_point (put c s p) s x.point)) (seat-with_same c.seats s p is) ∙ pushed_count (put c s p) s p.point n found
      in
      let before = fits.words.stamp in
      let now = kept.fits.words.stamp in
      omega (arith, before, now, grows, one)

  -- so the stamp and the numbers of posts fit after the step, if these do
  pub numbers_after : AreNarrow c.seats → NumbersFit c → c.push.stamp + pushed_at p.point n + 1 < 2 ^ 48 → (stepped_by p s (found_at c s p) (oldest c.popped)).seat.posts + 1 < 2 ^ 48
      → NumbersFit (made (put c s p) s).core
  numbers_after narrow fit stamp posts =
      let put_fits = settles_keeps c g s p is fits settles in
      let put_narrow = narrow_with c.seats s p is (settles_narrow (seat c.seats s) (limits c) p settles (narrow s)) narrow in
      let seats = put_seats c g s p is put_fits (numbers_put c s p is settles fit) put_narrow in
      let y = (stepped_by p s (found_at c s p) (oldest c.popped)).seat in
      record {
        stamp = let grown = stamp_after in omega (arith, grown, stamp);
        posts = λ t. elim (cases_eq t s) [
          | inl here ↦ rw (here, seats, seat-with_same c.seats s y is) posts
          | inr other ↦ rw (seats, seat-with_other c.seats s t y other) (fit.posts t)
        ];
      }
