-- A carrier loads the link of the newest record that is still to be collected; the record becomes the first of the pop list.
use Rattle.std.proofs.Common.{◌≡◌, ℕ, ◌+◌, ◌-◌, ◌≤◌, ◌<◌, List, ◌∷◌, length, refl, ap, inl, arith}
use Rattle.lfm_protocol.specs.declared.points.Carrier.{Carrier}
use Rattle.lfm_protocol.specs.declared.points.Point.{Point}
use Rattle.lfm_protocol.specs.declared.points.Point.TheVariants.{TakeLinkLoad}
use Rattle.lfm_words.specs.declared.pop_lists.Record.{Record}
use Rattle.lfm_protocol.specs.After.{loaded}
use Rattle.lfm_protocol.specs.Core.{Core, put}
use Rattle.lfm_laws.specs.steady.Ghost.{serving, Ghost}
use Rattle.lfm_laws.specs.steady.Numbered.{records}
use Rattle.lfm_protocol.specs.Seats.{seat, link, wake, IsSeat}
use Rattle.lfm_laws.specs.steady.Steady.{before, cleared, StampFits, Fits}
use Rattle.lfm_laws.proofs.steady.queue.Carrying.{carried_core, walking, carries_on}
use Rattle.lfm_laws.proofs.steady.frames.Frames.{Errands, place_of_claim}
use Rattle.lfm_laws.proofs.steady.queue.Serving.{Goes, goes_own}

-- the record of seat t, whose link is loaded, and the state after it is added to the pop list
abbrev pub walked_record : Core → ℕ → Record
walked_record c t = loaded t (link c.links t)

abbrev pub walked_on : Core → ℕ → Core
walked_on c t = carried_core c c.push.next (walked_record c t ∷ c.popped)

-- what the carrier finds: the newest record to be collected
pub record Finds (c : Core) (g : Ghost) (t : ℕ) : Type 0 where
  pub some : 0 < g.walk
  pub seat_is : t ≡ g.pushed_at (g.popped + g.walk)
  pub link_is : link c.links t ≡ record { stamp = g.popped + g.walk; next = before g.pushed_at g.popped (g.popped + g.walk) }

pub finds : (c : Core) (g : Ghost) (s t : ℕ) (carrier : Carrier) → (seat c.seats s).point ≡ TakeLinkLoad carrier t → Fits c g → Finds c g t
finds c g s t carrier at fits =
    let knows = rw at at (fits.each s).knows in
    let some = knows.0 in
    let seat_is = knows.1 in
    let here = fits.stamps (g.popped + g.walk) (omega (arith, some)) (omega (arith, fits.words.parts)) in
    record {
      some = some;
      seat_is = seat_is;
      link_is = rw seat_is (here.walked (omega arith));
    }

-- the pop list with the record in front
walked_list : (pushed_at : ℕ → ℕ) (popped walk : ℕ) (list : List Record) (r : Record) → 0 < walk
    → r ≡ record { seat = pushed_at (popped + walk); stamp = popped + walk } → list ≡ records pushed_at (popped + walk) (length list)
    → r ∷ list ≡ records pushed_at (popped + (walk - 1)) (length (r ∷ list))
walked_list pushed_at popped walk list r some first rest =
    let next : popped + (walk - 1) + 1 ≡ popped + walk = omega (arith, some) in
    rw next (λ i. first i ∷ rest i)

walked_stamps : (c : Core) (g : Ghost) (r : Record) → Fits c g → 0 < g.walk → (stamp : ℕ) → g.popped < stamp → stamp ≤ g.pushed
    → StampFits (carried_core c c.push.next (r ∷ c.popped)) (walking g (g.walk - 1)) stamp
walked_stamps c g r fits some stamp above within =
    let so_far : g.popped + (g.walk - 1) + length (r ∷ c.popped) ≡ cleared c g = omega (arith, some) in
    let old = fits.stamps stamp above within in
    record {
      stands = old.stands;
      fresh = rw so_far old.fresh;
      walked = λ upto. old.walked (omega (arith, upto));
    }

-- the carrier goes on to a point at which it may serve with one record fewer to collect
pub walks : (c : Core) (g : Ghost) (s t : ℕ) (carrier : Carrier) (p : Point) → IsSeat c.seats s → (seat c.seats s).point ≡ TakeLinkLoad carrier t → Fits c g → Finds c g t
    → Errands c s (record (seat c.seats s) { point = p })
    → Goes (walked_on c t) (walking g (g.walk - 1)) s (seat c.seats s) (wake c.wakes s) p
    → Fits (put (walked_on c t) s (record (seat c.seats s) { point = p })) (walking g (g.walk - 1))
walks c g s t carrier p is at fits found errands goes =
    let here = fits.each s in
    let claim = rw at at here.claims in
    let place = place_of_claim g.place (serving s) s (λ e. cc) claim in
    let some = found.some in
    let so_far : g.popped + (g.walk - 1) + length (walked_record c t ∷ c.popped) ≡ cleared c g = omega (arith, some) in
    let stamp_is = ap (λ l. l.stamp) found.link_is in
    carries_on c g s (record (seat c.seats s) { point = p }) c.push.next (g.walk - 1) (walked_record c t ∷ c.popped) is fits (record {
      errands = errands;
      serves = place;
      head_or_none = inl refl;
      newest_head = rw so_far fits.words.head;
      parts = omega (arith, so_far, fits.words.parts);
      listed = walked_list g.pushed_at g.popped g.walk c.popped (walked_record c t) some (λ i. record { seat = found.seat_is i; stamp = stamp_is i }) fits.words.listed;
      stamps = walked_stamps c g (walked_record c t) fits some;
      own = goes_own c g s (seat c.seats s) (wake c.wakes s) p c.push.next (g.walk - 1) (walked_record c t ∷ c.popped) place (rw at refl) (rw (place, at) at here.woken) here goes;
    })
