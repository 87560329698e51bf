-- A wake word that is WAITING stays so until a send claims its seat. Only the last step of start_wait stores WAITING.
use Rattle.std.proofs.Common.{◌≡◌, ◌≢◌, ◌⊎◌, ℕ, zero, suc, true, false, ◌+◌, List, length, refl, sym, ap, ◌∙◌, inl, inr, arith}
use Rattle.std.proofs.lemmas.Bool.{cases_eq, cases_lt, eq-eqb, false≢true}
use Rattle.lfm_protocol.specs.declared.points.Carrier.{Carrier}
use Rattle.lfm_protocol.specs.declared.points.Point.{Point}
use Rattle.lfm_protocol.specs.declared.points.Point.TheVariants.{Rest, SendWakeExchange, SendWakeStore, WaitWakeStore, GrantWakeStore, ReceiveWakeStore}
use Rattle.lfm_words.specs.declared.pop_lists.Record.{Record}
use Rattle.lfm_words.specs.declared.wakes.Wake.{Wake}
use Rattle.lfm_words.specs.declared.wakes.Wake.TheVariants.{Quiet, Waiting, Claimed, Grant}
use Rattle.lfm_protocol.specs.Core.{Core}
use Rattle.lfm_laws.specs.steady.Ghost.{entering, apart, queued, Ghost}
use Rattle.lfm_protocol.specs.Seats.{seat, wake, entry, with_entry, IsSeat}
use Rattle.lfm_laws.specs.steady.Steady.{Fits, sleeps_as_waiter}
use Rattle.lfm_protocol.specs.Step.{claims_word, made}
use Rattle.lfm_laws.specs.steady.Views.{claim, is_entered}
use Rattle.lfm_laws.proofs.steady.frames.Entries.{entry-with_same, entry-with_other, length-with_entry, entry_past}
use Rattle.lfm_laws.proofs.steady.frames.Frames.{place_of_claim}
use Rattle.lfm_laws.proofs.steady.queue.Popping.{first_of}
use Rattle.lfm_laws.proofs.steady.frames.Seated.{seat_of_point}
use Rattle.lfm_laws.proofs.steady.grant.Wakings.{IsWaiting, waiting_of}
use Rattle.lfm_condvar_laws.proofs.Invariant.{claims_at, waits_at}

-- what a wake word that is WAITING shows about its seat
pub waiting_tells : (c : Core) (g : Ghost) (t : ℕ) → Fits c g → wake c.wakes t ≡ Waiting
    → IsWaiting g.place (g.standing t) t (seat c.seats t).point
waiting_tells c g t fits word = waiting_of g.place (g.standing t) t (seat c.seats t).point (sym word ∙ (fits.each t).woken)

pub waiting_is_seat : (c : Core) (g : Ghost) (t : ℕ) → Fits c g → wake c.wakes t ≡ Waiting → IsSeat c.seats t
waiting_is_seat c g t fits word =
    let is = waiting_tells c g t fits word in
    seat_of_point c.seats t (λ e. false≢true (rw e at is.sleeps))

-- a seat that rests does not wait
pub rests_unwaiting : (c : Core) (g : Ghost) (t : ℕ) → Fits c g → (seat c.seats t).point ≡ Rest → wake c.wakes t ≢ Waiting
rests_unwaiting c g t fits at word = let is = waiting_tells c g t fits word in false≢true (rw at at is.sleeps)

-- the word of another seat is unchanged
other_word : (wakes : List Wake) (u t : ℕ) (w : Wake) → t ≢ u → wake wakes t ≡ Waiting → wake (with_entry wakes u w) t ≡ Waiting
other_word wakes u t w other e = entry-with_other Quiet wakes u t w other ∙ e

grants_other : (c : Core) (g : Ghost) (s t : ℕ) (carrier : Carrier) (r : Record) → (seat c.seats s).point ≡ GrantWakeStore carrier r
    → Fits c g → wake c.wakes t ≡ Waiting → t ≢ r.seat
grants_other c g s t carrier r at fits word same =
    let is = waiting_tells c g t fits word in
    let knows = rw at at (fits.each s).knows in
    let first = first_of c g r knows.1.0 fits knows.0 knows.1.1 in
    let stands : apart ≡ queued (g.popped + 1) = sym is.stands ∙ ap g.standing same ∙ first.stands in
    cc

enters_other : (c : Core) (g : Ghost) (s t u : ℕ) → (seat c.seats s).point ≡ SendWakeStore u → Fits c g → wake c.wakes t ≡ Waiting
    → t ≢ u
enters_other c g s t u at fits word same =
    let is = waiting_tells c g t fits word in
    let claims : claim (seat c.seats s) s ≡ entering s u 0 = rw at refl in
    let place = place_of_claim g.place (entering s u 0) s (λ e. cc) (sym claims ∙ (fits.each s).claims) in
    let entered : is_entered g.place t ≡ true = rw place (eq-eqb u t (sym same)) in
    false≢true (sym is.unentered ∙ entered)

waits_other : (c : Core) (g : Ghost) (s t : ℕ) (p : Point) → (seat c.seats s).point ≡ p → sleeps_as_waiter p ≡ false → Fits c g
    → wake c.wakes t ≡ Waiting → t ≢ s
waits_other c g s t p at awake fits word same =
    let is = waiting_tells c g t fits word in
    let point : (seat c.seats t).point ≡ p = rw same at in
    false≢true (sym awake ∙ (rw point at is.sleeps))

keeps_at : (c : Core) (g : Ghost) (s t : ℕ) (p : Point) → (seat c.seats s).point ≡ p → claims_at p ≡ false → Fits c g
    → wake c.wakes t ≡ Waiting
    → wake (made c s).core.wakes t ≡ Waiting
keeps_at c g s t (SendWakeExchange u) at before fits word = absurd (false≢true (sym before))
keeps_at c g s t (GrantWakeStore carrier r) at before fits word =
    rw at (other_word c.wakes r.seat t _ (grants_other c g s t carrier r at fits word) word)
keeps_at c g s t (SendWakeStore u) at before fits word = rw at (other_word c.wakes u t _ (enters_other c g s t u at fits word) word)
keeps_at c g s t (ReceiveWakeStore stamp) at before fits word =
    rw at (other_word c.wakes s t _ (waits_other c g s t (ReceiveWakeStore stamp) at refl fits word) word)
keeps_at c g s t (WaitWakeStore released) at before fits word =
    rw at (other_word c.wakes s t _ (waits_other c g s t (WaitWakeStore released) at refl fits word) word)
keeps_at c g s t _ at before fits word = rw at word

-- no step except the claim of a send changes a word that is WAITING
pub stays_waiting : (c : Core) (g : Ghost) (s t : ℕ) → claims_at (seat c.seats s).point ≡ false → Fits c g
    → wake c.wakes t ≡ Waiting
    → wake (made c s).core.wakes t ≡ Waiting
stays_waiting c g s t before fits word = keeps_at c g s t (seat c.seats s).point refl before fits word

-- the claim of a send changes no word that is WAITING except that of its target
pub others_stay_waiting : (c : Core) (s t u : ℕ) → (seat c.seats s).point ≡ SendWakeExchange u → wake c.wakes u ≡ Waiting → t ≢ u
    → wake c.wakes t ≡ Waiting
    → wake (made c s).core.wakes t ≡ Waiting
others_stay_waiting c s t u at found other word = rw (at, found) (other_word c.wakes u t Claimed other word)

-- the claim changes the target's word to CLAIMED
pub claimed_word : (c : Core) (g : Ghost) (s u : ℕ) → (seat c.seats s).point ≡ SendWakeExchange u → wake c.wakes u ≡ Waiting
    → IsSeat c.seats u → Fits c g → wake (made c s).core.wakes u ≡ Claimed
claimed_word c g s u at found is fits =
    rw (at, found) (entry-with_same Quiet c.wakes u Claimed is.above (rw fits.sizes.wakes is.within))

-- the last step of start_wait stores WAITING
pub ends_waiting : (c : Core) (g : Ghost) (s : ℕ) → IsSeat c.seats s → Fits c g → wake (with_entry c.wakes s Waiting) s ≡ Waiting
ends_waiting c g s is fits = entry-with_same Quiet c.wakes s Waiting is.above (rw fits.sizes.wakes is.within)

-- Only the last step of start_wait makes a word WAITING

written_or_left : {A : Type 0} (d : A) (xs : List A) (s : ℕ) (x : A)
    → (entry d (with_entry xs s x) s ≡ x) ⊎ (entry d (with_entry xs s x) s ≡ entry d xs s)
unfolding entry with_entry
written_or_left d xs zero x = inr refl
written_or_left d xs (suc n) x =
    elim (cases_lt n (length xs)) [
      | inl within ↦ inl (entry-with_same d xs (suc n) x (omega arith) (omega arith))
      | inr past ↦
          let size = length-with_entry xs (suc n) x in
          inr (entry_past d (with_entry xs (suc n) x) (suc n) (omega (arith, size)) ∙ sym (entry_past d xs (suc n) (omega arith)))
    ]

was_waiting : (wakes : List Wake) (u t : ℕ) (w : Wake) → w ≢ Waiting → wake (with_entry wakes u w) t ≡ Waiting
    → wake wakes t ≡ Waiting
was_waiting wakes u t w other word =
    elim (cases_eq t u) [
      | inr elsewhere ↦ sym (entry-with_other Quiet wakes u t w elsewhere) ∙ word
      | inl same ↦
          let here : wake (with_entry wakes u w) u ≡ Waiting = rw same at word in
          elim (written_or_left Quiet wakes u w) [
            | inl written ↦ absurd (other (sym written ∙ here))
            | inr left ↦ rw same (sym left ∙ here)
          ]
    ]

was_exchanged : (c : Core) (u t : ℕ) (w : Wake) → wake (claims_word c u w).wakes t ≡ Waiting → wake c.wakes t ≡ Waiting
was_exchanged c u t Waiting word = was_waiting c.wakes u t Claimed (λ e. cc) word
was_exchanged c u t _ word = word

waited_at : (c : Core) (s t : ℕ) (p : Point) → (seat c.seats s).point ≡ p → (t ≢ s) ⊎ (waits_at p ≡ false)
    → wake (made c s).core.wakes t ≡ Waiting → wake c.wakes t ≡ Waiting
waited_at c s t (SendWakeExchange u) at other word = was_exchanged c u t (wake c.wakes u) (rw at at word)
waited_at c s t (GrantWakeStore carrier r) at other word =
    was_waiting c.wakes r.seat t (Grant r.stamp) (λ e. cc) (rw (at, at) at word)
waited_at c s t (SendWakeStore u) at other word = was_waiting c.wakes u t (Grant 0) (λ e. cc) (rw (at, at) at word)
waited_at c s t (ReceiveWakeStore stamp) at other word = was_waiting c.wakes s t Quiet (λ e. cc) (rw (at, at) at word)
waited_at c s t (WaitWakeStore released) at (inl other) word =
    sym (entry-with_other Quiet c.wakes s t Waiting other) ∙ rw (at, at) at word
waited_at c s t (WaitWakeStore released) at (inr none) word = absurd (false≢true (sym none))
waited_at c s t _ at other word = rw at at word

-- a word that is WAITING after a step was so before it, unless it is the word of a seat that makes a step of its own start_wait
pub has_waited : (c : Core) (s t : ℕ) → (t ≢ s) ⊎ (waits_at (seat c.seats s).point ≡ false)
    → wake (made c s).core.wakes t ≡ Waiting → wake c.wakes t ≡ Waiting
has_waited c s t other word = waited_at c s t (seat c.seats s).point refl other word
