-- The depth of a seat counts its holds: it changes as the turns of the seat say, and no other seat changes it.
use Rattle.std.proofs.Common.{◌≡◌, ◌≢◌, ℕ, Bool, true, false, refl, sym, ap, ◌∙◌, inl, inr}
use Rattle.std.proofs.lemmas.Bool.{cases_Bool, false≢true}
use Rattle.std.specs.Prelude.{Option, Some}
use Rattle.lfm_protocol.specs.declared.answers.Call.{Call}
use Rattle.lfm_protocol.specs.declared.answers.Turn.{Turn}
use Rattle.lfm_protocol.specs.declared.answers.Turn.TheVariants.{Open, Ended, Refused}
use Rattle.lfm_protocol.specs.declared.kinds.Kind.{Kind}
use Rattle.lfm_protocol.specs.declared.points.Point.{Point}
use Rattle.lfm_protocol.specs.declared.points.Point.TheVariants.{ReleaseOwnerStore, EnterOwnerStore}
use Rattle.lfm_protocol.specs.declared.points.Releaser.{Releaser}
use Rattle.lfm_words.specs.declared.wakes.Wake.{Wake}
use Rattle.lfm_protocol.specs.Begin as Begin
use Rattle.lfm_protocol.specs.Core.{Core, limits}
use Rattle.lfm_protocol.specs.Points.{kind, target}
use Rattle.lfm_protocol.specs.Seats.{seat, wake, is_seat, IsSeat}
use Rattle.lfm_protocol.specs.Step.{claims_word, step_of, begin, made, step}
use Rattle.lfm_laws.specs.laws.Depths.{TurnsDepth, DepthCountsHolds}
use Rattle.lfm_laws.specs.laws.Schedules.{begins, makes}
use Rattle.lfm_laws.specs.steady.Ghost.{owned, Ghost}
use Rattle.lfm_laws.specs.steady.Steady.{Fits}
use Rattle.lfm_laws.proofs.lawful.bounds.Leaving.{stepped, own_made, other_made}
use Rattle.lfm_laws.proofs.lawful.calls.SeatBegins.{begin_counts}
use Rattle.lfm_laws.proofs.lawful.calls.SeatSteps.{SaysDepth, gives_up_at, step_counts}
use Rattle.lfm_laws.proofs.lawful.refusals.PlainSteps.{turn_made}
use Rattle.lfm_laws.proofs.steady.frames.Entries.{seat-with_same, seat-with_other}
use Rattle.lfm_laws.proofs.steady.frames.Frames.{place_of_claim}
use Rattle.lfm_laws.proofs.steady.frames.Seated.{seat_of_test}

-- The depth by turn, with the owner word

abbrev has_ended : Turn → Bool
has_ended (Ended answer) = true
has_ended _ = false

turned : (c d : Core) (s : ℕ) (turn : Turn) → (has_ended turn ≡ false → d.owner ≡ c.owner)
    → SaysDepth (seat c.seats s).depth (seat d.seats s).depth turn → TurnsDepth c d s turn
turned c d s Open owner says = inr (record { owner = owner refl; depth = says })
turned c d s (Ended answer) owner says = says
turned c d s (Refused why) owner says = record { owner = owner refl; depth = says }

-- Only its stores change the owner word

abbrev stores_owner : Option Kind → Bool
stores_owner (Some Kind.OwnerStore) = true
stores_owner _ = false

owner_claimed : (c : Core) (t : ℕ) (w : Wake) → (claims_word c t w).owner ≡ c.owner
owner_claimed c t Wake.Waiting = refl
owner_claimed c t _ = refl

owner_by : (c : Core) (s t : ℕ) (k : Option Kind) → stores_owner k ≡ false → (step_of c s t k).core.owner ≡ c.owner
owner_by c s t (Some Kind.OwnerStore) other = absurd (false≢true (sym other))
owner_by c s t (Some Kind.WakeExchange) other = owner_claimed c t (wake c.wakes t)
owner_by c s t _ other = refl

owner_stays : (c : Core) (s : ℕ) (p : Point) → (seat c.seats s).point ≡ p → gives_up_at p ≡ false → has_ended (stepped c s).turn ≡ false → (made c s).core.owner ≡ c.owner
owner_stays c s (EnterOwnerStore entrant how) at stays goes = let ended = rw (at, at) at goes in absurd (false≢true (sym ended))
owner_stays c s (ReleaseOwnerStore releaser) at stays goes = absurd (false≢true (sym stays))
owner_stays c s p at stays goes = owner_by c s (target (seat c.seats s).point s) (kind (seat c.seats s).point) (ap (λ q. stores_owner (kind q)) at)

-- Steps

releases : (c : Core) (g : Ghost) (s : ℕ) (releaser : Releaser) → IsSeat c.seats s → Fits c g → (seat c.seats s).point ≡ ReleaseOwnerStore releaser
    → TurnsDepth c (made c s).core s (made c s).turn
releases c g s releaser is fits at =
    let opens : (made c s).turn ≡ Open = turn_made c s ∙ rw (at, at) refl in
    let claims : owned s false ≡ _ = rw at at (fits.each s).claims in
    let place = place_of_claim g.place (owned s false) s (λ e. cc) claims in
    rw opens (inl (record {
      owned = fits.words.owner ∙ rw place refl;
      empty = rw (at, at) refl;
      before = rw at at (fits.each s).depth;
      after = rw (own_made c s is, at, at) refl;
    }))

own_turns : (c : Core) (g : Ghost) (s : ℕ) (p : Point) → IsSeat c.seats s → Fits c g → (seat c.seats s).point ≡ p → TurnsDepth c (made c s).core s (made c s).turn
own_turns c g s (ReleaseOwnerStore releaser) is fits at = releases c g s releaser is fits at
own_turns c g s p is fits at =
    let says = (step_counts c g s p fits at refl).deep in
    turned c (made c s).core s (made c s).turn (λ goes. owner_stays c s p at refl (rw turn_made at goes)) (rw (own_made c s is, turn_made c s) says)

step_turns : (c : Core) (g : Ghost) (s : ℕ) → Fits c g → TurnsDepth c (step c s).core s (step c s).turn
step_turns c g s fits =
    elim (cases_Bool (is_seat c.seats s)) [
      | inl is ↦ rw is (own_turns c g s (seat c.seats s).point (seat_of_test c.seats s is) fits refl)
      | inr none ↦ rw none (record { owner = refl; depth = refl })
    ]

step_other : (c : Core) (t s : ℕ) → s ≢ t → (seat (step c t).core.seats s).depth ≡ (seat c.seats s).depth
step_other c t s other =
    elim (cases_Bool (is_seat c.seats t)) [
      | inl is ↦ rw is (ap (λ x. x.depth) (other_made c t s other))
      | inr none ↦ rw none refl
    ]

-- Starts of calls

begin_turns : (c : Core) (s : ℕ) (call : Call) → TurnsDepth c (begin c s call).core s (begin c s call).turn
begin_turns c s call =
    let m = Begin.begin (seat c.seats s) (limits c) call in
    let says = (begin_counts (seat c.seats s) (limits c) call (seat c.seats s).point).depth in
    elim (cases_Bool (is_seat c.seats s)) [
      | inl is ↦ rw is (turned c _ s m.turn (λ goes. refl) (rw (seat-with_same c.seats s m.seat (seat_of_test c.seats s is)) says))
      | inr none ↦ rw none (record { owner = refl; depth = refl })
    ]

begin_other : (c : Core) (t s : ℕ) (call : Call) → s ≢ t → (seat (begin c t call).core.seats s).depth ≡ (seat c.seats s).depth
begin_other c t s call other =
    elim (cases_Bool (is_seat c.seats t)) [
      | inl is ↦ rw is (ap (λ x. x.depth) (seat-with_other c.seats t s _ other))
      | inr none ↦ rw none refl
    ]

pub depth_counts_holds : DepthCountsHolds
depth_counts_holds c (begins t call) steady = (λ s other. begin_other c t s call other, begin_turns c t call)
depth_counts_holds c (makes t) steady = (λ s other. step_other c t s other, step_turns c steady.ghost_state t steady.fits)
