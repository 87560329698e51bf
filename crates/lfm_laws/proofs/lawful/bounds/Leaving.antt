-- What an event leaves unchanged: the number of seats, the state of all other seats, and the pop list while another seat
-- serves; and the state of the acting seat after it.
use Rattle.std.proofs.Common.{◌≡◌, ◌≢◌, ℕ, Bool, true, false, Option, Some, None, List, length, refl, sym, ap, ◌∙◌, inl, inr}
use Rattle.std.proofs.lemmas.Bool.{cases_Bool, cases_eq, ne_eqb, false≢true}
use Rattle.lfm_model.specs.declared.answers.How.{How}
use Rattle.lfm_protocol.specs.declared.answers.Call.{Call}
use Rattle.lfm_protocol.specs.declared.kinds.Kind.{Kind}
use Rattle.lfm_protocol.specs.declared.limits.Limits.{Limits}
use Rattle.lfm_protocol.specs.declared.points.Entrant.{Entrant}
use Rattle.lfm_protocol.specs.declared.points.Point.{Point}
use Rattle.lfm_protocol.specs.declared.points.Point.TheVariants.{Rest, Asleep, TakeLinkLoad, GrantWakeStore, EnterOwnerStore}
use Rattle.lfm_protocol.specs.declared.seats.SeatState.{SeatState}
use Rattle.lfm_words.specs.declared.wakes.Wake.{Wake}
use Rattle.lfm_words.specs.declared.wakes.Wake.TheVariants.{Waiting}
use Rattle.lfm_words.specs.Popped.{oldest}
use Rattle.lfm_protocol.specs.After.{idle, after_count_exchange, after_count_add, after_count_subtract, after_owner_load, after_owner_store, after_push_load, after_push_exchange, after_clear_head, after_link_load, after_link_store, after_handoff_load, after_handoff_store, after_handoff_exchange, after_wake_load, after_wake_store, after_wake_exchange, drops_oldest, drops_oldest_at}
use Rattle.lfm_protocol.specs.Begin as Begin
use Rattle.lfm_protocol.specs.Begin.{Stepped}
use Rattle.lfm_protocol.specs.Core.{Core, limits}
use Rattle.lfm_laws.specs.steady.Ghost.{serving, nobody, Ghost}
use Rattle.lfm_protocol.specs.Points.{kind, target}
use Rattle.lfm_laws.specs.laws.Schedules.{is_call}
use Rattle.lfm_protocol.specs.Seats.{seat, link, wake, with_entry, is_seat, IsSeat}
use Rattle.lfm_laws.specs.steady.Steady.{Fits}
use Rattle.lfm_protocol.specs.Step.{claims_word, step_of, made, begin}
use Rattle.lfm_laws.specs.steady.Views.{claim_at, claim_to_enter, held_by}
use Rattle.lfm_laws.proofs.steady.frames.Entries.{seat-with_same, seat-with_other}
use Rattle.lfm_laws.proofs.steady.frames.Frames.{place_of_claim}
use Rattle.lfm_laws.proofs.steady.frames.Seated.{seat_of_point}
use Rattle.lfm_laws.proofs.steady.frames.SameSeats.{seats-claims_word, seats-step_of, seats-begin}
use Rattle.lfm_laws.proofs.steady.queue.Carrying.{nobody_serves}

-- The acting seat

-- what a step of this kind makes of seat s, with target t
abbrev pub stepped_by : Core → ℕ → ℕ → Option Kind → Stepped
stepped_by c s t None = idle (seat c.seats s)
stepped_by c s t (Some Kind.CountExchange) = after_count_exchange (seat c.seats s) c.count
stepped_by c s t (Some Kind.CountAdd) = after_count_add (seat c.seats s) c.count
stepped_by c s t (Some Kind.CountSubtract) = after_count_subtract (seat c.seats s) s c.count (oldest c.popped)
stepped_by c s t (Some Kind.OwnerLoad) = after_owner_load (seat c.seats s) s c.owner
stepped_by c s t (Some Kind.OwnerStore) = after_owner_store (seat c.seats s)
stepped_by c s t (Some Kind.PushLoad) = after_push_load (seat c.seats s) c.push
stepped_by c s t (Some Kind.PushExchange) = after_push_exchange (seat c.seats s) c.push
stepped_by c s t (Some Kind.ClearHead) = after_clear_head (seat c.seats s) c.push
stepped_by c s t (Some Kind.LinkLoad) = after_link_load (seat c.seats s) s (link c.links t)
stepped_by c s t (Some Kind.LinkStore) = after_link_store (seat c.seats s)
stepped_by c s t (Some Kind.HandoffLoad) = after_handoff_load (seat c.seats s) c.handoff
stepped_by c s t (Some Kind.HandoffStore) = after_handoff_store (seat c.seats s)
stepped_by c s t (Some Kind.HandoffExchange) = after_handoff_exchange (seat c.seats s) s c.handoff (oldest c.popped)
stepped_by c s t (Some Kind.WakeLoad) = after_wake_load (seat c.seats s) (wake c.wakes t)
stepped_by c s t (Some Kind.WakeStore) = after_wake_store (seat c.seats s)
stepped_by c s t (Some Kind.WakeExchange) = after_wake_exchange (seat c.seats s) (wake c.wakes t)

-- what the step at its point makes of seat s
abbrev pub stepped : Core → ℕ → Stepped
stepped c s = stepped_by c s (target (seat c.seats s).point s) (kind (seat c.seats s).point)

-- the seats after a step: a step that has a kind changes one entry
data SeatsAfter (c : Core) (s : ℕ) (x : SeatState) (seats : List SeatState) : Type 0 where
  same : seats ≡ c.seats → x ≡ seat c.seats s → SeatsAfter c s x seats
  moved : seats ≡ with_entry c.seats s x → SeatsAfter c s x seats

seats_after : (c : Core) (s t : ℕ) (k : Option Kind) → SeatsAfter c s (stepped_by c s t k).seat (step_of c s t k).core.seats
seats_after c s t None = same refl refl
seats_after c s t (Some Kind.CountExchange) = moved refl
seats_after c s t (Some Kind.CountAdd) = moved refl
seats_after c s t (Some Kind.CountSubtract) = moved refl
seats_after c s t (Some Kind.OwnerLoad) = moved refl
seats_after c s t (Some Kind.OwnerStore) = moved refl
seats_after c s t (Some Kind.PushLoad) = moved refl
seats_after c s t (Some Kind.PushExchange) = moved refl
seats_after c s t (Some Kind.ClearHead) = moved refl
seats_after c s t (Some Kind.LinkLoad) = moved refl
seats_after c s t (Some Kind.LinkStore) = moved refl
seats_after c s t (Some Kind.HandoffLoad) = moved refl
seats_after c s t (Some Kind.HandoffStore) = moved refl
seats_after c s t (Some Kind.HandoffExchange) = moved refl
seats_after c s t (Some Kind.WakeLoad) = moved refl
seats_after c s t (Some Kind.WakeStore) = moved refl
seats_after c s t (Some Kind.WakeExchange) =
    moved (ap (λ seats. with_entry seats s (after_wake_exchange (seat c.seats s) (wake c.wakes t)).seat) (seats-claims_word c t (wake c.wakes t)))

own_after : (c : Core) (s : ℕ) (x : SeatState) (seats : List SeatState) → IsSeat c.seats s → SeatsAfter c s x seats → seat seats s ≡ x
own_after c s x seats is (same all here) = rw all (sym here)
own_after c s x seats is (moved all) = rw all (seat-with_same c.seats s x is)

other_after : (c : Core) (s u : ℕ) (x : SeatState) (seats : List SeatState) → u ≢ s → SeatsAfter c s x seats → seat seats u ≡ seat c.seats u
other_after c s u x seats other (same all here) = rw all refl
other_after c s u x seats other (moved all) = rw all (seat-with_other c.seats s u x other)

pub own_made : (c : Core) (s : ℕ) → IsSeat c.seats s → seat (made c s).core.seats s ≡ (stepped c s).seat
own_made c s is = own_after c s _ _ is (seats_after c s (target (seat c.seats s).point s) (kind (seat c.seats s).point))

pub other_made : (c : Core) (s u : ℕ) → u ≢ s → seat (made c s).core.seats u ≡ seat c.seats u
other_made c s u other = other_after c s u _ _ other (seats_after c s (target (seat c.seats s).point s) (kind (seat c.seats s).point))

pub size_made : (c : Core) (s : ℕ) → length (made c s).core.seats ≡ length c.seats
size_made c s = seats-step_of c s (target (seat c.seats s).point s) (kind (seat c.seats s).point)

-- The pop list

popped_claimed : (c : Core) (t : ℕ) (w : Wake) → (claims_word c t w).popped ≡ c.popped
popped_claimed c t Waiting = refl
popped_claimed c t _ = refl

-- only a link load and a store that drops the oldest record change it

abbrev pub loads_link : Option Kind → Bool
loads_link (Some Kind.LinkLoad) = true
loads_link _ = false

popped_by : (c : Core) (s t : ℕ) (k : Option Kind) → loads_link k ≡ false → drops_oldest (seat c.seats s) ≡ false → (step_of c s t k).core.popped ≡ c.popped
popped_by c s t (Some Kind.LinkLoad) loads drops = absurd (false≢true (sym loads))
popped_by c s t (Some Kind.OwnerStore) loads drops = rw drops refl
popped_by c s t (Some Kind.WakeStore) loads drops = rw drops refl
popped_by c s t (Some Kind.WakeExchange) loads drops = popped_claimed c t (wake c.wakes t)
popped_by c s t _ loads drops = refl

-- only a seat that serves makes such a step

loads_by_server : (depth s : ℕ) (p : Point) → claim_at depth s p ≢ serving s → loads_link (kind p) ≡ false
loads_by_server depth s (TakeLinkLoad carrier next) idles = absurd (idles refl)
loads_by_server depth s _ idles = refl

drops_by_entrant : (s : ℕ) (entrant : Entrant) (how : How) → claim_to_enter s entrant how ≢ serving s → drops_oldest_at (EnterOwnerStore entrant how) ≡ false
drops_by_entrant s Entrant.Locker How.Free idles = refl
drops_by_entrant s Entrant.Locker (How.Queued stamp) idles = absurd (idles refl)
drops_by_entrant s Entrant.Trier how idles = refl
drops_by_entrant s Entrant.Receiver how idles = refl

drops_by_server : (depth s : ℕ) (p : Point) → claim_at depth s p ≢ serving s → drops_oldest_at p ≡ false
drops_by_server depth s (GrantWakeStore carrier granted) idles = absurd (idles refl)
drops_by_server depth s (EnterOwnerStore entrant how) idles = drops_by_entrant s entrant how idles
drops_by_server depth s _ idles = refl

-- while another seat serves, a step leaves the pop list unchanged
pub popped_made : (c : Core) (g : Ghost) (s u : ℕ) → Fits c g → claim_at (seat c.seats u).depth u (seat c.seats u).point ≡ serving u → u ≢ s
    → (made c s).core.popped ≡ c.popped
popped_made c g s u fits serves other =
    let place = place_of_claim g.place (serving u) u (λ e. cc) (sym serves ∙ (fits.each u).claims) in
    let none : held_by g.place s ≡ nobody = rw place (rw (ne_eqb u s other) refl) in
    let idles : claim_at (seat c.seats s).depth s (seat c.seats s).point ≢ serving s =
    λ e. nobody_serves s (sym none ∙ sym (fits.each s).claims ∙ e) in
    popped_by c s (target (seat c.seats s).point s) (kind (seat c.seats s).point) (loads_by_server _ s (seat c.seats s).point idles)
    (drops_by_server _ s (seat c.seats s).point idles)

-- Starts of calls

-- a seat whose call is open begins no other
begins_nothing : (x : SeatState) (limits : Limits) (call : Call) (p : Point) → is_call p ≡ true → (Begin.begin_at x limits call p).seat ≡ x
begins_nothing x limits call Rest inside = absurd (false≢true inside)
begins_nothing x limits call (Asleep sleeper) inside = absurd (false≢true inside)
begins_nothing x limits call _ inside = refl

pub seat_of_call : (c : Core) (s : ℕ) → is_call (seat c.seats s).point ≡ true → IsSeat c.seats s
seat_of_call c s inside = seat_of_point c.seats s (λ e. false≢true (rw e at inside))

pub begun_other : (c : Core) (t s : ℕ) (call : Call) → s ≢ t → seat (begin c t call).core.seats s ≡ seat c.seats s
begun_other c t s call other =
    elim (cases_Bool (is_seat c.seats t)) [
      | inl is ↦ rw is (seat-with_other c.seats t s _ other)
      | inr none ↦ rw none refl
    ]

begun_self : (c : Core) (s : ℕ) (call : Call) → is_call (seat c.seats s).point ≡ true → seat (begin c s call).core.seats s ≡ seat c.seats s
begun_self c s call inside =
    let nothing = begins_nothing (seat c.seats s) (limits c) call (seat c.seats s).point inside in
    elim (cases_Bool (is_seat c.seats s)) [
      | inl is ↦ rw is (seat-with_same c.seats s _ (seat_of_call c s inside) ∙ nothing)
      | inr none ↦ rw none refl
    ]

pub begun_popped : (c : Core) (t : ℕ) (call : Call) → (begin c t call).core.popped ≡ c.popped
begun_popped c t call =
    elim (cases_Bool (is_seat c.seats t)) [
      | inl is ↦ rw is refl
      | inr none ↦ rw none refl
    ]

-- What stays the same for a seat

-- the number of seats and the state of seat s stay the same, and, if s serves, the pop list does too
pub record KeepsSeat (c d : Core) (s : ℕ) : Type 0 where
  pub view : seat d.seats s ≡ seat c.seats s
  pub size : length d.seats ≡ length c.seats
  pub popped : claim_at (seat c.seats s).depth s (seat c.seats s).point ≡ serving s → d.popped ≡ c.popped

pub leaves_all : (c : Core) (s : ℕ) → KeepsSeat c c s
leaves_all c s = record { view = refl; size = refl; popped = λ e. refl }

-- the start of a call keeps all of this for each seat whose call is open
pub begin_leaves : (c : Core) (t s : ℕ) (call : Call) → is_call (seat c.seats s).point ≡ true → KeepsSeat c (begin c t call).core s
begin_leaves c t s call inside =
    record {
      view = elim (cases_eq s t) [
        | inl own ↦ rw own (begun_self c t call (rw own at inside))
        | inr other ↦ begun_other c t s call other
      ];
      size = seats-begin c t call;
      popped = λ e. begun_popped c t call;
    }

-- a step keeps all of this for every other seat
pub step_leaves : (c : Core) (g : Ghost) (t s : ℕ) → Fits c g → s ≢ t → KeepsSeat c (made c t).core s
step_leaves c g t s fits other =
    record {
      view = other_made c t s other;
      size = size_made c t;
      popped = λ serves. popped_made c g t s fits serves other;
    }
