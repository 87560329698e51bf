-- A hold, if owners only release: the rounds that the owner needs rise only with the store by which a seat becomes the
-- owner, to 2, and fall when the owner goes on.
use Rattle.std.proofs.Common.{◌≡◌, ◌≢◌, ℕ, zero, suc, Bool, true, ◌+◌, ◌-◌, ◌*◌, ◌≤◌, ◌<◌, nat_lt, refl, sym, ap, subst, ◌∙◌, inl, inr, arith}
use Rattle.std.specs.Prelude.{◌⊎◌}
use Rattle.std.proofs.lemmas.Bool.{cases_Bool, cases_eq, eq-eqb, ne_eqb, false≢true, lt-ltb, le-ltb}
use Rattle.lfm_protocol.specs.declared.answers.Call.{Call}
use Rattle.lfm_protocol.specs.declared.answers.Call.TheVariants.{Lock, TryLock, Unlock, StartWait, SendLock, Receive}
use Rattle.lfm_protocol.specs.declared.kinds.Word.{Word}
use Rattle.lfm_protocol.specs.declared.limits.Limits.{Limits}
use Rattle.lfm_protocol.specs.declared.points.Point.{Point}
use Rattle.lfm_protocol.specs.declared.points.Point.TheVariants.{Rest, Asleep, ReleaseOwnerStore, EnterOwnerStore, LockOwnerLoad, TryOwnerLoad}
use Rattle.lfm_protocol.specs.declared.points.Releaser.{Releaser}
use Rattle.lfm_protocol.specs.declared.seats.SeatState.{SeatState}
use Rattle.lfm_protocol.specs.Begin as Begin
use Rattle.lfm_protocol.specs.Core.{Core, limits}
use Rattle.lfm_protocol.specs.Points.{kind, target}
use Rattle.lfm_protocol.specs.Seats.{seat, is_seat, IsSeat}
use Rattle.lfm_protocol.specs.Step.{made, begin}
use Rattle.lfm_protocol.specs.Turns.{is_refused}
use Rattle.lfm_laws.specs.laws.Overtaking.{enters_at, weighed_in}
use Rattle.lfm_laws.specs.laws.Schedules.{Event, begins, makes, happens, is_call}
use Rattle.lfm_laws.specs.steady.Ghost as Places
use Rattle.lfm_laws.specs.steady.Ghost.{Responsibility, nobody, owned, Ghost}
use Rattle.lfm_laws.specs.steady.Steady.{Steady, owner_of}
use Rattle.lfm_laws.specs.steady.Views.{claim, claim_at, held_by}
use Rattle.lfm_laws.specs.laws.Rounds.{GoesOnBy}
use Rattle.lfm_laws.specs.laws.FairRounds.{OwnerOnlyReleases, RestsOrReleases, OwnerRestsOrReleases, rounds_to_release_at, rounds_to_release, ReleasesBy}
use Rattle.lfm_laws.proofs.lawful.bounds.LockFree.{idle_made}
use Rattle.lfm_laws.proofs.lawful.bounds.Served.{begun_view}
use Rattle.lfm_laws.proofs.lawful.bounds.Leaving.{own_made, other_made, begun_other, begin_leaves}
use Rattle.lfm_laws.proofs.lawful.runs.Reached.{absent_tested}
use Rattle.lfm_laws.proofs.lawful.touched.OneWord.{other_word}
use Rattle.lfm_laws.proofs.steady.frames.Entries.{seat_or_absent}
use Rattle.lfm_laws.proofs.steady.frames.Seated.{seat_of_test, test_of_seat}
use Rattle.lfm_laws.proofs.lawful.rounds.Events.{not_own_start, no_start}

-- The owner

-- the owner is at depth 1 at least
pub owner_place : (p : Responsibility) → 0 < owner_of p → (again : Bool) × (p ≡ owned (owner_of p) again)
owner_place (owned s again) some = (again, refl)
owner_place nobody some = absurd (omega (arith, some))
owner_place (Places.granted s stamp) some = absurd (omega (arith, some))
owner_place Places.posted some = absurd (omega (arith, some))
owner_place (Places.entering s into stamp) some = absurd (omega (arith, some))
owner_place (Places.accepting s) some = absurd (omega (arith, some))
owner_place (Places.leaving s) some = absurd (omega (arith, some))
owner_place (Places.serving s) some = absurd (omega (arith, some))

deep_at : (depth s : ℕ) (again : Bool) (p : Point) → RestsOrReleases p → claim_at depth s p ≡ owned s again → p ≡ Rest → 0 < depth
deep_at zero s again Rest hold claims rests = let f : nobody ≡ owned s again = claims in absurd (cc)
deep_at (suc d) s again Rest hold claims rests = omega arith
deep_at depth s again (ReleaseOwnerStore releaser) hold claims rests = absurd (cc)
deep_at depth s again _ hold claims rests = absurd hold

pub own_part : (s : ℕ) (again : Bool) → held_by (owned s again) s ≡ owned s again
own_part s again = rw (eq-eqb s s refl) refl

pub owner_deep : (c : Core) → Steady c → OwnerRestsOrReleases c → 0 < c.owner → (seat c.seats c.owner).point ≡ Rest → 0 < (seat c.seats c.owner).depth
owner_deep c steady holds some rests =
    let g : Ghost = steady.ghost_state in
    let word = steady.fits.words.owner in
    let place = owner_place g.place (subst (λ (n : ℕ). 0 < n) word some) in
    let here : g.place ≡ owned c.owner place.0 = place.1 ∙ ap (λ s. owned s place.0) (sym word) in
    let claims : claim (seat c.seats c.owner) c.owner ≡ owned c.owner place.0 =
    (steady.fits.each c.owner).claims ∙ ap (λ p. held_by p c.owner) here ∙ own_part c.owner place.0 in
    deep_at (seat c.seats c.owner).depth c.owner place.0 (seat c.seats c.owner).point (holds some) claims rests

-- An event

-- the rounds that the owner needs to release rise at most by 2 for each seat that becomes the owner
pub record Held (c d : Core) (enters : ℕ) : Type 0 where
  pub rests : OwnerRestsOrReleases d
  pub left : rounds_to_release d ≤ rounds_to_release c + 2 * enters

pub data HoldOutcome (c d : Core) (enters : ℕ) (going : Type 0) : Type 0 where
  lower : OwnerRestsOrReleases d → rounds_to_release d + 1 ≤ rounds_to_release c + 2 * enters → HoldOutcome c d enters going
  same : d.owner ≡ c.owner → seat d.seats d.owner ≡ seat c.seats c.owner → (going → ⊥) → HoldOutcome c d enters going

abbrev pub OwnerGoesOn : Core → Event → Type 0
OwnerGoesOn c e = GoesOnBy c c.owner e ⊎ ReleasesBy c c.owner e

rounds_to_release_same : (c d : Core) → d.owner ≡ c.owner → seat d.seats d.owner ≡ seat c.seats c.owner → rounds_to_release d ≡ rounds_to_release c
rounds_to_release_same c d owner view = ap (λ (x : SeatState). rounds_to_release_at x.depth x.point) view

rests_same : (c d : Core) → d.owner ≡ c.owner → seat d.seats d.owner ≡ seat c.seats c.owner → OwnerRestsOrReleases c → OwnerRestsOrReleases d
rests_same c d owner view rests some = subst (λ (x : SeatState). RestsOrReleases x.point) (sym view) (rests (subst (λ (n : ℕ). 0 < n) owner some))

pub held_of : (c d : Core) (enters : ℕ) (going : Type 0) → OwnerRestsOrReleases c → HoldOutcome c d enters going → Held c d enters
held_of c d enters going rests (lower r less) = record { rests = r; left = omega (arith, less) }
held_of c d enters going rests (same owner view not) =
    let l = rounds_to_release_same c d owner view in record { rests = rests_same c d owner view rests; left = omega (arith, l) }

-- Steps

some_left : (depth : ℕ) (p : Point) → RestsOrReleases p → (p ≡ Rest → 0 < depth) → 1 ≤ rounds_to_release_at depth p
some_left zero Rest hold deep = let d = deep refl in absurd (omega (arith, d))
some_left (suc d) Rest hold deep = omega arith
some_left depth (ReleaseOwnerStore releaser) hold deep = omega arith
some_left depth _ hold deep = absurd hold

pub owner_word : (c : Core) (t : ℕ) (p : Point) → (seat c.seats t).point ≡ p → ((q : Releaser) → p ≢ ReleaseOwnerStore q) → enters_at p ≡ 0 → (made c t).core.owner ≡ c.owner
owner_word c t (ReleaseOwnerStore releaser) at other none = absurd (other releaser refl)
owner_word c t (EnterOwnerStore entrant how) at other none = absurd (omega (arith, none))
owner_word c t LockOwnerLoad at other none = rw at refl
owner_word c t TryOwnerLoad at other none = rw at refl
owner_word c t p at other none = rw at (other_word c t (target p t) (kind p) Word.Owner (λ e. cc))

pub no_seat : (c : Core) (owner : ℕ) → owner ≡ 0 → rounds_to_release_at (seat c.seats owner).depth (seat c.seats owner).point ≡ 0
no_seat c owner none = rw (none, absent_tested c.seats 0 refl) refl

hold_made : (c : Core) (t : ℕ) (p : Point) → (seat c.seats t).point ≡ p → IsSeat c.seats t → OwnerRestsOrReleases c → 0 < c.owner → ((seat c.seats c.owner).point ≡ Rest → 0 < (seat c.seats c.owner).depth)
    → HoldOutcome c (made c t).core (enters_at p) (OwnerGoesOn c (makes t))
hold_made c t (ReleaseOwnerStore releaser) at is rests some deep =
    let none : (made c t).core.owner ≡ 0 = rw (at, at) refl in
    let least = some_left (seat c.seats c.owner).depth (seat c.seats c.owner).point (rests some) deep in
    let zero : rounds_to_release (made c t).core ≡ 0 = no_seat (made c t).core (made c t).core.owner none in
    lower (λ more. absurd (omega (arith, more, none))) (omega (arith, zero, least))
hold_made c t (EnterOwnerStore entrant how) at is rests some deep =
    let own : (made c t).core.owner ≡ t = rw (at, at) refl in
    let view : seat (made c t).core.seats t ≡ record (seat c.seats t) { point = Rest; depth = 1 } = own_made c t is ∙ rw (at, at) refl in
    let least = some_left (seat c.seats c.owner).depth (seat c.seats c.owner).point (rests some) deep in
    let two : rounds_to_release (made c t).core ≡ 2 = ap (λ n. rounds_to_release_at (seat (made c t).core.seats n).depth (seat (made c t).core.seats n).point) own ∙ rw view refl in
    lower (λ more. subst (λ n. RestsOrReleases (seat (made c t).core.seats n).point) (sym own) (rw view tt)) (omega (arith, two, least))
hold_made c t Rest at is rests some deep =
    let core = idle_made c t Rest at refl in
    same (ap (λ (x : Core). x.owner) core) (ap (λ (x : Core). seat x.seats x.owner) core)
    (λ going. elim going [
      | inl makes_it ↦
          let inside : is_call (seat c.seats t).point ≡ true = subst (λ n. is_call (seat c.seats n).point ≡ true) (sym makes_it.0) makes_it.1 in
          false≢true (rw at at inside)
      | inr releases ↦ releases
    ])
hold_made c t p at is rests some deep =
    let owner = owner_word c t p at (λ q e. cc) refl in
    elim (cases_eq c.owner t) [
      | inl own ↦ let hold : RestsOrReleases (seat c.seats t).point = subst (λ (s : ℕ). RestsOrReleases (seat c.seats s).point) own (rests some) in absurd (rw at at hold)
      | inr other ↦ same owner (ap (seat (made c t).core.seats) owner ∙ other_made c t c.owner other)
          (λ going. elim going [
            | inl makes_it ↦ other (sym makes_it.0)
            | inr releases ↦ releases
          ])
    ]

-- while no seat owns
free_made : (c : Core) (t : ℕ) (p : Point) → (seat c.seats t).point ≡ p → IsSeat c.seats t → c.owner ≡ 0 → Held c (made c t).core (enters_at p)
free_made c t (ReleaseOwnerStore releaser) at is free =
    let none : (made c t).core.owner ≡ 0 = rw (at, at) refl in
    let zero : rounds_to_release (made c t).core ≡ 0 = no_seat (made c t).core (made c t).core.owner none in
    record { rests = λ more. absurd (omega (arith, more, none)); left = omega (arith, zero) }
free_made c t (EnterOwnerStore entrant how) at is free =
    let own : (made c t).core.owner ≡ t = rw (at, at) refl in
    let view : seat (made c t).core.seats t ≡ record (seat c.seats t) { point = Rest; depth = 1 } = own_made c t is ∙ rw (at, at) refl in
    let two : rounds_to_release (made c t).core ≡ 2 = ap (λ n. rounds_to_release_at (seat (made c t).core.seats n).depth (seat (made c t).core.seats n).point) own ∙ rw view refl in
    record { rests = λ more. subst (λ n. RestsOrReleases (seat (made c t).core.seats n).point) (sym own) (rw view tt); left = omega (arith, two) }
free_made c t p at is free =
    let none : (made c t).core.owner ≡ 0 = owner_word c t p at (λ q e. cc) refl ∙ free in
    let zero : rounds_to_release (made c t).core ≡ 0 = no_seat (made c t).core (made c t).core.owner none in
    record { rests = λ more. absurd (omega (arith, more, none)); left = omega (arith, zero) }

-- Starts of calls

pub begun_owner : (c : Core) (t : ℕ) (call : Call) → (begin c t call).core.owner ≡ c.owner
begun_owner c t call =
    elim (cases_Bool (is_seat c.seats t)) [
      | inl is ↦ rw is refl
      | inr none ↦ rw none refl
    ]

not_release : (c : Core) (t u : ℕ) (call : Call) → u ≢ t → ReleasesBy c u (begins t call) → ⊥
not_release c t u Unlock other going = other (sym going.0)
not_release c t u StartWait other going = other (sym going.0)
not_release c t u Lock other going = going
not_release c t u TryLock other going = going
not_release c t u Receive other going = going
not_release c t u (SendLock s) other going = going

-- what the start of a release makes of the owner
pub data Begun (x y : SeatState) (refused : Bool) : Type 0 where
  fewer : RestsOrReleases y.point → rounds_to_release_at y.depth y.point + 1 ≤ rounds_to_release_at x.depth x.point → Begun x y refused
  kept : y ≡ x → refused ≡ true → Begun x y refused

abbrev pub BeginsAt : SeatState → Limits → Call → Point → Type 0
BeginsAt x limits call p = Begun x (Begin.begin_at x limits call p).seat (is_refused (Begin.begin_at x limits call p).turn)

pub unlock_at : (x : SeatState) (limits : Limits) (depth : ℕ) → x.depth ≡ depth → x.point ≡ Rest → 0 < depth → BeginsAt x limits Unlock Rest
unlock_at x limits zero deep at some = absurd (omega (arith, some))
unlock_at x limits (suc zero) deep at some =
    let l : rounds_to_release_at x.depth x.point ≡ 2 = rw (deep, at) refl in
    rw (ne_eqb x.depth 0 (λ e. omega (arith, e, deep)), eq-eqb x.depth 1 deep) (fewer tt (omega (arith, l)))
unlock_at x limits (suc (suc d)) deep at some =
    let e : x.depth - 1 ≡ suc d = omega (arith, deep) in
    let l : rounds_to_release_at x.depth x.point ≡ suc d + 2 = rw (deep, at) refl in
    let m : rounds_to_release_at (x.depth - 1) x.point ≡ d + 2 = rw (e, at) refl in
    rw (ne_eqb x.depth 0 (λ e. omega (arith, e, deep)), ne_eqb x.depth 1 (λ e. omega (arith, e, deep))) (fewer (rw at tt) (omega (arith, l, m)))

pub wait_at : (x : SeatState) (limits : Limits) (depth : ℕ) → x.depth ≡ depth → x.point ≡ Rest → 0 < depth → BeginsAt x limits StartWait Rest
wait_at x limits zero deep at some = absurd (omega (arith, some))
wait_at x limits (suc zero) deep at some =
    let l : rounds_to_release_at x.depth x.point ≡ 2 = rw (deep, at) refl in
    elim (cases_Bool (nat_lt x.takes limits.budget)) [
      | inl room ↦ rw (ne_eqb x.depth 0 (λ e. omega (arith, e, deep)), le-ltb 1 x.depth (omega (arith, deep)), room) (fewer tt (omega (arith, l)))
      | inr spent ↦ rw (ne_eqb x.depth 0 (λ e. omega (arith, e, deep)), le-ltb 1 x.depth (omega (arith, deep)), spent) (kept refl refl)
    ]
wait_at x limits (suc (suc d)) deep at some =
    rw (ne_eqb x.depth 0 (λ e. omega (arith, e, deep)), lt-ltb 1 x.depth (omega (arith, deep))) (kept refl refl)

pub refused_at : (x : SeatState) (limits : Limits) (call : Call) (p : Point) → is_call p ≡ true → is_refused (Begin.begin_at x limits call p).turn ≡ true
refused_at x limits call Rest inside = absurd (false≢true inside)
refused_at x limits call (Asleep sleeper) inside = absurd (false≢true inside)
refused_at x limits call _ inside = refl

pub begun_turn : (c : Core) (u : ℕ) (call : Call) → IsSeat c.seats u → (begin c u call).turn ≡ (Begin.begin_at (seat c.seats u) (limits c) call (seat c.seats u).point).turn
begun_turn c u call is = rw (test_of_seat c.seats u is) refl

-- a release that is refused is no release
refused_none : (c : Core) (u t : ℕ) (call : Call) → is_refused (begin c u call).turn ≡ true → ReleasesBy c u (begins t call) → ⊥
refused_none c u t Unlock refused going = false≢true (sym going.1 ∙ refused)
refused_none c u t StartWait refused going = false≢true (sym going.1 ∙ refused)
refused_none c u t Lock refused going = going
refused_none c u t TryLock refused going = going
refused_none c u t Receive refused going = going
refused_none c u t (SendLock s) refused going = going

by_begun : (c : Core) (call : Call) → IsSeat c.seats c.owner → (GoesOnBy c c.owner (begins c.owner call) → ⊥) → BeginsAt (seat c.seats c.owner) (limits c) call (seat c.seats c.owner).point
    → HoldOutcome c (begin c c.owner call).core 0 (OwnerGoesOn c (begins c.owner call))
by_begun c call is never (fewer hold less) =
    let owner = begun_owner c c.owner call in
    let view = ap (seat (begin c c.owner call).core.seats) owner ∙ begun_view c c.owner call is (test_of_seat c.seats c.owner is) in
    let left : rounds_to_release (begin c c.owner call).core ≡ _ = ap (λ (x : SeatState). rounds_to_release_at x.depth x.point) view in
    lower (λ more. subst (λ (x : SeatState). RestsOrReleases x.point) (sym view) hold) (omega (arith, left, less))
by_begun c call is never (kept stays refused) =
    let owner = begun_owner c c.owner call in
    let view = ap (seat (begin c c.owner call).core.seats) owner ∙ begun_view c c.owner call is (test_of_seat c.seats c.owner is) ∙ stays in
    let none = ap is_refused (begun_turn c c.owner call is) ∙ refused in
    same owner view (λ going. elim going [
      | inl it ↦ never it
      | inr releases ↦ refused_none c c.owner c.owner call none releases
    ])

own_begun : (c : Core) (call : Call) (p : Point) → (seat c.seats c.owner).point ≡ p → RestsOrReleases p → IsSeat c.seats c.owner → (p ≡ Rest → 0 < (seat c.seats c.owner).depth) → OwnerOnlyReleases c (begins c.owner call)
    → HoldOutcome c (begin c c.owner call).core 0 (OwnerGoesOn c (begins c.owner call))
own_begun c call (ReleaseOwnerStore releaser) at hold is deep releases =
    let inside : is_call (seat c.seats c.owner).point ≡ true = rw at refl in
    let refused = refused_at (seat c.seats c.owner) (limits c) call (seat c.seats c.owner).point inside in
    let leaves = begin_leaves c c.owner c.owner call inside in
    by_begun c call is (λ going. no_start c c.owner c.owner call inside going) (kept (sym (begun_view c c.owner call is (test_of_seat c.seats c.owner is)) ∙ leaves.view) refused)
own_begun c Unlock Rest at hold is deep releases =
    by_begun c Unlock is (λ going. going)
    (subst (λ (p : Point). BeginsAt (seat c.seats c.owner) (limits c) Unlock p) (sym at) (unlock_at (seat c.seats c.owner) (limits c) (seat c.seats c.owner).depth refl at (deep refl)))
own_begun c StartWait Rest at hold is deep releases =
    by_begun c StartWait is (λ going. going)
    (subst (λ (p : Point). BeginsAt (seat c.seats c.owner) (limits c) StartWait p) (sym at) (wait_at (seat c.seats c.owner) (limits c) (seat c.seats c.owner).depth refl at (deep refl)))
own_begun c Lock Rest at hold is deep releases = absurd (let some = deep refl in omega (arith, some, releases))
own_begun c TryLock Rest at hold is deep releases = absurd (let some = deep refl in omega (arith, some, releases))
own_begun c Receive Rest at hold is deep releases = absurd (let some = deep refl in omega (arith, some, releases))
own_begun c (SendLock s) Rest at hold is deep releases = absurd (let some = deep refl in omega (arith, some, releases))
own_begun c call _ at hold is deep releases = absurd hold

pub owner_seat : (c : Core) → (p : Point) → (seat c.seats c.owner).point ≡ p → RestsOrReleases p → (p ≡ Rest → 0 < (seat c.seats c.owner).depth) → IsSeat c.seats c.owner
owner_seat c p at hold deep =
    elim (seat_or_absent c.seats c.owner) [
      | inl is ↦ is
      | inr absent ↦
          let rests : p ≡ Rest = sym at ∙ ap (λ (x : SeatState). x.point) absent in
          let some = deep rests in
          let zero : (seat c.seats c.owner).depth ≡ 0 = ap (λ (x : SeatState). x.depth) absent in
          absurd (omega (arith, some, zero))
    ]

hold_begun : (c : Core) (t : ℕ) (call : Call) → OwnerRestsOrReleases c → 0 < c.owner → ((seat c.seats c.owner).point ≡ Rest → 0 < (seat c.seats c.owner).depth) → OwnerOnlyReleases c (begins t call)
    → HoldOutcome c (begin c t call).core 0 (OwnerGoesOn c (begins t call))
hold_begun c t call rests some deep releases =
    elim (cases_eq c.owner t) [
      | inl own ↦
          let is = owner_seat c (seat c.seats c.owner).point refl (rests some) deep in
          subst (λ (n : ℕ). HoldOutcome c (begin c n call).core 0 (OwnerGoesOn c (begins n call))) own
          (own_begun c call (seat c.seats c.owner).point refl (rests some) is deep (subst (λ (n : ℕ). OwnerOnlyReleases c (begins n call)) (sym own) releases))
      | inr other ↦
          let owner = begun_owner c t call in
          same owner (ap (seat (begin c t call).core.seats) owner ∙ begun_other c t c.owner call other)
          (λ going. elim going [
            | inl it ↦ not_own_start c t c.owner call other it
            | inr it ↦ not_release c t c.owner call other it
          ])
    ]

-- Events

pub hold_event : (c : Core) (e : Event) → Steady c → OwnerRestsOrReleases c → 0 < c.owner → OwnerOnlyReleases c e → HoldOutcome c (happens c e).core (weighed_in enters_at c e) (OwnerGoesOn c e)
hold_event c (begins t call) steady rests some releases = hold_begun c t call rests some (owner_deep c steady rests some) releases
hold_event c (makes t) steady rests some releases =
    elim (cases_Bool (is_seat c.seats t)) [
      | inl known ↦ rw known (hold_made c t (seat c.seats t).point refl (seat_of_test c.seats t known) rests some (owner_deep c steady rests some))
      | inr none ↦
          let absent = absent_tested c.seats t none in
          rw (none, absent) (same refl refl (λ going. elim going [
            | inl it ↦
                let inside : is_call (seat c.seats t).point ≡ true = subst (λ n. is_call (seat c.seats n).point ≡ true) (sym it.0) it.1 in
                false≢true (rw absent at inside)
            | inr it ↦ it
          ]))
    ]

pub free_event : (c : Core) (e : Event) → c.owner ≡ 0 → Held c (happens c e).core (weighed_in enters_at c e)
free_event c (begins t call) free =
    let none : (begin c t call).core.owner ≡ 0 = begun_owner c t call ∙ free in
    let zero : rounds_to_release (begin c t call).core ≡ 0 = no_seat (begin c t call).core (begin c t call).core.owner none in
    record { rests = λ more. absurd (omega (arith, more, none)); left = omega (arith, zero) }
free_event c (makes t) free =
    elim (cases_Bool (is_seat c.seats t)) [
      | inl known ↦ rw known (free_made c t (seat c.seats t).point refl (seat_of_test c.seats t known) free)
      | inr none ↦ rw (none, absent_tested c.seats t none) (record { rests = λ more. absurd (omega (arith, more, free)); left = omega arith })
    ]

pub held_event : (c : Core) (e : Event) → Steady c → OwnerRestsOrReleases c → OwnerOnlyReleases c e → Held c (happens c e).core (weighed_in enters_at c e)
held_event c e steady rests releases =
    elim (cases_eq c.owner 0) [
      | inl free ↦ free_event c e free
      | inr some ↦ held_of c (happens c e).core (weighed_in enters_at c e) (OwnerGoesOn c e) rests (hold_event c e steady rests (omega (arith, some)) releases)
    ]
