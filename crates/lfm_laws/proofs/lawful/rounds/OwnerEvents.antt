-- What an owner needs after an event. It is lower if the owner goes on or begins a call, except that a store by which a seat
-- becomes the owner adds two rounds, the start of a call that isn't a release five, and a push two.
use Rattle.std.proofs.Common.{◌≡◌, ◌≢◌, ℕ, zero, suc, Bool, true, false, ◌+◌, ◌*◌, ◌≤◌, ◌<◌, length, nat_lt, refl, sym, ap, subst, ◌∙◌, inl, inr, arith, ◌&&◌, if◌then◌else◌}
use Rattle.std.specs.Prelude.{◌⊎◌}
use Rattle.std.proofs.lemmas.Bool.{cases_Bool, cases_eq, eq-eqb, ne_eqb, false≢true}
use Rattle.lfm_model.specs.declared.answers.How.{How}
use Rattle.lfm_model.specs.declared.answers.How.TheVariants.{Queued}
use Rattle.lfm_protocol.specs.declared.answers.Call.{Call}
use Rattle.lfm_protocol.specs.declared.answers.Call.TheVariants.{Lock, TryLock, Unlock, StartWait, SendLock, Receive}
use Rattle.lfm_protocol.specs.declared.limits.Limits.{Limits}
use Rattle.lfm_protocol.specs.declared.points.Entrant.{Entrant}
use Rattle.lfm_protocol.specs.declared.points.Point.{Point}
use Rattle.lfm_protocol.specs.declared.points.Point.TheVariants.{Rest, Asleep, ReleaseOwnerStore, EnterOwnerStore}
use Rattle.lfm_protocol.specs.declared.seats.SeatState.{SeatState}
use Rattle.lfm_words.specs.declared.links.Link.{Link}
use Rattle.lfm_protocol.specs.Begin as Begin
use Rattle.lfm_protocol.specs.Core.{Core, limits}
use Rattle.lfm_protocol.specs.Seats.{seat, is_seat, IsSeat}
use Rattle.lfm_protocol.specs.Step.{made, begin}
use Rattle.lfm_protocol.specs.Turns.{is_refused}
use Rattle.lfm_laws.specs.laws.Events.{pushed_by}
use Rattle.lfm_laws.specs.laws.FairRounds.{RestsOrReleases, rounds_from_rest, rounds_to_release_at, rounds_to_release}
use Rattle.lfm_laws.specs.laws.FullRounds.{BeginsBy, begun_by_owner}
use Rattle.lfm_laws.specs.laws.Overtaking.{enters_at, weighed_in}
use Rattle.lfm_laws.specs.laws.Rounds.{GoesOnBy}
use Rattle.lfm_laws.specs.laws.Schedules.{Event, begins, makes, happens, is_call, pushed_in}
use Rattle.lfm_laws.specs.steady.Ghost.{nobody, owned, Ghost}
use Rattle.lfm_laws.specs.steady.Steady.{Steady, Fits}
use Rattle.lfm_laws.specs.steady.Views.{claim, claim_at, claim_to_enter, held_by, by_depth}
use Rattle.lfm_laws.proofs.lawful.bounds.Beside.{begun_push}
use Rattle.lfm_laws.proofs.lawful.bounds.Leaving.{other_made, begun_other}
use Rattle.lfm_laws.proofs.lawful.bounds.Served.{begun_view}
use Rattle.lfm_laws.proofs.lawful.runs.Reached.{absent_tested}
use Rattle.lfm_laws.proofs.steady.frames.Entries.{seat_or_absent}
use Rattle.lfm_laws.proofs.steady.frames.Seated.{seat_of_test, test_of_seat}
use Rattle.lfm_laws.proofs.lawful.rounds.Asking.{PushWord, stays, rises, clears, push_word}
use Rattle.lfm_laws.proofs.lawful.rounds.Events.{not_own_start}
use Rattle.lfm_laws.proofs.lawful.rounds.Holds.{owner_word, no_seat, begun_owner, begun_turn, fewer, kept, BeginsAt, unlock_at, wait_at, free_event}
use Rattle.lfm_laws.proofs.lawful.rounds.OwnerNeeds.{needs_at, needs_of, owner_needs, needs_two_more, owner_owns, released, nears, idles, owner_step}

-- The outcome of an event

-- the owner goes on, or begins a call
abbrev pub OwnerActs : Core → Event → Type 0
OwnerActs c e = GoesOnBy c c.owner e ⊎ BeginsBy c c.owner e

-- the owner needs a round less, or it has not acted; `more` is what the event adds
pub data OwnerOutcome (c d : Core) (more : ℕ) (acting : Type 0) : Type 0 where
  lowers : owner_needs d + 1 ≤ owner_needs c + more → OwnerOutcome c d more acting
  keeps : d.owner ≡ c.owner → owner_needs d ≤ owner_needs c + more → (acting → ⊥) → OwnerOutcome c d more acting

-- what an event adds to what an owner needs
abbrev pub added_in : Core → Event → ℕ
added_in c e = 2 * weighed_in enters_at c e + 5 * begun_by_owner c e + 2 * length (pushed_in c e)

needs_none : (c : Core) → c.owner ≡ 0 → owner_needs c ≡ 0
needs_none c none = rw (none, absent_tested c.seats 0 refl) refl

-- A step of the owner

owner_made : (c : Core) (g : Ghost) → Fits c g → 0 < c.owner → IsSeat c.seats c.owner
    → OwnerOutcome c (made c c.owner).core (2 * length (pushed_by c c.owner)) (OwnerActs c (makes c.owner))
owner_made c g fits some is =
    let owns = owner_owns c g fits some in
    elim (owner_step c c.owner owns.again (seat c.seats c.owner).point refl is refl owns.counted owns.nothing_posted owns.claims) [
      | released none one ↦ let zero = needs_none (made c c.owner).core none in lowers (omega (arith, zero, one))
      | nears same less ↦
          let same_needs : owner_needs (made c c.owner).core ≡ needs_of (made c c.owner).core c.owner = ap (needs_of (made c c.owner).core) same in
          lowers (omega (arith, less, same_needs))
      | idles same rests ↦
          keeps (ap (λ (x : Core). x.owner) same) (let n = ap owner_needs same in omega (arith, n)) (λ acting. elim acting [
            | inl going ↦ false≢true (rw rests at going.1)
            | inr starting ↦ starting
          ])
    ]

-- A step of another seat

-- it neither owns nor carries
held_none : (c : Core) (g : Ghost) (t : ℕ) → Fits c g → 0 < c.owner → c.owner ≢ t → claim (seat c.seats t) t ≡ nobody
held_none c g t fits some other =
    let owns = owner_owns c g fits some in
    (fits.each t).claims ∙ ap (λ p. held_by p t) owns.place ∙ rw (ne_eqb c.owner t other) refl

enters_held : (s : ℕ) (entrant : Entrant) (how : How) → claim_to_enter s entrant how ≡ nobody → ⊥
enters_held s Entrant.Locker How.Free e = cc
enters_held s Entrant.Locker (Queued stamp) e = cc
enters_held s Entrant.Trier how e = cc
enters_held s Entrant.Receiver how e = cc

enters_none : (depth s : ℕ) (p : Point) → claim_at depth s p ≡ nobody → enters_at p ≡ 0
enters_none depth s (EnterOwnerStore entrant how) none = absurd (enters_held s entrant how none)
enters_none depth s _ none = refl

-- so it doesn't clear the head
two_more : (push after : Link) (pushes depth s : ℕ) (p : Point) (x : SeatState) → claim_at depth s p ≡ nobody → PushWord push after pushes p
    → needs_at after x.depth x.point ≤ needs_at push x.depth x.point + 2 * pushes
two_more push after pushes depth s p x none (stays same) = rw same (omega arith)
two_more push after pushes depth s p x none (rises some) = let more = needs_two_more push after x.depth x.point in omega (arith, more, some)
two_more push after pushes depth s p x none (clears carrier here empty) = absurd (let e = rw here at none in cc)

other_made_outcome : (c : Core) (g : Ghost) (t : ℕ) → Fits c g → 0 < c.owner → c.owner ≢ t
    → OwnerOutcome c (made c t).core (2 * length (pushed_by c t)) (OwnerActs c (makes t))
other_made_outcome c g t fits some other =
    let none = held_none c g t fits some other in
    let owner = owner_word c t (seat c.seats t).point refl (λ releaser at. let e = rw at at none in cc) (enters_none (seat c.seats t).depth t (seat c.seats t).point none) in
    let view = other_made c t c.owner other in
    let more = two_more c.push (made c t).core.push (length (pushed_by c t)) (seat c.seats t).depth t (seat c.seats t).point (seat c.seats c.owner) none (push_word c t (seat c.seats t).point refl) in
    let after : owner_needs (made c t).core ≡ needs_at (made c t).core.push (seat c.seats c.owner).depth (seat c.seats c.owner).point =
    ap (needs_of (made c t).core) owner ∙ ap (λ (x : SeatState). needs_at (made c t).core.push x.depth x.point) view in
    keeps owner (omega (arith, more, after)) (λ acting. elim acting [
      | inl going ↦ other (sym going.0)
      | inr starting ↦ starting
    ])

-- The start of a call

-- the start is refused, or it adds less than five to what the seat needs
data Starts (push : Link) (x y : SeatState) (refused : Bool) : Type 0 where
  refuses : y ≡ x → refused ≡ true → Starts push x y refused
  opens : refused ≡ false → needs_at push y.depth y.point + 1 ≤ needs_at push x.depth x.point + 5 → Starts push x y refused

abbrev StartsAt : Link → SeatState → Limits → Call → Point → Type 0
StartsAt push x limits call p = Starts push x (Begin.begin_at x limits call p).seat (is_refused (Begin.begin_at x limits call p).turn)

rest_is : (depth : ℕ) → depth ≢ 0 → rounds_from_rest depth ≡ depth + 1
rest_is zero some = absurd (some refl)
rest_is (suc nested) some = omega arith

lock_starts : (push : Link) (x : SeatState) (limits : Limits) → x.point ≡ Rest → x.depth ≢ 0 → StartsAt push x limits Lock Rest
lock_starts push x limits at deep =
    let before : needs_at push x.depth x.point ≡ x.depth + 1 = rw at (rest_is x.depth deep) in
    elim (cases_Bool (nat_lt 65534 x.depth)) [
      | inl full ↦ rw full (refuses refl refl)
      | inr room ↦ rw (room, ne_eqb x.depth 0 deep) (opens refl (omega (arith, before)))
    ]

try_starts : (push : Link) (x : SeatState) (limits : Limits) → x.point ≡ Rest → x.depth ≢ 0 → StartsAt push x limits TryLock Rest
try_starts push x limits at deep =
    let before : needs_at push x.depth x.point ≡ x.depth + 1 = rw at (rest_is x.depth deep) in
    elim (cases_Bool (nat_lt 65534 x.depth)) [
      | inl full ↦ rw full (refuses refl refl)
      | inr room ↦ rw (room, ne_eqb x.depth 0 deep) (opens refl (omega (arith, before)))
    ]

send_starts : (push : Link) (x : SeatState) (limits : Limits) (t : ℕ) → x.point ≡ Rest → x.depth ≢ 0 → StartsAt push x limits (SendLock t) Rest
send_starts push x limits t at deep =
    let before : needs_at push x.depth x.point ≡ x.depth + 1 = rw at (rest_is x.depth deep) in
    elim (cases_Bool (nat_lt 0 t && nat_lt t (limits.seats + 1))) [
      | inl known ↦ rw known (opens refl (omega (arith, before)))
      | inr none ↦ rw none (refuses refl refl)
    ]

-- a release lowers what the seat needs
needs_rests : (push : Link) (depth : ℕ) (p : Point) → RestsOrReleases p → needs_at push depth p ≡ rounds_to_release_at depth p
needs_rests push depth Rest rests = refl
needs_rests push depth (ReleaseOwnerStore releaser) rests = refl
needs_rests push depth _ rests = absurd rests

-- The start of a call by the owner

acts_refused : (c : Core) (u : ℕ) (call : Call) → is_refused (begin c u call).turn ≡ true → GoesOnBy c u (begins u call) ⊎ BeginsBy c u (begins u call) → ⊥
acts_refused c u Receive refused (inl going) = false≢true (ap is_refused (sym going.1) ∙ refused)
acts_refused c u Lock refused (inl going) = going
acts_refused c u TryLock refused (inl going) = going
acts_refused c u Unlock refused (inl going) = going
acts_refused c u StartWait refused (inl going) = going
acts_refused c u (SendLock t) refused (inl going) = going
acts_refused c u call refused (inr starting) = false≢true (sym starting.1 ∙ refused)

-- what the owner needs after the start
begun_needs : (c : Core) (call : Call) → IsSeat c.seats c.owner
    → owner_needs (begin c c.owner call).core
    ≡ needs_at c.push (Begin.begin (seat c.seats c.owner) (limits c) call).seat.depth (Begin.begin (seat c.seats c.owner) (limits c) call).seat.point
begun_needs c call is =
    let owner = begun_owner c c.owner call in
    let view = begun_view c c.owner call is (test_of_seat c.seats c.owner is) in
    let push = begun_push c c.owner call in
    ap (needs_of (begin c c.owner call).core) owner ∙ (λ i. needs_at (push i) (view i).depth (view i).point)

begun_refused : (c : Core) (call : Call) (more : ℕ) → IsSeat c.seats c.owner → (Begin.begin (seat c.seats c.owner) (limits c) call).seat ≡ seat c.seats c.owner
    → is_refused (Begin.begin (seat c.seats c.owner) (limits c) call).turn ≡ true → OwnerOutcome c (begin c c.owner call).core more (OwnerActs c (begins c.owner call))
begun_refused c call more is same refused =
    let after = begun_needs c call is ∙ ap (λ (x : SeatState). needs_at c.push x.depth x.point) same in
    keeps (begun_owner c c.owner call) (omega (arith, after)) (acts_refused c c.owner call (ap is_refused (begun_turn c c.owner call is) ∙ refused))

release_begun : (c : Core) (call : Call) → IsSeat c.seats c.owner → (seat c.seats c.owner).point ≡ Rest → BeginsAt (seat c.seats c.owner) (limits c) call (seat c.seats c.owner).point
    → OwnerOutcome c (begin c c.owner call).core 0 (OwnerActs c (begins c.owner call))
release_begun c call is at (kept same refused) = begun_refused c call 0 is same refused
release_begun c call is at (fewer rests less) =
    let x = seat c.seats c.owner in
    let y = (Begin.begin x (limits c) call).seat in
    let before = needs_rests c.push x.depth x.point (rw at tt) in
    let after = begun_needs c call is ∙ needs_rests c.push y.depth y.point rests in
    lowers (omega (arith, before, after, less))

other_begun : (c : Core) (call : Call) → IsSeat c.seats c.owner → (seat c.seats c.owner).point ≡ Rest → StartsAt c.push (seat c.seats c.owner) (limits c) call Rest
    → OwnerOutcome c (begin c c.owner call).core (5 * (if is_refused (begin c c.owner call).turn then 0 else 1)) (OwnerActs c (begins c.owner call))
other_begun c call is at (refuses same refused) =
    begun_refused c call (5 * (if is_refused (begin c c.owner call).turn then 0 else 1)) is
    (ap (λ p. (Begin.begin_at (seat c.seats c.owner) (limits c) call p).seat) at ∙ same)
    (ap (λ p. is_refused (Begin.begin_at (seat c.seats c.owner) (limits c) call p).turn) at ∙ refused)
other_begun c call is at (opens goes most) =
    let turn : is_refused (begin c c.owner call).turn ≡ false =
    ap is_refused (begun_turn c c.owner call is) ∙ ap (λ p. is_refused (Begin.begin_at (seat c.seats c.owner) (limits c) call p).turn) at ∙ goes in
    let after = begun_needs c call is ∙ ap (λ p. needs_at c.push (Begin.begin_at (seat c.seats c.owner) (limits c) call p).seat.depth (Begin.begin_at (seat c.seats c.owner) (limits c) call p).seat.point) at in
    rw turn (lowers (omega (arith, after, most)))

-- an owner between two calls has a depth, and an owner doesn't sleep
deep_rest : (depth s u : ℕ) (again more : Bool) → by_depth depth s again ≡ owned u more → depth ≢ 0
deep_rest depth s u again more holds none = let e = rw (eq-eqb depth 0 none) at holds in cc

at_rest : (c : Core) (call : Call) → IsSeat c.seats c.owner → (seat c.seats c.owner).point ≡ Rest → (seat c.seats c.owner).depth ≢ 0
    → OwnerOutcome c (begin c c.owner call).core (5 * begun_by_owner c (begins c.owner call)) (OwnerActs c (begins c.owner call))
at_rest c Unlock is at deep =
    let x = seat c.seats c.owner in
    release_begun c Unlock is at (subst (λ (p : Point). BeginsAt x (limits c) Unlock p) (sym at) (unlock_at x (limits c) x.depth refl at (omega (arith, deep))))
at_rest c StartWait is at deep =
    let x = seat c.seats c.owner in
    release_begun c StartWait is at (subst (λ (p : Point). BeginsAt x (limits c) StartWait p) (sym at) (wait_at x (limits c) x.depth refl at (omega (arith, deep))))
at_rest c Lock is at deep = rw (eq-eqb c.owner c.owner refl) (other_begun c Lock is at (lock_starts c.push (seat c.seats c.owner) (limits c) at deep))
at_rest c TryLock is at deep = rw (eq-eqb c.owner c.owner refl) (other_begun c TryLock is at (try_starts c.push (seat c.seats c.owner) (limits c) at deep))
at_rest c (SendLock t) is at deep = rw (eq-eqb c.owner c.owner refl) (other_begun c (SendLock t) is at (send_starts c.push (seat c.seats c.owner) (limits c) t at deep))
at_rest c Receive is at deep = rw (eq-eqb c.owner c.owner refl) (other_begun c Receive is at (refuses refl refl))

-- while its call is open, or if it slept, which no owner does, the owner's start is refused
by_point : (c : Core) (again : Bool) (call : Call) (p : Point) → (seat c.seats c.owner).point ≡ p → IsSeat c.seats c.owner → claim_at (seat c.seats c.owner).depth c.owner p ≡ owned c.owner again
    → OwnerOutcome c (begin c c.owner call).core (5 * begun_by_owner c (begins c.owner call)) (OwnerActs c (begins c.owner call))
by_point c again call Rest at is holds = at_rest c call is at (deep_rest (seat c.seats c.owner).depth c.owner c.owner false again holds)
by_point c again call (Asleep sleeper) at is holds = absurd (cc)
by_point c again call p at is holds =
    begun_refused c call (5 * begun_by_owner c (begins c.owner call)) is
    (ap (λ q. (Begin.begin_at (seat c.seats c.owner) (limits c) call q).seat) at)
    (ap (λ q. is_refused (Begin.begin_at (seat c.seats c.owner) (limits c) call q).turn) at)

owner_is : (c : Core) (g : Ghost) → Fits c g → 0 < c.owner → IsSeat c.seats c.owner
owner_is c g fits some =
    elim (seat_or_absent c.seats c.owner) [
      | inl is ↦ is
      | inr absent ↦
          let owns = owner_owns c g fits some in
          absurd (let e : nobody ≡ owned c.owner owns.again = rw absent at owns.claims in cc)
    ]

owner_begun : (c : Core) (g : Ghost) (call : Call) → Fits c g → 0 < c.owner
    → OwnerOutcome c (begin c c.owner call).core (5 * begun_by_owner c (begins c.owner call)) (OwnerActs c (begins c.owner call))
owner_begun c g call fits some =
    let owns = owner_owns c g fits some in
    by_point c owns.again call (seat c.seats c.owner).point refl (owner_is c g fits some) owns.claims

-- by another seat
not_own_begun : (c : Core) (t u : ℕ) (call : Call) → u ≢ t → BeginsBy c u (begins t call) → ⊥
not_own_begun c t u call other starting = other (sym starting.0)

other_started : (c : Core) (t : ℕ) (call : Call) (more : ℕ) → c.owner ≢ t → OwnerOutcome c (begin c t call).core more (OwnerActs c (begins t call))
other_started c t call more other =
    let owner = begun_owner c t call in
    let view = begun_other c t c.owner call other in
    let push = begun_push c t call in
    let after : owner_needs (begin c t call).core ≡ owner_needs c = ap (needs_of (begin c t call).core) owner ∙ (λ i. needs_at (push i) (view i).depth (view i).point) in
    keeps owner (omega (arith, after)) (λ acting. elim acting [
      | inl going ↦ not_own_start c t c.owner call other going
      | inr starting ↦ not_own_begun c t c.owner call other starting
    ])

-- Events

weaker : (c d : Core) (less more : ℕ) (acting : Type 0) → less ≤ more → OwnerOutcome c d less acting → OwnerOutcome c d more acting
weaker c d less more acting le (lowers few) = lowers (omega (arith, few, le))
weaker c d less more acting le (keeps owner few never) = keeps owner (omega (arith, few, le)) never

pub owner_event : (c : Core) (e : Event) → Steady c → 0 < c.owner → OwnerOutcome c (happens c e).core (added_in c e) (OwnerActs c e)
owner_event c (begins t call) steady some =
    elim (cases_eq c.owner t) [
      | inl own ↦
          subst (λ (n : ℕ). OwnerOutcome c (begin c n call).core (added_in c (begins n call)) (OwnerActs c (begins n call))) own
          (weaker c (begin c c.owner call).core (5 * begun_by_owner c (begins c.owner call)) (added_in c (begins c.owner call)) (OwnerActs c (begins c.owner call)) (omega arith)
          (owner_begun c steady.ghost_state call steady.fits some))
      | inr other ↦ other_started c t call (added_in c (begins t call)) other
    ]
owner_event c (makes t) steady some =
    let g : Ghost = steady.ghost_state in
    elim (cases_Bool (is_seat c.seats t)) [
      | inl known ↦
          let is = seat_of_test c.seats t known in
          elim (cases_eq c.owner t) [
            | inl own ↦
                rw known (weaker c (made c t).core (2 * length (pushed_by c t)) (added_in c (makes t)) (OwnerActs c (makes t)) (omega arith)
                (subst (λ (n : ℕ). OwnerOutcome c (made c n).core (2 * length (pushed_by c n)) (OwnerActs c (makes n))) own (owner_made c g steady.fits some (owner_is c g steady.fits some))))
            | inr other ↦
                rw known (weaker c (made c t).core (2 * length (pushed_by c t)) (added_in c (makes t)) (OwnerActs c (makes t)) (omega arith)
                (other_made_outcome c g t steady.fits some other))
          ]
      | inr none ↦
          let absent = absent_tested c.seats t none in
          rw none (keeps refl (omega arith) (λ acting. elim acting [
            | inl going ↦
                let inside : is_call (seat c.seats t).point ≡ true = subst (λ n. is_call (seat c.seats n).point ≡ true) (sym going.0) going.1 in
                false≢true (rw absent at inside)
            | inr starting ↦ starting
          ]))
    ]

-- while no seat owns
free_needs : (c : Core) (e : Event) → c.owner ≡ 0 → owner_needs (happens c e).core ≤ added_in c e
free_needs c e free =
    let held = free_event c e free in
    let before : rounds_to_release c ≡ 0 = no_seat c c.owner free in
    let left = held.left in
    elim (cases_eq (happens c e).core.owner 0) [
      | inl none ↦ let zero = needs_none (happens c e).core none in omega (arith, zero)
      | inr some ↦
          let d = (happens c e).core in
          let same = needs_rests d.push (seat d.seats d.owner).depth (seat d.seats d.owner).point (held.rests (omega (arith, some))) in
          omega (arith, before, left, same)
    ]

pub needs_event : (c : Core) (e : Event) → Steady c → owner_needs (happens c e).core ≤ owner_needs c + added_in c e
needs_event c e steady =
    elim (cases_eq c.owner 0) [
      | inl free ↦ let few = free_needs c e free in omega (arith, few)
      | inr some ↦ elim (owner_event c e steady (omega (arith, some))) [
        | lowers few ↦ omega (arith, few)
        | keeps owner few never ↦ few
      ]
    ]
