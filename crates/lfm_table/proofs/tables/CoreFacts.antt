-- What a steady state guarantees for one seat's step, in the form that the rule of the table needs.
use Rattle.std.proofs.Common.{◌≡◌, ℕ, ◌+◌, ◌<◌, ◌≤◌, Bool, true, false, length, nat_eq, refl, sym, ap, subst, ◌∙◌, arith, inl, inr, if◌then◌else◌}
use Rattle.std.proofs.lemmas.Bool.{cases_eq, ne_eqb, eq-eqb}
use Rattle.lfm_model.specs.declared.answers.How.{How}
use Rattle.lfm_words.specs.declared.links.Link.{Link}
use Rattle.lfm_words.specs.Words.{link_word}
use Rattle.lfm_protocol.specs.declared.points.Carrier.{Carrier}
use Rattle.lfm_protocol.specs.declared.points.Entrant.{Entrant}
use Rattle.lfm_protocol.specs.declared.points.Point.{Point}
use Rattle.lfm_protocol.specs.declared.points.Point.TheVariants.{Rest, Asleep, LockCountAdd, LockOwnerLoad, LockCountSubtract, TryCountExchange, TryOwnerLoad, TryHandoffLoad, TryHandoffExchange, TryCountAdd, SendWakeExchange, SendCountAdd, SendPushRecheck, SendWakeStore, PushLoad, LinkStore, PushExchange, PushedHandoffLoad, PushedHandoffExchange, ReleaseOwnerStore, ReleaseCountSubtract, ReleaseHandoffStore, ReleasePushRecheck, ReleaseHandoffExchange, WaitWakeStore, TakeClearHead, TakeLinkLoad, GrantWakeStore, EnterOwnerStore, ReceiveWakeLoad, ReceiveWakeStore}
use Rattle.lfm_protocol.specs.declared.points.Pusher.{Pusher}
use Rattle.lfm_protocol.specs.declared.seats.SeatState.{SeatState}
use Rattle.lfm_laws.specs.table.Carried.{carries_value}
use Rattle.lfm_protocol.specs.Core.{Core, put, limits}
use Rattle.lfm_laws.specs.steady.Ghost.{apart, Responsibility, nobody, owned, granted, posted, entering, accepting, leaving, serving, Ghost}
use Rattle.lfm_protocol.specs.Points.{kind}
use Rattle.lfm_protocol.specs.Room.{PopFits}
use Rattle.lfm_protocol.specs.Seats.{seat, IsSeat}
use Rattle.lfm_laws.specs.table.Settles.{Settles}
use Rattle.lfm_laws.specs.steady.Steady.{DepthOfPusher, DepthAt, IsSeen, Fits, owner_of, queued_unit}
use Rattle.lfm_laws.specs.steady.Views.{claim_at, claim_of_pusher, claim_to_enter, held_by}
use Rattle.lfm_laws.specs.table.Words.{link_of}
use Rattle.lfm_laws.proofs.steady.frames.Entries.{seat-with_same, length-with_entry}
use Rattle.lfm_laws.proofs.steady.frames.Sums.{sum_bound_less}
use Rattle.lfm_laws.proofs.steady.Room.{pops_of_fits, queued_unit-le}
use Rattle.lfm_laws.proofs.table.Answered.{answered_at_hold}
use Rattle.lfm_laws.proofs.table.Exact.{push_narrow}
use Rattle.lfm_laws.proofs.table.Packing.{link_packed}
use Rattle.lfm_laws.proofs.table.Settled.{settles_keeps, is_seat-with}
use Rattle.lfm_laws.proofs.table.Values.{carried_as_held}
use Rattle.lfm_table.specs.Rule.{CollectsWithin}

-- The owner word

depth_owner : (d s : ℕ) (again b : Bool) → owner_of (if b then nobody else owned s again) ≡ (if b then 0 else s)
depth_owner d s again true = refl
depth_owner d s again false = refl

deep_owner : (d s : ℕ) → 0 < d → s ≡ (if nat_eq d 0 then 0 else s)
deep_owner d s some = rw (ne_eqb d 0 (omega (arith, some))) refl

flat_owner : (d s : ℕ) → d ≡ 0 → 0 ≡ (if nat_eq d 0 then 0 else s)
flat_owner d s none = rw (eq-eqb d 0 none) refl

pusher_owner : (d s : ℕ) (pusher : Pusher) → DepthOfPusher d pusher → owner_of (claim_of_pusher d s pusher) ≡ (if nat_eq d 0 then 0 else s)
pusher_owner d s Pusher.Locker deep = flat_owner d s deep
pusher_owner d s (Pusher.Sender t) deep = depth_owner d s false (nat_eq d 0)

entrant_owner : (s : ℕ) (entrant : Entrant) (how : How) → owner_of (claim_to_enter s entrant how) ≡ 0
entrant_owner s Entrant.Locker How.Free = refl
entrant_owner s Entrant.Locker (How.Queued stamp) = refl
entrant_owner s Entrant.Trier how = refl
entrant_owner s Entrant.Receiver how = refl

-- the seat's claim is to own the mutex exactly if its depth is above 0
claim_owner : (d s : ℕ) (q : Point) → DepthAt d q → owner_of (claim_at d s q) ≡ (if nat_eq d 0 then 0 else s)
claim_owner d s Rest deep = depth_owner d s false (nat_eq d 0)
claim_owner d s LockCountAdd deep = depth_owner d s false (nat_eq d 0)
claim_owner d s LockOwnerLoad deep = depth_owner d s true (nat_eq d 0)
claim_owner d s LockCountSubtract deep = deep_owner d s deep.0
claim_owner d s TryCountExchange deep = depth_owner d s false (nat_eq d 0)
claim_owner d s TryOwnerLoad deep = depth_owner d s false (nat_eq d 0)
claim_owner d s (SendWakeExchange t) deep = depth_owner d s false (nat_eq d 0)
claim_owner d s (SendCountAdd t) deep = depth_owner d s false (nat_eq d 0)
claim_owner d s (PushLoad pusher) deep = pusher_owner d s pusher deep
claim_owner d s (LinkStore pusher seen) deep = pusher_owner d s pusher deep
claim_owner d s (PushExchange pusher seen) deep = pusher_owner d s pusher deep
claim_owner d s (PushedHandoffLoad pusher) deep = pusher_owner d s pusher deep
claim_owner d s (ReleaseOwnerStore releaser) deep = deep_owner d s (omega (arith, deep))
claim_owner d s (EnterOwnerStore entrant how) deep = entrant_owner s entrant how ∙ flat_owner d s deep
claim_owner d s (Asleep sleeper) deep = flat_owner d s deep
claim_owner d s TryHandoffLoad deep = flat_owner d s deep
claim_owner d s (TryHandoffExchange seen) deep = flat_owner d s deep
claim_owner d s TryCountAdd deep = flat_owner d s deep
claim_owner d s (SendPushRecheck t seen) deep = flat_owner d s deep
claim_owner d s (SendWakeStore t) deep = flat_owner d s deep
claim_owner d s (PushedHandoffExchange pusher seen) deep = flat_owner d s deep
claim_owner d s (ReleaseCountSubtract releaser) deep = flat_owner d s deep
claim_owner d s (ReleaseHandoffStore releaser) deep = flat_owner d s deep
claim_owner d s (ReleasePushRecheck releaser) deep = flat_owner d s deep
claim_owner d s (ReleaseHandoffExchange releaser) deep = flat_owner d s deep
claim_owner d s (WaitWakeStore released) deep = flat_owner d s deep
claim_owner d s (TakeClearHead carrier) deep = flat_owner d s deep
claim_owner d s (TakeLinkLoad carrier next) deep = flat_owner d s deep
claim_owner d s (GrantWakeStore carrier oldest) deep = flat_owner d s deep
claim_owner d s (ReceiveWakeLoad sleeper) deep = flat_owner d s deep
claim_owner d s (ReceiveWakeStore stamp) deep = flat_owner d s deep

owner_if : (t s : ℕ) (q : Responsibility) → owner_of q ≡ 0 → owner_of (if nat_eq t s then q else nobody) ≡ 0
owner_if t s q none = elim (cases_eq t s) [ inl e ↦ rw (eq-eqb t s e) none | inr n ↦ rw (ne_eqb t s n) refl ]

owner_held : (t s : ℕ) (again : Bool) → 0 < s → owner_of (held_by (owned t again) s) ≡ s → t ≡ s
owner_held t s again some e =
    elim (cases_eq t s) [ inl same ↦ same | inr other ↦ absurd (let z = rw (ne_eqb t s other) at e in omega (arith, some, z)) ]

held_owner : (t s : ℕ) (again : Bool) → t ≡ s → owner_of (held_by (owned t again) s) ≡ s
held_owner t s again e = rw (eq-eqb t s e) e

-- if the owner word is a seat's number, the place that this seat sees has it as its owner
owner_by : (place : Responsibility) (s : ℕ) → 0 < s → owner_of place ≡ s → owner_of (held_by place s) ≡ s
owner_by (owned t again) s some e = held_owner t s again e
owner_by _ s some e = absurd (omega (arith, some, e))

owner_of_held : (place : Responsibility) (s : ℕ) → 0 < s → owner_of (held_by place s) ≡ s → owner_of place ≡ s
owner_of_held (owned t again) s some e = owner_held t s again some e
owner_of_held nobody s some e = absurd (omega (arith, some, e))
owner_of_held (granted t stamp) s some e = absurd (omega (arith, some, e))
owner_of_held posted s some e = absurd (omega (arith, some, e))
owner_of_held (entering t into stamp) s some e = absurd (let z = owner_if t s (entering t into stamp) refl in omega (arith, some, e, z))
owner_of_held (accepting t) s some e = absurd (let z = owner_if t s (accepting t) refl in omega (arith, some, e, z))
owner_of_held (leaving t) s some e = absurd (let z = owner_if t s (leaving t) refl in omega (arith, some, e, z))
owner_of_held (serving t) s some e = absurd (let z = owner_if t s (serving t) refl in omega (arith, some, e, z))

zero_or : (d s : ℕ) → 0 < s → (if nat_eq d 0 then 0 else s) ≡ s → 0 < d
zero_or d s some e = elim (cases_eq d 0) [ inl z ↦ absurd (let f = rw (eq-eqb d 0 z) at e in omega (arith, some, f)) | inr n ↦ omega (arith, n) ]

-- the owner word is the seat's number exactly if its depth is above 0
pub owner_told : (c : Core) (g : Ghost) (s : ℕ) → IsSeat c.seats s → Fits c g → (c.owner ≡ s → 0 < (seat c.seats s).depth) × (0 < (seat c.seats s).depth → c.owner ≡ s)
owner_told c g s is fits =
    let x = seat c.seats s in
    let here = fits.each s in
    let mine : owner_of (held_by g.place s) ≡ (if nat_eq x.depth 0 then 0 else s) = ap owner_of (sym here.claims) ∙ claim_owner x.depth s x.point here.depth in (
      (λ e. zero_or x.depth s is.above (sym mine ∙ owner_by g.place s is.above (sym fits.words.owner ∙ e))),
      (λ deep. fits.words.owner ∙ owner_of_held g.place s is.above (mine ∙ sym (deep_owner x.depth s deep))),
    )

-- The pop list

-- if a seat has no record, the pop list and the record that is collected next are at most as many as the other seats
walk_room : (c : Core) (g : Ghost) (s : ℕ) → Fits c g → IsSeat c.seats s → g.standing s ≡ apart → 0 < g.walk → length c.popped + 2 ≤ length c.seats
walk_room c g s fits is stands some =
    let none : queued_unit (g.standing s) + 1 ≤ 1 = rw stands (omega arith) in
    let most = sum_bound_less (length c.seats) 1 s (λ t. queued_unit (g.standing t)) is.above is.within (λ t. queued_unit-le (g.standing t)) none in
    omega (arith, most, fits.sums.queued, fits.words.parts, some)

-- A seat whose data have become p without a step

module _ (c : Core) (g : Ghost) (s : ℕ) (p : SeatState) (is : IsSeat c.seats s) (fits : Fits c g) (settles : Settles (seat c.seats s) (limits c) p) where
  abbrev d : Core
  d = put c s p

  pub settled : Fits d g
  settled = settles_keeps c g s p is fits settles

  is_there : IsSeat d.seats s
  is_there = is_seat-with c.seats s s p is

  pub here : seat d.seats s ≡ p
  here = seat-with_same c.seats s p is

  -- the seat carries the value exactly if it did before
  pub carried_same : carries_value (seat c.seats s) ≡ carries_value p
  carried_same = carried_as_held c g s fits ∙ sym (carried_as_held d g s settled) ∙ ap carries_value here

  pub depth_at : DepthAt p.depth p.point
  depth_at = subst (λ (x : SeatState). DepthAt x.depth x.point) here (settled.each s).depth

  pub room : PopFits (length c.popped) (length c.seats) (kind p.point)
  room = subst (λ (t : ℕ × SeatState). PopFits (length c.popped) t.0 (kind t.1.point)) (λ i. (length-with_entry c.seats s p i, here i)) (pops_of_fits d g s settled)

  pub stamp_told : (entrant : Entrant) (stamp : ℕ) → p.point ≡ EnterOwnerStore entrant (How.Queued stamp) → g.answered + 1 ≡ stamp
  stamp_told entrant stamp at = answered_at_hold d g s entrant stamp settled (ap (λ (x : SeatState). x.point) here ∙ at)

  pub owner_found : (c.owner ≡ s → 0 < p.depth) × (0 < p.depth → c.owner ≡ s)
  owner_found = subst (λ (x : SeatState). (c.owner ≡ s → 0 < x.depth) × (0 < x.depth → c.owner ≡ s)) here (owner_told d g s is_there settled)

  pub push_seen : (pusher : Pusher) (old : Link) → p.point ≡ PushExchange pusher old → IsSeen c.push old
  push_seen pusher old at = let knows = rw (ap (λ (x : SeatState). x.point) here ∙ at) at (settled.each s).knows in knows.1

  collects_at : (q : Point) → (seat d.seats s).point ≡ q → CollectsWithin (length d.popped) (length d.seats) q
  collects_at (TakeLinkLoad (Carrier.Releaser releaser) next) at = walk_room d g s settled is_there (rw at at (settled.each s).stands) (rw at at (settled.each s).knows).0
  collects_at (TakeLinkLoad (Carrier.Reclaimer releaser) next) at = walk_room d g s settled is_there (rw at at (settled.each s).stands) (rw at at (settled.each s).knows).0
  collects_at (TakeLinkLoad Carrier.Sender next) at = walk_room d g s settled is_there (rw at at (settled.each s).stands) (rw at at (settled.each s).knows).0
  collects_at _ at = tt

  -- if a releaser or a sender collects, its own seat has no record
  pub collects : CollectsWithin (length c.popped) (length c.seats) p.point
  collects = subst (λ (n : ℕ). CollectsWithin (length c.popped) n p.point) (length-with_entry c.seats s p) (collects_at p.point (ap (λ (x : SeatState). x.point) here))

  pub push_found : link_of (link_word c.push) ≡ c.push
  push_found = link_packed c.push (push_narrow c g fits)
