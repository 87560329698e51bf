-- A call that has counted a seat and has yet to push it: the rounds that it still needs fall with each of its steps. A push
-- of another seat raises them by at most four: by two, since the next exchange fails, and by two more, since the new head
-- may be cleared before the exchange after that. A clear raises nothing, since the head that it clears has been charged for.
use Rattle.std.proofs.Common.{◌≡◌, ◌≢◌, ℕ, true, ◌+◌, ◌*◌, ◌≤◌, ◌<◌, length, nat_eq, refl, sym, ap, subst, ◌∙◌, inl, inr, arith, if◌then◌else◌}
use Rattle.std.specs.Prelude.{◌⊎◌}
use Rattle.std.proofs.lemmas.Bool.{cases_Bool, cases_eq, eq-eqb, ne_eqb}
use Rattle.lfm_protocol.specs.declared.answers.Call.{Call}
use Rattle.lfm_protocol.specs.declared.kinds.Word.{Word}
use Rattle.lfm_protocol.specs.declared.points.Carrier.{Carrier}
use Rattle.lfm_protocol.specs.declared.points.Point.{Point}
use Rattle.lfm_protocol.specs.declared.points.Point.TheVariants.{LockOwnerLoad, PushLoad, LinkStore, PushExchange, SendPushRecheck, ReleasePushRecheck, TakeClearHead}
use Rattle.lfm_protocol.specs.declared.points.Pusher.{Pusher}
use Rattle.lfm_words.specs.declared.links.Link.{Link}
use Rattle.lfm_protocol.specs.After.{same_link}
use Rattle.lfm_protocol.specs.Core.{Core}
use Rattle.lfm_protocol.specs.Points.{kind, target}
use Rattle.lfm_protocol.specs.Seats.{seat, is_seat, IsSeat}
use Rattle.lfm_protocol.specs.Step.{made, begin}
use Rattle.lfm_laws.specs.laws.BeforePush.{PushesBy}
use Rattle.lfm_laws.specs.laws.Errands.{asks_for_at, asks_for}
use Rattle.lfm_laws.specs.laws.Events.{pushed_at_point, pushed_by}
use Rattle.lfm_laws.specs.laws.Rounds.{GoesOnBy}
use Rattle.lfm_laws.specs.laws.Schedules.{Event, begins, makes, happens, is_call, pushed_in}
use Rattle.lfm_laws.specs.steady.Ghost.{nobody, owned, Ghost}
use Rattle.lfm_laws.specs.steady.Steady.{Steady, Fits, owner_of}
use Rattle.lfm_laws.specs.steady.Views.{claim_at, held_by}
use Rattle.lfm_laws.proofs.lawful.bounds.Beside.{begun_push}
use Rattle.lfm_laws.proofs.lawful.bounds.DueAtPoints.{again_unless, again_unless-le}
use Rattle.lfm_laws.proofs.lawful.bounds.Leaving.{own_made, other_made, begin_leaves}
use Rattle.lfm_laws.proofs.lawful.bounds.StepsFall.{same_link_self}
use Rattle.lfm_laws.proofs.lawful.rounds.Events.{no_start}
use Rattle.lfm_laws.proofs.lawful.rounds.Holds.{owner_place, own_part}
use Rattle.lfm_laws.proofs.lawful.runs.Reached.{absent_tested}
use Rattle.lfm_laws.proofs.lawful.touched.OneWord.{other_word}
use Rattle.lfm_laws.proofs.steady.frames.Seated.{seat_of_test}

-- What a call still needs

-- if the head is cleared, an exchange that expects it fails once more
abbrev left_to_clear : Link → ℕ
left_to_clear push = if nat_eq push.next 0 then 0 else 2

-- the rounds up to the push while the push word stays the same
abbrev left_at : Link → Point → ℕ
left_at push LockOwnerLoad = 4
left_at push (PushLoad pusher) = 3
left_at push (LinkStore pusher seen) = 2 + again_unless (same_link push seen)
left_at push (PushExchange pusher seen) = 1 + again_unless (same_link push seen)
left_at push _ = 0

abbrev left_of : Link → Point → ℕ
left_of push p = left_at push p + left_to_clear push

abbrev pub left_to_push : Core → ℕ → ℕ
left_to_push c s = left_of c.push (seat c.seats s).point

left_to_clear-le : (push : Link) → left_to_clear push ≤ 2
left_to_clear-le push =
    elim (cases_eq push.next 0) [
      | inl none ↦ rw (eq-eqb push.next 0 none) (omega arith)
      | inr some ↦ rw (ne_eqb push.next 0 some) (omega arith)
    ]

left_at-le : (push : Link) (p : Point) → left_at push p ≤ 4
left_at-le push (LinkStore pusher seen) = let most = again_unless-le (same_link push seen) in omega (arith, most)
left_at-le push (PushExchange pusher seen) = let most = again_unless-le (same_link push seen) in omega (arith, most)
left_at-le push _ = omega arith

pub left_to_push-le : (c : Core) (s : ℕ) → left_to_push c s ≤ 6
left_to_push-le c s =
    let first = left_at-le c.push (seat c.seats s).point in
    let second = left_to_clear-le c.push in
    omega (arith, first, second)

asking_at : (depth s : ℕ) (push : Link) (p : Point) → 0 < asks_for_at depth s p → (is_call p ≡ true) × (1 ≤ left_at push p)
asking_at depth s push LockOwnerLoad asks = (refl, omega arith)
asking_at depth s push (PushLoad pusher) asks = (refl, omega arith)
asking_at depth s push (LinkStore pusher seen) asks = (refl, omega arith)
asking_at depth s push (PushExchange pusher seen) asks = (refl, omega arith)
asking_at depth s push _ asks = absurd (omega (arith, asks))

pub left_to_push-some : (c : Core) (s : ℕ) → 0 < asks_for (seat c.seats s) s → 1 ≤ left_to_push c s
left_to_push-some c s asks =
    let least = (asking_at (seat c.seats s).depth s c.push (seat c.seats s).point asks).1 in
    omega (arith, least)

pub asking_call : (c : Core) (s : ℕ) → 0 < asks_for (seat c.seats s) s → is_call (seat c.seats s).point ≡ true
asking_call c s asks = (asking_at (seat c.seats s).depth s c.push (seat c.seats s).point asks).0

-- Its own step

-- it still asks, and needs a round less
record Nears (c d : Core) (s : ℕ) : Type 0 where
  pub asks : 0 < asks_for (seat d.seats s) s
  pub less : left_to_push d s + 1 ≤ left_to_push c s

-- a lock that has counted its seat does not own
not_owner : (c : Core) (g : Ghost) (s : ℕ) → (seat c.seats s).point ≡ LockOwnerLoad → (seat c.seats s).depth ≡ 0 → 0 < s → Fits c g → c.owner ≢ s
not_owner c g s at flat above fits own =
    let word : owner_of g.place ≡ s = sym fits.words.owner ∙ own in
    let place = owner_place g.place (subst (λ (n : ℕ). 0 < n) (sym word) above) in
    let here : g.place ≡ owned s place.0 = place.1 ∙ ap (λ n. owned n place.0) word in
    let claims : claim_at (seat c.seats s).depth s (seat c.seats s).point ≡ owned s place.0 = (fits.each s).claims ∙ ap (λ p. held_by p s) here ∙ own_part s place.0 in
    let none : nobody ≡ owned s place.0 = rw (at, flat) at claims in
    cc

loads_owner : (c : Core) (g : Ghost) (s : ℕ) → (seat c.seats s).point ≡ LockOwnerLoad → IsSeat c.seats s → Fits c g → 0 < asks_for_at (seat c.seats s).depth s LockOwnerLoad
    → Nears c (made c s).core s
loads_owner c g s at is fits asks =
    elim (cases_eq (seat c.seats s).depth 0) [
      | inl flat ↦
          let other = ne_eqb c.owner s (not_owner c g s at flat is.above fits) in
          let view : seat (made c s).core.seats s ≡ record (seat c.seats s) { point = PushLoad Pusher.Locker } = own_made c s is ∙ rw (at, at, other) refl in
          let push : (made c s).core.push ≡ c.push = rw at refl in
          record { asks = rw view is.above; less = rw (view, push, at) (omega arith) }
      | inr deep ↦ absurd (let none = ne_eqb (seat c.seats s).depth 0 deep in let zero : 0 < 0 = rw none at asks in omega (arith, zero))
    ]

own_step : (c : Core) (g : Ghost) (s : ℕ) (p : Point) → (seat c.seats s).point ≡ p → IsSeat c.seats s → Fits c g → 0 < asks_for_at (seat c.seats s).depth s p
    → (0 < length (pushed_at_point c s p)) ⊎ Nears c (made c s).core s
own_step c g s LockOwnerLoad at is fits asks = inr (loads_owner c g s at is fits asks)
own_step c g s (PushLoad pusher) at is fits asks =
    let view : seat (made c s).core.seats s ≡ record (seat c.seats s) { point = LinkStore pusher c.push } = own_made c s is ∙ rw (at, at) refl in
    let push : (made c s).core.push ≡ c.push = rw at refl in
    inr (record { asks = rw view asks; less = rw (view, push, at, same_link_self c.push) (omega arith) })
own_step c g s (LinkStore pusher seen) at is fits asks =
    let view : seat (made c s).core.seats s ≡ record (seat c.seats s) { point = PushExchange pusher seen } = own_made c s is ∙ rw (at, at) refl in
    let push : (made c s).core.push ≡ c.push = rw at refl in
    inr (record { asks = rw view asks; less = rw (view, push, at) (omega arith) })
own_step c g s (PushExchange pusher seen) at is fits asks =
    elim (cases_Bool (same_link c.push seen)) [
      | inl same ↦ inl (rw same (omega arith))
      | inr other ↦
          let view : seat (made c s).core.seats s ≡ record (seat c.seats s) { point = LinkStore pusher c.push } = own_made c s is ∙ rw (at, at, other) refl in
          let push : (made c s).core.push ≡ c.push = rw (at, at, other) refl in
          inr (record { asks = rw view asks; less = rw (view, push, at, other, same_link_self c.push) (omega arith) })
    ]
own_step c g s _ at is fits asks = absurd (omega (arith, asks))

-- A step of another seat

-- the push word stays the same, or a record is pushed, or the head is cleared
pub data PushWord (push after : Link) (pushes : ℕ) (p : Point) : Type 0 where
  stays : after ≡ push → PushWord push after pushes p
  rises : 0 < pushes → PushWord push after pushes p
  clears : (carrier : Carrier) → p ≡ TakeClearHead carrier → after ≡ record { stamp = push.stamp; next = 0 } → PushWord push after pushes p

pub push_word : (c : Core) (t : ℕ) (p : Point) → (seat c.seats t).point ≡ p → PushWord c.push (made c t).core.push (length (pushed_at_point c t p)) p
push_word c t (PushLoad pusher) at = stays (rw at refl)
push_word c t (SendPushRecheck u seen) at = stays (rw at refl)
push_word c t (ReleasePushRecheck releaser) at = stays (rw at refl)
push_word c t (TakeClearHead carrier) at = clears carrier refl (rw at refl)
push_word c t (PushExchange pusher seen) at =
    elim (cases_Bool (same_link c.push seen)) [
      | inl same ↦ rises (rw same (omega arith))
      | inr other ↦ stays (rw (at, at, other) refl)
    ]
push_word c t p at = stays (rw at (other_word c t (target p t) (kind p) Word.Push (λ e. cc)))

two_more : (push after : Link) (p : Point) → left_at after p ≤ left_at push p + 2
two_more push after (LinkStore pusher seen) = let most = again_unless-le (same_link after seen) in omega (arith, most)
two_more push after (PushExchange pusher seen) = let most = again_unless-le (same_link after seen) in omega (arith, most)
two_more push after _ = omega arith

four_more : (push after : Link) (pushes : ℕ) (p q : Point) → PushWord push after pushes q → left_of after p ≤ left_of push p + 4 * pushes
four_more push after pushes p q (stays same) = rw same (omega arith)
four_more push after pushes p q (rises some) =
    let more = two_more push after p in
    let most = left_to_clear-le after in
    omega (arith, more, most, some)
four_more push after pushes p q (clears carrier here empty) =
    elim (cases_eq push.next 0) [
      | inl none ↦
          let same : after ≡ push = empty ∙ (λ i. record { stamp = push.stamp; next = sym none i }) in
          rw same (omega arith)
      | inr some ↦
          let more = two_more push after p in
          let before : left_to_clear push ≡ 2 = rw (ne_eqb push.next 0 some) refl in
          let cleared : left_to_clear after ≡ 0 = rw empty refl in
          omega (arith, more, before, cleared)
    ]

-- An event

-- the call of seat s pushes, or it still asks, and its event has lowered what it needs
pub record Asking (c d : Core) (s own pushes : ℕ) : Type 0 where
  pub asks : 0 < asks_for (seat d.seats s) s
  pub left : left_to_push d s + own ≤ left_to_push c s + 4 * pushes

-- 1 if by this event the call of seat s goes on
abbrev pub own_steps : ℕ → Event → ℕ
own_steps s (begins t call) = 0
own_steps s (makes t) = if nat_eq t s then 1 else 0

asking_made : (c : Core) (t s : ℕ) → Steady c → 0 < asks_for (seat c.seats s) s → IsSeat c.seats t
    → PushesBy c s (makes t) ⊎ Asking c (made c t).core s (own_steps s (makes t)) (length (pushed_by c t))
asking_made c t s steady asks is =
    elim (cases_eq t s) [
      | inl own ↦ elim (own_step c steady.ghost_state s (seat c.seats s).point refl (subst (λ (n : ℕ). IsSeat c.seats n) own is) steady.fits asks) [
        | inl pushes ↦ inl (own, pushes)
        | inr nears ↦
            let less = nears.less in
            inr (rw (own, eq-eqb s s refl) (record { asks = nears.asks; left = omega (arith, less) }))
      ]
      | inr other ↦
          let view = other_made c t s (λ e. other (sym e)) in
          let left = four_more c.push (made c t).core.push (length (pushed_by c t)) (seat c.seats s).point (seat c.seats t).point (push_word c t (seat c.seats t).point refl) in
          inr (rw (ne_eqb t s other) (record { asks = rw view asks; left = rw view (omega (arith, left)) }))
    ]

asking_begun : (c : Core) (t s : ℕ) (call : Call) → 0 < asks_for (seat c.seats s) s → Asking c (begin c t call).core s 0 0
asking_begun c t s call asks =
    let view = (begin_leaves c t s call (asking_call c s asks)).view in
    let push = begun_push c t call in
    record { asks = rw view asks; left = rw (view, push) (omega arith) }

pub asking_event : (c : Core) (e : Event) (s : ℕ) → Steady c → 0 < asks_for (seat c.seats s) s
    → PushesBy c s e ⊎ Asking c (happens c e).core s (own_steps s e) (length (pushed_in c e))
asking_event c (begins t call) s steady asks = inr (asking_begun c t s call asks)
asking_event c (makes t) s steady asks =
    elim (cases_Bool (is_seat c.seats t)) [
      | inl known ↦ rw known (asking_made c t s steady asks (seat_of_test c.seats t known))
      | inr none ↦
          let absent = absent_tested c.seats t none in
          elim (cases_eq t s) [
            | inl own ↦ absurd (let zero : 0 < 0 = rw (← own, absent) at asks in omega (arith, zero))
            | inr other ↦ inr (rw (none, absent, ne_eqb t s other) (record { asks = asks; left = omega arith }))
          ]
    ]

pub goes_on_own : (c : Core) (s : ℕ) (e : Event) → is_call (seat c.seats s).point ≡ true → GoesOnBy c s e → own_steps s e ≡ 1
goes_on_own c s (begins t call) inside going = absurd (no_start c t s call inside going)
goes_on_own c s (makes t) inside going = rw (eq-eqb t s going.0) refl
