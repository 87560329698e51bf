-- While a handoff is posted and the push list has a record, some call will try to take this post. A push makes its call one
-- that will try, and so does the post itself, and an exchange fails only if the post has been taken. A clear-head leaves no
-- record. So this holds by induction over events, from the start. It does not follow from the invariant of the mutex, by
-- which a call that has yet to push may be the only one that watches a post.
use Rattle.std.proofs.Common.{◌≡◌, ℕ, true, ◌+◌, ◌<◌, List, [], ◌∷◌, refl, sym, ap, subst, ◌∙◌, inl, inr, arith}
use Rattle.std.proofs.lemmas.Bool.{cases_Bool, cases_eq, eq-eqb, ne_eqb, false≢true}
use Rattle.lfm_protocol.specs.declared.answers.Call.{Call}
use Rattle.lfm_protocol.specs.declared.kinds.Word.{Word}
use Rattle.lfm_protocol.specs.declared.points.Point.{Point}
use Rattle.lfm_protocol.specs.declared.points.Point.TheVariants.{Rest, Asleep, TryHandoffLoad, TryHandoffExchange, SendPushRecheck, PushLoad, PushExchange, PushedHandoffLoad, PushedHandoffExchange, ReleaseHandoffStore, ReleasePushRecheck, ReleaseHandoffExchange, TakeClearHead}
use Rattle.lfm_protocol.specs.declared.points.Pusher.{Pusher}
use Rattle.lfm_protocol.specs.declared.seats.SeatState.{SeatState}
use Rattle.lfm_words.specs.declared.handoffs.Handoff.{Handoff}
use Rattle.lfm_words.specs.declared.links.Link.{Link}
use Rattle.lfm_protocol.specs.After.{same_link, same_handoff}
use Rattle.lfm_protocol.specs.Core.{Core}
use Rattle.lfm_protocol.specs.Points.{kind, target}
use Rattle.lfm_protocol.specs.Seats.{seat, is_seat, unposted, IsSeat}
use Rattle.lfm_protocol.specs.Step.{made, begin, start}
use Rattle.lfm_laws.specs.laws.Schedules.{Event, begins, makes, happens, is_call, run_of}
use Rattle.lfm_laws.specs.laws.TriedPosts.{WillTry, SeatWillTry, IsTried, PostsWithRecordsAreTried}
use Rattle.lfm_laws.proofs.lawful.bounds.Beside.{begun_push}
use Rattle.lfm_laws.proofs.lawful.bounds.Leaving.{own_made, other_made, begin_leaves}
use Rattle.lfm_laws.proofs.lawful.touched.OneWord.{other_word}
use Rattle.lfm_laws.proofs.steady.frames.Seated.{seat_of_test}

-- A call that will try

pub will_try_same : (c d : Core) (s : ℕ) (x : SeatState) (p : Point) → d.handoff ≡ c.handoff → WillTry c s x p → WillTry d s x p
will_try_same c d s x (PushedHandoffLoad pusher) same tries = tries
will_try_same c d s x (SendPushRecheck t seen) same tries = same ∙ tries
will_try_same c d s x (PushedHandoffExchange pusher seen) same tries = same ∙ tries
will_try_same c d s x (ReleasePushRecheck releaser) same tries = same ∙ tries
will_try_same c d s x (ReleaseHandoffExchange releaser) same tries = same ∙ tries
will_try_same c d s x _ same tries = absurd tries

-- its call is open
pub trier_calls : (c : Core) (s : ℕ) (x : SeatState) (p : Point) → WillTry c s x p → is_call p ≡ true
trier_calls c s x Rest tries = absurd tries
trier_calls c s x (Asleep sleeper) tries = absurd tries
trier_calls c s x _ tries = refl

pub begun_handoff : (c : Core) (t : ℕ) (call : Call) → (begin c t call).core.handoff ≡ c.handoff
begun_handoff c t call =
    elim (cases_Bool (is_seat c.seats t)) [
      | inl is ↦ rw is refl
      | inr none ↦ rw none refl
    ]

-- the same post
pub same_self : (n : Handoff) → same_handoff n n ≡ true
same_self n = rw (eq-eqb n.seat n.seat refl, eq-eqb n.post n.post refl) refl

-- Steps

-- the words stay the same, and if the call that would try is that of the seat which makes the step, some call still will
stays_tried : (c : Core) (t : ℕ) → IsTried c → (made c t).core.handoff ≡ c.handoff → (made c t).core.push ≡ c.push → ((u : ℕ) → SeatWillTry c u → u ≡ t → (w : ℕ) × SeatWillTry (made c t).core w) → IsTried (made c t).core
stays_tried c t tried handoff push own some head =
    let old = tried (subst (λ (n : Handoff). 0 < n.seat) handoff some) (subst (λ (l : Link). 0 < l.next) push head) in
    elim (cases_eq old.0 t) [
      | inl same ↦ own old.0 old.1 same
      | inr other ↦ (old.0, rw (other_made c t old.0 other) (will_try_same c (made c t).core old.0 (seat c.seats old.0) (seat c.seats old.0).point handoff old.1))
    ]

-- a seat at this point will not try
never : (c : Core) (t u : ℕ) (p : Point) → (seat c.seats t).point ≡ p → (WillTry c t (seat c.seats t) p → ⊥) → SeatWillTry c u → u ≡ t → ⊥
never c t u p at not tries same = let here : WillTry c t (seat c.seats t) p = rw (same, at) at tries in not here

will_try_here : (c : Core) (t u : ℕ) (p : Point) → (seat c.seats t).point ≡ p → SeatWillTry c u → u ≡ t → WillTry c t (seat c.seats t) p
will_try_here c t u p at tries same = rw (same, at) at tries

tried_at : (c : Core) (t : ℕ) (p : Point) → (seat c.seats t).point ≡ p → IsSeat c.seats t → IsTried c → IsTried (made c t).core
tried_at c t (ReleaseHandoffStore releaser) at is tried some head =
    let view : seat (made c t).core.seats t ≡ record (seat c.seats t) { point = ReleasePushRecheck releaser; posts = (seat c.seats t).posts + 1 } = own_made c t is ∙ rw (at, at) refl in
    let word : (made c t).core.handoff ≡ record { seat = t; post = (seat c.seats t).posts + 1 } = rw (at, at) refl in
    (t, rw view word)
tried_at c t (PushExchange pusher seen) at is tried some head =
    elim (cases_Bool (same_link c.push seen)) [
      | inl won ↦
          let view : seat (made c t).core.seats t ≡ record (seat c.seats t) { point = PushedHandoffLoad pusher } = own_made c t is ∙ rw (at, at, won) refl in
          (t, rw view tt)
      | inr lost ↦ stays_tried c t tried (rw at refl) (rw (at, at, lost) refl) (λ u tries same. absurd (never c t u (PushExchange pusher seen) at (λ e. e) tries same)) some head
    ]
tried_at c t (PushedHandoffLoad Pusher.Locker) at is tried some head =
    let word : (made c t).core.handoff ≡ c.handoff = rw at refl in
    let above : 0 < c.handoff.seat = subst (λ (n : Handoff). 0 < n.seat) word some in
    let view : seat (made c t).core.seats t ≡ record (seat c.seats t) { point = PushedHandoffExchange Pusher.Locker c.handoff } =
    own_made c t is ∙ rw (at, at, ne_eqb c.handoff.seat 0 (λ e. omega (arith, e, above))) refl in
    (t, rw view word)
tried_at c t (PushedHandoffLoad (Pusher.Sender s)) at is tried some head =
    let word : (made c t).core.handoff ≡ c.handoff = rw at refl in
    let above : 0 < c.handoff.seat = subst (λ (n : Handoff). 0 < n.seat) word some in
    let view : seat (made c t).core.seats t ≡ record (seat c.seats t) { point = SendPushRecheck s c.handoff } =
    own_made c t is ∙ rw (at, at, ne_eqb c.handoff.seat 0 (λ e. omega (arith, e, above))) refl in
    (t, rw view word)
tried_at c t (SendPushRecheck s seen) at is tried some head =
    let handoff : (made c t).core.handoff ≡ c.handoff = rw at refl in
    let push : (made c t).core.push ≡ c.push = rw at refl in
    let above : 0 < c.push.next = subst (λ (l : Link). 0 < l.next) push head in
    stays_tried c t tried handoff push
    (λ u tries same.
    let word : c.handoff ≡ seen = will_try_here c t u (SendPushRecheck s seen) at tries same in
    let view : seat (made c t).core.seats t ≡ record (seat c.seats t) { point = PushedHandoffExchange (Pusher.Sender s) seen } =
    own_made c t is ∙ rw (at, at, ne_eqb c.push.next 0 (λ e. omega (arith, e, above))) refl in
    (t, rw view (handoff ∙ word))) some head
tried_at c t (ReleasePushRecheck releaser) at is tried some head =
    let handoff : (made c t).core.handoff ≡ c.handoff = rw at refl in
    let push : (made c t).core.push ≡ c.push = rw at refl in
    let above : 0 < c.push.next = subst (λ (l : Link). 0 < l.next) push head in
    stays_tried c t tried handoff push
    (λ u tries same.
    let word : c.handoff ≡ record { seat = t; post = (seat c.seats t).posts } = will_try_here c t u (ReleasePushRecheck releaser) at tries same in
    let view : seat (made c t).core.seats t ≡ record (seat c.seats t) { point = ReleaseHandoffExchange releaser } =
    own_made c t is ∙ rw (at, at, ne_eqb c.push.next 0 (λ e. omega (arith, e, above))) refl in
    (t, rw view (handoff ∙ word))) some head
tried_at c t (PushedHandoffExchange pusher seen) at is tried some head =
    elim (cases_Bool (same_handoff c.handoff seen)) [
      | inl won ↦ let none : (made c t).core.handoff ≡ unposted = rw (at, at, won) refl in absurd (let zero = ap (λ (n : Handoff). n.seat) none in omega (arith, zero, some))
      | inr lost ↦
          stays_tried c t tried (rw (at, at, lost) refl) (rw at refl)
          (λ u tries same.
          let word : c.handoff ≡ seen = will_try_here c t u (PushedHandoffExchange pusher seen) at tries same in
          absurd (false≢true (sym lost ∙ rw word (same_self seen)))) some head
    ]
tried_at c t (ReleaseHandoffExchange releaser) at is tried some head =
    elim (cases_Bool (same_handoff c.handoff (record { seat = t; post = (seat c.seats t).posts }))) [
      | inl won ↦ let none : (made c t).core.handoff ≡ unposted = rw (at, at, won) refl in absurd (let zero = ap (λ (n : Handoff). n.seat) none in omega (arith, zero, some))
      | inr lost ↦
          stays_tried c t tried (rw (at, at, lost) refl) (rw at refl)
          (λ u tries same.
          let word : c.handoff ≡ record { seat = t; post = (seat c.seats t).posts } = will_try_here c t u (ReleaseHandoffExchange releaser) at tries same in
          absurd (false≢true (sym lost ∙ rw word (same_self (record { seat = t; post = (seat c.seats t).posts }))))) some head
    ]
tried_at c t (TryHandoffExchange seen) at is tried some head =
    elim (cases_Bool (same_handoff c.handoff seen)) [
      | inl won ↦ let none : (made c t).core.handoff ≡ unposted = rw (at, at, won) refl in absurd (let zero = ap (λ (n : Handoff). n.seat) none in omega (arith, zero, some))
      | inr lost ↦ stays_tried c t tried (rw (at, at, lost) refl) (rw at refl) (λ u tries same. absurd (never c t u (TryHandoffExchange seen) at (λ e. e) tries same)) some head
    ]
tried_at c t (TakeClearHead carrier) at is tried some head =
    let cleared : (made c t).core.push ≡ record { stamp = c.push.stamp; next = 0 } = rw at refl in
    absurd (let zero = ap (λ (l : Link). l.next) cleared in omega (arith, zero, head))
tried_at c t (PushLoad pusher) at is tried some head =
    stays_tried c t tried (rw at refl) (rw at refl) (λ u tries same. absurd (never c t u (PushLoad pusher) at (λ e. e) tries same)) some head
tried_at c t TryHandoffLoad at is tried some head =
    stays_tried c t tried (rw at refl) (rw at refl) (λ u tries same. absurd (never c t u TryHandoffLoad at (λ e. e) tries same)) some head
tried_at c t p at is tried some head =
    stays_tried c t tried (rw at (other_word c t (target p t) (kind p) Word.Handoff (λ e. cc))) (rw at (other_word c t (target p t) (kind p) Word.Push (λ e. cc)))
    (λ u tries same. absurd (never c t u p at (λ e. e) tries same)) some head

-- Events

begun_tried : (c : Core) (t : ℕ) (call : Call) → IsTried c → IsTried (begin c t call).core
begun_tried c t call tried some head =
    let handoff = begun_handoff c t call in
    let push = begun_push c t call in
    let old = tried (subst (λ (n : Handoff). 0 < n.seat) handoff some) (subst (λ (l : Link). 0 < l.next) push head) in
    let inside = trier_calls c old.0 (seat c.seats old.0) (seat c.seats old.0).point old.1 in
    let leaves = begin_leaves c t old.0 call inside in
    (old.0, rw leaves.view (will_try_same c (begin c t call).core old.0 (seat c.seats old.0) (seat c.seats old.0).point handoff old.1))

event_tried : (c : Core) (e : Event) → IsTried c → IsTried (happens c e).core
event_tried c (begins t call) tried = begun_tried c t call tried
event_tried c (makes t) tried =
    elim (cases_Bool (is_seat c.seats t)) [
      | inl known ↦ rw known (tried_at c t (seat c.seats t).point refl (seat_of_test c.seats t known) tried)
      | inr none ↦ rw none tried
    ]

run_tried : (c : Core) (events : List Event) → IsTried c → IsTried (run_of c events)
run_tried c [] tried = tried
run_tried c (e ∷ later) tried = run_tried (happens c e).core later (event_tried c e tried)

-- The law

pub posts_with_records_are_tried : PostsWithRecordsAreTried
posts_with_records_are_tried c is = rw is.here (run_tried (start is.limits) is.events (λ some head. absurd (omega (arith, some))))
