-- The steps of a lock up to the point at which its seat holds the mutex, sleeps, or has taken a post over.
use Rattle.std.proofs.Common.{◌≡◌, ◌≢◌, ℕ, ◌+◌, ◌-◌, ◌*◌, ◌^◌, ◌<◌, ◌≤◌, List, [], ◌∷◌, ◌++◌, length, nat_eq, nat_lt, if◌then◌else◌, refl, sym, ap, ◌∙◌, subst, inl, inr, arith, tests, length-append, Option}
use Rattle.std.specs.Prelude.{⊤, Bool, not, true, false}
use Rattle.std.proofs.lemmas.Bool.{cases_eq, eq-eqb, eqb-true, ne_eqb, not-false, not-true}
use Rattle.std.proofs.lemmas.Nat.{div-add-mod'}
use Rattle.lfm_model.specs.declared.answers.How.{How}
use Rattle.lfm_words.specs.declared.handoffs.Handoff.{Handoff}
use Rattle.lfm_words.specs.declared.links.Link.{Link}
use Rattle.lfm_words.specs.declared.pop_lists.Record.{Record}
use Rattle.lfm_words.specs.Popped.{oldest}
use Rattle.atomic_table.specs.Table.{Me}
use Rattle.lfm_words.specs.Words.{handoff_of, handoff_word, is_posted_word, link_of, link_word, seat_field_size}
use Rattle.lfm_protocol.specs.After.{same_handoff, same_link, take}
use Rattle.lfm_protocol.specs.declared.answers.Call.{Call}
use Rattle.lfm_protocol.specs.declared.kinds.Kind.{Kind}
use Rattle.lfm_protocol.specs.declared.limits.Limits.{Limits}
use Rattle.lfm_protocol.specs.declared.points.Carrier.{Carrier}
use Rattle.lfm_protocol.specs.declared.points.Entrant.{Entrant}
use Rattle.lfm_protocol.specs.declared.points.Point.{Point}
use Rattle.lfm_protocol.specs.declared.points.Point.TheVariants.{Rest, Asleep, LockCountAdd, LockOwnerLoad, PushLoad, LinkStore, PushedHandoffLoad, PushedHandoffExchange, EnterOwnerStore}
use Rattle.lfm_protocol.specs.declared.points.Pusher.{Pusher}
use Rattle.lfm_protocol.specs.declared.points.Sleeper.TheVariants as Sleeper
use Rattle.lfm_protocol.specs.declared.seats.SeatState.{SeatState}
use Rattle.lfm_protocol.specs.Begin as Begin
use Rattle.lfm_protocol.specs.Points.{kind}
use Rattle.lfm_laws.specs.steady.Steady.{IsSeen}
use Rattle.lfm_laws.specs.table.Carried.{carries_value}
use Rattle.lfm_laws.specs.table.Words.{stepped_by}
use Rattle.lfm_laws.proofs.table.Packing.{same_link_word}
use Rattle.lfm_table.specs.declared.operations.Access.{Access}
use Rattle.lfm_table.specs.declared.seat_view.Seen.{Seen}
use Rattle.lfm_table.specs.declared.seat_view.View.{View}
use Rattle.lfm_table.specs.Actions.{seen}
use Rattle.lfm_table.proofs.tables.StepFacts.{carrying, made_of, taking}
use Rattle.lfm_pool.specs.declared.ask.Asking.{Asking}
use Rattle.lfm_pool.specs.declared.pool.Pool.{Pool}
use Rattle.lfm_pool.specs.declared.pool.TableSeat.{TableSeat}
use Rattle.lfm_pool.specs.declared.view.PoolView.{PoolView}
use Rattle.lfm_pool.specs.Admissions.{IsAdmittedIn, pushes}
use Rattle.lfm_pool.specs.Ask.{AsksIn, AskSteps, FindsChanges, IsChanged, IsReadyAfter, MakesBesideFailuresIn, PushSteps, QueuesIn, QueueSteps, StepsIfPosted, TakeOverSteps, WaitsIn, asked, asked_point, attempt, attempts, failed_pushes}
use Rattle.lfm_pool.specs.Belongs.{SameSeat}
use Rattle.lfm_pool.specs.Chain.{note_since}
use Rattle.lfm_pool.specs.FastPaths.{KnowsMoreOf}
use Rattle.lfm_pool.specs.Finds.{Finds}
use Rattle.lfm_pool.specs.Handoff.{forgotten}
use Rattle.lfm_pool.specs.Moves.{Made, MakesIn, MayStepIn, StartsIn}
use Rattle.lfm_pool.specs.Push.{FindsHandoffIn, LoadsHandoff, LoadsHandoffIn, LoadsPush, LoadsPushIn, PushesIn, StepsFrom, TakesOverIn, TakesPost, TakesWord, TakesWordIn}
use Rattle.lfm_pool.specs.SeatWords.{StoresLink}
use Rattle.lfm_pool.specs.Seats.{MayTryIn, MovesIn, note_of, state_of}
use Rattle.lfm_pool.specs.Steps.{IsPlainAccessOf, begun_in}
use Rattle.lfm_pool.specs.Tables.{part}
use Rattle.lfm_pool.proofs.Admitted.{admitted_made}
use Rattle.lfm_pool.proofs.FastPaths.{part_now}
use Rattle.lfm_pool.proofs.Forgotten.{forgets_none, may_forgotten}
use Rattle.lfm_pool.proofs.Keeping.{idle_at}
use Rattle.lfm_pool.proofs.SeveralSteps.{enters_by, holds_after, inside, join, may_then, next_access, packs_handoff, part_after, same_then, start_made, state_after, then_carry, then_move, whole_after}
use Rattle.lfm_pool.proofs.Trying.{posts_differ, same_post}

-- Push words

packs_link : (n : ℕ) → link_word (link_of n) ≡ n
packs_link n = div-add-mod' n 65536

next_fits : (n : ℕ) → (link_of n).next < seat_field_size
next_fits n = omega arith

-- different words hold different links
links_differ : (word n : ℕ) → n ≢ word → same_link (link_of n) (link_of word) ≡ false
links_differ word n other =
    same_link_word (link_of n) (link_of word) (next_fits n) (next_fits word) ∙ ne_eqb (link_word (link_of n)) (link_word (link_of word)) (λ e. other (sym (packs_link n) ∙ (e ∙ packs_link word)))

same_push : (word n : ℕ) → n ≡ word → same_link (link_of n) (link_of word) ≡ true
same_push word n e =
    let stamp = eq-eqb (link_of n).stamp (link_of word).stamp (ap (λ (m : ℕ). (link_of m).stamp) e) in
    let next = eq-eqb (link_of n).next (link_of word).next (ap (λ (m : ℕ). (link_of m).next) e) in
    rw (stamp, next) refl

same_word : (word n : ℕ) → (link_of n).stamp ≡ (link_of word).stamp → (link_of n).next ≡ (link_of word).next → n ≡ word
same_word word n stamp next = sym (packs_link n) ∙ ((λ i. link_word (record { stamp = stamp i; next = next i })) ∙ packs_link word)

-- an exchange that found another word has found one that another seat has changed
changed : (word n : ℕ) → IsSeen (link_of n) (link_of word) → n ≢ word → IsChanged word n
changed word n is other =
    elim (cases_eq (link_of n).stamp (link_of word).stamp) [
      | inr differs ↦ inl (let older = is.older in omega (arith, differs, older))
      | inl stamp ↦ elim (is.same (sym stamp)) [
        | inl next ↦ absurd (other (same_word word n stamp next))
        | inr none ↦ elim (cases_eq (link_of word).next 0) [
          | inl empty ↦ absurd (other (same_word word n stamp (none ∙ sym empty)))
          | inr some ↦ inr (stamp, none, omega (arith, some))
        ]
      ]
    ]

changed_differs : (word n : ℕ) → IsChanged word n → n ≢ word
changed_differs word n (inl later) same = let e = ap (λ (m : ℕ). (link_of m).stamp) same in omega (arith, e, later)
changed_differs word n (inr h) same = let e = ap (λ (m : ℕ). (link_of m).next) same in let none = h.1 in let some = h.2 in omega (arith, e, none, some)

-- How many changes of this push word there can be: two for each stamp that is left, and one that clears the list

abbrev pub changes_left : ℕ → ℕ
changes_left word = 2 * (2 ^ 48 - (link_of word).stamp) + (if nat_eq (link_of word).next 0 then 0 else 1)

head_unit : (next : ℕ) → (if nat_eq next 0 then 0 else 1) ≤ 1
head_unit next = elim (cases_eq next 0) [ inl e ↦ rw (eq-eqb next 0 e) (omega arith) | inr e ↦ rw (ne_eqb next 0 e) (omega arith) ]

changes_fall : (word n : ℕ) → (link_of word).stamp < 2 ^ 48 → IsChanged word n → changes_left n < changes_left word
changes_fall word n small (inl later) = let h = head_unit (link_of n).next in omega (arith, h, later, small)
changes_fall word n small (inr h) =
    let stamp = h.0 in
    let positive = h.2 in
    let some : (link_of word).next ≢ 0 = λ e. omega (arith, e, positive) in
    let a : ◌≡◌ {A = ℕ} (if nat_eq (link_of n).next 0 then 0 else 1) 0 = rw (eq-eqb (link_of n).next 0 h.1) refl in
    let b : ◌≡◌ {A = ℕ} (if nat_eq (link_of word).next 0 then 0 else 1) 1 = rw (ne_eqb (link_of word).next 0 some) refl in
    omega (arith, a, b, stamp)

-- an attempt that fails makes the number smaller
pub changes_fall_by : (word n : ℕ) (link : Link) → link ≡ link_of word → link.stamp < 2 ^ 48 → IsSeen (link_of n) link → n ≢ word → changes_left n < changes_left word
changes_fall_by word n link is small is_seen other =
    changes_fall word n (subst (λ (l : Link). l.stamp < 2 ^ 48) is small) (changed word n (subst (λ (l : Link). IsSeen (link_of n) l) is is_seen) other)

-- One more attempt

changes_more : (first : ℕ) (finds : List ℕ) (last found : ℕ) → FindsChanges first finds last → IsChanged last found → FindsChanges first (finds ++ found ∷ []) found
changes_more first [] last found same is = (subst (λ (w : ℕ). IsChanged w found) same is, refl)
changes_more first (n ∷ finds) last found changes is = (changes.0, changes_more n finds last found changes.1 is)

attempts_more : (first : ℕ) (finds : List ℕ) (last found : ℕ) → FindsChanges first finds last → attempts first (finds ++ found ∷ []) ≡ attempts first finds ++ attempt last found
attempts_more first [] last found same = ap (λ (w : ℕ). attempt w found) (sym same)
attempts_more first (n ∷ finds) last found changes = ap (λ (l : List Seen). attempt first n ++ l) (attempts_more n finds last found changes.1)

-- attempts that have failed have pushed no record
attempts_push_none : (first : ℕ) (finds : List ℕ) (last : ℕ) → FindsChanges first finds last → pushes (attempts first finds) ≡ 0
attempts_push_none first [] last changes = refl
attempts_push_none first (n ∷ finds) last changes =
    let rest = attempts_push_none n finds last changes.1 in
    let h = links_differ first n (changed_differs first n changes.0) in
    let failed : ◌≡◌ {A = ℕ} (if same_link (link_of n) (link_of first) then 1 else 0) 0 = rw h refl in
    omega (arith, rest, failed)

-- The push

-- the seat s has loaded the push word and made attempts that failed, and is t now: the next attempt is after this word
pub record Pushing (s t : TableSeat) (p : Pool) (m word : ℕ) : Type 0 where
  pub belongs : SameSeat s t
  pub may : MayStepIn t p m
  pub first : ℕ
  pub finds : List ℕ
  pub changes : FindsChanges first finds word
  pub flat : (state_of s m).depth ≡ 0
  pub made : MakesIn s t m (seen (PushLoad Pusher.Locker) first ∷ attempts first finds) (record (state_of s m) { point = LinkStore Pusher.Locker (link_of word) })

-- one step that changes only the point
step_from : (s t : TableSeat) (p : Pool) (m n : ℕ) (q r : Point) → StepsFrom s t p m q n r → MakesIn s t m (seen q n ∷ []) (record (state_of s m) { point = r })
step_from s t p m n q r did = (did.0, did.1, did.2, (record { trail = did.3.0.trail; state = did.3.0.state; run = did.3.0.run }, did.3.2))

may_from : (s t : TableSeat) (p : Pool) (m n : ℕ) (q r : Point) → MayStepIn s p m → SameSeat s t → StepsFrom s t p m q n r → MayStepIn t p m
may_from s t p m n q r may same did = may_then s t p m may same (did.0, did.1, did.2, did.3.1)

pub begins_push : (s t : TableSeat) (p : Pool) (m word : ℕ) → MayStepIn s p m → SameSeat s t → LoadsPushIn s t p m word → Pushing s t p m word
begins_push s t p m word may same did = record {
  belongs = same;
  may = may_from s t p m word (PushLoad Pusher.Locker) (LinkStore Pusher.Locker (link_of word)) may same did;
  first = word;
  finds = [];
  changes = refl;
  flat = did.3.0.flat;
  made = step_from s t p m word (PushLoad Pusher.Locker) (LinkStore Pusher.Locker (link_of word)) did;
}

module _ (s t : TableSeat) (p : Pool) (m word : ℕ) (may : MayStepIn s p m) (so : Pushing s t p m word) where
  abbrev x : SeatState
  x = state_of s m

  idle : carries_value (record x { point = LinkStore Pusher.Locker (link_of word) }) ≡ false
  idle = idle_at (record x { point = LinkStore Pusher.Locker (link_of word) }) so.flat refl

  pub stores_next : (link : Link) → link ≡ link_of word → StoresLink link (state_of t m)
  stores_next link e = ap (λ (z : SeatState). z.point) (state_after s t p m _ _ may so.made) ∙ ap (λ (l : Link). LinkStore Pusher.Locker l) (sym e)

  -- the seat may still push its record
  pub admitted_still : IsAdmittedIn s m → IsAdmittedIn t m
  admitted_still is =
      let none = attempts_push_none so.first so.finds word so.changes in
      admitted_made s t m _ _ (inside s t p m may) so.made (omega (arith, none)) is

  module _ (u : TableSeat) (n : ℕ) (link : Link) (is : link ≡ link_of word) (did : PushesIn t u p m link n) where
    did_of : PushesIn t u p m (link_of word) n
    did_of = subst (λ (l : Link). PushesIn t u p m l n) is did

    tried : MakesIn t u m (attempt word n) (record (state_of t m) { point = if same_link (link_of n) (link_of word) then PushedHandoffLoad Pusher.Locker else LinkStore Pusher.Locker (link_of n) })
    tried = (did_of.0, did_of.1, did_of.2, (record { trail = did_of.3.0.trail; state = did_of.3.0.state; run = did_of.3.0.run }, did_of.3.2))

    -- to which point the attempt leads, from the data that the seat had at first
    tried_to : (q : Point) → (if same_link (link_of n) (link_of word) then PushedHandoffLoad Pusher.Locker else LinkStore Pusher.Locker (link_of n)) ≡ q → MakesIn t u m (attempt word n) (record x { point = q })
    tried_to q leads = subst (λ (z : SeatState). MakesIn t u m (attempt word n) z) ((λ i. record (state_of t m) { point = leads i }) ∙ ap (λ (z : SeatState). record z { point = q }) (state_after s t p m _ _ may so.made)) tried

    pub may_more : SameSeat t u → MayStepIn u p m
    may_more same = may_then t u p m so.may same (did.0, did.1, did.2, did.3.1)

    pub goes_on_pushing : SameSeat t u → IsSeen (link_of n) link → n ≢ word → Pushing s u p m n
    goes_on_pushing same is_seen other =
        let h = links_differ word n other in
        let more : MakesIn t u m (attempt word n) (record x { point = LinkStore Pusher.Locker (link_of n) }) = tried_to (LinkStore Pusher.Locker (link_of n)) (rw h refl) in
        record {
          belongs = same_then s t u so.belongs same;
          may = may_more same;
          first = so.first;
          finds = so.finds ++ n ∷ [];
          changes = changes_more so.first so.finds word n so.changes (changed word n (subst (λ (l : Link). IsSeen (link_of n) l) is is_seen) other);
          flat = so.flat;
          made = subst (λ (l : List Seen). MakesIn s u m (seen (PushLoad Pusher.Locker) so.first ∷ l) (record x { point = LinkStore Pusher.Locker (link_of n) })) (sym (attempts_more so.first so.finds word n so.changes))
              (join s t u p m may _ _ so.made idle (attempt word n) (record x { point = LinkStore Pusher.Locker (link_of n) }) more);
        }

    pub has_pushed : n ≡ word → QueuesIn s u m
    has_pushed same =
        let h = same_push word n same in
        let more : MakesIn t u m (attempt word n) (record x { point = PushedHandoffLoad Pusher.Locker }) = tried_to (PushedHandoffLoad Pusher.Locker) (rw h refl) in (
          seen (PushLoad Pusher.Locker) so.first ∷ (attempts so.first so.finds ++ attempt word word),
          (so.first, so.finds, word, so.changes, refl),
          subst (λ (k : ℕ). MakesIn s u m (seen (PushLoad Pusher.Locker) so.first ∷ (attempts so.first so.finds ++ attempt word k)) (record x { point = PushedHandoffLoad Pusher.Locker })) same
              (join s t u p m may _ _ so.made idle (attempt word n) (record x { point = PushedHandoffLoad Pusher.Locker }) more),
        )

-- After the push

handoff_none : (word : ℕ) (q r : Point) → is_posted_word word ≡ false → (if nat_eq (handoff_of word).seat 0 then q else r) ≡ q
handoff_none word q r none = let h = not-false (nat_eq (handoff_of word).seat 0) none in rw h refl

handoff_some : (word : ℕ) (q r : Point) → is_posted_word word ≡ true → (if nat_eq (handoff_of word).seat 0 then q else r) ≡ r
handoff_some word q r some = let h = not-true (nat_eq (handoff_of word).seat 0) some in rw h refl

module _ (s t : TableSeat) (p : Pool) (m : ℕ) (may : MayStepIn s p m) (pushed : QueuesIn s t m) where
  abbrev y : SeatState
  y = state_of s m

  pub at_handoff : LoadsHandoff (state_of t m)
  at_handoff = ap (λ (z : SeatState). z.point) (state_after s t p m _ _ may pushed.2)

  module _ (u : TableSeat) (word : ℕ) (did : LoadsHandoffIn t u p m word) where
    read_to : (q : Point) → (if nat_eq (handoff_of word).seat 0 then Asleep Sleeper.Locker else PushedHandoffExchange Pusher.Locker (handoff_of word)) ≡ q → MakesIn t u m (seen (PushedHandoffLoad Pusher.Locker) word ∷ []) (record y { point = q })
    read_to q leads =
        subst (λ (z : SeatState). MakesIn t u m (seen (PushedHandoffLoad Pusher.Locker) word ∷ []) z)
        ((λ i. record (state_of t m) { point = leads i }) ∙ ap (λ (z : SeatState). record z { point = q }) (state_after s t p m _ _ may pushed.2))
        (step_from t u p m word (PushedHandoffLoad Pusher.Locker) _ did)

    pub may_handoff : MayStepIn t p m → SameSeat t u → MayStepIn u p m
    may_handoff may1 same = may_then t u p m may1 same (did.0, did.1, did.2, did.3.1)

    -- the seat does not carry the mutex
    flat : y.depth ≡ 0
    flat = sym (ap (λ (z : SeatState). z.depth) (state_after s t p m _ _ may pushed.2)) ∙ did.3.0.flat

    idle_after : carries_value (record y { point = PushedHandoffLoad Pusher.Locker }) ≡ false
    idle_after = idle_at (record y { point = PushedHandoffLoad Pusher.Locker }) flat refl

    pub sleeps_at_once : is_posted_word word ≡ false → WaitsIn s u m Asking.Asleep
    sleeps_at_once none = (
      pushed.0 ++ seen (PushedHandoffLoad Pusher.Locker) word ∷ [],
      (pushed.0, word, [], pushed.1, subst (λ (b : Bool). StepsIfPosted b Asking.Asleep word []) (sym none) (refl, refl), refl),
      join s t u p m may _ _ pushed.2 idle_after (seen (PushedHandoffLoad Pusher.Locker) word ∷ []) (record y { point = Asleep Sleeper.Locker }) (read_to (Asleep Sleeper.Locker) (handoff_none word (Asleep Sleeper.Locker) (PushedHandoffExchange Pusher.Locker (handoff_of word)) none)),
    )

    module _ (some : is_posted_word word ≡ true) (may1 : MayStepIn t p m) where
      found : MakesIn t u m (seen (PushedHandoffLoad Pusher.Locker) word ∷ []) (record y { point = PushedHandoffExchange Pusher.Locker (handoff_of word) })
      found = read_to (PushedHandoffExchange Pusher.Locker (handoff_of word)) (handoff_some word (Asleep Sleeper.Locker) (PushedHandoffExchange Pusher.Locker (handoff_of word)) some)

      pub at_post : (posted : Handoff) → posted ≡ handoff_of word → TakesPost posted (state_of u m)
      at_post posted e = ap (λ (z : SeatState). z.point) (state_after t u p m _ _ may1 found) ∙ ap (λ (h : Handoff). PushedHandoffExchange Pusher.Locker h) (sym e)

      module _ (v : TableSeat) (n : ℕ) (posted : Handoff) (is : posted ≡ handoff_of word) (may2 : MayStepIn u p m) (took : TakesOverIn u v p m posted n) where
        took_of : TakesOverIn u v p m (handoff_of word) n
        took_of = subst (λ (h : Handoff). TakesOverIn u v p m h n) is took

        pub may_post : SameSeat u v → MayStepIn v p m
        may_post same = may_then u v p m may2 same (took.0, took.1, took.2, took.3.1)

        -- the exchange, and where it leads
        taken_to : (q : Point) → (if same_handoff (handoff_of n) (handoff_of word) then take Carrier.Locker u.number (oldest took_of.0.popped) else Asleep Sleeper.Locker) ≡ q
            → MakesIn u v m (seen (PushedHandoffExchange Pusher.Locker (handoff_of word)) n ∷ []) (record y { point = q })
        taken_to q leads = (
          took_of.0,
          took_of.1,
          took_of.2,
          (
            record {
              trail = took_of.3.0.trail;
              state = took_of.3.0.state ∙ ((λ i. record (state_of u m) { point = leads i }) ∙ ap (λ (z : SeatState). record z { point = q }) (state_after t u p m _ _ may1 found));
              run = took_of.3.0.run;
            },
            took_of.3.3,
          ),
        )

        both_to : (k : ℕ) (q : Point) → MakesIn u v m (seen (PushedHandoffExchange Pusher.Locker (handoff_of word)) k ∷ []) (record y { point = q })
            → MakesIn s v m (pushed.0 ++ seen (PushedHandoffLoad Pusher.Locker) word ∷ seen (PushedHandoffExchange Pusher.Locker (handoff_of word)) k ∷ []) (record y { point = q })
        both_to k q last =
            join s t v p m may _ _ pushed.2 idle_after (seen (PushedHandoffLoad Pusher.Locker) word ∷ seen (PushedHandoffExchange Pusher.Locker (handoff_of word)) k ∷ []) (record y { point = q })
            (join t u v p m may1 _ _ found (idle_at (record y { point = PushedHandoffExchange Pusher.Locker (handoff_of word) }) flat refl) (seen (PushedHandoffExchange Pusher.Locker (handoff_of word)) k ∷ []) (record y { point = q }) last)

        pub sleeps_after : n ≢ word → WaitsIn s v m Asking.Asleep
        sleeps_after other =
            let h = posts_differ word n other in (
              pushed.0 ++ seen (PushedHandoffLoad Pusher.Locker) word ∷ seen (PushedHandoffExchange Pusher.Locker (handoff_of word)) n ∷ [],
              (pushed.0, word, seen (PushedHandoffExchange Pusher.Locker (handoff_of word)) n ∷ [], pushed.1, subst (λ (b : Bool). StepsIfPosted b Asking.Asleep word (seen (PushedHandoffExchange Pusher.Locker (handoff_of word)) n ∷ [])) (sym some) (n, other, refl), refl),
              both_to n (Asleep Sleeper.Locker) (taken_to (Asleep Sleeper.Locker) (rw h refl)),
            )

        -- the view after the exchange
        now : part v.place.me.0 m ≡ took_of.0
        now = part_now u.number u.place.id m p.limits u.place.me v.place.me v.place.me (inside u v p m may2) took_of.0 took_of.1 took_of.2

        pub carries : n ≡ word → u.number ≡ s.number → WaitsIn s v m Asking.Carries
        carries same named =
            let h = same_post word n same in
            let leads : (if same_handoff (handoff_of n) (handoff_of word) then take Carrier.Locker u.number (oldest took_of.0.popped) else Asleep Sleeper.Locker) ≡ take Carrier.Locker s.number (oldest (part v.place.me.0 m).popped) =
            rw h (λ i. take Carrier.Locker (named i) (oldest (sym now i).popped))
            in (
              pushed.0 ++ seen (PushedHandoffLoad Pusher.Locker) word ∷ seen (PushedHandoffExchange Pusher.Locker (handoff_of word)) word ∷ [],
              (pushed.0, word, seen (PushedHandoffExchange Pusher.Locker (handoff_of word)) word ∷ [], pushed.1, subst (λ (b : Bool). StepsIfPosted b Asking.Carries word (seen (PushedHandoffExchange Pusher.Locker (handoff_of word)) word ∷ [])) (sym some) refl, refl),
              both_to word (take Carrier.Locker s.number (oldest (part v.place.me.0 m).popped))
                  (subst (λ (k : ℕ). MakesIn u v m (seen (PushedHandoffExchange Pusher.Locker (handoff_of word)) k ∷ []) (record y { point = take Carrier.Locker s.number (oldest (part v.place.me.0 m).popped) })) same
                  (taken_to (take Carrier.Locker s.number (oldest (part v.place.me.0 m).popped)) leads)),
            )

-- By the handoff word of the mutex

-- a seat that remembers no number knows all that it knows without it
pub waits_remember : (s u : TableSeat) (m : ℕ) (asking : Asking) → u.place.me.0.found ≡ 0 → WaitsIn s (forgotten u) m asking → WaitsIn s u m asking
waits_remember s u m asking none waits =
    subst
    (λ (z : Me ℕ PoolView).
    (new : List Seen) × QueueSteps asking new
    × KnowsMoreOf m (λ w k. Made new (record (state_of s m) { point = asked_point asking s.number (part z.0 m).popped }) (part s.place.me.0 m) w × (k ≡ note_since w (note_of s m))) s.place.me z)
    (forgets_none u.place.me none) waits

same_posted : (n l : ℕ) → (handoff_of l).seat ≡ (handoff_of n).seat → is_posted_word l ≡ is_posted_word n
same_posted n l same = ap (λ (t : ℕ). not (nat_eq t 0)) same

module _ (s t : TableSeat) (p : Pool) (m : ℕ) (may : MayStepIn s p m) (pushed : QueuesIn s t m) (may1 : MayStepIn t p m) (u : TableSeat) (n : ℕ) (did : FindsHandoffIn t u p m n) where
  -- nothing is posted
  pub sleeps_at_none : is_posted_word n ≡ false → WaitsIn s u m Asking.Asleep
  sleeps_at_none none =
      let empty = not-false (nat_eq (handoff_of n).seat 0) none in
      let zero : (handoff_of n).seat ≡ 0 = eqb-true (handoff_of n).seat 0 empty in
      waits_remember s u m Asking.Asleep (did.3 ∙ did.2.none zero)
      (sleeps_at_once s t p m may pushed (forgotten u) did.0 did.1 (same_posted n did.0 did.2.seat ∙ none))

  module _ (some : is_posted_word n ≡ true) (may2 : MayStepIn u p m) where
    some_there : is_posted_word did.0 ≡ true
    some_there = same_posted n did.0 did.2.seat ∙ some

    at_there : (posted : Handoff) → posted ≡ handoff_of did.0 → TakesPost posted (state_of u m)
    at_there = at_post s t p m may pushed (forgotten u) did.0 did.1 some_there may1

    pub at_word : TakesWord n u m
    at_word = (
      handoff_of did.0,
      at_there (handoff_of did.0) refl,
      sym (packs_handoff n) ∙ (λ i. handoff_word (record { seat = sym did.2.seat i; post = sym did.3 i })),
    )

    module _ (v : TableSeat) (k : ℕ) (took : TakesWordIn u v p m n k) where
      -- the post is the one that the seat has loaded
      posted_is : took.0 ≡ handoff_of did.0
      posted_is = let e : PushedHandoffExchange Pusher.Locker took.0 ≡ PushedHandoffExchange Pusher.Locker (handoff_of did.0) = sym took.2 ∙ at_there (handoff_of did.0) refl in cc

      packed : handoff_word took.0 ≡ did.0
      packed = ap handoff_word posted_is ∙ packs_handoff did.0

      pub carries_word : k ≡ n → u.number ≡ s.number → WaitsIn s v m Asking.Carries
      carries_word hit named =
          carries s t p m may pushed (forgotten u) did.0 did.1 some_there may1 v took.1 took.0 posted_is (may_forgotten u p m may2) took.3 (took.4.hits hit ∙ packed) named

      pub sleeps_beside : k ≢ n → WaitsIn s v m Asking.Asleep
      sleeps_beside miss =
          sleeps_after s t p m may pushed (forgotten u) did.0 did.1 some_there may1 v took.1 took.0 posted_is (may_forgotten u p m may2) took.3 (λ e. took.4.misses miss (e ∙ sym packed))

-- The whole begin

below : (m n : ℕ) → m < n → nat_lt m n ≡ true
below m n e = search (tests, arith, e)

lock_begun : (x : SeatState) (l : Limits) → x.point ≡ Rest → x.depth ≡ 0 → x.takes < l.budget → (Begin.begin x l Call.Lock).seat ≡ made_of 0 (x.takes + 1) x.posts LockCountAdd
lock_begun x l rests flat charged =
    let h = below x.takes l.budget charged in
    let e : (Begin.begin (made_of 0 x.takes x.posts Rest) l Call.Lock).seat ≡ made_of 0 (x.takes + 1) x.posts LockCountAdd = rw h refl in
    ap (λ (y : SeatState). (Begin.begin y l Call.Lock).seat) (λ i. record { depth = flat i; takes = x.takes; posts = x.posts; point = rests i }) ∙ e

module _ (t ps s n : ℕ) (o : Option Record) where
  counted_free : n ≡ 0 → (stepped_by (made_of 0 t ps LockCountAdd) s n o).seat ≡ made_of 0 t ps (EnterOwnerStore Entrant.Locker How.Free)
  counted_free e = rw e refl

  counted_taken : n ≢ 0 → (stepped_by (made_of 0 t ps LockCountAdd) s n o).seat ≡ made_of 0 t ps LockOwnerLoad
  counted_taken e = let h = ne_eqb n 0 e in rw h refl

  other_owner : n ≢ s → (stepped_by (made_of 0 t ps LockOwnerLoad) s n o).seat ≡ made_of 0 t ps (PushLoad Pusher.Locker)
  other_owner e = let h = ne_eqb n s e in rw h refl

never_held : (b : Bool) (word : ℕ) (later : List Seen) → StepsIfPosted b Asking.Held word later → ⊥
never_held true word later h = h
never_held false word later h = let e = h.0 in cc

-- a lock that has found the mutex taken, by how far it has come
asks_as : (s v : TableSeat) (m : ℕ) (asking : Asking) (count owner : ℕ) (later : List Seen) → count ≢ 0 → owner ≢ s.number → QueueSteps asking later
    → MakesIn s v m (seen LockCountAdd count ∷ seen LockOwnerLoad owner ∷ later) (record (state_of s m) { takes = (state_of s m).takes + 1; point = asked_point asking s.number (part v.place.me.0 m).popped })
    → AsksIn s v m asking
asks_as s v m Asking.Held count owner later beside other steps made = absurd (never_held (is_posted_word steps.1) steps.1 steps.2 steps.4)
asks_as s v m Asking.Asleep count owner later beside other steps made = (seen LockCountAdd count ∷ seen LockOwnerLoad owner ∷ later, (count, owner, later, beside, other, steps, refl), made)
asks_as s v m Asking.Carries count owner later beside other steps made = (seen LockCountAdd count ∷ seen LockOwnerLoad owner ∷ later, (count, owner, later, beside, other, steps, refl), made)

module _ (s : TableSeat) (p : Pool) (m : ℕ) (may : MayStepIn s p m) (try : MayTryIn s p m) where
  abbrev z : SeatState
  z = state_of s m

  begun : begun_in s.place.me.0 m p.limits Call.Lock ≡ made_of 0 (z.takes + 1) z.posts LockCountAdd
  begun = lock_begun z p.limits try.rests try.flat try.charged

  pub counts : IsPlainAccessOf p.limits.seats s.number (begun_in s.place.me.0 m p.limits Call.Lock) (Access.FetchAdd 0 1)
  counts = subst (λ (w : SeatState). IsPlainAccessOf p.limits.seats s.number w (Access.FetchAdd 0 1)) (sym begun) (((Kind.CountAdd, refl, refl, (λ n. refl), refl), omega arith, λ e. omega (arith, e)), refl)

  module _ (t : TableSeat) (count : ℕ) (did : StartsIn s t p m Call.Lock count) (may1 : MayStepIn t p m) where
    -- the mutex was free
    module _ (free : count ≡ 0) where
      alone : MakesIn s t m (seen LockCountAdd 0 ∷ []) (made_of 0 (z.takes + 1) z.posts (EnterOwnerStore Entrant.Locker How.Free))
      alone =
          subst (λ (n : ℕ). MakesIn s t m (seen LockCountAdd n ∷ []) (made_of 0 (z.takes + 1) z.posts (EnterOwnerStore Entrant.Locker How.Free))) free
          (start_made s t p m count (made_of 0 (z.takes + 1) z.posts LockCountAdd) (made_of 0 (z.takes + 1) z.posts (EnterOwnerStore Entrant.Locker How.Free)) (λ o. counted_free (z.takes + 1) z.posts s.number count o free) (λ deep. refl) Call.Lock may begun did)

      pub enters : IsPlainAccessOf p.limits.seats t.number (state_of t m) (Access.Store 1 t.number)
      enters = next_access s t p m _ _ p.limits.seats (Access.Store 1 t.number) may alone (enters_by p.limits.seats t.number 0 (z.takes + 1) z.posts Entrant.Locker How.Free)

      pub holds : (u : TableSeat) (stored : ℕ) → MovesIn t u p m stored → stored ≡ s.number → AsksIn s u m Asking.Held
      holds u stored entered told = (
        seen LockCountAdd 0 ∷ seen (EnterOwnerStore Entrant.Locker How.Free) s.number ∷ [],
        refl,
        subst (λ (w : SeatState). MakesIn s u m (seen LockCountAdd 0 ∷ seen (EnterOwnerStore Entrant.Locker How.Free) s.number ∷ []) w) (λ i. record { depth = 1; takes = z.takes + 1; posts = z.posts; point = sym try.rests i })
            (subst (λ (n : ℕ). MakesIn s u m (seen LockCountAdd 0 ∷ seen (EnterOwnerStore Entrant.Locker How.Free) n ∷ []) (made_of 1 (z.takes + 1) z.posts Rest)) told
            (then_carry s t u p m may _ _ alone stored (made_of 1 (z.takes + 1) z.posts Rest) (λ o. refl) refl refl refl (λ l. refl) may1 entered)),
      )

    -- another seat was counted
    module _ (beside : count ≢ 0) where
      second : MakesIn s t m (seen LockCountAdd count ∷ []) (made_of 0 (z.takes + 1) z.posts LockOwnerLoad)
      second = start_made s t p m count (made_of 0 (z.takes + 1) z.posts LockCountAdd) (made_of 0 (z.takes + 1) z.posts LockOwnerLoad) (λ o. counted_taken (z.takes + 1) z.posts s.number count o beside) (λ deep. refl) Call.Lock may begun did

      pub loads_owner : IsPlainAccessOf p.limits.seats t.number (state_of t m) (Access.Load 1)
      loads_owner = next_access s t p m _ _ p.limits.seats (Access.Load 1) may second (((Kind.OwnerLoad, refl, refl, (λ n. refl), refl), omega arith, λ e. omega (arith, e)), refl)

      module _ (u : TableSeat) (owner : ℕ) (loaded : MovesIn t u p m owner) (finds : Finds t.number (state_of t m) owner) (may2 : MayStepIn u p m) where
        not_own : owner ≢ t.number
        not_own same =
            let at = state_after s t p m _ _ may second in
            let held = finds.owner (ap (λ (w : SeatState). kind w.point) at) same in
            let flat = ap (λ (w : SeatState). w.depth) at in
            omega (arith, held, flat)

        third : MakesIn s u m (seen LockCountAdd count ∷ seen LockOwnerLoad owner ∷ []) (made_of 0 (z.takes + 1) z.posts (PushLoad Pusher.Locker))
        third = then_move s t u p m may _ _ second owner (made_of 0 (z.takes + 1) z.posts (PushLoad Pusher.Locker)) (λ o. other_owner (z.takes + 1) z.posts t.number owner o not_own) refl refl may1 loaded

        pub at_push : LoadsPush (state_of u m)
        at_push = ap (λ (w : SeatState). w.point) (state_after s u p m _ _ may third)

        pub admitted_to_push : IsAdmittedIn s m → IsAdmittedIn u m
        admitted_to_push is = admitted_made s u m _ _ (inside s u p m may) third refl is

        module _ (v : TableSeat) (asking : Asking) (waits : WaitsIn u v m asking) (named : t.number ≡ s.number) (same : u.number ≡ s.number) where
          waited : MakesIn s v m (seen LockCountAdd count ∷ seen LockOwnerLoad owner ∷ waits.0) (made_of 0 (z.takes + 1) z.posts (asked_point asking s.number (part v.place.me.0 m).popped))
          waited =
              join s u v p m may _ _ third refl waits.0 (made_of 0 (z.takes + 1) z.posts (asked_point asking s.number (part v.place.me.0 m).popped))
              (subst (λ (w : SeatState). MakesIn u v m waits.0 w)
              ((λ i. record (state_after s u p m _ _ may third i) { point = asked_point asking (same i) (part v.place.me.0 m).popped }))
              waits.2)

          flat_now : (q : Point) → made_of 0 (z.takes + 1) z.posts q ≡ record z { takes = z.takes + 1; point = q }
          flat_now q = λ i. made_of (sym try.flat i) (z.takes + 1) z.posts q

          not_mine : owner ≢ s.number
          not_mine e = not_own (e ∙ sym named)

          pub asks : AsksIn s v m asking
          asks =
              asks_as s v m asking count owner waits.0 beside not_mine waits.1
              (subst (λ (w : SeatState). MakesIn s v m (seen LockCountAdd count ∷ seen LockOwnerLoad owner ∷ waits.0) w) (flat_now (asked_point asking s.number (part v.place.me.0 m).popped)) waited)

-- what the seat is ready for
pub ready : (s t : TableSeat) (p : Pool) (m : ℕ) (asking : Asking) → MayStepIn s p m → (state_of s m).point ≡ Rest → SameSeat s t → MayStepIn t p m → AsksIn s t m asking → IsReadyAfter asking t p m
ready s t p m Asking.Held may rests same later asks = holds_after s t p m asks.0 (asked Asking.Held s.number (part t.place.me.0 m).popped (state_of s m)) may asks.2 later rests refl
ready s t p m Asking.Asleep may rests same later asks = (Sleeper.Locker, ap (λ (w : SeatState). w.point) (state_after s t p m asks.0 (asked Asking.Asleep s.number (part t.place.me.0 m).popped (state_of s m)) may asks.2))
ready s t p m Asking.Carries may rests same later asks = (
  ap (λ (w : SeatState). w.point) (state_after s t p m asks.0 (asked Asking.Carries s.number (part t.place.me.0 m).popped (state_of s m)) may asks.2)
      ∙ (λ i. take Carrier.Locker (sym same.number i) (oldest (part t.place.me.0 m).popped)),
  whole_after s t p m asks.0 (asked Asking.Carries s.number (part t.place.me.0 m).popped (state_of s m)) may asks.2
      (carrying (asked Asking.Carries s.number (part t.place.me.0 m).popped (state_of s m)) (taking Carrier.Locker s.number (oldest (part t.place.me.0 m).popped))),
)

-- The number of steps

pub failed_join : (xs ys : List Seen) → failed_pushes (xs ++ ys) ≡ failed_pushes xs + failed_pushes ys
failed_join [] ys = omega arith
failed_join (x ∷ xs) ys = let h = failed_join xs ys in omega (arith, h)

attempts_count : (word : ℕ) (finds : List ℕ) (last : ℕ) → FindsChanges word finds last → length (attempts word finds) ≤ 2 * failed_pushes (attempts word finds)
attempts_count word [] last changes = omega arith
attempts_count word (n ∷ finds) last changes =
    let rest = attempts_count n finds last changes.1 in
    let h = links_differ word n (changed_differs word n changes.0) in
    let one : ◌≡◌ {A = ℕ} (if same_link (link_of n) (link_of word) then 0 else 1) 1 = rw h refl in
    omega (arith, rest, one)

push_count : (new : List Seen) → PushSteps new → length new ≤ 3 + 2 * failed_pushes new
push_count new (word, finds, last, changes, e) =
    let most = attempts_count word finds last changes in
    let long = length-append (attempts word finds) (attempt last last) in
    let fails = failed_join (attempts word finds) (attempt last last) in
    let size = ap length e in
    let failed = ap failed_pushes e in
    omega (arith, most, long, fails, size, failed)

taken_over_length : (asking : Asking) (post : ℕ) (new : List Seen) → TakeOverSteps asking post new → length new ≤ 1
taken_over_length Asking.Held post new h = absurd h
taken_over_length Asking.Asleep post new h = let e = ap length h.2 in omega (arith, e)
taken_over_length Asking.Carries post new h = let e = ap length h in omega (arith, e)

posted_length : (b : Bool) (asking : Asking) (word : ℕ) (new : List Seen) → StepsIfPosted b asking word new → length new ≤ 1
posted_length true asking word new h = taken_over_length asking word new h
posted_length false asking word new h = let e = ap length h.1 in omega (arith, e)

queue_count : (asking : Asking) (new : List Seen) → QueueSteps asking new → length new ≤ 5 + 2 * failed_pushes new
queue_count asking new (pushing, word, later, pushes, posted, e) =
    let most = push_count pushing pushes in
    let one = posted_length (is_posted_word word) asking word later posted in
    let long = length-append pushing (seen (PushedHandoffLoad Pusher.Locker) word ∷ later) in
    let fails = failed_join pushing (seen (PushedHandoffLoad Pusher.Locker) word ∷ later) in
    let size = ap length e in
    let failed = ap failed_pushes e in
    omega (arith, most, one, long, fails, size, failed)

more_steps : (asking : Asking) (count owner : ℕ) (later new : List Seen) → QueueSteps asking later → new ≡ seen LockCountAdd count ∷ seen LockOwnerLoad owner ∷ later → length new ≤ 7 + 2 * failed_pushes new
more_steps asking count owner later new steps e = let most = queue_count asking later steps in let size = ap length e in let failed = ap failed_pushes e in omega (arith, most, size, failed)

pub ask_count : (asking : Asking) (number : ℕ) (new : List Seen) → AskSteps asking number new → length new ≤ 7 + 2 * failed_pushes new
ask_count Asking.Held number new e = let size = ap length e in omega (arith, size)
ask_count Asking.Asleep number new h = more_steps Asking.Asleep h.0 h.1 h.2 new h.5 h.6
ask_count Asking.Carries number new h = more_steps Asking.Carries h.0 h.1 h.2 new h.5 h.6

pub ask_bounded : (s t : TableSeat) (p : Pool) (m : ℕ) (asking : Asking) → MayStepIn s p m → AsksIn s t m asking → MakesBesideFailuresIn 7 s t m
ask_bounded s t p m asking may asks = (asks.0, ap (λ (v : View ⊤). v.trail) (part_after s t p m _ _ may asks.2) ∙ asks.2.3.0.trail, ask_count asking s.number asks.0 asks.1)
