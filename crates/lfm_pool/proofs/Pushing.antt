-- The steps by which a lock puts its record into the queue.
use Rattle.std.proofs.Common.{◌≡◌, ℕ, ◌+◌, ◌<◌, List, [], ◌∷◌, ◌++◌, length, nat_eq, if◌then◌else◌, refl, sym, ap, ◌∙◌, subst, arith, append_assoc, Option}
use Rattle.std.specs.Prelude.{⊤, Bool, true, false}
use Rattle.atomic_table.specs.Table.{Me}
use Rattle.lfm_words.specs.declared.links.Link.{Link}
use Rattle.lfm_words.specs.declared.pop_lists.Record.{Record}
use Rattle.lfm_words.specs.Popped.{oldest}
use Rattle.lfm_words.specs.Words.{handoff_of, link_of, link_word}
use Rattle.lfm_model.specs.declared.answers.Asked.TheVariants as Asked
use Rattle.lfm_protocol.specs.declared.answers.Answer.{Answer}
use Rattle.lfm_protocol.specs.declared.answers.Turn.{Turn}
use Rattle.lfm_protocol.specs.declared.answers.Turn.TheVariants.{Open, Ended}
use Rattle.lfm_protocol.specs.Points.{kind}
use Rattle.lfm_protocol.specs.declared.points.Sleeper.TheVariants as Sleeper
use Rattle.lfm_words.specs.declared.handoffs.Handoff.{Handoff}
use Rattle.lfm_protocol.specs.declared.points.Carrier.{Carrier}
use Rattle.lfm_protocol.specs.After.{same_handoff, same_link, take}
use Rattle.lfm_protocol.specs.Begin.{Stepped}
use Rattle.lfm_protocol.specs.declared.kinds.Kind.{Kind}
use Rattle.lfm_protocol.specs.declared.limits.Limits.{Limits}
use Rattle.lfm_protocol.specs.declared.points.Point.{Point}
use Rattle.lfm_protocol.specs.declared.points.Point.TheVariants.{Asleep, LinkStore, PushExchange, PushedHandoffLoad, PushedHandoffExchange}
use Rattle.lfm_protocol.specs.declared.points.Pusher.{Pusher}
use Rattle.lfm_protocol.specs.declared.seats.SeatState.{SeatState}
use Rattle.lfm_protocol.specs.Place.{carries}
use Rattle.lfm_laws.specs.steady.Steady.{DepthAt}
use Rattle.lfm_laws.specs.table.Carried.{carries_value}
use Rattle.lfm_laws.specs.table.Words.{popped_by_step, stepped_by}
use Rattle.lfm_table.specs.declared.operations.Access.{Access}
use Rattle.lfm_table.specs.declared.seat_view.View.{View}
use Rattle.lfm_table.specs.Actions.{RunGoesOn, seen}
use Rattle.lfm_table.proofs.tables.Actions.{run_next}
use Rattle.lfm_table.proofs.tables.StepFacts.{carrying, made_of, taking}
use Rattle.lfm_pool.specs.declared.view.Note.{Note}
use Rattle.lfm_pool.specs.declared.view.PoolView.{PoolView}
use Rattle.lfm_pool.specs.Chain.{note_after, note_by, note_since, rested}
use Rattle.lfm_pool.specs.FastPaths.{KnowsMoreOf}
use Rattle.lfm_pool.specs.Push.{LoadsPush, Pushes, Steps, TakesOver, TakesPost}
use Rattle.lfm_pool.specs.SeatWords.{StoresLink}
use Rattle.lfm_pool.specs.Steps.{IsOwnAccessOf, Sits, StepsIn}
use Rattle.lfm_pool.specs.Tables.{note, part}
use Rattle.lfm_pool.proofs.FastPaths.{both, goes_on, note_now, part_now}
use Rattle.lfm_pool.proofs.Keeping.{idle_at, since_idle, since_step}

-- the seat after it has stored its link, and after the exchange has found n
abbrev Linked : SeatState → Link → SeatState
Linked p loaded = record p { point = PushExchange Pusher.Locker loaded }

abbrev Tried : SeatState → Link → ℕ → SeatState
Tried p loaded n = record p { point = if same_link (link_of n) loaded then PushedHandoffLoad Pusher.Locker else LinkStore Pusher.Locker (link_of n) }

linked : (p : SeatState) (loaded : Link) → StoresLink loaded p → (s n : ℕ) (o : Option Record) → (stepped_by p s n o).seat ≡ Linked p loaded
linked p loaded e s n o = ap (λ (q : Point). (stepped_by (made_of p.depth p.takes p.posts q) s n o).seat) e

module _ (number id m : ℕ) (l : Limits) (me me1 me2 : Me ℕ PoolView) (here : m < length me.0.parts) (loaded : Link) (n k : ℕ)
    (at : StoresLink loaded (part me.0 m).state) (first : StepsIn number id m l (part me.0 m).state me n me1) where
  abbrev x : SeatState
  x = (part me.0 m).state

  now : part me1.0 m ≡ first.0
  now = part_now number id m l me me1 me1 here first.0 _ first.1

  linked_now : (part me1.0 m).state ≡ Linked x loaded
  linked_now = ap (λ (y : View ⊤). y.state) now ∙ first.3.state ∙ linked x loaded at number n (oldest first.3.popped)

  pub exchanges_at : (part me1.0 m).state.point ≡ PushExchange Pusher.Locker loaded
  exchanges_at = ap (λ (y : SeatState). y.point) linked_now

  pub sits_now : Sits number id l (part me1.0 m).state (part me1.0 m)
  sits_now = subst (λ (y : View ⊤). Sits number id l y.state y) (sym now) first.2

  -- what the exchange requires
  pub exchanges_push : (seats s expected new : ℕ) → s ≡ number → expected ≡ link_word loaded → new ≡ link_word (record { stamp = loaded.stamp + 1; next = s })
      → IsOwnAccessOf seats s (part me1.0 m).state (Access.CompareExchange 3 expected new)
  exchanges_push seats s expected new same is_expected is_new =
      subst (λ (y : SeatState × ℕ × ℕ). IsOwnAccessOf seats s y.0 (Access.CompareExchange 3 y.1 y.2)) (λ i. (sym linked_now i, sym is_expected i, sym is_new i))
      ((Kind.PushExchange, refl, refl, (λ j. refl), refl), omega arith, λ e. omega (arith, e))

  pub pushed : n ≡ link_word (record { stamp = loaded.stamp + 1; next = loaded.next }) → Sits number id l (part me.0 m).state (part me.0 m) → StepsIn number id m l (part me1.0 m).state me1 k me2
      → KnowsMoreOf m (λ w i. Pushes loaded k (part me.0 m) w × Sits number id l w.state w × (i ≡ note_since w (note me.0 m))) me me2
  pushed stored sits second =
      let tried : second.0.state ≡ Tried x loaded k = second.3.state ∙ ap (λ (y : SeatState). (stepped_by y number k (oldest second.3.popped)).seat) linked_now in
      let flat : x.depth ≡ 0 = subst (λ (q : Point). DepthAt x.depth q) at first.3.deep in
      let kept : note me1.0 m ≡ note me.0 m =
      note_now number id m l me me1 me1 here first.0 _ first.1 ∙ since_step x first.0 (note me.0 m) (idle_at x flat (ap carries at))
      ∙ since_idle first.0 (note me.0 m) (Linked x loaded) (first.3.state ∙ linked x loaded at number n (oldest first.3.popped)) (idle_at (Linked x loaded) flat refl)
      in
      let trail1 : first.0.trail ≡ (part me.0 m).trail ++ seen (LinkStore Pusher.Locker loaded) (link_word (record { stamp = loaded.stamp + 1; next = loaded.next })) ∷ [] =
      first.3.trail ∙ ap (λ (y : Point × ℕ). (part me.0 m).trail ++ seen y.0 y.1 ∷ []) (λ i. (at i, stored i))
      in
      let trail2 : second.0.trail ≡ first.0.trail ++ seen (PushExchange Pusher.Locker loaded) k ∷ [] =
      second.3.trail ∙ ap (λ (y : View ⊤ × Point). y.0.trail ++ seen y.1 k ∷ []) (λ i. (now i, ap (λ (z : SeatState). z.point) linked_now i))
      in (
        second.0,
        note_after (part me1.0 m).state second.0 (note me1.0 m),
        both number id m l me me1 me2 here first.0 second.0 _ _ first.1 second.1,
        (
          record {
            trail = trail2 ∙ ap (λ ts. ts ++ seen (PushExchange Pusher.Locker loaded) k ∷ []) trail1
                ∙ append_assoc (part me.0 m).trail (seen (LinkStore Pusher.Locker loaded) (link_word (record { stamp = loaded.stamp + 1; next = loaded.next })) ∷ []) (seen (PushExchange Pusher.Locker loaded) k ∷ []);
            flat = flat;
            state = tried;
            run = run_next (goes_on number id l x first.0.state (part me.0 m) first.0 n sits first.2 first.3)
                (subst (λ (y : View ⊤). RunGoesOn y second.0) now (goes_on number id l (part me1.0 m).state second.0.state (part me1.0 m) second.0 k sits_now second.2 second.3));
          },
          second.2,
          since_step (part me1.0 m).state second.0 (note me1.0 m) (ap carries_value linked_now ∙ idle_at (Linked x loaded) flat refl) ∙ ap (note_since second.0) kept,
        ),
      )

-- One step

module _ (number id m : ℕ) (l : Limits) (me me1 : Me ℕ PoolView) (n : ℕ) (p : Point) (q : Point) (at : (part me.0 m).state.point ≡ p)
    (leads : (d t ps : ℕ) (o : Option Record) → (stepped_by (made_of d t ps p) number n o).seat ≡ made_of d t ps q) (bare : (d : ℕ) → DepthAt d p → d ≡ 0) (none : carries p ≡ false) where
  pub one_step : Sits number id l (part me.0 m).state (part me.0 m) → StepsIn number id m l (part me.0 m).state me n me1
      → KnowsMoreOf m (λ w i. Steps p n q (part me.0 m) w × Sits number id l w.state w × (i ≡ note_since w (note me.0 m))) me me1
  one_step sits did =
      let x = (part me.0 m).state in
      let flat : x.depth ≡ 0 = bare x.depth (subst (λ (y : Point). DepthAt x.depth y) at did.3.deep) in (
        did.0,
        note_after (part me.0 m).state did.0 (note me.0 m),
        did.1,
        (
          record {
            trail = did.3.trail ∙ ap (λ (y : Point). (part me.0 m).trail ++ seen y n ∷ []) at;
            flat = flat;
            state = did.3.state ∙ ap (λ (y : Point). (stepped_by (made_of x.depth x.takes x.posts y) number n (oldest did.3.popped)).seat) at ∙ leads x.depth x.takes x.posts (oldest did.3.popped);
            run = goes_on number id l x did.0.state (part me.0 m) did.0 n sits did.2 did.3;
          },
          did.2,
          since_step x did.0 (note me.0 m) (idle_at x flat (ap carries at ∙ none)),
        ),
      )

seat_if : (b : Bool) (d t ps : ℕ) (q r : Point) (u v : Turn) → ◌≡◌ {A = SeatState} (if◌then◌else◌ {A = Stepped} b (record { seat = made_of d t ps q; turn = u }) (record { seat = made_of d t ps r; turn = v })).seat (made_of d t ps (if b then q else r))
seat_if true d t ps q r u v = refl
seat_if false d t ps q r u v = refl

-- where the load of the handoff word leads
pub after_handoff : (s n d t ps : ℕ) (o : Option Record)
    → (stepped_by (made_of d t ps (PushedHandoffLoad Pusher.Locker)) s n o).seat ≡ made_of d t ps (if nat_eq (handoff_of n).seat 0 then Asleep Sleeper.Locker else PushedHandoffExchange Pusher.Locker (handoff_of n))
after_handoff s n d t ps o = seat_if (nat_eq (handoff_of n).seat 0) d t ps (Asleep Sleeper.Locker) (PushedHandoffExchange Pusher.Locker (handoff_of n)) (Ended (Answer.Asked Asked.Asleep)) Open

-- what the loads require
pub loads_push : (seats number : ℕ) (p : SeatState) → LoadsPush p → IsOwnAccessOf seats number p (Access.Load 3)
loads_push seats number p at = ((Kind.PushLoad, ap kind at, refl, (λ n. refl), refl), omega arith, λ e. omega (arith, e))

-- The exchange of the handoff word

-- a lock that has taken a post over carries the mutex from then on, so that it finds the chain whole
took_chain : (p : SeatState) (w : View ⊤) (k : Note) (q : Point) (posted : Handoff) → TakesPost posted p → p.depth ≡ 0 → carries q ≡ true → w.state ≡ made_of p.depth p.takes p.posts q → note_after p w k ≡ rested w.popped
took_chain p w k q posted at flat takes now =
    let before : carries_value p ≡ false = λ i. carries_value (made_of (flat i) p.takes p.posts (at i)) in
    let after : carries_value w.state ≡ true = ap carries_value now ∙ carrying (made_of p.depth p.takes p.posts q) takes in
    λ i. note_by (before i) (after i) p.point k w.popped

module _ (number id m : ℕ) (l : Limits) (me me1 : Me ℕ PoolView) (n : ℕ) (posted : Handoff) (at : TakesPost posted (part me.0 m).state) where
  pub took_over : Sits number id l (part me.0 m).state (part me.0 m) → StepsIn number id m l (part me.0 m).state me n me1
      → KnowsMoreOf m (λ w i. TakesOver number posted n (part me.0 m) w × Sits number id l w.state w × (same_handoff (handoff_of n) posted ≡ true → i ≡ rested w.popped) × (i ≡ note_since w (note me.0 m))) me me1
  took_over sits did =
      let x = (part me.0 m).state in
      let flat : x.depth ≡ 0 = subst (λ (q : Point). DepthAt x.depth q) at did.3.deep in
      let same : did.0.popped ≡ did.3.popped = did.3.listed ∙ ap (λ (y : Point). popped_by_step (made_of x.depth x.takes x.posts y) number n did.3.popped) at in
      let state_now : did.0.state ≡ made_of x.depth x.takes x.posts (if same_handoff (handoff_of n) posted then take Carrier.Locker number (oldest did.0.popped) else Asleep Sleeper.Locker) =
      did.3.state ∙ ap (λ (y : Point). (stepped_by (made_of x.depth x.takes x.posts y) number n (oldest did.3.popped)).seat) at
      ∙ seat_if (same_handoff (handoff_of n) posted) x.depth x.takes x.posts (take Carrier.Locker number (oldest did.3.popped)) (Asleep Sleeper.Locker) Open (Ended (Answer.Asked Asked.Asleep))
      ∙ ap (λ (r : List Record). made_of x.depth x.takes x.posts (if same_handoff (handoff_of n) posted then take Carrier.Locker number (oldest r) else Asleep Sleeper.Locker)) (sym same)
      in (
        did.0,
        note_after (part me.0 m).state did.0 (note me.0 m),
        did.1,
        (
          record {
            trail = did.3.trail ∙ ap (λ (y : Point). (part me.0 m).trail ++ seen y n ∷ []) at;
            flat = flat;
            state = state_now;
            run = goes_on number id l x did.0.state (part me.0 m) did.0 n sits did.2 did.3;
          },
          did.2,
          (λ taken. took_chain x did.0 (note me.0 m) (take Carrier.Locker number (oldest did.0.popped)) posted at flat
              (taking Carrier.Locker number (oldest did.0.popped))
              (state_now ∙ ap (λ (b : Bool). made_of x.depth x.takes x.posts (if b then take Carrier.Locker number (oldest did.0.popped) else Asleep Sleeper.Locker)) taken)),
          since_step x did.0 (note me.0 m) (idle_at x flat (ap carries at)),
        ),
      )
