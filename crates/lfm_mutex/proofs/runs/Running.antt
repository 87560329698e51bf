-- A run of a call, with one more step.
use Rattle.std.proofs.Common.{◌≡◌, ◌≢◌, ◌⊎◌, ℕ, ◌+◌, ◌<◌, ◌≤◌, nat_eq, if◌then◌else◌, Bool, true, false, Option, Some, None, List, [], ◌∷◌, ◌++◌, length, refl, sym, ap, subst, ◌∙◌, arith, inl, inr, append_assoc, append-nil, length-append}
use Rattle.std.proofs.lemmas.Bool.{false≢true}
use Rattle.lfm_protocol.specs.declared.answers.Call.{Call}
use Rattle.lfm_protocol.specs.declared.limits.Limits.{Limits}
use Rattle.lfm_protocol.specs.declared.points.Carrier.{Carrier}
use Rattle.lfm_protocol.specs.declared.points.Releaser.{Releaser}
use Rattle.lfm_protocol.specs.Begin as Begin
use Rattle.lfm_table.specs.Table.{Me}
use Rattle.lfm_words.specs.declared.pop_lists.Record.{Record}
use Rattle.lfm_words.specs.Popped.{oldest}
use Rattle.lfm_protocol.specs.declared.answers.Turn.{Turn}
use Rattle.lfm_protocol.specs.declared.answers.Turn.TheVariants.{Open, Ended, Refused}
use Rattle.lfm_protocol.specs.declared.kinds.Kind.{Kind}
use Rattle.lfm_protocol.specs.declared.points.Point.{Point}
use Rattle.lfm_protocol.specs.declared.points.Point.TheVariants.{Rest, ReleaseOwnerStore, EnterOwnerStore, TakeLinkLoad}
use Rattle.lfm_protocol.specs.declared.seats.SeatState.{SeatState}
use Rattle.lfm_protocol.specs.Begin.{Stepped}
use Rattle.lfm_laws.specs.table.Carried.{carries_value}
use Rattle.lfm_protocol.specs.Place.{carries}
use Rattle.lfm_protocol.specs.Points.{kind, target}
use Rattle.lfm_laws.specs.table.Ready.{IsReady, PacksLink}
use Rattle.lfm_protocol.specs.Room.{PopFits}
use Rattle.lfm_laws.specs.steady.Steady.{DepthAt}
use Rattle.lfm_laws.specs.laws.Events.{answered, answered_by}
use Rattle.lfm_protocol.specs.After.{held}
use Rattle.lfm_model.specs.declared.answers.How.{How}
use Rattle.lfm_protocol.specs.declared.points.Entrant.{Entrant}
use Rattle.lfm_protocol.specs.Stores.{expected_push_at}
use Rattle.lfm_laws.specs.table.Words.{stepped_by, popped_of}
use Rattle.lfm_table.specs.declared.seat_view.Seen.{Seen}
use Rattle.lfm_table.specs.declared.seat_view.View.{View}
use Rattle.lfm_table.specs.declared.rule.Moving.{Moving}
use Rattle.lfm_table.specs.Rule.{seen, value_in, LastHold, last_hold, is_carried, Hands, CollectsWithin}
use Rattle.lfm_mutex.specs.calls.Runs.{Errand, errand, IsTurn, Ends, weight, end_of, trail_of, Ran, opens, is_release, errand_of, Answers, CalledBy, Called, how_held, Counts, Holds}
use Rattle.lfm_table.specs.Reach.{Reached}
use Rattle.lfm_table.specs.Seats.{Seated}
use Rattle.lfm_table.specs.Steps.{Event, StepLeadsTo, ValueGoes}
use Rattle.lfm_table.proofs.tables.Actions.{run_next, run_same}
use Rattle.lfm_table.proofs.tables.RuleKept.{some_same}
use Rattle.lfm_mutex.proofs.runs.RunGoesOn.{run_stepped}
use Rattle.lfm_mutex.proofs.runs.StepResults.{turns_step, no_release, no_leaves, how_enters}
use Rattle.lfm_mutex.proofs.runs.WeightFalls.{falls}
use Rattle.lfm_mutex.proofs.runs.CallStarts.{BeginTold, begin_told}
use Rattle.lfm_table.proofs.tables.StepFacts.{left_same, left_new, carrying}

end_more : (s : ℕ) (st : Stepped) (finds : List (ℕ × Option Record)) (n : ℕ) (o : Option Record) → end_of s st (finds ++ (n, o) ∷ []) ≡ stepped_by (end_of s st finds).seat s n o
end_more s st [] n o = refl
end_more s st (f ∷ finds) n o = end_more s (stepped_by st.seat s f.0 f.1) finds n o

trail_more : (s : ℕ) (st : Stepped) (finds : List (ℕ × Option Record)) (n : ℕ) (o : Option Record) → trail_of s st.seat (finds ++ (n, o) ∷ []) ≡ trail_of s st.seat finds ++ seen (end_of s st finds).seat.point n ∷ []
trail_more s st [] n o = refl
trail_more s st (f ∷ finds) n o = ap (λ (l : List Seen). seen st.seat.point f.0 ∷ l) (trail_more s (stepped_by st.seat s f.0 f.1) finds n o)

pub event_of : {T : Type 0} (follows : ℕ → T → T → Type 0) (suits : T → ℕ → Type 0) (k : Option Kind) (p p' : SeatState) (m m' : Me (Option (Moving T)) (View T)) (a a' : Option (Moving T)) (turn : Turn) → k ≢ None
    → StepLeadsTo k follows suits p a m turn p' a' m' → Event follows suits p a m.0 turn p' a' m'.0
event_of follows suits None p p' m m' a a' turn some event = absurd (some refl)
event_of follows suits (Some k) p p' m m' a a' turn some event = event

pub ran_none : {T : Type 0} (s : ℕ) (p : SeatState) (v : View T) → Ran s (opens p) v Open p v
ran_none s p v = record { finds = []; ends = refl; trail = sym (append-nil v.trail); root = record { number = refl; limits_are = refl; opening = refl; made = refl; joined_are = refl }; run = run_same }

module _ {T : Type 0} (follows : ℕ → T → T → Type 0) (suits : T → ℕ → Type 0) (s : ℕ) (p0 : SeatState) (v0 : View T) (p q : SeatState) (v w : View T) (a b : Option (Moving T)) (turn : Turn) (ran : Ran s (opens p0) v0 Open p v) (named : v.number ≡ s)
    (e : Event follows suits p a v turn q b w) where
  abbrev o : Option Record
  o = oldest e.did.popped

  step_is : record { seat = q; turn = turn } ≡ stepped_by p s e.found o
  step_is = (λ i. record { seat = e.seat_is i; turn = e.turn_is i }) ∙ ap (λ (k : ℕ). stepped_by p k e.found o) named

  pub ran_more : Ran s (opens p0) v0 turn q w
  ran_more = record {
    finds = ran.finds ++ (e.found, o) ∷ [];
    ends = end_more s (opens p0) ran.finds e.found o ∙ (ap (λ (z : Stepped). stepped_by z.seat s e.found o) ran.ends ∙ sym step_is);
    trail = e.did.trail ∙ (ap (λ (l : List Seen). l ++ seen p.point e.found ∷ []) ran.trail ∙ (append_assoc v0.trail (trail_of s p0 ran.finds) (seen p.point e.found ∷ [])
        ∙ ap (λ (l : List Seen). v0.trail ++ l) (sym (trail_more s (opens p0) ran.finds e.found o ∙ ap (λ (z : Stepped). trail_of s p0 ran.finds ++ seen z.seat.point e.found ∷ []) ran.ends))));
    root = record {
      number = e.did.root.number ∙ ran.root.number;
      limits_are = e.did.root.limits_are ∙ ran.root.limits_are;
      opening = e.did.root.opening ∙ ran.root.opening;
      made = e.did.root.made ∙ ran.root.made;
      joined_are = e.did.root.joined_are ∙ ran.root.joined_are;
    };
    run = run_next ran.run (run_stepped e);
  }

  pub last_more : is_release p.point ≡ false → last_hold w ≡ last_hold v
  last_more keeps =
      let other = no_leaves p.point keeps in
      λ i. ((e.did.last ∙ left_same p.point e.hand v.last other) i, (e.did.last_found ∙ left_same p.point v.found v.last_found other) i, e.did.root.limits_are i, (e.did.ended ∙ left_same p.point (v.holds_ended + 1) v.ended other) i)

  pub turn_more : kind p.point ≢ None → IsTurn (errand p.point) turn q.point
  turn_more some = subst (λ (z : Stepped). IsTurn (errand p.point) z.turn z.seat.point) (sym step_is) (turns_step p s e.found o some)

  pub release_more : is_release p.point ≡ false → is_release q.point ≡ false
  release_more keeps = ap (λ (z : Stepped). is_release z.seat.point) step_is ∙ no_release p s e.found o

link_grows : (x : SeatState) (t n : ℕ) (l : List Record) (k : Option Kind) → ((k ≡ Some Kind.LinkLoad) × (length (popped_of x t n l k) ≡ length l + 1)) ⊎ (k ≢ Some Kind.LinkLoad)
link_grows x t n l (Some Kind.LinkLoad) = inl (refl, omega arith)
link_grows x t n l _ = inr (λ e. cc)

loads_carry : (q : Point) → kind q ≡ Some Kind.LinkLoad → carries q ≡ true
loads_carry (TakeLinkLoad carrier next) e = refl
loads_carry _ e = absurd (cc)

fits_same : (k j n : ℕ) (b : Option Kind) → (b ≡ Some Kind.LinkLoad → k ≡ j) → PopFits k n b → PopFits j n b
fits_same k j n (Some Kind.LinkLoad) same fits = let e = same refl in omega (arith, e, fits)
fits_same k j n _ same fits = fits

collects_same : (k j n : ℕ) (q : Point) → (kind q ≡ Some Kind.LinkLoad → k ≡ j) → CollectsWithin k n q → CollectsWithin j n q
collects_same k j n (TakeLinkLoad (Carrier.Releaser releaser) next) same within = let e = same refl in omega (arith, e, within)
collects_same k j n (TakeLinkLoad (Carrier.Reclaimer releaser) next) same within = let e = same refl in omega (arith, e, within)
collects_same k j n (TakeLinkLoad Carrier.Sender next) same within = let e = same refl in omega (arith, e, within)
collects_same k j n _ same within = tt

-- what a step requires, with n seats, and k records in the pop list before it and k' after it
-- room: the pop list has room for a record that joins it
-- within: a seat that has no record of its own leaves room for one more
-- grows: only a load of a link adds a record
pub record Walks (n k k' : ℕ) (q : Point) : Type 0 where
  pub room : PopFits k n (kind q)
  pub within : CollectsWithin k n q
  pub grows : (k' ≡ k + 1) ⊎ (kind q ≢ Some Kind.LinkLoad)

pub walks_on : {T : Type 0} (follows : ℕ → T → T → Type 0) (suits : T → ℕ → Type 0) (seats : ℕ) (p q : SeatState) (v w : View T) (a b : Option (Moving T)) (turn : Turn) → v.limits.seats ≡ seats → Event follows suits p a v turn q b w
    → Walks seats (length v.popped) (length w.popped) p.point
walks_on follows suits seats p q v w a b turn sized e =
    let same : kind p.point ≡ Some Kind.LinkLoad → length e.did.popped ≡ length v.popped = (λ is. ap (λ (l : List Record). length l) (e.did.had (carrying p (loads_carry p.point is)))) in
    let long : length w.popped ≡ length (popped_of p (target p.point v.number) e.found e.did.popped (kind p.point)) = ap (λ (l : List Record). length l) e.did.listed in
    record {
      within = collects_same (length e.did.popped) (length v.popped) seats p.point same (subst (λ (n : ℕ). CollectsWithin (length e.did.popped) n p.point) sized e.did.collects);
      room = fits_same (length e.did.popped) (length v.popped) seats (kind p.point) same (subst (λ (n : ℕ). PopFits (length e.did.popped) n (kind p.point)) sized e.did.room);
      grows = elim (link_grows p (target p.point v.number) e.found e.did.popped (kind p.point)) [
        | inl t ↦ inl (let z = same t.0 in let y = t.1 in omega (arith, long, z, y))
        | inr other ↦ inr other
      ];
    }

-- each step lowers the number of steps that are left
pub steps_left : {T : Type 0} (follows : ℕ → T → T → Type 0) (suits : T → ℕ → Type 0) (seats s : ℕ) (p q : SeatState) (v w : View T) (a b : Option (Moving T)) (turn : Turn) → kind p.point ≢ None → v.limits.seats ≡ seats → IsReady seats s p
    → Event follows suits p a v turn q b w → weight seats (length w.popped) q.point < weight seats (length v.popped) p.point
steps_left follows suits seats s p q v w a b turn some sized ready e =
    let walks = walks_on follows suits seats p q v w a b turn sized e in
    subst (λ (x : SeatState). weight seats (length w.popped) x.point < weight seats (length v.popped) p.point) (sym e.seat_is)
    (falls p v.number e.found (oldest e.did.popped) seats (length v.popped) (length w.popped) some walks.room walks.within walks.grows
    (λ pusher old at. (e.did.sees pusher old at, (subst (λ (x : Point). PacksLink (expected_push_at x)) at ready.expected_push).stamp)))

pub trail_grows : {T : Type 0} (follows : ℕ → T → T → Type 0) (suits : T → ℕ → Type 0) (p q : SeatState) (v w : View T) (a b : Option (Moving T)) (turn : Turn) → Event follows suits p a v turn q b w → length w.trail ≡ length v.trail + 1
trail_grows follows suits p q v w a b turn e = ap (λ (l : List Seen). length l) e.did.trail ∙ length-append v.trail (seen p.point e.found ∷ [])

-- no step raises the sum of the steps made and the steps that are left
pub bounded_more : {T : Type 0} (follows : ℕ → T → T → Type 0) (suits : T → ℕ → Type 0) (seats s : ℕ) (p q : SeatState) (v w : View T) (a b : Option (Moving T)) (turn : Turn) → kind p.point ≢ None → v.limits.seats ≡ seats → IsReady seats s p
    → Event follows suits p a v turn q b w → length w.trail + weight seats (length w.popped) q.point ≤ length v.trail + weight seats (length v.popped) p.point
bounded_more follows suits seats s p q v w a b turn some sized ready e =
    let less = steps_left follows suits seats s p q v w a b turn some sized ready e in
    let longer = trail_grows follows suits p q v w a b turn e in
    omega (arith, less, longer)

pub ends_of : (e d : Errand) (t : Turn) (q : Point) → t ≢ Open → e ≡ d → IsTurn e t q → Ends d t
ends_of e d Open q some same is = absurd (some refl)
ends_of e d (Ended answer) q some same is = is ∙ same
ends_of e d (Refused why) q some same is = is.0 ∙ same

-- Calls

pub ends_answers : (e : Errand) (t : Turn) → Ends e t → Answers e t
ends_answers e (Ended answer) is = is
ends_answers e (Refused why) is = tt
ends_answers e Open is = absurd is

told_answers : (e : Errand) (t : Turn) (q : Point) → t ≢ Open → BeginTold e t q → Answers e t
told_answers e Open q some is = absurd (some refl)
told_answers e (Ended answer) q some is = is
told_answers e (Refused why) q some is = tt

-- a call that ended at once
at_once : {T : Type 0} (t : Turn) (s : ℕ) (e : Errand) (q p' : SeatState) (v : View T) → t ≢ Open → p' ≡ q → CalledBy t s e q v t p' v
at_once Open s e q p' v some is = absurd (some refl)
at_once (Ended answer) s e q p' v some is = (refl, is, refl)
at_once (Refused why) s e q p' v some is = (refl, is, refl)

pub called_at_once : {T : Type 0} (s : ℕ) (l : Limits) (call : Call) (p p' : SeatState) (v v' : View T) (turn : Turn) → turn ≢ Open → turn ≡ (Begin.begin p l call).turn → p' ≡ (Begin.begin p l call).seat → v' ≡ v
    → Called s l call p v turn p' v' × Answers (errand_of call) turn
called_at_once {T} s l call p p' v v' turn some is_turn is_p same =
    let t = (Begin.begin p l call).turn in
    let some_t : (Begin.begin p l call).turn ≢ Open = (λ e. some (is_turn ∙ e)) in (
      subst (λ (z : Turn × View T). CalledBy (Begin.begin p l call).turn s (errand_of call) (Begin.begin p l call).seat v z.0 p' z.1) (λ i. (sym is_turn i, sym same i))
          (at_once (Begin.begin p l call).turn s (errand_of call) (Begin.begin p l call).seat p' v some_t is_p),
      subst (λ (z : Turn). Answers (errand_of call) z) (sym is_turn) (told_answers (errand_of call) (Begin.begin p l call).turn (Begin.begin p l call).seat.point some_t (begin_told p l call)),
    )

-- Two runs in a row

end_join : (s : ℕ) (st : Stepped) (xs ys : List (ℕ × Option Record)) → end_of s st (xs ++ ys) ≡ end_of s (end_of s st xs) ys
end_join s st [] ys = refl
end_join s st (f ∷ xs) ys = end_join s (stepped_by st.seat s f.0 f.1) xs ys

trail_join : (s : ℕ) (st : Stepped) (xs ys : List (ℕ × Option Record)) → trail_of s st.seat (xs ++ ys) ≡ trail_of s st.seat xs ++ trail_of s (end_of s st xs).seat ys
trail_join s st [] ys = refl
trail_join s st (f ∷ xs) ys = ap (λ (l : List Seen). seen st.seat.point f.0 ∷ l) (trail_join s (stepped_by st.seat s f.0 f.1) xs ys)

pub ran_join : {T : Type 0} (s : ℕ) (p q r : SeatState) (u v w : View T) (turn : Turn) → Ran s (opens p) u Open q v → Ran s (opens q) v turn r w → Ran s (opens p) u turn r w
ran_join s p q r u v w turn first second = record {
  finds = first.finds ++ second.finds;
  ends = end_join s (opens p) first.finds second.finds ∙ (ap (λ (z : Stepped). end_of s z second.finds) first.ends ∙ second.ends);
  trail = second.trail ∙ (ap (λ (l : List Seen). l ++ trail_of s q second.finds) first.trail ∙ (append_assoc u.trail (trail_of s p first.finds) (trail_of s q second.finds)
      ∙ ap (λ (l : List Seen). u.trail ++ l) (sym (trail_join s (opens p) first.finds second.finds ∙ ap (λ (z : Stepped). trail_of s p first.finds ++ trail_of s z.seat second.finds) first.ends))));
  root = record {
    number = second.root.number ∙ first.root.number;
    limits_are = second.root.limits_are ∙ first.root.limits_are;
    opening = second.root.opening ∙ first.root.opening;
    made = second.root.made ∙ first.root.made;
    joined_are = second.root.joined_are ∙ first.root.joined_are;
  };
  run = run_next first.run second.run;
}

-- the first step of a release
module _ {T : Type 0} (follows : ℕ → T → T → Type 0) (suits : T → ℕ → Type 0) (s : ℕ) (p q : SeatState) (v w : View T) (a b : Option (Moving T)) (turn : Turn) (named : v.number ≡ s) (e : Event follows suits p a v turn q b w) where
  pub ran_one : Ran s (opens p) v turn q w
  ran_one = ran_more follows suits s p v p q v w a b turn (ran_none s p v) named e

  pub last_one : (r : Releaser) → p.point ≡ ReleaseOwnerStore r → last_hold w ≡ (value_in a, v.found, v.limits, v.holds_ended + 1)
  last_one r at = λ i. ((e.did.last ∙ (left_new p.point r e.hand v.last at ∙ e.in_hand r at)) i, (e.did.last_found ∙ left_new p.point r v.found v.last_found at) i, e.did.root.limits_are i, (e.did.ended ∙ left_new p.point r (v.holds_ended + 1) v.ended at) i)

pub release_some : (q : Point) (r : Releaser) → q ≡ ReleaseOwnerStore r → kind q ≢ None
release_some q r at e = let f : Some Kind.OwnerStore ≡ None = sym (ap kind at) ∙ e in absurd (cc)

-- The hold that a call ends with

is_some : {A : Type 0} (a : Option A) → is_carried a ≡ true → (x : A) × (a ≡ Some x)
is_some (Some x) e = (x, refl)
is_some None e = absurd (false≢true e)

deep_carries : (d : ℕ) (q : Point) → d ≡ 1 → (if nat_eq d 0 then carries q else true) ≡ true
deep_carries d q one = rw one refl

free_counts : (s : ℕ) (entrant : Entrant) → length (answered s (held entrant How.Free)) ≡ 0
free_counts s Entrant.Locker = refl
free_counts s Entrant.Trier = refl
free_counts s Entrant.Receiver = refl

queued_counts : (s stamp : ℕ) (entrant : Entrant) → length (answered s (held entrant (How.Queued stamp))) ≡ 1
queued_counts s stamp Entrant.Locker = refl
queued_counts s stamp Entrant.Trier = refl
queued_counts s stamp Entrant.Receiver = refl

enter_turn : (x : SeatState) (s n : ℕ) (o : Option Record) (entrant : Entrant) (how : How) → x.point ≡ EnterOwnerStore entrant how → (stepped_by x s n o).turn ≡ Ended (held entrant how)
enter_turn x s n o entrant how at = rw at refl

counts_by : (how : How) (k j : ℕ) → ((stamp : ℕ) → how ≡ How.Queued stamp → (k + 1 ≡ stamp) × (j ≡ stamp)) → (how ≡ How.Free → k ≡ j) → Counts how k j
counts_by How.Free k j queued free = free refl
counts_by (How.Queued stamp) k j queued free = queued stamp refl

module _ {T : Type 0} (follows : ℕ → T → T → Type 0) (suits : T → ℕ → Type 0) (s : ℕ) (l : Limits) (p q : SeatState) (m : Me (Option (Moving T)) (View T)) (w : View T) (a b : Option (Moving T)) (turn : Turn) (before : LastHold T) (was : Seated s l p m a) (same_last : last_hold m.0 ≡ before)
    (e : Event follows suits p a m.0 turn q b w) where
  pub holds_now : (how : How) → how_held turn ≡ Some how → Holds follows suits s before how q b w
  holds_now how is =
      let o = oldest e.did.popped in
      let by = how_enters p m.0.number e.found o how (ap how_held (sym e.turn_is) ∙ is) in
      let at = by.1 in
      let carries_p : carries_value p ≡ true = carrying p (ap carries at) in
      let flat : p.depth ≡ 0 = subst (λ (x : Point). DepthAt p.depth x) at e.did.deep in
      let some = is_some a (was.moved ∙ carries_p) in
      let knows = e.did.shallow carries_p flat some.0.value (was.kept flat some.0 some.1) in
      let deep : q.depth ≡ 1 = ap (λ (x : SeatState). x.depth) e.seat_is ∙ (rw at refl) in
      let rests : q.point ≡ Rest = ap (λ (x : SeatState). x.point) e.seat_is ∙ (rw at refl) in
      let carries_q : carries_value q ≡ true = deep_carries q.depth q.point deep in
      let goes = subst (λ (t : Bool × Bool). ValueGoes t.0 t.1 a b w) (λ i. (carries_p i, carries_q i)) e.value in
      let x = goes.0 in
      let same : some.0.value ≡ x.value = some_same some.0.value x.value (sym (ap value_in some.1) ∙ goes.1) in
      let hands = subst (λ (t : Bool × Bool). Hands follows suits t.0 t.1 p.point e.hand e.did.popped (m.0, e.slots) (w, e.slots_after)) (λ i. (carries_p i, (ap carries_value (sym e.seat_is) ∙ carries_q) i)) e.did.hands in
      let other : (r : Releaser) → p.point ≢ ReleaseOwnerStore r = (λ r z. let f : EnterOwnerStore by.0 how ≡ ReleaseOwnerStore r = sym at ∙ z in absurd (cc)) in
      let holds_same : w.holds_ended ≡ m.0.holds_ended = e.did.holds carries_p ∙ left_same p.point (m.0.holds_ended + 1) m.0.holds_ended other in
      let turn_at : (stepped_by p m.0.number e.found o).turn ≡ Ended (held by.0 how) = enter_turn p m.0.number e.found o by.0 how at in
      record {
        depth = deep;
        rests = rests;
        moving = x;
        in_hand = goes.2;
        found = hands.1 ∙ (left_same p.point e.hand m.0.found other ∙ (was.kept flat some.0 some.1 ∙ ap Some same));
        reached = λ y is_last. subst (λ (t : Limits × ℕ × T). Reached follows t.0.seats t.1 y t.2) (λ i. (sym e.did.root.limits_are i, was.named i, same i)) (knows.1 y (ap (λ (t : LastHold T). t.0) same_last ∙ is_last));
        ended = e.did.ended ∙ (left_same p.point (m.0.holds_ended + 1) m.0.ended other ∙ ap (λ (t : LastHold T). t.3) same_last);
        within = subst (λ (t : ℕ × ℕ). t.0 ≤ t.1) (λ i. (ap (λ (t : LastHold T). t.3) same_last i, sym holds_same i)) knows.2;
        own = λ is_own. ap (λ (t : LastHold T). t.0) (sym same_last) ∙ (knows.3 (ap (λ (t : LastHold T). t.3) same_last ∙ (is_own ∙ holds_same)) ∙ ap Some same);
        count = m.0.answered;
        counts = counts_by how m.0.answered w.answered (λ stamp z. let f = e.did.stamped by.0 stamp (at ∙ ap (λ (h : How). EnterOwnerStore by.0 h) z) in let t = e.did.answered carries_p in let u : length (answered_by m.0.number (stepped_by p m.0.number e.found o).turn) ≡ 1 = ap (λ (y : Turn). length (answered_by m.0.number y)) (turn_at ∙ ap (λ (h : How). Ended (held by.0 h)) z) ∙ queued_counts m.0.number stamp by.0 in (f, omega (arith, f, t, u)))
            (λ z. let t = e.did.answered carries_p in let u : length (answered_by m.0.number (stepped_by p m.0.number e.found o).turn) ≡ 0 = ap (λ (y : Turn). length (answered_by m.0.number y)) (turn_at ∙ ap (λ (h : How). Ended (held by.0 h)) z) ∙ free_counts m.0.number by.0 in omega (arith, t, u));
        fits = subst (λ (y : T). suits y m.0.answered) same knows.0;
      }
