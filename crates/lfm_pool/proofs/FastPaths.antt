-- The fast paths of a pool's calls, each as its two steps.
use Rattle.std.proofs.Common.{◌≡◌, ◌≢◌, ℕ, ◌+◌, ◌*◌, ◌<◌, List, [], ◌∷◌, ◌++◌, length, nat_lt, set, refl, sym, ap, ◌∙◌, subst, arith, tests, length-set, append_assoc, Option}
use Rattle.std.specs.Prelude.{⊤, Bool, true}
use Rattle.std.proofs.lemmas.Bool.{ne_eqb}
use Rattle.std.proofs.lemmas.List.{set-set}
use Rattle.atomic_table.specs.Table.{Me}
use Rattle.lfm_model.specs.declared.answers.How.{How}
use Rattle.lfm_words.specs.declared.pop_lists.Record.{Record}
use Rattle.lfm_protocol.specs.declared.answers.Call.{Call}
use Rattle.lfm_protocol.specs.declared.kinds.Kind.{Kind}
use Rattle.lfm_protocol.specs.declared.limits.Limits.{Limits}
use Rattle.lfm_protocol.specs.After.{take}
use Rattle.lfm_protocol.specs.declared.points.Carrier.{Carrier}
use Rattle.lfm_protocol.specs.declared.points.Entrant.{Entrant}
use Rattle.lfm_protocol.specs.declared.points.Point.{Point}
use Rattle.lfm_protocol.specs.declared.points.Point.TheVariants.{Rest, TryCountExchange, TryOwnerLoad, EnterOwnerStore, ReleaseOwnerStore, ReleaseCountSubtract}
use Rattle.lfm_protocol.specs.declared.points.Releaser.TheVariants.{Unlocker}
use Rattle.lfm_protocol.specs.declared.seats.SeatState.{SeatState}
use Rattle.lfm_protocol.specs.Begin as Begin
use Rattle.lfm_laws.specs.table.Carried.{carries_value}
use Rattle.lfm_laws.specs.table.Words.{popped_by_step, stepped_by}
use Rattle.lfm_table.specs.declared.operations.Access.{Access}
use Rattle.lfm_table.specs.declared.seat_view.View.{View}
use Rattle.lfm_table.specs.Actions.{RunGoesOn, seen}
use Rattle.lfm_table.specs.FastPath.{Fit}
use Rattle.lfm_table.specs.Rule.{in_hand}
use Rattle.lfm_table.proofs.tables.Actions.{run_by, run_next, step_last}
use Rattle.lfm_table.proofs.tables.Started as Started
use Rattle.lfm_table.proofs.tables.StepFacts.{begin_keeps, made_of}
use Rattle.lfm_pool.specs.declared.view.Admission.{Admission}
use Rattle.lfm_pool.specs.declared.view.Note.{Note}
use Rattle.lfm_pool.specs.declared.view.PoolView.{PoolView}
use Rattle.lfm_pool.specs.Chain.{note_after, note_by, rested}
use Rattle.lfm_pool.specs.Tables.{known, note, part, with_part}
use Rattle.lfm_words.specs.Popped.{oldest}
use Rattle.lfm_pool.specs.Steps.{hand_if, hand_of, IsOwnAccessOf, RestsElsewhere, Sits, Stepped, StepsIn}
use Rattle.lfm_pool.specs.FastPaths.{MayTry, HoldsOnce, Enters, FindsTaken, Leaves, KnowsMoreOf, Serves}
use Rattle.lfm_pool.proofs.LoneTables.{admission_same, note_same, part_same, part_other}

-- Views

pub length_with : (v : PoolView) (m : ℕ) (w : View ⊤) (n : Note) → length (with_part v m w n).parts ≡ length v.parts
length_with v m w n = length-set v.parts m _

pub twice_with : (v : PoolView) (m : ℕ) (w x : View ⊤) (n k : Note) → with_part (with_part v m w n) m x k ≡ with_part v m x k
twice_with v m w x n k =
    let twice = set-set v.parts m (record (known v m) { view = w; note = n }) (record (known (with_part v m w n) m) { view = x; note = k }) in
    let same = ap (λ (a : Admission). set v.parts m (record { view = x; note = k; admission = a })) (admission_same v m m w n) in
    λ i. record v { parts = (twice ∙ same) i }

pub elsewhere_with : (v : PoolView) (m : ℕ) (w : View ⊤) (n : Note) → RestsElsewhere v m → RestsElsewhere (with_part v m w n) m
elsewhere_with v m w n rest i less other = rw (part_other v m i w n other) (rest i (let l = length_with v m w n in omega (arith, l, less)) other)

-- The start of a call

pub sits_after_begin : (number id : ℕ) (l : Limits) (p : SeatState) (v : View ⊤) → Sits number id l p v → (call : Call) → Sits number id l (Begin.begin p l call).seat v
sits_after_begin number id l p v sits call =
    let b = Started.begun number (4 + 2 * l.seats) id l p (Begin.begin p l call).seat (v, in_hand (carries_value p)) (hand_of l.seats p v) sits.seated sits.became sits.ready sits.rooted call refl in
    let same : carries_value (Begin.begin p l call).seat ≡ carries_value p = (begin_keeps p l call).0 in
    subst (λ (c : Bool). Fit number (4 + 2 * l.seats) id l (Begin.begin p l call).seat (v, in_hand c) (hand_if c l.seats v)) (sym same)
    (record { seated = b.seated; became = b.became; ready = b.ready; rooted = sits.rooted })

pub sits_begun : (number id : ℕ) (l : Limits) (v : View ⊤) → Sits number id l v.state v → (call : Call) → Sits number id l (Begin.begin v.state l call).seat v
sits_begun number id l v sits call = sits_after_begin number id l v.state v sits call

-- the data of a seat that holds the mutex once
abbrev pub at_once : View ⊤ → SeatState
at_once v = record v.state { depth = 1 }

below : (m n : ℕ) → m < n → nat_lt m n ≡ true
below m n e = search (tests, arith, e)

pub try_begun : (x : SeatState) (l : Limits) → x.point ≡ Rest → x.depth ≡ 0 → x.takes < l.budget → (Begin.begin x l Call.TryLock).seat ≡ made_of 0 (x.takes + 1) x.posts TryCountExchange
try_begun x l rests flat charged =
    let h = below x.takes l.budget charged in
    let e : (Begin.begin (made_of 0 x.takes x.posts Rest) l Call.TryLock).seat ≡ made_of 0 (x.takes + 1) x.posts TryCountExchange = rw h refl in
    ap (λ (y : SeatState). (Begin.begin y l Call.TryLock).seat) (λ i. record { depth = flat i; takes = x.takes; posts = x.posts; point = rests i }) ∙ e

pub unlock_begun : (x : SeatState) (l : Limits) → x.point ≡ Rest → x.depth ≡ 1 → (Begin.begin x l Call.Unlock).seat ≡ made_of 1 x.takes x.posts (ReleaseOwnerStore Unlocker)
unlock_begun x l rests once = ap (λ (y : SeatState). (Begin.begin y l Call.Unlock).seat) (λ i. record { depth = once i; takes = x.takes; posts = x.posts; point = rests i })

-- What each step requires of its point

pub exchanges : (seats number t ps : ℕ) → IsOwnAccessOf seats number (made_of 0 t ps TryCountExchange) (Access.CompareExchange 0 0 1)
exchanges seats number t ps =
    ((Kind.CountExchange, refl, refl, (λ n. refl), refl), omega arith, λ e. omega (arith, e))

pub enters : (seats number t ps : ℕ) → IsOwnAccessOf seats number (made_of 0 t ps (EnterOwnerStore Entrant.Trier How.Free)) (Access.Store 1 number)
enters seats number t ps = ((Kind.OwnerStore, refl, refl, (λ n. refl), refl), omega arith, λ e. omega (arith, e))

pub gives_up : (seats number t ps : ℕ) → IsOwnAccessOf seats number (made_of 1 t ps (ReleaseOwnerStore Unlocker)) (Access.Store 1 0)
gives_up seats number t ps = ((Kind.OwnerStore, refl, refl, (λ n. refl), refl), omega arith, λ e. omega (arith, e))

pub subtracts : (seats number t ps : ℕ) → IsOwnAccessOf seats number (made_of 0 t ps (ReleaseCountSubtract Unlocker)) (Access.FetchSub 0 1)
subtracts seats number t ps = ((Kind.CountSubtract, refl, refl, (λ n. refl), refl), omega arith, λ e. omega (arith, e))

-- Where each step leads

pub exchanged_free : (t ps s n : ℕ) (o : Option Record) → n ≡ 0 → (stepped_by (made_of 0 t ps TryCountExchange) s n o).seat ≡ made_of 0 t ps (EnterOwnerStore Entrant.Trier How.Free)
exchanged_free t ps s n o e = rw e refl

pub exchanged_taken : (t ps s n : ℕ) (o : Option Record) → n ≢ 0 → (stepped_by (made_of 0 t ps TryCountExchange) s n o).seat ≡ made_of 0 t ps TryOwnerLoad
exchanged_taken t ps s n o e = let h = ne_eqb n 0 e in rw h refl

pub subtracted_last : (t ps s n : ℕ) (o : Option Record) → n ≡ 1 → (stepped_by (made_of 0 t ps (ReleaseCountSubtract Unlocker)) s n o).seat ≡ made_of 0 t ps Rest
subtracted_last t ps s n o e = rw e refl

pub subtracted_more : (t ps s n : ℕ) (o : Option Record) → n ≢ 1 → (stepped_by (made_of 0 t ps (ReleaseCountSubtract Unlocker)) s n o).seat ≡ made_of 0 t ps (take (Carrier.Releaser Unlocker) s o)
subtracted_more t ps s n o e = let h = ne_eqb n 1 e in rw h refl

-- The run

pub goes_on : (number id : ℕ) (l : Limits) (p x : SeatState) (v w : View ⊤) (n : ℕ) → Sits number id l p v → Sits number id l x w → Stepped number p v n w → RunGoesOn v w
goes_on number id l p x v w n before after did =
    run_by (after.seated.named ∙ sym before.seated.named) (after.seated.limits_are ∙ sym before.seated.limits_are) (step_last number v.number v.state p (sym before.seated.named)) did.run

-- Two steps of one call

module _ (number id m : ℕ) (l : Limits) (me me1 me2 : Me ℕ PoolView) (here : m < length me.0.parts) where
  abbrev v : View ⊤
  v = part me.0 m

  -- the part and the note after the first step
  pub part_now : (w : View ⊤) (n : Note) → me1 ≡ (with_part me.0 m w n, me.1) → part me1.0 m ≡ w
  part_now w n e = ap (λ (z : Me ℕ PoolView). part z.0 m) e ∙ part_same me.0 m w n here

  pub note_now : (w : View ⊤) (n : Note) → me1 ≡ (with_part me.0 m w n, me.1) → note me1.0 m ≡ n
  note_now w n e = ap (λ (z : Me ℕ PoolView). note z.0 m) e ∙ note_same me.0 m w n here

  pub length_now : (w : View ⊤) (n : Note) → me1 ≡ (with_part me.0 m w n, me.1) → length me1.0.parts ≡ length me.0.parts
  length_now w n e = ap (λ (z : Me ℕ PoolView). length z.0.parts) e ∙ length_with me.0 m w n

  pub elsewhere_now : (w : View ⊤) (n : Note) → me1 ≡ (with_part me.0 m w n, me.1) → RestsElsewhere me.0 m → RestsElsewhere me1.0 m
  elsewhere_now w n e rest = subst (λ (z : Me ℕ PoolView). RestsElsewhere z.0 m) (sym e) (elsewhere_with me.0 m w n rest)

  pub both : (w x : View ⊤) (n k : Note) → me1 ≡ (with_part me.0 m w n, me.1) → me2 ≡ (with_part me1.0 m x k, me1.1) → me2 ≡ (with_part me.0 m x k, me.1)
  both w x n k e f = f ∙ ap (λ (z : Me ℕ PoolView). (with_part z.0 m x k, z.1)) e ∙ (λ i. (twice_with me.0 m w x n k i, me.1))

  -- try_lock of a free mutex
  pub entered : (n k : ℕ) → n ≡ 0 → k ≡ number → (may : MayTry number id l (part me.0 m)) → StepsIn number id m l (Begin.begin (part me.0 m).state l Call.TryLock).seat me n me1 → StepsIn number id m l (part me1.0 m).state me1 k me2
      → KnowsMoreOf m (λ w i. Enters number (part me.0 m) w × HoldsOnce number id l w i) me me2
  entered n k free told may first second =
      let x = (part me.0 m).state in
      let t : ℕ = x.takes + 1 in
      let now = part_now first.0 _ first.1 in
      let p0 = try_begun x l may.rests may.flat may.charged in
      let p1 : first.0.state ≡ made_of 0 (x.takes + 1) x.posts (EnterOwnerStore Entrant.Trier How.Free) =
      first.3.state ∙ ap (λ (y : SeatState). (stepped_by y number n (oldest first.3.popped)).seat) p0 ∙ exchanged_free (x.takes + 1) x.posts number n (oldest first.3.popped) free
      in
      let p1' : (part me1.0 m).state ≡ made_of 0 (x.takes + 1) x.posts (EnterOwnerStore Entrant.Trier How.Free) = ap (λ (y : View ⊤). y.state) now ∙ p1 in
      let p2 : second.0.state ≡ made_of 1 (x.takes + 1) x.posts Rest = second.3.state ∙ ap (λ (y : SeatState). (stepped_by y number k (oldest second.3.popped)).seat) p1' in
      let trail1 : first.0.trail ≡ (part me.0 m).trail ++ seen TryCountExchange 0 ∷ [] = first.3.trail ∙ ap (λ (y : Point × ℕ). (part me.0 m).trail ++ seen y.0 y.1 ∷ []) (λ i. (ap (λ (z : SeatState). z.point) p0 i, free i)) in
      let trail2 : second.0.trail ≡ first.0.trail ++ seen (EnterOwnerStore Entrant.Trier How.Free) k ∷ [] =
      second.3.trail ∙ ap (λ (y : View ⊤ × Point). y.0.trail ++ seen y.1 k ∷ []) (λ i. (now i, ap (λ (z : SeatState). z.point) p1' i))
      in (
        second.0,
        note_after (part me1.0 m).state second.0 (note me1.0 m),
        both first.0 second.0 _ _ first.1 second.1,
        (
          record {
            trail = subst (λ (i : ℕ). second.0.trail ≡ (part me.0 m).trail ++ (seen TryCountExchange 0 ∷ seen (EnterOwnerStore Entrant.Trier How.Free) i ∷ [])) told (trail2 ∙ ap (λ ts. ts ++ seen (EnterOwnerStore Entrant.Trier How.Free) k ∷ []) trail1 ∙ append_assoc (part me.0 m).trail (seen TryCountExchange 0 ∷ []) (seen (EnterOwnerStore Entrant.Trier How.Free) k ∷ []));
            state = p2 ∙ (λ i. made_of 1 (x.takes + 1) x.posts (sym may.rests i));
            run = run_next (goes_on number id l (Begin.begin x l Call.TryLock).seat first.0.state (part me.0 m) first.0 n (sits_begun number id l (part me.0 m) may.sits Call.TryLock) first.2 first.3)
                (subst (λ (y : View ⊤). RunGoesOn y second.0) now (goes_on number id l (part me1.0 m).state second.0.state (part me1.0 m) second.0 k (subst (λ (y : View ⊤). Sits number id l y.state y) (sym now) first.2) second.2 second.3));
          },
          record {
            sits = second.2;
            now = subst (λ (d : ℕ). Sits number id l (record second.0.state { depth = d }) second.0) (ap (λ (z : SeatState). z.depth) p2) second.2;
            rests = ap (λ (z : SeatState). z.point) p2;
            noted = (λ i. note_by (carries_value (p1' i)) (carries_value second.0.state) (p1' i).point (note me1.0 m) second.0.popped)
                ∙ note_now first.0 _ first.1 ∙ (λ i. note_by (carries_value (p0 i)) (carries_value (p1 i)) (p0 i).point (note me.0 m) first.0.popped)
                ∙ ap rested (sym (second.3.listed ∙ ap (λ (y : SeatState). popped_by_step y number k second.3.popped) p1' ∙ second.3.had (ap carries_value p1') ∙ ap (λ (y : View ⊤). y.popped) now));
          },
        ),
      )

  pub found_taken : (n : ℕ) → n ≢ 0 → (may : MayTry number id l (part me.0 m)) → StepsIn number id m l (Begin.begin (part me.0 m).state l Call.TryLock).seat me n me1
      → KnowsMoreOf m (λ w i. FindsTaken n (part me.0 m) w × Sits number id l w.state w × (i ≡ note me.0 m)) me me1
  found_taken n taken may first =
      let x = (part me.0 m).state in
      let p0 = try_begun x l may.rests may.flat may.charged in
      let p1 = first.3.state ∙ ap (λ (y : SeatState). (stepped_by y number n (oldest first.3.popped)).seat) p0 ∙ exchanged_taken (x.takes + 1) x.posts number n (oldest first.3.popped) taken in
      let deep : x.depth ≡ 0 = may.flat in
      let trail = first.3.trail ∙ ap (λ (y : SeatState). (part me.0 m).trail ++ seen y.point n ∷ []) p0 in
      let run = goes_on number id l (Begin.begin x l Call.TryLock).seat first.0.state (part me.0 m) first.0 n (sits_begun number id l (part me.0 m) may.sits Call.TryLock) first.2 first.3 in
      (first.0, note_after (Begin.begin x l Call.TryLock).seat first.0 (note me.0 m), first.1, (record { trail = trail; state = p1 ∙ (λ i. made_of (sym deep i) (x.takes + 1) x.posts TryOwnerLoad); run = run }, first.2, λ i. note_by (carries_value (p0 i)) (carries_value (p1 i)) (p0 i).point (note me.0 m) first.0.popped))

  -- what the second step of each requires of its part
  pub entering_state : (n : ℕ) → n ≡ 0 → (may : MayTry number id l (part me.0 m)) → StepsIn number id m l (Begin.begin (part me.0 m).state l Call.TryLock).seat me n me1
      → (part me1.0 m).state ≡ made_of 0 ((part me.0 m).state.takes + 1) (part me.0 m).state.posts (EnterOwnerStore Entrant.Trier How.Free)
  entering_state n free may first =
      let x = (part me.0 m).state in
      let p0 = try_begun x l may.rests may.flat may.charged in
      ap (λ (y : View ⊤). y.state) (part_now first.0 _ first.1) ∙ first.3.state ∙ ap (λ (y : SeatState). (stepped_by y number n (oldest first.3.popped)).seat) p0 ∙ exchanged_free (x.takes + 1) x.posts number n (oldest first.3.popped) free

  pub entering_at : (n : ℕ) → n ≡ 0 → (may : MayTry number id l (part me.0 m)) → StepsIn number id m l (Begin.begin (part me.0 m).state l Call.TryLock).seat me n me1
      → (part me1.0 m).state.point ≡ EnterOwnerStore Entrant.Trier How.Free
  entering_at n free may first = ap (λ (y : SeatState). y.point) (entering_state n free may first)

  pub entering : (seats n : ℕ) → n ≡ 0 → (may : MayTry number id l (part me.0 m)) → StepsIn number id m l (Begin.begin (part me.0 m).state l Call.TryLock).seat me n me1
      → IsOwnAccessOf seats number (part me1.0 m).state (Access.Store 1 number)
  entering seats n free may first =
      let x = (part me.0 m).state in
      subst (λ (y : SeatState). IsOwnAccessOf seats number y (Access.Store 1 number)) (sym (entering_state n free may first)) (enters seats number (x.takes + 1) x.posts)

  pub trying : (seats : ℕ) → MayTry number id l (part me.0 m) → IsOwnAccessOf seats number (Begin.begin (part me.0 m).state l Call.TryLock).seat (Access.CompareExchange 0 0 1)
  trying seats may =
      let x = (part me.0 m).state in
      subst (λ (y : SeatState). IsOwnAccessOf seats number y (Access.CompareExchange 0 0 1)) (sym (try_begun x l may.rests may.flat may.charged)) (exchanges seats number (x.takes + 1) x.posts)

  pub releasing : (seats : ℕ) → HoldsOnce number id l (part me.0 m) (note me.0 m) → IsOwnAccessOf seats number (Begin.begin (at_once (part me.0 m)) l Call.Unlock).seat (Access.Store 1 0)
  releasing seats holds =
      let x = at_once (part me.0 m) in
      subst (λ (y : SeatState). IsOwnAccessOf seats number y (Access.Store 1 0)) (sym (unlock_begun x l holds.rests refl)) (gives_up seats number x.takes x.posts)

  pub released : (n : ℕ) → HoldsOnce number id l (part me.0 m) (note me.0 m) → StepsIn number id m l (Begin.begin (at_once (part me.0 m)) l Call.Unlock).seat me n me1
      → (part me1.0 m).state ≡ made_of 0 (part me.0 m).state.takes (part me.0 m).state.posts (ReleaseCountSubtract Unlocker)
  released n holds first =
      let x = at_once (part me.0 m) in
      ap (λ (y : View ⊤). y.state) (part_now first.0 _ first.1) ∙ first.3.state ∙ ap (λ (y : SeatState). (stepped_by y number n (oldest first.3.popped)).seat) (unlock_begun x l holds.rests refl)

  -- the chain is as it was
  pub noted_released : (n : ℕ) → (holds : HoldsOnce number id l (part me.0 m) (note me.0 m)) → StepsIn number id m l (Begin.begin (at_once (part me.0 m)) l Call.Unlock).seat me n me1
      → (note me1.0 m ≡ rested (part me.0 m).popped) × ((part me1.0 m).popped ≡ (part me.0 m).popped)
  noted_released n holds first =
      let x = at_once (part me.0 m) in
      let p0 = unlock_begun x l holds.rests refl in (
        note_now first.0 _ first.1 ∙ (λ i. note_by (carries_value (p0 i)) (carries_value first.0.state) (p0 i).point (note me.0 m) first.0.popped) ∙ holds.noted,
        ap (λ (y : View ⊤). y.popped) (part_now first.0 _ first.1) ∙ first.3.listed ∙ ap (λ (y : SeatState). popped_by_step y number n first.3.popped) p0 ∙ first.3.had (ap carries_value p0),
      )

  pub subtracting : (seats n : ℕ) → HoldsOnce number id l (part me.0 m) (note me.0 m) → StepsIn number id m l (Begin.begin (at_once (part me.0 m)) l Call.Unlock).seat me n me1
      → IsOwnAccessOf seats number (part me1.0 m).state (Access.FetchSub 0 1)
  subtracting seats n holds first =
      subst (λ (y : SeatState). IsOwnAccessOf seats number y (Access.FetchSub 0 1)) (sym (released n holds first)) (subtracts seats number (part me.0 m).state.takes (part me.0 m).state.posts)

  -- unlock that leaves the mutex free
  pub left_free : (n k : ℕ) → n ≡ 0 → k ≡ 1 → (holds : HoldsOnce number id l (part me.0 m) (note me.0 m)) → StepsIn number id m l (Begin.begin (at_once (part me.0 m)) l Call.Unlock).seat me n me1 → StepsIn number id m l (part me1.0 m).state me1 k me2
      → KnowsMoreOf m (λ w i. Leaves (part me.0 m) w × Sits number id l w.state w) me me2
  left_free n k told last holds first second =
      let x = at_once (part me.0 m) in
      let now = part_now first.0 _ first.1 in
      let p0 = unlock_begun x l holds.rests refl in
      let p1 = released n holds first in
      let p2 : second.0.state ≡ made_of 0 x.takes x.posts Rest = second.3.state ∙ ap (λ (y : SeatState). (stepped_by y number k (oldest second.3.popped)).seat) p1 ∙ subtracted_last x.takes x.posts number k (oldest second.3.popped) last in
      let trail1 : first.0.trail ≡ (part me.0 m).trail ++ seen (ReleaseOwnerStore Unlocker) n ∷ [] = first.3.trail ∙ ap (λ (y : Point). (part me.0 m).trail ++ seen y n ∷ []) (ap (λ (z : SeatState). z.point) p0) in
      let trail2 : second.0.trail ≡ first.0.trail ++ seen (ReleaseCountSubtract Unlocker) 1 ∷ [] =
      second.3.trail ∙ ap (λ (y : View ⊤ × Point × ℕ). y.0.trail ++ seen y.1 y.2 ∷ []) (λ i. (now i, ap (λ (z : SeatState). z.point) p1 i, last i))
      in (
        second.0,
        note_after (part me1.0 m).state second.0 (note me1.0 m),
        both first.0 second.0 _ _ first.1 second.1,
        (
          record {
            trail = subst (λ (i : ℕ). second.0.trail ≡ (part me.0 m).trail ++ (seen (ReleaseOwnerStore Unlocker) i ∷ seen (ReleaseCountSubtract Unlocker) 1 ∷ [])) told (trail2 ∙ ap (λ ts. ts ++ seen (ReleaseCountSubtract Unlocker) 1 ∷ []) trail1 ∙ append_assoc (part me.0 m).trail (seen (ReleaseOwnerStore Unlocker) n ∷ []) (seen (ReleaseCountSubtract Unlocker) 1 ∷ []));
            rests = ap (λ (z : SeatState). z.point) p2;
            flat = ap (λ (z : SeatState). z.depth) p2;
            takes = ap (λ (z : SeatState). z.takes) p2;
            run = run_next (goes_on number id l (Begin.begin x l Call.Unlock).seat first.0.state (part me.0 m) first.0 n (sits_after_begin number id l (at_once (part me.0 m)) (part me.0 m) holds.now Call.Unlock) first.2 first.3)
                (subst (λ (y : View ⊤). RunGoesOn y second.0) now (goes_on number id l (part me1.0 m).state second.0.state (part me1.0 m) second.0 k (subst (λ (y : View ⊤). Sits number id l y.state y) (sym now) first.2) second.2 second.3));
          },
          second.2,
        ),
      )

  -- unlock that has to serve another seat
  pub left_to_serve : (n k : ℕ) → n ≡ 0 → k ≢ 1 → (holds : HoldsOnce number id l (part me.0 m) (note me.0 m)) → StepsIn number id m l (Begin.begin (at_once (part me.0 m)) l Call.Unlock).seat me n me1 → StepsIn number id m l (part me1.0 m).state me1 k me2
      → KnowsMoreOf m (λ w i. Serves number k (part me.0 m) w × Sits number id l w.state w × (i ≡ rested w.popped)) me me2
  left_to_serve n k told more holds first second =
      let x = at_once (part me.0 m) in
      let now = part_now first.0 _ first.1 in
      let p0 = unlock_begun x l holds.rests refl in
      let p1 = released n holds first in
      let listed1 : first.0.popped ≡ (part me.0 m).popped =
      first.3.listed ∙ ap (λ (y : SeatState). popped_by_step y number n first.3.popped) p0 ∙ first.3.had (ap carries_value p0)
      in
      let listed2 : second.3.popped ≡ (part me.0 m).popped = second.3.had (ap carries_value p1) ∙ ap (λ (y : View ⊤). y.popped) now ∙ listed1 in
      let p2 : second.0.state ≡ made_of 0 x.takes x.posts (take (Carrier.Releaser Unlocker) number (oldest (part me.0 m).popped)) =
      second.3.state ∙ ap (λ (y : SeatState). (stepped_by y number k (oldest second.3.popped)).seat) p1 ∙ subtracted_more x.takes x.posts number k (oldest second.3.popped) more
      ∙ ap (λ (r : List Record). made_of 0 x.takes x.posts (take (Carrier.Releaser Unlocker) number (oldest r))) listed2
      in
      let trail1 : first.0.trail ≡ (part me.0 m).trail ++ seen (ReleaseOwnerStore Unlocker) 0 ∷ [] =
      first.3.trail ∙ ap (λ (y : Point × ℕ). (part me.0 m).trail ++ seen y.0 y.1 ∷ []) (λ i. (ap (λ (z : SeatState). z.point) p0 i, told i))
      in
      let trail2 : second.0.trail ≡ first.0.trail ++ seen (ReleaseCountSubtract Unlocker) k ∷ [] =
      second.3.trail ∙ ap (λ (y : View ⊤ × Point). y.0.trail ++ seen y.1 k ∷ []) (λ i. (now i, ap (λ (z : SeatState). z.point) p1 i))
      in (
        second.0,
        note_after (part me1.0 m).state second.0 (note me1.0 m),
        both first.0 second.0 _ _ first.1 second.1,
        (
          record {
            trail = trail2 ∙ ap (λ ts. ts ++ seen (ReleaseCountSubtract Unlocker) k ∷ []) trail1 ∙ append_assoc (part me.0 m).trail (seen (ReleaseOwnerStore Unlocker) 0 ∷ []) (seen (ReleaseCountSubtract Unlocker) k ∷ []);
            state = p2;
            kept = second.3.listed ∙ ap (λ (y : SeatState). popped_by_step y number k second.3.popped) p1 ∙ listed2;
            run = run_next (goes_on number id l (Begin.begin x l Call.Unlock).seat first.0.state (part me.0 m) first.0 n (sits_after_begin number id l (at_once (part me.0 m)) (part me.0 m) holds.now Call.Unlock) first.2 first.3)
                (subst (λ (y : View ⊤). RunGoesOn y second.0) now (goes_on number id l (part me1.0 m).state second.0.state (part me1.0 m) second.0 k (subst (λ (y : View ⊤). Sits number id l y.state y) (sym now) first.2) second.2 second.3));
          },
          second.2,
          (λ i. note_by (carries_value (p1 i)) (carries_value second.0.state) (p1 i).point (note me1.0 m) second.0.popped) ∙ (noted_released n holds first).0
              ∙ ap rested (sym (second.3.listed ∙ ap (λ (y : SeatState). popped_by_step y number k second.3.popped) p1 ∙ listed2)),
        ),
      )
