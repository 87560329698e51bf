-- Writes of the seat that carries a mutex to words that no table of a mutex has: the links of popped records, and the
-- carried word. They keep the rule of the pool.
use Rattle.std.proofs.Common.{◌≡◌, ◌≢◌, ℕ, ◌-◌, ◌+◌, ◌*◌, ◌<◌, List, [], ◌∷◌, drop, length, set, refl, sym, ap, ◌∙◌, subst, ⊎_elim, inl, inr, arith, length-set}
use Rattle.std.specs.Prelude.{⊤, true, slice_index}
use Rattle.std.proofs.lemmas.Bool.{cases_eq, false≢true}
use Rattle.std.proofs.lemmas.List.{get_or-set_other, get_or-set_same, set-get_or}
use mathlib.Core.Option.{some, some-injective}
use lib.ListN.{get_elem?}
use Rattle.atomic_table.specs.Table.{State, Me, Allows, keeps}
use Rattle.atomic_table.proofs.Lists.{at_set, set_again, set_here, set_else}
use Rattle.lfm_words.specs.declared.pop_lists.Record.{Record}
use Rattle.lfm_protocol.specs.Limits.{max_seats}
use Rattle.lfm_laws.specs.steady.Numbered.{changed}
use Rattle.lfm_laws.specs.table.Carried.{carries_value}
use Rattle.lfm_table.specs.declared.seat_view.View.{View}
use Rattle.lfm_table.proofs.tables.RuleKept.{length_at}
use Rattle.lfm_pool.specs.declared.pool.Pool.{Pool}
use Rattle.lfm_pool.specs.declared.pool.TableSeat.{TableSeat}
use Rattle.lfm_pool.specs.declared.view.Note.{Note}
use Rattle.lfm_pool.specs.declared.view.PoolView.{PoolView}
use Rattle.lfm_pool.specs.Belongs.{IsMutex, OfPool, SameSeat}
use Rattle.lfm_pool.specs.Carrying.{CarriesIn, MayAccess, NotesIn}
use Rattle.lfm_pool.specs.Seats.{note_of, popped_of}
use Rattle.lfm_pool.specs.declared.view.Admission.{Admission}
use Rattle.lfm_pool.specs.Admissions.{admitted_in, stamp_in}
use Rattle.lfm_pool.specs.Chain.{AreWithin, HasRecord, IsChain, first_link, first_seat}
use Rattle.lfm_pool.specs.Posts.{KeepsPost, KeepsPosts}
use Rattle.lfm_pool.specs.Rule.{own_at, link_at, wake_at, HeldPool, NobodyCarries}
use Rattle.lfm_pool.specs.Tables.{IsUncollected, known, note, part, with_part, rests, has_link}
use Rattle.lfm_pool.proofs.Chains.{chain_on, has_dropped}
use Rattle.lfm_pool.proofs.Links.{linked_busy}
use Rattle.lfm_pool.proofs.LoneTables.{admission_same, changed_same, changed_other, note_same, note_other, part_same, part_other, seats_of}
use Rattle.lfm_pool.proofs.PoppedRecords.{first_alone}
use Rattle.lfm_pool.proofs.PoppedViews.{HasLinkAt, popped_view}
use Rattle.lfm_pool.proofs.PostStates.{keeps_same}
use Rattle.lfm_pool.proofs.PostsKept.{LeavesStamps, allows_posts}
use Rattle.lfm_pool.proofs.Stamps.{admitted_elsewhere, admitted_same, stamps_kept}
use Rattle.lfm_pool.proofs.Steps.{one_carries}

-- What a write of x into the word at this index needs, if the seat that carries mutex m has the note k of it then, and
-- `due` popped records of it are not in the chain: no table of a mutex has the word, and the chains are right.
pub record Written (s : State ℕ PoolView) (h : HeldPool s) (m index x due : ℕ) (k : Note) : Type 0 where
  pub own : (i n : ℕ) → i < h.mutexes → n < 4 → own_at i n ≢ index
  pub wake : (j : ℕ) → wake_at h.mutexes j ≢ index
  pub carried : (i : ℕ) → i < h.mutexes → i ≢ m → own_at i 4 ≢ index
  pub linked : (i j : ℕ) (z : PoolView) → i < h.mutexes → get_elem? s.views j ≡ some z → IsUncollected (h.tables i) h.seats (h.popped i) j (part z i) → link_at h.mutexes j ≢ index
  pub chain : (i : ℕ) → i < h.mutexes → IsChain h.mutexes (set s.words index x) (drop (changed h.dues m due i) (h.popped i))
  pub noted : k ≡ record { due = due; carried = slice_index (set s.words index x) (own_at m 4) }

module _ (id m : ℕ) (v : PoolView) (here : m < length v.parts) (carries : carries_value (part v m).state ≡ true) (s : State ℕ PoolView) (h : HeldPool s) (at : get_elem? s.views id ≡ some v) where
  abbrev inner : m < h.mutexes
  inner = let w = h.wide id v at in omega (arith, w, here)

  module _ (index x due : ℕ) (k : Note) (written : Written s h m index x due k) where
    abbrev u : PoolView
    u = with_part v m (part v m) k

    abbrev views : List PoolView
    views = set s.views id (with_part v m (part v m) k)

    -- each seat knows the same of each mutex, except this note
    part_now : (i : ℕ) → part (with_part v m (part v m) k) i ≡ part v i
    part_now i = elim (cases_eq i m) [
      | inl e ↦ rw e (part_same v m (part v m) k here)
      | inr other ↦ part_other v m i (part v m) k other
    ]

    abbrev Was : ℕ → PoolView → Type 0
    Was j z = (y : PoolView) × (get_elem? s.views j ≡ some y) × ((i : ℕ) → part z i ≡ part y i)

    was : (j : ℕ) (z : PoolView) → get_elem? (set s.views id (with_part v m (part v m) k)) j ≡ some z → Was j z
    was j z e = ⊎_elim
        (λ (c : (j ≡ id) × (with_part v m (part v m) k ≡ z)). (v, ap (λ (i : ℕ). get_elem? s.views i) c.0 ∙ at, λ i. ap (λ (y : PoolView). part y i) (sym c.1) ∙ part_now i))
        (λ (c : (j ≢ id) × (get_elem? s.views j ≡ some z)). (z, c.1, λ i. refl))
        (at_set s.views id j (with_part v m (part v m) k) z e)

    same_word : (y : ℕ) → y ≢ index → slice_index (set s.words index x) y ≡ slice_index s.words y
    same_word y other = get_or-set_other s.words index y x 0 other

    wide_now : (j : ℕ) (z : PoolView) → get_elem? (set s.views id (with_part v m (part v m) k)) j ≡ some z → length z.parts ≡ h.mutexes
    wide_now j z e = ⊎_elim
        (λ (c : (j ≡ id) × (with_part v m (part v m) k ≡ z)). ap (λ (y : PoolView). length y.parts) (sym c.1) ∙ length-set v.parts m _ ∙ h.wide id v at)
        (λ (c : (j ≢ id) × (get_elem? s.views j ≡ some z)). h.wide j z c.1)
        (at_set s.views id j (with_part v m (part v m) k) z e)

    -- no other seat carries the mutex
    other_carries : (j : ℕ) (z : PoolView) → j ≢ id → get_elem? s.views j ≡ some z → carries_value (part z m).state ≡ true → ⊥
    other_carries j z other e one =
        false≢true (sym (one_carries (h.tables m) (h.kept m inner) id j (part v m) (part z m) (λ same. other (sym same)) (h.parts m id v inner at) (h.parts m j z inner e) (carries_value (part v m).state) refl one) ∙ carries)

    noted_now : (i j : ℕ) (z : PoolView) → i < h.mutexes → get_elem? (set s.views id (with_part v m (part v m) k)) j ≡ some z → carries_value (part z i).state ≡ true
        → note z i ≡ record { due = changed h.dues m due i; carried = slice_index (set s.words index x) (own_at i 4) }
    noted_now i j z less e one = elim (cases_eq i m) [
      | inl same ↦ rw (same, changed_same h.dues m due) (⊎_elim
          (λ (c : (j ≡ id) × (with_part v m (part v m) k ≡ z)). ap (λ (y : PoolView). note y m) (sym c.1) ∙ note_same v m (part v m) k here ∙ written.noted)
          (λ (c : (j ≢ id) × (get_elem? s.views j ≡ some z)). absurd (other_carries j z c.0 c.1 (ap (λ (n : ℕ). carries_value (part z n).state) (sym same) ∙ one)))
          (at_set s.views id j (with_part v m (part v m) k) z e))
      | inr other ↦ rw (changed_other h.dues m i due other, same_word (own_at i 4) (written.carried i less other)) (⊎_elim
          (λ (c : (j ≡ id) × (with_part v m (part v m) k ≡ z)).
          ap (λ (y : PoolView). note y i) (sym c.1) ∙ note_other v m i (part v m) k other
          ∙ h.noted i id v less at (ap (λ (y : View ⊤). carries_value y.state) (sym (ap (λ (y : PoolView). part y i) (sym c.1) ∙ part_now i)) ∙ one))
          (λ (c : (j ≢ id) × (get_elem? s.views j ≡ some z)). h.noted i j z less c.1 one)
          (at_set s.views id j (with_part v m (part v m) k) z e))
    ]

    -- the view at each place, after the write
    now : (j : ℕ) (y : PoolView) → get_elem? s.views j ≡ some y → (z : PoolView) × (get_elem? (set s.views id (with_part v m (part v m) k)) j ≡ some z) × ((i : ℕ) → part z i ≡ part y i)
    now j y e = elim (cases_eq j id) [
      | inl same ↦
          let one : y ≡ v = some-injective y v (sym e ∙ ap (λ (i : ℕ). get_elem? s.views i) same ∙ at) in (
            with_part v m (part v m) k,
            ap (λ (i : ℕ). get_elem? (set s.views id (with_part v m (part v m) k)) i) same ∙ set_here s.views id (with_part v m (part v m) k) (length_at s.views id v at),
            λ i. part_now i ∙ ap (λ (z : PoolView). part z i) (sym one),
          )
      | inr other ↦ (y, set_else s.views id j (with_part v m (part v m) k) other ∙ e, λ i. refl)
    ]

    idle_now : (i : ℕ) → i < h.mutexes → NobodyCarries i (set s.views id (with_part v m (part v m) k))
        → (changed h.dues m due i ≡ 0) × (slice_index (set s.words index x) (own_at i 4) ≡ first_seat (h.popped i))
    idle_now i less none = elim (cases_eq i m) [
      | inl same ↦
          let z = now id v at in
          absurd (false≢true (sym (none id z.0 z.1) ∙ ap (λ (y : View ⊤). carries_value y.state) (z.2 i) ∙ ap (λ (n : ℕ). carries_value (part v n).state) same ∙ carries))
      | inr other ↦
          rw (changed_other h.dues m i due other, same_word (own_at i 4) (written.carried i less other))
          (h.idle i less (λ j y e. let z = now j y e in ap (λ (w : View ⊤). carries_value w.state) (sym (z.2 i)) ∙ none j z.0 z.1))
    ]

    pub held_written : HeldPool (record { words = set s.words index x; homes = s.homes; views = set s.views id (with_part v m (part v m) k) })
    held_written = record {
      mutexes = h.mutexes;
      seats = h.seats;
      tables = h.tables;
      kept = h.kept;
      sized = h.sized;
      long = length-set s.words index x ∙ h.long;
      wide = wide_now;
      counted = λ i less. h.counted i less ∙ sym (length-set s.views id (with_part v m (part v m) k));
      parts = λ i j z less e. let y = was j z e in h.parts i j y.0 less y.1 ∙ ap some (sym (y.2 i));
      own = λ i n less few. same_word (own_at i n) (written.own i n less few) ∙ h.own i n less few;
      elsewhere = λ i n j z less less' differ e busy. let y = was j z e in
          ap rests (y.2 n) ∙ h.elsewhere i n j y.0 less less' differ y.1 (ap rests (sym (y.2 i)) ∙ busy);
      popped = h.popped;
      listed = h.listed;
      linked = λ i j z less e has. let y = was j z e in
          let had : IsUncollected (h.tables i) h.seats (h.popped i) j (part y.0 i) = subst (λ (w : View ⊤). IsUncollected (h.tables i) h.seats (h.popped i) j w) (y.2 i) has in
          same_word (link_at h.mutexes j) (written.linked i j y.0 less y.1 had) ∙ h.linked i j y.0 less y.1 had;
      dues = changed h.dues m due;
      chain = written.chain;
      noted = noted_now;
      idle = idle_now;
      wakes = λ i j z less e busy. let y = was j z e in
          same_word (wake_at h.mutexes j) (written.wake j) ∙ h.wakes i j y.0 less y.1 (ap rests (sym (y.2 i)) ∙ busy);
      quiet = λ j z e all. let y = was j z e in
          same_word (wake_at h.mutexes j) (written.wake j) ∙ h.quiet j y.0 y.1 (λ i less. ap rests (sym (y.2 i)) ∙ all i less);
      fresh = λ j far less. same_word (wake_at h.mutexes j) (written.wake j) ∙ h.fresh j (let l = length-set s.views id (with_part v m (part v m) k) in omega (arith, l, far)) less;
    }

  -- what the seat knows
  knows_popped : (part v m).popped ≡ h.popped m
  knows_popped = ((h.kept m inner).outside id (part v m) (h.parts m id v inner at) carries).popped ∙ h.listed m inner

  knows_note : note v m ≡ record { due = h.dues m; carried = slice_index s.words (own_at m 4) }
  knows_note = h.noted m id v inner at carries

  -- The carried word

  pub carried_written : (x : ℕ) → HeldPool (record { words = set s.words (own_at m 4) x; homes = s.homes; views = set s.views id (with_part v m (part v m) (record (note v m) { carried = x })) })
  carried_written x = held_written (own_at m 4) x (h.dues m) (record (note v m) { carried = x }) (record {
    own = λ i n less few e. omega (arith, few, e);
    wake = λ j e. omega (arith, e, inner);
    carried = λ i less other e. other (omega (arith, e));
    linked = λ i j z less e has f. omega (arith, f, inner);
    chain = λ i less. subst (λ (n : ℕ). IsChain h.mutexes (set s.words (own_at m 4) x) (drop n (h.popped i))) (sym (dues_same i))
        (chain_on h.mutexes s.words (set s.words (own_at m 4) x) (drop (h.dues i) (h.popped i)) (λ t has. get_or-set_other s.words (own_at m 4) (link_at h.mutexes (t - 1)) x 0 (λ e. omega (arith, e, inner))) (h.chain i less));
    noted = λ i. record { due = ap (λ (n : Note). n.due) knows_note i; carried = sym (get_or-set_same s.words (own_at m 4) x 0 (let l = h.long in omega (arith, l, inner))) i };
  }) where
    dues_same : (i : ℕ) → changed h.dues m (h.dues m) i ≡ h.dues i
    dues_same i = elim (cases_eq i m) [ inl e ↦ rw (e, changed_same h.dues m (h.dues m)) refl | inr other ↦ changed_other h.dues m i (h.dues m) other ]

  pub carried_is : slice_index s.words (own_at m 4) ≡ (note v m).carried
  carried_is = ap (λ (n : Note). n.carried) (sym knows_note)

  -- the popped records are of seats
  pub are_within : AreWithin max_seats (part v m).popped
  are_within t has =
      let f = popped_view s h m inner t (subst (λ (l : List Record). HasRecord t l) knows_popped has) in
      let low = length_at s.views f.0 f.2.0 f.2.1 in
      let many = h.counted m inner in
      let few = (h.kept m inner).few in
      let most = (h.kept m inner).fits.sizes.seats in
      omega (arith, f.1, low, many, few, most)

  -- The link of the oldest record

  module _ (r : Record) (rest : List Record) (popped : (part v m).popped ≡ r ∷ rest) where
    listed : h.popped m ≡ r ∷ rest
    listed = sym knows_popped ∙ popped

    pub link_is : (note v m).due ≡ 0 → slice_index s.words (link_at h.mutexes (r.seat - 1)) ≡ first_link (r ∷ rest)
    link_is whole =
        let none : h.dues m ≡ 0 = sym (ap (λ (n : Note). n.due) knows_note) ∙ whole in
        let chain : IsChain h.mutexes s.words (r ∷ rest) = subst (λ (z : ℕ × List Record). IsChain h.mutexes s.words (drop z.0 z.1)) (λ i. (none i, listed i)) (h.chain m inner) in
        chain.0

    -- the seat of the record is in no other mutex, and no other record is of this seat
    first_view_is : (j : ℕ) × (r.seat ≡ j + 1) × HasLinkAt s h m (let w = h.wide id v at in omega (arith, w, here)) j
    first_view_is = popped_view s h m inner r.seat (subst (λ (l : List Record). HasRecord r.seat l) (sym listed) (inl refl))

    away : (i j : ℕ) (z : PoolView) → i < h.mutexes → i ≢ m → get_elem? s.views j ≡ some z → r.seat ≡ j + 1 → has_link (part z i) ≡ true → ⊥
    away i j z less other e placed has =
        let f = first_view_is in
        let place : f.0 ≡ j = omega (arith, f.1, placed) in
        let one : f.2.0 ≡ z = some-injective f.2.0 z (sym f.2.1 ∙ ap (λ (n : ℕ). get_elem? s.views n) place ∙ e) in
        let busy = linked_busy (part f.2.0 m).state.point f.2.2 in
        let rest_there = h.elsewhere m i j z inner less (λ same. other (sym same)) e (ap (λ (y : PoolView). rests (part y m)) (sym one) ∙ busy) in
        false≢true (sym (linked_busy (part z i).state.point has) ∙ rest_there)

    -- the link word of a record is another one, if the record is of another seat
    other_link : (i t : ℕ) → i < h.mutexes → HasRecord t (h.popped i) → (i ≡ m → HasRecord t rest) → link_at h.mutexes (t - 1) ≢ link_at h.mutexes (r.seat - 1)
    other_link i t less has later e =
        let f = first_view_is in
        let there = popped_view s h i less t has in
        let same : t ≡ r.seat = omega (arith, e, f.1, there.1) in
        elim (cases_eq i m) [
          | inl same_mutex ↦ first_alone_here (subst (λ (n : ℕ). HasRecord n rest) same (later same_mutex))
          | inr other ↦ away i there.0 there.2.0 less other there.2.1 (sym same ∙ there.1) there.2.2
        ] where
          first_alone_here : HasRecord r.seat rest → ⊥
          first_alone_here twice = first_alone (h.kept m inner).core (h.kept m inner).ghost_state (h.kept m inner).fits r rest (h.listed m inner ∙ listed) twice

    pub chain_written : (note v m).due ≡ 1 → (x : ℕ) → x ≡ first_link (r ∷ rest)
        → HeldPool (record { words = set s.words (link_at h.mutexes (r.seat - 1)) x; homes = s.homes; views = set s.views id (with_part v m (part v m) (record (note v m) { due = 0 })) })
    chain_written due x is = held_written (link_at h.mutexes (r.seat - 1)) x 0 (record (note v m) { due = 0 }) (record {
      own = λ i n less few e. omega (arith, few, e, less);
      wake = λ j e. let f = first_view_is in omega (arith, e, f.1);
      carried = λ i less other e. omega (arith, e, less);
      linked = λ i j z less e has f. let q = first_view_is in
          let placed : r.seat ≡ j + 1 = omega (arith, f, q.1) in
          elim (cases_eq i m) [
            | inl same ↦ has.unpopped (subst (λ (y : ℕ × List Record). HasRecord y.0 y.1) (λ d. (placed d, (sym listed ∙ ap h.popped (sym same)) d)) (inl refl))
            | inr other ↦ away i j z less other e placed has.linked
          ];
      chain = chains;
      noted = λ i. record { due = 0; carried = (ap (λ (n : Note). n.carried) knows_note ∙ sym (get_or-set_other s.words (link_at h.mutexes (r.seat - 1)) (own_at m 4) x 0 (λ e. omega (arith, e, inner)))) i };
    }) where
      one_due : h.dues m ≡ 1
      one_due = sym (ap (λ (n : Note). n.due) knows_note) ∙ due

      rest_chain : IsChain h.mutexes s.words rest
      rest_chain = subst (λ (z : ℕ × List Record). IsChain h.mutexes s.words (drop z.0 z.1)) (λ i. (one_due i, listed i)) (h.chain m inner)

      inside : link_at h.mutexes (r.seat - 1) < length s.words
      inside =
          let f = first_view_is in
          let low = length_at s.views f.0 f.2.0 f.2.1 in
          let many = h.counted m inner in
          let few = (h.kept m inner).few in
          let sized = seats_of (h.tables m) (h.kept m inner) in
          let all = h.sized m inner in
          let long = h.long in
          omega (arith, f.1, low, many, few, sized, all, long)

      chains : (i : ℕ) → i < h.mutexes → IsChain h.mutexes (set s.words (link_at h.mutexes (r.seat - 1)) x) (drop (changed h.dues m 0 i) (h.popped i))
      chains i less = elim (cases_eq i m) [
        | inl same ↦
            let whole : IsChain h.mutexes (set s.words (link_at h.mutexes (r.seat - 1)) x) (r ∷ rest) = (
              get_or-set_same s.words (link_at h.mutexes (r.seat - 1)) x 0 inside ∙ is,
              chain_on h.mutexes s.words (set s.words (link_at h.mutexes (r.seat - 1)) x) rest
                  (λ t has. get_or-set_other s.words (link_at h.mutexes (r.seat - 1)) (link_at h.mutexes (t - 1)) x 0 (other_link m t inner (subst (λ (l : List Record). HasRecord t l) (sym listed) (inr has)) (λ e. has))) rest_chain,
            )
            in
            rw (same, changed_same h.dues m 0, listed) whole
        | inr other ↦
            subst (λ (n : ℕ). IsChain h.mutexes (set s.words (link_at h.mutexes (r.seat - 1)) x) (drop n (h.popped i))) (sym (changed_other h.dues m i 0 other))
            (chain_on h.mutexes s.words (set s.words (link_at h.mutexes (r.seat - 1)) x) (drop (h.dues i) (h.popped i))
            (λ t has. get_or-set_other s.words (link_at h.mutexes (r.seat - 1)) (link_at h.mutexes (t - 1)) x 0 (other_link i t less (has_dropped t (h.dues i) (h.popped i) has) (λ same. absurd (other same)))) (h.chain i less))
      ]

-- What the table allows

-- a list whose first seat is a seat has a first record
pub first_record : (l : List Record) → 0 < first_seat l → (r : Record) × (rest : List Record) × (l ≡ r ∷ rest)
first_record [] above = absurd (omega (arith, above))
first_record (r ∷ rest) above = (r, rest, refl)

-- a pool has as many mutexes as a seat of it knows
mutexes_are : (p : Pool) (t : TableSeat) → OfPool t p → (s : State ℕ PoolView) (h : HeldPool s) → get_elem? s.views t.place.id ≡ some t.place.me.0 → h.mutexes ≡ p.mutexes
mutexes_are p t belongs s h at = sym (h.wide t.place.id t.place.me.0 at) ∙ belongs.parts

-- a view in which only a note has changed says the same of posts
notes_keep : (v : PoolView) (m : ℕ) (k : Note) → m < length v.parts → KeepsPosts v (with_part v m (part v m) k)
notes_keep v m k here = record {
  parts = length-set v.parts m _;
  posts = refl;
  found = refl;
  each = λ i. elim (cases_eq i m) [
    | inl same ↦
        subst (λ (y : View ⊤). KeepsPost (part v i).state y.state)
        (ap (part v) same ∙ sym (part_same v m (part v m) k here) ∙ ap (part (with_part v m (part v m) k)) (sym same)) (keeps_same (part v i).state)
    | inr other ↦ subst (λ (y : View ⊤). KeepsPost (part v i).state y.state) (sym (part_other v m i (part v m) k other)) (keeps_same (part v i).state)
  ];
}

-- a seat whose note alone changes may push as often as before
notes_calm : (v : PoolView) (m : ℕ) (k : Note) → m < length v.parts → (i : ℕ) → admitted_in i (with_part v m (part v m) k) ≡ admitted_in i v
notes_calm v m k here i = elim (cases_eq i m) [
  | inl same ↦ rw same (admitted_same v m (part v m) k here refl)
  | inr other ↦ admitted_elsewhere v m (part v m) k here i other
]

module _ (p : Pool) (t : TableSeat) (m : ℕ) (belongs : OfPool t p) (mutex : IsMutex m p) (carries : CarriesIn t m) where
  here : m < length t.place.me.0.parts
  here = let n = belongs.parts in omega (arith, n, mutex)

  -- the word at this index is neither a handoff word nor a push word
  abbrev IsOff : ℕ → Type 0
  IsOff index = (s : State ℕ PoolView) (h : HeldPool s) → get_elem? s.views t.place.id ≡ some t.place.me.0 → (i : ℕ) → i < h.mutexes → (index ≢ own_at i 2) × (index ≢ own_at i 3)

  -- an access that keeps the rule of the words with the handoff words of the tables, and says nothing of posts
  may_access : (index : ℕ) (f : ℕ → ℕ) (number : ℕ) (after : PoolView) (within : List Record) → IsOff index → KeepsPosts t.place.me.0 after → ((i : ℕ) → (known after i).admission ≡ (known t.place.me.0 i).admission) → ((i : ℕ) → admitted_in i after ≡ admitted_in i t.place.me.0)
      → Allows HeldPool p.table.shared.table_id.slots t.place.id t.place.me index f (λ n me'. (f n ≡ number) × (me' ≡ (after, t.place.me.1)) × AreWithin max_seats within)
      → MayAccess p.table.shared.table_id.slots t.place.id t.place.me index f number after within
  may_access index f number after within off kept same calm allowed =
      allows_posts p.table.shared.table_id.slots t.place.id index t.place.me f (λ n me'. (f n ≡ number) × (me' ≡ (after, t.place.me.1)) × AreWithin max_seats within) allowed (λ s h at i less. (off s h at i less).0)
      (λ n me' told. subst (λ (z : Me ℕ PoolView). KeepsPosts t.place.me.0 z.0) (sym told.1) kept)
      (λ s h at me' told i less.
      let word = ap stamp_in (get_or-set_other s.words index (own_at i 3) (f (slice_index h.own index)) 0 (λ e. (off (record { words = h.own; homes = s.homes; views = s.views }) h.held at i less).1 (sym e))) in
      let unit = calm i in
      let found = ap (λ (a : Admission). stamp_in a.found) (same i) in
      let before = h.seen i t.place.id t.place.me.0 less at in
      subst (λ (z : Me ℕ PoolView). LeavesStamps i s.words (set s.words index (f (slice_index h.own index))) (set s.views t.place.id z.0) z.0) (sym told.1) (
        stamps_kept i s.words (set s.words index (f (slice_index h.own index))) s.views t.place.id t.place.me.0 after at (h.stamps i less) (omega (arith, word, unit)),
        omega (arith, word, found, before),
        omega (arith, word),
      ))

  same_view : KeepsPosts t.place.me.0 t.place.me.0
  same_view = record { parts = refl; posts = refl; found = refl; each = λ i. keeps_same (part t.place.me.0 i).state }

  -- a load of a word whose number is known
  loads : (index x : ℕ) (within : List Record) → IsOff index → ((s : State ℕ PoolView) (h : HeldPool s) → get_elem? s.views t.place.id ≡ some t.place.me.0 → (slice_index s.words index ≡ x) × AreWithin max_seats within)
      → MayAccess p.table.shared.table_id.slots t.place.id t.place.me index (λ n. n) x t.place.me.0 within
  loads index x within off is = may_access index (λ n. n) x t.place.me.0 within off same_view (λ i. refl) (λ i. refl) (λ s h none at small. (
    t.place.me.0,
    keeps,
    tt,
    subst HeldPool (λ i. record { words = sym (set-get_or s.words index 0) i; homes = s.homes; views = sym (set_again s.views t.place.id t.place.me.0 at) i }) h,
    ((is s h at).0, refl, (is s h at).1),
  ))

  -- a write after which the seat has this note of the mutex
  writes : (index number x : ℕ) (k : Note) → number ≡ x → IsOff index
      → ((s : State ℕ PoolView) (h : HeldPool s) → get_elem? s.views t.place.id ≡ some t.place.me.0 → HeldPool (record { words = set s.words index number; homes = s.homes; views = set s.views t.place.id (with_part t.place.me.0 m (part t.place.me.0 m) k) }))
      → MayAccess p.table.shared.table_id.slots t.place.id t.place.me index (λ n. number) x (with_part t.place.me.0 m (part t.place.me.0 m) k) []
  writes index number x k same off held = may_access index (λ n. number) x (with_part t.place.me.0 m (part t.place.me.0 m) k) [] off (notes_keep t.place.me.0 m k here) (λ i. admission_same t.place.me.0 m i (part t.place.me.0 m) k) (notes_calm t.place.me.0 m k here) (λ s h none at small. (with_part t.place.me.0 m (part t.place.me.0 m) k, keeps, tt, held s h at, (same, refl, λ r has. absurd has)))

  pub loads_carried : (index : ℕ) → index ≡ own_at m 4 → MayAccess p.table.shared.table_id.slots t.place.id t.place.me index (λ n. n) (note_of t m).carried t.place.me.0 (popped_of t m)
  loads_carried index e = loads index (note_of t m).carried (popped_of t m) (λ s h at i less. ((λ hit. omega (arith, e, hit)), (λ hit. omega (arith, e, hit)))) (λ s h at. (
    ap (λ (i : ℕ). slice_index s.words i) e ∙ carried_is t.place.id m t.place.me.0 here carries s h at,
    are_within t.place.id m t.place.me.0 here carries s h at,
  ))

  pub writes_carried : (index number : ℕ) → index ≡ own_at m 4
      → MayAccess p.table.shared.table_id.slots t.place.id t.place.me index (λ n. number) number (with_part t.place.me.0 m (part t.place.me.0 m) (record (note_of t m) { carried = number })) []
  writes_carried index number e = writes index number number (record (note_of t m) { carried = number }) refl (λ s h at i less. ((λ hit. omega (arith, e, hit)), (λ hit. omega (arith, e, hit)))) (λ s h at.
      subst (λ (i : ℕ). HeldPool (record { words = set s.words i number; homes = s.homes; views = set s.views t.place.id (with_part t.place.me.0 m (part t.place.me.0 m) (record (note t.place.me.0 m) { carried = number })) })) (sym e)
      (carried_written t.place.id m t.place.me.0 here carries s h at number))

  -- the index of the link word of the oldest record's seat
  oldest_at : (index target : ℕ) (r : Record) (rest : List Record) → popped_of t m ≡ r ∷ rest → target ≡ first_seat (popped_of t m) → 0 < target → index + 2 ≡ p.mutexes * 8 + target * 2
      → (s : State ℕ PoolView) (h : HeldPool s) → get_elem? s.views t.place.id ≡ some t.place.me.0 → index ≡ link_at h.mutexes (r.seat - 1)
  oldest_at index target r rest popped is above there s h at =
      let many = mutexes_are p t belongs s h at in
      let first : target ≡ r.seat = is ∙ ap first_seat popped in
      omega (arith, many, first, above, there)

  -- nor is a link word
  off_chain : (index target : ℕ) → 0 < target → index + 2 ≡ p.mutexes * 8 + target * 2 → IsOff index
  off_chain index target above there s h at i less =
      let many = mutexes_are p t belongs s h at in ((λ hit. omega (arith, many, above, there, less, hit)), (λ hit. omega (arith, many, above, there, less, hit)))

  pub loads_chain : (index target : ℕ) → target ≡ first_seat (popped_of t m) → 0 < target → index + 2 ≡ p.mutexes * 8 + target * 2 → (note_of t m).due ≡ 0
      → MayAccess p.table.shared.table_id.slots t.place.id t.place.me index (λ n. n) (first_link (popped_of t m)) t.place.me.0 (popped_of t m)
  loads_chain index target is above there whole =
      let first = first_record (popped_of t m) (let e = is in omega (arith, e, above)) in
      loads index (first_link (popped_of t m)) (popped_of t m) (off_chain index target above there) (λ s h at. (
        ap (λ (i : ℕ). slice_index s.words i) (oldest_at index target first.0 first.1 first.2 is above there s h at)
            ∙ link_is t.place.id m t.place.me.0 here carries s h at first.0 first.1 first.2 whole ∙ ap first_link (sym first.2),
        are_within t.place.id m t.place.me.0 here carries s h at,
      ))

  pub writes_chain : (index target number : ℕ) → target ≡ first_seat (popped_of t m) → 0 < target → index + 2 ≡ p.mutexes * 8 + target * 2 → (note_of t m).due ≡ 1 → number ≡ first_link (popped_of t m)
      → MayAccess p.table.shared.table_id.slots t.place.id t.place.me index (λ n. number) (first_link (popped_of t m)) (with_part t.place.me.0 m (part t.place.me.0 m) (record (note_of t m) { due = 0 })) []
  writes_chain index target number is above there due link =
      let first = first_record (popped_of t m) (let e = is in omega (arith, e, above)) in
      writes index number (first_link (popped_of t m)) (record (note_of t m) { due = 0 }) link (off_chain index target above there) (λ s h at.
      subst (λ (i : ℕ). HeldPool (record { words = set s.words i number; homes = s.homes; views = set s.views t.place.id (with_part t.place.me.0 m (part t.place.me.0 m) (record (note t.place.me.0 m) { due = 0 })) }))
      (sym (oldest_at index target first.0 first.1 first.2 is above there s h at))
      (chain_written t.place.id m t.place.me.0 here carries s h at first.0 first.1 first.2 due number (link ∙ ap first_link first.2)))

-- The seat after such an access

pub same_noted : (s t : TableSeat) (m : ℕ) (k : Note) → (t.place.table_id ≡ s.place.table_id) × (t.place.id ≡ s.place.id) × (t.number ≡ s.number) → NotesIn s t m k → SameSeat s t
same_noted s t m k same notes = record {
  table = same.0;
  id = same.1;
  number = same.2;
  parts = ap (λ (z : Me ℕ PoolView). length z.0.parts) notes ∙ length-set s.place.me.0.parts m _;
}

pub same_known : (s t : TableSeat) → (t.place.table_id ≡ s.place.table_id) × (t.place.id ≡ s.place.id) × (t.number ≡ s.number) → t.place.me ≡ s.place.me → SameSeat s t
same_known s t same knows = record { table = same.0; id = same.1; number = same.2; parts = ap (λ (z : Me ℕ PoolView). length z.0.parts) knows }
