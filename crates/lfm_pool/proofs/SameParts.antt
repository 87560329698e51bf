-- The rule of the words with the handoff words of the tables says nothing of the posts that a seat has counted, of the number
-- that it remembers, nor of its admissions.
use Rattle.std.proofs.Common.{◌≡◌, ◌≢◌, ℕ, ◌<◌, List, length, set, refl, sym, ap, ◌∙◌, subst, ⊎_elim, arith, length-set}
use Rattle.std.specs.Prelude.{⊤}
use mathlib.Core.Option.{some}
use lib.ListN.{get_elem?}
use Rattle.atomic_table.proofs.Lists.{at_set, set_here, set_else}
use Rattle.lfm_laws.specs.table.Carried.{carries_value}
use Rattle.lfm_table.specs.declared.seat_view.View.{View}
use Rattle.lfm_pool.specs.declared.view.PoolView.{PoolView}
use Rattle.lfm_pool.specs.Rule.{HeldPool}
use Rattle.lfm_pool.specs.Tables.{IsUncollected, note, part, rests}

module _ (words : List ℕ) (homes : List (mathlib.Core.Option.Option ℕ)) (views : List PoolView) (id : ℕ) (u v : PoolView) (same : (i : ℕ) → (part u i ≡ part v i) × (note u i ≡ note v i)) (wide : length u.parts ≡ length v.parts) (here : id < length views)
    (h : HeldPool (record { words = words; homes = homes; views = set views id v })) where
  -- what each seat knew
  abbrev Was : ℕ → PoolView → Type 0
  Was j z = (y : PoolView) × (get_elem? (set views id v) j ≡ some y) × ((i : ℕ) → (part z i ≡ part y i) × (note z i ≡ note y i)) × (length z.parts ≡ length y.parts)

  was : (j : ℕ) (z : PoolView) → get_elem? (set views id u) j ≡ some z → Was j z
  was j z e = ⊎_elim
      (λ (c : (j ≡ id) × (u ≡ z)). (
        v,
        ap (λ (i : ℕ). get_elem? (set views id v) i) c.0 ∙ set_here views id v here,
        λ i. (ap (λ (y : PoolView). part y i) (sym c.1) ∙ (same i).0, ap (λ (y : PoolView). note y i) (sym c.1) ∙ (same i).1),
        ap (λ (y : PoolView). length y.parts) (sym c.1) ∙ wide,
      ))
      (λ (c : (j ≢ id) × (get_elem? views j ≡ some z)). (z, set_else views id j v c.0 ∙ c.1, (λ i. (refl, refl)), refl))
      (at_set views id j u z e)

  part_was : (j i : ℕ) (z : PoolView) (e : get_elem? (set views id u) j ≡ some z) → part z i ≡ part (was j z e).0 i
  part_was j i z e = ((was j z e).2 i).0

  -- and what it knows
  now : (j : ℕ) (y : PoolView) → get_elem? (set views id v) j ≡ some y → (z : PoolView) × (get_elem? (set views id u) j ≡ some z) × ((i : ℕ) → part z i ≡ part y i)
  now j y e = ⊎_elim
      (λ (c : (j ≡ id) × (v ≡ y)). (u, ap (λ (i : ℕ). get_elem? (set views id u) i) c.0 ∙ set_here views id u here, λ i. (same i).0 ∙ ap (λ (z : PoolView). part z i) c.1))
      (λ (c : (j ≢ id) × (get_elem? views j ≡ some y)). (y, set_else views id j u c.0 ∙ c.1, λ i. refl))
      (at_set views id j v y e)

  same_length : length (set views id v) ≡ length (set views id u)
  same_length = length-set views id v ∙ sym (length-set views id u)

  pub held_same : HeldPool (record { words = words; homes = homes; views = set views id u })
  held_same = record {
    mutexes = h.mutexes;
    seats = h.seats;
    tables = h.tables;
    kept = h.kept;
    sized = h.sized;
    long = h.long;
    wide = λ j z e. let y = was j z e in y.3 ∙ h.wide j y.0 y.1;
    counted = λ i less. h.counted i less ∙ same_length;
    parts = λ i j z less e. let y = was j z e in h.parts i j y.0 less y.1 ∙ ap some (sym (part_was j i z e));
    own = h.own;
    elsewhere = λ i n j z less less' differ e busy. let y = was j z e in
        ap rests (part_was j n z e) ∙ h.elsewhere i n j y.0 less less' differ y.1 (ap rests (sym (part_was j i z e)) ∙ busy);
    popped = h.popped;
    listed = h.listed;
    linked = λ i j z less e has. let y = was j z e in
        h.linked i j y.0 less y.1 (subst (λ (w : View ⊤). IsUncollected (h.tables i) h.seats (h.popped i) j w) (part_was j i z e) has);
    dues = h.dues;
    chain = h.chain;
    noted = λ i j z less e carries. let y = was j z e in
        (y.2 i).1 ∙ h.noted i j y.0 less y.1 (ap (λ (w : View ⊤). carries_value w.state) (sym (part_was j i z e)) ∙ carries);
    idle = λ i less none. h.idle i less (λ j y e. let z = now j y e in ap (λ (w : View ⊤). carries_value w.state) (sym (z.2 i)) ∙ none j z.0 z.1);
    wakes = λ i j z less e busy. let y = was j z e in h.wakes i j y.0 less y.1 (ap rests (sym (part_was j i z e)) ∙ busy);
    quiet = λ j z e all. let y = was j z e in h.quiet j y.0 y.1 (λ i less. ap rests (sym (part_was j i z e)) ∙ all i less);
    fresh = λ j far less. h.fresh j (let l = same_length in omega (arith, l, far)) less;
  }
