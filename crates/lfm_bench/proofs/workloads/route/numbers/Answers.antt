use Rattle.std.proofs.Common.{◌≡◌, ◌∙◌, ◌++◌, IsPermutation, length, subst, sym}
use Rattle.std.proofs.lemmas.List.Sorted.{IsPermutation-sym, length_permutation}
use Rattle.std.proofs.Math.Seq.{take-append_seam}
use lib.ListN.{drop, take}
use Rattle.lfm_bench.proofs.workloads.route.numbers.Goals as goal

-- the numbers were pushed from 0 on, and putting them in order has only exchanged them
pub returns-clause-once : goal.returns-clause-once
returns-clause-once c =
    let pushed = c.filling.invariant in
    let ordered = c.put_in_order.new.numbers in
    let rest = drop (length ordered) c.filling.numbers.items in
    let same : IsPermutation c.filling.numbers.items ordered = subst (λ l. IsPermutation l ordered) c.deref_mut.ensures.value c.put_in_order.ensures in
    let long : length ordered ≡ c.filling.numbers.len = length_permutation _ _ same ∙ pushed.1 ∙ sym pushed.0 in
    record {
      sorted = c.filling.numbers.items;
      same = subst (λ l. IsPermutation l c.filling.numbers.items) (sym (subst (λ n. take n (ordered ++ rest) ≡ ordered) long (take-append_seam ordered rest))) (IsPermutation-sym _ _ same);
      each = pushed.2;
    }
