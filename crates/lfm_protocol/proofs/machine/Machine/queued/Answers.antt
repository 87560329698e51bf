use Rattle.std.proofs.Common.{◌≡◌, ◌+◌, ◌-◌, ◌<◌, ◌++◌, ◌∙◌, ℕ, List, length, get_or, reverse, Some, sym, ap, arith, length-append}
use Rattle.std.specs.List.{slice_get}
use Rattle.std.proofs.lemmas.List.{length-reverse, get_or-append-add, get_or-reverse}
use Rattle.std.proofs.lemmas.Option.{slice_get-get_or}
use Rattle.std.specs.Option.{option_map}
use Rattle.lfm_words.specs.declared.pop_lists.Record.{Record}
use Rattle.lfm_words.specs.Popped.{pair_of}
use Rattle.lfm_protocol.specs.Core.{Core}
use Rattle.lfm_protocol.specs.Queue.{chain, unwalked}
use Rattle.lfm_protocol.proofs.machine.Machine.queued.Goals as goal

-- after the walked and the popped records come the pushed ones, the oldest first
slice_get-pushed : (walked popped pushed : List Record) (i n : ℕ) → n < length pushed → i ≡ length walked + length popped + n
    → slice_get (reverse walked ++ (popped ++ reverse pushed)) i ≡ slice_get pushed (length pushed - 1 - n)
slice_get-pushed walked popped pushed i n within at =
    let d : Record = record { seat = 0; stamp = 0 } in
    let place : i ≡ length (reverse walked) + (length popped + n) = omega (arith, length-reverse walked) in
    let inside : i < length (reverse walked ++ (popped ++ reverse pushed)) = omega (arith, length-append (reverse walked) (popped ++ reverse pushed), length-append popped (reverse pushed), length-reverse walked, length-reverse pushed) in
    let back : length pushed - 1 - n < length pushed = omega arith in
    slice_get-get_or (reverse walked ++ (popped ++ reverse pushed)) i d inside ∙
    ap Some (ap (λ (k : ℕ). get_or (reverse walked ++ (popped ++ reverse pushed)) k d) place ∙ get_or-append-add (reverse walked) (popped ++ reverse pushed) (length popped + n) d ∙ get_or-append-add popped (reverse pushed) n d ∙ get_or-reverse pushed n d within) ∙
    sym (slice_get-get_or pushed (length pushed - 1 - n) d back)

pub returns-then-i-pushed : goal.returns-then-i-pushed
returns-then-i-pushed c =
    let m : Core = c.args.self.now in
    let walked : List Record = chain m.links (unwalked m.seats) in
    let pushed : List Record = chain m.links m.push.next in
    let n : ℕ = c.args.i - c.chain_len-walked.result - c.len-2.result in
    let same : chain m.links c.self.inside.push.next ≡ pushed = ap (λ (k : Core). chain m.links k.push.next) c.self.view_is in
    let walked_is : c.chain_len-walked.result ≡ length walked = c.chain_len-walked.ensures.length ∙ ap (λ (t : ℕ). length (chain m.links t)) c.unwalked.ensures in
    let popped_is : c.len-2.result ≡ length m.popped = c.len-2.ensures ∙ ap (λ (k : Core). length k.popped) c.self.view_is in
    let pushed_is : c.chain_len-pushed.result ≡ length pushed = c.chain_len-pushed.ensures.length ∙ ap length same in
    let within : n < length pushed = omega (arith, pushed_is, c.if-i-pushed.true) in
    let at : c.args.i ≡ length walked + length m.popped + n = omega (arith, walked_is, popped_is, c.len.ensures, c.len-2.ensures, c.if-i-walked.false, c.if-i-len.false) in
    c.chained-then-i-pushed.ensures ∙
    ap (option_map pair_of) (ap (λ (records : List Record). slice_get records (c.chain_len-pushed.result - 1 - n)) same ∙ ap (λ (k : ℕ). slice_get pushed (k - 1 - n)) pushed_is ∙ sym (slice_get-pushed walked m.popped pushed c.args.i n within at))
