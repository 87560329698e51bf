use Rattle.std.proofs.Common.{arith, length, refl, sym, ap}
use Rattle.std.proofs.lemmas.Grind.{common_steps}
use Rattle.std.proofs.lemmas.List.{get_or-reverse}
use Rattle.std.proofs.lemmas.Option.{gets, slice_get_read}
use Rattle.std.specs.Option.{option_map}
use Rattle.lfm_words.specs.Popped.{pair_of}
use Rattle.lfm_words.proofs.pop_lists.PopList.get.Goals as goal

pub returns-then-i-len : goal.returns-then-i-len
returns-then-i-len c =
    let records = c.args.self.now.records in
    sym (ap (option_map pair_of) (slice_get_read records (length records) c.args.i c.index-record.result.now refl (grind (arith, common_steps)) (grind (arith, common_steps, get_or-reverse))))

pub returns-else-i-len : goal.returns-else-i-len
returns-else-i-len c = grind (arith, common_steps, gets)
