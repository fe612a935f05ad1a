use Rattle.std.proofs.Common.{arith}
use Rattle.packed_roll.specs.Words.{word_in}
use Rattle.packed_roll.specs.Soundness.{length_marks}
use Rattle.packed_roll.proofs.packed.kind.PackedRollRoll.size.Goals as goal

pub returns : goal.returns
returns c = let p = c.args.self.now in let e = length_marks (word_in p.words.bits) p.size in omega arith
