use Rattle.std.proofs.Common.{arith}
use Rattle.packed_roll.specs.Words.{word_in}
use Rattle.packed_roll.specs.Soundness.{length_saves}
use Rattle.packed_roll.proofs.packed.kind.PackedRollRoll.kept.Goals as goal

pub returns : goal.returns
returns c = let p = c.args.self.now in let e = length_saves p.trail.saves p.size (word_in p.words.bits) p.kept in omega arith
