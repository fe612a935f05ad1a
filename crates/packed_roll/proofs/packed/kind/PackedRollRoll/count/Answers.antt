use Rattle.std.proofs.Common.{arith}
use Rattle.packed_roll.proofs.packed.kind.PackedRollRoll.count.Goals as goal

pub returns : goal.returns
returns c = let e = c.args.self.now.now.counted in omega arith
