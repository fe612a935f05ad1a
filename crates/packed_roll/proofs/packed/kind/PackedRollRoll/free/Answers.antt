use Rattle.std.proofs.Common.{arith}
use Rattle.packed_roll.proofs.packed.kind.PackedRollRoll.free.Goals as goal

pub returns : goal.returns
returns c = omega arith
