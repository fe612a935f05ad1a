use Rattle.std.proofs.Common.{◌+◌, refl, arith}
use Rattle.packed_roll.proofs.WordLaws.{clear_zeros}
use Rattle.packed_roll.proofs.packed.kind.PackedRollRoll.new.Goals as goal

pub invariant_of-result : goal.invariant_of-result
invariant_of-result c = record {
  few = omega arith;
  few_saves = omega arith;
  now = record { clear = λ k. clear_zeros 64 (0 + k); counted = refl };
  at_saves = λ i z. absurd (omega arith);
}
