use Rattle.std.proofs.Common.{◌*◌}
use Rattle.packed_roll.specs.Words.{word_in}
use Rattle.packed_roll.proofs.FirstLaws.{NoneBetween}
use Rattle.packed_roll.proofs.packed.kind.PackedRollRoll.first_from.Given as goal

-- no number before the word w stands
abbrev pub invariant-loop-w : goal.invariant-loop-w
invariant-loop-w l = NoneBetween (word_in l.self.words.bits) l.place (l.w * 64)
