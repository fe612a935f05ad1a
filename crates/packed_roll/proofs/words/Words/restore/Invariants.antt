use Rattle.std.proofs.Common.{◌-◌}
use lib.Count.{count_trailing_zeros}
use Rattle.packed_roll.proofs.Restoring.{Restoring}
use Rattle.packed_roll.proofs.words.Words.restore.Given as goal

abbrev pub invariant-loop-left : goal.invariant-loop-left
invariant-loop-left l = Restoring l.save l.initial.self.bits l.self.bits l.left

-- the lowest bit that is left goes up
abbrev pub decreases-loop-left : goal.decreases-loop-left
decreases-loop-left l = 64 - count_trailing_zeros 64 l.left
