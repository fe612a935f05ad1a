use Rattle.std.proofs.Common.{◌≡◌, ℕ, ◌<◌, get_or}
use Rattle.packed_roll.specs.Words.{full}
use Rattle.packed_roll.proofs.words.Words.fill.Given as goal

abbrev pub invariant-loop-w : goal.invariant-loop-w
invariant-loop-w l = (i : ℕ) → i < l.w → get_or l.word-items i 0 ≡ full l.n i
