use Rattle.std.proofs.Common.{◌≡◌, ◌+◌, take}
use Rattle.roll.specs.Meaning.{standing, struck_all}
use Rattle.roll.proofs.generic.strike_all.Given as goal

-- the numbers so far are struck, and those of them that stood stand no more
abbrev pub invariant-loop-k : goal.invariant-loop-k
invariant-loop-k g l = record {
  after : g.R.Roll.meaning l.roll ≡ struck_all (g.R.Roll.meaning l.initial.roll) (take l.k-index l.numbers);
  stood : l.stood + standing (g.R.Roll.meaning l.roll) ≡ standing (g.R.Roll.meaning l.initial.roll);
}
