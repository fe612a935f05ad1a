use Rattle.std.proofs.Common.{arith}
use Rattle.ordered_roll.specs.Soundness.{length_marks}
use Rattle.ordered_roll.proofs.ordered.kind.OrderedRollRoll.size.Goals as goal

pub returns : goal.returns
returns c = let p = c.args.self.now in let e = length_marks p.lists.place p.count p.size in omega arith
