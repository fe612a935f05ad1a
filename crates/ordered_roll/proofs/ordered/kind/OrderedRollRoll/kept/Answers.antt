use Rattle.std.proofs.Common.{arith}
use Rattle.ordered_roll.specs.Soundness.{length_saves}
use Rattle.ordered_roll.proofs.ordered.kind.OrderedRollRoll.kept.Goals as goal

pub returns : goal.returns
returns c =
    let p = c.args.self.now in
    let e = length_saves p.lists.place p.notes.counts p.size p.kept in
    omega arith
