use Rattle.std.proofs.Common.{sym, ◌∙◌, arith}
use Rattle.std.proofs.lemmas.Bool.{le-ltb}
use Rattle.ordered_roll.proofs.PlaceLaws.{marks_at, marks_past}
use Rattle.ordered_roll.proofs.ordered.kind.OrderedRollRoll.stands.Goals as goal

pub returns-then-k-self : goal.returns-then-k-self
returns-then-k-self c =
    let p = c.args.self.now in
    let e = marks_at p.lists.place p.count p.size c.args.k (let t = c.if-k-self.true in omega arith) in cc

pub returns-else-k-self : goal.returns-else-k-self
returns-else-k-self c =
    let p = c.args.self.now in
    le-ltb c.args.k p.size c.if-k-self.false ∙ sym (marks_past p.lists.place p.count p.size c.args.k c.if-k-self.false)
