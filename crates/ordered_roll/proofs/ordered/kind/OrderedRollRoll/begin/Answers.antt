use Rattle.std.proofs.Common.{[], ◌∙◌, arith}
use Rattle.roll.proofs.Calls.{begin_done}
use Rattle.ordered_roll.specs.Ordered.{meaning_of}
use Rattle.ordered_roll.proofs.PlaceLaws.{all_stand, all_counted, order_inverse}
use Rattle.ordered_roll.proofs.ordered.kind.OrderedRollRoll.begin.Goals as goal

pub invariant_of-self-clause-fits : goal.invariant_of-self-clause-fits
invariant_of-self-clause-fits c = omega arith

pub invariant_of-self-clause-placed : goal.invariant_of-self-clause-placed
invariant_of-self-clause-placed c = order_inverse c.fill.new.self.place c.fill.new.self.list c.args.n c.fill.ensures.place c.fill.ensures.list

pub invariant_of-self-clause-listed : goal.invariant_of-self-clause-listed
invariant_of-self-clause-listed c = order_inverse c.fill.new.self.list c.fill.new.self.place c.args.n c.fill.ensures.list c.fill.ensures.place

pub invariant_of-self-clause-counted : goal.invariant_of-self-clause-counted
invariant_of-self-clause-counted c = all_counted c.fill.new.self.place c.args.n c.fill.ensures.place

pub returns-clause-after : goal.returns-clause-after
returns-clause-after c =
    let all = all_stand c.fill.new.self.place c.args.n c.fill.ensures.place in
    (λ i. record { marks = all i; saves = []; free = 32 }) ∙ (begin_done 1024 c.args.n (meaning_of c.args.self.now) (omega arith)).after
