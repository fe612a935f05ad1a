use Rattle.std.proofs.Common.{[], ap, ◌∙◌, arith}
use Rattle.roll.proofs.Calls.{begin_done}
use Rattle.packed_roll.specs.Packed.{meaning_of}
use Rattle.packed_roll.specs.Words.{marks_of}
use Rattle.packed_roll.proofs.WordLaws.{marks_full, tallied_full}
use Rattle.packed_roll.proofs.packed.kind.PackedRollRoll.begin.Goals as goal

pub invariant_of-self-clause-few : goal.invariant_of-self-clause-few
invariant_of-self-clause-few c = omega arith

pub invariant_of-self-clause-now : goal.invariant_of-self-clause-now
invariant_of-self-clause-now c = rw c.fill.ensures (tallied_full c.args.n)

pub returns-clause-after : goal.returns-clause-after
returns-clause-after c =
    let n = c.args.n in
    (λ i. record { marks = (ap (λ f. marks_of f n) c.fill.ensures ∙ marks_full n) i; saves = []; free = 32 })
    ∙ (begin_done 4096 n (meaning_of c.args.self.now) (omega arith)).after
