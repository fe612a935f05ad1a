use Rattle.std.proofs.Common.{sym, ◌∙◌, arith}
use Rattle.std.proofs.lemmas.Bool.{le-ltb}
use Rattle.packed_roll.specs.Words.{word_in}
use Rattle.packed_roll.proofs.WordLaws.{marks_at, marks_past}
use Rattle.packed_roll.proofs.packed.kind.PackedRollRoll.stands.Goals as goal

pub returns-then-k-self : goal.returns-then-k-self
returns-then-k-self c =
    let p = c.args.self.now in
    c.has.ensures ∙ sym (marks_at p.size (word_in p.words.bits) p.now.clear c.args.k)

pub returns-else-k-self : goal.returns-else-k-self
returns-else-k-self c =
    let p = c.args.self.now in
    let l = c.if-k-self.false in
    le-ltb _ _ l ∙ sym (marks_past p.size (word_in p.words.bits) c.args.k (omega arith))
