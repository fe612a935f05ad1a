use Rattle.std.proofs.Common.{rules, tests, ◌-◌, eqb, length, get_or, ◌∙◌, arith, refl}
use Rattle.std.proofs.lemmas.Bool.{lt-ltb}
use Rattle.std.proofs.lemmas.Iterator.{YieldsList-from_range}
use Rattle.std.proofs.lemmas.Iterator.Search.{all_from_yields_List}
use Rattle.plan_format.specs.Bits.{bits}
use Rattle.plan_format.proofs.BitLaws.{length-bits}
use Rattle.plan_reader.proofs.PaddingLaws.{all_zeros}
use Rattle.plan_reader.proofs.reader.Reader.is_padded.Goals as goal

pub returns-then-end-self-lt8 : goal.returns-then-end-self-lt8
returns-then-end-self-lt8 c =
    let b = bits c.args.self.now.file.now in
    let p = c.args.self.now.place in
    let n = c.end-end.result - p in
    let e = length-bits c.args.self.now.file.now in
    let h = lt-ltb (length b - p) 8 (omega arith) in
    rw h (all_from_yields_List (λ k. eqb (get_or b k 0) 0) _ _ c.all.result c.all.ensures.ran (YieldsList-from_range _ _ n refl (omega arith)) (λ x z q k. search (rules, tests))
    ∙ all_zeros b _ p n (omega arith) (omega (arith, c.type_inv.self)))

pub returns-else-end-self-lt8 : goal.returns-else-end-self-lt8
returns-else-end-self-lt8 c =
    let e = length-bits c.args.self.now.file.now in
    search rules
