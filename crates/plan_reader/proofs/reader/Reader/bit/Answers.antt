use Rattle.std.proofs.Common.{◌≡◌, ◌+◌, ◌*◌, ◌/◌, ◌%◌, ◌<◌, length, get_or, sym, ap, ◌∙◌, arith}
use Rattle.std.proofs.lemmas.Nat.{and_mask}
use Rattle.plan_format.specs.Bits.{bits}
use Rattle.plan_format.proofs.BitLaws.{bits_at}
use Rattle.plan_reader.proofs.reader.Reader.bit.Goals as goal

pub returns : goal.returns
returns c =
    let p = c.args.place in
    let e : 8 * (p / 8) + p % 8 ≡ p = omega arith in
    let h : p % 8 < 8 = omega arith in
    let l : p / 8 < length c.args.self.now.file.now = omega arith in
    and_mask _ 1 ∙ sym (bits_at c.args.self.now.file.now (p / 8) (p % 8) h l) ∙ ap (λ k. get_or (bits c.args.self.now.file.now) k 0) e
