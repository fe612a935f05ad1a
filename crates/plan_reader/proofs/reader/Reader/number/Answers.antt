use Rattle.std.proofs.Common.{◌≡◌, ◌+◌, ◌-◌, ◌*◌, ◌/◌, ◌%◌, ◌^◌, sym, refl, ap, ◌∙◌, arith}
use Rattle.std.proofs.lemmas.Nat.{one_shl}
use Rattle.plan_format.specs.Bits.{bits, number_at}
use Rattle.plan_format.proofs.BitLaws.{bits_below, length-bits, number_got, number_short}
use Rattle.plan_reader.proofs.NumberLaws.{number_within}
use Rattle.plan_reader.proofs.reader.Reader.number.Goals as goal

pub returns-then-after-end : goal.returns-then-after-end
returns-then-after-end c =
    let b = bits c.args.self.now.file.now in
    let e = length-bits c.args.self.now.file.now in
    record { reads = sym (number_short b c.args.width c.args.self.now.place (omega arith)); same = refl }

pub returns : goal.returns
returns c =
    let file = c.args.self.now.file.now in
    let b = bits file in
    let p = c.args.self.now.place in
    let w = c.args.width in
    let k = 24 - p % 8 - w in
    let e = length-bits file in
    let long : p % 8 + (w + k) ≡ 24 = omega arith in
    let at : 8 * (p / 8) + p % 8 ≡ p = omega arith in
    let n : c.three_bytes.result ≡ number_at b (8 * (p / 8)) (p % 8 + (w + k)) = c.three_bytes.ensures ∙ ap (number_at b (8 * (p / 8))) (sym long) in
    let v : c.three_bytes.result / 2 ^ k % 2 ^ w ≡ number_at b p w =
    ap (λ x. x / 2 ^ k % 2 ^ w) n ∙ number_within b (bits_below file) (8 * (p / 8)) (p % 8) w k ∙ ap (λ q. number_at b q w) at in
    record { reads = rw (one_shl w 32 (omega arith), v) (sym (number_got b w p (omega arith))); same = refl }
