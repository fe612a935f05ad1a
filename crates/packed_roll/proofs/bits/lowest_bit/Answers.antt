use Rattle.std.proofs.Common.{◌-◌, arith}
use Rattle.packed_roll.proofs.BitLaws.{bit_past, bit-zero, lowest_from}
use Rattle.packed_roll.proofs.bits.lowest_bit.Goals as goal

pub returns-then-rest-eq0 : goal.returns-then-rest-eq0
returns-then-rest-eq0 c i l = grind (arith, bit_past c.args.word c.args.j i, bit-zero (i - c.args.j))

pub returns-else-rest-eq0 : goal.returns-else-rest-eq0
returns-else-rest-eq0 c = lowest_from c.args.word c.args.j c.ranges.word.fits (let n = c.if-rest-eq0.false in omega arith)
