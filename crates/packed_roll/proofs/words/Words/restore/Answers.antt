use Rattle.std.proofs.Common.{ℕ, ◌^◌, ◌<◌, arith}
use lib.Bits.{bit_xor}
use Rattle.std.proofs.lemmas.Nat.{one_shl}
use lib.Count.{count_trailing_zeros}
use Rattle.packed_roll.specs.Words.{LowestBit}
use Rattle.packed_roll.proofs.BitLaws.{lowest_of}
use Rattle.packed_roll.proofs.Restoring.{restoring_none, restoring_more, lowest_rises, restored}
use Rattle.packed_roll.proofs.words.Words.restore.Goals as goal

pub loop-left-init : goal.loop-left-init
loop-left-init c = restoring_none c.args.save.now c.args.self.now.bits

pub loop-left-preserved : goal.loop-left-preserved
loop-left-preserved c =
    let left : ℕ = c.loop-left.left in
    let t : ℕ = count_trailing_zeros 64 left in
    let low : LowestBit left 0 t = lowest_of left (omega arith) (let n = c.loop-left-test.true in omega arith) in
    rw (one_shl t 64 low.within)
    (restoring_more c.args.save.now c.args.self.now.bits c.loop-left.self.bits left t (omega arith) c.loop-left.invariant low)

pub loop-left-smaller : goal.loop-left-smaller
loop-left-smaller c =
    let left : ℕ = c.loop-left.left in
    let t : ℕ = count_trailing_zeros 64 left in
    let low : LowestBit left 0 t = lowest_of left (omega arith) (let n = c.loop-left-test.true in omega arith) in
    let r : t < count_trailing_zeros 64 (bit_xor left (2 ^ t)) = lowest_rises left t (omega arith) low in
    let w = low.within in
    rw (one_shl t 64 w) (omega arith)

pub returns : goal.returns
returns c = restored c.args.save.now c.args.self.now.bits c.loop-left.self.bits c.loop-left.left c.loop-left.invariant c.loop-left-test.false
