-- The laws of bits.
use Rattle.std.proofs.Common.{◌≡◌, ℕ, ◌+◌, ◌-◌, ◌/◌, ◌^◌, ◌<◌, ◌≤◌, ◌≢◌, true, false, not, arith, shr-shr, pow_pos}
use lib.Bits.{bit_xor, xor_add_and}
use lib.Count.{count_trailing_zeros}
use Rattle.std.specs.Int.{w64}
use Rattle.std.proofs.lemmas.Nat.Bits.{bit_at-lt, bit_at-zero, bit_at_xor, bit_at-pow_same, bit_at-pow_other, bit_at_ones, bit_at_ones_above, bit_at_above, bit_at-trailing_zeros, and_pow}
use Rattle.packed_roll.specs.Words.{bit, LowestBit}

-- a bit is turned
pub bit_turned_same : (w j : ℕ) → bit (bit_xor w (2 ^ j)) j ≡ not (bit w j)
bit_turned_same w j = grind (arith, bit_at_xor, bit_at-pow_same, bit_at-lt)

pub bit_turned_other : (w i j : ℕ) → i ≢ j → bit (bit_xor w (2 ^ j)) i ≡ bit w i
bit_turned_other w i j n = grind (arith, bit_at_xor, bit_at-pow_other, bit_at-lt)

-- a number is less without one of its bits
pub less_turned : (w j : ℕ) → bit w j ≡ true → bit_xor w (2 ^ j) < w
less_turned w j h = grind (arith, xor_add_and w (2 ^ j), pow_pos j, and_pow w j)

pub bit_ones : (r j : ℕ) → j < r → bit (2 ^ r - 1) j ≡ true
bit_ones r j l = grind (arith, bit_at_ones r j)

pub bit_ones_past : (r j : ℕ) → r ≤ j → bit (2 ^ r - 1) j ≡ false
bit_ones_past r j l = grind (arith, bit_at_ones_above r j)

pub bit-zero : (j : ℕ) → bit 0 j ≡ false
bit-zero j = grind (arith, bit_at-zero j)

-- a bit, as one of what a shift by j leaves
pub bit_past : (w j i : ℕ) → j ≤ i → bit w i ≡ bit (w / 2 ^ j) (i - j)
bit_past w j i l = grind (arith, shr-shr w j (i - j))

-- the lowest bit that is set
pub lowest_of : (w : ℕ) → w < 2 ^ 64 → 0 < w → LowestBit w 0 (count_trailing_zeros 64 w)
lowest_of w l p =
    let t = bit_at-trailing_zeros w64 w p l in
    record { from = omega arith; within = t.0; here = grind (arith, t.1); before = λ i a b. grind (arith, t.2 i) }

-- the lowest bit from bit j on, of what a shift by j leaves
pub lowest_from : (w j : ℕ) → w < 2 ^ 64 → 0 < w / 2 ^ j → LowestBit w j (j + count_trailing_zeros 64 (w / 2 ^ j))
lowest_from w j l p =
    let t : ℕ = count_trailing_zeros 64 (w / 2 ^ j) in
    let low : LowestBit (w / 2 ^ j) 0 t = lowest_of (w / 2 ^ j) (omega arith) p in
    let h : bit w (j + t) ≡ true = grind (arith, bit_past w j (j + t), low.here) in
    record {
      from = omega arith;
      within = grind (arith, bit_at_above w 64 (j + t), h);
      here = h;
      before = λ i a b. grind (arith, bit_past w j i, low.before (i - j));
    }
