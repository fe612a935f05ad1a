-- The words that a save noted are put back one by one.
use Rattle.std.proofs.Common.{◌≡◌, ℕ, ◌^◌, ◌<◌, true, false, List, length, get_or, set, inl, inr, arith}
use lib.Bits.{bit_xor}
use lib.Count.{count_trailing_zeros, trailing_of_zero}
use Rattle.std.proofs.Math.Path.{fun_ext}
use Rattle.std.proofs.lemmas.Bool.{cases_eq, cases_lt}
use Rattle.std.proofs.lemmas.Grind.{common_steps}
use Rattle.packed_roll.specs.Words.{bit, word_in, LowestBit}
use Rattle.packed_roll.specs.Trail.{rewound}
use Rattle.packed_roll.specs.declared.trail.Save.{Save}
use Rattle.packed_roll.proofs.BitLaws.{bit_turned_other, bit_turned_same, bit-zero, less_turned, lowest_of}

-- of the words xs, those that are noted but have no bit in `left` are put back; ys are the words now
pub record Restoring (save : Save) (xs ys : List ℕ) (left : ℕ) : Type 0 where
  pub done : (i : ℕ) → bit left i ≡ false → get_or ys i 0 ≡ rewound save (word_in xs) i
  pub rest : (i : ℕ) → bit left i ≡ true → bit save.noted i ≡ true

pub restoring_none : (save : Save) (xs : List ℕ) → Restoring save xs xs save.noted
restoring_none save xs = record { done = λ i h. grind arith; rest = λ i h. h }

pub restoring_more : (save : Save) (xs ys : List ℕ) (left t : ℕ) → length ys ≡ 64 → Restoring save xs ys left → LowestBit left 0 t
    → Restoring save xs (set ys t (get_or save.words t 0)) (bit_xor left (2 ^ t))
restoring_more save xs ys left t long r low = record {
  done = λ i q. grind (arith, common_steps, cases_eq i t, r.done i, r.rest t, bit_turned_other left i t, low.here, low.within);
  rest = λ i q. grind (arith, common_steps, cases_eq i t, r.rest i, bit_turned_other left i t, bit_turned_same left t, low.here);
}

-- no bit up to t is left, so the next one is higher
pub lowest_rises : (left t : ℕ) → left < 2 ^ 64 → LowestBit left 0 t → t < count_trailing_zeros 64 (bit_xor left (2 ^ t))
lowest_rises left t l low =
    let next : ℕ = bit_xor left (2 ^ t) in
    let less : next < left = less_turned left t low.here in
    elim (cases_eq next 0) [
      | inl e ↦ rw (e, trailing_of_zero) low.within
      | inr n ↦
          let u : ℕ = count_trailing_zeros 64 next in
          let h : LowestBit next 0 u = lowest_of next (omega arith) (omega arith) in
          elim (cases_lt t u) [
            | inl a ↦ a
            | inr a ↦ grind (arith, cases_eq u t, bit_turned_other left u t, bit_turned_same left t, low.before u, low.here, h.here)
          ]
    ]

pub restored : (save : Save) (xs ys : List ℕ) (left : ℕ) → Restoring save xs ys left → left ≡ 0 → word_in ys ≡ rewound save (word_in xs)
restored save xs ys left r e = fun_ext (λ i. r.done i (rw e (bit-zero i)))
