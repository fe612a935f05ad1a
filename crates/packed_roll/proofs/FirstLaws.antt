-- The first number that stands, found by words.
use Rattle.std.proofs.Common.{◌≡◌, ℕ, ◌+◌, ◌-◌, ◌*◌, ◌/◌, ◌%◌, ◌<◌, ◌≤◌, true, false, arith}
use Rattle.std.proofs.lemmas.Bool.{cases_lt}
use Rattle.packed_roll.specs.Words.{bit, mark, LowestBit}

-- no number from p on and below q stands, where f gives the words
abbrev pub NoneBetween : (ℕ → ℕ) → ℕ → ℕ → Type 0
NoneBetween f p q = (i : ℕ) → p ≤ i → i < q → mark f i ≡ false

-- k is the first number from p on that stands
pub record FirstMark (f : ℕ → ℕ) (p k : ℕ) : Type 0 where
  pub from : p ≤ k
  pub here : mark f k ≡ true
  pub before : NoneBetween f p k

-- a number of the word w, and its bit
mark_in : (f : ℕ → ℕ) (w i : ℕ) → w * 64 ≤ i → i < w * 64 + 64 → mark f i ≡ bit (f w) (i - w * 64)
mark_in f w i l h =
    let d : i / 64 ≡ w = omega arith in
    let r : i % 64 ≡ i - w * 64 = omega arith in
    cc

-- all up to bit j of the word w are passed, and the next that stands is bit t
pub found : (f : ℕ → ℕ) (p w j t : ℕ) → p ≤ w * 64 + j → NoneBetween f p (w * 64 + j) → LowestBit (f w) j t → FirstMark f p (w * 64 + t)
found f p w j t l none low =
    let a = low.from in
    let b = low.within in
    record {
      from = omega arith;
      here = grind (arith, mark_in f w (w * 64 + t), low.here);
      before = λ i q h. grind (arith, cases_lt i (w * 64 + j), none i q, mark_in f w i, low.before (i - w * 64));
    }

-- no bit of the word w stands from bit j on
pub passed : (f : ℕ → ℕ) (p w j : ℕ) → NoneBetween f p (w * 64 + j) → ((i : ℕ) → j ≤ i → bit (f w) i ≡ false) → NoneBetween f p ((w + 1) * 64)
passed f p w j none clear i q h = grind (arith, cases_lt i (w * 64 + j), none i q, mark_in f w i, clear (i - w * 64))
