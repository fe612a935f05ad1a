-- Which numbers words stand for, and how that alters. The words are given by functions f.
use Rattle.std.proofs.Common.{◌≡◌, ℕ, suc, ◌+◌, ◌-◌, ◌*◌, ◌/◌, ◌%◌, ◌≤◌, ◌≢◌, min, true, false, ltb, set, replicate, ap, ◌∙◌, arith}
use Rattle.std.proofs.lemmas.Bool.{cases_lt, cases_eq, le-ltb, lt-ltb}
use Rattle.std.proofs.lemmas.Grind.{common_steps}
use Rattle.roll.specs.Meaning.{has, trues}
use Rattle.roll.proofs.Marks.{made_at, made_past, made_all, made-set, trues_all, trues-set}
use Rattle.packed_roll.specs.Words.{mark, marks_of, word_in, Clear, Tallied, full, without}
use Rattle.packed_roll.proofs.BitLaws.{bit_turned_other, bit_turned_same, bit_ones, bit_ones_past, bit-zero}

-- no number at or above n stands
pub clear_at : (n : ℕ) (f : ℕ → ℕ) → Clear n f → (k : ℕ) → n ≤ k → mark f k ≡ false
clear_at n f h k l = grind (arith, h (k - n))

pub marks_past : (n : ℕ) (f : ℕ → ℕ) (k : ℕ) → n ≤ k → has (marks_of f n) k ≡ false
marks_past n f k l = made_past (mark f) n k l

pub marks_at : (n : ℕ) (f : ℕ → ℕ) → Clear n f → (k : ℕ) → has (marks_of f n) k ≡ mark f k
marks_at n f h k = grind (arith, common_steps, cases_lt k n, made_at (mark f) n k, made_past (mark f) n k, clear_at n f h k)

-- All numbers below n stand.

mark-full : (n k : ℕ) → mark (full n) k ≡ ltb k n
mark-full n k =
    grind (arith, common_steps, cases_lt k n, bit_ones (min (n - k / 64 * 64) 64) (k % 64), bit_ones_past (min (n - k / 64 * 64) 64) (k % 64))

pub marks_full : (n : ℕ) → marks_of (full n) n ≡ replicate n true
marks_full n = made_all (mark (full n)) n (λ k l. mark-full n k ∙ lt-ltb k n l)

pub tallied_full : (n : ℕ) → Tallied n n (full n)
tallied_full n = record { clear = λ k. mark-full n (n + k) ∙ le-ltb (n + k) n (omega arith); counted = ap trues (marks_full n) ∙ trues_all n }

-- words that are all 0
pub clear_zeros : (n k : ℕ) → mark (word_in (replicate n 0)) k ≡ false
clear_zeros n k = grind (arith, common_steps, cases_lt (k / 64) n, bit-zero (k % 64))

-- One number is taken out.

pub word_other : (f : ℕ → ℕ) (k w : ℕ) → w ≢ k / 64 → without f k w ≡ f w
word_other f k w n = grind (arith, common_steps)

mark-struck : (f : ℕ → ℕ) (k : ℕ) → mark f k ≡ true → mark (without f k) k ≡ false
mark-struck f k h = grind (arith, common_steps, bit_turned_same (f (k / 64)) (k % 64))

mark_other : (f : ℕ → ℕ) (k i : ℕ) → i ≢ k → mark (without f k) i ≡ mark f i
mark_other f k i n = grind (arith, common_steps, cases_eq (i / 64) (k / 64), bit_turned_other (f (i / 64)) (i % 64) (k % 64))

pub marks_struck : (f : ℕ → ℕ) (k n : ℕ) → mark f k ≡ true → marks_of (without f k) n ≡ set (marks_of f n) k false
marks_struck f k n h = made-set (mark (without f k)) (mark f) n k (mark-struck f k h) (λ i b d. mark_other f k i d)

pub clear_struck : (f : ℕ → ℕ) (k n : ℕ) → mark f k ≡ true → Clear n f → Clear n (without f k)
clear_struck f k n h c j = grind (arith, cases_eq (n + j) k, mark-struck f k, mark_other f k (n + j), c j)

pub count_struck : (f : ℕ → ℕ) (k n : ℕ) → mark f k ≡ true → Clear n f → suc (trues (marks_of (without f k) n)) ≡ trues (marks_of f n)
count_struck f k n h c = ap (λ bs. suc (trues bs)) (marks_struck f k n h) ∙ trues-set (marks_of f n) k (marks_at n f c k ∙ h)
