-- Which numbers the bits of 64-bit words stand for.
use Rattle.std.specs.Prelude.{◌≡◌, ℕ, ◌+◌, ◌-◌, ◌*◌, ◌/◌, ◌%◌, ◌^◌, ◌<◌, ◌≤◌, min, Bool, true, false, if◌then◌else◌, List, map, Some, None, Option, ◌==◌, bit_xor, slice_index}
use Rattle.std.specs.Int.{bit_at}
use Rattle.std.specs.List.{range_with_len}
use Rattle.roll.specs.Meaning.{Marks, trues}

-- whether bit j of the word w is set
abbrev pub bit : ℕ → ℕ → Bool
bit w j = bit_at w j == 1

-- bit t is the lowest bit of the word w, at or after bit j, that is set
pub record LowestBit (w j t : ℕ) : Type 0 where
  pub from : j ≤ t
  pub within : t < 64
  pub here : bit w t ≡ true
  pub before : (i : ℕ) → j ≤ i → i < t → bit w i ≡ false

-- what is answered for it: such a bit, or none where no bit from j on is set
abbrev pub LowestFrom : (w j : ℕ) → Option ℕ → Type 0
LowestFrom w j None = (i : ℕ) → j ≤ i → bit w i ≡ false
LowestFrom w j (Some t) = LowestBit w j t

-- whether the number k stands, where f gives each word
abbrev pub mark : (ℕ → ℕ) → ℕ → Bool
mark f k = bit (f (k / 64)) (k % 64)

-- the marks of the numbers below n
abbrev pub marks_of : (ℕ → ℕ) → ℕ → Marks
marks_of f n = map (mark f) (range_with_len 0 n)

-- the words of a list; 0 beyond it
abbrev pub word_in : List ℕ → ℕ → ℕ
word_in ws w = slice_index ws w

-- no number from n on stands
abbrev pub Clear : ℕ → (ℕ → ℕ) → Type 0
Clear n f = (k : ℕ) → mark f (n + k) ≡ false

-- count numbers stand, all of them below n
pub record Tallied (n count : ℕ) (f : ℕ → ℕ) : Type 0 where
  pub clear : Clear n f
  pub counted : trues (marks_of f n) ≡ count

-- the word w where just the numbers below n stand
abbrev pub full : ℕ → ℕ → ℕ
full n w = 2 ^ (min (n - w * 64) 64) - 1

-- the words, where f gives each, with the bit of k turned
abbrev pub without : (ℕ → ℕ) → ℕ → ℕ → ℕ
without f k w = if w == k / 64 then bit_xor (f w) (2 ^ (k % 64)) else f w
