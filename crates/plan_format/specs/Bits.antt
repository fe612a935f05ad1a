-- Bits, and unsigned numbers spelt in bits, most significant bit first.
use Rattle.std.specs.Prelude.{ℕ, zero, suc, ◌+◌, ◌*◌, ◌/◌, ◌%◌, ◌^◌, List, [], ◌∷◌, ◌++◌, slice_index}

-- the w bits that spell n
abbrev pub spell : ℕ → ℕ → List ℕ
spell zero n = []
spell (suc w) n = (n / 2 ^ w) % 2 ∷ spell w n

-- the bits of bytes
abbrev pub bits : List ℕ → List ℕ
bits [] = []
bits (b ∷ bs) = spell 8 b ++ bits bs

-- the number that w bits spell, from place p on
abbrev pub number_at : List ℕ → ℕ → ℕ → ℕ
number_at b p zero = 0
number_at b p (suc w) = number_at b p w * 2 + slice_index b (p + w)
