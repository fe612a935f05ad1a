-- What a packed roll means.
use Rattle.std.specs.Prelude.{◌≡◌, ℕ, ◌-◌, ◌<◌, ◌≤◌, false}
use Rattle.roll.specs.Meaning.{Meaning}
use Rattle.packed_roll.specs.Words.{mark, marks_of, word_in}
use Rattle.packed_roll.specs.Trail.{saves_of, words_at}
use Rattle.packed_roll.specs.declared.packed.PackedRoll.{PackedRoll}

abbrev pub meaning_of : PackedRoll → Meaning
meaning_of p = record {
  marks = marks_of (word_in p.words.bits) p.size;
  saves = saves_of p.trail.saves p.size (word_in p.words.bits) p.kept;
  free = 32 - p.kept;
}

-- no packed roll has a bit set at or above its size, now or at a save
abbrev pub NoBitBeyond : Type 0
NoBitBeyond =
    (p : PackedRoll) (k : ℕ) → p.size ≤ k
    → (mark (word_in p.words.bits) k ≡ false)
    × ((i : ℕ) → i < p.kept → mark (words_at p.trail.saves (word_in p.words.bits) p.kept i) k ≡ false)
