-- A strike of a number k that stands: its bit is turned, and the newest of the saves notes its word.
use Rattle.std.proofs.Common.{◌≡◌, ℕ, suc, ◌-◌, ◌/◌, ◌<◌, ◌≤◌, true, List, length, sym, ◌∙◌, arith}
use Rattle.roll.specs.Meaning.{stands_at, struck, trues}
use Rattle.roll.proofs.First.{stands_below}
use Rattle.packed_roll.specs.Packed.{meaning_of}
use Rattle.packed_roll.specs.Words.{Clear, Tallied, mark, marks_of, word_in, without}
use Rattle.packed_roll.specs.Trail.{save_at, saves_of, saves_noting, words_at}
use Rattle.packed_roll.specs.Soundness.{length_marks}
use Rattle.packed_roll.specs.declared.packed.PackedRoll.{PackedRoll}
use Rattle.packed_roll.specs.declared.trail.Save.{Save}
use Rattle.packed_roll.proofs.WordLaws.{marks_at, marks_struck, clear_struck, count_struck}
use Rattle.packed_roll.proofs.TrailLaws.{SavesKept, saves_kept}

-- k stands in the roll p: it is below the most, and its bit is set
pub record Standing (p : PackedRoll) (k : ℕ) : Type 0 where
  pub most : k < 4096
  pub marked : mark (word_in p.words.bits) k ≡ true

pub standing : (p : PackedRoll) (k : ℕ) → stands_at (meaning_of p) k ≡ true → Standing p k
standing p k h =
    let l = stands_below (meaning_of p) k h in
    let e = length_marks (word_in p.words.bits) p.size in
    let s = p.few in
    record { most = omega arith; marked = sym (marks_at p.size (word_in p.words.bits) p.now.clear k) ∙ h }

abbrev pub new_words : PackedRoll → ℕ → ℕ → ℕ
new_words p k = without (word_in p.words.bits) k

abbrev pub new_saves : PackedRoll → ℕ → List Save
new_saves p k = saves_noting p.trail.saves p.kept (k / 64) (word_in p.words.bits (k / 64))

module _ (p : PackedRoll) (k : ℕ) (s : Standing p k) where
  pub cleared : Clear p.size (new_words p k)
  cleared = clear_struck (word_in p.words.bits) k p.size s.marked p.now.clear

  -- there is one to count less
  pub counted_struck : suc (trues (marks_of (new_words p k) p.size)) ≡ p.count
  counted_struck = count_struck (word_in p.words.bits) k p.size s.marked p.now.clear ∙ p.now.counted

  module _ (long : p.kept ≤ length p.trail.saves) (within : 0 < p.kept → k / 64 < length (save_at p.trail.saves (p.kept - 1)).words) where
    kept : SavesKept p.kept (word_in p.words.bits) (new_words p k) p.trail.saves (new_saves p k)
    kept = saves_kept p.trail.saves p.kept (word_in p.words.bits) k long within

    pub tallied_struck : (i : ℕ) → i < p.kept → Tallied p.size (save_at (new_saves p k) i).count (words_at (new_saves p k) (new_words p k) p.kept i)
    tallied_struck i l = rw (kept.words i l, kept.counts i) (p.at_saves i l)

    pub means_struck : record {
      marks = marks_of (new_words p k) p.size;
      saves = saves_of (new_saves p k) p.size (new_words p k) p.kept;
      free = 32 - p.kept;
    } ≡ struck (meaning_of p) k
    means_struck = λ i. record { marks = marks_struck (word_in p.words.bits) k p.size s.marked i; saves = kept.marks p.size i; free = 32 - p.kept }
