-- What is true of the meaning of every packed roll. It stands among the definitions, since the law of the kind cites it.
use Rattle.std.specs.Prelude.{◌≡◌, ℕ, zero, suc, ◌≤◌, List, length, refl}
use Rattle.std.proofs.Common.{sym, ap, subst, arith}
use Rattle.roll.specs.Meaning.{Sized, Sound}
use Rattle.roll.proofs.Marks.{length-made}
use Rattle.packed_roll.specs.Words.{mark, marks_of, word_in}
use Rattle.packed_roll.specs.Trail.{rewound, save_at, saves_of}
use Rattle.packed_roll.specs.Packed.{meaning_of}
use Rattle.packed_roll.specs.declared.packed.PackedRoll.{PackedRoll}
use Rattle.packed_roll.specs.declared.trail.Save.{Save}

pub length_marks : (f : ℕ → ℕ) (n : ℕ) → length (marks_of f n) ≡ n
length_marks f n = length-made (mark f) n

pub length_saves : (saves : List Save) (n : ℕ) (f : ℕ → ℕ) (K : ℕ) → length (saves_of saves n f K) ≡ K
length_saves saves n f zero = refl
length_saves saves n f (suc K) = ap suc (length_saves saves n (rewound (save_at saves K) f) K)

pub sized_saves : (saves : List Save) (n : ℕ) (f : ℕ → ℕ) (K : ℕ) → Sized n (saves_of saves n f K)
sized_saves saves n f zero = tt
sized_saves saves n f (suc K) = (length_marks (rewound (save_at saves K) f) n, sized_saves saves n (rewound (save_at saves K) f) K)

pub sound_of : (p : PackedRoll) → Sound 4096 (meaning_of p)
sound_of p =
    let f : ℕ → ℕ = word_in p.words.bits in
    let s : p.size ≤ 4096 = p.few in
    let q : p.kept ≤ 32 = p.few_saves in
    let n = length_marks f p.size in
    let z = length_saves p.trail.saves p.size f p.kept in
    let P : ℕ → Type 0 = λ x. Sized x (saves_of p.trail.saves p.size f p.kept) in
    record { fits = omega arith; sized = subst P (sym n) (sized_saves p.trail.saves p.size f p.kept); few = omega arith }
