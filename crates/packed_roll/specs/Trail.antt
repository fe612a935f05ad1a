-- What the words were at each save. Saves are numbered from 0, the oldest. A save notes the word w where bit w of its `noted` is
-- set: it was overwritten since, and `words` has what it was.
use Rattle.std.specs.Prelude.{ℕ, zero, suc, ◌^◌, if◌then◌else◌, List, [], ◌∷◌, ◌==◌, bit_xor, slice_index, slice_index_or, slice_set}
use Rattle.roll.specs.Meaning.{Marks}
use Rattle.packed_roll.specs.Words.{bit, marks_of}
use Rattle.packed_roll.specs.declared.trail.Save.{Save}

-- the save with the number L
abbrev pub save_at : List Save → ℕ → Save
save_at saves L = slice_index_or saves L (record { noted = 0; words = []; count = 0 })

-- the words at a save, by the words at the save after it or, for the newest save, now: a word that is noted is what it was
abbrev pub rewound : Save → (ℕ → ℕ) → ℕ → ℕ
rewound save later w = if bit save.noted w then slice_index save.words w else later w

-- the words at the save L of K saves kept, where f gives the words now
abbrev pub words_at : List Save → (ℕ → ℕ) → ℕ → ℕ → ℕ → ℕ
words_at saves f zero L = f
words_at saves f (suc K) L = if L == K then rewound (save_at saves K) f else words_at saves (rewound (save_at saves K) f) K L

-- the marks at each of K saves kept, the newest first
abbrev pub saves_of : List Save → ℕ → (ℕ → ℕ) → ℕ → List Marks
saves_of saves n f zero = []
saves_of saves n f (suc K) = marks_of (rewound (save_at saves K) f) n ∷ saves_of saves n (rewound (save_at saves K) f) K

-- before the word w, so far `old`, is overwritten: the save notes it, unless it has it noted
abbrev pub noting : Save → ℕ → ℕ → Save
noting save w old =
    if bit save.noted w then save else record save { noted = bit_xor save.noted (2 ^ w); words = slice_set save.words w old }

-- the newest of K saves notes it
abbrev pub saves_noting : List Save → ℕ → ℕ → ℕ → List Save
saves_noting saves zero w old = saves
saves_noting saves (suc L) w old = slice_set saves L (noting (save_at saves L) w old)
