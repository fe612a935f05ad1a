-- What a roll means: which numbers below its size stand, which saves it keeps, and how many saves are free.
use Rattle.std.specs.Prelude.{◌≡◌, ℕ, suc, ◌+◌, ◌-◌, ◌≤◌, Bool, true, false, List, [], ◌∷◌, length, drop, replicate, Option, slice_index_or, slice_set}
use Rattle.std.specs.List.{AllByRecursion, fold, position}
use Rattle.std.specs.Option.{option_map}

-- a set of numbers below a size: one mark for each number, true where it is in the set
abbrev pub Marks : Type 0
Marks = List Bool

-- whether k is in the set
abbrev pub has : Marks → ℕ → Bool
has marks k = slice_index_or marks k false

-- how many numbers are in the set
abbrev pub trues : Marks → ℕ
trues [] = 0
trues (true ∷ marks) = suc (trues marks)
trues (false ∷ marks) = trues marks

-- marks: the numbers that stand. saves: the numbers that stood at each save kept, the newest save first.
-- free: how many more saves can be kept.
pub record Meaning : Type 0 where
  pub marks : Marks
  pub saves : List Marks
  pub free : ℕ

-- What is asked of a roll.

abbrev pub size_of : Meaning → ℕ
size_of m = length m.marks

abbrev pub stands_at : Meaning → ℕ → Bool
stands_at m k = has m.marks k

-- how many stand
abbrev pub standing : Meaning → ℕ
standing m = trues m.marks

-- how many saves are kept
abbrev pub kept_of : Meaning → ℕ
kept_of m = length m.saves

-- the first number at or after p that stands, or none
abbrev pub first_at : Meaning → ℕ → Option ℕ
first_at m p = option_map (λ k. p + k) (position (λ mark. mark) (drop p m.marks))

-- What is made of a roll.

-- begun with n: all stand, no save is kept and 32 are free
abbrev pub begun : ℕ → Meaning
begun n = record { marks = replicate n true; saves = []; free = 32 }

-- k taken out; a number at or above the size is not in it
abbrev pub struck : Meaning → ℕ → Meaning
struck m k = record { marks = slice_set m.marks k false; saves = m.saves; free = m.free }

-- every number of a list taken out
abbrev pub struck_all : Meaning → List ℕ → Meaning
struck_all m ks = fold struck m ks

-- how many of the numbers of a list stood: as many as are gone when they are taken out
abbrev pub stood_of : Meaning → List ℕ → ℕ
stood_of m ks = standing m - standing (struck_all m ks)

-- what stands put before the saves; one save less is free
abbrev pub saved : Meaning → Meaning
saved m = record { marks = m.marks; saves = m.marks ∷ m.saves; free = m.free - 1 }

-- taken back to the newest of the saves ss; one save more is free
abbrev pub returned : Meaning → List Marks → Meaning
returned m [] = m
returned m (s ∷ ss) = record { marks = s; saves = ss; free = m.free + 1 }

-- What is true of every roll.

-- each save has n marks
abbrev pub Sized : ℕ → List Marks → Type 0
Sized n saves = AllByRecursion (λ s. length s ≡ n) saves

-- the size is at most the most of the kind, each save has the size, and saves kept and free are at most 32 together
pub record Sound (most : ℕ) (m : Meaning) : Type 0 where
  pub fits : size_of m ≤ most
  pub sized : Sized (size_of m) m.saves
  pub few : m.free + kept_of m ≤ 32
