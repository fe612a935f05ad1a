-- What an ordered roll means.
use Rattle.std.specs.Prelude.{◌≡◌, ℕ, ◌-◌, ◌<◌, slice_index}
use Rattle.roll.specs.Meaning.{Meaning}
use Rattle.ordered_roll.specs.Places.{marks_of, saves_of}
use Rattle.ordered_roll.specs.declared.ordered.OrderedRoll.{OrderedRoll}

abbrev pub meaning_of : OrderedRoll → Meaning
meaning_of p = record {
  marks = marks_of p.lists.place p.count p.size;
  saves = saves_of p.lists.place p.notes.counts p.size p.kept;
  free = 32 - p.kept;
}

-- the number at the place i of the list
abbrev pub at_place : OrderedRoll → ℕ → ℕ
at_place p i = slice_index p.lists.list i

-- an ordered roll lists each number below its size, none twice, and no other
pub record Once (p : OrderedRoll) : Type 0 where
  pub no_other : (i : ℕ) → i < p.size → at_place p i < p.size
  pub each : (k : ℕ) → k < p.size → (i : ℕ) × (i < p.size) × (at_place p i ≡ k)
  pub not_twice : (i j : ℕ) → i < p.size → j < p.size → at_place p i ≡ at_place p j → i ≡ j

abbrev pub ListedOnce : Type 0
ListedOnce = (p : OrderedRoll) → Once p
