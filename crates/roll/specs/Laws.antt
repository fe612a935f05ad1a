-- What the definitions of a roll's meaning come to, in other words.
use Rattle.std.specs.Prelude.{◌≡◌, ℕ, suc, ◌+◌, ◌<◌, ◌≤◌, true, false, List, Some, None, Ok, Err}
use Rattle.std.specs.List.{Contains}
use Rattle.refusal.specs.declared.reason.Refusal.{Refusal}
use Rattle.refusal.specs.Refusals.{number_of}
use Rattle.roll.specs.Meaning.{Meaning, size_of, stands_at, standing, kept_of, first_at, begun, struck, struck_all, stood_of}
use Rattle.roll.specs.Calls.{Answer, begin_answer, after_begin, save_answer, after_save, back_answer, after_back}

-- k is the lowest number at or after p that stands
pub record Lowest (m : Meaning) (p k : ℕ) : Type 0 where
  pub from : p ≤ k
  pub here : stands_at m k ≡ true
  pub before : (i : ℕ) → p ≤ i → i < k → stands_at m i ≡ false

-- no number at or after p stands
abbrev pub NoneFrom : Meaning → ℕ → Type 0
NoneFrom m p = (i : ℕ) → p ≤ i → stands_at m i ≡ false

-- the first number from p on is k exactly where k is the lowest that stands there, and none exactly where none stands there
abbrev pub FirstIsLowest : Type 0
FirstIsLowest =
    (m : Meaning) (p : ℕ)
    → ((k : ℕ) → (first_at m p ≡ Some k → Lowest m p k) × (Lowest m p k → first_at m p ≡ Some k))
    × (first_at m p ≡ None → NoneFrom m p)
    × (NoneFrom m p → first_at m p ≡ None)

-- begun with n, n stand; a strike of what stands leaves one less, and any other strike alters nothing; 0 stand exactly where none does
pub record Counted (m : Meaning) : Type 0 where
  pub one_less : (k : ℕ) → stands_at m k ≡ true → suc (standing (struck m k)) ≡ standing m
  pub same : (k : ℕ) → stands_at m k ≡ false → struck m k ≡ m
  pub none : standing m ≡ 0 → NoneFrom m 0
  pub nothing : NoneFrom m 0 → standing m ≡ 0

abbrev pub CountsStanding : Type 0
CountsStanding = ((n : ℕ) → standing (begun n) ≡ n) × ((m : Meaning) → Counted m)

-- a list of numbers is struck: those of the list stand no more, all others stand as they stood, and size, saves and free saves
-- stay; as many stand less as the list had numbers that stood
pub record Without (m : Meaning) (ks : List ℕ) (after : Meaning) : Type 0 where
  pub gone : (k : ℕ) → Contains ks k → stands_at after k ≡ false
  pub others : (k : ℕ) → (Contains ks k → ⊥) → stands_at after k ≡ stands_at m k
  pub sized : size_of after ≡ size_of m
  pub saves : after.saves ≡ m.saves
  pub free : after.free ≡ m.free
  pub fewer : stood_of m ks + standing after ≡ standing m

abbrev pub StrikesExactly : Type 0
StrikesExactly = (m : Meaning) (ks : List ℕ) → Without m ks (struck_all m ks)

-- a save, any strikes, and back: everything is as it was before the save
abbrev pub BackUndoes : Type 0
BackUndoes = (m : Meaning) (ks : List ℕ) → 0 < m.free → after_back (struck_all (after_save m) ks) ≡ m

-- a call is declined with a number, and alters nothing
pub record Declined (answer : Answer) (number : ℕ) (before after : Meaning) : Type 0 where
  pub reason : (e : Refusal) × (answer ≡ Err e) × (number_of e ≡ number)
  pub same : after ≡ before

-- begin is declined, with 9, where the size is above the most; save, with 11, where no save is free; back, with 12, where none is
-- kept; and none of them otherwise
pub record Numbered (most n : ℕ) (m : Meaning) : Type 0 where
  pub nine : most < n → Declined (begin_answer most n) 9 m (after_begin most n m)
  pub begins : n ≤ most → begin_answer most n ≡ Ok tt
  pub eleven : m.free ≡ 0 → Declined (save_answer m) 11 m (after_save m)
  pub saves : 0 < m.free → save_answer m ≡ Ok tt
  pub twelve : kept_of m ≡ 0 → Declined (back_answer m) 12 m (after_back m)
  pub returns : 0 < kept_of m → back_answer m ≡ Ok tt

abbrev pub RefusalsNumbered : Type 0
RefusalsNumbered = (most n : ℕ) (m : Meaning) → Numbered most n m
