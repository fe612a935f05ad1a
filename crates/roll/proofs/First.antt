-- The first number that stands, by its place.
use Rattle.std.proofs.Common.{◌≡◌, ℕ, ◌+◌, ◌-◌, ◌<◌, ◌≤◌, Bool, true, false, ◌⊎◌, length, drop, Some, None, sym, ap, ◌∙◌, subst, inl, inr, arith}
use Rattle.std.specs.List.{position_or_len}
use Rattle.std.proofs.lemmas.List.{get_or-drop, get_or_past}
use Rattle.std.proofs.lemmas.List.Sums.{fails_before_first, passes_at_first}
use Rattle.std.proofs.lemmas.Bool.{cases_lt, lt-ltb, le-ltb}
use Rattle.roll.specs.Meaning.{Marks, Meaning, has, first_at, stands_at, size_of}
use Rattle.roll.specs.Laws.{Lowest, NoneFrom}

-- what stands is below the size
pub stands_below : (m : Meaning) (k : ℕ) → stands_at m k ≡ true → k < size_of m
stands_below m k h = grind (arith, get_or_past {X = Bool})

-- what stands from p on, as the list of marks from p on says it
from_drop : (m : Meaning) (p i : ℕ) → p ≤ i → has (drop p m.marks) (i - p) ≡ stands_at m i
from_drop m p i l = grind (arith, get_or-drop {A = Bool})

none_in : (marks : Marks) → length marks ≤ position_or_len (λ b. b) marks → (i : ℕ) → has marks i ≡ false
none_in marks l i = grind (arith, get_or_past {X = Bool}, fails_before_first (λ b. b) marks)

-- there is a first number, or none
first_cases : (m : Meaning) (p : ℕ) → ((k : ℕ) × (first_at m p ≡ Some k) × Lowest m p k) ⊎ ((first_at m p ≡ None) × NoneFrom m p)
first_cases m p =
    let marks = drop p m.marks in
    let is_true = λ (b : Bool). b in
    let q = position_or_len is_true marks in
    elim (cases_lt q (length marks)) [
      | inl l ↦
          inl (
            p + q,
            rw lt-ltb,
            record {
              from = omega arith;
              here = sym (get_or-drop p m.marks q false) ∙ passes_at_first is_true marks false l;
              before = λ i g h. sym (from_drop m p i g) ∙ fails_before_first is_true marks (i - p) false (omega arith);
            },
          )
      | inr l ↦ inr (rw le-ltb, λ i g. sym (from_drop m p i g) ∙ none_in marks l (i - p))
    ]

lowest_same : (m : Meaning) (p j k : ℕ) → Lowest m p j → Lowest m p k → j ≡ k
lowest_same m p j k v w = grind (arith, v, w)

pub lowest_is : (m : Meaning) (p k : ℕ) → Lowest m p k → first_at m p ≡ Some k
lowest_is m p k w = elim (first_cases m p) [ inl q ↦ q.1 ∙ ap Some (lowest_same m p q.0 k q.2 w) | inr q ↦ (let s = q.1 k w.from in grind (arith, w.here)) ]

pub none_is : (m : Meaning) (p : ℕ) → NoneFrom m p → first_at m p ≡ None
none_is m p h = elim (first_cases m p) [ inl q ↦ (let s = h q.0 q.2.from in grind (arith, q.2.here)) | inr q ↦ q.0 ]

pub tells_none : (m : Meaning) (p : ℕ) → first_at m p ≡ None → NoneFrom m p
tells_none m p e = elim (first_cases m p) [ inl q ↦ grind arith | inr q ↦ q.1 ]

pub tells_some : (m : Meaning) (p k : ℕ) → first_at m p ≡ Some k → Lowest m p k
tells_some m p k e = elim (first_cases m p) [ inl q ↦ (let s : q.0 ≡ k = grind arith in subst (Lowest m p) s q.2) | inr q ↦ grind arith ]
