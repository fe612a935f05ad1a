-- What the places of the numbers mean, and the counts that saves note.
use Rattle.std.specs.Prelude.{◌≡◌, ℕ, zero, suc, ◌<◌, ◌≤◌, true, false, ltb, List, ◌∷◌, length, replicate, nat_lt, slice_index, slice_set, refl}
use Rattle.std.proofs.Common.{ap, ◌∙◌, arith}
use Rattle.std.proofs.lemmas.Bool.{lt-ltb}
use Rattle.roll.specs.Meaning.{has, trues}
use Rattle.std.proofs.lemmas.Grind.{common_steps}
use Rattle.roll.proofs.Marks.{made_at, made_past, made_all, trues_all}
use Rattle.ordered_roll.specs.Places.{front, marks_of, saves_of, Inverse}

pub marks_at : (place : List ℕ) (c n k : ℕ) → k < n → has (marks_of place c n) k ≡ nat_lt (slice_index place k) c
marks_at place c n k l = made_at (front place c) n k l

pub marks_past : (place : List ℕ) (c n k : ℕ) → n ≤ k → has (marks_of place c n) k ≡ false
marks_past place c n k l = made_past (front place c) n k l

-- The numbers in ascending order.

-- each number below n is at its own place
abbrev pub InOrder : ℕ → List ℕ → Type 0
InOrder n xs = (i : ℕ) → i < n → slice_index xs i ≡ i

pub all_stand : (place : List ℕ) (n : ℕ) → InOrder n place → marks_of place n n ≡ replicate n true
all_stand place n h = made_all (front place n) n (λ k l. ap (λ x. ltb x n) (h k l) ∙ lt-ltb k n l)

pub all_counted : (place : List ℕ) (n : ℕ) → InOrder n place → trues (marks_of place n n) ≡ n
all_counted place n h = ap trues (all_stand place n h) ∙ trues_all n

pub order_inverse : (xs ys : List ℕ) (n : ℕ) → InOrder n xs → InOrder n ys → Inverse n xs ys
order_inverse xs ys n f g k l = rw (f k l) (l, g k l)

-- A save more.

saves_keep : (place counts : List ℕ) (n K c x : ℕ) → K ≤ c → saves_of place (slice_set counts c x) n K ≡ saves_of place counts n K
saves_keep place counts n zero c x l = refl
saves_keep place counts n (suc K) c x l = let e = saves_keep place counts n K c x (omega arith) in grind (arith, common_steps)

pub saves_saved : (place counts : List ℕ) (n count K : ℕ) → K < length counts
    → saves_of place (slice_set counts K count) n (suc K) ≡ marks_of place count n ∷ saves_of place counts n K
saves_saved place counts n count K l = let e = saves_keep place counts n K K count (omega arith) in grind (arith, common_steps)

-- places that mean the same at each save's count
pub saves_same : (place place' counts : List ℕ) (n K : ℕ) → ((i : ℕ) → i < K → marks_of place' (slice_index counts i) n ≡ marks_of place (slice_index counts i) n)
    → saves_of place' counts n K ≡ saves_of place counts n K
saves_same place place' counts n zero h = refl
saves_same place place' counts n (suc K) h = let e = saves_same place place' counts n K (λ i l. h i (omega arith)) in let f = h K (omega arith) in cc
