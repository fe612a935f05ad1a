-- Sets as lists of marks: how many are in one, and sets that a test gives.
use Rattle.std.proofs.Common.{◌≡◌, ℕ, zero, suc, ◌<◌, ◌≤◌, Bool, true, false, ◌≢◌, [], ◌∷◌, map, length, set, replicate, sym, refl, ap, ◌∙◌, arith}
use Rattle.std.specs.List.{range_with_len}
use Rattle.std.proofs.lemmas.List.FromFn.{length-map-range_with_len, get_or-map-range_with_len, fill_by_all}
use Rattle.std.proofs.lemmas.List.{length-set, get_or-set_same, get_or-set_other, get_or_past, length-replicate, get_or-replicate}
use Rattle.roll.specs.Meaning.{Marks, has, trues}

-- one taken out of a set
pub trues-set : (bs : Marks) (k : ℕ) → has bs k ≡ true → suc (trues (set bs k false)) ≡ trues bs
trues-set [] k h = grind arith
trues-set (true ∷ bs) zero h = refl
trues-set (false ∷ bs) zero h = grind arith
trues-set (true ∷ bs) (suc k) h = ap suc (trues-set bs k h)
trues-set (false ∷ bs) (suc k) h = trues-set bs k h

pub trues_all : (n : ℕ) → trues (replicate n true) ≡ n
trues_all zero = refl
trues_all (suc n) = ap suc (trues_all n)

pub trues_most : (bs : Marks) → trues bs ≤ length bs
trues_most [] = omega arith
trues_most (true ∷ bs) = omega (arith, trues_most bs)
trues_most (false ∷ bs) = omega (arith, trues_most bs)

-- the set of the numbers below n that pass a test
abbrev pub made : (ℕ → Bool) → ℕ → Marks
made t n = map t (range_with_len 0 n)

pub length-made : (t : ℕ → Bool) (n : ℕ) → length (made t n) ≡ n
length-made t n = length-map-range_with_len t 0 n

pub made_at : (t : ℕ → Bool) (n k : ℕ) → k < n → has (made t n) k ≡ t k
made_at t n k l = get_or-map-range_with_len t 0 n k k false l (omega arith)

pub made_past : (t : ℕ → Bool) (n k : ℕ) → n ≤ k → has (made t n) k ≡ false
made_past t n k l = get_or_past (made t n) k false (omega (arith, length-made t n))

pub made_same : (s t : ℕ → Bool) (n : ℕ) → ((k : ℕ) → k < n → s k ≡ t k) → made s n ≡ made t n
made_same s t n h = fill_by_all t (made s n) n false (length-made s n) (λ k l. made_at s n k l ∙ h k l)

pub made_all : (t : ℕ → Bool) (n : ℕ) → ((k : ℕ) → k < n → t k ≡ true) → made t n ≡ replicate n true
made_all t n h = sym (fill_by_all t (replicate n true) n false (length-replicate n true) (λ k l. get_or-replicate n k true false l ∙ sym (h k l)))

set_at : (s t : ℕ → Bool) (n k : ℕ) → s k ≡ false → ((i : ℕ) → i < n → i ≢ k → s i ≡ t i) → (i : ℕ) → i < n → has (set (made t n) k false) i ≡ s i
set_at s t n k out same i l = grind (arith, length-made, made_at, get_or-set_same {A = Bool}, get_or-set_other {A = Bool})

-- s is t without k
pub made-set : (s t : ℕ → Bool) (n k : ℕ) → s k ≡ false → ((i : ℕ) → i < n → i ≢ k → s i ≡ t i) → made s n ≡ set (made t n) k false
made-set s t n k out same =
    sym (fill_by_all s (set (made t n) k false) n false (length-set (made t n) k false ∙ length-made t n) (set_at s t n k out same))
