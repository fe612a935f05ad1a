-- Lists of strikes.
use Rattle.std.proofs.Common.{◌≡◌, ℕ, zero, suc, ◌+◌, ◌≤◌, false, if◌then◌else◌, ◌≢◌, List, [], ◌∷◌, sym, refl, ◌∙◌, arith}
use Rattle.std.proofs.lemmas.Grind.{common_steps}
use Rattle.std.proofs.lemmas.List.{length-set}
use Rattle.std.specs.List.{Contains}
use Rattle.roll.specs.Meaning.{Meaning, standing, stands_at, size_of, struck, struck_all}
use Rattle.roll.proofs.Counting.{counted}

pub struck_other : (m : Meaning) (k i : ℕ) → i ≢ k → stands_at (struck m k) i ≡ stands_at m i
struck_other m k i n = grind (arith, common_steps)

struck_at : (m : Meaning) (k i : ℕ) → k ≡ i → stands_at (struck m k) i ≡ false
struck_at m k i e = grind (arith, common_steps)

-- what does not stand stays so
out_stays : (m : Meaning) (k i : ℕ) → stands_at m i ≡ false → stands_at (struck m k) i ≡ false
out_stays m k i h = grind (arith, common_steps)

pub out_stays_all : (m : Meaning) (ks : List ℕ) (i : ℕ) → stands_at m i ≡ false → stands_at (struck_all m ks) i ≡ false
out_stays_all m [] i h = h
out_stays_all m (k ∷ ks) i h = out_stays_all (struck m k) ks i (out_stays m k i h)

-- one strike takes one of those that stand, or none
pub strike_counts : (m : Meaning) (k : ℕ) → standing (struck m k) + (if stands_at m k then 1 else 0) ≡ standing m
strike_counts m k = grind (arith, (counted m).one_less k, (counted m).same k)

pub fewer_all : (m : Meaning) (ks : List ℕ) → standing (struck_all m ks) ≤ standing m
fewer_all m [] = omega arith
fewer_all m (k ∷ ks) = omega (arith, fewer_all (struck m k) ks, strike_counts m k)

pub gone_all : (m : Meaning) (ks : List ℕ) (k : ℕ) → Contains ks k → stands_at (struck_all m ks) k ≡ false
gone_all m [] k w = grind arith
gone_all m (j ∷ ks) k (zero, l, e) = out_stays_all (struck m j) ks k (struck_at m j k e)
gone_all m (j ∷ ks) k (suc i, l, e) = gone_all (struck m j) ks k (i, omega arith, e)

pub others_all : (m : Meaning) (ks : List ℕ) (k : ℕ) → (Contains ks k → ⊥) → stands_at (struck_all m ks) k ≡ stands_at m k
others_all m [] k n = refl
others_all m (j ∷ ks) k n = others_all (struck m j) ks k (λ w. n (suc w.0, omega (arith, w.1), w.2)) ∙ struck_other m j k (λ e. n (zero, omega arith, sym e))

pub sized_all : (m : Meaning) (ks : List ℕ) → size_of (struck_all m ks) ≡ size_of m
sized_all m [] = refl
sized_all m (k ∷ ks) = sized_all (struck m k) ks ∙ length-set m.marks k false

pub saves_all : (m : Meaning) (ks : List ℕ) → (struck_all m ks).saves ≡ m.saves
saves_all m [] = refl
saves_all m (k ∷ ks) = saves_all (struck m k) ks

pub free_all : (m : Meaning) (ks : List ℕ) → (struck_all m ks).free ≡ m.free
free_all m [] = refl
free_all m (k ∷ ks) = free_all (struck m k) ks
