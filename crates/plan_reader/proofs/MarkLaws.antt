-- Marking a setting, and testing marks one after another.
use Rattle.std.proofs.Common.{◌≡◌, ℕ, zero, suc, ◌<◌, ◌≤◌, Bool, false, ◌||◌, ◌&&◌, List, [], ◌∷◌, ◌++◌, length, get_or, take, replicate, sym, refl, ap, ◌∙◌, add-one, arith}
use Rattle.std.proofs.lemmas.List.Folds.{list_all_more, list_any-append}
use Rattle.std.proofs.Math.Bool.{or-false}
use Rattle.std.specs.List.{list_all}
use Rattle.model.specs.Tests.{all_below}
use Rattle.std.specs.List.{list_any}

pub any_push : {A : Type 0} (test : A → Bool) (xs : List A) (x : A) → list_any test (xs ++ x ∷ []) ≡ (list_any test xs || test x)
any_push test xs x = list_any-append test xs (x ∷ []) ∙ ap (λ b. list_any test xs || b) (or-false (test x))

-- tests that answer alike below n
pub all_below_same : (n : ℕ) (f g : ℕ → Bool) → ((s : ℕ) → s < n → f s ≡ g s) → all_below n f ≡ all_below n g
all_below_same zero f g h = refl
all_below_same (suc n) f g h = rw (all_below_same n f g (λ s l. h s (omega arith)), h n (omega arith)) refl

-- the first n marks are all set where each setting below n is marked
pub all_marked : (marks : List Bool) (n : ℕ) → n ≤ length marks → list_all (λ mark. mark) (take n marks) ≡ all_below n (λ s. get_or marks s false)
all_marked marks zero h = refl
all_marked marks (suc n) h =
    ap (λ k. list_all (λ mark. mark) (take k marks)) (sym (add-one n))
    ∙ list_all_more (λ mark. mark) marks n false (omega arith)
    ∙ ap (λ b. b && get_or marks n false) (all_marked marks n (omega arith))

pub none_marked : (n s : ℕ) → get_or (replicate n false) s false ≡ false
none_marked zero s = refl
none_marked (suc n) zero = refl
none_marked (suc n) (suc s) = none_marked n s
