-- Those rules that are tested where a plan is read, as tests; and the law that the tests decide them.
use Rattle.std.specs.Prelude.{ℕ, zero, suc, ◌<◌, Bool, true, false, ◌&&◌, ◌||◌, List, [], ◌∷◌, ◌==◌, nat_eq, nat_lt}
use Rattle.std.specs.Bool.{Decides}
use Rattle.std.specs.List.{Any, list_any}
use Rattle.model.specs.Plan.{Table}
use Rattle.model.specs.Rules.{Below, Names}

-- every number below n passes
abbrev pub all_below : ℕ → (ℕ → Bool) → Bool
all_below zero test = true
all_below (suc n) test = all_below n test && test n

-- a row is below another
abbrev pub below : List ℕ → List ℕ → Bool
below [] [] = false
below (x ∷ xs) [] = false
below [] (y ∷ ys) = true
below (x ∷ xs) (y ∷ ys) = nat_lt x y || (x == y && below xs ys)

-- a table names a setting
abbrev pub names : ℕ → Table → Bool
names s t = list_any (nat_eq s) t.scope

-- each of n settings is named by a table
abbrev pub all_named : ℕ → List Table → Bool
all_named n ts = all_below n (λ s. list_any (names s) ts)

-- each test passes exactly where its rule holds
pub record TestsDecide : Type 0 where
  pub rows : (xs ys : List ℕ) → Decides (below xs ys) (Below xs ys)
  pub settings : (n : ℕ) (ts : List Table) → Decides (all_named n ts) ((s : ℕ) → s < n → Any (Names s) ts)
