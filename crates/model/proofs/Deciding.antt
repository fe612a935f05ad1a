-- The tests decide the rules that they test.
use Rattle.std.proofs.Common.{◌≡◌, ℕ, ◌<◌, ◌||◌, List, [], ◌∷◌, eqb, sym, refl, arith}
use Rattle.std.proofs.Math.Bool.{and_comm}
use Rattle.std.proofs.lemmas.Bool.Decides.{Decides-like, Decides-ltb, Decides-eqb, Decides-and, Decides-or, Decides-by_or, Decides-below_and}
use Rattle.std.proofs.lemmas.List.Elements.{Decides-contains}
use Rattle.std.proofs.lemmas.List.Folds.{Any-from_list_any, list_any-from_Any}
use Rattle.std.specs.Bool.{Decides}
use Rattle.std.specs.List.{Any, list_any}
use Rattle.model.specs.Plan.{Table}
use Rattle.model.specs.Rules.{Below, Names}
use Rattle.model.specs.Tests.{below, names, all_named}

pub below_decides : (xs ys : List ℕ) → Decides (below xs ys) (Below xs ys)
below_decides [] [] = grind arith
below_decides (x ∷ xs) [] = grind arith
below_decides [] (y ∷ ys) = grind arith
below_decides (x ∷ xs) (y ∷ ys) = Decides-or _ _ (Decides-ltb x y) (Decides-and _ _ (Decides-eqb x y) (below_decides xs ys))

names_decides : (s : ℕ) (t : Table) → Decides (names s t) (Names s t)
names_decides s t =
    Decides-contains t.scope s (names s t)
    (Decides-by_or (eqb s) (λ r. r ≡ s) (list_any (eqb s)) (λ r. Decides-like (eqb s r) sym sym (Decides-eqb s r)) refl (λ _ _. refl) t.scope)

some_names_decides : (s : ℕ) (ts : List Table) → Decides (list_any (names s) ts) (Any (Names s) ts)
some_names_decides s ts = (
  (λ e. let a = Any-from_list_any (names s) ts e in (a.0, a.1, a.2, a.3, (names_decides s a.1).0 a.4)),
  (λ a. list_any-from_Any (names s) ts (a.0, a.1, a.2, a.3, (names_decides s a.1).1 a.4)),
)

pub all_named_decides : (n : ℕ) (ts : List Table) → Decides (all_named n ts) ((s : ℕ) → s < n → Any (Names s) ts)
all_named_decides n ts = Decides-below_and (λ s. list_any (names s) ts) (λ s. Any (Names s) ts) (λ n. all_named n ts) (λ s. some_names_decides s ts) refl (λ n. and_comm (all_named n ts) (list_any (names n) ts)) n
