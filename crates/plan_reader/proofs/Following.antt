-- What may follow in an ascending list.
use Rattle.std.proofs.Common.{◌≡◌, ℕ, ◌+◌, ◌-◌, ◌<◌, Bool, List, [], ◌∷◌, ◌++◌, length, get_or, take, sym, ap, ◌∙◌, arith}
use Rattle.std.proofs.lemmas.List.{take_all, take_more}
use Rattle.plan_format.specs.Reading.{may_follow}
use Rattle.plan_format.proofs.Chains.{follow_last}

-- what is above the last item
pub follows : {A : Type 0} (under : A → A → Bool) (xs : List A) (d x : A) → 0 < length xs → may_follow under xs x ≡ under (get_or xs (length xs - 1) d) x
follows {A} under xs d x some =
    let n : ℕ = length xs - 1 in
    let i : n + 1 ≡ length xs = omega arith in
    let e : xs ≡ take n xs ++ get_or xs n d ∷ [] = sym (take_all (n + 1) xs (omega arith)) ∙ take_more xs n d (omega arith) in
    ap (λ (ys : List A). may_follow under ys x) e ∙ follow_last under (take n xs) (get_or xs n d) x
