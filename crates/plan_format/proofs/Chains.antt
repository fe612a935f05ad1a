-- Items that are good after those before them, in the words of the rules.
use Rattle.std.proofs.Common.{◌≡◌, ℕ, zero, suc, ◌+◌, ◌<◌, ◌≤◌, Bool, true, List, [], ◌∷◌, ◌++◌, length, get_or, take, sym, refl, arith}
use Rattle.std.specs.Bool.{Decides}
use Rattle.std.specs.List.{All, AllZip}
use Rattle.std.proofs.lemmas.Grind.{common_steps}
use Rattle.std.proofs.lemmas.List.{take_more, length-take-le}
use Rattle.std.proofs.lemmas.List.Elements.{length_all_zip, AllZip-get_or}
use Rattle.std.proofs.lemmas.List.Sums.{sum_by_push, sum_by_more_le}
use Rattle.model.specs.Plan.{Table, height, rows_in}
use Rattle.model.specs.Rules.{Ascending, Fits, TableRules}
use Rattle.plan_format.specs.Reading.{may_follow}
use Rattle.plan_format.proofs.Exactly.{Chain}

-- what may follow is what is above the last item
pub follow_last : {A : Type 0} (under : A → A → Bool) (xs : List A) (last x : A) → may_follow under (xs ++ last ∷ []) x ≡ under last x
follow_last under [] last x = refl
follow_last under (y ∷ []) last x = refl
follow_last under (y ∷ z ∷ ys) last x = follow_last under (z ∷ ys) last x

-- ascending items: each is good, and may follow those before it
abbrev pub Above : {A : Type 0} → (A → A → Bool) → (A → Type 0) → List A → A → Type 0
Above under good before x = good x × (may_follow under before x ≡ true)

module _ {A : Type 0} {under : A → A → Bool} {Under : A → A → Type 0} (decides : (x y : A) → Decides (under x y) (Under x y)) (good : A → Type 0) where
  pub ascending_from : (xs : List A) → Chain (Above under good) xs → All good xs × Ascending Under xs
  ascending_from xs c = (
    (λ k d l. (c k d l).0),
    (λ k d l. grind (arith, decides (get_or xs k d) (get_or xs (k + 1) d), take_more xs k d, follow_last under (take k xs) (get_or xs k d), c (k + 1) d)),
  )

  pub ascending_to : (xs : List A) → All good xs → Ascending Under xs → Chain (Above under good) xs
  ascending_to xs e a zero d l = (e 0 d l, refl)
  ascending_to xs e a (suc k) d l = step xs k d (e (suc k) d l) (a k d (omega arith)) l
    where
      step : (xs : List A) (k : ℕ) (d : A) → good (get_or xs (suc k) d) → Under (get_or xs k d) (get_or xs (k + 1) d) → suc k < length xs → Above under good (take (suc k) xs) (get_or xs (suc k) d)
      step xs k d g u l = grind (arith, decides (get_or xs k d) (get_or xs (k + 1) d), take_more xs k d, follow_last under (take k xs) (get_or xs k d))

-- the values of a row
abbrev pub GoodValue : List ℕ → List ℕ → List ℕ → ℕ → Type 0
GoodValue counts scope before v = v < get_or counts (get_or scope (length before) 0) 0

zip_from : (R : ℕ → ℕ → Type 0) (xs ys : List ℕ) → length ys ≡ length xs → ((i : ℕ) → i < length ys → R (get_or xs i 0) (get_or ys i 0)) → AllZip R xs ys
zip_from R [] [] e h = tt
zip_from R [] (y ∷ ys) e h = absurd (omega arith)
zip_from R (x ∷ xs) [] e h = absurd (omega arith)
zip_from R (x ∷ xs) (y ∷ ys) e h = (h 0 (omega arith), zip_from R xs ys (omega arith) (λ i l. h (suc i) (omega arith)))

pub values_words : (counts scope vs : List ℕ)
    → ((length vs ≡ length scope) × Chain (GoodValue counts scope) vs → Fits counts scope vs) × (Fits counts scope vs → (length vs ≡ length scope) × Chain (GoodValue counts scope) vs)
values_words counts scope vs =
    let fits = λ (s v : ℕ). v < get_or counts s 0 in (
      (λ h. zip_from fits scope vs h.0 (λ i l. grind (arith, length-take-le i vs, h.1 i 0 l))),
      (λ h. (sym (length_all_zip fits scope vs h), λ i d l. grind (arith, length-take-le i vs, length_all_zip fits scope vs h, AllZip-get_or fits scope vs i 0 d h))),
    )

-- tables
abbrev pub GoodTable : List ℕ → List Table → Table → Type 0
GoodTable counts before t = TableRules counts t × (rows_in before + height t ≤ 4096)

pub rows_push : (ts : List Table) (t : Table) → rows_in (ts ++ t ∷ []) ≡ rows_in ts + height t
rows_push = sum_by_push height

few_rows : (counts : List ℕ) (ts : List Table) → Chain (GoodTable counts) ts → rows_in ts ≤ 4096
few_rows counts [] c = grind arith
few_rows counts (t ∷ ts) c = grind (arith, common_steps, c (length ts) t)

pub tables_from : (counts : List ℕ) (ts : List Table) → Chain (GoodTable counts) ts → All (TableRules counts) ts × (rows_in ts ≤ 4096)
tables_from counts ts c = ((λ k d l. (c k d l).0), few_rows counts ts c)

pub tables_to : (counts : List ℕ) (ts : List Table) → All (TableRules counts) ts → rows_in ts ≤ 4096 → Chain (GoodTable counts) ts
tables_to counts ts h few k d l = (h k d l, omega (arith, sum_by_more_le height ts k d l))
