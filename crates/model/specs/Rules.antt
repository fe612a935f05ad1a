-- The rules that a plan keeps.
use Rattle.std.specs.Prelude.{◌≡◌, ℕ, ◌<◌, ◌≤◌, ◌⊎◌, List, [], ◌∷◌, length, slice_index}
use Rattle.std.specs.List.{All, AllAdjacentBelow, AllZip, Any, Contains}
use Rattle.model.specs.Plan.{Plan, Table, height, row_count}

-- each element but the first is above the one before it
abbrev pub Ascending : {A : Type 0} → (A → A → Type 0) → List A → Type 0
Ascending below xs = AllAdjacentBelow below xs (length xs)

-- a row is below another: by the first value, then the second, and so on
abbrev pub Below : List ℕ → List ℕ → Type 0
Below xs [] = ⊥
Below [] (y ∷ ys) = Unit {0}
Below (x ∷ xs) (y ∷ ys) = (x < y) ⊎ ((x ≡ y) × Below xs ys)

-- a row gives each setting of a scope one value, below the setting's value count
abbrev pub Fits : (counts scope row : List ℕ) → Type 0
Fits counts scope row = AllZip (λ s v. v < slice_index counts s) scope row

-- a table names a setting
abbrev pub Names : ℕ → Table → Type 0
Names s t = Contains t.scope s

-- what a table keeps, in a plan with these value counts
pub record TableRules (counts : List ℕ) (t : Table) : Type 0 where
  -- it names 1 to 8 settings of the plan, ascending, each once
  pub wide : 1 ≤ length t.scope
  pub narrow : length t.scope ≤ 8
  pub in_plan : All (λ s. s < length counts) t.scope
  pub scope_ascends : Ascending ◌<◌ t.scope
  -- it has at most 512 rows, which fit its scope and ascend
  pub low : height t ≤ 512
  pub rows_fit : All (Fits counts t.scope) t.rows
  pub rows_ascend : Ascending Below t.rows

-- what a plan keeps
pub record Valid (p : Plan) : Type 0 where
  -- 1 to 32 settings, each with 1 to 32 values
  pub some_settings : 1 ≤ length p.counts
  pub few_settings : length p.counts ≤ 32
  pub values : All (λ n. (1 ≤ n) × (n ≤ 32)) p.counts
  -- 1 to 16 tables, with at most 4,096 rows together
  pub some_tables : 1 ≤ length p.tables
  pub few_tables : length p.tables ≤ 16
  pub tables_keep : All (TableRules p.counts) p.tables
  pub few_rows : row_count p ≤ 4096
  -- every setting is named by at least one table
  pub named : (s : ℕ) → s < length p.counts → Any (Names s) p.tables
