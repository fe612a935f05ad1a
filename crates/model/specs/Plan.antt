-- A plan: settings with their values, and tables with their rows. Settings, values, tables and a table's rows are numbered from 0.
use Rattle.std.specs.Prelude.{ℕ, List, length, sum, sum_by}

-- a table names settings, its scope, and has rows; a row gives one value to each setting of the scope, in their order
pub record Table : Type 0 where
  pub scope : List ℕ
  pub rows : List (List ℕ)

-- the number of values of each setting, and the tables
pub record Plan : Type 0 where
  pub counts : List ℕ
  pub tables : List Table

-- how many rows a table has
abbrev pub height : Table → ℕ
height t = length t.rows

-- how many rows tables have together
abbrev pub rows_in : List Table → ℕ
rows_in ts = sum_by height ts

abbrev pub row_count : Plan → ℕ
row_count p = rows_in p.tables

abbrev pub value_count : Plan → ℕ
value_count p = sum p.counts
