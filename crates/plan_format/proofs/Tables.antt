-- Reading rows and tables is exact.
use Rattle.std.proofs.Common.{◌≡◌, ℕ, ◌+◌, ◌<◌, ◌≤◌, true, ltb, leb, List, length, get_or, sym, refl, ap, arith}
use Rattle.std.specs.List.{All, flat_map}
use Rattle.std.proofs.lemmas.Bool.{leb-true, le-leb}
use Rattle.std.proofs.lemmas.Bool.Decides.{Decides-ltb}
use Rattle.refusal.specs.declared.reason.Refusal.TheVariants.{NotAscending, TooManyRows}
use Rattle.model.specs.Plan.{Table, height, rows_in}
use Rattle.model.specs.Rules.{Fits}
use Rattle.model.specs.Tests.{below}
use Rattle.model.proofs.Deciding.{below_decides}
use Rattle.plan_format.specs.Bits.{bits, spell}
use Rattle.plan_format.specs.Reading.{got, ◌then◌, repeat, may_follow, setting, row, table}
use Rattle.plan_format.specs.File.{spell_row, spell_table}
use Rattle.plan_format.proofs.Exactly.{Exact, Chain, exact_as, tested_exact, given_exact, then_exact, made_exact, repeat_exact, ranged_exact, number_below_exact}
use Rattle.plan_format.proofs.Chains.{Above, ascending_from, ascending_to, values_words, GoodTable}
use Rattle.plan_format.proofs.Header.{InCount, count_few}

-- setting numbers below n, ascending
abbrev GoodSetting : ℕ → List ℕ → ℕ → Type 0
GoodSetting n = Above ltb (λ s. s < n)

setting_exact : (file : List ℕ) (n : ℕ) → n ≤ 32 → (before : List ℕ) → Exact (bits file) (setting (bits file) n before) (GoodSetting n before) (spell 5)
setting_exact file n few before = tested_exact (may_follow ltb before) NotAscending (number_below_exact file n few)

-- rows that fit the scope, ascending
abbrev GoodRow : List ℕ → List ℕ → List (List ℕ) → List ℕ → Type 0
GoodRow counts scope = Above below (Fits counts scope)

row_exact : (file counts scope : List ℕ) → All InCount counts → (before : List (List ℕ)) → Exact (bits file) (row (bits file) counts scope before) (GoodRow counts scope before) spell_row
row_exact file counts scope few before =
    tested_exact (may_follow below before) NotAscending
    (exact_as (values_words counts scope)
    (repeat_exact (λ vs. number_below_exact file (get_or counts (get_or scope (length vs) 0) 0) (count_few counts (get_or scope (length vs) 0) few)) (length scope)))

module _ (counts : List ℕ) where
  -- rows of a table on the scope, n of them
  abbrev Rows : List ℕ → ℕ → Table → Type 0
  Rows scope n t = (t.scope ≡ scope) × ((height t ≡ n) × Chain (GoodRow counts scope) t.rows)

  -- a row count, then the rows
  abbrev CountedRows : List Table → List ℕ → Table → Type 0
  CountedRows before scope t = ((0 ≤ height t) × (height t ≤ 512)) × ((leb (rows_in before + height t) 4096 ≡ true) × Rows scope (height t) t)

  -- a scope, then these
  abbrev Scoped : List Table → ℕ → Table → Type 0
  Scoped before w t = ((length t.scope ≡ w) × Chain (GoodSetting (length counts)) t.scope) × CountedRows before t.scope t

  -- a table in the order of its bits
  abbrev TableRead : List Table → Table → Type 0
  TableRead before t = ((1 ≤ length t.scope) × (length t.scope ≤ 8)) × Scoped before (length t.scope) t

  table_words : (before : List Table) (t : Table) → (TableRead before t → GoodTable counts before t) × (GoodTable counts before t → TableRead before t)
  table_words before t = (
    (λ h.
        let s = ascending_from Decides-ltb (λ s. s < length counts) t.scope h.1.0.1 in
        let r = ascending_from below_decides (Fits counts t.scope) t.rows h.1.1.1.1.1.1 in
        let f = leb-true (rows_in before + height t) 4096 h.1.1.1.0 in
        assumption),
    (λ h.
        let s = ascending_to Decides-ltb (λ s. s < length counts) t.scope h.0.in_plan h.0.scope_ascends in
        let r = ascending_to below_decides (Fits counts t.scope) t.rows h.0.rows_fit h.0.rows_ascend in
        let f = le-leb (rows_in before + height t) 4096 h.1 in
        let z : 0 ≤ height t = omega arith in
        assumption),
  )

module _ (file counts : List ℕ) (few : length counts ≤ 32) (each : All InCount counts) where
  rows_exact : (scope : List ℕ) (n : ℕ)
      → Exact (bits file) (λ s. ◌then◌ (repeat (row (bits file) counts scope) n s) (λ rows t. got (record { scope = scope; rows = rows }) t)) (Rows counts scope n) (λ t. flat_map spell_row t.rows)
  rows_exact scope n =
      made_exact {C = Table} (λ rows. record { scope = scope; rows = rows }) (λ t. t.rows) (λ t. t.scope ≡ scope) (λ rows. (refl, refl))
      (λ t h. ap (λ (scope : List ℕ). record { scope = scope; rows = t.rows }) (sym h)) (repeat_exact (row_exact file counts scope each) n)

  pub table_exact : (before : List Table) → Exact (bits file) (table (bits file) counts before) (GoodTable counts before) spell_table
  table_exact before =
      exact_as (table_words counts before)
      (then_exact (λ t. length t.scope) (ranged_exact file 4 1 8 (omega arith) (omega arith))
      (λ _ w _. then_exact (λ t. t.scope) (repeat_exact (setting_exact file (length counts) few) w)
      (λ _ scope _. then_exact height (ranged_exact file 10 0 512 (omega arith) (omega arith))
      (λ r n _. given_exact (leb (rows_in before + n) 4096) (TooManyRows r) (rows_exact scope n))
      (λ n t g h. sym h.1.1.0))
      (λ scope t g h. sym h.1.1.0))
      (λ w t g h. sym h.0.0))
