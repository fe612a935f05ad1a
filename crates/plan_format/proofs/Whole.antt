-- Reading a whole file is exact.
use Rattle.std.proofs.Common.{◌≡◌, ℕ, ◌≤◌, true, List, ◌++◌, length, sym, refl, ap, arith}
use Rattle.std.specs.List.{All, flat_map}
use Rattle.model.specs.Plan.{Plan}
use Rattle.model.specs.Rules.{Valid}
use Rattle.model.specs.Tests.{all_named}
use Rattle.model.proofs.Deciding.{all_named_decides}
use Rattle.plan_format.specs.Bits.{bits, spell}
use Rattle.plan_format.specs.Reading.{got, ◌then◌, repeat, ranged, table, padded, body, read}
use Rattle.plan_format.specs.File.{spell_table, spell_plan}
use Rattle.plan_format.specs.Laws.{ReadsExactly}
use Rattle.plan_format.proofs.Exactly.{Exact, Chain, then_exact, made_exact, repeat_exact, ranged_exact}
use Rattle.plan_format.proofs.Chains.{GoodTable, tables_from, tables_to}
use Rattle.plan_format.proofs.Header.{InCount, GoodCounts, header_exact}
use Rattle.plan_format.proofs.Tables.{table_exact}
use Rattle.plan_format.proofs.Ending.{padding_from, padding_to}

-- n tables, after the value counts
abbrev Tables : List ℕ → ℕ → Plan → Type 0
Tables counts n p = (p.counts ≡ counts) × ((length p.tables ≡ n) × Chain (GoodTable counts) p.tables)

-- a table count, then the tables
abbrev CountedTables : List ℕ → Plan → Type 0
CountedTables counts p = ((1 ≤ length p.tables) × (length p.tables ≤ 16)) × Tables counts (length p.tables) p

module _ (file counts : List ℕ) (few : length counts ≤ 32) (each : All InCount counts) where
  tables_exact : (n : ℕ)
      → Exact (bits file) (λ q. ◌then◌ (repeat (table (bits file) counts) n q) (λ tables r. got (record { counts = counts; tables = tables }) r)) (Tables counts n) (λ p. flat_map spell_table p.tables)
  tables_exact n =
      made_exact {C = Plan} (λ tables. record { counts = counts; tables = tables }) (λ p. p.tables) (λ p. p.counts ≡ counts) (λ tables. (refl, refl))
      (λ p h. ap (λ (counts : List ℕ). record { counts = counts; tables = p.tables }) (sym h)) (repeat_exact (table_exact file counts few each) n)

  rest_exact : Exact (bits file)
      (λ q. ◌then◌ (ranged (bits file) 5 1 16 q) (λ n r. ◌then◌ (repeat (table (bits file) counts) n r) (λ tables s. got (record { counts = counts; tables = tables }) s)))
      (CountedTables counts) (λ p. spell 5 (length p.tables) ++ flat_map spell_table p.tables)
  rest_exact = then_exact (λ p. length p.tables) (ranged_exact file 5 1 16 (omega arith) (omega arith)) (λ _ n _. tables_exact n) (λ n p g h. sym h.1.0)

-- a plan in the order of its bits
abbrev PlanRead : Plan → Type 0
PlanRead p = GoodCounts p.counts × CountedTables p.counts p

body_exact : (file : List ℕ) → Exact (bits file) (body (bits file)) PlanRead spell_plan
body_exact file = then_exact (λ p. p.counts) (header_exact file) (λ _ counts g. rest_exact file counts g.1 g.2) (λ counts p g h. sym h.1.0)

plan_words : (p : Plan)
    → (PlanRead p × (all_named (length p.counts) p.tables ≡ true) → Valid p) × (Valid p → PlanRead p × (all_named (length p.counts) p.tables ≡ true))
plan_words p = (
  (λ h.
      let t = tables_from p.counts p.tables h.0.1.1.1.1 in
      let n = (all_named_decides (length p.counts) p.tables).0 h.1 in
      assumption),
  (λ v.
      let t = tables_to p.counts p.tables v.tables_keep v.few_rows in
      let n = (all_named_decides (length p.counts) p.tables).1 v.named in
      assumption),
)

read_parts : (file : List ℕ) (p : Plan) (q : ℕ)
    → read file ≡ got p q → (body (bits file) 0 ≡ got p q) × (all_named (length p.counts) p.tables ≡ true) × (padded (bits file) q ≡ true)
read_parts file p q e = grind arith

pub reads_exactly : ReadsExactly
reads_exactly file p q = (
  (λ e.
      let t = read_parts file p q e in
      let r = (body_exact file).reads 0 p q t.0 in
      ((plan_words p).0 (r.0, t.1), padding_from (bits file) (spell_plan p) q r.1 t.2, omega (arith, r.1.to))),
  (λ h.
      let v = (plan_words p).1 h.0 in
      let d = padding_to (bits file) (spell_plan p) q h.1.0 h.1.1 h.1.2 h.2 in
      let r = (body_exact file).stands 0 p q (v.0, d.0) in
      rw (r, v.1, d.1) refl),
)
