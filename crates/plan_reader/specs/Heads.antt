-- What is kept of a table, of tables and of a plan that were read.
use Rattle.std.specs.Prelude.{◌≡◌, List, length}
use Rattle.model.specs.Plan.{Plan, Table, height, rows_in, row_count}
use Rattle.plan_reader.specs.Marks.{Marks}
use Rattle.plan_reader.specs.declared.body.PlanHead.{PlanHead}
use Rattle.plan_reader.specs.declared.tables.TableHead.{TableHead}
use Rattle.plan_reader.specs.declared.tables.TablesHead.{TablesHead}

pub record HeadOf (head : TableHead) (t : Table) : Type 0 where
  pub scope : head.scope ≡ t.scope
  pub rows : head.rows ≡ height t

pub record HeadOfTables (head : TablesHead) (ts : List Table) : Type 0 where
  pub named : Marks head.named ts
  pub rows : head.rows ≡ rows_in ts

pub record HeadOfPlan (head : PlanHead) (p : Plan) : Type 0 where
  pub counts : head.counts ≡ p.counts
  pub named : Marks head.named p.tables
  pub tables : head.tables ≡ length p.tables
  pub rows : head.rows ≡ row_count p
