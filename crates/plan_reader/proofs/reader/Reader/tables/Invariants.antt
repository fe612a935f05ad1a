use Rattle.std.proofs.Common.{◌≡◌, ◌≤◌, List, Ok}
use Rattle.model.specs.Plan.{Table, rows_in}
use Rattle.plan_format.specs.Reading.{repeat, table}
use Rattle.plan_reader.specs.Marks.{Marks}
use Rattle.plan_reader.specs.Outcomes.{Reads}
use Rattle.plan_reader.proofs.reader.Reader.tables.Given as goal

-- the tables so far are read, their settings marked and their rows counted
abbrev pub invariant-loop : goal.invariant-loop
invariant-loop l =
    (ts : List Table)
    × Reads l.initial.self l.self (Ok ts) (λ b. repeat (table b l.counts) l.counter)
    × Marks l.named ts
    × (l.rows ≡ rows_in ts)
    × (l.rows ≤ 4096)
