use Rattle.std.proofs.Common.{ℕ, List, Ok}
use Rattle.plan_format.specs.Reading.{repeat, row}
use Rattle.plan_reader.specs.Rows.{Last}
use Rattle.plan_reader.specs.Outcomes.{Reads}
use Rattle.plan_reader.proofs.reader.Reader.rows.Given as goal

-- the rows so far are read, and the last of them is kept
abbrev pub invariant-loop : goal.invariant-loop
invariant-loop l =
    (rows : List (List ℕ))
    × Reads l.initial.self l.self (Ok rows) (λ b. repeat (row b l.columns.counts.now l.columns.scope.now) l.counter)
    × Last rows l.last
