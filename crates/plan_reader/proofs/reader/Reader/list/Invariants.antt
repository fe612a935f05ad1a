use Rattle.std.proofs.Common.{Ok}
use Rattle.plan_format.specs.Reading.{repeat}
use Rattle.plan_reader.specs.Outcomes.{Reads}
use Rattle.plan_reader.proofs.reader.Reader.list.Given as goal

-- the items so far are read
abbrev pub invariant-loop : goal.invariant-loop
invariant-loop g l = Reads l.initial.self l.self (Ok l.list) (λ b. repeat (g.I.Item.reading l.item b) l.counter)
