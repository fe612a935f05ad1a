use Rattle.std.proofs.Common.{◌∙◌}
use Rattle.plan_reader.proofs.RowLaws.{is_below}
use Rattle.plan_reader.proofs.rows.is_above.Goals as goal

pub returns-in-Some : goal.returns-in-Some
returns-in-Some c =
    rw (c.in-Some.is, ← c.as_slice.ensures.items, ← c.as_slice-in-Some.ensures.items) (c.is_lt.ensures ∙ is_below c.as_slice.result.now c.as_slice-in-Some.result.now c.cmp.result c.cmp.ensures)
