use Rattle.std.proofs.Common.{refl, sym}
use Rattle.plan_reader.specs.Heads.{HeadOfPlan}
use Rattle.plan_reader.proofs.ReadLaws.{then_keeps, kept_read, kept_length, last_kept}
use Rattle.plan_reader.proofs.reader.Reader.body.Goals as goal

pub returns : goal.returns
returns c =
    let k = c.in_ok-head.ensures in
    let head = k.reads.2 in
    let ts = k.reads.0 in
    then_keeps _ _ c.args.self.now c.header.new.self HeadOfPlan c.in_ok-counts.counts c.in_ok-counts.ensures c.tables.new.self _
    (then_keeps _ _ c.header.new.self c.ranged.new.self HeadOfPlan c.in_ok-tables.tables c.in_ok-tables.ensures c.tables.new.self _
    (then_keeps _ _ c.ranged.new.self c.tables.new.self HeadOfPlan ts (kept_read _ c.ranged.new.self c.tables.new.self _ _ k) c.tables.new.self _
    (last_kept c.tables.new.self HeadOfPlan _ _ (record { counts = refl; named = head.named; tables = sym (kept_length _ c.ranged.new.self c.tables.new.self _ _ _ k); rows = head.rows }))))
