use Rattle.plan_reader.proofs.MarkLaws.{none_marked}
use Rattle.plan_reader.proofs.named.Named.none.Goals as goal

pub returns : goal.returns
returns c s = none_marked 32 s
