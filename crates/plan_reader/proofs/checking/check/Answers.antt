use Rattle.plan_reader.proofs.FileLaws.{judges}
use Rattle.plan_reader.proofs.checking.check.Goals as goal

pub returns-clause-judges : goal.returns-clause-judges
returns-clause-judges c = judges c.args.file.now c.judge.result c.judge.ensures
