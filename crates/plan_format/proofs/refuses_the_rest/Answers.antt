use Rattle.plan_format.proofs.Unique.{refuses_the_rest}
use Rattle.plan_format.proofs.refuses_the_rest.Goals as goal

pub returns : goal.returns
returns c = refuses_the_rest
