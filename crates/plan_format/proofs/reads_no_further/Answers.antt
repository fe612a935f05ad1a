use Rattle.plan_format.proofs.Cutting.{reads_no_further}
use Rattle.plan_format.proofs.reads_no_further.Goals as goal

pub returns : goal.returns
returns c = reads_no_further
