use Rattle.plan_format.proofs.Whole.{reads_exactly}
use Rattle.plan_format.proofs.reads_exactly.Goals as goal

pub returns : goal.returns
returns c = reads_exactly
