use Rattle.model.proofs.Deciding.{below_decides, all_named_decides}
use Rattle.model.proofs.decides_the_rules.Goals as goal

pub returns : goal.returns
returns c = record { rows = below_decides; settings = all_named_decides }
