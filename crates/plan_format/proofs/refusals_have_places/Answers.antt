use Rattle.plan_format.proofs.Places.{refusals_placed}
use Rattle.plan_format.proofs.refusals_have_places.Goals as goal

pub returns : goal.returns
returns c = refusals_placed
