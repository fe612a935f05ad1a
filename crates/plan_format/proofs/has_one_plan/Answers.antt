use Rattle.std.proofs.Common.{sym, ◌∙◌}
use Rattle.plan_format.proofs.Exactly.{got_same}
use Rattle.plan_format.proofs.Unique.{file_reads}
use Rattle.plan_format.proofs.has_one_plan.Goals as goal

pub returns : goal.returns
returns c file p r v w f g = (got_same (sym (file_reads file p v f) ∙ file_reads file r w g)).0
