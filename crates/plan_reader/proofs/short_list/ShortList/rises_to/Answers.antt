use Rattle.std.proofs.Common.{ltb, sym}
use Rattle.plan_reader.proofs.Following.{follows}
use Rattle.plan_reader.proofs.short_list.ShortList.rises_to.Goals as goal

pub returns-in-len1-up : goal.returns-in-len1-up
returns-in-len1-up c = rw (← c.as_slice.ensures.items) (sym (follows ltb c.as_slice.result.now 0 c.args.number c.in-len1-up.len_at_least))
