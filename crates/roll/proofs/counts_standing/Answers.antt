use Rattle.roll.proofs.Counting.{counted}
use Rattle.roll.proofs.Marks.{trues_all}
use Rattle.roll.proofs.counts_standing.Goals as goal

pub returns : goal.returns
returns c = (trues_all, counted)
