use Rattle.std.proofs.Common.{arith}
use Rattle.std.proofs.lemmas.Bool.Decides.{nat_tests}
use Rattle.roll.proofs.Strikes.{saves_all, free_all}
use Rattle.roll.proofs.back_undoes.Goals as goal

pub returns : goal.returns
returns c m ks l = grind (arith, nat_tests, saves_all, free_all)
