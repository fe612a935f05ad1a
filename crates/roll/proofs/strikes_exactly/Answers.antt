use Rattle.std.proofs.Common.{arith}
use Rattle.roll.proofs.Strikes.{fewer_all, gone_all, others_all, sized_all, saves_all, free_all}
use Rattle.roll.proofs.strikes_exactly.Goals as goal

pub returns : goal.returns
returns c m ks = record {
  gone = gone_all m ks;
  others = others_all m ks;
  sized = sized_all m ks;
  saves = saves_all m ks;
  free = free_all m ks;
  fewer = omega (arith, fewer_all m ks);
}
