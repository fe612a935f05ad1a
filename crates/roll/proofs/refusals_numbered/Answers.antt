use Rattle.std.proofs.Common.{refl, arith}
use Rattle.std.proofs.lemmas.Bool.Decides.{nat_tests}
use Rattle.refusal.specs.declared.reason.Refusal.TheVariants.{AboveMost, NoSaveFree, NoSaveKept}
use Rattle.roll.proofs.refusals_numbered.Goals as goal

pub returns : goal.returns
returns c most n m = record {
  nine = λ l. record { reason = (AboveMost, grind (arith, nat_tests), refl); same = grind (arith, nat_tests) };
  begins = λ l. grind (arith, nat_tests);
  eleven = λ e. record { reason = (NoSaveFree, grind (arith, nat_tests), refl); same = grind (arith, nat_tests) };
  saves = λ l. grind (arith, nat_tests);
  twelve = λ e. record { reason = (NoSaveKept, grind arith, refl); same = grind arith };
  returns = λ l. grind arith;
}
