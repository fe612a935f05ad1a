-- Each call that can be declined, case by case.
use Rattle.std.proofs.Common.{◌≡◌, ℕ, ◌<◌, ◌≤◌, List, [], ◌∷◌, Ok, Err, arith}
use Rattle.std.proofs.lemmas.Bool.Decides.{nat_tests}
use Rattle.refusal.specs.declared.reason.Refusal.TheVariants.{NoSaveFree, NoSaveKept}
use Rattle.roll.specs.Meaning.{Marks, Meaning, begun, saved, returned}
use Rattle.roll.specs.Calls.{Answer, begin_answer, after_begin, save_answer, after_save, back_answer, after_back}

-- a call answers r and leaves m, which is what is promised
pub record Done (r s : Answer) (m n : Meaning) : Type 0 where
  pub answer : r ≡ s
  pub after : m ≡ n

pub begin_done : (most n : ℕ) (m : Meaning) → n ≤ most → Done (Ok tt) (begin_answer most n) (begun n) (after_begin most n m)
begin_done most n m l = grind (arith, nat_tests)

pub save_declined : (m : Meaning) → m.free ≡ 0 → Done (Err NoSaveFree) (save_answer m) m (after_save m)
save_declined m e = grind (arith, nat_tests)

pub save_done : (m : Meaning) → 0 < m.free → Done (Ok tt) (save_answer m) (saved m) (after_save m)
save_done m l = grind (arith, nat_tests)

pub back_declined : (m : Meaning) → m.saves ≡ [] → Done (Err NoSaveKept) (back_answer m) m (after_back m)
back_declined m e = grind arith

pub back_done : (m : Meaning) (s : Marks) (ss : List Marks) → m.saves ≡ s ∷ ss → Done (Ok tt) (back_answer m) (returned m (s ∷ ss)) (after_back m)
back_done m s ss e = grind arith
