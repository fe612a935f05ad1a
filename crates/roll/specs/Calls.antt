-- Which answer a call that can be declined gives, and what it leaves.
use Rattle.std.specs.Prelude.{ℕ, Bool, if◌then◌else◌, ◌||◌, List, [], ◌∷◌, Ok, Err, Result, ◌==◌, nat_lt}
use Rattle.refusal.specs.declared.reason.Refusal.{Refusal}
use Rattle.refusal.specs.declared.reason.Refusal.TheVariants.{AboveMost, NoSaveFree, NoSaveKept}
use Rattle.roll.specs.Meaning.{Marks, Meaning, begun, saved, returned}

-- what a call answers: accepted, or declined and why
abbrev pub Answer : Type 0
Answer = Result (Unit {0}) Refusal

-- begin with n is declined where n is above the most
abbrev pub begin_answer : (most n : ℕ) → Answer
begin_answer most n = if nat_lt most n then Err AboveMost else Ok tt

abbrev pub after_begin : (most n : ℕ) → Meaning → Meaning
after_begin most n m = if nat_lt most n then m else begun n

-- save is declined where no save is free
abbrev pub save_answer : Meaning → Answer
save_answer m = if m.free == 0 then Err NoSaveFree else Ok tt

abbrev pub after_save : Meaning → Meaning
after_save m = if m.free == 0 then m else saved m

-- back is declined where no save is kept
abbrev pub back_to : List Marks → Answer
back_to [] = Err NoSaveKept
back_to (s ∷ ss) = Ok tt

abbrev pub back_answer : Meaning → Answer
back_answer m = back_to m.saves

abbrev pub after_back : Meaning → Meaning
after_back m = returned m m.saves

-- two rolls are begun, with n and with k, or neither: declined where either size is above the most of its kind
abbrev pub too_many : (most_n most_k n k : ℕ) → Bool
too_many most_n most_k n k = nat_lt most_n n || nat_lt most_k k

abbrev pub begin_both_answer : (most_n most_k n k : ℕ) → Answer
begin_both_answer most_n most_k n k = if too_many most_n most_k n k then Err AboveMost else Ok tt

-- the roll that is begun with the size s
abbrev pub after_begin_both : (most_n most_k n k s : ℕ) → Meaning → Meaning
after_begin_both most_n most_k n k s m = if too_many most_n most_k n k then m else begun s
