-- What checking a file answers.
use Rattle.std.specs.Prelude.{◌≡◌, ℕ, ◌*◌, List, length, Ok, Err, Result}
use Rattle.refusal.specs.declared.reason.Refusal.{Refusal}
use Rattle.model.specs.Plan.{Plan, row_count, value_count}
use Rattle.model.specs.Rules.{Valid}
use Rattle.plan_format.specs.File.{FileOf}
use Rattle.plan_format.specs.Laws.{Placed}
use Rattle.plan_format.specs.Reading.{Read, got, refused}
use Rattle.plan_reader.specs.declared.numbers.Numbers.{Numbers}

-- a plan's numbers of settings, tables, rows and values, and the cells to reserve: 8 for each row
abbrev pub numbers_of : Plan → Numbers
numbers_of p =
    record { settings = length p.counts; tables = length p.tables; rows = row_count p; values = value_count p; cells = 8 * row_count p }

-- the answer that a reading calls for: f of what was read, or the refusal
abbrev pub answer : {A B : Type 0} → (A → B) → Read A → Result B Refusal
answer f (got a q) = Ok (f a)
answer f (refused e) = Err e

-- the file is that of a plan that keeps the rules and has these numbers
abbrev pub HasNumbers : List ℕ → Numbers → Type 0
HasNumbers file ns = (p : Plan) × Valid p × FileOf p file × (ns ≡ numbers_of p)

-- the answer in the words of plan files: numbers exactly where the file has them, and a refusal, with its place, exactly where it is no plan file
pub record Judges (file : List ℕ) (r : Result Numbers Refusal) : Type 0 where
  pub accepted : (ns : Numbers) → r ≡ Ok ns → HasNumbers file ns
  pub accepts : (ns : Numbers) → HasNumbers file ns → r ≡ Ok ns
  pub refused : (e : Refusal) → r ≡ Err e → (p : Plan) → Valid p → FileOf p file → ⊥
  pub refuses : ((p : Plan) → Valid p → FileOf p file → ⊥) → (e : Refusal) × (r ≡ Err e)
  pub placed : (e : Refusal) → r ≡ Err e → Placed file e
