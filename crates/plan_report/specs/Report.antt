-- The lines that tell what a file is.
use Rattle.std.specs.Prelude.{ℕ, List, ◌++◌, Some, None, Ok, Err, codes, decimal, Option, Result}
use Rattle.refusal.specs.declared.reason.Refusal.{Refusal}
use Rattle.refusal.specs.Refusals.{number_of, place_of, words_of}
use Rattle.model.specs.Plan.{Plan}
use Rattle.plan_format.specs.Reading.{Read}
use Rattle.plan_reader.specs.Checking.{answer, numbers_of}
use Rattle.plan_reader.specs.declared.numbers.Numbers.{Numbers}

-- a plan file: its numbers, each on a line of its own
abbrev pub numbers_text : Numbers → List ℕ
numbers_text ns =
    codes "a plan file\nsettings: " ++ (decimal ns.settings
    ++ (codes "\ntables: " ++ (decimal ns.tables
    ++ (codes "\nrows: " ++ (decimal ns.rows
    ++ (codes "\nvalues: " ++ (decimal ns.values
    ++ (codes "\ncells to reserve: " ++ (decimal ns.cells ++ codes "\n")))))))))

-- the line of a bit place, where there is one, and then the rest
abbrev pub place_text : Option ℕ → List ℕ → List ℕ
place_text (Some p) rest = codes "\nbit place: " ++ (decimal p ++ rest)
place_text None rest = rest

-- no plan file: the refusal's number, its bit place, and in words what is wrong there
abbrev pub refusal_text : Refusal → List ℕ
refusal_text e =
    codes "no plan file\nrefusal: " ++ (decimal (number_of e)
    ++ place_text (place_of e) (codes "\n" ++ (words_of e ++ codes "\n")))

-- the text of what checking a file answers
abbrev pub answer_text : Result Numbers Refusal → List ℕ
answer_text (Ok ns) = numbers_text ns
answer_text (Err e) = refusal_text e

-- what reading a file gives, as text
abbrev pub report_text : Read Plan → List ℕ
report_text r = answer_text (answer numbers_of r)
