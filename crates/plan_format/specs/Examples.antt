-- Worked examples: files, and what reading them gives.
use Rattle.std.specs.Prelude.{◌≡◌, ℕ, List, [], ◌∷◌, ◌++◌, take, Some, Ok, Err, Option, Result}
use Rattle.std.specs.List.{AllByRecursion}
use Rattle.refusal.specs.Refusals.{number_of, place_of}
use Rattle.model.specs.Plan.{Plan}
use Rattle.plan_format.specs.Reading.{Read, got, refused, read}

-- the file of plan P
abbrev pub file_p : List ℕ
file_p =
    0x01 ∷ 0x0C ∷ 0x20 ∷ 0x82 ∷ 0x11 ∷ 0x00 ∷ 0x20 ∷ 0x18 ∷ 0x00 ∷ 0x00 ∷ 0x84
    ∷ 0x26 ∷ 0x00 ∷ 0x88 ∷ 0x03 ∷ 0x00 ∷ 0x00 ∷ 0x00 ∷ 0x84 ∷ 0x20 ∷ 0x08 ∷ []

-- plan P: three settings of two values each, table 0 on 0 and 1, table 1 on all three
abbrev pub plan_p : Plan
plan_p =
    record {
      counts = 2 ∷ 2 ∷ 2 ∷ [];
      tables = record { scope = 0 ∷ 1 ∷ []; rows = (0 ∷ 0 ∷ []) ∷ (0 ∷ 1 ∷ []) ∷ (1 ∷ 1 ∷ []) ∷ [] }
          ∷ record { scope = 0 ∷ 1 ∷ 2 ∷ []; rows = (0 ∷ 0 ∷ 0 ∷ []) ∷ (0 ∷ 1 ∷ 1 ∷ []) ∷ (1 ∷ 0 ∷ 1 ∷ []) ∷ [] } ∷ [];
    }

-- what reading a file gives: a plan, or a refusal's number and bit place
abbrev pub Outcome : Type 0
Outcome = Result Plan (ℕ × Option ℕ)

abbrev pub outcome : Read Plan → Outcome
outcome (got p q) = Ok p
outcome (refused e) = Err (number_of e, place_of e)

abbrev pub at : ℕ → ℕ → Outcome
at number place = Err (number, Some place)

-- the table of examples
abbrev pub examples : List (List ℕ × Outcome)
examples =
    ([], at 1 0)
    ∷ (0x02 ∷ [], at 2 0)
    ∷ (file_p, Ok plan_p)
    ∷ (take 20 file_p, at 1 160)
    ∷ (take 20 file_p ++ 0x09 ∷ [], at 6 165)
    ∷ (file_p ++ 0x00 ∷ [], at 6 165)
    ∷ []

abbrev pub Examples : Type 0
Examples = AllByRecursion (λ x. outcome (read x.0) ≡ x.1) examples
