-- Rows that come one after another.
use Rattle.std.specs.Prelude.{◌≡◌, ℕ, Bool, true, List, Some, None, Option}
use Rattle.model.specs.Tests.{below}
use Rattle.plan_format.specs.Reading.{may_follow}

-- a row is above the last one before it, if there is one
abbrev pub above : Option (List ℕ) → List ℕ → Bool
above None row = true
above (Some last) row = below last row

-- `last` is the last of the rows before, if there are any: it decides what may follow them
abbrev pub Last : List (List ℕ) → Option (List ℕ) → Type 0
Last before last = (row : List ℕ) → may_follow below before row ≡ above last row
