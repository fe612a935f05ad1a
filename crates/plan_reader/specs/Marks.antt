-- Which settings are marked as named.
use Rattle.std.specs.Prelude.{◌≡◌, ℕ, ◌<◌, Bool, false, List, slice_index_or}
use Rattle.model.specs.Plan.{Table}
use Rattle.model.specs.Tests.{names}
use Rattle.std.specs.List.{list_any}
use Rattle.plan_reader.specs.declared.named.Named.{Named}

abbrev pub marked : Named → ℕ → Bool
marked n s = slice_index_or n.marks s false

-- just the settings are marked that some of the tables name
abbrev pub Marks : Named → List Table → Type 0
Marks n ts = (s : ℕ) → s < 32 → marked n s ≡ list_any (names s) ts
