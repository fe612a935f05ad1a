-- What a plan file is: the bits that spell a plan, packed without gaps, and zero bits up to the end of the byte.
use Rattle.std.specs.Prelude.{◌≡◌, ℕ, ◌<◌, List, ◌++◌, length, replicate}
use Rattle.std.specs.List.{flat_map}
use Rattle.model.specs.Plan.{Plan, Table}
use Rattle.plan_format.specs.Bits.{bits, spell}

-- the edition 1, the setting count, each setting's value count
abbrev pub spell_header : List ℕ → List ℕ
spell_header counts = spell 8 1 ++ (spell 6 (length counts) ++ flat_map (spell 6) counts)

-- a row: its values
abbrev pub spell_row : List ℕ → List ℕ
spell_row values = flat_map (spell 5) values

-- a table: its width, its setting numbers, its row count, its rows
abbrev pub spell_table : Table → List ℕ
spell_table t =
    spell 4 (length t.scope) ++ (flat_map (spell 5) t.scope ++ (spell 10 (length t.rows) ++ flat_map spell_row t.rows))

-- a plan: the header, the table count, the tables
abbrev pub spell_plan : Plan → List ℕ
spell_plan p = spell_header p.counts ++ (spell 5 (length p.tables) ++ flat_map spell_table p.tables)

-- a file of a plan: the plan's bits, then fewer than eight zero bits, so that no byte follows
abbrev pub FileOf : Plan → List ℕ → Type 0
FileOf p file = (k : ℕ) × (k < 8) × (bits file ≡ spell_plan p ++ replicate k 0)
