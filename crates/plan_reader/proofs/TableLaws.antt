-- A table, read up to its row count.
use Rattle.std.proofs.Common.{ℕ, ◌+◌, leb, List, Ok, Result, length}
use Rattle.refusal.specs.declared.reason.Refusal.{Refusal}
use Rattle.refusal.specs.declared.reason.Refusal.TheVariants.{TooManyRows}
use Rattle.model.specs.Plan.{Table, rows_in}
use Rattle.plan_format.specs.Reading.{Read, got, ◌then◌, given, repeat, ranged, setting, row, table}
use Rattle.plan_reader.specs.Outcomes.{Reads, Keeps}
use Rattle.plan_reader.specs.declared.reader.Reader.{Reader}
use Rattle.plan_reader.proofs.ReadLaws.{then_keeps}

-- the width w and the setting numbers are read, by a reader that went from a by b to c; it ends at e
module _ {L : Type 0} (New : L → Table → Type 0) (counts : List ℕ) (before : List Table) (a b c e : Reader) (r : Result L Refusal)
    (w : ℕ) (width : Reads a b (Ok w) (λ bs. ranged bs 4 1 8))
    (names : List ℕ) (scope : Reads b c (Ok names) (λ bs. repeat (setting bs (length counts)) w)) where
  -- what follows the row count n at the place p
  abbrev pub rows_of : List ℕ → ℕ → ℕ → ℕ → Read Table
  rows_of bs p n s =
      given (leb (rows_in before + n) 4096) (TooManyRows p) (repeat (row bs counts names) n s then λ rows t. got (record { scope = names; rows = rows }) t)

  pub from_row_count : Keeps New c e r (λ bs p. ranged bs 10 0 512 p then rows_of bs p) → Keeps New a e r (λ bs. table bs counts before)
  from_row_count k = then_keeps _ _ a b New w width e r (then_keeps _ _ b c New names scope e r k)

  pub from_rows : (d : Reader) (n : ℕ) → Reads c d (Ok n) (λ bs. ranged bs 10 0 512) → Keeps New d e r (λ bs. rows_of bs c.place n) → Keeps New a e r (λ bs. table bs counts before)
  from_rows d n count k = from_row_count (then_keeps _ _ c d New n count e r k)
