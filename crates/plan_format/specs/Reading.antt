-- Reading a plan file front to back: the plan, or the first refusal, with its bit place.
use Rattle.std.specs.Prelude.{ℕ, zero, suc, ◌+◌, ◌-◌, Bool, true, false, ◌&&◌, List, [], ◌∷◌, ◌++◌, length, drop, ◌==◌, nat_le, nat_lt, slice_index, Ok, Err, Result}
use Rattle.std.specs.List.{list_all}
use Rattle.refusal.specs.declared.reason.Refusal.{Refusal}
use Rattle.refusal.specs.declared.reason.Refusal.TheVariants.{CutShort, OutOfRange, NotAscending, TooManyRows, Unnamed, NotPadded}
use Rattle.model.specs.Plan.{Plan, Table, rows_in}
use Rattle.model.specs.Tests.{below, all_named}
use Rattle.plan_format.specs.Bits.{bits, number_at}

-- what a reading gives: what was read and the place after it, or a refusal
abbrev pub Read : Type 0 → Type 0
Read A = Result (A × ℕ) Refusal

-- the two cases
pattern abbrev pub got : {A : Type 0} → A → ℕ → Read A
got a q = Ok (a, q)

pattern abbrev pub refused : {A : Type 0} → Refusal → Read A
refused e = Err e

-- a reading, then another that goes on from what was read and the place after it
infixr 10 ◌then◌
abbrev pub ◌then◌ : {A B : Type 0} → Read A → (A → ℕ → Read B) → Read B
got a q then next = next a q
refused e then next = refused e

-- a reading, unless a test fails
abbrev pub given : {A : Type 0} → Bool → Refusal → Read A → Read A
given true e r = r
given false e r = refused e

-- n readings, one after another, each told what was read before it
abbrev pub repeat : {A : Type 0} → (List A → ℕ → Read A) → ℕ → ℕ → Read (List A)
repeat one zero p = got [] p
repeat one (suc n) p =
    repeat one n p then λ xs q.
    one xs q then λ x r.
    got (xs ++ x ∷ []) r

-- an item may follow those before it: it is the first, or it is above the last of them
abbrev pub may_follow : {A : Type 0} → (A → A → Bool) → List A → A → Bool
may_follow under [] x = true
may_follow under (y ∷ []) x = under y x
may_follow under (y ∷ z ∷ ys) x = may_follow under (z ∷ ys) x

-- b are the bits of the file, p is the place of a reading

-- the number of w bits, which the file holds whole
abbrev pub number : List ℕ → ℕ → ℕ → Read ℕ
number b w p = given (nat_le (p + w) (length b)) (CutShort p) (got (number_at b p w) (p + w))

-- a number of w bits, from lo to hi
abbrev pub ranged : List ℕ → ℕ → ℕ → ℕ → ℕ → Read ℕ
ranged b w lo hi p =
    number b w p then λ v q.
    given (nat_le lo v && nat_le v hi) (OutOfRange p) (got v q)

-- a number of 5 bits, below n
abbrev pub number_below : List ℕ → ℕ → ℕ → Read ℕ
number_below b n p =
    number b 5 p then λ v q.
    given (nat_lt v n) (OutOfRange p) (got v q)

-- the edition, the setting count, each setting's value count
abbrev pub header : List ℕ → ℕ → Read (List ℕ)
header b p =
    ranged b 8 1 1 p then λ _ q.
    ranged b 6 1 32 q then λ n r.
    repeat (λ _. ranged b 6 1 32) n r

-- a setting number below n, above those before it in its table
abbrev pub setting : List ℕ → ℕ → List ℕ → ℕ → Read ℕ
setting b n before p =
    number_below b n p then λ s q.
    given (may_follow nat_lt before s) (NotAscending p) (got s q)

-- the value for the next setting of the scope, after the values before it
abbrev pub value : List ℕ → List ℕ → List ℕ → List ℕ → ℕ → Read ℕ
value b counts scope before = number_below b (slice_index counts (slice_index scope (length before)))

-- a row: a value for each setting of the scope; above the rows before it in its table
abbrev pub row : List ℕ → List ℕ → List ℕ → List (List ℕ) → ℕ → Read (List ℕ)
row b counts scope before p =
    repeat (value b counts scope) (length scope) p then λ r q.
    given (may_follow below before r) (NotAscending p) (got r q)

-- a table: width, setting numbers, row count, rows; with those of the tables before it, at most 4,096 rows
abbrev pub table : List ℕ → List ℕ → List Table → ℕ → Read Table
table b counts before p =
    ranged b 4 1 8 p then λ w q.
    repeat (setting b (length counts)) w q then λ scope r.
    ranged b 10 0 512 r then λ n s.
    given (nat_le (rows_in before + n) 4096) (TooManyRows r)
    (repeat (row b counts scope) n s then λ rows t.
    got (record { scope = scope; rows = rows }) t)

-- a plan: header, table count, tables
abbrev pub body : List ℕ → ℕ → Read Plan
body b p =
    header b p then λ counts q.
    ranged b 5 1 16 q then λ n r.
    repeat (table b counts) n r then λ tables s.
    got (record { counts = counts; tables = tables }) s

-- all are 0
abbrev pub zeros : List ℕ → Bool
zeros xs = list_all (λ x. x == 0) xs

-- fewer than eight bits follow, all 0
abbrev pub padded : List ℕ → ℕ → Bool
padded b p = nat_lt (length b - p) 8 && zeros (drop p b)

-- a file: a plan in which every setting is named, and nothing after it but padding
abbrev pub read : List ℕ → Read Plan
read file =
    body (bits file) 0 then λ p q.
    given (all_named (length p.counts) p.tables) (Unnamed q)
    (given (padded (bits file) q) (NotPadded q)
    (got p q))
