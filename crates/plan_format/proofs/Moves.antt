-- By how many bits a reading moves on, at most.
use Rattle.std.proofs.Common.{◌≡◌, ℕ, ◌+◌, ◌*◌, ◌≤◌, List, length, refl, arith}
use Rattle.model.specs.Plan.{Table}
use Rattle.plan_format.specs.Reading.{Read, got, repeat, ranged, number_below, header, setting, value, row, table, body}
use Rattle.plan_format.proofs.Cutting.{Alike, SameFront, repeat_alike, ranged_alike, below_alike, counts_alike, setting_alike, scope_alike, values_alike, row_alike, rows_alike, table_alike, tables_alike, header_alike, body_alike}

abbrev pub Moves : {A : Type 0} → (ℕ → Read A) → ℕ → Type 0
Moves {A} read w = (p : ℕ) (a : A) (q : ℕ) → read p ≡ got a q → q ≤ p + w

-- a reading is like itself, and a list has the front of itself
itself : {A : Type 0} {read : ℕ → Read A} (w : ℕ) → Moves read w → Alike 0 w read read
itself w x = record { same = λ p h. refl; moves = x }

own_front : (b : List ℕ) → SameFront 0 b b
own_front b = record { long_b = omega arith; long_c = omega arith; same = λ i h. refl }

pub repeat_moves : {A : Type 0} (one : List A → ℕ → Read A) (w : ℕ) → ((xs : List A) → Moves (one xs) w) → (n : ℕ) → Moves (repeat one n) (w * n)
repeat_moves one w x n = (repeat_alike (λ xs. itself w (x xs)) n).moves

pub ranged_moves : (b : List ℕ) (w lo hi : ℕ) → Moves (ranged b w lo hi) w
ranged_moves b w lo hi = (ranged_alike (own_front b) w lo hi).moves

pub below_moves : (b : List ℕ) (n : ℕ) → Moves (number_below b n) 5
below_moves b n = (below_alike (own_front b) n).moves

pub counts_move : (b : List ℕ) (n : ℕ) → Moves (repeat (λ _. ranged b 6 1 32) n) (6 * n)
counts_move b n = (counts_alike (own_front b) n).moves

pub setting_moves : (b : List ℕ) (n : ℕ) (before : List ℕ) → Moves (setting b n before) 5
setting_moves b n before = (setting_alike (own_front b) n before).moves

pub scope_moves : (b : List ℕ) (n w : ℕ) → Moves (repeat (setting b n) w) (5 * w)
scope_moves b n w = (scope_alike (own_front b) n w).moves

pub values_move : (b counts scope : List ℕ) (n : ℕ) → Moves (repeat (value b counts scope) n) (5 * n)
values_move b counts scope n = (values_alike (own_front b) counts scope n).moves

-- a row of a table that names at most w settings
pub row_moves : (b counts scope : List ℕ) (before : List (List ℕ)) (w : ℕ) → length scope ≤ w → Moves (row b counts scope before) (5 * w)
row_moves b counts scope before w few = (row_alike (own_front b) counts scope before w few).moves

pub rows_move : (b counts scope : List ℕ) (w n : ℕ) → length scope ≤ w → Moves (repeat (row b counts scope) n) (5 * w * n)
rows_move b counts scope w n few = (rows_alike (own_front b) counts scope w n few).moves

pub table_moves : (b counts : List ℕ) (before : List Table) → Moves (table b counts before) 20534
table_moves b counts before = (table_alike (own_front b) counts before).moves

pub tables_move : (b counts : List ℕ) (n : ℕ) → Moves (repeat (table b counts) n) (20534 * n)
tables_move b counts n = (tables_alike (own_front b) counts n).moves

pub header_moves : (b : List ℕ) → Moves (header b) 206
header_moves b = (header_alike (own_front b)).moves

pub body_moves : (b : List ℕ) → Moves (body b) 328755
body_moves b = (body_alike (own_front b)).moves
