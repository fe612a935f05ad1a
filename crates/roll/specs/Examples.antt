-- Worked examples: calls on a new roll, and what is then seen of it.
use Rattle.std.specs.Prelude.{◌≡◌, ℕ, Bool, true, false, List, [], ◌∷◌, ◌++◌, replicate, Ok, Err}
use Rattle.std.specs.List.{AllByRecursion, fold}
use Rattle.refusal.specs.Refusals.{number_of}
use Rattle.roll.specs.Meaning.{Meaning, begun, struck, stands_at, standing, kept_of}
use Rattle.roll.specs.Calls.{Answer, begin_answer, after_begin, save_answer, after_save, back_answer, after_back}

-- a call that alters a roll
pub data Call : Type 0 where
  begin : ℕ → Call
  strike : ℕ → Call
  save : Call
  back : Call

-- what it leaves, of a kind with the given most
abbrev pub after : ℕ → Meaning → Call → Meaning
after most m (begin n) = after_begin most n m
after most m (strike k) = struck m k
after most m save = after_save m
after most m back = after_back m

abbrev pub after_all : ℕ → Meaning → List Call → Meaning
after_all most m calls = fold (after most) m calls

-- 0 where a call is accepted, and else the number of the refusal
abbrev pub returned_by : Answer → ℕ
returned_by (Ok t) = 0
returned_by (Err e) = number_of e

abbrev pub returned_number : ℕ → Meaning → Call → ℕ
returned_number most m (begin n) = returned_by (begin_answer most n)
returned_number most m (strike k) = 0
returned_number most m save = returned_by (save_answer m)
returned_number most m back = returned_by (back_answer m)

-- on a new roll of a kind with the given most, the calls `earlier` and then `last`
pub record Example : Type 0 where
  pub most : ℕ
  pub earlier : List Call
  pub last : Call

-- the number that the last call returns, how many numbers stand and how many saves are kept after it, and whether 63 and 64 stand
pub record Seen : Type 0 where
  pub number : ℕ
  pub stand : ℕ
  pub kept : ℕ
  pub is_63 : Bool
  pub is_64 : Bool

abbrev pub seen_of : ℕ → Meaning → Seen
seen_of number m = record { number = number; stand = standing m; kept = kept_of m; is_63 = stands_at m 63; is_64 = stands_at m 64 }

abbrev pub seen : Example → Seen
seen e =
    seen_of (returned_number e.most (after_all e.most (begun 0) e.earlier) e.last)
    (after e.most (after_all e.most (begun 0) e.earlier) e.last)

abbrev pub case : (most : ℕ) → List Call → Call → (number stand kept : ℕ) → (is_63 is_64 : Bool) → Example × Seen
case most earlier last number stand kept is_63 is_64 = (
  record { most = most; earlier = earlier; last = last },
  record { number = number; stand = stand; kept = kept; is_63 = is_63; is_64 = is_64 },
)

-- the table of examples
abbrev pub examples : List (Example × Seen)
examples =
    case 4096 (begin 65 ∷ strike 63 ∷ save ∷ strike 64 ∷ []) back 0 64 0 false true
    ∷ case 4096 (begin 65 ∷ strike 63 ∷ save ∷ []) (strike 64) 0 63 1 false false
    ∷ case 4096 (begin 65 ∷ []) (strike 65) 0 65 0 true true
    ∷ case 4096 (begin 65 ∷ strike 63 ∷ save ∷ strike 64 ∷ []) (begin 66) 0 66 0 true true
    ∷ case 1024 (begin 65 ∷ save ∷ strike 63 ∷ []) (begin 1025) 9 64 1 false true
    ∷ case 4096 (begin 65 ∷ strike 64 ∷ []) (begin 4097) 9 64 0 true false
    ∷ case 1024 (begin 1 ∷ replicate 31 save) save 0 1 32 false false
    ∷ case 1024 (begin 1 ∷ replicate 32 save) save 11 1 32 false false
    ∷ case 1024 (begin 1 ∷ replicate 32 save ++ back ∷ []) save 0 1 32 false false
    ∷ case 1024 (begin 65 ∷ strike 63 ∷ []) back 12 64 0 false true
    ∷ []

abbrev pub Examples : Type 0
Examples = AllByRecursion (λ x. seen x.0 ≡ x.1) examples
