-- What is known of what was read.
use Rattle.std.proofs.Common.{◌≡◌, ℕ, zero, suc, ◌≤◌, List, length, ap, arith}
use Rattle.std.proofs.lemmas.List.{length_push}
use Rattle.std.proofs.lemmas.Bool.Decides.{nat_tests}
use Rattle.plan_format.specs.Reading.{Read, got, repeat, ranged}
use Rattle.plan_format.proofs.Exactly.{then_got, got_same}

-- n readings give n items
pub repeat-length : {A : Type 0} (one : List A → ℕ → Read A) (n p : ℕ) (xs : List A) (q : ℕ) → repeat one n p ≡ got xs q → length xs ≡ n
repeat-length one zero p xs q e = grind arith
repeat-length one (suc n) p xs q e =
    let t = then_got (repeat one n p) _ xs q e in
    let u = then_got (one t.0 t.1) _ xs q t.3 in
    omega (arith, repeat-length one n p t.0 t.1 t.2, length_push t.0 u.0, ap length (got_same u.3).0)

-- a number in a range is in that range
pub ranged_within : (b : List ℕ) (w lo hi p v q : ℕ) → ranged b w lo hi p ≡ got v q → (lo ≤ v) × (v ≤ hi)
ranged_within b w lo hi p v q e = grind (arith, nat_tests)
