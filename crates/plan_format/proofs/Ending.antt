-- The padding after bits that stand at the front of a list.
use Rattle.std.proofs.Common.{◌≡◌, ℕ, zero, suc, ◌+◌, ◌-◌, ◌<◌, true, ltb, List, [], ◌∷◌, ◌++◌, length, drop, replicate, sym, refl, ap, ◌∙◌, subst, arith}
use Rattle.std.proofs.lemmas.List.{length-drop, length-replicate, drop-drop, drop_at}
use Rattle.std.proofs.lemmas.Bool.Decides.{nat_tests}
use Rattle.std.proofs.lemmas.Bool.{ltb-true, lt-ltb, and_parts, and_from}
use Rattle.plan_format.specs.Reading.{zeros, padded}
use Rattle.plan_format.proofs.Exactly.{Stands}

pub rest_stands : (b : List ℕ) (p : ℕ) (e f : List ℕ) → drop p b ≡ e ++ f → Stands b p e (p + length e)
rest_stands b p e f h = grind (arith, drop-drop (length e) p b, drop_at e f (length e) refl)

zeros_all : (xs : List ℕ) → zeros xs ≡ true → xs ≡ replicate (length xs) 0
zeros_all [] h = refl
zeros_all (x ∷ xs) h = grind (arith, nat_tests, zeros_all xs)

zeros_only : (k : ℕ) → zeros (replicate k 0) ≡ true
zeros_only zero = refl
zeros_only (suc k) = zeros_only k

pub padding_from : (b s : List ℕ) (q : ℕ) → Stands b 0 s q → padded b q ≡ true → (k : ℕ) × (k < 8) × (b ≡ s ++ replicate k 0)
padding_from b s q h e =
    let a = and_parts (ltb (length b - q) 8) (zeros (drop q b)) e in
    let z : drop q b ≡ replicate (length b - q) 0 = zeros_all (drop q b) a.1 ∙ ap (λ k. replicate k 0) (length-drop q b) in
    (length b - q, ltb-true (length b - q) 8 a.0, h.rest ∙ ap (λ (t : List ℕ). s ++ t) z)

pub padding_to : (b s : List ℕ) (q k : ℕ) → k < 8 → b ≡ s ++ replicate k 0 → q ≡ length s → Stands b 0 s q × (padded b q ≡ true)
padding_to b s q k l e f =
    let z : drop q b ≡ replicate k 0 = ap (drop q) e ∙ drop_at s (replicate k 0) q (sym f) in
    let n = simp (length-drop, length-replicate) at (ap length z) in
    let g : 0 + length s ≡ q = omega arith in (
      subst (Stands b 0 s) g (rest_stands b 0 s (replicate k 0) e),
      and_from (ltb (length b - q) 8) (zeros (drop q b)) (lt-ltb (length b - q) 8 (omega arith)) (ap zeros z ∙ zeros_only k),
    )
