-- Bits that are all 0, from a place on.
use Rattle.std.proofs.Common.{◌≡◌, ℕ, zero, suc, ◌+◌, ◌&&◌, eqb, List, length, get_or, drop, sym, ap, ◌∙◌, arith}
use Rattle.std.proofs.lemmas.List.{at_drop_more, at_drop_all}
use Rattle.std.specs.List.{list_all, range_with_len}
use Rattle.plan_format.specs.Reading.{zeros}

-- the n bits from a on, to the end, are all 0, where a is the place p
pub all_zeros : (b : List ℕ) (a p n : ℕ) → a ≡ p → p + n ≡ length b → list_all (λ k. eqb (get_or b k 0) 0) (range_with_len a n) ≡ zeros (drop p b)
all_zeros b a p zero s e = sym (at_drop_all zeros b p (omega arith))
all_zeros b a p (suc n) s e =
    ap (λ x. eqb (get_or b a 0) 0 && x) (all_zeros b (a + 1) (p + 1) n (omega arith) (omega arith))
    ∙ ap (λ k. eqb (get_or b k 0) 0 && zeros (drop (p + 1) b)) s
    ∙ sym (at_drop_more zeros b p 0 (omega arith))
