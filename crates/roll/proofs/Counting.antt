-- How many stand.
use Rattle.std.proofs.Common.{◌≡◌, ℕ, zero, suc, true, false, [], ◌∷◌, refl, ap, arith}
use Rattle.std.proofs.lemmas.List.{set-get_or}
use Rattle.roll.specs.Meaning.{Marks, Meaning, has, trues, stands_at, struck}
use Rattle.roll.specs.Laws.{Counted}
use Rattle.roll.proofs.Marks.{trues-set}

none_of : (bs : Marks) → trues bs ≡ 0 → (i : ℕ) → has bs i ≡ false
none_of [] e i = refl
none_of (true ∷ bs) e i = grind arith
none_of (false ∷ bs) e zero = refl
none_of (false ∷ bs) e (suc i) = none_of bs e i

zero_of : (bs : Marks) → ((i : ℕ) → has bs i ≡ false) → trues bs ≡ 0
zero_of [] h = refl
zero_of (true ∷ bs) h = grind (arith, h 0)
zero_of (false ∷ bs) h = zero_of bs (λ i. h (suc i))

-- a strike of what does not stand
pub struck_out : (m : Meaning) (k : ℕ) → stands_at m k ≡ false → struck m k ≡ m
struck_out m k h = ap (λ marks. record { marks = marks; saves = m.saves; free = m.free }) (rw h at (set-get_or m.marks k false))

pub counted : (m : Meaning) → Counted m
counted m = record {
  one_less = λ k h. trues-set m.marks k h;
  same = struck_out m;
  none = λ e i l. none_of m.marks e i;
  nothing = λ h. zero_of m.marks (λ i. h i (omega arith));
}
