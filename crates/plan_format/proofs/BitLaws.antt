-- Bits, and numbers spelt in bits.
use Rattle.std.proofs.Common.{◌≡◌, ℕ, zero, suc, ◌+◌, ◌-◌, ◌*◌, ◌/◌, ◌%◌, ◌^◌, ◌<◌, ◌≤◌, List, [], ◌∷◌, ◌++◌, length, get_or, refl, ap, pow-suc, arith}
use Rattle.std.specs.List.{All}
use Rattle.std.proofs.lemmas.List.{get_or_append_left, get_or-append-add, get_or_past}
use Rattle.std.proofs.lemmas.List.Elements.{All-nil, All-cons, All-append}
use Rattle.std.proofs.lemmas.Nat.{mod_below}
use Rattle.std.proofs.lemmas.Bool.{le-leb, lt-leb}
use Rattle.refusal.specs.declared.reason.Refusal.TheVariants.{CutShort}
use Rattle.plan_format.specs.Reading.{got, refused, number}
use Rattle.plan_format.specs.Bits.{spell, bits, number_at}

pub length-spell : (w n : ℕ) → length (spell w n) ≡ w
length-spell zero n = refl
length-spell (suc w) n = ap suc (length-spell w n)

pub length-bits : (file : List ℕ) → length (bits file) ≡ 8 * length file
length-bits [] = refl
length-bits (b ∷ bs) = omega (arith, length-bits bs)

pub spell-at : (w n i : ℕ) → i < w → get_or (spell w n) i 0 ≡ n / 2 ^ (w - 1 - i) % 2
spell-at zero n i h = grind arith
spell-at (suc w) n zero h = grind arith
spell-at (suc w) n (suc i) h = grind (arith, spell-at w n i)

pub bits_at : (file : List ℕ) (q r : ℕ) → r < 8 → q < length file → get_or (bits file) (8 * q + r) 0 ≡ get_or file q 0 / 2 ^ (7 - r) % 2
bits_at [] q r h l = grind arith
bits_at (b ∷ bs) zero r h l = grind (arith, get_or_append_left (spell 8 b) (bits bs) 0 r, spell-at 8 b r)
bits_at (b ∷ bs) (suc q) r h l = grind (arith, get_or-append-add (spell 8 b) (bits bs) (8 * q + r) 0, bits_at bs q r)

-- each is 0 or 1
pub record Two (b : List ℕ) : Type 0 where
  pub each : All (λ x. x < 2) b

pub two_none : Two []
two_none = record { each = All-nil (λ x. x < 2) }

pub two_join : {xs ys : List ℕ} → Two xs → Two ys → Two (xs ++ ys)
two_join {xs} {ys} g h = record { each = All-append (λ x. x < 2) xs ys g.each h.each }

pub two_spell : (w n : ℕ) → Two (spell w n)
two_spell zero n = two_none
two_spell (suc w) n = record { each = All-cons (λ x. x < 2) (n / 2 ^ w % 2) (spell w n) (mod_below (n / 2 ^ w) 2 (omega arith)) (two_spell w n).each }

two_bits : (file : List ℕ) → Two (bits file)
two_bits [] = two_none
two_bits (b ∷ bs) = two_join (two_spell 8 b) (two_bits bs)

pub two_at : (b : List ℕ) → Two b → (p : ℕ) → get_or b p 0 < 2
two_at b h p = grind (arith, get_or_past {X = ℕ}, h.each p 0)

pub bits_below : (file : List ℕ) (p : ℕ) → get_or (bits file) p 0 < 2
bits_below file = two_at (bits file) (two_bits file)

pub number_at-below : (b : List ℕ) → ((i : ℕ) → get_or b i 0 < 2) → (p w : ℕ) → number_at b p w < 2 ^ w
number_at-below b two p zero = omega arith
number_at-below b two p (suc w) = rw pow-suc (omega (arith, number_at-below b two p w, two (p + w)))

pub number_got : (b : List ℕ) (w p : ℕ) → p + w ≤ length b → number b w p ≡ got (number_at b p w) (p + w)
number_got b w p h = rw le-leb

pub number_short : (b : List ℕ) (w p : ℕ) → length b < p + w → number b w p ≡ refused (CutShort p)
number_short b w p h = rw lt-leb
