-- A number of bits, out of the bytes in which it lies.
use Rattle.std.proofs.Common.{◌≡◌, ℕ, zero, suc, ◌+◌, ◌-◌, ◌*◌, ◌/◌, ◌%◌, ◌^◌, ◌<◌, List, length, get_or, refl, sym, ap, ◌∙◌, inl, inr, pow-suc, arith}
use Rattle.std.proofs.lemmas.Bool.{cases_lt}
use Rattle.std.proofs.lemmas.List.{get_or_past}
use Rattle.std.proofs.lemmas.Nat.{pow-add, div-mul-add, mod-mul-add}
use Rattle.plan_format.specs.Bits.{bits, number_at}
use Rattle.plan_format.proofs.BitLaws.{bits_at, length-bits, number_at-below}

-- a number of v + w bits is that of the first v, and then that of the w after them
pub number_joined : (b : List ℕ) (p v w : ℕ) → number_at b p (v + w) ≡ number_at b p v * 2 ^ w + number_at b (p + v) w
number_joined b p v zero = let e : v + 0 ≡ v = omega arith in rw e (omega arith)
number_joined b p v (suc w) =
    let e : v + suc w ≡ suc (v + w) = omega arith in
    let i : p + (v + w) ≡ p + v + w = omega arith in
    let x = number_at b p v in
    let d : x * 2 ^ suc w ≡ x * 2 ^ w * 2 = rw pow-suc (omega arith) in
    rw (e, i, d, number_joined b p v w) (omega arith)

-- a bit of a byte, or of what stands for one past the end
bit_of : (file : List ℕ) (q r : ℕ) → r < 8 → get_or (bits file) (8 * q + r) 0 ≡ get_or file q 0 / 2 ^ (7 - r) % 2
bit_of file q r h =
    elim (cases_lt q (length file)) [
      | inl l ↦ bits_at file q r h l
      | inr l ↦ rw (get_or_past (bits file) (8 * q + r) 0 (omega (arith, length-bits file)), get_or_past file q 0 l) (omega arith)
    ]

-- eight bits spell their byte
byte_is : (file : List ℕ) (q : ℕ) → get_or file q 0 < 256 → number_at (bits file) (8 * q) 8 ≡ get_or file q 0
byte_is file q h =
    let b = bits file in
    let n = get_or file q 0 in
    let at0 : get_or b (8 * q + 0) 0 ≡ n / 128 % 2 = bit_of file q 0 (omega arith) in
    let at1 : get_or b (8 * q + 1) 0 ≡ n / 64 % 2 = bit_of file q 1 (omega arith) in
    let at2 : get_or b (8 * q + 2) 0 ≡ n / 32 % 2 = bit_of file q 2 (omega arith) in
    let at3 : get_or b (8 * q + 3) 0 ≡ n / 16 % 2 = bit_of file q 3 (omega arith) in
    let at4 : get_or b (8 * q + 4) 0 ≡ n / 8 % 2 = bit_of file q 4 (omega arith) in
    let at5 : get_or b (8 * q + 5) 0 ≡ n / 4 % 2 = bit_of file q 5 (omega arith) in
    let at6 : get_or b (8 * q + 6) 0 ≡ n / 2 % 2 = bit_of file q 6 (omega arith) in
    let at7 : get_or b (8 * q + 7) 0 ≡ n / 1 % 2 = bit_of file q 7 (omega arith) in
    omega (arith, at0, at1, at2, at3, at4, at5, at6, at7)

-- so do the bits of three
pub three_are : (file : List ℕ) (q x y z : ℕ) → x ≡ get_or file q 0 → y ≡ get_or file (q + 1) 0 → z ≡ get_or file (q + 2) 0 → x < 256 → y < 256 → z < 256
    → (x * 256 + y) * 256 + z ≡ number_at (bits file) (8 * q) 24
three_are file q x y z e f g k l m =
    let b = bits file in
    let i : 8 * q + 8 ≡ 8 * (q + 1) = omega arith in
    let j : 8 * q + 16 ≡ 8 * (q + 2) = omega arith in
    let one : number_at b (8 * q) 8 ≡ x = byte_is file q (omega arith) ∙ sym e in
    let two : number_at b (8 * q + 8) 8 ≡ y = ap (λ p. number_at b p 8) i ∙ byte_is file (q + 1) (omega arith) ∙ sym f in
    let three : number_at b (8 * q + 16) 8 ≡ z = ap (λ p. number_at b p 8) j ∙ byte_is file (q + 2) (omega arith) ∙ sym g in
    let both : number_at b (8 * q) 16 ≡ number_at b (8 * q) 8 * 256 + number_at b (8 * q + 8) 8 = number_joined b (8 * q) 8 8 in
    let all : number_at b (8 * q) 24 ≡ number_at b (8 * q) 16 * 256 + number_at b (8 * q + 16) 8 = number_joined b (8 * q) 16 8 in
    sym (all ∙ rw (both, one, two, three) refl)

-- of n bits at a, the w after the first v: what is left when those past them are cut off, and then those before
pub number_within : (b : List ℕ) → ((i : ℕ) → get_or b i 0 < 2) → (a v w k : ℕ) → number_at b a (v + (w + k)) / 2 ^ k % 2 ^ w ≡ number_at b (a + v) w
number_within b two a v w k =
    let x = number_at b a v in
    let m = number_at b (a + v) w in
    let l = number_at b (a + v + w) k in
    let d : x * 2 ^ (w + k) ≡ x * 2 ^ w * 2 ^ k = rw pow-add (omega arith) in
    let n : number_at b a (v + (w + k)) ≡ (x * 2 ^ w + m) * 2 ^ k + l =
    number_joined b a v (w + k) ∙ rw (number_joined b (a + v) w k, d) (omega arith) in
    rw (n, div-mul-add (x * 2 ^ w + m) (2 ^ k) l (number_at-below b two (a + v + w) k))
    (mod-mul-add x (2 ^ w) m (number_at-below b two (a + v) w))
