-- A file has one plan, and a plan has one file.
use Rattle.std.proofs.Common.{◌≡◌, ℕ, zero, suc, ◌+◌, ◌-◌, ◌*◌, ◌/◌, ◌<◌, List, [], ◌∷◌, ◌++◌, length, get_or, drop, replicate, sym, refl, ap, ◌∙◌, arith}
use Rattle.std.specs.List.{flat_map}
use Rattle.std.proofs.lemmas.List.{length-append, length-drop, length-replicate, get_or-drop}
use Rattle.std.proofs.lemmas.List.Elements.{All-nil, All-cons, All-tail, All-replicate}
use Rattle.refusal.specs.declared.reason.Refusal.{Refusal}
use Rattle.model.specs.Plan.{Plan, Table}
use Rattle.model.specs.Rules.{Valid}
use Rattle.plan_format.specs.Bits.{bits, spell, number_at}
use Rattle.plan_format.specs.Reading.{Read, got, refused, read}
use Rattle.plan_format.specs.File.{spell_table, spell_plan, FileOf}
use Rattle.plan_format.specs.Laws.{Bytes, RefusesTheRest}
use Rattle.plan_format.proofs.BitLaws.{length-bits, number_at-below, Two, two_none, two_join, two_spell, two_at}
use Rattle.plan_format.proofs.Exactly.{number_stands}
use Rattle.plan_format.proofs.Whole.{reads_exactly}

pub file_reads : (file : List ℕ) (p : Plan) → Valid p → FileOf p file → read file ≡ got p (length (spell_plan p))
file_reads file p v f = (reads_exactly file p (length (spell_plan p))).1 (v, f, refl)

pub refuses_the_rest : RefusesTheRest
refuses_the_rest file = ((λ e r p v f. let g = file_reads file p v f in cc), by (read file) refl)
  where
    by : (r : Read Plan) → read file ≡ r → ((p : Plan) → Valid p → FileOf p file → ⊥) → (e : Refusal) × (read file ≡ refused e)
    by (got p q) e h = let r = (reads_exactly file p q).0 e in absurd (h p r.0 r.1)
    by (refused x) e h = (x, e)

-- bits give back their bytes
first_byte : (x y : ℕ) (xs ys : List ℕ) → x < 256 → y < 256 → bits (x ∷ xs) ≡ bits (y ∷ ys) → (x ≡ y) × (bits xs ≡ bits ys)
first_byte x y xs ys g h e = grind arith

pub bits_bytes : (xs ys : List ℕ) → Bytes xs → Bytes ys → bits xs ≡ bits ys → xs ≡ ys
bits_bytes [] [] g h e = refl
bits_bytes [] (y ∷ ys) g h e = cc
bits_bytes (x ∷ xs) [] g h e = cc
bits_bytes (x ∷ xs) (y ∷ ys) g h e =
    let first = first_byte x y xs ys (g 0 0 (omega arith)) (h 0 0 (omega arith)) e in
    let rest = bits_bytes xs ys (All-tail (λ n. n < 256) x xs g) (All-tail (λ n. n < 256) y ys h) first.1 in
    cc

-- whole bytes of bits
packed : (m : ℕ) (b : List ℕ) → ((i : ℕ) → get_or b i 0 < 2) → length b ≡ 8 * m → (file : List ℕ) × Bytes file × (bits file ≡ b)
packed zero [] two l = ([], All-nil (λ n. n < 256), refl)
packed zero (x ∷ b) two l = absurd (omega arith)
packed (suc m) b two l =
    let n = number_at b 0 8 in
    let s = number_stands b two 0 8 (omega arith) in
    let d = length-drop 8 b in
    let r = packed m (drop 8 b) (λ i. rw (get_or-drop 8 b i 0) (two (8 + i))) (omega arith) in
    (n ∷ r.0, All-cons (λ n. n < 256) n r.0 (number_at-below b two 0 8) r.1, ap (λ (t : List ℕ). spell 8 n ++ t) r.2 ∙ sym s.rest)

-- what is spelt are bits
two_joined : {A : Type 0} {spelt : A → List ℕ} → ((x : A) → Two (spelt x)) → (xs : List A) → Two (flat_map spelt xs)
two_joined h [] = two_none
two_joined h (x ∷ xs) = two_join (h x) (two_joined h xs)

two_table : (t : Table) → Two (spell_table t)
two_table t =
    two_join (two_spell 4 (length t.scope)) (two_join (two_joined (two_spell 5) t.scope)
    (two_join (two_spell 10 (length t.rows)) (two_joined (two_joined (two_spell 5)) t.rows)))

pub two_plan : (p : Plan) → Two (spell_plan p)
two_plan p =
    two_join (two_join (two_spell 8 1) (two_join (two_spell 6 (length p.counts)) (two_joined (two_spell 6) p.counts)))
    (two_join (two_spell 5 (length p.tables)) (two_joined two_table p.tables))

-- bits filled up to whole bytes
pub filled : (s : List ℕ) → Two s → (file : List ℕ) × Bytes file × ((k : ℕ) × (k < 8) × (bits file ≡ s ++ replicate k 0))
filled s two =
    let m = (length s + 7) / 8 in
    let k = 8 * m - length s in
    let b = s ++ replicate k 0 in
    let n : length b ≡ 8 * m = simp (length-append, length-replicate) (omega arith) in
    let r = packed m b (two_at b (two_join two (record { each = All-replicate (λ x. x < 2) k 0 (omega arith) }))) n in
    (r.0, r.1, (k, omega arith, r.2))

pub same_bits : (s xs ys : List ℕ) (k m : ℕ) → k < 8 → m < 8 → bits xs ≡ s ++ replicate k 0 → bits ys ≡ s ++ replicate m 0 → bits xs ≡ bits ys
same_bits s xs ys k m g h d e = grind (arith, length-bits, length-append {A = ℕ}, length-replicate {A = ℕ})
