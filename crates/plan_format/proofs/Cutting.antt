-- A reading sees only the bits that it moves over, so that a long file may be cut.
use Rattle.std.proofs.Common.{◌≡◌, ℕ, zero, suc, ◌+◌, ◌*◌, ◌/◌, ◌%◌, ◌<◌, ◌≤◌, Bool, ◌&&◌, ltb, leb, List, [], ◌∷◌, ◌++◌, length, get_or, take, sym, refl, ap, ◌∙◌, inl, inr, mul-suc, arith}
use Rattle.std.proofs.lemmas.List.{get_or-take, length-take-le, take_all}
use Rattle.std.proofs.lemmas.Bool.{cases_lt}
use Rattle.std.proofs.lemmas.Bool.Decides.{nat_tests}
use Rattle.refusal.specs.declared.reason.Refusal.{Refusal}
use Rattle.refusal.specs.declared.reason.Refusal.TheVariants.{OutOfRange, NotAscending, TooManyRows, Unnamed, NotPadded}
use Rattle.model.specs.Plan.{Plan, Table, rows_in}
use Rattle.model.specs.Tests.{below, all_named}
use Rattle.plan_format.specs.Bits.{bits, number_at}
use Rattle.plan_format.specs.Reading.{Read, got, refused, ◌then◌, given, repeat, may_follow, number, ranged, number_below, header, setting, value, row, table, body, padded, read}
use Rattle.plan_format.specs.Laws.{ReadsNoFurther}
use Rattle.plan_format.proofs.BitLaws.{bits_at, length-bits, number_got}
use Rattle.plan_format.proofs.Exactly.{then_got, given_got}
use Rattle.plan_format.proofs.Parts.{ranged_within, repeat-length}

-- of two readings, that they give the same where they see at most w bits, of k at most, and that the first moves on by no more
pub record Alike {A : Type 0} (k w : ℕ) (r s : ℕ → Read A) : Type 0 where
  pub same : (p : ℕ) → p + w ≤ k → s p ≡ r p
  pub moves : (p : ℕ) (a : A) (q : ℕ) → r p ≡ got a q → q ≤ p + w

then_same : {A B : Type 0} (r : Read A) (next after : A → ℕ → Read B) → ((a : A) (q : ℕ) → r ≡ got a q → after a q ≡ next a q) → (r then after) ≡ (r then next)
then_same (got a q) next after h = h a q refl
then_same (refused e) next after h = refl

module _ {k : ℕ} where
  wider : {A : Type 0} {v : ℕ} {r s : ℕ → Read A} (w : ℕ) → v ≤ w → Alike k v r s → Alike k w r s
  wider w l x = record { same = λ p h. x.same p (omega arith); moves = λ p a q e. omega (arith, x.moves p a q e) }

  got_alike : {A : Type 0} (a : A) → Alike k 0 (got a) (got a)
  got_alike a = record { same = λ p h. refl; moves = λ p x q e. grind arith }

  given_alike : {A : Type 0} {w : ℕ} {r s : ℕ → Read A} (test : Bool) (why : Refusal) → Alike k w r s → Alike k w (λ p. given test why (r p)) (λ p. given test why (s p))
  given_alike {A} {w} {r} test why x = record {
    same = λ p h. ap (λ (t : Read A). given test why t) (x.same p h);
    moves = λ p a q e. x.moves p a q (given_got test why (r p) a q e).1;
  }

  -- one reading after another, which may know what the first gave
  then_alike : {A B : Type 0} {v w : ℕ} {r s : ℕ → Read A} {next after : ℕ → A → ℕ → Read B}
      → Alike k v r s → ((p : ℕ) (a : A) (q : ℕ) → r p ≡ got a q → Alike k w (next p a) (after p a)) → Alike k (v + w) (λ p. r p then next p) (λ p. s p then after p)
  then_alike {A} {B} {v} {w} {r} {s} {next} {after} x y = record {
    same = λ p h.
        ap (λ (t : Read A). t then after p) (x.same p (omega arith))
        ∙ then_same (r p) (next p) (after p) (λ a q e. (y p a q e).same q (omega (arith, x.moves p a q e)));
    moves = λ p c q e.
        let t = then_got (r p) (next p) c q e in
        omega (arith, x.moves p t.0 t.1 t.2, (y p t.0 t.1 t.2).moves t.1 c q t.3);
  }

  tested_alike : {A : Type 0} {w : ℕ} {r s : ℕ → Read A} (test : A → Bool) (why : ℕ → Refusal) → Alike k w r s
      → Alike k w (λ p. r p then λ a q. given (test a) (why p) (got a q)) (λ p. s p then λ a q. given (test a) (why p) (got a q))
  tested_alike {A} {w} test why x = wider w (omega arith) (then_alike x (λ p a q e. given_alike (test a) (why p) (got_alike a)))

  pub repeat_alike : {A : Type 0} {w : ℕ} {one two : List A → ℕ → Read A} → ((xs : List A) → Alike k w (one xs) (two xs)) → (n : ℕ) → Alike k (w * n) (repeat one n) (repeat two n)
  repeat_alike {A} {w} x zero = wider (w * 0) (omega arith) (got_alike [])
  repeat_alike {A} {w} x (suc n) =
      wider (w * suc n) (rw mul-suc (omega arith)) (then_alike (repeat_alike x n) (λ p xs q e. then_alike (x xs) (λ p y q e. got_alike (xs ++ y ∷ []))))

-- b and c have the same first k bits
pub record SameFront (k : ℕ) (b c : List ℕ) : Type 0 where
  pub long_b : k ≤ length b
  pub long_c : k ≤ length c
  pub same : (i : ℕ) → i < k → get_or c i 0 ≡ get_or b i 0

module _ {k : ℕ} {b c : List ℕ} (front : SameFront k b c) where
  number_at_same : (p w : ℕ) → p + w ≤ k → number_at c p w ≡ number_at b p w
  number_at_same p zero h = refl
  number_at_same p (suc w) h = rw (number_at_same p w (omega arith), front.same (p + w) (omega arith)) refl

  number_alike : (w : ℕ) → Alike k w (number b w) (number c w)
  number_alike w = record {
    same = λ p h. number_got c w p (omega (arith, front.long_c)) ∙ ap (λ n. got n (p + w)) (number_at_same p w h) ∙ sym (number_got b w p (omega (arith, front.long_b)));
    moves = λ p a q e. grind arith;
  }

  pub ranged_alike : (w lo hi : ℕ) → Alike k w (ranged b w lo hi) (ranged c w lo hi)
  ranged_alike w lo hi = tested_alike (λ v. leb lo v && leb v hi) OutOfRange (number_alike w)

  pub below_alike : (n : ℕ) → Alike k 5 (number_below b n) (number_below c n)
  below_alike n = tested_alike (λ v. ltb v n) OutOfRange (number_alike 5)

  pub counts_alike : (n : ℕ) → Alike k (6 * n) (repeat (λ _. ranged b 6 1 32) n) (repeat (λ _. ranged c 6 1 32) n)
  counts_alike = repeat_alike (λ _. ranged_alike 6 1 32)

  pub header_alike : Alike k 206 (header b) (header c)
  header_alike =
      then_alike (ranged_alike 8 1 1)
      (λ _ _ _ _. then_alike (ranged_alike 6 1 32) (λ p n q e. wider 192 (omega (arith, ranged_within b 6 1 32 p n q e)) (counts_alike n)))

  pub setting_alike : (n : ℕ) (before : List ℕ) → Alike k 5 (setting b n before) (setting c n before)
  setting_alike n before = tested_alike (may_follow ltb before) NotAscending (below_alike n)

  pub scope_alike : (n w : ℕ) → Alike k (5 * w) (repeat (setting b n) w) (repeat (setting c n) w)
  scope_alike n = repeat_alike (setting_alike n)

  pub values_alike : (counts scope : List ℕ) (n : ℕ) → Alike k (5 * n) (repeat (value b counts scope) n) (repeat (value c counts scope) n)
  values_alike counts scope = repeat_alike (λ vs. below_alike (get_or counts (get_or scope (length vs) 0) 0))

  -- a row of a table that names at most w settings
  pub row_alike : (counts scope : List ℕ) (before : List (List ℕ)) (w : ℕ) → length scope ≤ w → Alike k (5 * w) (row b counts scope before) (row c counts scope before)
  row_alike counts scope before w narrow =
      tested_alike (may_follow below before) NotAscending (wider (5 * w) (omega arith) (values_alike counts scope (length scope)))

  pub rows_alike : (counts scope : List ℕ) (w n : ℕ) → length scope ≤ w → Alike k (5 * w * n) (repeat (row b counts scope) n) (repeat (row c counts scope) n)
  rows_alike counts scope w n narrow = repeat_alike (λ before. row_alike counts scope before w narrow) n

  pub table_alike : (counts : List ℕ) (before : List Table) → Alike k 20534 (table b counts before) (table c counts before)
  table_alike counts before =
      then_alike (ranged_alike 4 1 8)
      (λ p w q few. then_alike (wider 40 (omega (arith, ranged_within b 4 1 8 p w q few)) (scope_alike (length counts) w))
      (λ r scope s read. then_alike (ranged_alike 10 0 512)
      (λ t n u low. given_alike (leb (rows_in before + n) 4096) (TooManyRows t)
      (then_alike
      (wider 20480 (omega (arith, ranged_within b 10 0 512 t n u low))
      (rows_alike counts scope 8 n (omega (arith, ranged_within b 4 1 8 p w q few, repeat-length (setting b (length counts)) w r scope s read))))
      (λ _ rows _ _. got_alike (record { scope = scope; rows = rows }))))))

  pub tables_alike : (counts : List ℕ) (n : ℕ) → Alike k (20534 * n) (repeat (table b counts) n) (repeat (table c counts) n)
  tables_alike counts = repeat_alike (table_alike counts)

  pub body_alike : Alike k 328755 (body b) (body c)
  body_alike =
      then_alike header_alike
      (λ _ counts _ _. then_alike (ranged_alike 5 1 16)
      (λ p n q few. then_alike (wider 328544 (omega (arith, ranged_within b 5 1 16 p n q few)) (tables_alike counts n))
      (λ _ tables _ _. got_alike (record { counts = counts; tables = tables }))))

  -- whatever follows is no padding where more than a byte does
  unpadded : (q : ℕ) → q + 8 ≤ k → padded c q ≡ padded b q
  unpadded q h = grind (arith, nat_tests, front.long_b, front.long_c)

  -- the end of a reading: names and padding
  abbrev ended : List ℕ → Plan → ℕ → Read Plan
  ended b p q = given (all_named (length p.counts) p.tables) (Unnamed q) (given (padded b q) (NotPadded q) (got p q))

  read_alike : 328763 ≤ k → (body c 0 then ended c) ≡ (body b 0 then ended b)
  read_alike l =
      ap (λ (r : Read Plan). r then ended c) (body_alike.same 0 (omega arith))
      ∙ then_same (body b 0) (ended b) (ended c)
      (λ p q e. ap (λ t. given (all_named (length p.counts) p.tables) (Unnamed q) (given t (NotPadded q) (got p q))) (unpadded q (omega (arith, body_alike.moves 0 p q e))))

-- the bits of the first n bytes
front-bits : (file : List ℕ) (n i : ℕ) → n ≤ length file → i < 8 * n → get_or (bits (take n file)) i 0 ≡ get_or (bits file) i 0
front-bits file n i l h =
    grind (arith, bits_at (take n file) (i / 8) (i % 8), bits_at file (i / 8) (i % 8), get_or-take n file (i / 8) 0, length-take-le n file)

cut_long : (file : List ℕ) → 65536 ≤ length file → read (take 65536 file) ≡ read file
cut_long file long =
    let front : SameFront 524288 (bits file) (bits (take 65536 file)) = record {
      long_b = omega (arith, length-bits file);
      long_c = omega (arith, length-bits (take 65536 file), length-take-le 65536 file long);
      same = λ i h. front-bits file 65536 i long h;
    } in
    read_alike front (omega arith)

pub reads_no_further : ReadsNoFurther
reads_no_further file = elim (cases_lt (length file) 65536) [ inl h ↦ ap read (take_all 65536 file (omega arith)) | inr h ↦ cut_long file h ]
