-- Readings stay in the file: they end, and are refused, at a place within it.
use Rattle.std.proofs.Common.{◌≡◌, ℕ, zero, suc, ◌+◌, ◌*◌, ◌≤◌, Bool, true, false, ◌&&◌, ltb, leb, List, [], ◌∷◌, ◌++◌, length, get_or, refl, subst, arith}
use Rattle.std.proofs.lemmas.Bool.{leb-true}
use Rattle.refusal.specs.declared.reason.Refusal.{Refusal}
use Rattle.refusal.specs.declared.reason.Refusal.TheVariants.{CutShort, OutOfRange, NotAscending, TooManyRows, Unnamed, NotPadded}
use Rattle.model.specs.Plan.{Plan, Table, rows_in}
use Rattle.model.specs.Tests.{below, all_named}
use Rattle.plan_format.specs.Bits.{bits, number_at}
use Rattle.plan_format.specs.Reading.{Read, got, refused, ◌then◌, given, repeat, may_follow, number, ranged, number_below, header, setting, row, table, body, padded, read}
use Rattle.plan_format.specs.Laws.{Placed, RefusalsPlaced}
use Rattle.plan_format.proofs.BitLaws.{length-bits}

-- what a reading of the file gives: it ends within the file, or its refusal has a place there
abbrev Within : {A : Type 0} → List ℕ → Read A → Type 0
Within file (got a q) = q ≤ 8 * length file
Within file (refused e) = Placed file e

-- a reading that stays in the file wherever it begins there
record Stays {A : Type 0} (file : List ℕ) (reading : ℕ → Read A) : Type 0 where
  at : (p : ℕ) → p ≤ 8 * length file → Within file (reading p)

then_within : {A B : Type 0} (file : List ℕ) (r : Read A) (next : A → ℕ → Read B)
    → Within file r → ((a : A) (q : ℕ) → q ≤ 8 * length file → Within file (next a q)) → Within file (r then next)
then_within file (got a q) next h k = k a q h
then_within file (refused e) next h k = h

given_within : {A : Type 0} (file : List ℕ) (test : Bool) (why : Refusal) (r : Read A) → Placed file why → Within file r → Within file (given test why r)
given_within file true why r p h = h
given_within file false why r p h = p

module _ {file : List ℕ} where
  got_stays : {A : Type 0} (a : A) → Stays file (got a)
  got_stays a = record { at = λ p i. i }

  then_stays : {A B : Type 0} {reading : ℕ → Read A} {next : ℕ → A → ℕ → Read B}
      → Stays file reading → ((p : ℕ) (a : A) → p ≤ 8 * length file → Stays file (next p a)) → Stays file (λ p. reading p then next p)
  then_stays {A} {B} {reading} {next} s n = record { at = λ p i. then_within file (reading p) (next p) (s.at p i) (λ a q j. (n p a i).at q j) }

  -- a test, refused with a place in the file
  given_stays : {A : Type 0} {reading : ℕ → Read A} (test : Bool) (why : Refusal) → Placed file why → Stays file reading → Stays file (λ p. given test why (reading p))
  given_stays {A} {reading} test why h s = record { at = λ p i. given_within file test why (reading p) h (s.at p i) }

  -- a test of what was read, refused at the place where it began
  tested_stays : {A : Type 0} {reading : ℕ → Read A} (test : A → Bool) (why : ℕ → Refusal) → ((p : ℕ) → p ≤ 8 * length file → Placed file (why p)) → Stays file reading
      → Stays file (λ p. reading p then λ a q. given (test a) (why p) (got a q))
  tested_stays test why h s = then_stays s (λ p a i. given_stays (test a) (why p) (h p i) (got_stays a))

  repeat_stays : {A : Type 0} {one : List A → ℕ → Read A} → ((xs : List A) → Stays file (one xs)) → (n : ℕ) → Stays file (repeat one n)
  repeat_stays s zero = got_stays []
  repeat_stays s (suc n) = then_stays (repeat_stays s n) (λ _ xs _. then_stays (s xs) (λ _ x _. got_stays (xs ++ x ∷ [])))

module _ (file : List ℕ) where
  number_stays : (w : ℕ) → Stays file (number (bits file) w)
  number_stays w = record { at = λ p i. by p i (leb (p + w) (length (bits file))) refl }
    where
      by : (p : ℕ) → p ≤ 8 * length file → (t : Bool) → leb (p + w) (length (bits file)) ≡ t → Within file (given t (CutShort p) (got (number_at (bits file) p w) (p + w)))
      by p i true e = omega (arith, leb-true (p + w) (length (bits file)) e, length-bits file)
      by p i false e = search arith

  ranged_stays : (w lo hi : ℕ) → Stays file (ranged (bits file) w lo hi)
  ranged_stays w lo hi = tested_stays (λ v. leb lo v && leb v hi) OutOfRange (λ p i. search arith) (number_stays w)

  below_stays : (n : ℕ) → Stays file (number_below (bits file) n)
  below_stays n = tested_stays (λ v. ltb v n) OutOfRange (λ p i. search arith) (number_stays 5)

  header_stays : Stays file (header (bits file))
  header_stays = then_stays (ranged_stays 8 1 1) (λ _ _ _. then_stays (ranged_stays 6 1 32) (λ _ n _. repeat_stays (λ _. ranged_stays 6 1 32) n))

  setting_stays : (n : ℕ) (before : List ℕ) → Stays file (setting (bits file) n before)
  setting_stays n before = tested_stays (may_follow ltb before) NotAscending (λ p i. search arith) (below_stays n)

  row_stays : (counts scope : List ℕ) (before : List (List ℕ)) → Stays file (row (bits file) counts scope before)
  row_stays counts scope before =
      tested_stays (may_follow below before) NotAscending (λ p i. search arith) (repeat_stays (λ vs. below_stays (get_or counts (get_or scope (length vs) 0) 0)) (length scope))

  table_stays : (counts : List ℕ) (before : List Table) → Stays file (table (bits file) counts before)
  table_stays counts before =
      then_stays (ranged_stays 4 1 8)
      (λ _ w _. then_stays (repeat_stays (setting_stays (length counts)) w)
      (λ _ scope _. then_stays (ranged_stays 10 0 512)
      (λ r n i. given_stays (leb (rows_in before + n) 4096) (TooManyRows r) (search arith)
      (then_stays (repeat_stays (row_stays counts scope) n) (λ _ rows _. got_stays (record { scope = scope; rows = rows }))))))

  body_stays : Stays file (body (bits file))
  body_stays =
      then_stays header_stays
      (λ _ counts _. then_stays (ranged_stays 5 1 16)
      (λ _ n _. then_stays (repeat_stays (table_stays counts) n) (λ _ tables _. got_stays (record { counts = counts; tables = tables }))))

  read_stays : Within file (read file)
  read_stays =
      then_within file (body (bits file) 0) _ (body_stays.at 0 (omega arith))
      (λ p q i. given_within file (all_named (length p.counts) p.tables) (Unnamed q) _ (search arith)
      (given_within file (padded (bits file) q) (NotPadded q) (got p q) (search arith) i))

pub refusals_placed : RefusalsPlaced
refusals_placed file e h = subst (λ (r : Read Plan). Within file r) h (read_stays file)
