-- Two numbers exchange their places.
use Rattle.std.specs.Prelude.{◌≡◌, ℕ, suc, ◌<◌, ◌≤◌, false, ◌≢◌, List, length, slice_index, slice_index_or, slice_set}
use Rattle.std.proofs.Common.{arith}
use Rattle.std.proofs.lemmas.List.{get_or-set_same, get_or-set_other, length-set}
use Rattle.std.proofs.lemmas.Grind.{common_steps}
use Rattle.std.proofs.lemmas.Bool.Decides.{nat_tests}
use Rattle.roll.proofs.Marks.{made_same, made-set}
use Rattle.ordered_roll.specs.Places.{front, marks_of, Inverse}

-- xs leads from a to c and from b to d, and ys leads back; n bounds all four
pub record Pair (xs ys : List ℕ) (n a b c d : ℕ) : Type 0 where
  pub a< : a < n
  pub b< : b < n
  pub c< : c < n
  pub d< : d < n
  pub from_a : slice_index_or xs a 0 ≡ c
  pub from_b : slice_index_or xs b 0 ≡ d
  pub from_c : slice_index_or ys c 0 ≡ a
  pub from_d : slice_index_or ys d 0 ≡ b
  pub long : (n ≤ length xs) × (n ≤ length ys)

-- seen from the other side
pub mirrored : (xs ys : List ℕ) (n a b c d : ℕ) → Pair xs ys n a b c d → Pair ys xs n d c b a
mirrored xs ys n a b c d s = record
    { a< = s.d<; b< = s.c<; c< = s.b<; d< = s.a<; from_a = s.from_d; from_b = s.from_c; from_c = s.from_b; from_d = s.from_a; long = (s.long.1, s.long.0) }

-- a leads to d now, and b to c
abbrev pub swapped : (xs : List ℕ) (a b c d : ℕ) → List ℕ
swapped xs a b c d = slice_set (slice_set xs b c) a d

-- the two lists stay inverse
pub inverse_swapped : (xs ys : List ℕ) (n a b c d : ℕ) → Pair xs ys n a b c d → Inverse n xs ys → Inverse n (swapped xs a b c d) (swapped ys d c b a)
inverse_swapped xs ys n a b c d s h k l =
    let m = h k l in
    grind (arith, get_or-set_same, get_or-set_other, length-set)

-- k is at the place p, and the last number that stands, o, at the place q
module _ (list place : List ℕ) (n k o p q : ℕ) (s : Pair place list n k o p q) (l : p ≤ q) where
  -- counts above q see no change
  front_above : (c j : ℕ) → q < c → front (swapped place k o p q) c j ≡ front place c j
  front_above c j h = let q = s.long in grind (arith, common_steps, nat_tests)

  -- the count q sees k no more, and the others as the count q + 1 saw them
  front_k : front (swapped place k o p q) q k ≡ false
  front_k = let q = s.long in grind (arith, common_steps, nat_tests)

  front_others : (j : ℕ) → slice_index list (slice_index place j) ≡ j → j ≢ k → front (swapped place k o p q) q j ≡ front place (suc q) j
  front_others j back e = let q = s.long in grind (arith, common_steps, nat_tests)

  pub marks_above : (c : ℕ) → q < c → marks_of (swapped place k o p q) c n ≡ marks_of place c n
  marks_above c h = made_same (front (swapped place k o p q) c) (front place c) n (λ j b. front_above c j h)

  pub marks_struck : Inverse n place list → marks_of (swapped place k o p q) q n ≡ slice_set (marks_of place (suc q) n) k false
  marks_struck h = made-set (front (swapped place k o p q) q) (front place (suc q)) n k front_k (λ j b e. front_others j (h j b).1 e)
