-- Reading the header is exact.
use Rattle.std.proofs.Common.{◌≡◌, ℕ, ◌≤◌, List, length, get_or, sym, arith}
use Rattle.std.specs.List.{All}
use Rattle.std.proofs.lemmas.List.{get_or_past}
use Rattle.plan_format.specs.Bits.{bits}
use Rattle.plan_format.specs.Reading.{header}
use Rattle.plan_format.specs.File.{spell_header}
use Rattle.plan_format.proofs.Exactly.{Exact, exact_as, then_exact, repeat_exact, ranged_exact}

-- 1 to 32 of something
abbrev pub InCount : ℕ → Type 0
InCount n = (1 ≤ n) × (n ≤ 32)

abbrev pub GoodCounts : List ℕ → Type 0
GoodCounts counts = (1 ≤ length counts) × (length counts ≤ 32) × All InCount counts

-- the same in the order of the bits
abbrev HeaderRead : List ℕ → Type 0
HeaderRead counts = ((1 ≤ 1) × (1 ≤ 1)) × (InCount (length counts) × ((length counts ≡ length counts) × All InCount counts))

header_words : (counts : List ℕ) → (HeaderRead counts → GoodCounts counts) × (GoodCounts counts → HeaderRead counts)
header_words counts = (
  (λ h. assumption),
  (λ h. let one : 1 ≤ 1 = omega arith in assumption),
)

pub header_exact : (file : List ℕ) → Exact (bits file) (header (bits file)) GoodCounts spell_header
header_exact file =
    exact_as header_words
    (then_exact (λ _. 1) (ranged_exact file 8 1 1 (omega arith) (omega arith))
    (λ _ _ _. then_exact length (ranged_exact file 6 1 32 (omega arith) (omega arith))
    (λ _ n _. repeat_exact (λ _. ranged_exact file 6 1 32 (omega arith) (omega arith)) n)
    (λ n counts g h. sym h.0))
    (λ v counts g h. omega (arith, g.0, g.1)))

-- any value count is small
pub count_few : (counts : List ℕ) (s : ℕ) → All InCount counts → get_or counts s 0 ≤ 32
count_few counts s h = grind (arith, get_or_past {X = ℕ}, h s 0)
