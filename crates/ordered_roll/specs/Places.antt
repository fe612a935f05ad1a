-- Which numbers stand, by their places in a list: those in front.
use Rattle.std.specs.Prelude.{◌≡◌, ℕ, zero, suc, ◌<◌, Bool, List, [], ◌∷◌, map, nat_lt, slice_index, slice_set}
use Rattle.std.specs.List.{range_with_len}
use Rattle.roll.specs.Meaning.{Marks}

-- whether the place of k is among the first c
abbrev pub front : List ℕ → ℕ → ℕ → Bool
front place c k = nat_lt (slice_index place k) c

-- the marks of the numbers below n, those at the first c places standing
abbrev pub marks_of : List ℕ → ℕ → ℕ → Marks
marks_of place c n = map (front place c) (range_with_len 0 n)

-- the marks at each of K saves kept, the newest first: for each save it is noted how many stood
abbrev pub saves_of : (place counts : List ℕ) → ℕ → ℕ → List Marks
saves_of place counts n zero = []
saves_of place counts n (suc K) = marks_of place (slice_index counts K) n ∷ saves_of place counts n K

-- ys leads back from where xs leads, below n
abbrev pub Inverse : ℕ → (xs ys : List ℕ) → Type 0
Inverse n xs ys = (k : ℕ) → k < n → (slice_index xs k < n) × (slice_index ys (slice_index xs k) ≡ k)

-- k moved to the place q, and the number that was there to the place of k
abbrev pub list_after : (list place : List ℕ) → ℕ → ℕ → List ℕ
list_after list place k q = slice_set (slice_set list (slice_index place k) (slice_index list q)) q k

abbrev pub place_after : (list place : List ℕ) → ℕ → ℕ → List ℕ
place_after list place k q = slice_set (slice_set place (slice_index list q) (slice_index place k)) k q
