-- What is true of the meaning of every ordered roll. It stands among the definitions, since the law of the kind cites it.
use Rattle.std.specs.Prelude.{◌≡◌, ℕ, zero, suc, List, length, slice_index, refl}
use Rattle.std.proofs.Common.{sym, ap, subst, arith}
use Rattle.roll.specs.Meaning.{Sized, Sound}
use Rattle.roll.proofs.Marks.{length-made}
use Rattle.ordered_roll.specs.Places.{front, marks_of, saves_of}
use Rattle.ordered_roll.specs.Ordered.{meaning_of}
use Rattle.ordered_roll.specs.declared.ordered.OrderedRoll.{OrderedRoll}

pub length_marks : (place : List ℕ) (c n : ℕ) → length (marks_of place c n) ≡ n
length_marks place c n = length-made (front place c) n

pub length_saves : (place counts : List ℕ) (n K : ℕ) → length (saves_of place counts n K) ≡ K
length_saves place counts n zero = refl
length_saves place counts n (suc K) = ap suc (length_saves place counts n K)

pub sized_saves : (place counts : List ℕ) (n K : ℕ) → Sized n (saves_of place counts n K)
sized_saves place counts n zero = tt
sized_saves place counts n (suc K) = (length_marks place (slice_index counts K) n, sized_saves place counts n K)

pub sound_of : (p : OrderedRoll) → Sound 1024 (meaning_of p)
sound_of p =
    let e : length (marks_of p.lists.place p.count p.size) ≡ p.size = length_marks p.lists.place p.count p.size in
    let z = length_saves p.lists.place p.notes.counts p.size p.kept in
    let P : ℕ → Type 0 = λ x. Sized x (saves_of p.lists.place p.notes.counts p.size p.kept) in
    record { fits = omega arith; sized = subst P (sym e) (sized_saves p.lists.place p.notes.counts p.size p.kept); few = omega arith }
