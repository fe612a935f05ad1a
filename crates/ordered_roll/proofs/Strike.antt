-- A strike of a number k that stands: it goes to the last place that counts.
use Rattle.std.proofs.Common.{◌≡◌, ℕ, suc, ◌-◌, ◌<◌, ◌≤◌, true, false, List, length, get_or, set, refl, sym, ap, ◌∙◌, arith}
use Rattle.std.proofs.lemmas.Bool.{ltb-true}
use Rattle.roll.specs.Meaning.{stands_at, struck, trues}
use Rattle.roll.proofs.First.{stands_below}
use Rattle.roll.proofs.Marks.{trues-set}
use Rattle.ordered_roll.specs.Ordered.{meaning_of}
use Rattle.ordered_roll.specs.Places.{marks_of, saves_of, Inverse, list_after, place_after}
use Rattle.ordered_roll.specs.Soundness.{length_marks}
use Rattle.ordered_roll.specs.declared.ordered.OrderedRoll.{OrderedRoll}
use Rattle.ordered_roll.proofs.PlaceLaws.{marks_at, saves_same}
use Rattle.ordered_roll.proofs.Exchange.{Pair, mirrored, inverse_swapped, marks_above, marks_struck}

-- k stands in the roll p: it is below the size, and in front; and so is the last number that stands
pub record Standing (p : OrderedRoll) (k : ℕ) : Type 0 where
  pub stands : stands_at (meaning_of p) k ≡ true
  pub below : k < p.size
  pub front : get_or p.lists.place k 0 < p.count
  pub size : p.size ≤ 1024
  pub count : p.count ≤ p.size
  pub other : get_or p.lists.list (p.count - 1) 0 < p.size

pub standing : (p : OrderedRoll) (k : ℕ) → stands_at (meaning_of p) k ≡ true → Standing p k
standing p k h =
    let l : k < p.size = let a = stands_below (meaning_of p) k h in let e = length_marks p.lists.place p.count p.size in omega arith in
    let f : get_or p.lists.place k 0 < p.count = ltb-true (get_or p.lists.place k 0) p.count (sym (marks_at p.lists.place p.count p.size k l) ∙ h) in
    let c : p.count ≤ p.size = p.within in
    record { stands = h; below = l; front = f; size = p.fits; count = c; other = (p.listed (p.count - 1) (omega arith)).0 }

abbrev pub new_list : OrderedRoll → ℕ → List ℕ
new_list p k = list_after p.lists.list p.lists.place k (p.count - 1)

abbrev pub new_place : OrderedRoll → ℕ → List ℕ
new_place p k = place_after p.lists.list p.lists.place k (p.count - 1)

module _ (p : OrderedRoll) (k : ℕ) (s : Standing p k) (long : (p.size ≤ length p.lists.place) × (p.size ≤ length p.lists.list)) where
  pair : Pair p.lists.place p.lists.list p.size k (get_or p.lists.list (p.count - 1) 0) (get_or p.lists.place k 0) (p.count - 1)
  pair =
      let f = s.front in
      let z = s.count in
      let d : p.count - 1 < p.size = omega arith in
      record {
        a< = s.below;
        b< = s.other;
        c< = (p.placed k s.below).0;
        d< = d;
        from_a = refl;
        from_b = (p.listed (p.count - 1) d).1;
        from_c = (p.placed k s.below).1;
        from_d = refl;
        long = long;
      }

  in_front : get_or p.lists.place k 0 ≤ p.count - 1
  in_front = let f = s.front in omega arith

  marks_now : marks_of (new_place p k) (p.count - 1) p.size ≡ set (marks_of p.lists.place p.count p.size) k false
  marks_now =
      let e : suc (p.count - 1) ≡ p.count = let f = s.front in omega arith in
      marks_struck p.lists.list p.lists.place p.size k (get_or p.lists.list (p.count - 1) 0) (get_or p.lists.place k 0) (p.count - 1) pair in_front p.placed
      ∙ ap (λ c. set (marks_of p.lists.place c p.size) k false) e

  -- at a save more counted, so nothing is seen of it there
  marks_saved : (i : ℕ) → i < p.kept → marks_of (new_place p k) (get_or p.notes.counts i 0) p.size ≡ marks_of p.lists.place (get_or p.notes.counts i 0) p.size
  marks_saved i b =
      let f = s.front in
      let g = (p.fewer i b).0 in
      marks_above p.lists.list p.lists.place p.size k (get_or p.lists.list (p.count - 1) 0) (get_or p.lists.place k 0) (p.count - 1) pair in_front (get_or p.notes.counts i 0) (omega arith)

  pub placed_struck : Inverse p.size (new_place p k) (new_list p k)
  placed_struck =
      inverse_swapped p.lists.place p.lists.list p.size k (get_or p.lists.list (p.count - 1) 0) (get_or p.lists.place k 0) (p.count - 1) pair p.placed

  pub listed_struck : Inverse p.size (new_list p k) (new_place p k)
  listed_struck =
      let o = get_or p.lists.list (p.count - 1) 0 in
      let a = get_or p.lists.place k 0 in
      inverse_swapped p.lists.list p.lists.place p.size (p.count - 1) a o k (mirrored p.lists.place p.lists.list p.size k o a (p.count - 1) pair) p.listed

  pub counted_struck : suc (trues (marks_of (new_place p k) (p.count - 1) p.size)) ≡ p.count
  counted_struck = ap (λ bs. suc (trues bs)) marks_now ∙ trues-set (marks_of p.lists.place p.count p.size) k s.stands ∙ p.counted

  pub saves_struck : (i : ℕ) → i < p.kept → trues (marks_of (new_place p k) (get_or p.notes.counts i 0) p.size) ≡ get_or p.notes.counts i 0
  saves_struck i b = ap trues (marks_saved i b) ∙ p.saves_counted i b

  pub means_struck : record {
    marks = marks_of (new_place p k) (p.count - 1) p.size;
    saves = saves_of (new_place p k) p.notes.counts p.size p.kept;
    free = 32 - p.kept;
  } ≡ struck (meaning_of p) k
  means_struck =
      λ i. record { marks = marks_now i; saves = saves_same p.lists.place (new_place p k) p.notes.counts p.size p.kept marks_saved i; free = 32 - p.kept }
