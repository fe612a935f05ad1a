use Rattle.std.proofs.Common.{◌≡◌, ℕ, ◌<◌, ◌≤◌, false, get_or, Some, None, Option, MatchOption, sym, ◌∙◌, inl, inr, rules, arith}
use Rattle.std.proofs.lemmas.Bool.{cases_lt, lt-ltb, le-ltb}
use Rattle.std.proofs.lemmas.Bool.Decides.{nat_tests}
use Rattle.std.proofs.lemmas.Iterator.{first_from_Range}
use Rattle.roll.specs.Meaning.{first_at, stands_at}
use Rattle.roll.proofs.First.{lowest_is, none_is}
use Rattle.ordered_roll.specs.Ordered.{meaning_of}
use Rattle.ordered_roll.specs.declared.ordered.OrderedRoll.{OrderedRoll}
use Rattle.ordered_roll.proofs.PlaceLaws.{marks_at, marks_past}
use Rattle.ordered_roll.proofs.ordered.kind.OrderedRollRoll.first_from.Goals as goal

out : (p : OrderedRoll) (k : ℕ) → k < p.size → p.count ≤ get_or p.lists.place k 0 → stands_at (meaning_of p) k ≡ false
out p k l b = marks_at p.lists.place p.count p.size k l ∙ le-ltb (get_or p.lists.place k 0) p.count b

-- what a search of the numbers from a on finds, those with a place in front, is the first that stands
found : (p : OrderedRoll) (a : ℕ) (r : Option ℕ)
    → MatchOption r ((k : ℕ) → a ≤ k → k < p.size → p.count ≤ get_or p.lists.place k 0)
    (λ i. (a ≤ i) × (i < p.size) × (get_or p.lists.place i 0 < p.count) × ((k : ℕ) → a ≤ k → k < i → p.count ≤ get_or p.lists.place k 0))
    → r ≡ first_at (meaning_of p) a
found p a None h =
    sym (none_is (meaning_of p) a (λ k b.
    elim (cases_lt k p.size) [
      | inl l ↦ out p k l (h k b l)
      | inr l ↦ marks_past p.lists.place p.count p.size k l
    ]))
found p a (Some i) h =
    sym (lowest_is (meaning_of p) a i (record {
      from = h.0;
      here = marks_at p.lists.place p.count p.size i h.1 ∙ lt-ltb (get_or p.lists.place i 0) p.count h.2;
      before = λ k b l. out p k (omega (arith, h.1)) (h.3 k b l);
    }))

pub returns : goal.returns
returns c =
    let p = c.args.self.now in
    let place = p.lists.place in
    found p c.args.place c.find.result
    (first_from_Range _ _ _ _ (λ k. get_or place k 0 < p.count) (λ k. p.count ≤ get_or place k 0) c.find.ensures.ran (λ x q k. grind (arith, nat_tests)) (λ x q k. (search rules, grind (arith, nat_tests))))
