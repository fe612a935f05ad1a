use Rattle.std.proofs.Common.{◌≡◌, ℕ, ◌+◌, ◌-◌, ◌*◌, ◌≤◌, Some, None, sym, ◌∙◌, inl, inr, arith}
use Rattle.std.proofs.lemmas.Bool.{cases_lt}
use Rattle.roll.specs.Meaning.{stands_at, first_at}
use Rattle.roll.proofs.First.{lowest_is, none_is}
use Rattle.packed_roll.specs.Packed.{meaning_of}
use Rattle.packed_roll.specs.Words.{mark, word_in}
use Rattle.packed_roll.specs.declared.packed.PackedRoll.{PackedRoll}
use Rattle.packed_roll.proofs.WordLaws.{marks_at, clear_at}
use Rattle.packed_roll.proofs.FirstLaws.{NoneBetween, FirstMark, found, passed}
use Rattle.packed_roll.proofs.packed.kind.PackedRollRoll.first_from.Goals as goal

at : (p : PackedRoll) (i : ℕ) → stands_at (meaning_of p) i ≡ mark (word_in p.words.bits) i
at p i = marks_at p.size (word_in p.words.bits) p.now.clear i

first : (p : PackedRoll) (place k : ℕ) → FirstMark (word_in p.words.bits) place k → Some k ≡ first_at (meaning_of p) place
first p place k h =
    sym (lowest_is (meaning_of p) place k (record { from = h.from; here = at p k ∙ h.here; before = λ i a b. at p i ∙ h.before i a b }))

-- none before q stands, and from q on none is below the size
none : (p : PackedRoll) (place q : ℕ) → NoneBetween (word_in p.words.bits) place q → p.size ≤ q → None ≡ first_at (meaning_of p) place
none p place q h l =
    sym (none_is (meaning_of p) place (λ i a. at p i
    ∙ elim (cases_lt i q) [ inl b ↦ h i a b | inr b ↦ clear_at p.size (word_in p.words.bits) p.now.clear i (omega arith) ]))

pub loop-w-init : goal.loop-w-init
loop-w-init c i l b = absurd (omega arith)

-- where none before the word w stands, none stands up to the bit of the place in it either
up_to : (f : ℕ → ℕ) (place w : ℕ) → NoneBetween f place (w * 64) → NoneBetween f place (w * 64 + (place - w * 64))
up_to f place w h i a b = h i a (omega arith)

pub loop-w-preserved : goal.loop-w-preserved
loop-w-preserved c =
    let f = word_in c.args.self.now.words.bits in
    let p = c.args.place in
    let w = c.loop-w.w in
    passed f p w (p - w * 64) (up_to f p w c.loop-w.invariant) (λ i l. c.in_default.ensures i (omega arith))

pub returns-in-Some : goal.returns-in-Some
returns-in-Some c =
    let f = word_in c.args.self.now.words.bits in
    let p = c.args.place in
    let w = c.loop-w.w in
    let low = rw c.saturating_sub-from.ensures at c.in-Some.ensures in
    first c.args.self.now p _ (found f p w (p - w * 64) c.in-Some.j (omega arith) (up_to f p w c.loop-w.invariant) low)

pub returns : goal.returns
returns c =
    none c.args.self.now c.args.place (c.loop-w.w * 64) c.loop-w.invariant (let s = c.args.self.now.few in omega arith)
