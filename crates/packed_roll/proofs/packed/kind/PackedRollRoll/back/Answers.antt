use Rattle.std.proofs.Common.{◌≡◌, ℕ, suc, ◌+◌, ◌-◌, ◌∙◌, ap, arith}
use Rattle.std.proofs.lemmas.List.{set-get_or}
use Rattle.roll.proofs.Calls.{back_done}
use Rattle.packed_roll.specs.Packed.{meaning_of}
use Rattle.packed_roll.specs.Trail.{saves_of}
use Rattle.packed_roll.specs.Words.{marks_of, word_in}
use Rattle.packed_roll.proofs.TrailLaws.{tallied_newest, tallied_older}
use Rattle.packed_roll.proofs.packed.kind.PackedRollRoll.back.Goals as goal

pub invariant_of-self : goal.invariant_of-self
invariant_of-self c =
    let p = c.args.self.now in
    let K : ℕ = p.kept - 1 in
    let saves = p.trail.saves in
    let f = word_in p.words.bits in
    let n : p.kept ≡ suc K = let t = c.if-self-eq0.false in omega arith in
    let at = rw n at p.at_saves in
    record {
      few = p.few;
      few_saves = omega arith;
      now = rw c.restore.ensures (tallied_newest saves f p.size K at);
      at_saves = rw (c.restore.ensures, set-get_or saves K _) (λ i l. tallied_older saves f p.size K at i (omega arith));
    }

pub returns-clause-after : goal.returns-clause-after
returns-clause-after c =
    let p = c.args.self.now in
    let K : ℕ = p.kept - 1 in
    let saves = p.trail.saves in
    let f = word_in p.words.bits in
    let n : p.kept ≡ suc K = let t = c.if-self-eq0.false in omega arith in
    let words = c.restore.ensures in
    let free : 32 - K ≡ 32 - p.kept + 1 = omega arith in
    let same = set-get_or saves K _ in
    (λ i. record { marks = marks_of (words i) p.size; saves = saves_of (same i) p.size (words i) K; free = free i })
    ∙ (back_done (meaning_of p) _ _ (ap (saves_of saves p.size f) n)).after
