use Rattle.std.proofs.Common.{◌≡◌, ◌+◌, ◌-◌, ◌∷◌, set, refl, ◌∙◌, arith}
use Rattle.std.proofs.Math.Numerals.{add-one}
use Rattle.roll.proofs.Calls.{save_done}
use Rattle.packed_roll.specs.Packed.{meaning_of}
use Rattle.packed_roll.specs.Trail.{save_at, saves_of}
use Rattle.packed_roll.specs.Words.{word_in}
use Rattle.packed_roll.specs.declared.packed.PackedRoll.{PackedRoll}
use Rattle.packed_roll.specs.declared.trail.Save.{Save}
use Rattle.packed_roll.proofs.TrailLaws.{saves_saved, tallied_saved}
use Rattle.packed_roll.proofs.packed.kind.PackedRollRoll.save.Goals as goal

-- the save that is put at the next place
abbrev fresh : PackedRoll → Save
fresh p = record (save_at p.trail.saves p.kept) { noted = 0; count = p.count }

pub invariant_of-self : goal.invariant_of-self
invariant_of-self c =
    let p = c.args.self.now in
    record {
      few = p.few;
      few_saves = omega arith;
      now = p.now;
      at_saves = rw add-one (tallied_saved p.trail.saves p.kept (fresh p) (word_in p.words.bits) p.size (omega arith) refl p.now p.at_saves);
    }

pub returns-clause-after : goal.returns-clause-after
returns-clause-after c =
    let p = c.args.self.now in
    let m = meaning_of p in
    let saves : saves_of (set p.trail.saves p.kept (fresh p)) p.size (word_in p.words.bits) (p.kept + 1) ≡ m.marks ∷ m.saves
    = rw add-one (saves_saved p.trail.saves p.kept (fresh p) (word_in p.words.bits) p.size (omega arith) refl) in
    let free : 32 - (p.kept + 1) ≡ 32 - p.kept - 1 = omega arith in
    (λ i. record { marks = m.marks; saves = saves i; free = free i }) ∙ (save_done m (omega arith)).after
