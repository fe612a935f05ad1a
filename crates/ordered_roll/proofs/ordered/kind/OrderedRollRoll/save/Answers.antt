use Rattle.std.proofs.Common.{◌≡◌, ◌+◌, ◌-◌, ◌<◌, ◌∷◌, length, set, ◌∙◌, arith}
use Rattle.std.proofs.Math.Numerals.{add-one}
use Rattle.std.proofs.lemmas.Grind.{common_steps}
use Rattle.roll.proofs.Calls.{save_done}
use Rattle.ordered_roll.specs.Ordered.{meaning_of}
use Rattle.ordered_roll.specs.Places.{saves_of}
use Rattle.ordered_roll.proofs.PlaceLaws.{saves_saved}
use Rattle.ordered_roll.proofs.ordered.kind.OrderedRollRoll.save.Goals as goal

pub invariant_of-self : goal.invariant_of-self
invariant_of-self c =
    let p = c.args.self.now in
    let noted : p.kept < length p.notes.counts = omega arith in
    record {
      fits = p.fits;
      few = omega arith;
      within = p.within;
      placed = p.placed;
      listed = p.listed;
      counted = p.counted;
      falling = grind (arith, common_steps);
      fewer = grind (arith, common_steps);
      saves_counted = grind (arith, common_steps);
    }

pub returns-clause-after : goal.returns-clause-after
returns-clause-after c =
    let p = c.args.self.now in
    let m = meaning_of p in
    let saves : saves_of p.lists.place (set p.notes.counts p.kept p.count) p.size (p.kept + 1) ≡ m.marks ∷ m.saves
    = rw add-one (saves_saved p.lists.place p.notes.counts p.size p.count p.kept (omega arith)) in
    let free : 32 - (p.kept + 1) ≡ 32 - p.kept - 1 = omega arith in
    (λ i. record { marks = m.marks; saves = saves i; free = free i }) ∙ (save_done m (omega arith)).after
