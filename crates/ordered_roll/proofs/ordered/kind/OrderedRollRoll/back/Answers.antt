use Rattle.std.proofs.Common.{◌≡◌, ℕ, ◌+◌, ◌-◌, sym, subst, arith}
use Rattle.roll.specs.Meaning.{trues}
use Rattle.ordered_roll.specs.Places.{marks_of}
use Rattle.ordered_roll.proofs.ordered.kind.OrderedRollRoll.back.Goals as goal

pub invariant_of-self : goal.invariant_of-self
invariant_of-self c =
    let p = c.args.self.now in
    let stood = c.from-self.ensures in
    let P : ℕ → Type 0 = λ n. trues (marks_of p.lists.place n p.size) ≡ n in
    record {
      fits = p.fits;
      few = omega arith;
      within = let f = p.fewer (p.kept - 1) (omega arith) in omega arith;
      placed = p.placed;
      listed = p.listed;
      counted = subst P (sym stood) (p.saves_counted (p.kept - 1) (omega arith));
      falling = λ i d l. p.falling i d (omega arith);
      fewer = λ i l.
          let e : i + (p.kept - 1 - i) ≡ p.kept - 1 = omega arith in
          let f = rw e at (p.falling i (p.kept - 1 - i) (omega arith)) in
          (omega arith, (p.fewer i (omega arith)).1);
      saves_counted = λ i l. p.saves_counted i (omega arith);
    }
