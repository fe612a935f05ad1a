use Rattle.std.proofs.Common.{◌≤◌, length, sym, arith}
use Rattle.ordered_roll.proofs.Strike.{standing, placed_struck, listed_struck, counted_struck, saves_struck, means_struck}
use Rattle.ordered_roll.proofs.ordered.kind.OrderedRollRoll.strike.Goals as goal

pub overflow_cast-k : goal.overflow_cast-k
overflow_cast-k c = let s = standing c.args.self.now c.args.k (sym c.if-not-stands.ensures) in record { fits = omega arith }

pub overflow_sub-self : goal.overflow_sub-self
overflow_sub-self c = let s = standing c.args.self.now c.args.k (sym c.if-not-stands.ensures) in omega arith

pub exchange-requires : goal.exchange-requires
exchange-requires c =
    let s = standing c.args.self.now c.args.k (sym c.if-not-stands.ensures) in
    record { number = omega arith; place = omega arith; place_of_number = omega arith; number_at_place = omega arith }

pub overflow_sub-self-2 : goal.overflow_sub-self-2
overflow_sub-self-2 c = let s = standing c.args.self.now c.args.k (sym c.if-not-stands.ensures) in omega arith

pub invariant_of-self : goal.invariant_of-self
invariant_of-self c =
    let p = c.args.self.now in
    let s = standing p c.args.k (sym c.if-not-stands.ensures) in
    let long : (p.size ≤ length p.lists.place) × (p.size ≤ length p.lists.list) = (omega arith, omega arith) in
    let e = c.exchange.ensures in
    record {
      fits = p.fits;
      few = p.few;
      within = omega arith;
      placed = rw (e.place, e.list) (placed_struck p c.args.k s long);
      listed = rw (e.place, e.list) (listed_struck p c.args.k s long);
      counted = rw e.place (let n = counted_struck p c.args.k s long in omega arith);
      falling = p.falling;
      fewer = λ i l. let f = p.fewer i l in (omega arith, f.1);
      saves_counted = λ i l. rw e.place (saves_struck p c.args.k s long i l);
    }

pub returns-clause-after : goal.returns-clause-after
returns-clause-after c =
    let p = c.args.self.now in
    let s = standing p c.args.k (sym c.if-not-stands.ensures) in
    rw c.exchange.ensures.place (means_struck p c.args.k s (omega arith, omega arith))
