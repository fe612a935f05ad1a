use Rattle.std.proofs.Common.{sym, arith}
use Rattle.packed_roll.proofs.Strike.{standing, cleared, counted_struck, tallied_struck, means_struck}
use Rattle.packed_roll.proofs.packed.kind.PackedRollRoll.strike.Goals as goal

pub bounds-self-k : goal.bounds-self-k
bounds-self-k c = let s = (standing c.args.self.now c.args.k (sym c.if-not-stands.ensures)).most in omega arith

pub note-requires-clause-word : goal.note-requires-clause-word
note-requires-clause-word c = let s = (standing c.args.self.now c.args.k (sym c.if-not-stands.ensures)).most in omega arith

pub clear-requires : goal.clear-requires
clear-requires c = let s = (standing c.args.self.now c.args.k (sym c.if-not-stands.ensures)).most in omega arith

pub overflow_sub-self : goal.overflow_sub-self
overflow_sub-self c =
    let p = c.args.self.now in
    let n = counted_struck p c.args.k (standing p c.args.k (sym c.if-not-stands.ensures)) in
    omega arith

pub invariant_of-self : goal.invariant_of-self
invariant_of-self c =
    let p = c.args.self.now in
    let k = c.args.k in
    let s = standing p k (sym c.if-not-stands.ensures) in
    record {
      few = p.few;
      few_saves = p.few_saves;
      now = rw c.clear.ensures (record { clear = cleared p k s; counted = let n = counted_struck p k s in omega arith });
      at_saves = rw (c.clear.ensures, c.note.ensures.noted) (tallied_struck p k s (omega arith) c.note.ensures.within);
    }

pub returns-clause-after : goal.returns-clause-after
returns-clause-after c =
    let p = c.args.self.now in
    let s = standing p c.args.k (sym c.if-not-stands.ensures) in
    rw (c.clear.ensures, c.note.ensures.noted) (means_struck p c.args.k s (omega arith) c.note.ensures.within)
