use Rattle.std.proofs.Common.{arith}
use Rattle.std.proofs.lemmas.Result.{err_from_is_err_and}
use Rattle.plan_reader.proofs.ReadLaws.{read_length, next_stops}
use Rattle.plan_reader.proofs.reader.Reader.list.Goals as goal

pub push-requires : goal.push-requires
push-requires g c = omega (arith, read_length (g.I.Item.reading c.args.item.now) c.args.self.now c.loop.self c.loop.counter c.loop.list c.loop.invariant)

pub returns-in_err-one : goal.returns-in_err-one
returns-in_err-one g c =
    let x = err_from_is_err_and c.from_residual.result c.from_residual.ensures.1 in
    rw (x.1, x.2) (next_stops (g.I.Item.reading c.args.item.now) c.args.self.now c.loop.self c.loop.counter c.loop.list c.loop.invariant c.read.new.reader _ c.in_err-one.ensures c.args.n (omega arith))
