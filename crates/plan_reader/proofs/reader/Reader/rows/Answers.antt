use Rattle.std.proofs.Common.{[], ◌∷◌, ◌++◌, arith}
use Rattle.std.proofs.lemmas.Result.{err_from_is_err_and}
use Rattle.model.specs.Tests.{below}
use Rattle.plan_format.proofs.Chains.{follow_last}
use Rattle.plan_reader.proofs.ReadLaws.{read_length, next_reads, next_stops, all_kept, none_kept}
use Rattle.plan_reader.proofs.reader.Reader.rows.Goals as goal

pub returns-in_err-row : goal.returns-in_err-row
returns-in_err-row c =
    let i = c.loop.invariant in
    let x = err_from_is_err_and c.from_residual.result c.from_residual.ensures.1 in
    let t = next_stops _ c.args.self.now c.loop.self c.loop.counter i.0 i.1 c.row.new.self _ (c.in_err-row.ensures i.0 i.2) c.args.count (omega arith) in
    rw (x.1, x.2) (none_kept _ _ _ _ _ t)

pub loop-preserved : goal.loop-preserved
loop-preserved c =
    let i = c.loop.invariant in
    let row = c.in_ok-row.row in (
      i.0 ++ row ∷ [],
      next_reads _ c.args.self.now c.loop.self c.loop.counter i.0 i.1 c.row.new.self row (c.in_ok-row.ensures i.0 i.2),
      follow_last below i.0 row,
    )

pub returns : goal.returns
returns c =
    let i = c.loop.invariant in
    let l = read_length _ c.args.self.now c.loop.self c.loop.counter i.0 i.1 in
    all_kept _ c.args.self.now c.loop.self c.loop.counter i.0 i.1 _ (tt {0}) (omega arith) c.args.count (omega arith)
