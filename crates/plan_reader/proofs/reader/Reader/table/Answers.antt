use Rattle.std.proofs.Common.{◌≡◌, ◌+◌, true, false, leb, sym, refl, arith}
use Rattle.std.proofs.lemmas.Bool.{le-leb, lt-leb}
use Rattle.std.proofs.lemmas.Result.{err_from_is_err_and}
use Rattle.model.specs.Plan.{rows_in}
use Rattle.plan_reader.specs.Heads.{HeadOf}
use Rattle.plan_reader.proofs.ReadLaws.{then_keeps, then_stops, kept_then, kept_stops, given_keeps, given_stops, last_kept}
use Rattle.plan_reader.proofs.TableLaws.{from_row_count, from_rows}
use Rattle.plan_reader.proofs.reader.Reader.table.Goals as goal

pub returns-in_err-scope-clause-keeps : goal.returns-in_err-scope-clause-keeps
returns-in_err-scope-clause-keeps c before few =
    let x = err_from_is_err_and c.from_residual-in_err-scope.result c.from_residual-in_err-scope.ensures.1 in
    rw (x.1, x.2) (then_keeps _ _ c.args.self.now c.ranged.new.self HeadOf c.in_ok-width.width c.in_ok-width.ensures c.list.new.self _
    (then_stops _ _ c.ranged.new.self c.list.new.self HeadOf _ c.in_err-scope.ensures))

pub returns-in_err-rows-clause-keeps : goal.returns-in_err-rows-clause-keeps
returns-in_err-rows-clause-keeps c before few =
    let x = err_from_is_err_and c.from_residual-in_err-rows.result c.from_residual-in_err-rows.ensures.1 in
    rw (x.1, x.2) (from_row_count HeadOf c.args.counts.now before c.args.self.now c.ranged.new.self c.list.new.self c.ranged-2.new.self _
    c.in_ok-width.width c.in_ok-width.ensures c.in_ok-scope.scope c.in_ok-scope.ensures
    (then_stops _ _ c.list.new.self c.ranged-2.new.self HeadOf _ c.in_err-rows.ensures))

pub returns-then-earlier-rows-gt4096-clause-keeps : goal.returns-then-earlier-rows-gt4096-clause-keeps
returns-then-earlier-rows-gt4096-clause-keeps c before few =
    let many : leb (rows_in before + c.in_ok-rows.rows) 4096 ≡ false = lt-leb (rows_in before + c.in_ok-rows.rows) 4096 (omega arith) in
    rw c.place-place.ensures (from_rows HeadOf c.args.counts.now before c.args.self.now c.ranged.new.self c.list.new.self c.ranged-2.new.self _
    c.in_ok-width.width c.in_ok-width.ensures c.in_ok-scope.scope c.in_ok-scope.ensures c.ranged-2.new.self c.in_ok-rows.rows c.in_ok-rows.ensures
    (given_stops c.ranged-2.new.self c.ranged-2.new.self HeadOf _ _ _ many))

pub returns-in_err-rows-2-clause-keeps : goal.returns-in_err-rows-2-clause-keeps
returns-in_err-rows-2-clause-keeps c before few =
    let x = err_from_is_err_and c.from_residual-in_err-rows-2.result c.from_residual-in_err-rows-2.ensures.1 in
    let fit : leb (rows_in before + c.in_ok-rows.rows) 4096 ≡ true = le-leb (rows_in before + c.in_ok-rows.rows) 4096 (omega arith) in
    rw (x.1, x.2) (from_rows HeadOf c.args.counts.now before c.args.self.now c.ranged.new.self c.list.new.self c.rows.new.self _
    c.in_ok-width.width c.in_ok-width.ensures c.in_ok-scope.scope c.in_ok-scope.ensures c.ranged-2.new.self c.in_ok-rows.rows c.in_ok-rows.ensures
    (given_keeps c.ranged-2.new.self c.rows.new.self HeadOf _ _ _ fit _
    (kept_stops _ _ c.ranged-2.new.self c.rows.new.self HeadOf _ _ c.in_err-rows-2.ensures)))

pub returns-clause-keeps : goal.returns-clause-keeps
returns-clause-keeps c before few =
    let fit : leb (rows_in before + c.in_ok-rows.rows) 4096 ≡ true = le-leb (rows_in before + c.in_ok-rows.rows) 4096 (omega arith) in
    from_rows HeadOf c.args.counts.now before c.args.self.now c.ranged.new.self c.list.new.self c.rows.new.self _
    c.in_ok-width.width c.in_ok-width.ensures c.in_ok-scope.scope c.in_ok-scope.ensures c.ranged-2.new.self c.in_ok-rows.rows c.in_ok-rows.ensures
    (given_keeps c.ranged-2.new.self c.rows.new.self HeadOf _ _ _ fit _
    (kept_then _ _ c.ranged-2.new.self c.rows.new.self HeadOf _ _ c.in_ok-rows-2.ensures c.rows.new.self _
    (λ rows n. last_kept c.rows.new.self HeadOf _ _ (record { scope = refl; rows = sym n }))))
