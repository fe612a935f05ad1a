use Rattle.std.proofs.Common.{◌≡◌, ◌*◌, length, Ok, sum, sym, ap, ◌∙◌}
use Rattle.std.proofs.lemmas.Result.{err_from_is_err_and}
use Rattle.model.specs.Plan.{row_count, value_count}
use Rattle.plan_reader.specs.Checking.{numbers_of, answer}
use Rattle.plan_reader.proofs.FileLaws.{body_stops, read_unnamed, read_unpadded, read_got}
use Rattle.plan_reader.proofs.checking.judge.Goals as goal

pub returns-in_err-plan : goal.returns-in_err-plan
returns-in_err-plan c =
    let from = c.new-reader.ensures in
    let x = err_from_is_err_and c.from_residual.result c.from_residual.ensures.1 in
    let e = body_stops c.args.file.now c.new-reader.result c.body.new.self _ from.front from.place c.in_err-plan.ensures in
    rw (x.1, x.2) (sym (ap (answer numbers_of) e))

pub returns-then-not-has_all : goal.returns-then-not-has_all
returns-then-not-has_all c =
    let from = c.new-reader.ensures in
    let n = c.len.ensures in
    let e = read_unnamed c.args.file.now c.new-reader.result c.body.new.self c.in_ok-plan.plan from.front from.place c.in_ok-plan.ensures c.len.result n.len n.few c.if-not-has_all.ensures in
    rw c.place.ensures (sym (ap (answer numbers_of) e))

pub returns-then-not-is_padded : goal.returns-then-not-is_padded
returns-then-not-is_padded c =
    let from = c.new-reader.ensures in
    let n = c.len.ensures in
    let e = read_unpadded c.args.file.now c.new-reader.result c.body.new.self c.in_ok-plan.plan from.front from.place c.in_ok-plan.ensures c.len.result n.len n.few c.if-not-has_all.ensures c.if-not-is_padded.ensures in
    rw c.place-then-not-is_padded.ensures (sym (ap (answer numbers_of) e))

pub returns : goal.returns
returns c =
    let from = c.new-reader.ensures in
    let n = c.len.ensures in
    let k = c.in_ok-plan.ensures in
    let p = k.reads.0 in
    let head = k.reads.2 in
    let e = read_got c.args.file.now c.new-reader.result c.body.new.self c.in_ok-plan.plan from.front from.place k c.len.result n.len n.few c.if-not-has_all.ensures c.if-not-is_padded.ensures in
    let settings : c.from.result ≡ length p.counts = c.from.ensures ∙ c.len-2.ensures.len ∙ ap length head.counts in
    let tables : c.from-2.result ≡ length p.tables = c.from-2.ensures ∙ head.tables in
    let rows : c.from-rows.result ≡ row_count p = c.from-rows.ensures ∙ head.rows in
    let values : c.sum.result ≡ value_count p = c.sum.ensures ∙ ap sum head.counts in
    (λ i. Ok (record { settings = settings i; tables = tables i; rows = rows i; values = values i; cells = 8 * rows i })) ∙ sym (ap (answer numbers_of) e)
