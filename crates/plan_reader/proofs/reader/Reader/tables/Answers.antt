use Rattle.std.proofs.Common.{◌≡◌, ℕ, ◌<◌, ◌||◌, eqb, List, [], ◌∷◌, ◌++◌, sym, ap, ◌∙◌, arith}
use Rattle.std.proofs.lemmas.Result.{err_from_is_err_and}
use Rattle.model.specs.Plan.{Table}
use Rattle.model.specs.Tests.{names}
use Rattle.std.specs.List.{list_any}
use Rattle.plan_format.proofs.Chains.{rows_push}
use Rattle.plan_reader.specs.Marks.{marked, Marks}
use Rattle.plan_reader.specs.declared.named.Named.{Named}
use Rattle.plan_reader.proofs.MarkLaws.{any_push}
use Rattle.plan_reader.proofs.ReadLaws.{next_reads, next_stops, none_kept, none_read, kept_read}
use Rattle.plan_reader.proofs.reader.Reader.tables.Goals as goal

-- one table's settings marked too
marks_more : (old new : Named) (ts : List Table) (t : Table) (part scope : List ℕ) → Marks old ts → part ≡ scope → scope ≡ t.scope
    → ((s : ℕ) → s < 32 → marked new s ≡ (marked old s || list_any (eqb s) part)) → Marks new (ts ++ t ∷ [])
marks_more old new ts t part scope m e f h s l =
    h s l ∙ ap (λ b. b || list_any (eqb s) part) (m s l) ∙ ap (λ (xs : List ℕ). list_any (names s) ts || list_any (eqb s) xs) (e ∙ f) ∙ sym (any_push (names s) ts t)

pub returns-in_err-table : goal.returns-in_err-table
returns-in_err-table c =
    let i = c.loop.invariant in
    let x = err_from_is_err_and c.from_residual.result c.from_residual.ensures.1 in
    let t = none_read _ c.loop.self c.table.new.self _ _ (c.in_err-table.ensures.keeps i.0 (sym i.3)) in
    rw (x.1, x.2) (none_kept _ _ _ _ _ (next_stops _ c.args.self.now c.loop.self c.loop.counter i.0 i.1 c.table.new.self _ t c.args.count (omega arith)))

pub overflow_add-rows : goal.overflow_add-rows
overflow_add-rows c = omega (arith, c.in_ok-table.ensures.few)

pub loop-preserved : goal.loop-preserved
loop-preserved c =
    let i = c.loop.invariant in
    let k = c.in_ok-table.ensures.keeps i.0 (sym i.3) in
    let t = k.reads.0 in
    let head = k.reads.2 in
    let scope = c.in_ok-table.table.scope in (
      i.0 ++ t ∷ [],
      next_reads _ c.args.self.now c.loop.self c.loop.counter i.0 i.1 c.table.new.self t (kept_read _ c.loop.self c.table.new.self _ _ k),
      marks_more c.loop.named c.add.new.self i.0 t c.as_slice.result.now scope i.2 c.as_slice.ensures.items head.scope c.add.ensures,
      omega (arith, rows_push i.0 t, i.3, head.rows),
      omega (arith, c.in_ok-table.ensures.few),
    )
