use Rattle.std.proofs.Common.{◌≡◌, ◌+◌, ◌||◌, eqb, get_or, drop, sym, ap, ◌∙◌, arith}
use Rattle.std.proofs.lemmas.List.{at_drop_more, at_drop_all}
use Rattle.std.specs.List.{list_any}
use Rattle.plan_reader.specs.Marks.{marked}
use Rattle.std.proofs.Math.Bool.{or-false, or_assoc}
use Rattle.plan_reader.proofs.named.Named.add.Goals as goal

pub loop-setting-preserved : goal.loop-setting-preserved
loop-setting-preserved c s h =
    let xs = c.args.scope.now in
    let k = c.loop-setting.setting-index in
    let rest = list_any (eqb s) (drop (k + 1) xs) in
    let d : list_any (eqb s) (drop k xs) ≡ (eqb s (get_or xs k 0) || rest) = at_drop_more (list_any (eqb s)) xs k 0 (omega arith) in
    ap (λ m. m || rest) (c.mark.ensures s h)
    ∙ or_assoc (marked c.loop-setting.self s) (eqb s (get_or xs k 0)) rest
    ∙ ap (λ r. marked c.loop-setting.self s || r) (sym d)
    ∙ c.loop-setting.invariant s h

pub returns : goal.returns
returns c s h =
    let d = at_drop_all (list_any (eqb s)) c.args.scope.now c.loop-setting.setting-index (omega arith) in
    sym (or-false (marked c.loop-setting.self s)) ∙ ap (λ r. marked c.loop-setting.self s || r) (sym d) ∙ c.loop-setting.invariant s h
