use Rattle.std.proofs.Common.{rules, tests, ◌≡◌, length, take, ap, ◌∙◌, arith}
use Rattle.std.proofs.lemmas.Iterator.{YieldsList-from_slice}
use Rattle.std.proofs.lemmas.Iterator.Search.{all_from_yields_List}
use Rattle.std.specs.List.{list_all}
use Rattle.plan_reader.proofs.MarkLaws.{all_marked}
use Rattle.plan_reader.proofs.named.Named.has_all.Goals as goal

pub returns : goal.returns
returns c =
    let long : length c.args.self.now.marks ≡ 32 = search rules in
    all_from_yields_List (λ mark. mark) _ _ c.all.result c.all.ensures.ran (YieldsList-from_slice _ c.iter.ensures.rest) (λ x b q k. search (rules, tests))
    ∙ ap (λ k. list_all (λ mark. mark) (take k c.args.self.now.marks)) c.from.ensures
    ∙ all_marked c.args.self.now.marks c.args.n (omega arith)
