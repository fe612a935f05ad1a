use Rattle.std.proofs.Common.{get_or, sym, ap, ◌∙◌}
use Rattle.ordered_roll.proofs.listed_once.Goals as goal

pub returns : goal.returns
returns c p = record {
  no_other = λ i l. (p.listed i l).0;
  each = λ k l. (get_or p.lists.place k 0, (p.placed k l).0, (p.placed k l).1);
  not_twice = λ i j l h e. sym (p.listed i l).1 ∙ ap (λ x. get_or p.lists.place x 0) e ∙ (p.listed j h).1;
}
