use Rattle.plan_format.specs.File.{spell_plan}
use Rattle.plan_format.proofs.Unique.{two_plan, filled, bits_bytes, same_bits}
use Rattle.plan_format.proofs.has_one_file.Goals as goal

pub returns : goal.returns
returns c p =
    let f = filled (spell_plan p) (two_plan p) in
    (f.0, f.1, f.2, (λ other y g. bits_bytes other f.0 y f.1 (same_bits (spell_plan p) other f.0 g.0 f.2.0 g.1 f.2.1 g.2 f.2.2)))
