use Rattle.std.proofs.Common.{◌≡◌, ℕ, ◌<◌, ◌||◌, eqb, drop}
use Rattle.std.specs.List.{list_any}
use Rattle.plan_reader.specs.Marks.{marked}
use Rattle.plan_reader.proofs.named.Named.add.Given as goal

-- with those to come, all are marked that are to be
abbrev pub invariant-loop-setting : goal.invariant-loop-setting
invariant-loop-setting l =
    (s : ℕ) → s < 32 → (marked l.self s || list_any (eqb s) (drop l.setting-index l.scope)) ≡ (marked l.initial.self s || list_any (eqb s) l.scope)
