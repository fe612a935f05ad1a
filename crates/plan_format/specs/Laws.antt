-- The laws that tie the two: exactly the plan files are read, and what is read is what they spell.
use Rattle.std.specs.Prelude.{◌≡◌, ℕ, ◌*◌, ◌<◌, ◌≤◌, List, length, take, Some}
use Rattle.std.specs.List.{All}
use Rattle.refusal.specs.declared.reason.Refusal.{Refusal}
use Rattle.refusal.specs.Refusals.{number_of, place_of}
use Rattle.model.specs.Plan.{Plan}
use Rattle.model.specs.Rules.{Valid}
use Rattle.plan_format.specs.File.{FileOf, spell_plan}
use Rattle.plan_format.specs.Reading.{got, refused, read}

-- a file is read as a plan exactly where the plan keeps the rules and the file spells it; reading ends where the plan's bits end
abbrev pub ReadsExactly : Type 0
ReadsExactly =
    (file : List ℕ) (p : Plan) (q : ℕ)
    → (read file ≡ got p q → Valid p × FileOf p file × (q ≡ length (spell_plan p)))
    × (Valid p × FileOf p file × (q ≡ length (spell_plan p)) → read file ≡ got p q)

-- a file is refused exactly where it is the file of no plan that keeps the rules
abbrev pub RefusesTheRest : Type 0
RefusesTheRest =
    (file : List ℕ)
    → ((e : Refusal) → read file ≡ refused e → (p : Plan) → Valid p → FileOf p file → ⊥)
    × (((p : Plan) → Valid p → FileOf p file → ⊥) → (e : Refusal) × (read file ≡ refused e))

-- a file is the file of at most one plan
abbrev pub OnePlan : Type 0
OnePlan = (file : List ℕ) (p r : Plan) → Valid p → Valid r → FileOf p file → FileOf r file → p ≡ r

-- a refusal of a file: its number is 1 to 6, and its bit place lies in the file or at its end
pub record Placed (file : List ℕ) (e : Refusal) : Type 0 where
  pub some : 1 ≤ number_of e
  pub few : number_of e ≤ 6
  pub place : (p : ℕ) × (place_of e ≡ Some p) × (p ≤ 8 * length file)

abbrev pub RefusalsPlaced : Type 0
RefusalsPlaced = (file : List ℕ) (e : Refusal) → read file ≡ refused e → Placed file e

-- reading looks no further than the first 65,536 bytes
abbrev pub ReadsNoFurther : Type 0
ReadsNoFurther = (file : List ℕ) → read (take 65536 file) ≡ read file

-- bytes, as a file has them
abbrev pub Bytes : List ℕ → Type 0
Bytes file = All (λ n. n < 256) file

-- a plan has exactly one file
abbrev pub OneFile : Type 0
OneFile =
    (p : Plan) → (file : List ℕ) × Bytes file × FileOf p file × ((other : List ℕ) → Bytes other → FileOf p other → other ≡ file)
