-- What a reading function of the code answers, as a reading of the format.
use Rattle.std.specs.Prelude.{◌≡◌, ℕ, List, Ok, Err, Result}
use Rattle.refusal.specs.declared.reason.Refusal.{Refusal}
use Rattle.plan_format.specs.Bits.{bits}
use Rattle.plan_format.specs.Reading.{Read, got, refused}
use Rattle.plan_reader.specs.declared.reader.Reader.{Reader}

-- what a reading of the format gives at the reader's place in its file
abbrev pub at : {A : Type 0} → Reader → (List ℕ → ℕ → Read A) → Read A
at reader reading = reading (bits reader.file.now) reader.place

-- the answer r, where q is the place after what was read
abbrev pub outcome : {A : Type 0} → Result A Refusal → ℕ → Read A
outcome (Ok a) q = got a q
outcome (Err e) q = refused e

-- a call that takes the reader from `before` to `after` answers r, which is what the reading gives
pub record Reads {A : Type 0} (before after : Reader) (r : Result A Refusal) (reading : List ℕ → ℕ → Read A) : Type 0 where
  pub reads : outcome r after.place ≡ at before reading
  pub same : after.file.now ≡ before.file.now

-- the answer r to a reading of which not all is kept, with the place q after it: `Kept` says what is
abbrev pub Keeping : {A B : Type 0} → (A → B → Type 0) → Result A Refusal → ℕ → Read B → Type 0
Keeping {A} {B} Kept (Ok a) q reading = (x : B) × (reading ≡ got x q) × Kept a x
Keeping Kept (Err e) q reading = reading ≡ refused e

-- the same of a call, where what it answers is kept of what the reading gives
pub record Keeps {A B : Type 0} (Kept : A → B → Type 0) (before after : Reader) (r : Result A Refusal) (reading : List ℕ → ℕ → Read B) : Type 0 where
  pub reads : Keeping Kept r after.place (at before reading)
  pub same : after.file.now ≡ before.file.now
