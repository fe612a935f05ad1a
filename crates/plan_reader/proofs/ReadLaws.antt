-- Readings one after another.
use Rattle.std.proofs.Common.{◌≡◌, ℕ, zero, suc, ◌+◌, ◌<◌, Bool, true, false, List, [], ◌∷◌, ◌++◌, Ok, Err, Result, length, sym, refl, ap, ◌∙◌, subst, inl, inr, add-one, arith}
use Rattle.std.proofs.lemmas.Bool.{cases_lt}
use Rattle.refusal.specs.declared.reason.Refusal.{Refusal}
use Rattle.plan_format.specs.Bits.{bits}
use Rattle.plan_format.specs.Reading.{Read, got, refused, ◌then◌, given, repeat}
use Rattle.plan_format.proofs.Parts.{repeat-length}
use Rattle.plan_reader.specs.Outcomes.{Reads, Keeping, Keeps}
use Rattle.plan_reader.specs.declared.reader.Reader.{Reader}

-- a refusal ends the readings, however many were to come
stops : {A : Type 0} (one : List A → ℕ → Read A) (n p q : ℕ) (xs : List A) (why : Refusal) → got xs q ≡ repeat one n p → refused why ≡ one xs q
    → (m : ℕ) → n < m → refused why ≡ repeat one m p
stops one n p q xs why e f zero h = absurd (let z : ⊥ = omega arith in z)
stops one n p q xs why e f (suc m) h =
    elim (cases_lt n m) [
      | inl l ↦ rw (← stops one n p q xs why e f m l) refl
      | inr l ↦ let i : m ≡ n = omega arith in rw (i, ← e, ← f) refl
    ]

-- n items xs were read by a reader that went from a to b
module _ {A : Type 0} (one : List ℕ → List A → ℕ → Read A) (a b : Reader) (n : ℕ) (xs : List A) (s : Reads a b (Ok xs) (λ bs. repeat (one bs) n)) where
  pub read_length : length xs ≡ n
  read_length = repeat-length (one (bits a.file.now)) n a.place xs b.place (sym s.reads)

  pub next_reads : (c : Reader) (x : A) → Reads b c (Ok x) (λ bs. one bs xs) → Reads a c (Ok (xs ++ x ∷ [])) (λ bs. repeat (one bs) (n + 1))
  next_reads c x t =
      let f : got x c.place ≡ one (bits a.file.now) xs b.place = t.reads ∙ ap (λ (file : List ℕ). one (bits file) xs b.place) s.same in
      record { reads = rw (add-one, ← s.reads, ← f) refl; same = t.same ∙ s.same }

  -- all items are read, and of them x is kept
  pub all_kept : {B : Type 0} (Kept : B → List A → Type 0) (x : B) → Kept x xs → (m : ℕ) → n ≡ m → Keeps Kept a b (Ok x) (λ bs. repeat (one bs) m)
  all_kept Kept x h m e = record { reads = (xs, ap (λ k. repeat (one (bits a.file.now)) k a.place) (sym e) ∙ sym s.reads, h); same = s.same }

  -- a refusal of the next item
  pub next_stops : (c : Reader) (why : Refusal) → Reads b c (Err why) (λ bs. one bs xs) → (m : ℕ) → n < m → Reads a c (Err why) (λ bs. repeat (one bs) m)
  next_stops c why t m h =
      let f : refused why ≡ one (bits a.file.now) xs b.place = t.reads ∙ ap (λ (file : List ℕ). one (bits file) xs b.place) s.same in
      record { reads = stops (one (bits a.file.now)) n a.place b.place xs why s.reads f m h; same = t.same ∙ s.same }

-- a refusal is kept as it is, and what is kept is of something that is read
module _ {A B : Type 0} (Kept : A → B → Type 0) (a b : Reader) (reading : List ℕ → ℕ → Read B) where
  pub none_kept : (why : Refusal) → Reads a b (Err why) reading → Keeps Kept a b (Err why) reading
  none_kept why t = record { reads = sym t.reads; same = t.same }

  pub none_read : (why : Refusal) → Keeps Kept a b (Err why) reading → Reads a b (Err why) reading
  none_read why t = record { reads = sym t.reads; same = t.same }

  pub kept_read : (y : A) (t : Keeps Kept a b (Ok y) reading) → Reads a b (Ok t.reads.0) reading
  kept_read y t = record { reads = sym t.reads.1; same = t.same }

-- as many items are kept as were asked for
pub kept_length : {A K : Type 0} (Kept : K → List A → Type 0) (a b : Reader) (one : List ℕ → List A → ℕ → Read A) (n : ℕ) (y : K)
    → (t : Keeps Kept a b (Ok y) (λ bs. repeat (one bs) n)) → length t.reads.0 ≡ n
kept_length Kept a b one n y t = repeat-length (one (bits a.file.now)) n a.place t.reads.0 b.place t.reads.1

-- a reading, then another that goes on from what was read, knowing the place before it
module _ {A B : Type 0} (first : List ℕ → ℕ → Read A) (next : List ℕ → ℕ → A → ℕ → Read B) (a b : Reader) {L : Type 0} (New : L → B → Type 0) where
  abbrev Then : Reader → Result L Refusal → Type 0
  Then c r = Keeps New a c r (λ bs p. first bs p then next bs p)

  -- what the next reading gives at b, it gives of the file at a
  on : (x : A) → first (bits a.file.now) a.place ≡ got x b.place → b.file.now ≡ a.file.now → (c : Reader) (r : Result L Refusal) → Keeps New b c r (λ bs. next bs a.place x) → Then c r
  on x e same c r k =
      let P : Read B → Type 0 = Keeping New r c.place in
      let f : next (bits b.file.now) a.place x b.place ≡ (first (bits a.file.now) a.place then next (bits a.file.now) a.place) =
      ap (λ (file : List ℕ). next (bits file) a.place x b.place) same ∙ rw e refl in
      record { reads = subst P f k.reads; same = k.same ∙ same }

  pub then_keeps : (x : A) → Reads a b (Ok x) first → (c : Reader) (r : Result L Refusal) → Keeps New b c r (λ bs. next bs a.place x) → Then c r
  then_keeps x t = on x (sym t.reads) t.same

  pub then_stops : (why : Refusal) → Reads a b (Err why) first → Then b (Err why)
  then_stops why t = record { reads = rw (← t.reads) refl; same = t.same }

  module _ {K : Type 0} (Kept : K → A → Type 0) where
    pub kept_then : (y : K) → Keeps Kept a b (Ok y) first → (c : Reader) (r : Result L Refusal) → ((x : A) → Kept y x → Keeps New b c r (λ bs. next bs a.place x)) → Then c r
    kept_then y t c r k = on t.reads.0 t.reads.1 t.same c r (k t.reads.0 t.reads.2)

    pub kept_stops : (why : Refusal) → Keeps Kept a b (Err why) first → Then b (Err why)
    kept_stops why t = record { reads = rw t.reads refl; same = t.same }

-- a test after which nothing more is read
module _ {B L : Type 0} (a b : Reader) (New : L → B → Type 0) (test : Bool) (why : Refusal) (reading : List ℕ → ℕ → Read B) where
  pub given_stops : test ≡ false → Keeps New a a (Err why) (λ bs p. given test why (reading bs p))
  given_stops e = record { reads = rw e refl; same = refl }

  pub given_keeps : test ≡ true → (r : Result L Refusal) → Keeps New a b r reading → Keeps New a b r (λ bs p. given test why (reading bs p))
  given_keeps e r k = record { reads = rw e k.reads; same = k.same }

-- nothing more is read, and x is kept of y
pub last_kept : {B L : Type 0} (a : Reader) (New : L → B → Type 0) (x : L) (y : B) → New x y → Keeps New a a (Ok x) (λ _ p. got y p)
last_kept a New x y h = record { reads = (y, refl, h); same = refl }
