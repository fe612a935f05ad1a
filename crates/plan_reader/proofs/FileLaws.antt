-- A whole file, from its body; and the answer to it in the words of plan files.
use Rattle.std.proofs.Common.{◌≡◌, ℕ, ◌≤◌, true, false, List, length, Ok, Err, Result, take, sym, refl, ap, ◌∙◌, arith}
use Rattle.refusal.specs.declared.reason.Refusal.{Refusal}
use Rattle.refusal.specs.declared.reason.Refusal.TheVariants.{Unnamed, NotPadded}
use Rattle.model.specs.Plan.{Plan}
use Rattle.model.specs.Rules.{Valid}
use Rattle.model.specs.Tests.{names, all_below, all_named}
use Rattle.std.specs.List.{list_any}
use Rattle.plan_format.specs.Bits.{bits}
use Rattle.plan_format.specs.File.{FileOf, spell_plan}
use Rattle.plan_format.specs.Reading.{Read, got, refused, padded, body, read}
use Rattle.plan_format.specs.Laws.{Placed}
use Rattle.plan_format.proofs.Cutting.{reads_no_further}
use Rattle.plan_format.proofs.Places.{refusals_placed}
use Rattle.plan_format.proofs.Whole.{reads_exactly}
use Rattle.plan_format.proofs.Unique.{refuses_the_rest}
use Rattle.plan_reader.specs.Checking.{numbers_of, answer, HasNumbers, Judges}
use Rattle.plan_reader.specs.Heads.{HeadOfPlan}
use Rattle.plan_reader.specs.Marks.{marked}
use Rattle.plan_reader.specs.Outcomes.{Keeps}
use Rattle.plan_reader.specs.declared.body.PlanHead.{PlanHead}
use Rattle.plan_reader.specs.declared.numbers.Numbers.{Numbers}
use Rattle.plan_reader.specs.declared.reader.Reader.{Reader}
use Rattle.plan_reader.proofs.MarkLaws.{all_below_same}

-- a reader at the front of a file holds its first 65,536 bytes, and their body is the file's
at_front : (bytes : List ℕ) (a : Reader) → a.file.now ≡ bytes → a.place ≡ 0 → body (bits bytes) 0 ≡ body (bits a.file.now) a.place
at_front bytes a front start = ap (λ (b : List ℕ). body (bits b) 0) (sym front) ∙ ap (λ p. body (bits a.file.now) p) (sym start)

-- a body that is refused
pub body_stops : (file : List ℕ) (a b : Reader) (why : Refusal) → a.file.now ≡ take 65536 file → a.place ≡ 0 → Keeps HeadOfPlan a b (Err why) body
    → read file ≡ refused why
body_stops file a b why front start k =
    let e : body (bits (take 65536 file)) 0 ≡ refused why = at_front (take 65536 file) a front start ∙ k.reads in
    sym (reads_no_further file) ∙ rw e refl

-- a reader that went from a, at the front of a file, to b has read the body of the file, and kept this head of the plan
module _ (file : List ℕ) (a b : Reader) (head : PlanHead) (front : a.file.now ≡ take 65536 file) (start : a.place ≡ 0) (k : Keeps HeadOfPlan a b (Ok head) body)
    (n : ℕ) (settings : n ≡ length head.counts) (few : n ≤ 32) where
  abbrev pub plan : Plan
  plan = k.reads.0

  abbrev bytes : List ℕ
  bytes = take 65536 file

  body_is : body (bits bytes) 0 ≡ got plan b.place
  body_is = at_front bytes a front start ∙ k.reads.1

  -- the marks tell whether every setting is named
  named_is : all_below n (marked head.named) ≡ all_named (length plan.counts) plan.tables
  named_is =
      let h = k.reads.2 in
      all_below_same n (marked head.named) (λ s. list_any (names s) plan.tables) (λ s l. h.named s (omega arith))
      ∙ ap (λ m. all_named m plan.tables) (settings ∙ ap length h.counts)

  padded_is : padded (bits b.file.now) b.place ≡ padded (bits bytes) b.place
  padded_is = ap (λ (file : List ℕ). padded (bits file) b.place) (k.same ∙ front)

  pub read_unnamed : false ≡ all_below n (marked head.named) → read file ≡ refused (Unnamed b.place)
  read_unnamed e = sym (reads_no_further file) ∙ rw (body_is, ← named_is, ← e) refl

  pub read_unpadded : true ≡ all_below n (marked head.named) → false ≡ padded (bits b.file.now) b.place → read file ≡ refused (NotPadded b.place)
  read_unpadded e f = sym (reads_no_further file) ∙ rw (body_is, ← named_is, ← e, ← padded_is, ← f) refl

  pub read_got : true ≡ all_below n (marked head.named) → true ≡ padded (bits b.file.now) b.place → read file ≡ got plan b.place
  read_got e f = sym (reads_no_further file) ∙ rw (body_is, ← named_is, ← e, ← padded_is, ← f) refl

answer_ok : {A B : Type 0} (f : A → B) (r : Read A) (x : B) → Ok x ≡ answer f r → (a : A) × (q : ℕ) × (r ≡ got a q) × (x ≡ f a)
answer_ok f (got a q) x e = (a, q, refl, cc)
answer_ok f (refused w) x e = absurd cc

answer_err : {A B : Type 0} (f : A → B) (r : Read A) (w : Refusal) → Err w ≡ answer f r → r ≡ refused w
answer_err f r w e = grind arith

pub judges : (file : List ℕ) (r : Result Numbers Refusal) → r ≡ answer numbers_of (read file) → Judges file r
judges file r e = record { accepted = accepted; accepts = accepts; refused = none; placed = placed; refuses = refuses }
  where
    accepted : (ns : Numbers) → r ≡ Ok ns → HasNumbers file ns
    accepted ns h =
        let k = answer_ok numbers_of (read file) ns (sym h ∙ e) in
        let x = (reads_exactly file k.0 k.1).0 k.2 in
        (k.0, x.0, x.1, k.3)

    accepts : (ns : Numbers) → HasNumbers file ns → r ≡ Ok ns
    accepts ns h =
        let d = (reads_exactly file h.0 (length (spell_plan h.0))).1 (h.1, h.2, refl) in
        e ∙ ap (answer numbers_of) d ∙ ap (λ (x : Numbers). Ok x) (sym h.3)

    none : (w : Refusal) → r ≡ Err w → (p : Plan) → Valid p → FileOf p file → ⊥
    none w h = (refuses_the_rest file).0 w (answer_err numbers_of (read file) w (sym h ∙ e))

    placed : (w : Refusal) → r ≡ Err w → Placed file w
    placed w h = refusals_placed file w (answer_err numbers_of (read file) w (sym h ∙ e))

    refuses : ((p : Plan) → Valid p → FileOf p file → ⊥) → (w : Refusal) × (r ≡ Err w)
    refuses h = let k = (refuses_the_rest file).1 h in (k.0, e ∙ ap (answer numbers_of) k.1)
