-- Readings that give what is spelt, and nothing else.
use Rattle.std.proofs.Common.{◌≡◌, ℕ, zero, suc, ◌+◌, ◌*◌, ◌/◌, ◌%◌, ◌^◌, ◌<◌, ◌≤◌, Bool, true, ◌&&◌, ltb, leb, List, [], ◌∷◌, ◌++◌, length, get_or, take, drop, sym, refl, ap, ◌∙◌, subst, pow-suc, arith}
use Rattle.std.specs.List.{flat_map}
use Rattle.std.proofs.lemmas.Grind.{common_steps}
use Rattle.std.proofs.lemmas.List.{flat_map_more, append_assoc, length_push, length-append, length-drop, drop-drop, drop_at, drop_more, get_or-drop, take_all}
use Rattle.std.proofs.lemmas.Nat.{shr-shr}
use Rattle.std.proofs.lemmas.Bool.{ltb-true, lt-ltb}
use Rattle.std.proofs.lemmas.Bool.Decides.{nat_tests}
use Rattle.refusal.specs.declared.reason.Refusal.{Refusal}
use Rattle.refusal.specs.declared.reason.Refusal.TheVariants.{OutOfRange}
use Rattle.plan_format.specs.Bits.{spell, bits, number_at}
use Rattle.plan_format.specs.Reading.{Read, got, ◌then◌, given, repeat, number, ranged, number_below}
use Rattle.plan_format.proofs.BitLaws.{number_at-below, bits_below, length-spell}

-- what a reading in parts read
pub then_got : {A B : Type 0} (r : Read A) (k : A → ℕ → Read B) (y : B) (q : ℕ) → (r then k) ≡ got y q → (x : A) × (m : ℕ) × (r ≡ got x m) × (k x m ≡ got y q)
then_got r k y q e = grind arith

pub given_got : {A : Type 0} (t : Bool) (x : Refusal) (r : Read A) (y : A) (q : ℕ) → given t x r ≡ got y q → (t ≡ true) × (r ≡ got y q)
given_got t x r y q e = grind arith

pub got_same : {A : Type 0} {x y : A} {p q : ℕ} → got x p ≡ got y q → (x ≡ y) × (p ≡ q)
got_same e = grind arith

-- the bits e stand in b from p up to q
pub record Stands (b : List ℕ) (p : ℕ) (e : List ℕ) (q : ℕ) : Type 0 where
  pub to : q ≡ p + length e
  pub rest : drop p b ≡ e ++ drop q b

-- two lists one after the other
pub stands_join : {b : List ℕ} {p m q : ℕ} {e f : List ℕ} → Stands b p e m → Stands b m f q → Stands b p (e ++ f) q
stands_join h k = grind (arith, append_assoc {A = ℕ}, length-append {A = ℕ})

pub stands_split : {b : List ℕ} {p q : ℕ} {e f : List ℕ} → Stands b p (e ++ f) q → Stands b p e (p + length e) × Stands b (p + length e) f q
stands_split {b} {p} {q} {e} {f} h =
    grind (arith, append_assoc {A = ℕ}, length-append {A = ℕ}, drop-drop (length e) p b, drop_at e (f ++ drop q b) (length e) refl)

pub stands_within : {b : List ℕ} {p q : ℕ} {e : List ℕ} → 1 ≤ length e → Stands b p e q → q ≤ length b
stands_within {b} {p} {q} {e} l h = omega (arith, h.to, simp (length-drop, length-append) at (ap length h.rest))

-- one bit, and the first of some
one_stands : (b : List ℕ) (p q : ℕ) → p < length b → q ≡ p + 1 → Stands b p (get_or b p 0 ∷ []) q
one_stands b p q l e = grind (arith, drop_more b p 0)

first_stands : {b : List ℕ} {p q x : ℕ} {e : List ℕ} → Stands b p (x ∷ e) q → get_or b p 0 ≡ x
first_stands {b} {p} h = grind (arith, get_or-drop p b 0 0)

-- the reading gives a exactly where a is good and its spelling stands
pub record Exact {A : Type 0} (b : List ℕ) (read : ℕ → Read A) (good : A → Type 0) (spelt : A → List ℕ) : Type 0 where
  pub reads : (p : ℕ) (a : A) (q : ℕ) → read p ≡ got a q → good a × Stands b p (spelt a) q
  pub stands : (p : ℕ) (a : A) (q : ℕ) → good a × Stands b p (spelt a) q → read p ≡ got a q

-- each item is good after those before it
abbrev pub Chain : {A : Type 0} → (List A → A → Type 0) → List A → Type 0
Chain {A} good xs = (i : ℕ) (d : A) → i < length xs → good (take i xs) (get_or xs i d)

-- the last bit of a number
pub spell_last : (w n : ℕ) → spell (suc w) n ≡ spell w (n / 2) ++ n % 2 ∷ []
spell_last zero n = grind arith
spell_last (suc w) n = grind (arith, spell_last w n, shr-shr n 1 w)

-- a number stands spelt where it is read
pub number_stands : (b : List ℕ) → ((i : ℕ) → get_or b i 0 < 2) → (p w : ℕ) → p + w ≤ length b → Stands b p (spell w (number_at b p w)) (p + w)
number_stands b two p zero h = record { to = refl; rest = let e : p + 0 ≡ p = omega arith in rw e }
number_stands b two p (suc w) h =
    let n = number_at b p w in
    let x = get_or b (p + w) 0 in
    let l = two (p + w) in
    let d : (n * 2 + x) / 2 ≡ n = omega arith in
    let m : (n * 2 + x) % 2 ≡ x = omega arith in
    let s : spell (suc w) (n * 2 + x) ≡ spell w n ++ x ∷ [] = spell_last w (n * 2 + x) ∙ rw (d, m) refl in
    subst (λ e. Stands b p e (p + suc w)) (sym s) (stands_join (number_stands b two p w (omega arith)) (one_stands b (p + w) (p + suc w) (omega arith) (omega arith)))

pub number_reads : (b : List ℕ) (p w v q : ℕ) → v < 2 ^ w → Stands b p (spell w v) q → number_at b p w ≡ v
number_reads b p zero v q l h = omega arith
number_reads b p (suc w) v q l h =
    let r = stands_split (subst (λ e. Stands b p e q) (spell_last w v) h) in
    let l' : v < 2 ^ w * 2 = rw pow-suc at l in
    let i : number_at b p w ≡ v / 2 = number_reads b p w (v / 2) (p + length (spell w (v / 2))) (omega arith) r.0 in
    let x : get_or b (p + w) 0 ≡ v % 2 = ap (λ k. get_or b (p + k) 0) (sym (length-spell w (v / 2))) ∙ first_stands r.1 in
    omega arith

pub number_exact : (file : List ℕ) (w : ℕ) → 1 ≤ w → Exact (bits file) (number (bits file) w) (λ v. v < 2 ^ w) (spell w)
number_exact file w some = record {
  reads = λ p v q e. grind (arith, nat_tests, number_at-below (bits file) (bits_below file) p w, number_stands (bits file) (bits_below file) p w);
  stands = λ p v q h. grind (arith, nat_tests, number_reads (bits file) p w v q h.0 h.1, length-spell w v, h.1.to, stands_within {b = bits file} {p = p} {q = q} {e = spell w v});
}

-- the same reading in other words
pub exact_as : {A : Type 0} {b : List ℕ} {read : ℕ → Read A} {good same : A → Type 0} {spelt : A → List ℕ}
    → ((a : A) → (good a → same a) × (same a → good a)) → Exact b read good spelt → Exact b read same spelt
exact_as words x = record {
  reads = λ p a q e. let r = x.reads p a q e in ((words a).0 r.0, r.1);
  stands = λ p a q h. x.stands p a q ((words a).1 h.0, h.1);
}

-- a reading with a test of what was read
pub tested_exact : {A : Type 0} {b : List ℕ} {read : ℕ → Read A} {good : A → Type 0} {spelt : A → List ℕ} (test : A → Bool) (why : ℕ → Refusal)
    → Exact b read good spelt → Exact b (λ p. ◌then◌ (read p) (λ a q. given (test a) (why p) (got a q))) (λ a. good a × (test a ≡ true)) spelt
tested_exact test why x = record { reads = λ p a q e. grind (arith, x.reads p a q); stands = λ p a q h. grind (arith, x.stands p a q (h.0.0, h.1)) }

-- a reading under a test made before it
pub given_exact : {A : Type 0} {b : List ℕ} {read : ℕ → Read A} {good : A → Type 0} {spelt : A → List ℕ} (test : Bool) (why : Refusal)
    → Exact b read good spelt → Exact b (λ p. given test why (read p)) (λ a. (test ≡ true) × good a) spelt
given_exact {read = read} test why x = record {
  reads = λ p a q e. let g = given_got test why (read p) a q e in let i = x.reads p a q g.1 in ((g.0, i.0), i.1);
  stands = λ p a q h. grind (arith, x.stands p a q (h.0.1, h.1));
}

-- a reading, then another that depends on what was read; `part` finds in the whole what was read first
pub then_exact : {A C : Type 0} {b : List ℕ} {first : ℕ → Read A} {rest : ℕ → A → ℕ → Read C} {good : A → Type 0} {goods : A → C → Type 0}
    {spelt : A → List ℕ} {spelts : C → List ℕ} (part : C → A)
    → Exact b first good spelt → ((p : ℕ) (a : A) → good a → Exact b (rest p a) (goods a) spelts) → ((a : A) (c : C) → good a → goods a c → a ≡ part c)
    → Exact b (λ p. ◌then◌ (first p) (rest p)) (λ c. good (part c) × goods (part c) c) (λ c. spelt (part c) ++ spelts c)
then_exact {first = first} {rest = rest} part x y found = record {
  reads = λ p c q e.
      let t = then_got (first p) (rest p) c q e in
      let i = x.reads p t.0 t.1 t.2 in
      let j = (y p t.0 i.0).reads t.1 c q t.3 in
      let f = found t.0 c i.0 j.0 in
      let s = stands_join i.1 j.1 in
      grind arith;
  stands = λ p c q h.
      let s = stands_split h.1 in
      let i = x.stands p (part c) _ (h.0.0, s.0) in
      rw i ((y p (part c) h.0.0).stands _ c q (h.0.1, s.1));
}

-- a reading, made into something that has what was read as a part
pub made_exact : {A C : Type 0} {b : List ℕ} {read : ℕ → Read A} {good : A → Type 0} {spelt : A → List ℕ} (make : A → C) (part : C → A) (fits : C → Type 0)
    → ((a : A) → (part (make a) ≡ a) × fits (make a)) → ((c : C) → fits c → make (part c) ≡ c) → Exact b read good spelt
    → Exact b (λ p. ◌then◌ (read p) (λ a q. got (make a) q)) (λ c. fits c × good (part c)) (λ c. spelt (part c))
made_exact {C = C} {read = read} make part fits there back x = record {
  reads = λ p c q e.
      let t = then_got (read p) (λ a q. got (make a) q) c q e in
      let u = there t.0 in
      let v = x.reads p t.0 t.1 t.2 in
      grind arith;
  stands = λ p c q h. grind (arith, back c h.0.0, x.stands p (part c) q (h.0.1, h.1));
}

-- one item more in a chain
chain_push : {A : Type 0} (good : List A → A → Type 0) (ys : List A) (x : A) → Chain good ys → good ys x → Chain good (ys ++ x ∷ [])
chain_push good ys x c g i d l = grind (arith, common_steps, c i d)

chain_front : {A : Type 0} (good : List A → A → Type 0) (ys : List A) (x : A) → Chain good (ys ++ x ∷ []) → Chain good ys
chain_front good ys x c i d l = grind (arith, common_steps, c i d)

chain_last : {A : Type 0} (good : List A → A → Type 0) (ys : List A) (x : A) → Chain good (ys ++ x ∷ []) → good ys x
chain_last good ys x c = grind (arith, common_steps, c (length ys) x)

-- a list that is not empty, by its last item
pub last_of : {A : Type 0} (n : ℕ) (xs : List A) → length xs ≡ suc n → (ys : List A) × (x : A) × (xs ≡ ys ++ x ∷ []) × (length ys ≡ n)
last_of n [] e = grind arith
last_of n (y ∷ ys) e = (take n (y ∷ ys), get_or (y ∷ ys) n y, grind (arith, common_steps, take_all (n + 1) (y ∷ ys)), grind (arith, common_steps))

-- n items, one after another
module _ {A : Type 0} {b : List ℕ} {one : List A → ℕ → Read A} {good : List A → A → Type 0} {spelt : A → List ℕ}
    (each : (xs : List A) → Exact b (one xs) (good xs) spelt) where
  abbrev pub Good : ℕ → List A → Type 0
  Good n xs = (length xs ≡ n) × Chain good xs

  repeats_none : Exact b (repeat one 0) (Good 0) (flat_map spelt)
  repeats_none = record { reads = λ p xs q e. grind arith; stands = none }
    where
      none : (p : ℕ) (xs : List A) (q : ℕ) → Good 0 xs × Stands b p (flat_map spelt xs) q → repeat one 0 p ≡ got xs q
      none p [] q h = grind arith
      none p (x ∷ xs) q h = grind arith

  repeats_more : (n : ℕ) → Exact b (repeat one n) (Good n) (flat_map spelt) → Exact b (repeat one (suc n)) (Good (suc n)) (flat_map spelt)
  repeats_more n ih = record {
    reads = λ p xs q e.
        let t = then_got (repeat one n p) (λ (ys : List A) (m : ℕ). ◌then◌ (one ys m) (λ (x : A) (r : ℕ). got (ys ++ x ∷ []) r)) xs q e in
        let u = then_got (one t.0 t.1) (λ (x : A) (r : ℕ). got (t.0 ++ x ∷ []) r) xs q t.3 in
        let ys = t.0 in
        let x = u.0 in
        let i = ih.reads p ys t.1 t.2 in
        let o = (each ys).reads t.1 x q (u.2 ∙ ap (got x) (got_same u.3).1) in
        subst (λ zs. Good (suc n) zs × Stands b p (flat_map spelt zs) q) (got_same u.3).0 (
          (omega (arith, length_push ys x, i.0.0), chain_push good ys x i.0.1 o.0),
          subst (λ bs. Stands b p bs q) (flat_map_more spelt [] ys x) (stands_join i.1 o.1),
        );
    stands = λ p xs q h.
        let v = last_of n xs h.0.0 in
        let ys = v.0 in
        let x = v.1 in
        let k = subst (λ zs. Good (suc n) zs × Stands b p (flat_map spelt zs) q) v.2 h in
        let j : Stands b p (flat_map spelt ys) (p + length (flat_map spelt ys)) × Stands b (p + length (flat_map spelt ys)) (spelt x) q =
        stands_split (subst (λ bs. Stands b p bs q) (sym (flat_map_more spelt [] ys x)) k.1) in
        let i = ih.stands p ys (p + length (flat_map spelt ys)) ((v.3, chain_front good ys x k.0.1), j.0) in
        let o = (each ys).stands (p + length (flat_map spelt ys)) x q (chain_last good ys x k.0.1, j.1) in
        rw (i, o) (ap (λ zs. got zs q) (sym v.2));
  }

  pub repeat_exact : (n : ℕ) → Exact b (repeat one n) (Good n) (flat_map spelt)
  repeat_exact zero = repeats_none
  repeat_exact (suc n) = repeats_more n (repeat_exact n)

-- numbers in a range
pub ranged_exact : (file : List ℕ) (w lo hi : ℕ) → 1 ≤ w → hi < 2 ^ w → Exact (bits file) (ranged (bits file) w lo hi) (λ v. (lo ≤ v) × (v ≤ hi)) (spell w)
ranged_exact file w lo hi some h = exact_as (in_range w lo hi h) (tested_exact (λ v. leb lo v && leb v hi) OutOfRange (number_exact file w some))
  where
    in_range : (w lo hi : ℕ) → hi < 2 ^ w → (v : ℕ)
        → ((v < 2 ^ w) × ((leb lo v && leb v hi) ≡ true) → (lo ≤ v) × (v ≤ hi)) × ((lo ≤ v) × (v ≤ hi) → (v < 2 ^ w) × ((leb lo v && leb v hi) ≡ true))
    in_range w lo hi h v = grind (arith, nat_tests)

pub number_below_exact : (file : List ℕ) (n : ℕ) → n ≤ 32 → Exact (bits file) (number_below (bits file) n) (λ v. v < n) (spell 5)
number_below_exact file n h =
    exact_as (λ v. ((λ k. ltb-true v n k.1), (λ k. (omega arith, lt-ltb v n k)))) (tested_exact (λ v. ltb v n) OutOfRange (number_exact file 5 (omega arith)))
