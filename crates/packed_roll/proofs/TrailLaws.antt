-- What the saves hold, when a save is put at the newest place, and when it is gone back to.
use Rattle.std.proofs.Common.{◌≡◌, ℕ, zero, suc, ◌-◌, ◌<◌, ◌≤◌, ◌≢◌, cond, eqb, List, ◌∷◌, length, set, refl, ap, ◌∙◌, ◌/◌, arith}
use Rattle.std.proofs.Math.Path.{fun_ext}
use Rattle.std.proofs.lemmas.List.{get_or-set_same, get_or-set_other}
use Rattle.std.proofs.lemmas.Bool.{cases_eq, eq-eqb, ne_eqb}
use Rattle.std.proofs.lemmas.Grind.{common_steps}
use Rattle.packed_roll.specs.Words.{Tallied, marks_of, without}
use Rattle.packed_roll.specs.Trail.{rewound, save_at, words_at, saves_of, noting, saves_noting}
use Rattle.packed_roll.specs.declared.trail.Save.{Save}
use Rattle.packed_roll.proofs.BitLaws.{bit_turned_other, bit_turned_same, bit-zero}
use Rattle.packed_roll.proofs.WordLaws.{word_other}

-- the saves below K are the same
abbrev pub SameBelow : (saves saves' : List Save) → ℕ → Type 0
SameBelow saves saves' K = (J : ℕ) → J < K → save_at saves' J ≡ save_at saves J

saves_keep : (saves saves' : List Save) (n K : ℕ) (f : ℕ → ℕ) → SameBelow saves saves' K → saves_of saves' n f K ≡ saves_of saves n f K
saves_keep saves saves' n zero f h = refl
saves_keep saves saves' n (suc K) f h =
    rw (h K (omega arith)) (cc (saves_keep saves saves' n K (rewound (save_at saves K) f) (λ J l. h J (omega arith))))

words_keep : (saves saves' : List Save) (K i : ℕ) (f : ℕ → ℕ) → SameBelow saves saves' K → words_at saves' f K i ≡ words_at saves f K i
words_keep saves saves' zero i f h = refl
words_keep saves saves' (suc K) i f h =
    rw (h K (omega arith)) (cc (words_keep saves saves' K i (rewound (save_at saves K) f) (λ J l. h J (omega arith))))

-- The save s is put at the place K, as the newest; g are the words at it.
module _ (saves : List Save) (K : ℕ) (s : Save) (f g : ℕ → ℕ) (l : K < length saves) (e : rewound s f ≡ g) where
  same_below : SameBelow saves (set saves K s) K
  same_below J b = get_or-set_other saves K J s _ (omega arith)

  here : rewound (save_at (set saves K s) K) f ≡ g
  here = ap (λ t. rewound t f) (get_or-set_same saves K s _ l) ∙ e

  saves-set : (n : ℕ) → saves_of (set saves K s) n f (suc K) ≡ marks_of g n ∷ saves_of saves n g K
  saves-set n = rw here (cc (saves_keep saves (set saves K s) n K g same_below))

  words-set : (i : ℕ) → words_at (set saves K s) f (suc K) i ≡ cond (eqb i K) g (words_at saves g K i)
  words-set i = rw here (cc (words_keep saves (set saves K s) K i g same_below))

-- a new save has no word noted
rewound_fresh : (s : Save) (f : ℕ → ℕ) → s.noted ≡ 0 → rewound s f ≡ f
rewound_fresh s f e = fun_ext (λ w. grind (arith, bit-zero w))

pub at-saved : (saves : List Save) (K i : ℕ) (s : Save) (f : ℕ → ℕ) → K < length saves → s.noted ≡ 0
    → words_at (set saves K s) f (suc K) i ≡ cond (eqb i K) f (words_at saves f K i)
at-saved saves K i s f l z = words-set saves K s f f l (rewound_fresh s f z) i

-- the word w is overwritten: f becomes f', which is f but at w
rewound_noting : (s : Save) (w : ℕ) (f f' : ℕ → ℕ) → w < length s.words → ((v : ℕ) → v ≢ w → f' v ≡ f v) → rewound (noting s w (f w)) f' ≡ rewound s f
rewound_noting s w f f' l same =
    fun_ext (λ v. grind (arith, common_steps, cases_eq v w, same v, bit_turned_other s.noted v w, bit_turned_same s.noted w))

noting_count : (saves : List Save) (L w old i : ℕ) → L < length saves
    → (save_at (set saves L (noting (save_at saves L) w old)) i).count ≡ (save_at saves i).count
noting_count saves L w old i l = grind (arith, common_steps, cases_eq i L)

-- A strike of k: the bit of k is turned, and the newest of the saves notes its word.

-- what the saves hold stays: K are kept, f are the words before and g those after
pub record SavesKept (K : ℕ) (f g : ℕ → ℕ) (before after : List Save) : Type 0 where
  pub marks : (n : ℕ) → saves_of after n g K ≡ saves_of before n f K
  pub words : (i : ℕ) → i < K → words_at after g K i ≡ words_at before f K i
  pub counts : (i : ℕ) → (save_at after i).count ≡ (save_at before i).count

pub saves_kept : (saves : List Save) (K : ℕ) (f : ℕ → ℕ) (k : ℕ) → K ≤ length saves → (0 < K → k / 64 < length (save_at saves (K - 1)).words)
    → SavesKept K f (without f k) saves (saves_noting saves K (k / 64) (f (k / 64)))
saves_kept saves zero f k l b = record { marks = λ n. refl; words = λ i z. absurd (omega arith); counts = λ i. refl }
saves_kept saves (suc L) f k l b =
    let w : ℕ = k / 64 in
    let g : ℕ → ℕ = rewound (save_at saves L) f in
    let newest : Save = noting (save_at saves L) w (f w) in
    let d : suc L - 1 ≡ L = omega arith in
    let e : rewound newest (without f k) ≡ g = rewound_noting (save_at saves L) w f (without f k) (rw d at (b (omega arith))) (word_other f k) in
    record {
      marks = λ n. saves-set saves L newest (without f k) g (omega arith) e n;
      words = λ i z. words-set saves L newest (without f k) g (omega arith) e i;
      counts = λ i. noting_count saves L w (f w) i (omega arith);
    }

-- A save more, s, is put at the place K, with no word noted.

module _ (saves : List Save) (K : ℕ) (s : Save) (f : ℕ → ℕ) (n : ℕ) (l : K < length saves) (z : s.noted ≡ 0) where
  pub saves_saved : saves_of (set saves K s) n f (suc K) ≡ marks_of f n ∷ saves_of saves n f K
  saves_saved = saves-set saves K s f f l (rewound_fresh s f z) n

  pub tallied_saved : Tallied n s.count f → ((i : ℕ) → i < K → Tallied n (save_at saves i).count (words_at saves f K i))
      → (i : ℕ) → i < suc K → Tallied n (save_at (set saves K s) i).count (words_at (set saves K s) f (suc K) i)
  tallied_saved now older i h = rw (at-saved saves K i s f l z) (grind (arith, common_steps, cases_eq i K, older i))

-- Back to the newest save, K.

module _ (saves : List Save) (f : ℕ → ℕ) (n K : ℕ) (at : (i : ℕ) → i < suc K → Tallied n (save_at saves i).count (words_at saves f (suc K) i)) where
  pub tallied_newest : Tallied n (save_at saves K).count (rewound (save_at saves K) f)
  tallied_newest = rw (eq-eqb K K refl) at (at K (omega arith))

  pub tallied_older : (i : ℕ) → i < K → Tallied n (save_at saves i).count (words_at saves (rewound (save_at saves K) f) K i)
  tallied_older i l = rw (ne_eqb i K (λ d. omega arith)) at (at i (omega arith))
