use Rattle.std.proofs.Common.{◌≡◌, ℕ, ◌<◌, List, get_or, take, drop, ap, ◌∙◌, arith, get_or-take, get_or-drop}
use Rattle.std.proofs.lemmas.List.Sums.{fold_more}
use Rattle.roll.specs.Meaning.{struck}
use Rattle.roll.proofs.Marks.{trues_most}
use Rattle.roll.proofs.Strikes.{strike_counts}
use Rattle.roll.proofs.generic.strike_all.Goals as goal

-- no more stood than are below the size
pub overflow_add-stood : goal.overflow_add-stood
overflow_add-stood g c = omega (arith, trues_most (g.R.Roll.meaning c.args.roll.now).marks, (g.met.R.Roll.sound c.args.roll.now).fits, g.met.R.Roll.few)

-- a slice from the front of a list has the list's numbers, so the step below holds whether the loop goes over the list or over such a slice
from_front : (ks : List ℕ) (r n i : ℕ) → r ≡ 0 → i < n → get_or (take n (drop r ks)) i 0 ≡ get_or ks i 0
from_front ks r n i e l = grind (arith, get_or-take, get_or-drop)

-- one strike more
pub loop-k-preserved : goal.loop-k-preserved
loop-k-preserved g c =
    let ks = c.args.numbers.now in
    let i = c.loop-k.k-index in
    let now = c.strike.ensures.after ∙ ap (struck (g.R.Roll.meaning c.loop-k.roll)) {y = get_or ks i 0} (omega (arith, from_front)) in
    record {
      after = cc (fold_more struck (g.R.Roll.meaning c.args.roll.now) ks i 0 (omega arith), now);
      stood = grind (arith, strike_counts);
    }
