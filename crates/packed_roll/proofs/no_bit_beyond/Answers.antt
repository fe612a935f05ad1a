use Rattle.packed_roll.specs.Words.{word_in}
use Rattle.packed_roll.specs.Trail.{words_at}
use Rattle.packed_roll.proofs.WordLaws.{clear_at}
use Rattle.packed_roll.proofs.no_bit_beyond.Goals as goal

pub returns : goal.returns
returns c p k l = (
  clear_at p.size (word_in p.words.bits) p.now.clear k l,
  λ i b. clear_at p.size (words_at p.trail.saves (word_in p.words.bits) p.kept i) (p.at_saves i b).clear k l,
)
