use Rattle.roll.proofs.First.{tells_some, tells_none, lowest_is, none_is}
use Rattle.roll.proofs.first_is_lowest.Goals as goal

pub returns : goal.returns
returns c m p = ((λ k. (tells_some m p k, lowest_is m p k)), tells_none m p, none_is m p)
