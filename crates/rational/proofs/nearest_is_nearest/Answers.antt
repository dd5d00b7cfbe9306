-- The theorem that the contract of `nearest_is_nearest` names.
use Rattle.rational.proofs.nearest_is_nearest.Goals as goal
use Rattle.rational.proofs.Nearest.{nearest_is_nearest}

pub returns : goal.returns
returns c = nearest_is_nearest
