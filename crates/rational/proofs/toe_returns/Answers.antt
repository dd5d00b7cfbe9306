-- The theorem that the contract of `toe_returns` names.
use Rattle.rational.proofs.toe_returns.Goals as goal
use Rattle.rational.proofs.Toe.{toe_back_exact}

pub returns : goal.returns
returns c = toe_back_exact
