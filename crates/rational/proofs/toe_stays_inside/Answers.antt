-- The theorem that the contract of `toe_stays_inside` names.
use Rattle.rational.proofs.toe_stays_inside.Goals as goal
use Rattle.rational.proofs.Toe.{toe_inside_exact}

pub returns : goal.returns
returns c = toe_inside_exact
