-- The theorem that the contract of `cases_hold` names.
use Rattle.rational.proofs.cases_hold.Goals as goal
use Rattle.rational.proofs.Cases.{cases}

pub returns : goal.returns
returns c = cases
