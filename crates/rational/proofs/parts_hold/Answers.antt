-- The theorem that the contract of `parts_hold` names.
use Rattle.rational.proofs.parts_hold.Goals as goal
use Rattle.rational.proofs.Parts.{parts_laws}

pub returns : goal.returns
returns c = parts_laws
