-- The theorem that the contract of `normal_form_decides` names.
use Rattle.rational.proofs.normal_form_decides.Goals as goal
use Rattle.rational.proofs.Rationals.{normal_form_decides}

pub returns : goal.returns
returns c = normal_form_decides
