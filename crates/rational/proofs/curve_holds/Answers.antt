-- The theorem that the contract of `curve_holds` names.
use Rattle.rational.proofs.curve_holds.Goals as goal
use Rattle.rational.proofs.Curve.{curve_holds}

pub returns : goal.returns
returns c = curve_holds
