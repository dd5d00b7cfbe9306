-- The theorem that the contract of `rationals_are_a_field` names.
use Rattle.rational.proofs.rationals_are_a_field.Goals as goal
use Rattle.rational.proofs.Rationals.{rational_field}

pub returns : goal.returns
returns c = rational_field
