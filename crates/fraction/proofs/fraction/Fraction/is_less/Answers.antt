use Rattle.std.proofs.Common.{sym, ◌∙◌, ap₂, SFits}
use lib.Signed.{lt_z}
use mir.Syntax.{w128}
use Rattle.std.proofs.lemmas.Int.{to_z-of_z}
use Rattle.rational.proofs.Parts.{parts_laws}
use Rattle.fraction.specs.Fractions.{value_of}
use Rattle.fraction.proofs.fraction.Fraction.is_less.Goals as goal

pub returns : goal.returns
returns c =
    let f : SFits w128 c.crossed.result = record { sfits = c.crossed.type_inv } in
    let g : SFits w128 c.crossed-2.result = record { sfits = c.crossed-2.type_inv } in
    ap₂ lt_z (to_z-of_z w128 _ f ∙ c.crossed.ensures) (to_z-of_z w128 _ g ∙ c.crossed-2.ensures)
    ∙ sym (parts_laws.order (value_of c.args.self) (value_of c.args.other))
