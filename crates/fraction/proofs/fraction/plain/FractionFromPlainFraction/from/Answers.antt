use Rattle.std.proofs.Common.{sym, refl, ap, ◌∙◌, w64, SFits, rules}
use Rattle.std.proofs.lemmas.Int.{to_z-of_z}
use Rattle.fraction.specs.Fractions.{proper}
use Rattle.fraction.specs.Packs.{lost_is, plain_lost, plain_unfit, plain_fit}
use Rattle.fraction.proofs.fraction.plain.FractionFromPlainFraction.from.Goals as goal
use Rattle.fraction.proofs.fraction.plain.FractionFromPlainFraction.from.Goals.{then-p-via-then-p, then-p-via-else-p+then-not-is_proper}

pub returns-then-p : goal.returns-then-p
returns-then-p c =
    let p = c.args.p in
    let f : SFits w64 p.numerator = search rules in
    lost_is _ c.lost.ensures ∙ sym (elim c.then-p.branch [
      | then-p-via-then-p w ↦ plain_lost p w.if-p.true
      | then-p-via-else-p+then-not-is_proper w ↦ plain_unfit p w.if-p.false (sym (w.is_proper.ensures ∙ ap (λ n. proper n p.denominator) (to_z-of_z w64 _ f)) ∙ w.if-not-is_proper.true)
    ])

pub returns : goal.returns
returns c =
    let p = c.args.p in
    let f : SFits w64 p.numerator = search rules in
    sym (plain_fit p _ c.if-p.false (sym (to_z-of_z w64 _ f)) refl refl)
