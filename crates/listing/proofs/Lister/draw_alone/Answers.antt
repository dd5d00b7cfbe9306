use Rattle.std.proofs.Common.{Err, ap, ◌∙◌}
use Rattle.std.proofs.lemmas.Result.{err_from_is_err_and}
use Rattle.boundary.specs.Triangles.{triangle_meaning}
use Rattle.fraction.specs.Bounded.{arithmetic}
use Rattle.fraction.specs.Fractions.{meaning_of}
use Rattle.listing.specs.Answers.{row_text}
use Rattle.listing.proofs.Texts.{drawn_text, refused_text}
use Rattle.listing.proofs.Lister.draw_alone.Goals as goal

pub returns-in_err-draw_row-clause-text : goal.returns-in_err-draw_row-clause-text
returns-in_err-draw_row-clause-text c =
    let p = err_from_is_err_and c.from_residual.result c.from_residual.ensures.1 in
    ap row_text (p.1 ∙ ap Err p.2)
    ∙ refused_text (triangle_meaning arithmetic meaning_of c.args.self.now.boundary) c.args.self.now.as_listed c.args.reading _ c.in_err-draw_row.field-0.0 _ c.in_err-draw_row.ensures.meaning

pub returns-clause-text : goal.returns-clause-text
returns-clause-text c =
    drawn_text (triangle_meaning arithmetic meaning_of c.args.self.now.boundary) c.args.self.now.as_listed c.args.reading _ c.draw_row.new.colors _ c.draw_row.auto.colors c.in_ok-draw_row.ensures.meaning
