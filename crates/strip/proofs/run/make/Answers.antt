use Rattle.std.proofs.Common.{vec_items, sym, refl, ◌∙◌, subst}
use Rattle.std.proofs.lemmas.List.{with_items_is}
use Rattle.strip.specs.Entries.{draw_entry, read_entry}
use Rattle.strip.specs.Fills.{Answering, Fills}
use Rattle.strip.proofs.run.make.Goals as goal

pub returns-in-Draw-clause-value : goal.returns-in-Draw-clause-value
returns-in-Draw-clause-value g c =
    let n = g.N.Number in
    let d = c.in-Draw.c in
    let answers = Answering n.means (g.B.Boundary.meaning c.args.boundary.now) (draw_entry n.ops n.traced n.plain) in
    let back = with_items_is d.colors c.draw_row-c.new.colors (c.draw_row-c.auto.colors ∙ c.deref_mut.ensures.len) in
    let told : Fills answers (vec_items d.readings) (vec_items d.colors) c.draw_row-c.result c.draw_row-c.new.colors =
    rw (c.deref.ensures.value, c.deref_mut.ensures.value) at c.draw_row-c.ensures.value in
    rw c.in-Draw.is (_, refl, refl, subst (Fills answers (vec_items d.readings) (vec_items d.colors) c.draw_row-c.result) (sym back) told)

pub returns-in-Read-clause-value : goal.returns-in-Read-clause-value
returns-in-Read-clause-value g c =
    let n = g.N.Number in
    let d = c.in-Read.c in
    let answers = Answering n.means (g.B.Boundary.meaning c.args.boundary.now) (read_entry n.ops n.traced n.back) in
    let back = with_items_is d.indications c.read_row-c.new.indications (c.read_row-c.auto.indications ∙ c.deref_mut-in-Read.ensures.len) in
    let told : Fills answers (vec_items d.colors) (vec_items d.indications) c.read_row-c.result c.read_row-c.new.indications =
    rw (c.deref-in-Read.ensures.value, c.deref_mut-in-Read.ensures.value) at c.read_row-c.ensures.value in
    rw c.in-Read.is (_, refl, refl, subst (Fills answers (vec_items d.colors) (vec_items d.indications) c.read_row-c.result) (sym back) told)

pub returns-in-Ask-clause-value : goal.returns-in-Ask-clause-value
returns-in-Ask-clause-value g c = rw c.in-Ask.is (_, refl, refl, c.ask-c.ensures.value)
