use Rattle.std.proofs.Common.{map}
use Rattle.strip.specs.Entries.{seen}
use Rattle.strip.proofs.Homes.{home_by}
use Rattle.strip.proofs.commissioning.commission.Goals as goal

pub returns-clause-home : goal.returns-clause-home
returns-clause-home g c s =
    let n = g.N.Number in
    let meant = map (seen n.means n.back) in
    home_by n.arith c.rows_come_home.ensures.trip (g.B.Boundary.meaning c.args.panel.now) (g.C.Boundary.meaning c.args.page.now) s
    c.args.readings.now (meant c.args.colors.now) (meant c.draw_row.new.colors) c.args.indications.now c.read_row.new.indications c.read_row.result
    c.in_ok-draw_row.ensures.meaning c.read_row.ensures.meaning
