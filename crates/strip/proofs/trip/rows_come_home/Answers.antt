use Rattle.strip.proofs.trip.rows_come_home.Goals as goal
use Rattle.strip.proofs.RowTrips.{rows_come_home}

pub returns-clause-trip : goal.returns-clause-trip
returns-clause-trip g c = rows_come_home g.N.Number.arith c.comes_home.ensures.trip
