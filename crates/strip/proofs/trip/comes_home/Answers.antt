use Rattle.strip.proofs.trip.comes_home.Goals as goal
use Rattle.strip.proofs.Trips.{return_trip}

pub returns-clause-trip : goal.returns-clause-trip
returns-clause-trip g c = return_trip g.N.Number.arith (g.met.N.Number.exactness c.is_exact.ensures.1)
