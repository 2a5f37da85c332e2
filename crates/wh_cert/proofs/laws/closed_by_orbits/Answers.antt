use Rattle.wh_cert.proofs.ClosedOrbits.{closed_by_orbits}
use Rattle.wh_cert.proofs.laws.closed_by_orbits.Goals as goal

pub returns : goal.returns
returns c = closed_by_orbits
