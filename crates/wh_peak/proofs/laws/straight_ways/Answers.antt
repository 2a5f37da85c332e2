use Rattle.wh_peak.proofs.LowWays.{straight_ways_stay_low, between_flat}
use Rattle.wh_peak.proofs.laws.straight_ways.Goals as goal

pub returns-clause-low : goal.returns-clause-low
returns-clause-low c = straight_ways_stay_low

pub returns-clause-between_flat : goal.returns-clause-between_flat
returns-clause-between_flat c = between_flat
