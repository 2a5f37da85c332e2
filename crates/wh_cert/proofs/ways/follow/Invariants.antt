use Rattle.wh_data.specs.AnswerData.{plains}
use Rattle.wh_cert.specs.Listings.{IsRoomy}
use Rattle.wh_cert.proofs.FollowedWays.{IsFollowed}
use Rattle.wh_cert.proofs.ways.follow.Given as goal

abbrev pub invariant-loop-m : goal.invariant-loop-m
invariant-loop-m l = IsRoomy l.image × IsFollowed (plains l.vertices) l.at l.moves l.m-index l.here l.stops.items
