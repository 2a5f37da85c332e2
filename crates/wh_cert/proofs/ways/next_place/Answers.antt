use Rattle.std.proofs.Common.{rules}
use Rattle.wh_cert.proofs.Rising.{plain_listed}
use Rattle.wh_cert.proofs.FollowedWays.{step_taken}
use Rattle.wh_cert.proofs.ways.next_place.Goals as goal

pub image_place-requires-clause-listed : goal.image_place-requires-clause-listed
image_place-requires-clause-listed c = plain_listed c.args.vertices.now c.args.from c.index-vertices-from.result c.requires.within (search rules)

pub returns-clause-place : goal.returns-clause-place
returns-clause-place c =
    step_taken c.args.vertices.now c.args.from c.index-vertices-from.result c.args.m.now c.is_identity.result c.image_place.result c.requires.within (search rules) c.rank.ensures.valid c.is_identity.ensures c.if-is_identity.false c.image_place.ensures.place
