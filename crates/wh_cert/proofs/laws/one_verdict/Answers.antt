use Rattle.wh_cert.proofs.OneVerdict.{finds_one}
use Rattle.wh_cert.proofs.laws.one_verdict.Goals as goal

pub returns : goal.returns
returns c = finds_one
