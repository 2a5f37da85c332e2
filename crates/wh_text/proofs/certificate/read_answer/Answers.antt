use Rattle.std.proofs.Common.{rules}
use Rattle.wh_text.specs.Certificates.{certificate}
use Rattle.wh_text.proofs.NumberedAnswers.{certificate_numbered}
use Rattle.wh_text.proofs.certificate.read_answer.Goals as goal

pub returns-clause-numbered : goal.returns-clause-numbered
unfolding certificate
returns-clause-numbered c = certificate_numbered c.args.bytes.now _ (search rules)
