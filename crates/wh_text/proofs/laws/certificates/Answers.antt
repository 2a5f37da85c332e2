use Rattle.wh_text.proofs.ExactCertificates.{reads_certificates}
use Rattle.wh_text.proofs.laws.certificates.Goals as goal

pub returns : goal.returns
returns c = reads_certificates
