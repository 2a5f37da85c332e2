-- What a text means, from its bytes up to problems and answers that are read.
pub mod RankLines
pub mod Problems
pub mod RefusalTexts
pub mod Certificates
pub mod VerdictWords
pub mod ReadingBack
pub mod CertificateTexts
pub mod Laws
