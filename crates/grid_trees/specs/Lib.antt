pub mod GridJudgements
pub mod TreeCertificates
