pub mod Assembling
pub mod CertificateLines
pub mod Columns
pub mod Counts
pub mod Texts
