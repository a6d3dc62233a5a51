pub mod DesignText
pub mod ProofTexts
mod ReportTexts
mod TextLemmas
pub mod Words
