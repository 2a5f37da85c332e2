pub mod PrintedAnswers
pub mod RowCounts
pub mod PrintedPresentations
