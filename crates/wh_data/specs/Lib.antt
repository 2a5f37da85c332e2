-- What is asked and what is answered, as data, and the text of an answer.
pub mod Limits
pub mod Commands
pub mod ProblemData
pub mod AnswerData
pub mod RootPlaces
pub mod PresentationTexts
pub mod AnswerTexts
pub mod AnswerParts
pub mod Numberings
pub mod Statuses
pub mod Laws
