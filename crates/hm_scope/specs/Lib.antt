pub mod Outcome
pub mod Answers
pub mod PhaseAnswers
pub mod Synonyms
pub mod UsedTypes
pub mod NeededSynonyms
