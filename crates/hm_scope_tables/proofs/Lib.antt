pub mod NameTables
pub mod SortedNames
pub mod NameMeanings
pub mod NameSetLemmas
pub mod SeveralLemmas
pub mod MeaningsTold
pub mod TextSets
pub mod AddedTexts
