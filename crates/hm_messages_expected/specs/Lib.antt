pub mod Expected
pub mod WorkedExpected
