pub mod WorkedExpectations
