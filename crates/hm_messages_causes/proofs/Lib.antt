pub mod WorkedCauses
