pub mod WorkedJoints
