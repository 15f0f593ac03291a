-- A child is smaller than its parent. Only the models of src/ast.rt cite this.
pub mod OfTypes
pub mod OfPatterns
pub mod OfExpressions
