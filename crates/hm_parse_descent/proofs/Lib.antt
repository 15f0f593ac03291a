pub mod CommaLoops
pub mod Loops
pub mod TypeLoops
pub mod MarkLoops
pub mod PatternLoops
pub mod TypeDeclarationLoops
pub mod ExpressionLoops
pub mod ColonLoops
