mod LinesInTurn
pub mod Chosen
