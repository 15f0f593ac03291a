mod Rests
mod Strings
mod SymbolRuns
mod WorkedContexts
mod WorkedPatterns
