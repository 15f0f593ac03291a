mod Chains
mod Fronts
mod WorkedLexemes
