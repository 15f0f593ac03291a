mod Showing
mod WorkedCompletions
mod WorkedValues
mod WorkedSpans
mod Walked
