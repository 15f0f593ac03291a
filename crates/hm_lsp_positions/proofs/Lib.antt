mod Applying
mod Kept
mod KnownStarts
mod Returns
mod Starts
mod Sums
mod Walking
mod WorkedPositions
