mod Facts
mod Numbered
mod Trials
mod WorkedElsewhere
mod WorkedHints
