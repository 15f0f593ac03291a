mod Crossing
mod Located
mod CheckSteps
