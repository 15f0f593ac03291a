pub mod WorkedCompletions
mod OwnInterfaces
mod Walking
