mod Opened
mod Grown
mod Followed
mod Schemes
mod WorkedNames
mod Placed
