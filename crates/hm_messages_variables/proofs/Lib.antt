mod Scoped
mod WorkedLikes
