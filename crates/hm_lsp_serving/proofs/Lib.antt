mod Turning
mod WorkedSessions
