mod WorkedFrames
mod Written
