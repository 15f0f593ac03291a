mod Crossing
mod Named
