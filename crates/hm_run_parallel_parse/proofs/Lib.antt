pub mod Crossing
mod SpelledBefore
mod RunLemmas
mod PartLemmas
