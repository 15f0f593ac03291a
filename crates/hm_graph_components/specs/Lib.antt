pub mod Closure
pub mod Digraph
pub mod Marks
pub mod NodeOrders
pub mod Worked
pub mod Checks
pub mod Reversed
