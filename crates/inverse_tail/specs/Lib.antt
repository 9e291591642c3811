-- `Tail`: the f64 steps. `Inside`: preconditions.
pub mod Tail
pub mod Inside
