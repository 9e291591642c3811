-- `Inverse`: the search, and the whole. `Promises`: what the call promises of it. `Inside`: preconditions.
pub mod Inverse
pub mod Promises
pub mod Inside
