-- `Tag`: what a curv tag is. `Answers`: the answer of a count. `Promises`: a tag's checks, and what a count promises.
pub mod Tag
pub mod Answers
pub mod Promises
