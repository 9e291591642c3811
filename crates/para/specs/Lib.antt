-- `Signed`: two's complement. `Tag`: what a para tag is. `Answers`: the answer of a reading. `Promises`: a tag's
-- checks, and what a reading promises.
pub mod Signed
pub mod Tag
pub mod Answers
pub mod Promises
