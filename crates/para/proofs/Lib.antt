-- `Complement`: two's complement. `Counts`: how many numbers a type has. `Places`: seven numbers, place by place.
-- `Checks`: what the tag's tests tell. `Promises`: how a reading's promise is met, and that it names one answer.
-- `Worked`: examples.
pub mod Complement
pub mod Counts
pub mod Places
pub mod Checks
pub mod Promises
pub mod Worked
