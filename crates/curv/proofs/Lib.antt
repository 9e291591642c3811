-- `Checks`: what the tag's tests tell. `Entries`: how wide a tag's entries are. `Promises`: how a count's promise is
-- met, and that it names one answer. `Worked`: examples.
pub mod Checks
pub mod Entries
pub mod Promises
pub mod Worked
