-- `RowLaws`: what many lookups have to do with single ones. `Promises`: each promise names one answer.
pub mod RowLaws
pub mod Promises
