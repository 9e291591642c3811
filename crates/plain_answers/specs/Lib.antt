-- `Answers`: the fields of each answer as C and Rust see it.
pub mod Answers
