-- What the contracts of what is kept say.
pub mod Filling
