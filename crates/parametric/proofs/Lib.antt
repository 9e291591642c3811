-- `Unify`: the curve of each count. `Compare`: two lists walked at once. Both have the law that their promise names one
-- answer. `Counts`: the sentences of document 01 on the unified curve. `NoNan`: when a field is a NaN.
pub mod Unify
pub mod Compare
pub mod Counts
pub mod NoNan
