-- `Promises`: what the promise rests on, and that it names one answer. `NoNan`: what is filled holds no NaN.
pub mod Promises
pub mod NoNan
