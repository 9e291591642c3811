-- `Laws`: what the laws that both lookups share give here. `Promises`: the promise names one answer.
pub mod Laws
pub mod Promises
