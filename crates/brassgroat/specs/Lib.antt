-- `Carried`: how a promise of the library becomes one of the face. `Contract`: when a contract names one answer.
pub mod Carried
pub mod Contract
