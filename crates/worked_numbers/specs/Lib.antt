-- `Thirteen`: document 01's numbers, each as the answer that a public promise names.
pub mod Thirteen
