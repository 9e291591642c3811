-- `Decimal`: what a number's digits come to.
pub mod Decimal
