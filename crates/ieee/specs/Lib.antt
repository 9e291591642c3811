-- `Range`: the numbers that the laws speak of, and from 0 to one of them.
pub mod Range
