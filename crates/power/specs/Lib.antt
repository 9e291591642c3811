-- `Root`: the whole square root. `Power`: a power by square roots and whole steps. `Inside`: what a guess at a root
-- keeps.
pub mod Root
pub mod Power
pub mod Inside
