-- `Gamma`: the definition. `Promises`: what the call promises of it. `Inside`: the private function's precondition.
pub mod Gamma
pub mod Promises
pub mod Inside
