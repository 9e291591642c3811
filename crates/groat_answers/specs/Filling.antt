-- A call that fills the front of a buffer.
use Rattle.std.specs.Prelude.{◌≡◌, ℕ, List, ◌++◌, take, drop, Result, Ok, Err}

-- a call is lent the first n places of the old buffer, and answers r: what it leaves there by `Returns`, and the places
-- after them, are the new buffer
abbrev pub Fills : {T R : Type 0} → (List T → R → List T → Type 0) → R → ℕ → List T → List T → Type 0
Fills {T} Returns r n old new =
    (left : List T) × Returns (take n old) r left × (new ≡ left ++ drop n old)

-- an answer without the number that it has when granted
abbrev pub uncounted : {E : Type 0} → Result ℕ E → Result (Unit {0}) E
uncounted (Ok n) = Ok tt
uncounted (Err why) = Err why
