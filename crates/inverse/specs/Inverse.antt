-- The Rust's inverse, `lut_inverse_interp16` of document 01, in the document's letters: a table of n entries, a value
-- v. Here are its search, and the whole: the steps before the search, the search, and the steps after it. Assumes
-- nothing.
use Rattle.std.specs.Prelude.{ℕ, zero, suc, ◌+◌, ◌-◌, ◌/◌, List, leb, ltb, eqb, Result, Ok, Err}
use Rattle.table.specs.Choice.{pick}
use Rattle.lookup.specs.Lookup.{looked_up}
use Rattle.inverse_start.specs.Start.{leading_zeros, trailing_tops, zero_at_once, left_of, right_of}
use Rattle.inverse_tail.specs.Tail.{tail}

-- While r > l: x = floor((l+r)/2), look up x-1. The first exact hit leaves the search, with its x-1; above the value,
-- r = x-1; below it, l = x+1. With no hit the search ends with the x that it probed last. The last candidate, r = l, is
-- not probed. `fuel` bounds the number of probes, and r - l is always enough (the law `fuel_enough`).
unfoldable pub search : ℕ → List ℕ → ℕ → ℕ → ℕ → ℕ → Result ℕ ℕ
search zero t v l r last = Err last
search (suc fuel) t v l r last =
    let x = (l + r) / 2 in
    let y = looked_up t (x - 1) in
    let above = search fuel t v l (x - 1) x in
    let below = search fuel t v (x + 1) r x in
    let probed = pick (eqb y v) (Ok (x - 1)) (pick (ltb v y) above below) in
    pick (ltb l r) probed (Err last)

-- the search whole: before it no x was probed
unfoldable pub searched : List ℕ → ℕ → ℕ → ℕ → Result ℕ ℕ
searched t v l r = search (r - l) t v l r 0

-- a hit is the answer; with no hit the f64 steps follow
abbrev pub settled : List ℕ → ℕ → Result ℕ ℕ → ℕ
settled t v (Ok p) = p
settled t v (Err x) = tail t x v

-- the steps in order; if r ≤ l, the answer is 0
unfoldable pub inverted : List ℕ → ℕ → ℕ
inverted t v =
    pick (zero_at_once v (leading_zeros t) (trailing_tops t)) 0
    (pick (leb (right_of t) (left_of t)) 0
    (settled t v (searched t v (left_of t) (right_of t))))
