-- How long a text is in XML. Assumes nothing.
use Rattle.std.specs.Prelude.{ℕ, ◌+◌, List, [], ◌∷◌, eqb}
use Rattle.table.specs.Choice.{pick}

-- what the bytes of a text count for, added up
abbrev pub total : (ℕ → ℕ) → List ℕ → ℕ
total f [] = 0
total f (b ∷ l) = f b + total f l

-- `&` is written as &amp;, `<` as &lt;, `>` as &gt;, and any other byte as it is
unfoldable pub escaped_width : ℕ → ℕ
escaped_width b = pick (eqb b 38) 5 (pick (eqb b 60) 4 (pick (eqb b 62) 4 1))

abbrev pub escaped_length : List ℕ → ℕ
escaped_length = total escaped_width
