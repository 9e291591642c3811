-- Which bytes are a title: UTF-8 as table 3-7 of the Unicode Standard has it, of at most 60 characters, none of them a
-- control character, U+FFFE or U+FFFF. The text is read byte by byte. Assumes nothing.
use Rattle.std.specs.Prelude.{ℕ, ◌-◌, Bool, true, false, List, [], ◌∷◌, length, ltb, leb, eqb}
use Rattle.table.specs.Choice.{pick, both}
use Rattle.picture.specs.declared.title.Next.{Next}
use Rattle.picture.specs.Text.{total}

-- The second byte of a character is from 0x80 to 0xBF. It begins higher where the character would have a shorter form,
-- and after 0xC2, where it would be a control character,
unfoldable pub lowest_after : ℕ → ℕ
lowest_after lead = pick (eqb lead 0xC2) 0xA0 (pick (eqb lead 0xE0) 0xA0 (pick (eqb lead 0xF0) 0x90 0x80))

-- and ends lower where it would be a surrogate, or above U+10FFFF.
unfoldable pub highest_after : ℕ → ℕ
highest_after lead = pick (eqb lead 0xED) 0x9F (pick (eqb lead 0xF4) 0x8F 0xBF)

-- So many bytes from 0x80 to 0xBF follow the second.
unfoldable pub more_after : ℕ → ℕ
more_after lead = pick (ltb lead 0xE0) 0 (pick (ltb lead 0xF0) 1 2)

-- What may come next in a text is one of four. `First`: a character's first byte, or the end. `Tail low high n`: a byte
-- from low to high, and after it n bytes from 0x80 to 0xBF. `Edge`: the second byte after 0xEF. `Nothing`: it is no
-- title, whatever comes.

-- after the first byte of a character of two bytes or more
unfoldable pub after_lead : ℕ → Next
after_lead b = pick (eqb b 0xEF) Next.Edge (Next.Tail (lowest_after b) (highest_after b) (more_after b))

-- after the first byte of any: control characters are below 0x20 and at 0x7F, and no character begins with a byte from
-- 0x80 to 0xC1 or above 0xF4
unfoldable pub after_first : ℕ → Next
after_first b =
    pick (ltb b 0x20) Next.Nothing
    (pick (ltb b 0x7F) Next.First
    (pick (ltb b 0xC2) Next.Nothing
    (pick (leb b 0xF4) (after_lead b) Next.Nothing)))

-- where n bytes of a character are left
abbrev pub tails : ℕ → Next
tails n = pick (eqb n 0) Next.First (Next.Tail 0x80 0xBF (n - 1))

unfoldable pub after_tail : ℕ → ℕ → ℕ → ℕ → Next
after_tail low high n b = pick (both (leb low b) (leb b high)) (tails n) Next.Nothing

-- after 0xEF: U+FFFE and U+FFFF would be 0xEF, 0xBF, 0xBE and 0xEF, 0xBF, 0xBF
unfoldable pub after_edge : ℕ → Next
after_edge b = pick (eqb b 0xBF) (Next.Tail 0x80 0xBD 0) (after_tail 0x80 0xBE 1 b)

-- after a byte, and after each byte of a list in turn
abbrev pub after : Next → ℕ → Next
after Next.First b = after_first b
after (Next.Tail low high n) b = after_tail low high n b
after Next.Edge b = after_edge b
after Next.Nothing b = Next.Nothing

abbrev pub after_all : Next → List ℕ → Next
after_all s [] = s
after_all s (b ∷ l) = after_all (after s b) l

-- the text may end where a character may begin
abbrev pub is_whole : Next → Bool
is_whole Next.First = true
is_whole (Next.Tail low high n) = false
is_whole Next.Edge = false
is_whole Next.Nothing = false

-- A character has one byte that is not from 0x80 to 0xBF, its first.
unfoldable pub begins : ℕ → ℕ
begins b = pick (ltb b 0x80) 1 (pick (ltb b 0xC0) 0 1)

abbrev pub characters_in : List ℕ → ℕ
characters_in = total begins

abbrev pub well_formed : List ℕ → Bool
well_formed l = is_whole (after_all Next.First l)

abbrev pub is_title : List ℕ → Bool
is_title l = both (leb (characters_in l) 60) (well_formed l)

-- a title that is drawn has a character
abbrev pub is_shown : List ℕ → Bool
is_shown l = both (ltb 0 (length l)) (is_title l)
