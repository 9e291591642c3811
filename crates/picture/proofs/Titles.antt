-- Texts that are titles, and texts that are not, at each edge of the definition. Assumes nothing.
use mathlib.Core.Path.{◌≡◌, refl}
use mathlib.Core.Bool.{Bool, true, not}
use mathlib.Core.List.{List, [], ◌∷◌}
use Prim.Native.Nat.{ℕ}
use lib.ListN.{replicate}
use Rattle.table.specs.Choice.{both}
use Rattle.picture.specs.Title.{lowest_after, highest_after, more_after, after_lead, after_first, after_tail}
use Rattle.picture.specs.Title.{after_edge}
use Rattle.picture.specs.Title.{begins, is_title}

abbrev each : (List ℕ → Bool) → List (List ℕ) → Bool
each test [] = true
each test (l ∷ others) = both (test l) (each test others)

-- a character's bytes
abbrev two : ℕ → ℕ → List ℕ
two a b = a ∷ (b ∷ [])

abbrev three : ℕ → ℕ → ℕ → List ℕ
three a b c = a ∷ two b c

abbrev four : ℕ → ℕ → ℕ → ℕ → List ℕ
four a b c d = a ∷ three b c d

-- no character, or 60; U+0020 and U+007E; U+00A0 and U+07FF; U+0800, U+D7FF, U+E000, U+FFBF, U+FFC0 and U+FFFD; U+10000
-- and U+10FFFF
pub titles : each is_title
    ([] ∷ (replicate 60 0x57 ∷ (two 0x20 0x7E ∷ (two 0xC2 0xA0 ∷ (two 0xDF 0xBF ∷ (three 0xE0 0xA0 0x80 ∷ (three
    0xED 0x9F 0xBF ∷ (three 0xEE 0x80 0x80 ∷ (three 0xEF 0xBE 0xBF ∷ (three 0xEF 0xBF 0x80 ∷ (three 0xEF 0xBF 0xBD
    ∷ (four 0xF0 0x90 0x80 0x80 ∷ (four 0xF4 0x8F 0xBF 0xBF ∷ []))))))))))))) ≡ true
unfolding lowest_after highest_after more_after after_lead after_first after_tail after_edge begins
titles = refl

-- 61 characters; the control characters U+001F, U+007F and U+009F; long forms of U+007F, U+07FF and U+FFFF; the
-- surrogates U+D800 and U+DFFF; U+FFFE and U+FFFF; U+110000; a byte that begins none; one that follows none; ends too
-- soon
pub no_titles : each (λ l. not (is_title l))
    (replicate 61 0x57 ∷ (two 0x61 0x1F ∷ (two 0x61 0x7F ∷ (two 0xC2 0x9F ∷ (two 0xC1 0xBF ∷ (three 0xE0 0x9F 0xBF
    ∷ (four 0xF0 0x8F 0xBF 0xBF ∷ (three 0xED 0xA0 0x80 ∷ (three 0xED 0xBF 0xBF ∷ (three 0xEF 0xBF 0xBE ∷ (three
    0xEF 0xBF 0xBF ∷ (four 0xF4 0x90 0x80 0x80 ∷ (four 0xF5 0x80 0x80 0x80 ∷ (two 0x61 0x80 ∷ (two 0xE2 0x82 ∷ (two
    0xC3 0x61 ∷ [])))))))))))))))) ≡ true
unfolding lowest_after highest_after more_after after_lead after_first after_tail after_edge begins
no_titles = refl
