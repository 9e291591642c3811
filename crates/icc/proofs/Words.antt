-- Numbers written one after the other and read back, stated once over how wide a number is. Assumes nothing.
use mathlib.Core.Path.{◌≡◌, ◌∙◌, refl, sym, ap}
use mathlib.Core.List.{List, [], ◌∷◌, ◌++◌, append_assoc, append-nil}
use Prim.Native.Nat.{ℕ, zero, suc, ◌+◌, ◌*◌, ◌≤◌, ◌<◌, zero-le}
use native.Mathlib.Nat.{add-zero, mul-zero, mul-suc, mul-add, mul-le-mul_left, le_of_suc-le-suc, not-suc-le-zero}
use native.Mathlib.Numerals.{add-one}
use native.Mathlib.Omega.{arith}
use lib.ListN.{length, get_or, take, drop, length-append}
use lib.Seq.{sets, length-sets, take-add, take_all, take-suc, drop-drop, ext_get_or}
use Rattle.table.specs.Fill.{tabulated}
use Rattle.table.proofs.Fill.{length_tabulated, get_or_tabulated}
use Rattle.icc.specs.Bytes.{EightBits, be16, be32, bytes16, bytes32}
use Rattle.icc.specs.Words.{in_turn}
use Rattle.icc.proofs.Numbers.{length_bytes16, length_bytes32, be16_bytes, be32_bytes, bytes_be16, bytes_be32}
use Rattle.icc.proofs.Stores.{take_sets}

-- How a number stands in a tag: as so many bytes; it is read where its bytes stand, and the one that is read has the
-- bytes that stand there.
pub record Form (wide : ℕ) (be : List ℕ → ℕ → ℕ) (bytes : ℕ → List ℕ) : Type 0 where
  pub long : (x : ℕ) → length (bytes x) ≡ wide
  pub back : (p : List ℕ) (i x : ℕ) (q : List ℕ) → length p ≡ i → be (p ++ (bytes x ++ q)) i ≡ x
  pub kept : (b : List ℕ) → EightBits b → (i : ℕ) → i + wide ≤ length b → bytes (be b i) ≡ take wide (drop i b)

pub two_bytes : Form 2 be16 bytes16
two_bytes = record { long = length_bytes16; back = be16_bytes; kept = bytes_be16 }

pub four_bytes : Form 4 be32 bytes32
four_bytes = record { long = length_bytes32; back = be32_bytes; kept = bytes_be32 }

module _ {wide : ℕ} {be : List ℕ → ℕ → ℕ} {bytes : ℕ → List ℕ} (form : Form wide be bytes) where
  words_append : (s t : List ℕ) → in_turn bytes (s ++ t) ≡ in_turn bytes s ++ in_turn bytes t
  unfolding in_turn
  words_append [] t = refl
  words_append (x ∷ s) t = rw (words_append s t) (sym (append_assoc (bytes x) (in_turn bytes s) (in_turn bytes t)))

  words_one : (x : ℕ) → in_turn bytes (x ∷ []) ≡ bytes x
  unfolding in_turn
  words_one x = append-nil (bytes x)

  pub length_words : (l : List ℕ) → length (in_turn bytes l) ≡ wide * length l
  unfolding in_turn
  length_words [] = sym (mul-zero wide)
  length_words (x ∷ l) =
      omega (arith, length-append (bytes x) (in_turn bytes l), form.long x, length_words l, mul-suc wide (length l))

  -- of numbers that stand after k bytes, number i is read at k + wide * i
  pub word_back : (l p : List ℕ) (k i : ℕ) → length p ≡ k → i < length l
      → be (p ++ in_turn bytes l) (k + wide * i) ≡ get_or l i 0
  unfolding in_turn
  word_back [] p k i e h = absurd (not-suc-le-zero h)
  word_back (x ∷ l) p k zero e h = rw (mul-zero wide, add-zero k) (form.back p k x (in_turn bytes l) e)
  word_back (x ∷ l) p k (suc i) e h =
      let on : k + wide * suc i ≡ k + wide + wide * i = omega (arith, mul-suc wide i) in
      let here : length (p ++ bytes x) ≡ k + wide = omega (arith, length-append p (bytes x), form.long x) in
      rw (on, ← append_assoc p (bytes x) (in_turn bytes l))
      (word_back l (p ++ bytes x) (k + wide) i here (le_of_suc-le-suc h))

  -- Numbers that are written in turn are read back. [icc]
  pub words_back : (p l : List ℕ) (k : ℕ) → length p ≡ k
      → tabulated (λ i. be (p ++ in_turn bytes l) (k + wide * i)) (length l) ≡ l
  words_back p l k e =
      let f : ℕ → ℕ = λ i. be (p ++ in_turn bytes l) (k + wide * i) in
      let long = length_tabulated f (length l) in
      ext_get_or 0 (tabulated f (length l)) l long (λ i h.
      let below : i < length l = omega arith in
      get_or_tabulated f (length l) i 0 below ∙ word_back l p k i e below)

  -- The bytes of the n numbers that are read after byte k are the bytes that stand there. [icc]
  pub words_kept : (b : List ℕ) → EightBits b → (k n : ℕ) → k + wide * n ≤ length b
      → in_turn bytes (tabulated (λ i. be b (k + wide * i)) n) ≡ take (wide * n) (drop k b)
  unfolding in_turn tabulated
  words_kept b w k zero h = rw (mul-zero wide) refl
  words_kept b w k (suc n) h =
      let more : wide * suc n ≡ wide * n + wide = omega (arith, mul-suc wide n) in
      let f : ℕ → ℕ = λ i. be b (k + wide * i) in
      words_append (tabulated f n) (f n ∷ [])
      ∙ ap (λ (l : List ℕ). l ++ in_turn bytes (f n ∷ [])) (words_kept b w k n (omega arith))
      ∙ ap (λ (l : List ℕ). take (wide * n) (drop k b) ++ l) (words_one (f n)
      ∙ form.kept b w (k + wide * n) (omega arith))
      ∙ ap (λ (l : List ℕ). take (wide * n) (drop k b) ++ take wide l) (sym (drop-drop (wide * n) k b))
      ∙ sym (ap (λ (m : ℕ). take m (drop k b)) more ∙ take-add (wide * n) wide (drop k b))

  -- The invariant of a loop that stores the numbers l after the first k bytes of a buffer, one at each turn: after i
  -- turns the buffer begins with those bytes and the first i numbers. A loop's proof needs these laws of it and nothing
  -- else.
  pub record Storing (l old : List ℕ) (k i : ℕ) (buffer : List ℕ) : Type 0 where
    pub inside : i ≤ length l
    pub size : length buffer ≡ length old
    pub holds : take (k + wide * i) buffer ≡ take k old ++ in_turn bytes (take i l)

  pub storing_start : (l old : List ℕ) (k : ℕ) → Storing l old k 0 old
  unfolding in_turn
  storing_start l old k =
      record { inside = zero-le; size = refl; holds = rw (mul-zero wide, add-zero k) (sym (append-nil (take k old))) }

  module _ {l old : List ℕ} {k i : ℕ} {buffer : List ℕ} (s : Storing l old k i buffer)
      (room : length old ≡ k + wide * length l) where
    pub storing_more : {later : List ℕ} → i < length l → later ≡ sets buffer (k + wide * i) (bytes (get_or l i 0))
        → Storing l old k (i + 1) later
    storing_more {later} h e =
        let x = get_or l i 0 in
        let within : i + 1 ≤ length l = omega arith in
        let next : k + wide * i + length (bytes x) ≡ k + wide * (i + 1) =
        omega (arith, form.long x, mul-add wide i 1) in
        let stored : take (k + wide * (i + 1)) (sets buffer (k + wide * i) (bytes x))
        ≡ take (k + wide * i) buffer ++ bytes x =
        take_sets buffer (k + wide * i) (bytes x) (k + wide * (i + 1)) next
        (omega (arith, s.size, mul-le-mul_left wide within)) in
        record {
          inside = within;
          size = ap length e ∙ length-sets buffer (k + wide * i) (bytes x) ∙ s.size;
          holds =
              ap (take (k + wide * (i + 1))) e
              ∙ stored
              ∙ rw (
                s.holds,
                ← words_one x,
                append_assoc (take k old) (in_turn bytes (take i l)) (in_turn bytes (x ∷ [])),
                ← words_append (take i l) (x ∷ []),
                add-one i,
                take-suc l i 0 h,
              ) refl;
        }

    pub storing_done : length l ≤ i → buffer ≡ take k old ++ in_turn bytes l
    storing_done h =
        let all : length buffer ≤ k + wide * i = omega (arith, s.size, mul-le-mul_left wide h) in
        sym (take_all (k + wide * i) buffer all) ∙ s.holds
        ∙ ap (λ (t : List ℕ). take k old ++ in_turn bytes t) (take_all i l h)
