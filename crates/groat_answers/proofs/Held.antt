-- One item more put in front of a buffer.
use Rattle.std.proofs.Common.{◌≡◌, ℕ, ◌<◌, ◌+◌, List, [], ◌∷◌, ◌++◌, length, take, drop, set, get_or}
use Rattle.std.proofs.Common.{add-one, arith, sym, ◌∙◌, ap}
use Rattle.std.specs.List.{AllZip}
use Rattle.std.proofs.Math.Seq.{take-suc}
use Rattle.std.proofs.lemmas.List.{take_more_set, drop-set-lt, drop-drop}
use Rattle.std.proofs.lemmas.Slice.Zip.{all_zipped_more}

-- the first i + 1 items are the first i and the one after them
take_next : {A : Type 0} (xs : List A) (i : ℕ) (x : A) →
    i < length xs → x ≡ get_or xs i x → take (i + 1) xs ≡ take i xs ++ x ∷ []
take_next xs i x inside same =
    rw (add-one i) (take-suc xs i x inside ∙ ap (λ z. take i xs ++ z ∷ []) (sym same))

-- what held for i items holds for i + 1
pub held_more : {A B : Type 0} (R : A → B → Type 0) (xs : List A) (ys : List B) (i : ℕ) (x : A) (y : B) →
    i < length xs → x ≡ get_or xs i x → i < length ys → AllZip R (take i xs) (take i ys) → R x y →
    AllZip R (take (i + 1) xs) (take (i + 1) (set ys i y))
held_more R xs ys i x y inside same within before now =
    rw (take_more_set ys i y within, take_next xs i x inside same) (all_zipped_more R _ _ x y before now)

-- the places after i + 1 are those that were
pub rest_less : {B : Type 0} (ys zs : List B) (i : ℕ) (y : B) →
    drop i ys ≡ drop i zs → drop (i + 1) (set ys i y) ≡ drop (i + 1) zs
rest_less ys zs i y same =
    drop-set-lt (i + 1) ys i y (omega arith)
    ∙ sym (drop-drop 1 i ys)
    ∙ ap (drop 1) same
    ∙ drop-drop 1 i zs
