-- One typed body more is laid.
use Rattle.std.proofs.Common.{◌≡◌, ◌∙◌, sym, ap, subst, arith, ℕ, ◌<◌, List, [], ◌∷◌, ◌++◌, All, get_or, length, map}
use Rattle.std.specs.List.{AllZip}
use Rattle.std.proofs.lemmas.List.{get_or-map, length-map}
use Rattle.std.proofs.lemmas.List.Elements.{All-get_or}

-- what holds of all holds of the next
pub holds_at : {X Y : Type 0} (P : Y → Type 0) (v : X → Y) (xs : List X) (i : ℕ) (x : X) → i < length xs → x ≡ get_or xs i x → All P (map v xs) → P (v x)
holds_at P v xs i x below is all =
    let long = length-map xs v in
    let below' : i < length (map v xs) = omega (arith, below, long) in
    let here : get_or (map v xs) i (v x) ≡ v x = get_or-map v xs i x (v x) below ∙ ap v (sym is) in
    subst P here (All-get_or P (map v xs) i (v x) below' all)

pub all_zip_one_more : {X Y Z : Type 0} (R : Y → Z → Type 0) (v : X → Y) (xs : List X) (zs : List Z) (x : X) (z : Z) → AllZip R (map v xs) zs → R (v x) z → AllZip R (map v (xs ++ x ∷ [])) (zs ++ z ∷ [])
all_zip_one_more R v [] [] x z before here = (here, tt)
all_zip_one_more R v [] (w ∷ zs) x z before here = absurd before
all_zip_one_more R v (y ∷ xs) [] x z before here = absurd before
all_zip_one_more R v (y ∷ xs) (w ∷ zs) x z before here = (before.0, all_zip_one_more R v xs zs x z before.1 here)
