-- Lists of numbers in memory, one for each object.
use Rattle.std.proofs.Common.{◌≡◌, ◌∙◌, ap, sym, ℕ, suc, ◌<◌, get_or, List, [], length}
use Rattle.std.proofs.lemmas.List.{get_or-map}
use Rattle.std.specs.Prelude.{Vec}
use Rattle.frame_owners.specs.FrameOwners.{list_at, lists_in}

-- the list with a number from 1
pub row_at : {A : Type 0} (lists : List (Vec ℕ A)) (i n : ℕ) (row : Vec ℕ A) → suc i ≡ n → i < length lists → row ≡ get_or lists i row → row.items ≡ list_at (lists_in lists) n
row_at {A} lists i n row next within is =
    let items : Vec ℕ A → List ℕ = λ v. v.items in
    ap items is ∙ sym (get_or-map items lists i row [] within) ∙ ap (list_at (lists_in lists)) next
