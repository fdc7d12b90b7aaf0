-- The arguments and values of annotations as lists, and loops over them.
use Rattle.std.proofs.Common.{◌≡◌, ◌∙◌, ℕ, ◌+◌, ◌<◌, Bool, ◌&&◌, List, [], ◌∷◌, ◌++◌, map, drop, take, length, get_or, ap, sym, refl}
use Rattle.std.specs.List.{flat_map, list_all}
use Rattle.std.proofs.lemmas.Grind.{flat_map-append}
use Rattle.std.proofs.lemmas.List.{append-nil, drop_more, map_push, take_more}
use Rattle.java_syntax.specs.declared.annotation_trees.Anno as anno
use Rattle.java_syntax.specs.declared.annotation_trees.AnnoValue as value
use Rattle.java_syntax.specs.AnnotationTrees.{AnnoValueTree, ArgumentTree, anno_arguments_of, anno_value_of, anno_values_of, argument_of, arguments, values}
use Rattle.java_syntax.proofs.Rows.{arguments_are_items, values_are_items}
use Rattle.java_annotations.specs.Forms.{argument_list, value_list}

values_listed : (vs : List AnnoValueTree) → value_list (values vs) ≡ vs
values_listed [] = refl
values_listed (v ∷ vs) = ap (λ rest. v ∷ rest) (values_listed vs)

pub arguments_listed : (all : List ArgumentTree) → argument_list (arguments all) ≡ all
arguments_listed [] = refl
arguments_listed (a ∷ more) = ap (λ rest. a ∷ rest) (arguments_listed more)

-- the values in braces are those of the node's list
pub listed_values : (n : _) (row : value.Row_of-AnnoValue n) → value_list (anno_values_of row) ≡ map anno_value_of (value.items-the_row-AnnoValue n row)
listed_values n row = ap value_list (values_are_items n row) ∙ values_listed (map anno_value_of (value.items-the_row-AnnoValue n row))

-- the arguments of an annotation are those of the node's list
pub listed_arguments : (n : _) (row : anno.Row_of-AnnoArgument n) → argument_list (anno_arguments_of row) ≡ map argument_of (anno.items-the_row-AnnoArgument n row)
listed_arguments n row = ap argument_list (arguments_are_items n row) ∙ arguments_listed (map argument_of (anno.items-the_row-AnnoArgument n row))

-- a test of all elements, one element on
pub all_turn : {X Y : Type 0} (p : Y → Bool) (g : X → Y) (xs : List X) (i : ℕ) (x : X) → i < length xs → x ≡ get_or xs i x
    → list_all p (map g (drop i xs)) ≡ (p (g x) && list_all p (map g (drop (i + 1) xs)))
all_turn p g xs i x h is =
    ap (λ ys. list_all p (map g ys)) (drop_more xs i x h)
    ∙ ap (λ y. p (g y) && list_all p (map g (drop (i + 1) xs))) (sym is)

-- what the elements give, one element more
pub gives_more : {X Y : Type 0} (f : X → List Y) (xs : List X) (i : ℕ) (x : X) → i < length xs → x ≡ get_or xs i x
    → flat_map f (take (i + 1) xs) ≡ flat_map f (take i xs) ++ f x
gives_more f xs i x h is =
    ap (flat_map f) (take_more xs i x h ∙ ap (λ y. take i xs ++ y ∷ []) (sym is))
    ∙ flat_map-append f (take i xs) (x ∷ [])
    ∙ ap (λ ys. flat_map f (take i xs) ++ ys) (append-nil (f x))

-- the same where the elements are seen by a view
pub view_gives_more : {X Y Z : Type 0} (g : Z → X) (f : X → List Y) (xs : List Z) (i : ℕ) (x : Z) → i < length xs → x ≡ get_or xs i x
    → flat_map f (map g (take (i + 1) xs)) ≡ flat_map f (map g (take i xs)) ++ f (g x)
view_gives_more g f xs i x h is =
    ap (λ ys. flat_map f (map g ys)) (take_more xs i x h ∙ ap (λ y. take i xs ++ y ∷ []) (sym is))
    ∙ ap (flat_map f) (map_push g (take i xs) x)
    ∙ flat_map-append f (map g (take i xs)) (g x ∷ [])
    ∙ ap (λ ys. flat_map f (map g (take i xs)) ++ ys) (append-nil (f (g x)))
