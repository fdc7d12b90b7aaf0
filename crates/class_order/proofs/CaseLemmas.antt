-- Lemmas on the least refusal of a list that grows.
use Rattle.std.proofs.Common.{◌≡◌, ◌≢◌, ◌∙◌, sym, ap, refl, arith, ℕ, ◌+◌, ◌<◌, Bool, true, false, true≢false, cond, Option, Some, None, List, [], ◌∷◌, ◌++◌, length, get_or, take, map}
use Rattle.std.specs.Prelude.{flat_map, filter, slice_get}
use Rattle.std.specs.Option.{option_map}
use Rattle.std.specs.List.{range_with_len}
use Rattle.rlc_base.specs.declared.code.Code.TheVariants as refused
use Rattle.std.proofs.lemmas.List.{flat_map_more, map_push, take_more}
use Rattle.std.proofs.lemmas.Option.{slice_get-map}
use Rattle.rlc_base.specs.declared.faults.Refusal.{Refusal}
use Rattle.refusal_order.specs.Refusals.{least, lesser, lesser_of, refused_at}
use Rattle.refusal_order.proofs.LeastLaws.{least-append}
use Rattle.class_names.proofs.NameLemmas.{range_push}
use Rattle.class_names.specs.ClassNames.{doubles, is_among_if_some, is_double, name_of_class, names_of}
use Rattle.class_order.specs.Declarations.{Declaration, class_name_of, class_names, name_of, place_of}
use Rattle.class_order.specs.Cases.{double_at, double_case}

flat_map_push : {X : Type 0} (f : X → List Refusal) (xs : List X) (x : X) → flat_map f (xs ++ x ∷ []) ≡ flat_map f xs ++ f x
flat_map_push f xs x = sym (flat_map_more f [] xs x)

-- the cases of one element more
pub least_push : {X : Type 0} (f : X → List Refusal) (xs : List X) (x : X) → least (flat_map f (xs ++ x ∷ [])) ≡ lesser_of (least (flat_map f xs)) (least (f x))
least_push f xs x = ap least (flat_map_push f xs x) ∙ least-append (flat_map f xs) (f x)

pub least_more : {X : Type 0} (f : X → List Refusal) (xs : List X) (i : ℕ) (x : X) → i < length xs → x ≡ get_or xs i x → least (flat_map f (take (i + 1) xs)) ≡ lesser_of (least (flat_map f (take i xs))) (least (f x))
least_more f xs i x within at =
    ap (λ ys. least (flat_map f ys)) (take_more xs i x within ∙ ap (λ y. take i xs ++ y ∷ []) (sym at)) ∙ least_push f (take i xs) x

pub least_more_of : {X Y : Type 0} (g : X → Y) (f : Y → List Refusal) (xs : List X) (i : ℕ) (x : X) → i < length xs → x ≡ get_or xs i x → least (flat_map f (map g (take (i + 1) xs))) ≡ lesser_of (least (flat_map f (map g (take i xs)))) (least (f (g x)))
least_more_of g f xs i x within at =
    ap (λ ys. least (flat_map f (map g ys))) (take_more xs i x within ∙ ap (λ y. take i xs ++ y ∷ []) (sym at))
    ∙ ap (λ ys. least (flat_map f ys)) (map_push g (take i xs) x) ∙ least_push f (map g (take i xs)) (g x)

-- the cases of one number more
pub least_next : (f : ℕ → List Refusal) (n : ℕ) → least (flat_map f (range_with_len 0 (n + 1))) ≡ lesser_of (least (flat_map f (range_with_len 0 n))) (least (f n))
least_next f n = ap (λ xs. least (flat_map f xs)) (range_push 0 n n (omega arith)) ∙ least_push f (range_with_len 0 n) n

-- a number at the begin of what is filtered passes the test
first_passes : (b : Bool) (p : ℕ → Bool) (x : ℕ) (xs ys : List ℕ) (y : ℕ) → p x ≡ b → cond b (x ∷ xs) xs ≡ y ∷ ys → (xs ≡ y ∷ ys → p y ≡ true) → p y ≡ true
first_passes true p x xs ys y is same rest = let equal : x ≡ y = cc in ap p (sym equal) ∙ is
first_passes false p x xs ys y is same rest = rest same

filtered_first : (p : ℕ → Bool) (xs ys : List ℕ) (y : ℕ) → filter p xs ≡ y ∷ ys → p y ≡ true
filtered_first p [] ys y same = absurd (let never : [] ≡ y ∷ ys = same in cc)
filtered_first p (x ∷ xs) ys y same = first_passes (p x) p x (filter p xs) ys y refl same (filtered_first p xs ys y)

-- a class that is a double is there, and so it is refused
refused_if_some : (o : Option Declaration) (front : List (List ℕ)) (more : Option Refusal) → is_among_if_some front (option_map name_of o) ≡ true → None ≡ lesser_of (least (double_at o)) more → ⊥
refused_if_some None front more among none = true≢false (sym among)
refused_if_some (Some d) front more among none = let never : None ≡ Some (lesser (refused_at refused.DoubleClass (place_of d)) more) = none in cc

name_at : (order : List Declaration) (n : ℕ) → slice_get (names_of (class_names order)) n ≡ option_map name_of (slice_get order n)
name_at order n = slice_get-map name_of_class (class_names order) n ∙ ap (option_map name_of_class) (slice_get-map class_name_of order n) ∙ both (slice_get order n)
  where
    both : (o : Option Declaration) → option_map name_of_class (option_map class_name_of o) ≡ option_map name_of o
    both None = refl
    both (Some d) = refl

pub doubles_are_refused : (order : List Declaration) (found : List ℕ) → found ≡ doubles (class_names order) → found ≢ [] → None ≡ least (flat_map (double_case order) found) → ⊥
doubles_are_refused order [] is some none = some refl
doubles_are_refused order (n ∷ ns) is some none =
    let names = names_of (class_names order) in
    let double = filtered_first (is_double names) (range_with_len 0 (length (class_names order))) ns n (sym is) in
    let among : is_among_if_some (take n names) (option_map name_of (slice_get order n)) ≡ true = ap (is_among_if_some (take n names)) (sym (name_at order n)) ∙ double in
    refused_if_some (slice_get order n) (take n names) (least (flat_map (double_case order) ns)) among (none ∙ least-append (double_case order n) (flat_map (double_case order) ns))
