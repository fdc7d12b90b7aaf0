-- Origins that are put into a set one after another.
use Rattle.std.proofs.Common.{◌≡◌, ◌∙◌, sym, ap, refl, subst, arith, ℕ, ◌+◌, ◌<◌, suc, zero, Some, None, List, [], ◌∷◌, ◌++◌, take, get_or, length, append_assoc}
use Rattle.std.specs.Prelude.{slice_get}
use Rattle.std.specs.List.{flat_map}
use Rattle.std.proofs.lemmas.List.{take_more}
use Rattle.std.proofs.lemmas.List.Sums.{fold-append}
use Rattle.std.proofs.lemmas.Grind.{flat_map-append}
use Rattle.std.proofs.lemmas.Option.{get_or_from_slice_get, slice_get_within}
use Rattle.std.specs.Result.{IsErrAnd}
use Rattle.std.specs.Prelude.{Result, Ok, Err, IfErr}
use Rattle.indexmap.specs.IndexSet.{insert_all, insert_key}
use Rattle.rlc_base.specs.declared.faults.Stop.{Stop}
use Rattle.reached_pairs.specs.Searches.{IsAt}
use Rattle.reached_pairs.proofs.ListLaws.{append_none, map_append}
use Rattle.control_actions.specs.declared.fact.Origin.{Origin}
use Rattle.flow_rules.specs.Births.{Birth}
use Rattle.body_origins.specs.Origins.{HasManyOrigins, origins_in, same_origin}
use Rattle.body_origins.specs.Pairs.{most_pairs}

-- the value of a loop at a place of the list
pub item_at : {X : Type 0} (xs : List X) (k : ℕ) (x : X) → k < length xs → x ≡ get_or xs k x → IsAt xs k x
item_at [] k x inside is = absurd (omega arith)
item_at (y ∷ xs) zero x inside is = ap Some (sym is)
item_at (y ∷ xs) (suc k) x inside is = item_at xs k x (omega arith) is

-- the first values of a list, and the next one
pub take_next : {X : Type 0} (xs : List X) (k : ℕ) (x : X) → IsAt xs k x → take (k + 1) xs ≡ take k xs ++ x ∷ []
take_next xs k x here = take_more xs k x (slice_get_within xs k x here) ∙ ap (λ y. take k xs ++ y ∷ []) (get_or_from_slice_get xs k x x here)

pub taken_next : {X : Type 0} (xs ys more : List X) (k : ℕ) (x : X) → IsAt xs k x → ys ≡ take k xs → more ≡ ys ++ x ∷ [] → more ≡ take (k + 1) xs
taken_next xs ys more k x here is pushed = pushed ∙ ap (λ zs. zs ++ x ∷ []) is ∙ sym (take_next xs k x here)

pub take_whole : {X : Type 0} (xs : List X) (k : ℕ) → slice_get xs k ≡ None → take k xs ≡ xs
take_whole [] zero h = refl
take_whole [] (suc k) h = refl
take_whole (x ∷ xs) zero h = absurd (let never : Some x ≡ None = h in cc)
take_whole (x ∷ xs) (suc k) h = ap (λ ys. x ∷ ys) (take_whole xs k h)

-- a list is its first values and the others
taken_rest : {X : Type 0} (xs : List X) (n : ℕ) → (rest : List X) × (xs ≡ take n xs ++ rest)
taken_rest [] zero = ([], refl)
taken_rest [] (suc n) = ([], refl)
taken_rest (x ∷ xs) zero = (x ∷ xs, refl)
taken_rest (x ∷ xs) (suc n) = let one = taken_rest xs n in (one.0, ap (λ ys. x ∷ ys) one.1)

-- what the first values of a list give, and the next one
pub flat_next : {X Y : Type 0} (f : X → List Y) (xs : List X) (k : ℕ) (x : X) → IsAt xs k x → flat_map f (take (k + 1) xs) ≡ flat_map f (take k xs) ++ f x
flat_next f xs k x here =
    ap (flat_map f) (take_next xs k x here) ∙ flat_map-append f (take k xs) (x ∷ []) ∙ ap (λ ys. flat_map f (take k xs) ++ ys) (sym (append_none (f x)))

-- the origins of some births, and then those of others
pub inserted_both : (held mid more : List Origin) (front back : List Birth) → mid ≡ insert_all same_origin held (origins_in front) → more ≡ insert_all same_origin mid (origins_in back)
    → more ≡ insert_all same_origin held (origins_in (front ++ back))
inserted_both held mid more front back before is =
    is ∙ ap (λ xs. insert_all same_origin xs (origins_in back)) before
    ∙ sym (fold-append (insert_key same_origin) held (origins_in front) (origins_in back))
    ∙ ap (insert_all same_origin held) (sym (map_append (λ (y : Birth). y.0) front back))

-- the origin of one birth more
pub inserted_next : (held mid more : List Origin) (births : List Birth) (k : ℕ) (x : Birth) → IsAt births k x → mid ≡ insert_all same_origin held (origins_in (take k births)) → more ≡ insert_key same_origin mid x.0
    → more ≡ insert_all same_origin held (origins_in (take (k + 1) births))
inserted_next held mid more births k x here before is =
    inserted_both held mid more (take k births) (x ∷ []) before is ∙ ap (λ xs. insert_all same_origin held (origins_in xs)) (sym (take_next births k x here))

-- what one value of a list gives is taken
pub flat_taken : {X : Type 0} (f : X → List Birth) (xs : List X) (k : ℕ) (x : X) → IsAt xs k x → (held mid more : List Origin)
    → mid ≡ insert_all same_origin held (origins_in (flat_map f (take k xs))) → more ≡ insert_all same_origin mid (origins_in (f x)) → more ≡ insert_all same_origin held (origins_in (flat_map f (take (k + 1) xs)))
flat_taken f xs k x here held mid more before is =
    inserted_both held mid more (flat_map f (take k xs)) (f x) before is
    ∙ ap (λ births. insert_all same_origin held (origins_in births)) (sym (flat_next f xs k x here))

pub none_left : (xs : List Origin) → length xs ≡ 0 → xs ≡ []
none_left [] h = refl
none_left (x ∷ xs) h = absurd (let never : suc (length xs) ≡ 0 = h in omega (arith, never))

-- among the origins of births, those of the first of them are too many
pub many_first : (births front rest : List Birth) (now : List Origin) → births ≡ front ++ rest → now ≡ insert_all same_origin [] (origins_in front) → most_pairs < length now
    → HasManyOrigins (origins_in births)
many_first births front rest now parts is many = (
  origins_in front,
  origins_in rest,
  (ap origins_in parts ∙ map_append (λ (y : Birth). y.0) front rest, subst (λ (xs : List Origin). most_pairs < length xs) is many),
)

-- those of the entry and of some first nodes
pub many_nodes : {X : Type 0} (f : X → List Birth) (xs : List X) (k : ℕ) (x : X) → IsAt xs k x → (entry : List Birth) (now : List Origin)
    → now ≡ insert_all same_origin [] (origins_in (entry ++ flat_map f (take (k + 1) xs))) → most_pairs < length now → HasManyOrigins (origins_in (entry ++ flat_map f xs))
many_nodes f xs k x here entry now is many =
    let one = taken_rest xs (k + 1) in
    many_first (entry ++ flat_map f xs) (entry ++ flat_map f (take (k + 1) xs)) (flat_map f one.0) now
    (ap (λ ys. entry ++ flat_map f ys) one.1 ∙ ap (λ ys. entry ++ ys) (flat_map-append f (take (k + 1) xs) one.0) ∙ sym (append_assoc entry (flat_map f (take (k + 1) xs)) (flat_map f one.0)))
    is many

-- the origins of the entry
pub entry_taken : {X : Type 0} (none mid : List Origin) (births entry : List Birth) (f : X → List Birth) (xs : List X) → none ≡ [] → births ≡ entry → mid ≡ insert_all same_origin none (origins_in births)
    → mid ≡ insert_all same_origin [] (origins_in (entry ++ flat_map f (take 0 xs)))
entry_taken none mid births entry f xs is same before =
    before ∙ ap (λ ys. insert_all same_origin ys (origins_in births)) is ∙ ap (λ ys. insert_all same_origin [] (origins_in ys)) (same ∙ append_none entry ∙ ap (λ ys. entry ++ flat_map f ys) (first_none xs))
  where
    first_none : {Y : Type 0} (ys : List Y) → [] ≡ take 0 ys
    first_none [] = refl
    first_none (y ∷ ys) = refl

-- the origins of the entry and of one node more
pub nodes_taken : {X : Type 0} (f : X → List Birth) (xs : List X) (k : ℕ) (x : X) → IsAt xs k x → (entry : List Birth) (mid more : List Origin)
    → mid ≡ insert_all same_origin [] (origins_in (entry ++ flat_map f (take k xs))) → more ≡ insert_all same_origin mid (origins_in (f x)) → more ≡ insert_all same_origin [] (origins_in (entry ++ flat_map f (take (k + 1) xs)))
nodes_taken f xs k x here entry mid more before is =
    inserted_both [] mid more (entry ++ flat_map f (take k xs)) (f x) before is
    ∙ ap (λ births. insert_all same_origin [] (origins_in births)) (append_assoc entry (flat_map f (take k xs)) (f x) ∙ ap (λ ys. entry ++ ys) (sym (flat_next f xs k x here)))

-- those of the entry alone are too many
pub many_none : (none mid : List Origin) (births entry rest : List Birth) → none ≡ [] → births ≡ entry → mid ≡ insert_all same_origin none (origins_in births) → most_pairs < length mid → HasManyOrigins (origins_in (entry ++ rest))
many_none none mid births entry rest is same before many =
    many_first (entry ++ rest) entry rest mid refl (before ∙ ap (λ ys. insert_all same_origin ys (origins_in births)) is ∙ ap (λ ys. insert_all same_origin [] (origins_in ys)) same) many

-- a fault that is passed on keeps its cause
pub passed_on : {A : Type 0} (r : Result A Stop) (stop : Stop) (P : Stop → Type 0) → IsErrAnd r (λ x. x ≡ stop) → P stop → IfErr r P
passed_on (Ok x) stop P same cause = tt
passed_on (Err e) stop P same cause = subst P (sym same) cause
