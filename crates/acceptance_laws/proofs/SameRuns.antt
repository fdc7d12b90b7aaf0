-- The method that a class runs, by the same tables.
use Rattle.std.proofs.Common.{◌≡◌, ◌∙◌, ap, refl, ℕ, zero, suc, Bool, ◌&&◌, Option, Some, None, List, [], ◌∷◌, length}
use Rattle.std.specs.Prelude.{◌||◌, not, slice_get, if◌then◌else◌}
use Rattle.std.specs.List.{filter, flat_map, list_all, list_any}
use Rattle.program_model.specs.declared.kinds.ClassId.{ClassId}
use Rattle.program_model.specs.declared.kinds.MethodId.{MethodId}
use Rattle.program_model.specs.declared.program.Method.{Method}
use Rattle.program_model.specs.declared.program.Program.{Program}
use Rattle.program_model.specs.Lookups.{class_at, method_at}
use Rattle.program_model.specs.Overrides.{are_under, carried_methods, carries, chain_behind, chain_of, class_in, has_code, has_code_in, inherited_methods, is_alike, is_carried, is_library, is_no_higher, method_run, methods_of, most_specific, run_of, super_classes, super_in}
use Rattle.program_model.specs.SuperTests.{classes_above}
use Rattle.acceptance_laws.specs.SameTables.{HasSameHead, HaveSameTables}
use Rattle.acceptance_laws.proofs.Alike.{above_same, all_same, any_same, count_same, filter_same, flat_same, interface_same, is_alike_same, library_same, method_same, methods_same, super_same, under_same}

-- ---- super classes

behind_same : (f g : ClassId → List ClassId) → ((c : ClassId) → f c ≡ g c) → (o : Option ClassId) → chain_behind o f ≡ chain_behind o g
behind_same f g same None = refl
behind_same f g same (Some c) = same c

chain_same : (p q : Program) → HaveSameTables p q → (n : ℕ) (c : ClassId) → chain_of p n c ≡ chain_of q n c
chain_same p q h zero c = refl
chain_same p q h (suc n) c =
    ap (λ (rest : List ClassId). c ∷ rest)
    (ap (λ (o : Option ClassId). chain_behind o (chain_of p n)) (super_same p q h c) ∙ behind_same (chain_of p n) (chain_of q n) (chain_same p q h n) (super_in (class_at q c)))

supers_same : (p q : Program) → HaveSameTables p q → (c : ClassId) → super_classes p c ≡ super_classes q c
supers_same p q h c = ap (λ (n : ℕ). chain_of p n c) (count_same p q h) ∙ chain_same p q h (length q.classes.items) c

-- ---- the methods alike to one

among_same : (p q : Program) → HaveSameTables p q → (n n' : Method) → HasSameHead n n' → (cs ds : List ClassId) → cs ≡ ds → filter (is_alike p n) (flat_map (methods_of p) cs) ≡ filter (is_alike q n') (flat_map (methods_of q) ds)
among_same p q h n n' b cs ds same =
    filter_same (is_alike p n) (is_alike q n') (is_alike_same p q h n n' b) (flat_map (methods_of p) cs)
    ∙ ap (filter (is_alike q n')) (flat_same (methods_of p) (methods_of q) (methods_same p q h) cs ∙ ap (flat_map (methods_of q)) same)

carries_same : (p q : Program) → HaveSameTables p q → (d k : ClassId) → carries p d k ≡ carries q d k
carries_same p q h d k =
    let library = library_same p q h k in
    let interface = interface_same p q h k in
    let under = under_same p q h k d in
    λ i. library i && not (interface i) && under i

carried_same : (p q : Program) → HaveSameTables p q → (c d : ClassId) → is_carried p c d ≡ is_carried q c d
carried_same p q h c d =
    let library = library_same p q h d in
    let interface = interface_same p q h d in
    let carrying : list_any (carries p d) (classes_above c (class_at p c)) ≡ list_any (carries q d) (classes_above c (class_at q c)) =
    any_same (carries p d) (carries q d) (carries_same p q h d) (classes_above c (class_at p c)) ∙ ap (list_any (carries q d)) (above_same p q h c) in
    λ i. library i && interface i && carrying i

pub inherited_same : (p q : Program) → HaveSameTables p q → (n n' : Method) → HasSameHead n n' → (c : ClassId) → inherited_methods p n c ≡ inherited_methods q n' c
inherited_same p q h n n' b c = among_same p q h n n' b (super_classes p c) (super_classes q c) (supers_same p q h c)

carried_methods_same : (p q : Program) → HaveSameTables p q → (n n' : Method) → HasSameHead n n' → (c : ClassId) → carried_methods p n c ≡ carried_methods q n' c
carried_methods_same p q h n n' b c =
    among_same p q h n n' b (filter (is_carried p c) (classes_above c (class_at p c))) (filter (is_carried q c) (classes_above c (class_at q c)))
    (filter_same (is_carried p c) (is_carried q c) (carried_same p q h c) (classes_above c (class_at p c)) ∙ ap (filter (is_carried q c)) (above_same p q h c))

-- ---- the most specific of several

class_in_same : (p q : Program) → HaveSameTables p q → (m : MethodId) → class_in (method_at p m) ≡ class_in (method_at q m)
class_in_same p q h m = method_same p q h class_in class_in refl (λ x y a. ap (λ (c : ClassId). Some c) a.class') m

are_under_same : (p q : Program) → HaveSameTables p q → (c d : Option ClassId) → are_under p c d ≡ are_under q c d
are_under_same p q h None d = refl
are_under_same p q h (Some c) None = refl
are_under_same p q h (Some c) (Some d) = under_same p q h c d

of_methods_same : (p q : Program) → HaveSameTables p q → (m o : MethodId) → are_under p (class_in (method_at p m)) (class_in (method_at p o)) ≡ are_under q (class_in (method_at q m)) (class_in (method_at q o))
of_methods_same p q h m o =
    let first = class_in_same p q h m in
    let second = class_in_same p q h o in
    let along : are_under p (class_in (method_at p m)) (class_in (method_at p o)) ≡ are_under p (class_in (method_at q m)) (class_in (method_at q o)) = λ i. are_under p (first i) (second i) in
    along ∙ are_under_same p q h (class_in (method_at q m)) (class_in (method_at q o))

no_higher_same : (p q : Program) → HaveSameTables p q → (m o : MethodId) → is_no_higher p m o ≡ is_no_higher q m o
no_higher_same p q h m o =
    let there = of_methods_same p q h m o in
    let back = of_methods_same p q h o m in
    λ i. there i || not (back i)

specific_same : (p q : Program) → HaveSameTables p q → (ms : List MethodId) → most_specific p ms ≡ most_specific q ms
specific_same p q h ms = filter_same (λ m. list_all (is_no_higher p m) ms) (λ m. list_all (is_no_higher q m) ms) (λ m. all_same (is_no_higher p m) (is_no_higher q m) (no_higher_same p q h m) ms) ms

-- ---- what runs

pub code_same : (p q : Program) → HaveSameTables p q → (m : MethodId) → has_code p m ≡ has_code q m
code_same p q h m = method_same p q h (has_code_in p) (has_code_in q) refl (λ x y a. (
    let library : is_library p x.class ≡ is_library q y.class = ap (is_library p) a.class' ∙ library_same p q h y.class in
    λ i. not (a.abstract i) || library i
    )) m

run_of_same : (p q : Program) → HaveSameTables p q → (ms carried : List MethodId) → run_of p ms carried ≡ run_of q ms carried
run_of_same p q h [] carried = ap (λ (xs : List MethodId). slice_get xs 0) (specific_same p q h carried)
run_of_same p q h (m ∷ ms) carried = ap (λ (b : Bool). if b then Some m else None) (code_same p q h m)

pub run_same : (p q : Program) → HaveSameTables p q → (n n' : Method) → HasSameHead n n' → (c : ClassId) → method_run p n c ≡ method_run q n' c
run_same p q h n n' b c =
    let own = inherited_same p q h n n' b c in
    let carried = carried_methods_same p q h n n' b c in
    let along : run_of p (inherited_methods p n c) (carried_methods p n c) ≡ run_of p (inherited_methods q n' c) (carried_methods q n' c) = λ i. run_of p (own i) (carried i) in
    along ∙ run_of_same p q h (inherited_methods q n' c) (carried_methods q n' c)
