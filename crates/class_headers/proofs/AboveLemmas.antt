-- Lemmas on the lists of what stands above a class, and the hierarchy that they make.
use Rattle.std.proofs.Common.{◌≡◌, ◌∙◌, sym, ap, refl, subst, arith, inl, inr, ⊎_elim, ℕ, ◌+◌, ◌<◌, ◌≤◌, zero, suc, Bool, true, false, true≢false, cond, Option, Some, None, List, [], ◌∷◌, ◌++◌, length, get_or, take, map, zero-add}
use Rattle.std.specs.Prelude.{slice_get, filter, ◌⊎◌}
use Rattle.std.specs.List.{Contains, range_with_len}
use Rattle.std.specs.List.Sorted.{IsStrictlyIncreasing}
use Rattle.std.proofs.lemmas.Bool.{cases_lt}
use Rattle.std.proofs.lemmas.List.{get_or-map, get_or_past, length-map, length-take-le, map_push, take_more}
use Rattle.std.specs.Option.{option_map}
use Rattle.std.proofs.lemmas.List.Elements.{All-contains, Contains-get_or, filter_passes}
use Rattle.std.proofs.lemmas.List.FromFn.{get_or-range_with_len, length-range_with_len}
use Rattle.std.proofs.lemmas.List.Kept.{IsStrictlyIncreasing-filter}
use Rattle.std.proofs.lemmas.Option.{slice_get-map}
use Rattle.program_model.specs.declared.kinds.ClassId.{ClassId}
use Rattle.program_model.specs.declared.program.Class.{Class}
use Rattle.program_model.specs.declared.program.Program.{Program}
use Rattle.program_model.specs.Hierarchy as model
use Rattle.program_model.specs.Lookups.{class_at, optional}
use Rattle.rlc_base.specs.declared.code.Code.TheVariants as refused
use Rattle.refusal_order.specs.Refusals.{refused_at}
use Rattle.class_names.specs.declared.class_name.ClassName.{ClassName}
use Rattle.class_order.specs.declared.declared.Declared.{Declared}
use Rattle.class_headers.specs.declared.supers.Supers.{Supers}
use Rattle.class_names.specs.ClassNames.{class_number}
use Rattle.class_headers.specs.Cases.{IsCycleAt, IsCycleCase}
use Rattle.class_order.specs.Cases.{IsLeast}
use Rattle.class_headers.specs.Cycles.{marked_classes}
use Rattle.class_order.specs.Declarations.{Declaration, declaration_of, place_of}
use Rattle.class_headers.specs.Headers.{AllList, Header, ListsAbove, declared_header, declared_headers, header_of}
use Rattle.class_headers.specs.Search.{AreAbove, is_marked}
use Rattle.class_headers.specs.SuperTypes.{AreKnown, IsAboveItself, IsUnder, SuperTypes, itself, above, all_direct, declared_supers, direct_of, listed_at, object_above, right_above, supers_from, supers_of}
use Rattle.class_headers.proofs.KnownLemmas.{length-supers_from}

-- ---- the classes with a mark, in class order

range_rises : (n : ℕ) → IsStrictlyIncreasing (range_with_len 0 n)
range_rises n k within =
    let long = length-range_with_len 0 n in
    let first = get_or-range_with_len 0 n k 0 (omega (arith, long)) in
    let second = get_or-range_with_len 0 n (k + 1) 0 (omega (arith, long)) in
    omega (arith, first, second)

numbers_back : (ns : List ℕ) → map model.class_number (map class_number ns) ≡ ns
numbers_back [] = refl
numbers_back (n ∷ ns) = ap (λ xs. n ∷ xs) (numbers_back ns)

kept_number : (p : ℕ → Bool) (b : Bool) (n x : ℕ) (xs : List ℕ) → p n ≡ true → p x ≡ b → (Contains (x ∷ xs) n) → (Contains xs n → Contains (filter p xs) n) → Contains (cond b (x ∷ filter p xs) (filter p xs)) n
kept_number p true n x xs passes is (zero, within, at) rest = (zero, (omega arith), at)
kept_number p true n x xs passes is (suc k, within, at) rest = let found = rest (k, (omega arith), at) in (suc found.0, (let below = found.1 in omega arith), found.2)
kept_number p false n x xs passes is (zero, within, at) rest = absurd (true≢false (sym passes ∙ ap p (sym at) ∙ is))
kept_number p false n x xs passes is (suc k, within, at) rest = rest (k, (omega arith), at)

kept : (p : ℕ → Bool) (n : ℕ) (xs : List ℕ) → p n ≡ true → Contains xs n → Contains (filter p xs) n
kept p n [] passes has = absurd (let never = has.1 in omega arith)
kept p n (x ∷ xs) passes has = kept_number p (p x) n x xs passes refl has (kept p n xs passes)

mapped : (ns : List ℕ) (n : ℕ) → Contains ns n → Contains (map class_number ns) (class_number n)
mapped ns n has = (has.0, (let long = length-map ns class_number in let within = has.1 in omega (arith, long)), get_or-map class_number ns has.0 n (class_number n) has.1 ∙ ap class_number has.2)

marked_listed : (marks : List Bool) (d : ClassId) → is_marked marks d ≡ true → Contains (marked_classes marks) d
marked_listed marks d marked =
    let p : ℕ → Bool = λ n. get_or marks n false in
    ⊎_elim
    (λ below. mapped (filter p (range_with_len 0 (length marks))) d.0 (kept p d.0 (range_with_len 0 (length marks)) marked (d.0, (let long = length-range_with_len 0 (length marks) in omega (arith, long)), get_or-range_with_len 0 (length marks) d.0 d.0 below ∙ zero-add d.0)))
    (λ past. absurd (true≢false (sym marked ∙ get_or_past marks d.0 false past)))
    (cases_lt d.0 (length marks))

listed_marked : (marks : List Bool) (d : ClassId) → Contains (marked_classes marks) d → is_marked marks d ≡ true
listed_marked marks d has =
    let p : ℕ → Bool = λ n. get_or marks n false in
    let ns = filter p (range_with_len 0 (length marks)) in
    let long = length-map ns class_number in
    let within : has.0 < length ns = let w = has.1 in omega (arith, long) in
    let number : get_or ns has.0 0 ≡ d.0 = ap (λ (c : ClassId). c.0) (sym (get_or-map class_number ns has.0 0 d within) ∙ has.2) in
    ap p (sym number) ∙ All-contains (λ n. p n ≡ true) ns (get_or ns has.0 0) (filter_passes p (range_with_len 0 (length marks))) (Contains-get_or ns has.0 0 within)

pub lists_marked : (direct : List (List ClassId)) (c : ClassId) (marks : List Bool) → AreAbove direct c marks → ListsAbove direct c (marked_classes marks)
lists_marked direct c marks h = record {
  ordered = subst IsStrictlyIncreasing (sym (numbers_back (filter (λ n. get_or marks n false) (range_with_len 0 (length marks))))) (IsStrictlyIncreasing-filter (λ n. get_or marks n false) (range_with_len 0 (length marks)) (range_rises (length marks)));
  exact = λ d. ((λ has. (h.exact d).0 (listed_marked marks d has)), (λ under. marked_listed marks d ((h.exact d).1 under)));
}

-- ---- the hierarchy

-- each class has right above it what `direct` lists of it
abbrev pub HasDirect : Program → List (List ClassId) → Type 0
HasDirect p direct = (c : ClassId) (k : Class) → class_at p c ≡ Some k → model.direct_supers p k ≡ right_above direct c

under_there : (p : Program) (direct : List (List ClassId)) → HasDirect p direct → (c d : ClassId) → model.IsUnder p c d → IsUnder direct c d
under_there p direct same c d (model.itself x) = itself x
under_there p direct same c d (model.above x e y first rest) =
    above x e y (subst (λ (xs : List ClassId). Contains xs e) (same x first.0 first.1) first.2) (under_there p direct same e y rest)

nothing_past : (xs : List (List ClassId)) (n : ℕ) (c : ClassId) → length xs ≤ n → Contains (right_above xs (class_number n)) c → ⊥
nothing_past [] n c past has = let never = has.1 in omega arith
nothing_past (x ∷ xs) zero c past has = omega arith
nothing_past (x ∷ xs) (suc n) c past has = nothing_past xs n c (omega arith) has

class_there : (p : Program) (direct : List (List ClassId)) (c d : ClassId) → length p.classes.items ≡ length direct → Contains (right_above direct c) d → (k : Class) × (class_at p c ≡ Some k)
class_there p direct c d long has = some_class (slice_get p.classes.items c.0) refl
  where
    some_class : (o : Option Class) → slice_get p.classes.items c.0 ≡ o → (k : Class) × (class_at p c ≡ Some k)
    some_class (Some k) is = (k, is)
    some_class None is = absurd (⊎_elim (λ below. none_below p.classes.items c.0 below is) (λ past. nothing_past direct c.0 d (omega (arith, long)) has) (cases_lt c.0 (length p.classes.items)))
      where
        none_below : (xs : List Class) (n : ℕ) → n < length xs → slice_get xs n ≡ None → ⊥
        none_below [] n below is = omega arith
        none_below (x ∷ xs) zero below is = let never : Some x ≡ None = is in cc
        none_below (x ∷ xs) (suc n) below is = none_below xs n (omega arith) is

under_here : (p : Program) (direct : List (List ClassId)) → HasDirect p direct → length p.classes.items ≡ length direct → (c d : ClassId) → IsUnder direct c d → model.IsUnder p c d
under_here p direct same long c d (itself x) = model.itself x
under_here p direct same long c d (above x e y first rest) =
    let k = class_there p direct x e long first in
    model.above x e y (k.0, k.1, subst (λ (xs : List ClassId). Contains xs e) (sym (same x k.0 k.1)) first) (under_here p direct same long e y rest)

-- where no class stands above itself, and each class lists those above it, the table is a hierarchy
pub hierarchy_law : (p : Program) (direct : List (List ClassId)) → HasDirect p direct → length p.classes.items ≡ length direct → AreKnown direct → ((c : ClassId) → IsAboveItself direct c → ⊥) → ((c : ClassId) (k : Class) → class_at p c ≡ Some k → ListsAbove direct c k.above.items) → model.IsHierarchy p
hierarchy_law p direct same long known acyclic lists = record {
  supers = λ c k at. record {
    known = λ d first. (let within = known c d (subst (λ (xs : List ClassId). Contains xs d) (same c first.0 first.1) first.2) in omega (arith, within, long));
    acyclic = λ d first under. acyclic c (d, subst (λ (xs : List ClassId). Contains xs d) (same c first.0 first.1) first.2, under_there p direct same d c under);
    above = record {
      ordered = (lists c k at).ordered;
      exact = λ d. (
        (λ has. under_here p direct same long c d (((lists c k at).exact d).0 has)),
        (λ under. ((lists c k at).exact d).1 (under_there p direct same c d under)),
      );
    };
  };
}

some_declaration : (xs : List Declaration) (n : ℕ) → n < length xs → (d : Declaration) × (slice_get xs n ≡ Some d)
some_declaration [] n below = absurd (omega arith)
some_declaration (x ∷ xs) zero below = (x, refl)
some_declaration (x ∷ xs) (suc n) below = some_declaration xs n (omega arith)

-- a class above itself would be refused
pub no_cycle : (order : List Declaration) (direct : List (List ClassId)) → length order ≡ length direct → IsLeast (IsCycleCase order direct) None → (c : ClassId) → IsAboveItself direct c → ⊥
no_cycle order direct long none c cycle =
    ⊎_elim
    (λ below.
    let d = some_declaration order c.0 (omega (arith, long)) in
    let r = refused_at refused.CyclicSupers (place_of d.0) in
    let at : IsCycleAt direct c (slice_get order c.0) r = subst (λ o. IsCycleAt direct c o r) (sym d.1) (cycle, refl) in
    none r (c, at))
    (λ past. nothing_past direct c.0 cycle.0 past cycle.1)
    (cases_lt c.0 (length direct))

-- ---- the headers of the classes

headers_push : (ds : List Declaration) (ss : List SuperTypes) (d : Declaration) (s : SuperTypes) → length ds ≡ length ss → declared_headers (ds ++ d ∷ []) (ss ++ s ∷ []) ≡ declared_headers ds ss ++ declared_header d s ∷ []
headers_push [] [] d s same = refl
headers_push [] (x ∷ ss) d s same = absurd (omega arith)
headers_push (x ∷ ds) [] d s same = absurd (omega arith)
headers_push (x ∷ ds) (y ∷ ss) d s same = ap (λ hs. declared_header x y ∷ hs) (headers_push ds ss d s (omega arith))

-- one class more
pub headers_more : (order : List Declared) (supers : List Supers) (i : ℕ) (d : Declared) (s : Supers) → i < length order → i < length supers → d ≡ get_or order i d → s ≡ get_or supers i s
    → declared_headers (map declaration_of (take (i + 1) order)) (map supers_of (take (i + 1) supers)) ≡ declared_headers (map declaration_of (take i order)) (map supers_of (take i supers)) ++ declared_header (declaration_of d) (supers_of s) ∷ []
headers_more order supers i d s within inside at here =
    let first = take_more order i d within ∙ ap (λ x. take i order ++ x ∷ []) (sym at) in
    let second = take_more supers i s inside ∙ ap (λ x. take i supers ++ x ∷ []) (sym here) in
    let long = length-map (take i order) declaration_of ∙ length-take-le i order (omega arith) in
    let wide = length-map (take i supers) supers_of ∙ length-take-le i supers (omega arith) in
    (λ j. declared_headers (map declaration_of (first j)) (map supers_of (second j)))
    ∙ (λ j. declared_headers (map_push declaration_of (take i order) d j) (map_push supers_of (take i supers) s j))
    ∙ headers_push (map declaration_of (take i order)) (map supers_of (take i supers)) (declaration_of d) (supers_of s) (long ∙ sym wide)

pushed_at : (xs : List Class) (x k : Class) (n : ℕ) → slice_get (xs ++ x ∷ []) n ≡ Some k → (slice_get xs n ≡ Some k) ⊎ ((n ≡ length xs) × (x ≡ k))
pushed_at [] x k zero at = inr (refl, (let same : Some x ≡ Some k = at in cc))
pushed_at [] x k (suc n) at = absurd (let never : None ≡ Some k = at in cc)
pushed_at (y ∷ xs) x k zero at = inl at
pushed_at (y ∷ xs) x k (suc n) at = ⊎_elim (λ old. inl old) (λ last. inr ((let same = last.0 in omega arith), last.1)) (pushed_at xs x k n at)

pub lists_more : (direct : List (List ClassId)) (classes : List Class) (k : Class) (n : ℕ) → n ≡ length classes → AllList direct classes → ListsAbove direct (class_number n) k.above.items → AllList direct (classes ++ k ∷ [])
lists_more direct classes k n is old new c x at = ⊎_elim
    (λ before. old c x before)
    (λ last.
    let same : class_number n ≡ c = (let number = last.0 in let equal : n ≡ c.0 = omega arith in (λ i. record { 0 = equal i })) in
    subst (λ (y : Class). ListsAbove direct c y.above.items) last.1 (subst (λ (y : ClassId). ListsAbove direct y k.above.items) same new))
    (pushed_at classes k x c.0 at)

pub lists_none : (direct : List (List ClassId)) → AllList direct []
lists_none direct c k at = absurd (let never : None ≡ Some k = at in cc)

-- what stands right above a class by its header
abbrev direct_in : ClassId → Header → List ClassId
direct_in object h = optional h.super_class ++ h.interfaces ++ object_above object h.is_interface

rows_same : (object : ClassId) (classes : List ClassName) (first : ℕ) (ds : List Declaration) → map (direct_in object) (declared_headers ds (supers_from first classes object ds)) ≡ map (direct_of object) (supers_from first classes object ds)
rows_same object classes first [] = refl
rows_same object classes first (d ∷ ds) = ap (λ rows. direct_of object (declared_supers classes object (class_number first) d) ∷ rows) (rows_same object classes (first + 1) ds)

implied_same : (p : Program) (object : ClassId) (b : Bool) → p.core.object ≡ object → model.implied_super p b ≡ object_above object b
implied_same p object true is = ap (λ c. c ∷ []) is
implied_same p object false is = refl

pub has_direct : (p : Program) (object : ClassId) (classes : List ClassName) (order : List Declaration) → p.core.object ≡ object → map header_of p.classes.items ≡ declared_headers order (supers_from 0 classes object order) → HasDirect p (all_direct object (supers_from 0 classes object order))
has_direct p object classes order is headers c k at =
    let direct = all_direct object (supers_from 0 classes object order) in
    let rows : map (direct_in object) (map header_of p.classes.items) ≡ direct = ap (map (direct_in object)) headers ∙ rows_same object classes 0 order in
    let row : slice_get direct c.0 ≡ Some (direct_in object (header_of k)) =
    ap (λ xs. slice_get xs c.0) (sym rows) ∙ slice_get-map (direct_in object) (map header_of p.classes.items) c.0
    ∙ ap (option_map (direct_in object)) (slice_get-map header_of p.classes.items c.0 ∙ ap (option_map header_of) at) in
    ap (λ xs. optional k.sup ++ k.faces.items ++ xs) (implied_same p object k.interface is) ∙ sym (ap listed_at row)

headers_long : (ds : List Declaration) (ss : List SuperTypes) → length ds ≡ length ss → length (declared_headers ds ss) ≡ length ds
headers_long [] ss same = refl
headers_long (d ∷ ds) [] same = absurd (omega arith)
headers_long (d ∷ ds) (s ∷ ss) same = ap suc (headers_long ds ss (omega arith))

-- the table of the headers is a hierarchy
pub headers_hierarchy : (p : Program) (object : ClassId) (classes : List ClassName) (order : List Declaration) → p.core.object ≡ object → map header_of p.classes.items ≡ declared_headers order (supers_from 0 classes object order)
    → AreKnown (all_direct object (supers_from 0 classes object order)) → IsLeast (IsCycleCase order (all_direct object (supers_from 0 classes object order))) None → AllList (all_direct object (supers_from 0 classes object order)) p.classes.items → model.IsHierarchy p
headers_hierarchy p object classes order is headers known none lists =
    let supers = supers_from 0 classes object order in
    let wide = length-supers_from classes object 0 order in
    let rows : length (all_direct object supers) ≡ length order = length-map supers (direct_of object) ∙ wide in
    let long : length p.classes.items ≡ length (all_direct object supers) = sym (length-map p.classes.items header_of) ∙ ap length headers ∙ headers_long order supers (sym wide) ∙ sym rows in
    hierarchy_law p (all_direct object supers) (has_direct p object classes order is headers) long known (no_cycle order (all_direct object supers) (sym rows) none) (λ c k at. lists c k at)
