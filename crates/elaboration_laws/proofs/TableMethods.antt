-- The methods that a class of the table lists are those that are written in it, in their order.
use Rattle.std.proofs.Common.{◌≡◌, ◌∙◌, sym, ap, refl, subst, arith, ℕ, zero, suc, ◌+◌, ◌<◌, Bool, true, false, cond, Option, Some, None, List, [], ◌∷◌, ◌++◌, All, length, map, zip}
use Rattle.std.specs.Prelude.{nat_eq, slice_get}
use Rattle.std.specs.List.{AllZip, filter}
use Rattle.std.specs.Option.{IsSomeAnd}
use Rattle.std.proofs.lemmas.Bool.{eq-eqb, eqb-true}
use Rattle.std.proofs.lemmas.List.Elements.{All-cons, All-nil}
use Rattle.program_model.specs.declared.kinds.ClassId.{ClassId}
use Rattle.program_model.specs.declared.kinds.MethodId.{MethodId}
use Rattle.program_model.specs.declared.program.Method.{Method}
use Rattle.class_names.specs.declared.class_name.ClassName.{ClassName}
use Rattle.class_names.specs.ClassNames.{class_number}
use Rattle.class_table.specs.ClassOrderDeclarations.{Declaration}
use Rattle.class_table.specs.ClassDeclarationsMembers.{Written, WrittenMethod, methods_from, methods_of, methods_written, written_in}
use Rattle.class_table.specs.Methods.{IsMethod}
use Rattle.class_table.specs.Numbers.{numbers_where}

-- ---- the methods of one class among all

abbrev owner : WrittenMethod → ClassId
owner w = w.class'

abbrev is_of : ℕ → ClassId → Bool
is_of n o = nat_eq o.0 n

abbrev is_owned : ℕ → WrittenMethod → Bool
is_owned n w = nat_eq w.class'.0 n

filter_both : {X : Type 0} (test : X → Bool) (xs ys : List X) → filter test (xs ++ ys) ≡ filter test xs ++ filter test ys
filter_both test [] ys = refl
filter_both {X} test (x ∷ xs) ys = by (test x) (filter_both test xs ys)
  where
    by : (b : Bool) → filter test (xs ++ ys) ≡ filter test xs ++ filter test ys → cond b (x ∷ filter test (xs ++ ys)) (filter test (xs ++ ys)) ≡ cond b (x ∷ filter test xs) (filter test xs) ++ filter test ys
    by true same = ap (λ zs. x ∷ zs) same
    by false same = same

differ : (n m : ℕ) → n < m → nat_eq m n ≡ false
differ n m less = by (nat_eq m n) refl
  where
    by : (b : Bool) → nat_eq m n ≡ b → b ≡ false
    by true is = absurd (let same = eqb-true m n is in omega (arith, less, same))
    by false is = refl

all_owned : (n : ℕ) (d : Declaration) (ws : List Written) → filter (is_owned n) (methods_written (class_number n) d ws) ≡ methods_written (class_number n) d ws
all_owned n d [] = refl
all_owned n d (w ∷ ws) =
    let x : WrittenMethod = record { class' = class_number n; declaration = d; written = w } in
    let rest : List WrittenMethod = filter (is_owned n) (methods_written (class_number n) d ws) in
    ap (λ b. cond b (x ∷ rest) rest) (eq-eqb n n refl) ∙ ap (λ ys. x ∷ ys) (all_owned n d ws)

none_owned : (n m : ℕ) (d : Declaration) (ws : List Written) → nat_eq m n ≡ false → filter (is_owned n) (methods_written (class_number m) d ws) ≡ []
none_owned n m d [] other = refl
none_owned n m d (w ∷ ws) other =
    let x : WrittenMethod = record { class' = class_number m; declaration = d; written = w } in
    let rest : List WrittenMethod = filter (is_owned n) (methods_written (class_number m) d ws) in
    ap (λ b. cond b (x ∷ rest) rest) other ∙ none_owned n m d ws other

none_later : (names : List ClassName) (n first : ℕ) (ds : List Declaration) → n < first → filter (is_owned n) (methods_from first names ds) ≡ []
none_later names n first [] less = refl
none_later names n first (d ∷ ds) less =
    filter_both (is_owned n) (methods_of names (class_number first) d) (methods_from (first + 1) names ds)
    ∙ ap (λ (xs : List WrittenMethod). xs ++ filter (is_owned n) (methods_from (first + 1) names ds)) (none_owned n first d (written_in names d) (differ n first less))
    ∙ none_later names n (first + 1) ds (omega (arith, less))

differ_behind : (n m : ℕ) → n < m → nat_eq n m ≡ false
differ_behind n m less = by (nat_eq n m) refl
  where
    by : (b : Bool) → nat_eq n m ≡ b → b ≡ false
    by true is = absurd (let same = eqb-true n m is in omega (arith, less, same))
    by false is = refl

same_some : {X : Type 0} (x y : X) → ◌≡◌ {A = Option X} (Some x) (Some y) → x ≡ y
same_some x y h = cc

none_is_some : {X : Type 0} (x : X) → ◌≡◌ {A = Option X} None (Some x) → ⊥
none_is_some x h = cc

append_none : {X : Type 0} (xs ys : List X) → ys ≡ [] → xs ++ ys ≡ xs
append_none [] ys none = none
append_none (x ∷ xs) ys none = ap (λ zs. x ∷ zs) (append_none xs ys none)

pub owned_are : (names : List ClassName) (first i : ℕ) (ds : List Declaration) (d : Declaration) → slice_get ds i ≡ Some d → filter (is_owned (first + i)) (methods_from first names ds) ≡ methods_of names (class_number (first + i)) d
owned_are names first i [] d at = absurd (none_is_some d at)
owned_are names first zero (x ∷ ds) d at =
    let same : first + 0 ≡ first = omega arith in
    let mine : List WrittenMethod = methods_of names (class_number first) x in
    let P : ℕ → Type 0 = λ n. filter (is_owned n) (methods_from first names (x ∷ ds)) ≡ methods_of names (class_number n) d in
    subst P (sym same)
    (filter_both (is_owned first) mine (methods_from (first + 1) names ds)
    ∙ append_none (filter (is_owned first) mine) (filter (is_owned first) (methods_from (first + 1) names ds)) (none_later names first (first + 1) ds (omega arith))
    ∙ all_owned first x (written_in names x)
    ∙ ap (methods_of names (class_number first)) (same_some x d at))
owned_are names first (suc i) (x ∷ ds) d at =
    let same : first + 1 + i ≡ first + suc i = omega arith in
    let P : ℕ → Type 0 = λ n. filter (is_owned n) (methods_from (first + 1) names ds) ≡ methods_of names (class_number n) d in
    let n : ℕ = first + suc i in
    filter_both (is_owned n) (methods_of names (class_number first) x) (methods_from (first + 1) names ds)
    ∙ ap (λ (xs : List WrittenMethod). xs ++ filter (is_owned n) (methods_from (first + 1) names ds)) (none_owned n first x (written_in names x) (differ_behind first n (omega arith)))
    ∙ subst P same (owned_are names (first + 1) i ds d at)

-- ---- their numbers

abbrev IsAt : List ClassName → (ℕ → Option Method) → ℕ → WrittenMethod → Type 0
IsAt names lookup k w = IsSomeAnd (lookup k) (IsMethod names w)

numbers_by : (names : List ClassName) (lookup : ℕ → Option Method) (n first : ℕ) (w : WrittenMethod) (ws : List WrittenMethod) (b : Bool) → IsAt names lookup first w → AllZip (IsAt names lookup) (numbers_where (is_of n) (first + 1) (map owner ws)) (filter (is_owned n) ws) → AllZip (IsAt names lookup) (cond b (first ∷ numbers_where (is_of n) (first + 1) (map owner ws)) (numbers_where (is_of n) (first + 1) (map owner ws))) (cond b (w ∷ filter (is_owned n) ws) (filter (is_owned n) ws))
numbers_by names lookup n first w ws true one rest = (one, rest)
numbers_by names lookup n first w ws false one rest = rest

numbers_at : (names : List ClassName) (lookup : ℕ → Option Method) (n first : ℕ) (ws : List WrittenMethod) (ms : List Method) → ((i : ℕ) → lookup (first + i) ≡ slice_get ms i) → AllZip (IsMethod names) ws ms → AllZip (IsAt names lookup) (numbers_where (is_of n) first (map owner ws)) (filter (is_owned n) ws)
numbers_at names lookup n first [] ms found zip = tt
numbers_at names lookup n first (w ∷ ws) [] found zip = absurd zip
numbers_at names lookup n first (w ∷ ws) (m ∷ ms) found zip =
    let start : first + 0 ≡ first = omega arith in
    let here : lookup first ≡ Some m = ap lookup (sym start) ∙ found 0 in
    numbers_by names lookup n first w ws (nat_eq w.class'.0 n) (subst (λ o. IsSomeAnd o (IsMethod names w)) (sym here) zip.0)
    (numbers_at names lookup n (first + 1) ws ms (λ i. (let same : first + 1 + i ≡ first + suc i = omega arith in ap lookup same ∙ found (suc i))) zip.1)

-- what a class lists, beside what is written in it
abbrev pub IsListed : List ClassName → (ℕ → Option Method) → ClassId → Declaration → MethodId × Written → Type 0
IsListed names lookup c d w = IsSomeAnd (lookup w.0.0) (IsMethod names (record { class' = c; declaration = d; written = w.1 }))

pairs_listed : (names : List ClassName) (lookup : ℕ → Option Method) (c : ClassId) (d : Declaration) (ids : List MethodId) (ws : List Written) → AllZip (IsAt names lookup) (map (λ m. m.0) ids) (methods_written c d ws) → All (IsListed names lookup c d) (zip ids ws)
pairs_listed names lookup c d [] ws all = All-nil (IsListed names lookup c d)
pairs_listed names lookup c d (m ∷ ids) [] all = absurd all
pairs_listed names lookup c d (m ∷ ids) (w ∷ ws) all = All-cons (IsListed names lookup c d) (m, w) (zip ids ws) all.0 (pairs_listed names lookup c d ids ws all.1)

-- beside the methods that the class with this number lists stand those that are written in it, where the table is made of these
-- declarations
owned_listed : (names : List ClassName) (order : List Declaration) (ms : List Method) (n : ℕ) (d : Declaration) (ids : List MethodId) → AllZip (IsMethod names) (methods_from 0 names order) ms → slice_get order n ≡ Some d → map (λ m. m.0) ids ≡ numbers_where (is_of n) 0 (map owner (methods_from 0 names order)) → AllZip (IsAt names (λ k. slice_get ms k)) (map (λ m. m.0) ids) (methods_written (class_number n) d (written_in names d))
owned_listed names order ms n d ids zipped at same =
    let lookup : ℕ → Option Method = λ k. slice_get ms k in
    let start : 0 + n ≡ n = omega arith in
    let P : ℕ → Type 0 = λ k. filter (is_owned k) (methods_from 0 names order) ≡ methods_of names (class_number k) d in
    let owned : filter (is_owned n) (methods_from 0 names order) ≡ methods_of names (class_number n) d = subst P start (owned_are names 0 n order d at) in
    let all = numbers_at names lookup n 0 (methods_from 0 names order) ms (λ i. (let from : 0 + i ≡ i = omega arith in ap lookup from)) zipped in
    let Q : List ℕ → Type 0 = λ ks. AllZip (IsAt names lookup) ks (methods_of names (class_number n) d) in
    subst Q (sym same) (subst (λ (ws : List WrittenMethod). AllZip (IsAt names lookup) (numbers_where (is_of n) 0 (map owner (methods_from 0 names order))) ws) owned all)

-- the methods that the class with this number lists, where the table is made of these declarations
pub listed_methods : (names : List ClassName) (order : List Declaration) (ms : List Method) (n : ℕ) (d : Declaration) (ids : List MethodId) → AllZip (IsMethod names) (methods_from 0 names order) ms → slice_get order n ≡ Some d → map (λ m. m.0) ids ≡ numbers_where (is_of n) 0 (map owner (methods_from 0 names order)) → All (IsListed names (λ k. slice_get ms k) (class_number n) d) (zip ids (written_in names d))
listed_methods names order ms n d ids zipped at same =
    pairs_listed names (λ k. slice_get ms k) (class_number n) d ids (written_in names d) (owned_listed names order ms n d ids zipped at same)

pairs_count : (names : List ClassName) (lookup : ℕ → Option Method) (c : ClassId) (d : Declaration) (ids : List MethodId) (ws : List Written) → AllZip (IsAt names lookup) (map (λ m. m.0) ids) (methods_written c d ws) → length ids ≡ length ws
pairs_count names lookup c d [] [] all = refl
pairs_count names lookup c d [] (w ∷ ws) all = absurd all
pairs_count names lookup c d (m ∷ ids) [] all = absurd all
pairs_count names lookup c d (m ∷ ids) (w ∷ ws) all = ap suc (pairs_count names lookup c d ids ws all.1)

-- how many methods the class lists
pub listed_count : (names : List ClassName) (order : List Declaration) (ms : List Method) (n : ℕ) (d : Declaration) (ids : List MethodId) → AllZip (IsMethod names) (methods_from 0 names order) ms → slice_get order n ≡ Some d → map (λ m. m.0) ids ≡ numbers_where (is_of n) 0 (map owner (methods_from 0 names order)) → length ids ≡ length (written_in names d)
listed_count names order ms n d ids zipped at same = pairs_count names (λ k. slice_get ms k) (class_number n) d ids (written_in names d) (owned_listed names order ms n d ids zipped at same)
