-- Lemmas on members that have the key of an earlier one.
use Rattle.std.proofs.Common.{◌≡◌, ◌∙◌, sym, ap, ap₂, refl, ℕ, ◌+◌, ◌<◌, ◌≤◌, Bool, true, false, cond, not, ◌&&◌, ◌||◌, Option, Some, None, List, [], ◌∷◌, ◌++◌, length, get_or, take, drop, map}
use Rattle.std.specs.Prelude.{Vec, filter}
use Rattle.std.specs.List.{list_any}
use Rattle.std.specs.Str.{bytes_eq}
use Rattle.std.proofs.lemmas.List.{append_assoc, drop_all, drop_more, map_push, take_more}
use Rattle.std.proofs.lemmas.List.Elements.{filter-append}
use Rattle.std.proofs.lemmas.List.Folds.{list_any-append}
use Rattle.rlc_base.specs.declared.code.Code.TheVariants as refused
use Rattle.rlc_base.specs.declared.faults.Refusal.{Refusal}
use Rattle.java_syntax.specs.declared.declaration_trees.Param.{Param}
use Rattle.program_model.specs.declared.kinds.VType.{VType}
use Rattle.program_model.specs.declared.kinds.VType.TheVariants as types
use Rattle.refusal_order.specs.Refusals.{least, lesser_of, where_true}
use Rattle.refusal_order.proofs.LeastLaws.{lesser_of-joined, lesser_of-none}
use Rattle.class_names.specs.declared.class_name.ClassName.{ClassName}
use Rattle.class_names.specs.ClassNames.{is_among}
use Rattle.class_names.proofs.NameLemmas.{inserted_member, list_any-texts}
use Rattle.indexmap.specs.IndexSet.{insert_key}
use Rattle.rlc_base.specs.Names.{texts}
use Rattle.class_names.specs.Meanings.{CompilationUnit}
use Rattle.class_names.specs.WrittenTypes.{written_type}
use Rattle.class_declarations.specs.Members.{Written, name_of, parameters_of}
use Rattle.class_checks.specs.declared.keys.MemberKey.{MemberKey}
use Rattle.class_checks.specs.DoubleMembers.{are_alike, have_one_signature, is_one_type, repeats}
use Rattle.class_checks.specs.MemberKeys.{Keyed, double_keys, has_one_key, keyed_method, keyed_of, parameter_code, parameter_codes, refused_key, type_code}

-- ---- keys are equal exactly where the signatures are one

-- two types have one code exactly where they are one
one_code : (x y : Option VType) (p q : List ℕ) → bytes_eq (type_code x ++ p) (type_code y ++ q) ≡ (is_one_type x y && bytes_eq p q)
one_code None None p q = refl
one_code None (Some (types.Primitive u)) p q = refl
one_code None (Some types.Str) p q = refl
one_code None (Some (types.Arr u)) p q = refl
one_code None (Some (types.Obj d)) p q = refl
one_code None (Some types.NullType) p q = refl
one_code (Some (types.Primitive t)) None p q = refl
one_code (Some (types.Primitive t)) (Some (types.Primitive u)) p q = refl
one_code (Some (types.Primitive t)) (Some types.Str) p q = refl
one_code (Some (types.Primitive t)) (Some (types.Arr u)) p q = refl
one_code (Some (types.Primitive t)) (Some (types.Obj d)) p q = refl
one_code (Some (types.Primitive t)) (Some types.NullType) p q = refl
one_code (Some types.Str) None p q = refl
one_code (Some types.Str) (Some (types.Primitive u)) p q = refl
one_code (Some types.Str) (Some types.Str) p q = refl
one_code (Some types.Str) (Some (types.Arr u)) p q = refl
one_code (Some types.Str) (Some (types.Obj d)) p q = refl
one_code (Some types.Str) (Some types.NullType) p q = refl
one_code (Some (types.Arr t)) None p q = refl
one_code (Some (types.Arr t)) (Some (types.Primitive u)) p q = refl
one_code (Some (types.Arr t)) (Some types.Str) p q = refl
one_code (Some (types.Arr t)) (Some (types.Arr u)) p q = refl
one_code (Some (types.Arr t)) (Some (types.Obj d)) p q = refl
one_code (Some (types.Arr t)) (Some types.NullType) p q = refl
one_code (Some (types.Obj c)) None p q = refl
one_code (Some (types.Obj c)) (Some (types.Primitive u)) p q = refl
one_code (Some (types.Obj c)) (Some types.Str) p q = refl
one_code (Some (types.Obj c)) (Some (types.Arr u)) p q = refl
one_code (Some (types.Obj c)) (Some (types.Obj d)) p q = refl
one_code (Some (types.Obj c)) (Some types.NullType) p q = refl
one_code (Some types.NullType) None p q = refl
one_code (Some types.NullType) (Some (types.Primitive u)) p q = refl
one_code (Some types.NullType) (Some types.Str) p q = refl
one_code (Some types.NullType) (Some (types.Arr u)) p q = refl
one_code (Some types.NullType) (Some (types.Obj d)) p q = refl
one_code (Some types.NullType) (Some types.NullType) p q = refl

-- no type begins with the number that ends a list of them
ends : (y : Option VType) (p q : List ℕ) → bytes_eq (0 ∷ p) (type_code y ++ q) ≡ false
ends None p q = refl
ends (Some (types.Primitive u)) p q = refl
ends (Some types.Str) p q = refl
ends (Some (types.Arr u)) p q = refl
ends (Some (types.Obj d)) p q = refl
ends (Some types.NullType) p q = refl

goes_on : (x : Option VType) (p q : List ℕ) → bytes_eq (type_code x ++ p) (0 ∷ q) ≡ false
goes_on None p q = refl
goes_on (Some (types.Primitive u)) p q = refl
goes_on (Some types.Str) p q = refl
goes_on (Some (types.Arr u)) p q = refl
goes_on (Some (types.Obj d)) p q = refl
goes_on (Some types.NullType) p q = refl

and_assoc : (a b c : Bool) → (a && (b && c)) ≡ ((a && b) && c)
and_assoc true b c = refl
and_assoc false b c = refl

alike_codes : (classes : List ClassName) (u : CompilationUnit) (xs ys : List Param) (m n : List ℕ) → bytes_eq (parameter_codes classes u xs ++ 0 ∷ m) (parameter_codes classes u ys ++ 0 ∷ n) ≡ (are_alike classes u xs ys && bytes_eq m n)
alike_codes classes u [] [] m n = refl
alike_codes classes u [] (y ∷ ys) m n =
    ap (bytes_eq (0 ∷ m)) (append_assoc (parameter_code classes u y) (parameter_codes classes u ys) (0 ∷ n))
    ∙ ends (written_type classes u y.typ) m (parameter_codes classes u ys ++ 0 ∷ n)
alike_codes classes u (x ∷ xs) [] m n =
    ap (λ k. bytes_eq k (0 ∷ n)) (append_assoc (parameter_code classes u x) (parameter_codes classes u xs) (0 ∷ m))
    ∙ goes_on (written_type classes u x.typ) (parameter_codes classes u xs ++ 0 ∷ m) n
alike_codes classes u (x ∷ xs) (y ∷ ys) m n =
    ap₂ bytes_eq (append_assoc (parameter_code classes u x) (parameter_codes classes u xs) (0 ∷ m)) (append_assoc (parameter_code classes u y) (parameter_codes classes u ys) (0 ∷ n))
    ∙ one_code (written_type classes u x.typ) (written_type classes u y.typ) (parameter_codes classes u xs ++ 0 ∷ m) (parameter_codes classes u ys ++ 0 ∷ n)
    ∙ ap (λ b. is_one_type (written_type classes u x.typ) (written_type classes u y.typ) && b) (alike_codes classes u xs ys m n)
    ∙ and_assoc (is_one_type (written_type classes u x.typ) (written_type classes u y.typ)) (are_alike classes u xs ys) (bytes_eq m n)

one_signature : (classes : List ClassName) (u : CompilationUnit) (v w : Written) → has_one_key (keyed_method classes u v) (keyed_method classes u w) ≡ have_one_signature classes u v w
one_signature classes u v w = alike_codes classes u (parameters_of v) (parameters_of w) (name_of v) (name_of w)

-- ---- the repeats of a list, by what each element is mapped to

any_mapped : {X Y : Type 0} (f : X → Y) (p : Y → Bool) (q : X → Bool) → ((x : X) → p (f x) ≡ q x) → (xs : List X) → list_any p (map f xs) ≡ list_any q xs
any_mapped f p q same [] = refl
any_mapped f p q same (x ∷ xs) = ap₂ (λ b c. b || c) (same x) (any_mapped f p q same xs)

pub repeats_mapped : {X : Type 0} (f : X → Keyed) (same : X → X → Bool) → ((x y : X) → has_one_key (f x) (f y) ≡ same x y) → (before xs : List X) → map refused_key (repeats has_one_key (map f before) (map f xs)) ≡ map (λ x. refused_key (f x)) (repeats same before xs)
repeats_mapped f same is before [] = refl
repeats_mapped {X} f same is before (x ∷ xs) =
    step (list_any (has_one_key (f x)) (map f before)) (list_any (same x) before) (any_mapped f (has_one_key (f x)) (same x) (is x) before)
    (ap (λ ks. map refused_key (repeats has_one_key ks (map f xs))) (sym (map_push f before x)) ∙ repeats_mapped f same is (before ++ x ∷ []) xs)
  where
    step : (b c : Bool) → b ≡ c → map refused_key (repeats has_one_key (map f before ++ f x ∷ []) (map f xs)) ≡ map (λ y. refused_key (f y)) (repeats same (before ++ x ∷ []) xs)
        → map refused_key (cond b (f x ∷ repeats has_one_key (map f before ++ f x ∷ []) (map f xs)) (repeats has_one_key (map f before ++ f x ∷ []) (map f xs))) ≡ map (λ y. refused_key (f y)) (cond c (x ∷ repeats same (before ++ x ∷ []) xs) (repeats same (before ++ x ∷ []) xs))
    step true true same_test rest = ap (λ rs. refused_key (f x) ∷ rs) rest
    step false false same_test rest = rest
    step true false same_test rest = absurd (let never : true ≡ false = same_test in cc)
    step false true same_test rest = absurd (let never : false ≡ true = same_test in cc)

pub repeated_signatures : (classes : List ClassName) (u : CompilationUnit) (all : List Written) → double_keys [] (map (keyed_method classes u) all) ≡ map (λ w. refused_key (keyed_method classes u w)) (repeats (have_one_signature classes u) [] all)
repeated_signatures classes u all = repeats_mapped (keyed_method classes u) (have_one_signature classes u) (one_signature classes u) [] all

-- ---- one member more

key_step : (b : Bool) (k : Keyed) (rest : List Keyed) → least (map refused_key (cond b (k ∷ rest) rest)) ≡ lesser_of (least (where_true b refused.DoubleMember k.pos)) (least (map refused_key rest))
key_step true k rest = refl
key_step false k rest = refl

among_keys : (before : List Keyed) (k : Keyed) → is_among (map (λ (x : Keyed). x.key) before) k.key ≡ list_any (has_one_key k) before
among_keys before k = any_mapped (λ (x : Keyed). x.key) (bytes_eq k.key) (has_one_key k) (λ x. refl) before

-- the keys of the first members are seen, and no others
abbrev pub AreSeen : List (List ℕ) → List Keyed → Type 0
AreSeen seen before = (q : List ℕ) → is_among seen q ≡ is_among (map (λ (k : Keyed). k.key) before) q

first_members : (members : List MemberKey) (i : ℕ) (m : MemberKey) → i < length members → m ≡ get_or members i m → map keyed_of (take (i + 1) members) ≡ map keyed_of (take i members) ++ keyed_of m ∷ []
first_members members i m within at = ap (map keyed_of) (take_more members i m within ∙ ap (λ x. take i members ++ x ∷ []) (sym at)) ∙ map_push keyed_of (take i members) m

last_members : (members : List MemberKey) (i : ℕ) (m : MemberKey) → i < length members → m ≡ get_or members i m → map keyed_of (drop i members) ≡ keyed_of m ∷ map keyed_of (drop (i + 1) members)
last_members members i m within at = ap (map keyed_of) (drop_more members i m within ∙ ap (λ x. x ∷ drop (i + 1) members) (sym at))

among_more : (seen : List (List ℕ)) (key q : List ℕ) → is_among (seen ++ key ∷ []) q ≡ (is_among seen q || (bytes_eq q key || false))
among_more seen key q = list_any-append (bytes_eq q) seen (key ∷ [])

pub seen_more : (members : List MemberKey) (i : ℕ) (m : MemberKey) (seen more : List (List ℕ)) → i < length members → m ≡ get_or members i m → AreSeen seen (map keyed_of (take i members))
    → ((q : List ℕ) → is_among more q ≡ is_among (seen ++ m.key.items ∷ []) q) → AreSeen more (map keyed_of (take (i + 1) members))
seen_more members i m seen more within at are grown =
    let key_in : Keyed → List ℕ = λ k. k.key in
    let before = map keyed_of (take i members) in
    λ q.
    grown q ∙ among_more seen m.key.items q ∙ ap (λ b. b || (bytes_eq q m.key.items || false)) (are q)
    ∙ sym (ap (λ ks. is_among ks q) (ap (map key_in) (first_members members i m within at) ∙ map_push key_in before (keyed_of m)) ∙ among_more (map key_in before) m.key.items q)

pub double_next : (members : List MemberKey) (i : ℕ) (m : MemberKey) (seen : List (List ℕ)) (found own all : Option Refusal) → i < length members → m ≡ get_or members i m → AreSeen seen (map keyed_of (take i members))
    → own ≡ least (where_true (is_among seen m.key.items) refused.DoubleMember m.pos)
    → lesser_of found (least (double_keys (map keyed_of (take i members)) (map keyed_of (drop i members)))) ≡ all
    → lesser_of (lesser_of found own) (least (double_keys (map keyed_of (take (i + 1) members)) (map keyed_of (drop (i + 1) members)))) ≡ all
double_next members i m seen found own all within at are is done =
    let before = map keyed_of (take i members) in
    let behind = map keyed_of (drop (i + 1) members) in
    let rest = repeats has_one_key (before ++ keyed_of m ∷ []) behind in
    let test : is_among seen m.key.items ≡ list_any (has_one_key (keyed_of m)) before = are m.key.items ∙ among_keys before (keyed_of m) in
    let own_is : own ≡ least (where_true (list_any (has_one_key (keyed_of m)) before) refused.DoubleMember m.pos) = is ∙ ap (λ b. least (where_true b refused.DoubleMember m.pos)) test in
    let step : least (double_keys before (map keyed_of (drop i members))) ≡ lesser_of own (least (map refused_key rest)) =
    ap (λ ks. least (double_keys before ks)) (last_members members i m within at)
    ∙ key_step (list_any (has_one_key (keyed_of m)) before) (keyed_of m) rest
    ∙ ap (λ o. lesser_of o (least (map refused_key rest))) (sym own_is) in
    ap (λ ks. lesser_of (lesser_of found own) (least (double_keys ks behind))) (first_members members i m within at)
    ∙ lesser_of-joined found own (least (map refused_key rest)) ∙ ap (lesser_of found) (sym step) ∙ done

pub double_all : (members : List MemberKey) (i : ℕ) (found all : Option Refusal) (before : List Keyed) → length members ≤ i → lesser_of found (least (double_keys before (map keyed_of (drop i members)))) ≡ all → found ≡ all
double_all members i found all before past done =
    sym (lesser_of-none found) ∙ ap (λ ks. lesser_of found (least (double_keys before (map keyed_of ks)))) (sym (drop_all i members past)) ∙ done

-- ---- the methods and constructors of one tree more

pub invocable_more : {X Y : Type 0} (test : Y → Bool) (f : X → Y) (xs : List X) (i : ℕ) (x : X) → i < length xs → x ≡ get_or xs i x → filter test (map f (take (i + 1) xs)) ≡ filter test (map f (take i xs)) ++ filter test (f x ∷ [])
invocable_more test f xs i x within at =
    ap (λ ys. filter test (map f ys)) (take_more xs i x within ∙ ap (λ y. take i xs ++ y ∷ []) (sym at))
    ∙ ap (filter test) (map_push f (take i xs) x) ∙ filter-append test (map f (take i xs)) (f x ∷ [])

-- ---- the set of the keys that are seen

not_new : (new held : Bool) → new ≡ not held → not new ≡ held
not_new new true is = ap not is
not_new new false is = ap not is

-- a member's key was seen exactly where it is not new
pub key_held : {A : Type 0} (keys : List (Vec ℕ A)) (key : Vec ℕ A) (own : List ℕ) (new : Bool) → key.items ≡ own → new ≡ not (list_any (λ x. bytes_eq key.items x.items) keys) → not new ≡ is_among (texts keys) own
key_held keys key own new copied is = not_new new (list_any (λ x. bytes_eq key.items x.items) keys) is ∙ list_any-texts keys key.items ∙ ap (is_among (texts keys)) copied

pub key_put : {A : Type 0} (keys more : List (Vec ℕ A)) (key : Vec ℕ A) (own : List ℕ) → key.items ≡ own → more ≡ insert_key (λ v w. bytes_eq v.items w.items) keys key → (q : List ℕ) → is_among (texts more) q ≡ is_among (texts keys ++ own ∷ []) q
key_put keys more key own copied put q = inserted_member keys more key q put ∙ sym (among_more (texts keys) key.items q) ∙ ap (λ k. is_among (texts keys ++ k ∷ []) q) copied
