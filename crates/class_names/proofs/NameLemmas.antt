-- Lemmas on the names of classes: the index, classes with the name of an earlier one, and the classes of a simple name.
use Rattle.std.proofs.Common.{◌≡◌, ◌∙◌, sym, ap, ap₂, refl, subst, arith, ℕ, ◌+◌, ◌<◌, Bool, true, false, cond, ltb, not, ◌||◌, Option, Some, None, List, [], ◌∷◌, ◌++◌, length, get_or, take}
use Rattle.std.specs.Prelude.{if◌then◌else◌, Vec, slice_get, filter, position}
use Rattle.std.specs.Option.{option_map}
use Rattle.std.specs.List.{list_any, range_with_len}
use Rattle.std.specs.Str.{bytes_eq}
use Rattle.std.proofs.lemmas.List.{append-nil, length-map, length-take-le, map-append, map-id, take_more, take_all}
use Rattle.std.proofs.lemmas.List.Elements.{filter-append}
use Rattle.std.proofs.lemmas.List.Folds.{list_any-append}
use Rattle.std.proofs.lemmas.List.FromFn.{map-range_with_len_more}
use Rattle.std.proofs.lemmas.Option.{slice_get-map, slice_get-get_or, slice_get_within}
use Rattle.std.proofs.lemmas.Slice.Eq.{bytes_eq-Decides}
use Rattle.program_model.specs.declared.kinds.ClassId.{ClassId}
use Rattle.rlc_base.specs.Names.{texts}
use Rattle.rlc_base.proofs.TableLemmas.{length-texts, place_of-texts}
use Rattle.indexmap.specs.IndexSet.{insert_key}
use Rattle.class_names.specs.declared.class_name.ClassName.{ClassName}
use Rattle.class_names.specs.ClassNames.{class_at, class_number, class_of_name, is_among, is_among_if_some, is_double, name_in, name_of_class, names_of, simply_named_from}
use Rattle.class_names.specs.Meanings.{has, joined, sole, those}

-- ---- keys in memory as names

pub position-texts : {A : Type 0} (keys : List (Vec ℕ A)) (name : List ℕ) → position (λ k. bytes_eq name k.items) keys ≡ position (bytes_eq name) (texts keys)
position-texts keys name = ap₂ (λ at n. cond (ltb at n) (Some at) None) (place_of-texts name keys) (sym (length-texts keys))

pub found_class : {A : Type 0} (classes : List ClassName) (keys : List (Vec ℕ A)) (name : List ℕ) (r : Option ℕ) → texts keys ≡ names_of classes → r ≡ position (λ k. bytes_eq name k.items) keys → option_map class_number r ≡ class_of_name classes name
found_class classes keys name r names h = ap (option_map class_number) (h ∙ position-texts keys name ∙ ap (position (bytes_eq name)) names)

name_in_map : (o : Option ClassName) (text : List ℕ) → Some text ≡ option_map name_of_class o → text ≡ name_in o
name_in_map None text h = absurd (let never : Some text ≡ None = h in cc)
name_in_map (Some k) text h = let same : Some text ≡ Some (name_of_class k) = h in cc

name_in_none : (o : Option ClassName) → None ≡ option_map name_of_class o → [] ≡ name_in o
name_in_none None h = refl
name_in_none (Some k) h = absurd (let never : None ≡ Some (name_of_class k) = h in cc)

-- the key at a number is the name of that class
pub key_name : {A : Type 0} (classes : List ClassName) (keys : List (Vec ℕ A)) (c : ClassId) (key : Vec ℕ A) → texts keys ≡ names_of classes → Some key ≡ slice_get keys c.0 → key.items ≡ name_in (class_at classes c)
key_name {A} classes keys c key names at =
    name_in_map (class_at classes c) key.items (
    ap (option_map (λ (k : Vec ℕ A). k.items)) at ∙ sym (slice_get-map (λ (k : Vec ℕ A). k.items) keys c.0)
    ∙ ap (λ (xs : List (List ℕ)). slice_get xs c.0) names ∙ slice_get-map name_of_class classes c.0)

pub no_key : {A : Type 0} (classes : List ClassName) (keys : List (Vec ℕ A)) (c : ClassId) → texts keys ≡ names_of classes → None ≡ slice_get keys c.0 → [] ≡ name_in (class_at classes c)
no_key {A} classes keys c names at =
    name_in_none (class_at classes c) (
    ap (option_map (λ (k : Vec ℕ A). k.items)) at ∙ sym (slice_get-map (λ (k : Vec ℕ A). k.items) keys c.0)
    ∙ ap (λ (xs : List (List ℕ)). slice_get xs c.0) names ∙ slice_get-map name_of_class classes c.0)

-- ---- the classes of a simple name

after : (b : Bool) (first n : ℕ) (k : ClassName) (name : List ℕ) (rest more : List ClassId) (c : ClassId) → rest ≡ more ++ cond (bytes_eq name k.simple) (class_number n ∷ []) [] → cond b (c ∷ rest) rest ≡ cond b (c ∷ more) more ++ cond (bytes_eq name k.simple) (class_number n ∷ []) []
after true first n k name rest more c h = ap (λ xs. c ∷ xs) h
after false first n k name rest more c h = h

pub simply_named_push : (first n : ℕ) (name : List ℕ) (classes : List ClassName) (k : ClassName) → n ≡ first + length classes → simply_named_from first name (classes ++ k ∷ []) ≡ simply_named_from first name classes ++ (if bytes_eq name k.simple then class_number n ∷ [] else [])
simply_named_push first n name [] k is = let same : first ≡ n = omega arith in ap (λ m. cond (bytes_eq name k.simple) (class_number m ∷ []) []) same
simply_named_push first n name (x ∷ xs) k is =
    after (bytes_eq name x.simple) first n k name (simply_named_from (first + 1) name (xs ++ k ∷ [])) (simply_named_from (first + 1) name xs) (class_number first)
    (simply_named_push (first + 1) n name xs k (omega arith))

-- one class more
pub simply_named_more : (name : List ℕ) (classes : List ClassName) (i : ℕ) (k : ClassName) → i < length classes → simply_named_from 0 name (take (i + 1) classes) ≡ simply_named_from 0 name (take i classes) ++ (if bytes_eq name (get_or classes i k).simple then class_number i ∷ [] else [])
simply_named_more name classes i k within =
    ap (simply_named_from 0 name) (take_more classes i k within)
    ∙ simply_named_push 0 i name (take i classes) (get_or classes i k) (let long : length (take i classes) ≡ i = length-take-le i classes (omega arith) in omega arith)

-- ---- the classes with the name of an earlier one

-- of the first `i` names these are held, and these stand there a second time
pub record AreNamed (names : List (List ℕ)) (i : ℕ) (held : List (List ℕ)) (found : List ℕ) : Type 0 where
  pub members : (q : List ℕ) → is_among held q ≡ is_among (take i names) q
  pub found_are : found ≡ filter (is_double names) (range_with_len 0 i)
  pub whole : found ≡ [] → held ≡ take i names

pub named_none : (names : List (List ℕ)) → AreNamed names 0 [] []
named_none names = record { members = λ q. refl; found_are = refl; whole = λ h. refl }

pub range_push : (a n j : ℕ) → a + n ≡ j → range_with_len a (n + 1) ≡ range_with_len a n ++ j ∷ []
range_push a n j is = sym (map-id (range_with_len a (n + 1))) ∙ map-range_with_len_more (λ x. x) a n j is ∙ ap (λ xs. xs ++ j ∷ []) (map-id (range_with_len a n))

take_next : (names : List (List ℕ)) (i : ℕ) (name : List ℕ) → slice_get names i ≡ Some name → take (i + 1) names ≡ take i names ++ name ∷ []
take_next names i name at =
    let within = slice_get_within names i name at in
    let both : Some (get_or names i name) ≡ Some name = sym (slice_get-get_or names i name within) ∙ at in
    let same : get_or names i name ≡ name = cc in
    take_more names i name within ∙ ap (λ n. take i names ++ n ∷ []) same

pub one_more_member : (d : Bool) (held before : List (List ℕ)) (name q : List ℕ) → is_among held name ≡ d → is_among held q ≡ is_among before q → is_among (cond d held (held ++ name ∷ [])) q ≡ is_among (before ++ name ∷ []) q
one_more_member false held before name q is same = list_any-append (bytes_eq q) held (name ∷ []) ∙ ap (λ b. b || (bytes_eq q name || false)) same ∙ sym (list_any-append (bytes_eq q) before (name ∷ []))
one_more_member true held before name q is same = held_already (bytes_eq q name) refl ∙ sym (list_any-append (bytes_eq q) before (name ∷ []))
  where
    or_false : (b : Bool) → b ≡ (b || false)
    or_false true = refl
    or_false false = refl

    held_already : (e : Bool) → bytes_eq q name ≡ e → is_among held q ≡ (is_among before q || (e || false))
    held_already true one =
        let equal : q ≡ name = (bytes_eq-Decides q name).0 one in
        let here : is_among held q ≡ true = ap (is_among held) equal ∙ is in
        here ∙ ap (λ b. b || true) (sym here ∙ same)
    held_already false one = same ∙ or_false (is_among before q)

kept_double : (d : Bool) (p : ℕ → Bool) (i : ℕ) (found : List ℕ) → p i ≡ d → found ≡ filter p (range_with_len 0 i) → cond d (found ++ i ∷ []) found ≡ filter p (range_with_len 0 (i + 1))
kept_double d p i found is h =
    kept d is ∙ sym (filter-append p (range_with_len 0 i) (i ∷ [])) ∙ ap (filter p) (sym (range_push 0 i i (omega arith)))
  where
    kept : (d : Bool) → p i ≡ d → cond d (found ++ i ∷ []) found ≡ filter p (range_with_len 0 i) ++ filter p (i ∷ [])
    kept true is = ap (λ xs. xs ++ i ∷ []) h ∙ ap (λ b. filter p (range_with_len 0 i) ++ cond b (i ∷ []) []) (sym is)
    kept false is = h ∙ sym (append-nil (filter p (range_with_len 0 i))) ∙ ap (λ b. filter p (range_with_len 0 i) ++ cond b (i ∷ []) []) (sym is)

still_whole : (d : Bool) (i : ℕ) (held before : List (List ℕ)) (found : List ℕ) (name : List ℕ) → (found ≡ [] → held ≡ before) → cond d (found ++ i ∷ []) found ≡ [] → cond d held (held ++ name ∷ []) ≡ before ++ name ∷ []
still_whole true i held before [] name h none = absurd (let never : i ∷ [] ≡ [] = none in cc)
still_whole true i held before (f ∷ fs) name h none = absurd (let never : f ∷ (fs ++ i ∷ []) ≡ [] = none in cc)
still_whole false i held before found name h none = ap (λ xs. xs ++ name ∷ []) (h none)

-- one name more
pub named_next : (names : List (List ℕ)) (i : ℕ) (held : List (List ℕ)) (found : List ℕ) (name : List ℕ) (d : Bool) → is_among held name ≡ d → slice_get names i ≡ Some name → AreNamed names i held found → AreNamed names (i + 1) (cond d held (held ++ name ∷ [])) (cond d (found ++ i ∷ []) found)
named_next names i held found name d is at h =
    let front = take_next names i name at in
    let double : is_double names i ≡ d = ap (is_among_if_some (take i names)) at ∙ sym (h.members name) ∙ is in
    record {
      members = λ q. one_more_member d held (take i names) name q is (h.members q) ∙ ap (λ xs. is_among xs q) (sym front);
      found_are = kept_double d (is_double names) i found double h.found_are;
      whole = λ none. still_whole d i held (take i names) found name h.whole none ∙ sym front;
    }

-- a test of keys is one of their texts
pub list_any-texts : {A : Type 0} (keys : List (Vec ℕ A)) (name : List ℕ) → list_any (λ k. bytes_eq name k.items) keys ≡ is_among (texts keys) name
list_any-texts [] name = refl
list_any-texts (k ∷ keys) name = ap (λ b. bytes_eq name k.items || b) (list_any-texts keys name)

inserted : {A : Type 0} (d : Bool) (keys : List (Vec ℕ A)) (key : Vec ℕ A) → list_any (λ k. bytes_eq key.items k.items) keys ≡ d → texts (insert_key (λ v w. bytes_eq v.items w.items) keys key) ≡ cond d (texts keys) (texts keys ++ key.items ∷ [])
inserted true keys key is = ap (λ b. texts (cond b keys (keys ++ key ∷ []))) is
inserted {A} false keys key is = ap (λ b. texts (cond b keys (keys ++ key ∷ []))) is ∙ map-append (λ (k : Vec ℕ A). k.items) keys (key ∷ [])

-- what is among the keys once one is put in
pub inserted_member : {A : Type 0} (keys more : List (Vec ℕ A)) (key : Vec ℕ A) (q : List ℕ) → more ≡ insert_key (λ v w. bytes_eq v.items w.items) keys key → is_among (texts more) q ≡ (is_among (texts keys) q || (bytes_eq q key.items || false))
inserted_member keys more key q put =
    let held = list_any-texts keys key.items in
    ap (λ xs. is_among (texts xs) q) put ∙ ap (λ xs. is_among xs q) (inserted (is_among (texts keys) key.items) keys key held)
    ∙ one_more_member (is_among (texts keys) key.items) (texts keys) (texts keys) key.items q refl refl ∙ list_any-append (bytes_eq q) (texts keys) (key.items ∷ [])

not_not : (b : Bool) → not (not b) ≡ b
not_not true = refl
not_not false = refl

-- a key is put into the set, which tells whether it is new
pub key_put : {A : Type 0} (classes : List ClassName) (i : ℕ) (keys more : List (Vec ℕ A)) (found grown : List ℕ) (key : Vec ℕ A) (k : ClassName) (new : Bool)
    → new ≡ not (list_any (λ x. bytes_eq key.items x.items) keys) → more ≡ insert_key (λ v w. bytes_eq v.items w.items) keys key → key.items ≡ name_of_class k → i < length classes → k ≡ get_or classes i k → grown ≡ cond (not new) (found ++ i ∷ []) found
    → AreNamed (names_of classes) i (texts keys) found → AreNamed (names_of classes) (i + 1) (texts more) grown
key_put {A} classes i keys more found grown key k new added put is within at grow h =
    let held : list_any (λ x. bytes_eq key.items x.items) keys ≡ not new = sym (ap not added ∙ not_not (list_any (λ x. bytes_eq key.items x.items) keys)) in
    let member : is_among (texts keys) key.items ≡ not new = sym (list_any-texts keys key.items) ∙ held in
    let named : slice_get (names_of classes) i ≡ Some key.items = slice_get-map name_of_class classes i ∙ ap (option_map name_of_class) (slice_get-get_or classes i k within) ∙ ap (λ (x : ClassName). Some (name_of_class x)) (sym at) ∙ ap Some (sym is) in
    let step = named_next (names_of classes) i (texts keys) found key.items (not new) member named h in
    let all : texts more ≡ cond (not new) (texts keys) (texts keys ++ key.items ∷ []) = ap texts put ∙ inserted (not new) keys key held in
    subst (λ (xs : List (List ℕ)). AreNamed (names_of classes) (i + 1) xs grown) (sym all) (subst (λ (ns : List ℕ). AreNamed (names_of classes) (i + 1) (cond (not new) (texts keys) (texts keys ++ key.items ∷ [])) ns) (sym grow) step)

-- all names are put in
pub named_all : (classes : List ClassName) (i : ℕ) (held : List (List ℕ)) (found : List ℕ) → i ≡ length classes → AreNamed (names_of classes) i held found → (found ≡ filter (is_double (names_of classes)) (range_with_len 0 (length classes))) × (found ≡ [] → held ≡ names_of classes)
named_all classes i held found all h = (
  h.found_are ∙ ap (λ n. filter (is_double (names_of classes)) (range_with_len 0 n)) all,
  λ none. h.whole none ∙ take_all i (names_of classes) (omega (arith, all, length-map classes name_of_class)),
)

-- ---- the one class of a level

sole_joined : (cs : List ClassId) (c : ClassId) → sole (cs ++ c ∷ []) ≡ joined (sole cs) c
sole_joined [] c = refl
sole_joined (x ∷ []) c = refl
sole_joined (x ∷ y ∷ cs) c = refl

-- one class of the list more
pub sole_more : (classes : List ClassName) (test : ClassName → Bool) (cs : List ClassId) (i : ℕ) (c : ClassId) → i < length cs → c ≡ get_or cs i c → sole (those classes test (take (i + 1) cs)) ≡ cond (has test (class_at classes c)) (joined (sole (those classes test (take i cs))) c) (sole (those classes test (take i cs)))
sole_more classes test cs i c within at =
    let front : take (i + 1) cs ≡ take i cs ++ c ∷ [] = take_more cs i c within ∙ ap (λ x. take i cs ++ x ∷ []) (sym at) in
    ap (λ xs. sole (those classes test xs)) front ∙ ap sole (filter-append (λ (x : ClassId). has test (class_at classes x)) (take i cs) (c ∷ [])) ∙ split (has test (class_at classes c))
  where
    split : (b : Bool) → sole (those classes test (take i cs) ++ cond b (c ∷ []) []) ≡ cond b (joined (sole (those classes test (take i cs))) c) (sole (those classes test (take i cs)))
    split true = sole_joined (those classes test (take i cs)) c
    split false = ap sole (append-nil (those classes test (take i cs)))
