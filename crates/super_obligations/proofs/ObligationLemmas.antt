-- Lemmas on the sets that make up that of a class, and on the refusals of super classes that have obligations.
use Rattle.std.proofs.Common.{◌≡◌, ◌↔◌, ◌∙◌, sym, ap, refl, subst, arith, ℕ, ◌+◌, ◌<◌, zero, suc, Bool, true, false, true≢false, cond, not, ◌&&◌, ◌||◌, IsTrue, Option, Some, None, List, [], ◌∷◌, ◌++◌, length, get_or, take, map}
use Rattle.std.specs.Prelude.{flat_map, slice_get}
use Rattle.std.specs.List.{Contains, find, list_any, range_with_len}
use Rattle.std.specs.Option.{option_map}
use Rattle.std.proofs.lemmas.List.{length-map, length-take-le, map_push, take_more}
use Rattle.std.proofs.lemmas.List.Elements.{Contains-append_left}
use Rattle.std.proofs.lemmas.Option.{slice_get-get_or, slice_get-map, slice_get_within}
use Rattle.std.proofs.lemmas.List.Folds.{Any-from_list_any, list_any-from_Any}
use Rattle.rlc_base.specs.declared.code.Code.TheVariants as refused
use Rattle.rlc_base.specs.declared.faults.Refusal.{Refusal}
use Rattle.program_model.specs.declared.kinds.ClassId.{ClassId}
use Rattle.program_model.specs.declared.program.RawArg.{RawArg}
use Rattle.program_model.specs.Lookups.{optional}
use Rattle.java_annotations.specs.Annotations.{Argument, argument_in}
use Rattle.refusal_order.specs.Refusals.{least, lesser_of, where_true}
use Rattle.class_names.proofs.NameLemmas.{range_push}
use Rattle.class_order.specs.Cases.{IsAmong, IsLeast}
use Rattle.class_order.specs.declared.declared.Declared.{Declared}
use Rattle.class_order.specs.Declarations.{Declaration, declaration_of, place_of}
use Rattle.class_order.proofs.LeastLemmas.{among_push, least_where}
use Rattle.class_headers.specs.Search.{AreFound}
use Rattle.class_headers.specs.SuperTypes.{AreKnown, IsUnder, SuperTypes, all_direct, direct_of, listed_at, object_above, supers_of}
use Rattle.class_headers.specs.declared.supers.Supers.{Supers}
use Rattle.super_obligations.specs.Obligations.{HasObligation, IsBurdened, IsObligationAt, IsObligationIn, IsObligationOf, is_candidate, is_library, has_text, is_library_at, says_name, set_sources, sources_by}

-- ---- the sets that make up another are those of super types

no_element : {X : Type 0} (x : X) → Contains [] x → ⊥
no_element x has = let within = has.1 in omega arith

source_in_row : (o : Option Bool) (object : ClassId) (s : SuperTypes) (d : ClassId) → Contains (sources_by o s) d → Contains (direct_of object s) d
source_in_row None object s d has = Contains-append_left (optional s.super_class ++ s.interfaces) (object_above object s.is_interface) d has
source_in_row (Some b) object s d has = absurd (no_element d has)

source_above : (owns : List (Option Bool)) (ss : List SuperTypes) (object : ClassId) (n : ℕ) (d : ClassId) → Contains (listed_at (slice_get (set_sources owns ss) n)) d → Contains (listed_at (slice_get (map (direct_of object) ss) n)) d
source_above [] ss object n d has = absurd (no_element d has)
source_above (o ∷ os) [] object n d has = absurd (no_element d has)
source_above (o ∷ os) (s ∷ ss) object zero d has = source_in_row o object s d has
source_above (o ∷ os) (s ∷ ss) object (suc n) d has = source_above os ss object n d has

pub length-set_sources : (owns : List (Option Bool)) (ss : List SuperTypes) → length owns ≡ length ss → length (set_sources owns ss) ≡ length ss
length-set_sources [] [] same = refl
length-set_sources [] (s ∷ ss) same = absurd (omega arith)
length-set_sources (o ∷ os) [] same = absurd (omega arith)
length-set_sources (o ∷ os) (s ∷ ss) same = ap suc (length-set_sources os ss (omega arith))

-- each of them is a class of the program
pub sources_known : (owns : List (Option Bool)) (ss : List SuperTypes) (object : ClassId) → length owns ≡ length ss → AreKnown (all_direct object ss) → AreKnown (set_sources owns ss)
sources_known owns ss object same known c d has =
    let below = known c d (source_above owns ss object c.0 d has) in
    let long = length-set_sources owns ss same in
    let wide = length-map ss (direct_of object) in
    omega (arith, below, long, wide)

-- ---- one class more

sources_push : (owns : List (Option Bool)) (ss : List SuperTypes) (o : Option Bool) (s : SuperTypes) → length owns ≡ length ss → set_sources (owns ++ o ∷ []) (ss ++ s ∷ []) ≡ set_sources owns ss ++ sources_by o s ∷ []
sources_push [] [] o s same = refl
sources_push [] (x ∷ ss) o s same = absurd (omega arith)
sources_push (x ∷ os) [] o s same = absurd (omega arith)
sources_push (x ∷ os) (y ∷ ss) o s same = ap (λ rows. sources_by x y ∷ rows) (sources_push os ss o s (omega arith))

pub sources_more : (owns : List (Option Bool)) (supers : List Supers) (i : ℕ) (o : Option Bool) (s : Supers) → i < length owns → i < length supers → o ≡ get_or owns i o → s ≡ get_or supers i s
    → set_sources (take (i + 1) owns) (map supers_of (take (i + 1) supers)) ≡ set_sources (take i owns) (map supers_of (take i supers)) ++ sources_by o (supers_of s) ∷ []
sources_more owns supers i o s within inside at here =
    let first = take_more owns i o within ∙ ap (λ x. take i owns ++ x ∷ []) (sym at) in
    let second = take_more supers i s inside ∙ ap (λ x. take i supers ++ x ∷ []) (sym here) in
    let long : length (take i owns) ≡ i = length-take-le i owns (omega arith) in
    let wide = length-map (take i supers) supers_of ∙ length-take-le i supers (omega arith) in
    (λ j. set_sources (first j) (map supers_of (second j)))
    ∙ (λ j. set_sources (take i owns ++ o ∷ []) (map_push supers_of (take i supers) s j))
    ∙ sources_push (take i owns) (map supers_of (take i supers)) o (supers_of s) (long ∙ sym wide)

-- ---- a class has an obligation exactly where one of those found says a name

pub obligation_law : (owns : List (Option Bool)) (ss : List SuperTypes) (sources : List (List ClassId)) (found : List ClassId) (c : ClassId) (b : Bool) → sources ≡ set_sources owns ss → b ≡ list_any (says_name owns) found → AreFound sources c found → IsTrue b ↔ HasObligation owns ss c
obligation_law owns ss sources found c b rows is h =
    let U : List (List ClassId) → ClassId → Type 0 = λ direct d. IsUnder direct c d in (
      (λ passes.
          let some = Any-from_list_any (says_name owns) found (sym is ∙ passes) in
          record { source = some.1; inherited = subst (λ direct. U direct some.1) rows ((h.exact some.1).0 (some.0, some.2, some.3)); said = some.4 }),
      (λ has.
          let here = (h.exact has.source).1 (subst (λ direct. U direct has.source) (sym rows) has.inherited) in
          is ∙ list_any-from_Any (says_name owns) found (here.0, has.source, here.1, here.2, has.said)),
    )

-- ---- the refusal of one class

pub burdened_least : (order : List Declaration) (owns : List (Option Bool)) (ss : List SuperTypes) (d : Declaration) (c : ClassId) (b : Bool) → is_candidate order d c ≡ true → IsTrue b ↔ HasObligation owns ss c → IsLeast (IsObligationOf order owns ss d (Some c)) (least (where_true b refused.BadSuper (place_of d)))
burdened_least order owns ss d c b candidate test =
    least_where (IsBurdened order owns ss d c) b refused.BadSuper (place_of d)
    ((λ passes. record { candidate = candidate; obligation = test.0 passes }), (λ h. test.1 h.obligation))

pub unburdened : (order : List Declaration) (owns : List (Option Bool)) (ss : List SuperTypes) (d : Declaration) (c : ClassId) → is_candidate order d c ≡ false → IsLeast (IsObligationOf order owns ss d (Some c)) None
unburdened order owns ss d c other = λ r due. true≢false (sym due.0.candidate ∙ other)

some_within : (order : List Declaration) (n : ℕ) (o : Option Declaration) → slice_get order n ≡ o → is_library_at o ≡ true → n < length order
some_within order n None at is = absurd (true≢false (sym is))
some_within order n (Some d) at is = slice_get_within order n d at

behind_test : (a b : Bool) → (a && b) ≡ true → b ≡ true
behind_test true b both = both
behind_test false b both = absurd (true≢false (sym both))

-- the super class of such a class is a class of the program
pub candidate_within : (order : List Declaration) (d : Declaration) (c : ClassId) → is_candidate order d c ≡ true → c.0 < length order
candidate_within order d c is = some_within order c.0 (slice_get order c.0) refl (behind_test (not d.unit.library) (is_library order c) is)

pub declaration_at : (order : List Declared) (n : ℕ) (d : Declared) → n < length order → d ≡ get_or order n d → slice_get (map declaration_of order) n ≡ Some (declaration_of d)
declaration_at order n d within at =
    slice_get-map declaration_of order n ∙ ap (option_map declaration_of) (slice_get-get_or order n d within ∙ ap Some (sym at))

pub supers_at : (supers : List Supers) (n : ℕ) (s : Supers) → n < length supers → s ≡ get_or supers n s → slice_get (map supers_of supers) n ≡ Some (supers_of s)
supers_at supers n s within at =
    slice_get-map supers_of supers n ∙ ap (option_map supers_of) (slice_get-get_or supers n s within ∙ ap Some (sym at))

-- the refusal of the class with a number, by its declaration and its super types
pub least_at : (order : List Declaration) (owns : List (Option Bool)) (ss : List SuperTypes) (n : ℕ) (d : Declaration) (s : SuperTypes) (r : Option Refusal) → slice_get order n ≡ Some d → slice_get ss n ≡ Some s → IsLeast (IsObligationOf order owns ss d s.super_class) r → IsLeast (IsObligationAt order owns ss n) r
least_at order owns ss n d s r at here h =
    let first : Option SuperTypes → Type 0 = λ o. IsLeast (IsObligationIn order owns ss o (Some d)) r in
    let second : Option Declaration → Type 0 = λ o. IsLeast (IsObligationIn order owns ss (slice_get ss n) o) r in
    subst second (sym at) (subst first (sym here) h)

pub no_super_class : (order : List Declaration) (owns : List (Option Bool)) (ss : List SuperTypes) (d : Declaration) (o : Option ClassId) → o ≡ None → IsLeast (IsObligationOf order owns ss d o) None
no_super_class order owns ss d o is = let P : Option ClassId → Type 0 = λ q. IsLeast (IsObligationOf order owns ss d q) None in subst P (sym is) (λ r due. due)

-- ---- one class more

pub obligations_more : (order : List Declaration) (owns : List (Option Bool)) (ss : List SuperTypes) (n : ℕ) (a b : Option Refusal) → IsLeast (IsAmong (IsObligationAt order owns ss) (range_with_len 0 n)) a → IsLeast (IsObligationAt order owns ss n) b → IsLeast (IsAmong (IsObligationAt order owns ss) (range_with_len 0 (n + 1))) (lesser_of a b)
obligations_more order owns ss n a b first second =
    let L : List ℕ → Type 0 = λ ns. IsLeast (IsAmong (IsObligationAt order owns ss) ns) (lesser_of a b) in
    subst L (sym (range_push 0 n n (omega arith))) (among_push (IsObligationAt order owns ss) (range_with_len 0 n) n a b first second)

-- ---- the first of a kind, before and after it is read

found_step : {X Y : Type 0} (f : X → Y) (b : Bool) (x : X) (a : Option Y) (o : Option X) → a ≡ option_map f o → cond b (Some (f x)) a ≡ option_map f (cond b (Some x) o)
found_step f true x a o same = refl
found_step f false x a o same = same

pub find_mapped : {X Y : Type 0} (f : X → Y) (p : Y → Bool) (xs : List X) → find p (map f xs) ≡ option_map f (find (λ x. p (f x)) xs)
find_mapped f p [] = refl
find_mapped f p (x ∷ xs) = found_step f (p (f x)) x (find p (map f xs)) (find (λ y. p (f y)) xs) (find_mapped f p xs)

-- ---- a text in an annotation

text_step : (b : Bool) (texts rest : List (List ℕ)) → b ≡ has_text rest → (has_text texts || b) ≡ has_text (texts ++ rest)
text_step b [] rest same = same
text_step b (text ∷ more) rest same = refl

pub any_text : (arguments : List RawArg) → list_any (λ (x : RawArg). has_text x.values.items) arguments ≡ has_text (flat_map (λ (x : Argument). x.texts) (map argument_in arguments))
any_text [] = refl
any_text (x ∷ xs) = text_step (list_any (λ (y : RawArg). has_text y.values.items) xs) x.values.items (flat_map (λ (y : Argument). y.texts) (map argument_in xs)) (any_text xs)
