-- Lemmas on the classes of units.
use Rattle.std.proofs.Common.{◌≡◌, ◌∙◌, sym, ap, refl, arith, ℕ, ◌+◌, ◌<◌, Bool, true, false, true≢false, cond, not, ◌||◌, ◌&&◌, List, [], ◌∷◌, ◌++◌, length, get_or, take, map}
use Rattle.std.specs.Prelude.{filter}
use Rattle.std.proofs.lemmas.List.Elements.{filter-append}
use Rattle.std.proofs.lemmas.List.Folds.{list_any-append}
use Rattle.std.proofs.lemmas.List.{append-nil, append_assoc, length-take-le, take_more, map_push}
use Rattle.java_syntax.specs.declared.declaration_trees.Unit.{Unit}
use Rattle.class_order.specs.declared.declared.Declared.{Declared}
use Rattle.class_order.specs.Declarations.{Declaration, declaration_of, declared_from, declared_in, is_replaced, is_replacing}

declared_push : (first n : ℕ) (library : Bool) (us : List Unit) (u : Unit) → n ≡ first + length us → declared_from first library (us ++ u ∷ []) ≡ declared_from first library us ++ declared_in n library u
declared_push first n library [] u is = let same : first ≡ n = omega arith in append-nil (declared_in first library u) ∙ ap (λ m. declared_in m library u) same
declared_push first n library (x ∷ xs) u is =
    ap (λ ds. declared_in first library x ++ ds) (declared_push (first + 1) n library xs u (omega arith))
    ∙ sym (append_assoc (declared_in first library x) (declared_from (first + 1) library xs) (declared_in n library u))

-- one unit more
pub declared_more : (first n : ℕ) (library : Bool) (us : List Unit) (i : ℕ) (u : Unit) → i < length us → u ≡ get_or us i u → n ≡ first + i → declared_from first library (take (i + 1) us) ≡ declared_from first library (take i us) ++ declared_in n library u
declared_more first n library us i u within at is =
    let long : length (take i us) ≡ i = length-take-le i us (omega arith) in
    ap (declared_from first library) (take_more us i u within ∙ ap (λ x. take i us ++ x ∷ []) (sym at))
    ∙ declared_push first n library (take i us) u (omega (arith, long))

-- ---- which classes of the stubs count

or_nothing : (a b : Bool) → (a || (b || false)) ≡ (a || b)
or_nothing true b = refl
or_nothing false true = refl
or_nothing false false = refl

-- one class more is looked through
pub replaced_more : (stubs : List Declared) (i : ℕ) (d : Declared) (q : List ℕ) → i < length stubs → d ≡ get_or stubs i d → is_replaced (map declaration_of (take (i + 1) stubs)) q ≡ (is_replaced (map declaration_of (take i stubs)) q || is_replacing q (declaration_of d))
replaced_more stubs i d q within at =
    ap (λ xs. is_replaced (map declaration_of xs) q) (take_more stubs i d within ∙ ap (λ x. take i stubs ++ x ∷ []) (sym at))
    ∙ ap (λ xs. is_replaced xs q) (map_push declaration_of (take i stubs) d)
    ∙ list_any-append (is_replacing q) (map declaration_of (take i stubs)) (declaration_of d ∷ [])
    ∙ or_nothing (is_replaced (map declaration_of (take i stubs)) q) (is_replacing q (declaration_of d))

pub kept_more : (test : Declaration → Bool) (stubs : List Declared) (i : ℕ) (d : Declared) → i < length stubs → d ≡ get_or stubs i d → filter test (map declaration_of (take (i + 1) stubs)) ≡ filter test (map declaration_of (take i stubs)) ++ cond (test (declaration_of d)) (declaration_of d ∷ []) []
kept_more test stubs i d within at =
    ap (λ xs. filter test (map declaration_of xs)) (take_more stubs i d within ∙ ap (λ x. take i stubs ++ x ∷ []) (sym at))
    ∙ ap (filter test) (map_push declaration_of (take i stubs) d)
    ∙ filter-append test (map declaration_of (take i stubs)) (declaration_of d ∷ [])

pub core_replaces_none : (b core x : Bool) → core ≡ true → b ≡ (b || (not core && x))
core_replaces_none true core x is = refl
core_replaces_none false true x is = refl
core_replaces_none false false x is = absurd (true≢false (sym is))

pub other_replaces : (b core x y : Bool) → core ≡ false → x ≡ y → (b || (x || false)) ≡ (b || (not core && y))
other_replaces b true x y is same = absurd (true≢false is)
other_replaces b false x y is same = or_nothing b x ∙ ap (λ z. b || z) same
