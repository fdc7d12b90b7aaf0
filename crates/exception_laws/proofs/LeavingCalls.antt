-- A covered exception leaves a call by a class that it is under.
use Rattle.std.proofs.Common.{◌≡◌, ◌∙◌, ◌⊎◌, ◌++◌, ◌∷◌, [], List, Bool, true, false, Option, Some, None, inl, inr, refl, sym, ap}
use Rattle.std.proofs.lemmas.Bool.{or_cases, or_left, or_right}
use Rattle.std.proofs.lemmas.List.Folds.{list_any-append}
use Rattle.std.specs.Prelude.{◌&&◌, ◌||◌, cond, not}
use Rattle.std.specs.List.{find, list_all, list_any}
use Rattle.std.specs.Option.{IsSomeAnd}
use Rattle.program_model.specs.declared.kinds.BodyId.{BodyId}
use Rattle.program_model.specs.declared.kinds.ClassId.{ClassId}
use Rattle.program_model.specs.declared.program.Method.{Method}
use Rattle.program_model.specs.declared.program.Program.{Program}
use Rattle.program_model.specs.declared.tree.Body.{Body}
use Rattle.program_model.specs.Hierarchy.{IsHierarchy, IsUnder}
use Rattle.program_model.specs.Lookups.{body_at, method_at}
use Rattle.program_model.specs.SuperTests.{is_under}
use Rattle.program_model.specs.Validity.{IsTypedProgram}
use Rattle.program_model.proofs.HierarchyLaws.{is_under_law}
use Rattle.java_control.specs.Exceptions.{unchecked}
use Rattle.accepted_programs.specs.Results.{may_throw, throws_no_more}
use Rattle.accepted_programs.specs.Results as overriding
use Rattle.accepted_programs.specs.Coverage.{CoversItsExceptions, is_checked, is_declared, is_undeclared}
use Rattle.accepted_programs.specs.Exceptions.{throws_in}
use Rattle.ledger_calls.specs.Calls.{leaves_by}
use Rattle.exception_laws.specs.Ends.{EndsBy, LeavesCall}
use Rattle.accepted_programs.proofs.Lists.{and_one, and_two}
use Rattle.exception_laws.proofs.Reached.{ends_by_exception, ends_covered, under_all}

any_more : {X : Type 0} (f g : X → Bool) → ((x : X) → f x ≡ true → g x ≡ true) → (xs : List X) → list_any f xs ≡ true → list_any g xs ≡ true
any_more f g more [] h = h
any_more f g more (x ∷ xs) h = elim (or_cases (f x) (list_any f xs) h) [
  | inl here ↦ or_left (g x) (list_any g xs) (more x here)
  | inr later ↦ or_right (g x) (list_any g xs) (any_more f g more xs later)
]

found : {X : Type 0} (f : X → Bool) (xs : List X) → list_any f xs ≡ true → IsSomeAnd (find f xs) (λ x. f x ≡ true)
found f [] h = absurd (let no : false ≡ true = h in cc)
found f (x ∷ xs) h = step (f x) refl (found f xs)
  where
    step : (a : Bool) → f x ≡ a → (list_any f xs ≡ true → IsSomeAnd (find f xs) (λ x. f x ≡ true)) → IsSomeAnd (cond a (Some x) (find f xs)) (λ x. f x ≡ true)
    step true is later = is
    step false is later = later (ap (λ a. a || list_any f xs) (sym is) ∙ h)

-- ---- leaving

under_true : (p : Program) → IsHierarchy p → (e c d : ClassId) → IsUnder p e c → is_under p c d ≡ true → is_under p e d ≡ true
under_true p hierarchy e c d below h = (is_under_law p hierarchy e d).1 (under_all p e c d below ((is_under_law p hierarchy c d).0 h))

-- a class of exceptions is declared, or under one of the two roots of unchecked exceptions
roots : (t r e d : Bool) → t ≡ true → ((t && not r && not e) && not d) ≡ false → (d ≡ true) ⊎ ((r || e) ≡ true)
roots true r e true h g = inl refl
roots true true e false h g = inr refl
roots true false true false h g = inr refl
roots true false false false h g = absurd (let no : true ≡ false = g in cc)
roots false r e d h g = absurd (let no : false ≡ true = h in cc)

by_root : (p : Program) → IsHierarchy p → (e c : ClassId) → IsUnder p e c → (is_under p c p.core.runtime_exception || is_under p c p.core.error) ≡ true → list_any (is_under p e) (unchecked p) ≡ true
by_root p hierarchy e c below h = elim (or_cases (is_under p c p.core.runtime_exception) (is_under p c p.core.error) h) [
  | inl r ↦ or_left (is_under p e p.core.runtime_exception) (is_under p e p.core.error || false) (under_true p hierarchy e c p.core.runtime_exception below r)
  | inr r ↦ or_right (is_under p e p.core.runtime_exception) (is_under p e p.core.error || false) (or_left (is_under p e p.core.error) false (under_true p hierarchy e c p.core.error below r))
]

some_under : (p : Program) → IsHierarchy p → (clause : List ClassId) (c e : ClassId) → IsUnder p e c → is_under p c p.core.throwable ≡ true → is_undeclared p clause c ≡ false → list_any (is_under p e) (clause ++ unchecked p) ≡ true
some_under p hierarchy clause c e below under covered =
    list_any-append (is_under p e) clause (unchecked p) ∙ (elim (roots (is_under p c p.core.throwable) (is_under p c p.core.runtime_exception) (is_under p c p.core.error) (is_declared p clause c) under covered) [
      | inl declared ↦ or_left (list_any (is_under p e) clause) (list_any (is_under p e) (unchecked p)) (any_more (is_under p c) (is_under p e) (λ d h. under_true p hierarchy e c d below h) clause declared)
      | inr root ↦ or_right (list_any (is_under p e) clause) (list_any (is_under p e) (unchecked p)) (by_root p hierarchy e c below root)
    ])

weaker_some : {X : Type 0} (o : Option X) (P Q : X → Type 0) → ((x : X) → P x → Q x) → IsSomeAnd o P → IsSomeAnd o Q
weaker_some None P Q less h = h
weaker_some (Some x) P Q less h = less x h

pub leaves : (p : Program) → IsHierarchy p → (m : Method) (c : ClassId) → is_under p c p.core.throwable ≡ true → is_undeclared p m.sig.throws.items c ≡ false → (e : ClassId) → IsUnder p e c → LeavesCall p m e
leaves p hierarchy m c under covered e below =
    weaker_some (leaves_by p (Some m) e) (λ t. is_under p e t ≡ true) (λ t. IsUnder p e t) (λ t h. (is_under_law p hierarchy e t).0 h)
    (found (is_under p e) (m.sig.throws.items ++ unchecked p) (some_under p hierarchy m.sig.throws.items c e below under covered))

-- ---- overriding

-- what is under a root of the unchecked exceptions is not checked
never_checked : (t r e : Bool) → (t && not r && not e) ≡ true → (r || e) ≡ true → ⊥
never_checked true true e h g = let no : false ≡ true = h in cc
never_checked true false true h g = let no : false ≡ true = h in cc
never_checked true false false h g = let no : false ≡ true = g in cc
never_checked false r e h g = let no : false ≡ true = h in cc

either_root : (r e : Bool) → not (not r && not e) ≡ true → (r || e) ≡ true
either_root true e h = refl
either_root false true h = refl
either_root false false h = h

one_covers : (p : Program) → IsHierarchy p → (m : Method) (c d : ClassId) → is_checked p c ≡ true → is_under p c d ≡ true → may_throw p m.sig.throws.items d ≡ true → is_declared p m.sig.throws.items c ≡ true
one_covers p hierarchy m c d checked below may = elim (or_cases (not (overriding.is_checked p d)) (overriding.covers p m.sig.throws.items d) may) [
  | inl unchecked' ↦ absurd (never_checked (is_under p c p.core.throwable) (is_under p c p.core.runtime_exception) (is_under p c p.core.error) checked (root (either_root (is_under p d p.core.runtime_exception) (is_under p d p.core.error) unchecked')))
  | inr covers ↦ any_more (is_under p d) (is_under p c) (λ x h. under_true p hierarchy c d x under h) m.sig.throws.items covers
]
  where
    under : IsUnder p c d
    under = (is_under_law p hierarchy c d).0 below

    root : (is_under p d p.core.runtime_exception || is_under p d p.core.error) ≡ true → (is_under p c p.core.runtime_exception || is_under p c p.core.error) ≡ true
    root h = elim (or_cases (is_under p d p.core.runtime_exception) (is_under p d p.core.error) h) [
      | inl r ↦ or_left (is_under p c p.core.runtime_exception) (is_under p c p.core.error) (under_true p hierarchy c d p.core.runtime_exception under r)
      | inr r ↦ or_right (is_under p c p.core.runtime_exception) (is_under p c p.core.error) (under_true p hierarchy c d p.core.error under r)
    ]

all_covered : (p : Program) → IsHierarchy p → (m : Method) (c : ClassId) → is_checked p c ≡ true → (ds : List ClassId) → list_all (may_throw p m.sig.throws.items) ds ≡ true → list_any (λ d. is_under p c d) ds ≡ true → is_declared p m.sig.throws.items c ≡ true
all_covered p hierarchy m c checked [] may h = absurd (let no : false ≡ true = h in cc)
all_covered p hierarchy m c checked (d ∷ ds) may h = elim (or_cases (is_under p c d) (list_any (λ d. is_under p c d) ds) h) [
  | inl here ↦ one_covers p hierarchy m c d checked here (and_one (may_throw p m.sig.throws.items d) (list_all (may_throw p m.sig.throws.items) ds) may)
  | inr later ↦ all_covered p hierarchy m c checked ds (and_two (may_throw p m.sig.throws.items d) (list_all (may_throw p m.sig.throws.items) ds) may) later
]

declared_then : (a d : Bool) → a ≡ true → (a && not d) ≡ false → d ≡ true
declared_then true true h g = refl
declared_then true false h g = absurd (let no : true ≡ false = g in cc)
declared_then false d h g = absurd (let no : false ≡ true = h in cc)

not_undeclared : (a d : Bool) → (a ≡ true → d ≡ true) → (a && not d) ≡ false
not_undeclared true d h = ap not (h refl)
not_undeclared false d h = refl

pub overridden_covers : (p : Program) → IsHierarchy p → (x m : Method) → throws_no_more p x m ≡ true → (c : ClassId) → is_undeclared p x.sig.throws.items c ≡ false → is_undeclared p m.sig.throws.items c ≡ false
overridden_covers p hierarchy x m less c h =
    not_undeclared (is_checked p c) (is_declared p m.sig.throws.items c) (λ checked. all_covered p hierarchy m c checked x.sig.throws.items less (declared_then (is_checked p c) (is_declared p x.sig.throws.items c) checked h))

-- ---- calls of program methods

pub leaves_call : (p : Program) → IsTypedProgram p → CoversItsExceptions p → (n : BodyId) (b : Body) → body_at p n ≡ Some b → (x m : Method) → method_at p b.method ≡ Some x → throws_no_more p x m ≡ true → (c : ClassId) → EndsBy p n c → (e : ClassId) → IsUnder p e c → LeavesCall p m e
leaves_call p typed covers n b here x m known less c ends e below =
    let own : is_undeclared p x.sig.throws.items c ≡ false = ap (λ (o : Option Method). is_undeclared p (throws_in o) c) (sym known) ∙ ends_covered p typed covers n b here c ends in
    leaves p typed.hierarchy m c (ends_by_exception p typed covers n b here c ends) (overridden_covers p typed.hierarchy x m less c own) e below
