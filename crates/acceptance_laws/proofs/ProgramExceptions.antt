-- The bodies of the source files, where nothing of them is refused, throw no checked exceptions that are neither caught nor declared.
use Rattle.std.proofs.Common.{◌≡◌, ◌∙◌, ℕ, zero, suc, Option, Some, None, List, [], ◌∷◌, All, flat_map, map, slice_get, false, refl, sym, ap, subst}
use Rattle.std.specs.List.{AllZip}
use Rattle.std.proofs.lemmas.List.Elements.{All-append, All-cons, All-head, All-nil, All-tail}
use Rattle.java_syntax.specs.declared.declaration_trees.Unit as tree
use Rattle.program_model.specs.declared.kinds.MethodId.{MethodId}
use Rattle.program_model.specs.declared.program.Method.{Method}
use Rattle.program_model.specs.declared.program.Program.{Program}
use Rattle.program_model.specs.declared.tree.Body.{Body}
use Rattle.program_model.specs.Lookups.{method_at}
use Rattle.program_reading.specs.ClassDeclarationsMembers.{Written}
use Rattle.program_reading.proofs.Goodness.{nil_left, nil_right}
use Rattle.program_reading.specs.Bodies.{SourceBody, WrittenBody, all_bodies, bodies_in, body_cases, body_of, source_body}
use Rattle.program_reading.specs.JavaElaborationElaborations.{IsBodyOf, IsProgramOf}
use Rattle.program_reading.specs.ProgramCases.{bodies_cases, environment_of, field_cases, member_cases, program_cases, typed_program, typing_cases}
use Rattle.program_reading.specs.SourceClasses.{SourceClass, source_classes}
use Rattle.program_reading.specs.SourceClassesMembers.{Environment, numbered_methods}
use Rattle.program_reading.specs.TypedBodies.{typed_body}
use Rattle.accepted_programs.specs.Coverage.{CoversItsExceptions, throws_undeclared}
use Rattle.acceptance_laws.specs.SameTables.{HaveSameTables}
use Rattle.acceptance_laws.proofs.BodyExceptions.{body_covers, same_throws}
use Rattle.acceptance_laws.proofs.TableExceptions.{SameThrows}

-- ---- each body of the source files has its method's signature

abbrev IsKnown : Program → SourceBody → Type 0
IsKnown p b = method_at p b.method ≡ Some b.signature

flat_all : {X Y : Type 0} (P : Y → Type 0) (f : X → List Y) → ((x : X) → All P (f x)) → (xs : List X) → All P (flat_map f xs)
flat_all P f each [] = All-nil P
flat_all P f each (x ∷ xs) = All-append P (f x) (flat_map f xs) (each x) (flat_all P f each xs)

one_known : (p : Program) (c : SourceClass) (m : MethodId) (o : Option Method) (b : Option WrittenBody) → method_at p m ≡ o → All (IsKnown p) (source_body c m o b)
one_known p c m None b at = All-nil (IsKnown p)
one_known p c m (Some y) None at = All-nil (IsKnown p)
one_known p c m (Some y) (Some z) at = All-cons (IsKnown p) (record { class' = c; method = m; signature = y; body = z }) [] at (All-nil (IsKnown p))

all_known : (e : Environment) (classes : List SourceClass) → All (IsKnown e.program) (all_bodies e classes)
all_known e classes = flat_all (IsKnown e.program) (bodies_in e)
    (λ c. flat_all (IsKnown e.program) (λ (w : MethodId × Written). source_body c w.0 (method_at e.program w.0) (body_of w.1)) (λ w. one_known e.program c w.0 (method_at e.program w.0) (body_of w.1) refl) (numbered_methods e c))
    classes

-- ---- all bodies

none_is_some : {X : Type 0} (x : X) → ◌≡◌ {A = Option X} None (Some x) → ⊥
none_is_some x h = cc

same_in : {X : Type 0} (x y : X) → ◌≡◌ {A = Option X} (Some x) (Some y) → x ≡ y
same_in x y h = cc

covers_at : (q : Program) (e : Environment) → SameThrows q e.program → (bs : List SourceBody) (xs : List Body) → All (IsKnown e.program) bs → bodies_cases e bs ≡ [] → AllZip IsBodyOf (map (typed_body e) bs) xs → (n : ℕ) (x : Body) → slice_get xs n ≡ Some x → throws_undeclared q x ≡ false
covers_at q e same [] [] known none laid n x found = absurd (none_is_some x found)
covers_at q e same [] (y ∷ ys) known none laid n x found = absurd laid
covers_at q e same (b ∷ bs) [] known none laid n x found = absurd laid
covers_at q e same (b ∷ bs) (y ∷ ys) known none laid zero x found =
    subst (λ (z : Body). throws_undeclared q z ≡ false) (same_in y x found) (body_covers q e b same (All-head (IsKnown e.program) b bs known) (nil_left (body_cases e b) (bodies_cases e bs) none) y laid.0.method laid.0.laid)
covers_at q e same (b ∷ bs) (y ∷ ys) known none laid (suc n) x found = covers_at q e same bs ys (All-tail (IsKnown e.program) b bs known) (nil_right (body_cases e b) (bodies_cases e bs) none) laid.1 n x found

pub program_covers : (table : Program) (units : List tree.Unit) (typed p : Program) → program_cases table units ≡ [] → IsProgramOf table (typed_program table units) typed → HaveSameTables table p → p.bodies.items ≡ typed.bodies.items → CoversItsExceptions p
program_covers table units typed p none is same bodies n x found =
    let e : Environment = environment_of table units in
    let classes : List SourceClass = source_classes table units in
    let bs : List SourceBody = all_bodies e classes in
    let none_bodies : bodies_cases e bs ≡ [] = nil_right (field_cases e classes) (bodies_cases e bs) (nil_right (member_cases table) (typing_cases e classes) none) in
    covers_at p e (same_throws table p same) bs typed.bodies.items (all_known e classes) none_bodies is.laid n.0 x (ap (λ (xs : List Body). slice_get xs n.0) (sym bodies) ∙ found)
