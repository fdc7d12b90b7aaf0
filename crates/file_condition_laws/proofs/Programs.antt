-- No super call in the program of files passes a `this`.
use Rattle.std.proofs.Common.{◌≡◌, subst, ℕ, zero, suc, Some, List, [], ◌∷◌, All, map, slice_get}
use Rattle.std.specs.List.{AllZip}
use Rattle.std.proofs.lemmas.List.Elements.{All-head, All-tail}
use Rattle.java_syntax.specs.declared.declaration_trees.Unit as tree
use Rattle.program_model.specs.declared.kinds.StmtId.{StmtId}
use Rattle.program_model.specs.declared.program.Program.{Program}
use Rattle.program_model.specs.declared.tree.Body.{Body}
use Rattle.program_model.specs.declared.tree.TStmt.{TStmt}
use Rattle.program_model.specs.Lookups.{statement_at}
use Rattle.java_typed_trees.specs.StatementTrees.{statements}
use Rattle.acceptance_laws.proofs.Goodness.{nil_left, nil_right}
use Rattle.acceptance_laws.specs.SourceClassesMembers.{Environment}
use Rattle.acceptance_laws.specs.SourceClasses.{SourceClass, source_classes}
use Rattle.acceptance_laws.specs.Bodies.{SourceBody, all_bodies, body_cases, body_trees}
use Rattle.acceptance_laws.specs.ProgramCases.{bodies_cases, environment_of, field_cases, member_cases, typing_cases}
use Rattle.acceptance_laws.specs.TypedBodies.{typed_body}
use Rattle.acceptance_laws.specs.JavaElaborationElaborations.{IsBodyOf}
use Rattle.acceptance_laws.proofs.Stands.{none_is_some, same_in}
use Rattle.acceptance_laws.proofs.TableNames.{table_names_are}
use Rattle.acceptance_laws.specs.ElaboratedBodies.{IsBodyInTable}
use Rattle.acceptance_laws.specs.StringTables.{IsStringTable}
use Rattle.acceptance_laws.proofs.BodyTables.{bodies_in_table}
use Rattle.acceptance_laws.proofs.FinalString.{bodies_are_not_string, final_string}
use Rattle.acceptance_laws.specs.Programs.{Input, IsProgram}
use Rattle.acceptance_laws.specs.TypedPrograms.{IsTyped}
use Rattle.agreement.specs.SuperArguments.{PassesNoThis, SuperCallsPassNoThis}
use Rattle.file_condition_laws.proofs.Laid.{laid_passes}
use Rattle.file_condition_laws.proofs.Written.{body_passes}

abbrev Passes : Body → Type 0
Passes x = (s : StmtId) (y : TStmt) → statement_at x s ≡ Some y → PassesNoThis x y.kind

one_passes : (e : Environment) (b : SourceBody) (x : Body) → IsBodyInTable e b → body_cases e b ≡ [] → IsBodyOf (typed_body e b) x → Passes x
one_passes e b x table none laid = laid_passes x (statements (body_trees e b)) laid.laid (body_passes e b table.typed x.vars.items laid.variables none)

all_pass : (e : Environment) (bs : List SourceBody) (xs : List Body) → All (IsBodyInTable e) bs → bodies_cases e bs ≡ [] → AllZip IsBodyOf (map (typed_body e) bs) xs
    → (n : ℕ) (x : Body) → slice_get xs n ≡ Some x → Passes x
all_pass e [] [] tables none laid n x found = absurd (none_is_some x found)
all_pass e [] (y ∷ ys) tables none laid n x found = absurd laid
all_pass e (b ∷ bs) [] tables none laid n x found = absurd laid
all_pass e (b ∷ bs) (y ∷ ys) tables none laid zero x found =
    subst Passes (same_in y x found) (one_passes e b y (All-head (IsBodyInTable e) b bs tables) (nil_left (body_cases e b) (bodies_cases e bs) none) laid.0)
all_pass e (b ∷ bs) (y ∷ ys) tables none laid (suc n) x found =
    all_pass e bs ys (All-tail (IsBodyInTable e) b bs tables) (nil_right (body_cases e b) (bodies_cases e bs) none) laid.1 n x found

pub read_passes : (input : Input) (p : Program) → IsProgram input p → SuperCallsPassNoThis p
read_passes input p is n b s x at_b at_s =
    let typed : IsTyped input.settings is.sections is.sources is.typed = is.is_typed in
    let units : List tree.Unit = is.sources in
    let stubs : List tree.Unit = is.sections in
    let table : Program = typed.table in
    let e : Environment = environment_of table units in
    let classes : List SourceClass = source_classes table units in
    let bs : List SourceBody = all_bodies e classes in
    let strings : IsStringTable table units = record {
      names = table_names_are units stubs input.settings table typed.built.table;
      final = final_string units stubs input.settings table typed.built;
      others = bodies_are_not_string units stubs input.settings e typed.built;
    } in
    let none_bodies : bodies_cases e bs ≡ [] = nil_right (field_cases e classes) (bodies_cases e bs) (nil_right (member_cases table) (typing_cases e classes) typed.right) in
    let there : slice_get is.typed.bodies.items n.0 ≡ Some b = subst (λ bodies. slice_get bodies.items n.0 ≡ Some b) is.annotated.signed.bodies at_b in
    all_pass e bs is.typed.bodies.items (bodies_in_table units stubs input.settings table typed.built strings typed.due) none_bodies typed.elaborated.laid n.0 b there s x at_s
