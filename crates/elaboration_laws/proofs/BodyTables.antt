-- The bodies of the source files are written for the methods of a built table.
use Rattle.std.proofs.Common.{◌≡◌, ◌∙◌, ap, refl, Bool, true, false, List, [], ◌∷◌, All}
use Rattle.std.specs.Option.{is_some}
use Rattle.std.proofs.lemmas.List.Elements.{All-cons, All-head, All-nil, All-tail}
use Rattle.java_syntax.specs.declared.declaration_trees.Unit as tree
use Rattle.java_syntax.specs.declared.settings.Settings.{Settings}
use Rattle.program_model.specs.declared.kinds.MethodKind.{MethodKind}
use Rattle.program_model.specs.declared.kinds.MethodKind.TheVariants as methods
use Rattle.program_model.specs.declared.program.Program.{Program}
use Rattle.program_model.specs.Heads.{is_constructor}
use Rattle.program_model.specs.Validity.{IsTypedProgram, RunsBody}
use Rattle.class_names.specs.Meanings.{CompilationUnit}
use Rattle.class_table.specs.ClassOrderDeclarations.{Declaration}
use Rattle.std.specs.Prelude.{ℕ, Option}
use Rattle.method_bodies.specs.MethodBodies.{body_cases}
use Rattle.class_table.specs.Passes.{IsBuilt, classes_of}
use Rattle.java_typing_laws.specs.Scopes.{HasDeclarableTypes}
use Rattle.java_elaboration.specs.SourceClassesMembers.{Environment}
use Rattle.java_elaboration.specs.SourceClasses.{all_names, source_classes}
use Rattle.java_elaboration.specs.Bodies.{SourceBody, all_bodies}
use Rattle.java_elaboration.specs.ProgramCases.{environment_of}
use Rattle.elaboration_laws.proofs.WrittenTypeLaws.{declarable_types}
use Rattle.elaboration_laws.specs.SourceBodies.{IsSourceBody, source_declaration}
use Rattle.elaboration_laws.proofs.RunningBodies.{source_bodies_run}
use Rattle.elaboration_laws.proofs.SourceBodies.{source_bodies}
use Rattle.elaboration_laws.specs.StringTables.{IsStringTable}
use Rattle.elaboration_laws.specs.ElaboratedBodies.{IsBodyInTable}

constructor_kind : (k : MethodKind) → is_constructor k ≡ true → k ≡ methods.Ctor
constructor_kind methods.Instance is = absurd (let h : ◌≡◌ {A = Bool} false true = is in cc)
constructor_kind methods.Static is = absurd (let h : ◌≡◌ {A = Bool} false true = is in cc)
constructor_kind methods.Ctor is = refl
constructor_kind methods.Constant is = absurd (let h : ◌≡◌ {A = Bool} false true = is in cc)

abbrev IsNoString : Environment → SourceBody → Type 0
IsNoString e b = b.class'.class' ≡ e.program.core.string → ⊥

abbrev IsRun : Environment → SourceBody → Type 0
IsRun e b = RunsBody e.program b.signature

one_in_table : (e : Environment) (source : ℕ → Option Declaration) (b : SourceBody) → IsTypedProgram e.program → ((u : CompilationUnit) → HasDeclarableTypes e.program e.classes u) → IsSourceBody e.program source b → IsRun e b → IsNoString e b → IsBodyInTable e b
one_in_table e source b valid declarable is runs other = record {
  typed = record {
    table = valid;
    types = declarable b.class'.declaration.unit;
    written = record { known = is.method; own = is.class'; parameters = is.parameters; constructor = λ call has. constructor_kind b.signature.kind (is.kind ∙ ap is_some has); not_string = other };
  };
  runs = runs;
}

all_in_table : (e : Environment) (source : ℕ → Option Declaration) → IsTypedProgram e.program → ((u : CompilationUnit) → HasDeclarableTypes e.program e.classes u) → (bs : List SourceBody) → All (IsSourceBody e.program source) bs → All (IsRun e) bs → All (IsNoString e) bs → All (IsBodyInTable e) bs
all_in_table e source valid declarable [] known runs others = All-nil (IsBodyInTable e)
all_in_table e source valid declarable (b ∷ bs) known runs others =
    All-cons (IsBodyInTable e) b bs
    (one_in_table e source b valid declarable (All-head (IsSourceBody e.program source) b bs known) (All-head (IsRun e) b bs runs) (All-head (IsNoString e) b bs others))
    (all_in_table e source valid declarable bs (All-tail (IsSourceBody e.program source) b bs known) (All-tail (IsRun e) b bs runs) (All-tail (IsNoString e) b bs others))

pub bodies_in_table : (units stubs : List tree.Unit) (settings : Settings) (p : Program) → IsBuilt (classes_of units stubs settings) settings p → IsStringTable p units → body_cases units ≡ [] → All (IsBodyInTable (environment_of p units)) (all_bodies (environment_of p units) (source_classes p units))
bodies_in_table units stubs settings p built strings due =
    let e : Environment = environment_of p units in
    all_in_table e (source_declaration p units) built.valid.typed
    (λ u. declarable_types p built.valid.typed (all_names p units) strings.names strings.final u)
    (all_bodies e (source_classes p units))
    (source_bodies units stubs settings e built.table) (source_bodies_run units stubs settings e built.table due) strings.others
