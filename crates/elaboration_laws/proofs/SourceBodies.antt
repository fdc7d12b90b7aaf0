-- The bodies of the source files: the class, the method and the form of each.
use Rattle.std.proofs.Common.{◌≡◌, ◌∙◌, sym, ap, length, refl, ℕ, Bool, true, false, cond, Option, Some, None, List, [], ◌∷◌, All}
use Rattle.std.specs.List.{flat_map}
use Rattle.std.specs.Option.{IsSomeAnd, is_some}
use Rattle.std.proofs.lemmas.List.Elements.{All-append, All-cons, All-head, All-nil, All-tail}
use Rattle.rlc_base.specs.declared.place.Pos.{Pos}
use Rattle.java_syntax.specs.declared.declaration_trees.ConstructorBody.{ConstructorBody}
use Rattle.java_syntax.specs.declared.declaration_trees.Param.{Param}
use Rattle.java_syntax.specs.declared.declaration_trees.Unit as tree
use Rattle.java_syntax.specs.declared.settings.Settings.{Settings}
use Rattle.java_syntax.specs.declared.statement_trees.Block.{Block}
use Rattle.program_model.specs.declared.kinds.MethodId.{MethodId}
use Rattle.program_model.specs.declared.kinds.MethodKind.TheVariants as kinds
use Rattle.program_model.specs.declared.program.Method.{Method}
use Rattle.program_model.specs.declared.program.Program.{Program}
use Rattle.program_model.specs.Heads.{is_constructor}
use Rattle.program_model.specs.Lookups.{method_at}
use Rattle.class_table.specs.ClassOrderDeclarations.{Declaration}
use Rattle.method_bodies.specs.Modifiers.{has_static}
use Rattle.class_table.specs.ClassDeclarationsMembers.{Written, MethodOf, ConstructorOf, ImpliedConstructor, ConstantOf, kind_of, parameters_of}
use Rattle.class_table.specs.Passes.{classes_of}
use Rattle.class_table.specs.Table.{IsTable}
use Rattle.java_elaboration.specs.SourceClassesMembers.{Environment, numbered_methods}
use Rattle.java_elaboration.specs.SourceClasses.{SourceClass, source_classes}
use Rattle.java_elaboration.specs.Bodies.{SourceBody, WrittenBody, all_bodies, bodies_in, body_of, constructor_body, method_body, source_body}
use Rattle.elaboration_laws.specs.SourceBodies.{IsSourceBody, source_declaration, table_declaration}
use Rattle.elaboration_laws.proofs.SourceMethods.{IsLinked, IsMethodOf, IsOwnMethod, linked_classes, own_methods}

-- ---- constructors

same_body : (x y : WrittenBody) → ◌≡◌ {A = Option WrittenBody} (Some x) (Some y) → x ≡ y
same_body x y h = cc

no_body : (y : WrittenBody) → ◌≡◌ {A = Option WrittenBody} None (Some y) → ⊥
no_body y h = cc

super_call_in : (x y : WrittenBody) → ◌≡◌ {A = Option WrittenBody} (Some x) (Some y) → is_some x.super_call ≡ is_some y.super_call
super_call_in x y is = ap (λ (b : WrittenBody). is_some b.super_call) (same_body x y is)

no_constructor : (static : Bool) → is_constructor (cond static kinds.Static kinds.Instance) ≡ false
no_constructor true = refl
no_constructor false = refl

of_method : (ws : List Param) (b : Option Block) (y : WrittenBody) → method_body ws b ≡ Some y → false ≡ is_some y.super_call
of_method ws None y is = absurd (no_body y is)
of_method ws (Some b) y is = super_call_in _ y is

of_constructor : (place : Pos) (ws : List Param) (b : Option ConstructorBody) (y : WrittenBody) → constructor_body place ws b ≡ Some y → true ≡ is_some y.super_call
of_constructor place ws None y is = absurd (no_body y is)
of_constructor place ws (Some b) y is = super_call_in _ y is

constructor_has_call : (w : Written) (y : WrittenBody) → body_of w ≡ Some y → is_constructor (kind_of w) ≡ is_some y.super_call
constructor_has_call (MethodOf m) y is = no_constructor (has_static m.modifiers.items) ∙ of_method m.parameters.items m.body y is
constructor_has_call (ConstructorOf k) y is = of_constructor k.name.pos k.parameters.items k.body y is
constructor_has_call (ImpliedConstructor place) y is = super_call_in _ y is
constructor_has_call (ConstantOf f v) y is = absurd (no_body y is)

-- ---- parameters

parameters_in : (x y : WrittenBody) → ◌≡◌ {A = Option WrittenBody} (Some x) (Some y) → y.parameters ≡ x.parameters
parameters_in x y is = ap (λ (b : WrittenBody). b.parameters) (sym (same_body x y is))

method_parameters : (ws : List Param) (b : Option Block) (y : WrittenBody) → method_body ws b ≡ Some y → y.parameters ≡ ws
method_parameters ws None y is = absurd (no_body y is)
method_parameters ws (Some b) y is = parameters_in _ y is

constructor_parameters : (place : Pos) (ws : List Param) (b : Option ConstructorBody) (y : WrittenBody) → constructor_body place ws b ≡ Some y → y.parameters ≡ ws
constructor_parameters place ws None y is = absurd (no_body y is)
constructor_parameters place ws (Some b) y is = parameters_in _ y is

parameters_written : (w : Written) (y : WrittenBody) → body_of w ≡ Some y → y.parameters ≡ parameters_of w
parameters_written (MethodOf m) y is = method_parameters m.parameters.items m.body y is
parameters_written (ConstructorOf k) y is = constructor_parameters k.name.pos k.parameters.items k.body y is
parameters_written (ImpliedConstructor place) y is = parameters_in _ y is
parameters_written (ConstantOf f v) y is = absurd (no_body y is)

-- ---- all bodies

pub all_flat : {X Y : Type 0} (Q : X → Type 0) (P : Y → Type 0) (f : X → List Y) → ((x : X) → Q x → All P (f x)) → (xs : List X) → All Q xs → All P (flat_map f xs)
all_flat Q P f each [] all = All-nil P
all_flat Q P f each (x ∷ xs) all = All-append P (f x) (flat_map f xs) (each x (All-head Q x xs all)) (all_flat Q P f each xs (All-tail Q x xs all))

body_is : (p : Program) (source : ℕ → Option Declaration) (c : SourceClass) (m : MethodId) (w : Written) → source c.class'.0 ≡ Some c.declaration → (o : Option Method) → method_at p m ≡ o → IsSomeAnd o (IsMethodOf c w) → (b : Option WrittenBody) → body_of w ≡ b → All (IsSourceBody p source) (source_body c m o b)
body_is p source c m w declared None at h b is = absurd h
body_is p source c m w declared (Some x) at h None is = All-nil (IsSourceBody p source)
body_is p source c m w declared (Some x) at h (Some y) is =
    All-cons (IsSourceBody p source) (record { class' = c; method = m; signature = x; body = y }) []
    (record { method = at; class' = h.0; kind = ap is_constructor h.1 ∙ constructor_has_call w y is; parameters = ap length (parameters_written w y is) ∙ h.2; declared = declared })
    (All-nil (IsSourceBody p source))

pub source_bodies : (units stubs : List tree.Unit) (settings : Settings) (e : Environment) → IsTable (classes_of units stubs settings) settings e.program → All (IsSourceBody e.program (source_declaration e.program units)) (all_bodies e (source_classes e.program units))
source_bodies units stubs settings e t =
    let p : Program = e.program in
    let source : ℕ → Option Declaration = source_declaration p units in
    let P : SourceBody → Type 0 = IsSourceBody p source in
    let L : SourceClass → Type 0 = IsLinked (table_declaration units stubs settings) source in
    all_flat L P (bodies_in e)
    (λ c l. all_flat (IsOwnMethod p c) P (λ (w : MethodId × Written). source_body c w.0 (method_at p w.0) (body_of w.1))
    (λ w own. body_is p source c w.0 w.1 l.written (method_at p w.0) refl own (body_of w.1) refl)
    (numbered_methods e c) (own_methods units stubs settings p t e.classes c l))
    (source_classes p units) (linked_classes units stubs settings p t)
