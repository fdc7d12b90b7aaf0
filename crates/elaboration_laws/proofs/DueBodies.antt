-- The methods of the classes of source files have a body exactly where they are not abstract.
use Rattle.std.proofs.Common.{◌≡◌, ◌∙◌, sym, ap, subst, refl, ℕ, ◌+◌, Bool, true, false, cond, ◌&&◌, Option, Some, None, List, [], ◌∷◌, ◌++◌, All, length, map, zip}
use Rattle.std.specs.Prelude.{◌||◌, not}
use Rattle.std.specs.List.{flat_map, list_any}
use Rattle.std.specs.Option.{IsSomeAnd, is_some}
use Rattle.std.proofs.lemmas.List.Elements.{All-append, All-cons, All-head, All-nil, All-tail}
use Rattle.rlc_base.specs.declared.code.Code.{Code}
use Rattle.rlc_base.specs.declared.code.Code.TheVariants as refused
use Rattle.rlc_base.specs.declared.place.Pos.{Pos}
use Rattle.refusal_order.specs.Refusals.{refused_at, where_true}
use Rattle.java_syntax.specs.declared.declaration_trees.ClassDecl.{ClassDecl}
use Rattle.java_syntax.specs.declared.declaration_trees.ConstructorBody.{ConstructorBody}
use Rattle.java_syntax.specs.declared.declaration_trees.Member.{Member}
use Rattle.java_syntax.specs.declared.declaration_trees.Member.TheVariants as members
use Rattle.java_syntax.specs.declared.declaration_trees.MethodDecl.{MethodDecl}
use Rattle.java_syntax.specs.declared.declaration_trees.Param.{Param}
use Rattle.java_syntax.specs.declared.declaration_trees.Unit as tree
use Rattle.java_syntax.specs.declared.settings.Settings.{Settings}
use Rattle.java_syntax.specs.declared.statement_trees.Block.{Block}
use Rattle.program_model.specs.declared.kinds.MethodId.{MethodId}
use Rattle.program_model.specs.declared.kinds.MethodKind.TheVariants as kinds
use Rattle.program_model.specs.declared.program.Method.{Method}
use Rattle.program_model.specs.declared.program.Program.{Program}
use Rattle.program_model.specs.Lookups.{method_at}
use Rattle.program_model.specs.Overrides.{methods_of}
use Rattle.program_model.specs.Validity.{is_constant}
use Rattle.class_names.specs.declared.class_name.ClassName.{ClassName}
use Rattle.class_names.specs.ClassNames.{class_number}
use Rattle.class_table.specs.ClassOrderDeclarations.{Declaration, compilation_unit, declared_from, declared_in}
use Rattle.method_bodies.specs.Modifiers.{has_abstract, has_static}
use Rattle.class_table.specs.ClassDeclarationsMembers.{Written, MethodOf, ConstructorOf, ImpliedConstructor, is_abstract_in, is_constructor, kind_of, written_in}
use Rattle.method_bodies.specs.MethodBodies.{body_cases, class_cases, is_abstract, is_misfit, member_case}
use Rattle.class_table.specs.Passes.{classes_of}
use Rattle.class_table.specs.Table.{IsTable}
use Rattle.java_elaboration.specs.SourceClasses.{SourceClass, declarations, library_classes, numbered_from, source_classes}
use Rattle.java_elaboration.specs.Bodies.{body_of, constructor_body, method_body}
use Rattle.elaboration_laws.specs.SourceBodies.{source_declaration, table_declaration}
use Rattle.elaboration_laws.proofs.SourceMethods.{IsLinked, IsMethodOf, IsOwnMethod, own_methods, plain_by, plain_written, written_plain}

cons_is_nil : {X : Type 0} (x : X) (xs : List X) → ◌≡◌ {A = List X} (x ∷ xs) [] → ⊥
cons_is_nil x xs h = cc

pub nil_left : {X : Type 0} (xs ys : List X) → xs ++ ys ≡ [] → xs ≡ []
nil_left [] ys h = refl
nil_left (x ∷ xs) ys h = absurd (cons_is_nil x (xs ++ ys) h)

pub nil_right : {X : Type 0} (xs ys : List X) → xs ++ ys ≡ [] → ys ≡ []
nil_right [] ys h = h
nil_right (x ∷ xs) ys h = absurd (cons_is_nil x (xs ++ ys) h)

-- ---- the classes of the source files

abbrev pub IsDue : Declaration → Type 0
IsDue d = class_cases d.class_tree ≡ []

due_in : (n : ℕ) (u : tree.Unit) (ts : List ClassDecl) → flat_map class_cases ts ≡ [] → All IsDue (map (λ c. record { class_tree = c; unit = compilation_unit n false u }) ts)
due_in n u [] none = All-nil IsDue
due_in n u (t ∷ ts) none =
    All-cons IsDue (record { class_tree = t; unit = compilation_unit n false u }) (map (λ c. record { class_tree = c; unit = compilation_unit n false u }) ts)
    (nil_left (class_cases t) (flat_map class_cases ts) none)
    (due_in n u ts (nil_right (class_cases t) (flat_map class_cases ts) none))

due_units : (n : ℕ) (us : List tree.Unit) → body_cases us ≡ [] → All IsDue (declared_from n false us)
due_units n [] none = All-nil IsDue
due_units n (u ∷ us) none =
    All-append IsDue (declared_in n false u) (declared_from (n + 1) false us)
    (due_in n u u.types.items (nil_left (flat_map class_cases u.types.items) (body_cases us) none))
    (due_units (n + 1) us (nil_right (flat_map class_cases u.types.items) (body_cases us) none))

abbrev pub IsDueClass : SourceClass → Type 0
IsDueClass c = IsDue c.declaration

due_numbered : (first : ℕ) (ds : List Declaration) → All IsDue ds → All IsDueClass (numbered_from first ds)
due_numbered first [] all = All-nil IsDueClass
due_numbered first (d ∷ ds) all =
    All-cons IsDueClass (record { class' = class_number first; declaration = d }) (numbered_from (first + 1) ds) (All-head IsDue d ds all) (due_numbered (first + 1) ds (All-tail IsDue d ds all))

pub due_classes : (p : Program) (units : List tree.Unit) → body_cases units ≡ [] → All IsDueClass (source_classes p units)
due_classes p units none = due_numbered (length (library_classes p)) (declarations units) (due_units 0 units none)

-- ---- what is written in a class

-- it has a body exactly where it is not abstract, and is no constant of a stub
abbrev pub IsDueWritten : Declaration → Written → Type 0
IsDueWritten d w = (is_some (body_of w) ≡ not (is_abstract_in d w)) × (is_constant (kind_of w) ≡ false)

no_case : (b : Bool) (code : Code) (place : Pos) → where_true b code place ≡ [] → b ≡ false
no_case true code place none = absurd (cons_is_nil (refused_at code place) [] none)
no_case false code place none = refl

fits : (abstract body : Bool) → is_misfit abstract body ≡ false → body ≡ not abstract
fits true body h = h
fits false true h = refl
fits false false h = sym h

has_body : (b : Bool) → not b ≡ false → b ≡ true
has_body true h = refl
has_body false h = sym h

method_has : (ws : List Param) (b : Option Block) → is_some (method_body ws b) ≡ is_some b
method_has ws None = refl
method_has ws (Some b) = refl

constructor_has : (place : Pos) (ws : List Param) (b : Option ConstructorBody) → is_some (constructor_body place ws b) ≡ is_some b
constructor_has place ws None = refl
constructor_has place ws (Some b) = refl

no_constant : (static : Bool) → is_constant (cond static kinds.Static kinds.Instance) ≡ false
no_constant true = refl
no_constant false = refl

-- what a method of a source file is, its tree alone says
abstract_in : (d : Declaration) (m : MethodDecl) → d.unit.library ≡ false → is_abstract_in d (MethodOf m) ≡ is_abstract d.class_tree m
abstract_in d m own = ap (λ library. d.class_tree.is_interface || (not library && has_abstract m.modifiers.items)) own

due_member : (d : Declaration) (m : Member) → d.unit.library ≡ false → member_case d.class_tree m ≡ [] → All (IsDueWritten d) (plain_by m)
due_member d (members.Field f) own none = All-nil (IsDueWritten d)
due_member d (members.Method m) own none =
    All-cons (IsDueWritten d) (MethodOf m) []
    (method_has m.parameters.items m.body ∙ fits (is_abstract d.class_tree m) (is_some m.body) (no_case (is_misfit (is_abstract d.class_tree m) (is_some m.body)) refused.Syntax m.name.pos none) ∙ ap not (sym (abstract_in d m own)), no_constant (has_static m.modifiers.items))
    (All-nil (IsDueWritten d))
due_member d (members.Constructor k) own none =
    All-cons (IsDueWritten d) (ConstructorOf k) []
    (constructor_has k.name.pos k.parameters.items k.body ∙ has_body (is_some k.body) (no_case (not (is_some k.body)) refused.Syntax k.name.pos none), refl)
    (All-nil (IsDueWritten d))

due_members : (d : Declaration) (ms : List Member) → d.unit.library ≡ false → flat_map (member_case d.class_tree) ms ≡ [] → All (IsDueWritten d) (flat_map plain_by ms)
due_members d [] own none = All-nil (IsDueWritten d)
due_members d (m ∷ ms) own none =
    All-append (IsDueWritten d) (plain_by m) (flat_map plain_by ms)
    (due_member d m own (nil_left (member_case d.class_tree m) (flat_map (member_case d.class_tree) ms) none))
    (due_members d ms own (nil_right (member_case d.class_tree m) (flat_map (member_case d.class_tree) ms) none))

due_implied : (d : Declaration) (place : Pos) (b : Bool) → All (IsDueWritten d) (cond b (ImpliedConstructor place ∷ []) [])
due_implied d place true = All-cons (IsDueWritten d) (ImpliedConstructor place) [] (refl, refl) (All-nil (IsDueWritten d))
due_implied d place false = All-nil (IsDueWritten d)

pub due_written : (names : List ClassName) (d : Declaration) → d.unit.library ≡ false → IsDue d → All (IsDueWritten d) (written_in names d)
due_written names d own none =
    let all : All (IsDueWritten d) (plain_written d.class_tree) =
    All-append (IsDueWritten d) (cond (not (d.class_tree.is_interface || list_any is_constructor d.class_tree.members.items)) (ImpliedConstructor d.class_tree.name.pos ∷ []) []) (flat_map plain_by d.class_tree.members.items)
    (due_implied d d.class_tree.name.pos (not (d.class_tree.is_interface || list_any is_constructor d.class_tree.members.items)))
    (due_members d d.class_tree.members.items own none) in
    subst (All (IsDueWritten d)) (sym (written_plain names d own)) all

-- ---- the methods of a class

-- the method of the class that is written so: it has a body exactly where it is not abstract, and is no constant
abbrev pub IsDueMethod : Program → SourceClass → MethodId × Written → Type 0
IsDueMethod p c w = IsSomeAnd (method_at p w.0) (λ m. (m.class ≡ c.class') × (is_some (body_of w.1) ≡ not m.is_abstract) × (is_constant m.kind ≡ false))

due_method : (c : SourceClass) (w : Written) (o : Option Method) → IsSomeAnd o (IsMethodOf c w) → IsDueWritten c.declaration w → IsSomeAnd o (λ m. (m.class ≡ c.class') × (is_some (body_of w) ≡ not m.is_abstract) × (is_constant m.kind ≡ false))
due_method c w None own due = absurd own
due_method c w (Some m) own due = (own.0, due.0 ∙ ap not (sym own.3), ap is_constant own.1 ∙ due.1)

due_zipped : (p : Program) (c : SourceClass) (ids : List MethodId) (ws : List Written) → All (IsOwnMethod p c) (zip ids ws) → All (IsDueWritten c.declaration) ws → All (IsDueMethod p c) (zip ids ws)
due_zipped p c [] ws own due = All-nil (IsDueMethod p c)
due_zipped p c (m ∷ ids) [] own due = All-nil (IsDueMethod p c)
due_zipped p c (m ∷ ids) (w ∷ ws) own due =
    All-cons (IsDueMethod p c) (m, w) (zip ids ws)
    (due_method c w (method_at p m) (All-head (IsOwnMethod p c) (m, w) (zip ids ws) own) (All-head (IsDueWritten c.declaration) w ws due))
    (due_zipped p c ids ws (All-tail (IsOwnMethod p c) (m, w) (zip ids ws) own) (All-tail (IsDueWritten c.declaration) w ws due))

pub due_methods : (units stubs : List tree.Unit) (settings : Settings) (p : Program) → IsTable (classes_of units stubs settings) settings p → (names : List ClassName) (c : SourceClass) → IsLinked (table_declaration units stubs settings) (source_declaration p units) c → IsDueClass c → All (IsDueMethod p c) (zip (methods_of p c.class') (written_in names c.declaration))
due_methods units stubs settings p t names c l due =
    due_zipped p c (methods_of p c.class') (written_in names c.declaration) (own_methods units stubs settings p t names c l) (due_written names c.declaration l.in_source due)
