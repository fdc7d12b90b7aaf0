-- The statements in the bodies of an elaborated program are in order.
use Rattle.std.proofs.Common.{◌≡◌, ◌∙◌, sym, ap, refl, subst, arith, ℕ, zero, suc, ◌+◌, Bool, true, false, ◌&&◌, Option, Some, None, List, [], ◌∷◌, ◌++◌, All, map, zip}
use Rattle.std.specs.Prelude.{not, slice_get}
use Rattle.std.specs.List.{flat_map}
use Rattle.std.specs.List.Sorted.{IsStrictlyIncreasing}
use Rattle.std.specs.Option.{IsSomeAnd, is_some}
use Rattle.std.proofs.lemmas.List.Elements.{All-cons, All-head, All-nil, All-tail}
use Rattle.java_syntax.specs.declared.declaration_trees.Unit as tree
use Rattle.java_syntax.specs.declared.settings.Settings.{Settings}
use Rattle.program_model.specs.declared.kinds.BodyId.{BodyId}
use Rattle.program_model.specs.declared.kinds.ClassId.{ClassId}
use Rattle.program_model.specs.declared.kinds.FieldId.{FieldId}
use Rattle.program_model.specs.declared.kinds.MethodId.{MethodId}
use Rattle.program_model.specs.declared.program.Class.{Class}
use Rattle.program_model.specs.declared.program.CoreClasses.{CoreClasses}
use Rattle.program_model.specs.declared.program.Method.{Method}
use Rattle.program_model.specs.declared.program.Program.{Program}
use Rattle.program_model.specs.declared.tree.Body.{Body}
use Rattle.program_model.specs.Heads.{AgreeOnInitializers, asks_super_call, class_of_constructor, constructed_class, extends_other, initialized_fields, is_constructor, is_other_class}
use Rattle.program_model.specs.Lookups.{body_at, class_at, method_at}
use Rattle.program_model.specs.Overrides.{super_in}
use Rattle.program_model.specs.SuperTests.{is_class}
use Rattle.program_model.specs.Typing.{when_true}
use Rattle.program_model.specs.Validity.{IsValid}
use Rattle.java_elaboration.specs.ProgramBodies.{HasBodies, methods_from}
use Rattle.class_table.specs.ClassOrderDeclarations.{Declaration}
use Rattle.class_table.specs.ClassDeclarationsMembers.{fields_of}
use Rattle.java_call_rules.specs.Members.{fields_in}
use Rattle.class_table.specs.Passes.{IsBuilt, classes_of}
use Rattle.class_table.proofs.Owners.{tied_at}
use Rattle.java_typing_laws.specs.Bodies.{IsLaid}
use Rattle.java_elaboration.specs.SourceClassesMembers.{Environment}
use Rattle.java_elaboration.specs.SourceClasses.{SourceClass, source_classes}
use Rattle.java_elaboration.specs.Declarations.{variable_in}
use Rattle.java_elaboration.specs.Bodies.{SourceBody, all_bodies, body_cases, body_variables_in}
use Rattle.java_typing_laws.specs.SuperCalls.{SuperCall, is_other}
use Rattle.java_elaboration.specs.ProgramCases.{bodies_cases, environment_of, field_cases, member_cases, program_cases, typed_program, typing_cases}
use Rattle.java_elaboration.specs.TypedBodies.{TypedBody, typed_bodies, typed_body}
use Rattle.java_elaboration.specs.Elaborations.{IsBodyOf, IsProgramOf}
use Rattle.elaboration_laws.proofs.Heads.{begins_so, headless_parts, heads_first, one_super_call}
use Rattle.elaboration_laws.proofs.Initializers.{initialized_so}
use Rattle.elaboration_laws.proofs.Jumps.{jumps_in_loops}
use Rattle.elaboration_laws.specs.BodyOrders.{IsOrdered, body_statements, calls_super, field_with_initializer, fields_run, fields_with_initializers}
use Rattle.elaboration_laws.proofs.OrderedBodies.{body_ordered}
use Rattle.elaboration_laws.specs.SourceBodies.{IsSourceBody, source_declaration}
use Rattle.elaboration_laws.proofs.SourceBodies.{source_bodies}
use Rattle.elaboration_laws.specs.ElaboratedOrders.{AreOrderedBodies, HasOrderedStatements}
use Rattle.elaboration_laws.proofs.Risings.{initialized_rise}

cons_is_nil : {X : Type 0} (x : X) (xs : List X) → ◌≡◌ {A = List X} (x ∷ xs) [] → ⊥
cons_is_nil x xs h = cc

nil_left : {X : Type 0} (xs ys : List X) → xs ++ ys ≡ [] → xs ≡ []
nil_left [] ys h = refl
nil_left (x ∷ xs) ys h = absurd (cons_is_nil x (xs ++ ys) h)

nil_right : {X : Type 0} (xs ys : List X) → xs ++ ys ≡ [] → ys ≡ []
nil_right [] ys h = h
nil_right (x ∷ xs) ys h = absurd (cons_is_nil x (xs ++ ys) h)

same_some : {X : Type 0} (x y : X) → ◌≡◌ {A = Option X} (Some x) (Some y) → x ≡ y
same_some x y h = cc

none_is_some : {X : Type 0} (x : X) → ◌≡◌ {A = Option X} None (Some x) → ⊥
none_is_some x h = cc

-- ---- the source body of each body

record IsAccepted (e : Environment) (source : ℕ → Option Declaration) (t : TypedBody) : Type 0 where
  pub body : SourceBody
  pub is : t ≡ typed_body e body
  pub known : IsSourceBody e.program source body
  pub none : body_cases e body ≡ []

accepted : (e : Environment) (source : ℕ → Option Declaration) (bodies : List SourceBody) → All (IsSourceBody e.program source) bodies → flat_map (body_cases e) bodies ≡ [] → All (IsAccepted e source) (typed_bodies e bodies)
accepted e source [] all none = All-nil (IsAccepted e source)
accepted e source (b ∷ bodies) all none =
    All-cons (IsAccepted e source) (typed_body e b) (typed_bodies e bodies)
    (record { body = b; is = refl; known = All-head (IsSourceBody e.program source) b bodies all; none = nil_left (body_cases e b) (flat_map (body_cases e) bodies) none })
    (accepted e source bodies (All-tail (IsSourceBody e.program source) b bodies all) (nil_right (body_cases e b) (flat_map (body_cases e) bodies) none))

-- the method of the program is that of the table, with the number of its body
method_kept : (bodies : List Body) (first : ℕ) (ms : List Method) (i : ℕ) (m : Method) → slice_get ms i ≡ Some m → IsSomeAnd (slice_get (methods_from bodies first ms) i) (λ y. (y.kind ≡ m.kind) × (y.class ≡ m.class) × (y.sig ≡ m.sig))
method_kept bodies first [] i m at = absurd (none_is_some m at)
method_kept bodies first (x ∷ ms) zero m at = let same = same_some x m at in (ap (λ (y : Method). y.kind) same, ap (λ (y : Method). y.class) same, ap (λ (y : Method). y.sig) same)
method_kept bodies first (x ∷ ms) (suc i) m at = method_kept bodies (first + 1) ms i m at

pub record IsMethodIn (q : Program) (x : Body) (b : SourceBody) : Type 0 where
  pub method : Method
  pub at : method_at q x.method ≡ Some method
  pub constructs : is_constructor method.kind ≡ is_some b.body.super_call
  pub class' : method.class ≡ b.class'.class'
  pub signature : method.sig ≡ b.signature.sig

found_method : (q : Program) (x : Body) (b : SourceBody) (o : Option Method) → method_at q x.method ≡ o → is_constructor b.signature.kind ≡ is_some b.body.super_call → b.signature.class ≡ b.class'.class' → IsSomeAnd o (λ y. (y.kind ≡ b.signature.kind) × (y.class ≡ b.signature.class) × (y.sig ≡ b.signature.sig)) → IsMethodIn q x b
found_method q x b None at constructs of_class h = absurd h
found_method q x b (Some y) at constructs of_class h = record { method = y; at = at; constructs = ap is_constructor h.0 ∙ constructs; class' = h.1 ∙ of_class; signature = h.2 }

-- a body with what it is laid from
pub record IsElaborated (e : Environment) (source : ℕ → Option Declaration) (q : Program) (x : Body) : Type 0 where
  pub body : SourceBody
  pub known : IsSourceBody e.program source body
  pub method : IsMethodIn q x body
  pub laid : IsLaid x (body_statements e body)
  pub variables : map variable_in x.vars.items ≡ body_variables_in e body
  pub none : body_cases e body ≡ []
  pub ordered : IsOrdered e body

elaborated : (e : Environment) (source : ℕ → Option Declaration) (q : Program) (x : Body) (t : TypedBody) → HasBodies e.program q.bodies.items q → IsAccepted e source t → IsBodyOf t x → IsElaborated e source q x
elaborated e source q x t table a is =
    let b : SourceBody = a.body in
    let number : x.method ≡ b.method = is.method ∙ ap (λ (y : TypedBody). y.method) a.is in
    let P : Option Method → Type 0 = λ o. IsSomeAnd o (λ y. (y.kind ≡ b.signature.kind) × (y.class ≡ b.signature.class) × (y.sig ≡ b.signature.sig)) in
    let kept = method_kept q.bodies.items 0 e.program.methods.items b.method.0 b.signature a.known.method in
    let at : slice_get (methods_from q.bodies.items 0 e.program.methods.items) b.method.0 ≡ method_at q x.method = ap (λ (ms : List Method). slice_get ms b.method.0) (sym table.methods) ∙ ap (λ (m : MethodId). method_at q m) (sym number) in
    record {
      body = b;
      known = a.known;
      method = found_method q x b (method_at q x.method) refl a.known.kind a.known.class' (subst P at kept);
      laid = subst (λ (y : TypedBody). IsLaid x y.statements) a.is is.laid;
      variables = is.variables ∙ ap (λ (y : TypedBody). y.variables) a.is;
      none = a.none;
      ordered = body_ordered e b a.none;
    }

pub each_elaborated : (units stubs : List tree.Unit) (settings : Settings) (p q : Program) → IsBuilt (classes_of units stubs settings) settings p → program_cases p units ≡ [] → IsProgramOf p (typed_program p units) q → (n : BodyId) (x : Body) → body_at q n ≡ Some x → IsElaborated (environment_of p units) (source_declaration p units) q x
each_elaborated units stubs settings p q built none made n x at =
    let e : Environment = environment_of p units in
    let source : ℕ → Option Declaration = source_declaration p units in
    let classes : List SourceClass = source_classes p units in
    let of_bodies = nil_right (field_cases e classes) (bodies_cases e (all_bodies e classes)) (nil_right (member_cases p) (typing_cases e classes) none) in
    let tied = tied_at (IsAccepted e source) IsBodyOf (typed_program p units) q.bodies.items n.0 x (accepted e source (all_bodies e classes) (source_bodies units stubs settings e built.table) of_bodies) made.laid at in
    elaborated e source q x tied.part made.table tied.holds tied.tied

-- ---- the super call that is due

other_kept : (p q : Program) → q.core ≡ p.core → (d : Option ClassId) → is_other_class q d ≡ is_other p d
other_kept p q same None = refl
other_kept p q same (Some d) = ap (λ (c : CoreClasses). not (is_class d c.object)) same

extends_kept : (p q : Program) → q.core ≡ p.core → (k : Option Class) → extends_other q k ≡ is_other p (super_in k)
extends_kept p q same None = refl
extends_kept p q same (Some k) = other_kept p q same k.sup

asked : (p q : Program) → q.core ≡ p.core → q.classes.items ≡ p.classes.items → (c : ClassId) → extends_other q (class_at q c) ≡ is_other p (super_in (class_at p c))
asked p q core classes c = ap (λ (ks : List Class). extends_other q (slice_get ks c.0)) classes ∙ extends_kept p q core (class_at p c)

calls_due : (e : Environment) (q : Program) (b : SourceBody) (call : Option SuperCall) (m : Method) → q.core ≡ e.program.core → q.classes.items ≡ e.program.classes.items → is_constructor m.kind ≡ is_some call → m.class ≡ b.class'.class' → calls_super e b call ≡ asks_super_call q (Some m)
calls_due e q b None m core classes constructs of_class = sym (ap (λ c. c && extends_other q (class_at q m.class)) constructs)
calls_due e q b (Some call) m core classes constructs of_class =
    sym (ap (λ c. c && extends_other q (class_at q m.class)) constructs ∙ ap (λ (c : ClassId). extends_other q (class_at q c)) of_class ∙ asked e.program q core classes b.class'.class')

-- ---- the fields whose initialisers run

none_rise : IsStrictlyIncreasing []
none_rise k h = absurd (omega (arith, h))

class_fields_rise : (p : Program) → IsValid p → (c : SourceClass) → IsStrictlyIncreasing (map (λ f. f.0) (fields_with_initializers p c))
class_fields_rise p valid c = by (class_at p c.class') refl
  where
    by : (o : Option Class) → class_at p c.class' ≡ o → IsStrictlyIncreasing (map (λ f. f.0) (flat_map (field_with_initializer p) (zip (fields_in o) (fields_of c.class' c.declaration))))
    by None at = none_rise
    by (Some k) at = initialized_rise p k.fields.items (fields_of c.class' c.declaration) (valid.typed.members c.class' k at).field_order

run_rise : (e : Environment) → IsValid e.program → (b : SourceBody) (call : Option SuperCall) → IsStrictlyIncreasing (map (λ f. f.0) (fields_run e b call))
run_rise e valid b None = none_rise
run_rise e valid b (Some call) = class_fields_rise e.program valid b.class'

-- ---- each body

pub body_is_ordered : (e : Environment) (source : ℕ → Option Declaration) (q : Program) (x : Body) → IsValid e.program → HasBodies e.program q.bodies.items q → IsElaborated e source q x → HasOrderedStatements q x
body_is_ordered e source q x valid table k =
    let ts = body_statements e k.body in
    let call = k.body.body.super_call in
    let due = calls_due e q k.body call k.method.method table.core table.classes k.method.constructs k.method.class' in
    record {
      heads = heads_first x ts k.laid k.ordered.heads;
      super_call = one_super_call x ts k.laid k.ordered.super_call;
      headless = headless_parts x ts k.laid k.ordered.heads;
      jumps = jumps_in_loops x ts k.laid k.ordered.jumps;
      due = begins_so x ts k.laid ∙ k.ordered.due ∙ due ∙ ap (asks_super_call q) (sym k.method.at);
      initializers = subst (λ (fs : List FieldId). IsStrictlyIncreasing (map (λ f. f.0) fs)) (sym (initialized_so x ts k.laid ∙ k.ordered.initializers)) (run_rise e valid k.body call);
    }

-- ---- two constructors of one class

run_by_constructor : (e : Environment) (b : SourceBody) (call : Option SuperCall) → is_some call ≡ true → fields_run e b call ≡ fields_with_initializers e.program b.class'
run_by_constructor e b None is = absurd (let wrong : false ≡ true = is in cc)
run_by_constructor e b (Some call) is = refl

record IsConstructing (m : Method) (c : ClassId) : Type 0 where
  pub constructs : is_constructor m.kind ≡ true
  pub class' : m.class ≡ c

constructing : (m : Method) (c : ClassId) (b : Bool) → is_constructor m.kind ≡ b → when_true b m.class ≡ Some c → IsConstructing m c
constructing m c true is h = record { constructs = is; class' = same_some m.class c h }
constructing m c false is h = absurd (none_is_some c h)

-- what a constructor of this class runs
record RunsFieldsOf (e : Environment) (source : ℕ → Option Declaration) (x : Body) (c : ClassId) : Type 0 where
  pub class' : SourceClass
  pub number : class'.class' ≡ c
  pub declared : source c.0 ≡ Some class'.declaration
  pub runs : initialized_fields x ≡ fields_with_initializers e.program class'

runs_fields : (e : Environment) (source : ℕ → Option Declaration) (q : Program) (x : Body) (c : ClassId) → IsElaborated e source q x → constructed_class q x ≡ Some c → RunsFieldsOf e source x c
runs_fields e source q x c k of_class =
    let b : SourceBody = k.body in
    let m : Method = k.method.method in
    let found : class_of_constructor (Some m) ≡ Some c = ap class_of_constructor (sym k.method.at) ∙ of_class in
    let made = constructing m c (is_constructor m.kind) refl found in
    let number : b.class'.class' ≡ c = sym k.method.class' ∙ made.class' in
    record {
      class' = b.class';
      number = number;
      declared = ap (λ (d : ClassId). source d.0) (sym number) ∙ k.known.declared;
      runs = initialized_so x (body_statements e b) k.laid ∙ k.ordered.initializers ∙ run_by_constructor e b b.body.super_call (sym k.method.constructs ∙ made.constructs);
    }

same_class : (c d : SourceClass) → c.class' ≡ d.class' → c.declaration ≡ d.declaration → c ≡ d
same_class c d number declared = λ i. record { class' = number i; declaration = declared i }

constructors_agree : (e : Environment) (source : ℕ → Option Declaration) (q : Program) (x y : Body) → IsElaborated e source q x → IsElaborated e source q y → AgreeOnInitializers q x y
constructors_agree e source q x y k l c of_x of_y =
    let r = runs_fields e source q x c k of_x in
    let s = runs_fields e source q y c l of_y in
    let declared : r.class'.declaration ≡ s.class'.declaration = same_some r.class'.declaration s.class'.declaration (sym r.declared ∙ s.declared) in
    r.runs ∙ ap (fields_with_initializers e.program) (same_class r.class' s.class' (r.number ∙ sym s.number) declared) ∙ sym s.runs

-- ---- all bodies

pub bodies_ordered : (units stubs : List tree.Unit) (settings : Settings) (p q : Program) → IsBuilt (classes_of units stubs settings) settings p → program_cases p units ≡ [] → IsProgramOf p (typed_program p units) q → AreOrderedBodies q
bodies_ordered units stubs settings p q built none made =
    let e : Environment = environment_of p units in
    let source : ℕ → Option Declaration = source_declaration p units in
    let each : (n : BodyId) (x : Body) → body_at q n ≡ Some x → IsElaborated e source q x = each_elaborated units stubs settings p q built none made in
    record {
      each = λ n x at. body_is_ordered e source q x built.valid made.table (each n x at);
      same_initializers = λ n x at m y there. constructors_agree e source q x y (each n x at) (each m y there);
    }
