-- A valid program stays valid when its annotations are read.
use Rattle.std.proofs.Common.{◌≡◌, ◌∙◌, ℕ, ◌<◌, ◌≤◌, ◌^◌, ◌&&◌, true, false, Option, Some, None, List, [], ◌∷◌, map, length, is_some, All, Contains, IsSomeAnd, ap, ap₂, sym, refl, subst}
use Rattle.std.proofs.lemmas.List.{length-map}
use Rattle.std.proofs.lemmas.List.Elements.{All-map, All-same, All-weaker, length_all_zip}
use Rattle.program_model.specs.declared.kinds.BodyId.{BodyId}
use Rattle.program_model.specs.declared.kinds.ClassId.{ClassId}
use Rattle.program_model.specs.declared.kinds.ExprId.{ExprId}
use Rattle.program_model.specs.declared.kinds.FieldId.{FieldId}
use Rattle.program_model.specs.declared.kinds.MethodId.{MethodId}
use Rattle.program_model.specs.declared.kinds.MethodKind.{MethodKind}
use Rattle.program_model.specs.declared.kinds.MethodKind.TheVariants as methods
use Rattle.program_model.specs.declared.kinds.StmtId.{StmtId}
use Rattle.program_model.specs.declared.kinds.Target.{Target}
use Rattle.program_model.specs.declared.kinds.Target.TheVariants as promised
use Rattle.program_model.specs.declared.kinds.VType.{VType}
use Rattle.program_model.specs.declared.program.Class.{Class}
use Rattle.program_model.specs.declared.program.Field.{Field}
use Rattle.program_model.specs.declared.program.Method.{Method}
use Rattle.program_model.specs.declared.program.ParamSig.{ParamSig}
use Rattle.program_model.specs.declared.program.Program.{Program}
use Rattle.program_model.specs.declared.program.Promise.{Promise}
use Rattle.program_model.specs.declared.program.Sig.{Sig}
use Rattle.program_model.specs.declared.tree.Body.{Body}
use Rattle.program_model.specs.declared.tree.TExpr.{TExpr}
use Rattle.program_model.specs.declared.tree.TStmt.{TStmt}
use Rattle.program_model.specs.declared.tree.Var.{Var}
use Rattle.program_model.specs.Heads.{asks_super_call, class_of_constructor, constructed_class, extends_other, is_constructor, is_other_class, AgreeOnInitializers}
use Rattle.program_model.specs.Hierarchy.{direct_supers, HasClass, HasSupers, IsAbove, IsDirectSuper, IsHierarchy, IsUnder}
use Rattle.program_model.specs.Lookups.{class_at, method_at}
use Rattle.program_model.specs.TextOrder.{declared_variables, IsCount}
use Rattle.program_model.specs.Typing.{when_true, IsDeclarable}
use Rattle.program_model.specs.Validity.{has_super_class, is_class_type, is_constant, type_of_class, HasBodies, HasCoreClasses, HasExceptionClasses, HasMembers, HasParameters, IfPosition, IsBodyOf, IsListedMethod, IsMethodOf, IsNamed, IsNumbered, IsOfKind, IsOrderedBody, IsPromised, IsResult, IsTypedProgram, IsValid, IsValidBody, IsValidClass, IsValidExpression, IsValidField, IsValidMethod, IsValidSig, IsValidStatement, MayHaveBody, OwnsBody, RunsBody}
use Rattle.effective_signatures.specs.Effective.{signed_parameter}
use Rattle.effective_signatures.specs.Targets.{own_fields}
use Rattle.must_call_types.specs.Signed.{IsSigned}
use Rattle.must_call_types.proofs.SignedPositions.{alias_within, normal_within, reset_within, throwing_within, IsTargetWithin, IsWithin}
use Rattle.must_call_types.proofs.SignedTables.{at_equal, at_same, before, over, same_classes, under_along, zip_turned, SameClass, SameTables}
use Rattle.must_call_types.proofs.SignedTypes.{at_class, at_method, declarable, has_class, typed_expression, typed_statement, under, Signed}

module _ (p s : Program) (same : SameTables p s) where
  abbrev q : Program
  q = over p s

  -- ---- classes

  has_name : (c : ClassId) (name : List ℕ) → IsNamed p c name → IsNamed q c name
  has_name c name is =
      let named : Class → Type 0 = λ k. k.name ≡ name in
      at_class p s same c named named (λ x y z w. sym (ap (λ k. k.name) z) ∙ w) is

  core : HasCoreClasses p → HasCoreClasses q
  core is = record {
    object = has_name p.core.object _ is.object;
    string = has_name p.core.string _ is.string;
    throwable = has_name p.core.throwable _ is.throwable;
    error = has_name p.core.error _ is.error;
    runtime_exception = has_name p.core.runtime_exception _ is.runtime_exception;
    arithmetic_exception = has_name p.core.arithmetic_exception _ is.arithmetic_exception;
    array_index_exception = has_name p.core.array_index_exception _ is.array_index_exception;
    class_cast_exception = has_name p.core.class_cast_exception _ is.class_cast_exception;
    negative_array_size_exception = has_name p.core.negative_array_size_exception _ is.negative_array_size_exception;
    null_pointer_exception = has_name p.core.null_pointer_exception _ is.null_pointer_exception;
  }

  exceptions : HasExceptionClasses p → HasExceptionClasses q
  exceptions is = record {
    error = under p s same _ _ is.error;
    runtime_exception = under p s same _ _ is.runtime_exception;
    arithmetic_exception = under p s same _ _ is.arithmetic_exception;
    array_index_exception = under p s same _ _ is.array_index_exception;
    class_cast_exception = under p s same _ _ is.class_cast_exception;
    negative_array_size_exception = under p s same _ _ is.negative_array_size_exception;
    null_pointer_exception = under p s same _ _ is.null_pointer_exception;
  }

  numbered : IsNumbered p → IsNumbered q
  numbered is = record {
    classes = subst (λ n. n < 2 ^ 32) (length_all_zip SameClass p.classes.items s.classes.items same.classes) is.classes;
    methods = subst (λ n. n < 2 ^ 32) (length_all_zip (Signed p s) p.methods.items s.methods.items same.methods) is.methods;
    fields = is.fields;
    bodies = is.bodies;
  }

  -- the class that stood at the number before
  class_before : (c : ClassId) (y : Class) → class_at q c ≡ Some y → (x : Class) × (class_at p c ≡ Some x) × SameClass x y
  class_before c y found = before SameClass p.classes.items s.classes.items c.0 y same.classes found

  method_before : (m : MethodId) (y : Method) → method_at q m ≡ Some y → (x : Method) × (method_at p m ≡ Some x) × Signed p s x y
  method_before m y found = before (Signed p s) p.methods.items s.methods.items m.0 y same.methods found

  under_before : (c d : ClassId) → IsUnder q c d → IsUnder p c d
  under_before c d is = under_along p s p (zip_turned SameClass SameClass p.classes.items s.classes.items (λ x y e. sym e) same.classes) c d is

  direct_before : (c d : ClassId) → IsDirectSuper q c d → IsDirectSuper p c d
  direct_before c d direct =
      let old = class_before c direct.0 direct.1 in
      (old.0, old.1, subst (λ ds. Contains ds d) (sym (ap (λ k. direct_supers p k) old.2)) direct.2)

  above_of : (c : ClassId) (classes : List ClassId) → IsAbove p c classes → IsAbove q c classes
  above_of c classes is = record {
    ordered = is.ordered;
    exact = λ d. ((λ here. under p s same c d ((is.exact d).0 here)), (λ up. (is.exact d).1 (under_before c d up)));
  }

  supers : (c : ClassId) (x y : Class) → SameClass x y → HasSupers p c x → HasSupers q c y
  supers c x y z is = record {
    known = λ d direct. has_class p s same d (is.known d (direct_before c d direct));
    acyclic = λ d direct up. is.acyclic d (direct_before c d direct) (under_before d c up);
    above = subst (λ ks. IsAbove q c ks) (ap (λ k. k.above.items) z) (above_of c x.above.items is.above);
  }

  hierarchy : IsHierarchy p → IsHierarchy q
  hierarchy is = record { supers = λ c y found. let old = class_before c y found in supers c old.0 y old.2 (is.supers c old.0 old.1) }

  valid_class : (c : ClassId) (x y : Class) → SameClass x y → IsValidClass p c x → IsValidClass q c y
  valid_class c x y z is = record {
    super_class = sym (ap (λ k. is_some k.sup) z) ∙ is.super_class ∙ ap (λ k. has_super_class p c k) z;
    abstract = λ yes. sym (ap (λ k. k.is_abstract) z) ∙ is.abstract (ap (λ k. k.interface) z ∙ yes);
  }

  is_method_of : (c : ClassId) (m : MethodId) → IsMethodOf p c m → IsMethodOf q c m
  is_method_of c m is =
      let of : Method → Type 0 = λ x. x.class ≡ c in
      at_method p s same m of of (λ x y z w. ap (λ n. n.class) z.kept ∙ w) is

  members_of : (c : ClassId) (fields : List FieldId) (own : List MethodId) → HasMembers p c fields own → HasMembers q c fields own
  members_of c fields own is = record {
    field_order = is.field_order;
    fields = is.fields;
    method_order = is.method_order;
    methods = All-weaker (IsMethodOf p c) (IsMethodOf q c) (is_method_of c) own is.methods;
  }

  members : (c : ClassId) (x y : Class) → SameClass x y → HasMembers p c x.fields.items x.methods.items → HasMembers q c y.fields.items y.methods.items
  members c x y z is =
      subst (λ own. HasMembers q c y.fields.items own) (ap (λ k. k.methods.items) z)
      (subst (λ fields. HasMembers q c fields x.methods.items) (ap (λ k. k.fields.items) z) (members_of c x.fields.items x.methods.items is))

  -- ---- fields and methods

  valid_field : (f : FieldId) (x : Field) → IsValidField p f x → IsValidField q f x
  valid_field f x is =
      let has : Class → Type 0 = λ k. Contains k.fields.items f in
      record {
        listed = at_class p s same x.class has has (λ k j z w. subst (λ fs. Contains fs f) (ap (λ i. i.fields.items) z) w) is.listed;
        declarable = declarable p s same x.vtype is.declarable;
        kind = is.kind;
      }

  result_of : (t : Option VType) → IsResult p t → IsResult q t
  result_of None is = is
  result_of (Some t) is = declarable p s same t is

  as_many : (x y : Method) → Signed p s x y → length x.sig.params.items ≡ length y.sig.params.items
  as_many x y z = sym (ap length z.signature.params ∙ length-map x.sig.params.items (signed_parameter s.names))

  position_in : (count : ℕ) (sig : Sig) (o : Option ℕ) → count ≡ length sig.params.items → IsWithin count o → IfPosition sig o
  position_in count sig None many within = within
  position_in count sig (Some k) many within = subst (λ n. k ≤ n) many within

  target_in : (count : ℕ) (sig : Sig) (t : Target) → count ≡ length sig.params.items → IsTargetWithin count (length p.fields.items) t → IsPromised q sig t
  target_in count sig (promised.At k) many within = subst (λ n. k ≤ n) many within
  target_in count sig (promised.OfField f) many within = within

  promises_in : (count : ℕ) (sig : Sig) (made now : List Promise) → count ≡ length sig.params.items → now ≡ made → All (λ x. IsTargetWithin count (length p.fields.items) x.target) made → All (λ x. IsPromised q sig x.target) now
  promises_in count sig made now many are within =
      All-same (λ x. IsPromised q sig x.target) now made are
      (All-weaker (λ x. IsTargetWithin count (length p.fields.items) x.target) (λ x. IsPromised q sig x.target) (λ x. target_in count sig x.target many) made within)

  throws_of : (c : ClassId) → HasClass p c × IsUnder p c p.core.throwable → HasClass q c × IsUnder q c p.core.throwable
  throws_of c is = (has_class p s same c is.0, under p s same c p.core.throwable is.1)

  valid_signature : (x y : Method) → Signed p s x y → IsValidSig p x.sig → IsValidSig q y.sig
  valid_signature x y z is =
      let own = own_fields p.classes.items x.class in
      let of : ParamSig → Type 0 = λ n. IsDeclarable q n.vtype in
      let count = length x.sig.params.items in
      record {
        params =
            All-same of y.sig.params.items (map (signed_parameter s.names) x.sig.params.items) z.signature.params
            (All-map of (signed_parameter s.names) x.sig.params.items (All-weaker (λ n. IsDeclarable p n.vtype) of (λ n. declarable p s same n.vtype) x.sig.params.items is.params));
        result = subst (IsResult q) (sym z.signature.result) (result_of x.sig.result is.result);
        throws =
            All-same (λ c. HasClass q c × IsUnder q c p.core.throwable) y.sig.throws.items x.sig.throws.items (ap (λ v. v.items) z.signature.throws)
            (All-weaker (λ c. HasClass p c × IsUnder p c p.core.throwable) (λ c. HasClass q c × IsUnder q c p.core.throwable) throws_of x.sig.throws.items is.throws);
        alias = subst (IfPosition y.sig) (sym z.signature.alias) (position_in count y.sig _ (as_many x y z) (alias_within x));
        reset = subst (IfPosition y.sig) (sym z.signature.reset) (position_in count y.sig _ (as_many x y z) (reset_within x));
        promises = promises_in count y.sig _ y.sig.promises.items (as_many x y z) z.signature.promises (normal_within s.names p.fields.items own x);
        on_throw = promises_in count y.sig _ y.sig.on_throw.items (as_many x y z) z.signature.on_throw (throwing_within s.names p.fields.items own x);
      }

  kind_in : (k : MethodKind) (x y : Method) → Signed p s x y → IsOfKind k x.sig → IsOfKind k y.sig
  kind_in methods.Ctor x y z is = z.signature.result ∙ is
  kind_in methods.Constant x y z is = (
    z.signature.params ∙ ap (map (signed_parameter s.names)) is.0,
    ap (λ v. v.items) z.signature.throws ∙ is.1,
    subst (λ o. IsSomeAnd o (λ t. is_class_type t ≡ true)) (sym z.signature.result) is.2,
  )
  kind_in k x y z is = is

  runs_body : (x y : Method) → Signed p s x y → RunsBody p x → RunsBody q y
  runs_body x y z is =
      let of_program : Class → Type 0 = λ k. k.library ≡ false in (
        ap (λ n. n.is_abstract) z.kept ∙ is.0,
        ap (λ n. is_constant n.kind) z.kept ∙ is.1,
        subst (λ c. IsSomeAnd (class_at q c) of_program) (sym (ap (λ n. n.class) z.kept))
            (at_class p s same x.class of_program of_program (λ k j w v. sym (ap (λ i. i.library) w) ∙ v) is.2),
      )

  runs_before : (x y : Method) → Signed p s x y → RunsBody q y → RunsBody p x
  runs_before x y z is =
      let of_program : Class → Type 0 = λ k. k.library ≡ false in
      let turned = zip_turned SameClass SameClass p.classes.items s.classes.items (λ k j e. sym e) same.classes in (
        sym (ap (λ n. n.is_abstract) z.kept) ∙ is.0,
        sym (ap (λ n. is_constant n.kind) z.kept) ∙ is.1,
        subst (λ c. IsSomeAnd (class_at p c) of_program) (ap (λ n. n.class) z.kept)
            (at_same SameClass of_program of_program s.classes.items p.classes.items y.class.0 turned (λ k j w v. sym (ap (λ i. i.library) w) ∙ v) is.2),
      )

  has_bodies : HasBodies p → HasBodies q
  has_bodies has m y found runs =
      let old = method_before m y found in
      subst (λ b. IsSomeAnd b (λ _. Unit {0})) (sym (ap (λ n. n.body) old.2.kept)) (has m old.0 old.1 (runs_before old.0 y old.2 runs))

  may_have : (x y : Method) (b : Option BodyId) → Signed p s x y → MayHaveBody p x b → MayHaveBody q y b
  may_have x y None z is = is
  may_have x y (Some b) z is = runs_body x y z is

  owns : (m : MethodId) (b : Option BodyId) → OwnsBody p m b → OwnsBody q m b
  owns m None is = is
  owns m (Some b) is = is

  listed_method : (m : MethodId) (x y : Method) → Signed p s x y → IsListedMethod p m x → IsListedMethod q m y
  listed_method m x y z is =
      let has : Class → Type 0 = λ k. Contains k.methods.items m in
      subst (λ c. IsSomeAnd (class_at q c) has) (sym (ap (λ n. n.class) z.kept))
      (at_class p s same x.class has has (λ k j w v. subst (λ ms. Contains ms m) (ap (λ i. i.methods.items) w) v) is)

  valid_method : (m : MethodId) (x y : Method) → Signed p s x y → IsValidMethod p m x → IsValidMethod q m y
  valid_method m x y z is = record {
    listed = listed_method m x y z is.listed;
    signature = valid_signature x y z is.signature;
    receiver = ap (λ n. n.vtype) z.signature.receiver ∙ is.receiver ∙ ap (type_of_class p) (sym (ap (λ n. n.class) z.kept));
    kind = subst (λ k. IsOfKind k y.sig) (sym (ap (λ n. n.kind) z.kept)) (kind_in x.kind x y z is.kind);
    body = subst (OwnsBody q m) (sym (ap (λ n. n.body) z.kept)) (owns m x.body is.body);
    bodiless = subst (MayHaveBody q y) (sym (ap (λ n. n.body) z.kept)) (may_have x y x.body z is.bodiless);
  }

  -- ---- bodies

  parameters_of : (vars : List Var) (xs : List ParamSig) → HasParameters vars xs → HasParameters vars (map (signed_parameter s.names) xs)
  parameters_of vars [] has = has
  parameters_of [] (x ∷ xs) has = has
  parameters_of (v ∷ vars) (x ∷ xs) has = (has.0, parameters_of vars xs has.1)

  body_of : (n : BodyId) (b : Body) (x y : Method) → Signed p s x y → IsBodyOf n b x → IsBodyOf n b y
  body_of n b x y z is =
      (ap (λ m. m.body) z.kept ∙ is.0, subst (HasParameters b.vars.items) (sym z.signature.params) (parameters_of b.vars.items x.sig.params.items is.1))

  valid_statement : (b : Body) (i : StmtId) (x : TStmt) → IsValidStatement p b i x → IsValidStatement q b i x
  valid_statement b i x is = record { parts = is.parts; headless = is.headless; typed = typed_statement p s same b x.kind is.typed }

  valid_expression : (b : Body) (e : ExprId) (x : TExpr) → IsValidExpression p b e x → IsValidExpression q b e x
  valid_expression b e x is = record { operands = is.operands; typed = typed_expression p s same b x is.typed }

  valid_body : (n : BodyId) (b : Body) → IsValidBody p n b → IsValidBody q n b
  valid_body n b is = record {
    method = at_method p s same b.method (IsBodyOf n b) (IsBodyOf n b) (body_of n b) is.method;
    variables = All-weaker (λ x. IsDeclarable p x.vtype) (λ x. IsDeclarable q x.vtype) (λ x. declarable p s same x.vtype) b.vars.items is.variables;
    forest = is.forest;
    heads = is.heads;
    super_call = is.super_call;
    statements = λ i x found. valid_statement b i x (is.statements i x found);
    expressions = λ e x found. valid_expression b e x (is.expressions e x found);
  }

  extends_same : (k : ClassId) → extends_other p (class_at p k) ≡ extends_other q (class_at q k)
  extends_same k = at_equal SameClass (extends_other p) (extends_other q) p.classes.items s.classes.items k.0 same.classes refl (λ x y z. ap (λ i. is_other_class p i.sup) z)

  asks_same : (m : MethodId) → asks_super_call p (method_at p m) ≡ asks_super_call q (method_at q m)
  asks_same m =
      at_equal (Signed p s) (asks_super_call p) (asks_super_call q) p.methods.items s.methods.items m.0 same.methods refl
      (λ x y z.
      ap₂ (λ a b. a && b) (sym (ap (λ n. is_constructor n.kind) z.kept))
      (extends_same x.class ∙ ap (λ c. extends_other q (class_at q c)) (sym (ap (λ n. n.class) z.kept))))

  constructed_same : (b : Body) → constructed_class p b ≡ constructed_class q b
  constructed_same b =
      at_equal (Signed p s) class_of_constructor class_of_constructor p.methods.items s.methods.items b.method.0 same.methods refl
      (λ x y z. sym (ap (λ n. when_true (is_constructor n.kind) n.class) z.kept))

  ordered_body : (b : Body) → IsOrderedBody p b → IsOrderedBody q b
  ordered_body b is =
      let counts : Method → Type 0 = λ m. IsCount (length m.sig.params.items) (length b.vars.items) (declared_variables b) in
      record {
        variables =
            at_method p s same b.method counts counts (λ x y z w. subst (λ n. IsCount n (length b.vars.items) (declared_variables b)) (as_many x y z) w) is.variables;
        jumps = is.jumps;
        super_call = is.super_call ∙ asks_same b.method;
        initializers = is.initializers;
      }

  agree : (x y : Body) → AgreeOnInitializers p x y → AgreeOnInitializers q x y
  agree x y is c of_x of_y = is c (constructed_same x ∙ of_x) (constructed_same y ∙ of_y)

  typed_program : IsTypedProgram p → IsTypedProgram q
  typed_program is = record {
    numbered = numbered is.numbered;
    core = core is.core;
    hierarchy = hierarchy is.hierarchy;
    exceptions = exceptions is.exceptions;
    classes = λ c y found. let old = class_before c y found in valid_class c old.0 y old.2 (is.classes c old.0 old.1);
    members = λ c y found. let old = class_before c y found in members c old.0 y old.2 (is.members c old.0 old.1);
    fields = λ f x found. valid_field f x (is.fields f x found);
    methods = λ m y found. let old = method_before m y found in valid_method m old.0 y old.2 (is.methods m old.0 old.1);
    bodies = λ b x found. valid_body b x (is.bodies b x found);
    ignored = All-weaker (HasClass p) (HasClass q) (has_class p s same) p.ignored.items is.ignored;
    exact = All-weaker (HasClass p) (HasClass q) (has_class p s same) p.exact.items is.exact;
  }

  valid_over : IsValid p → IsValid q
  valid_over valid = record {
    typed = typed_program valid.typed;
    ordered = λ b x found. ordered_body x (valid.ordered b x found);
    same_initializers = λ b x found c y found_too. agree x y (valid.same_initializers b x found c y found_too);
  }

over_signed : (p s : Program) → IsSigned p s → over p s ≡ s
over_signed p s is = λ i. record s { fields = sym is.fields i; bodies = sym is.bodies i; ignored = sym is.ignored i; exact = sym is.exact i; core = sym is.core i }

same_tables : (p s : Program) → IsSigned p s → SameTables p s
same_tables p s is = record { classes = same_classes s.names p.classes.items s.classes.items is.classes; methods = is.methods }

-- reading a program's annotations keeps it valid
pub signed_is_valid : (p s : Program) → IsValid p → IsSigned p s → IsValid s
signed_is_valid p s valid is = subst IsValid (over_signed p s is) (valid_over p s (same_tables p s is) valid)

-- and its bodies are all there as before
pub signed_has_bodies : (p s : Program) → HasBodies p → IsSigned p s → HasBodies s
signed_has_bodies p s has is = subst HasBodies (over_signed p s is) (has_bodies p s (same_tables p s is) has)
