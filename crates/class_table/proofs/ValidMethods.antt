-- The methods, constructors and constants of the table are valid.
use Rattle.std.proofs.Common.{◌≡◌, ◌∙◌, sym, ap, refl, subst, arith, inl, inr, ℕ, zero, suc, ◌<◌, ◌&&◌, Bool, true, false, cond, Option, Some, None, List, [], ◌∷◌, length, map}
use Rattle.std.specs.Prelude.{slice_get, Contains, flat_map, if◌then◌else◌}
use Rattle.std.specs.List.{All, AllZip}
use Rattle.std.specs.Option.{IsSomeAnd}
use Rattle.std.proofs.lemmas.List.Elements.{All-cons, All-nil, Contains-append_cases}
use Rattle.std.proofs.lemmas.Option.{slice_get_within}
use Rattle.rlc_base.specs.declared.code.Code.TheVariants as refused
use Rattle.java_syntax.specs.declared.names.Name.{Name}
use Rattle.java_syntax.specs.declared.names.Typ.{Typ}
use Rattle.java_syntax.specs.declared.declaration_trees.Member.{Member}
use Rattle.java_syntax.specs.declared.declaration_trees.Member.TheVariants as members
use Rattle.java_syntax.specs.declared.settings.Settings.{Settings}
use Rattle.program_model.specs.declared.kinds.BodyId.{BodyId}
use Rattle.program_model.specs.declared.kinds.ClassId.{ClassId}
use Rattle.program_model.specs.declared.kinds.MethodId.{MethodId}
use Rattle.program_model.specs.declared.kinds.MethodKind.{MethodKind}
use Rattle.program_model.specs.declared.kinds.MethodKind.TheVariants as kinds
use Rattle.program_model.specs.declared.kinds.VType.{VType}
use Rattle.program_model.specs.declared.kinds.VType.TheVariants as types
use Rattle.program_model.specs.declared.program.Class.{Class}
use Rattle.program_model.specs.declared.program.Method.{Method}
use Rattle.program_model.specs.declared.program.ParamSig.{ParamSig}
use Rattle.program_model.specs.declared.program.Program.{Program}
use Rattle.program_model.specs.declared.program.Promise.{Promise}
use Rattle.program_model.specs.declared.program.Sig.{Sig}
use Rattle.program_model.specs.Hierarchy as model
use Rattle.program_model.specs.Lookups.{class_at, method_at}
use Rattle.program_model.specs.Typing.{IsDeclarable}
use Rattle.program_model.specs.Validity as validity
use Rattle.class_order.specs.Refusals.{refused_at}
use Rattle.class_names.specs.declared.class_name.ClassName.{ClassName}
use Rattle.class_names.specs.Meanings.{CompilationUnit}
use Rattle.class_names.specs.WrittenTypes.{type_of_class, written_type}
use Rattle.class_order.specs.Cases.{IsLeast, double_cases}
use Rattle.class_order.specs.Declarations.{Declaration, class_name_of, class_names}
use Rattle.class_order.specs.Modifiers.{has_final, has_static}
use Rattle.class_headers.specs.SuperTypes.{class_named}
use Rattle.class_headers.proofs.KnownLemmas.{class_named_known}
use Rattle.class_declarations.specs.Members.{ConstantOf, ConstructorOf, ImpliedConstructor, MethodOf, Written, WrittenMethod, constants_among, implied_constructor, is_class_type, is_constant, kind_of, needs_constructor, parameters_of, result_of, throws_of, written_by, written_by_all, written_in}
use Rattle.std.proofs.lemmas.List.{length-map}
use Rattle.super_obligations.specs.SuperCases.{IsUnfit, direct_in}
use Rattle.super_obligations.specs.SuperPass.{IsSuperCase}
use Rattle.table_members.specs.Methods.{IsMethod, IsNamedClass, IsParameter, IsSignature, IsWrittenAs}
use Rattle.class_table.specs.Table.{IsTable, all_methods, method_numbers, method_owners}
use Rattle.class_table.proofs.KnownLemmas.{and_right}
use Rattle.class_table.proofs.NoCases.{contains_at}
use Rattle.class_table.proofs.Owners.{IsTied, all_unmapped, contains_unmapped, number_listed, numbers_belong, tied_at, zip_owners}
use Rattle.class_table.proofs.StringFacts.{declarable, type_of_this}
use Rattle.class_table.proofs.TableFacts.{declared_class, some_at, stable_under, table_long}
use Rattle.class_table.proofs.WrittenFacts.{IsMethodIn, methods_in}

abbrev pub IsTiedMethod : List Declaration → Method → Type 0
IsTiedMethod order x = IsTied (IsMethodIn order (class_names order)) (IsMethod (class_names order)) x

pub tied_method : (order : List Declaration) (settings : Settings) (p : Program) → IsTable order settings p → (m : MethodId) (x : Method) → method_at p m ≡ Some x → IsTiedMethod order x
tied_method order settings p t m x at = tied_at (IsMethodIn order (class_names order)) (IsMethod (class_names order)) (all_methods order) p.methods.items m.0 x (methods_in order) t.methods at

pub methods_owned : (order : List Declaration) (settings : Settings) (p : Program) → IsTable order settings p → map (λ (x : Method). x.class) p.methods.items ≡ method_owners (all_methods order)
methods_owned order settings p t = zip_owners (IsMethod (class_names order)) (λ (w : WrittenMethod). w.class') (λ (x : Method). x.class) (all_methods order) p.methods.items (λ w x h. h.class') t.methods

-- ---- a class lists its methods

method_same : (m n : MethodId) → m.0 ≡ n.0 → m ≡ n
method_same m n is = λ i. record { 0 = is i }

pub own_methods : (order : List Declaration) (settings : Settings) (p : Program) → IsTable order settings p → (c : ClassId) (k : Class) → class_at p c ≡ Some k → map (λ (m : MethodId). m.0) k.methods.items ≡ method_numbers order c.0
own_methods order settings p t c k at =
    let d = declared_class order settings p t c k at in
    (t.members c.0 d.declaration k d.at at).methods

pub methods_belong : (order : List Declaration) (settings : Settings) (p : Program) → IsTable order settings p → (c : ClassId) (k : Class) → class_at p c ≡ Some k → All (validity.IsMethodOf p c) k.methods.items
methods_belong order settings p t c k at =
    all_unmapped (λ (m : MethodId). m.0) (λ n. IsSomeAnd (slice_get p.methods.items n) (λ (x : Method). x.class ≡ c)) k.methods.items (method_numbers order c.0) (own_methods order settings p t c k at)
    (numbers_belong (λ (x : Method). x.class) p.methods.items (method_owners (all_methods order)) c (methods_owned order settings p t))

class_within : (order : List Declaration) (x : Method) → IsTiedMethod order x → x.class.0 < length order
class_within order x tied =
    let number : x.class.0 ≡ tied.part.class'.0 = ap (λ (c : ClassId). c.0) tied.tied.class' in
    let below = slice_get_within order tied.part.class'.0 tied.part.declaration tied.holds.declared in
    omega arith

method_listed : (order : List Declaration) (settings : Settings) (p : Program) → IsTable order settings p → (m : MethodId) (x : Method) → method_at p m ≡ Some x → validity.IsListedMethod p m x
method_listed order settings p t m x at =
    let tied = tied_method order settings p t m x at in
    let long = table_long order settings p t in
    let below = class_within order x tied in
    let within : x.class.0 < length p.classes.items = omega arith in
    let k = some_at p.classes.items x.class.0 within in
    let L : Option Class → Type 0 = λ o. IsSomeAnd o (λ (j : Class). Contains j.methods.items m) in
    subst L (sym k.1)
    (contains_unmapped (λ (n : MethodId). n.0) k.0.methods.items (method_numbers order x.class.0) m method_same (own_methods order settings p t x.class k.0 k.1)
    (number_listed (λ (y : Method). y.class) p.methods.items (method_owners (all_methods order)) m.0 x (methods_owned order settings p t) at))

-- ---- signatures

zip_all : {A B : Type 0} (R : A → B → Type 0) (Q : B → Type 0) (xs : List A) (ys : List B) → ((x : A) (y : B) → Contains xs x → R x y → Q y) → AllZip R xs ys → All Q ys
zip_all R Q [] [] h zip = All-nil Q
zip_all R Q [] (y ∷ ys) h zip = absurd zip
zip_all R Q (x ∷ xs) [] h zip = absurd zip
zip_all R Q (x ∷ xs) (y ∷ ys) h zip =
    All-cons Q y ys (h x y (0, (omega arith), refl) zip.0) (zip_all R Q xs ys (λ a b has r. h a b (suc has.0, (let within = has.1 in omega arith), has.2) r) zip.1)

result_declarable : (order : List Declaration) (settings : Settings) (p : Program) → IsTable order settings p → double_cases order ≡ [] → (u : CompilationUnit) (w : Option Typ) (v : Option VType) → IsWrittenAs (class_names order) u w v → validity.IsResult p v
result_declarable order settings p t single u w None is = tt
result_declarable order settings p t single u None (Some v) is = absurd is
result_declarable order settings p t single u (Some w) (Some v) is = declarable order settings p t single u w v is

-- a class of a throws clause stands under `Throwable`
thrown_under : (order : List Declaration) (settings : Settings) (p : Program) → IsTable order settings p → model.IsHierarchy p → IsLeast (IsSuperCase order p.core) None → (w : WrittenMethod) → IsMethodIn order (class_names order) w
    → (n : Name) (c : ClassId) → Contains (throws_of w.written) n → class_named (class_names order) w.declaration.unit n ≡ Some c → model.HasClass p c × model.IsUnder p c p.core.throwable
thrown_under order settings p t hierarchy supers w has n c listed is =
    let below = class_named_known (class_names order) w.declaration.unit n c is in
    let wide = length-map order class_name_of in
    let long = table_long order settings p t in
    let within : c.0 < length order = omega arith in
    let r = refused_at refused.BadSuper n.pos in
    let U : Option ClassId → Type 0 = λ o. IsUnfit (direct_in order p.core) p.core.throwable n o r in (
      (omega arith),
      stable_under order settings p t hierarchy c p.core.throwable within
          (λ no. supers r (inr (inl (w.declaration, contains_at order w.class'.0 w.declaration has.declared, (w.written, has.member, (n, listed, subst U (sym is) (no, refl))))))),
    )

valid_signature : (order : List Declaration) (settings : Settings) (p : Program) → IsTable order settings p → model.IsHierarchy p → double_cases order ≡ [] → IsLeast (IsSuperCase order p.core) None → (w : WrittenMethod) → IsMethodIn order (class_names order) w
    → (s : Sig) → IsSignature (class_names order) w.class' w.declaration.unit w.written s → validity.IsValidSig p s
valid_signature order settings p t hierarchy single supers w has s is =
    let u = w.declaration.unit in
    let classes = class_names order in
    let P : List Promise → Type 0 = All (λ (x : Promise). validity.IsPromised p s x.target) in
    let K : Option ℕ → Type 0 = validity.IfPosition s in
    record {
      params = zip_all (IsParameter classes u) (λ (x : ParamSig). IsDeclarable p x.vtype) (parameters_of w.written) s.params.items (λ a x listed r. declarable order settings p t single u a.typ x.vtype r.typ) is.params;
      result = result_declarable order settings p t single u (result_of w.written) s.result is.result;
      throws = zip_all (IsNamedClass classes u) (λ (c : ClassId). model.HasClass p c × model.IsUnder p c p.core.throwable) (throws_of w.written) s.throws.items (λ n c listed r. thrown_under order settings p t hierarchy supers w has n c listed r) is.throws;
      alias = subst K (sym is.unsigned.alias) tt;
      reset = subst K (sym is.unsigned.reset) tt;
      promises = subst P (sym is.unsigned.promises) (All-nil (λ (x : Promise). validity.IsPromised p s x.target));
      on_throw = subst P (sym is.unsigned.on_throw) (All-nil (λ (x : Promise). validity.IsPromised p s x.target));
    }

-- ---- kinds

in_map : {X Y : Type 0} (P : Y → Type 0) (f : X → Y) (xs : List X) (y : Y) → ((x : X) → P (f x)) → Contains (map f xs) y → P y
in_map P f [] y h has = absurd (let never = has.1 in omega arith)
in_map P f (x ∷ xs) y h (zero, within, at) = subst P at (h x)
in_map P f (x ∷ xs) y h (suc i, within, at) = in_map P f xs y h (i, (omega arith), at)

in_flat : {X Y : Type 0} (P : Y → Type 0) (f : X → List Y) (xs : List X) (y : Y) → ((x : X) → Contains (f x) y → P y) → Contains (flat_map f xs) y → P y
in_flat P f [] y h has = absurd (let never = has.1 in omega arith)
in_flat P f (x ∷ xs) y h has = elim (Contains-append_cases (f x) (flat_map f xs) y has) [ inl first ↦ h x first | inr rest ↦ in_flat P f xs y h rest ]

in_one : {Y : Type 0} (P : Y → Type 0) (x y : Y) → P x → Contains (x ∷ []) y → P y
in_one P x y h (zero, within, at) = subst P at h
in_one P x y h (suc i, within, at) = absurd (omega arith)

in_cond : {Y : Type 0} (P : Y → Type 0) (b : Bool) (xs : List Y) (y : Y) → (b ≡ true → Contains xs y → P y) → Contains (cond b xs []) y → P y
in_cond P true xs y h has = h refl has
in_cond P false xs y h has = absurd (let never = has.1 in omega arith)

-- a constant has a class for a type
abbrev IsOfClass : List ClassName → CompilationUnit → Written → Type 0
IsOfClass classes u (ConstantOf f v) = is_class_type (written_type classes u f.typ) ≡ true
IsOfClass classes u (MethodOf m) = Unit {0}
IsOfClass classes u (ConstructorOf k) = Unit {0}
IsOfClass classes u (ImpliedConstructor pos) = Unit {0}

written_of_class : (classes : List ClassName) (d : Declaration) (m : Member) (w : Written) → Contains (written_by classes d m) w → IsOfClass classes d.unit w
written_of_class classes d (members.Method m) w has = in_one (IsOfClass classes d.unit) (MethodOf m) w tt has
written_of_class classes d (members.Constructor k) w has = in_one (IsOfClass classes d.unit) (ConstructorOf k) w tt has
written_of_class classes d (members.Field f) w has =
    let P = IsOfClass classes d.unit in
    let typ = is_class_type (written_type classes d.unit f.typ) in
    in_cond P (d.unit.library && is_constant classes d f) (constants_among f f.variables.items) w
    (λ holds among. in_map P (ConstantOf f) f.variables.items w (λ v. and_right (has_static f.modifiers.items && has_final f.modifiers.items) typ (and_right d.unit.library (is_constant classes d f) holds)) among) has

member_of_class : (classes : List ClassName) (d : Declaration) (w : Written) → Contains (written_in classes d) w → IsOfClass classes d.unit w
member_of_class classes d w has =
    let P = IsOfClass classes d.unit in
    elim (Contains-append_cases (implied_constructor d) (written_by_all classes d d.class_tree.members.items) w has) [
      | inl implied ↦ in_cond P (needs_constructor d) (ImpliedConstructor _ ∷ []) w (λ needs one. in_one P (ImpliedConstructor _) w tt one) implied
      | inr rest ↦ in_flat P (written_by classes d) d.class_tree.members.items w (λ m one. written_of_class classes d m w one) rest
    ]

no_parts : {A B : Type 0} (R : A → B → Type 0) (ys : List B) → AllZip R [] ys → ys ≡ []
no_parts R [] zip = refl
no_parts R (y ∷ ys) zip = absurd zip

no_result : (classes : List ClassName) (u : CompilationUnit) (v : Option VType) → IsWrittenAs classes u None v → v ≡ None
no_result classes u None is = refl
no_result classes u (Some v) is = absurd is

class_type : (v : VType) → is_class_type (Some v) ≡ true → validity.is_class_type v ≡ true
class_type (types.Obj c) is = refl
class_type (types.Primitive t) is = is
class_type types.Str is = is
class_type (types.Arr t) is = is
class_type types.NullType is = is

class_result : (classes : List ClassName) (u : CompilationUnit) (t : Typ) (v : Option VType) → is_class_type (written_type classes u t) ≡ true → IsWrittenAs classes u (Some t) v → IsSomeAnd v (λ x. validity.is_class_type x ≡ true)
class_result classes u t None of_class is = absurd is
class_result classes u t (Some v) of_class is = class_type v (ap is_class_type (sym is) ∙ of_class)

of_method : (static : Bool) (s : Sig) → validity.IsOfKind (if static then kinds.Static else kinds.Instance) s
of_method true s = tt
of_method false s = tt

kind_fits : (classes : List ClassName) (c : ClassId) (u : CompilationUnit) (w : Written) (s : Sig) → IsOfClass classes u w → IsSignature classes c u w s → validity.IsOfKind (kind_of w) s
kind_fits classes c u (MethodOf m) s of_class is = of_method (has_static m.modifiers.items) s
kind_fits classes c u (ConstructorOf k) s of_class is = no_result classes u s.result is.result
kind_fits classes c u (ImpliedConstructor pos) s of_class is = no_result classes u s.result is.result
kind_fits classes c u (ConstantOf f v) s of_class is =
    (no_parts (IsParameter classes u) s.params.items is.params, no_parts (IsNamedClass classes u) s.throws.items is.throws, class_result classes u f.typ s.result of_class is.result)

-- ---- methods

pub valid_method : (order : List Declaration) (settings : Settings) (p : Program) → IsTable order settings p → model.IsHierarchy p → double_cases order ≡ [] → IsLeast (IsSuperCase order p.core) None → (m : MethodId) (x : Method) → method_at p m ≡ Some x → validity.IsValidMethod p m x
valid_method order settings p t hierarchy single supers m x at =
    let tied = tied_method order settings p t m x at in
    let w = tied.part in
    let classes = class_names order in
    let T : ClassId → Type 0 = λ c. type_of_class classes c false ≡ Some x.sig.receiver.vtype in
    let K : MethodKind → Type 0 = λ k. validity.IsOfKind k x.sig in
    let B : Option BodyId → Type 0 = validity.OwnsBody p m in
    let D : Option BodyId → Type 0 = validity.MayHaveBody p x in
    record {
      listed = method_listed order settings p t m x at;
      signature = valid_signature order settings p t hierarchy single supers w tied.holds x.sig tied.tied.signature;
      receiver = type_of_this order p x.class x.sig.receiver.vtype single t.core.roots.string (class_within order x tied) (subst T (sym tied.tied.class') tied.tied.signature.receiver.typ);
      kind = subst K (sym tied.tied.kind) (kind_fits classes w.class' w.declaration.unit w.written x.sig (member_of_class classes w.declaration w.written tied.holds.member) tied.tied.signature);
      body = subst B (sym tied.tied.body) tt;
      bodiless = subst D (sym tied.tied.body) tt;
    }
