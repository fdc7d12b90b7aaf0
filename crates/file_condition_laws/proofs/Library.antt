-- In a table that is built all classes above one of a stub are of stubs, and so are those that a method of a stub gives and throws.
use Rattle.std.proofs.Common.{◌≡◌, ◌∙◌, inl, inr, All, ap, refl, sym, subst, arith, true≢false, Bool, true, false, ◌&&◌, Option, Some, None, List, [], ◌∷◌, ◌++◌, Contains, ⊎_elim}
use Rattle.std.specs.Prelude.{if◌then◌else◌, slice_get}
use Rattle.std.specs.List.{AllZip}
use Rattle.std.specs.Option.{option_map}
use Rattle.std.proofs.lemmas.List.Elements.{All-cons, All-contains, All-contains_itself, All-nil, All-weaker, Contains-append_cases}
use Rattle.std.proofs.lemmas.Option.{same_Some, slice_get-map, slice_get_within}
use Rattle.java_syntax.specs.declared.declaration_trees.Member.{Member}
use Rattle.java_syntax.specs.declared.declaration_trees.Member.TheVariants as members
use Rattle.java_syntax.specs.declared.declaration_trees.MethodDecl.{MethodDecl}
use Rattle.java_syntax.specs.declared.names.Name.{Name}
use Rattle.java_syntax.specs.declared.names.Typ.{Typ}
use Rattle.java_syntax.specs.declared.settings.Settings.{Settings}
use Rattle.program_model.specs.declared.kinds.ClassId.{ClassId}
use Rattle.program_model.specs.declared.kinds.MethodId.{MethodId}
use Rattle.program_model.specs.declared.kinds.MethodKind.{MethodKind}
use Rattle.program_model.specs.declared.kinds.MethodKind.TheVariants as kinds
use Rattle.program_model.specs.declared.kinds.VType.{VType}
use Rattle.program_model.specs.declared.kinds.VType.TheVariants as types
use Rattle.program_model.specs.declared.program.Method.{Method}
use Rattle.program_model.specs.declared.program.Class.{Class}
use Rattle.program_model.specs.declared.program.CoreClasses.{CoreClasses}
use Rattle.program_model.specs.declared.program.Program.{Program}
use Rattle.program_model.specs.Hierarchy.{IsDirectSuper, IsUnder, above, implied_super, itself}
use Rattle.program_model.specs.Lookups.{class_at, method_at, optional}
use Rattle.program_model.specs.Overrides.{is_library, is_library_in}
use Rattle.program_model.specs.SuperTests.{is_class}
use Rattle.agreement.specs.AcceptedProgramsConditions.{HasWholeLibrary}
use Rattle.agreement.specs.LibraryClasses.{language_exceptions}
use Rattle.class_names.specs.declared.class_name.ClassName.{ClassName}
use Rattle.class_names.specs.Meanings.{CompilationUnit, has}
use Rattle.acceptance_laws.specs.Cases.{IsLeast}
use Rattle.acceptance_laws.specs.ClassOrderDeclarations.{Declaration, class_name_of, class_names, place_of}
use Rattle.acceptance_laws.specs.SuperTypes.{SuperTypes, class_named, declared_supers, implied_class, super_class, super_interfaces}
use Rattle.class_members.proofs.Elements.{contains-first, contains-none, contains-one, gathered-among}
use Rattle.acceptance_laws.specs.SuperCases.{IsCoreLibrary, core_misplaced, direct_in, is_library_at}
use Rattle.acceptance_laws.specs.SuperPass.{IsSuperCase}
use Rattle.acceptance_laws.specs.Passes.{IsBuilt}
use Rattle.acceptance_laws.proofs.TableFacts.{declared_class, some_at, table_long}
use Rattle.acceptance_laws.proofs.StringClass.{string_declared}
use Rattle.acceptance_laws.proofs.Owners.{IsTied, tied_at}
use Rattle.acceptance_laws.proofs.WrittenFacts.{IsMethodIn, methods_in}
use Rattle.acceptance_laws.specs.Table.{all_methods}
use Rattle.acceptance_laws.specs.Methods.{IsMethod, IsNamedClass, IsWrittenAs}
use Rattle.acceptance_laws.specs.ClassDeclarationsMembers.{Written, MethodOf, ConstructorOf, ImpliedConstructor, WrittenMethod, constants_among, implied_constructor, is_constant, kind_of, needs_constructor, result_of, throws_of, written_by, written_by_all, written_in}
use Rattle.file_condition_laws.proofs.Meanings.{IsOfStub, class_in_stub, type_in_stub}

-- ---- the root of all classes

bool_told : (b : Bool) → ((b ≡ true → ⊥) → ⊥) → b ≡ true
bool_told true h = refl
bool_told false h = absurd (h (λ e. true≢false (sym e)))

core_told : (order : List Declaration) (core : CoreClasses) → IsLeast (IsSuperCase order core) None → (IsCoreLibrary order (direct_in order core) core → ⊥) → ⊥
core_told order core none wrong = none core_misplaced (inr (inr (inr (wrong, refl))))

object_declared : (order : List Declaration) (core : CoreClasses) → IsLeast (IsSuperCase order core) None → is_library_at (slice_get order core.object.0) ≡ true
object_declared order core none = bool_told (is_library_at (slice_get order core.object.0)) (λ wrong. core_told order core none (λ h. wrong h.object))

exceptions_declared : (order : List Declaration) (core : CoreClasses) → IsLeast (IsSuperCase order core) None → (c : ClassId) → Contains (language_exceptions core) c → is_library_at (slice_get order c.0) ≡ true
exceptions_declared order core none c among =
    bool_told (is_library_at (slice_get order c.0)) (λ wrong.
    core_told order core none (λ h. wrong (All-contains (λ (k : ClassId). is_library_at (slice_get order k.0) ≡ true) (language_exceptions core) c h.language among)))

-- ---- what a class of a stub names

-- the class is declared in a stub
abbrev IsStubs : List Declaration → ClassId → Type 0
IsStubs order c = is_library_at (slice_get order c.0) ≡ true

by_declaration : (o : Option Declaration) → has (λ (k : ClassName). k.library) (option_map class_name_of o) ≡ is_library_at o
by_declaration None = refl
by_declaration (Some d) = refl

declared_there : (order : List Declaration) (c : ClassId) → IsOfStub (class_names order) c → IsStubs order c
declared_there order c is =
    sym (by_declaration (slice_get order c.0)) ∙ sym (ap (has (λ (k : ClassName). k.library)) (slice_get-map class_name_of order c.0)) ∙ is

implied : (object c e : ClassId) (interface : Bool) → Contains (optional (implied_class object c interface)) e → object ≡ e
implied object c e true h = absurd (contains-none e h)
implied object c e false h = by (is_class c object) h
  where
    by : (b : Bool) → Contains (optional (if b then None else Some object)) e → object ≡ e
    by true h = absurd (contains-none e h)
    by false h = contains-one object e h

super_in_stub : (order : List Declaration) (object c e : ClassId) (d : Declaration) (n : Option Name) → d.unit.library ≡ true → IsStubs order object → Contains (optional (super_class (class_names order) object c d n)) e → IsStubs order e
super_in_stub order object c e d None stub root h = subst (IsStubs order) (implied object c e d.class_tree.is_interface h) root
super_in_stub order object c e d (Some n) stub root h = declared_there order e (class_in_stub (class_names order) d.unit n e stub h)

interface_in_stub : (order : List Declaration) (u : CompilationUnit) (names : List Name) (e : ClassId) → u.library ≡ true → Contains (super_interfaces (class_names order) u names) e → IsStubs order e
interface_in_stub order u names e stub h =
    let found = gathered-among (λ n. optional (class_named (class_names order) u n)) names e h in
    declared_there order e (class_in_stub (class_names order) u found.0 e stub found.2)

named_in_stub : (order : List Declaration) (object c e : ClassId) (d : Declaration) → d.unit.library ≡ true → IsStubs order object
    → Contains (optional (super_class (class_names order) object c d d.class_tree.superclass) ++ super_interfaces (class_names order) d.unit d.class_tree.interfaces.items) e → IsStubs order e
named_in_stub order object c e d stub root h =
    ⊎_elim
    (λ first. super_in_stub order object c e d d.class_tree.superclass stub root first)
    (λ second. interface_in_stub order d.unit d.class_tree.interfaces.items e stub second)
    (Contains-append_cases (optional (super_class (class_names order) object c d d.class_tree.superclass)) (super_interfaces (class_names order) d.unit d.class_tree.interfaces.items) e h)

implied_is : (p : Program) (interface : Bool) (e : ClassId) → Contains (implied_super p interface) e → p.core.object ≡ e
implied_is p true e h = contains-one p.core.object e h
implied_is p false e h = absurd (contains-none e h)

-- ---- constants

-- what is no constant is of another kind
abbrev is_constant_kind : MethodKind → Bool
is_constant_kind kinds.Constant = true
is_constant_kind k = false

abbrev IsOther : Written → Type 0
IsOther w = is_constant_kind (kind_of w) ≡ false

no_constant : (w : Written) → IsOther w → kind_of w ≡ kinds.Constant → ⊥
no_constant w other is = true≢false (sym (ap is_constant_kind is) ∙ other)

method_is_other : (m : MethodDecl) → IsOther (MethodOf m)
method_is_other m = by _
  where
    by : (b : Bool) → is_constant_kind (if b then kinds.Static else kinds.Instance) ≡ false
    by true = refl
    by false = refl

one_other : (v w : Written) → IsOther v → Contains (v ∷ []) w → kind_of w ≡ kinds.Constant → ⊥
one_other v w other among = no_constant w (subst IsOther (contains-one v w among) other)

implied_other : (d : Declaration) (w : Written) → Contains (implied_constructor d) w → kind_of w ≡ kinds.Constant → ⊥
implied_other d w = by (needs_constructor d)
  where
    by : (b : Bool) → Contains (if b then ImpliedConstructor (place_of d) ∷ [] else []) w → kind_of w ≡ kinds.Constant → ⊥
    by true among is = one_other (ImpliedConstructor (place_of d)) w refl among is
    by false among is = contains-none w among

constant_by : (classes : List ClassName) (d : Declaration) (m : Member) (w : Written) → Contains (written_by classes d m) w → kind_of w ≡ kinds.Constant → d.unit.library ≡ true
constant_by classes d (members.Method m) w among is = absurd (one_other (MethodOf m) w (method_is_other m) among is)
constant_by classes d (members.Constructor k) w among is = absurd (one_other (ConstructorOf k) w refl among is)
constant_by classes d (members.Field f) w among is = by d.unit.library (is_constant classes d f) among
  where
    by : (x y : Bool) → Contains (if x && y then constants_among f f.variables.items else []) w → x ≡ true
    by true y listed = refl
    by false y listed = absurd (contains-none w listed)

-- a constant is written in a stub
constant_in_stub : (classes : List ClassName) (d : Declaration) (w : Written) → Contains (written_in classes d) w → kind_of w ≡ kinds.Constant → d.unit.library ≡ true
constant_in_stub classes d w among is =
    elim (Contains-append_cases (implied_constructor d) (written_by_all classes d d.class_tree.members.items) w among) [
      | inl implied_one ↦ absurd (implied_other d w implied_one is)
      | inr written_one ↦ (let from = gathered-among (written_by classes d) d.class_tree.members.items w written_one in constant_by classes d from.0 w from.2 is)
    ]

-- ---- the table

module _ (order : List Declaration) (settings : Settings) (p : Program) (built : IsBuilt order settings p) where
  root : IsStubs order p.core.object
  root = object_declared order p.core built.right.fit.supers

  -- a class that is declared in a stub is of the library
  in_table : (c : ClassId) (o : Option Declaration) → slice_get order c.0 ≡ o → is_library_at o ≡ true → is_library p c ≡ true
  in_table c None at is = absurd (true≢false (sym is))
  in_table c (Some d) at is =
      let within = slice_get_within order c.0 d at in
      let k = some_at p.classes.items c.0 (let long = table_long order settings p built.table in omega (arith, within, long)) in
      let declared = declared_class order settings p built.table c k.0 k.1 in
      let one : declared.declaration ≡ d = same_Some declared.declaration d (sym declared.at ∙ at) in
      ap is_library_in k.1 ∙ ap (λ h. h.library) declared.header ∙ ap (λ (x : Declaration). x.unit.library) one ∙ is

  stub_of_class : (c : ClassId) (k : Class) → class_at p c ≡ Some k → is_library p c ≡ true → (d : Declaration) → slice_get order c.0 ≡ Some d → d.unit.library ≡ true
  stub_of_class c k at library d there =
      let declared = declared_class order settings p built.table c k at in
      let one : declared.declaration ≡ d = same_Some declared.declaration d (sym declared.at ∙ there) in
      sym (ap (λ (x : Declaration). x.unit.library) one) ∙ sym (ap (λ h. h.library) declared.header) ∙ sym (ap is_library_in at) ∙ library

  -- the declaration of a class of the library is a stub's
  stub_declares : (c : ClassId) (d : Declaration) → is_library p c ≡ true → slice_get order c.0 ≡ Some d → d.unit.library ≡ true
  stub_declares c d library there = by (class_at p c) refl library
    where
      by : (o : Option Class) → class_at p c ≡ o → is_library_in o ≡ true → d.unit.library ≡ true
      by None at is = absurd (true≢false (sym is))
      by (Some k) at is = stub_of_class c k at library d there

  right_above : (c e : ClassId) → IsDirectSuper p c e → is_library p c ≡ true → is_library p e ≡ true
  right_above c e direct library =
      let k : Class = direct.0 in
      let d = declared_class order settings p built.table c k direct.1 in
      let stub : d.declaration.unit.library ≡ true = sym (ap (λ h. h.library) d.header) ∙ sym (ap is_library_in direct.1) ∙ library in
      let own : SuperTypes = declared_supers (class_names order) p.core.object c d.declaration in
      let C : List ClassId → Type 0 = λ cs. Contains cs e in
      let there : IsStubs order e =
      ⊎_elim
      (λ named. named_in_stub order p.core.object c e d.declaration stub root (subst C (λ i. optional ((d.header i).super_class) ++ (d.header i).interfaces) named))
      (λ at_root. subst (IsStubs order) (implied_is p k.interface e at_root) root)
      (Contains-append_cases (optional k.sup ++ k.faces.items) (implied_super p k.interface) e direct.2) in
      in_table e (slice_get order e.0) refl there

  -- what a method of the library is written as, in a stub
  record IsInStub (x : Method) : Type 0 where
    written : WrittenMethod
    stub : written.declaration.unit.library ≡ true
    is : IsMethod (class_names order) written x

  method_in_stub : (m : MethodId) (x : Method) → method_at p m ≡ Some x → is_library p x.class ≡ true → IsInStub x
  method_in_stub m x at library =
      let tied : IsTied (IsMethodIn order (class_names order)) (IsMethod (class_names order)) x =
      tied_at (IsMethodIn order (class_names order)) (IsMethod (class_names order)) (all_methods order) p.methods.items m.0 x (methods_in order) built.table.methods at in
      let w : WrittenMethod = tied.part in
      let there : is_library p w.class' ≡ true = sym (ap (is_library p) tied.tied.class') ∙ library in
      record { written = w; stub = stub_declares w.class' w.declaration there tied.holds.declared; is = tied.tied }

  -- a constant is a library's
  pub constants_of_library : (m : MethodId) (x : Method) → method_at p m ≡ Some x → x.kind ≡ kinds.Constant → is_library p x.class ≡ true
  constants_of_library m x at constant =
      let tied : IsTied (IsMethodIn order (class_names order)) (IsMethod (class_names order)) x =
      tied_at (IsMethodIn order (class_names order)) (IsMethod (class_names order)) (all_methods order) p.methods.items m.0 x (methods_in order) built.table.methods at in
      let w : WrittenMethod = tied.part in
      let stub = constant_in_stub (class_names order) w.declaration w.written tied.holds.member (sym tied.tied.kind ∙ constant) in
      ap (is_library p) tied.tied.class' ∙ in_table w.class' (slice_get order w.class'.0) refl (ap is_library_at tied.holds.declared ∙ stub)

  in_library : (c : ClassId) → IsOfStub (class_names order) c → is_library p c ≡ true
  in_library c is = in_table c (slice_get order c.0) refl (declared_there order c is)

  result_of_stub : (u : CompilationUnit) (t : Option Typ) (c : ClassId) → u.library ≡ true → IsWrittenAs (class_names order) u t (Some (types.Obj c)) → is_library p c ≡ true
  result_of_stub u None c stub as_written = absurd as_written
  result_of_stub u (Some t) c stub as_written = in_library c (type_in_stub (class_names order) u t c stub as_written)

  pub results_of_library : (m : MethodId) (x : Method) (c : ClassId) → method_at p m ≡ Some x → is_library p x.class ≡ true → x.sig.result ≡ Some (types.Obj c) → is_library p c ≡ true
  results_of_library m x c at library gives =
      let w = method_in_stub m x at library in
      let u : CompilationUnit = w.written.declaration.unit in
      result_of_stub u (result_of w.written.written) c w.stub
      (subst (λ (t : Option VType). IsWrittenAs (class_names order) u (result_of w.written.written) t) gives w.is.signature.result)

  throws_of_stub : (u : CompilationUnit) (names : List Name) (cs : List ClassId) → u.library ≡ true → AllZip (IsNamedClass (class_names order) u) names cs → All (λ c. is_library p c ≡ true) cs
  throws_of_stub u [] [] stub named = All-nil (λ c. is_library p c ≡ true)
  throws_of_stub u [] (c ∷ cs) stub named = absurd named
  throws_of_stub u (n ∷ names) [] stub named = absurd named
  throws_of_stub u (n ∷ names) (c ∷ cs) stub named =
      let meant : Contains (optional (class_named (class_names order) u n)) c = subst (λ (o : Option ClassId). Contains (optional o) c) (sym named.0) (contains-first c []) in
      All-cons (λ d. is_library p d ≡ true) c cs (in_library c (class_in_stub (class_names order) u n c stub meant)) (throws_of_stub u names cs stub named.1)

  pub throws_of_library : (m : MethodId) (x : Method) → method_at p m ≡ Some x → is_library p x.class ≡ true → All (λ c. is_library p c ≡ true) x.sig.throws.items
  throws_of_library m x at library =
      let w = method_in_stub m x at library in
      throws_of_stub w.written.declaration.unit (throws_of w.written.written) x.sig.throws.items w.stub w.is.signature.throws

  pub object_of_library : is_library p p.core.object ≡ true
  object_of_library = in_table p.core.object (slice_get order p.core.object.0) refl root

  pub exceptions_of_library : All (λ c. is_library p c ≡ true) (language_exceptions p.core)
  exceptions_of_library =
      All-weaker (Contains (language_exceptions p.core)) (λ c. is_library p c ≡ true)
      (λ c among. in_table c (slice_get order c.0) refl (exceptions_declared order p.core built.right.fit.supers c among)) (language_exceptions p.core)
      (All-contains_itself (language_exceptions p.core))

  pub string_of_library : is_library p p.core.string ≡ true
  string_of_library =
      let there = string_declared order settings p built in
      in_table p.core.string (slice_get order p.core.string.0) refl (ap is_library_at there.1 ∙ there.2.library)

  all_above : (c d : ClassId) → IsUnder p c d → is_library p c ≡ true → is_library p d ≡ true
  all_above c d (itself x) library = library
  all_above c d (above x e y first rest) library = all_above e y rest (right_above x e first library)

pub table_whole : (order : List Declaration) (settings : Settings) (p : Program) → IsBuilt order settings p → HasWholeLibrary p
table_whole order settings p built c d under library = all_above order settings p built c d under library
