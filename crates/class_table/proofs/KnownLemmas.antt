-- Where the pass over types has no case, each name in the types of the table's members means what it should.
use Rattle.std.proofs.Common.{◌≡◌, sym, refl, ℕ, ◌+◌, Bool, true, false, cond, ◌&&◌, Option, Some, None, List, [], ◌∷◌, ◌++◌}
use Rattle.std.specs.Prelude.{is_none, IsSome}
use Rattle.std.specs.List.{All}
use Rattle.std.proofs.lemmas.List.Elements.{All-append, All-cons, All-map, All-nil}
use Rattle.rlc_base.specs.declared.code.Code.{Code}
use Rattle.rlc_base.specs.declared.place.Pos.{Pos}
use Rattle.java_syntax.specs.declared.names.Name.{Name}
use Rattle.java_syntax.specs.declared.names.Typ.{Typ}
use Rattle.java_syntax.specs.declared.declaration_trees.FieldDecl.{FieldDecl}
use Rattle.java_syntax.specs.declared.declaration_trees.Member.{Member}
use Rattle.java_syntax.specs.declared.declaration_trees.Member.TheVariants as members
use Rattle.java_syntax.specs.declared.declaration_trees.Param.{Param}
use Rattle.java_syntax.specs.declared.statement_trees.Variable.{Variable}
use Rattle.program_model.specs.declared.kinds.ClassId.{ClassId}
use Rattle.program_model.specs.declared.kinds.VType.{VType}
use Rattle.class_order.specs.Refusals.{where_true}
use Rattle.class_names.specs.declared.class_name.ClassName.{ClassName}
use Rattle.class_names.specs.declared.meaning.Meaning.{Meaning}
use Rattle.class_names.specs.declared.meaning.Meaning.TheVariants.{Named, NoClass, TwoClasses}
use Rattle.class_names.specs.ClassNames.{class_number}
use Rattle.class_names.specs.Meanings.{CompilationUnit, meaning_of}
use Rattle.class_names.specs.WrittenTypes.{written_type}
use Rattle.class_order.specs.Declarations.{Declaration, place_of}
use Rattle.class_order.specs.Modifiers.{has_final, has_static}
use Rattle.class_order.specs.UnknownNames.{unknown_at, unknown_name, unknown_names, unknown_supers}
use Rattle.class_headers.specs.SuperTypes.{class_named, named_class}
use Rattle.class_declarations.specs.Members.{Written, MethodOf, ConstructorOf, ImpliedConstructor, ConstantOf, WrittenField, WrittenMethod, constants_among, constants_of, fields_from, fields_of, fields_of_member, fields_of_members, implied_constructor, is_class_type, is_constant, methods_from, methods_of, needs_constructor, parameters_of, receiver_of, result_of, throws_of, written_by, written_by_all, written_in}
use Rattle.class_checks.specs.TypeCases.{all_type_cases, bad_static, is_read_in_stub, type_cases, unknown_if_some, unknown_in_head, unknown_in_member, unknown_in_members, unknown_parameters, unknown_receiver, unknown_type}
use Rattle.table_members.specs.Methods.{IsKnown, IsKnownHead, IsKnownResult}

-- ---- no case

pub none_left : {X : Type 0} (xs ys : List X) → xs ++ ys ≡ [] → xs ≡ []
none_left [] ys is = refl
none_left (x ∷ xs) ys is = cc

pub none_right : {X : Type 0} (xs ys : List X) → xs ++ ys ≡ [] → ys ≡ []
none_right [] ys is = is
none_right (x ∷ xs) ys is = cc

pub where_none : (b : Bool) (code : Code) (pos : Pos) → where_true b code pos ≡ [] → b ≡ false
where_none true code pos is = cc
where_none false code pos is = refl

pub some_if : {A : Type 0} (o : Option A) → is_none o ≡ false → IsSome o
some_if (Some x) is = refl
some_if None is = sym is

-- ---- names and types

pub known_type : (classes : List ClassName) (u : CompilationUnit) (t : Typ) → unknown_type classes u t ≡ [] → IsKnown classes u t
known_type classes u t none = some_if (written_type classes u t) (where_none (is_none (written_type classes u t)) _ t.pos none)

known_at : (pos : Pos) (m : Meaning) → unknown_at pos m ≡ [] → IsSome (named_class m)
known_at pos (Named c) none = refl
known_at pos NoClass none = cc
known_at pos TwoClasses none = cc

pub known_names : (classes : List ClassName) (u : CompilationUnit) (ns : List Name) → unknown_names classes u ns ≡ [] → All (λ (n : Name). IsSome (class_named classes u n)) ns
known_names classes u [] none = All-nil (λ (n : Name). IsSome (class_named classes u n))
known_names classes u (n ∷ ns) none =
    All-cons (λ (x : Name). IsSome (class_named classes u x)) n ns
    (known_at n.pos (meaning_of classes u n.text) (none_left (unknown_name classes u n) (unknown_names classes u ns) none))
    (known_names classes u ns (none_right (unknown_name classes u n) (unknown_names classes u ns) none))

known_parameters : (classes : List ClassName) (u : CompilationUnit) (xs : List Param) → unknown_parameters classes u xs ≡ [] → All (λ (x : Param). IsKnown classes u x.typ) xs
known_parameters classes u [] none = All-nil (λ (x : Param). IsKnown classes u x.typ)
known_parameters classes u (x ∷ xs) none =
    All-cons (λ (z : Param). IsKnown classes u z.typ) x xs
    (known_type classes u x.typ (none_left (unknown_type classes u x.typ) (unknown_parameters classes u xs) none))
    (known_parameters classes u xs (none_right (unknown_type classes u x.typ) (unknown_parameters classes u xs) none))

known_result : (classes : List ClassName) (u : CompilationUnit) (t : Option Typ) → unknown_if_some classes u t ≡ [] → IsKnownResult classes u t
known_result classes u None none = tt
known_result classes u (Some t) none = known_type classes u t none

known_head : (classes : List ClassName) (u : CompilationUnit) (w : Written) → unknown_in_head classes u w ≡ [] → IsKnownHead classes u w
known_head classes u w none =
    let results = unknown_if_some classes u (result_of w) in
    let receivers = unknown_receiver classes u (receiver_of w) in
    let parameters = unknown_parameters classes u (parameters_of w) in
    let throws = unknown_names classes u (throws_of w) in
    let before_throws = none_left (results ++ receivers ++ parameters) throws none in
    record {
      params = known_parameters classes u (parameters_of w) (none_right (results ++ receivers) parameters before_throws);
      result = known_result classes u (result_of w) (none_left results receivers (none_left (results ++ receivers) parameters before_throws));
      throws = known_names classes u (throws_of w) (none_right (results ++ receivers ++ parameters) throws none);
    }

-- ---- fields

abbrev pub IsKnownField : List ClassName → WrittenField → Type 0
IsKnownField classes w = IsKnown classes w.declaration.unit w.field.typ

at_program : {X : Type 0} (b : Bool) (xs ys zs : List X) → b ≡ false → cond b xs (ys ++ zs) ≡ [] → ys ≡ []
at_program true xs ys zs is none = cc
at_program false xs ys zs is none = none_left ys zs none

known_member_fields : (classes : List ClassName) (c : ClassId) (d : Declaration) (m : Member) → d.unit.library ≡ false → unknown_in_member classes d.unit m ≡ [] → All (IsKnownField classes) (fields_of_member c d m)
known_member_fields classes c d (members.Method m) own none = All-nil (IsKnownField classes)
known_member_fields classes c d (members.Constructor k) own none = All-nil (IsKnownField classes)
known_member_fields classes c d (members.Field f) own none =
    let stub = cond (is_read_in_stub f) (unknown_type classes d.unit f.typ) [] in
    let known = known_type classes d.unit f.typ (at_program d.unit.library stub (unknown_type classes d.unit f.typ) (bad_static classes d.unit f) own none) in
    All-map (IsKnownField classes) (λ (v : Variable). record { class' = c; declaration = d; field = f; variable = v }) f.variables.items (λ k v within. known)

known_members_fields : (classes : List ClassName) (c : ClassId) (d : Declaration) (all : List Member) → d.unit.library ≡ false → unknown_in_members classes d.unit all ≡ [] → All (IsKnownField classes) (fields_of_members c d all)
known_members_fields classes c d [] own none = All-nil (IsKnownField classes)
known_members_fields classes c d (m ∷ ms) own none =
    All-append (IsKnownField classes) (fields_of_member c d m) (fields_of_members c d ms)
    (known_member_fields classes c d m own (none_left (unknown_in_member classes d.unit m) (unknown_in_members classes d.unit ms) none))
    (known_members_fields classes c d ms own (none_right (unknown_in_member classes d.unit m) (unknown_in_members classes d.unit ms) none))

unless : {X : Type 0} (P : X → Type 0) (b : Bool) (xs : List X) → (b ≡ false → All P xs) → All P (cond b [] xs)
unless P true xs h = All-nil P
unless P false xs h = h refl

known_class_fields : (classes : List ClassName) (c : ClassId) (d : Declaration) → type_cases classes d ≡ [] → All (IsKnownField classes) (fields_of c d)
known_class_fields classes c d none =
    unless (IsKnownField classes) d.unit.library (fields_of_members c d d.class_tree.members.items)
    (λ own. known_members_fields classes c d d.class_tree.members.items own (none_right (unknown_supers classes d) (unknown_in_members classes d.unit d.class_tree.members.items) none))

-- the types of all fields are known
pub known_fields : (classes : List ClassName) (first : ℕ) (order : List Declaration) → all_type_cases classes order ≡ [] → All (IsKnownField classes) (fields_from first order)
known_fields classes first [] none = All-nil (IsKnownField classes)
known_fields classes first (d ∷ ds) none =
    All-append (IsKnownField classes) (fields_of (class_number first) d) (fields_from (first + 1) ds)
    (known_class_fields classes (class_number first) d (none_left (type_cases classes d) (all_type_cases classes ds) none))
    (known_fields classes (first + 1) ds (none_right (type_cases classes d) (all_type_cases classes ds) none))

-- ---- methods

abbrev pub IsKnownMethod : List ClassName → WrittenMethod → Type 0
IsKnownMethod classes w = IsKnownHead classes w.declaration.unit w.written

pub and_left : (a b : Bool) → (a && b) ≡ true → a ≡ true
and_left true b is = refl
and_left false b is = is

pub and_right : (a b : Bool) → (a && b) ≡ true → b ≡ true
and_right true b is = is
and_right false b is = cc

class_type_known : (o : Option VType) → is_class_type o ≡ true → IsSome o
class_type_known (Some t) is = refl
class_type_known None is = is

where_holds : {X : Type 0} (P : X → Type 0) (b : Bool) (xs : List X) → (b ≡ true → All P xs) → All P (cond b xs [])
where_holds P true xs h = h refl
where_holds P false xs h = All-nil P

known_constant : (classes : List ClassName) (u : CompilationUnit) (f : FieldDecl) (v : Variable) → IsKnown classes u f.typ → IsKnownHead classes u (ConstantOf f v)
known_constant classes u f v known = record {
  params = All-nil (λ (x : Param). IsKnown classes u x.typ);
  result = known;
  throws = All-nil (λ (n : Name). IsSome (class_named classes u n));
}

known_constants : (classes : List ClassName) (d : Declaration) (f : FieldDecl) → All (IsKnownHead classes d.unit) (constants_of classes d f)
known_constants classes d f =
    let t = written_type classes d.unit f.typ in
    where_holds (IsKnownHead classes d.unit) (d.unit.library && is_constant classes d f) (constants_among f f.variables.items)
    (λ holds. All-map (IsKnownHead classes d.unit) (ConstantOf f) f.variables.items
    (λ k v within. known_constant classes d.unit f _ (class_type_known t (and_right (has_static f.modifiers.items && has_final f.modifiers.items) (is_class_type t) (and_right d.unit.library (is_constant classes d f) holds)))))

known_written : (classes : List ClassName) (d : Declaration) (m : Member) → unknown_in_member classes d.unit m ≡ [] → All (IsKnownHead classes d.unit) (written_by classes d m)
known_written classes d (members.Field f) none = known_constants classes d f
known_written classes d (members.Method m) none = All-cons (IsKnownHead classes d.unit) (MethodOf m) [] (known_head classes d.unit (MethodOf m) none) (All-nil (IsKnownHead classes d.unit))
known_written classes d (members.Constructor k) none = All-cons (IsKnownHead classes d.unit) (ConstructorOf k) [] (known_head classes d.unit (ConstructorOf k) none) (All-nil (IsKnownHead classes d.unit))

known_all_written : (classes : List ClassName) (d : Declaration) (all : List Member) → unknown_in_members classes d.unit all ≡ [] → All (IsKnownHead classes d.unit) (written_by_all classes d all)
known_all_written classes d [] none = All-nil (IsKnownHead classes d.unit)
known_all_written classes d (m ∷ ms) none =
    All-append (IsKnownHead classes d.unit) (written_by classes d m) (written_by_all classes d ms)
    (known_written classes d m (none_left (unknown_in_member classes d.unit m) (unknown_in_members classes d.unit ms) none))
    (known_all_written classes d ms (none_right (unknown_in_member classes d.unit m) (unknown_in_members classes d.unit ms) none))

known_implied : (classes : List ClassName) (u : CompilationUnit) (pos : Pos) → IsKnownHead classes u (ImpliedConstructor pos)
known_implied classes u pos = record {
  params = All-nil (λ (x : Param). IsKnown classes u x.typ);
  result = tt;
  throws = All-nil (λ (n : Name). IsSome (class_named classes u n));
}

known_class_methods : (classes : List ClassName) (c : ClassId) (d : Declaration) → type_cases classes d ≡ [] → All (IsKnownMethod classes) (methods_of classes c d)
known_class_methods classes c d none =
    let H = IsKnownHead classes d.unit in
    let implied : All H (implied_constructor d) = where_holds H (needs_constructor d) (ImpliedConstructor (place_of d) ∷ []) (λ needs. All-cons H (ImpliedConstructor (place_of d)) [] (known_implied classes d.unit (place_of d)) (All-nil H)) in
    let written = known_all_written classes d d.class_tree.members.items (none_right (unknown_supers classes d) (unknown_in_members classes d.unit d.class_tree.members.items) none) in
    All-map (IsKnownMethod classes) (λ (w : Written). record { class' = c; declaration = d; written = w }) (written_in classes d)
    (All-append H (implied_constructor d) (written_by_all classes d d.class_tree.members.items) implied written)

-- the heads of all methods, constructors and constants are known
pub known_methods : (classes : List ClassName) (first : ℕ) (order : List Declaration) → all_type_cases classes order ≡ [] → All (IsKnownMethod classes) (methods_from first classes order)
known_methods classes first [] none = All-nil (IsKnownMethod classes)
known_methods classes first (d ∷ ds) none =
    All-append (IsKnownMethod classes) (methods_of classes (class_number first) d) (methods_from (first + 1) classes ds)
    (known_class_methods classes (class_number first) d (none_left (type_cases classes d) (all_type_cases classes ds) none))
    (known_methods classes (first + 1) ds (none_right (type_cases classes d) (all_type_cases classes ds) none))
