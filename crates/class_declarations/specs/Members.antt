-- The members of the classes as they are written (JLS 8.2, 9.2), in the order of the text: fields, methods, constructors, the
-- constructor that a class without one has (JLS 8.8.9), and the constants of a stub.
use Rattle.std.specs.Prelude.{ℕ, ◌+◌, Bool, true, false, not, ◌&&◌, ◌||◌, Option, Some, None, List, [], ◌∷◌, ◌++◌, map, flat_map, if◌then◌else◌}
use Rattle.std.specs.List.{list_any}
use Rattle.rlc_base.specs.declared.place.Pos.{Pos}
use Rattle.java_syntax.specs.declared.names.Name.{Name}
use Rattle.java_syntax.specs.declared.names.Typ.{Typ}
use Rattle.java_syntax.specs.declared.annotation_trees.Modifier.{Modifier}
use Rattle.java_syntax.specs.declared.declaration_trees.ConstructorDecl.{ConstructorDecl}
use Rattle.java_syntax.specs.declared.declaration_trees.FieldDecl.{FieldDecl}
use Rattle.java_syntax.specs.declared.declaration_trees.Member.{Member}
use Rattle.java_syntax.specs.declared.declaration_trees.Member.TheVariants as members
use Rattle.java_syntax.specs.declared.declaration_trees.MethodDecl.{MethodDecl}
use Rattle.java_syntax.specs.declared.declaration_trees.Param.{Param}
use Rattle.java_syntax.specs.declared.statement_trees.Variable.{Variable}
use Rattle.program_model.specs.declared.kinds.ClassId.{ClassId}
use Rattle.program_model.specs.declared.kinds.MethodKind.{MethodKind}
use Rattle.program_model.specs.declared.kinds.MethodKind.TheVariants as kinds
use Rattle.program_model.specs.declared.kinds.VType.{VType}
use Rattle.program_model.specs.declared.kinds.VType.TheVariants as types
use Rattle.class_names.specs.declared.class_name.ClassName.{ClassName}
use Rattle.class_names.specs.ClassNames.{class_number}
use Rattle.class_names.specs.WrittenTypes.{written_type}
use Rattle.class_order.specs.Declarations.{Declaration, declaration_of, place_of}
use Rattle.class_order.specs.Modifiers.{has_abstract, has_final, has_static}
use Rattle.class_declarations.specs.declared.fields.DeclaredField.{DeclaredField}
use Rattle.class_declarations.specs.declared.methods.DeclaredMethod.{DeclaredMethod}
use Rattle.class_declarations.specs.declared.method_tree.MethodTree.{MethodTree}
use Rattle.class_declarations.specs.declared.method_tree.MethodTree.TheVariants as trees

-- ---- fields

-- a field of a declaration of fields (JLS 8.3)
pub record WrittenField : Type 0 where
  pub class' : ClassId
  pub declaration : Declaration
  pub field : FieldDecl
  pub variable : Variable

abbrev pub fields_of_declaration : ClassId → Declaration → FieldDecl → List Variable → List WrittenField
fields_of_declaration c d f vs = map (λ v. record { class' = c; declaration = d; field = f; variable = v }) vs

abbrev pub fields_of_member : ClassId → Declaration → Member → List WrittenField
fields_of_member c d (members.Field f) = fields_of_declaration c d f f.variables.items
fields_of_member c d (members.Method m) = []
fields_of_member c d (members.Constructor k) = []

abbrev pub fields_of_members : ClassId → Declaration → List Member → List WrittenField
fields_of_members c d all = flat_map (fields_of_member c d) all

-- the fields of the class with this number: a class of a stub has none, since its constants are read by a call of the library
-- and its other fields are passed over
abbrev pub fields_of : ClassId → Declaration → List WrittenField
fields_of c d = if d.unit.library then [] else fields_of_members c d d.class_tree.members.items

-- ---- constants of a stub

abbrev pub is_class_type : Option VType → Bool
is_class_type None = false
is_class_type (Some (types.Obj c)) = true
is_class_type (Some t) = false

-- a static final field of a class type other than `String`
abbrev pub is_constant : List ClassName → Declaration → FieldDecl → Bool
is_constant classes d f = has_static f.modifiers.items && has_final f.modifiers.items && is_class_type (written_type classes d.unit f.typ)

-- ---- methods

-- what the table has as a method
pub data Written : Type 0 where
  MethodOf : (m : MethodDecl) → Written
  ConstructorOf : (k : ConstructorDecl) → Written
  -- the constructor of a class that declares none, which has this place
  ImpliedConstructor : (pos : Pos) → Written
  ConstantOf : (f : FieldDecl) (v : Variable) → Written

abbrev pub constants_among : FieldDecl → List Variable → List Written
constants_among f vs = map (ConstantOf f) vs

abbrev pub constants_of : List ClassName → Declaration → FieldDecl → List Written
constants_of classes d f = if d.unit.library && is_constant classes d f then constants_among f f.variables.items else []

abbrev pub written_by : List ClassName → Declaration → Member → List Written
written_by classes d (members.Field f) = constants_of classes d f
written_by classes d (members.Method m) = MethodOf m ∷ []
written_by classes d (members.Constructor k) = ConstructorOf k ∷ []

abbrev pub written_by_all : List ClassName → Declaration → List Member → List Written
written_by_all classes d all = flat_map (written_by classes d) all

abbrev pub is_constructor : Member → Bool
is_constructor (members.Field f) = false
is_constructor (members.Method m) = false
is_constructor (members.Constructor k) = true

-- an interface has no constructor (JLS 9.2)
abbrev pub needs_constructor : Declaration → Bool
needs_constructor d = not (d.class_tree.is_interface || list_any is_constructor d.class_tree.members.items)

-- a class without a constructor has one at its name (JLS 8.8.9)
abbrev pub implied_constructor : Declaration → List Written
implied_constructor d = if needs_constructor d then ImpliedConstructor (place_of d) ∷ [] else []

-- what a class has as methods, in the order of the text
abbrev pub written_in : List ClassName → Declaration → List Written
written_in classes d = implied_constructor d ++ written_by_all classes d d.class_tree.members.items

pub record WrittenMethod : Type 0 where
  pub class' : ClassId
  pub declaration : Declaration
  pub written : Written

abbrev pub methods_written : ClassId → Declaration → List Written → List WrittenMethod
methods_written c d all = map (λ w. record { class' = c; declaration = d; written = w }) all

abbrev pub methods_of : List ClassName → ClassId → Declaration → List WrittenMethod
methods_of classes c d = methods_written c d (written_in classes d)

-- ---- all classes in class order, where the first has the number `first`

abbrev pub fields_from : ℕ → List Declaration → List WrittenField
fields_from first [] = []
fields_from first (d ∷ ds) = fields_of (class_number first) d ++ fields_from (first + 1) ds

abbrev pub methods_from : ℕ → List ClassName → List Declaration → List WrittenMethod
methods_from first classes [] = []
methods_from first classes (d ∷ ds) = methods_of classes (class_number first) d ++ methods_from (first + 1) classes ds

-- ---- the parts of what is written

-- a constructor has no name
abbrev pub name_of : Written → List ℕ
name_of (MethodOf m) = m.name.text
name_of (ConstructorOf k) = []
name_of (ImpliedConstructor pos) = []
name_of (ConstantOf f v) = v.name.text

abbrev pub pos_of : Written → Pos
pos_of (MethodOf m) = m.name.pos
pos_of (ConstructorOf k) = k.name.pos
pos_of (ImpliedConstructor pos) = pos
pos_of (ConstantOf f v) = v.name.pos

abbrev pub modifiers_of : Written → List Modifier
modifiers_of (MethodOf m) = m.modifiers.items
modifiers_of (ConstructorOf k) = k.modifiers.items
modifiers_of (ImpliedConstructor pos) = []
modifiers_of (ConstantOf f v) = f.modifiers.items

abbrev pub kind_of : Written → MethodKind
kind_of (MethodOf m) = if has_static m.modifiers.items then kinds.Static else kinds.Instance
kind_of (ConstructorOf k) = kinds.Ctor
kind_of (ImpliedConstructor pos) = kinds.Ctor
kind_of (ConstantOf f v) = kinds.Constant

abbrev pub parameters_of : Written → List Param
parameters_of (MethodOf m) = m.parameters.items
parameters_of (ConstructorOf k) = k.parameters.items
parameters_of (ImpliedConstructor pos) = []
parameters_of (ConstantOf f v) = []

-- the receiver parameter, which is no declared parameter (JLS 8.4)
abbrev pub receiver_of : Written → Option Param
receiver_of (MethodOf m) = m.receiver
receiver_of (ConstructorOf k) = k.receiver
receiver_of (ImpliedConstructor pos) = None
receiver_of (ConstantOf f v) = None

-- the type of the result: none for `void` and for a constructor
abbrev pub result_of : Written → Option Typ
result_of (MethodOf m) = m.result
result_of (ConstructorOf k) = None
result_of (ImpliedConstructor pos) = None
result_of (ConstantOf f v) = Some f.typ

-- the throws clause (JLS 8.4.6, 8.8.5)
abbrev pub throws_of : Written → List Name
throws_of (MethodOf m) = m.throws.items
throws_of (ConstructorOf k) = k.throws.items
throws_of (ImpliedConstructor pos) = []
throws_of (ConstantOf f v) = []

-- a method of an interface is abstract (JLS 9.4). On a method that a class of a stub declares the word has no effect
abbrev pub is_abstract_in : Declaration → Written → Bool
is_abstract_in d (MethodOf m) = d.class_tree.is_interface || (not d.unit.library && has_abstract m.modifiers.items)
is_abstract_in d (ConstructorOf k) = false
is_abstract_in d (ImpliedConstructor pos) = false
is_abstract_in d (ConstantOf f v) = false

-- ---- what is written, as the code has it

abbrev pub written_field_of : DeclaredField → WrittenField
written_field_of f = record { class' = f.class; declaration = declaration_of f.declared; field = f.declaration.now; variable = f.variable.now }

abbrev pub written_of : MethodTree → Written
written_of (trees.Method m) = MethodOf m.now
written_of (trees.Constructor k) = ConstructorOf k.now
written_of (trees.ImpliedConstructor pos) = ImpliedConstructor pos
written_of (trees.Constant f v) = ConstantOf f.now v.now

abbrev pub written_method_of : DeclaredMethod → WrittenMethod
written_method_of m = record { class' = m.class; declaration = declaration_of m.declared; written = written_of m.tree }
