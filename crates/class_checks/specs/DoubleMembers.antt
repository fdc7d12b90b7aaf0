-- Two fields of one name, or two methods or constructors of one parameter list, in one class (JLS 8.2, 8.3, 8.4.2, 8.8.2).
use Rattle.std.specs.Prelude.{Bool, true, false, ◌&&◌, Option, Some, None, List, [], ◌∷◌, ◌++◌, flat_map, filter, map, if◌then◌else◌}
use Rattle.std.specs.List.{list_any}
use Rattle.std.specs.Str.{bytes_eq}
use Rattle.rlc_base.specs.declared.code.Code.TheVariants as refused
use Rattle.rlc_base.specs.declared.faults.Refusal.{Refusal}
use Rattle.java_syntax.specs.declared.declaration_trees.FieldDecl.{FieldDecl}
use Rattle.java_syntax.specs.declared.declaration_trees.Member.{Member}
use Rattle.java_syntax.specs.declared.declaration_trees.Member.TheVariants as members
use Rattle.java_syntax.specs.declared.declaration_trees.Param.{Param}
use Rattle.java_syntax.specs.declared.names.Name.{Name}
use Rattle.java_syntax.specs.declared.statement_trees.Variable.{Variable}
use Rattle.program_model.specs.declared.kinds.VType.{VType}
use Rattle.program_model.specs.Overrides.{is_type}
use Rattle.refusal_order.specs.Refusals.{refused_at}
use Rattle.class_names.specs.declared.class_name.ClassName.{ClassName}
use Rattle.class_names.specs.Meanings.{CompilationUnit}
use Rattle.class_names.specs.WrittenTypes.{written_type}
use Rattle.class_order.specs.Declarations.{Declaration}
use Rattle.class_declarations.specs.Members.{Written, MethodOf, ConstructorOf, ImpliedConstructor, ConstantOf, is_constant, name_of, parameters_of, pos_of, written_in}

-- those of a list that are the same as one before them, where these stand before the list
abbrev pub repeats : {X : Type 0} → (X → X → Bool) → List X → List X → List X
repeats same before [] = []
repeats same before (x ∷ xs) = if list_any (same x) before then x ∷ repeats same (before ++ x ∷ []) xs else repeats same (before ++ x ∷ []) xs

-- ---- fields

-- the field is one of a program class, or a constant of a stub; the other fields of a stub are passed over
abbrev pub is_declared : List ClassName → Declaration → FieldDecl → Bool
is_declared classes d f = if d.unit.library then is_constant classes d f else true

abbrev pub names_among : List Variable → List Name
names_among vs = map (λ (v : Variable). v.name) vs

abbrev pub field_names_in : List ClassName → Declaration → FieldDecl → List Name
field_names_in classes d f = if is_declared classes d f then names_among f.variables.items else []

abbrev pub field_names_of : List ClassName → Declaration → Member → List Name
field_names_of classes d (members.Field f) = field_names_in classes d f
field_names_of classes d (members.Method m) = []
field_names_of classes d (members.Constructor k) = []

abbrev pub field_names_among : List ClassName → Declaration → List Member → List Name
field_names_among classes d all = flat_map (field_names_of classes d) all

-- the names of the fields of a class, in the order of the text
abbrev pub field_names : List ClassName → Declaration → List Name
field_names classes d = field_names_among classes d d.class_tree.members.items

abbrev pub is_one_name : Name → Name → Bool
is_one_name x y = bytes_eq x.text y.text

abbrev pub double_fields : List ClassName → Declaration → List Refusal
double_fields classes d = map (λ (n : Name). refused_at refused.DoubleMember n.pos) (repeats is_one_name [] (field_names classes d))

-- ---- methods and constructors

-- the types are one. Types that are none are refused before double members are
abbrev pub is_one_type : Option VType → Option VType → Bool
is_one_type None None = true
is_one_type None (Some u) = false
is_one_type (Some t) None = false
is_one_type (Some t) (Some u) = is_type t u

-- parameters of one list of types
abbrev pub are_alike : List ClassName → CompilationUnit → List Param → List Param → Bool
are_alike classes u [] [] = true
are_alike classes u [] (y ∷ ys) = false
are_alike classes u (x ∷ xs) [] = false
are_alike classes u (x ∷ xs) (y ∷ ys) = is_one_type (written_type classes u x.typ) (written_type classes u y.typ) && are_alike classes u xs ys

-- one parameter list and one name, where a constructor has an empty name
abbrev pub have_one_signature : List ClassName → CompilationUnit → Written → Written → Bool
have_one_signature classes u v w = are_alike classes u (parameters_of v) (parameters_of w) && bytes_eq (name_of v) (name_of w)

-- a method or constructor, and no constant
abbrev pub is_invocable : Written → Bool
is_invocable (MethodOf m) = true
is_invocable (ConstructorOf k) = true
is_invocable (ImpliedConstructor pos) = true
is_invocable (ConstantOf f v) = false

abbrev pub invocable : List Written → List Written
invocable all = filter is_invocable all

abbrev pub double_signatures : List ClassName → CompilationUnit → List Written → List Refusal
double_signatures classes u all = map (λ w. refused_at refused.DoubleMember (pos_of w)) (repeats (have_one_signature classes u) [] all)

abbrev pub double_methods : List ClassName → Declaration → List Refusal
double_methods classes d = double_signatures classes d.unit (invocable (written_in classes d))

-- ---- all members

-- the refusals of the members of one class, each at the later one's name
abbrev pub double_members : List ClassName → Declaration → List Refusal
double_members classes d = double_fields classes d ++ double_methods classes d

abbrev pub double_member_cases : List ClassName → List Declaration → List Refusal
double_member_cases classes order = flat_map (double_members classes) order
