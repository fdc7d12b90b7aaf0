-- Which methods and constructors of a source file have a body: a method exactly where it is not abstract (JLS 8.4.7), as each of an
-- interface is (JLS 9.4), and each constructor (JLS 8.8.7).
use Rattle.std.specs.Prelude.{Bool, ◌||◌, not, List, [], flat_map, if◌then◌else◌}
use Rattle.std.specs.Option.{is_some}
use Rattle.rlc_base.specs.declared.code.Code.TheVariants as refused
use Rattle.rlc_base.specs.declared.faults.Refusal.{Refusal}
use Rattle.refusal_order.specs.Refusals.{where_true}
use Rattle.java_syntax.specs.declared.declaration_trees.ClassDecl.{ClassDecl}
use Rattle.java_syntax.specs.declared.declaration_trees.ConstructorDecl.{ConstructorDecl}
use Rattle.java_syntax.specs.declared.declaration_trees.Member.{Member}
use Rattle.java_syntax.specs.declared.declaration_trees.Member.TheVariants as members
use Rattle.java_syntax.specs.declared.declaration_trees.MethodDecl.{MethodDecl}
use Rattle.java_syntax.specs.declared.declaration_trees.Unit.{Unit}
use Rattle.class_order.specs.Modifiers.{has_abstract}

abbrev pub is_abstract : ClassDecl → MethodDecl → Bool
is_abstract k m = k.is_interface || has_abstract m.modifiers.items

-- a body where the method is abstract, or `;` where it is not
abbrev pub is_misfit : Bool → Bool → Bool
is_misfit abstract body = if abstract then body else not body

abbrev pub method_case : ClassDecl → MethodDecl → List Refusal
method_case k m = where_true (is_misfit (is_abstract k m) (is_some m.body)) refused.Syntax m.name.pos

abbrev pub constructor_case : ConstructorDecl → List Refusal
constructor_case c = where_true (not (is_some c.body)) refused.Syntax c.name.pos

abbrev pub member_case : ClassDecl → Member → List Refusal
member_case k (members.Field f) = []
member_case k (members.Method m) = method_case k m
member_case k (members.Constructor c) = constructor_case c

abbrev pub class_cases : ClassDecl → List Refusal
class_cases k = flat_map (member_case k) k.members.items

abbrev pub unit_cases : Unit → List Refusal
unit_cases u = flat_map class_cases u.types.items

-- those of all source files
abbrev pub body_cases : List Unit → List Refusal
body_cases units = flat_map unit_cases units
