-- Source files as trees without addresses, and the tree that a value in memory is.
use Rattle.std.specs.Prelude.{ℕ, List, Option, Bool, map, option_map}
use Rattle.rlc_base.specs.declared.place.Pos.{Pos}
use Rattle.java_syntax.specs.declared.names.Name.{Name}
use Rattle.java_syntax.specs.declared.names.Typ.{Typ}
use Rattle.java_syntax.specs.declared.declaration_trees.Unit.{Unit}
use Rattle.java_syntax.specs.declared.declaration_trees.Import.{Import}
use Rattle.java_syntax.specs.declared.declaration_trees.ClassDecl.{ClassDecl}
use Rattle.java_syntax.specs.declared.declaration_trees.Member.{Member}
use Rattle.java_syntax.specs.declared.declaration_trees.Member.TheVariants as member
use Rattle.java_syntax.specs.declared.declaration_trees.FieldDecl.{FieldDecl}
use Rattle.java_syntax.specs.declared.declaration_trees.Param.{Param}
use Rattle.java_syntax.specs.declared.declaration_trees.MethodDecl.{MethodDecl}
use Rattle.java_syntax.specs.declared.declaration_trees.ConstructorDecl.{ConstructorDecl}
use Rattle.java_syntax.specs.declared.declaration_trees.ConstructorBody.{ConstructorBody}
use Rattle.java_syntax.specs.declared.declaration_trees.SuperCall.{SuperCall}
use Rattle.java_syntax.specs.ExpressionTrees.{ExprTree, expr_of}
use Rattle.java_syntax.specs.AnnotationTrees.{ModifierTree, modifier_of}
use Rattle.java_syntax.specs.StatementTrees.{BlockTree, block_of, VariableTree, variable_of}

pub record FieldTree : Type 0 where
  pub modifiers : List ModifierTree
  pub typ : Typ
  pub variables : List VariableTree

pub record ParamTree : Type 0 where
  pub modifiers : List ModifierTree
  pub typ : Typ
  pub name : Name

pub record MethodTree : Type 0 where
  pub modifiers : List ModifierTree
  pub result : Option Typ
  pub name : Name
  pub receiver : Option ParamTree
  pub parameters : List ParamTree
  pub throws : List Name
  pub body : Option BlockTree

pub record SuperCallTree : Type 0 where
  pub arguments : List ExprTree
  pub pos : Pos

pub record ConstructorBodyTree : Type 0 where
  pub super_call : Option SuperCallTree
  pub block : BlockTree

pub record ConstructorTree : Type 0 where
  pub modifiers : List ModifierTree
  pub name : Name
  pub receiver : Option ParamTree
  pub parameters : List ParamTree
  pub throws : List Name
  pub body : Option ConstructorBodyTree

pub data MemberTree : Type 0 where
  FieldOf : (field : FieldTree) → MemberTree
  MethodOf : (method : MethodTree) → MemberTree
  ConstructorOf : (constructor : ConstructorTree) → MemberTree

pub record ClassTree : Type 0 where
  pub modifiers : List ModifierTree
  pub is_interface : Bool
  pub name : Name
  pub superclass : Option Name
  pub interfaces : List Name
  pub members : List MemberTree

pub record UnitTree : Type 0 where
  pub package_name : List ℕ
  pub imports : List Import
  pub types : List ClassTree

abbrev pub field_of : FieldDecl → FieldTree
field_of f = record { modifiers = map modifier_of f.modifiers.items; typ = f.typ; variables = map variable_of f.variables.items }

abbrev pub param_of : Param → ParamTree
param_of p = record { modifiers = map modifier_of p.modifiers.items; typ = p.typ; name = p.name }

abbrev pub method_of : MethodDecl → MethodTree
method_of m = record { modifiers = map modifier_of m.modifiers.items; result = m.result; name = m.name; receiver = option_map param_of m.receiver; parameters = map param_of m.parameters.items; throws = m.throws.items; body = option_map block_of m.body }

abbrev pub super_call_of : SuperCall → SuperCallTree
super_call_of c = record { arguments = map expr_of c.arguments.items; pos = c.pos }

abbrev pub constructor_body_of : ConstructorBody → ConstructorBodyTree
constructor_body_of b = record { super_call = option_map super_call_of b.super_call; block = block_of b.block }

abbrev pub constructor_of : ConstructorDecl → ConstructorTree
constructor_of c = record { modifiers = map modifier_of c.modifiers.items; name = c.name; receiver = option_map param_of c.receiver; parameters = map param_of c.parameters.items; throws = c.throws.items; body = option_map constructor_body_of c.body }

abbrev pub member_of : Member → MemberTree
member_of (member.Field f) = FieldOf (field_of f)
member_of (member.Method m) = MethodOf (method_of m)
member_of (member.Constructor c) = ConstructorOf (constructor_of c)

abbrev pub class_of : ClassDecl → ClassTree
class_of c = record { modifiers = map modifier_of c.modifiers.items; is_interface = c.is_interface; name = c.name; superclass = c.superclass; interfaces = c.interfaces.items; members = map member_of c.members.items }

abbrev pub unit_of : Unit → UnitTree
unit_of u = record { package_name = u.package; imports = u.imports.items; types = map class_of u.types.items }
