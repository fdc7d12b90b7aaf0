-- Where the variables in scope have types, and what an expression gives where a value is needed.
use Rattle.std.specs.Prelude.{◌≡◌, Some, List, All}
use Rattle.program_model.specs.declared.kinds.VType.{VType}
use Rattle.java_typed_trees.specs.declared.facts.Facts.{Facts}
use Rattle.java_typed_trees.specs.declared.facts.StaticType.{StaticType}
use Rattle.java_typed_trees.specs.declared.facts.StaticType.TheVariants as static_types
use Rattle.java_typed_trees.specs.declared.scope.Local.{Local}
use Rattle.java_typed_trees.specs.Answers.{type_of}

abbrev pub IsValueType : StaticType → Type 0
IsValueType (static_types.Value t) = Unit {0}
IsValueType static_types.Void = ⊥
IsValueType static_types.Erroneous = ⊥

-- each variable in scope has a type: none was declared with a name of a type that is refused
abbrev pub HaveTypes : List Local → Type 0
HaveTypes locals = All (λ x. IsValueType x.variable.static_type) locals

-- it gives a value of a type
abbrev pub GivesValue : Facts → Type 0
GivesValue f = (t : VType) × (type_of f ≡ Some t)
