-- What a simple name of a variable means (JLS 6.4.1, 6.5.6.1): a variable of the body, else a field.
use Rattle.std.specs.Prelude.{ℕ, Bool, Option, Some, None, List}
use Rattle.std.specs.List.{find}
use Rattle.std.specs.Str.{bytes_eq}
use Rattle.program_model.specs.declared.kinds.ClassId.{ClassId}
use Rattle.program_model.specs.declared.program.Program.{Program}
use Rattle.java_typed_trees.specs.declared.scope.Local.{Local}
use Rattle.java_typed_trees.specs.declared.scope.Scope.{Scope}
use Rattle.java_typed_trees.specs.declared.scope.NameMeaning.{NameMeaning}
use Rattle.java_typed_trees.specs.declared.scope.NameMeaning.TheVariants as meanings

-- where an expression stands: what its typing may read
pub record Context : Type 0 where
  pub program : Program
  pub class' : ClassId
  pub has_this : Bool
  pub locals : List Local
  pub covered : List ClassId

abbrev pub context_of : Scope → Context
context_of s = record { program = s.program.now; class' = s.class; has_this = s.has_this; locals = s.locals.now; covered = s.covered.now }

-- the variable in scope that has the name: no two have one (JLS 6.4)
abbrev pub local_named : List Local → List ℕ → Option Local
local_named locals name = find (λ x. bytes_eq x.name name) locals

-- a variable of the body shadows a field (JLS 6.4.1)
abbrev pub meaning_among : Option Local → NameMeaning → NameMeaning
meaning_among (Some x) member = meanings.Variable x.variable
meaning_among None member = member

-- what the name means where it means this as a member of the class
abbrev pub meaning_of : List Local → List ℕ → NameMeaning → NameMeaning
meaning_of locals name member = meaning_among (local_named locals name) member
