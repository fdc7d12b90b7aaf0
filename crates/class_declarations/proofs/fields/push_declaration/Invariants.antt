use Rattle.std.proofs.Common.{◌≡◌, ◌++◌, map, take}
use Rattle.class_order.specs.Declarations.{declaration_of}
use Rattle.class_declarations.specs.Members.{fields_of_declaration, written_field_of}
use Rattle.class_declarations.proofs.fields.push_declaration.Given as goal

abbrev pub invariant-loop-variable : goal.invariant-loop-variable
invariant-loop-variable l = map written_field_of l.all.items ≡ map written_field_of l.fn.all.items ++ fields_of_declaration l.class (declaration_of l.declared) l.declaration (take l.variable-index l.declaration.variables.items)
