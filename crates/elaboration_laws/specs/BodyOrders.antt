-- The order of the typed statements of a body that is accepted: with what it begins, and where its jumps stand.
use Rattle.std.specs.Prelude.{◌≡◌, Bool, false, Option, Some, None, List, [], ◌∷◌}
use Rattle.std.specs.List.{flat_map}
use Rattle.program_model.specs.declared.kinds.FieldId.{FieldId}
use Rattle.program_model.specs.declared.program.Program.{Program}
use Rattle.program_model.specs.Lookups.{field_at}
use Rattle.class_table.specs.ClassDeclarationsMembers.{WrittenField}
use Rattle.java_typed_trees.specs.StatementTrees.{StmtTrees, statements}
use Rattle.java_elaboration.specs.SourceClassesMembers.{Environment, numbered_fields}
use Rattle.java_elaboration.specs.SourceClasses.{SourceClass}
use Rattle.java_typing_laws.specs.FieldInitializers.{initializer_of, where_initialized}
use Rattle.java_elaboration.specs.Bodies.{SourceBody, argument_surroundings, body_trees}
use Rattle.java_typing_laws.specs.SuperCalls.{SuperCall, is_made}
use Rattle.elaboration_laws.specs.OrderedTrees.{HaveHeadsFirst, HaveOneSuperCall, begin_with_super_call, fields_initialized, have_free_jump}

-- the field, where it is an instance field with an initialiser
abbrev pub field_with_initializer : Program → FieldId × WrittenField → List FieldId
field_with_initializer p w = where_initialized (λ f x e. f ∷ []) w.0 (field_at p w.0) (initializer_of w.1)

-- the instance fields of a class that have initialisers (JLS 8.3.2), in the order of the text
abbrev pub fields_with_initializers : Program → SourceClass → List FieldId
fields_with_initializers p c = flat_map (field_with_initializer p) (numbered_fields p c)

-- whether a constructor calls one of its super class (JLS 8.8.7.1), and a method never does
abbrev pub calls_super : Environment → SourceBody → Option SuperCall → Bool
calls_super e b None = false
calls_super e b (Some call) = is_made (argument_surroundings e b)

-- the fields whose initialisers the body runs (JLS 12.5): a constructor those of its class, and a method none
abbrev pub fields_run : Environment → SourceBody → Option SuperCall → List FieldId
fields_run e b None = []
fields_run e b (Some call) = fields_with_initializers e.program b.class'

-- the typed statements of the body
abbrev pub body_statements : Environment → SourceBody → StmtTrees
body_statements e b = statements (body_trees e b)

-- typed statements that begin with a super call, or none, and the initialisers of these fields, and in which each `break` and
-- `continue` stands in a loop
pub record AreOrdered (calls : Bool) (fields : List FieldId) (ts : StmtTrees) : Type 0 where
  pub heads : HaveHeadsFirst ts
  pub super_call : HaveOneSuperCall ts
  pub due : begin_with_super_call ts ≡ calls
  pub initializers : fields_initialized ts ≡ fields
  pub jumps : have_free_jump ts ≡ false

-- those of the body are so
abbrev pub IsOrdered : Environment → SourceBody → Type 0
IsOrdered e b = AreOrdered (calls_super e b b.body.super_call) (fields_run e b b.body.super_call) (body_statements e b)
