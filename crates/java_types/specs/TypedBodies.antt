-- The bodies of a program with their typed statements (JLS 8.4.7, 8.8.7).
use Rattle.std.specs.Prelude.{List, map}
use Rattle.rlc_base.specs.declared.place.Pos.{Pos}
use Rattle.program_model.specs.declared.kinds.MethodId.{MethodId}
use Rattle.java_typed_trees.specs.StatementTrees.{StmtTrees, statement_of, statements}
use Rattle.java_bodies.specs.Declarations.{BodyVariable, variable_in}
use Rattle.source_classes.specs.Members.{Environment}
use Rattle.java_bodies.specs.Bodies.{SourceBody, body_trees, body_variables_in}
use Rattle.java_types.specs.declared.body_typings.BodyTyping.{BodyTyping}

-- a body before it is laid into its tables
pub record TypedBody : Type 0 where
  pub method : MethodId
  pub variables : List BodyVariable
  pub statements : StmtTrees
  pub end : Pos

abbrev pub typed_body : Environment → SourceBody → TypedBody
typed_body e b = record { method = b.method; variables = body_variables_in e b; statements = statements (body_trees e b); end = b.body.end }

abbrev pub typed_bodies : Environment → List SourceBody → List TypedBody
typed_bodies e bodies = map (typed_body e) bodies

-- the same, as the code has it
abbrev pub typed_body_of : BodyTyping → TypedBody
typed_body_of t = record { method = t.method; variables = map variable_in t.variables.items; statements = statements (map statement_of t.statements.items); end = t.end }
