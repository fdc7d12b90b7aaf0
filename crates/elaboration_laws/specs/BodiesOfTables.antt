-- Bodies that are written for methods of a table, and where their statements have types.
use Rattle.std.specs.Prelude.{◌≡◌, Option, Some, List, length}
use Rattle.program_model.specs.declared.kinds.ClassId.{ClassId}
use Rattle.program_model.specs.declared.kinds.MethodKind.TheVariants as methods
use Rattle.program_model.specs.declared.tree.Var.{Var}
use Rattle.program_model.specs.Lookups.{method_at}
use Rattle.program_model.specs.Typing.{when_true}
use Rattle.program_model.specs.Validity.{IsTypedProgram}
use Rattle.java_typing_laws.specs.TypingContexts.{TypingContext}
use Rattle.java_typing_laws.specs.Scopes.{HasDeclarableTypes}
use Rattle.java_elaboration.specs.SourceClassesMembers.{Environment}
use Rattle.java_elaboration.specs.Bodies.{SourceBody, has_this}
use Rattle.java_typing_laws.specs.SuperCalls.{SuperCall}

-- the body is written for its method in the table: one of its class, which is not String, with as many parameters; only a
-- constructor begins with a super call
pub record IsWrittenFor (e : Environment) (b : SourceBody) : Type 0 where
  pub known : method_at e.program b.method ≡ Some b.signature
  pub own : b.signature.class ≡ b.class'.class'
  pub parameters : length b.body.parameters ≡ length b.signature.sig.params.items
  pub constructor : (call : SuperCall) → b.body.super_call ≡ Some call → b.signature.kind ≡ methods.Ctor
  pub not_string : b.class'.class' ≡ e.program.core.string → ⊥

-- the table is valid, and names in the body's compilation unit mean types and classes of it
pub record HasTypedTable (e : Environment) (b : SourceBody) : Type 0 where
  pub table : IsTypedProgram e.program
  pub types : HasDeclarableTypes e.program e.classes b.class'.declaration.unit
  pub written : IsWrittenFor e b

-- the class of `this` in the body, where there is one
abbrev pub owner_of : SourceBody → Option ClassId
owner_of b = when_true (has_this b.signature.kind) b.class'.class'

-- where its expressions have types
abbrev pub typing_context : Environment → SourceBody → List Var → TypingContext
typing_context e b variables = record { program = e.program; variables = variables; this_class = owner_of b }
