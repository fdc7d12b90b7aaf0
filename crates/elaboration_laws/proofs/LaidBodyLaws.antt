-- A body that is laid from one in which nothing is refused is a typed body.
use Rattle.std.proofs.Common.{◌≡◌, ◌∙◌, ◌⊎◌, inl, inr, Some, [], List, refl, ap}
use Rattle.program_model.specs.declared.kinds.ClassId.{ClassId}
use Rattle.program_model.specs.declared.kinds.MethodId.{MethodId}
use Rattle.program_model.specs.declared.kinds.MethodKind.{MethodKind}
use Rattle.program_model.specs.declared.kinds.MethodKind.TheVariants as methods
use Rattle.program_model.specs.declared.program.Program.{Program}
use Rattle.program_model.specs.declared.tree.Body.{Body}
use Rattle.program_model.specs.declared.tree.Var.{Var}
use Rattle.program_model.specs.Lookups.{method_at}
use Rattle.program_model.specs.Typing.{when_true}
use Rattle.program_model.specs.Validity.{HasParameters, RunsBody}
use Rattle.java_typed_trees.specs.StatementTrees.{statements}
use Rattle.java_typing_laws.specs.TypingContexts.{TypingContext}
use Rattle.java_typing_laws.proofs.Conversions.{none_is_some, same_in}
use Rattle.java_typing_laws.proofs.OperatorRules.{has}
use Rattle.java_typing_laws.proofs.LaidStatements.{body_is_typed}
use Rattle.java_elaboration.specs.SourceClassesMembers.{Environment}
use Rattle.java_elaboration.specs.Bodies.{SourceBody, body_cases, body_trees, has_this}
use Rattle.elaboration_laws.specs.BodiesOfTables.{HasTypedTable, owner_of, typing_context}
use Rattle.elaboration_laws.proofs.BodyTyping.{body_has_parameters, body_typed, body_variables_declarable}
use Rattle.elaboration_laws.specs.BodiesOfPrograms.{IsTypedBody}
use Rattle.elaboration_laws.specs.LaidBodies.{HasHeadsInTrees, IsLaidFrom}

-- there is a `this` in instance methods and constructors
abbrev HasOwner : MethodKind → ClassId → ClassId → Type 0
HasOwner k c d = (c ≡ d) × ((k ≡ methods.Instance) ⊎ (k ≡ methods.Ctor))

owner_law : (k : MethodKind) (c d : ClassId) → when_true (has_this k) c ≡ Some d → HasOwner k c d
owner_law methods.Instance c d e = (same_in c d e, inl refl)
owner_law methods.Static c d e = absurd (none_is_some d e)
owner_law methods.Ctor c d e = (same_in c d e, inr refl)
owner_law methods.Constant c d e = absurd (none_is_some d e)

pub laid_body_typed : (e : Environment) (b : SourceBody) → HasTypedTable e b → RunsBody e.program b.signature → body_cases e b ≡ [] → (x : Body) → IsLaidFrom e b x → HasHeadsInTrees x → IsTypedBody e.program x
laid_body_typed e b h runs none x from trees =
    let p : Program = e.program in
    let variables : List Var = x.vars.items in
    let c : TypingContext = typing_context e b variables in
    let at : method_at p x.method ≡ Some b.signature = ap (λ (m : MethodId). method_at p m) from.method ∙ h.written.known in
    let this = λ (d : ClassId) (is : owner_of b ≡ Some d).
    let o = owner_law b.signature.kind b.class'.class' d is in
    has (method_at p x.method) b.signature (λ m. (m.class ≡ d) × ((m.kind ≡ methods.Instance) ⊎ (m.kind ≡ methods.Ctor))) at (h.written.own ∙ o.0, o.1) in
    record {
      method = has (method_at p x.method) b.signature (λ m. RunsBody p m × HasParameters variables m.sig.params.items) at (runs, body_has_parameters e b h variables from.variables);
      variables = body_variables_declarable e b h variables from.variables none;
      tables = body_is_typed c b.signature x (statements (body_trees e b)) (record { body = record { variables = refl; this_class = this }; method = at }) from.laid (body_typed e b h variables from.variables none);
      forest = trees.forest;
      heads = trees.heads;
      super_call = trees.super_call;
      headless = trees.headless;
    }
