-- A body in which nothing is refused throws no checked exception that is neither caught nor declared.
use Rattle.std.proofs.Common.{◌≡◌, ◌∙◌, ◌++◌, [], List, Bool, false, Option, Some, None, refl, sym, ap}
use Rattle.std.specs.Prelude.{◌&&◌, not}
use Rattle.std.specs.List.{list_any}
use Rattle.program_model.specs.declared.kinds.ClassId.{ClassId}
use Rattle.program_model.specs.declared.kinds.VType.{VType}
use Rattle.program_model.specs.declared.kinds.VType.TheVariants as types
use Rattle.program_model.specs.declared.program.CoreClasses.{CoreClasses}
use Rattle.program_model.specs.declared.program.Program.{Program}
use Rattle.program_model.specs.declared.tree.Body.{Body}
use Rattle.program_model.specs.Lookups.{method_at}
use Rattle.program_model.specs.SuperTests.{is_under}
use Rattle.program_model.specs.Typing.{class_of}
use Rattle.java_typed_trees.specs.Exceptions.{throws_of}
use Rattle.java_typed_trees.specs.Exceptions as rules
use Rattle.java_typed_trees.specs.StatementTrees.{StmtTrees, statements}
use Rattle.java_laying.proofs.BodyLaws.{has_operands, has_parts, has_statements}
use Rattle.java_call_rules.specs.Surroundings.{Surroundings}
use Rattle.java_laying.specs.Bodies.{IsLaid}
use Rattle.program_reading.specs.FieldInitializers.{initializer_statements, initializer_surroundings, initializers_cases}
use Rattle.program_reading.specs.Parameters.{parameters_cases}
use Rattle.program_reading.specs.StatementCases.{statements_cases}
use Rattle.program_reading.specs.StatementTrees.{statement_trees}
use Rattle.program_reading.specs.SuperCalls.{SuperCall, super_call_cases, super_call_statements}
use Rattle.program_reading.proofs.Goodness.{nil_left, nil_right}
use Rattle.program_reading.specs.Bodies.{SourceBody, argument_surroundings, body_cases, body_context, body_trees, declared_exceptions, head_cases, head_statements}
use Rattle.program_reading.specs.SourceClassesMembers.{Environment, numbered_fields}
use Rattle.accepted_programs.specs.Coverage.{is_undeclared, throws_undeclared}
use Rattle.accepted_programs.specs.Exceptions.{body_exceptions, throws_clause, throws_in}
use Rattle.accepted_programs.specs.TreeOrder.{PartsComeFirst}
use Rattle.acceptance_laws.specs.SameTables.{HaveSameTables}
use Rattle.acceptance_laws.proofs.Alike.{method_same, under_same}
use Rattle.acceptance_laws.proofs.HeadStatements.{AreQuietWhereTheyStand, both_stand, fields_quiet, none_stands, super_quiet}
use Rattle.acceptance_laws.proofs.StatementExceptions.{statements_good}
use Rattle.acceptance_laws.proofs.TableExceptions.{SameThrows}

-- ---- programs of the same tables

class_same : (q p : Program) → q.core ≡ p.core → (t : VType) → class_of q t ≡ class_of p t
class_same q p core (types.Primitive k) = refl
class_same q p core types.Str = ap (λ (k : CoreClasses). let o : Option ClassId = Some k.string in o) core
class_same q p core (types.Arr t) = ap (λ (k : CoreClasses). let o : Option ClassId = Some k.object in o) core
class_same q p core (types.Obj c) = refl
class_same q p core types.NullType = refl

pub same_throws : (table q : Program) → HaveSameTables table q → SameThrows q table
same_throws table q h = record {
  clause = λ m. sym (method_same table q h throws_of throws_in refl (λ x y a. a.throws) m);
  under = λ c d. sym (under_same table q h c d);
  types = class_same q table (sym h.core);
  core = sym h.core;
}

undeclared_same : (q p : Program) → SameThrows q p → (clause : List ClassId) (c : ClassId) → is_undeclared q clause c ≡ rules.is_undeclared p clause c
undeclared_same q p same clause c =
    ap (λ (k : CoreClasses). (is_under q c k.throwable && not (is_under q c k.runtime_exception) && not (is_under q c k.error)) && not (list_any (λ d. is_under q c d) clause)) same.core
    ∙ (λ i. (same.under c p.core.throwable i && not (same.under c p.core.runtime_exception i) && not (same.under c p.core.error i)) && not (list_any (λ d. same.under c d i) clause))

-- ---- the whole body

comes_first : (x : Body) (ts : StmtTrees) → IsLaid x ts → PartsComeFirst x
comes_first x ts laid = record { statements = λ s y found. (has_parts x ts laid s y found).0; expressions = has_operands x ts laid }

module _ (q : Program) (e : Environment) (b : SourceBody) (same : SameThrows q e.program) (x : Body) (order : PartsComeFirst x) where
  abbrev u : ClassId → Bool
  u = λ c. rules.is_undeclared e.program (declared_exceptions b) c

  head_quiet : (call : Option SuperCall) → head_cases e b call ≡ [] → AreQuietWhereTheyStand q x order u (head_statements e b call)
  head_quiet None none = none_stands q x order u
  head_quiet (Some call) none =
      let arguments : Surroundings = argument_surroundings e b in
      let fields : Surroundings = initializer_surroundings e b.class' (declared_exceptions b) in
      let first = super_call_cases arguments call in
      let second = initializers_cases e b.class' (declared_exceptions b) in
      both_stand q x order u (super_call_statements arguments call) (initializer_statements e b.class' (declared_exceptions b))
      (super_quiet q x order arguments same call (nil_left first second none))
      (fields_quiet q x order fields same (numbered_fields e.program b.class') (nil_right first second none))

  own_quiet : statements_cases (body_context e b) b.body.statements ≡ [] → AreQuietWhereTheyStand q x order u (statement_trees (body_context e b) b.body.statements)
  own_quiet none ss stand = (statements_good q x order (body_context e b) same b.body.statements ss stand none).quiet

  trees_quiet : body_cases e b ≡ [] → AreQuietWhereTheyStand q x order u (body_trees e b)
  trees_quiet none =
      let of_params = parameters_cases b.body.parameters b.signature.sig.params.items in
      let head = head_cases e b b.body.super_call in
      let inner = statements_cases (body_context e b) b.body.statements in
      both_stand q x order u (head_statements e b b.body.super_call) (statement_trees (body_context e b) b.body.statements)
      (head_quiet b.body.super_call (nil_right of_params head (nil_left (of_params ++ head) inner none)))
      (own_quiet (nil_right (of_params ++ head) inner none))

pub body_covers : (q : Program) (e : Environment) (b : SourceBody) → SameThrows q e.program → method_at e.program b.method ≡ Some b.signature → body_cases e b ≡ [] → (x : Body) → x.method ≡ b.method → IsLaid x (statements (body_trees e b)) → throws_undeclared q x ≡ false
body_covers q e b same known none x method laid =
    let p : Program = e.program in
    let order : PartsComeFirst x = comes_first x (statements (body_trees e b)) laid in
    let clause : throws_clause q x.method ≡ declared_exceptions b = ap (throws_clause q) method ∙ same.clause b.method ∙ ap throws_of known in
    ap (λ (cs : List ClassId). list_any (λ c. is_undeclared q cs c) (body_exceptions q x)) clause
    ∙ (λ i. list_any (λ c. undeclared_same q p same (declared_exceptions b) c i) (body_exceptions q x))
    ∙ trees_quiet q e b same x order none x.stmts.items (has_statements x (statements (body_trees e b)) laid)
