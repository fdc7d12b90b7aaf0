-- The bodies of the program are typed trees.
use Rattle.std.proofs.Common.{◌≡◌, ◌<◌, ℕ, zero, suc, refl, ap, sym, false, ◌∙◌, Some, [], ◌∷◌, count_by, nat_eq, lit<, arith, inr}
use Rattle.program_model.specs.declared.kinds.BodyId.{BodyId}
use Rattle.program_model.specs.declared.kinds.ClassId.{ClassId}
use Rattle.program_model.specs.declared.kinds.ExprId.{ExprId}
use Rattle.program_model.specs.declared.kinds.VType.TheVariants as types
use Rattle.program_model.specs.declared.kinds.StmtId.{StmtId}
use Rattle.program_model.specs.declared.tree.Body.{Body}
use Rattle.program_model.specs.declared.tree.TExpr.{TExpr}
use Rattle.program_model.specs.declared.tree.TStmt.{TStmt}
use Rattle.program_model.specs.declared.tree.Var.{Var}
use Rattle.program_model.specs.Heads.{AgreeOnInitializers, initialized_fields, is_head, is_super_call}
use Rattle.program_model.specs.Hierarchy.{itself}
use Rattle.program_model.specs.Lookups.{body_at, expression_at, statement_at}
use Rattle.program_model.specs.Trees.{IsForest, expression_children, statement_children}
use Rattle.program_model.specs.Typing.{IsDeclarable, IsDeclarator}
use Rattle.program_model.specs.Validity.{IsOrderedBody, IsValidBody, IsValidExpression, IsValidStatement}
use Rattle.safety_examples.specs.CarefulPrograms.{expression_number, socket, statement_number}
use Rattle.safety_examples.specs.ThrowingPrograms.{throwing, main_variables, socket_declarator, running, shut_variables, shutting}
use Rattle.safety_examples.proofs.Hierarchy.{increasing}
use Rattle.safety_examples.proofs.Tests.{all_none, all_of, holds_at}

other_number : (c d : ClassId) → c ≡ d → c.0 ≡ d.0
other_number c d same = ap (λ (x : ClassId). x.0) same

pub socket_declarable : IsDeclarable throwing (types.Obj socket)
socket_declarable = (lit< tt, λ same. absurd (let wrong : 12 ≡ 1 = other_number _ _ same in omega arith))

-- ---- `shut`

shut_parent : (k : ℕ) → k < 2 → count_by (λ j. nat_eq j k) (expression_children shutting) ≡ 1
shut_parent zero within = refl
shut_parent (suc zero) within = refl
shut_parent (suc (suc k)) within = absurd (omega arith)

shut_block : (k : ℕ) → k < 1 → count_by (λ j. nat_eq j k) (statement_children shutting) ≡ 1
shut_block zero within = refl
shut_block (suc k) within = absurd (omega arith)

shut_forest : IsForest shutting
shut_forest = record {
  small = lit< tt;
  short = lit< tt;
  own = all_of (λ (s : StmtId). s.0 < 1) (statement_number 0 ∷ []) (lit< tt, tt);
  one_parent = shut_parent;
  one_block = shut_block;
}

shut_statements : (s : StmtId) (x : TStmt) → statement_at shutting s ≡ Some x → IsValidStatement throwing shutting s x
shut_statements s x at =
    holds_at (λ i (y : TStmt). IsValidStatement throwing shutting (statement_number i) y) shutting.statements.items s.0 x (
      record {
        parts = (all_none (λ (t : StmtId). t.0 < 0), all_of (λ (e : ExprId). e.0 < 2) (expression_number 1 ∷ []) (lit< tt, tt));
        headless = all_none (λ t. is_head shutting t ≡ false);
        typed = tt;
      },
      tt,
    ) at

shut_expressions : (e : ExprId) (x : TExpr) → expression_at shutting e ≡ Some x → IsValidExpression throwing shutting e x
shut_expressions e x at =
    holds_at (λ i (y : TExpr). IsValidExpression throwing shutting (expression_number i) y) shutting.expressions.items e.0 x
    (record { operands = all_none (λ (o : ExprId). o.0 < 0); typed = refl }, (record { operands = all_of (λ (o : ExprId). o.0 < 1) (expression_number 0 ∷ []) (lit< tt, tt); typed = ((refl, refl, itself socket), tt, refl) }, tt)) at

shut_valid : IsValidBody throwing (record { 0 = 0 }) shutting
shut_valid = record {
  method = (refl, (refl, tt));
  variables = all_of (λ (x : Var). IsDeclarable throwing x.vtype) shut_variables (socket_declarable, tt);
  forest = shut_forest;
  heads = all_none (λ t. is_head shutting t ≡ false);
  super_call = all_none (λ t. is_super_call shutting t ≡ false);
  statements = shut_statements;
  expressions = shut_expressions;
}

-- ---- `main`

main_parent : (k : ℕ) → k < 3 → count_by (λ j. nat_eq j k) (expression_children running) ≡ 1
main_parent zero within = refl
main_parent (suc zero) within = refl
main_parent (suc (suc zero)) within = refl
main_parent (suc (suc (suc k))) within = absurd (omega arith)

main_block : (k : ℕ) → k < 2 → count_by (λ j. nat_eq j k) (statement_children running) ≡ 1
main_block zero within = refl
main_block (suc zero) within = refl
main_block (suc (suc k)) within = absurd (omega arith)

main_forest : IsForest running
main_forest = record {
  small = lit< tt;
  short = lit< tt;
  own = all_of (λ (s : StmtId). s.0 < 2) (statement_number 0 ∷ statement_number 1 ∷ []) (lit< tt, (lit< tt, tt));
  one_parent = main_parent;
  one_block = main_block;
}

main_statements : (s : StmtId) (x : TStmt) → statement_at running s ≡ Some x → IsValidStatement throwing running s x
main_statements s x at =
    holds_at (λ i (y : TStmt). IsValidStatement throwing running (statement_number i) y) running.statements.items s.0 x (
      record {
        parts = (all_none (λ (t : StmtId). t.0 < 0), all_of (λ (e : ExprId). e.0 < 3) (expression_number 0 ∷ []) (lit< tt, tt));
        headless = all_none (λ t. is_head running t ≡ false);
        typed = all_of (IsDeclarator throwing running) (socket_declarator ∷ []) (inr (itself socket), tt);
      },
      (
        record {
          parts = (all_none (λ (t : StmtId). t.0 < 1), all_of (λ (e : ExprId). e.0 < 3) (expression_number 2 ∷ []) (lit< tt, tt));
          headless = all_none (λ t. is_head running t ≡ false);
          typed = tt;
        },
        tt,
      ),
    ) at

main_expressions : (e : ExprId) (x : TExpr) → expression_at running e ≡ Some x → IsValidExpression throwing running e x
main_expressions e x at =
    holds_at (λ i (y : TExpr). IsValidExpression throwing running (expression_number i) y) running.expressions.items e.0 x
    (record { operands = all_none (λ (o : ExprId). o.0 < 0); typed = ((refl, refl, tt), refl, refl, refl) }, (record { operands = all_none (λ (o : ExprId). o.0 < 1); typed = refl }, (record { operands = all_of (λ (o : ExprId). o.0 < 2) (expression_number 1 ∷ []) (lit< tt, tt); typed = (refl, (inr (itself socket), tt), refl) }, tt))) at

main_valid : IsValidBody throwing (record { 0 = 1 }) running
main_valid = record {
  method = (refl, (refl, tt));
  variables = all_of (λ (x : Var). IsDeclarable throwing x.vtype) main_variables (tt, (socket_declarable, tt));
  forest = main_forest;
  heads = all_of (λ t. is_head running t ≡ false) (statement_number 1 ∷ []) (refl, tt);
  super_call = all_of (λ t. is_super_call running t ≡ false) (statement_number 1 ∷ []) (refl, tt);
  statements = main_statements;
  expressions = main_expressions;
}

-- ---- both bodies

pub valid_bodies : (b : BodyId) (x : Body) → body_at throwing b ≡ Some x → IsValidBody throwing b x
valid_bodies b x at = holds_at (λ i (y : Body). IsValidBody throwing (record { 0 = i }) y) throwing.bodies.items b.0 x (shut_valid, (main_valid, tt)) at

pub ordered_bodies : (b : BodyId) (x : Body) → body_at throwing b ≡ Some x → IsOrderedBody throwing x
ordered_bodies b x at =
    holds_at (λ i (y : Body). IsOrderedBody throwing y) throwing.bodies.items b.0 x (
      record { variables = refl; jumps = refl; super_call = refl; initializers = increasing [] refl },
      (record { variables = (refl, refl); jumps = refl; super_call = refl; initializers = increasing [] refl }, tt),
    ) at

-- no body runs an initialiser
initializes_nothing : (b : BodyId) (x : Body) → body_at throwing b ≡ Some x → initialized_fields x ≡ []
initializes_nothing b x at = holds_at (λ i (y : Body). initialized_fields y ≡ []) throwing.bodies.items b.0 x (refl, (refl, tt)) at

pub same_initializers : (b : BodyId) (x : Body) → body_at throwing b ≡ Some x → (c : BodyId) (y : Body) → body_at throwing c ≡ Some y → AgreeOnInitializers throwing x y
same_initializers b x at c y other k is same = initializes_nothing b x at ∙ sym (initializes_nothing c y other)
