-- The bodies of the program are typed trees.
use Rattle.std.proofs.Common.{◌≡◌, ◌<◌, ℕ, zero, suc, refl, ap, sym, false, ◌∙◌, Some, [], ◌∷◌, count_by, nat_eq, lit<, arith, inr}
use Rattle.program_model.specs.declared.kinds.BodyId.{BodyId}
use Rattle.program_model.specs.declared.kinds.ClassId.{ClassId}
use Rattle.program_model.specs.declared.kinds.ExprId.{ExprId}
use Rattle.program_model.specs.declared.kinds.VType.TheVariants as types
use Rattle.program_model.specs.declared.kinds.StmtId.{StmtId}
use Rattle.program_model.specs.declared.tree.Body.{Body}
use Rattle.program_model.specs.declared.tree.TExpr.{TExpr}
use Rattle.program_model.specs.declared.tree.TStmt.{TStmt}
use Rattle.program_model.specs.declared.tree.Var.{Var}
use Rattle.program_model.specs.Heads.{AgreeOnInitializers, initialized_fields, is_head, is_super_call}
use Rattle.program_model.specs.Hierarchy.{itself}
use Rattle.program_model.specs.Lookups.{body_at, expression_at, statement_at}
use Rattle.program_model.specs.Trees.{IsForest, expression_children, statement_children}
use Rattle.program_model.specs.Typing.{IsDeclarable, IsDeclarator}
use Rattle.program_model.specs.Validity.{IsOrderedBody, IsValidBody, IsValidExpression, IsValidStatement}
use Rattle.safety_examples.specs.OwnerPrograms.{expression_number, statement_number}
use Rattle.safety_examples.specs.ResettingPrograms.{socket}
use Rattle.safety_examples.specs.ReopeningPrograms.{reopening, connecting, main_variables, reopen_variables, running, socket_declarator}
use Rattle.safety_examples.proofs.Hierarchy.{increasing}
use Rattle.safety_examples.proofs.Tests.{all_none, all_of, holds_at}

other_number : (c d : ClassId) → c ≡ d → c.0 ≡ d.0
other_number c d same = ap (λ (x : ClassId). x.0) same

pub socket_declarable : IsDeclarable reopening (types.Obj socket)
socket_declarable = (lit< tt, λ same. absurd (let wrong : 11 ≡ 1 = other_number _ _ same in omega arith))

-- ---- `reopen`

reopen_parent : (k : ℕ) → k < 2 → count_by (λ j. nat_eq j k) (expression_children connecting) ≡ 1
reopen_parent zero within = refl
reopen_parent (suc zero) within = refl
reopen_parent (suc (suc k)) within = absurd (omega arith)

reopen_block : (k : ℕ) → k < 1 → count_by (λ j. nat_eq j k) (statement_children connecting) ≡ 1
reopen_block zero within = refl
reopen_block (suc k) within = absurd (omega arith)

reopen_forest : IsForest connecting
reopen_forest = record {
  small = lit< tt;
  short = lit< tt;
  own = all_of (λ (s : StmtId). s.0 < 1) (statement_number 0 ∷ []) (lit< tt, tt);
  one_parent = reopen_parent;
  one_block = reopen_block;
}

reopen_statements : (s : StmtId) (x : TStmt) → statement_at connecting s ≡ Some x → IsValidStatement reopening connecting s x
reopen_statements s x at =
    holds_at (λ i (y : TStmt). IsValidStatement reopening connecting (statement_number i) y) connecting.statements.items s.0 x (
      record {
        parts = (all_none (λ (t : StmtId). t.0 < 0), all_of (λ (e : ExprId). e.0 < 2) (expression_number 1 ∷ []) (lit< tt, tt));
        headless = all_none (λ t. is_head connecting t ≡ false);
        typed = tt;
      },
      tt,
    ) at

reopen_expressions : (e : ExprId) (x : TExpr) → expression_at connecting e ≡ Some x → IsValidExpression reopening connecting e x
reopen_expressions e x at =
    holds_at (λ i (y : TExpr). IsValidExpression reopening connecting (expression_number i) y) connecting.expressions.items e.0 x
    (record { operands = all_none (λ (o : ExprId). o.0 < 0); typed = refl }, (record { operands = all_of (λ (o : ExprId). o.0 < 1) (expression_number 0 ∷ []) (lit< tt, tt); typed = ((refl, refl, itself socket), tt, refl) }, tt)) at

reopen_valid : IsValidBody reopening (record { 0 = 0 }) connecting
reopen_valid = record {
  method = (refl, (refl, tt));
  variables = all_of (λ (x : Var). IsDeclarable reopening x.vtype) reopen_variables (socket_declarable, tt);
  forest = reopen_forest;
  heads = all_none (λ t. is_head connecting t ≡ false);
  super_call = all_none (λ t. is_super_call connecting t ≡ false);
  statements = reopen_statements;
  expressions = reopen_expressions;
}

-- ---- `main`

main_parent : (k : ℕ) → k < 5 → count_by (λ j. nat_eq j k) (expression_children running) ≡ 1
main_parent zero within = refl
main_parent (suc zero) within = refl
main_parent (suc (suc zero)) within = refl
main_parent (suc (suc (suc zero))) within = refl
main_parent (suc (suc (suc (suc zero)))) within = refl
main_parent (suc (suc (suc (suc (suc k))))) within = absurd (omega arith)

main_block : (k : ℕ) → k < 3 → count_by (λ j. nat_eq j k) (statement_children running) ≡ 1
main_block zero within = refl
main_block (suc zero) within = refl
main_block (suc (suc zero)) within = refl
main_block (suc (suc (suc k))) within = absurd (omega arith)

main_forest : IsForest running
main_forest = record {
  small = lit< tt;
  short = lit< tt;
  own = all_of (λ (s : StmtId). s.0 < 3) (statement_number 0 ∷ statement_number 1 ∷ statement_number 2 ∷ []) (lit< tt, (lit< tt, (lit< tt, tt)));
  one_parent = main_parent;
  one_block = main_block;
}

main_statements : (s : StmtId) (x : TStmt) → statement_at running s ≡ Some x → IsValidStatement reopening running s x
main_statements s x at =
    holds_at (λ i (y : TStmt). IsValidStatement reopening running (statement_number i) y) running.statements.items s.0 x (
      record {
        parts = (all_none (λ (t : StmtId). t.0 < 0), all_of (λ (e : ExprId). e.0 < 5) (expression_number 0 ∷ []) (lit< tt, tt));
        headless = all_none (λ t. is_head running t ≡ false);
        typed = all_of (IsDeclarator reopening running) (socket_declarator ∷ []) (inr (itself socket), tt);
      },
      (
        record {
          parts = (all_none (λ (t : StmtId). t.0 < 1), all_of (λ (e : ExprId). e.0 < 5) (expression_number 2 ∷ []) (lit< tt, tt));
          headless = all_none (λ t. is_head running t ≡ false);
          typed = tt;
        },
        (
          record {
            parts = (all_none (λ (t : StmtId). t.0 < 2), all_of (λ (e : ExprId). e.0 < 5) (expression_number 4 ∷ []) (lit< tt, tt));
            headless = all_none (λ t. is_head running t ≡ false);
            typed = tt;
          },
          tt,
        ),
      ),
    ) at

main_expressions : (e : ExprId) (x : TExpr) → expression_at running e ≡ Some x → IsValidExpression reopening running e x
main_expressions e x at =
    holds_at (λ i (y : TExpr). IsValidExpression reopening running (expression_number i) y) running.expressions.items e.0 x
    (record { operands = all_none (λ (o : ExprId). o.0 < 0); typed = ((refl, refl, tt), refl, refl, refl) }, (record { operands = all_none (λ (o : ExprId). o.0 < 1); typed = refl }, (record { operands = all_of (λ (o : ExprId). o.0 < 2) (expression_number 1 ∷ []) (lit< tt, tt); typed = (refl, (inr (itself socket), tt), refl) }, (record { operands = all_none (λ (o : ExprId). o.0 < 3); typed = refl }, (record { operands = all_of (λ (o : ExprId). o.0 < 4) (expression_number 3 ∷ []) (lit< tt, tt); typed = ((refl, refl, itself socket), tt, refl) }, tt))))) at

main_valid : IsValidBody reopening (record { 0 = 1 }) running
main_valid = record {
  method = (refl, (refl, tt));
  variables = all_of (λ (x : Var). IsDeclarable reopening x.vtype) main_variables (tt, (socket_declarable, tt));
  forest = main_forest;
  heads = all_of (λ t. is_head running t ≡ false) (statement_number 1 ∷ statement_number 2 ∷ []) (refl, (refl, tt));
  super_call = all_of (λ t. is_super_call running t ≡ false) (statement_number 1 ∷ statement_number 2 ∷ []) (refl, (refl, tt));
  statements = main_statements;
  expressions = main_expressions;
}

-- ---- both bodies

pub valid_bodies : (b : BodyId) (x : Body) → body_at reopening b ≡ Some x → IsValidBody reopening b x
valid_bodies b x at = holds_at (λ i (y : Body). IsValidBody reopening (record { 0 = i }) y) reopening.bodies.items b.0 x (reopen_valid, (main_valid, tt)) at

pub ordered_bodies : (b : BodyId) (x : Body) → body_at reopening b ≡ Some x → IsOrderedBody reopening x
ordered_bodies b x at =
    holds_at (λ i (y : Body). IsOrderedBody reopening y) reopening.bodies.items b.0 x (
      record { variables = refl; jumps = refl; super_call = refl; initializers = increasing [] refl },
      (record { variables = (refl, refl); jumps = refl; super_call = refl; initializers = increasing [] refl }, tt),
    ) at

-- no body runs an initialiser
initializes_nothing : (b : BodyId) (x : Body) → body_at reopening b ≡ Some x → initialized_fields x ≡ []
initializes_nothing b x at = holds_at (λ i (y : Body). initialized_fields y ≡ []) reopening.bodies.items b.0 x (refl, (refl, tt)) at

pub same_initializers : (b : BodyId) (x : Body) → body_at reopening b ≡ Some x → (c : BodyId) (y : Body) → body_at reopening c ≡ Some y → AgreeOnInitializers reopening x y
same_initializers b x at c y other k is same = initializes_nothing b x at ∙ sym (initializes_nothing c y other)
