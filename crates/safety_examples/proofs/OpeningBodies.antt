-- The bodies of the program are typed trees.
use Rattle.std.proofs.Common.{◌≡◌, ◌<◌, ℕ, zero, suc, refl, ap, sym, false, ◌∙◌, Some, [], ◌∷◌, count_by, nat_eq, lit<, arith, inl, inr}
use Rattle.program_model.specs.declared.kinds.BodyId.{BodyId}
use Rattle.program_model.specs.declared.kinds.ClassId.{ClassId}
use Rattle.program_model.specs.declared.kinds.ExprId.{ExprId}
use Rattle.program_model.specs.declared.kinds.VType.TheVariants as types
use Rattle.program_model.specs.declared.kinds.StmtId.{StmtId}
use Rattle.program_model.specs.declared.tree.Body.{Body}
use Rattle.program_model.specs.declared.tree.TExpr.{TExpr}
use Rattle.program_model.specs.declared.tree.TStmt.{TStmt}
use Rattle.program_model.specs.declared.tree.Var.{Var}
use Rattle.program_model.specs.Heads.{AgreeOnInitializers, initialized_fields, is_head, is_super_call}
use Rattle.program_model.specs.Hierarchy.{itself}
use Rattle.program_model.specs.Lookups.{body_at, expression_at, statement_at}
use Rattle.program_model.specs.Trees.{IsForest, expression_children, statement_children}
use Rattle.program_model.specs.Typing.{IsDeclarable, IsDeclarator}
use Rattle.program_model.specs.Validity.{IsOrderedBody, IsValidBody, IsValidExpression, IsValidStatement}
use Rattle.safety_examples.specs.CarefulPrograms.{expression_number, statement_number}
use Rattle.safety_examples.specs.OpeningPrograms.{constructing, opening, running}
use Rattle.safety_examples.specs.ReplacingPrograms.{closing, holder_declarator, main_variables, reopens}
use Rattle.safety_examples.specs.OwnerPrograms.{holder, resource}
use Rattle.safety_examples.proofs.Hierarchy.{increasing}
use Rattle.safety_examples.proofs.Tests.{all_none, all_of, holds_at}

pub other_number : (c d : ClassId) → c ≡ d → c.0 ≡ d.0
other_number c d same = ap (λ (x : ClassId). x.0) same

pub resource_declarable : IsDeclarable opening (types.Obj resource)
resource_declarable = (lit< tt, λ same. absurd (let wrong : 11 ≡ 1 = other_number _ _ same in omega arith))

holder_declarable : IsDeclarable opening (types.Obj holder)
holder_declarable = (lit< tt, λ same. absurd (let wrong : 12 ≡ 1 = other_number _ _ same in omega arith))

-- ---- the constructor

constructor_parent : (k : ℕ) → k < 5 → count_by (λ j. nat_eq j k) (expression_children constructing) ≡ 1
constructor_parent zero within = refl
constructor_parent (suc zero) within = refl
constructor_parent (suc (suc zero)) within = refl
constructor_parent (suc (suc (suc zero))) within = refl
constructor_parent (suc (suc (suc (suc zero)))) within = refl
constructor_parent (suc (suc (suc (suc (suc k))))) within = absurd (omega arith)

constructor_block : (k : ℕ) → k < 2 → count_by (λ j. nat_eq j k) (statement_children constructing) ≡ 1
constructor_block zero within = refl
constructor_block (suc zero) within = refl
constructor_block (suc (suc k)) within = absurd (omega arith)

constructor_forest : IsForest constructing
constructor_forest = record {
  small = lit< tt;
  short = lit< tt;
  own = all_of (λ (s : StmtId). s.0 < 2) (statement_number 0 ∷ statement_number 1 ∷ []) (lit< tt, (lit< tt, tt));
  one_parent = constructor_parent;
  one_block = constructor_block;
}

constructor_statements : (s : StmtId) (x : TStmt) → statement_at constructing s ≡ Some x → IsValidStatement opening constructing s x
constructor_statements s x at =
    holds_at (λ i (y : TStmt). IsValidStatement opening constructing (statement_number i) y) constructing.statements.items s.0 x (
      record { parts = (all_none (λ (t : StmtId). t.0 < 0), all_of (λ (e : ExprId). e.0 < 5) (expression_number 2 ∷ []) (lit< tt, tt)); headless = all_none (λ t. is_head constructing t ≡ false); typed = tt },
      (record { parts = (all_none (λ (t : StmtId). t.0 < 1), all_of (λ (e : ExprId). e.0 < 5) (expression_number 4 ∷ []) (lit< tt, tt)); headless = all_none (λ t. is_head constructing t ≡ false); typed = tt }, tt),
    ) at

constructor_typed : (e : ExprId) (x : TExpr) → expression_at constructing e ≡ Some x → IsValidExpression opening constructing e x
constructor_typed e x at =
    holds_at (λ i (y : TExpr). IsValidExpression opening constructing (expression_number i) y) constructing.expressions.items e.0 x
    (record { operands = all_none (λ (o : ExprId). o.0 < 0); typed = (refl, inr refl) }, (record { operands = all_none (λ (o : ExprId). o.0 < 1); typed = ((refl, refl, tt), refl, refl, refl) }, (record { operands = all_of (λ (o : ExprId). o.0 < 2) (expression_number 0 ∷ expression_number 1 ∷ []) (lit< tt, (lit< tt, tt)); typed = ((refl, refl, itself holder), inr (itself resource)) }, (record { operands = all_none (λ (o : ExprId). o.0 < 3); typed = (refl, inr refl) }, (record { operands = all_of (λ (o : ExprId). o.0 < 4) (expression_number 3 ∷ []) (lit< tt, tt); typed = ((refl, refl, itself holder), tt, refl) }, tt))))) at

constructor_valid : IsValidBody opening (record { 0 = 0 }) constructing
constructor_valid = record {
  method = (refl, tt);
  variables = all_none (λ (x : Var). IsDeclarable opening x.vtype);
  forest = constructor_forest;
  heads = all_of (λ t. is_head constructing t ≡ false) (statement_number 1 ∷ []) (refl, tt);
  super_call = all_of (λ t. is_super_call constructing t ≡ false) (statement_number 1 ∷ []) (refl, tt);
  statements = constructor_statements;
  expressions = constructor_typed;
}

-- ---- `reopen`

reopen_parent : (k : ℕ) → k < 6 → count_by (λ j. nat_eq j k) (expression_children reopens) ≡ 1
reopen_parent zero within = refl
reopen_parent (suc zero) within = refl
reopen_parent (suc (suc zero)) within = refl
reopen_parent (suc (suc (suc zero))) within = refl
reopen_parent (suc (suc (suc (suc zero)))) within = refl
reopen_parent (suc (suc (suc (suc (suc zero))))) within = refl
reopen_parent (suc (suc (suc (suc (suc (suc k)))))) within = absurd (omega arith)

reopen_block : (k : ℕ) → k < 2 → count_by (λ j. nat_eq j k) (statement_children reopens) ≡ 1
reopen_block zero within = refl
reopen_block (suc zero) within = refl
reopen_block (suc (suc k)) within = absurd (omega arith)

reopen_forest : IsForest reopens
reopen_forest = record {
  small = lit< tt;
  short = lit< tt;
  own = all_of (λ (s : StmtId). s.0 < 2) (statement_number 0 ∷ statement_number 1 ∷ []) (lit< tt, (lit< tt, tt));
  one_parent = reopen_parent;
  one_block = reopen_block;
}

reopen_statements : (s : StmtId) (x : TStmt) → statement_at reopens s ≡ Some x → IsValidStatement opening reopens s x
reopen_statements s x at =
    holds_at (λ i (y : TStmt). IsValidStatement opening reopens (statement_number i) y) reopens.statements.items s.0 x (
      record { parts = (all_none (λ (t : StmtId). t.0 < 0), all_of (λ (e : ExprId). e.0 < 6) (expression_number 2 ∷ []) (lit< tt, tt)); headless = all_none (λ t. is_head reopens t ≡ false); typed = tt },
      (record { parts = (all_none (λ (t : StmtId). t.0 < 1), all_of (λ (e : ExprId). e.0 < 6) (expression_number 5 ∷ []) (lit< tt, tt)); headless = all_none (λ t. is_head reopens t ≡ false); typed = tt }, tt),
    ) at

reopen_typed : (e : ExprId) (x : TExpr) → expression_at reopens e ≡ Some x → IsValidExpression opening reopens e x
reopen_typed e x at =
    holds_at (λ i (y : TExpr). IsValidExpression opening reopens (expression_number i) y) reopens.expressions.items e.0 x
    (record { operands = all_none (λ (o : ExprId). o.0 < 0); typed = (refl, inl refl) }, (record { operands = all_of (λ (o : ExprId). o.0 < 1) (expression_number 0 ∷ []) (lit< tt, tt); typed = (refl, refl, itself holder) }, (record { operands = all_of (λ (o : ExprId). o.0 < 2) (expression_number 1 ∷ []) (lit< tt, tt); typed = ((refl, refl, itself resource), tt, refl) }, (record { operands = all_none (λ (o : ExprId). o.0 < 3); typed = (refl, inl refl) }, (record { operands = all_none (λ (o : ExprId). o.0 < 4); typed = ((refl, refl, tt), refl, refl, refl) }, (record { operands = all_of (λ (o : ExprId). o.0 < 5) (expression_number 3 ∷ expression_number 4 ∷ []) (lit< tt, (lit< tt, tt)); typed = ((refl, refl, itself holder), inr (itself resource)) }, tt)))))) at

reopen_valid : IsValidBody opening (record { 0 = 1 }) reopens
reopen_valid = record {
  method = (refl, tt);
  variables = all_none (λ (x : Var). IsDeclarable opening x.vtype);
  forest = reopen_forest;
  heads = all_of (λ t. is_head reopens t ≡ false) (statement_number 1 ∷ []) (refl, tt);
  super_call = all_of (λ t. is_super_call reopens t ≡ false) (statement_number 1 ∷ []) (refl, tt);
  statements = reopen_statements;
  expressions = reopen_typed;
}

-- ---- `close`

close_parent : (k : ℕ) → k < 3 → count_by (λ j. nat_eq j k) (expression_children closing) ≡ 1
close_parent zero within = refl
close_parent (suc zero) within = refl
close_parent (suc (suc zero)) within = refl
close_parent (suc (suc (suc k))) within = absurd (omega arith)

close_block : (k : ℕ) → k < 1 → count_by (λ j. nat_eq j k) (statement_children closing) ≡ 1
close_block zero within = refl
close_block (suc k) within = absurd (omega arith)

close_forest : IsForest closing
close_forest = record {
  small = lit< tt;
  short = lit< tt;
  own = all_of (λ (s : StmtId). s.0 < 1) (statement_number 0 ∷ []) (lit< tt, tt);
  one_parent = close_parent;
  one_block = close_block;
}

close_statements : (s : StmtId) (x : TStmt) → statement_at closing s ≡ Some x → IsValidStatement opening closing s x
close_statements s x at =
    holds_at (λ i (y : TStmt). IsValidStatement opening closing (statement_number i) y) closing.statements.items s.0 x (
      record { parts = (all_none (λ (t : StmtId). t.0 < 0), all_of (λ (e : ExprId). e.0 < 3) (expression_number 2 ∷ []) (lit< tt, tt)); headless = all_none (λ t. is_head closing t ≡ false); typed = tt },
      tt,
    ) at

close_typed : (e : ExprId) (x : TExpr) → expression_at closing e ≡ Some x → IsValidExpression opening closing e x
close_typed e x at =
    holds_at (λ i (y : TExpr). IsValidExpression opening closing (expression_number i) y) closing.expressions.items e.0 x
    (record { operands = all_none (λ (o : ExprId). o.0 < 0); typed = (refl, inl refl) }, (record { operands = all_of (λ (o : ExprId). o.0 < 1) (expression_number 0 ∷ []) (lit< tt, tt); typed = (refl, refl, itself holder) }, (record { operands = all_of (λ (o : ExprId). o.0 < 2) (expression_number 1 ∷ []) (lit< tt, tt); typed = ((refl, refl, itself resource), tt, refl) }, tt))) at

close_valid : IsValidBody opening (record { 0 = 2 }) closing
close_valid = record {
  method = (refl, tt);
  variables = all_none (λ (x : Var). IsDeclarable opening x.vtype);
  forest = close_forest;
  heads = all_none (λ t. is_head closing t ≡ false);
  super_call = all_none (λ t. is_super_call closing t ≡ false);
  statements = close_statements;
  expressions = close_typed;
}

-- ---- `main`

main_parent : (k : ℕ) → k < 3 → count_by (λ j. nat_eq j k) (expression_children running) ≡ 1
main_parent zero within = refl
main_parent (suc zero) within = refl
main_parent (suc (suc zero)) within = refl
main_parent (suc (suc (suc k))) within = absurd (omega arith)

main_block : (k : ℕ) → k < 2 → count_by (λ j. nat_eq j k) (statement_children running) ≡ 1
main_block zero within = refl
main_block (suc zero) within = refl
main_block (suc (suc k)) within = absurd (omega arith)

main_forest : IsForest running
main_forest = record {
  small = lit< tt;
  short = lit< tt;
  own = all_of (λ (s : StmtId). s.0 < 2) (statement_number 0 ∷ statement_number 1 ∷ []) (lit< tt, (lit< tt, tt));
  one_parent = main_parent;
  one_block = main_block;
}

main_statements : (s : StmtId) (x : TStmt) → statement_at running s ≡ Some x → IsValidStatement opening running s x
main_statements s x at =
    holds_at (λ i (y : TStmt). IsValidStatement opening running (statement_number i) y) running.statements.items s.0 x (
      record { parts = (all_none (λ (t : StmtId). t.0 < 0), all_of (λ (e : ExprId). e.0 < 3) (expression_number 0 ∷ []) (lit< tt, tt)); headless = all_none (λ t. is_head running t ≡ false); typed = all_of (IsDeclarator opening running) (holder_declarator ∷ []) (inr (itself holder), tt) },
      (record { parts = (all_none (λ (t : StmtId). t.0 < 1), all_of (λ (e : ExprId). e.0 < 3) (expression_number 2 ∷ []) (lit< tt, tt)); headless = all_none (λ t. is_head running t ≡ false); typed = tt }, tt),
    ) at

main_typed : (e : ExprId) (x : TExpr) → expression_at running e ≡ Some x → IsValidExpression opening running e x
main_typed e x at =
    holds_at (λ i (y : TExpr). IsValidExpression opening running (expression_number i) y) running.expressions.items e.0 x
    (record { operands = all_none (λ (o : ExprId). o.0 < 0); typed = ((refl, refl, tt), refl, refl, refl) }, (record { operands = all_none (λ (o : ExprId). o.0 < 1); typed = refl }, (record { operands = all_of (λ (o : ExprId). o.0 < 2) (expression_number 1 ∷ []) (lit< tt, tt); typed = ((refl, refl, itself holder), tt, refl) }, tt))) at

main_valid : IsValidBody opening (record { 0 = 3 }) running
main_valid = record {
  method = (refl, (refl, tt));
  variables = all_of (λ (x : Var). IsDeclarable opening x.vtype) main_variables (tt, (holder_declarable, tt));
  forest = main_forest;
  heads = all_of (λ t. is_head running t ≡ false) (statement_number 1 ∷ []) (refl, tt);
  super_call = all_of (λ t. is_super_call running t ≡ false) (statement_number 1 ∷ []) (refl, tt);
  statements = main_statements;
  expressions = main_typed;
}

-- ---- all bodies

pub valid_bodies : (b : BodyId) (x : Body) → body_at opening b ≡ Some x → IsValidBody opening b x
valid_bodies b x at = holds_at (λ i (y : Body). IsValidBody opening (record { 0 = i }) y) opening.bodies.items b.0 x (constructor_valid, (reopen_valid, (close_valid, (main_valid, tt)))) at

pub ordered_bodies : (b : BodyId) (x : Body) → body_at opening b ≡ Some x → IsOrderedBody opening x
ordered_bodies b x at =
    holds_at (λ i (y : Body). IsOrderedBody opening y) opening.bodies.items b.0 x
    (record { variables = refl; jumps = refl; super_call = refl; initializers = increasing [] refl }, (record { variables = refl; jumps = refl; super_call = refl; initializers = increasing [] refl }, (record { variables = refl; jumps = refl; super_call = refl; initializers = increasing [] refl }, (record { variables = (refl, refl); jumps = refl; super_call = refl; initializers = increasing [] refl }, tt)))) at

-- no body runs an initialiser
initializes_nothing : (b : BodyId) (x : Body) → body_at opening b ≡ Some x → initialized_fields x ≡ []
initializes_nothing b x at = holds_at (λ i (y : Body). initialized_fields y ≡ []) opening.bodies.items b.0 x (refl, (refl, (refl, (refl, tt)))) at

pub same_initializers : (b : BodyId) (x : Body) → body_at opening b ≡ Some x → (c : BodyId) (y : Body) → body_at opening c ≡ Some y → AgreeOnInitializers opening x y
same_initializers b x at c y other k is same = initializes_nothing b x at ∙ sym (initializes_nothing c y other)
