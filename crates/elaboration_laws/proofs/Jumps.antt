-- Each `break` and `continue` of a body stands within a loop where those of its typed statements do.
use Rattle.std.proofs.Common.{◌≡◌, ◌∙◌, ap, ap₂, refl, arith, ℕ, zero, suc, ◌≤◌, false, ◌||◌, ◌&&◌, List, length}
use Rattle.std.specs.Prelude.{not}
use Rattle.std.specs.List.{list_any}
use Rattle.program_model.specs.declared.kinds.StmtId.{StmtId}
use Rattle.program_model.specs.declared.tree.Body.{Body}
use Rattle.program_model.specs.declared.tree.StatementKind.{StatementKind}
use Rattle.program_model.specs.declared.tree.StatementKind.TheVariants as kinds
use Rattle.program_model.specs.Jumps.{HasJumpsInLoops, has_free_jump, has_free_jump_at, is_jump, is_loop}
use Rattle.program_model.specs.Trees.{statements_in}
use Rattle.java_typed_trees.specs.StatementTrees.{StmtTree, StmtTrees, Statement, no_statement, and_statement}
use Rattle.java_typing_laws.specs.Bodies.{IsLaid}
use Rattle.java_typing_laws.specs.StatementCells.{form_in}
use Rattle.java_typing_laws.specs.StatementFlat.{statement_size, statement_sizes}
use Rattle.java_elaboration.proofs.BodyLaws.{count_of_statements, has_statements}
use Rattle.elaboration_laws.specs.OrderedTrees.{has_free_jump_within, have_free_jump, is_jump_form, is_loop_form}
use Rattle.elaboration_laws.proofs.Stands.{StandIn, StandsIn, statement_stands}

jump_of_kind : (k : StatementKind) → is_jump k ≡ is_jump_form (form_in k)
jump_of_kind kinds.Break = refl
jump_of_kind k = refl

loop_of_kind : (k : StatementKind) → is_loop k ≡ is_loop_form (form_in k)
loop_of_kind kinds.Break = refl
loop_of_kind k = refl

mutual
  free_jump_stands : (depth : ℕ) (b : Body) (s : StmtId) (t : StmtTree) → StandsIn b s t → statement_size t ≤ depth → has_free_jump depth b s ≡ has_free_jump_within t
  free_jump_stands zero b s (Statement f p es ss) stand deep = absurd (omega (arith, deep))
  free_jump_stands (suc depth) b s (Statement f p es ss) (ids, inner, here, values, parts) deep =
      let x = statement_stands b s f p ids inner here in
      let k : StatementKind = x.statement.kind in
      let jump : is_jump k ≡ is_jump_form f = jump_of_kind k ∙ ap is_jump_form x.form in
      let loop : is_loop k ≡ is_loop_form f = loop_of_kind k ∙ ap is_loop_form x.form in
      let within : list_any (has_free_jump depth b) (statements_in k) ≡ have_free_jump ss = ap (list_any (has_free_jump depth b)) x.statements ∙ free_jumps_stand depth b inner ss parts (omega (arith, deep)) in
      ap (has_free_jump_at (has_free_jump depth b)) x.at
      ∙ ap (λ a. a || (not (is_loop k) && list_any (has_free_jump depth b) (statements_in k))) jump
      ∙ ap (λ a. is_jump_form f || (not a && list_any (has_free_jump depth b) (statements_in k))) loop
      ∙ ap (λ a. is_jump_form f || (not (is_loop_form f) && a)) within

  free_jumps_stand : (depth : ℕ) (b : Body) (ids : List StmtId) (ts : StmtTrees) → StandIn b ids ts → statement_sizes ts ≤ depth → list_any (has_free_jump depth b) ids ≡ have_free_jump ts
  free_jumps_stand depth b ids no_statement is deep = ap (list_any (has_free_jump depth b)) is
  free_jumps_stand depth b ids (and_statement t ts) (first, more, is, one, rest) deep =
      ap (list_any (has_free_jump depth b)) is
      ∙ ap₂ (λ a c. a || c) (free_jump_stands depth b first t one (omega (arith, deep))) (free_jumps_stand depth b more ts rest (omega (arith, deep)))

pub jumps_in_loops : (b : Body) (ts : StmtTrees) → IsLaid b ts → have_free_jump ts ≡ false → HasJumpsInLoops b
jumps_in_loops b ts laid none =
    let counted = count_of_statements b ts laid in
    free_jumps_stand (length b.statements.items) b b.stmts.items ts (has_statements b ts laid) (omega (arith, counted)) ∙ none
