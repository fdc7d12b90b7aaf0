-- No scope that ends empties the variable, and no catch clause takes an exception into it, where the statements declare others.
use Rattle.std.proofs.Common.{◌≡◌, ℕ, Bool, true, false, ◌||◌, nat_eq, Option, Some, None, List, [], ◌∷◌, ◌++◌, flat_map, refl}
use Rattle.std.specs.List.{list_any}
use Rattle.program_model.specs.declared.kinds.StmtId.{StmtId}
use Rattle.program_model.specs.declared.tree.Body.{Body}
use Rattle.program_model.specs.declared.tree.CatchClause.{CatchClause}
use Rattle.program_model.specs.declared.tree.Declarator.{Declarator}
use Rattle.program_model.specs.declared.tree.ForInitial.{ForInitial}
use Rattle.program_model.specs.declared.tree.ForInitial.TheVariants as initials
use Rattle.program_model.specs.declared.tree.StatementKind.{StatementKind}
use Rattle.program_model.specs.declared.tree.StatementKind.TheVariants as statements
use Rattle.program_model.specs.declared.tree.TStmt.{TStmt}
use Rattle.program_model.specs.declared.tree.TextPart.TheVariants.{Statement}
use Rattle.program_model.specs.Lookups.{statement_at}
use Rattle.program_model.specs.TextOrder.{clause_parts, declarator_parts, initial_parts, text_parts}
use Rattle.java_control.specs.Exceptions.{clauses_in, clauses_of_kind}
use Rattle.java_control.specs.Scopes.{declares, declares_at, declares_directly, declares_directly_at, drops_variable, head_declares, is_named}
use Rattle.control_actions.specs.declared.action.Scope.TheVariants as scopes
use Rattle.step_laws.proofs.Declared.{AreOtherParts, clause_parts_in, final_parts, parts_first, parts_second, resource_parts}

abbrev pub AreOtherClauses : ℕ → List CatchClause → Type 0
AreOtherClauses v [] = Unit {0}
AreOtherClauses v (c ∷ cs) = (nat_eq c.variable v ≡ false) × AreOtherClauses v cs

both_false : (x y : Bool) → x ≡ false → y ≡ false → (x || y) ≡ false
both_false true y first second = first
both_false false y first second = second

not_named : (v : ℕ) (names : List Declarator) → AreOtherParts v (declarator_parts names) → is_named v names ≡ false
not_named v [] others = refl
not_named v (x ∷ names) others = both_false (nat_eq x.variable v) (is_named v names) others.0 (not_named v names others.1)

not_in_head : (v : ℕ) (x : ForInitial) → AreOtherParts v (initial_parts x) → head_declares v x ≡ false
not_in_head v (initials.Declaration names) others = not_named v names.items others
not_in_head v (initials.Expressions es) others = refl

not_declared : (v : ℕ) (k : StatementKind) → AreOtherParts v (text_parts k) → declares v k ≡ false
not_declared v (statements.Block ss end) others = refl
not_declared v (statements.LocalDeclaration names) others = not_named v names.items others
not_declared v k others = refl

clauses_of_parts : (v : ℕ) (cs : List CatchClause) → AreOtherParts v (flat_map clause_parts cs) → AreOtherClauses v cs
clauses_of_parts v [] others = tt
clauses_of_parts v (c ∷ cs) others = (others.0, clauses_of_parts v cs others.1.1)

clauses_of : (v : ℕ) (k : StatementKind) → AreOtherParts v (text_parts k) → AreOtherClauses v (clauses_of_kind k)
clauses_of v (statements.Block ss end) others = tt
clauses_of v (statements.Try t) others =
    clauses_of_parts v t.catches.items (parts_second v (resource_parts t) (clause_parts_in t) (parts_first v (resource_parts t ++ clause_parts_in t) (final_parts t) others)).1
clauses_of v k others = tt

module _ (b : Body) (v : ℕ) (others : (s : StmtId) (y : TStmt) → statement_at b s ≡ Some y → AreOtherParts v (text_parts y.kind)) where
  not_declared_at : (s : StmtId) → declares_at v (statement_at b s) ≡ false
  not_declared_at s = go (statement_at b s) refl
    where
      go : (y : Option TStmt) → statement_at b s ≡ y → declares_at v y ≡ false
      go None at = refl
      go (Some y) at = not_declared v y.kind (others s y at)

  none_declared : (ss : List StmtId) → list_any (λ s. declares_at v (statement_at b s)) ss ≡ false
  none_declared [] = refl
  none_declared (s ∷ ss) = both_false (declares_at v (statement_at b s)) (list_any (λ t. declares_at v (statement_at b t)) ss) (not_declared_at s) (none_declared ss)

  not_directly : (k : StatementKind) → AreOtherParts v (text_parts k) → declares_directly b v k ≡ false
  not_directly (statements.Block ss end) parts = none_declared ss.items
  not_directly (statements.For l) parts = not_in_head v l.initial (parts_first v (initial_parts l.initial) (Statement l.body ∷ []) parts)
  not_directly k parts = refl

  pub not_dropped : (s : StmtId) → drops_variable b (scopes.Declared s) v ≡ false
  not_dropped s = go (statement_at b s) refl
    where
      go : (y : Option TStmt) → statement_at b s ≡ y → declares_directly_at b v y ≡ false
      go None at = refl
      go (Some y) at = not_directly y.kind (others s y at)

  pub clauses_at : (s : StmtId) → AreOtherClauses v (clauses_in (statement_at b s))
  clauses_at s = go (statement_at b s) refl
    where
      go : (y : Option TStmt) → statement_at b s ≡ y → AreOtherClauses v (clauses_in y)
      go None at = tt
      go (Some y) at = clauses_of v y.kind (others s y at)
