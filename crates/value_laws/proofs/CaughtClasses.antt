-- A catch clause takes exceptions alone that fit its parameter: each class that it names is under the parameter's type (JLS 14.20).
use Rattle.std.proofs.Common.{◌≡◌, arith, refl, subst, sym, true≢false, eqb-true, ℕ, zero, suc, ◌+◌, Bool, true, false, ◌||◌, Option, Some, None, List, [], ◌∷◌, cond, IsSomeAnd, slice_get}
use Rattle.std.specs.List.{All, list_any, position_from}
use Rattle.std.proofs.lemmas.List.Elements.{All-head, All-tail}
use Rattle.program_model.specs.declared.kinds.BodyId.{BodyId}
use Rattle.program_model.specs.declared.kinds.ClassId.{ClassId}
use Rattle.program_model.specs.declared.kinds.StmtId.{StmtId}
use Rattle.program_model.specs.declared.kinds.VType.{VType}
use Rattle.program_model.specs.declared.kinds.VType.TheVariants as types
use Rattle.program_model.specs.declared.program.Program.{Program}
use Rattle.program_model.specs.declared.tree.Body.{Body}
use Rattle.program_model.specs.declared.tree.CatchClause.{CatchClause}
use Rattle.program_model.specs.declared.tree.StatementKind.{StatementKind}
use Rattle.program_model.specs.declared.tree.StatementKind.TheVariants as statements
use Rattle.program_model.specs.declared.tree.TStmt.{TStmt}
use Rattle.program_model.specs.Hierarchy.{HasClass, IsUnder}
use Rattle.program_model.specs.Lookups.{body_at, statement_at, variable_type}
use Rattle.program_model.specs.SuperTests.{is_under}
use Rattle.program_model.specs.Typing.{IsAssignable, IsCatchClause, IsTypedStatement}
use Rattle.program_model.specs.Validity.{IsTypedProgram}
use Rattle.java_control.specs.Exceptions.{clause_taken, clauses_in, clauses_of_kind, takes_wholly}
use Rattle.control_actions.specs.declared.action.ClauseId.{ClauseId}
use Rattle.ledger_moves.specs.Choosing.{is_number}
use Rattle.dispatch_laws.specs.ClassOperands.{EntersClause, IsNotAboveString, IsOfClass, OfClass}
use Rattle.dispatch_laws.proofs.ClassTypes.{assignable_class}
use Rattle.value_laws.proofs.ClassGifts.{under_fits}

module _ (p : Program) (bound : ClassId) (typed : IsTypedProgram p) (own : IsNotAboveString p bound) (n : BodyId) (b : Body) (at : body_at p n ≡ Some b) (c : ClassId) (variable : ℕ) (kind : OfClass p bound (variable_type b variable)) where
  abbrev IsThrown : VType → ClassId → Type 0
  IsThrown t d = HasClass p d × IsUnder p d p.core.throwable × IsAssignable p (types.Obj d) t

  by_classes : (t : VType) (cs : List ClassId) → IsOfClass p bound t → All (IsThrown t) cs → list_any (λ d. is_under p c d) cs ≡ true → IsOfClass p bound (types.Obj c)
  by_classes t [] to all is = absurd (true≢false (sym is))
  by_classes t (d ∷ cs) to all is = go (is_under p c d) refl is (by_classes t cs to (All-tail (IsThrown t) d cs all))
    where
      go : (x : Bool) → is_under p c d ≡ x → (x || list_any (λ e. is_under p c e) cs) ≡ true → (list_any (λ e. is_under p c e) cs ≡ true → IsOfClass p bound (types.Obj c)) → IsOfClass p bound (types.Obj c)
      go true under is' rest = under_fits p bound typed c d under (assignable_class p bound typed own (types.Obj d) t (All-head (IsThrown t) d cs all).2 to)
      go false other is' rest = rest is'

  -- the clause whose parameter is the variable
  by_clause : (x : CatchClause) → x.variable ≡ variable → IsCatchClause p b x → takes_wholly p c x ≡ true → IsOfClass p bound (types.Obj c)
  by_clause x mine valid is = go (variable_type b x.variable) (subst (λ (y : ℕ). OfClass p bound (variable_type b y)) (sym mine) kind) valid.1
    where
      go : (t : Option VType) → OfClass p bound t → IsSomeAnd t (λ t. All (IsThrown t) x.classes.items) → IsOfClass p bound (types.Obj c)
      go None to all = absurd all
      go (Some t) to all = by_classes t x.classes.items to all is

  -- the clause of number `i`, in a list that begins with the one of number `k`, has the variable for its parameter
  abbrev HasParameter : ℕ → ℕ → List CatchClause → Type 0
  HasParameter k i xs = (j : ℕ) (z : CatchClause) → slice_get xs j ≡ Some z → k + j ≡ i → z.variable ≡ variable

  by_clauses : (k i : ℕ) (xs : List CatchClause) → HasParameter k i xs → All (IsCatchClause p b) xs → is_number i (position_from (takes_wholly p c) k xs) ≡ true → IsOfClass p bound (types.Obj c)
  by_clauses k i [] has all is = absurd (true≢false (sym is))
  by_clauses k i (x ∷ xs) has all is = go (takes_wholly p c x) refl is (λ later. by_clauses (k + 1) i xs has_later (All-tail (IsCatchClause p b) x xs all) later)
    where
      has_later : HasParameter (k + 1) i xs
      has_later j z there same = has (suc j) z there (let next : k + suc j ≡ i = omega (arith, same) in next)

      go : (y : Bool) → takes_wholly p c x ≡ y → is_number i (cond y (Some k) (position_from (takes_wholly p c) (k + 1) xs)) ≡ true
          → (is_number i (position_from (takes_wholly p c) (k + 1) xs) ≡ true → IsOfClass p bound (types.Obj c)) → IsOfClass p bound (types.Obj c)
      go true takes is' rest =
          let number : i ≡ k = eqb-true i k is' in
          by_clause x (has zero x refl (let here : k + 0 ≡ i = omega (arith, number) in here)) (All-head (IsCatchClause p b) x xs all) takes
      go false other is' rest = rest is'

  by_kind : (i : ℕ) (k : StatementKind) → HasParameter 0 i (clauses_of_kind k) → IsTypedStatement p b k → is_number i (position_from (takes_wholly p c) 0 (clauses_of_kind k)) ≡ true → IsOfClass p bound (types.Obj c)
  by_kind i (statements.Try t) has valid is = by_clauses 0 i t.catches.items has valid.1 is
  by_kind i (statements.Block ss end) has valid is = absurd (true≢false (sym is))
  by_kind i k has valid is = absurd (true≢false (sym is))

  caught_class : (s : StmtId) (i : ℕ) → HasParameter 0 i (clauses_in (statement_at b s)) → is_number i (clause_taken p b s c) ≡ true → IsOfClass p bound (types.Obj c)
  caught_class s i has is = go (statement_at b s) refl has is
    where
      go : (x : Option TStmt) → statement_at b s ≡ x → HasParameter 0 i (clauses_in x) → is_number i (position_from (takes_wholly p c) 0 (clauses_in x)) ≡ true → IsOfClass p bound (types.Obj c)
      go None there has' is' = absurd (true≢false (sym is'))
      go (Some x) there has' is' = by_kind i x.kind has' ((typed.bodies n b at).statements s x there).typed is'

  -- the class of what a clause takes whose parameter is of a type under `bound`
  pub caught_is_of_class : (clause : ClauseId) → EntersClause b clause variable → is_number clause.index (clause_taken p b clause.statement c) ≡ true → IsOfClass p bound (types.Obj c)
  caught_is_of_class clause enters is = caught_class clause.statement clause.index has is
    where
      has : HasParameter 0 clause.index (clauses_in (statement_at b clause.statement))
      has j z there same =
          let number : j ≡ clause.index = omega (arith, same) in
          enters z (subst (λ (y : ℕ). slice_get (clauses_in (statement_at b clause.statement)) y ≡ Some z) number there)
