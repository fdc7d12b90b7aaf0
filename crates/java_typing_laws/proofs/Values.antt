-- Values in which nothing is refused: their trees are typed, and have the types that the statement's rule asks for.
use Rattle.std.proofs.Common.{◌≡◌, ◌∙◌, ℕ, Option, Some, List, [], ◌∷◌, ◌++◌, All, subst, ap}
use Rattle.std.proofs.lemmas.List.Elements.{All-append}
use Rattle.rlc_base.specs.declared.place.Pos.{Pos}
use Rattle.program_model.specs.declared.kinds.ClassId.{ClassId}
use Rattle.program_model.specs.declared.kinds.VType.{VType}
use Rattle.program_model.specs.declared.program.Method.{Method}
use Rattle.program_model.specs.declared.program.Program.{Program}
use Rattle.program_model.specs.declared.tree.Var.{Var}
use Rattle.program_model.specs.Hierarchy.{IsHierarchy}
use Rattle.program_model.specs.Typing.{IsAssignable, boolean}
use Rattle.java_syntax.specs.ExpressionTrees as syntax
use Rattle.java_conversions.specs.Conversions.{is_assignable}
use Rattle.java_conversions.specs.Types.{is_boolean}
use Rattle.java_typed_trees.specs.declared.facts.Facts.{Facts}
use Rattle.java_typed_trees.specs.declared.scope.Local.{Local}
use Rattle.java_typed_trees.specs.Answers.{type_of}
use Rattle.java_typed_trees.specs.ExpressionTrees.{ExprTree, expressions}
use Rattle.java_call_rules.specs.Surroundings.{Surroundings}
use Rattle.java_variable_rules.proofs.VariableLaws.{AreTyped, IsTyped}
use Rattle.java_statement_parts.specs.Cases.{value_cases}
use Rattle.java_statement_parts.specs.Typings.{tree, value_facts}
use Rattle.java_statement_parts.proofs.WellTyped.{has_type}
use Rattle.java_statement_rules.specs.Contexts.{StatementContext, covering, locals_of, with_locals}
use Rattle.java_statement_rules.specs.StatementCases.{condition_by, condition_cases, storing_cases, storing_from}
use Rattle.java_typing_laws.proofs.Parts.{holds}
use Rattle.java_typing_laws.specs.TypingContexts.{IfDeclarable, IsVariableOf, TypingContext, context_with}
use Rattle.java_typing_laws.specs.TypedTrees.{AreTypedTrees, FitsIn, IsTypedTree, part_of}
use Rattle.java_typing_laws.proofs.Conversions.{assignable_law, is_boolean_law}
use Rattle.java_typing_laws.proofs.OperatorRules.{has}
use Rattle.java_typing_laws.proofs.TypedExpressions.{gives_its_type, tree_is_typed}
use Rattle.java_typing_laws.specs.Scopes.{IsInMethod}

-- ---- lists of trees

pub append_typed : (c : TypingContext) (xs ys : List ExprTree) → AreTypedTrees c (expressions xs) → AreTypedTrees c (expressions ys) → AreTypedTrees c (expressions (xs ++ ys))
append_typed c [] ys h g = g
append_typed c (x ∷ xs) ys h g = (h.0, append_typed c xs ys h.1 g)

-- ---- facts that a rule looks at

-- the value is stored where the type is declared
pub stored : (p : Program) → IsHierarchy p → (place : Pos) (to : VType) (e : Facts) (from : VType) → type_of e ≡ Some from → storing_cases p place (Some to) e ≡ [] → IsAssignable p from to
stored p hierarchy place to e from is none = assignable_law p hierarchy e.constant from to (holds (is_assignable p e.constant from to) place (subst (λ (o : Option VType). storing_from p place to e o ≡ []) is none))

-- the value is a condition
pub truth : (place : Pos) (e : Facts) (t : VType) → type_of e ≡ Some t → condition_cases place e ≡ [] → t ≡ boolean
truth place e t is none = is_boolean_law t (holds (is_boolean t) place (subst (λ (o : Option VType). condition_by place o ≡ []) is none))

-- ---- scopes

module _ (variables : List Var) (owner : Option ClassId) (m : Method) where
  abbrev pub IsHere : Surroundings → Type 0
  IsHere s = IsInMethod s variables owner m

  abbrev pub context_of : Surroundings → TypingContext
  context_of s = context_with s variables owner

  -- with more variables in scope
  pub with_more : (c : StatementContext) (xs : List Local) (n : ℕ) → IsHere c.surroundings → All (IsVariableOf variables) xs → AreTyped xs → IsHere (with_locals c (locals_of c ++ xs) n).surroundings
  with_more c xs n h are typed = record {
    scope = record {
      members = h.scope.members;
      declarable = h.scope.declarable;
      locals = All-append (IsVariableOf variables) (locals_of c) xs h.scope.locals are;
      has_owner = h.scope.has_owner;
      not_string = h.scope.not_string;
      written = h.scope.written;
    };
    locals = All-append (λ y. IsTyped y.variable.static_type) (locals_of c) xs h.locals typed;
    result = h.result;
    types = h.types;
  }

  -- where more exceptions are caught
  pub where_caught : (c : StatementContext) (classes : List ClassId) → IsHere c.surroundings → IsHere (covering classes c).surroundings
  where_caught c classes h = record {
    scope = record {
      members = h.scope.members;
      declarable = h.scope.declarable;
      locals = h.scope.locals;
      has_owner = h.scope.has_owner;
      not_string = h.scope.not_string;
      written = h.scope.written;
    };
    locals = h.locals;
    result = h.result;
    types = h.types;
  }

  -- ---- values

  -- the tree is typed, and has the type that the rules look at
  pub record IsTypedValue (s : Surroundings) (wanted : Option VType) (e : syntax.ExprTree) : Type 0 where
    pub vtype : VType
    pub is : (part_of (tree s wanted e)).vtype ≡ Some vtype
    pub gives : type_of (value_facts s wanted e) ≡ Some vtype
    pub typed : IsTypedTree (context_of s) (tree s wanted e)

  pub value_typed : (s : Surroundings) → IsHere s → (wanted : Option VType) → IfDeclarable s.context.program wanted → (e : syntax.ExprTree) → value_cases s wanted e ≡ [] → IsTypedValue s wanted e
  value_typed s h wanted declarable e none =
      let found = has_type s h.locals wanted e none in
      record { vtype = found.vtype; is = gives_its_type s variables owner h.scope wanted declarable e ∙ found.has; gives = found.has; typed = tree_is_typed s variables owner h.scope wanted declarable e }

  -- where it is stored
  pub value_fits : (s : Surroundings) → IsHere s → (wanted : Option VType) (e : syntax.ExprTree) → IsTypedValue s wanted e → (place : Pos) (to : VType) → storing_cases s.context.program place (Some to) (value_facts s wanted e) ≡ [] → FitsIn s.context.program (part_of (tree s wanted e)).vtype to
  value_fits s h wanted e v place to none = has (part_of (tree s wanted e)).vtype v.vtype (λ t. IsAssignable s.context.program t to) v.is (stored s.context.program h.types.members.hierarchy place to (value_facts s wanted e) v.vtype v.gives none)

  -- as a condition
  pub value_is_truth : (s : Surroundings) (wanted : Option VType) (e : syntax.ExprTree) → IsTypedValue s wanted e → (place : Pos) → condition_cases place (value_facts s wanted e) ≡ [] → (part_of (tree s wanted e)).vtype ≡ Some boolean
  value_is_truth s wanted e v place none = v.is ∙ ap (λ (t : VType). let o : Option VType = Some t in o) (truth place (value_facts s wanted e) v.vtype v.gives none)
