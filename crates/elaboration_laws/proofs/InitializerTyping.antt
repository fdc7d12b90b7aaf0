-- The initialisers of instance fields with which the body of a constructor begins are typed, where nothing of them is refused.
use Rattle.std.proofs.Common.{◌≡◌, ◌∙◌, Bool, true, false, cond, Option, Some, None, List, [], ◌∷◌, All, flat_map, zip, refl, sym, subst, ap}
use Rattle.std.specs.Option.{IsSomeAnd}
use Rattle.std.proofs.lemmas.List.Elements.{All-cons, All-head, All-nil, All-tail}
use Rattle.rlc_base.specs.declared.place.Pos.{Pos}
use Rattle.program_model.specs.declared.kinds.ClassId.{ClassId}
use Rattle.program_model.specs.declared.kinds.FieldId.{FieldId}
use Rattle.program_model.specs.declared.kinds.MethodKind.TheVariants as methods
use Rattle.program_model.specs.declared.kinds.VType.{VType}
use Rattle.program_model.specs.declared.kinds.VType.TheVariants as types
use Rattle.program_model.specs.declared.program.Class.{Class}
use Rattle.program_model.specs.declared.program.Field.{Field}
use Rattle.program_model.specs.declared.program.Method.{Method}
use Rattle.program_model.specs.declared.program.Program.{Program}
use Rattle.program_model.specs.declared.tree.Var.{Var}
use Rattle.program_model.specs.Hierarchy.{IsUnder, itself}
use Rattle.program_model.specs.Lookups.{class_at, field_at}
use Rattle.program_model.specs.Typing.{IsAssignable, IsTypeUnder}
use Rattle.program_model.specs.Validity.{IsFieldOf}
use Rattle.java_syntax.specs.ExpressionTrees as syntax
use Rattle.java_overloads.specs.Conversions.{is_assignable}
use Rattle.class_table.specs.ClassDeclarationsMembers.{WrittenField, fields_of}
use Rattle.java_call_rules.specs.Members.{fields_in}
use Rattle.java_typed_trees.specs.declared.facts.Answer.{Answer}
use Rattle.java_typed_trees.specs.declared.facts.Answer.TheVariants as answers
use Rattle.java_typed_trees.specs.declared.facts.Facts.{Facts}
use Rattle.java_typed_trees.specs.declared.shapes.Shape.TheVariants as shapes
use Rattle.java_typed_trees.specs.declared.shapes.TargetShape.TheVariants as targets
use Rattle.java_typed_trees.specs.Answers.{mismatch, of_two, value_at}
use Rattle.java_typed_trees.specs.ExpressionTrees.{ExprTrees, expressions}
use Rattle.java_typed_trees.specs.Settling.{own_cases, tree_in}
use Rattle.java_typed_trees.specs.StatementTrees.{statements}
use Rattle.java_variable_rules.specs.JavaMemberRulesAssignments.{assignment_of}
use Rattle.java_variable_rules.specs.JavaMemberRulesNames.{implied_this}
use Rattle.java_call_rules.specs.Surroundings.{Surroundings}
use Rattle.java_typing_laws.specs.Cases.{value_cases}
use Rattle.java_typing_laws.specs.Typings.{tree, value_facts}
use Rattle.java_typing_laws.proofs.Goodness.{cons_is_nil, nil_left, nil_right}
use Rattle.java_typing_laws.specs.TypingContexts.{TypingContext}
use Rattle.java_typing_laws.specs.TypedTrees.{AreTypedTrees, FitsIn, IsTypedTree, part_of}
use Rattle.java_typing_laws.proofs.Conversions.{assignable_law}
use Rattle.java_typing_laws.proofs.OperatorRules.{has}
use Rattle.java_typing_laws.specs.TypedForms.{IsFieldInitializer}
use Rattle.java_typing_laws.specs.TypedStatements.{AreTypedStatementTrees, IsTypedStatementTree}
use Rattle.java_typing_laws.proofs.StatementTyping.{append_typed}
use Rattle.java_typing_laws.proofs.Values.{IsHere, context_of, value_typed}
use Rattle.java_elaboration.specs.SourceClassesMembers.{numbered_fields}
use Rattle.java_elaboration.specs.SourceClasses.{SourceClass}
use Rattle.java_typing_laws.specs.FieldInitializers.{cases_of_field, initializer_of, initializing_by, initializing_cases, initializing_statement, initializing_tree, statements_of_field, where_initialized}

-- ---- the fields of the class

first_of : {X Y : Type 0} (P : X → Type 0) (xs : List X) (ys : List Y) → All P xs → All (λ (w : X × Y). P w.0) (zip xs ys)
first_of P [] ys h = All-nil (λ w. P w.0)
first_of P (x ∷ xs) [] h = All-nil (λ w. P w.0)
first_of P (x ∷ xs) (y ∷ ys) h = All-cons (λ w. P w.0) (x, y) (zip xs ys) (All-head P x xs h) (first_of P xs ys (All-tail P x xs h))

-- ---- one initialiser

assigned_by : (p : Program) (covered : List ClassId) (f : FieldId) (facts : Facts) (place : Pos) (b : Bool) → own_cases p covered (cond b (answers.Is (shapes.Assignment (targets.Field f)) facts) (mismatch place)) ≡ [] → b ≡ true
assigned_by p covered f facts place true none = refl
assigned_by p covered f facts place false none = absurd (cons_is_nil _ _ none)

module _ (variables : List Var) (owner : Option ClassId) (m : Method) (s : Surroundings) (h : IsHere variables owner m s) (constructor : m.kind ≡ methods.Ctor) (own : m.class ≡ s.context.class') (this : s.context.has_this ≡ true) where
  abbrev scope : TypingContext
  scope = context_of variables owner m s

  abbrev p : Program
  p = s.context.program

  abbrev parts_for : Field → syntax.ExprTree → ExprTrees
  parts_for x e = expressions (implied_this s.context.class' x.pos ∷ tree s (Some x.vtype) e ∷ [])

  abbrev assignment : FieldId → Field → Answer
  assignment f x = answers.Is (shapes.Assignment (targets.Field f)) (value_at x.pos x.vtype)

  -- the answer is an assignment to the field
  record IsAssigned (f : FieldId) (x : Field) (e : syntax.ExprTree) : Type 0 where
    is : initializing_by s f x e ≡ assignment f x
    typed : AreTypedTrees scope (parts_for x e)
    fits : FitsIn p (part_of (tree s (Some x.vtype) e)).vtype x.vtype

  assigned : (f : FieldId) (x : Field) → field_at p f ≡ Some x → (e : syntax.ExprTree) → initializing_cases s f x e ≡ [] → IsAssigned f x e
  assigned f x at e none =
      let first = value_cases s (Some x.vtype) e in
      let second = own_cases p s.context.covered (initializing_by s f x e) in
      let value : Facts = value_facts s (Some x.vtype) e in
      let v = value_typed variables owner m s h (Some x.vtype) (h.scope.members.field_types f x at) e (nil_left first second none) in
      let settled : Bool = is_assignable p value.constant v.vtype x.vtype in
      let same : initializing_by s f x e ≡ cond settled (assignment f x) (mismatch x.pos) = ap (λ (o : Option VType). of_two x.pos (Some x.vtype) o (assignment_of p x.pos (Some (targets.Field f)) value)) v.gives in
      let yes = assigned_by p s.context.covered f (value_at x.pos x.vtype) x.pos settled (subst (λ (a : Answer). own_cases p s.context.covered a ≡ []) same (nil_right first second none)) in
      record {
        is = same ∙ ap (λ b. cond b (assignment f x) (mismatch x.pos)) yes;
        typed = ((h.scope.has_owner this, tt), (v.typed, tt));
        fits = has (part_of (tree s (Some x.vtype) e)).vtype v.vtype (λ t. IsAssignable p t x.vtype) v.is (assignable_law p h.scope.members.hierarchy value.constant v.vtype x.vtype yes);
      }

  initializing_typed : (f : FieldId) (x : Field) → field_at p f ≡ Some x → x.class ≡ s.context.class' → x.is_static ≡ false → (e : syntax.ExprTree) → initializing_cases s f x e ≡ [] → IsTypedStatementTree scope m (initializing_statement s f x e)
  initializing_typed f x at listed instance' e none =
      let a = assigned f x at e none in
      let under : IsUnder p s.context.class' x.class = subst (λ (d : ClassId). IsUnder p s.context.class' d) (sym listed) (itself s.context.class') in
      let target = has (field_at p f) x (λ y. (y.is_static ≡ false) × (y.vtype ≡ x.vtype) × IsTypeUnder p y.class (types.Obj s.context.class')) at (instance', refl, under) in
      let t : IsTypedTree scope (tree_in (assignment f x) (parts_for x e)) = ((target, a.fits), a.typed) in
      let typed : IsTypedTree scope (initializing_tree s f x e) = subst (λ (g : Answer). IsTypedTree scope (tree_in g (parts_for x e))) (sym a.is) t in
      let form : IsFieldInitializer scope m (part_of (tree_in (assignment f x) (parts_for x e)) ∷ []) = has (field_at p f) x (λ y. (m.kind ≡ methods.Ctor) × (m.class ≡ y.class)) at (constructor, own ∙ sym listed) in
      (subst (λ (g : Answer). IsFieldInitializer scope m (part_of (tree_in g (parts_for x e)) ∷ [])) (sym a.is) form, (typed, tt), tt)

  -- ---- all initialisers

  field_typed : (f : FieldId) (x : Option Field) → field_at p f ≡ x → IsSomeAnd x (λ y. y.class ≡ s.context.class') → (e : Option syntax.ExprTree) → where_initialized (initializing_cases s) f x e ≡ [] → AreTypedStatementTrees scope m (statements (where_initialized (λ g y v. initializing_statement s g y v ∷ []) f x e))
  field_typed f None at listed e none = tt
  field_typed f (Some x) at listed None none = tt
  field_typed f (Some x) at listed (Some e) none = by x.is_static refl none
    where
      by : (b : Bool) → x.is_static ≡ b → cond b [] (initializing_cases s f x e) ≡ [] → AreTypedStatementTrees scope m (statements (cond b [] (initializing_statement s f x e ∷ [])))
      by true is g = tt
      by false is g = (initializing_typed f x at listed is e g, tt)

  pub fields_typed : (ws : List (FieldId × WrittenField)) → All (λ w. IsFieldOf p s.context.class' w.0) ws → flat_map (cases_of_field s) ws ≡ [] → AreTypedStatementTrees scope m (statements (flat_map (statements_of_field s) ws))
  fields_typed [] listed none = tt
  fields_typed (w ∷ ws) listed none =
      append_typed scope m (statements_of_field s w) (flat_map (statements_of_field s) ws)
      (field_typed w.0 (field_at p w.0) refl (All-head (λ v. IsFieldOf p s.context.class' v.0) w ws listed) (initializer_of w.1) (nil_left (cases_of_field s w) (flat_map (cases_of_field s) ws) none))
      (fields_typed ws (All-tail (λ v. IsFieldOf p s.context.class' v.0) w ws listed) (nil_right (cases_of_field s w) (flat_map (cases_of_field s) ws) none))

  -- the fields of the class are its own
  own_fields : (c : ClassId) (k : Option Class) → class_at p c ≡ k → All (IsFieldOf p c) (fields_in k)
  own_fields c None at = All-nil (IsFieldOf p c)
  own_fields c (Some k) at = h.scope.members.fields c k at

  pub numbered_typed : (c : SourceClass) → c.class' ≡ s.context.class' → flat_map (cases_of_field s) (numbered_fields p c) ≡ [] → AreTypedStatementTrees scope m (statements (flat_map (statements_of_field s) (numbered_fields p c)))
  numbered_typed c same none = fields_typed (numbered_fields p c) (subst (λ (d : ClassId). All (λ w. IsFieldOf p d w.0) (numbered_fields p c)) same (first_of (IsFieldOf p c.class') (fields_in (class_at p c.class')) (fields_of c.class' c.declaration) (own_fields c.class' (class_at p c.class') refl))) none
