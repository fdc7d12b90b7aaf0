-- What a statement of a valid program becomes finds the values that it asks, where what follows it does.
use Rattle.std.proofs.Common.{◌≡◌, ℕ, ◌+◌, ◌-◌, ◌<◌, ap, Option, Some, None, List, [], ◌∷◌, ◌++◌, Contains, IsSomeAnd, All, length, map, reverse, flat_map, inl, inr, refl, sym, subst, arith}
use Rattle.std.proofs.lemmas.List.{get_or-reverse, length-reverse}
use Rattle.std.proofs.lemmas.List.Elements.{All-head, All-tail}
use Rattle.program_model.specs.declared.kinds.ClassId.{ClassId}
use Rattle.program_model.specs.declared.kinds.ExprId.{ExprId}
use Rattle.program_model.specs.declared.kinds.MethodKind.TheVariants as methods
use Rattle.program_model.specs.declared.kinds.StmtId.{StmtId}
use Rattle.program_model.specs.declared.kinds.VType.{VType}
use Rattle.program_model.specs.declared.kinds.VType.TheVariants as types
use Rattle.program_model.specs.declared.program.Class.{Class}
use Rattle.program_model.specs.declared.program.Method.{Method}
use Rattle.program_model.specs.declared.program.Program.{Program}
use Rattle.program_model.specs.declared.tree.Body.{Body}
use Rattle.program_model.specs.declared.tree.CatchClause.{CatchClause}
use Rattle.program_model.specs.declared.tree.Declarator.{Declarator}
use Rattle.program_model.specs.declared.tree.ForInitial.{ForInitial}
use Rattle.program_model.specs.declared.tree.ForInitial.TheVariants as initials
use Rattle.program_model.specs.declared.tree.Resource.{Resource}
use Rattle.program_model.specs.declared.tree.StatementKind.{StatementKind}
use Rattle.program_model.specs.declared.tree.StatementKind.TheVariants as statements
use Rattle.program_model.specs.declared.tree.SuperCall.{SuperCall}
use Rattle.program_model.specs.declared.tree.TryStatement.{TryStatement}
use Rattle.program_model.specs.Hierarchy.{IsDirectSuper, implied_super}
use Rattle.program_model.specs.Lookups.{class_at, method_at, optional, type_at, variable_type}
use Rattle.program_model.specs.Typing.{IsClose, IsConstruction, IsDeclarator, IsForInitial, IsInitializer, IsResource, IsReturn, IsSuperCall, IsTypedStatement}
use Rattle.program_model.specs.Typing as typing
use Rattle.program_model.specs.Validity.{IsTypedProgram}
use Rattle.rlc_base.specs.declared.place.Pos.{Pos}
use Rattle.java_control.specs.Remaining.{Todo, Do, Ev, Act, Leave, For, expression_place}
use Rattle.java_control.specs.Expressions.{evaluations, type_or_null}
use Rattle.java_control.specs.Statements.{clauses_front, close_front, closes, closing_of, declaration_front, declarator_front, declarator_with, expression_statement, finally_front, for_condition, for_turn, head_front, initial_front, list_of_branch, loop_turn, opens, resources_front, return_front, statement_front, super_front, try_front, turn_front}
use Rattle.control_actions.specs.declared.action.Action.TheVariants as actions
use Rattle.control_actions.specs.declared.action.Scope.TheVariants as scopes
use Rattle.control_actions.specs.declared.item.Closing.{Closing}
use Rattle.control_actions.specs.declared.item.Condition.{Condition}
use Rattle.control_actions.specs.declared.item.Condition.TheVariants as conditions
use Rattle.control_actions.specs.declared.place.Place.TheVariants as places
use Rattle.step_laws.specs.Operands.{ClosesPlainly, below, below_and_at, params_of, put_at, result_of}
use Rattle.step_laws.proofs.TypeItems.{Within}
use Rattle.step_laws.specs.ClassOperands.{FindsAside, FindsClass, IsNotAboveString, IsOfClass, ItemsFit, OfClass, TakesAll, evaluated, own_type}
use Rattle.step_laws.proofs.ClassItems.{all_evaluated, evaluations_find, evaluations_past, finds_more, in_three, past_more, past_three, under_all}
use Rattle.step_laws.proofs.ClassFronts.{construction_takes, deeper, twice}
use Rattle.step_laws.proofs.ClassTypes.{direct_class, fits_class, throwable_class}

-- the items of depth `d` find the values that they ask before whatever does, whichever way they end
abbrev pub Serves : Program → ClassId → Body → ℕ → List Todo → Type 1
Serves p bound b d xs = (k : List Todo) (h : ℕ → Type 0) → FindsClass p bound b k (below d h) → FindsAside p bound b k (below d h) → FindsClass p bound b (xs ++ k) h × FindsAside p bound b (xs ++ k) (below d h)

module _ (p : Program) (bound : ClassId) (typed : IsTypedProgram p) (own : IsNotAboveString p bound) (b : Body) where
  pub all_temps : (d : ℕ) (k : List Todo) (h : ℕ → Type 0) → FindsClass p bound b k (below d h) → FindsClass p bound b k h
  all_temps d k h finds = finds_more p bound b k (below d h) h (λ x under. under.1) finds

  more_twice : (d : ℕ) (k : List Todo) (h : ℕ → Type 0) → FindsClass p bound b k (below d h) → FindsClass p bound b k (below d (below d h))
  more_twice d k h finds = finds_more p bound b k (below d h) (below d (below d h)) (twice d h) finds

  past_twice : (d : ℕ) (k : List Todo) (h : ℕ → Type 0) → FindsAside p bound b k (below d h) → FindsAside p bound b k (below d (below d h))
  past_twice d k h past = past_more p bound b k (below d h) (below d (below d h)) (twice d h) past

  pub none_serves : (d : ℕ) → Serves p bound b d []
  none_serves d k h finds past = (all_temps d k h finds, past)

  pub both_serve : (d : ℕ) (xs ys : List Todo) → Serves p bound b d xs → Serves p bound b d ys → Serves p bound b d (xs ++ ys)
  both_serve d xs ys first second k h finds past =
      let next = second k (below d h) (more_twice d k h finds) (past_twice d k h past) in
      let whole = first (ys ++ k) h next.0 (past_more p bound b (ys ++ k) (below d (below d h)) (below d h) (λ x under. under.1) next.1) in
      (in_three p bound b xs ys k h whole.0, past_three p bound b xs ys k (below d h) whole.1)

  pub statement_expression : (e : ExprId) (d : ℕ) (pos : Pos) → Serves p bound b d (expression_statement e d pos)
  statement_expression e d pos k h finds past = (((tt, finds_more p bound b k (below d h) (below d (evaluated p bound b e d h)) (λ x under. (under.0, inl under)) finds, tt), past), past)

  -- a variable takes the value of its initialiser
  initializer_serves : (x : ℕ) (e : ExprId) (t : VType) (d : ℕ) (pos : Pos) → variable_type b x ≡ Some t → typing.Fits p b e t → Serves p bound b d (Ev e d ∷ Act (actions.Move (places.Var x) (places.Temp d)) pos ∷ [])
  initializer_serves x e t d pos same fits k h finds past =
      (((λ none. inr (refl, fits_class p bound typed own b e t fits (subst (OfClass p bound) same none)), finds_more p bound b k (below d h) (below d (evaluated p bound b e d h)) (λ x under. (under.0, inl under)) finds, tt), past), past)

  -- the default value of such a type is null
  default_type : (t : Option VType) → OfClass p bound t → IsOfClass p bound (type_or_null t)
  default_type None to = absurd to
  default_type (Some t) to = to

  declarator_serves : (d : ℕ) (x : Declarator) → IsDeclarator p b x → Serves p bound b d (declarator_front b d x)
  declarator_serves d x is = go x.initializer (variable_type b x.variable) refl is
    where
      go : (e : Option ExprId) (t : Option VType) → variable_type b x.variable ≡ t → IsSomeAnd t (IsInitializer p b e) → Serves p bound b d (declarator_with b x.variable e d x.pos)
      go e None same is k h finds past = absurd is
      go None (Some t) same is k h finds past = ((λ to. default_type (variable_type b x.variable) to, all_temps d k h finds, tt), past)
      go (Some e) (Some t) same is k h finds past = initializer_serves x.variable e t d x.pos same is k h finds past

  declaration_serves : (d : ℕ) (names : List Declarator) → All (IsDeclarator p b) names → Serves p bound b d (declaration_front b d names)
  declaration_serves d [] are = none_serves d
  declaration_serves d (x ∷ names) are = both_serve d (declarator_front b d x) (declaration_front b d names) (declarator_serves d x (All-head (IsDeclarator p b) x names are)) (declaration_serves d names (All-tail (IsDeclarator p b) x names are))

  head_serves : (d : ℕ) (es : List ExprId) → Serves p bound b d (head_front b d es)
  head_serves d [] = none_serves d
  head_serves d (e ∷ es) = both_serve d (expression_statement e d (expression_place b e)) (head_front b d es) (statement_expression e d (expression_place b e)) (head_serves d es)

  initial_serves : (d : ℕ) (x : ForInitial) → IsForInitial p b x → Serves p bound b d (initial_front b d x)
  initial_serves d (initials.Declaration names) is = declaration_serves d names.items is
  initial_serves d (initials.Expressions es) is = head_serves d es.items

  -- ---- resources

  opens_serves : (d : ℕ) (r : Resource) → IsResource p b r → Serves p bound b d (opens d r)
  opens_serves d r is = go (variable_type b r.variable) refl is
    where
      go : (t : Option VType) → variable_type b r.variable ≡ t → IsSomeAnd t (λ t. typing.Fits p b r.initializer t × IsSomeAnd (method_at p r.close) (IsClose p t)) → Serves p bound b d (opens d r)
      go None same is = absurd is
      go (Some t) same is = initializer_serves r.variable r.initializer t d r.pos same is.0

  no_params : (m : Option Method) (t : VType) → IsSomeAnd m (IsClose p t) → params_of m ≡ []
  no_params None t is = absurd is
  no_params (Some m) t is = is.2

  closes_plainly : (s : StmtId) (r : Resource) → IsResource p b r → ClosesPlainly p (closing_of s r)
  closes_plainly s r is = go (variable_type b r.variable) is
    where
      go : (t : Option VType) → IsSomeAnd t (λ t. typing.Fits p b r.initializer t × IsSomeAnd (method_at p r.close) (IsClose p t)) → params_of (method_at p r.close) ≡ []
      go None is = absurd is
      go (Some t) is = no_params (method_at p r.close) t is.1

  closes_serves : (s : StmtId) (d : ℕ) (r : Resource) → IsResource p b r → Serves p bound b d (closes s d r)
  closes_serves s d r is k h finds past =
      let plainly = closes_plainly s r is in
      ((plainly, (finds, past)), (plainly, (more_twice d k h finds, past_twice d k h past)))

  opened_serve : (d : ℕ) (rs : List Resource) → All (IsResource p b) rs → Serves p bound b d (flat_map (opens d) rs)
  opened_serve d [] are = none_serves d
  opened_serve d (r ∷ rs) are = both_serve d (opens d r) (flat_map (opens d) rs) (opens_serves d r (All-head (IsResource p b) r rs are)) (opened_serve d rs (All-tail (IsResource p b) r rs are))

  closed_serve : (s : StmtId) (d : ℕ) (rs : List Resource) → All (IsResource p b) rs → Serves p bound b d (flat_map (closes s d) rs)
  closed_serve s d [] are = none_serves d
  closed_serve s d (r ∷ rs) are = both_serve d (closes s d r) (flat_map (closes s d) rs) (closes_serves s d r (All-head (IsResource p b) r rs are)) (closed_serve s d rs (All-tail (IsResource p b) r rs are))

  block_serves : (d : ℕ) (s : StmtId) (xs : List Todo) → Serves p bound b d xs → Serves p bound b d (Do s d ∷ xs)
  block_serves d s xs rest k h finds past =
      let next = rest k (below d h) (more_twice d k h finds) (past_twice d k h past) in
      let aside = past_more p bound b (xs ++ k) (below d (below d h)) (below d h) (λ x under. under.1) next.1 in
      ((next.0, aside), aside)

  resources_serve : (s : StmtId) (t : TryStatement) (d : ℕ) → All (IsResource p b) t.resources.items → All (IsResource p b) (reverse t.resources.items) → Serves p bound b d (resources_front s t d)
  resources_serve s t d are back =
      both_serve d (flat_map (opens d) t.resources.items) (Do t.block d ∷ flat_map (closes s d) (reverse t.resources.items))
      (opened_serve d t.resources.items are) (block_serves d t.block (flat_map (closes s d) (reverse t.resources.items)) (closed_serve s d (reverse t.resources.items) back))

  clauses_serve : (s : StmtId) (cs : List CatchClause) (d : ℕ) → Serves p bound b d (clauses_front s cs d)
  clauses_serve s [] d k h finds past = none_serves d k h finds past
  clauses_serve s (c ∷ cs) d k h finds past = ((finds, past), (more_twice d k h finds, past_twice d k h past))

  finally_serves : (f : Option StmtId) (d : ℕ) → Serves p bound b d (finally_front f d)
  finally_serves None d k h finds past = none_serves d k h finds past
  finally_serves (Some f) d k h finds past = ((finds, past), (more_twice d k h finds, past_twice d k h past))

  all_reversed : (rs : List Resource) → All (IsResource p b) rs → All (IsResource p b) (reverse rs)
  all_reversed rs are k d below =
      let within : k < length rs = omega (arith, below, ap (λ (n : ℕ). n) (length-reverse rs)) in
      subst (IsResource p b) (sym (get_or-reverse rs k d within)) (are (length rs - 1 - k) d (omega (arith, within)))

  try_serves : (s : StmtId) (t : TryStatement) (d : ℕ) → All (IsResource p b) t.resources.items → Serves p bound b d (try_front s t d)
  try_serves s t d are =
      both_serve d (resources_front s t d ++ clauses_front s t.catches.items d) (finally_front t.finally d)
      (both_serve d (resources_front s t d) (clauses_front s t.catches.items d) (resources_serve s t d are (all_reversed t.resources.items are)) (clauses_serve s t.catches.items d)) (finally_serves t.finally d)

  -- ---- other statements

  returned_none : (e : ExprId) (m : Option Method) → IsSomeAnd m (λ m. IsReturn p b (Some e) m.sig.result) → OfClass p bound (result_of m) → OfClass p bound (type_at b e)
  returned_none e None is none = absurd is
  returned_none e (Some m) is none = go m.sig.result is none
    where
      go : (t : Option VType) → IsReturn p b (Some e) t → OfClass p bound t → OfClass p bound (type_at b e)
      go None is none = absurd is
      go (Some t) is none = fits_class p bound typed own b e t is none

  return_serves : (e : Option ExprId) (d : ℕ) (pos : Pos) → IsSomeAnd (method_at p b.method) (λ m. IsReturn p b e m.sig.result) → Serves p bound b d (return_front e d pos)
  return_serves None d pos is k h finds past = ((tt, past_more p bound b k (below d h) h (λ x under. under.1) past), past)
  return_serves (Some e) d pos is k h finds past =
      (((λ none. inr (refl, returned_none e (method_at p b.method) is none), past_more p bound b k (below d h) (evaluated p bound b e d h) (λ x under. inl under) past), past), past)

  dos_serve : (d : ℕ) (ss : List StmtId) → Serves p bound b d (map (λ x. Do x d) ss)
  dos_serve d [] = none_serves d
  dos_serve d (s ∷ ss) = block_serves d s (map (λ x. Do x d) ss) (dos_serve d ss)

  branch_finds : (y : Option StmtId) (d : ℕ) (k : List Todo) (h : ℕ → Type 0) → FindsClass p bound b k (below d h) → FindsAside p bound b k (below d h) → ItemsFit p bound b (list_of_branch y d) (FindsClass p bound b k) (FindsAside p bound b k) (below d h)
  branch_finds None d k h finds past = finds
  branch_finds (Some s) d k h finds past = (more_twice d k h finds, past_twice d k h past)

  turn_serves : (c : Condition) (x w : StmtId) (d : ℕ) → Serves p bound b d (turn_front c x w d)
  turn_serves c x w d k h finds past =
      let finds_again = more_twice d k h finds in
      let past_again = past_twice d k h past in
      let deep = more_twice d k (below d h) finds_again in
      let past_deep = past_twice d k (below d h) past_again in
      ((((deep, past_deep), (deep, past_deep)), finds, past), past)

  module _ (r : Closing) (d : ℕ) (plainly : ClosesPlainly p r) (k : List Todo) (h : ℕ → Type 0) (finds : FindsClass p bound b k (below d h)) (past : FindsAside p bound b k (below d h)) where
    abbrev given : Type 0
    given = OfClass p bound (variable_type b r.variable)

    abbrev tested : ℕ → Type 0
    tested = put_at d given h

    abbrev copied_again : ℕ → Type 0
    copied_again = put_at d given (below d tested)

    apart : (x : ℕ) → x < d → x ≡ d → ⊥
    apart x under same = (let never : ⊥ = omega (arith, under, same) in never)

    under_test : Within (below d h) (below d tested)
    under_test x under = (under.0, inl (apart x under.0, under.1))

    under_copy : Within (below d h) copied_again
    under_copy x under = inl (apart x under.0, under_test x under)

    no_arguments : TakesAll p bound (params_of (method_at p r.close)) (d + 1) copied_again
    no_arguments = subst (λ xs. TakesAll p bound xs (d + 1) copied_again) (sym plainly) tt

    close_finds : FindsClass p bound b (close_front r d ++ k) h
    close_finds = (
      tt,
      (
        finds_more p bound b k (below d h) (below d tested) under_test finds,
        (
          tt,
          (
            (no_arguments, tt),
            (tt, finds_more p bound b k (below d h) (below d (below_and_at d (OfClass p bound (result_of (method_at p r.close))) copied_again)) (λ x under. (under.0, inl (under.0, under_copy x under))) finds, tt),
            past_more p bound b k (below d h) (below d copied_again) (λ x under. (under.0, under_copy x under)) past,
          ),
          tt,
        ),
      ),
      tt,
    )

  pub close_serves : (r : Closing) (d : ℕ) → ClosesPlainly p r → Serves p bound b d (close_front r d)
  close_serves r d plainly k h finds past = (close_finds r d plainly k h finds past, past)

  pub for_turn_serves : (j : StatementKind) (w : StmtId) (d : ℕ) (pos : Pos) → Serves p bound b d (for_turn j w d pos)
  for_turn_serves (statements.Block ss end) w d pos = none_serves d
  for_turn_serves (statements.For l) w d pos = turn_serves (for_condition l.condition pos) l.body w d
  for_turn_serves j w d pos = none_serves d

  for_serves : (w : StmtId) (d : ℕ) → Serves p bound b d (For w d ∷ [])
  for_serves w d k h finds past = ((finds, past), past)

  pub loop_turn_serves : (j : StatementKind) (w : StmtId) (d : ℕ) → Serves p bound b d (loop_turn j b w d)
  loop_turn_serves (statements.Block ss end) w d k h finds past = none_serves d k h finds past
  loop_turn_serves (statements.While c x) w d k h finds past = ((finds, past), past)
  loop_turn_serves (statements.Do x c) w d k h finds past = (((more_twice d k h finds, past_twice d k h past), finds, past), past)
  loop_turn_serves (statements.For l) w d k h finds past = both_serve d (head_front b d l.updates.items) (For w d ∷ []) (head_serves d l.updates.items) (for_serves w d) k h finds past
  loop_turn_serves j w d k h finds past = none_serves d k h finds past

  super_takes : (c : SuperCall) (d : ℕ) (h : ℕ → Type 0) → IsSuperCall p b c → TakesAll p bound (params_of (method_at p c.constructor)) d (all_evaluated p bound b c.arguments.items d h)
  super_takes c d h is = by_method (method_at p b.method) is
    where
      by_super : (x : Option ClassId) → IsSomeAnd x (λ s. IsConstruction p b s c.constructor c.arguments.items) → TakesAll p bound (params_of (method_at p c.constructor)) d (all_evaluated p bound b c.arguments.items d h)
      by_super None is = absurd is
      by_super (Some s) is = construction_takes p bound typed own b c.constructor s c.arguments.items d h is

      by_class : (x : Option Class) → IsSomeAnd x (λ k. IsSomeAnd k.sup (λ s. IsConstruction p b s c.constructor c.arguments.items)) → TakesAll p bound (params_of (method_at p c.constructor)) d (all_evaluated p bound b c.arguments.items d h)
      by_class None is = absurd is
      by_class (Some k) is = by_super k.sup is

      by_method : (m : Option Method) → IsSomeAnd m (λ m. (m.kind ≡ methods.Ctor) × IsSomeAnd (class_at p m.class) (λ k. IsSomeAnd k.sup (λ s. IsConstruction p b s c.constructor c.arguments.items)))
          → TakesAll p bound (params_of (method_at p c.constructor)) d (all_evaluated p bound b c.arguments.items d h)
      by_method None is = absurd is
      by_method (Some m) is = by_class (class_at p m.class) is.1

  sup_is_direct : (c e : ClassId) (k : Class) → class_at p c ≡ Some k → k.sup ≡ Some e → IsDirectSuper p c e
  sup_is_direct c e k at sup = (k, at, subst (λ (x : Option ClassId). Contains (optional x ++ k.faces.items ++ implied_super p k.interface) e) (sym sup) (0, omega arith, refl))

  -- the class of the constructor is right under that of the super constructor
  super_class : (c : SuperCall) → IsSuperCall p b c → OfClass p bound (own_type (method_at p c.constructor)) → OfClass p bound (own_type (method_at p b.method))
  super_class c is to = by_method (method_at p b.method) is
    where
      by_called : (s : ClassId) (x : Option Method) → IsSomeAnd x (λ x. (x.kind ≡ methods.Ctor) × (x.class ≡ s) × typing.AreArguments p b c.arguments.items x.sig.params.items) → OfClass p bound (own_type x) → IsOfClass p bound (types.Obj s)
      by_called s None is to = absurd is
      by_called s (Some x) is to = subst (λ (d : ClassId). IsOfClass p bound (types.Obj d)) is.1 to

      by_super : (m : Method) (k : Class) (x : Option ClassId) → class_at p m.class ≡ Some k → k.sup ≡ x → IsSomeAnd x (λ s. IsConstruction p b s c.constructor c.arguments.items) → IsOfClass p bound (types.Obj m.class)
      by_super m k None at sup is = absurd is
      by_super m k (Some s) at sup is = direct_class p bound typed own m.class s (sup_is_direct m.class s k at sup) (by_called s (method_at p c.constructor) is to)

      by_class : (m : Method) (x : Option Class) → class_at p m.class ≡ x → IsSomeAnd x (λ k. IsSomeAnd k.sup (λ s. IsConstruction p b s c.constructor c.arguments.items)) → IsOfClass p bound (types.Obj m.class)
      by_class m None at is = absurd is
      by_class m (Some k) at is = by_super m k k.sup at refl is

      by_method : (x : Option Method) → IsSomeAnd x (λ m. (m.kind ≡ methods.Ctor) × IsSomeAnd (class_at p m.class) (λ k. IsSomeAnd k.sup (λ s. IsConstruction p b s c.constructor c.arguments.items))) → OfClass p bound (own_type x)
      by_method None is = absurd is
      by_method (Some m) is = by_class m (class_at p m.class) refl is.1

  module _ (c : SuperCall) (d : ℕ) (pos : Pos) (is : IsSuperCall p b c) (k : List Todo) (h : ℕ → Type 0) (finds : FindsClass p bound b k (below d h)) (past : FindsAside p bound b k (below d h)) where
    abbrev on_this : ℕ → Type 0
    on_this = put_at d (OfClass p bound (own_type (method_at p b.method))) h

    abbrev all_here : ℕ → Type 0
    all_here = all_evaluated p bound b c.arguments.items (d + 1) on_this

    abbrev call_and_drop : List Todo
    call_and_drop = Act (actions.Super c.constructor d (length c.arguments.items + 1)) pos ∷ Act (actions.Drop (scopes.Temp d)) pos ∷ []

    before_call : Within (below d h) (below (d + 1) on_this)
    before_call x under = (let deep : x < d + 1 = omega (arith, under.0) in deep, inl (λ same. (let never : ⊥ = omega (arith, under.0, same) in never), under.1))

    under_call : Within (below d h) all_here
    under_call x under = under_all p bound b c.arguments.items (d + 1) on_this x (before_call x under)

    super_finds : FindsClass p bound b (super_front c d pos ++ k) h
    super_finds = in_three p bound b (Act (actions.Copy (places.Temp d) places.This) pos ∷ evaluations c.arguments.items (d + 1)) call_and_drop k h (
      tt,
      evaluations_find p bound b c.arguments.items (d + 1) (call_and_drop ++ k) on_this
          ((super_takes c (d + 1) on_this is, λ to. under_all p bound b c.arguments.items (d + 1) on_this d (deeper d, inr (refl, super_class c is to))), (tt, finds_more p bound b k (below d h) (below d (below d all_here)) (λ x under. (under.0, (under.0, under_call x under))) finds, tt), past_more p bound b k (below d h) (below d all_here) (λ x under. (under.0, under_call x under)) past)
          (past_more p bound b k (below d h) (below (d + 1) on_this) before_call past),
      tt,
    )

    super_past : FindsAside p bound b (super_front c d pos ++ k) (below d h)
    super_past =
        past_three p bound b (Act (actions.Copy (places.Temp d) places.This) pos ∷ evaluations c.arguments.items (d + 1)) call_and_drop k (below d h)
        (evaluations_past p bound b c.arguments.items (d + 1) (call_and_drop ++ k) (below d h) past)

  pub super_serves : (c : SuperCall) (d : ℕ) (pos : Pos) → IsSuperCall p b c → Serves p bound b d (super_front c d pos)
  super_serves c d pos is k h finds past = (super_finds c d pos is k h finds past, super_past c d pos is k h finds past)

  leave_serves : (s : StmtId) (d : ℕ) (pos : Pos) → Serves p bound b d (Leave (scopes.Declared s) pos ∷ [])
  leave_serves s d pos k h finds past = (all_temps d k h finds, past)

  pub statement_serves : (j : StatementKind) (s : StmtId) (d : ℕ) (pos : Pos) → IsTypedStatement p b j → Serves p bound b d (statement_front j b s d pos)
  statement_serves (statements.Block ss end) s d pos is k h finds past = both_serve d (map (λ x. Do x d) ss.items) (Leave (scopes.Declared s) pos ∷ []) (dos_serve d ss.items) (leave_serves s d pos) k h finds past
  statement_serves statements.Empty s d pos is k h finds past = none_serves d k h finds past
  statement_serves (statements.LocalDeclaration names) s d pos is k h finds past = declaration_serves d names.items is k h finds past
  statement_serves (statements.Expression e) s d pos is k h finds past = statement_expression e d pos k h finds past
  statement_serves (statements.If c x y) s d pos is k h finds past = (((more_twice d k h finds, past_twice d k h past), branch_finds y d k h finds past, past), past)
  statement_serves (statements.While c x) s d pos is k h finds past = turn_serves (conditions.Of c) x s d k h finds past
  statement_serves (statements.Do x c) s d pos is k h finds past =
      (((more_twice d k h finds, past_twice d k h past), (more_twice d k h finds, past_twice d k h past)), (more_twice d k h finds, past_twice d k h past))
  statement_serves (statements.For l) s d pos is k h finds past =
      both_serve d (initial_front b d l.initial) (For s d ∷ Leave (scopes.Declared s) pos ∷ []) (initial_serves d l.initial is.0) (for_leaves s d pos) k h finds past
    where
      for_leaves : (s : StmtId) (d : ℕ) (pos : Pos) → Serves p bound b d (For s d ∷ Leave (scopes.Declared s) pos ∷ [])
      for_leaves s d pos k h finds past = ((finds, past), past)
  statement_serves (statements.Return e) s d pos is k h finds past = return_serves e d pos is k h finds past
  statement_serves (statements.Throw e) s d pos is k h finds past =
      (((λ to. inr (refl, throwable_class p bound typed own (type_at b e) is to), finds_more p bound b k (below d h) (below d (evaluated p bound b e d h)) (λ x under. (under.0, inl under)) finds, past_more p bound b k (below d h) (below d (evaluated p bound b e d h)) (λ x under. (under.0, inl under)) past), past), past)
  statement_serves statements.Break s d pos is k h finds past = ((tt, past_more p bound b k (below d h) h (λ x under. under.1) past), past)
  statement_serves statements.Continue s d pos is k h finds past = ((tt, past_more p bound b k (below d h) h (λ x under. under.1) past), past)
  statement_serves (statements.Try t) s d pos is k h finds past = try_serves s t d is.0 k h finds past
  statement_serves (statements.SuperCall c) s d pos is k h finds past = super_serves c d pos is k h finds past
  statement_serves (statements.FieldInitializer e) s d pos is k h finds past = statement_expression e d pos k h finds past
