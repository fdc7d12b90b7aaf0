-- The variables of a body: the first of them are its parameters, and all have types that may be declared.
use Rattle.std.proofs.Common.{◌≡◌, ◌+◌, ℕ, zero, suc, Some, None, List, [], ◌∷◌, ◌++◌, All, append_assoc, length, length-append, map, zip, refl, subst, ap, arith}
use Rattle.std.proofs.lemmas.List.Elements.{All-cons, All-head, All-nil, All-tail}
use Rattle.program_model.specs.declared.kinds.VType.{VType}
use Rattle.program_model.specs.declared.program.ParamSig.{ParamSig}
use Rattle.program_model.specs.declared.program.Program.{Program}
use Rattle.program_model.specs.declared.tree.Var.{Var}
use Rattle.program_model.specs.Lookups.{type_of_variable}
use Rattle.program_model.specs.Typing.{IsDeclarable}
use Rattle.program_model.specs.Validity.{HasParameters}
use Rattle.java_syntax.specs.declared.declaration_trees.Param.{Param}
use Rattle.java_syntax.specs.AnnotationTrees.{modifier_of}
use Rattle.java_typed_trees.specs.declared.scope.Local.{Local}
use Rattle.java_variable_rules.proofs.VariableLaws.{AreTyped, IsTyped}
use Rattle.java_statement_rules.specs.DeclaredVariables.{has_final}
use Rattle.java_typing_laws.proofs.Joins.{get_behind}
use Rattle.java_typing_laws.specs.BodyVariables.{parameter_variables}
use Rattle.java_elaboration.specs.Declarations.{BodyVariable, variable_in, variable_with}
use Rattle.java_typing_laws.specs.Parameters.{parameter, parameters_from}
use Rattle.java_typing_laws.specs.TypingContexts.{IsVariableOf, type_of_number}
use Rattle.java_typing_laws.proofs.Conversions.{none_is_some, same_in}
use Rattle.java_typing_laws.specs.Scopes.{HaveTypesFrom}
use Rattle.java_typing_laws.proofs.DeclarationTyping.{is_variable_of}

-- ---- the variables by their numbers

types_behind : (before variables : List Var) → HaveTypesFrom (before ++ variables) (length before) (map variable_in variables)
types_behind before [] = tt
types_behind before (v ∷ vs) =
    let here : type_of_number (before ++ v ∷ vs) (length before) ≡ Some v.vtype = ap type_of_variable (get_behind before v vs) in
    let joined : (before ++ v ∷ []) ++ vs ≡ before ++ v ∷ vs = append_assoc before (v ∷ []) vs in
    let next : length (before ++ v ∷ []) ≡ length before + 1 = length-append before (v ∷ []) in
    let rest = types_behind (before ++ v ∷ []) vs in
    (here, subst (λ n. HaveTypesFrom (before ++ v ∷ vs) n (map variable_in vs)) next (subst (λ (all : List Var). HaveTypesFrom all (length (before ++ v ∷ [])) (map variable_in vs)) joined rest))

pub have_their_types : (variables : List Var) → HaveTypesFrom variables 0 (map variable_in variables)
have_their_types variables = types_behind [] variables

pub numbered_declarable : (p : Program) (variables : List Var) → All (λ x. IsDeclarable p x.vtype) variables → (n : ℕ) (t : VType) → type_of_number variables n ≡ Some t → IsDeclarable p t
numbered_declarable p [] h n t e = absurd (none_is_some t e)
numbered_declarable p (v ∷ vs) h zero t e = subst (IsDeclarable p) (same_in v.vtype t e) (All-head (λ x. IsDeclarable p x.vtype) v vs h)
numbered_declarable p (v ∷ vs) h (suc n) t e = numbered_declarable p vs (All-tail (λ x. IsDeclarable p x.vtype) v vs h) n t e

pub all_declarable : (p : Program) (variables : List Var) → All (λ (x : BodyVariable). IsDeclarable p x.vtype) (map variable_in variables) → All (λ (x : Var). IsDeclarable p x.vtype) variables
all_declarable p [] h = All-nil (λ (x : Var). IsDeclarable p x.vtype)
all_declarable p (v ∷ vs) h =
    All-cons (λ (x : Var). IsDeclarable p x.vtype) v vs
    (All-head (λ (x : BodyVariable). IsDeclarable p x.vtype) (variable_in v) (map variable_in vs) h)
    (all_declarable p vs (All-tail (λ (x : BodyVariable). IsDeclarable p x.vtype) (variable_in v) (map variable_in vs) h))

-- ---- parameters

-- in scope, and typed
pub record AreParameters (variables : List Var) (xs : List Local) : Type 0 where
  pub variables_of : All (IsVariableOf variables) xs
  pub typed : AreTyped xs

pub parameters_in_scope : (variables : List Var) (n : ℕ) (ws : List Param) (xs : List ParamSig) → HaveTypesFrom variables n (parameter_variables ws xs) → AreParameters variables (parameters_from n (zip ws xs))
parameters_in_scope variables n [] xs h = record { variables_of = All-nil (IsVariableOf variables); typed = All-nil (λ y. IsTyped y.variable.static_type) }
parameters_in_scope variables n (w ∷ ws) [] h = record { variables_of = All-nil (IsVariableOf variables); typed = All-nil (λ y. IsTyped y.variable.static_type) }
parameters_in_scope variables n (w ∷ ws) (x ∷ xs) h =
    let rest = parameters_in_scope variables (n + 1) ws xs h.1 in
    record {
      variables_of = All-cons (IsVariableOf variables) (parameter n w x) (parameters_from (n + 1) (zip ws xs)) (is_variable_of variables n w.name.text (Some x.vtype) (has_final (map modifier_of w.modifiers.items)) None h.0) rest.variables_of;
      typed = All-cons (λ y. IsTyped y.variable.static_type) (parameter n w x) (parameters_from (n + 1) (zip ws xs)) tt rest.typed;
    }

pub parameters_counted : (n : ℕ) (ws : List Param) (xs : List ParamSig) → length (parameter_variables ws xs) ≡ length (parameters_from n (zip ws xs))
parameters_counted n [] xs = refl
parameters_counted n (w ∷ ws) [] = refl
parameters_counted n (w ∷ ws) (x ∷ xs) = ap (λ k. suc k) (parameters_counted (n + 1) ws xs)

pub parameters_declarable : (p : Program) (ws : List Param) (xs : List ParamSig) → All (λ x. IsDeclarable p x.vtype) xs → All (λ (x : BodyVariable). IsDeclarable p x.vtype) (parameter_variables ws xs)
parameters_declarable p [] xs h = All-nil (λ (x : BodyVariable). IsDeclarable p x.vtype)
parameters_declarable p (w ∷ ws) [] h = All-nil (λ (x : BodyVariable). IsDeclarable p x.vtype)
parameters_declarable p (w ∷ ws) (x ∷ xs) h =
    All-cons (λ (y : BodyVariable). IsDeclarable p y.vtype) (variable_with (map modifier_of w.modifiers.items) w.name x.vtype) (parameter_variables ws xs)
    (All-head (λ y. IsDeclarable p y.vtype) x xs h) (parameters_declarable p ws xs (All-tail (λ y. IsDeclarable p y.vtype) x xs h))

cons_head : {X : Type 0} (x y : X) (xs ys : List X) → ◌≡◌ {A = List X} (x ∷ xs) (y ∷ ys) → x ≡ y
cons_head x y xs ys e = cc

cons_tail : {X : Type 0} (x y : X) (xs ys : List X) → ◌≡◌ {A = List X} (x ∷ xs) (y ∷ ys) → xs ≡ ys
cons_tail x y xs ys e = cc

nil_is_cons : {X : Type 0} (y : X) (ys : List X) → ◌≡◌ {A = List X} [] (y ∷ ys) → ⊥
nil_is_cons y ys e = cc

pub has_parameters : (variables : List Var) (ws : List Param) (xs : List ParamSig) (rest : List BodyVariable) → length ws ≡ length xs → map variable_in variables ≡ parameter_variables ws xs ++ rest → HasParameters variables xs
has_parameters variables ws [] rest long e = tt
has_parameters variables [] (x ∷ xs) rest long e = absurd (omega arith)
has_parameters [] (w ∷ ws) (x ∷ xs) rest long e = absurd (nil_is_cons (variable_with (map modifier_of w.modifiers.items) w.name x.vtype) (parameter_variables ws xs ++ rest) e)
has_parameters (v ∷ vs) (w ∷ ws) (x ∷ xs) rest long e =
    let first : BodyVariable = variable_with (map modifier_of w.modifiers.items) w.name x.vtype in
    let shorter : length ws ≡ length xs = omega arith in (
      ap (λ (y : BodyVariable). y.vtype) (cons_head (variable_in v) first (map variable_in vs) (parameter_variables ws xs ++ rest) e),
      has_parameters vs ws xs rest shorter (cons_tail (variable_in v) first (map variable_in vs) (parameter_variables ws xs ++ rest) e),
    )
