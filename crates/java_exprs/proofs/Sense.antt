-- A derivation's actions find values of the kinds that they take, from the first to the last.
use Rattle.std.specs.Prelude.{◌≡◌, ℕ, Bool, true, false, not, List, [], ◌∷◌, ◌++◌, map, Option, Some, None, is_some}
use Rattle.std.proofs.Common.{refl, sym, ◌∙◌, ap, subst, arith}
use Rattle.java_syntax.specs.declared.words.Effect.{Effect}
use Rattle.java_syntax.specs.declared.words.Effect.TheVariants as effect
use Rattle.java_syntax.specs.declared.symbols.Item.{Item}
use Rattle.java_syntax.specs.declared.symbols.Item.TheVariants.{Read}
use Rattle.java_syntax.specs.declared.symbols.Symbol.{Symbol}
use Rattle.java_syntax.specs.declared.actions.Action.{Action}
use Rattle.java_syntax.specs.declared.actions.Action.TheVariants as action
use Rattle.java_syntax.specs.declared.actions.TokenAction.{TokenAction}
use Rattle.java_syntax.specs.declared.actions.TokenAction.TheVariants as tokens
use Rattle.java_syntax.specs.declared.actions.ExpressionAction.{ExpressionAction}
use Rattle.java_syntax.specs.declared.actions.ExpressionAction.TheVariants as computes
use Rattle.java_syntax.specs.declared.actions.AnnotationAction.{AnnotationAction}
use Rattle.java_syntax.specs.declared.actions.AnnotationAction.TheVariants as annotations
use Rattle.java_syntax.specs.declared.actions.StatementAction.{StatementAction}
use Rattle.java_syntax.specs.declared.actions.StatementAction.TheVariants as statements
use Rattle.java_syntax.specs.declared.actions.DeclarationAction.{DeclarationAction}
use Rattle.java_syntax.specs.declared.actions.DeclarationAction.TheVariants as declarations
use Rattle.java_syntax.specs.declared.productions.Production.{Production}
use Rattle.java_syntax.specs.declared.productions.Production.TheVariants.{Declare, Compute}
use Rattle.java_syntax.specs.declared.productions.DeclarationProduction.TheVariants as declaration
use Rattle.java_syntax.specs.declared.productions.ExpressionProduction.TheVariants as expression
use Rattle.java_syntax.specs.Derives.{Lexeme, Surroundings, at_start, after, enters, allowed, may_cast, is_array_type, Step, Derives, ended, took, used, did}
use Rattle.java_syntax.specs.declared.names.Typ.{Typ}
use Rattle.java_syntax.specs.ExpressionTrees.{ExprTree}
use Rattle.java_values.specs.Values as kinds
use Rattle.java_values.specs.NestedTrees.{Nested, ParenthesizedTree, NamesInside, ArrayInside, ExpressionInside}
use Rattle.java_values.specs.Values.{Kind, ValueTree, AParenthesized}
use Rattle.java_values.specs.Kinds.{Values, ◌▷◌, bottom, Taken, with_top, taken, kind_of, IsTop, resume}
use Rattle.java_values.specs.Outcomes.{Outcome, Made, TooDeep, Misfit, ◌>>=◌, IsNoMisfit}
use Rattle.java_nodes.specs.Nodes.{parenthesized}
use Rattle.java_nodes.specs.Parts.{type_inside, expression_inside}
use Rattle.java_exprs.specs.SymbolKinds.{symbol_takes, symbol_leaves, action_takes, action_leaves, LeavesKinds}
use Rattle.java_expression_actions.specs.TokenActions.{takes_token, leaves_token, act_token, perform_token}
use Rattle.java_expression_actions.specs.ExpressionActions.{takes_expression, leaves_expression, act_expression, perform_expression}
use Rattle.java_expression_actions.specs.AnnotationActions.{takes_annotation, leaves_annotation, act_annotation, perform_annotation}
use Rattle.java_statement_actions.specs.StatementActions.{takes_statement, leaves_statement, act_statement, perform_statement}
use Rattle.java_statement_actions.specs.DeclarationActions.{takes_declaration, leaves_declaration, act_declaration, perform_declaration}
use Rattle.java_exprs.specs.Evaluation.{perform, evaluate}
use Rattle.java_values.proofs.Stacks.{has, IsFine, resume_fine, head_same, tail_same, nil_cons}
use Rattle.java_exprs.proofs.Meant.{IsMeant, made, deep, no_misfit, then_meant, node_meant, names_meant, IsPlain, token_meant, expression_meant, annotation_meant, statement_meant, declaration_meant}
use Rattle.java_exprs.proofs.TableTest.{not_inside, strip, run, strip_is, and_run_some, if_some, some_same, and_parts, run_used, run_whole, Context, nothing, behind, may_be_cast, no_array, ended_by, behind_token, behind_name, behind_array, behind_plain, casts, encloses, admits, admits_expression, guarded, context_of, guarded_used}

false_true : {A : Type 0} → false ≡ true → A
false_true h = let e : ⊥ = grind arith in absurd e

none_some : {A B : Type 0} (a : A) → None ≡ Some a → B
none_some a h = let e : ⊥ = grind arith in absurd e

made_same : {A : Type 0} (a b : A) → Made a ≡ Made b → a ≡ b
made_same a b h = grind arith

-- what the context says
abbrev pub Tells : Context → Surroundings → Option Lexeme → Type 0
Tells nothing s last = Unit {0}
Tells (behind e) s last = (s.ended ≡ e) × (is_some last ≡ true)
Tells may_be_cast s last = may_cast s.ended ≡ true
Tells no_array s last = is_array_type s.ended ≡ false

-- what parentheses hold is what their `)` ended
abbrev pub agrees : Effect → ParenthesizedTree → Type 0
agrees effect.ClosesName (NamesInside x) = Unit {0}
agrees effect.ClosesName (ArrayInside x) = ⊥
agrees effect.ClosesName (ExpressionInside x) = ⊥
agrees effect.ClosesArray (NamesInside x) = ⊥
agrees effect.ClosesArray (ArrayInside x) = Unit {0}
agrees effect.ClosesArray (ExpressionInside x) = ⊥
agrees _ (NamesInside x) = ⊥
agrees _ (ArrayInside x) = ⊥
agrees _ (ExpressionInside x) = Unit {0}

abbrev pub Agrees : Effect → List ValueTree → Type 0
Agrees e [] = Unit {0}
Agrees e (AParenthesized x ∷ vs) = agrees e x
Agrees e (_ ∷ vs) = Unit {0}

agrees_other : (e : Effect) (vs : List ValueTree) → not_inside (map kind_of vs) ≡ true → Agrees e vs
agrees_other e [] h = tt
agrees_other e (AParenthesized x ∷ vs) h = false_true h
agrees_other e (_ ∷ vs) h = tt

not_array_is : {A : Type 0} → true ≡ false → A
not_array_is h = let e : ⊥ = grind arith in absurd e

cast_meant : (e : Effect) (i : ParenthesizedTree) → may_cast e ≡ true → agrees e i → IsMeant Typ (type_inside i)
cast_meant e (NamesInside x) h k = made _
cast_meant e (ArrayInside x) h k = made _
cast_meant effect.ClosesName (ExpressionInside x) h k = absurd k
cast_meant effect.ClosesArray (ExpressionInside x) h k = absurd k
cast_meant _ (ExpressionInside x) h k = false_true h

inside_meant : (limit : ℕ) (e : Effect) (i : ParenthesizedTree) → is_array_type e ≡ false → agrees e i → IsMeant (Nested ExprTree) (expression_inside limit i)
inside_meant limit e (NamesInside x) h k = names_meant limit x
inside_meant limit e (ExpressionInside x) h k = made x
inside_meant limit effect.ClosesArray (ArrayInside x) h k = not_array_is h
inside_meant limit effect.ClosesName (ArrayInside x) h k = absurd k
inside_meant limit _ (ArrayInside x) h k = absurd k

-- what stands on top, where it is what parentheses hold
top_agrees : (e : Effect) (ks : List Kind) (vs : List ValueTree) (t : Taken (kinds.parenthesized ∷ ks)) → taken (kinds.parenthesized ∷ ks) vs ≡ Some t → Agrees e vs → (i : ParenthesizedTree) × (xs : Values ks) × (t.values ≡ i ▷ xs) × agrees e i
top_agrees e ks [] t h k = none_some t h
top_agrees e ks (AParenthesized x ∷ vs) t h k = go (taken ks vs) h
  where
    go : (o : Option (Taken ks)) → with_top kinds.parenthesized ks (Some x) o ≡ Some t → (i : ParenthesizedTree) × (xs : Values ks) × (t.values ≡ i ▷ xs) × agrees e i
    go None h = none_some t h
    go (Some r) h = (x, r.values, ap (λ (y : Taken (kinds.parenthesized ∷ ks)). y.values) (sym (some_same _ _ h)), k)
top_agrees e ks (_ ∷ vs) t h k = none_some t h

token_fine : (limit : ℕ) (t : Lexeme) (a : TokenAction) (ms : List Kind) (vs : List ValueTree) → map kind_of vs ≡ takes_token a ++ ms → IsFine (leaves_token a ++ ms) (perform_token limit t a vs)
unfolding perform_token
token_fine limit t a ms vs h = resume_fine (takes_token a) (leaves_token a) ms (act_token limit t a) vs h (λ r e. no_misfit _ (token_meant limit t a r.values))

plain_fine : (limit : ℕ) (a : ExpressionAction) (ms : List Kind) (vs : List ValueTree) → map kind_of vs ≡ takes_expression a ++ ms → IsPlain a → IsFine (leaves_expression a ++ ms) (perform_expression limit a vs)
unfolding perform_expression
plain_fine limit a ms vs h p = resume_fine (takes_expression a) (leaves_expression a) ms (act_expression limit a) vs h (λ r e. no_misfit _ (expression_meant limit a r.values p))

cast_fine : (limit : ℕ) (e : Effect) (ms : List Kind) (vs : List ValueTree) → map kind_of vs ≡ kinds.parenthesized ∷ ms → may_cast e ≡ true → Agrees e vs → IsFine (kinds.typ ∷ ms) (perform_expression limit computes.CastType vs)
unfolding perform_expression
cast_fine limit e ms vs h m k = resume_fine (kinds.parenthesized ∷ []) (kinds.typ ∷ []) ms (act_expression limit computes.CastType) vs h (λ r q.
    let p = top_agrees e [] vs r q k in
    let P : Values (kinds.parenthesized ∷ []) → Type 0 = λ xs. IsNoMisfit (act_expression limit computes.CastType xs) in
    subst P (sym p.2) (no_misfit _ (meant p.0 p.1 (cast_meant e p.0 m p.3))))
  where
    meant : (i : ParenthesizedTree) (xs : Values []) → IsMeant Typ (type_inside i) → IsMeant (Values (kinds.typ ∷ [])) (act_expression limit computes.CastType (i ▷ xs))
    meant i bottom n = then_meant (type_inside i) _ n (λ t. made _)

inside_fine : (limit : ℕ) (e : Effect) (ms : List Kind) (vs : List ValueTree) → map kind_of vs ≡ kinds.parenthesized ∷ kinds.place ∷ ms → is_array_type e ≡ false → Agrees e vs
    → IsFine (kinds.expression ∷ ms) (perform_expression limit computes.ParenthesizedExpression vs)
unfolding perform_expression
inside_fine limit e ms vs h m k = resume_fine (kinds.parenthesized ∷ kinds.place ∷ []) (kinds.expression ∷ []) ms (act_expression limit computes.ParenthesizedExpression) vs h (λ r q.
    let p = top_agrees e (kinds.place ∷ []) vs r q k in
    let P : Values (kinds.parenthesized ∷ kinds.place ∷ []) → Type 0 = λ xs. IsNoMisfit (act_expression limit computes.ParenthesizedExpression xs) in
    subst P (sym p.2) (no_misfit _ (meant p.0 p.1 (inside_meant limit e p.0 m p.3))))
  where
    meant : (i : ParenthesizedTree) (xs : Values (kinds.place ∷ [])) → IsMeant (Nested ExprTree) (expression_inside limit i) → IsMeant (Values (kinds.expression ∷ [])) (act_expression limit computes.ParenthesizedExpression (i ▷ xs))
    meant i (pos ▷ bottom) n = then_meant (expression_inside limit i) _ n (λ x. then_meant (parenthesized limit x) _ (node_meant _ _ _) (λ y. made _))

casts_is : (c : Context) (s : Surroundings) (last : Option Lexeme) → casts c ≡ true → Tells c s last → may_cast s.ended ≡ true
casts_is may_be_cast s last h t = t
casts_is _ s last h t = false_true h

encloses_is : (c : Context) (s : Surroundings) (last : Option Lexeme) → encloses c ≡ true → Tells c s last → is_array_type s.ended ≡ false
encloses_is no_array s last h t = t
encloses_is _ s last h t = false_true h

expression_fine : (limit : ℕ) (c : Context) (s : Surroundings) (last : Option Lexeme) (a : ExpressionAction) (ms : List Kind) (vs : List ValueTree) → admits_expression c a ≡ true → Tells c s last → Agrees s.ended vs
    → map kind_of vs ≡ takes_expression a ++ ms → IsFine (leaves_expression a ++ ms) (perform_expression limit a vs)
expression_fine limit c s last computes.CastType ms vs d t k h = cast_fine limit s.ended ms vs h (casts_is c s last d t) k
expression_fine limit c s last computes.ParenthesizedExpression ms vs d t k h = inside_fine limit s.ended ms vs h (encloses_is c s last d t) k
expression_fine limit c s last computes.NoExpressions ms vs d t k h = plain_fine limit computes.NoExpressions ms vs h tt
expression_fine limit c s last computes.AndExpression ms vs d t k h = plain_fine limit computes.AndExpression ms vs h tt
expression_fine limit c s last computes.SomeCall ms vs d t k h = plain_fine limit computes.SomeCall ms vs h tt
expression_fine limit c s last computes.NoCall ms vs d t k h = plain_fine limit computes.NoCall ms vs h tt
expression_fine limit c s last computes.Head ms vs d t k h = plain_fine limit computes.Head ms vs h tt
expression_fine limit c s last computes.Selector ms vs d t k h = plain_fine limit computes.Selector ms vs h tt
expression_fine limit c s last computes.SuperMethodCall ms vs d t k h = plain_fine limit computes.SuperMethodCall ms vs h tt
expression_fine limit c s last computes.NamedCall ms vs d t k h = plain_fine limit computes.NamedCall ms vs h tt
expression_fine limit c s last computes.NameExpression ms vs d t k h = plain_fine limit computes.NameExpression ms vs h tt
expression_fine limit c s last computes.Index ms vs d t k h = plain_fine limit computes.Index ms vs h tt
expression_fine limit c s last computes.NamedIndex ms vs d t k h = plain_fine limit computes.NamedIndex ms vs h tt
expression_fine limit c s last computes.NewObject ms vs d t k h = plain_fine limit computes.NewObject ms vs h tt
expression_fine limit c s last computes.NewArray ms vs d t k h = plain_fine limit computes.NewArray ms vs h tt
expression_fine limit c s last computes.NamedType ms vs d t k h = plain_fine limit computes.NamedType ms vs h tt
expression_fine limit c s last computes.IdentifiersType ms vs d t k h = plain_fine limit computes.IdentifiersType ms vs h tt
expression_fine limit c s last computes.ArrayType ms vs d t k h = plain_fine limit computes.ArrayType ms vs h tt
expression_fine limit c s last computes.ArrayOf ms vs d t k h = plain_fine limit computes.ArrayOf ms vs h tt
expression_fine limit c s last computes.Prefix ms vs d t k h = plain_fine limit computes.Prefix ms vs h tt
expression_fine limit c s last computes.PrefixIncrement ms vs d t k h = plain_fine limit computes.PrefixIncrement ms vs h tt
expression_fine limit c s last computes.Cast ms vs d t k h = plain_fine limit computes.Cast ms vs h tt
expression_fine limit c s last computes.Parentheses ms vs d t k h = plain_fine limit computes.Parentheses ms vs h tt
expression_fine limit c s last computes.NamesInside ms vs d t k h = plain_fine limit computes.NamesInside ms vs h tt
expression_fine limit c s last computes.ArrayInside ms vs d t k h = plain_fine limit computes.ArrayInside ms vs h tt
expression_fine limit c s last computes.ExpressionInside ms vs d t k h = plain_fine limit computes.ExpressionInside ms vs h tt
expression_fine limit c s last computes.BeginOperations ms vs d t k h = plain_fine limit computes.BeginOperations ms vs h tt
expression_fine limit c s last computes.EndOperations ms vs d t k h = plain_fine limit computes.EndOperations ms vs h tt
expression_fine limit c s last computes.InstanceOf ms vs d t k h = plain_fine limit computes.InstanceOf ms vs h tt
expression_fine limit c s last computes.Conditional ms vs d t k h = plain_fine limit computes.Conditional ms vs h tt
expression_fine limit c s last computes.Assignment ms vs d t k h = plain_fine limit computes.Assignment ms vs h tt
expression_fine limit c s last computes.CompoundAssignment ms vs d t k h = plain_fine limit computes.CompoundAssignment ms vs h tt
expression_fine limit c s last computes.LeavePlace ms vs d t k h = plain_fine limit computes.LeavePlace ms vs h tt

annotation_fine : (limit : ℕ) (a : AnnotationAction) (ms : List Kind) (vs : List ValueTree) → map kind_of vs ≡ takes_annotation a ++ ms → IsFine (leaves_annotation a ++ ms) (perform_annotation limit a vs)
unfolding perform_annotation
annotation_fine limit a ms vs h = resume_fine (takes_annotation a) (leaves_annotation a) ms (act_annotation limit a) vs h (λ r e. no_misfit _ (annotation_meant limit a r.values))

statement_fine : (limit : ℕ) (a : StatementAction) (ms : List Kind) (vs : List ValueTree) → map kind_of vs ≡ takes_statement a ++ ms → IsFine (leaves_statement a ++ ms) (perform_statement limit a vs)
unfolding perform_statement
statement_fine limit a ms vs h = resume_fine (takes_statement a) (leaves_statement a) ms (act_statement limit a) vs h (λ r e. no_misfit _ (statement_meant limit a r.values))

declaration_fine : (limit : ℕ) (a : DeclarationAction) (ms : List Kind) (vs : List ValueTree) → map kind_of vs ≡ takes_declaration a ++ ms → IsFine (leaves_declaration a ++ ms) (perform_declaration limit a vs)
unfolding perform_declaration
declaration_fine limit a ms vs h = resume_fine (takes_declaration a) (leaves_declaration a) ms (act_declaration limit a) vs h (λ r e. no_misfit _ (declaration_meant limit a r.values))

with_token : (limit : ℕ) (c : Context) (s : Surroundings) (last : Option Lexeme) (a : TokenAction) (ms : List Kind) (vs : List ValueTree) → behind_token c ≡ true → Tells c s last
    → map kind_of vs ≡ takes_token a ++ ms → IsFine (leaves_token a ++ ms) (perform limit (action.Token a) last vs)
with_token limit (behind e) s (Some t) a ms vs d k h = token_fine limit t a ms vs h
with_token limit (behind e) s None a ms vs d k h = false_true k.1
with_token limit _ s last a ms vs d k h = false_true d

pub perform_fine : (limit : ℕ) (c : Context) (s : Surroundings) (last : Option Lexeme) (a : Action) (ms : List Kind) (vs : List ValueTree) → admits c a ≡ true → Tells c s last → Agrees s.ended vs
    → map kind_of vs ≡ action_takes a ++ ms → IsFine (action_leaves a ++ ms) (perform limit a last vs)
perform_fine limit c s last (action.Token a) ms vs d t k h = with_token limit c s last a ms vs d t h
perform_fine limit c s None (action.Compute a) ms vs d t k h = expression_fine limit c s None a ms vs d t k h
perform_fine limit c s (Some l) (action.Compute a) ms vs d t k h = expression_fine limit c s (Some l) a ms vs d t k h
perform_fine limit c s None (action.Annotate a) ms vs d t k h = annotation_fine limit a ms vs h
perform_fine limit c s (Some l) (action.Annotate a) ms vs d t k h = annotation_fine limit a ms vs h
perform_fine limit c s None (action.State a) ms vs d t k h = statement_fine limit a ms vs h
perform_fine limit c s (Some l) (action.State a) ms vs d t k h = statement_fine limit a ms vs h
perform_fine limit c s None (action.Declare a) ms vs d t k h = declaration_fine limit a ms vs h
perform_fine limit c s (Some l) (action.Declare a) ms vs d t k h = declaration_fine limit a ms vs h

-- What an action that looks into parentheses leaves agrees with what their `)` ended; no other leaves such a value on top.
names_agree : (limit : ℕ) (ms : List Kind) (vs ws : List ValueTree) → map kind_of vs ≡ kinds.identifiers ∷ ms → perform_expression limit computes.NamesInside vs ≡ Made ws → Agrees effect.ClosesName ws
unfolding perform_expression
names_agree limit ms vs ws h m = let r = has (kinds.identifiers ∷ []) ms vs h in go r.got.values r.got.rest r.taken_is
  where
    go : (xs : Values (kinds.identifiers ∷ [])) (rest : List ValueTree) → taken (kinds.identifiers ∷ []) vs ≡ Some (record { values = xs; rest = rest }) → Agrees effect.ClosesName ws
    go (x ▷ bottom) rest e = let q = sym (ap (λ o. resume (kinds.identifiers ∷ []) (kinds.parenthesized ∷ []) (act_expression limit computes.NamesInside) o) e) ∙ m in
        subst (λ y. Agrees effect.ClosesName y) (made_same (AParenthesized (NamesInside x) ∷ rest) ws q) tt

array_agrees : (limit : ℕ) (ms : List Kind) (vs ws : List ValueTree) → map kind_of vs ≡ kinds.typ ∷ ms → perform_expression limit computes.ArrayInside vs ≡ Made ws → Agrees effect.ClosesArray ws
unfolding perform_expression
array_agrees limit ms vs ws h m = let r = has (kinds.typ ∷ []) ms vs h in go r.got.values r.got.rest r.taken_is
  where
    go : (xs : Values (kinds.typ ∷ [])) (rest : List ValueTree) → taken (kinds.typ ∷ []) vs ≡ Some (record { values = xs; rest = rest }) → Agrees effect.ClosesArray ws
    go (x ▷ bottom) rest e = let q = sym (ap (λ o. resume (kinds.typ ∷ []) (kinds.parenthesized ∷ []) (act_expression limit computes.ArrayInside) o) e) ∙ m in
        subst (λ y. Agrees effect.ClosesArray y) (made_same (AParenthesized (ArrayInside x) ∷ rest) ws q) tt

expression_agrees : (limit : ℕ) (ms : List Kind) (vs ws : List ValueTree) → map kind_of vs ≡ kinds.expression ∷ ms → perform_expression limit computes.ExpressionInside vs ≡ Made ws → Agrees effect.Passes ws
unfolding perform_expression
expression_agrees limit ms vs ws h m = let r = has (kinds.expression ∷ []) ms vs h in go r.got.values r.got.rest r.taken_is
  where
    go : (xs : Values (kinds.expression ∷ [])) (rest : List ValueTree) → taken (kinds.expression ∷ []) vs ≡ Some (record { values = xs; rest = rest }) → Agrees effect.Passes ws
    go (x ▷ bottom) rest e = let q = sym (ap (λ o. resume (kinds.expression ∷ []) (kinds.parenthesized ∷ []) (act_expression limit computes.ExpressionInside) o) e) ∙ m in
        subst (λ y. Agrees effect.Passes y) (made_same (AParenthesized (ExpressionInside x) ∷ rest) ws q) tt

name_is : (c : Context) (s : Surroundings) (last : Option Lexeme) → behind_name c ≡ true → Tells c s last → s.ended ≡ effect.ClosesName
name_is (behind effect.ClosesName) s last h t = t.0
name_is _ s last h t = false_true h

array_is : (c : Context) (s : Surroundings) (last : Option Lexeme) → behind_array c ≡ true → Tells c s last → s.ended ≡ effect.ClosesArray
array_is (behind effect.ClosesArray) s last h t = t.0
array_is _ s last h t = false_true h

plain_is : (c : Context) (s : Surroundings) (last : Option Lexeme) → behind_plain c ≡ true → Tells c s last → s.ended ≡ effect.Passes
plain_is (behind effect.Passes) s last h t = t.0
plain_is _ s last h t = false_true h

leaves_other : (ks : List Kind) (e : Effect) (ws : List ValueTree) → map kind_of ws ≡ ks → not_inside ks ≡ true → Agrees e ws
leaves_other ks e ws h n = agrees_other e ws (ap not_inside h ∙ n)

compute_agrees : (limit : ℕ) (c : Context) (s : Surroundings) (last : Option Lexeme) (a : ExpressionAction) (ms : List Kind) (vs ws : List ValueTree) → admits_expression c a ≡ true → Tells c s last
    → map kind_of vs ≡ takes_expression a ++ ms → perform_expression limit a vs ≡ Made ws → map kind_of ws ≡ leaves_expression a ++ ms → Agrees s.ended ws
compute_agrees limit c s last computes.NamesInside ms vs ws d t h m k = subst (λ e. Agrees e ws) (sym (name_is c s last d t)) (names_agree limit ms vs ws h m)
compute_agrees limit c s last computes.ArrayInside ms vs ws d t h m k = subst (λ e. Agrees e ws) (sym (array_is c s last d t)) (array_agrees limit ms vs ws h m)
compute_agrees limit c s last computes.ExpressionInside ms vs ws d t h m k = subst (λ e. Agrees e ws) (sym (plain_is c s last d t)) (expression_agrees limit ms vs ws h m)
compute_agrees limit c s last computes.NoExpressions ms vs ws d t h m k = leaves_other _ s.ended ws k refl
compute_agrees limit c s last computes.AndExpression ms vs ws d t h m k = leaves_other _ s.ended ws k refl
compute_agrees limit c s last computes.SomeCall ms vs ws d t h m k = leaves_other _ s.ended ws k refl
compute_agrees limit c s last computes.NoCall ms vs ws d t h m k = leaves_other _ s.ended ws k refl
compute_agrees limit c s last computes.Head ms vs ws d t h m k = leaves_other _ s.ended ws k refl
compute_agrees limit c s last computes.Selector ms vs ws d t h m k = leaves_other _ s.ended ws k refl
compute_agrees limit c s last computes.SuperMethodCall ms vs ws d t h m k = leaves_other _ s.ended ws k refl
compute_agrees limit c s last computes.NamedCall ms vs ws d t h m k = leaves_other _ s.ended ws k refl
compute_agrees limit c s last computes.NameExpression ms vs ws d t h m k = leaves_other _ s.ended ws k refl
compute_agrees limit c s last computes.Index ms vs ws d t h m k = leaves_other _ s.ended ws k refl
compute_agrees limit c s last computes.NamedIndex ms vs ws d t h m k = leaves_other _ s.ended ws k refl
compute_agrees limit c s last computes.NewObject ms vs ws d t h m k = leaves_other _ s.ended ws k refl
compute_agrees limit c s last computes.NewArray ms vs ws d t h m k = leaves_other _ s.ended ws k refl
compute_agrees limit c s last computes.NamedType ms vs ws d t h m k = leaves_other _ s.ended ws k refl
compute_agrees limit c s last computes.IdentifiersType ms vs ws d t h m k = leaves_other _ s.ended ws k refl
compute_agrees limit c s last computes.ArrayType ms vs ws d t h m k = leaves_other _ s.ended ws k refl
compute_agrees limit c s last computes.ArrayOf ms vs ws d t h m k = leaves_other _ s.ended ws k refl
compute_agrees limit c s last computes.Prefix ms vs ws d t h m k = leaves_other _ s.ended ws k refl
compute_agrees limit c s last computes.PrefixIncrement ms vs ws d t h m k = leaves_other _ s.ended ws k refl
compute_agrees limit c s last computes.Cast ms vs ws d t h m k = leaves_other _ s.ended ws k refl
compute_agrees limit c s last computes.Parentheses ms vs ws d t h m k = leaves_other _ s.ended ws k refl
compute_agrees limit c s last computes.CastType ms vs ws d t h m k = leaves_other _ s.ended ws k refl
compute_agrees limit c s last computes.ParenthesizedExpression ms vs ws d t h m k = leaves_other _ s.ended ws k refl
compute_agrees limit c s last computes.BeginOperations ms vs ws d t h m k = leaves_other _ s.ended ws k refl
compute_agrees limit c s last computes.EndOperations ms vs ws d t h m k = leaves_other _ s.ended ws k refl
compute_agrees limit c s last computes.InstanceOf ms vs ws d t h m k = leaves_other _ s.ended ws k refl
compute_agrees limit c s last computes.Conditional ms vs ws d t h m k = leaves_other _ s.ended ws k refl
compute_agrees limit c s last computes.Assignment ms vs ws d t h m k = leaves_other _ s.ended ws k refl
compute_agrees limit c s last computes.CompoundAssignment ms vs ws d t h m k = leaves_other _ s.ended ws k refl
compute_agrees limit c s last computes.LeavePlace ms vs ws d t h m k = leaves_other _ s.ended ws k refl

token_leaves : (a : TokenAction) (ms : List Kind) → not_inside (leaves_token a ++ ms) ≡ true
token_leaves tokens.Place ms = refl
token_leaves _ ms = refl

annotation_leaves : (a : AnnotationAction) (ms : List Kind) → not_inside (leaves_annotation a ++ ms) ≡ true
annotation_leaves annotations.NoArguments ms = refl
annotation_leaves _ ms = refl

statement_leaves : (a : StatementAction) (ms : List Kind) → not_inside (leaves_statement a ++ ms) ≡ true
statement_leaves statements.FirstVariable ms = refl
statement_leaves _ ms = refl

declaration_leaves : (a : DeclarationAction) (ms : List Kind) → not_inside (leaves_declaration a ++ ms) ≡ true
declaration_leaves declarations.NoName ms = refl
declaration_leaves _ ms = refl

pub action_agrees : (limit : ℕ) (c : Context) (s : Surroundings) (last : Option Lexeme) (a : Action) (ms : List Kind) (vs ws : List ValueTree) → admits c a ≡ true → Tells c s last
    → map kind_of vs ≡ action_takes a ++ ms → perform limit a last vs ≡ Made ws → map kind_of ws ≡ action_leaves a ++ ms → Agrees s.ended ws
action_agrees limit c s last (action.Token a) ms vs ws d t h m k = leaves_other _ s.ended ws k (token_leaves a ms)
action_agrees limit c s None (action.Compute a) ms vs ws d t h m k = compute_agrees limit c s None a ms vs ws d t h m k
action_agrees limit c s (Some l) (action.Compute a) ms vs ws d t h m k = compute_agrees limit c s (Some l) a ms vs ws d t h m k
action_agrees limit c s last (action.Annotate a) ms vs ws d t h m k = leaves_other _ s.ended ws k (annotation_leaves a ms)
action_agrees limit c s last (action.State a) ms vs ws d t h m k = leaves_other _ s.ended ws k (statement_leaves a ms)
action_agrees limit c s last (action.Declare a) ms vs ws d t h m k = leaves_other _ s.ended ws k (declaration_leaves a ms)

ended_after : (e : Effect) (t : Lexeme) (s : Surroundings) → (after e t s).ended ≡ ended_by e
ended_after effect.Adds t s = refl
ended_after _ t s = refl

ended_enters : (p : Production) (s : Surroundings) → (enters p s).ended ≡ s.ended
ended_enters (Declare declaration.ModifiedType) s = refl
ended_enters _ s = refl

not_true : (a : Bool) → not a ≡ true → a ≡ false
not_true true h = false_true h
not_true false h = refl

tells_of : (p : Production) (s : Surroundings) (last : Option Lexeme) → allowed p s ≡ true → Tells (context_of p) (enters p s) last
tells_of (Compute expression.CastExpression) s last h = h
tells_of (Compute expression.CastOf) s last h = h
tells_of (Compute expression.ParenthesesExpression) s last h = not_true (is_array_type s.ended) h
tells_of (Compute expression.ParenthesesOf) s last h = not_true (is_array_type s.ended) h
tells_of _ s last h = tt

-- The actions of a derivation find values of the kinds that they take, and leave those that the items say.
pub sense : (limit : ℕ) {s : Surroundings} {is : List Item} {ts : List Lexeme} {es : List Step} → Derives s is ts es → (c : Context) (last : Option Lexeme) (vs : List ValueTree) (ks goal : List Kind)
    → run ks is ≡ Some goal → guarded c is ≡ true → Tells c s last → Agrees s.ended vs → map kind_of vs ≡ ks → IsFine goal (evaluate limit es last vs)
sense limit (ended s) c last vs ks goal r g t k h = h ∙ some_same ks goal r
sense limit (took s w e t {is = is} q d) c last vs ks goal r g t' k h =
    let p = if_some (not_inside ks) (run ks is) goal r in
    sense limit d (behind (ended_by e)) (Some t) vs ks goal p.1 g (ended_after e t s, refl) (agrees_other (after e t s).ended vs (ap not_inside h ∙ p.0)) h
sense limit (used s x a {is = is} q m d) c last vs ks goal r g t k h =
    let R : Symbol → Type 0 = λ y. run ks (Read y ∷ is) ≡ Some goal in
    let n = and_parts (allowed a s) _ m in
    sense limit d (context_of a) last vs ks goal (run_used a ks is goal (subst R (sym q) r)) (guarded_used a is g) (tells_of a s last n.0) (subst (λ e. Agrees e vs) (sym (ended_enters a s)) k) h
sense limit (did s a {is = is} {es = es} d) c last vs ks goal r g t k h =
    let p = and_run_some (strip (action_takes a) ks) (λ ms. run (action_leaves a ++ ms) is) goal r in
    let n = and_parts (admits c a) (guarded c is) g in
    let e = h ∙ strip_is (action_takes a) ks p.0 p.1 in
    go p.0 n.0 e (λ ws f y. sense limit d c last ws (action_leaves a ++ p.0) goal p.2 n.1 t y f) (perform limit a last vs) refl (perform_fine limit c s last a p.0 vs n.0 t k e)
  where
    go : (ms : List Kind) → admits c a ≡ true → map kind_of vs ≡ action_takes a ++ ms
        → ((ws : List ValueTree) → map kind_of ws ≡ action_leaves a ++ ms → Agrees s.ended ws → IsFine goal (evaluate limit es last ws))
        → (o : Outcome (List ValueTree)) → perform limit a last vs ≡ o → IsFine (action_leaves a ++ ms) o → IsFine goal (o >>= (λ ws. evaluate limit es last ws))
    go ms n e rec (Made ws) q f = rec ws f (action_agrees limit c s last a ms vs ws n t e q f)
    go ms n e rec TooDeep q f = tt
    go ms n e rec Misfit q f = absurd f

-- The derivation of a symbol leaves values of the symbol's kinds, unless it is too deep.
pub whole : (limit : ℕ) (stub : Bool) (x : Symbol) (ts : List Lexeme) (es : List Step) (vs : List ValueTree) → Derives (at_start stub) (Read x ∷ []) ts es → map kind_of vs ≡ symbol_takes x → not_inside (symbol_takes x) ≡ true
    → IsFine (symbol_leaves x) (evaluate limit es None vs)
whole limit stub x ts es vs d h n = sense limit d nothing None vs (symbol_takes x) (symbol_leaves x) (run_whole x) refl tt (agrees_other (at_start stub).ended vs (ap not_inside h ∙ n)) h

pub fine_meant : (ks : List Kind) (o : Outcome (List ValueTree)) → IsFine ks o → IsNoMisfit o
fine_meant ks (Made s) h = tt
fine_meant ks TooDeep h = tt
fine_meant ks Misfit h = h

pub fine_kinds : (ks : List Kind) (o : Outcome (List ValueTree)) (s : List ValueTree) → IsFine ks o → o ≡ Made s → map kind_of s ≡ ks
fine_kinds ks o s h e = subst (λ y. IsFine ks y) e h

pub top_of : (k : Kind) (ks : List Kind) (s : List ValueTree) → map kind_of s ≡ k ∷ ks → IsTop k s
top_of k ks [] h = nil_cons k ks h
top_of k ks (v ∷ s) h = ap (λ y. Some y) (head_same (kind_of v) k (map kind_of s) ks h)

-- nothing stands below the only value
pub alone : (k : Kind) (v : ValueTree) (s r : List ValueTree) → map kind_of s ≡ k ∷ [] → s ≡ v ∷ r → r ≡ []
alone k v s [] h e = refl
alone k v s (w ∷ r) h e = let p : kind_of v ∷ kind_of w ∷ map kind_of r ≡ k ∷ [] = sym (ap (map kind_of) e) ∙ h in cons_nil (kind_of w) (map kind_of r) (tail_same (kind_of v) k (kind_of w ∷ map kind_of r) [] p)
  where
    cons_nil : {A : Type 0} (l : Kind) (ls : List Kind) → l ∷ ls ≡ [] → A
    cons_nil l ls h = nil_cons l ls (sym h)

-- the same of a stack
top_plain : (vs : List ValueTree) → (IsTop kinds.parenthesized vs → ⊥) → not_inside (map kind_of vs) ≡ true
top_plain [] h = refl
top_plain (AParenthesized x ∷ s) h = absurd (h refl)
top_plain (_ ∷ s) h = refl

fine_leaves : (ks : List Kind) (o : Outcome (List ValueTree)) → IsFine ks o → LeavesKinds ks o
fine_leaves ks (Made s) h = h
fine_leaves ks TooDeep h = h
fine_leaves ks Misfit h = h

pub whole_leaves : (limit : ℕ) (stub : Bool) (x : Symbol) (ts : List Lexeme) (es : List Step) (vs : List ValueTree) → Derives (at_start stub) (Read x ∷ []) ts es → map kind_of vs ≡ symbol_takes x → (IsTop kinds.parenthesized vs → ⊥)
    → LeavesKinds (symbol_leaves x) (evaluate limit es None vs)
whole_leaves limit stub x ts es vs d h n = fine_leaves _ _ (whole limit stub x ts es vs d h (sym (ap not_inside h) ∙ top_plain vs n))
