-- The kinds fit: one test of the whole table, which is evaluated once.
use Rattle.std.specs.Prelude.{◌≡◌, ℕ, Bool, true, false, not, ◌&&◌, ◌==◌, if◌then◌else◌, List, [], ◌∷◌, ◌++◌, get_or, Option, Some, None}
use Rattle.std.proofs.lemmas.Bool.{eqb-true, eq-eqb}
use Rattle.std.proofs.Common.{refl, sym, ◌∙◌, ap, arith, append_assoc, append-nil}
use Rattle.java_syntax.specs.declared.words.Effect.{Effect}
use Rattle.java_syntax.specs.declared.words.Effect.TheVariants as effect
use Rattle.java_syntax.specs.declared.symbols.Symbol.{Symbol}
use Rattle.java_syntax.specs.declared.symbols.Item.{Item}
use Rattle.java_syntax.specs.declared.symbols.Item.TheVariants.{Take, Read, Do}
use Rattle.java_syntax.specs.declared.actions.Action.{Action}
use Rattle.java_syntax.specs.declared.actions.Action.TheVariants as action
use Rattle.java_syntax.specs.declared.actions.ExpressionAction.{ExpressionAction}
use Rattle.java_syntax.specs.declared.actions.ExpressionAction.TheVariants as computes
use Rattle.java_syntax.specs.declared.productions.Production.{Production}
use Rattle.java_syntax.specs.declared.productions.Production.TheVariants.{Declare, State, Compute}
use Rattle.java_syntax.specs.declared.productions.DeclarationProduction.{DeclarationProduction}
use Rattle.java_syntax.specs.declared.productions.DeclarationProduction.TheVariants as declaration
use Rattle.java_syntax.specs.declared.productions.StatementProduction.{StatementProduction}
use Rattle.java_syntax.specs.declared.productions.StatementProduction.TheVariants as statement
use Rattle.java_syntax.specs.declared.productions.ExpressionProduction.{ExpressionProduction}
use Rattle.java_syntax.specs.declared.productions.ExpressionProduction.TheVariants as expression
use Rattle.java_syntax.specs.Table.{body_of, head_of}
use Rattle.java_values.specs.Values as kinds
use Rattle.java_values.specs.Values.{Kind}
use Rattle.java_exprs.specs.SymbolKinds.{symbol_takes, symbol_leaves, action_takes, action_leaves}

abbrev pub rank : Kind → ℕ
rank kinds.place = 0
rank kinds.token = 1
rank kinds.name = 2
rank kinds.optional_name = 3
rank kinds.identifiers = 4
rank kinds.names = 5
rank kinds.typ = 6
rank kinds.optional_type = 7
rank kinds.expression = 8
rank kinds.optional_expression = 9
rank kinds.expressions = 10
rank kinds.call = 11
rank kinds.operations = 12
rank kinds.parenthesized = 13
rank kinds.annotation = 14
rank kinds.annotations = 15
rank kinds.arguments = 16
rank kinds.annotation_value = 17
rank kinds.annotation_values = 18
rank kinds.modifiers = 19
rank kinds.variables = 20
rank kinds.local = 21
rank kinds.statement = 22
rank kinds.statements = 23
rank kinds.block = 24
rank kinds.for_start = 25
rank kinds.resources = 26
rank kinds.catches = 27
rank kinds.parameters = 28
rank kinds.super_call = 29
rank kinds.constructor_body = 30
rank kinds.members = 31
rank kinds.types = 32
rank kinds.imports = 33
rank kinds.unit = 34
rank kinds.units = 35

unfoldable all_kinds : List Kind
all_kinds = kinds.place ∷ kinds.token ∷ kinds.name ∷ kinds.optional_name ∷ kinds.identifiers ∷ kinds.names ∷ kinds.typ ∷ kinds.optional_type ∷ kinds.expression ∷ kinds.optional_expression ∷ kinds.expressions ∷ kinds.call ∷ kinds.operations ∷ kinds.parenthesized ∷ kinds.annotation ∷ kinds.annotations ∷ kinds.arguments ∷ kinds.annotation_value ∷ kinds.annotation_values ∷ kinds.modifiers ∷ kinds.variables ∷ kinds.local ∷ kinds.statement ∷ kinds.statements ∷ kinds.block ∷ kinds.for_start ∷ kinds.resources ∷ kinds.catches ∷ kinds.parameters ∷ kinds.super_call ∷ kinds.constructor_body ∷ kinds.members ∷ kinds.types ∷ kinds.imports ∷ kinds.unit ∷ kinds.units ∷ []

kind_at : (k : Kind) → get_or all_kinds (rank k) kinds.place ≡ k
unfolding all_kinds
kind_at kinds.place = refl
kind_at _ = refl

abbrev pub same : Kind → Kind → Bool
same k l = rank k == rank l

same_is : (k l : Kind) → same k l ≡ true → k ≡ l
same_is k l h = sym (kind_at k) ∙ ap (λ n. get_or all_kinds n kinds.place) (eqb-true _ _ h) ∙ kind_at l

-- without these kinds at its head
abbrev pub strip : List Kind → List Kind → Option (List Kind)
strip [] ls = Some ls
strip (k ∷ ks) [] = None
strip (k ∷ ks) (l ∷ ls) = if same k l then strip ks ls else None

-- what parentheses hold is not on top
abbrev pub not_inside : List Kind → Bool
not_inside [] = true
not_inside (kinds.parenthesized ∷ ks) = false
not_inside (_ ∷ ks) = true

abbrev pub and_run : {A : Type 0} → Option A → (A → Option (List Kind)) → Option (List Kind)
and_run None f = None
and_run (Some a) f = f a

-- the kinds behind these items
abbrev pub run : List Kind → List Item → Option (List Kind)
run ks [] = Some ks
run ks (Take w e ∷ is) = if not_inside ks then run ks is else None
run ks (Read x ∷ is) = and_run (strip (symbol_takes x) ks) (λ ms. if not_inside ms then run (symbol_leaves x ++ ms) is else None)
run ks (Do a ∷ is) = and_run (strip (action_takes a) ks) (λ ms. run (action_leaves a ++ ms) is)

fits_declaration : (p : DeclarationProduction) → run (symbol_takes (head_of (Declare p))) (body_of (Declare p)) ≡ Some (symbol_leaves (head_of (Declare p)))
fits_declaration declaration.UnitOf = refl
fits_declaration _ = refl

fits_statement : (p : StatementProduction) → run (symbol_takes (head_of (State p))) (body_of (State p)) ≡ Some (symbol_leaves (head_of (State p)))
fits_statement statement.BlockOf = refl
fits_statement _ = refl

fits_expression : (p : ExpressionProduction) → run (symbol_takes (head_of (Compute p))) (body_of (Compute p)) ≡ Some (symbol_leaves (head_of (Compute p)))
fits_expression expression.NameExpression = refl
fits_expression _ = refl

pub fits_well : (p : Production) → run (symbol_takes (head_of p)) (body_of p) ≡ Some (symbol_leaves (head_of p))
fits_well (Declare p) = fits_declaration p
fits_well (State p) = fits_statement p
fits_well (Compute p) = fits_expression p

-- What is known where an action's turn comes: what the last token ended, where only actions came since; or what a production that may be used says of what ended last.
pub data Context : Type 0 where
  nothing : Context
  behind : Effect → Context
  may_be_cast : Context
  no_array : Context

abbrev pub ended_by : Effect → Effect
ended_by effect.Adds = effect.Passes
ended_by effect.NamesClass = effect.Passes
ended_by effect.NamesMember = effect.Passes
ended_by e = e

abbrev pub behind_token : Context → Bool
behind_token (behind e) = true
behind_token _ = false

abbrev pub behind_name : Context → Bool
behind_name (behind effect.ClosesName) = true
behind_name _ = false

abbrev pub behind_array : Context → Bool
behind_array (behind effect.ClosesArray) = true
behind_array _ = false

abbrev pub behind_plain : Context → Bool
behind_plain (behind effect.Passes) = true
behind_plain _ = false

abbrev pub casts : Context → Bool
casts may_be_cast = true
casts _ = false

abbrev pub encloses : Context → Bool
encloses no_array = true
encloses _ = false

abbrev pub admits_expression : Context → ExpressionAction → Bool
admits_expression c computes.NamesInside = behind_name c
admits_expression c computes.ArrayInside = behind_array c
admits_expression c computes.ExpressionInside = behind_plain c
admits_expression c computes.CastType = casts c
admits_expression c computes.ParenthesizedExpression = encloses c
admits_expression c _ = true

-- may the action be done there?
abbrev pub admits : Context → Action → Bool
admits c (action.Token a) = behind_token c
admits c (action.Compute a) = admits_expression c a
admits c (action.Annotate a) = true
admits c (action.State a) = true
admits c (action.Declare a) = true

abbrev pub guarded : Context → List Item → Bool
guarded c [] = true
guarded c (Take w e ∷ is) = guarded (behind (ended_by e)) is
guarded c (Read x ∷ is) = guarded nothing is
guarded c (Do a ∷ is) = admits c a && guarded c is

abbrev pub context_of : Production → Context
context_of (Compute expression.CastExpression) = may_be_cast
context_of (Compute expression.CastOf) = may_be_cast
context_of (Compute expression.ParenthesesExpression) = no_array
context_of (Compute expression.ParenthesesOf) = no_array
context_of _ = nothing

guarded_declaration : (p : DeclarationProduction) → guarded (context_of (Declare p)) (body_of (Declare p)) ≡ true
guarded_declaration declaration.UnitOf = refl
guarded_declaration _ = refl

guarded_statement : (p : StatementProduction) → guarded (context_of (State p)) (body_of (State p)) ≡ true
guarded_statement statement.BlockOf = refl
guarded_statement _ = refl

guarded_expression : (p : ExpressionProduction) → guarded (context_of (Compute p)) (body_of (Compute p)) ≡ true
guarded_expression expression.NameExpression = refl
guarded_expression _ = refl

pub guarded_well : (p : Production) → guarded (context_of p) (body_of p) ≡ true
guarded_well (Declare p) = guarded_declaration p
guarded_well (State p) = guarded_statement p
guarded_well (Compute p) = guarded_expression p

false_true : {A : Type 0} → false ≡ true → A
false_true h = let e : ⊥ = grind arith in absurd e

none_some : {A B : Type 0} (a : A) → None ≡ Some a → B
none_some a h = let e : ⊥ = grind arith in absurd e

pub some_same : {A : Type 0} (a b : A) → Some a ≡ Some b → a ≡ b
some_same a b h = grind arith

pub and_parts : (a b : Bool) → (a && b) ≡ true → (a ≡ true) × (b ≡ true)
and_parts true b h = (refl, h)
and_parts false b h = false_true h

and_both : (a b : Bool) → a ≡ true → b ≡ true → (a && b) ≡ true
and_both a b h k = rw (h, k) refl

pub if_some : (b : Bool) (o : Option (List Kind)) (ks : List Kind) → (if b then o else None) ≡ Some ks → (b ≡ true) × (o ≡ Some ks)
if_some true o ks h = (refl, h)
if_some false o ks h = none_some ks h

if_true : (b : Bool) (o : Option (List Kind)) → b ≡ true → (if b then o else None) ≡ o
if_true b o h = rw h refl

pub and_run_some : {A : Type 0} (o : Option A) (f : A → Option (List Kind)) (ks : List Kind) → and_run o f ≡ Some ks → (a : A) × (o ≡ Some a) × (f a ≡ Some ks)
and_run_some None f ks h = none_some ks h
and_run_some (Some a) f ks h = (a, refl, h)

run_by : {A : Type 0} (o : Option A) (f : A → Option (List Kind)) (a : A) → o ≡ Some a → and_run o f ≡ f a
run_by o f a h = ap (λ x. and_run x f) h

pub strip_is : (ks ls ms : List Kind) → strip ks ls ≡ Some ms → ls ≡ ks ++ ms
strip_is [] ls ms h = some_same ls ms h
strip_is (k ∷ ks) [] ms h = none_some ms h
strip_is (k ∷ ks) (l ∷ ls) ms h =
    let p = if_some (same k l) (strip ks ls) ms h in
    ap (λ x. x ∷ ls) (sym (same_is k l p.0)) ∙ ap (λ y. k ∷ y) (strip_is ks ls ms p.1)

strip_more : (ks ls ms ns : List Kind) → strip ks ls ≡ Some ms → strip ks (ls ++ ns) ≡ Some (ms ++ ns)
strip_more [] ls ms ns h = ap (λ x. Some (x ++ ns)) (some_same ls ms h)
strip_more (k ∷ ks) [] ms ns h = none_some ms h
strip_more (k ∷ ks) (l ∷ ls) ms ns h =
    let p = if_some (same k l) (strip ks ls) ms h in
    if_true (same k l) (strip ks (ls ++ ns)) p.0 ∙ strip_more ks ls ms ns p.1

not_inside_more : (ks ns : List Kind) → not_inside ks ≡ true → not_inside ns ≡ true → not_inside (ks ++ ns) ≡ true
not_inside_more [] ns h k = k
not_inside_more (kinds.parenthesized ∷ ks) ns h k = false_true h
not_inside_more (_ ∷ ks) ns h k = refl

-- what is below stays below
run_more : (ks : List Kind) (is : List Item) (ls ns : List Kind) → not_inside ns ≡ true → run ks is ≡ Some ls → run (ks ++ ns) is ≡ Some (ls ++ ns)
run_more ks [] ls ns n h = ap (λ x. Some (x ++ ns)) (some_same ks ls h)
run_more ks (Take w e ∷ is) ls ns n h =
    let p = if_some (not_inside ks) (run ks is) ls h in
    if_true (not_inside (ks ++ ns)) (run (ks ++ ns) is) (not_inside_more ks ns p.0 n) ∙ run_more ks is ls ns n p.1
run_more ks (Read x ∷ is) ls ns n h =
    let p = and_run_some (strip (symbol_takes x) ks) (λ ms. if not_inside ms then run (symbol_leaves x ++ ms) is else None) ls h in
    let q = if_some (not_inside p.0) (run (symbol_leaves x ++ p.0) is) ls p.2 in
    run_by (strip (symbol_takes x) (ks ++ ns)) (λ ms. if not_inside ms then run (symbol_leaves x ++ ms) is else None) (p.0 ++ ns) (strip_more (symbol_takes x) ks p.0 ns p.1)
    ∙ if_true (not_inside (p.0 ++ ns)) (run (symbol_leaves x ++ (p.0 ++ ns)) is) (not_inside_more p.0 ns q.0 n)
    ∙ ap (λ y. run y is) (sym (append_assoc (symbol_leaves x) p.0 ns))
    ∙ run_more (symbol_leaves x ++ p.0) is ls ns n q.1
run_more ks (Do a ∷ is) ls ns n h =
    let p = and_run_some (strip (action_takes a) ks) (λ ms. run (action_leaves a ++ ms) is) ls h in
    run_by (strip (action_takes a) (ks ++ ns)) (λ ms. run (action_leaves a ++ ms) is) (p.0 ++ ns) (strip_more (action_takes a) ks p.0 ns p.1)
    ∙ ap (λ y. run y is) (sym (append_assoc (action_leaves a) p.0 ns))
    ∙ run_more (action_leaves a ++ p.0) is ls ns n p.2

run_append : (ks : List Kind) (is js : List Item) (ls : List Kind) → run ks is ≡ Some ls → run ks (is ++ js) ≡ run ls js
run_append ks [] js ls h = ap (λ x. run x js) (some_same ks ls h)
run_append ks (Take w e ∷ is) js ls h =
    let p = if_some (not_inside ks) (run ks is) ls h in
    if_true (not_inside ks) (run ks (is ++ js)) p.0 ∙ run_append ks is js ls p.1
run_append ks (Read x ∷ is) js ls h =
    let p = and_run_some (strip (symbol_takes x) ks) (λ ms. if not_inside ms then run (symbol_leaves x ++ ms) is else None) ls h in
    let q = if_some (not_inside p.0) (run (symbol_leaves x ++ p.0) is) ls p.2 in
    run_by (strip (symbol_takes x) ks) (λ ms. if not_inside ms then run (symbol_leaves x ++ ms) (is ++ js) else None) p.0 p.1
    ∙ if_true (not_inside p.0) (run (symbol_leaves x ++ p.0) (is ++ js)) q.0 ∙ run_append (symbol_leaves x ++ p.0) is js ls q.1
run_append ks (Do a ∷ is) js ls h =
    let p = and_run_some (strip (action_takes a) ks) (λ ms. run (action_leaves a ++ ms) is) ls h in
    run_by (strip (action_takes a) ks) (λ ms. run (action_leaves a ++ ms) (is ++ js)) p.0 p.1 ∙ run_append (action_leaves a ++ p.0) is js ls p.2

-- A symbol may be replaced by the items of its production.
pub run_used : (p : Production) (ks : List Kind) (is : List Item) (goal : List Kind) → run ks (Read (head_of p) ∷ is) ≡ Some goal → run ks (body_of p ++ is) ≡ Some goal
run_used p ks is goal h =
    let x = head_of p in
    let q = and_run_some (strip (symbol_takes x) ks) (λ ms. if not_inside ms then run (symbol_leaves x ++ ms) is else None) goal h in
    let r = if_some (not_inside q.0) (run (symbol_leaves x ++ q.0) is) goal q.2 in
    ap (λ y. run y (body_of p ++ is)) (strip_is (symbol_takes x) ks q.0 q.1)
    ∙ run_append (symbol_takes x ++ q.0) (body_of p) is (symbol_leaves x ++ q.0) (run_more (symbol_takes x) (body_of p) (symbol_leaves x) q.0 r.0 (fits_well p))
    ∙ r.1

strip_self : (ks : List Kind) → strip ks ks ≡ Some []
strip_self [] = refl
strip_self (k ∷ ks) = if_true (same k k) (strip ks ks) (eq-eqb (rank k) (rank k) refl) ∙ strip_self ks

-- A symbol alone.
pub run_whole : (x : Symbol) → run (symbol_takes x) (Read x ∷ []) ≡ Some (symbol_leaves x)
run_whole x = run_by (strip (symbol_takes x) (symbol_takes x)) (λ ms. if not_inside ms then run (symbol_leaves x ++ ms) [] else None) [] (strip_self (symbol_takes x)) ∙ ap (λ y. Some y) (append-nil (symbol_leaves x))

admits_more : (c : Context) (a : Action) → admits nothing a ≡ true → admits c a ≡ true
admits_more c (action.Token a) h = false_true h
admits_more c (action.Compute a) h = go a h
  where
    go : (a : ExpressionAction) → admits_expression nothing a ≡ true → admits_expression c a ≡ true
    go computes.NamesInside h = false_true h
    go computes.ArrayInside h = false_true h
    go computes.ExpressionInside h = false_true h
    go computes.CastType h = false_true h
    go computes.ParenthesizedExpression h = false_true h
    go _ h = refl
admits_more c (action.Annotate a) h = refl
admits_more c (action.State a) h = refl
admits_more c (action.Declare a) h = refl

guarded_more : (c : Context) (is : List Item) → guarded nothing is ≡ true → guarded c is ≡ true
guarded_more c [] h = refl
guarded_more c (Take w e ∷ is) h = h
guarded_more c (Read x ∷ is) h = h
guarded_more c (Do a ∷ is) h =
    let p = and_parts (admits nothing a) (guarded nothing is) h in
    and_both (admits c a) (guarded c is) (admits_more c a p.0) (guarded_more c is p.1)

guarded_append : (c : Context) (is js : List Item) → guarded c is ≡ true → guarded nothing js ≡ true → guarded c (is ++ js) ≡ true
guarded_append c [] js h k = guarded_more c js k
guarded_append c (Take w e ∷ is) js h k = guarded_append (behind (ended_by e)) is js h k
guarded_append c (Read x ∷ is) js h k = guarded_append nothing is js h k
guarded_append c (Do a ∷ is) js h k =
    let p = and_parts (admits c a) (guarded c is) h in
    and_both (admits c a) (guarded c (is ++ js)) p.0 (guarded_append c is js p.1 k)

pub guarded_used : (p : Production) (is : List Item) → guarded nothing is ≡ true → guarded (context_of p) (body_of p ++ is) ≡ true
guarded_used p is h = guarded_append (context_of p) (body_of p) is (guarded_well p) h
