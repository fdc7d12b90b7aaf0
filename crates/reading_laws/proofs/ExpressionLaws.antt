-- Identifiers and operators: how the trees of several tokens are written.
use Rattle.std.specs.Prelude.{◌≡◌, ℕ, ◌<◌, ◌≤◌, nat_lt, Bool, true, false, if◌then◌else◌, List, [], ◌∷◌, ◌++◌, reverse}
use Rattle.std.proofs.Common.{refl, sym, ◌∙◌, ap, subst, arith, append_assoc, append-nil}
use Rattle.std.proofs.lemmas.List.{reverse-append, reverse-reverse}
use Rattle.java_syntax.specs.declared.names.Name.{Name}
use Rattle.java_syntax.specs.Derives.{Lexeme}
use Rattle.java_syntax.specs.declared.operators.InfixOperator.{InfixOperator}
use Rattle.java_syntax.specs.declared.operators.InfixOperator.TheVariants as operator
use Rattle.java_syntax.specs.ExpressionTrees.{ExprTree, Infix, MethodCall, expressions as trees}
use Rattle.java_values.specs.NestedTrees.{Nested, IdentifiersTree, OpenOperationTree}
use Rattle.java_values.specs.Outcomes.{Outcome, Made, TooDeep, Misfit, ◌>>=◌}
use Rattle.java_nodes.specs.Nodes.{field_access_node, identifier_node, method_call_node, infix_node}
use Rattle.java_nodes.specs.Operators.{infix_operator}
use Rattle.java_nodes.specs.Parts.{dots, type_of, fields_of, name_expression, called, named_call, level_of, loosest, ClosedTree, closed}
use Rattle.reading_laws.specs.Names.{IsName, IsElementType, identifier_at, simple, qualified, named}
use Rattle.reading_laws.specs.Expressions.{IsOperand, looser, no_array_level, unary_level, infix_level, AreArguments, identifier, call, method_call, field_access, infix'}
use Rattle.reading_laws.proofs.Cells.{AreIdentifiers, first_identifier, next_identifier, IsAbove, Suits, AreOperations, no_operation, further_operation}
use Rattle.reading_laws.proofs.Moves.{join3}
use Rattle.reading_laws.proofs.Outcomes.{IfMade, made, weaker, then_made, if_node, then_node}

lt_of : (m n : ℕ) → nat_lt m n ≡ true → m < n
lt_of m n h = grind (arith, h)

le_of : (m n : ℕ) → nat_lt m n ≡ false → n ≤ m
le_of m n h = grind (arith, h)

-- identifiers as a name

dots_more : (names : List Name) (name : Name) → dots (names ++ name ∷ []) ≡ dots names ++ 46 ∷ name.text
dots_more [] name = ap (λ x. 46 ∷ x) (append-nil name.text)
dots_more (n ∷ names) name = ap (λ x. 46 ∷ n.text ++ x) (dots_more names name) ∙ ap (λ x. 46 ∷ x) (sym (append_assoc n.text (dots names) (46 ∷ name.text)))

abbrev pub name_of : IdentifiersTree → Name
name_of ns = record { text = ns.first.text ++ dots ns.more; pos = ns.first.pos }

pub are_name : (ns : IdentifiersTree) {ts : List Lexeme} → AreIdentifiers ns ts → IsName (name_of ns) ts
are_name ns (first_identifier t q) = subst (λ x. IsName (record { text = x; pos = t.pos }) (t ∷ [])) (sym (append-nil t.text)) (simple t q)
are_name ns (next_identifier names {ts = ts} dot t h d q) =
    subst (λ x. IsName (record { text = x; pos = names.first.pos }) (ts ++ dot ∷ t ∷ []))
    (append_assoc names.first.text (dots names.more) (46 ∷ t.text) ∙ ap (λ x. names.first.text ++ x) (sym (dots_more names.more (identifier_at t))))
    (qualified (name_of names) dot t (are_name names h) d q)

pub are_type : (ns : IdentifiersTree) {ts : List Lexeme} → AreIdentifiers ns ts → IsElementType (type_of ns) ts
are_type ns h = named (name_of ns) (are_name ns h)

-- identifiers as an expression

bind_assoc : {A B C : Type 0} (o : Outcome A) (f : A → Outcome B) (g : B → Outcome C) → (o >>= (λ a. f a >>= g)) ≡ ((o >>= f) >>= g)
bind_assoc (Made a) f g = refl
bind_assoc TooDeep f g = refl
bind_assoc Misfit f g = refl

then_same : {A B : Type 0} (o : Outcome A) (f g : A → Outcome B) → ((a : A) → f a ≡ g a) → (o >>= f) ≡ (o >>= g)
then_same (Made a) f g h = h a
then_same TooDeep f g h = refl
then_same Misfit f g h = refl

fields_more : (limit : ℕ) (e : Nested ExprTree) (names : List Name) (name : Name) → fields_of limit e (names ++ name ∷ []) ≡ (fields_of limit e names >>= (λ x. field_access_node limit x name.text name.pos))
fields_more limit e [] name = last (field_access_node limit e name.text name.pos)
  where
    last : (o : Outcome (Nested ExprTree)) → (o >>= (λ x. Made x)) ≡ o
    last (Made a) = refl
    last TooDeep = refl
    last Misfit = refl
fields_more limit e (n ∷ names) name =
    then_same (field_access_node limit e n.text n.pos) (λ x. fields_of limit x (names ++ name ∷ [])) (λ x. fields_of limit x names >>= (λ y. field_access_node limit y name.text name.pos)) (λ x. fields_more limit x names name)
    ∙ bind_assoc (field_access_node limit e n.text n.pos) (λ x. fields_of limit x names) (λ y. field_access_node limit y name.text name.pos)

pub are_expression : (limit : ℕ) (ns : IdentifiersTree) {ts : List Lexeme} → AreIdentifiers ns ts → IfMade (Nested ExprTree) (λ e. IsOperand no_array_level e.tree ts) (name_expression limit ns)
are_expression limit ns (first_identifier t q) = then_node limit _ _ _ (λ d. made _ (identifier t q))
are_expression limit ns (next_identifier names {ts = ts} dot t h d q) = subst (λ o. IfMade (Nested ExprTree) (λ e. IsOperand no_array_level e.tree (ts ++ dot ∷ t ∷ [])) o) (sym more)
    (then_made (name_expression limit names) (λ x. field_access_node limit x t.text t.pos) (are_expression limit names h) (λ x g. if_node limit _ _ (λ d'. field_access dot t (looser (omega arith) g) d q)))
  where
    more : (identifier_node limit names.first.text names.first.pos >>= (λ e. fields_of limit e (names.more ++ identifier_at t ∷ []))) ≡ (name_expression limit names >>= (λ x. field_access_node limit x t.text t.pos))
    more = then_same (identifier_node limit names.first.text names.first.pos) (λ e. fields_of limit e (names.more ++ identifier_at t ∷ [])) (λ e. fields_of limit e names.more >>= (λ x. field_access_node limit x t.text t.pos)) (λ e. fields_more limit e names.more (identifier_at t))
        ∙ bind_assoc (identifier_node limit names.first.text names.first.pos) (λ e. fields_of limit e names.more) (λ x. field_access_node limit x t.text t.pos)

-- identifiers and arguments
pub are_call : (limit : ℕ) (ns : IdentifiersTree) {ts : List Lexeme} (all : Nested (List ExprTree)) {us : List Lexeme} → AreIdentifiers ns ts → AreArguments all.tree us → IfMade (Nested ExprTree) (λ e. IsOperand no_array_level e.tree (ts ++ us)) (named_call limit ns all)
are_call limit ns all (first_identifier t q) h = if_node limit _ _ (λ d. call t q h)
are_call limit ns all {us = us} (next_identifier names {ts = ts} dot t g d q) h =
    subst (λ rs. IfMade (Nested ExprTree) (λ e. IsOperand no_array_level e.tree ((ts ++ dot ∷ t ∷ []) ++ us)) (called limit names.first rs all)) (sym (reverse-append names.more (identifier_at t ∷ [])))
    (then_made (name_expression limit (record { first = names.first; more = reverse (reverse names.more) })) (λ target. method_call_node limit target t.text all t.pos)
    (subst (λ ms. IfMade (Nested ExprTree) (λ e. IsOperand no_array_level e.tree ts) (name_expression limit (record { first = names.first; more = ms }))) (sym (reverse-reverse names.more)) (are_expression limit names g))
    (λ target e. if_node limit _ _ (λ d'. subst (λ xs. IsOperand no_array_level (MethodCall target.tree t.text (trees all.tree) t.pos) xs) (sym (append_assoc ts (dot ∷ t ∷ []) us)) (method_call dot t (looser (omega arith) e) d q h))))

-- operators and their operands

-- what is left of operators that bind at least as tight as this level: an operand, and operators that bind looser
pub data IsClosed (n : ℕ) (c : ClosedTree) (ts : List Lexeme) : Type 0 where
  is_closed : (us vs : List Lexeme) → AreOperations c.waiting us → IsOperand (infix_level n) c.operand.tree vs → IsAbove n c.waiting → ts ≡ us ++ vs → IsClosed n c ts

joined : (ts xs : List Lexeme) (t : Lexeme) (us : List Lexeme) → ts ++ (xs ++ t ∷ us) ≡ (ts ++ xs ++ t ∷ []) ++ us
joined ts xs t us = join3 ts xs (t ∷ []) us

pub suits_any : (os : List OpenOperationTree) → Suits unary_level os
suits_any [] = tt
suits_any (o ∷ os) = omega arith

-- the right operand of a tighter operator is one of a looser one
pub suits_above : (n : ℕ) (os : List OpenOperationTree) → IsAbove n os → Suits (infix_level n) os
suits_above n [] h = tt
suits_above n (o ∷ os) h = omega (arith, h)

pub are_closed : (limit level : ℕ) (os : List OpenOperationTree) {ts : List Lexeme} → AreOperations os ts → (e : Nested ExprTree) (n : ℕ) {us : List Lexeme} → IsOperand n e.tree us → Suits n os → n ≤ infix_level level
    → IfMade ClosedTree (λ c. IsClosed level c (ts ++ us)) (closed limit level e os)
are_closed limit level os no_operation e n {us = us} h s r = made _ (is_closed [] us no_operation (looser r h) tt refl)
are_closed limit level os (further_operation {os = rest} {ts = ts} left {us = xs} t g i q a) e n {us = us} h s r = go (nat_lt level (level_of (infix_operator t.text))) refl
    (λ d k. are_closed limit level rest g (record { tree = Infix (infix_operator t.text) left.tree e.tree t.pos; depth = d }) (infix_level (level_of (infix_operator t.text))) (infix' t i q (looser s h)) (suits_above (level_of (infix_operator t.text)) rest a) k)
  where
    go : (b : Bool) → nat_lt level (level_of (infix_operator t.text)) ≡ b
        → ((d : ℕ) → infix_level (level_of (infix_operator t.text)) ≤ infix_level level → IfMade ClosedTree (λ c. IsClosed level c (ts ++ (xs ++ t ∷ us))) (closed limit level (record { tree = Infix (infix_operator t.text) left.tree e.tree t.pos; depth = d }) rest))
        → IfMade ClosedTree (λ c. IsClosed level c ((ts ++ xs ++ t ∷ []) ++ us))
        (if b then Made (record { operand = e; waiting = record { left = left; operator = infix_operator t.text; pos = t.pos } ∷ rest }) else (infix_node limit (infix_operator t.text) left e t.pos >>= (λ x. closed limit level x rest)))
    go true k f = made _ (is_closed (ts ++ xs ++ t ∷ []) us (further_operation left t g i q a) (looser r h) (lt_of _ _ k) refl)
    go false k f = then_node limit _ _ _ (λ d. subst (λ ys. IfMade ClosedTree (λ c. IsClosed level c ys) (closed limit level (record { tree = Infix (infix_operator t.text) left.tree e.tree t.pos; depth = d }) rest)) (joined ts xs t us) (f d (omega (arith, le_of _ _ k))))

level_bound : (o : InfixOperator) → level_of o ≤ loosest
level_bound operator.Multiply = omega arith
level_bound _ = omega arith

none_above : (os : List OpenOperationTree) {ts : List Lexeme} → AreOperations os ts → IsAbove loosest os → ts ≡ []
none_above os no_operation h = refl
none_above os (further_operation left t g i q a) h = absurd (omega (arith, h, level_bound (infix_operator t.text)))

-- the loosest level closes all
pub all_closed : (limit : ℕ) (os : List OpenOperationTree) {ts : List Lexeme} → AreOperations os ts → (e : Nested ExprTree) (n : ℕ) {us : List Lexeme} → IsOperand n e.tree us → Suits n os → n ≤ infix_level loosest
    → IfMade ClosedTree (λ c. IsOperand (infix_level loosest) c.operand.tree (ts ++ us)) (closed limit loosest e os)
all_closed limit os {ts = ts} g e n {us = us} h s r = weaker (closed limit loosest e os) (λ c k. whole c k) (are_closed limit loosest os g e n h s r)
  where
    whole : (c : ClosedTree) → IsClosed loosest c (ts ++ us) → IsOperand (infix_level loosest) c.operand.tree (ts ++ us)
    whole c (is_closed xs ys p q a e) = subst (λ zs. IsOperand (infix_level loosest) c.operand.tree zs) (sym (e ∙ ap (λ zs. zs ++ ys) (none_above c.waiting p a))) q
