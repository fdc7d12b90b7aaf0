-- Expressions and declarations have a first token.
use Rattle.std.specs.Prelude.{ℕ, List, [], ◌∷◌, ◌++◌}
use Rattle.rlc_base.specs.declared.place.Pos.{Pos}
use Rattle.java_syntax.specs.declared.names.Name.{Name}
use Rattle.java_syntax.specs.declared.names.Typ.{Typ}
use Rattle.java_syntax.specs.Derives.{Lexeme}
use Rattle.java_syntax.specs.ExpressionTrees.{ExprTree}
use Rattle.java_syntax.specs.StatementTrees.{LocalTree}
use Rattle.reading_laws.specs.Names.{BeginAt, IsName, simple, qualified, IsElementType, simple_type, primitive, named, IsType, element, array}
use Rattle.reading_laws.specs.Expressions as expressions
use Rattle.reading_laws.specs.Expressions.{IsOperand, IsExpression, assignment_level}
use Rattle.reading_laws.specs.Statements.{IsLocal, local}

pub data HasFirst : List Lexeme → Type 0 where
  first : (t : Lexeme) (ts : List Lexeme) → HasFirst (t ∷ ts)

pub and_more : (ts us : List Lexeme) → HasFirst ts → HasFirst (ts ++ us)
and_more ts us (first t rest) = first t (rest ++ us)

pub behind_any : (ts us : List Lexeme) → HasFirst us → HasFirst (ts ++ us)
behind_any [] us h = h
behind_any (t ∷ ts) us h = first t (ts ++ us)

-- the place of the first token, whatever stands behind
pub begin_same : (p : Pos) (ts us vs : List Lexeme) → HasFirst ts → BeginAt p (ts ++ us) → BeginAt p (ts ++ vs)
begin_same p ts us vs (first t rest) h = h

name_first : (n : Name) (ts : List Lexeme) → IsName n ts → HasFirst ts
name_first n ts (simple t q) = first t []
name_first n ts (qualified m {ts = us} dot t h d q) = and_more us (dot ∷ t ∷ []) (name_first m us h)

element_first : (typ : Typ) (ts : List Lexeme) → IsElementType typ ts → HasFirst ts
element_first typ ts (simple_type (primitive t q)) = first t []
element_first typ ts (named n {ts = us} h) = name_first n us h

pub type_first : (typ : Typ) (ts : List Lexeme) → IsType typ ts → HasFirst ts
type_first typ ts (element {typ = x} {ts = us} h) = element_first x us h
type_first typ ts (array x {ts = us} o c h q r) = and_more us (o ∷ c ∷ []) (element_first x us h)

pub operand_first : (n : ℕ) (e : ExprTree) (ts : List Lexeme) → IsOperand n e ts → HasFirst ts
operand_first n e ts (expressions.looser {m = m} k h) = operand_first m e ts h
operand_first n e ts (expressions.parentheses {ts = us} o c q h r) = first o (us ++ c ∷ [])
operand_first n e ts (expressions.literal t q) = first t []
operand_first n e ts (expressions.identifier t q) = first t []
operand_first n e ts (expressions.this t q) = first t []
operand_first n e ts (expressions.call {us = us} t q h) = first t us
operand_first n e ts (expressions.super_call {us = us} s dot t p d q h) = first s (dot ∷ t ∷ us)
operand_first n e ts (expressions.method_call {e = x} {ts = us} {us = vs} dot t h d q k) = and_more us (dot ∷ t ∷ vs) (operand_first _ x us h)
operand_first n e ts (expressions.field_access {e = x} {ts = us} dot t h d q) = and_more us (dot ∷ t ∷ []) (operand_first _ x us h)
operand_first n e ts (expressions.index {e = x} {ts = us} {us = vs} o c h q k r) = and_more (us ++ o ∷ vs) (c ∷ []) (and_more us (o ∷ vs) (operand_first _ x us h))
operand_first n e ts (expressions.new_object {ts = us} {us = vs} t q h k) = first t (us ++ vs)
operand_first n e ts (expressions.new_array {ts = us} {us = vs} t o c q h r k s) = first t (us ++ o ∷ vs ++ c ∷ [])
operand_first n e ts (expressions.prefix_not {ts = us} t q h) = first t us
operand_first n e ts (expressions.prefix_sign {ts = us} t q h) = first t us
operand_first n e ts (expressions.prefix_step {ts = us} t q h) = first t us
operand_first n e ts (expressions.postfix_step {e = x} {ts = us} t h q) = and_more us (t ∷ []) (operand_first _ x us h)
operand_first n e ts (expressions.cast {ts = us} {us = vs} o c q h r k) = first o (us ++ c ∷ vs)
operand_first n e ts (expressions.primitive_cast {ts = us} {us = vs} o c q h r k) = first o (us ++ c ∷ vs)
operand_first n e ts (expressions.infix' {a = x} {ts = us} {us = vs} t h q k) = and_more us (t ∷ vs) (operand_first _ x us h)
operand_first n e ts (expressions.instance_of {e = x} {ts = us} {us = vs} t h q k) = and_more us (t ∷ vs) (operand_first _ x us h)
operand_first n e ts (expressions.conditional {c = x} {ts = us} {us = vs} {vs = ws} question colon h q k r m) = and_more (us ++ question ∷ vs) (colon ∷ ws) (and_more us (question ∷ vs) (operand_first _ x us h))
operand_first n e ts (expressions.assignment {a = x} {ts = us} {us = vs} t h q k) = and_more us (t ∷ vs) (operand_first _ x us h)
operand_first n e ts (expressions.compound_assignment {a = x} {ts = us} {us = vs} t h q k) = and_more us (t ∷ vs) (operand_first _ x us h)

pub expression_first : (e : ExprTree) (ts : List Lexeme) → IsExpression e ts → HasFirst ts
expression_first e ts h = operand_first assignment_level e ts h

pub local_first : (l : LocalTree) (ts : List Lexeme) → IsLocal l ts → HasFirst ts
local_first l ts (local {ts = us} {typ = typ} {us = vs} {vs = ws} m h k) = and_more (us ++ vs) ws (behind_any us vs (type_first typ vs h))
