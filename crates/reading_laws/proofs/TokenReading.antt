-- Whatever a derivation reads, its values are written with the tokens that it read.
use Rattle.std.specs.Prelude.{◌≡◌, ℕ, List, [], ◌∷◌, ◌++◌, Option, Some, Bool, true, false, ◌&&◌}
use Rattle.std.proofs.Common.{sym, subst, append-nil, arith, append_assoc}
use Rattle.java_syntax.specs.declared.symbols.Symbol.{Symbol}
use Rattle.java_syntax.specs.declared.symbols.Item.{Item}
use Rattle.java_syntax.specs.declared.symbols.Item.TheVariants.{Read}
use Rattle.java_syntax.specs.declared.words.Word.{Word}
use Rattle.java_syntax.specs.declared.words.Word.TheVariants as word
use Rattle.java_syntax.specs.declared.productions.Production.{Production}
use Rattle.java_syntax.specs.declared.productions.Production.TheVariants.{State}
use Rattle.java_syntax.specs.declared.productions.StatementProduction.TheVariants as statement
use Rattle.java_syntax.specs.Table.{body_of, head_of}
use Rattle.java_syntax.specs.Derives.{Surroundings, Lexeme, Step, Derives, ended, took, used, did, allowed, leaves_no_else, first_word}
use Rattle.java_values.specs.Values.{ValueTree}
use Rattle.java_values.specs.Outcomes.{Outcome}
use Rattle.java_exprs.specs.Evaluation.{perform, evaluate}
use Rattle.reading_laws.proofs.Cells.{Cell, File, Holds, a_word, a_no_else}
use Rattle.reading_laws.proofs.Outcomes.{IfMade, made, then_made}
use Rattle.reading_laws.proofs.Moves.{Turns, under}
use Rattle.reading_laws.proofs.Tables.{takes}
use Rattle.reading_laws.proofs.Plans.{Plan, ends, takes_word, reads, does, before, both, above}
use Rattle.reading_laws.proofs.Search.{entry, plan_of}

-- the last token may be in a value already
pub data Ends (file : File) (cs : List Cell) (vs : List ValueTree) : Type 0 where
  ends_with : (l : Option Lexeme) → Holds file cs vs l [] → Ends file cs vs

bare : (cs : List Cell) (file : File) (vs : List ValueTree) (l : Option Lexeme) (to : List Lexeme) → Holds file (cs ++ []) vs l to → Holds file cs vs l to
bare cs file vs l to h = subst (λ xs. Holds file xs vs l to) (append-nil cs) h

under_all : (es cs ds : List Cell) → Turns cs ds → Turns (es ++ cs) (es ++ ds)
under_all [] cs ds t = t
under_all (c ∷ es) cs ds t = under c (es ++ cs) (es ++ ds) (under_all es cs ds t)

used_plan : (p : Production) {cs : List Cell} {is : List Item} {goal : List Cell} (x : Symbol) → head_of p ≡ x → Plan cs (Read x ∷ is) goal → Plan (entry p ++ cs) (body_of p ++ is) goal
used_plan p {cs = cs} {is = is} {goal = goal} x e h = go (subst (λ y. Plan cs (Read y ∷ is) goal) (sym e) h)
  where
    go : Plan cs (Read (head_of p) ∷ is) goal → Plan (entry p ++ cs) (body_of p ++ is) goal
    go (reads rest t q) = before (under_all (entry p) cs (takes (head_of p) ++ rest) t)
        (subst (λ ks. Plan ks (body_of p ++ is) goal) (append_assoc (entry p) (takes (head_of p)) rest) (both (above (plan_of p) rest) q))

no_else_behind : (o : Option Word) → leaves_no_else (State statement.NoElse) o ≡ true → o ≡ Some word.Else → ⊥
no_else_behind o h e = let n : false ≡ true = subst (λ o. leaves_no_else (State statement.NoElse) o ≡ true) e h in false_true n
  where
    false_true : false ≡ true → ⊥
    false_true h = grind arith

entered : (p : Production) (file : File) (cs : List Cell) (vs : List ValueTree) (l : Option Lexeme) (ts : List Lexeme) → leaves_no_else p (first_word ts) ≡ true → Holds file cs vs l ts → Holds file (entry p ++ cs) vs l ts
entered (State statement.NoElse) file cs vs l ts k h = a_no_else (no_else_behind (first_word ts) k) h
entered _ file cs vs l ts k h = h

second : (a b : Bool) → (a && b) ≡ true → b ≡ true
second true b h = h
second false b h = let n : ⊥ = grind arith in absurd n

pub follow : (limit : ℕ) (file : File) {s : Surroundings} {is : List Item} {ts : List Lexeme} {es : List Step} → Derives s is ts es → (cs goal : List Cell) (vs : List ValueTree) (l : Option Lexeme)
    → Plan cs is goal → Holds file cs vs l ts → IfMade (List ValueTree) (λ ws. Ends file goal ws) (evaluate limit es l vs)
follow limit file (ended s) cs goal vs l (ends t) h = made vs (ends_with l (bare goal file vs l [] (t file [] vs l [] (more cs h))))
  where
    more : (cs : List Cell) → Holds file cs vs l [] → Holds file (cs ++ []) vs l []
    more cs h = subst (λ xs. Holds file xs vs l []) (sym (append-nil cs)) h
follow limit file (took s w e t {ts = ts} q d) cs goal vs l (takes_word p) h = follow limit file d _ goal vs (Some t) p (a_word t q h)
follow limit file (used s x p {ts = ts} q m d) cs goal vs l h k = follow limit file d (entry p ++ cs) goal vs l (used_plan p x q h) (entered p file cs vs l ts (second (allowed p s) _ m) k)
follow limit file (did s x {ts = ts} {es = es} d) cs goal vs l (does ds t p) h =
    then_made (perform limit x l vs) (λ r. evaluate limit es l r) (bared (t file [] vs l ts limit (more h))) (λ ws g. follow limit file d ds goal ws l p g)
  where
    more : Holds file cs vs l ts → Holds file (cs ++ []) vs l ts
    more h = subst (λ xs. Holds file xs vs l ts) (sym (append-nil cs)) h

    bared : {o : Outcome (List ValueTree)} → IfMade (List ValueTree) (λ ws. Holds file (ds ++ []) ws l ts) o → IfMade (List ValueTree) (λ ws. Holds file ds ws l ts) o
    bared {o = o} h = subst (λ xs. IfMade (List ValueTree) (λ ws. Holds file xs ws l ts) o) (append-nil ds) h
