-- Cells that may be regarded as others: they hold the same values and are written with the same tokens.
use Rattle.std.specs.Prelude.{◌≡◌, ℕ, List, [], ◌∷◌, ◌++◌, Option, Some}
use Rattle.std.proofs.Common.{sym, ◌∙◌, ap, subst, append_assoc}
use Rattle.rlc_base.specs.declared.place.Pos.{Pos}
use Rattle.java_syntax.specs.Derives.{Lexeme}
use Rattle.java_syntax.specs.declared.actions.Action.{Action}
use Rattle.java_values.specs.Values.{ValueTree}
use Rattle.java_exprs.specs.Evaluation.{perform}
use Rattle.reading_laws.proofs.Outcomes.{IfMade}
use Rattle.reading_laws.proofs.Cells.{Cell, word', start, kept, value, try_head, never, Holds, a_word, a_start, a_kept, a_value, a_try, pending, compared, File, a_pending, a_compared, statement', no_else, a_statement, a_no_else}

-- from one list of tokens to another
pub move : {file : File} {cs : List Cell} {vs : List ValueTree} {l : Option Lexeme} {from to : List Lexeme} → from ≡ to → Holds file cs vs l from → Holds file cs vs l to
move {file = file} {cs = cs} {vs = vs} {l = l} e h = subst (λ ts. Holds file cs vs l ts) e h

pub moved : {file : File} {cs : List Cell} {vs : List ValueTree} {l : Option Lexeme} {from to : List Lexeme} → Holds file cs vs l from → from ≡ to → Holds file cs vs l to
moved h e = move e h

pub recell : {file : File} {cs ds : List Cell} {vs : List ValueTree} {l : Option Lexeme} {to : List Lexeme} → cs ≡ ds → Holds file cs vs l to → Holds file ds vs l to
recell {file = file} {vs = vs} {l = l} {to = to} e h = subst (λ cs. Holds file cs vs l to) e h

-- whatever stands below
abbrev pub Turns : List Cell → List Cell → Type 0
Turns cs ds = (file : File) (ns : List Cell) (vs : List ValueTree) (l : Option Lexeme) (to : List Lexeme) → Holds file (cs ++ ns) vs l to → Holds file (ds ++ ns) vs l to

pub same_turns : (cs : List Cell) → Turns cs cs
same_turns cs file ns vs l to h = h

pub equal_turns : (cs ds : List Cell) → cs ≡ ds → Turns cs ds
equal_turns cs ds e file ns vs l to h = recell (ap (λ xs. xs ++ ns) e) h

pub both_turn : (cs ds es : List Cell) → Turns cs ds → Turns ds es → Turns cs es
both_turn cs ds es t u file ns vs l to h = u file ns vs l to (t file ns vs l to h)

-- below a further cell
pub under : (c : Cell) (cs ds : List Cell) → Turns cs ds → Turns (c ∷ cs) (c ∷ ds)
under (word' w) cs ds t file ns vs m to (a_word {l = l} x q h) = a_word x q (t file ns vs l _ h)
under start cs ds t file ns vs m to (a_start {vs = us} {l = l} p q h) = a_start p q (t file ns us l to h)
under (kept w) cs ds t file ns vs m to (a_kept {vs = us} {l = l} x q h) = a_kept x q (t file ns us l _ h)
under (value p) cs ds t file ns vs m to (a_value {vs = us} {l = l} v q h) = a_value v q (t file ns us l _ h)
under try_head cs ds t file ns vs m to (a_try {vs = us} {l = l} r x p b q s h) = a_try r x p b q s (t file ns us l _ h)
under pending cs ds t file ns vs m to (a_pending {vs = us} {l = l} e os n p q r s h) = a_pending e os n p q r s (t file ns us l _ h)
under compared cs ds t file ns vs m to (a_compared {vs = us} {l = l} e os p q r h) = a_compared e os p q r (t file ns us l _ h)
under statement' cs ds t file ns vs m to (a_statement {vs = us} {l = l} s q k h) = a_statement s q k (t file ns us l _ h)
under no_else cs ds t file ns vs m to (a_no_else {l = l} n h) = a_no_else n (t file ns vs l to h)
under never cs ds t file ns vs m to h = elim h [ ]

-- the action makes those cells of these, whatever stands below, if it makes something
abbrev pub Acts : List Cell → Action → List Cell → Type 0
Acts cs x ds = (file : File) (ns : List Cell) (vs : List ValueTree) (l : Option Lexeme) (to : List Lexeme) (limit : ℕ) → Holds file (cs ++ ns) vs l to
    → IfMade (List ValueTree) (λ ws. Holds file (ds ++ ns) ws l to) (perform limit x l vs)

-- What holds of a token's place holds of the place at which the tokens begin with it.
pub at_place : (t : Lexeme) (p : Pos) → Some t.pos ≡ Some p → (P : Pos → Type 0) → P t.pos → P p
at_place t p e P h = subst P (same t.pos p e) h
  where
    same : (x y : Pos) → Some x ≡ Some y → x ≡ y
    same x y e = cc

-- pieces one behind the other
pub join2 : (a b to : List Lexeme) → a ++ (b ++ to) ≡ a ++ b ++ to
join2 a b to = sym (append_assoc a b to)

pub join3 : (a b c to : List Lexeme) → a ++ (b ++ (c ++ to)) ≡ a ++ b ++ c ++ to
join3 a b c to = join2 a b (c ++ to) ∙ join2 (a ++ b) c to

pub join4 : (a b c d to : List Lexeme) → a ++ (b ++ (c ++ (d ++ to))) ≡ a ++ b ++ c ++ d ++ to
join4 a b c d to = join2 a b (c ++ (d ++ to)) ∙ join3 (a ++ b) c d to

pub join5 : (a b c d e to : List Lexeme) → a ++ (b ++ (c ++ (d ++ (e ++ to)))) ≡ a ++ b ++ c ++ d ++ e ++ to
join5 a b c d e to = join2 a b (c ++ (d ++ (e ++ to))) ∙ join4 (a ++ b) c d e to

pub join6 : (a b c d e f to : List Lexeme) → a ++ (b ++ (c ++ (d ++ (e ++ (f ++ to))))) ≡ a ++ b ++ c ++ d ++ e ++ f ++ to
join6 a b c d e f to = join2 a b (c ++ (d ++ (e ++ (f ++ to)))) ∙ join5 (a ++ b) c d e f to

-- behind a separator
pub join_next : (ts : List Lexeme) (t : Lexeme) (us to : List Lexeme) → ts ++ t ∷ [] ++ (us ++ to) ≡ ts ++ t ∷ us ++ to
join_next ts t us to = append_assoc ts (t ∷ []) (us ++ to) ∙ join2 ts (t ∷ us) to
