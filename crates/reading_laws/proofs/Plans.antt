-- How a production is read: from the cells that its symbol takes to those that it leaves, whatever stands below.
use Rattle.std.specs.Prelude.{List, [], ◌∷◌, ◌++◌}
use Rattle.std.proofs.Common.{sym, subst, append_assoc}
use Rattle.java_syntax.specs.declared.words.Word.{Word}
use Rattle.java_syntax.specs.declared.words.Effect.{Effect}
use Rattle.java_syntax.specs.declared.symbols.Symbol.{Symbol}
use Rattle.java_syntax.specs.declared.symbols.Item.{Item}
use Rattle.java_syntax.specs.declared.symbols.Item.TheVariants.{Take, Read, Do}
use Rattle.java_syntax.specs.declared.actions.Action.{Action}
use Rattle.java_exprs.specs.Evaluation.{perform}
use Rattle.reading_laws.proofs.Cells.{Cell, word'}
use Rattle.reading_laws.proofs.Outcomes.{weaker}
use Rattle.reading_laws.proofs.Moves.{recell, Turns, equal_turns, both_turn, under, Acts}
use Rattle.reading_laws.proofs.Tables.{takes, leaves}

pub data Plan : List Cell → List Item → List Cell → Type 0 where
  ends : {cs ds : List Cell} → Turns cs ds → Plan cs [] ds
  takes_word : {cs : List Cell} {w : Word} {e : Effect} {is : List Item} {ds : List Cell} → Plan (word' w ∷ cs) is ds → Plan cs (Take w e ∷ is) ds
  reads : {cs : List Cell} {x : Symbol} (rest : List Cell) {is : List Item} {ds : List Cell} → Turns cs (takes x ++ rest) → Plan (leaves x ++ rest) is ds → Plan cs (Read x ∷ is) ds
  does : {cs : List Cell} {x : Action} (es : List Cell) {is : List Item} {ds : List Cell} → Acts cs x es → Plan es is ds → Plan cs (Do x ∷ is) ds

pub before : {cs ds es : List Cell} {is : List Item} → Turns cs ds → Plan ds is es → Plan cs is es
before {cs = cs} {ds = ds} t (ends {ds = es} u) = ends (both_turn cs ds es t u)
before {cs = cs} {ds = ds} t (takes_word {w = w} p) = takes_word (before (under (word' w) cs ds t) p)
before {cs = cs} {ds = ds} t (reads {x = x} rest u p) = reads rest (both_turn cs ds (takes x ++ rest) t u) p
before {cs = cs} {ds = ds} t (does es u p) = does es (λ file ns vs l to limit h. u file ns vs l to limit (t file ns vs l to h)) p

pub both : {cs ds es : List Cell} {is js : List Item} → Plan cs is ds → Plan ds js es → Plan cs (is ++ js) es
both (ends t) q = before t q
both (takes_word p) q = takes_word (both p q)
both (reads rest t p) q = reads rest t (both p q)
both (does es t p) q = does es t (both p q)

more_turns : (cs ds ns : List Cell) → Turns cs ds → Turns (cs ++ ns) (ds ++ ns)
more_turns cs ds ns t file ms vs l to h = recell (sym (append_assoc ds ns ms)) (t file (ns ++ ms) vs l to (recell (append_assoc cs ns ms) h))

more_acts : (cs ds ns : List Cell) (x : Action) → Acts cs x ds → Acts (cs ++ ns) x (ds ++ ns)
more_acts cs ds ns x t file ms vs l to limit h = weaker (perform limit x l vs) (λ ws g. recell (sym (append_assoc ds ns ms)) g) (t file (ns ++ ms) vs l to limit (recell (append_assoc cs ns ms) h))

-- what is below stays below
pub above : {cs ds : List Cell} {is : List Item} → Plan cs is ds → (ns : List Cell) → Plan (cs ++ ns) is (ds ++ ns)
above {cs = cs} (ends {ds = ds} t) ns = ends (more_turns cs ds ns t)
above (takes_word p) ns = takes_word (above p ns)
above {cs = cs} (reads {x = x} rest {is = is} {ds = ds} t p) ns = reads (rest ++ ns)
    (both_turn (cs ++ ns) ((takes x ++ rest) ++ ns) (takes x ++ (rest ++ ns)) (more_turns cs (takes x ++ rest) ns t) (equal_turns ((takes x ++ rest) ++ ns) (takes x ++ (rest ++ ns)) (append_assoc (takes x) rest ns)))
    (subst (λ ks. Plan ks is (ds ++ ns)) (append_assoc (leaves x) rest ns) (above p ns))
above {cs = cs} (does {x = x} es t p) ns = does (es ++ ns) (more_acts cs es ns x t) (above p ns)
