-- What the actions between two items change.
use Rattle.std.specs.Prelude.{◌≡◌, ℕ, ◌<◌, List, [], ◌∷◌, ◌++◌, map, reverse, Option, Some}
use Rattle.std.proofs.Common.{refl, sym, ◌∙◌, ap, subst, append_assoc, append-nil}
use Rattle.std.proofs.lemmas.List.{map-append}
use Rattle.java_syntax.specs.declared.words.Word.{Word}
use Rattle.java_syntax.specs.declared.symbols.Symbol.{Symbol}
use Rattle.java_syntax.specs.declared.symbols.Item.{Item}
use Rattle.java_syntax.specs.declared.symbols.Item.TheVariants.{Take, Read, Do}
use Rattle.java_syntax.specs.declared.actions.Action.{Action}
use Rattle.java_syntax.specs.declared.productions.Production.{Production}
use Rattle.java_syntax.specs.declared.tokens.Event.{Event}
use Rattle.java_syntax.specs.declared.tokens.Event.TheVariants as event
use Rattle.java_syntax.specs.Table.{body_of}
use Rattle.java_syntax.specs.Derives.{Lexeme, Surroundings, enters, Step, Used, Did, step_of}
use Rattle.java_grammar.specs.declared.machine.Machine.{Machine}
use Rattle.java_grammar.specs.Lookahead.{choice}
use Rattle.java_grammar.specs.Reached.{surroundings_of, StartsWith, Reached, to_come, Holds, Acts, Replaces}
use Rattle.java_grammar.proofs.Effort.{effort}
use Rattle.java_grammar.proofs.Steps.{top, acts_by, goes_by}

steps_of : (bytes : List ℕ) (all : List Action) → map (step_of bytes) (map (λ a. event.Did a) all) ≡ map (λ a. Did a) all
steps_of bytes [] = refl
steps_of bytes (a ∷ all) = ap (λ x. Did a ∷ x) (steps_of bytes all)

does_all : (o : Surroundings) (start : List Item) (so_far : List Lexeme) (IsNext : List Lexeme → Type 0) (s : Surroundings) (is : List Item) (all : List Action) (es : List Step)
    → Reached o start so_far IsNext s (map (λ a. Do a) all ++ is) es → Reached o start so_far IsNext s is (es ++ map (λ a. Did a) all)
does_all o start so_far IsNext s is [] es r = subst (λ y. Reached o start so_far IsNext s is y) (sym (append-nil es)) r
does_all o start so_far IsNext s is (a ∷ all) es r = subst (λ y. Reached o start so_far IsNext s is y) (append_assoc es (Did a ∷ []) (map (λ b. Did b) all))
    (does_all o start so_far IsNext s is all (es ++ Did a ∷ []) (acts_by o start so_far s (map (λ b. Do b) all ++ is) es IsNext a r))

pub effort_of : (all : List Action) (is : List Item) → effort (map (λ a. Do a) all ++ is) ≡ effort is
effort_of [] is = refl
effort_of (a ∷ all) is = effort_of all is

-- one action more
pub came_more : (whole : List Item) (all : List Action) (a : Action) (xs ys : List Item) → whole ≡ map (λ b. Do b) all ++ reverse xs → xs ≡ ys ++ Do a ∷ [] → whole ≡ map (λ b. Do b) (all ++ a ∷ []) ++ reverse ys
came_more whole all a xs ys h k =
    let D : Action → Item = λ b. Do b in
    h ∙ ap (λ z. map D all ++ z) (ap reverse k ∙ top ys (Do a)) ∙ sym (append_assoc (map D all) (Do a ∷ []) (reverse ys)) ∙ ap (λ z. z ++ reverse ys) (sym (map-append D all (a ∷ [])))

pub events_more : (first now next : List Event) (all : List Action) (a : Action) → now ≡ first ++ map (λ b. event.Did b) all → next ≡ now ++ event.Did a ∷ [] → next ≡ first ++ map (λ b. event.Did b) (all ++ a ∷ [])
events_more first now next all a h k =
    let D : Action → Event = λ b. event.Did b in
    k ∙ ap (λ z. z ++ event.Did a ∷ []) h ∙ append_assoc first (map D all) (event.Did a ∷ []) ∙ ap (λ z. first ++ z) (sym (map-append D all (a ∷ [])))

-- actions alone keep what was reached
pub acted : (bytes : List ℕ) (o : Surroundings) (start : List Item) (so_far : List Lexeme) (IsNext : List Lexeme → Type 0) (m n : Machine) → Acts m n → Holds bytes o start so_far IsNext m → Holds bytes o start so_far IsNext n
acted bytes o start so_far IsNext m n a h =
    let s = surroundings_of bytes m.context in
    let es = map (step_of bytes) m.events.items in
    let r = does_all o start so_far IsNext s (to_come n) a.actions es (subst (λ is. Reached o start so_far IsNext s is es) a.came h) in
    let e : map (step_of bytes) n.events.items ≡ es ++ map (λ b. Did b) a.actions =
    ap (map (step_of bytes)) a.events ∙ map-append (step_of bytes) m.events.items (map (λ b. event.Did b) a.actions) ∙ ap (λ y. es ++ y) (steps_of bytes a.actions) in
    subst (λ y. Reached o start so_far IsNext (surroundings_of bytes n.context) (to_come n) y) (sym e)
    (subst (λ c. Reached o start so_far IsNext (surroundings_of bytes c) (to_come n) (es ++ map (λ b. Did b) a.actions)) (sym a.context) r)

-- a production and the actions behind it keep what was reached
pub replaced : (bytes : List ℕ) (o : Surroundings) (start : List Item) (so_far : List Lexeme) (next : Option Word) (x : Symbol) (p : Production) (m n : Machine) → Replaces p m n
    → Reached o start so_far (StartsWith next) (surroundings_of bytes m.context) (Read x ∷ to_come m) (map (step_of bytes) m.events.items) → choice x (surroundings_of bytes m.context) next ≡ Some p
    → Holds bytes o start so_far (StartsWith next) n
replaced bytes o start so_far next x p m n a h c =
    let N = StartsWith next in
    let s = surroundings_of bytes m.context in
    let es = map (step_of bytes) m.events.items in
    let g = goes_by o start so_far s (to_come m) es next x p h c in
    let r = does_all o start so_far N (enters p s) (to_come n) a.actions (es ++ Used p ∷ []) (subst (λ is. Reached o start so_far N (enters p s) is (es ++ Used p ∷ [])) a.came g) in
    let e : map (step_of bytes) n.events.items ≡ (es ++ Used p ∷ []) ++ map (λ b. Did b) a.actions =
    ap (map (step_of bytes)) a.events ∙ map-append (step_of bytes) (m.events.items ++ event.Used p ∷ []) (map (λ b. event.Did b) a.actions)
    ∙ ap (λ y. y ++ map (step_of bytes) (map (λ b. event.Did b) a.actions)) (map-append (step_of bytes) m.events.items (event.Used p ∷ []))
    ∙ ap (λ y. (es ++ Used p ∷ []) ++ y) (steps_of bytes a.actions) in
    subst (λ y. Reached o start so_far N (surroundings_of bytes n.context) (to_come n) y) (sym e)
    (subst (λ t. Reached o start so_far N t (to_come n) ((es ++ Used p ∷ []) ++ map (λ b. Did b) a.actions)) (sym (a.context bytes)) r)
