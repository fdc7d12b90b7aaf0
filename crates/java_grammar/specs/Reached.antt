-- What a machine that reads the tokens one by one has reached.
use Rattle.std.specs.Prelude.{reverse, map, take, drop, ◌≡◌, ℕ, Bool, true, false, ◌&&◌, ◌||◌, List, [], ◌∷◌, ◌++◌, Option, Some, None, is_some}
use Rattle.java_syntax.specs.declared.words.Word.{Word}
use Rattle.java_syntax.specs.declared.symbols.Symbol.{Symbol}
use Rattle.java_syntax.specs.declared.symbols.Item.{Item}
use Rattle.java_syntax.specs.declared.symbols.Item.TheVariants.{Take, Read, Do}
use Rattle.java_syntax.specs.declared.actions.Action.{Action}
use Rattle.java_syntax.specs.declared.tokens.Token.{Token}
use Rattle.java_syntax.specs.declared.tokens.Event.TheVariants as event
use Rattle.java_syntax.specs.declared.productions.Production.{Production}
use Rattle.java_syntax.specs.Table.{body_of}
use Rattle.java_syntax.specs.Derives.{Lexeme, lexeme_of, Surroundings, enters, first_word, Step, step_of, Derives}
use Rattle.java_grammar.specs.declared.conditions.Span.{Span}
use Rattle.java_grammar.specs.declared.conditions.Context.{Context}
use Rattle.java_grammar.specs.declared.machine.Machine.{Machine}
use Rattle.java_grammar.specs.Choices.{default_production}
use Rattle.java_grammar.specs.Lookahead.{same, is_in, found}
use Rattle.java_grammar.specs.Follow.{going_on}

abbrev pub span_text : List ℕ → Span → List ℕ
span_text bytes s = take s.len (drop s.start bytes)

-- what the context says of a file with these bytes
abbrev pub surroundings_of : List ℕ → Context → Surroundings
surroundings_of bytes c = record { is_stub = c.is_stub; owner = c.owner; modifiers = c.modifiers; class_name = span_text bytes c.class_name; member_name = span_text bytes c.member_name; ended = c.ended }

abbrev pub lexemes_of : List ℕ → List Token → List Lexeme
lexemes_of bytes ts = map (lexeme_of bytes) ts

-- May the word be the first of what these items derive, and of what the test F takes behind them?
abbrev pub leads : List Item → (Word → Bool) → Word → Bool
leads [] F w = F w
leads (Take v e ∷ is) F w = same v w
leads (Do a ∷ is) F w = leads is F w
leads (Read x ∷ is) F w = is_some (found x w) || (is_some (default_production x) && leads is F w)

abbrev pub empty : List Item → Bool
empty [] = true
empty (Take v e ∷ is) = false
empty (Do a ∷ is) = empty is
empty (Read x ∷ is) = is_some (default_production x) && empty is

abbrev pub no_word : Word → Bool
no_word w = false

abbrev pub goes_on : Symbol → Word → Bool
goes_on x w = is_in (going_on x) w

-- the word behind each symbol of the stack is none by which the symbol would go on
abbrev pub IsFit : List Item → Type 0
IsFit [] = Unit {0}
IsFit (Take v e ∷ is) = IsFit is
IsFit (Do a ∷ is) = IsFit is
IsFit (Read x ∷ is) = ((w : Word) → leads is no_word w ≡ true → goes_on x w ≡ false) × IsFit is

-- the tokens begin with the word, or are none
abbrev pub StartsWith : Option Word → List Lexeme → Type 0
StartsWith next ts = first_word ts ≡ next

-- whatever stands behind
abbrev pub Anything : List Lexeme → Type 0
Anything ts = Unit {0}

-- Behind these tokens, what can still come is just what these items derive in these surroundings, given the next word where one is known.
pub record Reached (origin : Surroundings) (start : List Item) (used : List Lexeme) (IsNext : List Lexeme → Type 0) (s : Surroundings) (is : List Item) (es : List Step) : Type 0 where
  pub fit : IsFit is
  pub sound : (ts : List Lexeme) (fs : List Step) → IsNext ts → Derives s is ts fs → Derives origin start (used ++ ts) (es ++ fs)
  pub complete : (ts : List Lexeme) (fs : List Step) → IsNext ts → Derives origin start (used ++ ts) fs → (gs : List Step) × (fs ≡ es ++ gs) × Derives s is ts gs

-- no sentence goes on so behind these tokens
abbrev pub IsWrongAfter : Surroundings → List Item → List Lexeme → Option Word → Type 0
IsWrongAfter origin start used next = (ts : List Lexeme) (fs : List Step) → StartsWith next ts → Derives origin start (used ++ ts) fs → ⊥

-- what the machine holds: the items that are still to come, the next one first
abbrev pub to_come : Machine → List Item
to_come m = reverse m.stack.items

abbrev pub Holds : List ℕ → Surroundings → List Item → List Lexeme → (List Lexeme → Type 0) → Machine → Type 0
Holds bytes origin start used IsNext m = Reached origin start used IsNext (surroundings_of bytes m.context) (to_come m) (map (step_of bytes) m.events.items)

-- no symbol and no action comes next
abbrev pub IsSettled : List Item → Type 0
IsSettled [] = Unit {0}
IsSettled (Take w e ∷ is) = Unit {0}
IsSettled (Read x ∷ is) = ⊥
IsSettled (Do a ∷ is) = ⊥

-- no word comes next
abbrev pub IsNoWord : List Item → Type 0
IsNoWord [] = Unit {0}
IsNoWord (Take w e ∷ is) = ⊥
IsNoWord (Read x ∷ is) = Unit {0}
IsNoWord (Do a ∷ is) = Unit {0}

-- no action comes next
abbrev pub IsNoAction : List Item → Type 0
IsNoAction [] = Unit {0}
IsNoAction (Take w e ∷ is) = Unit {0}
IsNoAction (Read x ∷ is) = Unit {0}
IsNoAction (Do a ∷ is) = ⊥

abbrev pub IsSettledStack : List Item → Type 0
IsSettledStack is = IsSettled (reverse is)

abbrev pub HasNoWord : List Item → Type 0
HasNoWord is = IsNoWord (reverse is)

-- From one machine to another by the actions that come next.
pub record Acts (m n : Machine) : Type 0 where
  pub actions : List Action
  pub came : to_come m ≡ map (λ a. Do a) actions ++ to_come n
  pub events : n.events.items ≡ m.events.items ++ map (λ a. event.Did a) actions
  pub context : n.context ≡ m.context
  pub none : IsNoAction (to_come n)

-- From one machine to another by a production and the actions that come next then.
pub record Replaces (p : Production) (m n : Machine) : Type 0 where
  pub actions : List Action
  pub came : body_of p ++ to_come m ≡ map (λ a. Do a) actions ++ to_come n
  pub events : n.events.items ≡ (m.events.items ++ event.Used p ∷ []) ++ map (λ a. event.Did a) actions
  pub context : (bytes : List ℕ) → surroundings_of bytes n.context ≡ enters p (surroundings_of bytes m.context)
  pub none : IsNoAction (to_come n)

-- From one machine to another without a token: what was reached is kept, or no sentence goes on with the next word.
abbrev pub Keeps : List ℕ → Option Word → Machine → Machine → Bool → Type 0
Keeps bytes next m n true = IsSettled (to_come n) × ((o : Surroundings) (start : List Item) (used : List Lexeme) → Holds bytes o start used (StartsWith next) m → Holds bytes o start used (StartsWith next) n)
Keeps bytes next m n false = (o : Surroundings) (start : List Item) (used : List Lexeme) → Holds bytes o start used (StartsWith next) m → IsWrongAfter o start used next

-- From one machine to another by a token.
abbrev pub Advances : List ℕ → Token → Machine → Machine → Bool → Type 0
Advances bytes t m n true = (o : Surroundings) (start : List Item) (used : List Lexeme) → Holds bytes o start used Anything m → Holds bytes o start (used ++ lexeme_of bytes t ∷ []) Anything n
Advances bytes t m n false = (o : Surroundings) (start : List Item) (used : List Lexeme) → Holds bytes o start used Anything m → IsWrongAfter o start used (Some t.word)

abbrev pub Ends : List ℕ → Machine → Machine → Bool → Type 0
Ends bytes m n true = (o : Surroundings) (start : List Item) (used : List Lexeme) → Holds bytes o start used Anything m → Derives o start used (map (step_of bytes) n.events.items)
Ends bytes m n false = (o : Surroundings) (start : List Item) (used : List Lexeme) → Holds bytes o start used Anything m → IsWrongAfter o start used None
