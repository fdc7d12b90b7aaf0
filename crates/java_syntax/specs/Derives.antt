-- What the productions derive, with the conditions that the items alone do not say.
use Rattle.std.specs.Prelude.{◌≡◌, ℕ, Bool, true, false, not, ◌&&◌, ◌||◌, List, [], ◌∷◌, ◌++◌, Option, Some, None, take, drop}
use Rattle.std.specs.Str.{bytes_eq}
use Rattle.rlc_base.specs.declared.place.Pos.{Pos}
use Rattle.java_syntax.specs.declared.tokens.Token.{Token}
use Rattle.java_syntax.specs.declared.tokens.Event.{Event}
use Rattle.java_syntax.specs.declared.tokens.Event.TheVariants as event
use Rattle.java_syntax.specs.declared.surroundings.Modifiers.{Modifiers}
use Rattle.java_syntax.specs.declared.surroundings.Owner.{Owner}
use Rattle.java_syntax.specs.declared.surroundings.Owner.TheVariants as owner
use Rattle.java_syntax.specs.declared.words.Word.{Word}
use Rattle.java_syntax.specs.declared.words.Word.TheVariants as word
use Rattle.java_syntax.specs.declared.words.Effect.{Effect}
use Rattle.java_syntax.specs.declared.words.Effect.TheVariants as effect
use Rattle.java_syntax.specs.declared.symbols.Symbol.{Symbol}
use Rattle.java_syntax.specs.declared.symbols.Item.{Item}
use Rattle.java_syntax.specs.declared.symbols.Item.TheVariants.{Take, Read, Do}
use Rattle.java_syntax.specs.declared.actions.Action.{Action}
use Rattle.java_syntax.specs.declared.productions.Production.{Production}
use Rattle.java_syntax.specs.declared.productions.Production.TheVariants.{Declare, State, Compute}
use Rattle.java_syntax.specs.declared.productions.DeclarationProduction.TheVariants as declaration
use Rattle.java_syntax.specs.declared.productions.StatementProduction.TheVariants as statement
use Rattle.java_syntax.specs.declared.productions.ExpressionProduction.TheVariants as expression
use Rattle.java_syntax.specs.Table.{body_of, head_of}

-- a token: its class, its bytes, its place
pub record Lexeme : Type 0 where
  pub word : Word
  pub text : List ℕ
  pub pos : Pos

abbrev pub text_of : List ℕ → Token → List ℕ
text_of bytes t = take t.len (drop t.start bytes)

-- the token of a file with these bytes
abbrev pub lexeme_of : List ℕ → Token → Lexeme
lexeme_of bytes t = record { word = t.word; text = text_of bytes t; pos = t.pos }

abbrev pub no_modifier : Modifiers
no_modifier = record { has_access = false; is_private = false; is_static = false; is_final = false; is_abstract = false }

-- What the conditions look at: is this a stub; where the declaration stands and its modifiers; the class's name, and the name that may be a constructor's; what ended last.
pub record Surroundings : Type 0 where
  pub is_stub : Bool
  pub owner : Owner
  pub modifiers : Modifiers
  pub class_name : List ℕ
  pub member_name : List ℕ
  pub ended : Effect

abbrev pub at_start : Bool → Surroundings
at_start stub = record { is_stub = stub; owner = owner.File; modifiers = no_modifier; class_name = []; member_name = []; ended = effect.Passes }

abbrev pub with_modifier : Modifiers → Word → Modifiers
with_modifier m word.Public = record m { has_access = true }
with_modifier m word.Protected = record m { has_access = true }
with_modifier m word.Private = record m { has_access = true; is_private = true }
with_modifier m word.Static = record m { is_static = true }
with_modifier m word.Final = record m { is_final = true }
with_modifier m word.Abstract = record m { is_abstract = true }
with_modifier m _ = m

-- behind a word
abbrev pub after : Effect → Lexeme → Surroundings → Surroundings
after effect.Adds t s = record s { modifiers = with_modifier s.modifiers t.word; ended = effect.Passes }
after effect.NamesClass t s = record s { class_name = t.text; ended = effect.Passes }
after effect.NamesMember t s = record s { member_name = t.text; ended = effect.Passes }
after e t s = record s { ended = e }

-- where a production begins: a declaration begins with no modifier
abbrev pub enters : Production → Surroundings → Surroundings
enters (Declare declaration.ModifiedType) s = record s { owner = owner.File; modifiers = no_modifier }
enters (Declare declaration.ModifiedMember) s = record s { owner = owner.Class; modifiers = no_modifier }
enters (Declare declaration.HeadOf) s = record s { owner = owner.Interface; modifiers = no_modifier }
enters _ s = s

abbrev pub is_file : Owner → Bool
is_file owner.File = true
is_file _ = false

abbrev pub is_interface : Owner → Bool
is_interface owner.Interface = true
is_interface _ = false

-- what stands left of an assignment (JLS 15.26)
abbrev pub is_left : Effect → Bool
is_left effect.Assigns = true
is_left _ = false

abbrev pub is_call : Effect → Bool
is_call effect.Calls = true
is_call _ = false

-- a type in parentheses, which a cast's operand follows (JLS 15.16)
abbrev pub may_cast : Effect → Bool
may_cast effect.ClosesName = true
may_cast effect.ClosesArray = true
may_cast _ = false

abbrev pub is_array_type : Effect → Bool
is_array_type effect.ClosesArray = true
is_array_type _ = false

-- May the production be used there?
abbrev pub allowed : Production → Surroundings → Bool
-- no modifier word stands twice, and at most one of `public`, `protected` and `private`; `abstract` not with `static`, `private` or `final`;
-- a method of an interface has none but `public` and `abstract`; a class or interface is not `static`
allowed (Declare declaration.AndPublic) s = not s.modifiers.has_access
allowed (Declare declaration.AndProtected) s = not s.modifiers.has_access && not (is_interface s.owner)
allowed (Declare declaration.AndPrivate) s = not s.modifiers.has_access && (not s.modifiers.is_abstract && not (is_interface s.owner))
allowed (Declare declaration.AndStatic) s = not s.modifiers.is_static && (not s.modifiers.is_abstract && (not (is_interface s.owner) && not (is_file s.owner)))
allowed (Declare declaration.AndFinal) s = not s.modifiers.is_final && (not s.modifiers.is_abstract && not (is_interface s.owner))
allowed (Declare declaration.AndAbstract) s = not s.modifiers.is_abstract && (not s.modifiers.is_static && (not s.modifiers.is_final && not s.modifiers.is_private))
-- a constructor has its class's name and no modifier but an access word
allowed (Declare declaration.ConstructorOf) s = bytes_eq s.member_name s.class_name && (not s.modifiers.is_static && (not s.modifiers.is_final && not s.modifiers.is_abstract))
-- no field is abstract, and in a stub none has an initialiser
allowed (Declare declaration.FieldOf) s = not s.modifiers.is_abstract
allowed (Declare declaration.SomeInitializer) s = not s.is_stub
-- in a stub methods and constructors end in `;`; elsewhere a constructor has a body, and a method exactly where it is not abstract
allowed (Declare declaration.SomeMethodBody) s = not s.is_stub && not s.modifiers.is_abstract
allowed (Declare declaration.NoMethodBody) s = s.is_stub || s.modifiers.is_abstract
allowed (Declare declaration.SomeConstructorBody) s = not s.is_stub
allowed (Declare declaration.NoConstructorBody) s = s.is_stub
-- a name, a field access or an index is assigned
allowed (State statement.AssignAction) s = is_left s.ended
allowed (State statement.CompoundAction) s = is_left s.ended
allowed (Compute expression.AssignTail) s = is_left s.ended
allowed (Compute expression.CompoundTail) s = is_left s.ended
-- what is no assignment and no `++` or `--` stands as a statement only where it is a call or a `new` with arguments
allowed (State statement.CallTail) s = is_call s.ended
-- a cast's operand stands behind a type in parentheses, and an array type in parentheses has one
allowed (Compute expression.CastExpression) s = may_cast s.ended
allowed (Compute expression.CastOf) s = may_cast s.ended
allowed (Compute expression.ParenthesesExpression) s = not (is_array_type s.ended)
allowed (Compute expression.ParenthesesOf) s = not (is_array_type s.ended)
allowed _ _ = true

abbrev pub first_word : List Lexeme → Option Word
first_word [] = None
first_word (t ∷ ts) = Some t.word

-- An `else` belongs to the nearest `if` that can have it (JLS 14.5): an `if` that could have the next one has it.
abbrev pub leaves_no_else : Production → Option Word → Bool
leaves_no_else (State statement.NoElse) (Some word.Else) = false
leaves_no_else _ _ = true

-- A step of a derivation, from the left.
pub data Step : Type 0 where
  Took : Lexeme → Step
  Used : Production → Step
  Did : Action → Step

abbrev pub step_of : List ℕ → Event → Step
step_of bytes (event.Took t) = Took (lexeme_of bytes t)
step_of bytes (event.Used p) = Used p
step_of bytes (event.Did a) = Did a

-- In these surroundings the items derive the tokens; the steps are the tokens, before those of a symbol the production that it uses, and the actions in their places.
pub data Derives : Surroundings → List Item → List Lexeme → List Step → Type 0 where
  ended : (s : Surroundings) → Derives s [] [] []
  took : (s : Surroundings) (w : Word) (e : Effect) (t : Lexeme) {is : List Item} {ts : List Lexeme} {es : List Step} → t.word ≡ w
      → Derives (after e t s) is ts es → Derives s (Take w e ∷ is) (t ∷ ts) (Took t ∷ es)
  used : (s : Surroundings) (x : Symbol) (p : Production) {is : List Item} {ts : List Lexeme} {es : List Step} → head_of p ≡ x
      → (allowed p s && leaves_no_else p (first_word ts)) ≡ true → Derives (enters p s) (body_of p ++ is) ts es → Derives s (Read x ∷ is) ts (Used p ∷ es)
  did : (s : Surroundings) (a : Action) {is : List Item} {ts : List Lexeme} {es : List Step} → Derives s is ts es → Derives s (Do a ∷ is) ts (Did a ∷ es)
