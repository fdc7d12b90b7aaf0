-- The production that the next word chooses.
use Rattle.std.specs.Prelude.{ℕ, Bool, false, ◌&&◌, ◌||◌, ◌==◌, if◌then◌else◌, List, [], ◌∷◌, Option, Some, None, is_some}
use Rattle.java_syntax.specs.declared.words.Word.{Word}
use Rattle.java_syntax.specs.declared.words.Word.TheVariants as word
use Rattle.java_syntax.specs.declared.symbols.Symbol.{Symbol}
use Rattle.java_syntax.specs.declared.symbols.Item.{Item}
use Rattle.java_syntax.specs.declared.symbols.Item.TheVariants.{Take, Read, Do}
use Rattle.java_syntax.specs.declared.productions.Production.{Production}
use Rattle.java_syntax.specs.Table.{body_of}
use Rattle.java_syntax.specs.Derives.{Surroundings, allowed}
use Rattle.java_grammar.specs.Choices.{productions_of, default_production, starts_of}

-- the words, numbered
abbrev pub rank : Word → ℕ
rank word.Package = 0
rank word.Semicolon = 1
rank word.Import = 2
rank word.Ident = 3
rank word.Dot = 4
rank word.Star = 5
rank word.Comma = 6
rank word.Class = 7
rank word.OpenBrace = 8
rank word.CloseBrace = 9
rank word.Interface = 10
rank word.Extends = 11
rank word.Implements = 12
rank word.Public = 13
rank word.Protected = 14
rank word.Private = 15
rank word.Static = 16
rank word.Final = 17
rank word.Abstract = 18
rank word.Void = 19
rank word.Primitive = 20
rank word.OpenBracket = 21
rank word.CloseBracket = 22
rank word.Super = 23
rank word.Throws = 24
rank word.OpenParen = 25
rank word.CloseParen = 26
rank word.This = 27
rank word.Assign = 28
rank word.At = 29
rank word.If = 30
rank word.While = 31
rank word.Do = 32
rank word.For = 33
rank word.Try = 34
rank word.Return = 35
rank word.Throw = 36
rank word.Break = 37
rank word.Continue = 38
rank word.Else = 39
rank word.Finally = 40
rank word.Catch = 41
rank word.Bar = 42
rank word.Step = 43
rank word.Compound = 44
rank word.Question = 45
rank word.Colon = 46
rank word.Sign = 47
rank word.Tight = 48
rank word.Loose = 49
rank word.Instanceof = 50
rank word.Not = 51
rank word.Literal = 52
rank word.New = 53
rank word.Other = 54

abbrev pub same : Word → Word → Bool
same v w = rank v == rank w

abbrev pub is_in : List Word → Word → Bool
is_in [] w = false
is_in (v ∷ vs) w = same v w || is_in vs w

-- Can the word be the first of what the items of a production derive?
abbrev pub led : List Item → Word → Bool
led [] w = false
led (Take v e ∷ is) w = same v w
led (Do a ∷ is) w = led is w
led (Read x ∷ is) w = is_in (starts_of x) w || (is_some (default_production x) && led is w)

abbrev pub find : Word → List Production → Option Production
find w [] = None
find w (a ∷ as') = if led (body_of a) w then Some a else find w as'

-- the production of the symbol that the word can lead
unfoldable pub found : Symbol → Word → Option Production
found x w = find w (productions_of x)

abbrev pub or_else : Option Production → Option Production → Option Production
or_else None b = b
or_else (Some a) b = Some a

-- the production that the next word chooses, or the end, whatever the conditions
abbrev pub candidate : Symbol → Option Word → Option Production
candidate x None = default_production x
candidate x (Some w) = or_else (found x w) (default_production x)

abbrev pub permitted : Surroundings → Option Production → Option Production
permitted s None = None
permitted s (Some a) = if allowed a s then Some a else None

abbrev pub choice : Symbol → Surroundings → Option Word → Option Production
choice x s next = permitted s (candidate x next)
