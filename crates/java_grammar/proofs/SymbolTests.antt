-- The tests of the symbols: what is chosen for one is its own, and leaves no `else`.
use Rattle.std.specs.Prelude.{◌≡◌, Bool, true, ◌&&◌, ◌==◌, Option, Some, None}
use Rattle.std.proofs.Common.{refl, subst}
use Rattle.java_syntax.specs.declared.words.Word.{Word}
use Rattle.java_syntax.specs.declared.symbols.Symbol.{Symbol}
use Rattle.java_syntax.specs.declared.symbols.Symbol.TheVariants as symbol
use Rattle.java_syntax.specs.declared.productions.Production.{Production}
use Rattle.java_syntax.specs.declared.productions.Production.TheVariants.{State}
use Rattle.java_syntax.specs.declared.productions.StatementProduction.TheVariants as statement
use Rattle.java_syntax.specs.Table.{head_of}
use Rattle.java_syntax.specs.Derives.{leaves_no_else}
use Rattle.java_grammar.specs.Choices.{default_production}
use Rattle.java_grammar.specs.Lookahead.{found, candidate}
use Rattle.java_grammar.proofs.Bools.{and_parts}
use Rattle.java_grammar.proofs.Words.{all, words, each_word}
use Rattle.java_grammar.proofs.Numbers.{place, places_are}

unfoldable is_own : Symbol → Option Production → Bool
is_own s None = true
is_own s (Some a) = place (head_of a) == place s

own : (s : Symbol) (a : Production) → is_own s (Some a) ≡ true → head_of a ≡ s
unfolding is_own
own s a h = places_are (head_of a) s h

unfoldable is_firm : Option Production → Word → Bool
is_firm None w = true
is_firm (Some a) w = leaves_no_else a (Some w)

firm : (a : Production) (w : Word) → is_firm (Some a) w ≡ true → leaves_no_else a (Some w) ≡ true
unfolding is_firm
firm a w h = h

abbrev owns : Symbol → Word → Bool
owns x w = is_own x (candidate x (Some w)) && is_firm (candidate x (Some w)) w

owned : (x : Symbol) → all (owns x) words ≡ true
unfolding all words is_own is_firm place found
owned symbol.CompilationUnit = refl
owned _ = refl

default_own : (x : Symbol) → is_own x (default_production x) ≡ true
unfolding is_own place
default_own symbol.CompilationUnit = refl
default_own _ = refl

owns_at : (x : Symbol) (w : Word) → (is_own x (candidate x (Some w)) ≡ true) × (is_firm (candidate x (Some w)) w ≡ true)
owns_at x w = and_parts (is_own x (candidate x (Some w))) (is_firm (candidate x (Some w)) w) (each_word (owns x) (owned x) w)

pub candidate_is_of : (x : Symbol) (next : Option Word) (a : Production) → candidate x next ≡ Some a → head_of a ≡ x
candidate_is_of x None a c = own x a (subst (λ o. is_own x o ≡ true) c (default_own x))
candidate_is_of x (Some w) a c = own x a (subst (λ o. is_own x o ≡ true) c (owns_at x w).0)

leaves_nothing : (a : Production) → leaves_no_else a None ≡ true
leaves_nothing (State statement.NoElse) = refl
leaves_nothing _ = refl

pub candidate_leaves : (x : Symbol) (next : Option Word) (a : Production) → candidate x next ≡ Some a → leaves_no_else a next ≡ true
candidate_leaves x None a c = leaves_nothing a
candidate_leaves x (Some w) a c = firm a w (subst (λ o. is_firm o w ≡ true) c (owns_at x w).1)
