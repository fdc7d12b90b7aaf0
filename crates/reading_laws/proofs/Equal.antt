-- When are cells equal?
use Rattle.std.specs.Prelude.{◌≡◌, ℕ, ◌==◌, Bool, true, false, List, [], ◌∷◌, get_or, Option, Some, None}
use Rattle.std.proofs.lemmas.Bool.{eqb-true}
use Rattle.std.proofs.Common.{refl, sym, ◌∙◌, ap}
use Rattle.java_syntax.specs.declared.words.Word.{Word}
use Rattle.java_syntax.specs.declared.words.Word.TheVariants as word
use Rattle.java_grammar.specs.Lookahead.{rank}
use Rattle.reading_laws.proofs.Cells as cell
use Rattle.reading_laws.proofs.Cells.{Cell, word', start, kept, value, try_head, never, Part, plain, none, behind, next, some, any, clause, Plain, Listing, pending, compared, graded, Grade, statement', no_else}

pub by_number : {A : Type 0} (number : A → ℕ) (all : List A) (d : A) → ((x : A) → get_or all (number x) d ≡ x) → (x y : A) → (number x == number y) ≡ true → x ≡ y
by_number number all d at x y h = sym (at x) ∙ ap (λ n. get_or all n d) (eqb-true _ _ h) ∙ at y

abbrev pub then : {A B : Type 0} → Option A → (A → Option B) → Option B
then None f = None
then (Some a) f = f a

unfoldable words : List Word
words = word.Package ∷ word.Semicolon ∷ word.Import ∷ word.Ident ∷ word.Dot ∷ word.Star ∷ word.Comma ∷ word.Class ∷ word.OpenBrace ∷ word.CloseBrace ∷ word.Interface ∷ word.Extends ∷ word.Implements ∷ word.Public ∷ word.Protected ∷ word.Private ∷ word.Static ∷ word.Final ∷ word.Abstract ∷ word.Void ∷ word.Primitive ∷ word.OpenBracket ∷ word.CloseBracket ∷ word.Super ∷ word.Throws ∷ word.OpenParen ∷ word.CloseParen ∷ word.This ∷ word.Assign ∷ word.At ∷ word.If ∷ word.While ∷ word.Do ∷ word.For ∷ word.Try ∷ word.Return ∷ word.Throw ∷ word.Break ∷ word.Continue ∷ word.Else ∷ word.Finally ∷ word.Catch ∷ word.Bar ∷ word.Step ∷ word.Compound ∷ word.Question ∷ word.Colon ∷ word.Sign ∷ word.Tight ∷ word.Loose ∷ word.Instanceof ∷ word.Not ∷ word.Literal ∷ word.New ∷ word.Other ∷ []

word_at : (w : Word) → get_or words (rank w) word.Ident ≡ w
unfolding words
word_at word.Package = refl
word_at _ = refl

pub word_is : (v w : Word) → (rank v == rank w) ≡ true → v ≡ w
word_is v w h = by_number rank words word.Ident word_at v w h

abbrev pub word_if : (v w : Word) (b : Bool) → (rank v == rank w) ≡ b → Option (v ≡ w)
word_if v w true h = Some (word_is v w h)
word_if v w false h = None

abbrev pub same_word : (v w : Word) → Option (v ≡ w)
same_word v w = word_if v w (rank v == rank w) refl

abbrev pub listing_rank : Listing → ℕ
listing_rank cell.names = 0
listing_rank cell.expressions = 1
listing_rank cell.pairs = 2
listing_rank cell.values = 3
listing_rank cell.variables = 4
listing_rank cell.resources = 5
listing_rank cell.parameters = 6

unfoldable listings : List Listing
listings = cell.names ∷ cell.expressions ∷ cell.pairs ∷ cell.values ∷ cell.variables ∷ cell.resources ∷ cell.parameters ∷ []

listing_at : (l : Listing) → get_or listings (listing_rank l) cell.names ≡ l
unfolding listings
listing_at cell.names = refl
listing_at _ = refl

pub listing_is : (l m : Listing) → (listing_rank l == listing_rank m) ≡ true → l ≡ m
listing_is l m h = by_number listing_rank listings cell.names listing_at l m h

abbrev pub listing_if : (l m : Listing) (b : Bool) → (listing_rank l == listing_rank m) ≡ b → Option (l ≡ m)
listing_if l m true h = Some (listing_is l m h)
listing_if l m false h = None

abbrev pub same_listing : (l m : Listing) → Option (l ≡ m)
same_listing l m = listing_if l m (listing_rank l == listing_rank m) refl

abbrev pub plain_rank : Plain → ℕ
plain_rank cell.receiver = 0
plain_rank cell.identifier = 1
plain_rank cell.name = 2
plain_rank cell.no_name = 3
plain_rank cell.package' = 4
plain_rank cell.superclass = 5
plain_rank cell.identifiers = 6
plain_rank cell.one_name = 7
plain_rank cell.primitive = 8
plain_rank cell.closed_primitive = 9
plain_rank cell.element = 10
plain_rank cell.array_type = 11
plain_rank cell.typ = 12
plain_rank cell.closed_type = 13
plain_rank cell.result = 14
plain_rank cell.optional_expression = 15
plain_rank cell.call_arguments = 16
plain_rank cell.call = 17
plain_rank cell.operations = 18
plain_rank cell.parenthesized = 19
plain_rank cell.annotation = 20
plain_rank cell.annotations = 21
plain_rank cell.one_value = 22
plain_rank cell.inner_arguments = 23
plain_rank cell.annotation_arguments = 24
plain_rank cell.annotation_value = 25
plain_rank cell.values_in_braces = 26
plain_rank cell.modifiers = 27
plain_rank cell.local = 28
plain_rank cell.open_statement = 29
plain_rank cell.statements = 30
plain_rank cell.block = 31
plain_rank cell.for_start = 32
plain_rank cell.resources_inside = 33
plain_rank cell.catches = 34
plain_rank cell.formal_parameters = 35
plain_rank cell.open_super_call = 36
plain_rank cell.super_call = 37
plain_rank cell.constructor_body = 38
plain_rank cell.members = 39
plain_rank cell.types = 40
plain_rank cell.open_imports = 41
plain_rank cell.imports = 42
plain_rank cell.unit = 43
plain_rank cell.units = 44

unfoldable plains : List Plain
plains = cell.receiver ∷ cell.identifier ∷ cell.name ∷ cell.no_name ∷ cell.package' ∷ cell.superclass ∷ cell.identifiers ∷ cell.one_name ∷ cell.primitive ∷ cell.closed_primitive ∷ cell.element ∷ cell.array_type ∷ cell.typ ∷ cell.closed_type ∷ cell.result ∷ cell.optional_expression ∷ cell.call_arguments ∷ cell.call ∷ cell.operations ∷ cell.parenthesized ∷ cell.annotation ∷ cell.annotations ∷ cell.one_value ∷ cell.inner_arguments ∷ cell.annotation_arguments ∷ cell.annotation_value ∷ cell.values_in_braces ∷ cell.modifiers ∷ cell.local ∷ cell.open_statement ∷ cell.statements ∷ cell.block ∷ cell.for_start ∷ cell.resources_inside ∷ cell.catches ∷ cell.formal_parameters ∷ cell.open_super_call ∷ cell.super_call ∷ cell.constructor_body ∷ cell.members ∷ cell.types ∷ cell.open_imports ∷ cell.imports ∷ cell.unit ∷ cell.units ∷ []

plain_at : (p : Plain) → get_or plains (plain_rank p) cell.receiver ≡ p
unfolding plains
plain_at cell.receiver = refl
plain_at _ = refl

pub plain_is : (p q : Plain) → (plain_rank p == plain_rank q) ≡ true → p ≡ q
plain_is p q h = by_number plain_rank plains cell.receiver plain_at p q h

abbrev pub plain_if : (p q : Plain) (b : Bool) → (plain_rank p == plain_rank q) ≡ b → Option (p ≡ q)
plain_if p q true h = Some (plain_is p q h)
plain_if p q false h = None

abbrev pub same_plain : (p q : Plain) → Option (p ≡ q)
same_plain p q = plain_if p q (plain_rank p == plain_rank q) refl

abbrev pub grade_rank : Grade → ℕ
grade_rank cell.access = 0
grade_rank cell.primary = 1
grade_rank cell.postfix = 2
grade_rank cell.unsigned = 3
grade_rank cell.unary = 4
grade_rank cell.binary = 5
grade_rank cell.conditional = 6
grade_rank cell.full = 7

unfoldable grades : List Grade
grades = cell.access ∷ cell.primary ∷ cell.postfix ∷ cell.unsigned ∷ cell.unary ∷ cell.binary ∷ cell.conditional ∷ cell.full ∷ []

grade_at : (g : Grade) → get_or grades (grade_rank g) cell.primary ≡ g
unfolding grades
grade_at cell.access = refl
grade_at _ = refl

pub grade_is : (g h : Grade) → (grade_rank g == grade_rank h) ≡ true → g ≡ h
grade_is g h e = by_number grade_rank grades cell.primary grade_at g h e

abbrev pub grade_if : (g h : Grade) (b : Bool) → (grade_rank g == grade_rank h) ≡ b → Option (g ≡ h)
grade_if g h true e = Some (grade_is g h e)
grade_if g h false e = None

abbrev pub same_grade : (g h : Grade) → Option (g ≡ h)
same_grade g h = grade_if g h (grade_rank g == grade_rank h) refl

pub two_same : {A B C : Type 0} (f : A → B → C) (a b : A) (c d : B) → a ≡ b → c ≡ d → f a c ≡ f b d
two_same f a b c d p q = ap (λ x. f x c) p ∙ ap (λ y. f b y) q

pub one_same : {A B : Type 0} (f : A → B) (a b : A) → a ≡ b → f a ≡ f b
one_same f a b p = ap f p

abbrev pub same_list : (f : Listing → Word → Part) (l m : Listing) (v w : Word) → Option (f l v ≡ f m w)
same_list f l m v w = then (same_listing l m) (λ p. then (same_word v w) (λ q. Some (two_same f l m v w p q)))

abbrev pub same_part : (p q : Part) → Option (p ≡ q)
same_part (plain p) (plain q) = then (same_plain p q) (λ e. Some (one_same plain p q e))
same_part (graded g) (graded h) = then (same_grade g h) (λ e. Some (one_same graded g h e))
same_part (none l) (none m) = then (same_listing l m) (λ e. Some (one_same none l m e))
same_part (behind l v) (behind m w) = same_list behind l m v w
same_part (next l v) (next m w) = same_list next l m v w
same_part (some l v) (some m w) = same_list some l m v w
same_part (any l v) (any m w) = same_list any l m v w
same_part (clause v) (clause w) = then (same_word v w) (λ e. Some (one_same clause v w e))
same_part _ _ = None

abbrev pub same_cell : (c d : Cell) → Option (c ≡ d)
same_cell (word' v) (word' w) = then (same_word v w) (λ e. Some (one_same word' v w e))
same_cell start start = Some refl
same_cell (kept v) (kept w) = then (same_word v w) (λ e. Some (one_same kept v w e))
same_cell (value p) (value q) = then (same_part p q) (λ e. Some (one_same value p q e))
same_cell pending pending = Some refl
same_cell compared compared = Some refl
same_cell try_head try_head = Some refl
same_cell statement' statement' = Some refl
same_cell no_else no_else = Some refl
same_cell _ _ = None
