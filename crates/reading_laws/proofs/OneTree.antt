-- Tokens have one tree, or are wrong at one place, or have a tree that is too deep.
use Rattle.std.proofs.Common.{◌≡◌, ◌∙◌, ap, subst, refl, sym, arith, ℕ, ◌<◌, inl, inr, Bool, true, false, None, List, [], ◌∷◌, ◌++◌, length, map, slice_index_or, append_assoc}
use Rattle.std.proofs.lemmas.Bool.{cases_lt}
use Rattle.rlc_base.specs.declared.faults.Refusal.{Refusal}
use Rattle.rlc_base.specs.declared.faults.Stop.{Stop}
use Rattle.rlc_base.specs.declared.faults.Stop.TheVariants as stops
use Rattle.rlc_base.specs.declared.place.Pos.{Pos}
use Rattle.java_syntax.specs.declared.symbols.Symbol.{Symbol}
use Rattle.java_syntax.specs.declared.symbols.Symbol.TheVariants as symbols
use Rattle.java_syntax.specs.DeclarationTrees.{UnitTree}
use Rattle.java_syntax.specs.Derives.{Lexeme, Step, first_word}
use Rattle.java_grammar.specs.Refusal.{IsDerivation, IsWrongAt}
use Rattle.java_grammar.proofs.Runs.{the_only}
use Rattle.java_values.specs.Values.{ValueTree, AUnit, AUnits}
use Rattle.java_values.specs.Outcomes.{Outcome, Made, TooDeep}
use Rattle.java_exprs.specs.Evaluation.{evaluate}
use Rattle.program_front.specs.FileTrees.{IsFileStop, IsFileValues, IsStubTree, IsUnitTree}

-- ---- one tree

same_made : (s t : List ValueTree) → Made s ≡ Made t → s ≡ t
same_made s t h = cc

one_values : (stub : Bool) (symbol : Symbol) (tokens : List Lexeme) (s t : List ValueTree) → IsFileValues stub symbol tokens s → IsFileValues stub symbol tokens t → s ≡ t
one_values stub symbol tokens s t h g =
    same_made s t (sym h.evaluated ∙ ap (λ es. evaluate 128 es None []) (the_only stub symbol tokens g.steps h.steps g.derivation h.derivation) ∙ g.evaluated)

unit_head : (a b : UnitTree) → AUnit a ∷ [] ≡ AUnit b ∷ [] → a ≡ b
unit_head a b h = cc

units_head : (a b : List UnitTree) → AUnits a ∷ [] ≡ AUnits b ∷ [] → a ≡ b
units_head a b h = cc

pub one_unit : (tokens : List Lexeme) (tree other : UnitTree) → IsUnitTree tokens tree → IsUnitTree tokens other → tree ≡ other
one_unit tokens tree other h g = unit_head tree other (one_values false symbols.CompilationUnit tokens _ _ h g)

pub one_stub : (tokens : List Lexeme) (trees others : List UnitTree) → IsStubTree tokens trees → IsStubTree tokens others → trees ≡ others
one_stub tokens trees others h g = units_head trees others (one_values true symbols.StubFile tokens _ _ h g)

-- ---- a tree or a stop

wrong_has_none : (stub : Bool) (symbol : Symbol) (tokens : List Lexeme) (at : ℕ) → IsWrongAt stub symbol tokens at → (es : List Step) → IsDerivation stub symbol tokens es → ⊥
wrong_has_none stub symbol tokens at w es d = w.wrong w.rest es refl (subst (λ (ts : List Lexeme). IsDerivation stub symbol ts es) w.parts d)

deep_made : {A : Type 0} (o : Outcome A) (x : A) → o ≡ TooDeep → o ≡ Made x → ⊥
deep_made o x n s = cc

values_stop : (stub : Bool) (symbol : Symbol) (tokens : List Lexeme) (values : List ValueTree) (end : Pos) (stop : Stop) → IsFileValues stub symbol tokens values → IsFileStop stub symbol tokens end stop → stop ≡ stops.NoMemory
values_stop stub symbol tokens values end (stops.Refused r) h g = absurd (wrong_has_none stub symbol tokens g.at g.wrong h.steps h.derivation)
values_stop stub symbol tokens values end (stops.TooMuch r) h g = absurd (deep_made _ values (g.deep h.steps h.derivation) h.evaluated)
values_stop stub symbol tokens values end stops.NoMemory h g = refl

pub unit_stops : (tokens : List Lexeme) (tree : UnitTree) (end : Pos) (stop : Stop) → IsUnitTree tokens tree → IsFileStop false symbols.CompilationUnit tokens end stop → stop ≡ stops.NoMemory
unit_stops tokens tree end stop h g = values_stop false symbols.CompilationUnit tokens _ end stop h g

pub stub_stops : (tokens : List Lexeme) (trees : List UnitTree) (end : Pos) (stop : Stop) → IsStubTree tokens trees → IsFileStop true symbols.StubFile tokens end stop → stop ≡ stops.NoMemory
stub_stops tokens trees end stop h g = values_stop true symbols.StubFile tokens _ end stop h g

-- ---- one place

-- of one list cut twice, the longer first part goes on with the first token of the shorter one's rest
record IsLonger (used rest longer : List Lexeme) : Type 0 where
  pub next : Lexeme
  pub middle : List Lexeme
  pub behind : List Lexeme
  pub longer_is : longer ≡ used ++ next ∷ middle
  pub rest_is : rest ≡ next ∷ behind

same_cons : (t u : Lexeme) (ts us : List Lexeme) → t ∷ ts ≡ u ∷ us → (t ≡ u) × (ts ≡ us)
same_cons t u ts us h = (cc, cc)

longer : (xs ys us vs : List Lexeme) → xs ++ ys ≡ us ++ vs → length xs < length us → IsLonger xs ys us
longer [] ys [] vs h l = absurd (omega (arith, l))
longer [] ys (u ∷ us) vs h l = record { next = u; middle = us; behind = us ++ vs; longer_is = refl; rest_is = h }
longer (x ∷ xs) ys [] vs h l = absurd (omega (arith, l))
longer (x ∷ xs) ys (u ∷ us) vs h l =
    let same = same_cons x u (xs ++ ys) (us ++ vs) h in
    let below : length xs < length us = omega (arith, l) in
    let more = longer xs ys us vs same.1 below in
    record { next = more.next; middle = more.middle; behind = more.behind; longer_is = λ i. sym same.0 i ∷ more.longer_is i; rest_is = more.rest_is }

-- a sentence goes on at the second place with the word that is wrong at the first
no_later : (stub : Bool) (symbol : Symbol) (tokens : List Lexeme) (at other : ℕ) (w : IsWrongAt stub symbol tokens at) (v : IsWrongAt stub symbol tokens other) → length w.used < length v.used → ⊥
no_later stub symbol tokens at other w v below =
    let more = longer w.used w.rest v.used v.rest (sym w.parts ∙ v.parts) below in
    let joined : v.used ++ v.goes_on.0 ≡ w.used ++ more.next ∷ (more.middle ++ v.goes_on.0) = ap (λ (us : List Lexeme). us ++ v.goes_on.0) more.longer_is ∙ append_assoc w.used (more.next ∷ more.middle) v.goes_on.0 in
    w.wrong (more.next ∷ (more.middle ++ v.goes_on.0)) v.goes_on.1 (sym (ap first_word more.rest_is)) (subst (λ (ts : List Lexeme). IsDerivation stub symbol ts v.goes_on.1) joined v.goes_on.2)

one_place : (stub : Bool) (symbol : Symbol) (tokens : List Lexeme) (at other : ℕ) → IsWrongAt stub symbol tokens at → IsWrongAt stub symbol tokens other → at ≡ other
one_place stub symbol tokens at other w v = elim (cases_lt (length w.used) (length v.used)) [
  | inl below ↦ absurd (no_later stub symbol tokens at other w v below)
  | inr above ↦ elim (cases_lt (length v.used) (length w.used)) [
    | inl below ↦ absurd (no_later stub symbol tokens other at v w below)
    | inr same ↦ (let first = w.place in let second = v.place in omega (arith, above, same, first, second))
  ]
]

pub one_wrong : (stub : Bool) (symbol : Symbol) (tokens : List Lexeme) (end : Pos) (r q : Refusal) → IsFileStop stub symbol tokens end (stops.Refused r) → IsFileStop stub symbol tokens end (stops.Refused q) → r ≡ q
one_wrong stub symbol tokens end r q h g =
    let code = h.code ∙ sym g.code in
    let pos = h.place ∙ ap (λ n. slice_index_or (map (λ (t : Lexeme). t.pos) tokens) n end) (one_place stub symbol tokens h.at g.at h.wrong g.wrong) ∙ sym g.place in
    λ i. record { code = code i; pos = pos i }

pub not_deep : (stub : Bool) (symbol : Symbol) (tokens : List Lexeme) (end : Pos) (r q : Refusal) → IsFileStop stub symbol tokens end (stops.Refused r) → IsFileStop stub symbol tokens end (stops.TooMuch q) → ⊥
not_deep stub symbol tokens end r q h g = wrong_has_none stub symbol tokens h.at h.wrong g.steps g.derivation

pub one_deep : (stub : Bool) (symbol : Symbol) (tokens : List Lexeme) (end : Pos) (r q : Refusal) → IsFileStop stub symbol tokens end (stops.TooMuch r) → IsFileStop stub symbol tokens end (stops.TooMuch q) → r.code ≡ q.code
one_deep stub symbol tokens end r q h g = h.code ∙ sym g.code
