-- A front of the tokens from one on, and its place among all tokens.
use Rattle.std.specs.Prelude.{◌≡◌, ℕ, ◌+◌, ◌-◌, List}
use Rattle.std.proofs.Common.{sym, subst, arith}
use Rattle.java_syntax.specs.declared.symbols.Symbol.{Symbol}
use Rattle.java_syntax.specs.Derives.{Lexeme}
use Rattle.java_values.specs.Values.{ValueTree}
use Rattle.java_exprs.specs.FrontTrees.{IsFrontTree}

pub front_moved : {A : Type 0} (shows : A → List ValueTree → Type 0) (symbol : Symbol) (limit : ℕ) (start : List ValueTree) (old new : List Lexeme) (found at : ℕ) (tree : A) → old ≡ new
    → ((count : ℕ) (t : A) → IsFrontTree shows symbol limit start old count t → (count ≡ found) × (t ≡ tree))
    → (count : ℕ) (t : A) → IsFrontTree shows symbol limit start new count t → (count ≡ at + found - at) × (t ≡ tree)
front_moved {A} shows symbol limit start old new found at tree e only count t f =
    let r = only count t (subst (λ (ts : List Lexeme). IsFrontTree {A = A} shows symbol limit start ts count t) (sym e) f) in
    let same : count ≡ found = r.0 in
    (omega (arith, same), r.1)
