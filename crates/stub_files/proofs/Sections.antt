-- The sections of a stub file: those of the only cut of its bytes.
use Rattle.std.proofs.Common.{◌≡◌, subst, ℕ, List, map, true, Result, Ok, Err, IfOk, IfErr}
use Rattle.rlc_base.specs.declared.faults.Stop.{Stop}
use Rattle.java_syntax.specs.declared.tokens.Token.{Token}
use Rattle.java_syntax.specs.declared.symbols.Symbol.TheVariants as symbols
use Rattle.java_syntax.specs.DeclarationTrees.{UnitTree, unit_of}
use Rattle.java_lexer.specs.Cut.{IsCut, place_behind}
use Rattle.java_parser.specs.FileTrees.{IsStubTree, IsFileStop, HasNoStub, lexemes}
use Rattle.stub_files.specs.StubFiles.{IsStubOf, IsStubStop, no_stub}

-- sections over another cut of the bytes are sections over this one
pub only_sections : (file : ℕ) (bytes : List ℕ) (tokens : List Token) (trees : List UnitTree) → ((others : List Token) → IsCut file bytes others → others ≡ tokens)
    → ((others : List UnitTree) → IsStubTree (lexemes bytes tokens) others → others ≡ trees) → (others : List UnitTree) → IsStubOf file bytes others → others ≡ trees
only_sections file bytes tokens trees one_cut one_tree others is =
    one_tree others (subst (λ (ts : List Token). IsStubTree (lexemes bytes ts) others) (one_cut is.tokens is.cut) is.stub)

-- the same of what the parser answers
pub only_if_ok : {X : Type 0} (sections : X → List UnitTree) (file : ℕ) (bytes : List ℕ) (tokens : List Token) (r : Result X Stop)
    → ((others : List Token) → IsCut file bytes others → others ≡ tokens)
    → IfOk r (λ u. (others : List UnitTree) → IsStubTree (lexemes bytes tokens) others → others ≡ sections u)
    → IfOk r (λ u. (others : List UnitTree) → IsStubOf file bytes others → others ≡ sections u)
only_if_ok sections file bytes tokens (Ok u) one_cut one_tree = only_sections file bytes tokens (sections u) one_cut one_tree
only_if_ok sections file bytes tokens (Err e) one_cut one_tree = tt

-- a stop of the parser over the cut of the bytes
pub stops_too : {X : Type 0} (file : ℕ) (bytes : List ℕ) (tokens : List Token) (r : Result X Stop) → IsCut file bytes tokens
    → IfErr r (IsFileStop true symbols.StubFile (lexemes bytes tokens) (place_behind file bytes)) → IfErr r (HasNoStub (lexemes bytes tokens))
    → IfErr r (IsStubStop file bytes)
stops_too file bytes tokens (Ok u) cut stopped none = tt
stops_too file bytes tokens (Err e) cut stopped none = no_stub tokens cut (record { stopped = stopped; no_stub = none })
