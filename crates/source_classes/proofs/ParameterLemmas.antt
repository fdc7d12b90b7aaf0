-- One parameter more.
use Rattle.std.proofs.Common.{◌≡◌, ◌∙◌, sym, ap, arith, ℕ, ◌+◌, ◌<◌, ◌≤◌, min, List, [], ◌∷◌, ◌++◌, length, get_or, drop}
use Rattle.std.specs.Prelude.{zip}
use Rattle.std.proofs.lemmas.List.{append-nil, append_assoc, drop_all, drop_more, length_push}
use Rattle.std.proofs.lemmas.Slice.Zip.{get_or-zip, length-zip}
use Rattle.rlc_base.specs.declared.faults.Refusal.{Refusal}
use Rattle.program_model.specs.declared.program.ParamSig.{ParamSig}
use Rattle.java_syntax.specs.declared.declaration_trees.Param.{Param}
use Rattle.java_typed_trees.specs.declared.scope.Local.{Local}
use Rattle.java_statement_rules.specs.DeclaredVariables.{double_cases}
use Rattle.source_classes.specs.Parameters.{cases_behind, parameter, parameters_from}

-- the pair of the two elements
pub pair_more : (ws : List Param) (xs : List ParamSig) (i : ℕ) (w : Param) (x : ParamSig) → i < length ws → i < length xs → w ≡ get_or ws i w → x ≡ get_or xs i x → drop i (zip ws xs) ≡ (w, x) ∷ drop (i + 1) (zip ws xs)
pair_more ws xs i w x in_ws in_xs at_w at_x =
    let long = length-zip ws xs in
    drop_more (zip ws xs) i (w, x) (omega (arith, long))
    ∙ ap (λ p. p ∷ drop (i + 1) (zip ws xs)) (get_or-zip ws xs i (w, x) in_ws in_xs ∙ ap (λ a. (a, get_or xs i x)) (sym at_w) ∙ ap (λ b. (w, b)) (sym at_x))

-- it is the next variable
pub parameter_next : (before : List Local) (w : Param) (x : ParamSig) (rest : List (Param × ParamSig)) → before ++ parameters_from (length before) ((w, x) ∷ rest) ≡ (before ++ parameter (length before) w x ∷ []) ++ parameters_from (length (before ++ parameter (length before) w x ∷ [])) rest
parameter_next before w x rest =
    sym (append_assoc before (parameter (length before) w x ∷ []) (parameters_from (length before + 1) rest))
    ∙ ap (λ n. (before ++ parameter (length before) w x ∷ []) ++ parameters_from n rest) (sym (length_push before (parameter (length before) w x)))

pub case_next : (counted : List Refusal) (before : List Local) (w : Param) (x : ParamSig) (rest : List (Param × ParamSig)) → counted ++ cases_behind before ((w, x) ∷ rest) ≡ (counted ++ double_cases w.name.pos before w.name.text) ++ cases_behind (before ++ parameter (length before) w x ∷ []) rest
case_next counted before w x rest = sym (append_assoc counted (double_cases w.name.pos before w.name.text) (cases_behind (before ++ parameter (length before) w x ∷ []) rest))

-- no parameter is left
no_pair : (ws : List Param) (xs : List ParamSig) (n : ℕ) → min (length ws) (length xs) ≤ n → drop n (zip ws xs) ≡ []
no_pair ws xs n all = let long = length-zip ws xs in drop_all n (zip ws xs) (omega (arith, long))

pub all_declared : (ws : List Param) (xs : List ParamSig) (n : ℕ) (found whole : List Local) → min (length ws) (length xs) ≤ n → found ++ parameters_from (length found) (drop n (zip ws xs)) ≡ whole → found ≡ whole
all_declared ws xs n found whole all is = sym (append-nil found) ∙ ap (λ ps. found ++ parameters_from (length found) ps) (sym (no_pair ws xs n all)) ∙ is

pub all_counted : (ws : List Param) (xs : List ParamSig) (n : ℕ) (locals : List Local) (counted whole : List Refusal) → min (length ws) (length xs) ≤ n → counted ++ cases_behind locals (drop n (zip ws xs)) ≡ whole → counted ≡ whole
all_counted ws xs n locals counted whole all is = sym (append-nil counted) ∙ ap (λ ps. counted ++ cases_behind locals ps) (sym (no_pair ws xs n all)) ∙ is
