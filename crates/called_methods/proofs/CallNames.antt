-- The names of calls, and the steps of the loops over names.
use Rattle.std.proofs.Common.{◌≡◌, ℕ, zero, suc, ◌+◌, ◌<◌, Option, Some, None, List, [], ◌∷◌, length, take, get_or, refl, sym, ap, ◌∙◌, arith, add-one}
use Rattle.std.specs.FinSet as set
use Rattle.rlc_base.specs.declared.name_id.NameId.{NameId}
use Rattle.program_model.specs.declared.kinds.MethodId.{MethodId}
use Rattle.program_model.specs.declared.program.Program.{Program}
use Rattle.program_model.specs.declared.program.Method.{Method}
use Rattle.program_model.specs.declared.program.ParamSig.{ParamSig}
use Rattle.program_model.specs.NameSets.{when}
use Rattle.program_model.proofs.NameLaws.{union_joined, union_none, none_union}
use Rattle.control_actions.specs.declared.action.Action.{Action}
use Rattle.obligation_facts.specs.Callees.{callee, callee_in, holds_operand}
use Rattle.control_actions.specs.Calls.{called_method}
use Rattle.obligation_facts.specs.Facts.{PlaceSet}
use Rattle.must_call_sets.specs.WellFormed.{HasSmallInterests}
use Rattle.called_methods.specs.CalledRows.{names_below}
use Rattle.called_methods.specs.Preconditions.{asked_from}

found_small : (p : Program) (m : Option MethodId) (x : Method) (n : NameId) → HasSmallInterests p → callee_in p m ≡ Some x → x.sig.interest ≡ Some n → n.0 < 128
found_small p None x n small found named = cc
found_small p (Some m) x n small found named = small m x n found named

pub callee_small : (p : Program) (a : Action) (x : Method) (n : NameId) → HasSmallInterests p → callee p a ≡ Some x → x.sig.interest ≡ Some n → n.0 < 128
callee_small p a x n small found named = found_small p (called_method a) x n small found named

pub names_next : (k : ℕ) → set.insert (names_below k) k ≡ names_below (k + 1)
names_next k = rw add-one refl

asked_one : (a : Action) (held : PlaceSet) (k : ℕ) (xs : List ParamSig) (i : ℕ) (x : ParamSig) → i < length xs → x ≡ get_or xs i x
    → asked_from a held k (take (suc i) xs) ≡ set.union (asked_from a held k (take i xs)) (when (holds_operand a held (i + k)) x.before)
asked_one a held k [] i x below same = absurd (omega arith)
asked_one a held k (y ∷ ys) zero x below same =
    let here : 0 + k ≡ k = omega arith in
    union_none (when (holds_operand a held k) y.before)
    ∙ sym (ap (λ (z : ParamSig). when (holds_operand a held k) z.before) same)
    ∙ sym (none_union (when (holds_operand a held k) x.before))
    ∙ sym (ap (λ n. set.union set.empty (when (holds_operand a held n) x.before)) here)
asked_one a held k (y ∷ ys) (suc i) x below same =
    let shorter : i < length ys = omega arith in
    let there : i + suc k ≡ suc i + k = omega arith in
    ap (set.union (when (holds_operand a held k) y.before)) (asked_one a held (suc k) ys i x shorter same)
    ∙ sym (union_joined (when (holds_operand a held k) y.before) (asked_from a held (suc k) (take i ys)) (when (holds_operand a held (i + suc k)) x.before))
    ∙ ap (λ n. set.union (asked_from a held k (take (suc i) (y ∷ ys))) (when (holds_operand a held n) x.before)) there

-- the names that the first parameters ask for, with those of one parameter more
pub asked_more : (a : Action) (held : PlaceSet) (xs : List ParamSig) (i : ℕ) (x : ParamSig) → i < length xs → x ≡ get_or xs i x
    → set.union (asked_from a held 1 (take i xs)) (when (holds_operand a held (i + 1)) x.before) ≡ asked_from a held 1 (take (i + 1) xs)
asked_more a held xs i x below same =
    let next : i + 1 ≡ suc i = omega arith in sym (ap (λ n. asked_from a held 1 (take n xs)) next ∙ asked_one a held 1 xs i x below same)
