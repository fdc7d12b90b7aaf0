-- What moves.
use Rattle.std.proofs.Common.{◌≡◌, ◌∙◌, ap, sym, refl, subst, ℕ, zero, suc, ◌+◌, ◌<◌, Bool, true, false, ◌||◌, nat_eq, Option, Some, None, List, [], ◌∷◌, ◌++◌, length, map, arith}
use Rattle.std.proofs.lemmas.Grind.{common_steps}
use Rattle.std.specs.Prelude.{if◌then◌else◌}
use Rattle.std.specs.List.{range_with_len}
use Rattle.program_model.specs.declared.program.Program.{Program}
use Rattle.program_model.specs.declared.program.Method.{Method}
use Rattle.program_model.specs.declared.program.ParamSig.{ParamSig}
use Rattle.program_model.specs.Lookups.{optional}
use Rattle.control_actions.specs.declared.action.Action.{Action}
use Rattle.ledger_state.specs.declared.entry.Owner.{Owner}
use Rattle.ledger_state.specs.declared.locals.Locals.{Locals}
use Rattle.ledger_state.specs.declared.value.Value.{Value}
use Rattle.ledger_state.specs.Contents.{HeapContents}
use Rattle.ledger_state.specs.Heaps.{has_number, root_of}
use Rattle.ledger_obligations.specs.Obligations.{move}
use Rattle.ledger_calls.specs.Calls.{argument_values, arguments_moved, move_param, move_params, operand_of, params_in}
use Rattle.heap_drafts.specs.Drafts.{ChangesAmong, HasNumbers, roots_of}
use Rattle.heap_drafts.proofs.DraftLaws.{among_same}
use Rattle.heap_drafts.proofs.RootLaws.{SameLinks, among_then, links_then, move_among, move_same, root_of_same}

or_true : (a : Bool) → (a || true) ≡ true
or_true true = refl
or_true false = refl

-- the roots of the arguments from position `k` on are among these
abbrev pub RootsAmong : HeapContents → (ℕ → Value) → ℕ → ℕ → List ℕ → Type 0
RootsAmong h at k n ks = (i c : ℕ) → i < n → root_of h (at (k + i)) ≡ Some c → 0 < c → has_number ks c ≡ true

param_among : (p : Program) (o : Owner) (v : Value) (q : ParamSig) (h : HeapContents) (ks : List ℕ) → ((c : ℕ) → root_of h v ≡ Some c → 0 < c → has_number ks c ≡ true) → ChangesAmong ks h (move_param p o v q h)
param_among p o v q h ks has = go q.owning
  where
    go : (b : Bool) → ChangesAmong ks h (if b then move p q.vtype o v h else h)
    go true = move_among p q.vtype o v h ks has
    go false = among_same h ks

param_same : (p : Program) (o : Owner) (v : Value) (q : ParamSig) (h : HeapContents) → SameLinks h (move_param p o v q h)
param_same p o v q h = go q.owning
  where
    go : (b : Bool) → SameLinks h (if b then move p q.vtype o v h else h)
    go true = move_same p q.vtype o v h
    go false = λ e. refl

params_among : (p : Program) (o : Owner) (at : ℕ → Value) (k : ℕ) (qs : List ParamSig) (first h : HeapContents) (ks : List ℕ) → SameLinks first h → length h.objects ≡ length first.objects → RootsAmong first at k (length qs) ks → ChangesAmong ks h (move_params p o at k qs h)
params_among p o at k [] first h ks same count has = among_same h ks
params_among p o at k (q ∷ qs) first h ks same count has =
    among_then ks h (move_param p o (at k) q h) (move_params p o at (k + 1) qs (move_param p o (at k) q h)) one
    (params_among p o at (k + 1) qs first (move_param p o (at k) q h) ks (links_then first h (move_param p o (at k) q h) same (param_same p o (at k) q h)) (one.count ∙ count)
    (λ i c less root above. let n : k + suc i ≡ k + 1 + i = omega arith in has (suc i) c (omega (arith, less)) (ap (λ m. root_of first (at m)) n ∙ root) above))
  where
    one : ChangesAmong ks h (move_param p o (at k) q h)
    one =
        param_among p o (at k) q h ks
        (λ c root above. let n : k + 0 ≡ k = omega arith in has 0 c (omega arith) (ap (λ m. root_of first (at m)) n ∙ sym (root_of_same first h (at k) same count) ∙ root) above)

-- The roots of the arguments

skip_root : (o : Option ℕ) (ks : List ℕ) (c : ℕ) → has_number ks c ≡ true → has_number (optional o ++ ks) c ≡ true
skip_root None ks c has = has
skip_root (Some r) ks c has = ap (λ t. nat_eq r c || t) has ∙ or_true (nat_eq r c)

root_here : (o : Option ℕ) (ks : List ℕ) (c : ℕ) → o ≡ Some c → has_number (optional o ++ ks) c ≡ true
root_here o ks c is =
    let own : nat_eq c c ≡ true = grind (arith, common_steps) in
    ap (λ u. has_number (optional u ++ ks) c) is ∙ ap (λ t. t || has_number ks c) own

in_range : (h : HeapContents) (at : ℕ → Value) (k n i c : ℕ) → i < n → root_of h (at (k + i)) ≡ Some c → has_number (roots_of h (map at (range_with_len k n))) c ≡ true
in_range h at k zero i c less root = absurd (omega arith)
in_range h at k (suc n) zero c less root =
    let plus : k ≡ k + 0 = omega arith in
    root_here (root_of h (at k)) (roots_of h (map at (range_with_len (k + 1) n))) c (ap (λ m. root_of h (at m)) plus ∙ root)
in_range h at k (suc n) (suc i) c less root =
    let plus : k + 1 + i ≡ k + suc i = omega arith in
    skip_root (root_of h (at k)) (roots_of h (map at (range_with_len (k + 1) n))) c
    (in_range h at (k + 1) n i c (omega arith) (ap (λ m. root_of h (at m)) plus ∙ root))

pub arguments_among : (p : Program) (o : Owner) (l : Locals) (a : Action) (m : Option Method) (h : HeapContents) (ks : List ℕ) → HasNumbers (roots_of h (argument_values l a m)) ks → ChangesAmong ks h (arguments_moved p o l a m h)
arguments_among p o l a m h ks has =
    params_among p o (operand_of l a) 1 (params_in m) h h ks (λ e. refl) refl
    (λ i c less root above. has c above (in_range h (operand_of l a) 1 (length (params_in m)) i c less root))

pub moved_among : (p : Program) (o : Owner) (l : Locals) (a : Action) (m : Option Method) (h g : HeapContents) (ks roots : List ℕ) → ks ≡ roots → HasNumbers (roots_of h (argument_values l a m)) roots → g ≡ arguments_moved p o l a m h → ChangesAmong ks h g
moved_among p o l a m h g ks roots is has moved =
    subst (λ (i : HeapContents). ChangesAmong ks h i) (sym moved)
    (subst (λ (js : List ℕ). ChangesAmong js h (arguments_moved p o l a m h)) (sym is) (arguments_among p o l a m h roots has))
