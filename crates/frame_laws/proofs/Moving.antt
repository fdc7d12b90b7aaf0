-- A fact that moves at a call: an owning parameter takes its object.
use Rattle.std.proofs.Common.{◌≡◌, ℕ, ◌+◌, Bool, true, false, not, ◌&&◌, Option, Some, None, List, [], ◌∷◌, slice_get, refl, sym, ap, ◌∙◌, subst, true≢false, if◌then◌else◌, arith, add-one}
use Rattle.std.proofs.lemmas.Bool.{and_parts}
use Rattle.program_model.specs.declared.kinds.VType.{VType}
use Rattle.program_model.specs.declared.program.Method.{Method}
use Rattle.program_model.specs.declared.program.ParamSig.{ParamSig}
use Rattle.program_model.specs.declared.program.Program.{Program}
use Rattle.ledger_steps.specs.MustCallSets.{fits_type, is_heavy_as}
use Rattle.control_actions.specs.declared.action.Action.{Action}
use Rattle.control_actions.specs.declared.action.Edge.{Edge}
use Rattle.control_actions.specs.declared.fact.Fact.{Fact}
use Rattle.control_actions.specs.declared.fact.Origin.{Origin}
use Rattle.control_actions.specs.declared.fact.Rule.{Rule}
use Rattle.control_actions.specs.declared.fact.Rule.TheVariants as rules
use Rattle.ownership_rules.specs.Callees.{callee, holds_operand, may_be_null_target}
use Rattle.ownership_rules.specs.Facts.{PlaceSet, is_met}
use Rattle.ownership_rules.specs.Heavy.{is_owned}
use Rattle.ownership_rules.specs.MovesAtCalls.{first_of, has_two_owners, moved_at_call, moved_to, moved_to_first, owners, owners_from, owners_in}
use Rattle.ownership_rules.specs.MovesAtCalls.{takes as takes_at}
use Rattle.ownership_rules.specs.declared.moved.Moved.{Moved}
use Rattle.ownership_rules.specs.declared.moved.Moved.TheVariants as moves
use Rattle.ledger_steps.specs.LedgerCallsCalls.{params_in}

-- an owning parameter of the type takes the object
pub record Taken (a : Action) (held : PlaceSet) (k : ℕ) (params : List ParamSig) (t : VType) : Type 0 where
  pub index : ℕ
  pub param : ParamSig
  pub at : slice_get params index ≡ Some param
  pub taken : takes_at a held (k + index) param ≡ true
  pub vtype : param.vtype ≡ t

first_taken : (a : Action) (held : PlaceSet) (k : ℕ) (params : List ParamSig) (t : VType) → first_of (owners_from a held k params) ≡ Some t → Taken a held k params t
first_taken a held k [] t is = absurd (let never : None ≡ Some t = is in cc)
first_taken a held k (q ∷ qs) t is = go (takes_at a held k q) refl (first_taken a held (k + 1) qs t) is
  where
    go : (b : Bool) → takes_at a held k q ≡ b → (first_of (owners_from a held (k + 1) qs) ≡ Some t → Taken a held (k + 1) qs t)
        → first_of (if b then q.vtype ∷ owners_from a held (k + 1) qs else owners_from a held (k + 1) qs) ≡ Some t → Taken a held k (q ∷ qs) t
    go true one further same = record {
      index = 0;
      param = q;
      at = refl;
      taken = subst (λ (n : ℕ). takes_at a held n q ≡ true) (omega arith) one;
      vtype = (let some : Some q.vtype ≡ Some t = same in cc);
    }
    go false one further same =
        let rest = further same in
        record {
          index = rest.index + 1;
          param = rest.param;
          at = rw add-one rest.at;
          taken = subst (λ (n : ℕ). takes_at a held n rest.param ≡ true) (omega arith) rest.taken;
          vtype = rest.vtype;
        }

-- what a call that takes the object says of it
pub record Given (p : Program) (o : Origin) (a : Action) (e : Edge) (f : Fact) (params : List ParamSig) : Type 0 where
  pub index : ℕ
  pub param : ParamSig
  pub at : slice_get params index ≡ Some param
  pub owning : param.owning ≡ true
  pub operand : holds_operand a f.places (index + 1) ≡ true
  pub fits : fits_type p o.class (Some param.vtype) ≡ true
  pub started : may_be_null_target p a e ≡ true → is_met o f ≡ true

if_moves : (x : Bool) (u v : Moved) → (u ≡ moves.Moves → ⊥) → (if x then u else v) ≡ moves.Moves → (x ≡ false) × (v ≡ moves.Moves)
if_moves true u v never is = absurd (never is)
if_moves false u v never is = (refl, is)

not_false : (b : Bool) → not b ≡ false → b ≡ true
not_false true h = refl
not_false false h = absurd (true≢false h)

then_true : (a b : Bool) → (a && not b) ≡ false → a ≡ true → b ≡ true
then_true true b h is = not_false b h
then_true false b h is = absurd (true≢false (sym is))

bad_moves : (r : Rule) → moves.Bad r ≡ moves.Moves → ⊥
bad_moves r is = cc

given_by : (p : Program) (o : Origin) (a : Action) (e : Edge) (f : Fact) (params : List ParamSig) (t : VType) → Taken a f.places 0 params t → moved_to p o a e f t ≡ moves.Moves
    → Given p o a e f params
given_by p o a e f params t taken is =
    let first = if_moves (not (is_heavy_as p o.class (Some t))) moves.Stays _ (λ (h : moves.Stays ≡ moves.Moves). cc) is in
    let second = if_moves (not (is_owned p o f)) (moves.Bad rules.NotOwned) _ (bad_moves rules.NotOwned) first.1 in
    let third = if_moves (not (fits_type p o.class (Some t))) (moves.Bad rules.Narrow) _ (bad_moves rules.Narrow) second.1 in
    let fourth = if_moves (may_be_null_target p a e && not (is_met o f)) (moves.Bad rules.Throw) moves.Moves (bad_moves rules.Throw) third.1 in
    let parts = and_parts taken.param.owning (holds_operand a f.places (0 + taken.index + 1)) taken.taken in
    record {
      index = taken.index;
      param = taken.param;
      at = taken.at;
      owning = parts.0;
      operand = subst (λ (n : ℕ). holds_operand a f.places n ≡ true) (omega arith) parts.1;
      fits = ap (λ (u : VType). fits_type p o.class (Some u)) taken.vtype ∙ not_false (fits_type p o.class (Some t)) third.0;
      started = then_true (may_be_null_target p a e) (is_met o f) fourth.0;
    }

pub moved_is_given : (p : Program) (o : Origin) (a : Action) (e : Edge) (f : Fact) → moved_at_call p o a e f ≡ moves.Moves → Given p o a e f (params_in (callee p a))
moved_is_given p o a e f is = by_callee (callee p a) refl
  where
    one : moved_to_first p o a e f (first_of (owners p a f.places)) ≡ moves.Moves
    one = (if_moves (has_two_owners p o.class a f.places) (moves.Bad rules.Twice) (moved_to_first p o a e f (first_of (owners p a f.places))) (bad_moves rules.Twice) is).1

    by_type : (params : List ParamSig) (t : Option VType) → first_of (owners_from a f.places 0 params) ≡ t → moved_to_first p o a e f t ≡ moves.Moves → Given p o a e f params
    by_type params None same moved = absurd (let never : moves.Stays ≡ moves.Moves = moved in cc)
    by_type params (Some t) same moved = given_by p o a e f params t (first_taken a f.places 0 params t same) moved

    by_callee : (m : Option Method) → callee p a ≡ m → Given p o a e f (params_in m)
    by_callee None at = absurd (let never : moves.Stays ≡ moves.Moves = subst (λ (m : Option Method). moved_to_first p o a e f (first_of (owners_in a f.places m)) ≡ moves.Moves) at one in cc)
    by_callee (Some m) at =
        by_type m.sig.params.items (first_of (owners_from a f.places 0 m.sig.params.items)) refl
        (subst (λ (m : Option Method). moved_to_first p o a e f (first_of (owners_in a f.places m)) ≡ moves.Moves) at one)
