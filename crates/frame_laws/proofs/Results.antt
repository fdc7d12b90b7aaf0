-- A fact that moves at a `return`: its object is the result that the ledger moves to the caller.
use Rattle.std.proofs.Common.{◌≡◌, ℕ, Bool, true, false, not, ◌&&◌, Option, Some, None, refl, sym, ap, ◌∙◌, subst, true≢false, if◌then◌else◌}
use Rattle.std.specs.FinSet as set
use Rattle.std.proofs.lemmas.Bool.{and_parts}
use Rattle.rlc_base.proofs.SetLaws.{within_trans}
use Rattle.program_model.specs.declared.kinds.BodyId.{BodyId}
use Rattle.program_model.specs.declared.kinds.MethodId.{MethodId}
use Rattle.program_model.specs.declared.kinds.VType.{VType}
use Rattle.program_model.specs.declared.program.Method.{Method}
use Rattle.program_model.specs.declared.program.Program.{Program}
use Rattle.ledger_steps.specs.Bodies.{alias_in, alias_position, method_of}
use Rattle.ledger_steps.specs.MustCallSets.{fits_type, is_heavy_as, must_of, must_of_type}
use Rattle.control_actions.specs.declared.action.Action.TheVariants as actions
use Rattle.control_actions.specs.declared.action.Completion.{Completion}
use Rattle.control_actions.specs.declared.action.Completion.TheVariants as completions
use Rattle.control_actions.specs.declared.fact.Fact.{Fact}
use Rattle.control_actions.specs.declared.fact.Mode.TheVariants as modes
use Rattle.control_actions.specs.declared.fact.Origin.{Origin}
use Rattle.control_actions.specs.declared.fact.Rule.TheVariants as rules
use Rattle.control_actions.specs.declared.place.Place.TheVariants as places
use Rattle.ownership_rules.specs.Facts.{has}
use Rattle.ownership_rules.specs.SmallActions.{IsSmallAction}
use Rattle.ownership_rules.specs.Heavy.{is_owned}
use Rattle.ownership_rules.specs.MovesAtReturns.{heavy_result, kept_alias, moved_at_return, owned_result, owning_result_in, result_in, result_type}
use Rattle.ownership_rules.specs.declared.moved.Moved.{Moved}
use Rattle.ownership_rules.specs.declared.moved.Moved.TheVariants as moves
use Rattle.ledger_state.specs.Contents.{HeapContents}
use Rattle.ledger_state.specs.Heaps.{root_of}
use Rattle.ledger_state.specs.declared.locals.Locals.{Locals}
use Rattle.ledger_state.specs.declared.object.Object.{Object}
use Rattle.ledger_steps.specs.Ends.{exception_class, result_value, thrown_in}
use Rattle.agreement.specs.Agreement.{Follows}
use Rattle.ownership_rules.specs.Signatures.{is_present}

-- the declared type of the result takes the object, and the method's result is owning, and no alias of an argument
pub record IsResult (p : Program) (m : Option Method) (x : Object) : Type 0 where
  pub owning : owning_result_in m ≡ true
  pub own : is_present (alias_in m) ≡ false
  pub type : VType
  pub result : result_in m ≡ Some type
  pub lies : set.is_subset (must_of p x.class) (must_of_type p type) ≡ true

if_moves : (x : Bool) (u v : Moved) → (u ≡ moves.Moves → ⊥) → (if x then u else v) ≡ moves.Moves → (x ≡ false) × (v ≡ moves.Moves)
if_moves true u v never is = absurd (never is)
if_moves false u v never is = (refl, is)

not_false : (b : Bool) → not b ≡ false → b ≡ true
not_false true h = refl
not_false false h = absurd (true≢false h)

stays_not : moves.Stays ≡ moves.Moves → ⊥
stays_not is = cc

-- what is heavy fits no result that is not there
result_there : (p : Program) (o : Origin) (f : Fact) (t : Option VType) → is_owned p o f ≡ true → fits_type p o.class t ≡ true → (u : VType) × (t ≡ Some u)
result_there p o f None owned fit = absurd (true≢false (let heavy = (and_parts _ _ owned).0 in sym heavy ∙ ap not fit))
result_there p o f (Some u) owned fit = (u, refl)

owned_moves : (p : Program) (b : BodyId) (o : Origin) (f : Fact) (x : Object) → set.is_subset (must_of p x.class) (must_of p o.class) ≡ true → owning_result_in (method_of p b) ≡ true
    → is_present (alias_position p b) ≡ false → owned_result p b o f ≡ moves.Moves → IsResult p (method_of p b) x
owned_moves p b o f x class owning own is =
    let first = if_moves (not (is_owned p o f)) (moves.Bad rules.NotOwned) _ (λ (h : moves.Bad rules.NotOwned ≡ moves.Moves). cc) is in
    let second = if_moves (not (fits_type p o.class (result_type p b))) (moves.Bad rules.Narrow) moves.Moves (λ (h : moves.Bad rules.Narrow ≡ moves.Moves). cc) first.1 in
    let fit = not_false (fits_type p o.class (result_type p b)) second.0 in
    let t = result_there p o f (result_type p b) (not_false (is_owned p o f) first.0) fit in
    record {
      owning = owning;
      own = own;
      type = t.0;
      result = t.1;
      lies = within_trans (must_of p x.class) (must_of p o.class) (must_of_type p t.0) class (subst (λ (u : Option VType). fits_type p o.class u ≡ true) t.1 fit);
    }

heavy_moves : (p : Program) (b : BodyId) (o : Origin) (f : Fact) (x : Object) → f.mode ≡ modes.Own → set.is_subset (must_of p x.class) (must_of p o.class) ≡ true → heavy_result p b o f ≡ moves.Moves
    → IsResult p (method_of p b) x
heavy_moves p b o f x own class is = go (is_present (alias_position p b)) refl (owning_result_in (method_of p b)) refl is
  where
    alias : kept_alias f ≡ moves.Moves → ⊥
    alias same = let bad : moves.Bad rules.AliasKept ≡ moves.Moves = rw own at same in cc

    go : (u : Bool) → is_present (alias_position p b) ≡ u → (v : Bool) → owning_result_in (method_of p b) ≡ v
        → (if u then kept_alias f else (if v then owned_result p b o f else moves.Stays)) ≡ moves.Moves → IsResult p (method_of p b) x
    go true present v owning same = absurd (alias same)
    go false none true owning same = owned_moves p b o f x class owning none same
    go false none false owning same = absurd (stays_not same)

-- the frame ends by no exception, and gives the object
pub record IsGivenBack (p : Program) (h : HeapContents) (l : Locals) (m : Option Method) (q : Completion) (o : ℕ) (x : Object) : Type 0 where
  pub normal : exception_class p h (thrown_in l q) ≡ None
  pub root : root_of h (result_value l m q) ≡ Some o
  pub result : IsResult p m x

pub moved_is_result : (p : Program) (h : HeapContents) (m : MethodId) (l : Locals) (b : BodyId) (origin : Origin) (q : Completion) (f : Fact) (o : ℕ) (x : Object) → IsSmallAction p (actions.End q)
    → Follows p h m l o x origin f → moved_at_return p b origin (actions.End q) f ≡ moves.Moves → IsGivenBack p h l (method_of p b) q o x
moved_is_result p h m l b origin (completions.Return pos) f o x small follows is = absurd (stays_not is)
moved_is_result p h m l b origin (completions.Break pos) f o x small follows is = absurd (stays_not is)
moved_is_result p h m l b origin (completions.Continue pos) f o x small follows is = absurd (stays_not is)
moved_is_result p h m l b origin (completions.Throw d t pos) f o x small follows is = absurd (stays_not is)
moved_is_result p h m l b origin (completions.ReturnValue d pos) f o x small follows is = go (has f.places (places.Temp d) && is_heavy_as p origin.class (result_type p b)) refl is
  where
    go : (u : Bool) → (has f.places (places.Temp d) && is_heavy_as p origin.class (result_type p b)) ≡ u → (if u then heavy_result p b origin f else moves.Stays) ≡ moves.Moves
        → IsGivenBack p h l (method_of p b) (completions.ReturnValue d pos) o x
    go true there same = record {
      normal = refl;
      root = (follows.places (places.Temp d) small (and_parts (has f.places (places.Temp d)) (is_heavy_as p origin.class (result_type p b)) there).0).1;
      result = heavy_moves p b origin f x follows.own follows.class same;
    }
    go false there same = absurd (stays_not same)
