-- At the end of a body each owned fact whose need is not met breaks a rule.
use Rattle.std.proofs.Common.{◌≡◌, Bool, true, false, not, ◌&&◌, None, refl, ap, ◌∙◌, if◌then◌else◌}
use Rattle.std.proofs.lemmas.Bool.{and_parts, not-true}
use Rattle.program_model.specs.declared.kinds.BodyId.{BodyId}
use Rattle.program_model.specs.declared.program.Program.{Program}
use Rattle.control_actions.specs.declared.action.Action.TheVariants as actions
use Rattle.control_actions.specs.declared.action.Completion.{Completion}
use Rattle.control_actions.specs.declared.action.Completion.TheVariants as completions
use Rattle.control_actions.specs.declared.action.Edge.{Edge}
use Rattle.control_actions.specs.declared.fact.Fact.{Fact}
use Rattle.control_actions.specs.declared.fact.Mode.TheVariants as modes
use Rattle.control_actions.specs.declared.fact.Origin.{Origin}
use Rattle.control_actions.specs.declared.fact.Rule.TheVariants as rules
use Rattle.control_actions.specs.declared.place.Place.TheVariants as places
use Rattle.ownership_rules.specs.Bodies.{alias_position, method_of}
use Rattle.ownership_rules.specs.MustCallSets.{fits_type, is_heavy_as, is_heavy_class}
use Rattle.ownership_rules.specs.Signatures.{is_present}
use Rattle.ownership_rules.specs.Facts.{has, is_met}
use Rattle.ownership_rules.specs.Heavy.{is_owned}
use Rattle.ownership_rules.specs.MovesAtReturns.{heavy_result, kept_alias, moved_at_return, owned_result, owning_result_in, result_type}
use Rattle.ownership_rules.specs.declared.moved.Moved.{Moved}
use Rattle.ownership_rules.specs.declared.moved.Moved.TheVariants as moves
use Rattle.place_laws.specs.Ends.{after_return, alias_never_returned, left_at_end}
use Rattle.place_laws.specs.Flow.{flow}
use Rattle.fact_laws.specs.Outcomes.{IsFault}

pub end_row : (p : Program) (b : BodyId) (o : Origin) (c : Completion) (e : Edge) (f : Fact) → f.mode ≡ modes.Own → is_met o f ≡ false
    → (moved_at_return p b o (actions.End c) f ≡ moves.Moves → ⊥) → IsFault (flow p b o (actions.End c) e f)
end_row p b o c e f own unmet stays = go (moved_at_return p b o (actions.End c) f) refl
  where
    left : (x : Bool) → alias_never_returned p b o c f ≡ x → IsFault (left_at_end p b o c f)
    left true is = rw is tt
    left false is = rw (is, own, unmet) tt

    go : (x : Moved) → moved_at_return p b o (actions.End c) f ≡ x → IsFault (after_return p b o c f x)
    go moves.Stays is = left (alias_never_returned p b o c f) refl
    go moves.Moves is = absurd (stays is)
    go (moves.Bad rule) is = tt

-- nothing that must be called is within what no type asks for
nothing_fits : (p : Program) (o : Origin) → is_heavy_class p o.class ≡ true → fits_type p o.class None ≡ false
nothing_fits p o heavy = not-true (fits_type p o.class None) heavy

moved_result : (p : Program) (b : BodyId) (o : Origin) (f : Fact) → result_type p b ≡ None → owned_result p b o f ≡ moves.Moves → ⊥
moved_result p b o f none is = go (is_owned p o f) refl is
  where
    rest : is_owned p o f ≡ true → (if not (fits_type p o.class (result_type p b)) then moves.Bad rules.Narrow else moves.Moves) ≡ moves.Moves → ⊥
    rest owned same =
        let light : fits_type p o.class (result_type p b) ≡ false = ap (fits_type p o.class) none ∙ nothing_fits p o (and_parts _ _ owned).0 in
        let bad : moves.Bad rules.Narrow ≡ moves.Moves = rw light at same in
        cc

    go : (x : Bool) → is_owned p o f ≡ x
        → (if not x then moves.Bad rules.NotOwned else (if not (fits_type p o.class (result_type p b)) then moves.Bad rules.Narrow else moves.Moves)) ≡ moves.Moves → ⊥
    go true owned same = rest owned same
    go false owned same = cc

heavy_stays : (p : Program) (b : BodyId) (o : Origin) (f : Fact) → result_type p b ≡ None → f.mode ≡ modes.Own → heavy_result p b o f ≡ moves.Moves → ⊥
heavy_stays p b o f none own is = go (is_present (alias_position p b)) (owning_result_in (method_of p b)) is
  where
    alias : kept_alias f ≡ moves.Moves → ⊥
    alias same =
        let bad : moves.Bad rules.AliasKept ≡ moves.Moves = rw own at same in
        cc

    go : (x y : Bool) → (if x then kept_alias f else (if y then owned_result p b o f else moves.Stays)) ≡ moves.Moves → ⊥
    go true y same = alias same
    go false true same = moved_result p b o f none same
    go false false same = cc

pub result_stays : (p : Program) (b : BodyId) (o : Origin) (c : Completion) (f : Fact) → result_type p b ≡ None → f.mode ≡ modes.Own
    → moved_at_return p b o (actions.End c) f ≡ moves.Moves → ⊥
result_stays p b o (completions.Break pos) f none own is = cc
result_stays p b o (completions.ReturnValue d pos) f none own is = go (has f.places (places.Temp d) && is_heavy_as p o.class (result_type p b)) is
  where
    go : (x : Bool) → (if x then heavy_result p b o f else moves.Stays) ≡ moves.Moves → ⊥
    go true same = heavy_stays p b o f none own same
    go false same = cc
result_stays p b o c f none own is = cc
