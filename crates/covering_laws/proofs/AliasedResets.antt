-- A constructor with an aliased argument calls nothing on `this` that creates its obligation anew: what it names so is of the class of its object, or of one above it, and no class has such a constructor where a method near it does that.
use Rattle.std.proofs.Common.{◌≡◌, ◌∙◌, ap, refl, sym, subst, Bool, ℕ, true, false, true≢false, Option, Some, None, IsSomeAnd, List, slice_get}
use Rattle.std.proofs.lemmas.Bool.{and_parts}
use Rattle.program_model.specs.declared.kinds.BodyId.{BodyId}
use Rattle.program_model.specs.declared.kinds.MethodId.{MethodId}
use Rattle.program_model.specs.declared.program.Method.{Method}
use Rattle.program_model.specs.declared.program.Program.{Program}
use Rattle.program_model.specs.declared.tree.Body.{Body}
use Rattle.program_model.specs.Hierarchy.{IsUnder}
use Rattle.program_model.specs.Lookups.{body_at, method_at}
use Rattle.program_model.specs.Validity.{IsBodyOf}
use Rattle.program_model.proofs.HierarchyLaws.{is_under_law}
use Rattle.ledger_obligations.specs.Bodies.{alias_in, alias_position, constructs, is_alias_constructor, is_constructor, method_in, reset_in}
use Rattle.ownership_rules.specs.Callees.{callee, is_this_target}
use Rattle.ownership_rules.specs.Signatures.{is_position, is_present}
use Rattle.java_control.specs.Calls.{is_reset_of_this}
use Rattle.java_control.specs.Remaining.{Todo}
use Rattle.control_actions.specs.declared.action.Action.{Action}
use Rattle.control_actions.specs.declared.action.Action.TheVariants as actions
use Rattle.control_actions.specs.declared.action.TargetForm.TheVariants as forms
use Rattle.value_laws.specs.Accept.{Accept}
use Rattle.value_laws.specs.Moves.{has_body}
use Rattle.value_laws.specs.Paths.{Comes, Move, relation_of}
use Rattle.value_laws.specs.Typed.{NamesMembers}
use Rattle.value_laws.proofs.Reached.{typed_step}
use Rattle.covering_laws.proofs.Bodies.{body_is_of_program}
use Rattle.covering_laws.proofs.ThisOperands.{reset_of_this_is}
use Rattle.covering_laws.proofs.UnlinkedThis.{aliases_reset_nothing}

module _ (p : Program) (ac : Accept p) (b : BodyId) (k : List Todo) (i : ℕ) (t : Move (List Todo)) (comes : Comes (relation_of p b) k) (here : slice_get ((relation_of p b).next k) i ≡ Some t)
    (x : Body) (at : body_at p b ≡ Some x) (m : Method) (of : method_at p x.method ≡ Some m) (makes : constructs (Some m) ≡ true) (n : ℕ) (alias : m.sig.alias ≡ Some n) (resets : is_reset_of_this p t.action ≡ true) where
  own : IsBodyOf b x m
  own = subst (λ (z : Option Method). IsSomeAnd z (IsBodyOf b x)) of (ac.well_formed.valid.typed.bodies b x at).method

  -- what names a method of the class, or of one above it, does not
  names_none : (r : MethodId) (d : Method) → method_at p r ≡ Some d → reset_in (Some d) ≡ Some 0 → IsUnder p m.class d.class → ⊥
  names_none r d named reset under =
      aliases_reset_nothing p ac r d named (ap (λ (z : Option ℕ). is_position z 0) reset) x.method m n of (body_is_of_program p ac x.method m of (ap has_body own.0))
      ((is_under_law p ac.well_formed.valid.typed.hierarchy m.class d.class).1 under) makes alias

  names_nothing : (r : MethodId) → reset_in (method_at p r) ≡ Some 0 → ((y d : Method) → method_at p x.method ≡ Some y → method_at p r ≡ Some d → IsUnder p y.class d.class) → ⊥
  names_nothing r reset above = go (method_at p r) refl reset
    where
      go : (z : Option Method) → method_at p r ≡ z → reset_in z ≡ Some 0 → ⊥
      go None named none = let never : None ≡ Some 0 = none in cc
      go (Some d) named is = names_none r d named is (above m d of named)

  never_resets : ⊥
  never_resets = go t.action refl (reset_of_this_is p t.action resets).1
    where
      names : (a : Action) → t.action ≡ a → NamesMembers p x a
      names a is = subst (NamesMembers p x) is (typed_step p ac.well_formed.valid.typed b x k i t at comes here).1

      first : (r : MethodId) (a : Action) → t.action ≡ a → callee p a ≡ method_at p r → reset_in (method_at p r) ≡ Some 0
      first r a is same = ap reset_in (sym (ap (callee p) is ∙ same)) ∙ (reset_of_this_is p t.action resets).2

      go : (a : Action) → t.action ≡ a → is_this_target a ≡ true → ⊥
      go (actions.Call r d c forms.This) is on = names_nothing r (first r (actions.Call r d c forms.This) is refl) (names (actions.Call r d c forms.This) is)
      go (actions.Call r d c forms.Super) is on = names_nothing r (first r (actions.Call r d c forms.Super) is refl) (names (actions.Call r d c forms.Super) is).1
      go (actions.Call r d c forms.Static) is on = true≢false (sym on)
      go (actions.Call r d c forms.Other) is on = true≢false (sym on)
      go a is on = true≢false (sym on)

pub aliased_resets_nothing : (p : Program) → Accept p → (b : BodyId) {k : List Todo} (i : ℕ) (t : Move (List Todo)) → Comes (relation_of p b) k
    → slice_get ((relation_of p b).next k) i ≡ Some t → is_alias_constructor p b ≡ true → is_reset_of_this p t.action ≡ false
aliased_resets_nothing p ac b {k = k} i t comes here aliased = go (is_reset_of_this p t.action) refl
  where
    parts : (is_constructor p b ≡ true) × (is_present (alias_position p b) ≡ true)
    parts = and_parts (is_constructor p b) (is_present (alias_position p b)) aliased

    by_alias : (x : Body) → body_at p b ≡ Some x → (m : Method) → method_at p x.method ≡ Some m → constructs (Some m) ≡ true → (z : Option ℕ) → m.sig.alias ≡ z → is_present z ≡ true → is_reset_of_this p t.action ≡ true → ⊥
    by_alias x at m of makes None alias none resets = true≢false (sym none)
    by_alias x at m of makes (Some n) alias some resets = never_resets p ac b k i t comes here x at m of makes n alias resets

    by_method : (x : Body) → body_at p b ≡ Some x → (z : Option Method) → method_at p x.method ≡ z → constructs z ≡ true → is_present (alias_in z) ≡ true → is_reset_of_this p t.action ≡ true → ⊥
    by_method x at None of makes some resets = true≢false (sym makes)
    by_method x at (Some m) of makes some resets = by_alias x at m of makes m.sig.alias refl some resets

    by_body : (z : Option Body) → body_at p b ≡ z → constructs (method_in p z) ≡ true → is_present (alias_in (method_in p z)) ≡ true → is_reset_of_this p t.action ≡ true → ⊥
    by_body None at makes some resets = true≢false (sym makes)
    by_body (Some x) at makes some resets = by_method x at (method_at p x.method) refl makes some resets

    go : (z : Bool) → is_reset_of_this p t.action ≡ z → is_reset_of_this p t.action ≡ false
    go false none = none
    go true resets = absurd (by_body (body_at p b) refl parts.0 parts.1 resets)
