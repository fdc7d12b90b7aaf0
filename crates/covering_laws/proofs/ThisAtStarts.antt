-- The `this` of a method that a call begins and that creates its obligation anew, where an owning field of it, whose type has an obligation, holds an object whose class has one: the field owns the object.
use Rattle.std.proofs.Common.{◌≡◌, inl, inr, ℕ, ◌+◌, Bool, true, false, not, true≢false, Option, Some, None, List, ◌∷◌, length, refl, sym, ap, ◌∙◌, subst, eqb-true}
use Rattle.std.proofs.lemmas.Bool.{and_parts}
use Rattle.std.specs.FinSet as set
use Rattle.rlc_base.proofs.SetLaws.{within_self}
use Rattle.rlc_base.specs.declared.place.Pos.{Pos}
use Rattle.program_model.specs.declared.kinds.ClassId.{ClassId}
use Rattle.program_model.specs.declared.kinds.FieldId.{FieldId}
use Rattle.program_model.specs.declared.kinds.MethodId.{MethodId}
use Rattle.program_model.specs.declared.kinds.VType.{VType}
use Rattle.program_model.specs.declared.kinds.VType.TheVariants as types
use Rattle.program_model.specs.declared.program.Field.{Field}
use Rattle.program_model.specs.declared.program.Method.{Method}
use Rattle.program_model.specs.declared.program.Program.{Program}
use Rattle.program_model.specs.Lookups.{method_at}
use Rattle.program_model.specs.Overrides.{is_library}
use Rattle.program_model.specs.SuperTests.{is_under}
use Rattle.ledger_obligations.specs.Bodies.{constructs, reset_in}
use Rattle.ledger_obligations.specs.MustCallSets.{is_heavy_class, must_of, must_of_type}
use Rattle.ledger_obligations.specs.Obligations.{is_library_owner}
use Rattle.java_control.specs.Calls.{called_method}
use Rattle.java_control.specs.Owned.{is_owning_field}
use Rattle.control_actions.specs.declared.action.Action.{Action}
use Rattle.ownership_rules.specs.Callees.{callee, callee_in}
use Rattle.ownership_rules.specs.Signatures.{is_position}
use Rattle.ledger_state.specs.Contents.{HeapContents}
use Rattle.ledger_state.specs.Fields.{field_value}
use Rattle.ledger_state.specs.Heaps.{object_at, root_of, unfinished}
use Rattle.ledger_state.specs.Values.{number_of}
use Rattle.ledger_state.specs.declared.array.ArrayObject.{ArrayObject}
use Rattle.ledger_state.specs.declared.entry.Owner.{Owner}
use Rattle.ledger_state.specs.declared.entry.Owner.TheVariants as owners
use Rattle.ledger_state.specs.declared.object.Object.{Object}
use Rattle.ledger_state.specs.declared.value.Value.TheVariants as values
use Rattle.ledger_steps.specs.LedgerCallsCalls.{operand_of}
use Rattle.value_laws.specs.Accept.{Accept}
use Rattle.value_laws.specs.Agreement.{AllStand, Stands}
use Rattle.value_laws.specs.Chains.{HaveEnds}
use Rattle.value_laws.specs.Choosing.{frame_steps}
use Rattle.value_laws.specs.Configuration.{Frame}
use Rattle.value_laws.specs.FieldContents.{FieldsOwn, HaveContents, MakersOwn}
use Rattle.value_laws.specs.Frames.{KeepsTargets}
use Rattle.value_laws.specs.Heaps.{HasEarlierLinks}
use Rattle.value_laws.specs.Nexts.{IsStartMove}
use Rattle.value_laws.specs.Outcomes.{IsCallRow}
use Rattle.value_laws.specs.PlaceFacts.{IsCovered, IsTrueOf, MayStore, OwesOrHolds, gives_none, is_heavy_in, renews_none}
use Rattle.value_laws.specs.PlainForms.{HasPlainForms}
use Rattle.value_laws.specs.Ranges.{LocalsInRange}
use Rattle.value_laws.specs.Renewing.{HasInHand, HasOwningField, IsLentFrom, renews, reopens}
use Rattle.value_laws.proofs.Chains.{object_there}
use Rattle.value_laws.proofs.FieldPlaces.{IsBeside}
use Rattle.value_laws.proofs.MadeWays.{made_owns}
use Rattle.value_laws.proofs.RangeValues.{operand_in_range}
use Rattle.value_laws.proofs.Readings.{operand_renews}
use Rattle.value_laws.proofs.RootLaws.{root_itself}
use Rattle.covering_laws.specs.Linking.{LinkedAreAliases}
use Rattle.covering_laws.specs.Sight.{MakesThis}
use Rattle.covering_laws.proofs.Bodies.{running_method}
use Rattle.covering_laws.proofs.ContentHolders.{field_class_is_heavy}
use Rattle.covering_laws.proofs.FieldBirths.{field_fact, field_origin}
use Rattle.covering_laws.proofs.HeldBirths.{field_owned, owned_true}
use Rattle.covering_laws.proofs.LightExceptions.{under_itself}
use Rattle.covering_laws.proofs.RenewedOperands.{HoldsLent, renewed_answered, step_renews}
use Rattle.covering_laws.proofs.UnlinkedThis.{makes_no_alias, unlinked_this}
use Rattle.covering_laws.proofs.WholeThis.{lent_kept}

-- what a frame has in hand the library does not own
hand_kept : (p : Program) (h : HeapContents) (frs : List Frame) (fr : Frame) (n o : ℕ) (a : Owner) → HasInHand p h (IsLentFrom p h frs) n fr o a → is_library_owner a ≡ false
hand_kept p h frs fr n o a (inl mine) = ap is_library_owner mine
hand_kept p h frs fr n o a (inr (inl lent)) = lent_kept p h frs o a lent
hand_kept p h frs fr n o a (inr (inr (inl held))) = ap is_library_owner held.1.owns
hand_kept p h frs fr n o a (inr (inr (inr (inl held)))) = ap is_library_owner held.owns
hand_kept p h frs fr n o a (inr (inr (inr (inr made)))) = ap is_library_owner made.1

resets_first : (m : Method) → reopens (Some m) ≡ true → m.sig.reset ≡ Some 0
resets_first m opens = by m.sig.reset (and_parts (not (constructs (Some m))) (is_position m.sig.reset 0) opens).1
  where
    by : (k : Option ℕ) → is_position k 0 ≡ true → k ≡ Some 0
    by None is = absurd (true≢false (sym is))
    by (Some k) is = ap Some (eqb-true k 0 is)

module _ (p : Program) (ac : Accept p) (forms : HasPlainForms p) (h : HeapContents) (links : HasEarlierLinks h) (owned : FieldsOwn p h) (linked : LinkedAreAliases p h) (fr : Frame) (frs : List Frame) (stand : AllStand p (fr ∷ frs)) (makes : MakesThis p h fr)
    (targets : KeepsTargets p fr) (mine : LocalsInRange h fr.locals) (old : ℕ → Bool) (covered : IsCovered p h gives_none renews_none old frs fr) (holds : HoldsLent p h old frs fr (stand.0)) (have : HaveEnds h)
    (arrays : List ArrayObject) (named runs : MethodId) (a : Action) (next : IsStartMove p h arrays fr.locals (frame_steps p fr) named runs a) (begun : Frame) (st : Stands p begun) (running : method_at p begun.method ≡ Some next.running)
    (opens : reopens (Some next.running) ≡ true) (n : ℕ) (f : FieldId) (beside : IsBeside p next.running n f) (c : ClassId) (type : beside.field.vtype ≡ types.Obj c) (heavy : is_heavy_class p c ≡ true) (typed : is_heavy_in p (Some f) ≡ true)
    (w : ℕ) (first : operand_of fr.locals next.step.action 0 ≡ values.Object w) (o : ℕ) (x : Object) (held : root_of h (field_value p h w f) ≡ Some o) (at : object_at h o ≡ Some x) (wide : is_heavy_class p x.class ≡ true) where
  abbrev m : Method
  m = next.running

  there : (y : Object) × (object_at h w ≡ Some y)
  there = let number = operand_in_range h fr.locals mine next.step.action 0 w (ap number_of first) in let class : ClassId = record { 0 = 0 } in object_there h w (unfinished class) number.0 number.1

  -- its class is that of the method
  class : there.0.class ≡ m.class
  class =
      let declares = (owned w there.0 f o x there.1 (ap is_owning_field beside.at ∙ beside.owning) typed held at wide).0 in
      let same : declares.0 ≡ beside.field = (let both : Some declares.0 ≡ Some beside.field = sym declares.1 ∙ beside.at in cc) in
      sym declares.2 ∙ ap (λ (z : Field). z.class) same ∙ beside.class

  declared : HasOwningField p there.0.class
  declared = (f, beside.field, beside.at, beside.owning, beside.class ∙ sym class)

  under : is_under p there.0.class m.class ≡ true
  under = ap (λ (z : ClassId). is_under p z m.class) class ∙ under_itself p ac m.class

  opens_here : reopens (method_at p begun.method) ≡ true
  opens_here = ap reopens running ∙ opens

  stores : MayStore p there.0.class
  stores =
      let run = running_method p ac begun st in
      let one : run.0 ≡ m = (let both : Some run.0 ≡ Some m = sym run.1 ∙ running in cc) in
      let own : is_library p there.0.class ≡ false = ap (is_library p) (class ∙ ap (λ (z : Method). z.class) (sym one)) ∙ run.2 in
      (own, declared, makes_no_alias p ac begun.method m running opens there.0.class own under)

  full : is_heavy_class p there.0.class ≡ true
  full = ap (is_heavy_class p) (class ∙ sym beside.class) ∙ field_class_is_heavy p ac c f beside.field beside.at beside.owning (ap (λ (t : VType). set.is_subset (must_of p c) (must_of_type p t)) type ∙ within_self (must_of p c)) heavy

  unlinked : there.0.link ≡ None
  unlinked = (unlinked_this p ac forms h linked begun st w there.0 there.1
      (λ m' at'. (let one : m ≡ m' = (let both : Some m ≡ Some m' = sym running ∙ at' in cc) in ap (λ (z : Method). is_under p there.0.class z.class) (sym one) ∙ under)) opens_here).0

  root : root_of h (operand_of fr.locals next.step.action 0) ≡ Some w
  root = ap (root_of h) first ∙ ap Some (root_itself h w there.0 there.1 unlinked)

  -- the call creates its obligation anew
  position : reset_in (callee p next.step.action) ≡ Some 0
  position = ap reset_in (ap (callee_in p) (ap called_method next.same ∙ next.calls) ∙ next.named_at) ∙ next.fit.reset 0 (resets_first m opens)

  row : IsCallRow next.step.action
  row = subst IsCallRow (sym next.same) next.row

  renews_it : renews p h fr.locals next.step.action w ≡ true
  renews_it = operand_renews p h fr.locals next.step.action w 0 position root

  -- so the caller has it in hand
  in_hand : HasInHand p h (IsLentFrom p h frs) (length frs + 1) fr w there.0.owner
  in_hand = renewed_answered p ac h fr (stand.0) old frs next.index next.step next.here row covered holds have targets makes w there.0 there.1 full (inr (inr stores)) renews_it (inr declared)

  -- So the field owns the object, and its birth is true of it: `this` is finished, linked to none, and not the library's, or a frame below makes it.
  module _ (contents : HaveContents p (fr ∷ frs) h) (makers : MakersOwn p h (fr ∷ frs)) (owes : OwesOrHolds p h o x) where
    pub owned_at_start : x.owner ≡ owners.Field w f
    owned_at_start = go there.0.finished refl
      where
        go : (b : Bool) → there.0.finished ≡ b → x.owner ≡ owners.Field w f
        go true done =
            field_owned p h (fr ∷ frs) owned contents have w there.0 there.1 done unlinked (hand_kept p h frs fr (length frs + 1) w there.0.owner in_hand) f (ap is_owning_field beside.at ∙ beside.owning) typed o x held at wide owes
        go false open' =
            made_owns p h have w there.0 there.1 open' there.0.class (fr ∷ frs) makers (step_renews p h fr next.index next.step w next.here renews_it, in_hand) f o x (ap is_owning_field beside.at ∙ beside.owning) typed held at wide owes

    pub true_at_start : (pos : Pos) → IsTrueOf p x (field_origin p f pos c) (field_fact p f)
    true_at_start pos = owned_true p h (fr ∷ frs) contents have w f o x at wide owned_at_start pos beside.field c beside.at type
