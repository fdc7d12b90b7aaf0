-- The facts of the operand of which the result of a call is an alias have the result's temp after the call.
use Rattle.std.proofs.Common.{◌≡◌, ◌∙◌, ◌⊎◌, inl, inr, ℕ, true, true≢false, Option, Some, None, false, refl, sym, ap, subst}
use Rattle.std.proofs.lemmas.Bool.{and_from, or_left}
use Rattle.program_model.specs.declared.kinds.MethodId.{MethodId}
use Rattle.program_model.specs.declared.program.Program.{Program}
use Rattle.program_model.specs.Lookups.{method_at}
use Rattle.ledger_obligations.specs.Bodies.{alias_in, constructs}
use Rattle.java_control.specs.Calls.{called_method}
use Rattle.java_control.specs.Control.{Step}
use Rattle.java_control.specs.PlaceNumbers.{IsSmall}
use Rattle.java_control.specs.Sources.{source}
use Rattle.control_actions.specs.declared.action.Action.{Action}
use Rattle.control_actions.specs.declared.action.Action.TheVariants as actions
use Rattle.control_actions.specs.declared.action.Edge.{Edge}
use Rattle.control_actions.specs.declared.action.Edge.TheVariants as edges
use Rattle.control_actions.specs.declared.place.Place.{Place}
use Rattle.control_actions.specs.declared.place.Place.TheVariants as places
use Rattle.ownership_rules.specs.Callees.{callee, holds_operand}
use Rattle.ownership_rules.specs.Facts.{PlaceSet, has, has_temp}
use Rattle.ownership_rules.specs.SmallActions.{IsSmallTemp}
use Rattle.ownership_rules.proofs.SmallOperands.{operand_has_room}
use Rattle.value_laws.specs.Arguments.{has_receiver}
use Rattle.value_laws.specs.FieldContents.{is_new}
use Rattle.value_laws.specs.Naming.{IsOfItsKind}
use Rattle.value_laws.specs.PlainForms.{IsPlainAction}
use Rattle.value_laws.specs.Aliases.{alias_operand, gives_alias}
use Rattle.value_laws.specs.Aliases as aliases
use Rattle.value_laws.specs.PlaceRows.{places_after}
use Rattle.ledger_state.specs.Contents.{HeapContents}
use Rattle.ledger_state.specs.Heaps.{root_of}
use Rattle.value_laws.specs.Places.{place_value}
use Rattle.ledger_steps.specs.LedgerCallsCalls.{operand_of}
use Rattle.value_laws.specs.Configuration.{Frame}
use Rattle.value_laws.specs.Frames.{is_made, made_place}
use Rattle.value_laws.specs.PlaceFacts.{is_lent_place}
use Rattle.value_laws.specs.PlacePlaces.{has_source, is_local, takes_alias}
use Rattle.value_laws.proofs.PlaceLaws.{places_come_from_sources}
use Rattle.value_laws.specs.Agreement.{Stands}
use Rattle.covering_laws.proofs.KnownNames.{operand_temp}
use Rattle.covering_laws.proofs.TopSteps.{IsLocalStep}

-- a place held the object before the step, whose facts have the other place after it
abbrev pub IsFromPlace : (p : Program) → HeapContents → (fr : Frame) → Stands p fr → Step → Place → ℕ → Type 0
IsFromPlace p h fr st s q o =
    (z : Place) × IsSmall z × (is_lent_place p fr z ≡ false) × (root_of h (place_value p h fr.method fr.locals z) ≡ Some o) × ((held : PlaceSet) → has held z ≡ true → has (places_after p st.number s.action s.edge held) q ≡ true)

-- the result comes from the aliased operand
pub from_operand : (p : Program) (h : HeapContents) (fr : Frame) (st : Stands p fr) (s : Step) (local : IsLocalStep p fr st s) (q : Place) (o : ℕ) → IsSmall q → is_local q ≡ true → is_made (made_place s.action) q ≡ true
    → s.edge ≡ edges.Go → (k : ℕ) → alias_in (callee p s.action) ≡ Some k → root_of h (operand_of fr.locals s.action k) ≡ Some o → IsFromPlace p h fr st s q o
from_operand p h fr st s local q o small local' there edge k some is =
    let t = operand_temp fr.locals s.action k h o is in
    let alias : alias_operand p s.action ≡ Some t.0 = ap (aliases.operand_of s.action) some ∙ t.1 in (
      places.Temp t.0,
      subst IsSmallTemp t.1 (operand_has_room p s.action k local.small),
      refl,
      ap (root_of h) (sym t.2) ∙ is,
      λ held one.
          places_come_from_sources p st.number st.body s.action s.edge held q st.at local.small small local' local.way
          ∙ or_left (takes_alias p s.action s.edge held q) (has_source held (source p st.body s.action s.edge q))
          (and_from (gives_alias p s.action s.edge held) (is_made (made_place s.action) q) (ap (λ (e : Edge). gives_alias p s.action e held) edge ∙ ap (has_temp held) alias ∙ one) there),
    )

-- a call that gives an alias of the object of these places goes on normally, and they have the aliased operand
pub gives_operand : (p : Program) (a : Action) (e : Edge) (held : PlaceSet) → gives_alias p a e held ≡ true → (e ≡ edges.Go) × ((k : ℕ) × (alias_in (callee p a) ≡ Some k) × (holds_operand a held k ≡ true))
gives_operand p a edges.Go held gives = (refl, by (alias_in (callee p a)) refl gives)
  where
    by : (x : Option ℕ) → alias_in (callee p a) ≡ x → has_temp held (aliases.operand_of a x) ≡ true → (k : ℕ) × (alias_in (callee p a) ≡ Some k) × (holds_operand a held k ≡ true)
    by None is one = absurd (true≢false (sym one))
    by (Some k) is one = (k, is, one)
gives_operand p a edges.Null held gives = absurd (true≢false (sym gives))
gives_operand p a edges.NonNull held gives = absurd (true≢false (sym gives))
gives_operand p a edges.True held gives = absurd (true≢false (sym gives))
gives_operand p a edges.False held gives = absurd (true≢false (sym gives))
gives_operand p a (edges.Throws c) held gives = absurd (true≢false (sym gives))

-- a super constructor has no alias, so a method with one is called, or a `new` ends
pub alias_kind : (p : Program) (a : Action) (named : MethodId) → IsPlainAction p a → IsOfItsKind p a → called_method a ≡ Some named → (k : ℕ) → alias_in (method_at p named) ≡ Some k
    → (is_new a ≡ true) ⊎ ((is_new a ≡ false) × (constructs (method_at p named) ≡ false) × (has_receiver a ≡ true))
alias_kind p actions.Skip named form kind calls k some = absurd (let never : None ≡ Some named = calls in cc)
alias_kind p (actions.Call m d n f) named form kind calls k some =
    let same : m ≡ named = (let both : Some m ≡ Some named = calls in (let one : m ≡ named = cc in one)) in
    inr (refl, ap (λ (z : MethodId). constructs (method_at p z)) (sym same) ∙ kind, refl)
alias_kind p (actions.New m d n) named form kind calls k some = inl refl
alias_kind p (actions.Super m d n) named form kind calls k some =
    let same : m ≡ named = (let both : Some m ≡ Some named = calls in (let one : m ≡ named = cc in one)) in
    absurd (let never : None ≡ Some k = sym form.2 ∙ ap (λ (z : MethodId). alias_in (method_at p z)) same ∙ some in cc)
alias_kind p a named form kind calls k some = absurd (let never : None ≡ Some named = calls in cc)
