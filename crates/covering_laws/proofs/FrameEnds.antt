-- As a frame ends, its promises on owning fields are kept, and a constructor that throws owns nothing unmet.
use Rattle.std.proofs.Common.{◌≡◌, ◌⊎◌, inl, inr, ℕ, Bool, true, false, not, ◌&&◌, Option, Some, None, List, [], ◌∷◌, slice_get, nat_eq, refl, sym, ap, ◌∙◌, subst, true≢false, eqb-true}
use Rattle.std.specs.FinSet as set
use Rattle.std.proofs.lemmas.Bool.{and_from, and_parts, not-true, or_left, or_right}
use Rattle.rlc_base.proofs.SetLaws.{empty_within, union_monotone, within_self, within_trans, within_union_right}
use Rattle.program_model.specs.declared.kinds.BodyId.{BodyId}
use Rattle.program_model.specs.declared.kinds.FieldId.{FieldId}
use Rattle.program_model.specs.declared.kinds.Target.{Target}
use Rattle.program_model.specs.declared.kinds.Target.TheVariants as promised
use Rattle.program_model.specs.declared.program.Method.{Method}
use Rattle.program_model.specs.declared.program.Program.{Program}
use Rattle.program_model.specs.declared.program.Promise.{Promise}
use Rattle.program_model.specs.Lookups.{method_at}
use Rattle.ledger_obligations.specs.Bodies.{alias_in, alias_position, constructs, has_field_place, is_constructor, is_finalizer, method_of, promises_in, throwing_promises_in}
use Rattle.ledger_obligations.specs.MustCallSets.{Names, is_heavy_class}
use Rattle.ownership_rules.specs.Signatures.{is_of_field, names_of_all, when}
use Rattle.java_control.specs.Control.{Step}
use Rattle.java_control.specs.Owned.{place_of_field}
use Rattle.control_actions.specs.declared.action.Action.{Action}
use Rattle.control_actions.specs.declared.action.Action.TheVariants as actions
use Rattle.control_actions.specs.declared.action.Completion.{Completion}
use Rattle.control_actions.specs.declared.action.Completion.TheVariants as completions
use Rattle.control_actions.specs.declared.fact.Mode.TheVariants as modes
use Rattle.control_actions.specs.declared.fact.OriginKind.{OriginKind}
use Rattle.ownership_rules.specs.Facts.{PlaceSet, are_position, has, is_held, is_met, is_origin_at, need, owes, position_of}
use Rattle.value_laws.specs.Promises.{is_of_held_field, promised_at_end, promised_by_end, promised_by_throw, promised_on_both, promised_on_fields, promised_on_position}
use Rattle.value_laws.specs.Ends.{constructor_throws, is_throw}
use Rattle.value_laws.specs.Flow.{flow}
use Rattle.value_laws.specs.Paths.{Reach, move_of, relation_of}
use Rattle.value_laws.specs.Accept.{Accept}
use Rattle.ledger_state.specs.Contents.{HeapContents}
use Rattle.ledger_state.specs.declared.object.Object.{Object}
use Rattle.ledger_obligations.specs.Obligations.{is_unmet}
use Rattle.value_laws.specs.Configuration.{Frame}
use Rattle.value_laws.specs.Choosing.{body_id, frame_steps}
use Rattle.value_laws.specs.Agreement.{Stands}
use Rattle.value_laws.specs.Outcomes.{IsFault}
use Rattle.value_laws.specs.FieldContents.{promised_on}
use Rattle.value_laws.specs.Renewing.{answers_for_fields, lends_this, makes_alone, reopens}
use Rattle.value_laws.specs.PlaceFacts.{Covers, IsCovered, IsTrueOf, gives_none, renews_none}
use Rattle.value_laws.proofs.Ending.{ends, held_stays_here}
use Rattle.covering_laws.specs.Covering.{HoldsHeavy, IsCountedOn, KeepsFieldsOfThis}
use Rattle.covering_laws.proofs.Following.{breaks_nothing, method_here, same_body, step_there}
use Rattle.covering_laws.proofs.HeavyFields.{HasPlace, apart_held, covers_field, has_place_here, heavy_here, held_claims, held_tells, held_unlent, known_alone, makes_alone_by}
use Rattle.covering_laws.proofs.SaidFacts.{answers_neither, ends_lend_nothing, said_by}

-- ---- the promises on a field

named_within : (t u : Bool) (names : Names) → (t ≡ true → u ≡ true) → set.is_subset (when t names) (when u names) ≡ true
named_within true true names more = within_self names
named_within true false names more = absurd (true≢false (sym (more refl)))
named_within false u names more = empty_within (when u names)

all_within : (f g : Promise → Bool) (xs : List Promise) → ((x : Promise) → f x ≡ true → g x ≡ true)
    → set.is_subset (names_of_all (λ (x : Promise). when (f x) x.names) xs) (names_of_all (λ (x : Promise). when (g x) x.names) xs) ≡ true
all_within f g [] more = within_self _
all_within f g (x ∷ xs) more = union_monotone _ _ _ _ (named_within (f x) (g x) x.names (more x)) (all_within f g xs more)

same_field : (f g : FieldId) → nat_eq f.0 g.0 ≡ true → f ≡ g
same_field f g is = ap (λ (n : ℕ). (let z : FieldId = record { 0 = n } in z)) (eqb-true f.0 g.0 is)

held_target : (p : Program) (b : BodyId) (held : PlaceSet) (f : FieldId) → has_field_place p b f ≡ true → has held (place_of_field p f) ≡ true
    → (t : Target) → is_of_field t f ≡ true → is_of_held_field p b held t ≡ true
held_target p b held f place here (promised.At k) is = absurd (true≢false (sym is))
held_target p b held f place here (promised.OfField g) is =
    subst (λ (z : FieldId). is_of_held_field p b held (promised.OfField z) ≡ true) (sym (same_field g f is)) (and_from _ _ place here)

on_fields : (p : Program) (b : BodyId) (held : PlaceSet) (f : FieldId) (m : Method) → has_field_place p b f ≡ true → has held (place_of_field p f) ≡ true
    → set.is_subset (promised_on f m) (promised_on_fields p b held m.sig.promises.items) ≡ true
on_fields p b held f m place here =
    all_within (λ (x : Promise). is_of_field x.target f) (λ (x : Promise). is_of_held_field p b held x.target) m.sig.promises.items (λ x. held_target p b held f place here x.target)

on_both : (p : Program) (b : BodyId) (kind : OriginKind) (held : PlaceSet) (f : FieldId) (m : Method) → has_field_place p b f ≡ true → has held (place_of_field p f) ≡ true
    → method_of p b ≡ Some m → set.is_subset (promised_on f m) (promised_on_both p b kind held (promises_in (method_of p b))) ≡ true
on_both p b kind held f m place here is =
    rw is (within_trans (promised_on f m) (promised_on_fields p b held m.sig.promises.items) _ (on_fields p b held f m place here)
    (within_union_right (promised_on_position kind m.sig.promises.items) (promised_on_fields p b held m.sig.promises.items)))

at_throw : (p : Program) (b : BodyId) (kind : OriginKind) (held : PlaceSet) (f : FieldId) (m : Method) → has_field_place p b f ≡ true → has held (place_of_field p f) ≡ true
    → method_of p b ≡ Some m → is_finalizer p b ≡ true → set.is_subset (promised_on f m) (promised_by_throw p b kind held) ≡ true
at_throw p b kind held f m place here is final =
    let all : Names = promised_on_both p b kind held (throwing_promises_in (method_of p b)) in
    within_trans (promised_on f m) (when (is_finalizer p b) (promised_on_fields p b held (promises_in (method_of p b)))) (promised_by_throw p b kind held)
    (rw (final, is) (on_fields p b held f m place here))
    (within_union_right all (when (is_finalizer p b) (promised_on_fields p b held (promises_in (method_of p b)))))

by_end : (p : Program) (b : BodyId) (kind : OriginKind) (held : PlaceSet) (f : FieldId) (m : Method) → has_field_place p b f ≡ true → has held (place_of_field p f) ≡ true
    → method_of p b ≡ Some m → (q : Completion) → (is_throw q ≡ false) ⊎ (is_finalizer p b ≡ true) → set.is_subset (promised_on f m) (promised_by_end p b kind held q) ≡ true
by_end p b kind held f m place here is (completions.Return pos) way = on_both p b kind held f m place here is
by_end p b kind held f m place here is (completions.ReturnValue d pos) way = on_both p b kind held f m place here is
by_end p b kind held f m place here is (completions.Throw d t pos) (inl normal) = absurd (true≢false normal)
by_end p b kind held f m place here is (completions.Throw d t pos) (inr final) = at_throw p b kind held f m place here is final
by_end p b kind held f m place here is (completions.Break pos) way = on_both p b kind held f m place here is
by_end p b kind held f m place here is (completions.Continue pos) way = on_both p b kind held f m place here is

-- no origin stands at no position
no_position : (kind : OriginKind) → is_origin_at kind None ≡ false
no_position kind = go (position_of kind)
  where
    go : (k : Option ℕ) → are_position k None ≡ false
    go None = refl
    go (Some k) = refl

-- ---- the end of a frame

module _ (p : Program) (ac : Accept p) (h : HeapContents) (frs : List Frame) (fr : Frame) (st : Stands p fr) (old : ℕ → Bool) (covered : IsCovered p h gives_none renews_none old frs fr) (i : ℕ) (s : Step) (q : Completion) (f : FieldId) (w o : ℕ) (x : Object)
    (here : slice_get (frame_steps p fr) i ≡ Some s) (is : s.action ≡ actions.End q) (place : has_field_place p st.number f ≡ true) (holds : HoldsHeavy p h fr w f o x) where
  there : HasPlace p fr f
  there = has_place_here p ac fr st f place

  -- what ends lends nothing
  keeps_this : lends_this p fr ≡ false
  keeps_this = ends_lend_nothing p fr st i s q here is

  found : (c : Covers p h false false old frs fr o x) × (has c.fact.places (place_of_field p f) ≡ true)
  found = covers_field p h fr f there old frs covered keeps_this w o x holds

  abbrev cover : Covers p h false false old frs fr o x
  cover = found.0

  owned : (cover.fact.mode ≡ modes.Held) × (is_heavy_class p cover.origin.class ≡ true)
  owned = cover.held _ there.small found.1 (heavy_here p h fr f there holds.heavy)

  reached : Reach p st.number (relation_of p st.number) cover.origin fr.control cover.fact
  reached = subst (λ (b : BodyId). Reach p b (relation_of p b) cover.origin fr.control cover.fact) (same_body cover.body st.number (body_id p fr.method) cover.id st.id) cover.reached

  abbrev Kept : Type 0
  Kept = (owes cover.origin cover.fact ≡ false) × (constructor_throws p st.number cover.origin q cover.fact ≡ false)
      × (set.is_subset (promised_at_end p st.number cover.origin.kind cover.fact.places (actions.End q)) cover.fact.called ≡ true)

  kept : Kept
  kept = elim (ends p st.number cover.origin q s.edge cover.fact (held_stays_here p st.number cover.origin q cover.fact owned.0)) [
    | inl fault ↦ absurd (breaks_nothing p ac st.number cover.origin i (move_of s) cover.fact reached (step_there p fr st i s here)
        (subst (λ (a : Action). IsFault (flow p st.number cover.origin a s.edge cover.fact)) (sym is) fault))
    | inr good ↦ good
  ]

  -- what a fact that claims the object knows was called
  knows : answers_for_fields (method_at p fr.method) ≡ true → IsTrueOf p x cover.origin cover.fact
  knows answers = cover.true' (held_claims p (method_at p fr.method) cover.origin cover.fact answers owned.0 owned.1) refl (both (is_held cover.fact.mode) (lends_this p fr) keeps_this)
    where
      both : (a b : Bool) → b ≡ false → (a && b) ≡ false
      both true b none = none
      both false b none = refl

  pub kept_at_end : x.finished ≡ true → constructs (method_at p fr.method) ≡ false → IsCountedOn p h old frs fr o x → KeepsFieldsOfThis p frs fr → (m : Method) → method_at p fr.method ≡ Some m
      → (is_throw q ≡ false) ⊎ (is_finalizer p st.number ≡ true) → set.is_subset (promised_on f m) x.called ≡ true
  kept_at_end done plain apart keeps m named way =
      within_trans (promised_on f m) (promised_by_end p st.number cover.origin.kind cover.fact.places q) x.called
      (by_end p st.number cover.origin.kind cover.fact.places f m place found.1 (method_here p fr st ∙ named) q way)
      (within_trans (promised_by_end p st.number cover.origin.kind cover.fact.places q) cover.fact.called x.called kept.2 known)
    where
      by_reset : (b : Bool) → reopens (method_at p fr.method) ≡ b → set.is_subset cover.fact.called x.called ≡ true
      by_reset true re = (knows (or_right (makes_alone (method_at p fr.method)) (reopens (method_at p fr.method)) re)).called
      by_reset false other =
          known_alone p (method_at p fr.method) cover.origin.kind cover.fact.called x.called (held_unlent p h false false old frs fr o x cover owned.0 plain)
          (cover.known done (held_tells p fr.method cover.origin cover.fact (answers_neither (method_at p fr.method) plain other) owned.0)
          (apart_held p h old frs fr o x cover.fact (said_by p frs fr cover.fact (elim keeps [ inl re ↦ absurd (true≢false (sym re ∙ other)) | inr settled ↦ inr (inr (inr (inr settled))) ])) apart) refl)

      known : set.is_subset cover.fact.called x.called ≡ true
      known = by_reset (reopens (method_at p fr.method)) refl

  met_of : (t c l m a : Bool) → t ≡ true → c ≡ true → l ≡ true → a ≡ false → (t && c && l && not m && not a) ≡ false → m ≡ true
  met_of t c l true a throws makes held plain good = refl
  met_of t c l false a throws makes held plain good = absurd (true≢false (sym (rw (throws, makes, held, plain) refl) ∙ good))

  pub met_at_throw : alias_position p st.number ≡ None → is_throw q ≡ true → constructs (method_at p fr.method) ≡ true → is_unmet x ≡ false
  met_at_throw plain throws makes = unmet_not (is_unmet x) refl
    where
      alone : makes_alone (method_at p fr.method) ≡ true
      alone = makes_alone_by (method_at p fr.method) makes (ap alias_in (sym (method_here p fr st)) ∙ plain)

      truth : IsTrueOf p x cover.origin cover.fact
      truth = knows (or_left (makes_alone (method_at p fr.method)) (reopens (method_at p fr.method)) alone)

      met : is_met cover.origin cover.fact ≡ true
      met = met_of (is_throw q) (is_constructor p st.number) (is_held cover.fact.mode) (is_met cover.origin cover.fact) (is_origin_at cover.origin.kind (alias_position p st.number))
          throws (ap constructs (method_here p fr st) ∙ makes) (rw owned.0 refl) (rw plain (no_position cover.origin.kind)) kept.1

      within : set.is_subset x.must x.called ≡ true
      within = within_trans x.must (need cover.origin cover.fact) x.called truth.need (within_trans (need cover.origin cover.fact) cover.fact.called x.called met truth.called)

      unmet_not : (b : Bool) → is_unmet x ≡ b → is_unmet x ≡ false
      unmet_not true unmet = absurd (true≢false (sym within ∙ not-true (set.is_subset x.must x.called) (and_parts x.finished (not (set.is_subset x.must x.called)) unmet).1))
      unmet_not false is' = is'
