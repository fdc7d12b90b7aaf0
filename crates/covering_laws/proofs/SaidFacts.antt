-- Facts of which something is said: which facts are idle, which places hold their objects, and which frames lend `this`.
use Rattle.std.proofs.Common.{◌≡◌, ◌⊎◌, inl, inr, ℕ, zero, suc, ◌≤◌, arith, length, Bool, true, false, true≢false, not, ◌&&◌, ◌||◌, Option, Some, None, List, [], ◌∷◌, slice_get, refl, sym, ap, ◌∙◌, subst}
use Rattle.std.specs.List.{list_all}
use Rattle.std.proofs.lemmas.Bool.{and_from, and_parts, or_left}
use Rattle.rlc_base.specs.declared.name_id.NameId.{NameId}
use Rattle.program_model.specs.declared.kinds.MethodId.{MethodId}
use Rattle.program_model.specs.declared.program.Method.{Method}
use Rattle.program_model.specs.declared.program.ParamSig.{ParamSig}
use Rattle.program_model.specs.declared.program.Program.{Program}
use Rattle.program_model.specs.Lookups.{method_at}
use Rattle.program_model.specs.Validity.{IfPosition}
use Rattle.ledger_obligations.specs.Bodies.{alias_in, constructs, is_constructor_kind, reset_in}
use Rattle.ledger_obligations.specs.MustCallSets.{is_heavy_class}
use Rattle.ownership_rules.specs.Facts.{PlaceSet, has, is_held, is_own}
use Rattle.ownership_rules.specs.Signatures.{is_position, is_present}
use Rattle.java_control.specs.Calls.{is_reset_of_this}
use Rattle.java_control.specs.Control.{Step}
use Rattle.java_control.specs.PlaceNumbers.{IsSmall}
use Rattle.control_actions.specs.declared.action.Action.{Action}
use Rattle.control_actions.specs.declared.action.Action.TheVariants as actions
use Rattle.control_actions.specs.declared.action.Completion.{Completion}
use Rattle.control_actions.specs.declared.fact.Fact.{Fact}
use Rattle.control_actions.specs.declared.fact.Mode.{Mode}
use Rattle.control_actions.specs.declared.fact.Mode.TheVariants as modes
use Rattle.control_actions.specs.declared.fact.Origin.{Origin}
use Rattle.control_actions.specs.declared.place.Place.{Place}
use Rattle.ledger_state.specs.Contents.{HeapContents}
use Rattle.ledger_state.specs.Heaps.{root_of}
use Rattle.ledger_state.specs.declared.locals.Locals.{Locals}
use Rattle.value_laws.specs.Accept.{Accept}
use Rattle.value_laws.specs.Agreement.{Stands}
use Rattle.value_laws.specs.Choosing.{frame_steps}
use Rattle.value_laws.specs.Configuration.{Frame}
use Rattle.value_laws.specs.Outcomes.{IsCallRow}
use Rattle.value_laws.specs.PlaceFacts.{HoldAsSaid, claims, is_field_place, is_idle, is_lent_place, is_settled, leaves_all, run_on_one, takes_nothing}
use Rattle.value_laws.specs.PlainForms.{is_lent_parameter}
use Rattle.value_laws.specs.Places.{place_value}
use Rattle.value_laws.specs.Renewing.{answers_for_fields, is_of_heavy_class, lends_this, makes_alone, reopens}
use Rattle.value_laws.proofs.CallWays.{one_action}
use Rattle.value_laws.proofs.Names.{IsOfInterest, of_interest}
use Rattle.value_laws.proofs.Ready.{step_here}
use Rattle.value_laws.proofs.Unmet.{call_may}
use Rattle.covering_laws.specs.Covering.{KeepsFieldsOfThis}
use Rattle.covering_laws.proofs.GivenAway.{at_any}

-- ---- facts that are not idle

idle_by : (a b c d e : Bool) → (a ≡ false) ⊎ ((b ≡ true) ⊎ ((c ≡ true) ⊎ ((d ≡ false) ⊎ (e ≡ true)))) → (a && not b && not c && d && not e) ≡ false
idle_by false b c d e why = refl
idle_by true true c d e why = refl
idle_by true false true d e why = refl
idle_by true false false false e why = refl
idle_by true false false true true why = refl
idle_by true false false true false (inl no') = absurd (true≢false no')
idle_by true false false true false (inr (inl no')) = absurd (true≢false (sym no'))
idle_by true false false true false (inr (inr (inl no'))) = absurd (true≢false (sym no'))
idle_by true false false true false (inr (inr (inr (inl no')))) = absurd (true≢false no')
idle_by true false false true false (inr (inr (inr (inr no')))) = absurd (true≢false (sym no'))

pub said_by : (p : Program) (frs : List Frame) (fr : Frame) (f : Fact)
    → (is_held f.mode ≡ false) ⊎ ((constructs (method_at p fr.method) ≡ true) ⊎ ((reopens (method_at p fr.method) ≡ true) ⊎ ((is_of_heavy_class p (method_at p fr.method) ≡ false) ⊎ (is_settled p fr frs ≡ true)))) → is_idle p frs fr f ≡ false
said_by p frs fr f why = idle_by (is_held f.mode) (constructs (method_at p fr.method)) (reopens (method_at p fr.method)) (is_of_heavy_class p (method_at p fr.method)) (is_settled p fr frs) why

-- and so a fact of which something is said is one of these
pub said_why : (p : Program) (frs : List Frame) (fr : Frame) (f : Fact) → is_idle p frs fr f ≡ false
    → (is_held f.mode ≡ false) ⊎ ((constructs (method_at p fr.method) ≡ true) ⊎ ((reopens (method_at p fr.method) ≡ true) ⊎ ((is_of_heavy_class p (method_at p fr.method) ≡ false) ⊎ (is_settled p fr frs ≡ true))))
said_why p frs fr f said = go (is_held f.mode) (constructs (method_at p fr.method)) (reopens (method_at p fr.method)) (is_of_heavy_class p (method_at p fr.method)) (is_settled p fr frs) said
  where
    go : (a b c d e : Bool) → (a && not b && not c && d && not e) ≡ false → (a ≡ false) ⊎ ((b ≡ true) ⊎ ((c ≡ true) ⊎ ((d ≡ false) ⊎ (e ≡ true))))
    go false b c d e none = inl refl
    go true true c d e none = inr (inl refl)
    go true false true d e none = inr (inr (inl refl))
    go true false false false e none = inr (inr (inr (inl refl)))
    go true false false true true none = inr (inr (inr (inr refl)))
    go true false false true false none = absurd (true≢false none)

own_not_held : (m : Mode) → is_own m ≡ true → is_held m ≡ false
own_not_held modes.Own is = refl
own_not_held modes.None is = refl
own_not_held modes.Held is = absurd (true≢false (sym is))
own_not_held modes.Lent is = refl
own_not_held modes.Alias is = refl

answers_by : (m : Option Method) → answers_for_fields m ≡ true → (constructs m ≡ true) ⊎ (reopens m ≡ true)
answers_by m is = go (constructs m) (not (is_present (alias_in m))) (reopens m) is
  where
    go : (a b c : Bool) → (a && b || c) ≡ true → (a ≡ true) ⊎ (c ≡ true)
    go true b c one = inl refl
    go false b c one = inr one

-- no other frame does
pub answers_neither : (m : Option Method) → constructs m ≡ false → reopens m ≡ false → answers_for_fields m ≡ false
answers_neither m plain other = go (constructs m) (not (is_present (alias_in m))) (reopens m) plain other
  where
    go : (a b c : Bool) → a ≡ false → c ≡ false → (a && b || c) ≡ false
    go true b c none also = absurd (true≢false none)
    go false b c none also = also

-- a frame that runs on the `this` of the frame that waits for it, which keeps `this`, is settled where that one is, or makes the object, or answers for its fields
pub settled_on : (p : Program) (fr caller : Frame) (frs : List Frame) → run_on_one fr caller ≡ true → lends_this p caller ≡ false
    → (constructs (method_at p caller.method) ≡ true) ⊎ ((reopens (method_at p caller.method) ≡ true) ⊎ (is_settled p caller frs ≡ true)) → is_settled p fr (caller ∷ frs) ≡ true
settled_on p fr caller frs one keeps why =
    go (leaves_all p (method_at p fr.method)) (run_on_one fr caller) (lends_this p caller) (constructs (method_at p caller.method)) (reopens (method_at p caller.method)) (is_settled p caller frs) one keeps why
  where
    go : (l r n a b c : Bool) → r ≡ true → n ≡ false → (a ≡ true) ⊎ ((b ≡ true) ⊎ (c ≡ true)) → (l || r && not n && (a || (b || c))) ≡ true
    go true r n a b c on not' any = refl
    go false false n a b c on not' any = absurd (true≢false (sym on))
    go false true true a b c on not' any = absurd (true≢false not')
    go false true false true b c on not' any = refl
    go false true false false true c on not' any = refl
    go false true false false false true on not' any = refl
    go false true false false false false on not' (inl none) = absurd (true≢false (sym none))
    go false true false false false false on not' (inr (inl none)) = absurd (true≢false (sym none))
    go false true false false false false on not' (inr (inr none)) = absurd (true≢false (sym none))

-- so is one that leaves all as it is
pub leaves_settles : (p : Program) (fr : Frame) (frs : List Frame) → leaves_all p (method_at p fr.method) ≡ true → is_settled p fr frs ≡ true
leaves_settles p fr [] leaves = leaves
leaves_settles p fr (caller ∷ frs) leaves = or_left (leaves_all p (method_at p fr.method)) _ leaves

-- The frame of a must-call method answers for the fields of `this`, or nothing is stored into them while it runs.
pub finalizer_keeps : (p : Program) → Accept p → (frs : List Frame) (fr : Frame) (m : MethodId) (d : Method) (name : NameId) → method_at p m ≡ Some d → d.sig.interest ≡ Some name → method_at p fr.method ≡ Some d → KeepsFieldsOfThis p frs fr
finalizer_keeps p ac frs fr m d name at interest runs = by d.sig.reset refl
  where
    its : IsOfInterest p d name
    its = of_interest p ac.well_formed m d name at interest

    plain : constructs (method_at p fr.method) ≡ false
    plain = ap constructs runs ∙ ap is_constructor_kind its.instance

    takes : takes_nothing p (method_at p fr.method) ≡ true
    takes = ap (takes_nothing p) runs ∙ ap (list_all (λ (a : ParamSig). is_lent_parameter p (Some a))) its.bare

    by : (r : Option ℕ) → d.sig.reset ≡ r → KeepsFieldsOfThis p frs fr
    by None none = inr (leaves_settles p fr frs (and_from _ _ (and_from _ _ (ap not plain) takes) (ap (λ (b : Bool). not b) (ap (λ (y : Option Method). is_present (reset_in y)) runs ∙ ap is_present none))))
    by (Some zero) some = inl (and_from (not (constructs (method_at p fr.method))) (is_position (reset_in (method_at p fr.method)) 0) (ap not plain) (ap (λ (y : Option Method). is_position (reset_in y) 0) runs ∙ ap (λ (y : Option ℕ). is_position y 0) some))
    by (Some (suc k)) some =
        let valid = (ac.well_formed.valid.typed.methods m d at).signature.reset in
        let small : suc k ≤ length d.sig.params.items = subst (IfPosition d.sig) some valid in
        let none : length d.sig.params.items ≡ 0 = ap (λ (xs : List ParamSig). length xs) its.bare in
        absurd (omega (arith, small, none))

-- what a fact claims is said
pub claimed_is_said : (p : Program) (frs : List Frame) (fr : Frame) (o : Origin) (f : Fact) → claims p (method_at p fr.method) o f ≡ true → is_idle p frs fr f ≡ false
claimed_is_said p frs fr o f claimed =
    by (is_own f.mode) (is_held f.mode) (answers_for_fields (method_at p fr.method)) refl refl refl
    (and_parts (is_heavy_class p o.class) (is_own f.mode || is_held f.mode && answers_for_fields (method_at p fr.method)) claimed).1
  where
    by : (a b c : Bool) → is_own f.mode ≡ a → is_held f.mode ≡ b → answers_for_fields (method_at p fr.method) ≡ c → (a || b && c) ≡ true → is_idle p frs fr f ≡ false
    by true b c own held answers is = said_by p frs fr f (inl (own_not_held f.mode own))
    by false false c own held answers is = said_by p frs fr f (inl held)
    by false true true own held answers is = said_by p frs fr f (elim (answers_by (method_at p fr.method) answers) [ inl makes ↦ inr (inl makes) | inr re ↦ inr (inr (inl re)) ])
    by false true false own held answers is = absurd (true≢false (sym is))

-- so is what the fact of what is lent knows
pub lent_is_said : (p : Program) (frs : List Frame) (fr : Frame) (f : Fact) → (is_held f.mode ≡ true → (constructs (method_at p fr.method) ≡ true) × (makes_alone (method_at p fr.method) ≡ false)) → is_idle p frs fr f ≡ false
lent_is_said p frs fr f lent = go (is_held f.mode) refl
  where
    go : (b : Bool) → is_held f.mode ≡ b → is_idle p frs fr f ≡ false
    go false none = said_by p frs fr f (inl none)
    go true held = said_by p frs fr f (inr (inl (lent held).0))

-- ---- places

-- each of the places, but for those of fields, holds object `o`
abbrev pub HoldsApart : Program → HeapContents → MethodId → Locals → ℕ → PlaceSet → Type 0
HoldsApart p h m l o held = (q : Place) → IsSmall q → is_field_place q ≡ false → has held q ≡ true → root_of h (place_value p h m l q) ≡ Some o

-- so do those of a fact of which something is said
pub said_apart : (p : Program) (h : HeapContents) (frs : List Frame) (fr : Frame) (o : ℕ) (f : Fact) → HoldAsSaid p h frs fr o f → is_idle p frs fr f ≡ false → HoldsApart p h fr.method fr.locals o f.places
said_apart p h frs fr o f holds said q small apart is = holds said q small (no_place q apart) is
  where
    no_place : (z : Place) → is_field_place z ≡ false → is_lent_place p fr z ≡ false
    no_place z none = ap (λ (b : Bool). b && lends_this p fr) none

-- where `this` is not lent, no place is
pub no_lent_place : (p : Program) (fr : Frame) → lends_this p fr ≡ false → (q : Place) → is_lent_place p fr q ≡ false
no_lent_place p fr none q = go (is_field_place q) (lends_this p fr) none
  where
    go : (a b : Bool) → b ≡ false → (a && b) ≡ false
    go true b is' = is'
    go false b is' = refl

-- ---- frames that lend `this`

-- a frame that stands at a call, or at its end, lends `this` where this step does
pub lends_by_step : (p : Program) (fr : Frame) (st : Stands p fr) (i : ℕ) (s : Step) → slice_get (frame_steps p fr) i ≡ Some s → is_reset_of_this p s.action ≡ false → lends_this p fr ≡ false
lends_by_step p fr st i s here other = go (lends_this p fr) refl
  where
    is_call : (a : Action) → is_reset_of_this p a ≡ true → IsCallRow a
    is_call actions.Skip is = absurd (true≢false (sym is))
    is_call (actions.Call m d n form) is = tt
    is_call a is = absurd (true≢false (sym is))

    go : (b : Bool) → lends_this p fr ≡ b → lends_this p fr ≡ false
    go false none = none
    go true lends =
        let t = at_any (λ (u : Step). is_reset_of_this p u.action) (frame_steps p fr) lends in
        let one : s.action ≡ t.1.action =
        one_action p st.number fr.control t.0 i t.1 s (step_here p fr st t.0 t.1 t.2) (step_here p fr st i s here) (call_may t.1.action (is_call t.1.action t.3)) in
        absurd (true≢false (sym t.3 ∙ ap (is_reset_of_this p) (sym one) ∙ other))

-- so none that ends does
pub ends_lend_nothing : (p : Program) (fr : Frame) (st : Stands p fr) (i : ℕ) (s : Step) (q : Completion) → slice_get (frame_steps p fr) i ≡ Some s → s.action ≡ actions.End q → lends_this p fr ≡ false
ends_lend_nothing p fr st i s q here is = lends_by_step p fr st i s here (ap (is_reset_of_this p) is)
