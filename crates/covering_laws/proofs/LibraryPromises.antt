-- What a method of the library promises of the places of a fact was called on the object that they hold.
use Rattle.std.specs.Prelude.{if◌then◌else◌}
use Rattle.std.proofs.Common.{◌≡◌, ◌⊎◌, inl, inr, ℕ, Bool, true, false, true≢false, eqb-true, Option, Some, None, List, [], slice_get, refl, sym, ap, ◌∙◌, subst}
use Rattle.std.proofs.lemmas.Bool.{and_parts}
use Rattle.std.specs.FinSet as set
use Rattle.rlc_base.proofs.SetLaws.{within_at, within_from}
use Rattle.program_model.specs.declared.kinds.ClassId.{ClassId}
use Rattle.program_model.specs.declared.kinds.FieldId.{FieldId}
use Rattle.program_model.specs.declared.kinds.MethodId.{MethodId}
use Rattle.program_model.specs.declared.kinds.Target.{Target}
use Rattle.program_model.specs.declared.kinds.Target.TheVariants as promised
use Rattle.program_model.specs.declared.program.Field.{Field}
use Rattle.program_model.specs.declared.program.Method.{Method}
use Rattle.program_model.specs.declared.program.Program.{Program}
use Rattle.program_model.specs.declared.program.Promise.{Promise}
use Rattle.program_model.specs.Lookups.{method_at}
use Rattle.program_model.specs.Overrides.{is_library}
use Rattle.ledger_obligations.specs.Bodies.{has_field_place, promises_in, throwing_promises_in}
use Rattle.java_control.specs.Calls.{called_method}
use Rattle.java_control.specs.Control.{Step}
use Rattle.java_control.specs.Owned.{place_of_field}
use Rattle.control_actions.specs.declared.action.Action.{Action}
use Rattle.control_actions.specs.declared.action.Edge.{Edge}
use Rattle.control_actions.specs.declared.action.Edge.TheVariants as edges
use Rattle.ownership_rules.specs.Callees.{callee, callee_in, holds_operand, is_this_target, may_be_null_target}
use Rattle.ownership_rules.specs.Facts.{has}
use Rattle.ownership_rules.specs.Signatures.{is_at, promised_names, when}
use Rattle.ownership_rules.specs.SmallActions.{IsSmallAction}
use Rattle.value_laws.specs.CalledRows.{holds_field, holds_target, promises_at}
use Rattle.value_laws.specs.Accept.{Accept}
use Rattle.stub_conduct.specs.declared.choice.Conduct.{Conduct}
use Rattle.stub_conduct.specs.declared.choice.Conduct.TheVariants as conducts
use Rattle.ledger_state.specs.Contents.{HeapContents}
use Rattle.ledger_state.specs.Heaps.{object_at, root, root_of}
use Rattle.ledger_state.specs.Values.{number_of}
use Rattle.ledger_state.specs.declared.value.Value.TheVariants as values
use Rattle.ledger_state.specs.declared.array.ArrayObject.{ArrayObject}
use Rattle.ledger_state.specs.declared.locals.Locals.{Locals}
use Rattle.ledger_state.specs.declared.object.Object.{Object}
use Rattle.ledger_obligations.specs.Obligations.{is_library_method}
use Rattle.ledger_steps.specs.LedgerCallsCalls.{operand_of}
use Rattle.ledger_steps.specs.Conducts.{promises_by}
use Rattle.value_laws.specs.Configuration.{Frame}
use Rattle.value_laws.specs.Choosing.{frame_steps}
use Rattle.ledger_steps.specs.CallSteps.{library_heap}
use Rattle.value_laws.proofs.Emptied.{plain_interest}
use Rattle.value_laws.proofs.Renewed.{says_nothing, without_reset}
use Rattle.value_laws.specs.Heaps.{HasEarlierLinks}
use Rattle.value_laws.specs.Leading.{Leads}
use Rattle.value_laws.specs.LibraryCalls.{HasSmallInterest}
use Rattle.value_laws.proofs.LibraryCallLaws.{promised_names_are_called-position}
use Rattle.value_laws.specs.Agreement.{Stands}
use Rattle.value_laws.specs.Nexts.{IsLibraryMove}
use Rattle.value_laws.proofs.CallNames.{operand_has_position}
use Rattle.value_laws.proofs.SignedPromises.{Promises, promised_name_is_small}
use Rattle.ledger_obligations.specs.MustCallSets.{Names, is_heavy_class}
use Rattle.value_laws.specs.FieldContents.{LinksLead}
use Rattle.value_laws.specs.PlaceFacts.{Covers, OwesOrHolds, is_idle}
use Rattle.covering_laws.proofs.SaidFacts.{said_apart}
use Rattle.value_laws.specs.PlainForms.{IsAnsweredBy, IsKeptBy, LibraryRunsFor}
use Rattle.value_laws.proofs.FrameOperations.{all_at}
use Rattle.value_laws.proofs.LibraryRuns.{promises_answered}
use Rattle.value_laws.proofs.NoteLists.{name_from_all, name_where}
use Rattle.value_laws.specs.Ranges.{LocalsInRange}
use Rattle.value_laws.proofs.RangeValues.{operand_in_range}
use Rattle.value_laws.proofs.Chains.{object_there}
use Rattle.covering_laws.proofs.HeavyFields.{HasPlace, has_place_here}
use Rattle.covering_laws.proofs.Bodies.{running_method}
use Rattle.covering_laws.proofs.KnownNames.{AreKept, all_kept, operand_holds}
use Rattle.covering_laws.proofs.PromisedFields.{IsOwnField, promised_field}

-- ---- the promises of a call

thrown_promises : (p : Program) (a : Action) (t : ClassId) (m : Option Method) → callee p a ≡ m → (promises_at p a (edges.Throws t) ≡ []) ⊎ (promises_at p a (edges.Throws t) ≡ throwing_promises_in m)
thrown_promises p a t m same = go (may_be_null_target p a (edges.Throws t))
  where
    go : (b : Bool) → ((if b then [] else throwing_promises_in (callee p a)) ≡ []) ⊎ ((if b then [] else throwing_promises_in (callee p a)) ≡ throwing_promises_in m)
    go true = inl refl
    go false = inr (ap throwing_promises_in same)

-- the promises at the edge are those of the way in which the library ends the call, or there are none, since the edge may be that of a null
-- target
pub edge_promises : (p : Program) (a : Action) (e : Edge) (m : Option Method) (d : Conduct) → callee p a ≡ m → ((c : ClassId) → d ≡ conducts.Throws c → (k : ClassId) × (e ≡ edges.Throws k))
    → (((c : ClassId) → d ≡ conducts.Throws c → ⊥) → e ≡ edges.Go) → (promises_at p a e ≡ []) ⊎ (promises_at p a e ≡ promises_by m d)
edge_promises p a e m conducts.Null same thrown normal =
    inr (ap (promises_at p a) (normal (λ c is. let never : conducts.Null ≡ conducts.Throws c = is in cc)) ∙ ap promises_in same)
edge_promises p a e m (conducts.Throws c) same thrown normal =
    let k = thrown c refl in
    subst (λ (x : Edge). (promises_at p a x ≡ []) ⊎ (promises_at p a x ≡ throwing_promises_in m)) (sym k.1) (thrown_promises p a k.0 m same)
edge_promises p a e m d same thrown normal = inr (ap (promises_at p a) (normal (λ c is. cc)) ∙ ap promises_in same)

-- each of them is one of the method's
pub promise_of : (m : Option Method) (d : Conduct) (j : ℕ) (q : Promise) → slice_get (promises_by m d) j ≡ Some q → (x : Method) × (m ≡ Some x) × Promises x q
promise_of None conducts.Null j q at = absurd (let never : None ≡ Some q = at in cc)
promise_of None (conducts.Throws e) j q at = absurd (let never : None ≡ Some q = at in cc)
promise_of None d j q at = absurd (let never : None ≡ Some q = at in cc)
promise_of (Some x) conducts.Null j q at = (x, refl, (j, inl at))
promise_of (Some x) (conducts.Throws e) j q at = (x, refl, (j, inr at))
promise_of (Some x) d j q at = (x, refl, (j, inl at))

pub at_position : (w : Target) (v : ℕ) → is_at w v ≡ true → w ≡ promised.At v
at_position (promised.At k) v is = ap promised.At (eqb-true k v is)
at_position (promised.OfField f) v is = absurd (true≢false (sym is))

-- ---- a call of the library

module _ (p : Program) (ac : Accept p) (h : HeapContents) (links : HasEarlierLinks h) (fr : Frame) (st : Stands p fr) (arrays : List ArrayObject) (named runs : MethodId) (d : Conduct) (s : Step)
    (next : IsLibraryMove p h arrays fr.locals (frame_steps p fr) named runs d s) (at : ℕ) (old : ℕ → Bool) (frs : List Frame) (called : called_method s.action ≡ Some named)
    (small : IsSmallAction p s.action) (interests : HasSmallInterest (method_at p named)) (leads : LinksLead p h) (inside : LocalsInRange h fr.locals) where
  abbrev m : Option Method
  m = method_at p named

  -- the method by whose signature the library answers
  abbrev ran : Option Method
  ran = method_at p runs

  abbrev l : Locals
  l = fr.locals

  abbrev K : HeapContents
  K = library_heap p l s.action (without_reset m) ran d at h

  -- the links of an operand lead to its root
  way : (k o : ℕ) (x : Object) → root_of h (operand_of l s.action k) ≡ Some o → object_at h o ≡ Some x → is_heavy_class p x.class ≡ true → OwesOrHolds p h o x → (w : ℕ) → operand_of l s.action k ≡ values.Object w → Leads p h w o
  way k o x rooted before heavy owes w value =
      let number = operand_in_range h l inside s.action k w (ap number_of value) in
      let object = object_there h w x number.0 number.1 in
      leads w o object.0 x object.1 (let both : Some (root h w) ≡ Some o = ap (root_of h) (sym value) ∙ rooted in (let same : root h w ≡ o = cc in same)) before heavy owes

  -- one promise of that method
  module _ (j : ℕ) (q : Promise) (there : slice_get (promises_by ran d) j ≡ Some q) where
    its : (x : Method) × (ran ≡ Some x) × Promises x q
    its = promise_of ran d j q there

    in_library : is_library p its.0.class ≡ true
    in_library = ap (is_library_method p) (sym its.1) ∙ next.library

    -- one on a field is on one of the library's classes, which has no place in a body of the program
    no_place : (f : FieldId) → q.target ≡ promised.OfField f → has_field_place p st.number f ≡ true → ⊥
    no_place f target place =
        let mine : HasPlace p fr f = has_place_here p ac fr st f place in
        let own : IsOwnField p its.0 f = promised_field p ac runs its.0 q its.1 its.2 f target in
        let same_field : mine.field ≡ own.field = (let both : Some mine.field ≡ Some own.field = sym mine.at ∙ own.at in (let one : mine.field ≡ own.field = cc in one)) in
        let run = running_method p ac fr st in
        let same_method : mine.method ≡ run.0 = (let both : Some mine.method ≡ Some run.0 = sym mine.named ∙ run.1 in (let one : mine.method ≡ run.0 = cc in one)) in
        true≢false (sym in_library ∙ ap (is_library p) (sym own.class ∙ sym (ap (λ (x : Field). x.class) same_field) ∙ mine.class ∙ ap (λ (x : Method). x.class) same_method) ∙ run.2)

    name_called : (o : ℕ) (x y : Object) (c : Covers p h false false old frs fr o x) → is_idle p frs fr c.fact ≡ false → object_at h o ≡ Some x → object_at K o ≡ Some y → is_heavy_class p x.class ≡ true → OwesOrHolds p h o x → (k : ℕ) → q.target ≡ promised.At k
        → holds_operand s.action c.fact.places k ≡ true → (n : ℕ) → set.contains q.names n ≡ true → set.contains y.called n ≡ true
    name_called o x y c said before now heavy owes k target holds n has =
        let rooted = operand_holds p h fr.method l s.action o k c.fact.places small (operand_has_position p s.action c.fact.places k small holds) (said_apart p h frs fr o c.fact c.places said) holds in
        promised_names_are_called-position p l s.action (without_reset m) ran d at h j q k n o x y links (plain_interest m interests) (says_nothing m) there target has (promised_name_is_small p ac runs its.0 q n its.1 its.2 has) rooted before (way k o x rooted before heavy owes) now

    one_kept : (o : ℕ) (x y : Object) (c : Covers p h false false old frs fr o x) → is_idle p frs fr c.fact ≡ false → object_at h o ≡ Some x → object_at K o ≡ Some y → is_heavy_class p x.class ≡ true → OwesOrHolds p h o x → (t : Target) → q.target ≡ t
        → holds_target p st.number s.action c.fact.places t ≡ true → set.is_subset q.names y.called ≡ true
    one_kept o x y c said before now heavy owes (promised.At k) target holds = within_from q.names y.called (λ n has. name_called o x y c said before now heavy owes k target holds n has)
    one_kept o x y c said before now heavy owes (promised.OfField f) target holds =
        let parts = and_parts (is_this_target s.action) (holds_field p st.number c.fact.places f) holds in
        absurd (no_place f target (and_parts (has_field_place p st.number f) (has c.fact.places (place_of_field p f)) parts.1).0)

  module _ (o : ℕ) (x y : Object) (c : Covers p h false false old frs fr o x) (said : is_idle p frs fr c.fact ≡ false) (before : object_at h o ≡ Some x) (now : object_at K o ≡ Some y) (heavy : is_heavy_class p x.class ≡ true) (owes : OwesOrHolds p h o x) where
    -- what the named method promises, where it runs itself
    own_kept : AreKept p st.number s.action c.fact.places y.called (promises_by ran d)
    own_kept = all_kept p st.number s.action c.fact.places y.called (promises_by ran d) (λ j q there holds. one_kept j q there o x y c said before now heavy owes q.target refl holds)

    -- and where another method runs for it
    answered_kept : LibraryRunsFor p named runs → AreKept p st.number s.action c.fact.places y.called (promises_by m d)
    answered_kept answers = all_kept p st.number s.action c.fact.places y.called (promises_by m d) (λ j q there holds.
        one q.target q.names (all_at (λ (u : Promise). IsKeptBy (promises_by ran d) u.target u.names) (promises_by m d) j q (promises_answered p named runs answers d) there) holds)
      where
        one : (t : Target) (names : Names) → IsKeptBy (promises_by ran d) t names → holds_target p st.number s.action c.fact.places t ≡ true → set.is_subset names y.called ≡ true
        one (promised.OfField f) names kept holds = absurd kept
        one (promised.At k) names kept holds = within_from names y.called (λ n has.
            let mine = name_from_all (λ (w : Promise). when (is_at w.target k) w.names) (promises_by ran d) n (within_at names (promised_names (λ w. is_at w k) (promises_by ran d)) kept n has) in
            let parts = name_where (is_at mine.0.target k) mine.0.names n mine.3 in
            name_called mine.1 mine.0 mine.2 o x y c said before now heavy owes k (at_position mine.0.target k parts.0) holds n parts.1)

    all_promised : IsAnsweredBy p named runs → AreKept p st.number s.action c.fact.places y.called (promises_by m d)
    all_promised (inl same) = subst (λ (z : MethodId). AreKept p st.number s.action c.fact.places y.called (promises_by (method_at p z) d)) same own_kept
    all_promised (inr answers) = answered_kept answers

    pub library_keeps_promises : AreKept p st.number s.action c.fact.places y.called (promises_at p s.action s.edge)
    library_keeps_promises = elim (edge_promises p s.action s.edge m d (ap (callee_in p) called) (λ e is. let way = next.thrown e is in (way.0, way.2)) next.normal) [
      | inl none ↦ subst (λ (ps : List Promise). AreKept p st.number s.action c.fact.places y.called ps) (sym none) tt
      | inr same ↦ subst (λ (ps : List Promise). AreKept p st.number s.action c.fact.places y.called ps) (sym same) (all_promised next.answers)
    ]
