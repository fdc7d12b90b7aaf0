-- What the other invariants say of fields is what the agreement needs to know of them.
use Rattle.std.proofs.Common.{◌≡◌, ◌⊎◌, inl, inr, ℕ, ◌+◌, length, subst, Bool, true, false, not, ◌&&◌, ◌||◌, Option, Some, None, List, ◌∷◌, is_some, slice_get, refl, sym, ap, ◌∙◌, true≢false, eqb-true}
use Rattle.std.proofs.lemmas.Bool.{and_parts, not-true, or_left}
use Rattle.std.specs.FinSet as set
use Rattle.rlc_base.proofs.SetLaws.{within_trans}
use Rattle.program_model.specs.declared.kinds.ClassId.{ClassId}
use Rattle.program_model.specs.declared.kinds.FieldId.{FieldId}
use Rattle.program_model.specs.declared.kinds.VType.{VType}
use Rattle.program_model.specs.declared.program.Field.{Field}
use Rattle.program_model.specs.declared.program.Method.{Method}
use Rattle.program_model.specs.declared.program.Program.{Program}
use Rattle.program_model.specs.Lookups.{field_at, method_at}
use Rattle.program_model.specs.SuperTests.{is_under}
use Rattle.ledger_obligations.specs.Bodies.{alias_in, alias_position, constructs, has_field_place, is_alias_constructor, is_class_of, is_constructor, is_field_in, method_of, reset_in}
use Rattle.ledger_obligations.specs.MustCallSets.{is_empty, is_heavy_class, must_of, must_of_optional, must_of_type, no_names}
use Rattle.ownership_rules.specs.Signatures.{is_position, is_present, type_of_field}
use Rattle.ownership_rules.specs.SmallActions.{IsSmallAction}
use Rattle.java_control.specs.Control.{Step}
use Rattle.java_control.specs.Owned.{is_owning_field}
use Rattle.control_actions.specs.declared.action.Action.TheVariants as actions
use Rattle.control_actions.specs.declared.action.Completion.{Completion}
use Rattle.control_actions.specs.declared.action.Completion.TheVariants as completions
use Rattle.content_laws.specs.Ends.{is_throw}
use Rattle.content_laws.specs.Paths.{move_of}
use Rattle.content_laws.specs.Accept.{Accept}
use Rattle.ledger_state.specs.Contents.{HeapContents}
use Rattle.ledger_state.specs.Fields.{field_value}
use Rattle.ledger_state.specs.Heaps.{object_at, root_of, same_root, unfinished}
use Rattle.ledger_state.specs.Locals.{temp_value}
use Rattle.ledger_state.specs.Values.{number_of}
use Rattle.ledger_state.specs.declared.entry.Owner.{Owner}
use Rattle.ledger_state.specs.declared.entry.Owner.TheVariants as owners
use Rattle.ledger_state.specs.declared.locals.Locals.{Locals}
use Rattle.ledger_state.specs.declared.object.Object.{Object}
use Rattle.ledger_state.specs.declared.value.Value.{Value}
use Rattle.ledger_state.specs.declared.value.Value.TheVariants as values
use Rattle.ledger_obligations.specs.Obligations.{is_held_by, is_library_owner, is_unmet}
use Rattle.ledger_obligations.specs.Obligations.{type_of_field as type_of_field'}
use Rattle.ledger_steps.specs.LedgerCallsCalls as calls
use Rattle.ledger_steps.specs.LedgerCallsCalls.{alias_target}
use Rattle.content_laws.specs.Configuration.{Frame}
use Rattle.content_laws.specs.Choosing.{frame_steps}
use Rattle.ledger_steps.specs.Ends.{exception_class, thrown_in}
use Rattle.ledger_steps.specs.InnerSteps.{is_bound, parameter, root_of_number}
use Rattle.content_laws.specs.Agreement.{AllStand, IsCalledFrom, Stands, Tracks}
use Rattle.content_laws.specs.PlainForms.{HasPlainForms, StoresPlainly}
use Rattle.content_laws.specs.FieldContents.{AreNew, AreUnfinished, DeclaresOwning, FieldsOwn, HaveContents, IsContent, is_made_in}
use Rattle.content_laws.specs.Frames.{KeepsTargets}
use Rattle.content_laws.specs.Heaps.{HasEarlierLinks}
use Rattle.content_laws.specs.Linking.{LinkedAreAliases}
use Rattle.content_laws.specs.PlaceFacts.{Covers, IsCovered, IsKeyed, MakesNoAlias, gives_none, is_heavy_in, is_owning_fact, owned as is_owned_key, renews_none, unowned}
use Rattle.content_laws.specs.Ranges.{LocalsInRange}
use Rattle.content_laws.specs.Renewing.{reopens}
use Rattle.content_laws.specs.Sight.{ActsInSight}
use Rattle.content_laws.specs.Covering.{HoldsHeavy}
use Rattle.content_laws.proofs.Goes.{not_the_librarys_owes}
use Rattle.content_laws.proofs.CoveringLaws.{contents_are_met_at_throw, overwritten_is_met}
use Rattle.content_laws.proofs.Births.{heavy_by_unmet}
use Rattle.content_laws.proofs.Chains.{object_there}
use Rattle.content_laws.proofs.Ready.{step_there}
use Rattle.content_laws.proofs.ContentStores.{may_library}
use Rattle.content_laws.proofs.Ends.{heavy_field_by}
use Rattle.content_laws.proofs.Following.{small_step}
use Rattle.content_laws.proofs.HeavyFields.{own_claims}
use Rattle.content_laws.proofs.StoreSteps.{temp_is_taken}
use Rattle.content_laws.proofs.StoringThis.{IsItsField, IsReopened, its_field, storing_this}
use Rattle.content_laws.proofs.UnlinkedThis.{this_object, unlinked_this}
use Rattle.content_laws.proofs.Unmet.{may_lies, nothing_to_call}
use Rattle.content_laws.specs.Stores.{IsDisplaced, IsMovedIn}
use Rattle.soundness_laws.proofs.StoredFacts.{owned_not_stored}
use Rattle.content_laws.proofs.Finished.{alias_makes_none, made_by_none}
use Rattle.content_laws.proofs.FilledStores.{alias_form}
use Rattle.control_actions.specs.declared.fact.Mode.{Mode}
use Rattle.control_actions.specs.declared.fact.Mode.TheVariants as modes
use Rattle.control_actions.specs.declared.place.Place.TheVariants as places
use Rattle.ownership_rules.specs.Facts.{has, is_own}
use Rattle.soundness_laws.specs.Supports.{IsLentHolder, StoresIntoLent, StoresWell, Supports}
use Rattle.content_laws.specs.Filled.{AreFilled}
use Rattle.content_laws.proofs.CallNames.{object_with_root}
use Rattle.soundness_laws.proofs.Makers.{body_method, class_of_maker}

pub not_true : (b : Bool) → (b ≡ true → ⊥) → b ≡ false
not_true true never = absurd (never refl)
not_true false never = refl

no_and : (a : Bool) → (a && false) ≡ false
no_and true = refl
no_and false = refl

own_mode : (m : Mode) → is_own m ≡ true → m ≡ modes.Own
own_mode modes.Own is = refl
own_mode modes.Alias is = absurd (true≢false (sym is))
own_mode modes.Held is = absurd (true≢false (sym is))
own_mode modes.Lent is = absurd (true≢false (sym is))
own_mode modes.None is = absurd (true≢false (sym is))

field_of_owner : (o : Owner) (w : ℕ) → is_held_by o w ≡ true → (f : FieldId) × (o ≡ owners.Field w f)
field_of_owner (owners.Field v f) w is = (f, ap (λ (k : ℕ). owners.Field k f) (eqb-true v w is))
field_of_owner (owners.Frame j) w is = absurd (true≢false (sym is))
field_of_owner owners.Library w is = absurd (true≢false (sym is))
field_of_owner owners.Released w is = absurd (true≢false (sym is))
field_of_owner owners.Lost w is = absurd (true≢false (sym is))
field_of_owner owners.Unowned w is = absurd (true≢false (sym is))

pub object_of_number : (v : Value) (w : ℕ) → number_of v ≡ Some w → v ≡ values.Object w
object_of_number (values.Object k) w is = let same : k ≡ w = cc in ap values.Object same
object_of_number values.Nothing w is = absurd (let never : None ≡ Some w = is in cc)
object_of_number v w is = absurd (let never : None ≡ Some w = is in cc)

-- an exception ends the frame by a throw
pub throws_by : (p : Program) (h : HeapContents) (l : Locals) (q : Completion) (c : ClassId) → exception_class p h (thrown_in l q) ≡ Some c → is_throw q ≡ true
throws_by p h l (completions.Throw d t pos) c is = refl
throws_by p h l (completions.Return pos) c is = absurd (let never : None ≡ Some c = is in cc)
throws_by p h l (completions.ReturnValue d pos) c is = absurd (let never : None ≡ Some c = is in cc)
throws_by p h l (completions.Break pos) c is = absurd (let never : None ≡ Some c = is in cc)
throws_by p h l (completions.Continue pos) c is = absurd (let never : None ≡ Some c = is in cc)

module _ (p : Program) (ac : Accept p) (forms : HasPlainForms p) (h : HeapContents) (fr : Frame) (frs : List Frame) (st : Stands p fr) (rest : AllStand p frs) (called : IsCalledFrom p h fr frs)
    (contents : HaveContents p (fr ∷ frs) h) (old : ℕ → Bool) (covered : IsCovered p h gives_none renews_none old frs fr) (unmade : AreUnfinished p h (fr ∷ frs)) (news : AreNew p (fr ∷ frs)) (filled : AreFilled p h frs)
    (links : HasEarlierLinks h) (fields : FieldsOwn p h) (mine : LocalsInRange h fr.locals) (targets : KeepsTargets p fr) (linked : LinkedAreAliases p h) (sight : ActsInSight p h fr) where
  body_alias : alias_position p st.number ≡ alias_in (method_at p fr.method)
  body_alias = ap alias_in (body_method p ac forms fr st)

  same_alias : (m : Option Method) → calls.alias_position m ≡ alias_in m
  same_alias None = refl
  same_alias (Some m) = refl

  -- where it has none, no value is its argument
  not_bound : (v : Value) → alias_in (method_at p fr.method) ≡ None → is_bound h (method_at p fr.method) fr.locals v ≡ false
  not_bound v none =
      ap (λ (b : Bool). (constructs (method_at p fr.method) && b) && same_root (root_of h v) (root_of_number h (alias_target (parameter fr.locals) (method_at p fr.method))))
      (ap is_some (same_alias (method_at p fr.method) ∙ none))
      ∙ ap (λ (b : Bool). b && same_root (root_of h v) (root_of_number h (alias_target (parameter fr.locals) (method_at p fr.method)))) (no_and (constructs (method_at p fr.method)))

  -- nor is one where it is none of a constructor
  not_bound_method : (v : Value) → constructs (method_at p fr.method) ≡ false → is_bound h (method_at p fr.method) fr.locals v ≡ false
  not_bound_method v none =
      ap (λ (b : Bool). (b && is_some (calls.alias_position (method_at p fr.method))) && same_root (root_of h v) (root_of_number h (alias_target (parameter fr.locals) (method_at p fr.method)))) none

  -- the frame runs a constructor with an aliased argument, or none
  abbrev IsAliasMaker : Type 0
  IsAliasMaker = (k : ℕ) × (constructs (method_at p fr.method) ≡ true) × (alias_in (method_at p fr.method) ≡ Some k)

  maker : (is_alias_constructor p st.number ≡ false) ⊎ IsAliasMaker
  maker = go (constructs (method_at p fr.method)) refl (alias_form (method_at p fr.method))
    where
      same_makes : is_constructor p st.number ≡ constructs (method_at p fr.method)
      same_makes = ap constructs (body_method p ac forms fr st)

      go : (b : Bool) → constructs (method_at p fr.method) ≡ b → (alias_in (method_at p fr.method) ≡ None) ⊎ ((k : ℕ) × (alias_in (method_at p fr.method) ≡ Some k)) → (is_alias_constructor p st.number ≡ false) ⊎ IsAliasMaker
      go false other alias = inl (ap (λ (b : Bool). b && is_present (alias_position p st.number)) (same_makes ∙ other))
      go true makes (inl none) = inl (ap (λ (b : Bool). b && is_present (alias_position p st.number)) (same_makes ∙ makes) ∙ ap (λ (k : Option ℕ). is_present k) (body_alias ∙ none))
      go true makes (inr some) = inr (some.0, makes, some.1)

  -- where it has one, the object that it makes owns nothing in its fields that is unmet
  owns_nothing : (v w o : ℕ) (x : Object) (f : FieldId) → constructs (method_at p fr.method) ≡ true → alias_in (method_at p fr.method) ≡ Some v → fr.locals.this ≡ values.Object w
      → DeclaresOwning p fr.method → (y : Object) → object_at h w ≡ Some y → IsContent p (fr ∷ frs) h o x w f → ⊥
  owns_nothing v w o x f makes alias this declares y at content =
      made_by_none p w content.field.class frs (news.0 w declares makes this)
      (sym (ap (λ (b : Bool). b || is_made_in p w content.field.class frs) (alias_makes_none p w fr w content.field.class (ap is_some (same_alias (method_at p fr.method) ∙ alias))))
      ∙ content.made (unmade.0 w content.holder declares makes this content.at))

  -- what a field owns and is unmet is its content
  content_of : (o : ℕ) (x : Object) (w : ℕ) (f : FieldId) → object_at h o ≡ Some x → is_unmet x ≡ true → x.owner ≡ owners.Field w f → IsContent p (fr ∷ frs) h o x w f
  content_of o x w f at unmet owner = contents o x w f at (or_left (is_unmet x) (is_heavy_class p x.class) unmet) owner

  -- what a field of `this` owns and is unmet has an obligation, and so has the field's type
  heavy_content : (o : ℕ) (x : Object) (w : ℕ) (f : FieldId) → object_at h o ≡ Some x → is_unmet x ≡ true → x.owner ≡ owners.Field w f → fr.locals.this ≡ values.Object w → HoldsHeavy p h fr w f o x
  heavy_content o x w f at unmet owner this =
      let c = content_of o x w f at unmet owner in
      record {
        this = this;
        owning = ap is_owning_field c.declared ∙ c.owning;
        heavy = ap (λ (t : Option Field). not (is_empty (must_of_optional p (type_of_field t)))) c.declared ∙ ap not (not_true (is_empty (must_of_type p c.field.vtype)) (λ light.
            nothing_to_call x unmet (within_trans x.must (must_of_type p c.field.vtype) no_names (within_trans x.must (must_of p x.class) (must_of_type p c.field.vtype) c.own c.bounded) light)));
        held = c.held;
        at = at;
        class = heavy_by_unmet p x.class x unmet c.own;
        owes = inl (not_the_librarys_owes x (ap is_library_owner owner));
      }

  module _ (i : ℕ) (s : Step) (here : slice_get (frame_steps p fr) i ≡ Some s) (f : FieldId) (d : ℕ) (is : s.action ≡ actions.PutOwn f d) where
    abbrev v : Value
    v = temp_value fr.locals d

    form : has_field_place p st.number f ≡ true
    form = forms.stores st.number i (move_of s) f d st.control (step_there p fr st i s here) is

    plainly : StoresPlainly p (method_at p fr.method) f
    plainly = sight.rules.stores i s f d here is

    storing : (constructs (method_at p fr.method) ≡ true) ⊎ (reopens (method_at p fr.method) ≡ true)
    storing = elim plainly [ inl makes ↦ inl makes | inr opens ↦ inr opens.0 ]

    this : (w : ℕ) × (fr.locals.this ≡ values.Object w)
    this = this_object p ac fr st sight.on storing

    by_field : (x : Option Field) → field_at p f ≡ x → is_field_in p st.number x ≡ true → StoresWell p h fr f d
    by_field None at place = absurd (true≢false (sym place))
    by_field (Some x) at place = well
      where
        parts : (x.owning ≡ true) × (is_class_of x.class (method_of p st.number) ≡ true)
        parts = and_parts x.owning (is_class_of x.class (method_of p st.number)) place

        class : is_class_of x.class (method_at p fr.method) ≡ true
        class = sym (ap (is_class_of x.class) (body_method p ac forms fr st)) ∙ parts.1

        declares : DeclaresOwning p fr.method
        declares = (f, x, at, parts.0, class)

        -- an object of the frame is not stored as the argument
        tracked_free : (n : ℕ) (y : Object) (t : Tracks p h fr n y) → is_unmet y ≡ true → has t.fact.places (places.Temp d) ≡ true → is_bound h (method_at p fr.method) fr.locals v ≡ false
        tracked_free n y t unmet has' = elim (alias_form (method_at p fr.method)) [
          | inl none ↦ not_bound v none
          | inr alias ↦ go (constructs (method_at p fr.method)) refl alias
        ]
          where
            go : (b : Bool) → constructs (method_at p fr.method) ≡ b → ((k : ℕ) × (alias_in (method_at p fr.method) ≡ Some k)) → is_bound h (method_at p fr.method) fr.locals v ≡ false
            go false other alias = not_bound_method v other
            go true new alias = absurd (owned_not_stored p ac h fr st i d s f n y alias.0 here is new (body_alias ∙ alias.1) t unmet has')

        -- what the field gives up is met
        displaced_met : (w n : ℕ) (y : Object) → fr.locals.this ≡ values.Object w → (o : Object) → object_at h w ≡ Some o → object_at h n ≡ Some y → IsDisplaced p h w f v n y → is_unmet y ≡ true → ⊥
        displaced_met w n y this o there there' gone unmet = elim maker [
          | inl plain ↦ true≢false (sym unmet ∙
              overwritten_is_met p ac forms h frs fr st plain old covered i d s f w n y here is plainly (heavy_content n y w f there' unmet gone.owner this) gone.other)
          | inr alias ↦ owns_nothing alias.0 w n y f alias.1 alias.2 this declares o there (content_of n y w f there' unmet gone.owner)
        ]

        well : StoresWell p h fr f d
        well =
            let range = mine.this this.0 (ap number_of this.1) in
            let object = object_there h this.0 (unfinished x.class) range.0 range.1 in
            record {
              holder = this.0;
              this = this.1;
              object = object.0;
              there = object.1;
              owning = ap is_owning_field at ∙ parts.0;
              free = tracked_free;
              met = λ n y there gone. not_true (is_unmet y) (displaced_met this.0 n y this.1 object.0 object.1 there gone);
            }

    stores_well : StoresWell p h fr f d
    stores_well = by_field (field_at p f) refl form

    -- ---- where the holder is finished

    module _ (w : ℕ) (self : Object) (this' : fr.locals.this ≡ values.Object w) (at : object_at h w ≡ Some self) where
      under : (m : Method) → method_at p fr.method ≡ Some m → is_under p self.class m.class ≡ true
      under m there = sight.stands w self m this' at there

      unlinked : reopens (method_at p fr.method) ≡ true → (self.link ≡ None) × MakesNoAlias p self.class
      unlinked opens = unlinked_this p ac forms h linked fr st w self at under opens

      -- what the frame stores, and has an obligation, it owns, or the field does
      owns : reopens (method_at p fr.method) ≡ true → (n : ℕ) (y : Object) → object_at h n ≡ Some y → IsMovedIn p h f v n y → is_heavy_class p y.class ≡ true → (y.owner ≡ owners.Frame (length frs + 1)) ⊎ (y.owner ≡ owners.Field w f)
      owns opens n y there moved heavy =
          by (covered (places.Temp d) n y (subst (IsSmallAction p) is (small_step p ac fr st i s here)).0 refl moved.root there heavy (inl (not_the_librarys_owes y (may_library p (type_of_field' (field_at p f)) y moved.may))))
        where
          other : constructs (method_at p fr.method) ≡ false
          other = not-true (constructs (method_at p fr.method)) (and_parts (not (constructs (method_at p fr.method))) (is_position (reset_in (method_at p fr.method)) 0) opens).0

          plain : is_alias_constructor p st.number ≡ false
          plain = ap (λ (b : Bool). b && is_present (alias_position p st.number)) (ap constructs (body_method p ac forms fr st) ∙ other)

          its : IsItsField p ac forms h links fields fr mine st old frs targets covered unmade i s here f d is plainly w this' self at under unlinked
          its = its_field p ac forms h links fields fr mine st old frs targets covered unmade i s here f d is plainly w this' self at under unlinked

          wide : is_heavy_in p (Some f) ≡ true
          wide = heavy_field_by p f its.field its.known y.class heavy
              (ap (λ (t : VType). set.is_subset (must_of p y.class) (must_of_type p t)) (sym (ap type_of_field' its.known)) ∙ may_lies p (type_of_field' (field_at p f)) y moved.may)

          taken : (c : Covers p h false false old frs fr n y) → has c.fact.places (places.Temp d) ≡ true → (is_owning_fact p c.origin c.fact ≡ true) ⊎ (y.owner ≡ owners.Field w f)
          taken c in' = temp_is_taken p ac forms h old frs fr st covered i d s f here is plainly n y w this' c in' wide plain

          by : IsKeyed p h false false old frs fr (places.Temp d) n y → (y.owner ≡ owners.Frame (length frs + 1)) ⊎ (y.owner ≡ owners.Field w f)
          by (is_owned_key c in' key) = elim (taken c in') [ inl own ↦ inl (key.owner refl (and_parts (is_heavy_class p c.origin.class) (is_own c.fact.mode) own).1) | inr held ↦ inr held ]
          by (unowned u) = elim (taken u.covers u.here) [
            | inl own ↦ (let parts = and_parts (is_heavy_class p u.covers.origin.class) (is_own u.covers.fact.mode) own in
                absurd (true≢false (sym (own_claims p (method_at p fr.method) u.covers.origin u.covers.fact (own_mode u.covers.fact.mode parts.1) parts.0) ∙ u.unowned)))
            | inr held ↦ inr held
          ]

      by_finish : IsReopened p h frs fr w self → (b : Bool) → self.finished ≡ b → (self.finished ≡ false) ⊎ IsLentHolder p h fr frs d f w self
      by_finish opened false open' = inl open'
      by_finish opened true done = inr (record { finished = done; single = opened.single; heavy = opened.heavy.1; lent = opened.lent; mine = owns opened.opens })

      lent_here : (self.finished ≡ false) ⊎ IsLentHolder p h fr frs d f w self
      lent_here = elim (storing_this p ac forms h links fields fr mine st old frs targets covered unmade i s here f d is plainly w this' self at under unlinked) [
        | inl new ↦ inl new.0
        | inr opened ↦ by_finish opened self.finished refl
      ]

  pub stores_into_lent : StoresIntoLent p h fr frs
  stores_into_lent i s f d here is w self this' at = lent_here i s here f d is w self this' at

  throws_well : (i : ℕ) (s : Step) (q : Completion) (c : ClassId) (n w : ℕ) (x : Object) → slice_get (frame_steps p fr) i ≡ Some s → s.action ≡ actions.End q
      → exception_class p h (thrown_in fr.locals q) ≡ Some c → constructs (method_at p fr.method) ≡ true → number_of fr.locals.this ≡ Some w
      → object_at h n ≡ Some x → is_unmet x ≡ true → is_held_by x.owner w ≡ true → ⊥
  throws_well i s q c n w x here is thrown new number at unmet held =
      let owner = field_of_owner x.owner w held in
      let this = object_of_number fr.locals.this w number in
      let k = content_of n x w owner.0 at unmet owner.1 in
      let value = object_with_root h (field_value p h w owner.0) n k.held in
      let class = class_of_maker p ac forms h fr frs st rest called new w value.0 k.holder owner.0 k.field this k.at k.declared k.owning k.class value.1 filled in
      let place : has_field_place p st.number owner.0 ≡ true =
      ap (is_field_in p st.number) k.declared ∙ ap (λ (b : Bool). b && is_class_of k.field.class (method_of p st.number)) k.owning ∙ ap (is_class_of k.field.class) (body_method p ac forms fr st) ∙ class in
      elim (alias_form (method_at p fr.method)) [
        | inl none ↦ true≢false (sym unmet ∙ contents_are_met_at_throw p ac h frs fr st old covered i s q owner.0 w n x here is (body_alias ∙ none) (throws_by p h fr.locals q c thrown) new place
            (heavy_content n x w owner.0 at unmet owner.1 this))
        | inr alias ↦ owns_nothing alias.0 w n x owner.0 new alias.1 this (owner.0, k.field, k.declared, k.owning, class) k.holder k.at k
      ]

  pub supported : Supports p h fr
  supported = record {
    bounded = λ o x w f at unmet owner. (content_of o x w f at unmet owner).own;
    stores = λ i s f d here is. stores_well i s here f d is;
    throws = throws_well;
  }
