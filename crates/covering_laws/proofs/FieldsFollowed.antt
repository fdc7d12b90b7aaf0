-- In a method that creates the obligation of `this` not anew, the place of each owning field of a class type is in a fact that says that the field holds its object, at each control to which a path brings the
-- fact of `this`: such a fact is born at the method's entry, and anew behind each call that creates the obligation of `this` anew, and the place leaves it nowhere else.
use Rattle.std.specs.Prelude.{if◌then◌else◌}
use Rattle.std.proofs.Common.{◌≡◌, ◌⊎◌, inl, inr, ℕ, ◌<◌, Bool, true, false, Some, None, List, slice_get, refl, sym, ap, ◌∙◌, subst, true≢false}
use Rattle.std.specs.FinSet as set
use Rattle.program_model.specs.declared.kinds.BodyId.{BodyId}
use Rattle.program_model.specs.declared.kinds.ClassId.{ClassId}
use Rattle.program_model.specs.declared.kinds.FieldId.{FieldId}
use Rattle.program_model.specs.declared.kinds.MethodKind.TheVariants as methods
use Rattle.program_model.specs.declared.kinds.VType.{VType}
use Rattle.program_model.specs.declared.kinds.VType.TheVariants as types
use Rattle.program_model.specs.declared.program.Field.{Field}
use Rattle.program_model.specs.declared.program.Method.{Method}
use Rattle.program_model.specs.declared.program.Program.{Program}
use Rattle.program_model.specs.declared.tree.Body.{Body}
use Rattle.program_model.specs.Lookups.{body_at, field_at, method_at}
use Rattle.java_control.specs.Calls.{is_reset_of_this}
use Rattle.java_control.specs.Owned.{place_of_field}
use Rattle.java_control.specs.PlaceNumbers.{IsSmall, number_of}
use Rattle.java_control.specs.Remaining.{Todo}
use Rattle.control_actions.specs.declared.action.Action.{Action}
use Rattle.control_actions.specs.declared.action.Action.TheVariants as actions
use Rattle.control_actions.specs.declared.action.Completion.{Completion}
use Rattle.control_actions.specs.declared.action.Edge.{Edge}
use Rattle.control_actions.specs.declared.action.Edge.TheVariants as edges
use Rattle.control_actions.specs.declared.fact.Fact.{Fact}
use Rattle.control_actions.specs.declared.fact.Mode.TheVariants as modes
use Rattle.control_actions.specs.declared.fact.Origin.{Origin}
use Rattle.control_actions.specs.declared.fact.OriginKind.{OriginKind}
use Rattle.control_actions.specs.declared.fact.OriginKind.TheVariants as kinds
use Rattle.control_actions.specs.declared.place.Place.{Place}
use Rattle.control_actions.specs.declared.place.Place.TheVariants as places
use Rattle.ledger_obligations.specs.Bodies.{fields_of, has_field_place, is_constructor, resets_this}
use Rattle.control_actions.specs.declared.fact.Outcome.{Outcome}
use Rattle.control_actions.specs.declared.fact.Outcome.TheVariants.{Next, Gone, Fault}
use Rattle.ledger_obligations.specs.MustCallSets.{Names, no_names}
use Rattle.ownership_rules.specs.Births.{born_in, class_of, field_birth, origin_of, owning_field_birth}
use Rattle.ownership_rules.specs.Facts.{PlaceSet, has, is_held, is_origin_at, position_of, without}
use Rattle.ownership_rules.specs.MovesAtReturns.{moved_at_return}
use Rattle.ownership_rules.specs.SmallActions.{IsSmallAction}
use Rattle.value_laws.specs.Accept.{Accept}
use Rattle.value_laws.specs.CalledRows.{called_after}
use Rattle.value_laws.specs.Calls.{with_called}
use Rattle.value_laws.specs.Flow.{flow}
use Rattle.value_laws.specs.PlaceRows.{places_after}
use Rattle.value_laws.specs.FactGoing.{GoesAs, is_in_this}
use Rattle.value_laws.specs.Anew.{GoesAnew, is_target}
use Rattle.value_laws.specs.Outcomes.{After, IsCallRow, IsNotNull, IsPlainRow}
use Rattle.value_laws.specs.Paths.{Comes, Move, Reach, born, entered, flowed, relation_of}
use Rattle.value_laws.specs.PlacePlaces.{HasPlacesAlone, SetsLocals, is_local}
use Rattle.value_laws.specs.PlainForms.{HasPlainForms, IsPlainAction}
use Rattle.value_laws.specs.Typed.{MovesLocals, NamesMembers}
use Rattle.value_laws.proofs.EntryFacts.{kind_is, step_elsewhere}
use Rattle.value_laws.proofs.Flows.{IfNext, end_none}
use Rattle.value_laws.proofs.FactOrigins.{comes}
use Rattle.value_laws.proofs.Going.{held_stays, left_as, other_steps}
use Rattle.value_laws.proofs.KeptFacts.{this_stays}
use Rattle.value_laws.proofs.LastingSteps.{RowOf, call, end, plain, row_of, store}
use Rattle.value_laws.proofs.OtherPlaces.{left_aside, stays_aside}
use Rattle.value_laws.proofs.PlaceLaws.{places_stay_in_range, single_place-alone, single_place-has, single_place-same}
use Rattle.value_laws.proofs.Reached.{typed_step}
use Rattle.value_laws.proofs.Ready.{call_sets, row_sets}
use Rattle.value_laws.proofs.Resetting.{call_goes_so}
use Rattle.value_laws.proofs.StoresOutside.{store_is_plain}
use Rattle.covering_laws.proofs.EntryBirths.{of_field}
use Rattle.covering_laws.proofs.FieldBirths.{field_fact, field_origin, reset_bears}
use Rattle.covering_laws.proofs.Following.{followed}
use Rattle.covering_laws.proofs.InFields.{in_this}
use Rattle.rlc_base.proofs.SetLaws.{new_member}

-- a path brings to the control a fact that says that the field of the place holds its object
pub record HasFieldFact (p : Program) (b : BodyId) (f : FieldId) (c : ClassId) (q : Place) (k : List Todo) : Type 0 where
  pub origin : Origin
  pub kind : origin.kind ≡ kinds.FieldAt f
  pub class : origin.class ≡ c
  pub fact : Fact
  pub reached : Reach p b (relation_of p b) origin k fact
  pub held : fact.mode ≡ modes.Held
  pub here : has fact.places q ≡ true
  -- of `this`, its fields and its parts it has this place alone
  pub only : (z : Place) → IsSmall z → is_local z ≡ false → has fact.places z ≡ true → z ≡ q
  pub alone : HasPlacesAlone fact.places

-- a fact at these places says so
abbrev IsFieldFact : PlaceSet → Fact → Type 0
IsFieldFact held g = (g.mode ≡ modes.Held) × ((n : ℕ) → set.contains g.places n ≡ set.contains held n)

-- ---- steps

module _ (p : Program) (b : BodyId) (o : Origin) (f : Fact) (q : Place) (inside : (held : PlaceSet) → has held q ≡ true → is_in_this held ≡ true) (mode : f.mode ≡ modes.Held) where
  by_going : (held : PlaceSet) (names : Names) → has held q ≡ true → (g : Fact) → GoesAs f held names g → IsFieldFact held g
  by_going held names is g goes = (goes.held mode (inside held is), goes.places)

  after_going : (held : PlaceSet) (names : _) (x : Outcome) → has held q ≡ true → After (GoesAs f held names) x → After (IsFieldFact held) x
  after_going held names (Next g) is goes = by_going held names is g goes
  after_going held names Gone is goes = goes
  after_going held names (Fault rule lacks) is goes = tt

  after_call : (held : PlaceSet) (names : _) (Q : Fact → Type 0) (x : Outcome) → has held q ≡ true → After (λ (g : Fact). GoesAs f held names g × Q g) x → After (IsFieldFact held) x
  after_call held names Q (Next g) is goes = by_going held names is g goes.0
  after_call held names Q Gone is goes = goes
  after_call held names Q (Fault rule lacks) is goes = tt

  -- a test against null
  after_null : (d : ℕ) → has (places_after p b (actions.Test d) edges.Null f.places) q ≡ true → After (IsFieldFact (places_after p b (actions.Test d) edges.Null f.places)) (flow p b o (actions.Test d) edges.Null f)
  after_null d is = go (has f.places (places.Temp d)) refl
    where
      held : PlaceSet
      held = places_after p b (actions.Test d) edges.Null f.places

      go : (c : Bool) → has f.places (places.Temp d) ≡ c → After (IsFieldFact (places_after p b (actions.Test d) edges.Null f.places)) (flow p b o (actions.Test d) edges.Null f)
      go false out = after_going held (called_after p b (actions.Test d) edges.Null f) (flow p b o (actions.Test d) edges.Null f) is (other_steps p b o (actions.Test d) edges.Null f q tt out is)
      go true there = rw (there, ap is_held mode)
          (left_as (IsFieldFact held) o (with_called f _) (without f.places (places.Temp d)) q is (held_stays f.mode held mode (inside held is), λ n. refl))

  other_after : (a : Action) (e : Edge) → IsPlainRow a → IsNotNull f a e → has (places_after p b a e f.places) q ≡ true → After (IsFieldFact (places_after p b a e f.places)) (flow p b o a e f)
  other_after a e row safe is = after_going (places_after p b a e f.places) (called_after p b a e f) (flow p b o a e f) is (other_steps p b o a e f q row safe is)

  plain_after : (a : Action) (e : Edge) → IsPlainRow a → has (places_after p b a e f.places) q ≡ true → After (IsFieldFact (places_after p b a e f.places)) (flow p b o a e f)
  plain_after actions.Skip e row is = other_after actions.Skip e row tt is
  plain_after (actions.Copy x y) e row is = other_after (actions.Copy x y) e row tt is
  plain_after (actions.Move x y) e row is = other_after (actions.Move x y) e row tt is
  plain_after (actions.Plain x v) e row is = other_after (actions.Plain x v) e row tt is
  plain_after (actions.Drop s) e row is = other_after (actions.Drop s) e row tt is
  plain_after (actions.Settle d c) e row is = other_after (actions.Settle d c) e row tt is
  plain_after (actions.Enter clause x d n) e row is = other_after (actions.Enter clause x d n) e row tt is
  plain_after (actions.Test d) edges.Null row is = after_null d is
  plain_after (actions.Test d) edges.Go row is = other_after (actions.Test d) edges.Go row tt is
  plain_after (actions.Test d) edges.NonNull row is = other_after (actions.Test d) edges.NonNull row tt is
  plain_after (actions.Test d) edges.True row is = other_after (actions.Test d) edges.True row tt is
  plain_after (actions.Test d) edges.False row is = other_after (actions.Test d) edges.False row tt is
  plain_after (actions.Test d) (edges.Throws c) row is = other_after (actions.Test d) (edges.Throws c) row tt is
  plain_after (actions.Op k d n) e row is = other_after (actions.Op k d n) e row tt is
  plain_after (actions.Get g d this) e row is = other_after (actions.Get g d this) e row tt is
  plain_after (actions.Put g d this) e row is = other_after (actions.Put g d this) e row tt is
  plain_after (actions.Cast t d) e row is = other_after (actions.Cast t d) e row tt is
  plain_after (actions.Raise d c) e row is = other_after (actions.Raise d c) e row tt is
  plain_after (actions.PutOwn g d) e row is = absurd row
  plain_after (actions.Call m d n form) e row is = absurd row
  plain_after (actions.New m d n) e row is = absurd row
  plain_after (actions.Super m d n) e row is = absurd row
  plain_after (actions.End c) e row is = absurd row

  call_after : (a : Action) (e : Edge) → IsCallRow a → has (places_after p b a e f.places) q ≡ true → After (IsFieldFact (places_after p b a e f.places)) (flow p b o a e f)
  call_after a e row is =
      after_call (places_after p b a e f.places) (called_after p b a e f) (λ (g : Fact). is_target p a f.places ≡ true → GoesAnew p b o a f (places_after p b a e f.places) g) (flow p b o a e f) is (call_goes_so p b o a e f q row is)

-- ---- paths

module _ (p : Program) (ac : Accept p) (forms : HasPlainForms p) (b : BodyId) (x : Body) (m : Method) (at : body_at p b ≡ Some x) (of : method_at p x.method ≡ Some m) (kind : m.kind ≡ methods.Instance)
    (stays : (is_constructor p b ≡ true) ⊎ (resets_this p b ≡ true) → ⊥) (i : ℕ) (f : FieldId) (field : Field) (c : ClassId) (listed : slice_get (fields_of p b) i ≡ Some f) (place : has_field_place p b f ≡ true) (known : field_at p f ≡ Some field)
    (type : field.vtype ≡ types.Obj c) (n : ℕ) (number : place_of_field p f ≡ places.Field n) (small : n < 16) where
  abbrev q : Place
  q = places.Field n

  inside_this : (held : PlaceSet) → has held q ≡ true → is_in_this held ≡ true
  inside_this held is = in_this held n small is

  its_own : has (field_fact p f).places q ≡ true
  its_own = ap (λ (z : Place). has (set.insert set.empty (number_of z)) q) number ∙ new_member no_names (number_of q)

  its_only : (z : Place) → IsSmall z → is_local z ≡ false → has (field_fact p f).places z ≡ true → z ≡ q
  its_only z less other is = sym (single_place-same q z (sym (single_place-has q z small less) ∙ ap (λ (y : Place). has (set.insert set.empty (number_of y)) z) (sym number) ∙ is))

  its_alone : HasPlacesAlone (field_fact p f).places
  its_alone = subst (λ (z : Place). HasPlacesAlone (set.insert set.empty (number_of z))) (sym number) (single_place-alone q small)

  -- a step that ends nothing, and stores nothing into owning fields
  pub field_goes : {k : List Todo} (j : ℕ) (t : Move (List Todo)) → Comes (relation_of p b) k → slice_get ((relation_of p b).next k) j ≡ Some t → ((e : Completion) → t.action ≡ actions.End e → ⊥)
      → ((g : FieldId) (d : ℕ) → t.action ≡ actions.PutOwn g d → ⊥) → HasFieldFact p b f c q k → HasFieldFact p b f c q t.to
  field_goes {k} j t here' there on stores has' = by_reset (is_reset_of_this p t.action) refl
    where
      fits : IsSmallAction p t.action
      fits = (ac.fits b).steps j t here' there

      typed : MovesLocals t.action × NamesMembers p x t.action
      typed = typed_step p ac.well_formed.valid.typed b x k j t at here' there

      plain_form : IsPlainAction p t.action
      plain_form = forms.steps b j t here' there

      kept : SetsLocals t.action → is_reset_of_this p t.action ≡ false → has (places_after p b t.action t.edge has'.fact.places) q ≡ true
      kept sets none =
          stays_aside q small refl p b t.edge has'.fact.places t.action fits sets (λ a' b' is. (subst MovesLocals is typed.0).1) (λ a' v is. subst MovesLocals is typed.0) (λ is. absurd (true≢false (sym is ∙ none))) ∙ has'.here

      later : PlaceSet
      later = places_after p b t.action t.edge has'.fact.places

      further : SetsLocals t.action → is_reset_of_this p t.action ≡ false → After (IsFieldFact later) (flow p b has'.origin t.action t.edge has'.fact) → HasFieldFact p b f c q t.to
      further sets none after =
          let g = followed p ac b has'.origin j t has'.fact (IsFieldFact later) has'.reached there after in
          record {
            origin = has'.origin;
            kind = has'.kind;
            class = has'.class;
            fact = g.0;
            reached = g.1;
            held = g.2.0;
            here = g.2.1 (number_of q) ∙ kept sets none;
            only = λ z less other is'. has'.only z less other
                (left_aside z less other p b t.edge has'.fact.places t.action fits sets (λ a' b' is. (subst MovesLocals is typed.0).1) (λ a' v is. subst MovesLocals is typed.0) (sym (g.2.1 (number_of z)) ∙ is'));
            alone = λ n' is'. places_stay_in_range p b t.action t.edge has'.fact.places fits has'.alone n' (sym (g.2.1 n') ∙ is');
          }

      by_row : is_reset_of_this p t.action ≡ false → RowOf t.action → HasFieldFact p b f c q t.to
      by_row none (plain row) = further (row_sets p t.action plain_form row) none (plain_after p b has'.origin has'.fact q inside_this has'.held t.action t.edge row (kept (row_sets p t.action plain_form row) none))
      by_row none (call row) = further (call_sets t.action row) none (call_after p b has'.origin has'.fact q inside_this has'.held t.action t.edge row (kept (call_sets t.action row) none))
      by_row none (store g d is) = absurd (stores g d is)
      by_row none (end e is) = absurd (on e is)

      by_reset : (r : Bool) → is_reset_of_this p t.action ≡ r → HasFieldFact p b f c q t.to
      by_reset false none = by_row none (row_of t.action)
      by_reset true resets =
          let bears = reset_bears p b t.action t.edge t.pos i f field c resets listed place known type in
          record {
            origin = field_origin p f t.pos c;
            kind = kind_is p (kinds.FieldAt f) t.pos c None;
            class = refl;
            fact = field_fact p f;
            reached = born j bears.0 t here' there bears.1;
            held = refl;
            here = its_own;
            only = its_only;
            alone = its_alone;
          }

  -- at the controls to which a path brings the fact of `this`
  pub field_is_followed : (o : Origin) (k : List Todo) (g : Fact) → Reach p b (relation_of p b) o k g → o.kind ≡ kinds.ThisRef → HasFieldFact p b f c q k
  field_is_followed o _ g (entered j is) this =
      let birth = of_field p b x m at of i f (entry_origin, field_fact p f) kind listed entry_birth in
      record {
        origin = entry_origin;
        kind = kind_is p (kinds.FieldAt f) field.pos c None;
        class = refl;
        fact = field_fact p f;
        reached = entered birth.0 birth.1;
        held = refl;
        here = its_own;
        only = its_only;
        alone = its_alone;
      }
    where
      entry_origin : Origin
      entry_origin = origin_of p (kinds.FieldAt f) field.pos c None

      entry_birth : field_birth p b None f ≡ Some (entry_origin, field_fact p f)
      entry_birth =
          ap (λ (y : Bool). if y then owning_field_birth p f None (field_at p f) else None) place ∙ ap (owning_field_birth p f None) known
          ∙ ap (λ (t : VType). born_in p (kinds.FieldAt f) field.pos (class_of (Some t)) None (field_fact p f)) type
  field_is_followed o _ g (born j l t before there is) this = absurd (let never : Some 0 ≡ None = sym (ap position_of this) ∙ (step_elsewhere p b t.action t.edge t.pos l o g is).1 in cc)
  field_is_followed o _ g (flowed {k} {f = g'} j t before there is) this =
      field_goes j t (comes p ac b x at o k g' before) there (λ e ends. ends_not e ends) (λ h d stores. stores_not h d stores) (field_is_followed o k g' before this)
    where
      -- the fact of `this` has it, so that a store breaks a rule
      stores_not : (h : FieldId) (d : ℕ) → t.action ≡ actions.PutOwn h d → ⊥
      stores_not h d stores =
          stays (elim (store_is_plain p ac b o j t g' h d before there stores (this_stays p ac b x m at of o k g' before (ap (λ (z : OriginKind). is_origin_at z (Some 0)) this))) [ inl made ↦ inl made | inr resets ↦ inr resets.0 ])

      ends_not : (e : Completion) → t.action ≡ actions.End e → ⊥
      ends_not e ends =
          let next : flow p b o (actions.End e) t.edge g' ≡ Next g = subst (λ (a : Action). flow p b o a t.edge g' ≡ Next g) ends is in
          subst (IfNext (λ (y : Fact). ⊥)) next (end_none (λ (y : Fact). ⊥) p b o g' e (moved_at_return p b o (actions.End e) g'))
