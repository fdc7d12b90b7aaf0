-- A `new` ends normally: its object is finished, and holds what its constructor has stored, or is linked.
use Rattle.std.specs.Prelude.{◌||◌, ◌&&◌, not}
use Rattle.std.specs.FinSet as set
use Rattle.std.proofs.Common.{◌≡◌, ◌⊎◌, ℕ, Bool, true, false, true≢false, Option, Some, None, List, [], ◌∷◌, option_map, nat_eq, refl, sym, ap, ◌∙◌, subst, inl, inr, if◌then◌else◌, eqb-true, eq-eqb}
use Rattle.rlc_base.proofs.SetLaws.{member_of-empty}
use Rattle.program_model.specs.declared.kinds.ClassId.{ClassId}
use Rattle.program_model.specs.declared.kinds.FieldId.{FieldId}
use Rattle.program_model.specs.declared.program.Program.{Program}
use Rattle.must_call_sets.specs.MustCallSets.{must_of}
use Rattle.ledger_state.specs.Contents.{HeapContents}
use Rattle.ledger_state.specs.Fields.{field_value}
use Rattle.ledger_state.specs.Heaps.{change_one, object_at, only_at, root_of}
use Rattle.ledger_state.specs.Values.{number_of}
use Rattle.ledger_state.specs.declared.entry.Owner.TheVariants as owners
use Rattle.ledger_state.specs.declared.object.Object.{Object}
use Rattle.ledger_state.specs.declared.value.Value.{Value}
use Rattle.ledger_state.specs.declared.value.Value.TheVariants as values
use Rattle.covering_laws.specs.PlainForms.{run_by}
use Rattle.program_model.specs.SuperTests.{is_under}
use Rattle.ledger_obligations.specs.Obligations.{finished}
use Rattle.ledger_steps.specs.LedgerCallsCalls.{is_alias}
use Rattle.covering_laws.specs.Configuration.{Frame}
use Rattle.covering_laws.specs.Choosing.{is_number}
use Rattle.must_call_sets.specs.Bodies.{constructs, is_class_of}
use Rattle.program_model.specs.Lookups.{method_at}
use Rattle.covering_laws.proofs.ObjectLaws.{changed_at, root_of_value_changed}
use Rattle.covering_laws.specs.FieldContents.{AreDispatched, AreUnfinished, HaveContents, IsContent, RunOnOthers, has_obligation, is_made_in, makes_holder, makes_object}
use Rattle.content_laws.specs.Going.{linked}

-- ---- which frames make an object that holds

second : (a b d : Bool) → ((a && b) && d) ≡ true → b ≡ true
second true true d is = refl
second true false d is = absurd (true≢false (sym is))
second false b d is = absurd (true≢false (sym is))

module _ (p : Program) (w : ℕ) where
  -- the frame runs on the object that it makes
  runs_on : (fr : Frame) (v : ℕ) (c : ClassId) → fr.locals.this ≡ values.Object w → makes_holder p v c fr ≡ true → v ≡ w
  runs_on fr v c this makes = eqb-true v w (ap (λ (u : Value). is_number v (number_of u)) (sym this)
      ∙ second (constructs (method_at p fr.method)) (is_number v (number_of fr.locals.this)) (is_class_of c (method_at p fr.method))
      (whole (makes_object p v c fr) (not (is_alias (method_at p fr.method))) makes))
    where
      whole : (a b : Bool) → (a && b) ≡ true → a ≡ true
      whole true b is = refl
      whole false b is = absurd (true≢false (sym is))

  -- a frame that runs on another object makes none with this number
  pub made_elsewhere : (gs : List Frame) (fr : Frame) (v : ℕ) (c : ClassId) → fr.locals.this ≡ values.Object w → (v ≡ w → ⊥) → is_made_in p v c (fr ∷ gs) ≡ true → is_made_in p v c gs ≡ true
  made_elsewhere gs fr v c this other is = go (makes_holder p v c fr) refl is
    where
      go : (b : Bool) → makes_holder p v c fr ≡ b → (b || is_made_in p v c gs) ≡ true → is_made_in p v c gs ≡ true
      go true makes is' = absurd (other (runs_on fr v c this makes))
      go false makes is' = is'

  -- a constructor of an alias makes no holder
  pub alias_makes_none : (fr : Frame) (v : ℕ) (c : ClassId) → is_alias (method_at p fr.method) ≡ true → makes_holder p v c fr ≡ false
  alias_makes_none fr v c alias = ap (λ (b : Bool). makes_object p v c fr && not b) alias ∙ and_false (makes_object p v c fr)
    where
      and_false : (b : Bool) → (b && false) ≡ false
      and_false true = refl
      and_false false = refl

  -- nor do frames that run on others
  pub made_by_none : (c : ClassId) (gs : List Frame) → RunOnOthers w gs → is_made_in p w c gs ≡ true → ⊥
  made_by_none c [] others is = true≢false (sym is)
  made_by_none c (fr ∷ gs) others is = go (made_by_none c gs others.1) (makes_holder p w c fr) refl is
    where
      this_is : (v : Value) → is_number w (number_of v) ≡ true → v ≡ values.Object w
      this_is values.Nothing one = absurd (true≢false (sym one))
      this_is (values.Object k) one = ap values.Object (sym (eqb-true w k one))
      this_is v one = absurd (true≢false (sym one))

      whole : (a b : Bool) → (a && b) ≡ true → a ≡ true
      whole true b is' = refl
      whole false b is' = absurd (true≢false (sym is'))

      go : (is_made_in p w c gs ≡ true → ⊥) → (b : Bool) → makes_holder p w c fr ≡ b → (b || is_made_in p w c gs) ≡ true → ⊥
      go further true makes is' = others.0 (this_is fr.locals.this (second (constructs (method_at p fr.method)) (is_number w (number_of fr.locals.this)) (is_class_of c (method_at p fr.method))
          (whole (makes_object p w c fr) (not (is_alias (method_at p fr.method))) makes)))
      go further false makes is' = further is'

-- ---- one object changes

module _ (p : Program) (j : HeapContents) (w : ℕ) (change : Object → Object) where
  abbrev k : HeapContents
  k = change_one w change j

  -- an object after it was there before: it is the one that changes, or stays as it is
  pub one_back : (n : ℕ) (y : Object) → object_at k n ≡ Some y → (x : Object) × (object_at j n ≡ Some x) × (((n ≡ w) × (y ≡ change x)) ⊎ ((n ≡ w → ⊥) × (y ≡ x)))
  one_back n y at = go (object_at j n) refl (sym (changed_at (only_at w change) j n) ∙ at)
    where
      go : (x : Option Object) → object_at j n ≡ x → option_map (only_at w change n) x ≡ Some y → (z : Object) × (object_at j n ≡ Some z) × (((n ≡ w) × (y ≡ change z)) ⊎ ((n ≡ w → ⊥) × (y ≡ z)))
      go None there is = absurd (let never : None ≡ Some y = is in cc)
      go (Some x) there is = (x, there, by (nat_eq n w) refl is)
        where
          by : (b : Bool) → nat_eq n w ≡ b → Some (if b then change x else x) ≡ Some y → ((n ≡ w) × (y ≡ change x)) ⊎ ((n ≡ w → ⊥) × (y ≡ x))
          by true same is' = inl (eqb-true n w same, sym (let one : change x ≡ y = cc in one))
          by false other is' = inr ((λ same. true≢false (sym (eq-eqb n w same) ∙ other)), sym (let one : x ≡ y = cc in one))

  pub one_here : (x : Object) → object_at j w ≡ Some x → object_at k w ≡ Some (change x)
  one_here x at = changed_at (only_at w change) j w ∙ ap (option_map (only_at w change w)) at ∙ ap (λ (b : Bool). Some (if b then change x else x)) (eq-eqb w w refl)

  pub one_other : (n : ℕ) (x : Object) → (n ≡ w → ⊥) → object_at j n ≡ Some x → object_at k n ≡ Some x
  one_other n x other at = changed_at (only_at w change) j n ∙ ap (option_map (only_at w change n)) at ∙ ap (λ (b : Bool). Some (if b then change x else x)) (no (nat_eq n w) refl)
    where
      no : (b : Bool) → nat_eq n w ≡ b → nat_eq n w ≡ false
      no true same = absurd (other (eqb-true n w same))
      no false is = is

  -- ---- contents: the object is owned by no field then, and what holds it holds

  module _ (gs hs : List Frame) (have : HaveContents p hs j) (owned : (x : Object) (v : ℕ) (f : FieldId) → object_at j w ≡ Some x → (change x).owner ≡ owners.Field v f → ⊥)
      (held : (o : ℕ) (x : Object) (v : ℕ) (f : FieldId) → (o ≡ w → ⊥) → object_at j o ≡ Some x → IsContent p hs j o x v f → IsContent p gs k o x v f) where
    pub changed_contents : HaveContents p gs k
    changed_contents o y v f at has owner = let x = one_back o y at in elim x.2 [
      | inl here ↦ absurd (owned x.0 v f (ap (object_at j) (sym here.0) ∙ x.1) (ap (λ (u : Object). u.owner) (sym here.1) ∙ owner))
      | inr there ↦ subst (λ (u : Object). IsContent p gs k o u v f) (sym there.1)
          (held o x.0 v f there.0 x.1 (have o x.0 v f x.1 (ap (has_obligation p) (sym there.1) ∙ has) (ap (λ (u : Object). u.owner) (sym there.1) ∙ owner)))
    ]

  -- ---- frames

  pub changed_unfinished : (gs : List Frame) → RunOnOthers w gs → AreUnfinished p j gs → AreUnfinished p k gs
  changed_unfinished [] others all = tt
  changed_unfinished (fr ∷ gs) others all = (
    (λ v y declares new this at. (let x = one_back v y at in elim x.2 [
      | inl here ↦ absurd (others.0 (this ∙ ap values.Object here.0))
      | inr there ↦ ap (λ (u : Object). u.finished) there.1 ∙ all.0 v x.0 declares new this x.1
    ])),
    changed_unfinished gs others.1 all.1,
  )

  pub changed_dispatched : ((x : Object) → (change x).class ≡ x.class) → (gs : List Frame) → AreDispatched p j gs → AreDispatched p k gs
  changed_dispatched kept [] all = tt
  changed_dispatched kept (fr ∷ []) all = tt
  changed_dispatched kept (fr ∷ caller ∷ gs) all = (
    (λ s' s named n v y here called at chosen target there. (let x = one_back v y there in
        let class : y.class ≡ x.0.class = elim x.2 [ inl it ↦ ap (λ (u : Object). u.class) it.1 ∙ kept x.0 | inr other ↦ ap (λ (u : Object). u.class) other.1 ] in
        subst (λ (c : ClassId). (fr.method ≡ run_by p named c) × (is_under p c n.class ≡ true) × (fr.locals.this ≡ values.Object v)) (sym class) (all.0 s' s named n v x.0 here called at chosen target x.1))),
    all.1,
    changed_dispatched kept (caller ∷ gs) all.2,
  )

-- ---- the object is no alias

-- the object as its `new` leaves it
abbrev pub made : Program → ℕ → Object → Object
made p i x = finished (must_of p x.class) (owners.Frame i) (record x { called = set.empty })

module _ (p : Program) (j : HeapContents) (i w : ℕ) where
  made_root : (v : Value) → root_of (change_one w (made p i) j) v ≡ root_of j v
  made_root v = root_of_value_changed (only_at w (made p i)) j v (λ m x. same_link x (nat_eq m w))
    where
      same_link : (x : Object) (b : Bool) → (if b then made p i x else x).link ≡ x.link
      same_link x true = refl
      same_link x false = refl

  module _ (fr : Frame) (gs : List Frame) (this : fr.locals.this ≡ values.Object w) (have : HaveContents p (fr ∷ gs) j) where
    still_holds : (o : ℕ) (x : Object) (v : ℕ) (f : FieldId) → (o ≡ w → ⊥) → object_at j o ≡ Some x → IsContent p (fr ∷ gs) j o x v f → IsContent p gs (change_one w (made p i) j) o x v f
    still_holds o x v f apart at content = go (nat_eq v w) refl
      where
        held : root_of (change_one w (made p i) j) (field_value p (change_one w (made p i) j) v f) ≡ Some o
        held = made_root (field_value p (change_one w (made p i) j) v f) ∙ content.held

        go : (b : Bool) → nat_eq v w ≡ b → IsContent p gs (change_one w (made p i) j) o x v f
        go true same = record {
          holder = made p i content.holder;
          at = subst (λ (n : ℕ). object_at (change_one w (made p i) j) n ≡ Some (made p i content.holder)) (sym (eqb-true v w same))
              (one_here p j w (made p i) content.holder (ap (object_at j) (sym (eqb-true v w same)) ∙ content.at));
          field = content.field;
          declared = content.declared;
          class = content.class;
          program = content.program;
          owning = content.owning;
          held = held;
          bounded = content.bounded;
          own = content.own;
          whole = λ is unmet. refl;
          unlinked = content.unlinked;
          kept = λ is unmet m d n at' class interest must called. absurd (true≢false (sym called ∙ member_of-empty n.0));
          made = λ is. absurd (true≢false is);
        }
        go false other = record {
          holder = content.holder;
          at = one_other p j w (made p i) v content.holder not_same content.at;
          field = content.field;
          declared = content.declared;
          class = content.class;
          program = content.program;
          owning = content.owning;
          held = held;
          bounded = content.bounded;
          own = content.own;
          whole = content.whole;
          unlinked = content.unlinked;
          kept = content.kept;
          made = λ is. made_elsewhere p w gs fr v content.field.class this not_same (content.made is);
        }
          where
            not_same : v ≡ w → ⊥
            not_same same = true≢false (sym (eq-eqb v w same) ∙ other)

    pub made_contents : HaveContents p gs (change_one w (made p i) j)
    made_contents = changed_contents p j w (made p i) gs (fr ∷ gs) have (λ x v f at is. (let never : owners.Frame i ≡ owners.Field v f = is in cc)) still_holds

-- ---- the object is an alias

module _ (p : Program) (j : HeapContents) (w : ℕ) (alias : Option ℕ) (fr : Frame) (gs : List Frame) (makes : is_alias (method_at p fr.method) ≡ true) (others : RunOnOthers w gs)
    (unfinished : (x : Object) → object_at j w ≡ Some x → x.finished ≡ false) (free : (x : Object) (v : ℕ) (f : FieldId) → object_at j w ≡ Some x → x.owner ≡ owners.Field v f → ⊥)
    (roots : (v : Value) (o : ℕ) (x : Object) → (o ≡ w → ⊥) → root_of j v ≡ Some o → object_at j o ≡ Some x → root_of (change_one w (linked p alias) j) v ≡ Some o) (have : HaveContents p (fr ∷ gs) j) where
  none_made : (v : ℕ) (c : ClassId) → is_made_in p v c (fr ∷ gs) ≡ true → is_made_in p v c gs ≡ true
  none_made v c is = sym (ap (λ (b : Bool). b || is_made_in p v c gs) (alias_makes_none p w fr v c makes)) ∙ is

  -- it owns nothing that has an obligation, since its constructor is one of an alias
  holds_on : (o : ℕ) (x : Object) (v : ℕ) (f : FieldId) → (o ≡ w → ⊥) → object_at j o ≡ Some x → IsContent p (fr ∷ gs) j o x v f → IsContent p gs (change_one w (linked p alias) j) o x v f
  holds_on o x v f apart at content = record {
    holder = content.holder;
    at = one_other p j w (linked p alias) v content.holder not_same content.at;
    field = content.field;
    declared = content.declared;
    class = content.class;
    program = content.program;
    owning = content.owning;
    held = roots (field_value p j v f) o x apart content.held at;
    bounded = content.bounded;
    own = content.own;
    whole = content.whole;
    unlinked = content.unlinked;
    kept = content.kept;
    made = λ is. none_made v content.field.class (content.made is);
  }
    where
      not_same : v ≡ w → ⊥
      not_same same =
          made_by_none p w content.field.class gs others
          (subst (λ (u : ℕ). is_made_in p u content.field.class gs ≡ true) same (none_made v content.field.class (content.made (unfinished content.holder (ap (object_at j) (sym same) ∙ content.at)))))

  owned_by_none : (a : Option ℕ) (x : Object) (v : ℕ) (f : FieldId) → object_at j w ≡ Some x → (linked p a x).owner ≡ owners.Field v f → ⊥
  owned_by_none None x v f at is = let never : owners.Library ≡ owners.Field v f = is in cc
  owned_by_none (Some a) x v f at is = free x v f at is

  pub linked_contents : HaveContents p gs (change_one w (linked p alias) j)
  linked_contents = changed_contents p j w (linked p alias) gs (fr ∷ gs) have (owned_by_none alias) holds_on
