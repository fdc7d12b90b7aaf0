-- The store into an owning field of `this`.
use Rattle.covering_laws.proofs.OlderHolders.{field_of_owner}
use Rattle.std.specs.Prelude.{is_some, not, ◌&&◌, ◌||◌}
use Rattle.std.proofs.lemmas.Bool.{and_from, and_parts, not-true, or_right}
use Rattle.std.specs.FinSet as set
use Rattle.std.proofs.Common.{◌≡◌, ◌⊎◌, ℕ, zero, suc, Bool, true, false, true≢false, Option, Some, None, List, ◌∷◌, slice_get, nat_eq, refl, sym, ap, ◌∙◌, subst, inl, inr, IsSomeAnd, eqb-true, eq-eqb}
use Rattle.program_model.specs.NameSets.{Names}
use Rattle.program_model.specs.declared.kinds.ClassId.{ClassId}
use Rattle.program_model.specs.declared.kinds.FieldId.{FieldId}
use Rattle.program_model.specs.declared.kinds.VType.{VType}
use Rattle.program_model.specs.declared.program.Field.{Field}
use Rattle.program_model.specs.declared.program.Method.{Method}
use Rattle.program_model.specs.declared.program.Program.{Program}
use Rattle.program_model.specs.Lookups.{class_at, field_at, method_at}
use Rattle.program_model.specs.Overrides.{is_library, is_library_in}
use Rattle.program_model.specs.SuperTests.{is_class}
use Rattle.program_model.specs.Validity.{MayHaveBody}
use Rattle.program_model.specs.declared.program.Class.{Class}
use Rattle.ledger_steps.specs.LedgerCallsCalls.{alias_position as alias_of, body_of, object_by}
use Rattle.must_call_sets.specs.Bodies.{alias_in, alias_position, constructs, has_field_place, is_alias_constructor, is_class_of, is_constructor, is_constructor_kind, is_field_in, method_in, method_of, reset_in}
use Rattle.must_call_sets.specs.Signatures.{is_position, is_present}
use Rattle.must_call_sets.specs.MustCallSets.{is_heavy_class, must_of, must_of_type}
use Rattle.java_control.specs.Control.{Step}
use Rattle.java_control.specs.Owned.{is_owning, is_owning_field}
use Rattle.control_actions.specs.declared.action.Action.TheVariants as actions
use Rattle.covering_laws.specs.Accept.{Accept}
use Rattle.covering_laws.specs.Paths.{move_of}
use Rattle.ledger_state.specs.Contents.{HeapContents}
use Rattle.ledger_state.specs.Fields.{field_of, field_value}
use Rattle.ledger_state.specs.Heaps.{object_at, put_field, root, root_of, same_root}
use Rattle.ledger_state.specs.Locals.{temp_value, variable_value}
use Rattle.ledger_state.specs.Values.{number_of}
use Rattle.ledger_state.specs.declared.entry.Owner.TheVariants as owners
use Rattle.ledger_state.specs.declared.locals.Locals.{Locals}
use Rattle.ledger_state.specs.declared.object.Link.{Link}
use Rattle.ledger_state.specs.declared.object.Object.{Object}
use Rattle.ledger_state.specs.declared.value.Value.{Value}
use Rattle.ledger_state.specs.declared.value.Value.TheVariants as values
use Rattle.ledger_obligations.specs.Obligations.{finished_in, given_up, is_held_by, is_library_owner, is_unmet, is_unmet_in, is_unmet_root, may_move, may_move_in, may_move_root, moved_in, moves_in, resets_holder, stored_owning, type_of_field, with_owner}
use Rattle.covering_laws.specs.Configuration.{Frame}
use Rattle.ledger_steps.specs.InnerSteps.{is_bound, parameter, root_of_number}
use Rattle.covering_laws.specs.Choosing.{frame_steps}
use Rattle.covering_laws.specs.Agreement.{Stands}
use Rattle.covering_laws.specs.PlainForms.{HasPlainForms}
use Rattle.rlc_base.proofs.SetLaws.{member_of-empty, within_self}
use Rattle.covering_laws.specs.Heaps.{Evolves, GoesOn, HasEarlierLinks}
use Rattle.covering_laws.proofs.HeapLaws.{roots_go_on-root, roots_of_links-absent, roots_of_links-itself}
use Rattle.covering_laws.specs.Stores.{IsMovedIn, IsStored}
use Rattle.covering_laws.proofs.Fields.{holds_here, holds_other}
use Rattle.covering_laws.proofs.StoredObjects.{displaced_back, moved_back, moved_gives, moved_links, stored_goes_on}
use Rattle.covering_laws.proofs.StoreResets.{moves_on}
use Rattle.covering_laws.proofs.StoringThis.{IsReopened}
use Rattle.covering_laws.specs.Holders.{HoldersAreUnlinked}
use Rattle.covering_laws.proofs.Ready.{step_there}
use Rattle.covering_laws.proofs.Unmet.{may_lies}
use Rattle.covering_laws.specs.FieldContents.{FieldsHold, FieldsOwn, HaveContents, IsContent, IsKept, LinksLead, OwningFieldsOwn, has_obligation, is_made_in, makes_holder, promised_on}
use Rattle.covering_laws.specs.PlaceFacts.{IsCovered, MayStore, OwesOrHolds, gives_none, may_owe, renews_none}
use Rattle.covering_laws.specs.Renewing.{IsLentFrom}
use Rattle.covering_laws.specs.Renewable.{IsFollowed}
use Rattle.covering_laws.specs.Sight.{ActsInSight}
use Rattle.covering_laws.proofs.KeptArguments.{argument_alone, this_alone}
use Rattle.covering_laws.proofs.StoreMoves.{unlinked_root}
use Rattle.content_laws.proofs.Ends.{heavy_field_by}
use Rattle.content_laws.proofs.Goes.{content_goes_on, led_there, not_the_librarys_owes, obligation_is_heavy, root_stays, roots_by_links}
use Rattle.content_laws.proofs.Leading.{HoldsOn}
use Rattle.content_laws.proofs.Renewals.{Renews, StaysAside, content_then, field_before, leads_renewed, owning_renewed, same_unmet, value_roots}
use Rattle.content_laws.proofs.StoreRenews.{anew, holder_anew, store_renews, whole_links}
use Rattle.content_laws.proofs.LinkSteps.{leads_stay}
use Rattle.content_laws.proofs.Leaves.{given_no_field}
use Rattle.content_laws.specs.Going.{IsDone, KeepsRoots, NoName, PromisesItsOwn}

-- the names that were called stay
same_called : (p : Program) (h : HeapContents) (w : ℕ) (f : FieldId) (v : Value) (n : ℕ) (x y : Object) → IsStored p h w f v n x y → y.called ≡ x.called
same_called p h w f v n x y is = elim is [
  | inl same ↦ ap (λ (u : Object). u.called) same
  | inr more ↦ elim more [
    | inl gone ↦ ap (λ (u : Object). u.called) gone.1
    | inr taken ↦ ap (λ (u : Object). u.called) taken.1
  ]
]

-- two fields of objects are one, or they are not
one_field : (w u : ℕ) (f g : FieldId) → ((u ≡ w) × (g ≡ f)) ⊎ ((u ≡ w) × (g ≡ f) → ⊥)
one_field w u f g = go (nat_eq u w) refl (nat_eq g.0 f.0) refl
  where
    go : (a : Bool) → nat_eq u w ≡ a → (b : Bool) → nat_eq g.0 f.0 ≡ b → ((u ≡ w) × (g ≡ f)) ⊎ ((u ≡ w) × (g ≡ f) → ⊥)
    go true one true two = inl (eqb-true u w one, ap (λ (n : ℕ). (let z : FieldId = record { 0 = n } in z)) (eqb-true g.0 f.0 two))
    go true one false two = inr (λ same. true≢false (sym (eq-eqb g.0 f.0 (ap (λ (z : FieldId). z.0) same.1)) ∙ two))
    go false one b two = inr (λ same. true≢false (sym (eq-eqb u w same.0) ∙ one))

owner_parts : (w u : ℕ) (f g : FieldId) → owners.Field w f ≡ owners.Field u g → (w ≡ u) × (f ≡ g)
owner_parts w u f g same = ((let one : w ≡ u = cc in one), (let one : f ≡ g = cc in one))

root_is : (r : Option ℕ) (o : ℕ) → (r ≡ Some o) ⊎ (r ≡ Some o → ⊥)
root_is None o = inr (λ (is : None ≡ Some o). cc)
root_is (Some k) o = go (nat_eq k o) refl
  where
    go : (b : Bool) → nat_eq k o ≡ b → (Some k ≡ Some o) ⊎ (Some k ≡ Some o → ⊥)
    go true same = inl (ap Some (eqb-true k o same))
    go false other = inr (λ (is : Some k ≡ Some o). true≢false (sym (eq-eqb k o (let one : k ≡ o = cc in one)) ∙ other))

-- a method that runs is none of the library's (it has a body)
pub body_is_of_program : (p : Program) (ac : Accept p) (fr : Frame) (st : Stands p fr) (c : ClassId) → is_class_of c (method_at p fr.method) ≡ true → is_library p c ≡ false
body_is_of_program p ac fr st c in' = go (method_at p fr.method) refl in' st.id
  where
    by_class : (m : Method) → is_class c m.class ≡ true → IsSomeAnd (class_at p m.class) (λ k. k.library ≡ false) → is_library p c ≡ false
    by_class m same some = ap (λ (n : ℕ). is_library p (record { 0 = n })) (eqb-true c.0 m.class.0 same) ∙ by (class_at p m.class) some
      where
        by : (x : Option Class) → IsSomeAnd x (λ k. k.library ≡ false) → is_library_in x ≡ false
        by None absent = absurd absent
        by (Some k) is = is

    go : (x : Option Method) → method_at p fr.method ≡ x → is_class_of c x ≡ true → body_of x ≡ Some st.number → is_library p c ≡ false
    go None at absent id = absurd (true≢false (sym absent))
    go (Some m) at same id = by_class m same (subst (MayHaveBody p m) id (ac.well_formed.valid.typed.methods fr.method m at).bodiless).2

-- a method has an aliased argument or none
abbrev pub IsAliasForm : Option Method → Type 0
IsAliasForm m = (alias_in m ≡ None) ⊎ ((k : ℕ) × (alias_in m ≡ Some k))

pub alias_form : (m : Option Method) → IsAliasForm m
alias_form m = by (alias_in m) refl
  where
    by : (a : Option ℕ) → alias_in m ≡ a → IsAliasForm m
    by None none = inl none
    by (Some k) some = inr (k, some)

-- ---- the aliased argument of a constructor is bound

number_root : (h : HeapContents) (v : Value) → root_of_number h (number_of v) ≡ root_of h v
number_root h values.Nothing = refl
number_root h (values.Object k) = refl
number_root h v = refl

-- what may move is not the library's
pub may_library : (p : Program) (t : VType) (x : Object) → may_move p t x ≡ true → is_library_owner x.owner ≡ false
may_library p t x may =
    not-true (is_library_owner x.owner) (and_parts x.finished (not (is_library_owner x.owner))
    (and_parts (x.finished && not (is_library_owner x.owner)) (set.is_subset (must_of p x.class) (must_of_type p t)) may).0).1

-- and finished
may_finished : (p : Program) (t : VType) (x : Object) → may_move p t x ≡ true → x.finished ≡ true
may_finished p t x may =
    (and_parts x.finished (not (is_library_owner x.owner)) (and_parts (x.finished && not (is_library_owner x.owner)) (set.is_subset (must_of p x.class) (must_of_type p t)) may).0).0

all_true : (a b c : Bool) → a ≡ true → b ≡ true → c ≡ true → (a && b && c) ≡ true
all_true true true true x y z = refl
all_true false b c x y z = absurd (true≢false (sym x))
all_true true false c x y z = absurd (true≢false (sym y))
all_true true true false x y z = absurd (true≢false (sym z))

all_four : (a b c d : Bool) → a ≡ true → b ≡ true → c ≡ true → d ≡ true → (a && b && c && d) ≡ true
all_four a b c d x y z u = and_from (a && b && c) d (all_true a b c x y z) u

bound_when : (h : HeapContents) (m : Option Method) (l : Locals) (u : Value) (v o : ℕ) → constructs m ≡ true → alias_in m ≡ Some (suc v) → root_of h u ≡ Some o → root_of h (variable_value l v) ≡ Some o
    → is_bound h m l u ≡ true
bound_when h None l u v o new alias root argument = absurd (true≢false (sym new))
bound_when h (Some m) l u v o new alias root argument =
    all_true (is_constructor_kind m.kind) (is_some m.sig.alias) (same_root (root_of h u) (root_of_number h (object_by (parameter l) m.sig.alias))) new (ap is_some alias)
    (ap (λ (k : Option ℕ). same_root (root_of h u) (root_of_number h (object_by (parameter l) k))) alias ∙ ap (λ (r : Option ℕ). same_root r (root_of_number h (number_of (variable_value l v)))) root
    ∙ ap (same_root (Some o)) (number_root h (variable_value l v) ∙ argument) ∙ eq-eqb o o refl)

module _ (p : Program) (ac : Accept p) (forms' : HasPlainForms p) (h : HeapContents) (fr : Frame) (frs : List Frame) (st : Stands p fr) (links : HasEarlierLinks h) (old : ℕ → Bool) (covered : IsCovered p h gives_none renews_none old frs fr)
    (hold : FieldsHold p (fr ∷ frs) h) (i : ℕ) (s : Step) (here : slice_get (frame_steps p fr) i ≡ Some s) (f : FieldId) (d : ℕ) (is : s.action ≡ actions.PutOwn f d) (w : ℕ)
    (this : fr.locals.this ≡ values.Object w) (self : Object) (self_at : object_at h w ≡ Some self)
    (bounded : (o : ℕ) (x : Object) → object_at h o ≡ Some x → x.link ≡ None → is_unmet x ≡ true → (t : VType) → may_move p t x ≡ true → set.is_subset x.must (must_of p x.class) ≡ true)
    (owned : FieldsOwn p h) (holders : HoldersAreUnlinked (is_heavy_class p) h) (of_class : (field : Field) → field_at p f ≡ Some field → self.class ≡ field.class)
    (storing : ((self.finished ≡ false) × (constructs (method_at p fr.method) ≡ true)) ⊎ IsReopened p h frs fr w self)
    (below : self.finished ≡ false → IsLentFrom p h frs w self.owner → (field : Field) → field_at p f ≡ Some field → is_made_in p w field.class frs ≡ true)
    (heavy_bounded : is_alias_constructor p st.number ≡ false → (o : ℕ) (x : Object) → object_at h o ≡ Some x → IsMovedIn p h f (temp_value fr.locals d) o x → is_heavy_class p x.class ≡ true → set.is_subset x.must (must_of p x.class) ≡ true) where
  abbrev v : Value
  v = temp_value fr.locals d

  -- the value is the argument of an alias
  abbrev bound : Bool
  bound = is_bound h (method_at p fr.method) fr.locals v

  -- the frame's method creates its obligation anew where it is
  reopened : self.finished ≡ true → IsReopened p h frs fr w self
  reopened done = elim storing [
    | inl makes ↦ absurd (true≢false (sym done ∙ makes.0))
    | inr is ↦ is
  ]

  pub reset_ready : self.finished ≡ true → (self.link ≡ None) × (is_heavy_class p self.class ≡ true)
  reset_ready done = let it = reopened done in (it.single, it.heavy.1)

  -- what is linked is finished
  free : self.link ≡ None
  free = go self.finished refl
    where
      no_link : self.finished ≡ false → (l : Option Link) → self.link ≡ l → self.link ≡ None
      no_link open' None none = none
      no_link open' (Some l) some = absurd (true≢false (sym (links w self l self_at some).finished ∙ open'))

      go : (b : Bool) → self.finished ≡ b → self.link ≡ None
      go true done = (reopened done).single
      go false open' = no_link open' self.link refl

  -- the heap that the store would leave without its reset, and the one that it leaves
  abbrev k : HeapContents
  k = put_field w f v (moved_in p h w f bound v)

  abbrev pub left : HeapContents
  left = stored_owning p h w f bound v

  abbrev pub is_anew : ℕ → Bool
  is_anew n = anew p h w f bound v links holders self self_at reset_ready n

  pub renews : Renews p is_anew k left
  renews = store_renews p h w f bound v links holders self self_at reset_ready

  pub left_links : HasEarlierLinks left
  left_links = whole_links p h w f bound v links holders self self_at reset_ready

  -- the field is one of the class of the body
  place : has_field_place p st.number f ≡ true
  place = (forms'.stores st.number i (move_of s) f d st.control (step_there p fr st i s here) is)

  declared_by : (x : Option Field) → field_at p f ≡ x → is_field_in p st.number x ≡ true → (field : Field) × (field_at p f ≡ Some field) × (field.owning ≡ true) × (is_class_of field.class (method_of p st.number) ≡ true)
  declared_by None at absent = absurd (true≢false (sym absent))
  declared_by (Some field) at has = (field, at, first field.owning _ has, second field.owning _ has)
    where
      first : (a b : Bool) → (a && b) ≡ true → a ≡ true
      first true b one = refl
      first false b one = one

      second : (a b : Bool) → (a && b) ≡ true → b ≡ true
      second true b one = one
      second false b one = absurd (true≢false (sym one))

  declared : (field : Field) × (field_at p f ≡ Some field) × (field.owning ≡ true) × (is_class_of field.class (method_of p st.number) ≡ true)
  declared = declared_by (field_at p f) refl place

  abbrev field : Field
  field = declared.0

  body_method : method_of p st.number ≡ method_at p fr.method
  body_method = ap (method_in p) st.at ∙ ap (method_at p) st.method

  in_class : is_class_of field.class (method_at p fr.method) ≡ true
  in_class = ap (is_class_of field.class) (sym body_method) ∙ declared.3

  -- an object after the store was there
  back : (n : ℕ) (y : Object) → object_at k n ≡ Some y → (x : Object) × (object_at h n ≡ Some x) × IsStored p h w f v n x y
  back n y at = moved_back p h w f v bound n y at

  pub store_forth : Evolves h k
  store_forth n x at = moves_on p h w f bound v n x at

  pub plain_links : HasEarlierLinks k
  plain_links = moved_links p h w f bound v links

  store_roots : KeepsRoots h k
  store_roots = roots_by_links h k links store_forth

  -- the root of a value is the same before, where it is an object
  store_root_before : (u : Value) (o : ℕ) (y : Object) → root_of k u ≡ Some o → object_at k o ≡ Some y → root_of h u ≡ Some o
  store_root_before values.Nothing o y is' at = absurd (let never : None ≡ Some o = is' in cc)
  store_root_before (values.Object n) o y is' at = go (object_at h n) refl (object_at k n) refl
    where
      same : root k n ≡ o
      same = let both : Some (root k n) ≡ Some o = is' in (let one : root k n ≡ o = cc in one)

      go : (x : Option Object) → object_at h n ≡ x → (z : Option Object) → object_at k n ≡ z → root_of h (values.Object n) ≡ Some o
      go (Some x) before z now = ap Some (sym (store_roots n x before) ∙ same)
      go None before (Some z) now = absurd (let x = back n z now in let never : None ≡ Some x.0 = sym before ∙ x.1 in cc)
      go None before None now = absurd (let never : None ≡ Some y = sym now ∙ ap (object_at k) (sym (roots_of_links-absent k n now) ∙ same) ∙ at in cc)
  store_root_before u o y is' at = absurd (let never : None ≡ Some o = is' in cc)

  abbrev Named : ℕ → Type 0
  Named n = (x : Object) → object_at h n ≡ Some x → (y : Object) × (object_at k n ≡ Some y) × GoesOn x y × ((j : ℕ) → set.contains y.called j ≡ true → (set.contains x.called j ≡ true) ⊎ (NoName n j ⊎ IsDone p h k n j))

  named : (n : ℕ) → Named n
  named n x at =
      let y = store_forth n x at in
      let was = back n y.0 y.1 in
      let one : was.0 ≡ x = (let both : Some was.0 ≡ Some x = sym was.1 ∙ at in cc) in
      (y.0, y.1, y.2, λ j has. inl (ap (λ (u : Names). set.contains u j) (sym (same_called p h w f v n was.0 y.0 was.2 ∙ ap (λ (u : Object). u.called) one)) ∙ has))

  value_held : (o : ℕ) (x : Object) → root_of h v ≡ Some o → object_at h o ≡ Some x → root_of k (field_value p k w f) ≡ Some o
  value_held o x root at = ap (root_of k) (holds_here p h w f bound v) ∙ root_stays h k store_roots v o x root at

  self_class : self.class ≡ field.class
  self_class = of_class field declared.1

  form : IsAliasForm (method_at p fr.method)
  form = alias_form (method_at p fr.method)

  alias_is : alias_position p st.number ≡ alias_in (method_at p fr.method)
  alias_is = ap alias_in body_method

  same_alias : (m : Option Method) → alias_of m ≡ alias_in m
  same_alias None = refl
  same_alias (Some m) = refl

  -- the type bounds the obligation of what moves
  own_bound : (o : ℕ) (x : Object) → object_at h o ≡ Some x → is_unmet x ≡ true → IsMovedIn p h f v o x → set.is_subset x.must (must_of p x.class) ≡ true
  own_bound o x at unmet moved = bounded o x at (roots_go_on-root h v o x links moved.root at) unmet (type_of_field (field_at p f)) moved.may

  type_bound : (o : ℕ) (x : Object) → IsMovedIn p h f v o x → set.is_subset (must_of p x.class) (must_of_type p field.vtype) ≡ true
  type_bound o x moved = ap (λ (t : VType). set.is_subset (must_of p x.class) (must_of_type p t)) (sym (ap type_of_field declared.1)) ∙ may_lies p (type_of_field (field_at p f)) x moved.may

  -- a constructor of an alias takes no object with an obligation, but its argument, which is bound
  heavy_is_bound : constructs (method_at p fr.method) ≡ true → self.finished ≡ false → (a : ℕ) → alias_in (method_at p fr.method) ≡ Some a → (o : ℕ) (x : Object) → object_at h o ≡ Some x → is_heavy_class p x.class ≡ true → IsMovedIn p h f v o x → bound ≡ true
  heavy_is_bound constructor unfinished zero alias o x at heavy moved =
      let root : root_of h fr.locals.this ≡ Some o =
      this_alone p ac forms' h old frs fr st covered i d s f o x here is constructor (alias_is ∙ alias)
      (heavy_field_by p f field declared.1 x.class heavy (type_bound o x moved))
      moved.root at heavy (inl (not_the_librarys_owes x (may_library p (type_of_field (field_at p f)) x moved.may))) in
      let same : w ≡ o = (let both : Some w ≡ Some o = sym (ap (root_of h) this ∙ unlinked_root h links w self self_at unfinished) ∙ root in (let one : w ≡ o = cc in one)) in
      let one : self ≡ x = (let both : Some self ≡ Some x = sym self_at ∙ ap (object_at h) same ∙ at in (let it : self ≡ x = cc in it)) in
      absurd (true≢false (sym (may_finished p (type_of_field (field_at p f)) x moved.may) ∙ ap (λ (z : Object). z.finished) (sym one) ∙ unfinished))
  heavy_is_bound constructor unfinished (suc a) alias o x at heavy moved =
      bound_when h (method_at p fr.method) fr.locals v a o constructor alias moved.root
      (argument_alone p ac forms' h old frs fr st covered i d s f o x a here is constructor (alias_is ∙ alias)
      (heavy_field_by p f field declared.1 x.class heavy (type_bound o x moved))
      moved.root at heavy (inl (not_the_librarys_owes x (may_library p (type_of_field (field_at p f)) x moved.may))))

  -- the frame after the store makes what it made
  module _ (own' : PromisesItsOwn p) (after : Frame) (same_makes : (u : ℕ) (c : ClassId) → is_made_in p u c (after ∷ frs) ≡ is_made_in p u c (fr ∷ frs)) where
    old_content : (o : ℕ) (x : Object) (u : ℕ) (g : FieldId) → object_at h o ≡ Some x → object_at k o ≡ Some x → has_obligation p x ≡ true → x.owner ≡ owners.Field u g → IsContent p (after ∷ frs) k o x u g
    old_content o x u g at now has owner =
        content_goes_on p own' h k NoName (fr ∷ frs) (after ∷ frs) o x x u g content at now (record { class = refl; link = refl; finished = refl; must = refl; called = within_self x.called })
        (named u content.holder content.at) held (led_there p h hold.leads (field_value p h u g) o x content.held at (obligation_is_heavy p x has (λ unmet. content.own)) (inl (not_the_librarys_owes x (ap is_library_owner owner)))) (λ m e n fin there class interest must never. absurd never) (λ un' made. same_makes u content.field.class ∙ made)
      where
        content : IsContent p (fr ∷ frs) h o x u g
        content = hold.contents o x u g at has owner

        value_held' : root_of h v ≡ Some o → root_of k (field_value p k w f) ≡ Some o
        value_held' root = value_held o x root at

        -- what the field gives up it owns no more
        not_displaced : (u ≡ w) × (g ≡ f) → (root_of h v ≡ Some o → ⊥) → ⊥
        not_displaced same other =
            let mine : x.owner ≡ owners.Field w f = owner ∙ ap (λ (z : ℕ). owners.Field z g) same.0 ∙ ap (owners.Field w) same.1 in
            let here' : root_of h (field_value p h w f) ≡ Some o = sym (ap (λ (z : ℕ). root_of h (field_value p h z g)) same.0 ∙ ap (λ (z : FieldId). root_of h (field_value p h w z)) same.1) ∙ content.held in
            let gone = moved_gives p h w f v bound o x x at (record { owner = mine; held = here'; other = other }) now in
            given_no_field x w f (ap (λ (z : Object). z.owner) (sym gone) ∙ mine)

        held : root_of k (field_value p k u g) ≡ Some o
        held = elim (one_field w u f g) [
          | inr other ↦ ap (root_of k) (holds_other p h w f bound v u g other) ∙ root_stays h k store_roots (field_value p h u g) o x content.held at
          | inl same ↦ subst (λ (z : ℕ). root_of k (field_value p k z g) ≡ Some o) (sym same.0) (subst (λ (z : FieldId). root_of k (field_value p k w z) ≡ Some o) (sym same.1)
              (value_held' (elim (root_is (root_of h v) o) [
                | inl root ↦ root
                | inr other ↦ absurd (not_displaced same other)
              ])))
        ]

    -- what moves in is content of the field
    module _ (o : ℕ) (x y : Object) (at : object_at h o ≡ Some x) (moved : IsMovedIn p h f v o x) (there : object_at k o ≡ Some (with_owner (owners.Field w f) x)) (now : object_at left o ≡ Some y)
        (stays : StaysAside p (is_anew o) (with_owner (owners.Field w f) x) y) (heavy : is_heavy_class p x.class ≡ true) (not_bound : bound ≡ false) where
      free_value : x.link ≡ None
      free_value = roots_go_on-root h v o x links moved.root at

      -- the holder, without the reset and with it
      holder : (z : Object) × (object_at k w ≡ Some z) × GoesOn self z
      holder = store_forth w self self_at

      holder_called : holder.0.called ≡ self.called
      holder_called =
          let was = back w holder.0 holder.1 in
          let one : was.0 ≡ self = (let both : Some was.0 ≡ Some self = sym was.1 ∙ self_at in cc) in
          same_called p h w f v w was.0 holder.0 was.2 ∙ ap (λ (u : Object). u.called) one

      left_holder : (u : Object) × (object_at left w ≡ Some u) × StaysAside p (is_anew w) holder.0 u
      left_holder = renews.forth w holder.0 holder.1

      is_done : left_holder.0.finished ≡ self.finished
      is_done = left_holder.2.finished ∙ holder.2.finished

      making : self.finished ≡ false → is_made_in p w field.class (fr ∷ frs) ≡ true
      making open' = elim storing [
        | inl makes ↦ elim form [
          | inl none ↦ rw (makes.1, in_class, this, eq-eqb w w refl, same_alias (method_at p fr.method), none) refl
          | inr alias ↦ absurd (true≢false (sym (heavy_is_bound makes.1 open' alias.0 alias.1 o x at heavy moved) ∙ not_bound))
        ]
        | inr opens ↦ or_right (makes_holder p w field.class fr) (is_made_in p w field.class frs) (below open' opens.lent field declared.1)
      ]

      -- so the frame runs no constructor with an aliased argument
      no_alias : is_alias_constructor p st.number ≡ false
      no_alias = go (is_alias_constructor p st.number) refl
        where
          go : (b : Bool) → is_alias_constructor p st.number ≡ b → b ≡ false
          go false none = refl
          go true aliased = elim form [
            | inl none ↦ absurd (true≢false (sym parts.1 ∙ ap (λ (a : Option ℕ). is_present a) (alias_is ∙ none)))
            | inr alias ↦ absurd (by_self self.finished refl alias.0 alias.1)
          ]
            where
              parts : (is_constructor p st.number ≡ true) × (is_present (alias_position p st.number) ≡ true)
              parts = and_parts (is_constructor p st.number) (is_present (alias_position p st.number)) aliased

              makes : constructs (method_at p fr.method) ≡ true
              makes = sym (ap constructs body_method) ∙ parts.0

              by_self : (b' : Bool) → self.finished ≡ b' → (a : ℕ) → alias_in (method_at p fr.method) ≡ Some a → ⊥
              by_self false open' a alias = true≢false (sym (heavy_is_bound makes open' a alias o x at heavy moved) ∙ not_bound)
              by_self true done a alias = true≢false (sym (and_parts (not (constructs (method_at p fr.method))) (is_position (reset_in (method_at p fr.method)) 0) (reopened done).opens).0 ∙ ap not makes)

      own : set.is_subset y.must (must_of p y.class) ≡ true
      own = go (is_anew o) stays
        where
          go : (b : Bool) → StaysAside p b (with_owner (owners.Field w f) x) y → set.is_subset y.must (must_of p y.class) ≡ true
          go true goes = ap (λ (s : Names). set.is_subset s (must_of p y.class)) ((goes.emptied refl).1 (goes.link ∙ free_value)) ∙ within_self (must_of p y.class)
          go false goes = ap (λ (s : Names). set.is_subset s (must_of p y.class)) (goes.same refl).0 ∙ ap (λ (c : ClassId). set.is_subset x.must (must_of p c)) goes.class ∙ heavy_bounded no_alias o x at moved heavy

      not_librarys : is_library_owner x.owner ≡ false
      not_librarys = may_library p (type_of_field (field_at p f)) x moved.may

      -- where the value was in the field of a finished holder, that owned it
      was_content : self.finished ≡ true → root_of h (field_value p h w f) ≡ Some o → IsContent p (fr ∷ frs) h o x w f
      was_content done held' = hold.contents o x w f at (or_right (is_unmet x) (is_heavy_class p x.class) heavy)
          (elim ((owned w self f o x self_at (ap is_owning_field declared.1 ∙ declared.2) (heavy_field_by p f field declared.1 x.class heavy (type_bound o x moved)) held' at heavy).1 done (inl (not_the_librarys_owes x not_librarys))) [
            | inl mine ↦ mine
            | inr alias ↦ absurd (
                let same : w ≡ o = sym (unlinked_root_number) ∙ alias.0 in
                let one : self ≡ x = (let both : Some self ≡ Some x = sym self_at ∙ ap (object_at h) same ∙ at in cc) in
                true≢false (sym (alias.1 free) ∙ ap (λ (u : Object). is_library_owner u.owner) one ∙ not_librarys))
          ])
        where
          unlinked_root_number : root h w ≡ w
          unlinked_root_number = roots_of_links-itself h w self self_at free

      abbrev IsFine : Object → Type 0
      IsFine u = (u.must ≡ must_of p u.class) × IsKept p u f y

      -- on a holder on which nothing was called, all that was called was done
      uncalled : (u : Object) → u.called ≡ set.empty → IsKept p u f y
      uncalled u none m d n at' class interest must has = absurd (true≢false (sym has ∙ ap (λ (s : Names). set.contains s n.0) none ∙ member_of-empty n.0))

      -- where the holder is finished, and what moves in unmet, the holder's obligation is created anew, or the value was in the field
      fine : left_holder.0.finished ≡ true → is_unmet y ≡ true → IsFine left_holder.0
      fine done unmet = go (is_anew w) refl left_holder.2 (is_anew o) refl stays
        where
          self_done : self.finished ≡ true
          self_done = sym is_done ∙ done

          by_content : StaysAside p false holder.0 left_holder.0 → StaysAside p false (with_owner (owners.Field w f) x) y → IsContent p (fr ∷ frs) h o x w f → IsFine left_holder.0
          by_content stay goes content =
              let unmet' : is_unmet x ≡ true = same_unmet p is_anew k left renews (with_owner (owners.Field w f) x) y goes ∙ unmet in
              let one : content.holder ≡ self = (let both : Some content.holder ≡ Some self = sym content.at ∙ self_at in cc) in
              let done' : content.holder.finished ≡ true = ap (λ (u : Object). u.finished) one ∙ self_done in
              let class' : left_holder.0.class ≡ content.holder.class = stay.class ∙ holder.2.class ∙ ap (λ (u : Object). u.class) (sym one) in (
                (stay.same refl).0 ∙ holder.2.must ∙ ap (λ (u : Object). u.must) (sym one) ∙ content.whole done' unmet' ∙ ap (must_of p) (sym class'),
                λ m d n at' class interest must has.
                    ap (set.is_subset (promised_on f d)) (goes.same refl).1
                    ∙ content.kept done' unmet' m d n at' (class ∙ class') interest (ap (λ (c : ClassId). set.contains (must_of p c) n.0) (sym class') ∙ must)
                    (ap (λ (s : Names). set.contains s n.0) (sym ((stay.same refl).1 ∙ holder_called ∙ ap (λ (u : Object). u.called) (sym one))) ∙ has),
              )

          go : (a : Bool) → is_anew w ≡ a → StaysAside p a holder.0 left_holder.0 → (b : Bool) → is_anew o ≡ b → StaysAside p b (with_owner (owners.Field w f) x) y → IsFine left_holder.0
          go true is stay b other goes = ((stay.emptied refl).1 (stay.link ∙ holder.2.link ∙ free), uncalled left_holder.0 (stay.emptied refl).0)
          go false out stay true is goes = elim (renews.up o (with_owner (owners.Field w f) x) w f there is free_value heavy refl) [
            | inl open' ↦ absurd (true≢false (sym (ap finished_in holder.1 ∙ holder.2.finished ∙ self_done) ∙ open'))
            | inr more ↦ elim more [
              | inl up ↦ absurd (true≢false (sym up ∙ out))
              | inr none ↦ (let it = none holder.0 holder.1 in ((stay.same refl).0 ∙ it.1 ∙ ap (must_of p) (sym stay.class), uncalled left_holder.0 ((stay.same refl).1 ∙ it.0)))
            ]
          ]
          go false out stay false still goes = elim (root_is (root_of h (field_value p h w f)) o) [
            | inl held' ↦ by_content stay goes (was_content self_done held')
            | inr other ↦ absurd (true≢false (sym (holder_anew p h w f bound v links holders self self_at reset_ready (resets self_done (same_unmet p is_anew k left renews (with_owner (owners.Field w f) x) y goes ∙ unmet) other)) ∙ out))
          ]
            where
              apart : (r : Option ℕ) → (r ≡ Some o → ⊥) → not (same_root r (Some o)) ≡ true
              apart None none = refl
              apart (Some n) none = by (nat_eq n o) refl
                where
                  by : (b : Bool) → nat_eq n o ≡ b → not b ≡ true
                  by true same = absurd (none (ap Some (eqb-true n o same)))
                  by false out' = refl

              resets : self.finished ≡ true → is_unmet x ≡ true → (root_of h (field_value p h w f) ≡ Some o → ⊥) → resets_holder p h w f bound (field_of p h (values.Object w) f) v ≡ true
              resets done' unmet' other =
                  let moves : moves_in p h f bound v ≡ true = ap (λ (b : Bool). not b && may_move_root p h (type_of_field (field_at p f)) (root_of h v)) not_bound
                  ∙ ap (may_move_root p h (type_of_field (field_at p f))) moved.root ∙ ap (may_move_in p (type_of_field (field_at p f))) at ∙ moved.may in
                  all_four (moves_in p h f bound v) (is_unmet_root h (root_of h v)) (not (same_root (root_of h (field_of p h (values.Object w) f)) (root_of h v))) (finished_in (object_at h w)) moves
                  (ap (is_unmet_root h) moved.root ∙ ap is_unmet_in at ∙ unmet')
                  (ap (λ (r : Option ℕ). not (same_root (root_of h (field_value p h w f)) r)) moved.root ∙ apart (root_of h (field_value p h w f)) other) (ap finished_in self_at ∙ done')

      new_content : IsContent p (after ∷ frs) left o y w f
      new_content = record {
        holder = left_holder.0;
        at = left_holder.1;
        field = field;
        declared = declared.1;
        class = left_holder.2.class ∙ holder.2.class ∙ self_class;
        program = body_is_of_program p ac fr st field.class in_class;
        owning = declared.2;
        held = value_roots k left renews.roots (field_value p left w f) ∙ value_held o x moved.root at;
        bounded = ap (λ (c : ClassId). set.is_subset (must_of p c) (must_of_type p field.vtype)) stays.class ∙ type_bound o x moved;
        own = own;
        whole = λ done unmet. (fine done unmet).0;
        unlinked = left_holder.2.link ∙ holder.2.link ∙ free;
        kept = λ done unmet. (fine done unmet).1;
        made = λ open'. same_makes w field.class ∙ making (sym is_done ∙ open');
      }

    pub stored_contents : HaveContents p (after ∷ frs) left
    stored_contents o y u g at has owner = by_plain (renews.back o y at)
      where
        by_plain : (z : Object) × (object_at k o ≡ Some z) × StaysAside p (is_anew o) z y → IsContent p (after ∷ frs) left o y u g
        by_plain (z, plain_at, stays) = by_store (back o z plain_at)
          where
            owned_so : z.owner ≡ owners.Field u g
            owned_so = field_before p (is_anew o) z y u g stays owner

            by_old : (x : Object) → object_at h o ≡ Some x → z ≡ x → IsContent p (after ∷ frs) left o y u g
            by_old x before same = content_then p is_anew k left renews left_links (after ∷ frs) o y u g (λ z' at' has' owner'. by_object z' at' has' owner' (let both : Some z' ≡ Some z = sym at' ∙ plain_at in (let one : z' ≡ z = cc in one ∙ same))) at has owner
              where
                by_object : (z' : Object) → object_at k o ≡ Some z' → has_obligation p z' ≡ true → z'.owner ≡ owners.Field u g → z' ≡ x → IsContent p (after ∷ frs) k o z' u g
                by_object z' at' has' owner' one = subst (λ (t : Object). IsContent p (after ∷ frs) k o t u g) (sym one)
                    (old_content o x u g before (at' ∙ ap Some one) (ap (has_obligation p) (sym one) ∙ has') (ap (λ (t : Object). t.owner) (sym one) ∙ owner'))

            -- what may have moved has an obligation by its class
            heavy_of : (x : Object) → object_at h o ≡ Some x → IsMovedIn p h f v o x → z ≡ with_owner (owners.Field w f) x → is_heavy_class p x.class ≡ true
            heavy_of x before moved taken = go (is_anew o) refl stays
              where
                zclass : y.class ≡ x.class
                zclass = stays.class ∙ ap (λ (t : Object). t.class) taken

                go : (b : Bool) → is_anew o ≡ b → StaysAside p b z y → is_heavy_class p x.class ≡ true
                go true is goes = ap (is_heavy_class p) (sym zclass) ∙ obligation_is_heavy p y has (λ unmet. (ap (λ (s : Names). set.is_subset s (must_of p y.class))
                    ((goes.emptied refl).1 (goes.link ∙ ap (λ (t : Object). t.link) taken ∙ roots_go_on-root h v o x links moved.root before)) ∙ within_self (must_of p y.class)))
                go false out goes = obligation_is_heavy p x
                    (ap (has_obligation p) (sym taken') ∙ ap (λ (b : Bool). b || is_heavy_class p z.class) (same_unmet p is_anew k left renews z y goes) ∙ ap (λ (c : ClassId). is_unmet y || is_heavy_class p c) (sym goes.class) ∙ has)
                    (λ unmet. own_bound o x before unmet moved)
                  where
                    taken' : z ≡ with_owner (owners.Field w f) x
                    taken' = taken

            by_store : (x : Object) × (object_at h o ≡ Some x) × IsStored p h w f v o x z → IsContent p (after ∷ frs) left o y u g
            by_store (x, before, inl same) = by_old x before same
            by_store (x, before, inr (inl gone)) = absurd (given_no_field x u g (ap (λ (t : Object). t.owner) (sym gone.1) ∙ owned_so))
            by_store (x, before, inr (inr (moved, taken))) = by_bound bound refl
              where
                field_is : owners.Field w f ≡ owners.Field u g
                field_is = ap (λ (t : Object). t.owner) (sym taken) ∙ owned_so

                same_object : w ≡ u
                same_object = (owner_parts w u f g field_is).0

                same_one : f ≡ g
                same_one = (owner_parts w u f g field_is).1

                by_bound : (b : Bool) → bound ≡ b → IsContent p (after ∷ frs) left o y u g
                by_bound true tied = elim (bound_back' tied) [
                  | inl same ↦ by_old x before same
                  | inr gone ↦ absurd (given_no_field x u g (ap (λ (t : Object). t.owner) (sym gone) ∙ owned_so))
                ]
                  where
                    bound_back' : bound ≡ true → (z ≡ x) ⊎ (z ≡ given_up x)
                    bound_back' tied' =
                        let it = displaced_back p h w f v o z (subst (λ (b : Bool). object_at (moved_in p h w f b v) o ≡ Some z) tied' plain_at) in
                        let one : it.0 ≡ x = (let both : Some it.0 ≡ Some x = sym it.1 ∙ before in (let one' : it.0 ≡ x = cc in one')) in
                        elim it.2 [ inl same ↦ inl (same ∙ one) | inr gone ↦ inr (gone.1 ∙ ap given_up one) ]
                by_bound false untied = subst (λ (t : ℕ). IsContent p (after ∷ frs) left o y t g) same_object
                    (subst (λ (t : FieldId). IsContent p (after ∷ frs) left o y w t) same_one
                    (new_content o x y before moved (plain_at ∙ ap Some taken) at (subst (λ (t : Object). StaysAside p (is_anew o) t y) taken stays) (heavy_of x before moved taken) untied))

  -- ---- where links lead

  -- the field of an object that is linked to none has changed, so none of one that is linked
  stored_fields : HoldsOn p h k
  stored_fields n x l g own_field at link declared' owning = holds_other p h w f bound v n g (λ same.
      let one : x ≡ self = (let both : Some x ≡ Some self = sym at ∙ ap (object_at h) same.0 ∙ self_at in (let it : x ≡ self = cc in it)) in
      let never : Some l ≡ None = sym link ∙ ap (λ (z : Object). z.link) one ∙ free in cc)

  -- what may owe a call, or holds something, did so
  store_bore : (o : ℕ) (x y : Object) → object_at h o ≡ Some x → object_at k o ≡ Some y → OwesOrHolds p k o y → OwesOrHolds p h o x
  store_bore o x y before at owes = let z = back o y at in by (subst (λ (u : Object). IsStored p h w f v o u y) (let both : Some z.0 ≡ Some x = sym z.1 ∙ before in (let one : z.0 ≡ x = cc in one)) z.2) owes
    where
      -- the object that the holder is may owe a call, or holds something
      holder_bore : w ≡ o → OwesOrHolds p h o x
      holder_bore same = go self.finished refl
        where
          one : self ≡ x
          one = let both : Some self ≡ Some x = sym self_at ∙ ap (object_at h) same ∙ before in (let it : self ≡ x = cc in it)

          go : (b : Bool) → self.finished ≡ b → OwesOrHolds p h o x
          go true done = inr (inr (subst (λ (u : Object). MayStore p u.class) one (reopened done).stores))
          go false open' = inl (ap (λ (b : Bool). not (b && is_library_owner x.owner)) (ap (λ (u : Object). u.finished) (sym one) ∙ open'))

      by : IsStored p h w f v o x y → OwesOrHolds p k o y → OwesOrHolds p h o x
      by stored (inr (inr may)) = inr (inr (subst (MayStore p) (stored_goes_on p h w f v o x y stored).class may))
      by stored (inr (inl (c, y', now, done, heavy, held))) = by_content (back c y' now)
        where
          own : (g : FieldId) × (y'.owner ≡ owners.Field o g)
          own = field_of_owner y'.owner o held

          by_content : (x' : Object) × (object_at h c ≡ Some x') × IsStored p h w f v c x' y' → OwesOrHolds p h o x
          by_content (x', there, inl same) =
              inr (inl (c, x', there, ap (λ (u : Object). u.finished) (sym same) ∙ done, ap (λ (u : Object). is_heavy_class p u.class) (sym same) ∙ heavy, ap (λ (u : Object). is_held_by u.owner o) (sym same) ∙ held))
          by_content (x', there, inr (inl gone)) = absurd (given_no_field x' o own.0 (ap (λ (u : Object). u.owner) (sym gone.1) ∙ own.1))
          by_content (x', there, inr (inr moved)) = holder_bore (let same : owners.Field w f ≡ owners.Field o own.0 = ap (λ (u : Object). u.owner) (sym moved.1) ∙ own.1 in cc)
      by (inl same) (inl owes') = inl (ap may_owe (sym same) ∙ owes')
      by (inr (inl gone)) (inl owes') = inl (not_the_librarys_owes x (ap is_library_owner gone.0.owner))
      by (inr (inr moved)) (inl owes') = inl (not_the_librarys_owes x (may_library p (type_of_field (field_at p f)) x moved.0.may))

  -- what fields own owning fields own, and what is stored is followed
  plain_owning : ActsInSight p h fr → OwningFieldsOwn p k
  plain_owning sight o y u g at owner = let z = back o y at in by z.0 z.1 z.2
    where
      by : (x : Object) → object_at h o ≡ Some x → IsStored p h w f v o x y → (is_owning p g ≡ true) × IsFollowed p y.class
      by x before (inl same) =
          let was = hold.owning o x u g before (ap (λ (z : Object). z.owner) (sym same) ∙ owner) in
          (was.0, subst (λ (z : Object). IsFollowed p z.class) (sym same) was.1)
      by x before (inr (inl gone)) = absurd (given_no_field x u g (ap (λ (z : Object). z.owner) (sym gone.1) ∙ owner))
      by x before (inr (inr moved)) =
          let same : owners.Field w f ≡ owners.Field u g = ap (λ (z : Object). z.owner) (sym moved.1) ∙ owner in
          let one : f ≡ g = cc in (
            ap (is_owning p) (sym one) ∙ (ap is_owning_field declared.1 ∙ declared.2),
            subst (IsFollowed p) (sym (ap (λ (z : Object). z.class) moved.1)) (sight.stores i s f declared.0 d o x here is declared.1 declared.2 moved.0.root before),
          )

  pub store_owning : ActsInSight p h fr → OwningFieldsOwn p left
  store_owning sight = owning_renewed p is_anew k left renews (plain_owning sight)

  plain_leads : LinksLead p k
  plain_leads = leads_stay p h k store_forth stored_fields links store_bore hold.leads (λ n y at. (let x = back n y at in (x.0, x.1)))

  pub stored_leads : LinksLead p left
  stored_leads = leads_renewed p is_anew k left renews plain_leads
