-- What an operation on the heap leaves of objects that fields own, and of those that have fields: where it moves, gives up and makes
-- objects, and changes nothing else.
use Rattle.std.specs.Prelude.{not, ◌&&◌}
use Rattle.std.proofs.Common.{◌≡◌, ◌⊎◌, inl, inr, ℕ, ◌+◌, Bool, true, false, true≢false, Option, Some, None, List, [], ◌∷◌, option_map, nat_eq, refl, sym, ap, ◌∙◌, subst, if◌then◌else◌, eqb-true, eq-eqb, arith}
use Rattle.std.proofs.lemmas.Bool.Decides.{nat_tests}
use Rattle.std.proofs.lemmas.Bool.{and_parts, not-true}
use Rattle.std.specs.FinSet as set
use Rattle.must_call_sets.specs.MustCallSets.{must_of, must_of_type}
use Rattle.program_model.specs.declared.kinds.ClassId.{ClassId}
use Rattle.program_model.specs.declared.kinds.FieldId.{FieldId}
use Rattle.program_model.specs.declared.kinds.VType.{VType}
use Rattle.program_model.specs.declared.program.Method.{Method}
use Rattle.program_model.specs.declared.program.ParamSig.{ParamSig}
use Rattle.program_model.specs.declared.program.Program.{Program}
use Rattle.must_call_sets.specs.Bodies.{constructs}
use Rattle.control_actions.specs.declared.action.Action.{Action}
use Rattle.control_actions.specs.declared.action.Action.TheVariants as actions
use Rattle.stub_conduct.specs.declared.choice.Conduct.{Conduct}
use Rattle.stub_conduct.specs.declared.choice.Conduct.TheVariants as conducts
use Rattle.ledger_state.specs.Contents.{HeapContents}
use Rattle.ledger_state.specs.Heaps.{append, change_each, change_some, next_number, object_at, only_at, root_of, unfinished}
use Rattle.ledger_state.specs.Values.{number_of}
use Rattle.ledger_state.specs.declared.entry.Owner.{Owner}
use Rattle.ledger_state.specs.declared.entry.Owner.TheVariants as owners
use Rattle.ledger_state.specs.declared.locals.Locals.{Locals}
use Rattle.ledger_state.specs.declared.object.Link.{Link}
use Rattle.ledger_state.specs.declared.object.Object.{Object}
use Rattle.ledger_state.specs.declared.value.Value.{Value}
use Rattle.ledger_obligations.specs.Obligations.{end_frame, end_holder, given_up, given_up_by_frame, given_up_by_holder, is_frame, is_held_by, is_library_owner, is_unmet, lose, lost_object, may_move, move, moved_to, owner_holds, with_owner}
use Rattle.ledger_steps.specs.LedgerCallsCalls.{arguments_moved, is_alias, move_param, move_params, operand_of, params_in}
use Rattle.ledger_steps.specs.Conducts.{object_made, owning_in, result_in}
use Rattle.ledger_steps.specs.CallSteps.{began_heap, library_made, object_begun, object_of_new}
use Rattle.ledger_steps.specs.Ends.{constructor_ended, frame_ended, frame_gone, moved_as, moved_normally, result_moved}
use Rattle.covering_laws.specs.Heaps.{HasEarlierLinks, IsEarlierLink}
use Rattle.covering_laws.proofs.HeapLaws.{links_go_on, roots_go_on-root}
use Rattle.covering_laws.proofs.ObjectLaws.{appended_at, changed_at, in_range}

-- all of the object stays but its owner
pub record StaysBut (x y : Object) : Type 0 where
  pub class : y.class ≡ x.class
  pub link : y.link ≡ x.link
  pub finished : y.finished ≡ x.finished
  pub must : y.must ≡ x.must
  pub called : y.called ≡ x.called
  pub library : is_library_owner x.owner ≡ true → is_library_owner y.owner ≡ true

pub stays_self : (x : Object) → StaysBut x x
stays_self x = record { class = refl; link = refl; finished = refl; must = refl; called = refl; library = λ is. is }

stays_further : (x y z : Object) → StaysBut x y → StaysBut y z → StaysBut x z
stays_further x y z a b = record { class = b.class ∙ a.class; link = b.link ∙ a.link; finished = b.finished ∙ a.finished; must = b.must ∙ a.must; called = b.called ∙ a.called; library = λ is. b.library (a.library is) }

-- each object goes on so; what a field owns it owned before; fields hold what they held; and other objects are not linked
pub record Leaves (h k : HeapContents) : Type 0 where
  pub forth : (n : ℕ) (x : Object) → object_at h n ≡ Some x → (y : Object) × (object_at k n ≡ Some y) × StaysBut x y
  pub back : (n : ℕ) (y : Object) (w : ℕ) (f : FieldId) → object_at k n ≡ Some y → y.owner ≡ owners.Field w f
      → (x : Object) × (object_at h n ≡ Some x) × StaysBut x y × (x.owner ≡ owners.Field w f)
  pub fields : k.fields ≡ h.fields
  pub links : HasEarlierLinks h → HasEarlierLinks k
  pub born : (n : ℕ) (y : Object) → object_at k n ≡ Some y → ((x : Object) × (object_at h n ≡ Some x)) ⊎ (y.link ≡ None)

pub leaves_self : (h : HeapContents) → Leaves h h
leaves_self h = record { forth = λ n x at. (x, at, stays_self x); back = λ n y w f at owner. (y, at, stays_self y, owner); fields = refl; links = λ links. links; born = λ n y at. inl (y, at) }

pub leaves_further : (h k j : HeapContents) → Leaves h k → Leaves k j → Leaves h j
leaves_further h k j a b = record {
  forth = λ n x at. (let y = a.forth n x at in let z = b.forth n y.0 y.1 in (z.0, z.1, stays_further x y.0 z.0 y.2 z.2));
  back = λ n z w f at owner. (let y = b.back n z w f at owner in let x = a.back n y.0 w f y.1 y.3 in (x.0, x.1, stays_further x.0 y.0 z x.2 y.2, x.3));
  fields = b.fields ∙ a.fields;
  links = λ links. b.links (a.links links);
  born = λ n z at. elim (b.born n z at) [
    | inr none ↦ inr none
    | inl y ↦ elim (a.born n y.0 y.1) [
      | inl x ↦ inl x
      | inr none ↦ (let next = b.forth n y.0 y.1 in
          let same : next.0 ≡ z = (let both : Some next.0 ≡ Some z = sym next.1 ∙ at in cc) in
          inr (ap (λ (u : Object). u.link) (sym same) ∙ next.2.link ∙ none))
    ]
  ];
}

-- ---- changes of owners

-- the change gives no object to a field
pub record ChangesOwners (change : ℕ → Object → Object) : Type 0 where
  pub stays : (n : ℕ) (x : Object) → StaysBut x (change n x)
  pub field : (n : ℕ) (x : Object) (w : ℕ) (f : FieldId) → (change n x).owner ≡ owners.Field w f → x.owner ≡ owners.Field w f

pub changed_back : (change : ℕ → Object → Object) (n : ℕ) (x : Option Object) (y : Object) → option_map (change n) x ≡ Some y → (z : Object) × (x ≡ Some z) × (change n z ≡ y)
changed_back change n None y is = absurd (let never : None ≡ Some y = is in cc)
changed_back change n (Some z) y is = (z, refl, (let same : Some (change n z) ≡ Some y = is in cc))

-- the owner of an object that is linked stays
abbrev pub KeepsLinked : (ℕ → Object → Object) → HeapContents → Type 0
KeepsLinked change h = HasEarlierLinks h → (n : ℕ) (x : Object) (l : Link) → object_at h n ≡ Some x → x.link ≡ Some l → (change n x).owner ≡ x.owner

-- it does where what nobody owns stays so
unowned_stays : (change : ℕ → Object → Object) (h : HeapContents) → ((n : ℕ) (x : Object) → x.owner ≡ owners.Unowned → (change n x).owner ≡ x.owner) → KeepsLinked change h
unowned_stays change h stays links n x l at link = stays n x (links n x l at link).owner

pub each_leaves : (change : ℕ → Object → Object) (h : HeapContents) → ChangesOwners change → KeepsLinked change h → Leaves h (change_each change h)
each_leaves change h only keeps = record {
  forth = λ n x at. (change n x, changed_at change h n ∙ ap (option_map (change n)) at, only.stays n x);
  back = λ n y w f at owner.
      (let z = changed_back change n (object_at h n) y (sym (changed_at change h n) ∙ at) in
      (z.0, z.1, subst (StaysBut z.0) z.2 (only.stays n z.0), only.field n z.0 w f (ap (λ (u : Object). u.owner) z.2 ∙ owner)));
  fields = refl;
  links = λ links. links_go_on h (change_each change h) links (λ n y l at link.
      (let z = changed_back change n (object_at h n) y (sym (changed_at change h n) ∙ at) in
      let old : z.0.link ≡ Some l = sym (only.stays n z.0).link ∙ ap (λ (u : Object). u.link) z.2 ∙ link in
      (z.0, z.1, old, ap (λ (u : Object). u.owner) (sym z.2) ∙ keeps links n z.0 l z.1 old, ap (λ (u : Object). u.finished) (sym z.2) ∙ (only.stays n z.0).finished)));
  born = λ n y at. (let z = changed_back change n (object_at h n) y (sym (changed_at change h n) ∙ at) in inl (z.0, z.1));
}

-- the owner is no field
pub record IsNoField (o : Owner) : Type 0 where
  pub never : (w : ℕ) (f : FieldId) → o ≡ owners.Field w f → ⊥

owned_stays : (o : Owner) (x : Object) → is_library_owner x.owner ≡ false → StaysBut x (with_owner o x)
owned_stays o x other = record { class = refl; link = refl; finished = refl; must = refl; called = refl; library = λ is. absurd (true≢false (sym is ∙ other)) }

pub one_changes : (k : ℕ) (change : Object → Object) → ChangesOwners (λ n x. change x) → ChangesOwners (only_at k change)
one_changes k change only = record { stays = λ n x. stays n x (nat_eq n k); field = λ n x w f. field n x w f (nat_eq n k) }
  where
    stays : (n : ℕ) (x : Object) (b : Bool) → StaysBut x (if b then change x else x)
    stays n x true = only.stays n x
    stays n x false = stays_self x

    field : (n : ℕ) (x : Object) (w : ℕ) (f : FieldId) (b : Bool) → (if b then change x else x).owner ≡ owners.Field w f → x.owner ≡ owners.Field w f
    field n x w f true owner = only.field n x w f owner
    field n x w f false owner = owner

-- ---- moves

move_changes : (p : Program) (t : VType) (o : Owner) → IsNoField o → ChangesOwners (λ n x. moved_to p t o x)
move_changes p t o none = record { stays = λ n x. stays x (may_move p t x) refl; field = λ n x w f. field x w f (may_move p t x) }
  where
    stays : (x : Object) (b : Bool) → may_move p t x ≡ b → StaysBut x (if b then with_owner o x else x)
    stays x true may = owned_stays o x (not-true (is_library_owner x.owner) (and_parts x.finished (not (is_library_owner x.owner)) (and_parts (x.finished && not (is_library_owner x.owner)) (set.is_subset (must_of p x.class) (must_of_type p t)) may).0).1)
    stays x false may = stays_self x

    field : (x : Object) (w : ℕ) (f : FieldId) (b : Bool) → (if b then with_owner o x else x).owner ≡ owners.Field w f → x.owner ≡ owners.Field w f
    field x w f true owner = absurd (none.never w f owner)
    field x w f false owner = owner

move_leaves : (p : Program) (t : VType) (o : Owner) (v : Value) (h : HeapContents) → IsNoField o → Leaves h (move p t o v h)
move_leaves p t o v h none = go (root_of h v) refl
  where
    go : (r : Option ℕ) → root_of h v ≡ r → Leaves h (change_some r (moved_to p t o) h)
    go None is = leaves_self h
    go (Some k) is = each_leaves (only_at k (moved_to p t o)) h (one_changes k (moved_to p t o) (move_changes p t o none)) keeps
      where
        -- a root is not linked
        keeps : KeepsLinked (only_at k (moved_to p t o)) h
        keeps links n x l at link = by (nat_eq n k) refl
          where
            by : (b : Bool) → nat_eq n k ≡ b → (if b then moved_to p t o x else x).owner ≡ x.owner
            by true same =
                let free : x.link ≡ None = roots_go_on-root h v k x links is (ap (object_at h) (sym (eqb-true n k same)) ∙ at) in
                absurd (let never : None ≡ Some l = sym free ∙ link in cc)
            by false other = refl

param_leaves : (p : Program) (o : Owner) (v : Value) (q : ParamSig) (h : HeapContents) → IsNoField o → Leaves h (move_param p o v q h)
param_leaves p o v q h none = go q.owning
  where
    go : (b : Bool) → Leaves h (if b then move p q.vtype o v h else h)
    go true = move_leaves p q.vtype o v h none
    go false = leaves_self h

params_leave : (p : Program) (o : Owner) (at : ℕ → Value) (k : ℕ) (qs : List ParamSig) (h : HeapContents) → IsNoField o → Leaves h (move_params p o at k qs h)
params_leave p o at k [] h none = leaves_self h
params_leave p o at k (q ∷ qs) h none =
    leaves_further h (move_param p o (at k) q h) (move_params p o at (k + 1) qs (move_param p o (at k) q h)) (param_leaves p o (at k) q h none) (params_leave p o at (k + 1) qs (move_param p o (at k) q h) none)

pub frame_no_field : (j : ℕ) → IsNoField (owners.Frame j)
frame_no_field j = record { never = λ w f is. cc }

pub library_no_field : IsNoField owners.Library
library_no_field = record { never = λ w f is. cc }

-- ---- objects that are made

pub append_leaves : (h : HeapContents) (c : ClassId) → Leaves h (append h c)
append_leaves h c = record {
  forth = forth;
  back = back;
  fields = refl;
  links = λ old n y l at link. links old n y l (nat_eq n (next_number h)) (sym (appended_at h c n) ∙ at) link;
  born = λ n y at. born n y (nat_eq n (next_number h)) (sym (appended_at h c n) ∙ at);
}
  where
    other : (n : ℕ) (x : Object) → object_at h n ≡ Some x → object_at (append h c) n ≡ Some x
    other n x at =
        let below = (in_range h n x at).1 in
        let no : nat_eq n (next_number h) ≡ false = grind (arith, nat_tests, below) in
        appended_at h c n ∙ ap (λ (b : Bool). if b then Some (unfinished c) else object_at h n) no ∙ at

    forth : (n : ℕ) (x : Object) → object_at h n ≡ Some x → (y : Object) × (object_at (append h c) n ≡ Some y) × StaysBut x y
    forth n x at = (x, other n x at, stays_self x)

    back : (n : ℕ) (y : Object) (w : ℕ) (f : FieldId) → object_at (append h c) n ≡ Some y → y.owner ≡ owners.Field w f
        → (x : Object) × (object_at h n ≡ Some x) × StaysBut x y × (x.owner ≡ owners.Field w f)
    back n y w f at owner = go (nat_eq n (next_number h)) (sym (appended_at h c n) ∙ at)
      where
        go : (b : Bool) → (if b then Some (unfinished c) else object_at h n) ≡ Some y → (x : Object) × (object_at h n ≡ Some x) × StaysBut x y × (x.owner ≡ owners.Field w f)
        go true is = absurd (let same : unfinished c ≡ y = (let both : Some (unfinished c) ≡ Some y = is in cc) in
            let never : owners.Unowned ≡ owners.Field w f = ap (λ (u : Object). u.owner) same ∙ owner in cc)
        go false is = (y, is, stays_self y, owner)

    born : (n : ℕ) (y : Object) (b : Bool) → (if b then Some (unfinished c) else object_at h n) ≡ Some y → ((x : Object) × (object_at h n ≡ Some x)) ⊎ (y.link ≡ None)
    born n y true is = inr (ap (λ (u : Object). u.link) (sym (let one : unfinished c ≡ y = cc in one)))
    born n y false is = inl (y, is)

    links : HasEarlierLinks h → (n : ℕ) (y : Object) (l : Link) (b : Bool) → (if b then Some (unfinished c) else object_at h n) ≡ Some y → y.link ≡ Some l → IsEarlierLink n y l
    links old n y l true is link = absurd (let never : None ≡ Some l = ap (λ (u : Object). u.link) (let one : unfinished c ≡ y = cc in one) ∙ link in cc)
    links old n y l false is link = old n y l is link

begun_leaves : (m : Option Method) (h : HeapContents) → Leaves h (object_begun m h)
begun_leaves None h = leaves_self h
begun_leaves (Some m) h = append_leaves h m.class

new_leaves : (a : Action) (m : Option Method) (h : HeapContents) → Leaves h (object_of_new a m h)
new_leaves actions.Skip m h = leaves_self h
new_leaves (actions.New c d n) m h = begun_leaves m h
new_leaves a m h = leaves_self h

pub began_leaves : (p : Program) (l : Locals) (a : Action) (named : Option Method) (j : ℕ) (h : HeapContents) → Leaves h (began_heap p l a named j h)
began_leaves p l a named j h =
    leaves_further h (object_of_new a named h) (began_heap p l a named j h) (new_leaves a named h)
    (params_leave p (owners.Frame j) (operand_of l a) 1 (params_in named) (object_of_new a named h) (frame_no_field j))

made_leaves : (d : Conduct) (h : HeapContents) → Leaves h (object_made d h)
made_leaves conducts.Null h = leaves_self h
made_leaves (conducts.Throws e) h = append_leaves h e
made_leaves (conducts.Fresh e) h = append_leaves h e
made_leaves d h = leaves_self h

pub library_made_leaves : (p : Program) (l : Locals) (a : Action) (named : Option Method) (d : Conduct) (h : HeapContents) → Leaves h (library_made p l a named d h)
library_made_leaves p l a named d h =
    leaves_further h (arguments_moved p owners.Library l a named h) (library_made p l a named d h) (params_leave p owners.Library (operand_of l a) 1 (params_in named) h library_no_field)
    (made_leaves d (arguments_moved p owners.Library l a named h))

-- ---- objects that are given up

given_stays : (x : Object) → is_library_owner x.owner ≡ false → StaysBut x (given_up x)
given_stays x other = owned_stays (if is_unmet x then owners.Lost else owners.Released) x other

pub given_no_field : (x : Object) (w : ℕ) (f : FieldId) → (given_up x).owner ≡ owners.Field w f → ⊥
given_no_field x w f owner = go (is_unmet x) owner
  where
    go : (b : Bool) → (if b then owners.Lost else owners.Released) ≡ owners.Field w f → ⊥
    go true is = cc
    go false is = cc

pub gives_up : (test : Object → Bool) → ((x : Object) → test x ≡ true → is_library_owner x.owner ≡ false) → ChangesOwners (λ n x. if test x then given_up x else x)
gives_up test other = record { stays = λ n x. stays x (test x) refl; field = λ n x w f. field x w f (test x) }
  where
    stays : (x : Object) (b : Bool) → test x ≡ b → StaysBut x (if b then given_up x else x)
    stays x true is = given_stays x (other x is)
    stays x false is = stays_self x

    field : (x : Object) (w : ℕ) (f : FieldId) (b : Bool) → (if b then given_up x else x).owner ≡ owners.Field w f → x.owner ≡ owners.Field w f
    field x w f true owner = absurd (given_no_field x w f owner)
    field x w f false owner = owner

frame_not_library : (o : Owner) (j : ℕ) → is_frame o j ≡ true → is_library_owner o ≡ false
frame_not_library (owners.Frame i) j is = refl
frame_not_library (owners.Field w f) j is = refl
frame_not_library owners.Library j is = absurd (true≢false (sym is))
frame_not_library owners.Released j is = refl
frame_not_library owners.Lost j is = refl
frame_not_library owners.Unowned j is = refl

field_not_library : (o : Owner) (w : ℕ) → is_held_by o w ≡ true → is_library_owner o ≡ false
field_not_library (owners.Frame i) w is = refl
field_not_library (owners.Field v f) w is = refl
field_not_library owners.Library w is = absurd (true≢false (sym is))
field_not_library owners.Released w is = refl
field_not_library owners.Lost w is = refl
field_not_library owners.Unowned w is = refl

pub end_frame_leaves : (j : ℕ) (h : HeapContents) → Leaves h (end_frame j h)
end_frame_leaves j h = each_leaves (given_up_by_frame j) h (gives_up (λ x. is_frame x.owner j) (λ x. frame_not_library x.owner j)) (unowned_stays (given_up_by_frame j) h (λ n x none. keeps x none))
  where
    keeps : (x : Object) → x.owner ≡ owners.Unowned → (if is_frame x.owner j then given_up x else x).owner ≡ x.owner
    keeps x none = ap (λ (o : Owner). (if is_frame o j then given_up x else x).owner) none

holder_leaves : (w : Option ℕ) (h : HeapContents) → Leaves h (end_holder w h)
holder_leaves None h = leaves_self h
holder_leaves (Some w) h = each_leaves (given_up_by_holder w) h (gives_up (λ x. is_held_by x.owner w) (λ x. field_not_library x.owner w)) (unowned_stays (given_up_by_holder w) h (λ n x none. keeps x none))
  where
    keeps : (x : Object) → x.owner ≡ owners.Unowned → (if is_held_by x.owner w then given_up x else x).owner ≡ x.owner
    keeps x none = ap (λ (o : Owner). (if is_held_by o w then given_up x else x).owner) none

constructor_leaves : (self : Value) (runs : Option Method) (e : Option ClassId) (h : HeapContents) → Leaves h (constructor_ended self runs e h)
constructor_leaves self runs None h = leaves_self h
constructor_leaves self runs (Some e) h = go (constructs runs)
  where
    go : (b : Bool) → Leaves h (if b then end_holder (number_of self) h else h)
    go true = holder_leaves (number_of self) h
    go false = leaves_self h

as_leaves : (p : Program) (i : ℕ) (t : Option VType) (v : Value) (h : HeapContents) → Leaves h (moved_as p i t v h)
as_leaves p i None v h = leaves_self h
as_leaves p i (Some t) v h = move_leaves p t (owners.Frame i) v h (frame_no_field i)

normally_leaves : (p : Program) (i : ℕ) (runs : Option Method) (v : Value) (h : HeapContents) → Leaves h (moved_normally p i runs v h)
normally_leaves p i runs v h = go (owning_in runs && not (is_alias runs))
  where
    go : (b : Bool) → Leaves h (if b then moved_as p i (result_in runs) v h else h)
    go true = as_leaves p i (result_in runs) v h
    go false = leaves_self h

pub result_leaves : (p : Program) (i : ℕ) (runs : Option Method) (v : Value) (e : Option ClassId) (h : HeapContents) → Leaves h (result_moved p i runs v e h)
result_leaves p i runs v None h = normally_leaves p i runs v h
result_leaves p i runs v (Some e) h = leaves_self h

pub gone_leaves : (p : Program) (i : ℕ) (self : Value) (runs : Option Method) (v : Value) (e : Option ClassId) (h : HeapContents) → Leaves h (frame_gone p i self runs v e h)
gone_leaves p i self runs v e h =
    leaves_further h (result_moved p i runs v e h) (frame_gone p i self runs v e h) (result_leaves p i runs v e h)
    (leaves_further (result_moved p i runs v e h) (frame_ended p i runs v e h) (frame_gone p i self runs v e h) (end_frame_leaves (i + 1) (result_moved p i runs v e h))
    (constructor_leaves self runs e (frame_ended p i runs v e h)))

-- ---- what no place holds

pub loses : (h : HeapContents) (held : List (List Value)) → ChangesOwners (lost_object h held)
loses h held = record { stays = λ n x. stays n x (is_unmet x && not (owner_holds h held x.owner n)) refl; field = λ n x w f. field x w f (is_unmet x && not (owner_holds h held x.owner n)) }
  where
    not_library : (n : ℕ) (o : Owner) → not (owner_holds h held o n) ≡ true → is_library_owner o ≡ false
    not_library n (owners.Frame j) is = refl
    not_library n (owners.Field w f) is = refl
    not_library n owners.Library is = absurd (true≢false (sym is))
    not_library n owners.Released is = refl
    not_library n owners.Lost is = refl
    not_library n owners.Unowned is = refl

    stays : (n : ℕ) (x : Object) (b : Bool) → (is_unmet x && not (owner_holds h held x.owner n)) ≡ b → StaysBut x (if b then with_owner owners.Lost x else x)
    stays n x true is = owned_stays owners.Lost x (not_library n x.owner (and_parts (is_unmet x) (not (owner_holds h held x.owner n)) is).1)
    stays n x false is = stays_self x

    field : (x : Object) (w : ℕ) (f : FieldId) (b : Bool) → (if b then with_owner owners.Lost x else x).owner ≡ owners.Field w f → x.owner ≡ owners.Field w f
    field x w f true owner = absurd (let never : owners.Lost ≡ owners.Field w f = owner in cc)
    field x w f false owner = owner

pub lose_leaves : (held : List (List Value)) (h : HeapContents) → Leaves h (lose held h)
lose_leaves held h = each_leaves (lost_object h held) h (loses h held) (unowned_stays (lost_object h held) h (λ n x none. keeps n x none))
  where
    and_not : (b : Bool) → (b && false) ≡ false
    and_not true = refl
    and_not false = refl

    keeps : (n : ℕ) (x : Object) → x.owner ≡ owners.Unowned → (if is_unmet x && not (owner_holds h held x.owner n) then with_owner owners.Lost x else x).owner ≡ x.owner
    keeps n x none =
        ap (λ (o : Owner). (if is_unmet x && not (owner_holds h held o n) then with_owner owners.Lost x else x).owner) none
        ∙ ap (λ (b : Bool). (if b then with_owner owners.Lost x else x).owner) (and_not (is_unmet x))

-- an object that stays after what no place holds was lost was there before
pub lost_from : (held : List (List Value)) (h : HeapContents) (n : ℕ) (y : Object) → object_at (lose held h) n ≡ Some y → (x : Object) × (object_at h n ≡ Some x) × StaysBut x y
lost_from held h n y at =
    let z = changed_back (lost_object h held) n (object_at h n) y (sym (changed_at (lost_object h held) h n) ∙ at) in
    (z.0, z.1, subst (StaysBut z.0) z.2 ((loses h held).stays n z.0))

-- what an ended object owned is owned by none of its fields any more
pub holder_owns_nothing : (w : ℕ) (h : HeapContents) (n : ℕ) (y : Object) (f : FieldId) → object_at (end_holder (Some w) h) n ≡ Some y → y.owner ≡ owners.Field w f → ⊥
holder_owns_nothing w h n y f at owner = go (changed_back (given_up_by_holder w) n (object_at h n) y (sym (changed_at (given_up_by_holder w) h n) ∙ at))
  where
    go : (z : Object) × (object_at h n ≡ Some z) × (given_up_by_holder w n z ≡ y) → ⊥
    go z = by (is_held_by z.0.owner w) refl z.2
      where
        by : (b : Bool) → is_held_by z.0.owner w ≡ b → (if is_held_by z.0.owner w then given_up z.0 else z.0) ≡ y → ⊥
        by true held is = given_no_field z.0 w f (ap (λ (u : Object). u.owner) (sym (ap (λ (b : Bool). if b then given_up z.0 else z.0) held) ∙ is) ∙ owner)
        by false free is =
            let same : z.0.owner ≡ owners.Field w f = ap (λ (u : Object). u.owner) (sym (ap (λ (b : Bool). if b then given_up z.0 else z.0) free) ∙ is) ∙ owner in
            true≢false (sym (ap (λ (o : Owner). is_held_by o w) same ∙ eq-eqb w w refl) ∙ free)
