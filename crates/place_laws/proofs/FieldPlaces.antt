-- The place of an owning field is where the machine finds the field.
use Rattle.std.proofs.Common.{◌≡◌, ◌⊎◌, inl, inr, ◌∙◌, ap, refl, sym, arith, ℕ, zero, suc, ◌+◌, ◌<◌, min, Bool, true, false, not, true≢false, Option, Some, None, IsSomeAnd, List, [], ◌∷◌, length, map, slice_get, filter, take_while, subst, eqb-true, eq-eqb}
use Rattle.std.specs.Prelude.{Contains, nat_eq, slice_index_or}
use Rattle.std.specs.List.{AllPairs, prefix_len}
use Rattle.std.proofs.lemmas.List.{get_or-map, length-map}
use Rattle.std.proofs.lemmas.List.Kept.{AllPairs-from_increasing}
use Rattle.program_model.specs.declared.kinds.ClassId.{ClassId}
use Rattle.program_model.specs.declared.kinds.FieldId.{FieldId}
use Rattle.program_model.specs.declared.kinds.MethodId.{MethodId}
use Rattle.program_model.specs.declared.program.Class.{Class}
use Rattle.program_model.specs.declared.program.Field.{Field}
use Rattle.program_model.specs.declared.program.Method.{Method}
use Rattle.program_model.specs.declared.program.Program.{Program}
use Rattle.program_model.specs.Lookups.{class_at, field_at, method_at}
use Rattle.program_model.specs.Validity.{HasMembers, IsFieldOf, IsTypedProgram}
use Rattle.java_control.specs.Owned.{field_number, fields_in, fields_beside, is_owning, is_owning_field, owning_before}
use Rattle.place_laws.specs.Places.{class_by, class_of_method, owning_field, owning_field_beside}

same_field : (f g : FieldId) → nat_eq f.0 g.0 ≡ true → f ≡ g
same_field f g is = ap (λ (n : ℕ). (let z : FieldId = record { 0 = n } in z)) (eqb-true f.0 g.0 is)

-- an element of a list is the first one or one of the rest
first_or_rest : (g f : FieldId) (gs : List FieldId) → Contains (g ∷ gs) f → (g ≡ f) ⊎ Contains gs f
first_or_rest g f gs (zero, small, at) = inl at
first_or_rest g f gs (suc k, small, at) = inr (k, omega (arith, small), at)

module _ (own : FieldId → Bool) (f : FieldId) (is : own f ≡ true) where
  abbrev other : FieldId → Bool
  other g = not (nat_eq g.0 f.0)

  abbrev before : List FieldId → List FieldId
  before fs = filter own (take_while other fs)

  -- a field stands behind the owning fields before it
  pub stands : (fs : List FieldId) → Contains fs f → slice_get (filter own fs) (length (before fs)) ≡ Some f
  stands [] (k, small, at) = absurd (omega (arith, small))
  stands (g ∷ gs) there = go (nat_eq g.0 f.0) refl (stands gs)
    where
      one : 1 + prefix_len other gs ≡ suc (prefix_len other gs)
      one = omega arith

      here : g ≡ f → nat_eq g.0 f.0 ≡ true → slice_get (filter own (g ∷ gs)) (length (before (g ∷ gs))) ≡ Some f
      here same e = rw (e, ap own same ∙ is) (ap Some same)

      further : nat_eq g.0 f.0 ≡ false → slice_get (filter own gs) (length (before gs)) ≡ Some f → (b : Bool) → own g ≡ b → slice_get (filter own (g ∷ gs)) (length (before (g ∷ gs))) ≡ Some f
      further e rest true mine = rw (mine, e, one) (rw mine rest)
      further e rest false mine = rw (mine, e, one) (rw mine rest)

      go : (b : Bool) → nat_eq g.0 f.0 ≡ b → (Contains gs f → slice_get (filter own gs) (length (before gs)) ≡ Some f) → slice_get (filter own (g ∷ gs)) (length (before (g ∷ gs))) ≡ Some f
      go true e later = here (same_field g f e) e
      go false e later = elim (first_or_rest g f gs there) [
        | inl same ↦ absurd (true≢false (sym (eq-eqb g.0 f.0 (ap (λ (z : FieldId). z.0) same)) ∙ e))
        | inr rest ↦ further e (later rest) (own g) refl
      ]

  -- where the fields are in order, it stands there alone
  abbrev numbers : List FieldId → List ℕ
  numbers fs = map (λ (g : FieldId). g.0) fs

  -- an owning field among these fields is one of them
  among : (fs : List FieldId) (k : ℕ) → slice_get (filter own fs) k ≡ Some f → Contains fs f
  among [] k at = absurd (let never : None ≡ Some f = at in cc)
  among (g ∷ gs) k at = go (own g) refl at (among gs)
    where
      behind : Contains gs f → Contains (g ∷ gs) f
      behind (j, small, is') = (suc j, omega (arith, small), is')

      go : (b : Bool) → own g ≡ b → slice_get (filter own (g ∷ gs)) k ≡ Some f → ((j : ℕ) → slice_get (filter own gs) j ≡ Some f → Contains gs f) → Contains (g ∷ gs) f
      go true e is' further = split k (rw e at is')
        where
          split : (n : ℕ) → slice_get (g ∷ filter own gs) n ≡ Some f → Contains (g ∷ gs) f
          split zero one = (0, omega arith, (let same : g ≡ f = (let both : Some g ≡ Some f = one in cc) in same))
          split (suc n) one = behind (further n one)
      go false e is' further = behind (further k (rw e at is'))

  later : (g : FieldId) (gs : List FieldId) → AllPairs (λ x y. x < y) (numbers (g ∷ gs)) → Contains gs f → g.0 < f.0
  later g gs pairs (j, small, at) =
      let count : length (numbers gs) ≡ length gs = length-map gs (λ (z : FieldId). z.0) in
      let first : g.0 < slice_index_or (numbers gs) j 0 = pairs 0 (suc j) 0 (omega arith) (omega (arith, count, small)) in
      subst (λ (n : ℕ). g.0 < n) (get_or-map (λ (z : FieldId). z.0) gs j f 0 small ∙ ap (λ (z : FieldId). z.0) at) first

  apart : (g : FieldId) → g.0 < f.0 → nat_eq g.0 f.0 ≡ false
  apart g below = go (nat_eq g.0 f.0) refl
    where
      go : (b : Bool) → nat_eq g.0 f.0 ≡ b → nat_eq g.0 f.0 ≡ false
      go true e = absurd (let same = eqb-true g.0 f.0 e in omega (arith, below, same))
      go false e = e

  pub alone : (fs : List FieldId) (k : ℕ) → AllPairs (λ x y. x < y) (numbers fs) → slice_get (filter own fs) k ≡ Some f → length (before fs) ≡ k
  alone [] k pairs at = absurd (let never : None ≡ Some f = at in cc)
  alone (g ∷ gs) k pairs at = go (own g) refl at (λ j. alone gs j (λ a b d less inside. pairs (suc a) (suc b) d (omega (arith, less)) (omega (arith, inside))))
    where
      one : 1 + prefix_len other gs ≡ suc (prefix_len other gs)
      one = omega arith

      go : (b : Bool) → own g ≡ b → slice_get (filter own (g ∷ gs)) k ≡ Some f → ((j : ℕ) → slice_get (filter own gs) j ≡ Some f → length (before gs) ≡ j) → length (before (g ∷ gs)) ≡ k
      go true mine is' further = split k (rw mine at is')
        where
          split : (n : ℕ) → slice_get (g ∷ filter own gs) n ≡ Some f → length (before (g ∷ gs)) ≡ n
          split zero found = rw (eq-eqb g.0 f.0 (ap (λ (z : FieldId). z.0) (let same : g ≡ f = (let both : Some g ≡ Some f = found in cc) in same))) refl
          split (suc n) found = rw (apart g (later g gs pairs (among gs n found)), one, mine) (ap suc (further n found))
      go false mine is' further =
          let found : slice_get (filter own gs) k ≡ Some f = rw mine at is' in
          rw (apart g (later g gs pairs (among gs k found)), one, mine) (further k found)

-- ---- the fields of a class

listed : (p : Program) → IsTypedProgram p → (f : FieldId) (x : Field) → field_at p f ≡ Some x → (k : Class) × (class_at p x.class ≡ Some k) × Contains k.fields.items f
listed p typed f x at = go (class_at p x.class) refl (typed.fields f x at).listed
  where
    go : (k : Option Class) → class_at p x.class ≡ k → IsSomeAnd k (λ y. Contains y.fields.items f) → (y : Class) × (class_at p x.class ≡ Some y) × Contains y.fields.items f
    go None is there = absurd there
    go (Some y) is there = (y, is, there)

small_number : (n : ℕ) → min n 4294967295 < 16 → min n 4294967295 ≡ n
small_number n small = omega (arith, small)

-- the field stands at the place that has its number
pub beside_of_place : (p : Program) → IsTypedProgram p → (m : MethodId) (mm : Method) (f : FieldId) (x : Field) → method_at p m ≡ Some mm → field_at p f ≡ Some x → x.owning ≡ true → x.class ≡ mm.class
    → field_number p f < 16 → owning_field_beside p m (field_number p f) ≡ Some f
beside_of_place p typed m mm f x named at own class small =
    let k = listed p typed f x at in
    let fields : fields_beside p (field_at p f) ≡ k.0.fields.items = ap (fields_beside p) at ∙ ap fields_in k.1 in
    let number : field_number p f ≡ length (owning_before p f k.0.fields.items) =
    small_number (length (owning_before p f (fields_beside p (field_at p f)))) small ∙ ap (λ (fs : List FieldId). length (owning_before p f fs)) fields in
    let beside : class_by p (class_of_method (method_at p m)) ≡ Some k.0 = ap (λ (y : Option Method). class_by p (class_of_method y)) named ∙ sym (ap (class_at p) class) ∙ k.1 in
    ap (owning_field_beside p m) number ∙ ap (λ (y : Option Class). owning_field p y (length (owning_before p f k.0.fields.items))) beside
    ∙ stands (is_owning p) f (owning_is p f x at own) k.0.fields.items k.2
  where
    owning_is : (p : Program) (f : FieldId) (x : Field) → field_at p f ≡ Some x → x.owning ≡ true → is_owning p f ≡ true
    owning_is p f x at own = rw at own

-- an owning field that the machine finds beside a method
pub record IsBeside (p : Program) (mm : Method) (k : ℕ) (f : FieldId) : Type 0 where
  pub field : Field
  pub at : field_at p f ≡ Some field
  pub owning : field.owning ≡ true
  pub class : field.class ≡ mm.class
  pub holder : Class
  pub there : class_at p mm.class ≡ Some holder
  pub among' : Contains holder.fields.items f
  pub number : field_number p f ≡ k

pub passes : (own : FieldId → Bool) (fs : List FieldId) (k : ℕ) (f : FieldId) → slice_get (filter own fs) k ≡ Some f → own f ≡ true
passes own [] k f at = absurd (let never : None ≡ Some f = at in cc)
passes own (g ∷ gs) k f at = go (own g) refl at (λ j. passes own gs j f)
  where
    go : (b : Bool) → own g ≡ b → slice_get (filter own (g ∷ gs)) k ≡ Some f → ((j : ℕ) → slice_get (filter own gs) j ≡ Some f → own f ≡ true) → own f ≡ true
    go true mine is further = split k (rw mine at is)
      where
        split : (n : ℕ) → slice_get (g ∷ filter own gs) n ≡ Some f → own f ≡ true
        split zero found = ap own (let same : f ≡ g = (let both : Some g ≡ Some f = found in cc) in same) ∙ mine
        split (suc n) found = further n found
    go false mine is further = further k (rw mine at is)

owning_known : (p : Program) (f : FieldId) (x : Field) → field_at p f ≡ Some x → is_owning p f ≡ true → x.owning ≡ true
owning_known p f x at own = sym (ap (λ (y : Option Field). is_owning_field y) at) ∙ own

-- and the machine finds no other field there
pub place_of_beside : (p : Program) → IsTypedProgram p → (m : MethodId) (mm : Method) (k : ℕ) (f : FieldId) → method_at p m ≡ Some mm → k < 16 → owning_field_beside p m k ≡ Some f → IsBeside p mm k f
place_of_beside p typed m mm k f named small beside =
    by (class_at p mm.class) refl (sym (ap (λ (y : Option Method). owning_field p (class_by p (class_of_method y)) k) named) ∙ beside)
  where
    found : (c : Class) → class_at p mm.class ≡ Some c → slice_get (filter (is_owning p) c.fields.items) k ≡ Some f → (x : Field) → field_at p f ≡ Some x → x.class ≡ mm.class → IsBeside p mm k f
    found c there at x is class =
        let own : is_owning p f ≡ true = passes (is_owning p) c.fields.items k f at in
        let members = typed.members mm.class c there in
        let fields : fields_beside p (field_at p f) ≡ c.fields.items = ap (fields_beside p) is ∙ ap (λ (y : ClassId). fields_in (class_at p y)) class ∙ ap fields_in there in
        let number : length (owning_before p f c.fields.items) ≡ k = alone (is_owning p) f own c.fields.items k (AllPairs-from_increasing _ members.field_order) at in
        record {
          field = x;
          at = is;
          owning = owning_known p f x is own;
          class = class;
          holder = c;
          there = there;
          among' = among (is_owning p) f own c.fields.items k at;
          number = ap (λ (fs : List FieldId). min (length (owning_before p f fs)) 4294967295) fields ∙ ap (λ (n : ℕ). min n 4294967295) number ∙ few k small;
        }
      where
        few : (n : ℕ) → n < 16 → min n 4294967295 ≡ n
        few n less = omega (arith, less)

    in_class : (c : Class) → class_at p mm.class ≡ Some c → slice_get (filter (is_owning p) c.fields.items) k ≡ Some f → IsBeside p mm k f
    in_class c there at = go (field_at p f) refl (subst (IsFieldOf p mm.class) place.2 (members.fields place.0 f place.1))
      where
        members : HasMembers p mm.class c.fields.items c.methods.items
        members = typed.members mm.class c there

        place : Contains c.fields.items f
        place = among (is_owning p) f (passes (is_owning p) c.fields.items k f at) c.fields.items k at

        go : (x : Option Field) → field_at p f ≡ x → IsSomeAnd x (λ y. y.class ≡ mm.class) → IsBeside p mm k f
        go None is class = absurd class
        go (Some x) is class = found c there at x is class

    by : (c : Option Class) → class_at p mm.class ≡ c → owning_field p (class_at p mm.class) k ≡ Some f → IsBeside p mm k f
    by None there at = absurd (let never : None ≡ Some f = sym (ap (λ (c : Option Class). owning_field p c k) there) ∙ at in cc)
    by (Some c) there at = in_class c there (sym (ap (λ (z : Option Class). owning_field p z k) there) ∙ at)
