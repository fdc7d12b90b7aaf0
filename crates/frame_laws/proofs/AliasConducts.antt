-- A method or constructor of the library that has an aliased argument gives an object that it makes, or that argument.
use Rattle.std.proofs.Common.{◌≡◌, ◌⊎◌, inl, inr, ℕ, zero, suc, ◌-◌, ◌==◌, Bool, true, false, not, ◌||◌, ◌&&◌, true≢false, Option, Some, None, List, [], ◌∷◌, ◌++◌, length, map, filter, slice_get, refl, sym, ap, ◌∙◌, subst, if◌then◌else◌}
use Rattle.std.specs.Prelude.{ℤ, pos, negsuc}
use Rattle.std.specs.FinSet as set
use Rattle.std.specs.List.{flat_map, list_any, range_with_len}
use Rattle.std.proofs.lemmas.Bool.{and_parts, not-false, or_parts}
use Rattle.rlc_base.specs.declared.code.Code.{Code}
use Rattle.rlc_base.specs.declared.code.Code.TheVariants as refused
use Rattle.rlc_base.specs.declared.place.Pos.{Pos}
use Rattle.rlc_base.specs.NameSet.{is_same}
use Rattle.rlc_base.proofs.SetLaws.{Decides-is_same, member_of-empty, new_member, within_at, within_self}
use Rattle.refusal_order.specs.Refusals.{refused_at, where_true}
use Rattle.program_model.specs.declared.kinds.ClassId.{ClassId}
use Rattle.program_model.specs.declared.kinds.MethodId.{MethodId}
use Rattle.program_model.specs.declared.kinds.MethodKind.{MethodKind}
use Rattle.program_model.specs.declared.kinds.MethodKind.TheVariants as kinds
use Rattle.program_model.specs.declared.kinds.VType.{VType}
use Rattle.program_model.specs.declared.kinds.VType.TheVariants as types
use Rattle.program_model.specs.declared.program.Class.{Class}
use Rattle.program_model.specs.declared.program.Method.{Method}
use Rattle.program_model.specs.declared.program.Program.{Program}
use Rattle.program_model.specs.Lookups.{class_at, method_at}
use Rattle.program_model.specs.Overrides.{is_library, is_library_in}
use Rattle.program_model.specs.SuperTests.{is_under}
use Rattle.ownership_rules.specs.AliasCases.{alias_cases_in, alias_cases_of_method, alias_cases_of_override, calls_alias, gives_exception, has_bad_alias_form, has_owning_alias, has_unequal_sets, is_bad_alias_method, is_half_marked, is_single, result_set}
use Rattle.ledger_steps.specs.Bodies.{is_constructor_kind}
use Rattle.ledger_steps.specs.MustCallSets.{Names, is_empty, is_heavy_class, must_of, must_of_optional, no_names}
use Rattle.ownership_rules.specs.Overridings.{class_ids, overridings}
use Rattle.ownership_rules.specs.Signatures.{type_at}
use Rattle.ownership_rules.specs.WellFormed.{IsWellFormed}
use Rattle.stub_conduct.specs.declared.choice.Choice.{Choice}
use Rattle.stub_conduct.specs.declared.choice.Conduct.{Conduct}
use Rattle.stub_conduct.specs.declared.choice.Conduct.TheVariants as conducts
use Rattle.stub_conduct.specs.Conducts.{argument_or_null, beyond, by_way, class_count, class_of_number, class_or, conduct, conduct_in, existing_class, existing_result, existing_way, fits, given_result, instead_result, is_stand_in, library_in, null_way, picked, plain, stand_ins, throw_or, thrown}
use Rattle.ledger_state.specs.Contents.{HeapContents}
use Rattle.ledger_state.specs.declared.array.ArrayObject.{ArrayObject}
use Rattle.ledger_state.specs.declared.value.Value.{Value}
use Rattle.ledger_steps.specs.Conducts.{argument_of, fits_type, on_this, plainly, result_in, settled, settled_by}
use Rattle.control_actions.specs.declared.action.Action.{Action}
use Rattle.control_actions.specs.declared.action.Action.TheVariants as actions
use Rattle.frame_laws.specs.Steps.{is_super}

-- ---- lists

cons_is_nil : {X : Type 0} (x : X) (xs : List X) → ◌≡◌ {A = List X} (x ∷ xs) [] → ⊥
cons_is_nil x xs is = cc

nil_left : {X : Type 0} (xs ys : List X) → xs ++ ys ≡ [] → xs ≡ []
nil_left [] ys is = refl
nil_left (x ∷ xs) ys is = absurd (cons_is_nil x (xs ++ ys) is)

nil_right : {X : Type 0} (xs ys : List X) → xs ++ ys ≡ [] → ys ≡ []
nil_right [] ys is = is
nil_right (x ∷ xs) ys is = absurd (cons_is_nil x (xs ++ ys) is)

no_element : {X : Type 0} (i : ℕ) (x : X) → slice_get [] i ≡ Some x → ⊥
no_element zero x is = let never : None ≡ Some x = is in cc
no_element (suc i) x is = let never : None ≡ Some x = is in cc

-- where nothing is gathered, there is nothing of each
none_at : {X Y : Type 0} (g : X → List Y) (xs : List X) (i : ℕ) (x : X) → flat_map g xs ≡ [] → slice_get xs i ≡ Some x → g x ≡ []
none_at g [] i x none at = absurd (no_element i x at)
none_at g (y ∷ ys) zero x none at = ap g (sym (let both : Some y ≡ Some x = at in (let one : y ≡ x = cc in one))) ∙ nil_left (g y) (flat_map g ys) none
none_at g (y ∷ ys) (suc i) x none at = none_at g ys i x (nil_right (g y) (flat_map g ys) none) at

any_passes : {X : Type 0} (f : X → Bool) (xs : List X) → list_any f xs ≡ true → (x : X) × (f x ≡ true)
any_passes f [] is = absurd (true≢false (sym is))
any_passes {X = X} f (x ∷ xs) is = go (f x) refl is (any_passes f xs)
  where
    go : (b : Bool) → f x ≡ b → (b || list_any f xs) ≡ true → (list_any f xs ≡ true → (y : X) × (f y ≡ true)) → (y : X) × (f y ≡ true)
    go true e one rest = (x, e)
    go false e one rest = rest one

pub not_refused : (b : Bool) (code : Code) (place : Pos) → where_true b code place ≡ [] → b ≡ false
not_refused true code place is = absurd (cons_is_nil (refused_at code place) [] is)
not_refused false code place is = refl

-- ---- the result of such a method is of a class type

-- a set that has one name is not the empty set
single_is_some : (p : Program) (x y : Names) → is_same x y ≡ true → is_single p x ≡ true → is_empty y ≡ true → ⊥
single_is_some p x y same single none =
    let one = any_passes (λ (n : ℕ). is_same x (set.insert no_names n)) (range_with_len 0 (length p.names)) single in
    let it : x ≡ set.insert no_names one.0 = (Decides-is_same x (set.insert no_names one.0)).0 one.1 in
    let here : set.contains y one.0 ≡ true = ap (λ (s : Names). set.contains s one.0) (sym ((Decides-is_same x y).0 same) ∙ it) ∙ new_member no_names one.0 in
    true≢false (sym (within_at y no_names none one.0 here) ∙ member_of-empty one.0)

-- a constructor, or a method with a result of a class type, where the class has an obligation
abbrev pub GivesObject : Program → Method → Type 0
GivesObject p m = ((is_constructor_kind m.kind ≡ true) × (is_heavy_class p m.class ≡ true)) ⊎ ((is_constructor_kind m.kind ≡ false) × ((c : ClassId) × (m.sig.result ≡ Some (types.Obj c)) × (is_heavy_class p c ≡ true)))

module _ (p : Program) (formed : IsWellFormed p) (named : MethodId) (m : Method) (at : method_at p named ≡ Some m) (k : ℕ) (alias : m.sig.alias ≡ Some k) where
  -- the alias is none that is refused
  pub no_refusal : is_bad_alias_method p m ≡ false
  no_refusal =
      let rest = flat_map (λ c. alias_cases_in p c (class_at p c)) (class_ids p) ++ flat_map alias_cases_of_override (overridings p) in
      let here : flat_map (alias_cases_of_method p) p.methods.items ≡ [] =
      nil_left (flat_map (alias_cases_of_method p) p.methods.items) (flat_map (λ c. alias_cases_in p c (class_at p c)) (class_ids p))
      (nil_left (flat_map (alias_cases_of_method p) p.methods.items ++ flat_map (λ c. alias_cases_in p c (class_at p c)) (class_ids p)) (flat_map alias_cases_of_override (overridings p)) formed.aliases) in
      not_refused (is_bad_alias_method p m) refused.BadAlias m.pos (none_at (alias_cases_of_method p) p.methods.items named.0 m here at)

  -- nor may the alias be an exception
  pub no_exception : gives_exception p m ≡ false
  no_exception = (or_parts (has_bad_alias_form p m) (gives_exception p m) no_refusal).1

  equal_sets : has_unequal_sets p m (Some k) ≡ false
  equal_sets =
      let form = or_parts (has_bad_alias_form p m) (gives_exception p m) no_refusal in
      let three = or_parts (is_half_marked m || has_unequal_sets p m m.sig.alias || has_owning_alias m m.sig.alias) (calls_alias p m) form.0 in
      let two = or_parts (is_half_marked m || has_unequal_sets p m m.sig.alias) (has_owning_alias m m.sig.alias) three.0 in
      let one = or_parts (is_half_marked m) (has_unequal_sets p m m.sig.alias) two.0 in
      ap (has_unequal_sets p m) (sym alias) ∙ one.1

  -- the sets of the argument and the result are equal, and have one name
  pub one_name : (is_same (must_of_optional p (type_at m.sig k)) (result_set p m) ≡ true) × (is_single p (must_of_optional p (type_at m.sig k)) ≡ true)
  one_name = and_parts (is_same (must_of_optional p (type_at m.sig k)) (result_set p m)) (is_single p (must_of_optional p (type_at m.sig k))) (not-false _ equal_sets)

  -- the result has an obligation
  some_names : is_empty (result_set p m) ≡ false
  some_names = go (is_empty (result_set p m)) refl
    where
      go : (b : Bool) → is_empty (result_set p m) ≡ b → is_empty (result_set p m) ≡ false
      go true none = absurd (single_is_some p (must_of_optional p (type_at m.sig k)) (result_set p m) one_name.0 one_name.1 none)
      go false some = some

  -- and so has the argument
  pub argument_has_names : is_empty (must_of_optional p (type_at m.sig k)) ≡ false
  argument_has_names = ap is_empty ((Decides-is_same (must_of_optional p (type_at m.sig k)) (result_set p m)).0 one_name.0) ∙ some_names

  pub gives_object : GivesObject p m
  gives_object = by_kind (is_constructor_kind m.kind) refl
    where
      names_by : (b : Bool) → is_constructor_kind m.kind ≡ b → is_empty (if b then must_of p m.class else must_of_optional p m.sig.result) ≡ false
      names_by b is = subst (λ (c : Bool). is_empty (if c then must_of p m.class else must_of_optional p m.sig.result) ≡ false) is some_names

      no_object : is_constructor_kind m.kind ≡ false → (t : Option VType) → m.sig.result ≡ t → must_of_optional p t ≡ no_names → GivesObject p m
      no_object other t result none =
          absurd (true≢false (sym (within_self no_names) ∙ ap is_empty (sym (ap (must_of_optional p) result ∙ none)) ∙ names_by false other))

      by_result : is_constructor_kind m.kind ≡ false → (t : Option VType) → m.sig.result ≡ t → GivesObject p m
      by_result other None result = no_object other None result refl
      by_result other (Some (types.Obj c)) result = inr (other, (c, result, ap not (ap (λ (t : Option VType). is_empty (must_of_optional p t)) (sym result) ∙ names_by false other)))
      by_result other (Some (types.Primitive t)) result = no_object other (Some (types.Primitive t)) result refl
      by_result other (Some types.Str) result = no_object other (Some types.Str) result refl
      by_result other (Some (types.Arr t)) result = no_object other (Some (types.Arr t)) result refl
      by_result other (Some types.NullType) result = no_object other (Some types.NullType) result refl

      by_kind : (b : Bool) → is_constructor_kind m.kind ≡ b → GivesObject p m
      by_kind true is = inl (is, ap not (names_by true is))
      by_kind false is = by_result is m.sig.result refl

-- ---- what it gives

-- the class of the constructor, or that of the result, or one of the library under it
abbrev pub IsAliasClass : Program → Method → ClassId → Type 0
IsAliasClass p m e = ((is_constructor_kind m.kind ≡ true) × (e ≡ m.class)) ⊎ ((c : ClassId) × (m.sig.result ≡ Some (types.Obj c)) × (is_heavy_class p c ≡ true) × ((e ≡ c) ⊎ ((is_under p e c ≡ true) × (is_library p e ≡ true))))

-- the call throws, or gives an object of such a class that it makes, or the argument
abbrev pub GivesAlias : Program → Method → Conduct → Type 0
GivesAlias p m (conducts.Throws e) = Unit {0}
GivesAlias p m (conducts.Fresh e) = IsAliasClass p m e
GivesAlias p m conducts.Argument = Unit {0}
GivesAlias p m conducts.Null = ⊥
GivesAlias p m (conducts.Existing k) = ⊥
GivesAlias p m (conducts.Value z) = ⊥
GivesAlias p m conducts.Nothing = ⊥

abbrev IsBelow : Program → ClassId → ClassId → Type 0
IsBelow p e c = (is_under p e c ≡ true) × (is_library p e ≡ true)

same_library : (x : Option Class) → library_in x ≡ true → is_library_in x ≡ true
same_library None is = is
same_library (Some k) is = is

-- a class that is picked is the one, or one of the library under it
among_under : (p : Program) (c : ClassId) (ns : List ℕ) (i : ℕ) (d : ClassId) → slice_get (map class_of_number (filter (is_stand_in p c) ns)) i ≡ Some d → IsBelow p d c
among_under p c [] i d is = absurd (no_element i d is)
among_under p c (n ∷ ns) i d is = go (is_stand_in p c n) refl (among_under p c ns) i is
  where
    stands : is_stand_in p c n ≡ true → IsBelow p (class_of_number n) c
    stands one =
        let first = and_parts (not (n == c.0) && library_in (class_at p (class_of_number n)) && is_under p (class_of_number n) c) (fits p (class_of_number n) c) one in
        let second = and_parts (not (n == c.0) && library_in (class_at p (class_of_number n))) (is_under p (class_of_number n) c) first.0 in
        (second.1, same_library (class_at p (class_of_number n)) (and_parts (not (n == c.0)) (library_in (class_at p (class_of_number n))) second.0).1)

    here : is_stand_in p c n ≡ true → ((j : ℕ) (e : ClassId) → slice_get (map class_of_number (filter (is_stand_in p c) ns)) j ≡ Some e → IsBelow p e c)
        → (j : ℕ) → slice_get (class_of_number n ∷ map class_of_number (filter (is_stand_in p c) ns)) j ≡ Some d → IsBelow p d c
    here one further zero same = subst (λ (e : ClassId). IsBelow p e c) (let both : Some (class_of_number n) ≡ Some d = same in (let it : class_of_number n ≡ d = cc in it)) (stands one)
    here one further (suc j) same = further j d same

    go : (b : Bool) → is_stand_in p c n ≡ b → ((j : ℕ) (e : ClassId) → slice_get (map class_of_number (filter (is_stand_in p c) ns)) j ≡ Some e → IsBelow p e c)
        → (j : ℕ) → slice_get (map class_of_number (if b then n ∷ filter (is_stand_in p c) ns else filter (is_stand_in p c) ns)) j ≡ Some d → IsBelow p d c
    go true one further j same = here one further j same
    go false one further j same = further j d same

picked_under : (p : Program) (c : ClassId) (z : ℤ) → (picked p c z ≡ c) ⊎ IsBelow p (picked p c z) c
picked_under p c (negsuc n) = inl refl
picked_under p c (pos zero) = inl refl
picked_under p c (pos (suc n)) = go (slice_get (map class_of_number (stand_ins p c)) n) refl
  where
    go : (x : Option ClassId) → slice_get (map class_of_number (stand_ins p c)) n ≡ x → (class_or c x ≡ c) ⊎ IsBelow p (class_or c x) c
    go None is = inl refl
    go (Some d) is = inr (among_under p c (range_with_len 0 (class_count p)) n d is)

module _ (p : Program) (m : Method) (k : ℕ) (alias : m.sig.alias ≡ Some k) (object : GivesObject p m) where
  -- the method's result, where it is no constructor
  by_result : (f : Option VType → Conduct) → ((c : ClassId) → m.sig.result ≡ Some (types.Obj c) → is_heavy_class p c ≡ true → GivesAlias p m (f (Some (types.Obj c)))) → is_constructor_kind m.kind ≡ false → GivesAlias p m (f m.sig.result)
  by_result f good other = elim object [
    | inl is ↦ absurd (true≢false (sym is.0 ∙ other))
    | inr result ↦ subst (λ (t : Option VType). GivesAlias p m (f t)) (sym result.1.1) (good result.1.0 result.1.1 result.1.2)
  ]

  -- an object that is made
  made : (c : ClassId) (v : ℤ) → m.sig.result ≡ Some (types.Obj c) → is_heavy_class p c ≡ true → IsAliasClass p m (picked p c v)
  made c v result heavy = inr (c, result, heavy, picked_under p c v)

  plain_gives : (kind : MethodKind) → m.kind ≡ kind → (v : ℤ) → GivesAlias p m (plain p kind m v)
  plain_gives kinds.Ctor is v = inl (ap is_constructor_kind is, refl)
  plain_gives kinds.Instance is v = by_result (λ t. given_result p t v) (λ c result heavy. made c v result heavy) (ap is_constructor_kind is)
  plain_gives kinds.Static is v = by_result (λ t. given_result p t v) (λ c result heavy. made c v result heavy) (ap is_constructor_kind is)
  plain_gives kinds.Constant is v = by_result (λ t. given_result p t v) (λ c result heavy. made c v result heavy) (ap is_constructor_kind is)

  argument : (c : ClassId) (v : ℤ) → GivesAlias p m (instead_result p m.sig (Some (types.Obj c)) v)
  argument c v = subst (λ (a : Option ℕ). GivesAlias p m (argument_or_null a)) (sym alias) tt

  null_gives : (kind : MethodKind) → m.kind ≡ kind → (v : ℤ) → GivesAlias p m (null_way p kind m v)
  null_gives kinds.Ctor is v = inl (ap is_constructor_kind is, refl)
  null_gives kinds.Instance is v = by_result (λ t. instead_result p m.sig t v) (λ c result heavy. argument c v) (ap is_constructor_kind is)
  null_gives kinds.Static is v = by_result (λ t. instead_result p m.sig t v) (λ c result heavy. argument c v) (ap is_constructor_kind is)
  null_gives kinds.Constant is v = by_result (λ t. instead_result p m.sig t v) (λ c result heavy. argument c v) (ap is_constructor_kind is)

  fresh : (c : ClassId) (v : ℤ) → m.sig.result ≡ Some (types.Obj c) → is_heavy_class p c ≡ true → GivesAlias p m (existing_result p m.sig (Some (types.Obj c)) v)
  fresh c v result heavy = subst (λ (a : Option ℕ). GivesAlias p m (existing_class p m.sig.owning_result a c v)) (sym alias) (go m.sig.owning_result v)
    where
      go : (b : Bool) (z : ℤ) → GivesAlias p m (existing_class p b (Some k) c z)
      go true z = made c z result heavy
      go false z = made c z result heavy

  there_gives : (kind : MethodKind) → m.kind ≡ kind → (v : ℤ) → GivesAlias p m (existing_way p kind m v)
  there_gives kinds.Ctor is v = inl (ap is_constructor_kind is, refl)
  there_gives kinds.Instance is v = by_result (λ t. existing_result p m.sig t v) (λ c result heavy. fresh c v result heavy) (ap is_constructor_kind is)
  there_gives kinds.Static is v = by_result (λ t. existing_result p m.sig t v) (λ c result heavy. fresh c v result heavy) (ap is_constructor_kind is)
  there_gives kinds.Constant is v = by_result (λ t. existing_result p m.sig t v) (λ c result heavy. fresh c v result heavy) (ap is_constructor_kind is)

  beyond_gives : (n : ℕ) (v : ℤ) → GivesAlias p m (beyond p m n v)
  beyond_gives zero v = null_gives m.kind refl v
  beyond_gives (suc zero) v = there_gives m.kind refl v
  beyond_gives (suc (suc n)) v = plain_gives m.kind refl v

  throw_gives : (c : Option ClassId) (n : ℕ) (v : ℤ) → GivesAlias p m (throw_or p m c n v)
  throw_gives (Some c) n v = tt
  throw_gives None n v = beyond_gives (n - length (thrown p m.kind m)) v

  way_gives : (way : ℕ) (v : ℤ) → GivesAlias p m (by_way p m way v)
  way_gives zero v = plain_gives m.kind refl v
  way_gives (suc n) v = throw_gives (slice_get (thrown p m.kind m) n) n v

  module _ (h : HeapContents) (arrays : List ArrayObject) (named : MethodId) (at : method_at p named ≡ Some m) where
    conduct_gives : (c : Choice) → GivesAlias p m (conduct p named c)
    conduct_gives c = subst (λ (x : Option Method). GivesAlias p m (conduct_in p x c)) (sym at) (way_gives c.way c.value)

    either : (b : Bool) (d e : Conduct) → GivesAlias p m d → GivesAlias p m e → GivesAlias p m (if b then d else e)
    either true d e first second = first
    either false d e first second = second

    settled_gives : (c : Choice) (f : ℕ → Value) (d : Conduct) → GivesAlias p m d → GivesAlias p m (settled_by p h arrays named (method_at p named) c f d)
    settled_gives c f (conducts.Existing n) gives = absurd gives
    settled_gives c f conducts.Argument gives =
        either (fits_type p h arrays (result_in (method_at p named)) (argument_of (method_at p named) f)) conducts.Argument (plainly p named c) tt (conduct_gives (record c { way = 0 }))
    settled_gives c f (conducts.Throws e) gives = tt
    settled_gives c f (conducts.Fresh e) gives = gives
    settled_gives c f conducts.Null gives = absurd gives
    settled_gives c f (conducts.Value z) gives = absurd gives
    settled_gives c f conducts.Nothing gives = absurd gives

    -- what a call of the library gives by a choice
    pub library_gives : (c : Choice) (f : ℕ → Value) (a : Action) → is_super a ≡ false → GivesAlias p m (on_this a (settled p h arrays named c f))
    library_gives c f a other = go a other
      where
        gives : GivesAlias p m (settled p h arrays named c f)
        gives = settled_gives c f (conduct p named c) (conduct_gives c)

        go : (b : Action) → is_super b ≡ false → GivesAlias p m (on_this b (settled p h arrays named c f))
        go actions.Skip other' = gives
        go (actions.Super k' d n) other' = absurd (true≢false other')
        go b other' = gives
