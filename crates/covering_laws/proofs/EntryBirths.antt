-- The births at a body's entry, by their numbers: those of the parameters, of `this` and of the owning fields.
use Rattle.std.specs.Prelude.{◌||◌, ◌+◌, if◌then◌else◌, replicate}
use Rattle.std.specs.List.{All}
use Rattle.std.proofs.lemmas.List.Elements.{All-head, All-replicate, All-tail}
use Rattle.std.proofs.Common.{◌<◌, length, ◌≡◌, ◌⊎◌, inl, inr, ℕ, zero, suc, Bool, true, false, Option, Some, None, List, [], ◌∷◌, ◌++◌, filter_map, slice_get, refl, sym, ap, ◌∙◌, subst, true≢false, eqb-true, arith, nat_eq}
use Rattle.std.proofs.lemmas.Bool.{and_parts}
use Rattle.program_model.specs.declared.kinds.BodyId.{BodyId}
use Rattle.program_model.specs.declared.kinds.FieldId.{FieldId}
use Rattle.program_model.specs.declared.kinds.MethodKind.TheVariants as methods
use Rattle.program_model.specs.declared.program.Method.{Method}
use Rattle.program_model.specs.declared.program.ParamSig.{ParamSig}
use Rattle.program_model.specs.declared.program.Program.{Program}
use Rattle.program_model.specs.declared.tree.Body.{Body}
use Rattle.program_model.specs.Lookups.{body_at, method_at, optional}
use Rattle.program_model.specs.Overrides.{are_types, is_type}
use Rattle.ledger_obligations.specs.Bodies.{fields_of, is_constructor_kind}
use Rattle.ledger_obligations.specs.OverrideCases.{differ, has_other_owning}
use Rattle.control_actions.specs.declared.fact.Fact.{Fact}
use Rattle.control_actions.specs.declared.fact.Mode.TheVariants as modes
use Rattle.control_actions.specs.declared.fact.OriginKind.TheVariants as kinds
use Rattle.control_actions.specs.declared.fact.Origin.{Origin}
use Rattle.control_actions.specs.declared.place.Place.TheVariants as places
use Rattle.ownership_rules.specs.Births.{births_at_entry, method_mode, entry_births_in, entry_births_of, field_birth, held_births, parameter_births, this_birth, this_mode, parameter_mode, origin_of, fact_at, has_this}
use Rattle.ledger_state.specs.Values.{value_or_nothing}
use Rattle.ledger_state.specs.declared.value.Value.{Value}
use Rattle.ledger_state.specs.declared.value.Value.TheVariants as values
use Rattle.program_model.specs.declared.program.Sig.{Sig}
use Rattle.program_model.specs.declared.kinds.MethodKind.{MethodKind}
use Rattle.ownership_rules.specs.Signatures.{is_position}
use Rattle.ownership_rules.specs.Facts.{is_this_origin, is_own, is_held}
use Rattle.covering_laws.proofs.CallResults.{not_lent_none}
use Rattle.ledger_obligations.specs.MustCallSets.{no_names}
use Rattle.program_model.specs.Validity.{HasParameters}
use Rattle.program_model.specs.declared.tree.Var.{Var}
use Rattle.program_model.specs.declared.kinds.ClassId.{ClassId}
use Rattle.program_model.specs.declared.kinds.VType.{VType}
use Rattle.program_model.specs.declared.kinds.VType.TheVariants as types
use Rattle.program_model.specs.SuperTests.{is_class}

-- ---- words

-- what makes objects is a constructor
pub constructor_kind : (k : MethodKind) → is_constructor_kind k ≡ true → k ≡ methods.Ctor
constructor_kind methods.Ctor is = refl
constructor_kind methods.Instance is = absurd (true≢false (sym is))
constructor_kind methods.Static is = absurd (true≢false (sym is))
constructor_kind methods.Constant is = absurd (true≢false (sym is))

-- what a list has at a number below its length
pub element_there : {X : Type 0} (xs : List X) (i : ℕ) → i < length xs → (x : X) × (slice_get xs i ≡ Some x)
element_there [] i inside = absurd (omega (arith, inside))
element_there (x ∷ xs) zero inside = (x, refl)
element_there (x ∷ xs) (suc i) inside = element_there xs i (omega (arith, inside))

-- ---- lists

no_element : {X : Type 0} (i : ℕ) (x : X) → slice_get [] i ≡ Some x → ⊥
no_element zero x is = let never : None ≡ Some x = is in cc
no_element (suc i) x is = let never : None ≡ Some x = is in cc

pub in_front : {X : Type 0} (xs ys : List X) (n : ℕ) (x : X) → slice_get xs n ≡ Some x → slice_get (xs ++ ys) n ≡ Some x
in_front [] ys n x is = absurd (no_element n x is)
in_front (z ∷ xs) ys zero x is = is
in_front (z ∷ xs) ys (suc n) x is = in_front xs ys n x is

pub behind_all : {X : Type 0} (xs ys : List X) (n : ℕ) (y : X) → slice_get ys n ≡ Some y → (k : ℕ) × (slice_get (xs ++ ys) k ≡ Some y)
behind_all [] ys n y is = (n, is)
behind_all (x ∷ xs) ys n y is = let k = behind_all xs ys n y is in (suc k.0, k.1)

pub optional_first : {X : Type 0} (x : Option X) (ys : List X) (y : X) → x ≡ Some y → slice_get (optional x ++ ys) 0 ≡ Some y
optional_first None ys y is = absurd (let never : None ≡ Some y = is in cc)
optional_first (Some x) ys y is = is

pub mapped_there : {X Y : Type 0} (f : X → Option Y) (xs : List X) (i : ℕ) (x : X) (y : Y) → slice_get xs i ≡ Some x → f x ≡ Some y → (k : ℕ) × (slice_get (filter_map f xs) k ≡ Some y)
mapped_there f [] i x y at is = absurd (no_element i x at)
mapped_there f (z ∷ xs) zero x y at is =
    let same : f z ≡ Some y = ap f (let both : Some z ≡ Some x = at in (let one : z ≡ x = cc in one)) ∙ is in
    (0, rw same refl)
mapped_there {Y = Y} f (z ∷ xs) (suc i) x y at is = go (f z) refl (mapped_there f xs i x y at is)
  where
    go : (u : Option Y) → f z ≡ u → (k : ℕ) × (slice_get (filter_map f xs) k ≡ Some y) → (k : ℕ) × (slice_get (filter_map f (z ∷ xs)) k ≡ Some y)
    go None e rest = (rest.0, rw e (rest.1))
    go (Some w) e rest = (suc rest.0, rw e (rest.1))

-- ---- parameters that are alike

or_parts : (a b : Bool) → (a || b) ≡ false → (a ≡ false) × (b ≡ false)
or_parts true b is = absurd (true≢false is)
or_parts false b is = (refl, is)

-- the parameter of the method that runs which stands where one of the named signature does
pub alike_parameter : (xs ys : List ParamSig) (i : ℕ) (y : ParamSig) → are_types xs ys ≡ true → has_other_owning xs ys ≡ false → slice_get ys i ≡ Some y
    → (x : ParamSig) × (slice_get xs i ≡ Some x) × (is_type x.vtype y.vtype ≡ true) × (differ x.owning y.owning ≡ false)
alike_parameter xs [] i y types owning at = absurd (no_element i y at)
alike_parameter [] (z ∷ ys) i y types owning at = absurd (true≢false (sym types))
alike_parameter (x ∷ xs) (z ∷ ys) zero y types owning at =
    let same : z ≡ y = (let both : Some z ≡ Some y = at in (let one : z ≡ y = cc in one)) in (
      x,
      refl,
      subst (λ (u : ParamSig). is_type x.vtype u.vtype ≡ true) same (and_parts (is_type x.vtype z.vtype) (are_types xs ys) types).0,
      subst (λ (u : ParamSig). differ x.owning u.owning ≡ false) same (or_parts (differ x.owning z.owning) (has_other_owning xs ys) owning).0,
    )
alike_parameter (x ∷ xs) (z ∷ ys) (suc i) y types owning at =
    alike_parameter xs ys i y (and_parts (is_type x.vtype z.vtype) (are_types xs ys) types).1 (or_parts (differ x.owning z.owning) (has_other_owning xs ys) owning).1 at

pub same_mark : (a b : Bool) → differ a b ≡ false → a ≡ true → b ≡ true
same_mark true true same is = refl
same_mark true false same is = absurd (true≢false same)
same_mark false b same is = absurd (true≢false (sym is))

-- ---- births by their numbers

module _ (p : Program) (number : BodyId) (b : Body) (m : Method) (at : body_at p number ≡ Some b) (named : method_at p b.method ≡ Some m) where
  entry_is : births_at_entry p number ≡ parameter_births p b m.sig 0 m.sig.params.items ++ (optional (this_birth p m) ++ held_births p number m.kind)
  entry_is = ap (entry_births_in p number) at ∙ ap (entry_births_of p number b) named

  abbrev IsBorn : Origin × Fact → Type 0
  IsBorn birth = (n : ℕ) × (slice_get (births_at_entry p number) n ≡ Some birth)

  moved : (birth : Origin × Fact) → (n : ℕ) × (slice_get (parameter_births p b m.sig 0 m.sig.params.items ++ (optional (this_birth p m) ++ held_births p number m.kind)) n ≡ Some birth) → IsBorn birth
  moved birth there = (there.0, ap (λ (z : List (Origin × Fact)). slice_get z there.0) entry_is ∙ there.1)

  pub of_parameter : (n : ℕ) (birth : Origin × Fact) → slice_get (parameter_births p b m.sig 0 m.sig.params.items) n ≡ Some birth → IsBorn birth
  of_parameter n birth is = moved birth (n, in_front (parameter_births p b m.sig 0 m.sig.params.items) (optional (this_birth p m) ++ held_births p number m.kind) n birth is)

  pub of_this : (birth : Origin × Fact) → this_birth p m ≡ Some birth → IsBorn birth
  of_this birth is = moved birth (behind_all (parameter_births p b m.sig 0 m.sig.params.items) (optional (this_birth p m) ++ held_births p number m.kind) 0 birth
      (optional_first (this_birth p m) (held_births p number m.kind) birth is))

  pub of_field : (i : ℕ) (f : FieldId) (birth : Origin × Fact) → m.kind ≡ methods.Instance → slice_get (fields_of p number) i ≡ Some f → field_birth p number None f ≡ Some birth → IsBorn birth
  of_field i f birth kind there is =
      let n = mapped_there (field_birth p number None) (fields_of p number) i f birth there is in
      let held : slice_get (held_births p number m.kind) n.0 ≡ Some birth = ap (λ k. slice_get (held_births p number k) n.0) kind ∙ n.1 in
      let later = behind_all (optional (this_birth p m)) (held_births p number m.kind) n.0 birth held in
      moved birth (behind_all (parameter_births p b m.sig 0 m.sig.params.items) (optional (this_birth p m) ++ held_births p number m.kind) later.0 birth later.1)

-- ---- the variables of a frame that begins

-- values behind the arguments hold nothing
blank : (n i : ℕ) → value_or_nothing (slice_get (replicate n values.Nothing) i) ≡ values.Nothing
blank n i = go (replicate n values.Nothing) (All-replicate (λ (v : Value). v ≡ values.Nothing) n values.Nothing refl) i
  where
    go : (xs : List Value) → All (λ (v : Value). v ≡ values.Nothing) xs → (i : ℕ) → value_or_nothing (slice_get xs i) ≡ values.Nothing
    go [] all zero = refl
    go [] all (suc i) = refl
    go (x ∷ xs) all zero = All-head (λ (v : Value). v ≡ values.Nothing) x xs all
    go (x ∷ xs) all (suc i) = go xs (All-tail (λ (v : Value). v ≡ values.Nothing) x xs all) i

-- a variable holds its argument, or nothing
pub argument_or_nothing : (arguments : List Value) (n i : ℕ)
    → (slice_get arguments i ≡ Some (value_or_nothing (slice_get (arguments ++ replicate n values.Nothing) i))) ⊎ (value_or_nothing (slice_get (arguments ++ replicate n values.Nothing) i) ≡ values.Nothing)
argument_or_nothing [] n i = inr (blank n i)
argument_or_nothing (v ∷ vs) n zero = inl refl
argument_or_nothing (v ∷ vs) n (suc i) = argument_or_nothing vs n i

-- ---- what is born as lent

-- a parameter is born as lent at the position of the reset
pub lent_parameter : (s : Sig) (k : ℕ) (x : ParamSig) → parameter_mode s k x ≡ modes.Lent → s.reset ≡ Some k
lent_parameter s k x mode = by x.owning (is_position s.alias k) s.reset mode
  where
    by : (a b : Bool) (r : Option ℕ) → (if a then modes.Own else (if b then modes.Alias else (if is_position r k then modes.Lent else modes.None))) ≡ modes.Lent → r ≡ Some k
    by true b r is = absurd (let never : modes.Own ≡ modes.Lent = is in cc)
    by false true r is = absurd (let never : modes.Alias ≡ modes.Lent = is in cc)
    by false false None is = absurd (not_lent_none is)
    by false false (Some n) is = at (nat_eq n k) refl is
      where
        at : (d : Bool) → nat_eq n k ≡ d → (if d then modes.Lent else modes.None) ≡ modes.Lent → Some n ≡ Some k
        at true e one = ap Some (eqb-true n k e)
        at false e one = absurd (not_lent_none one)

lent_method : (s : Sig) → method_mode s ≡ modes.Lent → s.reset ≡ Some 0
lent_method s mode = by s.reset (is_position s.alias 0) mode
  where
    by : (r : Option ℕ) (b : Bool) → (if is_position r 0 then modes.Lent else (if b then modes.Alias else modes.None)) ≡ modes.Lent → r ≡ Some 0
    by None true is = absurd (let never : modes.Alias ≡ modes.Lent = is in cc)
    by None false is = absurd (not_lent_none is)
    by (Some n) b is = at (nat_eq n 0) refl is
      where
        other : (d : Bool) → (if d then modes.Alias else modes.None) ≡ modes.Lent → ⊥
        other true one = let never : modes.Alias ≡ modes.Lent = one in cc
        other false one = not_lent_none one

        at : (d : Bool) → nat_eq n 0 ≡ d → (if d then modes.Lent else (if b then modes.Alias else modes.None)) ≡ modes.Lent → Some n ≡ Some 0
        at true e one = ap Some (eqb-true n 0 e)
        at false e one = absurd (other b one)

-- so is `this` of a method that is no constructor
pub lent_this : (s : Sig) (k : MethodKind) → is_constructor_kind k ≡ false → this_mode s k ≡ modes.Lent → s.reset ≡ Some 0
lent_this s methods.Ctor other mode = absurd (true≢false other)
lent_this s methods.Instance other mode = lent_method s mode
lent_this s methods.Static other mode = lent_method s mode
lent_this s methods.Constant other mode = lent_method s mode

-- the origin of a parameter is not `this`
pub no_parameter : (i : ℕ) → is_this_origin (kinds.Param i) ≡ true → ⊥
no_parameter i is = let same : i + 1 ≡ 0 = eqb-true (i + 1) 0 is in omega (arith, same)

-- ---- modes at birth

none_or_alias : (a b : Bool) → (is_own (if a then modes.Lent else (if b then modes.Alias else modes.None)) || is_held (if a then modes.Lent else (if b then modes.Alias else modes.None))) ≡ false
none_or_alias true b = refl
none_or_alias false true = refl
none_or_alias false false = refl

pub this_unowned : (s : Sig) (k : MethodKind) → (is_own (this_mode s k) || is_held (this_mode s k)) ≡ false
this_unowned s methods.Ctor = refl
this_unowned s methods.Instance = none_or_alias _ _
this_unowned s methods.Static = none_or_alias _ _
this_unowned s methods.Constant = none_or_alias _ _

pub this_born : (p : Program) (m : Method) → has_this m.kind ≡ true → this_birth p m ≡ Some (origin_of p kinds.ThisRef m.pos m.class None, fact_at places.This (this_mode m.sig m.kind) no_names true)
this_born p m has' = rw has' refl

-- ---- parameters and types

-- each parameter has a variable
pub parameter_at : (vars : List Var) (params : List ParamSig) (i : ℕ) (q : ParamSig) → HasParameters vars params → slice_get params i ≡ Some q → (v : Var) × (slice_get vars i ≡ Some v)
parameter_at vars [] i q has' is = absurd (no_element i is)
  where
    no_element : (n : ℕ) → slice_get [] n ≡ Some q → ⊥
    no_element zero none = let never : None ≡ Some q = none in cc
    no_element (suc n) none = let never : None ≡ Some q = none in cc
parameter_at [] (x ∷ params) i q has' is = absurd has'
parameter_at (v ∷ vars) (x ∷ params) zero q has' is = (v, refl)
parameter_at (v ∷ vars) (x ∷ params) (suc i) q has' is = parameter_at vars params i q has'.1 is

same_class : (c d : ClassId) → is_class c d ≡ true → c ≡ d
same_class c d is = ap (λ (n : ℕ). (let z : ClassId = record { 0 = n } in z)) (eqb-true c.0 d.0 is)

-- a class type is that of the class
pub class_type_is : (t : VType) (c : ClassId) → is_type t (types.Obj c) ≡ true → t ≡ types.Obj c
class_type_is (types.Obj d) c is = ap types.Obj (same_class d c is)
class_type_is (types.Primitive u) c is = absurd (true≢false (sym is))
class_type_is types.Str c is = absurd (true≢false (sym is))
class_type_is (types.Arr u) c is = absurd (true≢false (sym is))
class_type_is types.NullType c is = absurd (true≢false (sym is))
