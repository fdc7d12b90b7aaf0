-- The facts of arguments as a body is entered: each is in the place of its argument alone, and the frame owns its object only where the parameter is owning. `this` has one, and a parameter of a
-- class type.
use Rattle.std.proofs.Common.{◌≡◌, ◌∙◌, ap, refl, sym, subst, arith, ℕ, zero, suc, ◌+◌, Bool, true, false, true≢false, Option, Some, None, List, [], ◌∷◌, ◌++◌, slice_get}
use Rattle.std.specs.Prelude.{if◌then◌else◌}
use Rattle.std.specs.FinSet as set
use Rattle.program_model.specs.declared.kinds.BodyId.{BodyId}
use Rattle.program_model.specs.declared.kinds.ClassId.{ClassId}
use Rattle.program_model.specs.declared.kinds.MethodKind.{MethodKind}
use Rattle.program_model.specs.declared.kinds.MethodKind.TheVariants as methods
use Rattle.program_model.specs.declared.kinds.VType.{VType}
use Rattle.program_model.specs.declared.kinds.VType.TheVariants as types
use Rattle.program_model.specs.declared.program.Method.{Method}
use Rattle.program_model.specs.declared.program.ParamSig.{ParamSig}
use Rattle.program_model.specs.declared.program.Program.{Program}
use Rattle.program_model.specs.declared.program.Sig.{Sig}
use Rattle.program_model.specs.declared.tree.Body.{Body}
use Rattle.program_model.specs.declared.tree.Var.{Var}
use Rattle.program_model.specs.Lookups.{body_at, method_at, optional, variable_at}
use Rattle.java_control.specs.PlaceNumbers.{number_of}
use Rattle.control_actions.specs.declared.fact.Fact.{Fact}
use Rattle.control_actions.specs.declared.fact.Mode.TheVariants as modes
use Rattle.control_actions.specs.declared.fact.Origin.{Origin}
use Rattle.control_actions.specs.declared.fact.OriginKind.TheVariants as kinds
use Rattle.control_actions.specs.declared.place.Place.TheVariants as places
use Rattle.ownership_rules.specs.Births.{Birth, births_at_entry, born, born_in, class_of, entry_births_in, entry_births_of, fact_at, has_this, held_births, origin_of, parameter_birth, parameter_births, parameter_mode, this_birth, this_mode}
use Rattle.ownership_rules.specs.Bodies.{fields_of}
use Rattle.ownership_rules.specs.Facts.{is_own, position_of}
use Rattle.ownership_rules.specs.MustCallSets.{no_names}
use Rattle.ownership_rules.specs.Signatures.{is_position, owning_in}
use Rattle.fact_laws.specs.Positions.{argument_place}
use Rattle.fact_laws.proofs.EntryFacts.{IsElsewhere, born_so, fields_elsewhere}
use Rattle.fact_laws.proofs.ParameterBirths.{AllBirths, OnBirth, birth_at, births_both, listed}

-- the argument is that of an owning parameter
abbrev pub is_owning_argument : Method → ℕ → Bool
is_owning_argument m zero = false
is_owning_argument m (suc v) = owning_in (slice_get m.sig.params.items v)

-- ---- what is born

parameter_own : (s : Sig) (k : ℕ) (q : ParamSig) → is_own (parameter_mode s k q) ≡ true → q.owning ≡ true
parameter_own s k q is = by q.owning (is_position s.alias k) (is_position s.reset k) is
  where
    by : (x y z : Bool) → is_own (if x then modes.Own else (if y then modes.Alias else (if z then modes.Lent else modes.None))) ≡ true → x ≡ true
    by true y z own = refl
    by false true z own = own
    by false false true own = own
    by false false false own = own

this_unowned : (s : Sig) (kind : MethodKind) → is_own (this_mode s kind) ≡ false
this_unowned s kind = by_kind kind
  where
    by : (x y : Bool) → is_own (if x then modes.Lent else (if y then modes.Alias else modes.None)) ≡ false
    by true y = refl
    by false true = refl
    by false false = refl

    by_kind : (k : MethodKind) → is_own (this_mode s k) ≡ false
    by_kind methods.Ctor = refl
    by_kind methods.Instance = by (is_position s.reset 0) (is_position s.alias 0)
    by_kind methods.Static = by (is_position s.reset 0) (is_position s.alias 0)
    by_kind methods.Constant = by (is_position s.reset 0) (is_position s.alias 0)

module _ (p : Program) (m : Method) where
  -- the fact of the argument of a position is in its place alone, and owned only where the parameter is owning
  abbrev IsOfArgument : Birth → Type 0
  IsOfArgument birth = (k : ℕ) → position_of (birth.0).kind ≡ Some k
      → ((birth.1).places ≡ set.insert set.empty (number_of (argument_place k))) × (is_own (birth.1).mode ≡ true → is_owning_argument m k ≡ true)

  parameter_alone : (b : Body) (k : ℕ) (q : ParamSig) → slice_get m.sig.params.items k ≡ Some q → OnBirth IsOfArgument (parameter_birth p m.sig k q (variable_at b k))
  parameter_alone b k q at = go (variable_at b k)
    where
      go : (v : Option Var) → OnBirth IsOfArgument (parameter_birth p m.sig k q v)
      go None = tt
      go (Some v) = born_so IsOfArgument p (kinds.Param k) v.pos (Some q.vtype) None (fact_at (places.Var k) (parameter_mode m.sig (k + 1) q) q.before true) (λ c class j position.
          let same : suc k ≡ j = (let next : suc k ≡ k + 1 = omega arith in next) ∙ (let both : Some (k + 1) ≡ Some j = position in (let one : k + 1 ≡ j = cc in one)) in (
            ap (λ (i : ℕ). set.insert set.empty (number_of (argument_place i))) same,
            (λ own. ap (is_owning_argument m) (sym same) ∙ ap owning_in at ∙ parameter_own m.sig (k + 1) q own),
          ))

  parameters_alone : (b : Body) (k : ℕ) (qs : List ParamSig) → ((j : ℕ) → slice_get m.sig.params.items (k + j) ≡ slice_get qs j) → AllBirths IsOfArgument (parameter_births p b m.sig k qs)
  parameters_alone b k [] at = tt
  parameters_alone b k (q ∷ qs) at =
      births_both IsOfArgument (optional (parameter_birth p m.sig k q (variable_at b k))) (parameter_births p b m.sig (k + 1) qs)
      (listed IsOfArgument (parameter_birth p m.sig k q (variable_at b k)) (parameter_alone b k q (ap (slice_get m.sig.params.items) (let first : k ≡ k + 0 = omega arith in first) ∙ at 0)))
      (parameters_alone b (k + 1) qs (λ j. ap (slice_get m.sig.params.items) (let next : k + 1 + j ≡ k + suc j = omega arith in next) ∙ at (suc j)))

  this_alone : OnBirth IsOfArgument (this_birth p m)
  this_alone = go (has_this m.kind)
    where
      go : (y : Bool) → OnBirth IsOfArgument (if y then born p kinds.ThisRef m.pos (Some (types.Obj m.class)) None (fact_at places.This (this_mode m.sig m.kind) no_names true) else None)
      go true = λ j position. (
        ap (λ (i : ℕ). set.insert set.empty (number_of (argument_place i))) (let both : Some 0 ≡ Some j = position in (let one : 0 ≡ j = cc in one)),
        (λ own. absurd (true≢false (sym own ∙ this_unowned m.sig m.kind))),
      )
      go false = tt

  -- what is born elsewhere is of no position
  others_alone : (xs : List Birth) → AllBirths IsElsewhere xs → AllBirths IsOfArgument xs
  others_alone [] all = tt
  others_alone (y ∷ xs) all = ((λ j position. absurd (let never : None ≡ Some j = sym (all.0).1 ∙ position in cc)), others_alone xs all.1)

  held_alone : (b : BodyId) (kind : MethodKind) → AllBirths IsOfArgument (held_births p b kind)
  held_alone b methods.Ctor = tt
  held_alone b methods.Instance = others_alone (held_births p b methods.Instance) (fields_elsewhere p b None (fields_of p b))
  held_alone b methods.Static = tt
  held_alone b methods.Constant = tt

  module _ (b : BodyId) (x : Body) (at : body_at p b ≡ Some x) (of : method_at p x.method ≡ Some m) where
    pub argument_alone : (n : ℕ) (o : Origin) (f : Fact) → slice_get (births_at_entry p b) n ≡ Some (o, f) → (k : ℕ) → position_of o.kind ≡ Some k
        → (f.places ≡ set.insert set.empty (number_of (argument_place k))) × (is_own f.mode ≡ true → is_owning_argument m k ≡ true)
    argument_alone n o f there = birth_at IsOfArgument (births_at_entry p b) n (o, f) all there
      where
        all : AllBirths IsOfArgument (births_at_entry p b)
        all = subst (λ (y : Option Body). AllBirths IsOfArgument (entry_births_in p b y)) (sym at) (subst (λ (y : Option Method). AllBirths IsOfArgument (entry_births_of p b x y)) (sym of)
            (births_both IsOfArgument (parameter_births p x m.sig 0 m.sig.params.items) (optional (this_birth p m) ++ held_births p b m.kind)
            (parameters_alone x 0 m.sig.params.items (λ j. ap (slice_get m.sig.params.items) (let same : 0 + j ≡ j = omega arith in same)))
            (births_both IsOfArgument (optional (this_birth p m)) (held_births p b m.kind) (listed IsOfArgument (this_birth p m) this_alone) (held_alone b m.kind))))

    -- ---- births by their numbers

    no_element : {X : Type 0} (i : ℕ) (y : X) → slice_get [] i ≡ Some y → ⊥
    no_element zero y is = let never : None ≡ Some y = is in cc
    no_element (suc i) y is = let never : None ≡ Some y = is in cc

    in_front : {X : Type 0} (xs ys : List X) (n : ℕ) (y : X) → slice_get xs n ≡ Some y → slice_get (xs ++ ys) n ≡ Some y
    in_front [] ys n y is = absurd (no_element n y is)
    in_front (z ∷ xs) ys zero y is = is
    in_front (z ∷ xs) ys (suc n) y is = in_front xs ys n y is

    behind_all : {X : Type 0} (xs ys : List X) (n : ℕ) (y : X) → slice_get ys n ≡ Some y → (k : ℕ) × (slice_get (xs ++ ys) k ≡ Some y)
    behind_all [] ys n y is = (n, is)
    behind_all (x ∷ xs) ys n y is = let k = behind_all xs ys n y is in (suc k.0, k.1)

    optional_there : {X : Type 0} (z : Option X) (y : X) → z ≡ Some y → slice_get (optional z) 0 ≡ Some y
    optional_there None y is = absurd (let never : None ≡ Some y = is in cc)
    optional_there (Some z) y is = is

    entry_is : births_at_entry p b ≡ parameter_births p x m.sig 0 m.sig.params.items ++ (optional (this_birth p m) ++ held_births p b m.kind)
    entry_is = ap (entry_births_in p b) at ∙ ap (entry_births_of p b x) of

    abbrev IsBorn : Birth → Type 0
    IsBorn birth = (n : ℕ) × (slice_get (births_at_entry p b) n ≡ Some birth)

    moved : (birth : Birth) → (n : ℕ) × (slice_get (parameter_births p x m.sig 0 m.sig.params.items ++ (optional (this_birth p m) ++ held_births p b m.kind)) n ≡ Some birth) → IsBorn birth
    moved birth there = (there.0, ap (λ (z : List Birth). slice_get z there.0) entry_is ∙ there.1)

    -- the fact of `this`
    pub this_is_born : has_this m.kind ≡ true → (n : ℕ) × (slice_get (births_at_entry p b) n ≡ Some (origin_of p kinds.ThisRef m.pos m.class None, fact_at places.This (this_mode m.sig m.kind) no_names true))
    this_is_born has' = moved birth (behind_all (parameter_births p x m.sig 0 m.sig.params.items) (optional (this_birth p m) ++ held_births p b m.kind) 0 birth
        (in_front (optional (this_birth p m)) (held_births p b m.kind) 0 birth (optional_there (this_birth p m) birth is)))
      where
        birth : Birth
        birth = (origin_of p kinds.ThisRef m.pos m.class None, fact_at places.This (this_mode m.sig m.kind) no_names true)

        is : this_birth p m ≡ Some birth
        is = rw has' refl

    -- the fact of a parameter
    abbrev birth_of : ℕ → ParamSig → Var → ClassId → Birth
    birth_of v q y c = (origin_of p (kinds.Param v) y.pos c None, fact_at (places.Var v) (parameter_mode m.sig (v + 1) q) q.before true)

    parameter_there : (v : ℕ) (q : ParamSig) (y : Var) (c : ClassId) → variable_at x v ≡ Some y → q.vtype ≡ types.Obj c → parameter_birth p m.sig v q (variable_at x v) ≡ Some (birth_of v q y c)
    parameter_there v q y c here class =
        ap (parameter_birth p m.sig v q) here
        ∙ ap (λ (t : VType). born_in p (kinds.Param v) y.pos (class_of (Some t)) None (fact_at (places.Var v) (parameter_mode m.sig (v + 1) q) q.before true)) class

    parameter_listed : (k : ℕ) (qs : List ParamSig) (j v : ℕ) (q : ParamSig) (y : Var) (c : ClassId) → slice_get qs j ≡ Some q → v ≡ k + j → variable_at x v ≡ Some y → q.vtype ≡ types.Obj c
        → (n : ℕ) × (slice_get (parameter_births p x m.sig k qs) n ≡ Some (birth_of v q y c))
    parameter_listed k [] j v q y c here same variable class = absurd (no_element j q here)
    parameter_listed k (u ∷ qs) zero v q y c here same variable class =
        let one : u ≡ q = (let both : Some u ≡ Some q = here in (let it : u ≡ q = cc in it)) in
        let first : v ≡ k = omega (arith, same) in (
          0,
          in_front (optional (parameter_birth p m.sig k u (variable_at x k))) (parameter_births p x m.sig (k + 1) qs) 0 (birth_of v q y c)
              (optional_there (parameter_birth p m.sig k u (variable_at x k)) (birth_of v q y c)
              (ap (λ (w : ParamSig). parameter_birth p m.sig k w (variable_at x k)) one ∙ ap (λ (i : ℕ). parameter_birth p m.sig i q (variable_at x i)) (sym first) ∙ parameter_there v q y c variable class)),
        )
    parameter_listed k (u ∷ qs) (suc j) v q y c here same variable class =
        let n = parameter_listed (k + 1) qs j v q y c here (omega (arith, same)) variable class in
        behind_all (optional (parameter_birth p m.sig k u (variable_at x k))) (parameter_births p x m.sig (k + 1) qs) n.0 (birth_of v q y c) n.1

    pub parameter_is_born : (v : ℕ) (q : ParamSig) (y : Var) (c : ClassId) → slice_get m.sig.params.items v ≡ Some q → variable_at x v ≡ Some y → q.vtype ≡ types.Obj c
        → (n : ℕ) × (slice_get (births_at_entry p b) n ≡ Some (origin_of p (kinds.Param v) y.pos c None, fact_at (places.Var v) (parameter_mode m.sig (v + 1) q) q.before true))
    parameter_is_born v q y c here variable class =
        let n = parameter_listed 0 m.sig.params.items v v q y c here (let same : v ≡ 0 + v = omega arith in same) variable class in
        moved (birth_of v q y c) (n.0, in_front (parameter_births p x m.sig 0 m.sig.params.items) (optional (this_birth p m) ++ held_births p b m.kind) n.0 (birth_of v q y c) n.1)
