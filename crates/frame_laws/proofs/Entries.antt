-- The frame of a call that begins: it stands at the start of its body, and tracks the objects of its owning parameters.
use Rattle.std.proofs.Common.{◌≡◌, ℕ, zero, suc, ◌+◌, ◌-◌, ◌<◌, ◌≤◌, Bool, true, false, ◌||◌, Option, Some, None, IsSomeAnd, List, [], ◌∷◌, ◌++◌, length, map, replicate, slice_get, refl, sym, ap, ◌∙◌, subst, true≢false, arith, eqb-true}
use Rattle.std.specs.FinSet as set
use Rattle.std.specs.List.{range_with_len}
use Rattle.std.proofs.lemmas.Bool.{and_parts}
use Rattle.std.proofs.lemmas.List.{length-replicate}
use Rattle.std.proofs.lemmas.List.FromFn.{get_or-map-range_with_len, length-map-range_with_len}
use Rattle.std.proofs.lemmas.Option.{slice_get-get_or, slice_get_within}
use Rattle.rlc_base.proofs.SetLaws.{within_trans}
use Rattle.program_model.specs.declared.kinds.BodyId.{BodyId}
use Rattle.program_model.specs.declared.kinds.ClassId.{ClassId}
use Rattle.program_model.specs.declared.kinds.MethodId.{MethodId}
use Rattle.program_model.specs.declared.kinds.VType.{VType}
use Rattle.program_model.specs.declared.kinds.VType.TheVariants as types
use Rattle.program_model.specs.declared.program.Method.{Method}
use Rattle.program_model.specs.declared.program.ParamSig.{ParamSig}
use Rattle.program_model.specs.declared.program.Program.{Program}
use Rattle.program_model.specs.declared.program.Sig.{Sig}
use Rattle.program_model.specs.declared.tree.Body.{Body}
use Rattle.program_model.specs.declared.tree.Var.{Var}
use Rattle.program_model.specs.Lookups.{body_at, method_at, optional, variable_at}
use Rattle.program_model.specs.Overrides.{are_types, is_type}
use Rattle.program_model.specs.SuperTests.{is_class}
use Rattle.program_model.specs.Validity.{HasParameters, IsBodyOf, OwnsBody}
use Rattle.ledger_steps.specs.MustCallSets.{fits, must_of}
use Rattle.agreement.specs.OverrideCases.{differ, has_other_owning}
use Rattle.java_control.specs.Control.{start_of}
use Rattle.control_actions.specs.declared.fact.Fact.{Fact}
use Rattle.control_actions.specs.declared.fact.Mode.TheVariants as modes
use Rattle.control_actions.specs.declared.fact.Origin.{Origin}
use Rattle.control_actions.specs.declared.fact.OriginKind.TheVariants as kinds
use Rattle.control_actions.specs.declared.place.Place.{Place}
use Rattle.control_actions.specs.declared.place.Place.TheVariants as places
use Rattle.java_control.specs.Remaining.{Todo}
use Rattle.ownership_rules.specs.Births.{births_at_entry, entry_births_in, entry_births_of, fact_at, held_births, origin_of, parameter_birth, parameter_births, this_birth}
use Rattle.ownership_rules.specs.Room.{variables_in}
use Rattle.fact_laws.specs.Accept.{Accept}
use Rattle.fact_laws.specs.Paths.{Reach, entered, relation_of, start}
use Rattle.ledger_state.specs.Contents.{HeapContents}
use Rattle.ledger_state.specs.Heaps.{root_of}
use Rattle.ledger_state.specs.Locals.{variable_value}
use Rattle.ledger_state.specs.Values.{value_or_nothing}
use Rattle.ledger_state.specs.declared.object.Object.{Object}
use Rattle.ledger_state.specs.declared.value.Value.{Value}
use Rattle.ledger_state.specs.declared.value.Value.TheVariants as values
use Rattle.agreement.specs.Places.{place_value}
use Rattle.ledger_steps.specs.LedgerCallsCalls.{begun, body_of, control_in, variable_count}
use Rattle.ledger_steps.specs.LedgerCallsCalls as calls
use Rattle.ledger_moves.specs.Configuration.{Frame}
use Rattle.ledger_moves.specs.Moves.{has_body}
use Rattle.agreement.specs.PlacePlaces.{is_local}
use Rattle.fact_laws.proofs.PlaceLaws.{single_place-alone, single_place-has, single_place-same, single_place-some}
use Rattle.agreement.specs.Agreement.{Stands, Tracks}

-- ---- lists

no_element : {X : Type 0} (i : ℕ) (x : X) → slice_get [] i ≡ Some x → ⊥
no_element zero x is = let never : None ≡ Some x = is in cc
no_element (suc i) x is = let never : None ≡ Some x = is in cc

past : {X : Type 0} (xs : List X) (i : ℕ) → i < length xs → slice_get xs i ≡ None → ⊥
past [] i inside is = omega (arith, inside)
past (x ∷ xs) zero inside is = let never : Some x ≡ None = is in cc
past (x ∷ xs) (suc i) inside is = past xs i (omega (arith, inside)) is

length_both : {X : Type 0} (xs ys : List X) → length (xs ++ ys) ≡ length xs + length ys
length_both [] ys = omega arith
length_both (x ∷ xs) ys = let rest = length_both xs ys in omega (arith, rest)

get_left : {X : Type 0} (xs ys : List X) (n : ℕ) (x : X) → slice_get xs n ≡ Some x → slice_get (xs ++ ys) n ≡ Some x
get_left [] ys n x is = absurd (no_element n x is)
get_left (z ∷ xs) ys zero x is = is
get_left (z ∷ xs) ys (suc n) x is = get_left xs ys n x is

-- an element of a list that stands behind another one or none
get_behind : {X : Type 0} (z : Option X) (xs : List X) (n : ℕ) (x : X) → slice_get xs n ≡ Some x → (k : ℕ) × (slice_get (optional z ++ xs) k ≡ Some x)
get_behind None xs n x is = (n, is)
get_behind (Some z) xs n x is = (suc n, is)

-- the variable of a parameter
parameter_variable : (vars : List Var) (params : List ParamSig) (i : ℕ) (q : ParamSig) → HasParameters vars params → slice_get params i ≡ Some q → (v : Var) × (slice_get vars i ≡ Some v)
parameter_variable vars [] i q has is = absurd (no_element i q is)
parameter_variable [] (x ∷ params) i q has is = absurd has
parameter_variable (v ∷ vars) (x ∷ params) zero q has is = (v, refl)
parameter_variable (v ∷ vars) (x ∷ params) (suc i) q has is = parameter_variable vars params i q has.1 is

pub parameters_fit : (vars : List Var) (params : List ParamSig) → HasParameters vars params → length params ≤ length vars
parameters_fit vars [] has = omega arith
parameters_fit [] (x ∷ params) has = absurd has
parameters_fit (v ∷ vars) (x ∷ params) has = let rest = parameters_fit vars params has.1 in omega (arith, rest)

-- ---- parameters that are alike

same_class : (c d : ClassId) → is_class c d ≡ true → c ≡ d
same_class c d is = ap (λ (n : ℕ). (let z : ClassId = record { 0 = n } in z)) (eqb-true c.0 d.0 is)

object_type : (t : VType) (c : ClassId) → is_type t (types.Obj c) ≡ true → t ≡ types.Obj c
object_type (types.Obj d) c is = ap types.Obj (same_class d c is)
object_type (types.Primitive u) c is = absurd (true≢false (sym is))
object_type types.Str c is = absurd (true≢false (sym is))
object_type (types.Arr u) c is = absurd (true≢false (sym is))
object_type types.NullType c is = absurd (true≢false (sym is))

or_parts : (a b : Bool) → (a || b) ≡ false → (a ≡ false) × (b ≡ false)
or_parts true b is = absurd (true≢false is)
or_parts false b is = (refl, is)

not_differ : (a b : Bool) → differ a b ≡ false → b ≡ true → a ≡ true
not_differ true b same is = refl
not_differ false true same is = absurd (true≢false same)
not_differ false false same is = is

-- the parameter of the method that runs which stands where an owning one of the named signature does
pub like_parameter : (xs ys : List ParamSig) (i : ℕ) (y : ParamSig) (c : ClassId) → are_types xs ys ≡ true → has_other_owning xs ys ≡ false → slice_get ys i ≡ Some y → y.owning ≡ true → y.vtype ≡ types.Obj c
    → (x : ParamSig) × (slice_get xs i ≡ Some x) × (x.owning ≡ true) × (x.vtype ≡ types.Obj c)
like_parameter xs [] i y c types' owning at is type = absurd (no_element i y at)
like_parameter [] (z ∷ ys) i y c types' owning at is type = absurd (true≢false (sym types'))
like_parameter (x ∷ xs) (z ∷ ys) zero y c types' owning at is type =
    let same : z ≡ y = (let both : Some z ≡ Some y = at in cc) in
    let like = and_parts (is_type x.vtype z.vtype) (are_types xs ys) types' in
    let marks = or_parts (differ x.owning z.owning) (has_other_owning xs ys) owning in (
      x,
      refl,
      not_differ x.owning z.owning marks.0 (ap (λ (u : ParamSig). u.owning) same ∙ is),
      object_type x.vtype c (ap (is_type x.vtype) (sym (ap (λ (u : ParamSig). u.vtype) same ∙ type)) ∙ like.0),
    )
like_parameter (x ∷ xs) (z ∷ ys) (suc i) y c types' owning at is type =
    like_parameter xs ys i y c (and_parts (is_type x.vtype z.vtype) (are_types xs ys) types').1 (or_parts (differ x.owning z.owning) (has_other_owning xs ys) owning).1 at is type

pub same_count : (xs ys : List ParamSig) → are_types xs ys ≡ true → length xs ≡ length ys
same_count [] [] is = refl
same_count [] (y ∷ ys) is = absurd (true≢false (sym is))
same_count (x ∷ xs) [] is = absurd (true≢false (sym is))
same_count (x ∷ xs) (y ∷ ys) is = ap suc (same_count xs ys (and_parts (is_type x.vtype y.vtype) (are_types xs ys) is).1)

-- ---- births at the entry

head_birth : (p : Program) (b : Body) (s : Sig) (k : ℕ) (x : ParamSig) (v : Var) (c : ClassId) → variable_at b k ≡ Some v → x.vtype ≡ types.Obj c → x.owning ≡ true
    → parameter_birth p s k x (variable_at b k) ≡ Some (origin_of p (kinds.Param k) v.pos c None, fact_at (places.Var k) modes.Own x.before true)
head_birth p b s k x v c at type owning = rw (at, type, owning) refl

-- the birth of an owning parameter
abbrev IsBirth : Program → ℕ → Var → ClassId → ParamSig → Option (Origin × Fact) → Type 0
IsBirth p k v c x birth = birth ≡ Some (origin_of p (kinds.Param k) v.pos c None, fact_at (places.Var k) modes.Own x.before true)

birth_among : (p : Program) (b : Body) (s : Sig) (k i m : ℕ) (params : List ParamSig) (x : ParamSig) (v : Var) (c : ClassId) → m ≡ k + i → slice_get params i ≡ Some x → variable_at b m ≡ Some v
    → x.vtype ≡ types.Obj c → x.owning ≡ true → (n : ℕ) × IsBirth p m v c x (slice_get (parameter_births p b s k params) n)
birth_among p b s k i m [] x v c same at var type owning = absurd (no_element i x at)
birth_among p b s k zero m (y ∷ ys) x v c same at var type owning =
    let here : k ≡ m = omega (arith, same) in
    let param : y ≡ x = (let both : Some y ≡ Some x = at in cc) in
    let born = head_birth p b s k y v c (ap (variable_at b) here ∙ var) (ap (λ (u : ParamSig). u.vtype) param ∙ type) (ap (λ (u : ParamSig). u.owning) param ∙ owning) in (
      0,
      subst (λ (j : ℕ). IsBirth p j v c x (slice_get (parameter_births p b s k (y ∷ ys)) 0)) here
          (subst (λ (u : ParamSig). IsBirth p k v c u (slice_get (parameter_births p b s k (y ∷ ys)) 0)) param
          (ap (λ (z : Option (Origin × Fact)). slice_get (optional z ++ parameter_births p b s (k + 1) ys) 0) born)),
    )
birth_among p b s k (suc i) m (y ∷ ys) x v c same at var type owning =
    let rest = birth_among p b s (k + 1) i m ys x v c (omega (arith, same)) at var type owning in
    get_behind (parameter_birth p s k y (variable_at b k)) (parameter_births p b s (k + 1) ys) rest.0
    (origin_of p (kinds.Param m) v.pos c None, fact_at (places.Var m) modes.Own x.before true) rest.1

at_entry : (p : Program) (number : BodyId) (b : Body) (m : Method) → body_at p number ≡ Some b → method_at p b.method ≡ Some m
    → births_at_entry p number ≡ parameter_births p b m.sig 0 m.sig.params.items ++ (optional (this_birth p m) ++ held_births p number m.kind)
at_entry p number b m at named = ap (entry_births_in p number) at ∙ ap (entry_births_of p number b) named

-- ---- the frame that begins

-- the frame of a method by its body
abbrev pub begun_frame : Program → MethodId → Value → List Value → Option BodyId → Frame
begun_frame p m self arguments x =
    control_in p x (record {
      method = m;
      control = [];
      locals = record {
        variables = arguments ++ replicate (variable_count p x - length arguments) values.Nothing;
        this = self;
        temps = [];
      };
    })

-- the frame stands at the start of the method's body, with these arguments
pub record HasBegun (p : Program) (fr : Frame) (runs : MethodId) (m : Method) (self : Value) (arguments : List Value) : Type 0 where
  pub method : fr.method ≡ runs
  pub named : method_at p runs ≡ Some m
  pub stands : Stands p fr
  pub starts : fr.control ≡ start_of p stands.number
  pub this : fr.locals.this ≡ self
  pub variables : (i : ℕ) (v : Value) → slice_get arguments i ≡ Some v → variable_value fr.locals i ≡ v

module _ (p : Program) (ac : Accept p) (runs : MethodId) (self : Value) (arguments : List Value) (m : Method) (at : method_at p runs ≡ Some m) (few : length arguments ≤ length m.sig.params.items) where
  of_body : (b : BodyId) → m.body ≡ Some b → HasBegun p (begun_frame p runs self arguments (Some b)) runs m self arguments
  of_body b own = go (body_at p b) refl (subst (OwnsBody p runs) own (ac.well_formed.valid.typed.methods runs m at).body)
    where
      parameters : (x : Body) → body_at p b ≡ Some x → x.method ≡ runs → IsBodyOf b x m
      parameters x there mine =
          subst (λ (y : Option Method). IsSomeAnd y (IsBodyOf b x)) (ap (method_at p) mine ∙ at) (ac.well_formed.valid.typed.bodies b x there).method

      count : (x : Body) → body_at p b ≡ Some x → length arguments ≤ length x.vars.items → length (begun_frame p runs self arguments (Some b)).locals.variables ≡ length x.vars.items
      count x there room =
          let n : variable_count p (Some b) ≡ length x.vars.items = ap calls.variables_in there in
          let rest : length (replicate (variable_count p (Some b) - length arguments) values.Nothing) ≡ variable_count p (Some b) - length arguments = length-replicate _ _ in
          let both : length (arguments ++ replicate (variable_count p (Some b) - length arguments) values.Nothing)
          ≡ length arguments + length (replicate (variable_count p (Some b) - length arguments) values.Nothing) = length_both arguments (replicate (variable_count p (Some b) - length arguments) values.Nothing) in
          omega (arith, n, rest, room, both)

      go : (x : Option Body) → body_at p b ≡ x → IsSomeAnd x (λ y. y.method ≡ runs) → HasBegun p (begun_frame p runs self arguments (Some b)) runs m self arguments
      go None there mine = absurd mine
      go (Some x) there mine = record {
        method = refl;
        named = at;
        stands = record {
          number = b;
          body = x;
          id = ap body_of at ∙ own;
          at = there;
          method = mine;
          control = start;
          variables = count x there (let fit = parameters_fit x.vars.items m.sig.params.items (parameters x there mine).1 in omega (arith, few, fit));
        };
        starts = refl;
        this = refl;
        variables = λ i v is. ap value_or_nothing (get_left arguments (replicate (variable_count p (Some b) - length arguments) values.Nothing) i v is);
      }

  by_body : (x : Option BodyId) → m.body ≡ x → has_body x ≡ true → HasBegun p (begun_frame p runs self arguments x) runs m self arguments
  by_body None own some = absurd (true≢false (sym some))
  by_body (Some b) own some = of_body b own

  pub has_begun : has_body m.body ≡ true → HasBegun p (begun p runs self arguments) runs m self arguments
  has_begun some = subst (λ (x : Option BodyId). HasBegun p (begun_frame p runs self arguments x) runs m self arguments) (sym (ap body_of at)) (by_body m.body refl some)

-- ---- its owning parameters

abbrev pub values_of : (ℕ → Value) → ℕ → List Value
values_of f n = map f (range_with_len 1 n)

-- an argument by its number
pub argument_at : (f : ℕ → Value) (n i : ℕ) → i < n → slice_get (values_of f n) i ≡ Some (f (1 + i))
argument_at f n i small = go (slice_get (values_of f n) i) refl
  where
    long : length (values_of f n) ≡ n
    long = length-map-range_with_len f 1 n

    is : value_or_nothing (slice_get (values_of f n) i) ≡ f (1 + i)
    is =
        let long' = length-map-range_with_len f 1 n in
        let inside : i < length (values_of f n) = omega (arith, long', small) in
        ap value_or_nothing (slice_get-get_or (values_of f n) i values.Nothing inside) ∙ get_or-map-range_with_len f 1 n i (1 + i) values.Nothing small refl

    go : (x : Option Value) → slice_get (values_of f n) i ≡ x → slice_get (values_of f n) i ≡ Some (f (1 + i))
    go None at = absurd (past (values_of f n) i (omega (arith, long, small)) at)
    go (Some v) at = at ∙ ap Some (sym (ap value_or_nothing at) ∙ is)

module _ (p : Program) (ac : Accept p) (k : HeapContents) (fr : Frame) (runs : MethodId) (m : Method) (self : Value) (arguments : List Value) (b : HasBegun p fr runs m self arguments) where
  own_method : method_at p b.stands.body.method ≡ Some m
  own_method = ap (method_at p) (b.stands.method ∙ b.method) ∙ b.named

  has_parameters : HasParameters b.stands.body.vars.items m.sig.params.items
  has_parameters =
      let own : IsBodyOf b.stands.number b.stands.body m = subst (λ (y : Option Method). IsSomeAnd y (IsBodyOf b.stands.number b.stands.body)) own_method
      (ac.well_formed.valid.typed.bodies b.stands.number b.stands.body b.stands.at).method in
      own.1

  room : (i : ℕ) (v : Var) → slice_get b.stands.body.vars.items i ≡ Some v → i < 160
  room i v at =
      let inside = slice_get_within b.stands.body.vars.items i v at in
      let few : length b.stands.body.vars.items ≤ 160 = subst (λ (n : ℕ). n ≤ 160) (ap variables_in b.stands.at) (ac.fits b.stands.number).room.variables in
      omega (arith, inside, few)

  pub entered_tracks : (i : ℕ) (q : ParamSig) (c : ClassId) (o : ℕ) (y : Object) → slice_get m.sig.params.items i ≡ Some q → q.owning ≡ true → q.vtype ≡ types.Obj c → set.is_subset q.before y.called ≡ true
      → fits p y.class c ≡ true → set.is_subset y.must (must_of p y.class) ≡ true → root_of k (variable_value fr.locals i) ≡ Some o → Tracks p k fr o y
  entered_tracks i q c o y at owning type before fit bounded root =
      let v = parameter_variable b.stands.body.vars.items m.sig.params.items i q has_parameters at in
      let small = room i v.0 v.1 in
      let birth = birth_among p b.stands.body m.sig 0 i i m.sig.params.items q v.0 c (omega arith) at v.1 type owning in
      let o' = origin_of p (kinds.Param i) v.0.pos c None in
      let f' = fact_at (places.Var i) modes.Own q.before true in
      record {
        body = b.stands.number;
        id = b.stands.id;
        origin = o';
        fact = f';
        reached = subst (λ (t : List Todo). Reach p b.stands.number (relation_of p b.stands.number) o' t f') (sym b.starts)
            (entered birth.0 (ap (λ (z : List (Origin × Fact)). slice_get z birth.0) (at_entry p b.stands.number b.stands.body m b.stands.at own_method)
            ∙ get_left (parameter_births p b.stands.body m.sig 0 m.sig.params.items) (optional (this_birth p m) ++ held_births p b.stands.number m.kind) birth.0 (o', f') birth.1));
        follows = record {
          own = refl;
          class = fit;
          bounded = bounded;
          need = within_trans y.must (must_of p y.class) (must_of p c) bounded fit;
          called = before;
          some = single_place-some (places.Var i);
          alone = single_place-alone (places.Var i) small;
          places = λ r inside is.
              let same : places.Var i ≡ r = single_place-same (places.Var i) r (sym (single_place-has (places.Var i) r small inside) ∙ is) in
              subst (λ (z : Place). (is_local z ≡ true) × (root_of k (place_value p k fr.method fr.locals z) ≡ Some o)) same (refl, root);
        };
      }
