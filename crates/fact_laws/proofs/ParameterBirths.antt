-- The facts that are born in such a place: those of parameters and of `this`, at the entry of the body.
use Rattle.std.proofs.Common.{◌≡◌, ◌∙◌, ap, refl, sym, subst, arith, ℕ, zero, suc, ◌+◌, ◌<◌, ◌≤◌, Bool, true, false, ◌||◌, not, ◌&&◌, Option, Some, None, List, [], ◌∷◌, ◌++◌, slice_get, length}
use Rattle.std.specs.Prelude.{◌==◌, if◌then◌else◌}
use Rattle.std.specs.List.{cons_option, filter_map}
use Rattle.std.specs.FinSet as set
use Rattle.std.specs.Ordering.{nat_cmp}
use Rattle.std.proofs.lemmas.Bool.{eqb-true}
use Rattle.std.proofs.lemmas.Option.{slice_get_within}
use Rattle.rlc_base.specs.NameSet.{inserted}
use Rattle.rlc_base.specs.declared.place.Pos.{Pos}
use Rattle.program_model.specs.declared.kinds.BodyId.{BodyId}
use Rattle.program_model.specs.declared.kinds.ClassId.{ClassId}
use Rattle.program_model.specs.declared.kinds.FieldId.{FieldId}
use Rattle.program_model.specs.declared.kinds.MethodKind.{MethodKind}
use Rattle.program_model.specs.declared.kinds.MethodKind.TheVariants as methods
use Rattle.program_model.specs.declared.kinds.VType.{VType}
use Rattle.program_model.specs.declared.kinds.VType.TheVariants as types
use Rattle.program_model.specs.declared.program.Field.{Field}
use Rattle.program_model.specs.declared.program.Method.{Method}
use Rattle.program_model.specs.declared.program.ParamSig.{ParamSig}
use Rattle.program_model.specs.declared.program.Program.{Program}
use Rattle.program_model.specs.declared.program.Sig.{Sig}
use Rattle.program_model.specs.declared.tree.Body.{Body}
use Rattle.program_model.specs.declared.tree.Var.{Var}
use Rattle.program_model.specs.Lookups.{body_at, field_at, method_at, optional, variable_at}
use Rattle.java_control.specs.Calls.{is_reset_of_this}
use Rattle.java_control.specs.Owned.{field_number, place_of_field}
use Rattle.java_control.specs.PlaceNumbers.{IsSmall, number_of}
use Rattle.control_actions.specs.declared.action.Action.{Action}
use Rattle.control_actions.specs.declared.action.Action.TheVariants as actions
use Rattle.control_actions.specs.declared.action.Edge.{Edge}
use Rattle.control_actions.specs.declared.action.Edge.TheVariants as edges
use Rattle.control_actions.specs.declared.action.PlainValue.{PlainValue}
use Rattle.control_actions.specs.declared.action.PlainValue.TheVariants as plain
use Rattle.control_actions.specs.declared.fact.Fact.{Fact}
use Rattle.control_actions.specs.declared.fact.Mode.{Mode}
use Rattle.control_actions.specs.declared.fact.Mode.TheVariants as modes
use Rattle.control_actions.specs.declared.fact.Origin.{Origin}
use Rattle.control_actions.specs.declared.fact.OriginKind.{OriginKind}
use Rattle.control_actions.specs.declared.fact.OriginKind.TheVariants as kinds
use Rattle.control_actions.specs.declared.place.Place.{Place}
use Rattle.control_actions.specs.declared.place.Place.TheVariants as places
use Rattle.ownership_rules.specs.Bodies.{fields_of, has_field_place}
use Rattle.ownership_rules.specs.MustCallSets.{Names, is_heavy_class, no_names}
use Rattle.ownership_rules.specs.Signatures.{field_type, is_present}
use Rattle.ownership_rules.specs.Facts.{has}
use Rattle.ownership_rules.specs.SmallActions.{IsSmallAction}
use Rattle.ownership_rules.specs.Births.{Birth, birth_on, birth_on_go, births_at_entry, births_of_step, born, born_in, class_of, constant_birth, entry_births_in, entry_births_of, fact_at, field_birth, field_birth_place, field_births, has_this, held_births, new_birth, owning_field_birth, parameter_birth, parameter_births, parameter_mode, reset_births, result_birth, result_fact, this_birth, this_mode}
use Rattle.ownership_rules.specs.MovesAtReturns.{result_in}
use Rattle.fact_laws.proofs.Places.{Avoids, apart, no_field, no_temp}

-- ---- lists of births

abbrev pub AllBirths : (Birth → Type 0) → List Birth → Type 0
AllBirths P [] = Unit {0}
AllBirths P (x ∷ xs) = P x × AllBirths P xs

abbrev pub OnBirth : (Birth → Type 0) → Option Birth → Type 0
OnBirth P None = Unit {0}
OnBirth P (Some x) = P x

pub births_both : (P : Birth → Type 0) (xs ys : List Birth) → AllBirths P xs → AllBirths P ys → AllBirths P (xs ++ ys)
births_both P [] ys first second = second
births_both P (x ∷ xs) ys first second = (first.0, births_both P xs ys first.1 second)

pub listed : (P : Birth → Type 0) (x : Option Birth) → OnBirth P x → AllBirths P (optional x)
listed P None on = tt
listed P (Some x) on = (on, tt)

pub birth_at : (P : Birth → Type 0) (xs : List Birth) (n : ℕ) (x : Birth) → AllBirths P xs → slice_get xs n ≡ Some x → P x
birth_at P [] zero x all at = absurd (let never : None ≡ Some x = at in cc)
birth_at P [] (suc n) x all at = absurd (let never : None ≡ Some x = at in cc)
birth_at P (y ∷ ys) zero x all at = subst P (let both : Some y ≡ Some x = at in (let same : y ≡ x = cc in same)) all.0
birth_at P (y ∷ ys) (suc n) x all at = birth_at P ys n x all.1 at

-- ---- the place of a birth

or_nothing : (b : Bool) → (b || false) ≡ b
or_nothing true = refl
or_nothing false = refl

-- a fact that is born holds in one place
one_place : (n k : ℕ) → set.contains (set.insert (set.empty {R = nat_cmp}) n) k ≡ true → k ≡ n
one_place n k is =
    eqb-true k n (sym (inserted set.empty n k ∙ ap (λ b. (k == n) || b) (set.contains-empty nat_cmp k) ∙ or_nothing (k == n)) ∙ is)

module _ (q : Place) (P : OriginKind → Type 0) where
  -- where the fact holds in the place, its origin is of such a kind
  abbrev pub IsFrom : Birth → Type 0
  IsFrom x = has (x.1).places q ≡ true → P (x.0).kind

  born_from : (p : Program) (kind : OriginKind) (pos : Pos) (t : Option VType) (first : Option Names) (x : Place) (mode : Mode) (called : Names) (full : Bool) → (number_of q ≡ number_of x → P kind)
      → OnBirth IsFrom (born p kind pos t first (fact_at x mode called full))
  born_from p kind pos t first x mode called full from = go (class_of t) first
    where
      go : (c : Option ClassId) (s : Option Names) → OnBirth IsFrom (born_in p kind pos c s (fact_at x mode called full))
      go None s = tt
      go (Some c) None = λ is. from (one_place (number_of x) (number_of q) is)
      go (Some c) (Some names) = λ is. from (one_place (number_of x) (number_of q) is)

  module _ (p : Program) (low : number_of q < 161) where
    field_from : (b : BodyId) (pos : Option Pos) (f : FieldId) → OnBirth IsFrom (field_birth p b pos f)
    field_from b pos f = go (has_field_place p b f) (field_at p f)
      where
        go : (y : Bool) (x : Option Field) → OnBirth IsFrom (if y then owning_field_birth p f pos x else None)
        go true None = tt
        go true (Some x) = born_from p (kinds.FieldAt f) (field_birth_place pos x) (Some x.vtype) None (place_of_field p f) modes.Held no_names true (λ same. absurd (no_field q low (field_number p f) same))
        go false x = tt

    fields_from : (b : BodyId) (pos : Option Pos) (fs : List FieldId) → AllBirths IsFrom (filter_map (field_birth p b pos) fs)
    fields_from b pos [] = tt
    fields_from b pos (f ∷ fs) = go (field_birth p b pos f) (field_from b pos f) (fields_from b pos fs)
      where
        go : (x : Option Birth) → OnBirth IsFrom x → AllBirths IsFrom (filter_map (field_birth p b pos) fs) → AllBirths IsFrom (cons_option x (filter_map (field_birth p b pos) fs))
        go None on rest = rest
        go (Some x) on rest = (on, rest)

    -- ---- at the entry

    module _ (params : (j : ℕ) → j < 160 → number_of q ≡ j → P (kinds.Param j)) (this : number_of q ≡ 160 → P kinds.ThisRef) where
      parameter_from : (b : Body) (s : Sig) (k : ℕ) (x : ParamSig) → length b.vars.items ≤ 160 → OnBirth IsFrom (parameter_birth p s k x (variable_at b k))
      parameter_from b s k x few = go (variable_at b k) refl
        where
          go : (v : Option Var) → variable_at b k ≡ v → OnBirth IsFrom (parameter_birth p s k x v)
          go None at = tt
          go (Some v) at =
              let inside : k < length b.vars.items = slice_get_within b.vars.items k v at in
              born_from p (kinds.Param k) v.pos (Some x.vtype) None (places.Var k) (parameter_mode s (k + 1) x) x.before true (params k (omega (arith, inside, few)))

      parameters_from : (b : Body) (s : Sig) (k : ℕ) (xs : List ParamSig) → length b.vars.items ≤ 160 → AllBirths IsFrom (parameter_births p b s k xs)
      parameters_from b s k [] few = tt
      parameters_from b s k (x ∷ xs) few =
          births_both IsFrom (optional (parameter_birth p s k x (variable_at b k))) (parameter_births p b s (k + 1) xs)
          (listed IsFrom (parameter_birth p s k x (variable_at b k)) (parameter_from b s k x few)) (parameters_from b s (k + 1) xs few)

      this_from : (m : Method) → OnBirth IsFrom (this_birth p m)
      this_from m = go (has_this m.kind)
        where
          go : (y : Bool) → OnBirth IsFrom (if y then born p kinds.ThisRef m.pos (Some (types.Obj m.class)) None (fact_at places.This (this_mode m.sig m.kind) no_names true) else None)
          go true = born_from p kinds.ThisRef m.pos (Some (types.Obj m.class)) None places.This (this_mode m.sig m.kind) no_names true this
          go false = tt

      held_from : (b : BodyId) (k : MethodKind) → AllBirths IsFrom (held_births p b k)
      held_from b methods.Ctor = tt
      held_from b methods.Instance = fields_from b None (fields_of p b)
      held_from b methods.Static = tt
      held_from b methods.Constant = tt

      entry_from : (b : BodyId) (x : Body) → body_at p b ≡ Some x → length x.vars.items ≤ 160 → AllBirths IsFrom (births_at_entry p b)
      entry_from b x at few = subst (λ (y : Option Body). AllBirths IsFrom (entry_births_in p b y)) (sym at) (go (method_at p x.method))
        where
          go : (m : Option Method) → AllBirths IsFrom (entry_births_of p b x m)
          go None = tt
          go (Some m) =
              births_both IsFrom (parameter_births p x m.sig 0 m.sig.params.items) (optional (this_birth p m) ++ held_births p b m.kind) (parameters_from x m.sig 0 m.sig.params.items few)
              (births_both IsFrom (optional (this_birth p m)) (held_births p b m.kind) (listed IsFrom (this_birth p m) (this_from m)) (held_from b m.kind))

      pub entry_birth : (b : BodyId) (x : Body) → body_at p b ≡ Some x → length x.vars.items ≤ 160 → (n : ℕ) (o : Origin) (f : Fact) → slice_get (births_at_entry p b) n ≡ Some (o, f)
          → has f.places q ≡ true → P o.kind
      entry_birth b x at few n o f there = birth_at IsFrom (births_at_entry p b) n (o, f) (entry_from b x at few) there

    -- ---- by steps: in temps, in fields, or where a library's constant is read

    temp_from : (kind : OriginKind) (d : ℕ) → number_of q ≡ number_of (places.Temp d) → P kind
    temp_from kind d same = absurd (no_temp q low d same)

    new_from : (d : ℕ) (pos : Pos) (m : Option Method) → OnBirth IsFrom (new_birth p d pos m)
    new_from d pos None = tt
    new_from d pos (Some m) = go (is_heavy_class p m.class && not (is_present m.sig.alias))
      where
        go : (y : Bool) → OnBirth IsFrom (if y then born p kinds.New pos (Some (types.Obj m.class)) m.sig.first (fact_at (places.Temp d) modes.Own no_names false) else None)
        go true = born_from p kinds.New pos (Some (types.Obj m.class)) m.sig.first (places.Temp d) modes.Own no_names false (temp_from kinds.New d)
        go false = tt

    result_from : (d : ℕ) (pos : Pos) (m : Option Method) → OnBirth IsFrom (result_birth p d pos m)
    result_from d pos None = tt
    result_from d pos (Some m) = go (is_present m.sig.alias) m.sig.owning_result
      where
        go : (y z : Bool) → OnBirth IsFrom (if y then None else born p kinds.Result pos m.sig.result m.sig.first (result_fact d z))
        go true z = tt
        go false true = born_from p kinds.Result pos m.sig.result m.sig.first (places.Temp d) modes.Own no_names false (temp_from kinds.Result d)
        go false false = born_from p kinds.Result pos m.sig.result m.sig.first (places.Temp d) modes.None no_names true (temp_from kinds.Result d)

    constant_from : (x : Place) (pos : Pos) (v : PlainValue) → (number_of q ≡ number_of x → ⊥) → OnBirth IsFrom (constant_birth p x pos v)
    constant_from x pos (plain.Literal l) other = tt
    constant_from x pos (plain.LibraryConstant m) other = born_from p kinds.Read pos (result_in (method_at p m)) None x modes.None no_names true (λ same. absurd (other same))
    constant_from x pos v other = tt

    go_from : (a : Action) (pos : Pos) → IsSmall q → IsSmallAction p a → Avoids a q → OnBirth IsFrom (birth_on_go p a pos)
    go_from actions.Skip pos small fits avoids = tt
    go_from (actions.New m d n) pos small fits avoids = new_from d pos (method_at p m)
    go_from (actions.Call m d n form) pos small fits avoids = result_from d pos (method_at p m)
    go_from (actions.Get f d this) pos small fits avoids = born_from p kinds.Read pos (field_type p f) None (places.Temp d) modes.None no_names true (temp_from kinds.Read d)
    go_from (actions.Plain x v) pos small fits avoids = constant_from x pos v (apart x q fits small avoids)
    go_from a pos small fits avoids = tt

    on_from : (a : Action) (e : Edge) (pos : Pos) → IsSmall q → IsSmallAction p a → Avoids a q → OnBirth IsFrom (birth_on p a e pos)
    on_from a edges.Go pos small fits avoids = go_from a pos small fits avoids
    on_from a edges.Null pos small fits avoids = tt
    on_from a edges.NonNull pos small fits avoids = tt
    on_from a edges.True pos small fits avoids = tt
    on_from a edges.False pos small fits avoids = tt
    on_from a (edges.Throws c) pos small fits avoids = tt

    reset_from : (b : BodyId) (a : Action) (pos : Pos) → AllBirths IsFrom (reset_births p b a pos)
    reset_from b a pos = go (is_reset_of_this p a)
      where
        go : (y : Bool) → AllBirths IsFrom (if y then field_births p b (Some pos) else [])
        go true = fields_from b (Some pos) (fields_of p b)
        go false = tt

    pub step_birth : (b : BodyId) (a : Action) (e : Edge) (pos : Pos) → IsSmall q → IsSmallAction p a → Avoids a q → (n : ℕ) (o : Origin) (f : Fact) → slice_get (births_of_step p b a e pos) n ≡ Some (o, f)
        → has f.places q ≡ true → P o.kind
    step_birth b a e pos small fits avoids n o f there =
        birth_at IsFrom (births_of_step p b a e pos) n (o, f)
        (births_both IsFrom (optional (birth_on p a e pos)) (reset_births p b a pos) (listed IsFrom (birth_on p a e pos) (on_from a e pos small fits avoids)) (reset_from b a pos)) there
