-- The must-call method that a class declares is its method of that name.
use Rattle.std.proofs.Common.{◌≡◌, ◌∙◌, ap, refl, sym, true≢false, arith, ℕ, zero, suc, ◌<◌, Bool, true, false, not, ◌&&◌, Option, Some, None, Contains, length, eq-eqb, eqb-true}
use Rattle.std.specs.FinSet as set
use Rattle.std.specs.List.{find, flat_map}
use Rattle.std.proofs.lemmas.Bool.{and_parts}
use Rattle.std.proofs.lemmas.Option.{slice_get_within}
use Rattle.rlc_base.specs.declared.name_id.NameId.{NameId}
use Rattle.program_model.specs.declared.kinds.ClassId.{ClassId}
use Rattle.program_model.specs.declared.kinds.MethodId.{MethodId}
use Rattle.program_model.specs.declared.program.Class.{Class}
use Rattle.program_model.specs.declared.program.Method.{Method}
use Rattle.program_model.specs.declared.program.Program.{Program}
use Rattle.program_model.specs.Hierarchy.{itself}
use Rattle.program_model.specs.Lookups.{class_at, method_at}
use Rattle.program_model.specs.Overrides.{chain_behind, chain_of, methods_of, super_in}
use Rattle.program_model.specs.SuperTests.{classes_above, has_class, is_under}
use Rattle.program_model.specs.Validity.{IsTypedProgram}
use Rattle.program_model.proofs.HierarchyLaws.{is_under_law}
use Rattle.annotation_rules.specs.MustCallSets.{must_in, must_of}
use Rattle.agreement.specs.Obligations.{is_name, is_named, is_named_in, method_named}
use Rattle.dispatch_laws.proofs.OverridingRuns.{class_of_declared, declared_there, declaring_class}
use Rattle.agreement.specs.Accept.{Accept}
use Rattle.dispatch_laws.proofs.Names.{IsBare, IsOfInterest, both_alike, not_private, of_interest, one_name}
use Rattle.dispatch_laws.proofs.OwnMethodRuns.{found_own}

not_not : (b : Bool) → not b ≡ true → b ≡ false
not_not true h = sym h
not_not false h = refl

name_is : (i : NameId) (x : Option NameId) → is_name i x ≡ true → x ≡ Some i
name_is i None is = absurd (true≢false (sym is))
name_is i (Some j) is = ap (λ (k : ℕ). (let z : Option NameId = Some (record { 0 = k }) in z)) (eqb-true j.0 i.0 is)

-- the method of a number that passes the test is there
named_there : (p : Program) (i : NameId) (r : MethodId) → is_named p i r ≡ true → (x : Method) × (method_at p r ≡ Some x) × (x.is_private ≡ false) × (x.sig.interest ≡ Some i)
named_there p i r is = go (method_at p r) refl is
  where
    go : (o : Option Method) → method_at p r ≡ o → is_named_in i o ≡ true → (x : Method) × (method_at p r ≡ Some x) × (x.is_private ≡ false) × (x.sig.interest ≡ Some i)
    go None at same = absurd (true≢false (sym same))
    go (Some x) at same =
        let parts = and_parts (not x.is_private) (is_name i x.sig.interest) same in
        (x, at, not_not x.is_private parts.0, name_is i x.sig.interest parts.1)

module _ (p : Program) (accept : Accept p) (m : MethodId) (d : Method) (i : NameId) (at : method_at p m ≡ Some d) (interest : d.sig.interest ≡ Some i) (needed : set.contains (must_of p d.class) i.0 ≡ true) where
  abbrev c : ClassId
  c = d.class

  typed : IsTypedProgram p
  typed = accept.well_formed.valid.typed

  has : Contains (methods_of p c) m
  has = declared_there p typed m d at

  known : (k : Class) × (class_at p c ≡ Some k) × Contains k.methods.items m
  known = declaring_class p c m has

  shown : d.is_private ≡ false
  shown =
      let self : is_under p c c ≡ true = (is_under_law p typed.hierarchy c c).1 (itself c) in
      let above : has_class known.0.above.items c ≡ true = sym (ap (λ o. has_class (classes_above c o) c) known.1) ∙ self in
      let must : set.contains known.0.must i.0 ≡ true = sym (ap (λ o. set.contains (must_in o) i.0) known.1) ∙ needed in
      not_private p accept m d i c known.0 at interest known.1 above must

  passes : is_named p i m ≡ true
  passes = ap (is_named_in i) at ∙ ap (λ (b : Bool). not b && is_name i d.sig.interest) shown ∙ ap (is_name i) interest ∙ eq-eqb i.0 i.0 refl

  bare : (x : Method) (r : MethodId) → method_at p r ≡ Some x → x.is_private ≡ false → x.sig.interest ≡ Some i → IsBare x
  bare x r there open_x named = let of : IsOfInterest p x i = of_interest p accept.well_formed r x i there named in record { instance = of.instance; bare = of.bare; private = open_x }

  only : (r : MethodId) → Contains (methods_of p c) r → is_named p i r ≡ true → r ≡ m
  only r there is =
      let x = named_there p i r is in
      let name : x.0.name ≡ d.name = one_name p x.0 d i (of_interest p accept.well_formed r x.0 i x.1 x.3) (of_interest p accept.well_formed m d i at interest) in
      accept.declares_once r m x.0 d x.1 at (class_of_declared p typed c r x.0 there x.1) (both_alike x.0 d (bare x.0 r x.1 x.2 x.3) (bare d m at shown interest) name)

  by_count : (count : ℕ) → c.0 < count → find (is_named p i) (flat_map (methods_of p) (chain_of p count c)) ≡ Some m
  by_count zero below = absurd (omega (arith, below))
  by_count (suc j) below = found_own (is_named p i) (methods_of p c) (flat_map (methods_of p) (chain_behind (super_in (class_at p c)) (chain_of p j))) m has passes only

  pub own_method_named : method_named p c i ≡ Some m
  own_method_named = by_count (length p.classes.items) (slice_get_within p.classes.items c.0 known.0 known.1)
