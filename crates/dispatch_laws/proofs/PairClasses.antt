-- Two methods of which one overrides the other stand in one class together, by itself or from above.
use Rattle.std.proofs.Common.{◌≡◌, ◌∙◌, inl, inr, ap, refl, sym, subst, true≢false, eq-eqb, Bool, true, false, not, Option, Some, None, List, [], ◌∷◌, Contains, map}
use Rattle.std.specs.Prelude.{if◌then◌else◌}
use Rattle.std.specs.List.{filter}
use Rattle.std.proofs.lemmas.List.Elements.{Contains-append_cases}
use Rattle.rlc_base.specs.declared.place.Pos.{Pos}
use Rattle.program_model.specs.declared.kinds.ClassId.{ClassId}
use Rattle.program_model.specs.declared.kinds.MethodId.{MethodId}
use Rattle.program_model.specs.declared.program.Class.{Class}
use Rattle.program_model.specs.declared.program.Method.{Method}
use Rattle.program_model.specs.declared.program.Program.{Program}
use Rattle.program_model.specs.Hierarchy.{IsUnder, itself}
use Rattle.program_model.specs.Lookups.{class_at, method_at}
use Rattle.program_model.specs.Overrides.{Overriding, declared_overrides, is_abstract, is_alike, is_joined, joined_override, joined_overrides, method_run, methods_above, methods_of, override_at, overrides_in, overrides_of, pos_in, run_method}
use Rattle.program_model.specs.SuperTests.{classes_above, has_class, is_class}
use Rattle.program_model.specs.Validity.{IsTypedProgram}
use Rattle.program_model.proofs.HierarchyLaws.{is_under_law}
use Rattle.agreement.proofs.Elements.{contains-cases, contains-none, contains-one, filter-among, gathered-among}
use Rattle.agreement.proofs.Alike.{alike_there}
use Rattle.annotation_rules.specs.Overridings.{class_ids}
use Rattle.dispatch_laws.specs.Dispatch.{IsOverriding}
use Rattle.dispatch_laws.proofs.OverridingRuns.{above_under, class_of_declared, runs_from}

-- the class has both methods, by itself or from above
pub record StandTogether (p : Program) (x n : Method) : Type 0 where
  pub number : ClassId
  pub class' : Class
  pub at : class_at p number ≡ Some class'
  pub named : has_class class'.above.items n.class ≡ true
  pub other : has_class class'.above.items x.class ≡ true

module _ (p : Program) (typed : IsTypedProgram p) (c : ClassId) where
  -- there is a class above another but where that other is there
  known : (k : Option Class) → class_at p c ≡ k → (d : ClassId) → Contains (filter (λ e. not (is_class e c)) (classes_above c k)) d → (j : Class) × (class_at p c ≡ Some j)
  known None at d has =
      let kept = filter-among (λ e. not (is_class e c)) (c ∷ []) d has in
      absurd (true≢false (sym kept.1 ∙ ap (λ e. not (is_class e c)) (sym (contains-one c d kept.0)) ∙ ap not (eq-eqb c.0 c.0 refl)))
  known (Some j) at d has = (j, at)

  under_listed : (j : Class) → class_at p c ≡ Some j → (d : ClassId) → IsUnder p c d → has_class j.above.items d ≡ true
  under_listed j at d under = sym (ap (λ (o : Option Class). has_class (classes_above c o) d) at) ∙ (is_under_law p typed.hierarchy c d).1 under

  -- what the pair is, and that the class has its overriding method
  abbrev IsPairOf : Method → Overriding → Type 0
  IsPairOf n o = (o.overridden ≡ n) × IsUnder p c o.by.class

  declared_is : (n : Method) (o : Overriding) → Contains (declared_overrides p c n) o → IsPairOf n o
  declared_is n o h =
      let from = gathered-among (λ m. override_at n (method_at p m)) (filter (is_alike p n) (methods_of p c)) o h in
      let kept = filter-among (is_alike p n) (methods_of p c) from.0 from.1 in
      let there = alike_there p n from.0 kept.1 in
      let pair : Overriding = record { by = there.0; overridden = n; pos = there.0.pos } in
      let one : Contains (pair ∷ []) o = subst (λ (z : Option Method). Contains (override_at n z) o) there.1 from.2 in
      let here : there.0.class ≡ c = class_of_declared p typed c from.0 there.0 kept.0 there.1 in
      let under : IsUnder p c there.0.class = subst (IsUnder p c) (sym here) (itself c) in
      subst (IsPairOf n) (contains-one pair o one) (refl, under)

  placed_is : (x n : Method) (places : List Pos) (o : Overriding) → IsUnder p c x.class → (let pair : Pos → Overriding = λ pos. record { by = x; overridden = n; pos = pos } in Contains (map pair places) o) → IsPairOf n o
  placed_is x n [] o under h = absurd (contains-none o h)
  placed_is x n (pos ∷ places) o under h =
      let pair : Pos → Overriding = λ pos'. record { by = x; overridden = n; pos = pos' } in
      elim (contains-cases (pair pos) (map pair places) o h) [ inl same ↦ subst (IsPairOf n) same (refl, under) | inr more ↦ placed_is x n places o under more ]

  tested_is : (x n : Method) (b : Bool) (o : Overriding) → IsUnder p c x.class
      → (let pair : Pos → Overriding = λ pos. record { by = x; overridden = n; pos = pos } in Contains (if b then map pair (pos_in (class_at p c)) else []) o) → IsPairOf n o
  tested_is x n true o under h = placed_is x n (pos_in (class_at p c)) o under h
  tested_is x n false o under h = absurd (contains-none o h)

  found_is : (n : Method) (r : MethodId) (m : Option Method) (o : Overriding) → method_at p r ≡ m → method_run p n c ≡ Some r → Contains (joined_override p c n m) o → IsPairOf n o
  found_is n r None o at run h = absurd (contains-none o h)
  found_is n r (Some x) o at run h =
      let from = runs_from p typed.hierarchy n c r run in
      let one : x.class ≡ from.declaring = class_of_declared p typed from.declaring r x from.declared at in
      tested_is x n (is_joined p c x n) o (subst (IsUnder p c) (sym one) from.above) h

  run_is : (n : Method) (run : Option MethodId) (o : Overriding) → method_run p n c ≡ run → Contains (joined_override p c n (run_method p run)) o → IsPairOf n o
  run_is n None o is h = absurd (contains-none o h)
  run_is n (Some r) o is h = found_is n r (method_at p r) o refl is h

  joined_is : (n : Method) (b : Bool) (o : Overriding) → Contains (if b then [] else joined_override p c n (run_method p (method_run p n c))) o → IsPairOf n o
  joined_is n true o h = absurd (contains-none o h)
  joined_is n false o h = run_is n (method_run p n c) o refl h

  pair_is : (n : Method) (o : Overriding) → Contains (overrides_of p c (Some n)) o → IsPairOf n o
  pair_is n o h = elim (Contains-append_cases (declared_overrides p c n) (joined_overrides p c n) o h) [ inl here ↦ declared_is n o here | inr run ↦ joined_is n (is_abstract p c) o run ]

  in_class : (o : Overriding) → Contains (overrides_in p c) o → StandTogether p o.by o.overridden
  in_class o has = by_method (method_at p from.0) refl from.2
    where
      from : (i : MethodId) × Contains (methods_above p c) i × Contains (overrides_of p c (method_at p i)) o
      from = gathered-among (λ i. overrides_of p c (method_at p i)) (methods_above p c) o has

      above : (d : ClassId) × Contains (filter (λ e. not (is_class e c)) (classes_above c (class_at p c))) d × Contains (methods_of p d) from.0
      above = gathered-among (methods_of p) (filter (λ e. not (is_class e c)) (classes_above c (class_at p c))) from.0 from.1

      by_method : (m : Option Method) → method_at p from.0 ≡ m → Contains (overrides_of p c m) o → StandTogether p o.by o.overridden
      by_method None at h = absurd (contains-none o h)
      by_method (Some n) at h =
          let k = known (class_at p c) refl above.0 above.1 in
          let under : IsUnder p c above.0 = above_under p typed.hierarchy c above.0 (filter-among (λ e. not (is_class e c)) (classes_above c (class_at p c)) above.0 above.1).0 in
          let one : n.class ≡ above.0 = class_of_declared p typed above.0 from.0 n above.2 at in
          let pair = pair_is n o h in
          let named : IsUnder p c o.overridden.class = subst (IsUnder p c) (sym (ap (λ (z : Method). z.class) pair.0 ∙ one)) under in
          record { number = c; class' = k.0; at = k.1; named = under_listed k.0 k.1 o.overridden.class named; other = under_listed k.0 k.1 o.by.class pair.1 }

pub stand_together : (p : Program) → IsTypedProgram p → (x n : Method) → IsOverriding p x n → StandTogether p x n
stand_together p typed x n over =
    let from = gathered-among (overrides_in p) (class_ids p) over.0 over.1 in
    let first : StandTogether p x over.0.overridden = subst (λ (z : Method). StandTogether p z over.0.overridden) over.2 (in_class p typed from.0 over.0 from.2) in
    subst (StandTogether p x) over.3 first
