-- The object whose method creates its obligation anew is linked to none: no class of the program with such a method, of its own or from above, has a constructor that makes an alias.
use Rattle.std.proofs.Common.{◌≡◌, ◌⊎◌, ◌∙◌, inl, inr, eqb-true, ℕ, Bool, true, false, true≢false, not, ◌&&◌, ◌||◌, Option, Some, None, List, [], ◌++◌, Contains, IsSomeAnd, option_map, length, slice_get, refl, sym, ap, subst}
use Rattle.std.specs.List.{flat_map, list_any, range_with_len}
use Rattle.std.proofs.lemmas.Bool.{and_from, and_parts, or_left, or_right}
use Rattle.std.proofs.lemmas.Option.{slice_get-get_or, slice_get-map, slice_get_within}
use Rattle.rlc_base.specs.declared.code.Code.TheVariants as refused
use Rattle.program_model.specs.declared.kinds.ClassId.{ClassId}
use Rattle.program_model.specs.declared.kinds.MethodId.{MethodId}
use Rattle.program_model.specs.declared.kinds.MethodKind.{MethodKind}
use Rattle.program_model.specs.declared.kinds.MethodKind.TheVariants as methods
use Rattle.program_model.specs.declared.program.Class.{Class}
use Rattle.program_model.specs.declared.program.Method.{Method}
use Rattle.program_model.specs.declared.program.Program.{Program}
use Rattle.program_model.specs.Lookups.{class_at, method_at}
use Rattle.program_model.specs.Overrides.{is_library, is_library_in}
use Rattle.program_model.specs.SuperTests.{is_under}
use Rattle.ledger_obligations.specs.AliasCases.{alias_cases_in, alias_cases_of_method, alias_cases_of_override, is_alias_class, is_alias_constructor_in, is_bad_alias_class, is_heavy_super, is_one_final, owning_fields, passes_over, resets_near}
use Rattle.must_call_sets.specs.Overridings.{class_ids, overridings}
use Rattle.ledger_obligations.specs.Bodies.{constructs, is_constructor_kind, reset_in}
use Rattle.ownership_rules.specs.Signatures.{is_position, is_present}
use Rattle.ledger_state.specs.Contents.{HeapContents}
use Rattle.ledger_state.specs.Heaps.{object_at}
use Rattle.ledger_state.specs.declared.object.Link.{Link}
use Rattle.ledger_state.specs.declared.object.Object.{Object}
use Rattle.ledger_state.specs.declared.value.Value.TheVariants as values
use Rattle.value_laws.specs.Accept.{Accept}
use Rattle.value_laws.specs.Agreement.{Stands}
use Rattle.value_laws.specs.Configuration.{Frame}
use Rattle.value_laws.specs.PlaceFacts.{MakesNoAlias}
use Rattle.value_laws.specs.PlainForms.{HasPlainForms}
use Rattle.value_laws.specs.Renewing.{reopens}
use Rattle.value_laws.specs.StepTargets.{HasThis}
use Rattle.value_laws.specs.EffectiveSignaturesTargets.{has_object}
use Rattle.value_laws.proofs.AliasConducts.{not_refused}
use Rattle.value_laws.proofs.SignedPromises.{resets_object}
use Rattle.covering_laws.specs.Linking.{GivesClass, IsGivenAsAlias, LinkedAreAliases}
use Rattle.covering_laws.specs.Sight.{IsOnObject}
use Rattle.covering_laws.proofs.Bodies.{running_method}
use Rattle.covering_laws.proofs.Finalizers.{none_at, numbered, parts_empty}
use Rattle.covering_laws.proofs.GivenAway.{any_at}

pub passes_one : {X : Type 0} (f : X → Bool) (xs : List X) (x : X) → Contains xs x → f x ≡ true → list_any f xs ≡ true
passes_one f xs x among is = any_at f xs among.0 x (slice_get-get_or xs among.0 x among.1 ∙ ap Some among.2) is

module _ (p : Program) (ac : Accept p) where
  abbrev class_with : ℕ → ClassId
  class_with n = record { 0 = n }

  class_listed : (c : ClassId) (k : Class) → class_at p c ≡ Some k → slice_get (class_ids p) c.0 ≡ Some c
  class_listed c k at =
      let inside = slice_get_within p.classes.items c.0 k at in
      slice_get-map class_with (range_with_len 0 (length p.classes.items)) c.0 ∙ ap (option_map class_with) (numbered (length p.classes.items) c.0 inside)

  -- the class is not refused
  pub not_bad : (c : ClassId) (k : Class) → class_at p c ≡ Some k → (is_alias_class p k && is_bad_alias_class p c k) ≡ false
  not_bad c k at = not_refused (is_alias_class p k && is_bad_alias_class p c k) refused.BadAlias k.pos (sym (ap (alias_cases_in p c) at) ∙ here)
    where
      classes : flat_map (λ (d : ClassId). alias_cases_in p d (class_at p d)) (class_ids p) ≡ []
      classes =
          (parts_empty (flat_map (alias_cases_of_method p) p.methods.items) (flat_map (λ (d : ClassId). alias_cases_in p d (class_at p d)) (class_ids p))
          (parts_empty (flat_map (alias_cases_of_method p) p.methods.items ++ flat_map (λ (d : ClassId). alias_cases_in p d (class_at p d)) (class_ids p)) (flat_map alias_cases_of_override (overridings p)) ac.well_formed.aliases).0).1

      here : alias_cases_in p c (class_at p c) ≡ []
      here = none_at (λ (d : ClassId). alias_cases_in p d (class_at p d)) (class_ids p) c.0 c classes (class_listed c k at)

  -- of a class of the program that has a method from its own or from above that creates the obligation of `this` anew, no constructor makes an alias
  pub aliases_reset_nothing : (r : MethodId) (d : Method) → method_at p r ≡ Some d → is_position d.sig.reset 0 ≡ true → (n : MethodId) (m : Method) (k : ℕ) → method_at p n ≡ Some m → is_library p m.class ≡ false
      → is_under p m.class d.class ≡ true → is_constructor_kind m.kind ≡ true → m.sig.alias ≡ Some k → ⊥
  aliases_reset_nothing r d reset_at resets n m k at own under makes alias = by (class_at p m.class) refl own (ac.well_formed.valid.typed.methods n m at).listed
    where
      by : (x : Option Class) → class_at p m.class ≡ x → is_library_in x ≡ false → IsSomeAnd x (λ (j : Class). Contains j.methods.items n) → ⊥
      by None none own' listed = absurd listed
      by (Some j) some own' listed = true≢false (sym (and_from (is_alias_class p j) (is_bad_alias_class p m.class j) aliases bad) ∙ not_bad m.class j some)
        where
          constructor : is_alias_constructor_in (method_at p n) ≡ true
          constructor = ap is_alias_constructor_in at ∙ and_from (is_constructor_kind m.kind) (is_present m.sig.alias) makes (ap is_present alias)

          aliases : is_alias_class p j ≡ true
          aliases = and_from (not j.library) (list_any (λ (i : MethodId). is_alias_constructor_in (method_at p i)) j.methods.items) (ap not own') (passes_one (λ (i : MethodId). is_alias_constructor_in (method_at p i)) j.methods.items n listed constructor)

          near : resets_near p m.class d ≡ true
          near = and_from (is_position d.sig.reset 0) (is_under p m.class d.class || is_under p d.class m.class) resets (or_left (is_under p m.class d.class) (is_under p d.class m.class) under)

          bad : is_bad_alias_class p m.class j ≡ true
          bad = or_left (not (is_one_final p (owning_fields p j)) || is_heavy_super p j.sup || list_any (resets_near p m.class) p.methods.items) (list_any (λ (i : MethodId). passes_over p j (method_at p i)) j.methods.items)
              (or_right (not (is_one_final p (owning_fields p j)) || is_heavy_super p j.sup) (list_any (resets_near p m.class) p.methods.items) (any_at (resets_near p m.class) p.methods.items r.0 d reset_at near))

  resets_this : (x : Option Method) → reopens x ≡ true → is_position (reset_in x) 0 ≡ true
  resets_this x opens = (and_parts (not (constructs x)) (is_position (reset_in x) 0) opens).1

  -- so such a class makes no alias
  pub makes_no_alias : (r : MethodId) (d : Method) → method_at p r ≡ Some d → reopens (Some d) ≡ true → (c : ClassId) → is_library p c ≡ false → is_under p c d.class ≡ true → MakesNoAlias p c
  makes_no_alias r d reset_at opens c own under n m at same makes = by m.sig.alias refl
    where
      by : (k : Option ℕ) → m.sig.alias ≡ k → m.sig.alias ≡ None
      by None none = none
      by (Some k) alias =
          absurd (aliases_reset_nothing r d reset_at (resets_this (Some d) opens) n m k at (ap (is_library p) same ∙ own) (ap (λ (e : ClassId). is_under p e d.class) same ∙ under) makes alias)

  -- ---- the object on which such a method runs

  opens_on_this : (r : MethodId) (d : Method) → method_at p r ≡ Some d → reopens (Some d) ≡ true → HasThis (Some d)
  opens_on_this r d reset_at opens = by d.kind refl (resets_object p ac r d reset_at (first d.sig.reset (resets_this (Some d) opens)))
    where
      first : (k : Option ℕ) → is_position k 0 ≡ true → k ≡ Some 0
      first None never = absurd (true≢false (sym never))
      first (Some k) zero = ap Some (eqb-true k 0 zero)

      by : (k : MethodKind) → d.kind ≡ k → has_object k ≡ true → HasThis (Some d)
      by methods.Instance is has = inl is
      by methods.Ctor is has = inr is
      by k is has = absurd (true≢false (sym has))

  makes_on_this : (d : Method) → constructs (Some d) ≡ true → HasThis (Some d)
  makes_on_this d makes = by d.kind refl makes
    where
      by : (k : MethodKind) → d.kind ≡ k → is_constructor_kind k ≡ true → HasThis (Some d)
      by methods.Ctor is has = inr is
      by k is has = absurd (true≢false (sym has))

  -- so it runs on one, as a constructor does
  pub this_object : (fr : Frame) → Stands p fr → IsOnObject p fr → (constructs (method_at p fr.method) ≡ true) ⊎ (reopens (method_at p fr.method) ≡ true) → (w : ℕ) × (fr.locals.this ≡ values.Object w)
  this_object fr st on kind =
      let run = running_method p ac fr st in
      on (subst HasThis (sym run.1) (elim kind [ inl makes ↦ makes_on_this run.0 (sym (ap constructs run.1) ∙ makes) | inr opens ↦ opens_on_this fr.method run.0 run.1 (sym (ap reopens run.1) ∙ opens) ]))

  module _ (forms : HasPlainForms p) (h : HeapContents) (linked : LinkedAreAliases p h) (fr : Frame) (st : Stands p fr) (w : ℕ) (y : Object) (at : object_at h w ≡ Some y)
      (under : (m : Method) → method_at p fr.method ≡ Some m → is_under p y.class m.class ≡ true) (opens : reopens (method_at p fr.method) ≡ true) where
    run : (m : Method) × (method_at p fr.method ≡ Some m) × (is_library p m.class ≡ false)
    run = running_method p ac fr st

    below : is_under p y.class (run.0).class ≡ true
    below = under run.0 run.1

    no_library : is_library p y.class ≡ false
    no_library = by (is_library p y.class) refl
      where
        by : (b : Bool) → is_library p y.class ≡ b → is_library p y.class ≡ false
        by true is = absurd (true≢false (sym (forms.library y.class (run.0).class below is) ∙ run.2))
        by false is = is

    given_none : IsGivenAsAlias p y.class → ⊥
    given_none given = by given.class
      where
        by : GivesClass p given.method y.class → ⊥
        by (inl (makes, same)) =
            aliases_reset_nothing fr.method run.0 run.1 (resets_this (Some run.0) (ap reopens (sym run.1) ∙ opens)) given.number given.method given.position given.at (ap (is_library p) (sym same) ∙ no_library)
            (ap (λ (c : ClassId). is_under p c (run.0).class) (sym same) ∙ below) makes given.alias
        by (inr (c, result, heavy, of, library)) = true≢false (sym library ∙ no_library)

    pub unlinked_this : (y.link ≡ None) × MakesNoAlias p y.class
    unlinked_this = (by y.link refl, makes_no_alias fr.method run.0 run.1 (ap reopens (sym run.1) ∙ opens) y.class no_library below)
      where
        by : (l : Option Link) → y.link ≡ l → y.link ≡ None
        by None none = none
        by (Some l) some = absurd (given_none (linked w y l at some))
