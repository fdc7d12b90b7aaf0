-- A must-call method creates no obligation anew.
use Rattle.std.specs.Prelude.{◌&&◌}
use Rattle.std.specs.List.{flat_map, range_with_len}
use Rattle.std.proofs.Common.{Bool, None, Option, Some, [], ap, false, length, option_map, refl, slice_get, sym, true, true≢false, ℕ, ◌∙◌, ◌∷◌, ◌≡◌}
use Rattle.std.proofs.lemmas.Bool.{and_from}
use Rattle.std.proofs.lemmas.Option.{slice_get-map, slice_get_within}
use Rattle.rlc_base.specs.declared.code.Code.TheVariants as refused
use Rattle.program_model.specs.declared.kinds.ClassId.{ClassId}
use Rattle.program_model.specs.declared.kinds.MethodId.{MethodId}
use Rattle.program_model.specs.declared.program.Class.{Class}
use Rattle.program_model.specs.declared.program.Method.{Method}
use Rattle.program_model.specs.declared.program.Program.{Program}
use Rattle.program_model.specs.Lookups.{class_at, method_at}
use Rattle.program_model.specs.SuperTests.{is_under}
use Rattle.refusal_order.specs.Refusals.{refused_at, where_true}
use Rattle.must_call_sets.specs.Overridings.{class_ids, overridings}
use Rattle.must_call_sets.specs.ResetCases.{has_bad_target, is_finalizer_below, is_some_finalizer, reset_cases_of_method, reset_cases_of_override}
use Rattle.must_call_sets.specs.Signatures.{is_must_call_method, is_present}
use Rattle.covering_laws.specs.Accept.{Accept}
use Rattle.covering_laws.proofs.Finalizers.{none_at, numbered, parts_empty}
use Rattle.covering_laws.proofs.GivenAway.{any_at}

module _ (p : Program) (ac : Accept p) where
  abbrev class_with : ℕ → ClassId
  class_with n = record { 0 = n }

  class_listed : (c : ClassId) (k : Class) → class_at p c ≡ Some k → slice_get (class_ids p) c.0 ≡ Some c
  class_listed c k at =
      let inside = slice_get_within p.classes.items c.0 k at in
      slice_get-map class_with (range_with_len 0 (length p.classes.items)) c.0 ∙ ap (option_map class_with) (numbered (length p.classes.items) c.0 inside)

  not_refused : (b : Bool) (x : Method) → where_true b refused.BadReset x.pos ≡ [] → b ≡ false
  not_refused true x is = absurd (let never : refused_at refused.BadReset x.pos ∷ [] ≡ [] = is in cc)
  not_refused false x is = refl

  none_with : (r : Option ℕ) (b : Bool) → b ≡ true → (is_present r && b) ≡ false → r ≡ None
  none_with None b is out = refl
  none_with (Some k) b is out = absurd (true≢false (sym is ∙ out))

  -- where a method is a must-call method of a class that has it from above, or its own, its signature creates nothing anew
  pub must_call_resets_none : (named : MethodId) (n : Method) (c : ClassId) (k : Class) → method_at p named ≡ Some n → class_at p c ≡ Some k → is_under p c n.class ≡ true → is_must_call_method p c n ≡ true → n.sig.reset ≡ None
  must_call_resets_none named n c k at there under is =
      none_with n.sig.reset (is_some_finalizer p n)
      (any_at (is_finalizer_below p n) (class_ids p) c.0 c (class_listed c k there) (and_from (is_under p c n.class) (is_must_call_method p c n) under is))
      (not_refused (is_present n.sig.reset && is_some_finalizer p n) n
      (parts_empty (where_true (has_bad_target n n.sig.reset) refused.BadReset n.pos) (where_true (is_present n.sig.reset && is_some_finalizer p n) refused.BadReset n.pos) cases).1)
    where
      cases : reset_cases_of_method p n ≡ []
      cases = none_at (reset_cases_of_method p) p.methods.items named.0 n (parts_empty (flat_map (reset_cases_of_method p) p.methods.items) (flat_map reset_cases_of_override (overridings p)) ac.well_formed.resets).0 at
