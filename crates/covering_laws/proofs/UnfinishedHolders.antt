-- What a constructor has in a field of `this`: its object is not finished.
use Rattle.covering_laws.proofs.LocalSteps.{LocalsIn}
use Rattle.value_laws.proofs.Chains.{object_there}
use Rattle.value_laws.specs.Ranges.{LocalsInRange}
use Rattle.ledger_state.specs.Values.{number_of}
use Rattle.program_model.specs.declared.kinds.ClassId.{ClassId}
use Rattle.std.proofs.lemmas.List.Elements.{All-head, All-tail}
use Rattle.std.proofs.Common.{List, None, Option, Some, [], ap, eqb-true, false, refl, sym, true, true≢false, ℕ, ◌∙◌, ◌∷◌, ◌≡◌}
use Rattle.std.specs.Prelude.{not}
use Rattle.std.proofs.lemmas.Bool.{and_parts}
use Rattle.program_model.specs.declared.kinds.FieldId.{FieldId}
use Rattle.program_model.specs.declared.kinds.MethodId.{MethodId}
use Rattle.program_model.specs.declared.program.Field.{Field}
use Rattle.program_model.specs.declared.program.Program.{Program}
use Rattle.program_model.specs.Lookups.{field_at, method_at}
use Rattle.ledger_obligations.specs.Bodies.{alias_in, constructs, is_class_of}
use Rattle.ownership_rules.specs.Signatures.{is_present}
use Rattle.ledger_obligations.specs.Obligations.{finished_in, is_held_by}
use Rattle.ledger_state.specs.Contents.{HeapContents}
use Rattle.ledger_state.specs.Heaps.{object_at, unfinished}
use Rattle.ledger_state.specs.declared.entry.Owner.{Owner}
use Rattle.ledger_state.specs.declared.object.Object.{Object}
use Rattle.ledger_state.specs.declared.value.Value.TheVariants as values
use Rattle.value_laws.specs.Configuration.{Frame}
use Rattle.value_laws.specs.FieldContents.{AreUnfinished, DeclaresOwning}
use Rattle.value_laws.specs.Renewing.{IsHeldBy, is_declared_beside}

declares : (p : Program) (m : MethodId) (f : FieldId) → is_declared_beside p m (field_at p f) ≡ true → DeclaresOwning p m
declares p m f is = go (field_at p f) refl is
  where
    go : (x : Option Field) → field_at p f ≡ x → is_declared_beside p m x ≡ true → DeclaresOwning p m
    go None at none = absurd (true≢false (sym none))
    go (Some x) at some = let parts = and_parts x.owning (is_class_of x.class (method_at p m)) some in (f, x, at, parts.0, parts.1)

module _ (p : Program) where
  held_constructs : (fr : Frame) (a : Owner) → IsHeldBy p fr a → constructs (method_at p fr.method) ≡ true
  held_constructs fr a held = (and_parts (constructs (method_at p fr.method)) (not (is_present (alias_in (method_at p fr.method)))) held.0).0

  held_runs : (fr : Frame) (a : Owner) (w : ℕ) → is_held_by a w ≡ true → IsHeldBy p fr a → fr.locals.this ≡ values.Object w
  held_runs fr a w is held = held.1.runs ∙ ap values.Object (eqb-true held.1.holder w (sym (ap (λ (o : Owner). is_held_by o w) held.1.owns) ∙ is))

  module _ (h : HeapContents) where
    -- the object is not finished
    pub held_unready : (fr : Frame) (frs : List Frame) (a : Owner) (w : ℕ) → is_held_by a w ≡ true → AreUnfinished p h (fr ∷ frs) → IsHeldBy p fr a → (finished_in (object_at h w) ≡ false) × (fr.locals.this ≡ values.Object w)
    held_unready fr frs a w is unready held = (go (object_at h w) refl, this)
      where
        this : fr.locals.this ≡ values.Object w
        this = held_runs fr a w is held

        go : (y : Option Object) → object_at h w ≡ y → finished_in (object_at h w) ≡ false
        go None none = ap finished_in none
        go (Some y) there = ap finished_in there ∙ unready.0 w y (declares p fr.method held.1.field held.1.declared) (held_constructs fr a held) this there

-- the objects of constructors stay unfinished over a step that finishes none
pub unfinished_kept : (p : Program) (h k : HeapContents) → ((o : ℕ) (x y : Object) → object_at h o ≡ Some x → object_at k o ≡ Some y → x.finished ≡ false → y.finished ≡ false) → (frs : List Frame) → LocalsIn h frs → AreUnfinished p h frs → AreUnfinished p k frs
unfinished_kept p h k stays [] in' unready = tt
unfinished_kept p h k stays (fr ∷ frs) in' unready = (here, unfinished_kept p h k stays frs (All-tail (λ (u : Frame). LocalsInRange h u.locals) fr frs in') unready.1)
  where
    here : (w : ℕ) (y : Object) → DeclaresOwning p fr.method → constructs (method_at p fr.method) ≡ true → fr.locals.this ≡ values.Object w → object_at k w ≡ Some y → y.finished ≡ false
    here w y declares' makes this now =
        let number = (All-head (λ (u : Frame). LocalsInRange h u.locals) fr frs in').this w (ap number_of this) in
        let class : ClassId = record { 0 = 0 } in
        let there = object_there h w (unfinished class) number.0 number.1 in
        stays w there.0 y there.1 now (unready.0 w there.0 declares' makes this there.1)
