-- What is linked after a store was linked so before it, and is of the class that it was of.
use Rattle.std.proofs.Common.{ℕ, Bool, true, false, Option, Some, None, refl, sym, ap, ◌∙◌, if◌then◌else◌}
use Rattle.program_model.specs.declared.kinds.FieldId.{FieldId}
use Rattle.program_model.specs.declared.program.Method.{Method}
use Rattle.program_model.specs.declared.program.Program.{Program}
use Rattle.java_control.specs.Owned.{is_owning}
use Rattle.ledger_state.specs.Contents.{HeapContents}
use Rattle.ledger_state.specs.Heaps.{put_field}
use Rattle.ledger_state.specs.declared.locals.Locals.{Locals}
use Rattle.ledger_state.specs.declared.object.Object.{Object}
use Rattle.ledger_state.specs.declared.value.Value.{Value}
use Rattle.ledger_obligations.specs.Obligations.{holder_roots, moved_in, stored_owning}
use Rattle.ledger_steps.specs.InnerSteps.{heap_stored, is_bound}
use Rattle.ledger_steps.specs.declared.store.Store.{Store}
use Rattle.covering_laws.proofs.LinkedExceptions.{LinkedWere}
use Rattle.covering_laws.proofs.Renewed.{reset_keeps}
use Rattle.covering_laws.proofs.StoredObjects.{stored_goes_on}
use Rattle.covering_laws.proofs.StoreResets.{stored_was}

owned_were : (p : Program) (h : HeapContents) (w : ℕ) (f : FieldId) (bound : Bool) (v : Value) → LinkedWere h (stored_owning p h w f bound v)
owned_were p h w f bound v n y l at some =
    let x = stored_was p h w f bound v n y at in
    let keeps = reset_keeps p (moved_in p h w f bound v) (holder_roots p h w f bound v) n x.1 in
    let on = stored_goes_on p h w f v n x.0 x.1 x.3 in
    (x.0, x.2, sym on.link ∙ sym keeps.1 ∙ ap (λ (u : Object). u.link) x.5 ∙ some, ap (λ (u : Object). u.class) (sym x.5) ∙ keeps.0 ∙ on.class)

pub stored_were : (p : Program) (h : HeapContents) (m : Option Method) (l : Locals) (r : Option Store) → LinkedWere h (heap_stored p m l r h)
stored_were p h m l None = λ n y k at some. (y, at, some, refl)
stored_were p h m l (Some s) = by (is_owning p s.field)
  where
    by : (b : Bool) → LinkedWere h (if b then stored_owning p h s.holder s.field (is_bound h m l s.value) s.value else put_field s.holder s.field s.value h)
    by true = owned_were p h s.holder s.field (is_bound h m l s.value) s.value
    by false = λ n y k at some. (y, at, some, refl)
