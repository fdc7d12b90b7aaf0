-- What a must-call method of a class of the program promises is what the class's own method of its name promises, by names of the table.
use Rattle.std.specs.Prelude.{◌<◌, if◌then◌else◌}
use Rattle.std.specs.FinSet as set
use Rattle.std.proofs.Common.{◌≡◌, ℕ, Bool, true, Option, Some, List, [], ap, ◌∙◌, inl}
use Rattle.program_model.specs.NameSets.{when}
use Rattle.program_model.specs.declared.kinds.FieldId.{FieldId}
use Rattle.program_model.specs.declared.kinds.MethodId.{MethodId}
use Rattle.program_model.specs.declared.program.Method.{Method}
use Rattle.program_model.specs.declared.program.Program.{Program}
use Rattle.program_model.specs.declared.program.Promise.{Promise}
use Rattle.program_model.specs.Lookups.{method_at}
use Rattle.must_call_sets.specs.Signatures.{is_of_field, promised_names}
use Rattle.covering_laws.specs.Accept.{Accept}
use Rattle.ledger_obligations.specs.Obligations.{method_by, own_promises, promises_written}
use Rattle.covering_laws.proofs.NoteLists.{name_from_all, name_where}
use Rattle.covering_laws.proofs.SignedPromises.{promised_name_is_small}
use Rattle.covering_laws.proofs.Named.{own_method_named}
use Rattle.covering_laws.specs.FieldContents.{promised_on}
use Rattle.content_laws.specs.Going.{PromisesItsOwn}

small_names : (p : Program) → Accept p → (m : MethodId) (d : Method) (f : FieldId) (i : ℕ) → method_at p m ≡ Some d → set.contains (promised_on f d) i ≡ true → i < 128
small_names p ac m d f i at has =
    let from = name_from_all (λ (q : Promise). when (is_of_field q.target f) q.names) d.sig.promises.items i has in
    promised_name_is_small p ac m d from.0 i at (from.1, inl from.2) (name_where (is_of_field from.0.target f) from.0.names i from.3).1

pub promises_its_own : (p : Program) → Accept p → PromisesItsOwn p
promises_its_own p ac m d n f i at interest must program has = (
  ap (λ (qs : List Promise). set.contains (promised_names (λ t. is_of_field t f) qs) i) own ∙ has,
  small_names p ac m d f i at has,
)
  where
    own : own_promises p d.class n ≡ d.sig.promises.items
    own = ap (λ (o : Option MethodId). promises_written p (method_by p o)) (own_method_named p ac m d n at interest must) ∙ ap (promises_written p) at
        ∙ ap (λ (b : Bool). if b then [] else d.sig.promises.items) program
