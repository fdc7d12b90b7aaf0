-- Objects of class `String`: where the static type is no class type, the object of a `new String(..)` may stand (JLS 4.3.3, 15.9).
use Rattle.std.specs.Prelude.{◌≡◌, ℕ, false, Some}
use Rattle.program_model.specs.declared.program.Program.{Program}
use Rattle.ledger_obligations.specs.MustCallSets.{is_heavy_class}
use Rattle.ledger_state.specs.Contents.{HeapContents}
use Rattle.ledger_state.specs.Heaps.{object_at, root_of}
use Rattle.ledger_state.specs.declared.object.Object.{Object}
use Rattle.ledger_state.specs.declared.value.Value.{Value}
use Rattle.value_laws.specs.Types.{IsNoObjectButText}

-- where a value is no object but of class `String`, it is of none that has an obligation, and leads to none
abbrev pub TextsAreLight : Program → HeapContents → Type 0
TextsAreLight p h = (v : Value) (o : ℕ) (y : Object) → IsNoObjectButText p h v → root_of h v ≡ Some o → object_at h o ≡ Some y → is_heavy_class p y.class ≡ false
