-- The root of a call's target, where it is finished.
use Rattle.std.specs.Prelude.{if◌then◌else◌}
use Rattle.std.proofs.Common.{Bool, None, Option, Some, ap, false, refl, true, ℕ, ◌∙◌, ◌≡◌}
use Rattle.program_model.specs.declared.program.Method.{Method}
use Rattle.ledger_obligations.specs.Bodies.{reset_in}
use Rattle.ledger_state.specs.Contents.{HeapContents}
use Rattle.ledger_state.specs.Heaps.{object_at, root, root_of}
use Rattle.ledger_state.specs.Values.{number_of}
use Rattle.ledger_state.specs.declared.value.Value.{Value}
use Rattle.ledger_state.specs.declared.value.Value.TheVariants as values
use Rattle.ledger_obligations.specs.Obligations.{finished_in}
use Rattle.ledger_steps.specs.LedgerCallsCalls.{reset_position}
use Rattle.value_laws.specs.HeapAnew.{finished_root}

-- a value of which this is the finished root has it for its root
pub target_value : (h : HeapContents) (v : Value) (o : ℕ) → finished_root h (number_of v) ≡ Some o → (root_of h v ≡ Some o) × (finished_in (object_at h o) ≡ true)
target_value h values.Nothing o is = absurd (let never : None ≡ Some o = is in cc)
target_value h (values.Object w) o is = go (finished_in (object_at h (root h w))) refl is
  where
    go : (b : Bool) → finished_in (object_at h (root h w)) ≡ b → (if b then Some (root h w) else None) ≡ Some o → (Some (root h w) ≡ Some o) × (finished_in (object_at h o) ≡ true)
    go true done same = (same, ap (λ (n : ℕ). finished_in (object_at h n)) (let one : o ≡ root h w = (let both : Some (root h w) ≡ Some o = same in cc) in one) ∙ done)
    go false undone same = absurd (let never : None ≡ Some o = same in cc)
target_value h v o is = absurd (let never : None ≡ Some o = is in cc)

-- the position that a signature creates anew, in the words of two crates
pub same_position : (m : Option Method) → reset_in m ≡ reset_position m
same_position None = refl
same_position (Some m) = refl
