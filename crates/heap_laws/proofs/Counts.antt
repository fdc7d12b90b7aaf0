-- A call of the library, and an exception of an operation, take no object away.
use Rattle.std.proofs.Common.{◌≡◌, ℕ, ◌≤◌, Option, Some, None, refl, arith}
use Rattle.program_model.specs.declared.kinds.ClassId.{ClassId}
use Rattle.program_model.specs.declared.program.Method.{Method}
use Rattle.program_model.specs.declared.program.Program.{Program}
use Rattle.ledger_obligations.specs.MustCallSets.{must_of}
use Rattle.control_actions.specs.declared.action.Action.{Action}
use Rattle.stub_conduct.specs.declared.choice.Conduct.{Conduct}
use Rattle.stub_conduct.specs.declared.choice.Conduct.TheVariants as conducts
use Rattle.ledger_state.specs.Contents.{HeapContents}
use Rattle.ledger_state.specs.Heaps.{append, next_number, only_at}
use Rattle.ledger_state.specs.declared.entry.Owner.TheVariants as owners
use Rattle.ledger_state.specs.declared.locals.Locals.{Locals}
use Rattle.ledger_obligations.specs.Obligations.{all_notes, finished, first_set, noted_object, reset_in}
use Rattle.ledger_steps.specs.LedgerCallsCalls.{arguments_moved, operand_of, params_in, position_of}
use Rattle.ledger_steps.specs.Conducts.{fresh_born, library_birth, library_notes, object_made}
use Rattle.ledger_steps.specs.CallSteps.{library_called, library_heap, library_made, library_reset, library_roots}
use Rattle.ledger_steps.specs.InnerSteps.{thrown_heap}
use Rattle.heap_laws.proofs.MoveLaws.{params_count}
use Rattle.heap_laws.proofs.ObjectLaws.{appended_count, changed_count}

made_count : (d : Conduct) (h : HeapContents) → next_number h ≤ next_number (object_made d h)
made_count conducts.Null h = omega arith
made_count (conducts.Throws e) h = let more = appended_count h e in omega (arith, more)
made_count (conducts.Fresh e) h = let more = appended_count h e in omega (arith, more)
made_count d h = omega arith

pub birth_count : (p : Program) (l : Locals) (a : Action) (m : Option Method) (j k : ℕ) (d : Conduct) (h : HeapContents) → next_number (library_birth p l a m j k d h) ≡ next_number h
birth_count p l a m j k conducts.Null h = refl
birth_count p l a m j k (conducts.Throws e) h = changed_count (only_at k (finished (first_set p e None) owners.Library)) h
birth_count p l a m j k (conducts.Fresh e) h = changed_count (only_at k (fresh_born p e m a j (position_of None l a))) h
birth_count p l a m j k d h = refl

pub library_count : (p : Program) (l : Locals) (a : Action) (named m : Option Method) (d : Conduct) (i : ℕ) (h : HeapContents) → next_number h ≤ next_number (library_heap p l a named m d i h)
library_count p l a named m d i h =
    let moved = params_count p owners.Library (operand_of l a) 1 (params_in named) h in
    let made = made_count d (arguments_moved p owners.Library l a named h) in
    let called = changed_count (noted_object (all_notes p (library_made p l a named d h) (library_notes p (library_made p l a named d h) l a named m (next_number h) d))) (library_made p l a named d h) in
    let reset = changed_count (reset_in p (library_called p l a named m d h) (library_roots p l a named m d h)) (library_called p l a named m d h) in
    let born = birth_count p l a m i (next_number h) d (library_reset p l a named m d h) in
    omega (arith, moved, made, called, reset, born)

pub thrown_count : (p : Program) (e : Option ClassId) (h : HeapContents) → next_number h ≤ next_number (thrown_heap p e h)
thrown_count p None h = omega arith
thrown_count p (Some e) h =
    let more = appended_count h e in
    let same = changed_count (only_at (next_number h) (finished (must_of p e) owners.Library)) (append h e) in
    omega (arith, more, same)
