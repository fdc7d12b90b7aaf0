-- What the signature promises at a call of the library is noted on the operand, or on what a field of the receiver holds.
use Rattle.std.proofs.Common.{◌≡◌, ℕ, zero, suc, ◌+◌, ◌<◌, true, false, Option, Some, None, List, slice_get, refl, sym, ap, ◌∙◌, arith}
use Rattle.std.specs.Prelude.{unwrap_or}
use Rattle.std.specs.List.{find, range_with_len}
use Rattle.std.specs.FinSet as set
use Rattle.std.proofs.lemmas.Bool.{or_left}
use Rattle.program_model.specs.declared.kinds.FieldId.{FieldId}
use Rattle.program_model.specs.declared.kinds.Target.{Target}
use Rattle.program_model.specs.declared.kinds.Target.TheVariants as promised
use Rattle.program_model.specs.declared.program.Method.{Method}
use Rattle.program_model.specs.declared.program.Program.{Program}
use Rattle.program_model.specs.declared.program.Promise.{Promise}
use Rattle.program_model.specs.Lookups.{field_at}
use Rattle.ledger_obligations.specs.MustCallSets.{Names}
use Rattle.control_actions.specs.declared.action.Action.{Action}
use Rattle.control_actions.specs.declared.action.Action.TheVariants as actions
use Rattle.stub_conduct.specs.declared.choice.Conduct.{Conduct}
use Rattle.ledger_state.specs.Contents.{HeapContents}
use Rattle.ledger_state.specs.Fields.{default_in, field_of}
use Rattle.ledger_state.specs.Heaps.{is_field_of, next_number, object_at, root, root_of, value_stored}
use Rattle.ledger_state.specs.Values.{number_of}
use Rattle.ledger_state.specs.declared.locals.Locals.{Locals}
use Rattle.ledger_state.specs.declared.object.Object.{Object}
use Rattle.ledger_state.specs.declared.object.StoredField.{StoredField}
use Rattle.ledger_state.specs.declared.value.Value.{Value}
use Rattle.ledger_state.specs.declared.value.Value.TheVariants as values
use Rattle.ledger_obligations.specs.declared.note.Note.{Note}
use Rattle.ledger_obligations.specs.Obligations.{has_note, keep_all, kept_name, name_of, note, same_note}
use Rattle.ledger_steps.specs.LedgerCallsCalls.{keep_promise, kept_promise, kept_promises, operand_of, receiver_note, reset_position}
use Rattle.ledger_steps.specs.Conducts.{positions, promises_by}
use Rattle.ledger_steps.specs.CallSteps.{library_heap, library_made}
use Rattle.heap_laws.specs.Heaps.{HasEarlierLinks}
use Rattle.heap_laws.specs.Leading.{Leads}
use Rattle.heap_laws.proofs.NoteLists.{flat_has, has_right, range_has, same_note_self}
use Rattle.heap_laws.proofs.RootLaws.{has_object}
use Rattle.heap_laws.specs.LibraryCalls.{HasSmallInterest}
use Rattle.heap_laws.proofs.Links.{fields_stay, noted_on_root}

-- ---- what is noted

-- each of the names is kept
names_kept : (w : ℕ) (names : Names) (n : ℕ) → set.contains names n ≡ true → n < 128 → has_note (keep_all (Some w) names) (note true w (name_of n)) ≡ true
names_kept w names n is small =
    flat_has (kept_name w names) (range_with_len 0 128) n n (note true w (name_of n)) (range_has 0 128 n small ∙ (let same : 0 + n ≡ n = omega arith in ap Some same))
    (rw is (or_left (same_note (note true w (name_of n)) (note true w (name_of n))) false (same_note_self (note true w (name_of n)))))

module _ (p : Program) (g : HeapContents) (at : ℕ → Value) (qs : List Promise) (j : ℕ) (q : Promise) (w n : ℕ) (there : slice_get qs j ≡ Some q) (has : set.contains q.names n ≡ true)
    (small : n < 128) where
  kept_on : (t : Target) (v : Value) → q.target ≡ t → has_note (keep_promise p g at q t) (note true w (name_of n)) ≡ has_note (keep_all (number_of v) q.names) (note true w (name_of n))
      → v ≡ values.Object w → has_note (kept_promises p g at qs) (note true w (name_of n)) ≡ true
  kept_on t v target same is =
      flat_has (kept_promise p g at) qs j q (note true w (name_of n)) there
      (ap (λ (u : Target). has_note (keep_promise p g at q u) (note true w (name_of n))) target
      ∙ same
      ∙ ap (λ (u : Value). has_note (keep_all (number_of u) q.names) (note true w (name_of n))) is
      ∙ names_kept w q.names n has small)

  kept_at : (k : ℕ) → q.target ≡ promised.At k → at k ≡ values.Object w → has_note (kept_promises p g at qs) (note true w (name_of n)) ≡ true
  kept_at k target is = kept_on (promised.At k) (at k) target refl is

  kept_of_field : (f : FieldId) → q.target ≡ promised.OfField f → field_of p g (at 0) f ≡ values.Object w → has_note (kept_promises p g at qs) (note true w (name_of n)) ≡ true
  kept_of_field f target is = kept_on (promised.OfField f) (field_of p g (at 0) f) target refl is

-- ---- the positions

-- what has a root is an object
object_of_root : (h : HeapContents) (v : Value) (o : ℕ) → root_of h v ≡ Some o → (w : ℕ) × (v ≡ values.Object w) × (root h w ≡ o)
object_of_root h (values.Object w) o is = (w, refl, (let both : Some (root h w) ≡ Some o = is in (let one : root h w ≡ o = cc in one)))
object_of_root h values.Nothing o is = absurd (let never : None ≡ Some o = is in cc)
object_of_root h v o is = absurd (let never : None ≡ Some o = is in cc)

-- an operand at position 0 is the receiver: a `new` has none there
receiver_position : (l : Locals) (a : Action) (made : ℕ) (d : Conduct) (w : ℕ) → operand_of l a 0 ≡ values.Object w → positions l a made d 0 ≡ values.Object w
receiver_position l actions.Skip made d w is = is
receiver_position l (actions.New m e n) made d w is = absurd (let never : values.Nothing ≡ values.Object w = is in cc)
receiver_position l a made d w is = is

operand_position : (l : Locals) (a : Action) (made : ℕ) (d : Conduct) (k w : ℕ) → operand_of l a k ≡ values.Object w → positions l a made d k ≡ values.Object w
operand_position l a made d zero w is = receiver_position l a made d w is
operand_position l a made d (suc k) w is = is

-- ---- the fields

-- the same fields hold the same
field_stays : (p : Program) (g h : HeapContents) (v : Value) (f : FieldId) → g.fields ≡ h.fields → field_of p g v f ≡ field_of p h v f
field_stays p g h (values.Object w) f same = ap (λ (fields : List StoredField). unwrap_or (value_stored (find (is_field_of w f) fields)) (default_in (field_at p f))) same
field_stays p g h values.Nothing f same = refl
field_stays p g h v f same = refl

-- ---- the call

module _ (p : Program) (l : Locals) (a : Action) (named m : Option Method) (d : Conduct) (i : ℕ) (h : HeapContents) where
  abbrev made : HeapContents
  made = library_made p l a named d h

  abbrev promises : List Note
  promises = kept_promises p made (positions l a (next_number h) d) (promises_by m d)

  -- calls on what the value is lead to the object
  abbrev pub ValueLeads : Value → ℕ → Type 0
  ValueLeads v o = (w : ℕ) → v ≡ values.Object w → Leads p h w o

  reaches : (w n o : ℕ) (x y : Object) → HasEarlierLinks h → HasSmallInterest named → reset_position named ≡ None → has_note promises (note true w (name_of n)) ≡ true → root h w ≡ o → object_at h o ≡ Some x
      → Leads p h w o → object_at (library_heap p l a named m d i h) o ≡ Some y → set.contains y.called n ≡ true
  reaches w n o x y links small none has end before leads at =
      let first = has_object h w o x end before in
      noted_on_root p l a named m d i h (note true w (name_of n)) o first.0 y links small none (has_right (receiver_note l a named) promises (note true w (name_of n)) has) first.1 refl leads at

  pub called_at : (j : ℕ) (q : Promise) (k n o : ℕ) (x y : Object) → HasEarlierLinks h → HasSmallInterest named → reset_position named ≡ None → slice_get (promises_by m d) j ≡ Some q → q.target ≡ promised.At k
      → set.contains q.names n ≡ true → n < 128 → root_of h (operand_of l a k) ≡ Some o → object_at h o ≡ Some x → ValueLeads (operand_of l a k) o
      → object_at (library_heap p l a named m d i h) o ≡ Some y → set.contains y.called n ≡ true
  called_at j q k n o x y links small none there target has low holds before leads at =
      let it = object_of_root h (operand_of l a k) o holds in
      reaches it.0 n o x y links small none
      (kept_at p made (positions l a (next_number h) d) (promises_by m d) j q it.0 n there has low k target (operand_position l a (next_number h) d k it.0 it.1))
      it.2 before (leads it.0 it.1) at

  pub called_in_field : (j : ℕ) (q : Promise) (f : FieldId) (n o : ℕ) (x y : Object) → HasEarlierLinks h → HasSmallInterest named → reset_position named ≡ None → slice_get (promises_by m d) j ≡ Some q
      → q.target ≡ promised.OfField f → set.contains q.names n ≡ true → n < 128 → root_of h (field_of p h (operand_of l a 0) f) ≡ Some o → object_at h o ≡ Some x
      → ValueLeads (field_of p h (operand_of l a 0) f) o → object_at (library_heap p l a named m d i h) o ≡ Some y → set.contains y.called n ≡ true
  called_in_field j q f n o x y links small none there target has low holds before leads at =
      let it = object_of_root h (field_of p h (operand_of l a 0) f) o holds in
      let holder = holder_of (operand_of l a 0) it.1 in
      reaches it.0 n o x y links small none
      (kept_of_field p made (positions l a (next_number h) d) (promises_by m d) j q it.0 n there has low f target
      (ap (λ (v : Value). field_of p made v f) (receiver_position l a (next_number h) d holder.0 holder.1)
      ∙ field_stays p made h (values.Object holder.0) f (fields_stay p l a named m d i h)
      ∙ ap (λ (v : Value). field_of p h v f) (sym holder.1)
      ∙ it.1))
      it.2 before (leads it.0 it.1) at
    where
      holder_of : (v : Value) {w : ℕ} → field_of p h v f ≡ values.Object w → (u : ℕ) × (v ≡ values.Object u)
      holder_of (values.Object u) is = (u, refl)
      holder_of values.Nothing {w} is = absurd (let never : values.Nothing ≡ values.Object w = is in cc)
      holder_of v {w} is = absurd (let never : values.Nothing ≡ values.Object w = is in cc)
