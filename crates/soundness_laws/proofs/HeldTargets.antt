-- What a frame that ends does not own, and no field of an object on which it runs a constructor that ends by an exception, has the owner that it had.
use Rattle.std.proofs.Common.{Bool, None, Option, Some, ap, eqb-true, false, if◌then◌else◌, inl, inr, refl, subst, sym, true, true≢false, ℕ, ◌+◌, ◌∙◌, ◌≡◌}
use Rattle.program_model.specs.declared.kinds.ClassId.{ClassId}
use Rattle.program_model.specs.declared.kinds.FieldId.{FieldId}
use Rattle.program_model.specs.declared.program.Method.{Method}
use Rattle.program_model.specs.declared.program.Program.{Program}
use Rattle.ledger_obligations.specs.Bodies.{constructs}
use Rattle.ledger_obligations.specs.Obligations.{end_holder, is_frame, is_held_by}
use Rattle.ledger_state.specs.Contents.{HeapContents}
use Rattle.ledger_state.specs.Heaps.{object_at}
use Rattle.ledger_state.specs.Values.{number_of}
use Rattle.ledger_state.specs.declared.entry.Owner.{Owner}
use Rattle.ledger_state.specs.declared.entry.Owner.TheVariants as owners
use Rattle.ledger_state.specs.declared.object.Object.{Object}
use Rattle.ledger_state.specs.declared.value.Value.{Value}
use Rattle.ledger_steps.specs.Ends.{constructor_ended, frame_ended, frame_gone, result_moved}
use Rattle.content_laws.specs.ProgramCalls.{IsReturned}
use Rattle.content_laws.proofs.EndLaws.{frame_back, holder_back, is_held}
use Rattle.content_laws.proofs.Returned.{result_back}

-- the object of an owner that is a field
pub held_by_number : (k : Option ℕ) (w : ℕ) (f : FieldId) (z : Object) → z.owner ≡ owners.Field w f → is_held k z ≡ true → k ≡ Some w
held_by_number None w f z owner held = absurd (true≢false (sym held))
held_by_number (Some k) w f z owner held = ap Some (sym (eqb-true w k (sym (ap (λ (o : Owner). is_held_by o k) owner) ∙ held)))

-- no field is a frame
pub frame_holds_none : (k : Option ℕ) (j : ℕ) (z : Object) → z.owner ≡ owners.Frame j → is_held k z ≡ true → ⊥
frame_holds_none None j z owner held = true≢false (sym held)
frame_holds_none (Some k) j z owner held = true≢false (sym held ∙ ap (λ (o : Owner). is_held_by o k) owner)

-- The frame does not give the object back as its result, and does not own it; and where it runs a constructor, no field of what this makes does.
module _ (p : Program) (at : ℕ) (this : Value) (runs : Option Method) (v : Value) (e : Option ClassId) (h : HeapContents) (n : ℕ) (x : Object) (before : object_at h n ≡ Some x)
    (kept : (u : Object) → IsReturned p at runs v e h n x u → ⊥) (apart : is_frame x.owner (at + 1) ≡ false) (other : constructs runs ≡ true → (z : Object) → z.owner ≡ x.owner → is_held (number_of this) z ≡ true → ⊥) where
  moved_owner : (u : Object) → object_at (result_moved p at runs v e h) n ≡ Some u → u.owner ≡ x.owner
  moved_owner u now =
      let old = result_back p at runs v h e n u now in
      let same : old.before ≡ x = (let both : Some old.before ≡ Some x = sym old.at ∙ before in (let one : old.before ≡ x = cc in one)) in
      elim old.owner [
        | inl stays ↦ stays ∙ ap (λ (z : Object). z.owner) same
        | inr given ↦ absurd (kept u (subst (λ (b : Object). IsReturned p at runs v e h n b u) same given))
      ]

  ended_owner : (z : Object) → object_at (frame_ended p at runs v e h) n ≡ Some z → z.owner ≡ x.owner
  ended_owner z now =
      let u = frame_back (at + 1) (result_moved p at runs v e h) n z now in
      let owner = moved_owner u.0 u.1 in
      elim u.2 [
        | inl same ↦ ap (λ (b : Object). b.owner) same ∙ owner
        | inr gave ↦ absurd (true≢false (sym gave.0 ∙ ap (λ (o : Owner). is_frame o (at + 1)) owner ∙ apart))
      ]

  pub gone_keeps_owner : (y : Object) → object_at (frame_gone p at this runs v e h) n ≡ Some y → y.owner ≡ x.owner
  gone_keeps_owner y now = by_thrown e now
    where
      by_thrown : (c : Option ClassId) → object_at (constructor_ended this runs c (frame_ended p at runs v e h)) n ≡ Some y → y.owner ≡ x.owner
      by_thrown None now' = ended_owner y now'
      by_thrown (Some c) now' = go (constructs runs) refl now'
        where
          go : (b : Bool) → constructs runs ≡ b → object_at (if b then end_holder (number_of this) (frame_ended p at runs v e h) else frame_ended p at runs v e h) n ≡ Some y → y.owner ≡ x.owner
          go true new there' =
              let z = holder_back (number_of this) (frame_ended p at runs v e h) n y there' in
              let owner = ended_owner z.0 z.1 in
              elim z.2 [
                | inl same ↦ ap (λ (b : Object). b.owner) same ∙ owner
                | inr gave ↦ absurd (other new z.0 owner gave.0)
              ]
          go false old there' = ended_owner y there'
