-- What a call of a super constructor creates the obligation of anew, by a parameter, is not the caller's `this`, where it is not finished and its class has owning fields.
use Rattle.std.proofs.Common.{◌≡◌, inl, inr, ℕ, ◌+◌, ◌&&◌, Bool, true, false, true≢false, not, List, Some, slice_get, nat_eq, refl, sym, ap, ◌∙◌, eqb-true, arith}
use Rattle.std.proofs.lemmas.Bool.{and_from}
use Rattle.program_model.specs.declared.program.Program.{Program}
use Rattle.program_model.specs.Lookups.{method_at}
use Rattle.ledger_obligations.specs.Bodies.{constructs, reset_in}
use Rattle.ledger_obligations.specs.MustCallSets.{is_heavy_class}
use Rattle.java_control.specs.Calls.{is_reset_of_this, operand_at}
use Rattle.java_control.specs.Control.{Step}
use Rattle.control_actions.specs.declared.fact.Mode.TheVariants as modes
use Rattle.control_actions.specs.declared.place.Place.TheVariants as places
use Rattle.ownership_rules.specs.Callees.{callee, is_this_target}
use Rattle.ownership_rules.specs.Facts.{has, is_held, is_this_origin}
use Rattle.ledger_state.specs.Contents.{HeapContents}
use Rattle.ledger_state.specs.Heaps.{object_at, root_of}
use Rattle.ledger_state.specs.Locals.{temp_value}
use Rattle.ledger_state.specs.declared.object.Object.{Object}
use Rattle.ledger_state.specs.declared.value.Value.TheVariants as values
use Rattle.ledger_steps.specs.LedgerCallsCalls.{operand_of}
use Rattle.value_laws.specs.Accept.{Accept}
use Rattle.value_laws.specs.Agreement.{Stands}
use Rattle.value_laws.specs.Chains.{HaveEnds}
use Rattle.value_laws.specs.Choosing.{frame_steps}
use Rattle.value_laws.specs.Configuration.{Frame}
use Rattle.value_laws.specs.Frames.{KeepsTargets}
use Rattle.value_laws.specs.Outcomes.{IsCallRow}
use Rattle.value_laws.specs.PlaceFacts.{Covers, IsCovered, IsKeyed, IsOwned, OwesOrHolds, gives_none, owned, renews_none, unowned}
use Rattle.value_laws.specs.PlainForms.{HasPlainForms}
use Rattle.value_laws.specs.Renewing.{HasOwningField}
use Rattle.covering_laws.specs.Sight.{MakesThis}
use Rattle.covering_laws.proofs.RenewedOperands.{HoldsLent, answer, its_mode, small, temp}
use Rattle.covering_laws.proofs.SaidFacts.{lends_by_step}

module _ (p : Program) (ac : Accept p) (forms : HasPlainForms p) (h : HeapContents) (fr : Frame) (st : Stands p fr) (old : ℕ → Bool) (frs : List Frame) (i : ℕ) (s : Step) (here : slice_get (frame_steps p fr) i ≡ Some s) (row : IsCallRow s.action)
    (covered : IsCovered p h gives_none renews_none old frs fr) (holds : HoldsLent p h old frs fr st) (have : HaveEnds h) (targets : KeepsTargets p fr) (making : MakesThis p h fr) (o : ℕ) (x : Object) (before : object_at h o ≡ Some x)
    (heavy : is_heavy_class p x.class ≡ true) (owes : OwesOrHolds p h o x) (other : is_reset_of_this p s.action ≡ false) (k : ℕ) (position : reset_in (callee p s.action) ≡ Some (k + 1)) (root : root_of h (operand_of fr.locals s.action (k + 1)) ≡ Some o)
    (open' : x.finished ≡ false) (fields : HasOwningField p x.class) (makes : constructs (method_at p fr.method) ≡ true) (this : fr.locals.this ≡ values.Object o) where
  abbrev t : (n : ℕ) × (operand_at s.action (k + 1) ≡ Some n) × (operand_of fr.locals s.action (k + 1) ≡ temp_value fr.locals n)
  t = temp p ac h fr st old frs i s here row covered holds have targets making o x before heavy owes (k + 1) position root

  no_and : (b : Bool) → (b && false) ≡ false
  no_and true = refl
  no_and false = refl

  -- a fact that claims it says that it is finished
  not_claimed : (c : Covers p h false false old frs fr o x) → IsOwned p h false false old frs fr o x c → ⊥
  not_claimed c key = true≢false (sym (c.true' key.owning refl (ap (λ (b : Bool). is_held c.fact.mode && b) (lends_by_step p fr st i s here other) ∙ no_and (is_held c.fact.mode))).finished ∙ open')

  -- one that says that it is lent is none of `this`
  not_lent : (c : Covers p h false false old frs fr o x) → has c.fact.places (places.Temp t.0) ≡ true → c.fact.mode ≡ modes.Lent → ⊥
  not_lent c in' mode = go (is_this_origin c.origin.kind) refl
    where
      go : (b : Bool) → is_this_origin c.origin.kind ≡ b → ⊥
      go false origin = (c.begun mode (ap (λ (b : Bool). constructs (method_at p fr.method) && b) origin ∙ no_and (constructs (method_at p fr.method))) fields open').2 makes this
      go true origin =
          let is = answer p ac h fr st old frs i s here row covered holds have targets making o x before heavy owes (k + 1) position root c in' in
          let number : is.0 ≡ k + 1 = (let both : Some is.0 ≡ Some (k + 1) = sym is.1 ∙ position in cc) in
          true≢false (sym (and_from (is_this_origin c.origin.kind) (not (nat_eq is.0 0 && is_this_target s.action)) origin (ap (λ (b : Bool). not (b && is_this_target s.action)) (no_zero is.0 number))) ∙ is.2.shown)
        where
          no_zero : (n : ℕ) → n ≡ k + 1 → nat_eq n 0 ≡ false
          no_zero n is' = by (nat_eq n 0) refl
            where
              by : (b : Bool) → nat_eq n 0 ≡ b → b ≡ false
              by false none = refl
              by true same = absurd (let zero' = eqb-true n 0 same in omega (arith, zero', is'))

  pub not_this : ⊥
  not_this = by (covered (places.Temp t.0) o x (small p ac h fr st old frs i s here row covered holds have targets making o x before heavy owes (k + 1) position root) refl (ap (root_of h) (sym t.2) ∙ root) before heavy owes)
    where
      by : IsKeyed p h false false old frs fr (places.Temp t.0) o x → ⊥
      by (owned c in' key) = not_claimed c key
      by (unowned u) = elim (its_mode p ac h fr st old frs i s here row covered holds have targets making o x before heavy owes (k + 1) position root u.covers u.here) [
        | inl claimed ↦ true≢false (sym claimed ∙ u.unowned)
        | inr lent ↦ not_lent u.covers u.here lent
      ]
