-- What is said of values, facts and numbers where a call begins.
use Rattle.std.specs.Prelude.{◌<◌, ◌||◌}
use Rattle.std.proofs.Common.{◌≡◌, ◌⊎◌, inl, inr, ℕ, Bool, true, false, Option, Some, None, refl, sym, ◌∙◌, true≢false, nat_lt, ltb-false, ltb-true, arith}
use Rattle.program_model.specs.declared.kinds.BodyId.{BodyId}
use Rattle.program_model.specs.declared.program.Method.{Method}
use Rattle.program_model.specs.declared.program.Program.{Program}
use Rattle.ledger_obligations.specs.MustCallSets.{Names}
use Rattle.control_actions.specs.declared.fact.Mode.{Mode}
use Rattle.control_actions.specs.declared.fact.Origin.{Origin}
use Rattle.control_actions.specs.declared.place.Place.{Place}
use Rattle.ownership_rules.specs.Births.{fact_at}
use Rattle.ownership_rules.specs.Facts.{is_held, is_own}
use Rattle.ledger_state.specs.Contents.{HeapContents}
use Rattle.ledger_state.specs.Heaps.{root_of}
use Rattle.ledger_state.specs.Values.{number_of}
use Rattle.ledger_state.specs.declared.value.Value.{Value}
use Rattle.ledger_state.specs.declared.value.Value.TheVariants as values
use Rattle.ledger_steps.specs.LedgerCallsCalls.{control_in}
use Rattle.value_laws.specs.Configuration.{Frame}
use Rattle.value_laws.specs.PlaceFacts.{claims}
use Rattle.covering_laws.proofs.HeavyFields.{claims_owned}

-- a number is no object's where the value has none
pub no_number : (k : HeapContents) (v : Value) (o : ℕ) → number_of v ≡ None → root_of k v ≡ Some o → ⊥
no_number k (values.Object n) o none is = absurd (let never : Some n ≡ None = none in cc)
no_number k v o none is = cc

-- the object that a value is
pub object_value : (k : HeapContents) (v : Value) (o : ℕ) → root_of k v ≡ Some o → (w : ℕ) × (v ≡ values.Object w)
object_value k (values.Object n) o is = (n, refl)
object_value k v o is = absurd (let never : None ≡ Some o = is in cc)

-- a fact in such a mode claims nothing
pub unclaimed_mode : (p : Program) (k : Option Method) (g : Origin) (q : Place) (m : Mode) (names : Names) (full : Bool) → (is_own m || is_held m) ≡ false → claims p k g (fact_at q m names full) ≡ true → ⊥
unclaimed_mode p k g q m names full none claimed = true≢false (sym (claims_owned p k g (fact_at q m names full) claimed).1 ∙ none)

-- a frame's locals are those with which it begins
pub locals_of : (p : Program) (x : Option BodyId) (fr : Frame) → (control_in p x fr).locals ≡ fr.locals
locals_of p None fr = refl
locals_of p (Some b) fr = refl

-- of two numbers
pub lt_or : (m n : ℕ) → (m < n) ⊎ ((n < m) ⊎ (m ≡ n))
lt_or m n = go (nat_lt m n) refl (nat_lt n m) refl
  where
    go : (b : Bool) → nat_lt m n ≡ b → (d : Bool) → nat_lt n m ≡ d → (m < n) ⊎ ((n < m) ⊎ (m ≡ n))
    go true e d e' = inl (ltb-true m n e)
    go false e true e' = inr (inl (ltb-true n m e'))
    go false e false e' = let low' = ltb-false m n e in let high = ltb-false n m e' in inr (inr (omega (arith, low', high)))
