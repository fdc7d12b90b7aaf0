-- A fact that has a place after a step goes on at the places of the step, and the frame owns its object only where it did so before; or a rule is broken.
use Rattle.std.proofs.Common.{◌≡◌, ℕ, Bool, true, false, true≢false, refl, sym, subst, ap, ◌∙◌}
use Rattle.std.proofs.lemmas.Bool.{or_left}
use Rattle.program_model.specs.declared.kinds.BodyId.{BodyId}
use Rattle.program_model.specs.declared.kinds.FieldId.{FieldId}
use Rattle.program_model.specs.declared.program.Program.{Program}
use Rattle.control_actions.specs.declared.action.Action.{Action}
use Rattle.control_actions.specs.declared.action.Action.TheVariants as actions
use Rattle.control_actions.specs.declared.action.Completion.{Completion}
use Rattle.control_actions.specs.declared.action.Edge.{Edge}
use Rattle.control_actions.specs.declared.action.Edge.TheVariants as edges
use Rattle.control_actions.specs.declared.fact.Fact.{Fact}
use Rattle.control_actions.specs.declared.fact.Origin.{Origin}
use Rattle.control_actions.specs.declared.fact.Outcome.{Outcome}
use Rattle.control_actions.specs.declared.fact.Outcome.TheVariants.{Next, Gone, Fault}
use Rattle.control_actions.specs.declared.place.Place.{Place}
use Rattle.control_actions.specs.declared.place.Place.TheVariants as places
use Rattle.ownership_rules.specs.Facts.{PlaceSet, has, is_held, is_own}
use Rattle.ownership_rules.specs.MovesAtReturns.{moved_at_return}
use Rattle.ownership_rules.specs.MustCallSets.{Names}
use Rattle.fact_laws.specs.CalledRows.{called_after}
use Rattle.fact_laws.specs.Flow.{flow}
use Rattle.fact_laws.specs.Going.{ArePlaces, GoesAs, StoresAs, left, taken}
use Rattle.fact_laws.specs.Outcomes.{After, IsCallRow, IsNotNull, IsPlainRow}
use Rattle.fact_laws.specs.PlaceRows.{places_after}
use Rattle.fact_laws.proofs.Flows.{IfNext, end_none}
use Rattle.fact_laws.proofs.Going.{held_goes, other_steps}
use Rattle.fact_laws.proofs.Resetting.{calls}
use Rattle.fact_laws.proofs.Storing.{stores}

-- ---- rows

-- which row of the flow rules an action is of
pub data RowOf (a : Action) : Type 0 where
  plain : IsPlainRow a → RowOf a
  call : IsCallRow a → RowOf a
  store : (g : FieldId) (d : ℕ) → a ≡ actions.PutOwn g d → RowOf a
  end : (c : Completion) → a ≡ actions.End c → RowOf a

pub row_of : (a : Action) → RowOf a
row_of actions.Skip = plain tt
row_of (actions.Copy x y) = plain tt
row_of (actions.Move x y) = plain tt
row_of (actions.Plain x v) = plain tt
row_of (actions.Drop s) = plain tt
row_of (actions.Settle d c) = plain tt
row_of (actions.Enter clause x d n) = plain tt
row_of (actions.Test d) = plain tt
row_of (actions.Op k d n) = plain tt
row_of (actions.Get g d this) = plain tt
row_of (actions.Put g d this) = plain tt
row_of (actions.Cast t d) = plain tt
row_of (actions.Raise d c) = plain tt
row_of (actions.PutOwn g d) = store g d refl
row_of (actions.Call m d n form) = call tt
row_of (actions.New m d n) = call tt
row_of (actions.Super m d n) = call tt
row_of (actions.End c) = end c refl

-- ---- steps

module _ (p : Program) (b : BodyId) (o : Origin) (f : Fact) where
  -- the fact is at these places, and the frame owns its object only where it did so before
  abbrev pub GoesOn : PlaceSet → Fact → Type 0
  GoesOn held g = ArePlaces g.places held × (is_own g.mode ≡ true → is_own f.mode ≡ true)

  after_going : (held : PlaceSet) (names : Names) (x : Outcome) → After (GoesAs f held names) x → After (GoesOn held) x
  after_going held names (Next g) goes = (goes.places, λ own. ap is_own (sym (goes.mode (or_left (is_own g.mode) (is_held g.mode) own))) ∙ own)
  after_going held names Gone goes = goes
  after_going held names (Fault rule lacks) goes = tt

  by_store : (y : FieldId) (d : ℕ) (g : Fact) → StoresAs p b o y d f g → is_own g.mode ≡ true → is_own f.mode ≡ true
  by_store y d g (taken may names full it) own = absurd (true≢false (sym own ∙ ap is_own it.mode))
  by_store y d g (left may names full it) own = ap is_own (sym (it.mode (or_left (is_own g.mode) (is_held g.mode) own))) ∙ own

  after_storing : (y : FieldId) (d : ℕ) (held : PlaceSet) (x : Outcome) → After (λ (g : Fact). ArePlaces g.places held × StoresAs p b o y d f g) x → After (GoesOn held) x
  after_storing y d held (Next g) goes = (goes.0, by_store y d g goes.1)
  after_storing y d held Gone goes = goes
  after_storing y d held (Fault rule lacks) goes = tt

  -- a fact that no field holds goes on where null is found only if the null is none that it speaks of
  not_null : (a : Action) (e : Edge) (g : Fact) → is_held f.mode ≡ false → flow p b o a e f ≡ Next g → IsNotNull f a e
  not_null actions.Skip e g other next = tt
  not_null (actions.Test d) edges.Null g other next = go (has f.places (places.Temp d)) refl
    where
      go : (y : Bool) → has f.places (places.Temp d) ≡ y → has f.places (places.Temp d) ≡ false
      go false out = out
      go true there = absurd (let never : Gone ≡ Next g = rw (there, other) at next in cc)
  not_null (actions.Test d) e g other next = tt
  not_null a e g other next = tt

  module _ (q : Place) where
    call_goes : (a : Action) (e : Edge) → IsCallRow a → has (places_after p b a e f.places) q ≡ true → After (GoesOn (places_after p b a e f.places)) (flow p b o a e f)
    call_goes a e row is = after_going (places_after p b a e f.places) (called_after p b a e f) (flow p b o a e f) (calls p b o a e f q row is)

    store_goes : (a : Action) (e : Edge) (y : FieldId) (d : ℕ) → a ≡ actions.PutOwn y d → has (places_after p b a e f.places) q ≡ true → After (GoesOn (places_after p b a e f.places)) (flow p b o a e f)
    store_goes a e y d same is =
        subst (λ (u : Action). After (GoesOn (places_after p b u e f.places)) (flow p b o u e f)) (sym same)
        (after_storing y d (places_after p b (actions.PutOwn y d) e f.places) (flow p b o (actions.PutOwn y d) e f)
        (stores p b o y d e f q (subst (λ (u : Action). has (places_after p b u e f.places) q ≡ true) same is)))

    -- each step but the end lets such a fact go on, where its object is not found to be null
    pub goes_on : (a : Action) (e : Edge) → ((c : Completion) → a ≡ actions.End c → ⊥) → IsNotNull f a e → has (places_after p b a e f.places) q ≡ true → After (GoesOn (places_after p b a e f.places)) (flow p b o a e f)
    goes_on a e on safe is = by (row_of a)
      where
        by : RowOf a → After (GoesOn (places_after p b a e f.places)) (flow p b o a e f)
        by (plain row) = after_going (places_after p b a e f.places) (called_after p b a e f) (flow p b o a e f) (other_steps p b o a e f q row safe is)
        by (call row) = call_goes a e row is
        by (store y d same) = store_goes a e y d same is
        by (end c same) = absurd (on c same)

    -- and what goes on does so at these places
    pub goes_so : (a : Action) (e : Edge) (g : Fact) → has (places_after p b a e f.places) q ≡ true → flow p b o a e f ≡ Next g → GoesOn (places_after p b a e f.places) g
    goes_so a e g is next = by (row_of a)
      where
        held : PlaceSet
        held = places_after p b a e f.places

        next_of : After (GoesOn held) (flow p b o a e f) → GoesOn held g
        next_of after = subst (After (GoesOn held)) next after

        by_mode : IsPlainRow a → (y : Bool) → is_held f.mode ≡ y → GoesOn held g
        by_mode row true mode = next_of (after_going held (called_after p b a e f) (flow p b o a e f) (held_goes p b o f q a e row mode is))
        by_mode row false mode = next_of (after_going held (called_after p b a e f) (flow p b o a e f) (other_steps p b o a e f q row (not_null a e g mode next) is))

        by : RowOf a → GoesOn held g
        by (plain row) = by_mode row (is_held f.mode) refl
        by (call row) = next_of (call_goes a e row is)
        by (store y d same) = next_of (store_goes a e y d same is)
        by (end c same) =
            let ends : flow p b o (actions.End c) e f ≡ Next g = subst (λ (u : Action). flow p b o u e f ≡ Next g) same next in
            absurd (subst (IfNext (λ (y : Fact). ⊥)) ends (end_none (λ (y : Fact). ⊥) p b o f c (moved_at_return p b o (actions.End c) f)))
