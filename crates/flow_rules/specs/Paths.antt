-- Paths of control and of facts through a body, and the faults that some path has. All speak of any control relation.
use Rattle.std.specs.Prelude.{◌≡◌, ℕ, Option, Some, None, List, [], ◌∷◌, ◌++◌, map, slice_get}
use Rattle.rlc_base.specs.declared.place.Pos.{Pos}
use Rattle.program_model.specs.declared.kinds.ClassId.{ClassId}
use Rattle.program_model.specs.declared.kinds.BodyId.{BodyId}
use Rattle.program_model.specs.declared.program.Program.{Program}
use Rattle.java_control.specs.Control.{Step, next_of, start_of}
use Rattle.java_control.specs.Remaining.{Todo}
use Rattle.control_actions.specs.declared.action.Action.{Action}
use Rattle.control_actions.specs.declared.action.Edge.{Edge}
use Rattle.control_actions.specs.declared.fact.Fact.{Fact}
use Rattle.control_actions.specs.declared.fact.Origin.{Origin}
use Rattle.control_actions.specs.declared.fact.Outcome.TheVariants.{Next, Fault}
use Rattle.control_actions.specs.declared.fact.Rule.{Rule}
use Rattle.obligation_facts.specs.Facts.{Names}
use Rattle.obligation_facts.specs.SmallActions.{IsSmallAction}
use Rattle.ownership_rules.specs.Births.{births_at_entry, births_of_step}
use Rattle.ownership_rules.specs.Room.{HasRoom}
use Rattle.flow_rules.specs.Flow.{flow}

-- a step from a control to a control
pub record Move (K : Type 0) : Type 0 where
  pub action : Action
  pub edge : Edge
  pub to : K
  pub pos : Pos

-- the control with which a body begins, and the steps of each control
pub record Relation (K : Type 0) : Type 0 where
  pub start : K
  pub next : K → List (Move K)

-- a control is reached
pub data Comes {K : Type 0} (r : Relation K) : K → Type 0 where
  start : Comes r r.start
  on : {k : K} → (i : ℕ) (t : Move K) → Comes r k → slice_get (r.next k) i ≡ Some t → Comes r t.to

-- A path brings a fact of the origin to a control: it is born at the body's entry or by a step, and goes on by the flow
-- rules. The facts of births have origin 0, and no rule reads that number or changes it.
pub data Reach {K : Type 0} (p : Program) (b : BodyId) (r : Relation K) (o : Origin) : K → Fact → Type 0 where
  entered : {f : Fact} → (n : ℕ) → slice_get (births_at_entry p b) n ≡ Some (o, f) → Reach p b r o r.start f
  born : {k : K} {f : Fact} → (i n : ℕ) (t : Move K) → Comes r k → slice_get (r.next k) i ≡ Some t
      → slice_get (births_of_step p b t.action t.edge t.pos) n ≡ Some (o, f) → Reach p b r o t.to f
  flowed : {k : K} {f g : Fact} → (i : ℕ) (t : Move K) → Reach p b r o k f → slice_get (r.next k) i ≡ Some t
      → flow p b o t.action t.edge f ≡ Next g → Reach p b r o t.to g

-- the last step of a path breaks the rule at the place, and these names are missing
pub record Faulty {K : Type 0} (p : Program) (b : BodyId) (r : Relation K) (o : Origin) (rule : Rule) (at : Pos) (names : Names) : Type 0 where
  pub control : K
  pub fact : Fact
  pub reached : Reach p b r o control fact
  pub index : ℕ
  pub move : Move K
  pub step : slice_get (r.next control) index ≡ Some move
  pub breaks : flow p b o move.action move.edge fact ≡ Fault rule names
  pub place : move.pos ≡ at

-- a step of a path, and what held before it
pub record Taken (K : Type 0) : Type 0 where
  pub control : K
  pub move : Move K
  pub fact : Option Fact

abbrev pub taken : {K : Type 0} → K → Move K → Option Fact → Taken K
taken k t f = record { control = k; move = t; fact = f }

-- the steps lead from the body's entry to the control, with the fact of the origin, or with none before it is born
pub data IsPath {K : Type 0} (p : Program) (b : BodyId) (r : Relation K) (o : Origin) : List (Taken K) → K → Option Fact → Type 0 where
  start : IsPath p b r o [] r.start None
  entered : {f : Fact} → (n : ℕ) → slice_get (births_at_entry p b) n ≡ Some (o, f) → IsPath p b r o [] r.start (Some f)
  on : {steps : List (Taken K)} {k : K} → (i : ℕ) (t : Move K) → IsPath p b r o steps k None → slice_get (r.next k) i ≡ Some t
      → IsPath p b r o (steps ++ taken k t None ∷ []) t.to None
  born : {steps : List (Taken K)} {k : K} {f : Fact} → (i n : ℕ) (t : Move K) → IsPath p b r o steps k None → slice_get (r.next k) i ≡ Some t
      → slice_get (births_of_step p b t.action t.edge t.pos) n ≡ Some (o, f) → IsPath p b r o (steps ++ taken k t None ∷ []) t.to (Some f)
  flowed : {steps : List (Taken K)} {k : K} {f g : Fact} → (i : ℕ) (t : Move K) → IsPath p b r o steps k (Some f) → slice_get (r.next k) i ≡ Some t
      → flow p b o t.action t.edge f ≡ Next g → IsPath p b r o (steps ++ taken k t (Some f) ∷ []) t.to (Some g)

-- Sets of places have room for the variables and the owning fields of a body, and for all places that a step of a reached
-- control names. A body that passes these limits is refused before any path is followed.
pub record FitsPlaces {K : Type 0} (p : Program) (b : BodyId) (r : Relation K) : Type 0 where
  pub room : HasRoom p b
  pub steps : {k : K} → (i : ℕ) (t : Move K) → Comes r k → slice_get (r.next k) i ≡ Some t → IsSmallAction p t.action

-- ---- the control relation of a body

abbrev pub move_of : Step → Move (List Todo)
move_of s = record { action = s.action; edge = s.edge; to = s.to; pos = s.pos }

abbrev pub relation_of : Program → BodyId → Relation (List Todo)
relation_of p b = record { start = start_of p b; next = λ k. map move_of (next_of p b k) }
