-- The steps from what is known at a node of a body's graph to what is known at the next one. Facts carry the numbers of
-- their origins in the list of the body's origins.
use Rattle.std.specs.Prelude.{◌≡◌, ◌≤◌, ℕ, Option, Some, None, List, length}
use Rattle.program_model.specs.declared.kinds.BodyId.{BodyId}
use Rattle.program_model.specs.declared.program.Program.{Program}
use Rattle.reached_pairs.specs.Searches.{AreOnce, IsAt, Stands}
use Rattle.java_cfg.specs.declared.arc.Arc.{Arc}
use Rattle.control_actions.specs.declared.fact.Fact.{Fact}
use Rattle.control_actions.specs.declared.fact.Origin.{Origin}
use Rattle.control_actions.specs.declared.fact.Outcome.TheVariants.{Next, Fault}
use Rattle.control_actions.specs.declared.fact.Rule.{Rule}
use Rattle.body_origins.specs.Births.{Birth, births_at_entry}
use Rattle.java_cfg.specs.Facts.{Names}
use Rattle.body_origins.specs.Flow.{flow}
use Rattle.body_origins.specs.Numbering.{numbered}
use Rattle.control_actions.specs.Remaining.{Todo}
use Rattle.body_origins.specs.Nodes.{AreNodes, FitsRows, arcs_at}
use Rattle.body_origins.specs.Origins.{arc_births}

-- the fact is the first one of a birth, with the number of its origin
abbrev pub IsNumberedBirth : List Origin → List Birth → Fact → Type 0
IsNumberedBirth origins births f = (x : Birth) × (Stands births x × (IsAt origins f.origin x.0 × (numbered f.origin x.1 ≡ f)))

-- the rules make the one fact of the other
abbrev pub GoesOn : Program → BodyId → List Origin → Arc → Fact → Fact → Type 0
GoesOn p b origins a f g = (o : Origin) × (IsAt origins f.origin o × (flow p b o a.action a.edge f ≡ Next g))

-- what the step of an arc makes of what is known before it: where nothing is followed yet, nothing or a birth
abbrev pub Becomes : Program → BodyId → List Origin → Arc → Option Fact → Option Fact → Type 0
Becomes p b origins a None None = Unit {0}
Becomes p b origins a None (Some g) = IsNumberedBirth origins (arc_births p b a) g
Becomes p b origins a (Some f) None = ⊥
Becomes p b origins a (Some f) (Some g) = GoesOn p b origins a f g

-- the arc of that place among those of the node leads on
abbrev pub Leads : Program → BodyId → List (List Arc) → List Origin → ℕ → ℕ × Option Fact → ℕ × Option Fact → Type 0
Leads p b rows origins i before after =
    (a : Arc) × (IsAt (arcs_at rows before.0) i a × ((after.0 ≡ a.to) × Becomes p b origins a before.1 after.1))

-- what is known at the entry of the body
abbrev pub Begins : Program → BodyId → List Origin → ℕ × Option Fact → Type 0
Begins p b origins (node, None) = node ≡ 0
Begins p b origins (node, Some f) = (node ≡ 0) × IsNumberedBirth origins (births_at_entry p b) f

-- the step of the arc breaks the rule, and these names are missing
abbrev pub Breaks : Program → BodyId → List (List Arc) → List Origin → ℕ → ℕ × Option Fact → Origin → Rule → Names → Type 0
Breaks p b rows origins i (node, None) o rule names = ⊥
Breaks p b rows origins i (node, Some f) o rule names =
    (a : Arc) × (IsAt (arcs_at rows node) i a × (IsAt origins f.origin o × (flow p b o a.action a.edge f ≡ Fault rule names)))

-- The rows are those of a graph of nodes, sets of places and names have room for what the body names, and each origin of the
-- list is there once.
pub record IsReady (p : Program) (b : BodyId) (nodes : List (List Todo)) (rows : List (List Arc)) (origins : List Origin) : Type 0 where
  pub fits : FitsRows p b rows
  pub graph : AreNodes rows
  pub long : length rows ≡ length nodes
  pub once : AreOnce origins
  pub few : length origins ≤ 1000000
