-- The rules that are broken, each once.
use Rattle.std.specs.Prelude.{◌≡◌, ◌↔◌, ◌≤◌, ℕ, true, None, List}
use Rattle.std.specs.FinSet as set
use Rattle.indexmap.specs.IndexMap.{IndexMap, get}
use Rattle.rlc_base.specs.declared.place.Pos.{Pos}
use Rattle.program_model.specs.declared.kinds.BodyId.{BodyId}
use Rattle.program_model.specs.declared.program.Program.{Program}
use Rattle.breadth_first.specs.Searches.{IsAt, Stands}
use Rattle.java_cfg.specs.declared.arc.Arc.{Arc}
use Rattle.control_actions.specs.declared.fact.Fact.{Fact}
use Rattle.control_actions.specs.declared.fact.Origin.{Origin}
use Rattle.control_actions.specs.declared.fact.Rule.{Rule}
use Rattle.flow_rules.specs.Facts.{Names}
use Rattle.flow_rules.specs.Paths.{Faulty}
use Rattle.reached_pairs.specs.declared.visit.Visit.{Visit}
use Rattle.reached_facts.specs.Nodes.{relation_in}
use Rattle.path_faults.specs.Broken.{IsBroken}
use Rattle.body_faults.specs.Broken.{BrokenStep, joined_all, same_breach}
use Rattle.body_faults.specs.declared.breach.Breach.{Breach}
use Rattle.body_faults.specs.declared.breach.Breached.{Breached}

module _ {S : Type 0} where
  -- the steps were joined with those that the map had
  abbrev pub Gathers : IndexMap Breach Breached S → IndexMap Breach Breached S → List BrokenStep → Type 0
  Gathers old new xs = (k : Breach) → get same_breach new k ≡ joined_all k (get same_breach old k) xs

  -- the map has the steps, and no others
  abbrev pub HasGathered : IndexMap Breach Breached S → List BrokenStep → Type 0
  HasGathered m xs = (k : Breach) → get same_breach m k ≡ joined_all k None xs

module _ (p : Program) (b : BodyId) (rows : List (List Arc)) (origins : List Origin) (facts : List Fact) (visits : List Visit) where
  -- the step by which a rule is broken is one from the first visit from which a step breaks it
  pub record IsFirstBreach (x : Breach × Breached) : Type 0 where
    pub visit : Visit
    pub place : IsAt visits x.1.visit visit
    pub names : Names
    pub breaks : IsBroken p b rows origins facts visit x.1.arc x.0.origin x.0.rule x.0.at names
    pub within : (m : ℕ) → set.contains names m ≡ true → set.contains x.1.missing m ≡ true
    pub earliest : (j i : ℕ) (w : Visit) (others : Names) → IsAt visits j w → IsBroken p b rows origins facts w i x.0.origin x.0.rule x.0.at others → x.1.visit ≤ j

  -- The rules that paths through the body break: each origin, rule and place once. An origin is given by its number.
  pub record AreBreaches (breaches : List (Breach × Breached)) : Type 0 where
    pub once : (i j : ℕ) (x y : Breach × Breached) → IsAt breaches i x → IsAt breaches j y → x.0 ≡ y.0 → i ≡ j
    -- each is broken by a path
    pub derived : (i : ℕ) (x : Breach × Breached) → IsAt breaches i x
        → (o : Origin) × (IsAt origins x.0.origin o × ((names : Names) × Faulty p b (relation_in rows) o x.0.rule x.0.at names))
    -- the names are those that are missing on some path
    pub missing : (i m : ℕ) (x : Breach × Breached) (o : Origin) → IsAt breaches i x → IsAt origins x.0.origin o
        → (set.contains x.1.missing m ≡ true) ↔ ((names : Names) × (Faulty p b (relation_in rows) o x.0.rule x.0.at names × (set.contains names m ≡ true)))
    -- all that a path breaks are there
    pub all : (o : Origin) (rule : Rule) (at : Pos) (names : Names) → Faulty p b (relation_in rows) o rule at names
        → (x : Breach × Breached) × (Stands breaches x × (IsAt origins x.0.origin o × ((x.0.rule ≡ rule) × (x.0.at ≡ at))))
    pub first : (i : ℕ) (x : Breach × Breached) → IsAt breaches i x → IsFirstBreach x
