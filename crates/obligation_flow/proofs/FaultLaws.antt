-- The rules that paths break, with their origins and in their order, are the faults of the body.
use Rattle.std.proofs.Common.{◌≡◌, ◌∙◌, sym, ap, subst, ℕ, ◌↔◌, true, Some, List}
use Rattle.std.specs.Prelude.{map}
use Rattle.std.specs.FinSet as set
use Rattle.std.specs.List.Sorted.{IsNonDecreasingBy, IsPermutation}
use Rattle.std.proofs.lemmas.List.Sorted.{IsPermutation-map, IsPermutation-sym}
use Rattle.rlc_base.specs.declared.place.Pos.{Pos}
use Rattle.program_model.specs.declared.kinds.BodyId.{BodyId}
use Rattle.program_model.specs.declared.program.Program.{Program}
use Rattle.must_call_types.proofs.Orders.{nondecreasing_map}
use Rattle.breadth_first.specs.Searches.{AreOnce, IsAt, Stands}
use Rattle.breadth_first.proofs.ListLaws.{at_map, at_same, map_at, stands_map}
use Rattle.java_cfg.specs.declared.arc.Arc.{Arc}
use Rattle.control_actions.specs.declared.fact.Fact.{Fact}
use Rattle.control_actions.specs.declared.fact.Origin.{Origin}
use Rattle.control_actions.specs.declared.fact.Rule.{Rule}
use Rattle.flow_rules.specs.Facts.{Names}
use Rattle.flow_rules.specs.Paths.{Faulty}
use Rattle.reached_pairs.specs.declared.visit.Visit.{Visit}
use Rattle.obligation_paths.specs.Nodes.{relation_in}
use Rattle.body_faults.specs.Breaches.{AreBreaches, IsFirstBreach}
use Rattle.body_faults.specs.Broken.{same_breach}
use Rattle.body_faults.specs.declared.breach.Breach.{Breach}
use Rattle.body_faults.specs.declared.breach.Breached.{Breached}
use Rattle.body_faults.proofs.JoinLaws.{exact_breach, same_self}
use Rattle.fault_order.specs.Order.{order_number}
use Rattle.fault_order.specs.declared.fault.FaultAt.{FaultAt}
use Rattle.obligation_flow.specs.Faults.{AreFaultsOf, AreNamed, breach_of, fault_of, order_of}
use Rattle.obligation_flow.specs.Traces.{AreTracedFaults}
use Rattle.obligation_flow.specs.declared.faults.TracedFault.{TracedFault}
use Rattle.obligation_flow.proofs.OnceLaws.{permuted_once, stands_permuted}

abbrev key_of : TracedFault → Breach
key_of t = t.breach

module _ (p : Program) (b : BodyId) (rows : List (List Arc)) (origins : List Origin) (facts : List Fact) (visits : List Visit) (breaches : List (Breach × Breached))
    (are : AreBreaches p b rows origins facts visits breaches) (once : AreOnce origins) (traced ordered : List TracedFault) (is : map breach_of traced ≡ breaches)
    (named : AreNamed origins traced) (same : IsPermutation traced ordered) (order : IsNonDecreasingBy order_of ordered) where
  entry : (j : ℕ) (t : TracedFault) → IsAt traced j t → IsAt breaches j (breach_of t)
  entry j t at = subst (λ (xs : List (Breach × Breached)). IsAt xs j (breach_of t)) is (at_map breach_of traced j t at)

  -- a fault in the order stands in the first list
  placed : (i : ℕ) (t : TracedFault) → IsAt ordered i t → Stands traced t
  placed i t at = stands_permuted ordered traced t (IsPermutation-sym traced ordered same) (i, at)

  abbrev IsDerived : FaultAt → Type 0
  IsDerived x = (names : Names) × Faulty p b (relation_in rows) x.origin x.rule x.at names

  abbrev IsMissing : ℕ → FaultAt → Type 0
  IsMissing n x = (set.contains x.missing n ≡ true) ↔ ((names : Names) × (Faulty p b (relation_in rows) x.origin x.rule x.at names × (set.contains names n ≡ true)))

  fault_derived : (j : ℕ) (t : TracedFault) → IsAt traced j t → IsDerived (fault_of t)
  fault_derived j t at =
      let one = are.derived j (breach_of t) (entry j t at) in
      let origin : one.0 ≡ t.origin = at_same origins t.breach.origin one.0 t.origin one.1.0 (named j t at) in
      (one.1.1.0, subst (λ (o : Origin). Faulty p b (relation_in rows) o t.breach.rule t.breach.at one.1.1.0) origin one.1.1.1)

  fault_there : (o : Origin) (rule : Rule) (at : Pos) (names : Names) → Faulty p b (relation_in rows) o rule at names
      → (x : FaultAt) × (Stands (map fault_of ordered) x × ((x.origin ≡ o) × ((x.rule ≡ rule) × (x.at ≡ at))))
  fault_there o rule at names faulty =
      let one = are.all o rule at names faulty in
      let found = map_at breach_of traced one.1.0.0 one.0 (subst (λ (xs : List (Breach × Breached)). IsAt xs one.1.0.0 one.0) (sym is) one.1.0.1) in
      let t = found.0 in
      let key : t.breach ≡ one.0.0 = ap (λ (x : Breach × Breached). x.0) found.1.1 in (
        fault_of t,
        (
          stands_map fault_of ordered t (stands_permuted traced ordered t same (one.1.0.0, found.1.0)),
          (
            at_same origins t.breach.origin t.origin o (named one.1.0.0 t found.1.0) (subst (λ (k : Breach). IsAt origins k.origin o) (sym key) one.1.1.0),
            (ap (λ (k : Breach). k.rule) key ∙ one.1.1.1.0, ap (λ (k : Breach). k.at) key ∙ one.1.1.1.1),
          ),
        ),
      )

  keys_once : AreOnce (map key_of traced)
  keys_once i j k at there =
      let one = map_at key_of traced i k at in
      let other = map_at key_of traced j k there in
      are.once i j (breach_of one.0) (breach_of other.0) (entry i one.0 one.1.0) (entry j other.0 other.1.0) (one.1.1 ∙ sym other.1.1)

  ordered_once : AreOnce (map key_of ordered)
  ordered_once = permuted_once same_breach exact_breach same_self (map key_of traced) (map key_of ordered) (IsPermutation-map key_of traced ordered same) keys_once

  key_same : (i j : ℕ) (t u : TracedFault) → IsAt ordered i t → IsAt ordered j u → t.origin ≡ u.origin → t.breach.rule ≡ u.breach.rule → t.breach.at ≡ u.breach.at → t.breach ≡ u.breach
  key_same i j t u at there origin rule place =
      let first = placed i t at in
      let second = placed j u there in
      let number : t.breach.origin ≡ u.breach.origin =
      once t.breach.origin u.breach.origin u.origin (named first.0 t first.1 ∙ ap Some origin) (named second.0 u second.1) in
      ap (λ (n : ℕ). record { origin = n; rule = t.breach.rule; at = t.breach.at }) number
      ∙ ap (λ (r : Rule). record { origin = u.breach.origin; rule = r; at = t.breach.at }) rule
      ∙ ap (λ (q : Pos). record { origin = u.breach.origin; rule = u.breach.rule; at = q }) place

  fault_once : (i j : ℕ) (x y : FaultAt) → IsAt (map fault_of ordered) i x → IsAt (map fault_of ordered) j y → x.origin ≡ y.origin → x.rule ≡ y.rule → x.at ≡ y.at → i ≡ j
  fault_once i j x y at there origin rule place =
      let one = map_at fault_of ordered i x at in
      let other = map_at fault_of ordered j y there in
      let key =
      key_same i j one.0 other.0 one.1.0 other.1.0 (ap (λ (z : FaultAt). z.origin) one.1.1 ∙ origin ∙ sym (ap (λ (z : FaultAt). z.origin) other.1.1))
      (ap (λ (z : FaultAt). z.rule) one.1.1 ∙ rule ∙ sym (ap (λ (z : FaultAt). z.rule) other.1.1)) (ap (λ (z : FaultAt). z.at) one.1.1 ∙ place ∙ sym (ap (λ (z : FaultAt). z.at) other.1.1)) in
      ordered_once i j other.0.breach (at_map key_of ordered i one.0 one.1.0 ∙ ap Some key) (at_map key_of ordered j other.0 other.1.0)

  -- the faults in their order are those of the body
  ordered_faults : AreFaultsOf p b (relation_in rows) (map fault_of ordered)
  ordered_faults = record {
    derived = λ i x at. (let one = map_at fault_of ordered i x at in
        let first = placed i one.0 one.1.0 in
        subst IsDerived one.1.1 (fault_derived first.0 one.0 first.1));
    missing = λ i n x at. (let one = map_at fault_of ordered i x at in
        let first = placed i one.0 one.1.0 in
        subst (IsMissing n) one.1.1 (are.missing first.0 n (breach_of one.0) one.0.origin (entry first.0 one.0 first.1) (named first.0 one.0 first.1)));
    all = fault_there;
    once = fault_once;
    sorted = nondecreasing_map fault_of order_number ordered order;
  }

  ordered_named : AreNamed origins ordered
  ordered_named i t at = let first = placed i t at in named first.0 t first.1

  ordered_first : (i : ℕ) (t : TracedFault) → IsAt ordered i t → IsFirstBreach p b rows origins facts visits (breach_of t)
  ordered_first i t at = let first = placed i t at in are.first first.0 (breach_of t) (entry first.0 t first.1)

  -- and each is told with the first visit from which a step breaks its rule
  pub ordered_traced : AreTracedFaults p b rows origins facts visits ordered
  ordered_traced = record { faults = ordered_faults; named = ordered_named; first = ordered_first }
