-- The test for actions that name a place that no set of places holds.
use Rattle.std.proofs.Common.{◌≡◌, ◌∙◌, sym, ap, refl, subst, arith, ℕ, ◌≤◌, zero, suc, Bool, true, false, Some, None, List, [], ◌∷◌, inl, inr, ◌⊎◌}
use Rattle.std.specs.Prelude.{slice_get, ◌||◌, IsTrue, ltb, ◌↔◌}
use Rattle.std.specs.List.{Contains, list_any}
use Rattle.std.proofs.lemmas.Bool.{ltb-false}
use Rattle.std.proofs.lemmas.List.Elements.{All-contains}
use Rattle.std.proofs.lemmas.Option.{slice_get_within}
use Rattle.program_model.specs.declared.kinds.BodyId.{BodyId}
use Rattle.program_model.specs.declared.program.Program.{Program}
use Rattle.control_actions.specs.declared.action.Action.{Action}
use Rattle.java_control.specs.Control.{Step, next_of}
use Rattle.java_control.specs.Remaining.{Todo}
use Rattle.obligation_facts.specs.SmallActions.{IsSmallAction}
use Rattle.java_cfg.specs.declared.arc.Arc.{Arc}
use Rattle.java_cfg.specs.RowTests.{any_large, has_large_arc, is_large}
use Rattle.java_cfg.specs.Graphs.{IsArcOf, IsGraphOf, IsReachable}
use Rattle.java_cfg.specs.Limits.{HasTooManyPlaces, fields, owning_count, steps, variable_count, variables}
use Rattle.java_cfg.proofs.ListLemmas.{contains, place_within, stands, zip_places, zip_places_left}
use Rattle.java_cfg.proofs.SmallLemmas.{Decides-large}

any_or : (a b : Bool) → (a || b) ≡ true → (a ≡ true) ⊎ (b ≡ true)
any_or true b h = inl refl
any_or false b h = inr h

-- a value that passes the test, with its place
any_found : {X : Type 0} (test : X → Bool) (xs : List X) → list_any test xs ≡ true → (k : ℕ) × ((x : X) × ((slice_get xs k ≡ Some x) × (test x ≡ true)))
any_found test [] h = absurd (let never : false ≡ true = h in cc)
any_found test (x ∷ xs) h = elim (any_or (test x) (list_any test xs) h) [
  | inl here ↦ (0, (x, (refl, here)))
  | inr later ↦ let rest = any_found test xs later in (suc rest.0, (rest.1.0, (rest.1.1.0, rest.1.1.1)))
]

or_left : (a b : Bool) → a ≡ true → (a || b) ≡ true
or_left true b h = refl
or_left false b h = absurd (let never : false ≡ true = h in cc)

or_right : (a b : Bool) → b ≡ true → (a || b) ≡ true
or_right true b h = refl
or_right false b h = h

found_any : {X : Type 0} (test : X → Bool) (xs : List X) (k : ℕ) (x : X) → slice_get xs k ≡ Some x → test x ≡ true → list_any test xs ≡ true
found_any test [] k x at h = absurd (let never : None ≡ Some x = at in cc)
found_any test (y ∷ xs) zero x at h = let same : y ≡ x = cc in or_left (test y) (list_any test xs) (ap test same ∙ h)
found_any test (y ∷ xs) (suc k) x at h = or_right (test y) (list_any test xs) (found_any test xs k x at h)

large_step : (p : Program) (nodes : List (List Todo)) (a : Arc) (s : Step) → IsArcOf nodes a s → (IsSmallAction p a.action → ⊥) → IsSmallAction p s.action → ⊥
large_step p nodes a s h large = subst (λ (x : Action). IsSmallAction p x → ⊥) h.action large

-- an arc whose action is not small is a step of a reachable control
pub large_steps : (p : Program) (b : BodyId) (nodes : List (List Todo)) (rows : List (List Arc)) → IsGraphOf p b nodes rows → any_large p rows ≡ true → HasTooManyPlaces p b
large_steps p b nodes rows h found =
    let row = any_found (λ (row : List Arc). has_large_arc p row) rows found in
    let arc = any_found (λ (a : Arc). is_large p a) row.1.0 row.1.1.1 in
    let long = h.rows_long in
    let inside = slice_get_within rows row.0 row.1.0 row.1.1.0 in
    let node = place_within nodes row.0 (omega (arith, long, inside)) in
    let zipped = h.arcs row.0 node.0 row.1.0 node.1 row.1.1.0 in
    let step = zip_places_left (IsArcOf nodes) row.1.0 (next_of p b node.0) arc.0 arc.1.0 zipped arc.1.1.0 in
    let reached = All-contains (IsReachable p b) nodes node.0 h.reached.only (contains nodes row.0 node.0 node.1) in
    let large : IsSmallAction p arc.1.0.action → ⊥ = (Decides-large p arc.1.0.action).0 arc.1.1.1 in
    steps node.0 step.0 reached (contains (next_of p b node.0) arc.0 step.0 step.1.0) (large_step p nodes arc.1.0 step.0 step.1.1 large)

-- a step of a reachable control whose action is not small has an arc
pub steps_large : (p : Program) (b : BodyId) (nodes : List (List Todo)) (rows : List (List Arc)) → IsGraphOf p b nodes rows → (control : List Todo) (step : Step) → IsReachable p b control → Contains (next_of p b control) step → (IsSmallAction p step.action → ⊥) → any_large p rows ≡ true
steps_large p b nodes rows h control step reached one large =
    let node = stands nodes control (h.reached.all control reached) in
    let long = h.rows_long in
    let inside = slice_get_within nodes node.0 control node.1 in
    let row = place_within rows node.0 (omega (arith, long, inside)) in
    let at = stands (next_of p b control) step one in
    let arc = zip_places (IsArcOf nodes) row.0 (next_of p b control) at.0 step (h.arcs node.0 control row.0 node.1 row.1) at.1 in
    let too : IsSmallAction p arc.0.action → ⊥ = subst (λ (a : Action). IsSmallAction p a → ⊥) (sym arc.1.1.action) large in
    found_any (λ (row : List Arc). has_large_arc p row) rows node.0 row.0 row.1 (found_any (λ (a : Arc). is_large p a) row.0 at.0 arc.0 arc.1.0 ((Decides-large p arc.0.action).1 too))

few_large : (p : Program) (b : BodyId) (nodes : List (List Todo)) (rows : List (List Arc)) → IsGraphOf p b nodes rows → variable_count p b ≤ 160 → owning_count p b ≤ 16 → HasTooManyPlaces p b → any_large p rows ≡ true
few_large p b nodes rows h low few (variables many) = absurd (omega (arith, low, many))
few_large p b nodes rows h low few (fields many) = absurd (omega (arith, few, many))
few_large p b nodes rows h low few (steps control step reached one large) = steps_large p b nodes rows h control step reached one large

-- with few variables and owning fields the test of the arcs tells whether there are too many places
pub many_places : (p : Program) (b : BodyId) (nodes : List (List Todo)) (rows : List (List Arc)) (r : Bool) → IsGraphOf p b nodes rows → variable_count p b ≤ 160 → owning_count p b ≤ 16 → r ≡ any_large p rows → IsTrue r ↔ HasTooManyPlaces p b
many_places p b nodes rows r h low few is =
    (λ yes. large_steps p b nodes rows h (sym is ∙ yes), λ many. is ∙ few_large p b nodes rows h low few many)

-- what a test that fails says of a number
pub not_more : (n m : ℕ) (v : Bool) → v ≡ ltb n m → v ≡ false → m ≤ n
not_more n m v is fails = ltb-false n m (sym is ∙ fails)
