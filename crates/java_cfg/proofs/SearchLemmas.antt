-- Lemmas on the search for the controls of a body, over numbers of a table of lists.
use Rattle.rlc_base.specs.declared.code.Code.TheVariants as refused
use Rattle.std.proofs.Common.{◌≡◌, ◌∙◌, sym, ap, refl, subst, arith, ℕ, ◌<◌, ◌≤◌, zero, suc, Some, None, List, [], ◌∷◌, ◌++◌, map, length, length-append}
use Rattle.std.specs.Prelude.{slice_get, Result, Ok, Err, IfErr}
use Rattle.std.specs.Result.{IsErrAnd}
use Rattle.std.specs.List.{All, AllZip, Contains}
use Rattle.std.proofs.lemmas.List.Elements.{All-append, All-contains, All-weaker}
use Rattle.std.proofs.lemmas.Option.{slice_get_within}
use Rattle.std.specs.Global.{Vec}
use Rattle.rlc_base.specs.declared.faults.Stop.{Stop}
use Rattle.rlc_base.specs.declared.faults.Stop.TheVariants as stops
use Rattle.rlc_base.specs.declared.place.Pos.{Pos}
use Rattle.program_model.specs.declared.kinds.BodyId.{BodyId}
use Rattle.program_model.specs.declared.program.Program.{Program}
use Rattle.control_actions.specs.declared.cell.Cell.{Cell}
use Rattle.control_actions.specs.declared.triple.Triple.{Triple}
use Rattle.java_control.specs.Changes.{highest_steps, step_in}
use Rattle.java_control.specs.Control.{next_of, start_of}
use Rattle.java_control.specs.Remaining.{Todo, todos}
use Rattle.java_control.specs.Tables.{IsOrdered, Keeps}
use Rattle.java_cfg.specs.declared.arc.Arc.{Arc}
use Rattle.java_cfg.specs.Graphs.{IsArcOf, IsGraphOf, numbers_in, targets_of}
use Rattle.java_cfg.specs.RowTests.{rows_of}
use Rattle.java_cfg.specs.Limits.{IsCause, IsSearchCause, ReachesMore, method_place, refusal, too_large}
use Rattle.java_cfg.specs.Order.{InOrder, counted}
use Rattle.java_cfg.specs.Reach.{AreOnce}
use Rattle.java_cfg.specs.Tables.{Grows, IsLinkCause, IsLinked, control_at, controls, ends_of}
use Rattle.java_cfg.proofs.ListLemmas.{contains, get_map, length_mapped, map_append}
use Rattle.java_cfg.proofs.NumberLemmas.{controls_kept, controls_once}
use Rattle.java_cfg.proofs.ReachLemmas.{reached_grows}
use Rattle.java_cfg.proofs.GraphLemmas.{IsGraphUpTo, ends_targets, graph_done, graph_small, graph_start, graph_step, grows_map, linked_arcs}

-- the numbers and the rows are what a search has found that made the arcs of the first numbers
pub record IsSearch (p : Program) (b : BodyId) (cells : List Cell) (numbers : List ℕ) (rows : List (List Arc)) : Type 0 where
  pub graph : IsGraphUpTo p b (controls cells numbers) rows
  pub within : All (λ n. n ≤ length cells) numbers
  pub once : AreOnce numbers
  pub few : length numbers ≤ 65536
  pub ahead : length rows ≤ length numbers

one_once : (n : ℕ) → AreOnce (n ∷ [])
one_once n zero zero x a b = refl
one_once n zero (suc j) x a b = absurd (let never : None ≡ Some x = b in cc)
one_once n (suc i) j x a b = absurd (let never : None ≡ Some x = a in cc)

one_within : (n m : ℕ) → n ≤ m → All (λ x. x ≤ m) (n ∷ [])
one_within n m h zero d inside = h
one_within n m h (suc k) d inside = absurd (omega arith)

pub search_start : (p : Program) (b : BodyId) (cells : List Cell) (first : ℕ) → control_at cells first ≡ start_of p b → first ≤ length cells → IsSearch p b cells (first ∷ []) []
search_start p b cells first is within = record {
  graph = subst (λ (c : List Todo). IsGraphUpTo p b (c ∷ []) []) (sym is) (graph_start p b);
  within = one_within first (length cells) within;
  once = one_once first;
  few = omega arith;
  ahead = omega arith;
}

-- a table that keeps its lists keeps what was found
pub search_kept : (p : Program) (b : BodyId) (old new : List Cell) (numbers : List ℕ) (rows : List (List Arc)) → Keeps old new → IsSearch p b old numbers rows → IsSearch p b new numbers rows
search_kept p b old new numbers rows kept h = record {
  graph = subst (λ (nodes : List (List Todo)). IsGraphUpTo p b nodes rows) (sym (controls_kept old new numbers kept h.within)) h.graph;
  within = let grows = kept.grows in All-weaker (λ n. n ≤ length old) (λ n. n ≤ length new) (λ n small. omega (arith, grows, small)) numbers h.within;
  once = h.once;
  few = h.few;
  ahead = h.ahead;
}

ends_within : (triples : List Triple) (n : ℕ) → highest_steps triples ≤ n → All (λ x. x ≤ n) (ends_of triples)
ends_within [] n h k d inside = absurd (omega arith)
ends_within (t ∷ triples) n h zero d inside = omega arith
ends_within (t ∷ triples) n h (suc k) d inside = ends_within triples n (omega arith) k d (omega arith)

-- the numbers stay within the table
pub grown_within : (n : ℕ) (numbers more : List ℕ) (triples : List Triple) → All (λ x. x ≤ n) numbers → highest_steps triples ≤ n → Grows numbers more (ends_of triples) → All (λ x. x ≤ n) more
grown_within n numbers more triples within small grows =
    let P : ℕ → Type 0 = λ x. x ≤ n in
    let new = All-weaker (Contains (ends_of triples)) P (λ x h. All-contains P (ends_of triples) x (ends_within triples n small) h) grows.new grows.only in
    subst (All P) (sym grows.is) (All-append P numbers grows.new within new)

-- the same growth, of controls
controls_grow : (p : Program) (b : BodyId) (cells : List Cell) (numbers more : List ℕ) (triples : List Triple) (control : List Todo) → map (step_in cells) triples ≡ next_of p b control → Grows numbers more (ends_of triples) → Grows (controls cells numbers) (controls cells more) (targets_of p b control)
controls_grow p b cells numbers more triples control is grows =
    subst (Grows (controls cells numbers) (controls cells more)) (ends_targets p b cells triples control is) (grows_map (control_at cells) numbers more (ends_of triples) grows)

next_ahead : (numbers more new : List ℕ) (rows : List (List Arc)) (row : List Arc) (at : ℕ) → more ≡ numbers ++ new → slice_get numbers (length rows) ≡ Some at → length (rows ++ row ∷ []) ≤ length more
next_ahead numbers more new rows row at is here =
    let inside = slice_get_within numbers (length rows) at here in
    let long = ap length is ∙ length-append numbers new in
    let one = length-append rows (row ∷ []) in
    omega (arith, inside, long, one)

-- one row more
pub search_step : (p : Program) (b : BodyId) (cells : List Cell) (numbers more : List ℕ) (rows : List (List Arc)) (row : List Arc) (triples : List Triple) (at : ℕ)
    → IsSearch p b cells numbers rows → slice_get numbers (length rows) ≡ Some at → map (step_in cells) triples ≡ next_of p b (control_at cells at) → highest_steps triples ≤ length cells
    → Grows numbers more (ends_of triples) → AreOnce more → AllZip (IsLinked more) row triples → InOrder (length numbers) (numbers_in row) → length more ≡ counted (length numbers) (numbers_in row) → length more ≤ 65536
    → IsSearch p b cells more (rows ++ row ∷ [])
search_step p b cells numbers more rows row triples at h here is small grows once arcs order count few =
    let control = control_at cells at in
    let node = get_map (control_at cells) numbers (length rows) at here in
    let linked = subst (AllZip (IsArcOf (controls cells more)) row) is (linked_arcs cells more row triples arcs) in
    let long : length numbers ≡ length (controls cells numbers) = sym (length_mapped (control_at cells) numbers) in
    let order_here = subst (λ (n : ℕ). InOrder n (numbers_in row)) long order in
    let count_here = length_mapped (control_at cells) more ∙ count ∙ ap (λ n. counted n (numbers_in row)) long in
    record {
      graph = graph_step p b (controls cells numbers) (controls cells more) rows row control h.graph node (controls_grow p b cells numbers more triples control is grows) linked order_here count_here;
      within = grown_within (length cells) numbers more triples h.within small grows;
      once = once;
      few = few;
      ahead = next_ahead numbers more grows.new rows row at grows.is here;
    }

-- the search has a row for each number
pub search_done : (p : Program) (b : BodyId) (cells : List Cell) (numbers : List ℕ) (rows : List (List Arc)) → IsSearch p b cells numbers rows → IsOrdered cells → AreOnce cells → length numbers ≤ length rows → IsGraphOf p b (controls cells numbers) rows
search_done p b cells numbers rows h ordered once all =
    let ahead = h.ahead in
    let long : length rows ≡ length numbers = omega (arith, ahead) in
    graph_done p b (controls cells numbers) rows h.graph (controls_once cells numbers ordered once h.once h.within) (long ∙ sym (length_mapped (control_at cells) numbers))

-- the search has found too many controls
pub search_past : (p : Program) (b : BodyId) (cells : List Cell) (numbers more : List ℕ) (rows : List (List Arc)) (triples : List Triple) (at : ℕ)
    → IsSearch p b cells numbers rows → slice_get numbers (length rows) ≡ Some at → map (step_in cells) triples ≡ next_of p b (control_at cells at) → highest_steps triples ≤ length cells
    → Grows numbers more (ends_of triples) → AreOnce more → IsOrdered cells → AreOnce cells → 65536 < length more → ReachesMore p b 65536
search_past p b cells numbers more rows triples at h here is small grows once ordered cells_once many =
    let control = control_at cells at in
    let node = get_map (control_at cells) numbers (length rows) at here in
    record {
      controls = controls cells more;
      reached = reached_grows (targets_of p b) (start_of p b) control (controls cells numbers) (controls cells more) h.graph.explored.reached (contains (controls cells numbers) (length rows) control node) (controls_grow p b cells numbers more triples control is grows);
      once = controls_once cells more ordered cells_once once (grown_within (length cells) numbers more triples h.within small grows);
      more = let long = length_mapped (control_at cells) more in omega (arith, long);
    }

-- a fault that is passed on keeps its cause
pub passed_on : {A : Type 0} (r : Result A Stop) (stop : Stop) (P : Stop → Type 0) → IsErrAnd r (λ x. x ≡ stop) → P stop → IfErr r P
passed_on (Ok x) stop P same cause = tt
passed_on (Err e) stop P same cause = subst P (sym same) cause

inside_at : (numbers : List ℕ) (k at n : ℕ) → All (λ x. x ≤ n) numbers → slice_get numbers k ≡ Some at → at ≤ n
inside_at numbers k at n within here = All-contains (λ (x : ℕ). x ≤ n) numbers at within (contains numbers k at here)

-- what the steps of a control are over the grown table
steps_here : (p : Program) (b : BodyId) (old new : List Cell) (found given : List Triple) (at : ℕ) → Keeps old new → at ≤ length old → given ≡ found → map (step_in new) found ≡ next_of p b (control_at old at) → map (step_in new) given ≡ next_of p b (control_at new at)
steps_here p b old new found given at kept inside same is = ap (map (step_in new)) same ∙ is ∙ ap (λ xs. next_of p b (todos xs)) (sym (kept.same at inside))

rows_push : (rows more : List (Vec Arc)) (row : Vec Arc) → more ≡ rows ++ row ∷ [] → rows_of more ≡ rows_of rows ++ row.items ∷ []
rows_push rows more row is = ap rows_of is ∙ map_append (λ (x : Vec Arc). x.items) rows (row ∷ [])

row_place : (numbers : List ℕ) (rows : List (Vec Arc)) (at : ℕ) → slice_get numbers (length rows) ≡ Some at → slice_get numbers (length (rows_of rows)) ≡ Some at
row_place numbers rows at here = ap (slice_get numbers) (length_mapped (λ (x : Vec Arc). x.items) rows) ∙ here

-- one row more, over a table that grew
pub search_next : (p : Program) (b : BodyId) (old new : List Cell) (numbers more : List ℕ) (rows rows_then : List (Vec Arc)) (row : Vec Arc) (found given : List Triple) (at : ℕ)
    → IsSearch p b old numbers (rows_of rows) → Keeps old new → slice_get numbers (length rows) ≡ Some at → map (step_in new) found ≡ next_of p b (control_at old at) → highest_steps found ≤ length new → given ≡ found
    → Grows numbers more (ends_of given) → AreOnce more → AllZip (IsLinked more) row.items given → InOrder (length numbers) (numbers_in row.items) → length more ≡ counted (length numbers) (numbers_in row.items) → length more ≤ 65536
    → rows_then ≡ rows ++ row ∷ [] → IsSearch p b new more (rows_of rows_then)
search_next p b old new numbers more rows rows_then row found given at h kept here is small same grows once arcs order count few pushed =
    let inside = inside_at numbers (length rows) at (length old) h.within here in
    let steps = steps_here p b old new found given at kept inside same is in
    let low = subst (λ (xs : List Triple). highest_steps xs ≤ length new) (sym same) small in
    subst (IsSearch p b new more) (sym (rows_push rows rows_then row pushed))
    (search_step p b new numbers more (rows_of rows) row.items given at (search_kept p b old new numbers (rows_of rows) kept h) (row_place numbers rows at here) steps low grows once arcs order count few)

-- why the search stops at a row
pub search_cause : (p : Program) (b : BodyId) (old new : List Cell) (numbers more : List ℕ) (rows : List (Vec Arc)) (found given : List Triple) (at : ℕ) (pos : Pos) (stop : Stop)
    → IsSearch p b old numbers (rows_of rows) → Keeps old new → slice_get numbers (length rows) ≡ Some at → map (step_in new) found ≡ next_of p b (control_at old at) → highest_steps found ≤ length new → given ≡ found
    → Grows numbers more (ends_of given) → AreOnce more → IsOrdered new → AreOnce new → IsLinkCause pos (length more) stop → IsSearchCause p b pos stop
search_cause p b old new numbers more rows found given at pos (stops.Refused r) h kept here is small same grows once ordered cells_once cause = cause
search_cause p b old new numbers more rows found given at pos (stops.TooMuch r) h kept here is small same grows once ordered cells_once cause =
    let inside = inside_at numbers (length rows) at (length old) h.within here in
    let steps = steps_here p b old new found given at kept inside same is in
    let low = subst (λ (xs : List Triple). highest_steps xs ≤ length new) (sym same) small in
    (cause.0, search_past p b new numbers more (rows_of rows) given at (search_kept p b old new numbers (rows_of rows) kept h) (row_place numbers rows at here) steps low grows once ordered cells_once cause.1)
search_cause p b old new numbers more rows found given at pos stops.NoMemory h kept here is small same grows once ordered cells_once cause = tt

-- the search has a row for each number
pub search_all : (p : Program) (b : BodyId) (cells : List Cell) (numbers : List ℕ) (rows : List (Vec Arc)) → IsSearch p b cells numbers (rows_of rows) → IsOrdered cells → AreOnce cells → length numbers ≤ length rows → IsGraphOf p b (controls cells numbers) (rows_of rows)
search_all p b cells numbers rows h ordered once all =
    let long = length_mapped (λ (x : Vec Arc). x.items) rows in
    search_done p b cells numbers (rows_of rows) h ordered once (omega (arith, long))

-- the cause of a search is one of the graph
pub cause_told : (p : Program) (b : BodyId) (pos : Pos) (stop : Stop) → pos ≡ method_place p b → IsSearchCause p b pos stop → IsCause p b stop
cause_told p b pos (stops.Refused r) here cause = cause
cause_told p b pos (stops.TooMuch r) here cause = too_large (cause.0 ∙ ap (refusal refused.MethodTooLarge) here) cause.1
cause_told p b pos stops.NoMemory here cause = tt

-- a graph of a body has few nodes where its table has few numbers
pub graph_few : (p : Program) (b : BodyId) (cells : List Cell) (numbers : List ℕ) (rows : List (List Arc)) → IsGraphOf p b (controls cells numbers) rows → length numbers ≤ 65536 → ReachesMore p b 65536 → ⊥
graph_few p b cells numbers rows h few =
    let long = length_mapped (control_at cells) numbers in
    graph_small p b (controls cells numbers) rows 65536 h (omega (arith, long))
