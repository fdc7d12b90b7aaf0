-- No step of a frame changes a parameter of which the signature of its method speaks.
use Rattle.std.proofs.Common.{◌≡◌, ℕ, ◌<◌, ◌≤◌, true, false, Option, Some, List, [], ◌∷◌, length, map, min, slice_get, sym, ap, ◌∙◌, subst, inl, inr, arith}
use Rattle.std.specs.List.{range_with_len}
use Rattle.std.proofs.lemmas.Bool.{cases_lt}
use Rattle.std.proofs.lemmas.Option.{slice_get-get_or, slice_get_past}
use Rattle.std.proofs.lemmas.List.FromFn.{get_or-map-range_with_len, length-map-range_with_len}
use Rattle.program_model.specs.declared.program.Method.{Method}
use Rattle.program_model.specs.declared.program.Program.{Program}
use Rattle.program_model.specs.declared.tree.Body.{Body}
use Rattle.program_model.specs.Lookups.{method_at}
use Rattle.fact_laws.specs.Assigned.{is_spoken_variable}
use Rattle.java_control.specs.Control.{Step}
use Rattle.control_actions.specs.declared.place.Place.{Place}
use Rattle.control_actions.specs.declared.place.Place.TheVariants as places
use Rattle.ownership_rules.specs.Room.{variables_in}
use Rattle.fact_laws.specs.Paths.{move_of}
use Rattle.fact_laws.specs.Accept.{Accept}
use Rattle.ledger_state.specs.Contents.{HeapContents}
use Rattle.ledger_state.specs.Locals.{variable_value}
use Rattle.ledger_state.specs.Values.{value_or_nothing}
use Rattle.ledger_state.specs.declared.value.Value.{Value}
use Rattle.ledger_state.specs.declared.value.Value.TheVariants as values
use Rattle.ledger_moves.specs.Configuration.{Frame}
use Rattle.ledger_moves.specs.Choosing.{body_by, frame_steps, method_body}
use Rattle.ledger_moves.specs.LedgerFramesFrames.{frame_after, source_by, sourced, value_after}
use Rattle.agreement.specs.Agreement.{Stands}
use Rattle.frame_laws.proofs.Ready.{step_there}
use Rattle.fact_laws.specs.Setting.{sets_variable}
use Rattle.fact_laws.proofs.AssignedReached.{spoken_stay}
use Rattle.fact_laws.proofs.AssignedSources.{keeps_value}
use Rattle.frame_laws.specs.Arguments.{AreGiven, HasArguments}

-- ---- lists of values by number

inside_range : (n x : ℕ) → n ≤ 160 → x < n → x < min n 4294967296
inside_range n x few inside = omega (arith, few, inside)

value_at : (f : ℕ → Value) (n x : ℕ) → n ≤ 160 → x < n → value_or_nothing (slice_get (map f (range_with_len 0 (min n 4294967296))) x) ≡ f x
value_at f n x few inside =
    let all : List Value = map f (range_with_len 0 (min n 4294967296)) in
    let long : length all ≡ min n 4294967296 = length-map-range_with_len f 0 (min n 4294967296) in
    let there : x < length all = subst (λ (k : ℕ). x < k) (sym long) (inside_range n x few inside) in
    ap value_or_nothing (slice_get-get_or all x values.Nothing there) ∙ get_or-map-range_with_len f 0 (min n 4294967296) x x values.Nothing (inside_range n x few inside) (omega arith)

nothing_at : (f : ℕ → Value) (n x : ℕ) → n ≤ x → value_or_nothing (slice_get (map f (range_with_len 0 (min n 4294967296))) x) ≡ values.Nothing
nothing_at f n x past =
    let all : List Value = map f (range_with_len 0 (min n 4294967296)) in
    let long : length all ≡ min n 4294967296 = length-map-range_with_len f 0 (min n 4294967296) in
    ap value_or_nothing (slice_get_past all x (omega (arith, past, long)))

-- ---- a step

module _ (p : Program) (ac : Accept p) (h : HeapContents) (fr : Frame) (st : Stands p fr) (i : ℕ) (s : Step) (here : slice_get (frame_steps p fr) i ≡ Some s) (v : Value) where
  abbrev after : Frame
  after = frame_after p h fr s v

  few : length fr.locals.variables ≤ 160
  few = subst (λ (n : ℕ). n ≤ 160) (ap variables_in st.at ∙ sym st.variables) (ac.fits st.number).room.variables

  body : method_body p fr.method ≡ Some st.body
  body = ap (body_by p) st.id ∙ st.at

  abbrev value : ℕ → Value
  value x = value_after p h fr.method fr.locals s.action s.edge v (places.Var x)

  pub parameter_stays : (m : Method) (x : ℕ) → method_at p fr.method ≡ Some m → is_spoken_variable m x ≡ true → variable_value after.locals x ≡ variable_value fr.locals x
  parameter_stays m x at spoken = elim (cases_lt x (length fr.locals.variables)) [
    | inl inside ↦ value_at value (length fr.locals.variables) x few inside ∙ same
    | inr past ↦ nothing_at value (length fr.locals.variables) x past ∙ sym (ap value_or_nothing (slice_get_past fr.locals.variables x past))
  ]
    where
      unset : sets_variable st.body s.action x ≡ false
      unset = spoken_stay p ac.well_formed.valid st.number st.body m x st.at (ap (method_at p) st.method ∙ at) (ac.well_formed.unassigned st.number st.body st.at) spoken fr.control i (move_of s) st.control
          (step_there p fr st i s here)

      same : value x ≡ variable_value fr.locals x
      same = ap (λ (y : Option Body). sourced p h fr.method fr.locals s.action v (places.Var x) (source_by p y s.action s.edge (places.Var x))) body
          ∙ ap (λ (z : Option Place). sourced p h fr.method fr.locals s.action v (places.Var x) z) (keeps_value p st.body s.action s.edge x unset)

  has_still : (caller : Frame) → HasArguments p caller fr → HasArguments p caller after
  has_still caller has = record {
    parameters = λ j t m x there at spoken. parameter_stays m x at spoken ∙ has.parameters j t m x there at spoken;
    receiver = has.receiver;
    target = has.target;
  }

  pub given_still : (frs : List Frame) → AreGiven p fr frs → AreGiven p after frs
  given_still [] given = tt
  given_still (caller ∷ frs) given = (has_still caller given.0, given.1)
