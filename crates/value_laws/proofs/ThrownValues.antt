-- What the temps of a frame hold after a step.
use Rattle.std.proofs.Common.{◌≡◌, ◌⊎◌, ℕ, ◌+◌, ◌<◌, ◌≤◌, Bool, true, false, ◌&&◌, ◌||◌, Option, Some, None, List, length, map, max, min, nat_eq, nat_le, nat_lt, slice_get, refl, sym, ap, ◌∙◌, subst, inl, inr, arith, if◌then◌else◌}
use Rattle.std.specs.List.{range_with_len}
use Rattle.std.proofs.lemmas.Bool.{cases_lt}
use Rattle.std.proofs.lemmas.Bool.Decides.{nat_tests}
use Rattle.std.proofs.lemmas.Option.{slice_get-get_or, slice_get_past}
use Rattle.std.proofs.lemmas.List.FromFn.{get_or-map-range_with_len, length-map-range_with_len}
use Rattle.program_model.specs.declared.kinds.ClassId.{ClassId}
use Rattle.program_model.specs.declared.program.Program.{Program}
use Rattle.program_model.specs.declared.tree.Body.{Body}
use Rattle.java_control.specs.Calls.{completion_temp, is_reset_of_this}
use Rattle.java_control.specs.Control.{Step}
use Rattle.java_control.specs.Exceptions.{exception_depth}
use Rattle.java_control.specs.Sources.{emptied, is_null_pointer, is_part, is_place, is_temp_from, source, temp_of}
use Rattle.control_actions.specs.declared.action.Action.{Action}
use Rattle.control_actions.specs.declared.action.Action.TheVariants as actions
use Rattle.control_actions.specs.declared.action.Completion.{Completion}
use Rattle.control_actions.specs.declared.action.Edge.{Edge}
use Rattle.control_actions.specs.declared.action.Edge.TheVariants as edges
use Rattle.control_actions.specs.declared.place.Place.{Place}
use Rattle.control_actions.specs.declared.place.Place.TheVariants as places
use Rattle.frame_laws.specs.SmallActions.{IsSmallAction, IsSmallTemp}
use Rattle.dispatch_laws.specs.Accept.{Accept}
use Rattle.ledger_state.specs.Contents.{HeapContents}
use Rattle.ledger_state.specs.Locals.{temp_value}
use Rattle.ledger_state.specs.declared.locals.Locals.{Locals}
use Rattle.ledger_state.specs.Values.{value_or_nothing}
use Rattle.ledger_state.specs.declared.value.Value.{Value}
use Rattle.ledger_state.specs.declared.value.Value.TheVariants as values
use Rattle.ledger_moves.specs.Configuration.{Frame}
use Rattle.ledger_moves.specs.Choosing.{frame_steps, method_body}
use Rattle.ledger_moves.specs.LedgerFramesFrames.{depth_of, frame_after, made_place, source_by, sourced, value_after}
use Rattle.frame_laws.specs.PlacePlaces.{IsWay}
use Rattle.frame_laws.proofs.PlaceLaws.{made_value_stands}
use Rattle.frame_laws.specs.Agreement.{Stands}
use Rattle.dispatch_laws.specs.PlainForms.{HasPlainForms}
use Rattle.frame_laws.proofs.Ready.{ready}
use Rattle.value_laws.specs.Thrown.{HasClass, holds_class}
use Rattle.value_laws.proofs.Kept.{eq_self}
use Rattle.value_laws.proofs.Ways.{IsAfter}

-- ---- lists of values by number

inside_range : (n x : ℕ) → x < 64 → x < n → x < min n 4294967296
inside_range n x small inside = omega (arith, small, inside)

value_at : (f : ℕ → Value) (n x : ℕ) → x < 64 → x < n → value_or_nothing (slice_get (map f (range_with_len 0 (min n 4294967296))) x) ≡ f x
value_at f n x small inside =
    let all : List Value = map f (range_with_len 0 (min n 4294967296)) in
    let long : length all ≡ min n 4294967296 = length-map-range_with_len f 0 (min n 4294967296) in
    let there : x < length all = subst (λ (k : ℕ). x < k) (sym long) (inside_range n x small inside) in
    ap value_or_nothing (slice_get-get_or all x values.Nothing there) ∙ get_or-map-range_with_len f 0 (min n 4294967296) x x values.Nothing (inside_range n x small inside) (omega arith)

nothing_at : (f : ℕ → Value) (n x : ℕ) → n ≤ x → value_or_nothing (slice_get (map f (range_with_len 0 (min n 4294967296))) x) ≡ values.Nothing
nothing_at f n x past =
    let all : List Value = map f (range_with_len 0 (min n 4294967296)) in
    let long : length all ≡ min n 4294967296 = length-map-range_with_len f 0 (min n 4294967296) in
    ap value_or_nothing (slice_get_past all x (omega (arith, past, long)))

-- ---- the source of a temp into which an exception goes

among_self : (d m : ℕ) → 0 < m → (nat_le d d && nat_lt d (d + m)) ≡ true
among_self d m some = grind (arith, nat_tests)

none_made : (d : ℕ) → ◌≡◌ {A = Option Place} None (Some (places.Temp d)) → ⊥
none_made d is = cc

-- a `throw` leaves what it throws where it stands, unless it throws a NullPointerException
record IsRaised (p : Program) (b : Body) (a : Action) (c : ClassId) : Type 0 where
  temp : ℕ
  kind : Option ClassId
  action : a ≡ actions.Raise temp kind
  other : is_null_pointer p (edges.Throws c) ≡ false
  stays : source p b a (edges.Throws c) (places.Temp (exception_depth a)) ≡ Some (places.Temp (exception_depth a))

abbrev IsThrownAt : Program → Body → Action → ClassId → Type 0
IsThrownAt p b a c = (source p b a (edges.Throws c) (places.Temp (exception_depth a)) ≡ None) ⊎ IsRaised p b a c

thrown_source : (p : Program) (b : Body) (a : Action) (c : ClassId) → made_place a ≡ Some (places.Temp (exception_depth a)) → IsThrownAt p b a c
thrown_source p b actions.Skip c made = absurd (none_made 0 made)
thrown_source p b (actions.Plain x v) c made =
    let same : x ≡ places.Temp 0 = cc in
    inl (ap (λ (y : Place). emptied (is_place y (places.Temp 0)) (places.Temp 0)) same)
thrown_source p b (actions.Op k d n) c made = inl (ap (λ (y : Bool). emptied y (places.Temp d)) (among_self d (max n 1) (omega arith)))
thrown_source p b (actions.Get f d this) c made = inl (ap (λ (y : Bool). emptied y (places.Temp d)) (eq_self d))
thrown_source p b (actions.Put f d this) c made = inl (ap (λ (y : Bool). emptied y (places.Temp d)) (among_self d 2 (omega arith)))
thrown_source p b (actions.Cast t d) c made = inl (ap (λ (y : Bool). emptied y (places.Temp d)) (eq_self d))
thrown_source p b (actions.Call m d n form) c made =
    inl (ap (λ (y : Bool). emptied (y || is_reset_of_this p (actions.Call m d n form) && is_part (places.Temp d)) (places.Temp d)) (among_self d (max n 1) (omega arith)))
thrown_source p b (actions.New m d n) c made = inl (ap (λ (y : Bool). emptied y (places.Temp d)) (among_self d (n + 1) (omega arith)))
thrown_source p b (actions.Super m d n) c made = inl (ap (λ (y : Bool). emptied y (places.Temp d)) (among_self d (max n 1) (omega arith)))
thrown_source p b (actions.Raise d x) c made = go (is_null_pointer p (edges.Throws c)) refl
  where
    go : (t : Bool) → is_null_pointer p (edges.Throws c) ≡ t → IsThrownAt p b (actions.Raise d x) c
    go true is = inl (ap (λ (y : Bool). emptied (y && nat_eq d d) (places.Temp d)) is ∙ ap (λ (y : Bool). emptied y (places.Temp d)) (eq_self d))
    go false is = inr (record { temp = d; kind = x; action = refl; other = is; stays = ap (λ (y : Bool). emptied (y && nat_eq d d) (places.Temp d)) is })
thrown_source p b a c made = absurd (none_made 0 made)

way_thrown : (a : Action) (c : ClassId) → IsWay a (edges.Throws c)
way_thrown actions.Skip c = tt
way_thrown (actions.Put f d this) c = tt
way_thrown a c = tt

-- ---- a step

-- what a `throw` throws has a class, unless it is null
abbrev pub RaisesClass : Program → Locals → Step → Type 0
RaisesClass p l s = (d : ℕ) (x : Option ClassId) (c : ClassId) → s.action ≡ actions.Raise d x → s.edge ≡ edges.Throws c → is_null_pointer p (edges.Throws c) ≡ false → HasClass (temp_value l d)

module _ (p : Program) (ac : Accept p) (forms : HasPlainForms p) (h : HeapContents) (fr : Frame) (st : Stands p fr) (i : ℕ) (s : Step) (here : slice_get (frame_steps p fr) i ≡ Some s) (v : Value)
    (small : IsSmallAction p s.action)
    (thrown : (c : ClassId) → s.edge ≡ edges.Throws c → made_place s.action ≡ Some (places.Temp (exception_depth s.action)) → HasClass v)
    (raised : RaisesClass p fr.locals s) (body : method_body p fr.method ≡ Some st.body) where
  abbrev after : Frame
  after = frame_after p h fr s v

  abbrev value : ℕ → Value
  value x = value_after p h fr.method fr.locals s.action s.edge v (places.Temp x)

  abbrev deepest : ℕ
  deepest = max (length fr.locals.temps) (depth_of s.action)

  by_source : (x : ℕ) (z : Option Place) → source p st.body s.action s.edge (places.Temp x) ≡ z → value x ≡ sourced p h fr.method fr.locals s.action v (places.Temp x) z
  by_source x z is =
      ap (λ (y : Option Body). sourced p h fr.method fr.locals s.action v (places.Temp x) (source_by p y s.action s.edge (places.Temp x))) body
      ∙ ap (λ (y : Option Place). sourced p h fr.method fr.locals s.action v (places.Temp x) y) is

  temp_same : (x : ℕ) → x < 64 → source p st.body s.action s.edge (places.Temp x) ≡ Some (places.Temp x) → temp_value after.locals x ≡ temp_value fr.locals x
  temp_same x low is = elim (cases_lt x deepest) [
    | inl inside ↦ value_at value deepest x low inside ∙ by_source x (Some (places.Temp x)) is
    | inr past ↦ nothing_at value deepest x past ∙ sym (ap value_or_nothing (slice_get_past fr.locals.temps x (omega (arith, past))))
  ]

  temp_settled : (d y : ℕ) (c : Completion) → d < 64 → s.action ≡ actions.Settle d c → completion_temp c ≡ Some y → temp_value after.locals d ≡ temp_value fr.locals y
  temp_settled d y c low is from =
      value_at value deepest d low (let deep : depth_of s.action ≡ d + 1 = ap depth_of is in omega (arith, deep))
      ∙ by_source d (Some (places.Temp y)) (ap (λ (a : Action). source p st.body a s.edge (places.Temp d)) is
      ∙ ap (λ (t : Bool). if t then temp_of (completion_temp c) else emptied (is_temp_from d (places.Temp d)) (places.Temp d)) (eq_self d)
      ∙ ap temp_of from)

  small_from : (d y : ℕ) (c : Completion) → s.action ≡ actions.Settle d c → completion_temp c ≡ Some y → y < 64
  small_from d y c is from = subst IsSmallTemp from (subst (IsSmallAction p) is small).1

  thrown_stands : (c : ClassId) → s.edge ≡ edges.Throws c → made_place s.action ≡ Some (places.Temp (exception_depth s.action)) → holds_class after.locals (exception_depth s.action)
  thrown_stands c is made low = go (thrown_source p st.body s.action c made)
    where
      here_source : (o : Option Place) → source p st.body s.action (edges.Throws c) (places.Temp (exception_depth s.action)) ≡ o → source p st.body s.action s.edge (places.Temp (exception_depth s.action)) ≡ o
      here_source o at = ap (λ (e : Edge). source p st.body s.action e (places.Temp (exception_depth s.action))) is ∙ at

      go : IsThrownAt p st.body s.action c → HasClass (temp_value after.locals (exception_depth s.action))
      go (inl none) =
          let r = ready p ac forms fr st i s here (subst (IsWay s.action) (sym is) (way_thrown s.action c)) in
          let stands = made_value_stands p h h fr.method st.body fr.locals s.action s.edge v (places.Temp (exception_depth s.action)) r.method low refl r.target made (here_source None none) in
          subst HasClass (sym stands) (thrown c is made)
      go (inr there) =
          subst HasClass (sym (temp_same (exception_depth s.action) low (here_source (Some (places.Temp (exception_depth s.action))) there.stays)))
          (subst (λ (n : ℕ). HasClass (temp_value fr.locals n)) (sym (ap exception_depth there.action)) (raised there.temp there.kind c there.action is there.other))

  pub after_is : IsAfter p st.body (holds_class fr.locals) (holds_class after.locals) s.action s.edge
  after_is = record {
    stays = λ x low is has low'. subst HasClass (sym (temp_same x low is)) (has low);
    settled = λ d y c low is from has low'. subst HasClass (sym (temp_settled d y c low is from)) (has (small_from d y c is from));
    deep = λ x far low. absurd (omega (arith, far, low));
    thrown = thrown_stands;
  }
