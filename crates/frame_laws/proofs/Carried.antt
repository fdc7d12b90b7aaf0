-- A fact that speaks the truth of an object goes on to do so, where a step keeps it.
use Rattle.std.proofs.Common.{◌≡◌, ℕ, ◌+◌, Bool, true, false, Option, Some, None, List, [], ◌∷◌, length, nat_eq, refl, sym, ap, ◌∙◌, true≢false, ◌||◌}
use Rattle.std.specs.FinSet as set
use Rattle.std.specs.Prelude.{MatchBool}
use Rattle.std.proofs.lemmas.Bool.{and_parts}
use Rattle.program_model.specs.declared.kinds.BodyId.{BodyId}
use Rattle.program_model.specs.declared.kinds.ClassId.{ClassId}
use Rattle.program_model.specs.declared.kinds.MethodId.{MethodId}
use Rattle.program_model.specs.declared.program.Program.{Program}
use Rattle.program_model.specs.declared.tree.Body.{Body}
use Rattle.program_model.specs.Lookups.{body_at}
use Rattle.ledger_steps.specs.MustCallSets.{Names, fits, must_of}
use Rattle.java_control.specs.PlaceNumbers.{IsSmall}
use Rattle.java_control.specs.Sources.{source}
use Rattle.control_actions.specs.declared.action.Action.{Action}
use Rattle.control_actions.specs.declared.action.Edge.{Edge}
use Rattle.control_actions.specs.declared.fact.Fact.{Fact}
use Rattle.control_actions.specs.declared.fact.Mode.TheVariants as modes
use Rattle.control_actions.specs.declared.fact.Origin.{Origin}
use Rattle.control_actions.specs.declared.place.Place.{Place}
use Rattle.control_actions.specs.declared.place.Place.TheVariants as places
use Rattle.ownership_rules.specs.Facts.{PlaceSet, has, is_nowhere, need}
use Rattle.ownership_rules.specs.SmallActions.{IsSmallAction}
use Rattle.fact_laws.specs.Aliases.{gives_alias}
use Rattle.fact_laws.specs.PlaceRows.{places_after}
use Rattle.ledger_state.specs.Contents.{HeapContents}
use Rattle.ledger_state.specs.Heaps.{root_of}
use Rattle.ledger_state.specs.declared.locals.Locals.{Locals}
use Rattle.ledger_state.specs.declared.object.Object.{Object}
use Rattle.ledger_state.specs.declared.value.Value.{Value}
use Rattle.agreement.specs.Places.{place_value}
use Rattle.ledger_moves.specs.Configuration.{Frame}
use Rattle.ledger_moves.specs.Choosing.{method_body}
use Rattle.ledger_moves.specs.LedgerFramesFrames.{is_made, locals_after, made_place}
use Rattle.rlc_base.proofs.SetLaws.{within_trans}
use Rattle.agreement.specs.Heaps.{GoesOn}
use Rattle.agreement.specs.PlacePlaces.{HasTarget, IsWay, SetsLocals, has_source, is_local, takes_alias}
use Rattle.agreement.specs.Agreement.{Awaits, Follows, IsAwaited, TracksAs}
use Rattle.agreement.specs.Renewing.{fact_as, is_renewed}
use Rattle.fact_laws.proofs.Needs.{origin_needs_all}
use Rattle.frame_laws.specs.Steps.{RootsStay}
use Rattle.frame_laws.proofs.Readings.{read_as, renewed_on}
use Rattle.fact_laws.proofs.PlaceLaws.{alias_stands, no_other_place_joins, places_come_from_sources, places_stay_in_range, source_is_small, value_comes_from_source}

-- all that the laws on places ask of a step
pub record Ready (p : Program) (m : MethodId) (l : Locals) (b : BodyId) (body : Body) (a : Action) (e : Edge) : Type 0 where
  pub at : body_at p b ≡ Some body
  pub method : method_body p m ≡ Some body
  pub small : IsSmallAction p a
  pub target : HasTarget l a
  pub way : IsWay a e

-- an object that goes on has no more to be called than its class
pub still_bounded : (p : Program) (x y : Object) → GoesOn x y → set.is_subset x.must (must_of p x.class) ≡ true → set.is_subset y.must (must_of p y.class) ≡ true
still_bounded p x y goes before =
    ap (λ (s : Names). set.is_subset s (must_of p y.class)) goes.must ∙ ap (λ (c : ClassId). set.is_subset x.must (must_of p c)) goes.class ∙ before

-- the places hold the object
abbrev pub HoldIt : Program → HeapContents → MethodId → Locals → ℕ → PlaceSet → Type 0
HoldIt p h m l o held = (q : Place) → IsSmall q → has held q ≡ true → (is_local q ≡ true) × (root_of h (place_value p h m l q) ≡ Some o)

module _ (p : Program) (h k : HeapContents) (m : MethodId) (l : Locals) (b : BodyId) (body : Body) (a : Action) (e : Edge) (v : Value)
    (r : Ready p m l b body a e) (sets : SetsLocals a) (o : ℕ) (stay : RootsStay h k o) where
  -- where the step is a call that gives an alias of the object, it gives a value whose root is the object
  pub places_hold : (held : PlaceSet) → HoldIt p h m l o held → (gives_alias p a e held ≡ true → root_of k v ≡ Some o)
      → HoldIt p k m (locals_after p h m l a e v) o (places_after p b a e held)
  places_hold held before alias q small is = go (is_local q) refl
    where
      from : is_local q ≡ true → (z : Option Place) → source p body a e q ≡ z → has_source held z ≡ true
          → (is_local q ≡ true) × (root_of k (place_value p k m (locals_after p h m l a e v) q) ≡ Some o)
      from local None s one = absurd (true≢false (sym one))
      from local (Some z) s one =
          let was = (before z (source_is_small p body a e q z r.small small s) one).1 in (
            local,
            ap (root_of k) (value_comes_from_source p h k m body l a e v q z o r.method small local r.target s was) ∙ stay (place_value p h m l z) was,
          )

      taken : (x : Bool) → takes_alias p a e held q ≡ x → is_local q ≡ true → (x || has_source held (source p body a e q)) ≡ true
          → (is_local q ≡ true) × (root_of k (place_value p k m (locals_after p h m l a e v) q) ≡ Some o)
      taken true takes local one = (
        local,
        ap (root_of k) (alias_stands p h k m body l a e v held q r.method small r.target takes) ∙ alias (and_parts (gives_alias p a e held) (is_made (made_place a) q) takes).0,
      )
      taken false takes local one = from local (source p body a e q) refl one

      go : (x : Bool) → is_local q ≡ x → (is_local q ≡ true) × (root_of k (place_value p k m (locals_after p h m l a e v) q) ≡ Some o)
      go true local = taken (takes_alias p a e held q) refl local (sym (places_come_from_sources p b body a e held q r.at r.small small local r.way) ∙ is)
      go false out = absurd (true≢false (sym (before q small (no_other_place_joins p b a e held q r.small sets small out is)).0 ∙ out))

  module _ (x y : Object) (origin : Origin) (f : Fact) (before : Follows p h m l o x origin f) (goes : GoesOn x y) (alias : gives_alias p a e f.places ≡ true → root_of k v ≡ Some o) where
    -- the fact at the places after the step, with more names called
    pub carried : (names : Names) → set.is_subset names y.called ≡ true → is_nowhere (places_after p b a e f.places) ≡ false
        → Follows p k m (locals_after p h m l a e v) o y origin (record f { places = places_after p b a e f.places; mode = modes.Own; called = names })
    carried names known some = record {
      own = refl;
      class = ap (λ c. fits p c origin.class) goes.class ∙ before.class;
      bounded = still_bounded p x y goes before.bounded;
      need = ap (λ s. set.is_subset s (need origin f)) goes.must ∙ before.need;
      called = known;
      some = some;
      alone = places_stay_in_range p b a e f.places r.small before.alone;
      places = places_hold f.places before.places alias;
    }

    known_still : set.is_subset f.called y.called ≡ true
    known_still = within_trans f.called x.called y.called before.called goes.called

    -- the fact as it was
    pub kept : ((q : Place) → has f.places q ≡ true → has (places_after p b a e f.places) q ≡ true) → Follows p k m (locals_after p h m l a e v) o y origin f
    kept remain = record {
      own = before.own;
      class = ap (λ c. fits p c origin.class) goes.class ∙ before.class;
      bounded = still_bounded p x y goes before.bounded;
      need = ap (λ s. set.is_subset s (need origin f)) goes.must ∙ before.need;
      called = known_still;
      some = before.some;
      alone = before.alone;
      places = λ q small is. places_hold f.places before.places alias q small (remain q is);
    }

-- ---- frames that wait

-- what a variable or a temp holds does not stand in the heap
pub local_value : (p : Program) (h k : HeapContents) (m : MethodId) (l : Locals) (q : Place) → is_local q ≡ true → place_value p k m l q ≡ place_value p h m l q
local_value p h k m l (places.Var i) local = refl
local_value p h k m l (places.Temp d) local = refl
local_value p h k m l places.This local = absurd (true≢false (sym local))
local_value p h k m l (places.Field n) local = absurd (true≢false (sym local))
local_value p h k m l places.Super local = absurd (true≢false (sym local))

pub awaits : (p : Program) (h k : HeapContents) (m : MethodId) (l : Locals) (o : ℕ) (x y : Object) (origin : Origin) (f : Fact) → RootsStay h k o → GoesOn x y
    → Follows p h m l o x origin f → Follows p k m l o y origin f
awaits p h k m l o x y origin f stay goes before = record {
  own = before.own;
  class = ap (λ c. fits p c origin.class) goes.class ∙ before.class;
  bounded = still_bounded p x y goes before.bounded;
  need = ap (λ s. set.is_subset s (need origin f)) goes.must ∙ before.need;
  called = within_trans f.called x.called y.called before.called goes.called;
  some = before.some;
  alone = before.alone;
  places = λ q small is.
      let was = before.places q small is in
      (was.0, ap (root_of k) (local_value p h k m l q was.0) ∙ stay (place_value p h m l q) was.1);
}

-- a frame goes on to track the object; it may come to wait for a call that creates its obligation anew
abbrev pub tracks_on : (p : Program) (h k : HeapContents) (before after : Bool) (fr : Frame) (o : ℕ) (x y : Object) → (before ≡ true → after ≡ true) → RootsStay h k o → GoesOn x y
    → TracksAs p h before fr o x → TracksAs p k after fr o y
tracks_on p h k before after fr o x y more stay goes t = record {
  body = t.body;
  id = t.id;
  origin = t.origin;
  fact = t.fact;
  reached = t.reached;
  follows = read_as p k fr.method fr.locals o y t.origin t.fact (origin_needs_all p t.body t.origin fr.control t.fact t.reached) before after more
      (awaits p h k fr.method fr.locals o x y t.origin (fact_as before t.fact) stay goes t.follows);
}

pub still_awaited : (p : Program) (h k : HeapContents) (frs : List Frame) (o : ℕ) (x y : Object) (j : ℕ) → RootsStay h k o → GoesOn x y
    → IsAwaited p h frs o x j → IsAwaited p k frs o y j
still_awaited p h k [] o x y j stay goes before = before
still_awaited p h k (fr ∷ frs) o x y j stay goes before = go (still_awaited p h k frs o x y j stay goes) (nat_eq (length frs + 1) j) before
  where
    go : (IsAwaited p h frs o x j → IsAwaited p k frs o y j) → (b : Bool)
        → MatchBool b (Awaits p h fr o x) (IsAwaited p h frs o x j) → MatchBool b (Awaits p k fr o y) (IsAwaited p k frs o y j)
    go further true t = record { tracks = tracks_on p h k (is_renewed p h fr o) (is_renewed p k fr o) fr o x y (renewed_on p h k fr o stay) stay goes t.tracks; stays = t.stays }
    go further false w = further w
