-- The temps from which a call on `this` takes `this` are among the places of the fact of `this` that a path brings there. And a body in which no owning field has a place has no fact in mode Held.
use Rattle.std.proofs.Common.{◌≡◌, inl, inr, arith, ℕ, ◌+◌, ◌<◌, Bool, true, false, not, ◌&&◌, ◌||◌, true≢false, nat_eq, eq-eqb, eqb-true, Option, Some, None, List, slice_get, option_map, refl, sym, subst, ap, ◌∙◌}
use Rattle.std.specs.Prelude.{if◌then◌else◌}
use Rattle.std.proofs.lemmas.Bool.{or_right}
use Rattle.std.proofs.lemmas.Option.{slice_get-map}
use Rattle.program_model.specs.declared.kinds.BodyId.{BodyId}
use Rattle.program_model.specs.declared.kinds.FieldId.{FieldId}
use Rattle.program_model.specs.declared.program.Method.{Method}
use Rattle.program_model.specs.declared.program.Program.{Program}
use Rattle.program_model.specs.declared.tree.Body.{Body}
use Rattle.program_model.specs.Lookups.{body_at, method_at}
use Rattle.java_control.specs.Control.{Step, next_of}
use Rattle.java_control.specs.Owned.{place_of_field}
use Rattle.java_control.specs.PlaceNumbers.{IsSmall}
use Rattle.java_control.specs.Remaining.{Todo}
use Rattle.java_control.specs.Sources.{is_null_pointer}
use Rattle.control_actions.specs.declared.action.Action.{Action}
use Rattle.control_actions.specs.declared.action.Action.TheVariants as actions
use Rattle.control_actions.specs.declared.action.Edge.{Edge}
use Rattle.control_actions.specs.declared.action.Edge.TheVariants as edges
use Rattle.control_actions.specs.declared.fact.Fact.{Fact}
use Rattle.control_actions.specs.declared.fact.Mode.TheVariants as modes
use Rattle.control_actions.specs.declared.fact.Origin.{Origin}
use Rattle.control_actions.specs.declared.fact.OriginKind.TheVariants as kinds
use Rattle.control_actions.specs.declared.fact.Outcome.{Outcome}
use Rattle.control_actions.specs.declared.fact.Outcome.TheVariants.{Next, Gone, Fault}
use Rattle.control_actions.specs.declared.fact.Rule.TheVariants as rules
use Rattle.control_actions.specs.declared.place.Place.{Place}
use Rattle.control_actions.specs.declared.place.Place.TheVariants as places
use Rattle.ownership_rules.specs.Bodies.{has_field_place}
use Rattle.ownership_rules.specs.Facts.{PlaceSet, has, is_held, is_met, is_nowhere, is_origin_at, leave, missing, mode_at, owes, position_of, without}
use Rattle.ownership_rules.specs.MovesAtReturns.{moved_at_return}
use Rattle.ownership_rules.specs.MustCallSets.{beyond_type, fits_type, must_of}
use Rattle.ownership_rules.specs.Signatures.{field_type}
use Rattle.ownership_rules.specs.SmallActions.{IsSmallAction}
use Rattle.place_laws.specs.Accept.{Accept}
use Rattle.place_laws.specs.Calls.{called, with_called}
use Rattle.place_laws.specs.Flow.{cast, flow, null_tested, placed, raised, tested, turn, turned}
use Rattle.place_laws.specs.OwningFieldsStores.{heavy_stored, is_heavy_store, keeps_other, lacks_reset, may_store, object_stored, stored, stored_over, with_field}
use Rattle.place_laws.specs.Paths.{Comes, Move, Reach, born, entered, flowed, move_of, relation_of}
use Rattle.place_laws.specs.PlaceRows.{copied, places_after}
use Rattle.place_laws.specs.PlaceRows as rows
use Rattle.place_laws.specs.Places.{IsWay, has_source, takes_alias}
use Rattle.place_laws.specs.StepTargets.{FindsIt, FindsThis, after}
use Rattle.place_laws.proofs.PlaceLaws.{places_come_from_sources}
use Rattle.place_laws.proofs.SetLaws.{has_copied, has_with, has_without, without_within}
use Rattle.place_laws.proofs.TargetItems.{finds_more}
use Rattle.place_laws.proofs.TargetSources.{comes_from}
use Rattle.place_laws.proofs.TargetWays.{start_finds, step_finds}
use Rattle.fact_laws.proofs.EntryFacts.{step_elsewhere}
use Rattle.fact_laws.proofs.Flows.{IfNext, end_none}
use Rattle.fact_laws.proofs.KeptFacts.{this_stays}
use Rattle.fact_laws.proofs.Modes.{next_mode, stores_own}
use Rattle.fact_laws.proofs.Origins.{comes}
use Rattle.fact_laws.proofs.ResetBirths.{entry_born, step_born}

-- ---- a fact that goes on is in the temps that the step leaves it

module _ (p : Program) (b : BodyId) (o : Origin) (f : Fact) where
  -- the temps that are among these places are places of the fact
  abbrev HasTemps : PlaceSet → Fact → Type 0
  HasTemps held g = (x : ℕ) → x < 64 → has held (places.Temp x) ≡ true → has g.places (places.Temp x) ≡ true

  at_places : (g : Fact) (held : PlaceSet) → IfNext (HasTemps held) (leave o g held)
  at_places g held = go (is_nowhere held) (owes o g)
    where
      go : (x y : Bool) → IfNext (HasTemps held) (if x then (if y then Fault rules.Lost (missing o g) else Gone) else Next (record g { places = held; mode = mode_at g.mode held }))
      go true true = tt
      go true false = tt
      go false y = λ x small is. is

  turned_row : (held : PlaceSet) (x : Outcome) → IfNext (HasTemps held) (placed o f held (turned x))
  turned_row held (Next g) = at_places g held
  turned_row held Gone = tt
  turned_row held (Fault rule names) = tt

  -- ---- stores into owning fields

  module _ (g : FieldId) (d : ℕ) (room : IsSmall (place_of_field p g)) where
    abbrev now : PlaceSet
    now = copied f.places (place_of_field p g) (places.Temp d)

    was : HasTemps now f
    was x small is = sym (has_copied f.places (place_of_field p g) (places.Temp d) (places.Temp x) room small) ∙ is

    joined : (m : _) → HasTemps now (with_field p g m f)
    joined m x small is = has_with f.places (place_of_field p g) (places.Temp x) room small ∙ was x small is

    heavy_row : IfNext (HasTemps now) (heavy_stored p b o g f)
    heavy_row = go (keeps_other p b o) (not (may_store p b o f)) (not (fits_type p o.class (field_type p g)))
      where
        go : (x y z : Bool) → IfNext (HasTemps now) (if x then Fault rules.AliasKept (must_of p o.class) else (if y then Fault rules.NotOwned (must_of p o.class)
            else (if z then Fault rules.Narrow (beyond_type p o.class (field_type p g)) else Next (with_field p g modes.Held f))))
        go true y z = tt
        go false true z = tt
        go false false true = tt
        go false false false = joined modes.Held

    object_row : IfNext (HasTemps now) (object_stored p b o g f)
    object_row = go (has f.places (place_of_field p g)) (is_heavy_store p o g)
      where
        go : (x y : Bool) → IfNext (HasTemps now) (if x then Next f else (if y then heavy_stored p b o g f else Next (with_field p g f.mode f)))
        go true y = was
        go false true = heavy_row
        go false false = joined f.mode

    over_row : IfNext (HasTemps now) (stored_over p o g f)
    over_row = go (has f.places (place_of_field p g)) (is_held f.mode && not (is_met o f))
      where
        left : IfNext (HasTemps now) (leave o f (without f.places (place_of_field p g)))
        left = by (is_nowhere (without f.places (place_of_field p g))) (owes o f)
          where
            by : (x y : Bool) → IfNext (HasTemps now) (if x then (if y then Fault rules.Lost (missing o f) else Gone)
                else Next (record f { places = without f.places (place_of_field p g); mode = mode_at f.mode (without f.places (place_of_field p g)) }))
            by true true = tt
            by true false = tt
            by false y = λ x small is. has_without f.places (place_of_field p g) (places.Temp x) room small ∙ was x small is

        go : (x y : Bool) → IfNext (HasTemps now) (if x then (if y then Fault rules.Overwritten (missing o f) else leave o f (without f.places (place_of_field p g))) else Next f)
        go true true = tt
        go true false = left
        go false y = was

    stored_row : IfNext (HasTemps now) (stored p b o g d f)
    stored_row = go (lacks_reset p b g f) (has f.places (places.Temp d))
      where
        go : (x y : Bool) → IfNext (HasTemps now) (if x then Fault rules.ResetMissing (must_of p o.class) else (if y then object_stored p b o g f else stored_over p o g f))
        go true y = tt
        go false true = object_row
        go false false = over_row

  -- ---- the rows

  rest : (held : PlaceSet) → IfNext (HasTemps held) (leave o f held)
  rest held = at_places f held

  null_row : (d : ℕ) → IfNext (HasTemps (without f.places (places.Temp d))) (placed o f (without f.places (places.Temp d)) (null_tested p b d f))
  null_row d = go (not (has f.places (places.Temp d))) (is_held f.mode) refl refl
    where
      go : (x y : Bool) → not (has f.places (places.Temp d)) ≡ x → is_held f.mode ≡ y → IfNext (HasTemps (without f.places (places.Temp d))) (placed o f (without f.places (places.Temp d)) (null_tested p b d f))
      go true y elsewhere mode = rw elsewhere (λ x small is. without_within f.places (places.Temp d) (177 + x) is)
      go false true there mode = rw (there, mode) (at_places (with_called f _) (without f.places (places.Temp d)))
      go false false there mode = rw (there, mode) tt

  tested_row : (d : ℕ) (e : Edge) → IfNext (HasTemps (without f.places (places.Temp d))) (placed o f (without f.places (places.Temp d)) (tested p b d e f))
  tested_row d edges.Go = rest (without f.places (places.Temp d))
  tested_row d edges.Null = null_row d
  tested_row d edges.NonNull = rest (without f.places (places.Temp d))
  tested_row d edges.True = rest (without f.places (places.Temp d))
  tested_row d edges.False = rest (without f.places (places.Temp d))
  tested_row d (edges.Throws c) = rest (without f.places (places.Temp d))

  cast_row : (d : ℕ) (e : Edge) → IfNext (HasTemps (rows.cast f.places d e)) (placed o f (rows.cast f.places d e) (cast e f))
  cast_row d edges.Go = λ x small is. is
  cast_row d edges.Null = λ x small is. is
  cast_row d edges.NonNull = λ x small is. is
  cast_row d edges.True = λ x small is. is
  cast_row d edges.False = λ x small is. is
  cast_row d (edges.Throws c) = rest (without f.places (places.Temp d))

  raised_row : (d : ℕ) (e : Edge) → IfNext (HasTemps (rows.raised p f.places d e)) (placed o f (rows.raised p f.places d e) (raised p e f))
  raised_row d e = go (is_null_pointer p e) refl
    where
      go : (x : Bool) → is_null_pointer p e ≡ x → IfNext (HasTemps (rows.raised p f.places d e)) (placed o f (rows.raised p f.places d e) (raised p e f))
      go true null = rw null (rest (without f.places (places.Temp d)))
      go false null = rw null (λ x small is. is)

  row : (a : Action) (e : Edge) → IsSmallAction p a → IfNext (HasTemps (places_after p b a e f.places)) (placed o f (places_after p b a e f.places) (turn p b o a e f))
  row actions.Skip e fits = λ x small is. is
  row (actions.Copy x y) e fits = rest (places_after p b (actions.Copy x y) e f.places)
  row (actions.Move x y) e fits = rest (places_after p b (actions.Move x y) e f.places)
  row (actions.Plain x value) e fits = rest (places_after p b (actions.Plain x value) e f.places)
  row (actions.Drop s) e fits = rest (places_after p b (actions.Drop s) e f.places)
  row (actions.Settle d c) e fits = rest (places_after p b (actions.Settle d c) e f.places)
  row (actions.Enter clause x d from) e fits = rest (places_after p b (actions.Enter clause x d from) e f.places)
  row (actions.Test d) e fits = tested_row d e
  row (actions.Op k d n) e fits = rest (places_after p b (actions.Op k d n) e f.places)
  row (actions.Get g d this) e fits = rest (places_after p b (actions.Get g d this) e f.places)
  row (actions.Put g d this) e fits = rest (places_after p b (actions.Put g d this) e f.places)
  row (actions.Cast t d) e fits = cast_row d e
  row (actions.PutOwn g d) e fits = stored_row g d fits.1
  row (actions.Call m d n form) e fits = turned_row (places_after p b (actions.Call m d n form) e f.places) (called p b o (actions.Call m d n form) e f)
  row (actions.New m d n) e fits = turned_row (places_after p b (actions.New m d n) e f.places) (called p b o (actions.New m d n) e f)
  row (actions.Super m d n) e fits = turned_row (places_after p b (actions.Super m d n) e f.places) (called p b o (actions.Super m d n) e f)
  row (actions.Raise d c) e fits = raised_row d e
  row (actions.End c) e fits = end_none (HasTemps f.places) p b o f c (moved_at_return p b o (actions.End c) f)

  next_temps : (a : Action) (e : Edge) (g : Fact) → IsSmallAction p a → flow p b o a e f ≡ Next g → HasTemps (places_after p b a e f.places) g
  next_temps a e g fits next = subst (IfNext (HasTemps (places_after p b a e f.places))) next (row a e fits)

-- ---- the fact of `this`

not_same : (d x : ℕ) → x < d → nat_eq d x ≡ false
not_same d x under = go (nat_eq d x) refl
  where
    go : (t : Bool) → nat_eq d x ≡ t → nat_eq d x ≡ false
    go false is = is
    go true is = absurd (let same : d ≡ x = eqb-true d x is in omega (arith, same, under))

module _ (p : Program) (ac : Accept p) (b : BodyId) (x : Body) (m : Method) (at : body_at p b ≡ Some x) (of : method_at p x.method ≡ Some m) where
  -- the temp is among the fact's places
  abbrev is_in : Fact → ℕ → Type 0
  is_in f d = d < 64 → has f.places (places.Temp d) ≡ true

  -- a store leaves the temps below its own
  below_store : (held : PlaceSet) (d n : ℕ) → n < d → d + 1 < 64 → has held (places.Temp n) ≡ true → has (without (without held (places.Temp d)) (places.Temp (d + 1))) (places.Temp n) ≡ true
  below_store held d n under room is =
      let low : n < 64 = omega (arith, under, room) in
      let first : d < 64 = omega (arith, room) in
      has_without (without held (places.Temp d)) (places.Temp (d + 1)) (places.Temp n) room low
      ∙ ap (λ (t : Bool). not t && has (without held (places.Temp d)) (places.Temp n)) (not_same (d + 1) n (omega (arith, under)))
      ∙ has_without held (places.Temp d) (places.Temp n) first low ∙ ap (λ (t : Bool). not t && has held (places.Temp n)) (not_same d n under) ∙ is

  -- the temp takes its value from itself, or from `this`
  from_sources : (f : Fact) (a : Action) (e : Edge) (n : ℕ) → n < 64 → IsSmallAction p a → has f.places places.This ≡ true → after a (is_in f) n → IsWay a e → has (places_after p b a e f.places) (places.Temp n) ≡ true
  from_sources f a e n small fits this is way = elim (comes_from p x (is_in f) n small a e is) [
    | inl copy ↦ subst (λ (u : Action). has (places_after p b u e f.places) (places.Temp n) ≡ true) (sym copy) (has_copied f.places (places.Temp n) places.This (places.Temp n) small small ∙ rw (eq-eqb n n refl) this)
    | inr itself ↦ places_come_from_sources p b x a e f.places (places.Temp n) at fits small refl way ∙ ap (λ (z : Option Place). takes_alias p a e f.places (places.Temp n) || has_source f.places z) itself.1
        ∙ or_right (takes_alias p a e f.places (places.Temp n)) (has f.places (places.Temp n)) (itself.0 small)
  ]

  kept : (f : Fact) (a : Action) (e : Edge) (n : ℕ) → n < 64 → IsSmallAction p a → has f.places places.This ≡ true → after a (is_in f) n → has (places_after p b a e f.places) (places.Temp n) ≡ true
  kept f (actions.Put g d t) edges.Go n small fits this is = from_sources f (actions.Put g d t) edges.Go n small fits this is tt
  kept f (actions.Put g d t) (edges.Throws c) n small fits this is = from_sources f (actions.Put g d t) (edges.Throws c) n small fits this is tt
  kept f (actions.Put g d t) edges.Null n small fits this is = below_store f.places d n is.0 fits (is.1 small)
  kept f (actions.Put g d t) edges.NonNull n small fits this is = below_store f.places d n is.0 fits (is.1 small)
  kept f (actions.Put g d t) edges.True n small fits this is = below_store f.places d n is.0 fits (is.1 small)
  kept f (actions.Put g d t) edges.False n small fits this is = below_store f.places d n is.0 fits (is.1 small)
  kept f a e n small fits this is = from_sources f a e n small fits this is tt

  move_back : (k : List Todo) (i : ℕ) (t : Move (List Todo)) → slice_get ((relation_of p b).next k) i ≡ Some t → (s : Step) × (slice_get (next_of p b k) i ≡ Some s) × (move_of s ≡ t)
  move_back k i t there = go (slice_get (next_of p b k) i) refl (sym (slice_get-map move_of (next_of p b k) i) ∙ there)
    where
      go : (s : Option Step) → slice_get (next_of p b k) i ≡ s → option_map move_of s ≡ Some t → (s : Step) × (slice_get (next_of p b k) i ≡ Some s) × (move_of s ≡ t)
      go None before same = absurd (let never : None ≡ Some t = same in cc)
      go (Some s) before same = (s, before, (let both : move_of s ≡ t = cc in both))

  -- what a step finds, and what is found behind it
  found : (f : Fact) (k : List Todo) (i : ℕ) (t : Move (List Todo)) → FindsThis p x k (is_in f) → slice_get ((relation_of p b).next k) i ≡ Some t → FindsIt p x t.action (is_in f) × FindsThis p x t.to (after t.action (is_in f))
  found f k i t finds there =
      let s = move_back k i t there in
      subst (λ (u : Move (List Todo)). FindsIt p x u.action (is_in f) × FindsThis p x u.to (after u.action (is_in f))) s.2 (step_finds p ac.well_formed.valid.typed b x k i s.0 (is_in f) at finds s.1)

  this_found : (o : Origin) (k : List Todo) (f : Fact) → Reach p b (relation_of p b) o k f → o.kind ≡ kinds.ThisRef → FindsThis p x k (is_in f)
  this_found o _ f (entered n is) this = start_finds p ac.well_formed.valid.typed b x (is_in f) at
  this_found o _ f (born i n t before here is) this = absurd (let never : Some 0 ≡ None = sym (ap position_of this) ∙ (step_elsewhere p b t.action t.edge t.pos n o f is).1 in cc)
  this_found o _ g (flowed {k = k} {f = f} i t before here is) this =
      let fits = (ac.fits b).steps i t (comes p ac b x at o k f before) here in
      finds_more p x t.to (after t.action (is_in f)) (is_in g)
      (λ n has' small. next_temps p b o f t.action t.edge g fits is n small (kept f t.action t.edge n small fits (this_stays p ac b x m at of o k f before (ap (λ kind. is_origin_at kind (Some 0)) this)) has'))
      (found f k i t (this_found o k f before this) here).1

  -- where a call on `this` takes `this` from a temp, the fact of `this` is in it
  pub finds_fact : (o : Origin) (k : List Todo) (f : Fact) → Reach p b (relation_of p b) o k f → o.kind ≡ kinds.ThisRef → (i : ℕ) (t : Move (List Todo)) → slice_get ((relation_of p b).next k) i ≡ Some t
      → FindsIt p x t.action (λ (d : ℕ). d < 64 → has f.places (places.Temp d) ≡ true)
  finds_fact o k f reach this i t here = (found f k i t (this_found o k f reach this) here).0

  -- ---- facts that say that a field holds their object

  stored_field : (a : Action) → stores_own a ≡ true → (g : FieldId) × (d : ℕ) × (a ≡ actions.PutOwn g d)
  stored_field (actions.PutOwn g d) is = (g, d, refl)
  stored_field a is = absurd (true≢false (sym is))

  pub none_held : ((k : List Todo) (i : ℕ) (t : Move (List Todo)) (g : FieldId) (d : ℕ) → Comes (relation_of p b) k → slice_get ((relation_of p b).next k) i ≡ Some t → t.action ≡ actions.PutOwn g d → has_field_place p b g ≡ true)
      → ((g : FieldId) → has_field_place p b g ≡ false) → (o : Origin) (k : List Todo) (f : Fact) → Reach p b (relation_of p b) o k f → is_held f.mode ≡ false
  none_held stores free o _ f (entered n is) = (entry_born p b m ((g : FieldId) → has_field_place p b g ≡ false) (λ instance none g. none g) x at of n o f is).1 free
  none_held stores free o _ f (born i n t before here is) = (step_born p b m ((g : FieldId) → has_field_place p b g ≡ false) t.action (λ this none g. none g) t.edge t.pos n o f is).1 free
  none_held stores free o _ g (flowed {k = k} {f = f} i t before here is) = go (is_held g.mode) refl (none_held stores free o k f before)
    where
      go : (y : Bool) → is_held g.mode ≡ y → is_held f.mode ≡ false → is_held g.mode ≡ false
      go false none was = none
      go true held was = absurd (elim ((next_mode p b o f t.action t.edge g is).1 held) [
        | inl is' ↦ true≢false (sym is' ∙ was)
        | inr own ↦ let it = stored_field t.action own in true≢false (sym (stores k i t it.0 it.1 (comes p ac b x at o k f before) here it.2) ∙ free it.0)
      ])
