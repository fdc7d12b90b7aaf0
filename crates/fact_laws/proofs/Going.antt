-- A fact that a step leaves a place goes on, or a rule is broken.
use Rattle.std.proofs.Common.{◌≡◌, inl, ℕ, ◌+◌, Bool, true, false, not, ◌&&◌, Option, Some, None, refl, sym, ap, ◌∙◌, true≢false, eqb, eqb-true, arith, if◌then◌else◌, subst}
use Rattle.std.specs.FinSet as set
use Rattle.std.proofs.lemmas.Cmp.{nat_cmp_total}
use Rattle.std.proofs.lemmas.Grind.{common_steps}
use Rattle.rlc_base.proofs.SetLaws.{member_of-empty, within_at, empty_within, insert_within, new_member, union_within, within_self, within_trans, within_union_left, within_union_right}
use Rattle.program_model.specs.declared.kinds.BodyId.{BodyId}
use Rattle.program_model.specs.declared.kinds.ClassId.{ClassId}
use Rattle.program_model.specs.declared.program.Program.{Program}
use Rattle.program_model.specs.declared.kinds.VType.{VType}
use Rattle.ownership_rules.specs.MustCallSets.{fits_type, is_heavy_as, is_heavy_class, no_names}
use Rattle.java_control.specs.PlaceNumbers.{number_of}
use Rattle.java_control.specs.Sources.{is_null_pointer}
use Rattle.control_actions.specs.declared.action.Action.{Action}
use Rattle.control_actions.specs.declared.action.Action.TheVariants as actions
use Rattle.control_actions.specs.declared.action.Edge.{Edge}
use Rattle.control_actions.specs.declared.action.Edge.TheVariants as edges
use Rattle.control_actions.specs.declared.fact.Fact.{Fact}
use Rattle.control_actions.specs.declared.fact.Mode.{Mode}
use Rattle.control_actions.specs.declared.fact.Mode.TheVariants as modes
use Rattle.control_actions.specs.declared.fact.Origin.{Origin}
use Rattle.control_actions.specs.declared.place.Place.{Place}
use Rattle.control_actions.specs.declared.place.Place.TheVariants as places
use Rattle.control_actions.specs.declared.fact.Rule.TheVariants as rules
use Rattle.ownership_rules.specs.Callees.{callee, may_be_null_target}
use Rattle.ownership_rules.specs.Facts.{Names, PlaceSet, has, is_held, is_met, is_nowhere, leave, mode_at, without}
use Rattle.place_laws.specs.PlaceRows.{places_after}
use Rattle.place_laws.specs.CalledRows.{called_after, called_at_call, called_by, holds_receiver, interest_in, is_emptied, promised_at, promises_at, with_name}
use Rattle.place_laws.specs.Preconditions.{precondition_missing}
use Rattle.ownership_rules.specs.Heavy.{is_owned}
use Rattle.ownership_rules.specs.MovesAtCalls.{first_of, has_two_owners, moved_at_call, moved_to_first, owners}
use Rattle.ownership_rules.specs.declared.moved.Moved.{Moved}
use Rattle.ownership_rules.specs.declared.moved.Moved.TheVariants as moves
use Rattle.place_laws.specs.Calls.{at_move, at_precondition, called, given_away, with_called}
use Rattle.place_laws.specs.Flow.{flow, placed, raised, turned}
use Rattle.fact_laws.specs.Outcomes.{After, IsCallRow, IsNotNull, IsPlainRow}
use Rattle.fact_laws.specs.Going.{ArePlaces, GoesAs, is_in_this, is_owned_in}
use Rattle.fact_laws.specs.Anew.{is_target}
use Rattle.fact_laws.proofs.FactTargets.{targeted, untouched}
use Rattle.rlc_base.specs.declared.name_id.NameId.{NameId}

-- a set that has a place is not empty
pub somewhere : (held : PlaceSet) (q : Place) → has held q ≡ true → is_nowhere held ≡ false
somewhere held q is = go (is_nowhere held) refl
  where
    go : (b : Bool) → is_nowhere held ≡ b → is_nowhere held ≡ false
    go true none = absurd (true≢false (sym (within_at held set.empty none (number_of q) is) ∙ member_of-empty (number_of q)))
    go false none = none

pub mode_stays : (m : Mode) (held : PlaceSet) → is_owned_in (mode_at m held) ≡ true → mode_at m held ≡ m
mode_stays modes.Own held is = refl
mode_stays modes.None held is = refl
mode_stays modes.Lent held is = refl
mode_stays modes.Alias held is = refl
mode_stays modes.Held held is = go (is_in_this held) is
  where
    go : (b : Bool) → is_owned_in (if b then modes.Held else modes.None) ≡ true → (if b then modes.Held else modes.None) ≡ modes.Held
    go true one = refl
    go false one = absurd (true≢false (sym one))

-- a fact at other places is lent only where it was
pub lent_before : (m : Mode) (held : PlaceSet) → mode_at m held ≡ modes.Lent → m ≡ modes.Lent
lent_before modes.Own held is = is
lent_before modes.None held is = is
lent_before modes.Lent held is = is
lent_before modes.Alias held is = is
lent_before modes.Held held is = go (is_in_this held) is
  where
    go : (b : Bool) → (if b then modes.Held else modes.None) ≡ modes.Lent → modes.Held ≡ modes.Lent
    go true one = one
    go false one = absurd (let never : modes.None ≡ modes.Lent = one in cc)

pub held_stays : (m : Mode) (held : PlaceSet) → m ≡ modes.Held → is_in_this held ≡ true → mode_at m held ≡ modes.Held
held_stays m held is inside = rw (is, inside) refl

-- what is held at such places is in `this`
pub held_within : (m : Mode) (held : PlaceSet) → mode_at m held ≡ modes.Held → is_in_this held ≡ true
held_within modes.Own held is = absurd (let never : modes.Own ≡ modes.Held = is in cc)
held_within modes.None held is = absurd (let never : modes.None ≡ modes.Held = is in cc)
held_within modes.Held held is = go (is_in_this held) refl is
  where
    go : (b : Bool) → is_in_this held ≡ b → (if b then modes.Held else modes.None) ≡ modes.Held → is_in_this held ≡ true
    go true inside one = inside
    go false out one = absurd (let never : modes.None ≡ modes.Held = one in cc)
held_within modes.Lent held is = absurd (let never : modes.Lent ≡ modes.Held = is in cc)
held_within modes.Alias held is = absurd (let never : modes.Alias ≡ modes.Held = is in cc)

-- a fact at other places
pub left_as : (P : Fact → Type 0) (o : Origin) (f : Fact) (held : PlaceSet) (q : Place) → has held q ≡ true → P (record f { places = held; mode = mode_at f.mode held }) → After P (leave o f held)
left_as P o f held q is good = rw (somewhere held q is) good

same_fact : (f : Fact) (held : PlaceSet) → ArePlaces f.places held → GoesAs f held f.called f
same_fact f held same = record { places = same; full = inl refl; mode = λ owned. refl; lent = λ lent. lent; known = within_self f.called; held = λ is inside. is }

moved_fact : (f g : Fact) (held : PlaceSet) (called : Names) → g.mode ≡ f.mode → g.full ≡ f.full → g.called ≡ called → GoesAs f held called (record g { places = held; mode = mode_at g.mode held })
moved_fact f g held called mode full names = record {
  places = λ n. refl;
  full = inl full;
  mode = λ owned. mode_stays g.mode held owned ∙ mode;
  lent = λ lent. sym mode ∙ lent_before g.mode held lent;
  known = ap (λ (s : Names). set.is_subset s called) names ∙ within_self called;
  held = λ is inside. held_stays g.mode held (mode ∙ is) inside;
}

other_stays : (held : PlaceSet) (d : ℕ) → has held (places.Temp d) ≡ false → ArePlaces held (without held (places.Temp d))
other_stays held d out n = go (eqb n (177 + d)) refl
  where
    go : (b : Bool) → eqb n (177 + d) ≡ b → set.contains held n ≡ set.contains (set.remove held (177 + d)) n
    go true e =
        let same : n ≡ 177 + d = eqb-true n (177 + d) e in
        grind (arith, common_steps, set.contains-remove nat_cmp_total held (177 + d) n, ap (set.contains held) same ∙ out, e)
    go false e = grind (arith, common_steps, set.contains-remove nat_cmp_total held (177 + d) n, e)

-- what a field owns is not the frame's
pub held_is_other : (p : Program) (o : Origin) (f : Fact) → f.mode ≡ modes.Held → is_owned p o f ≡ false
held_is_other p o f held = rw held (go (is_heavy_class p o.class))
  where
    go : (x : Bool) → (x && false) ≡ false
    go true = refl
    go false = refl

-- so it does not move to a parameter
pub held_moves_not : (p : Program) (o : Origin) (a : Action) (e : Edge) (f : Fact) → f.mode ≡ modes.Held → moved_at_call p o a e f ≡ moves.Moves → ⊥
held_moves_not p o a e f held is = go (has_two_owners p o.class a f.places) is
  where
    to : (t : VType) (x : Bool) → (if not x then moves.Stays else (if not (is_owned p o f) then moves.Bad rules.NotOwned
        else (if not (fits_type p o.class (Some t)) then moves.Bad rules.Narrow else (if may_be_null_target p a e && not (is_met o f) then moves.Bad rules.Throw else moves.Moves)))) ≡ moves.Moves → ⊥
    to t false same = cc
    to t true same =
        let bad : moves.Bad rules.NotOwned ≡ moves.Moves = rw (held_is_other p o f held) at same in
        cc

    first : (t : Option VType) → moved_to_first p o a e f t ≡ moves.Moves → ⊥
    first None same = cc
    first (Some t) same = to t (is_heavy_as p o.class (Some t)) same

    go : (x : Bool) → (if x then moves.Bad rules.Twice else moved_to_first p o a e f (first_of (owners p a f.places))) ≡ moves.Moves → ⊥
    go true same = cc
    go false same = first (first_of (owners p a f.places)) same

-- ---- steps that call nothing

module _ (p : Program) (b : BodyId) (o : Origin) (f : Fact) (q : Place) where
  abbrev Goes : Action → Edge → Type 0
  Goes a e = IsNotNull f a e → has (places_after p b a e f.places) q ≡ true → After (GoesAs f (places_after p b a e f.places) (called_after p b a e f)) (flow p b o a e f)

  by_places : (held : PlaceSet) → has held q ≡ true → After (GoesAs f held f.called) (leave o f held)
  by_places held is = left_as (GoesAs f held f.called) o f held q is (moved_fact f f held f.called refl refl refl)

  raised_row : (d : ℕ) (c : Option ClassId) (e : Edge) → Goes (actions.Raise d c) e
  raised_row d c e safe is = go (is_null_pointer p e) refl
    where
      go : (x : Bool) → is_null_pointer p e ≡ x → After (GoesAs f (places_after p b (actions.Raise d c) e f.places) f.called) (placed o f (places_after p b (actions.Raise d c) e f.places) (raised p e f))
      go true one = rw one (by_places (without f.places (places.Temp d)) (let same : places_after p b (actions.Raise d c) e f.places ≡ without f.places (places.Temp d) = rw one refl in ap (λ (s : PlaceSet). has s q) (sym same) ∙ is))
      go false one = rw one (same_fact f f.places (λ n. refl))

  pub plain_goes : (a : Action) (e : Edge) → IsPlainRow a → Goes a e
  plain_goes actions.Skip e row safe is = same_fact f f.places (λ n. refl)
  plain_goes (actions.Copy x y) e row safe is = by_places (places_after p b (actions.Copy x y) e f.places) is
  plain_goes (actions.Move x y) e row safe is = by_places (places_after p b (actions.Move x y) e f.places) is
  plain_goes (actions.Plain x v) e row safe is = by_places (places_after p b (actions.Plain x v) e f.places) is
  plain_goes (actions.Drop s) e row safe is = by_places (places_after p b (actions.Drop s) e f.places) is
  plain_goes (actions.Settle d c) e row safe is = by_places (places_after p b (actions.Settle d c) e f.places) is
  plain_goes (actions.Enter clause x d n) e row safe is = by_places (places_after p b (actions.Enter clause x d n) e f.places) is
  plain_goes (actions.Test d) edges.Null row safe is = rw safe (same_fact f (without f.places (places.Temp d)) (other_stays f.places d safe))
  plain_goes (actions.Test d) e row safe is = by_places (places_after p b (actions.Test d) e f.places) is
  plain_goes (actions.Op k d n) e row safe is = by_places (places_after p b (actions.Op k d n) e f.places) is
  plain_goes (actions.Get g d this) e row safe is = by_places (places_after p b (actions.Get g d this) e f.places) is
  plain_goes (actions.Put g d this) e row safe is = by_places (places_after p b (actions.Put g d this) e f.places) is
  plain_goes (actions.Cast t d) (edges.Throws c) row safe is = by_places (places_after p b (actions.Cast t d) (edges.Throws c) f.places) is
  plain_goes (actions.Cast t d) e row safe is = same_fact f f.places (λ n. refl)
  plain_goes (actions.Raise d c) e row safe is = raised_row d c e safe is
  plain_goes (actions.PutOwn g d) e row safe is = absurd row
  plain_goes (actions.Call m d n form) e row safe is = absurd row
  plain_goes (actions.New m d n) e row safe is = absurd row
  plain_goes (actions.Super m d n) e row safe is = absurd row
  plain_goes (actions.End c) e row safe is = absurd row

  -- a test that finds null takes the place in t(d) from what a field holds
  null_goes : (d : ℕ) → has f.places (places.Temp d) ≡ true → is_held f.mode ≡ true → has (places_after p b (actions.Test d) edges.Null f.places) q ≡ true
      → After (GoesAs f (places_after p b (actions.Test d) edges.Null f.places) (called_after p b (actions.Test d) edges.Null f)) (flow p b o (actions.Test d) edges.Null f)
  null_goes d there held is = rw (there, held) (left_as (GoesAs f (without f.places (places.Temp d)) _) o (with_called f _) (without f.places (places.Temp d)) q is (moved_fact f (with_called f _) (without f.places (places.Temp d)) _ refl refl refl))

  -- so what a field holds goes on at each such step
  pub held_goes : (a : Action) (e : Edge) → IsPlainRow a → is_held f.mode ≡ true → has (places_after p b a e f.places) q ≡ true → After (GoesAs f (places_after p b a e f.places) (called_after p b a e f)) (flow p b o a e f)
  held_goes actions.Skip e row held is = plain_goes actions.Skip e row tt is
  held_goes (actions.Test d) edges.Null row held is = go (has f.places (places.Temp d)) refl
    where
      go : (c : Bool) → has f.places (places.Temp d) ≡ c → After (GoesAs f (places_after p b (actions.Test d) edges.Null f.places) (called_after p b (actions.Test d) edges.Null f)) (flow p b o (actions.Test d) edges.Null f)
      go true there = null_goes d there held is
      go false out = plain_goes (actions.Test d) edges.Null row out is
  held_goes (actions.Test d) e row held is = plain_goes (actions.Test d) e row tt is
  held_goes a e row held is = plain_goes a e row tt is

  -- ---- calls

  -- a fact with these called names, at the places after the call
  with_names : (held : PlaceSet) (called : Names) → GoesAs f held called (record f { places = held; mode = mode_at f.mode held; called = called })
  with_names held called = moved_fact f (with_called f called) held called refl refl refl

  -- what was given away is owned no longer
  given_fact : (held : PlaceSet) (called names : Names) → set.is_subset names called ≡ true → (f.mode ≡ modes.Held → ⊥) → GoesAs f held called (record f { places = held; mode = modes.None; called = names })
  given_fact held called names within other = record {
    places = λ n. refl;
    full = inl refl;
    mode = λ owned. absurd (true≢false (sym owned));
    lent = λ lent. absurd (let never : modes.None ≡ modes.Lent = lent in cc);
    known = within;
    held = λ is inside. absurd (other is);
  }

  -- and knows no more names
  given_at_call : (a : Action) → set.is_subset (called_at_call p a f.places no_names) (called_at_call p a f.places f.called) ≡ true
  given_at_call a = go (holds_receiver a f.places) (interest_in (callee p a))
    where
      go : (x : Bool) (n : Option NameId) → set.is_subset (if x then with_name no_names n else no_names) (if x then with_name f.called n else f.called) ≡ true
      go true None = empty_within f.called
      go true (Some n) = insert_within no_names (set.insert f.called n.0) n.0 (empty_within (set.insert f.called n.0)) (new_member f.called n.0)
      go false n = empty_within f.called

  given_by : (a : Action) (e : Edge) → set.is_subset (called_by p b a e (given_away f)) (called_by p b a e f) ≡ true
  given_by a e = go (is_emptied p a f.places)
    where
      all : Names
      all = promised_at p b a f.places (promises_at p a e)

      go : (x : Bool) → set.is_subset (if x then no_names else set.union (called_at_call p a f.places no_names) (promised_at p b a f.places (promises_at p a e)))
          (if x then no_names else set.union (called_at_call p a f.places f.called) (promised_at p b a f.places (promises_at p a e))) ≡ true
      go true = within_self no_names
      go false =
          union_within (called_at_call p a f.places no_names) all (set.union (called_at_call p a f.places f.called) all)
          (within_trans (called_at_call p a f.places no_names) (called_at_call p a f.places f.called) (set.union (called_at_call p a f.places f.called) all) (given_at_call a) (within_union_left (called_at_call p a f.places f.called) all))
          (within_union_right (called_at_call p a f.places f.called) all)

  given_names : (a : Action) (e : Edge) → IsCallRow a → set.is_subset (called_after p b a e (given_away f)) (called_after p b a e f) ≡ true
  given_names actions.Skip e row = absurd row
  given_names (actions.Call m d n form) e row = given_by (actions.Call m d n form) e
  given_names (actions.New m d n) e row = given_by (actions.New m d n) e
  given_names (actions.Super m d n) e row = given_by (actions.Super m d n) e
  given_names a e row = absurd row

  called_fact : (a : Action) (e : Edge) (held : PlaceSet) → has held q ≡ true → IsCallRow a → is_target p a f.places ≡ false
      → After (GoesAs f held (called_after p b a e f)) (placed o f held (turned (called p b o a e f)))
  called_fact a e held is row out = go (precondition_missing p a f)
    where
      moved : (x : Moved) → moved_at_call p o a e f ≡ x → After (GoesAs f held (called_after p b a e f)) (placed o f held (turned (at_move p b o a e f x)))
      moved moves.Stays none =
          rw (untouched p b o a (with_called f (called_after p b a e f)) out)
          (left_as (GoesAs f held (called_after p b a e f)) o (with_called f (called_after p b a e f)) held q is (with_names held (called_after p b a e f)))
      moved moves.Moves one =
          rw (untouched p b o a (with_called (given_away f) (called_after p b a e (given_away f))) out)
          (left_as (GoesAs f held (called_after p b a e f)) o (with_called (given_away f) (called_after p b a e (given_away f))) held q is
          (given_fact held (called_after p b a e f) (called_after p b a e (given_away f)) (given_names a e row) (λ inside. held_moves_not p o a e f inside one)))
      moved (moves.Bad rule) none = tt

      go : (x : Option Names) → After (GoesAs f held (called_after p b a e f)) (placed o f held (turned (at_precondition p b o a e f x)))
      go None = moved (moved_at_call p o a e f) refl
      go (Some names) = tt

  pub call_goes : (a : Action) (e : Edge) → IsCallRow a → is_target p a f.places ≡ false → has (places_after p b a e f.places) q ≡ true
      → After (GoesAs f (places_after p b a e f.places) (called_after p b a e f)) (flow p b o a e f)
  call_goes actions.Skip e row out is = absurd row
  call_goes (actions.Call m d n form) e row out is = called_fact (actions.Call m d n form) e (places_after p b (actions.Call m d n form) e f.places) is tt out
  call_goes (actions.New m d n) e row out is = called_fact (actions.New m d n) e (places_after p b (actions.New m d n) e f.places) is tt out
  call_goes (actions.Super m d n) e row out is = called_fact (actions.Super m d n) e (places_after p b (actions.Super m d n) e f.places) is tt out
  call_goes a e row out is = absurd row

  -- a fact that moves is not owned after the call; where it is the target of a reset too, that breaks a rule
  given_fact_after : (a : Action) (e : Edge) (held : PlaceSet) → has held q ≡ true → moved_at_call p o a e f ≡ moves.Moves
      → After (λ (g : Fact). is_owned_in g.mode ≡ false) (placed o f held (turned (called p b o a e f)))
  given_fact_after a e held is one = go (precondition_missing p a f)
    where
      given : (x : Bool) → is_target p a f.places ≡ x → After (λ (g : Fact). is_owned_in g.mode ≡ false) (placed o f held (turned (at_move p b o a e f moves.Moves)))
      given true target = let it = targeted p b o a (with_called (given_away f) (called_after p b a e (given_away f))) target in rw it.2 tt
      given false out =
          rw (untouched p b o a (with_called (given_away f) (called_after p b a e (given_away f))) out)
          (left_as (λ (g : Fact). is_owned_in g.mode ≡ false) o (with_called (given_away f) (called_after p b a e (given_away f))) held q is refl)

      go : (x : Option Names) → After (λ (g : Fact). is_owned_in g.mode ≡ false) (placed o f held (turned (at_precondition p b o a e f x)))
      go None = subst (λ (m : Moved). After (λ (g : Fact). is_owned_in g.mode ≡ false) (placed o f held (turned (at_move p b o a e f m)))) (sym one) (given (is_target p a f.places) refl)
      go (Some names) = tt

  pub given_goes : (a : Action) (e : Edge) → IsCallRow a → has (places_after p b a e f.places) q ≡ true → moved_at_call p o a e f ≡ moves.Moves
      → After (λ (g : Fact). is_owned_in g.mode ≡ false) (flow p b o a e f)
  given_goes actions.Skip e row is one = absurd row
  given_goes (actions.Call m d n form) e row is one = given_fact_after (actions.Call m d n form) e (places_after p b (actions.Call m d n form) e f.places) is one
  given_goes (actions.New m d n) e row is one = given_fact_after (actions.New m d n) e (places_after p b (actions.New m d n) e f.places) is one
  given_goes (actions.Super m d n) e row is one = given_fact_after (actions.Super m d n) e (places_after p b (actions.Super m d n) e f.places) is one
  given_goes a e row is one = absurd row

pub other_steps : (p : Program) (b : BodyId) (o : Origin) (a : Action) (e : Edge) (f : Fact) (q : Place) → IsPlainRow a → IsNotNull f a e
    → has (places_after p b a e f.places) q ≡ true → After (GoesAs f (places_after p b a e f.places) (called_after p b a e f)) (flow p b o a e f)
other_steps p b o a e f q row safe is = plain_goes p b o f q a e row safe is

pub apart : (p : Program) (b : BodyId) (o : Origin) (a : Action) (e : Edge) (f : Fact) (q : Place) → IsCallRow a → is_target p a f.places ≡ false
    → has (places_after p b a e f.places) q ≡ true → After (GoesAs f (places_after p b a e f.places) (called_after p b a e f)) (flow p b o a e f)
apart p b o a e f q row out is = call_goes p b o f q a e row out is

pub moves_away : (p : Program) (b : BodyId) (o : Origin) (a : Action) (e : Edge) (f : Fact) (q : Place) → IsCallRow a
    → has (places_after p b a e f.places) q ≡ true → moved_at_call p o a e f ≡ moves.Moves → After (λ (g : Fact). is_owned_in g.mode ≡ false) (flow p b o a e f)
moves_away p b o a e f q row is one = given_goes p b o f q a e row is one
