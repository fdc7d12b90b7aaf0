-- A store into an owning field lets a fact go on, or a rule is broken.
use Rattle.std.proofs.Common.{◌≡◌, ◌⊎◌, inl, inr, ℕ, Bool, true, false, not, ◌&&◌, ◌||◌, refl, sym, ap, ◌∙◌, true≢false, eqb, eqb-true, arith, if◌then◌else◌}
use Rattle.std.specs.FinSet as set
use Rattle.std.proofs.lemmas.Cmp.{nat_cmp_total}
use Rattle.std.proofs.lemmas.Grind.{common_steps}
use Rattle.rlc_base.proofs.SetLaws.{member_of-insert}
use Rattle.program_model.specs.declared.kinds.BodyId.{BodyId}
use Rattle.program_model.specs.declared.kinds.FieldId.{FieldId}
use Rattle.program_model.specs.declared.program.Program.{Program}
use Rattle.ownership_rules.specs.Bodies.{alias_position, is_alias_constructor}
use Rattle.ownership_rules.specs.MustCallSets.{beyond_type, fits_type, is_heavy_class, must_of}
use Rattle.ownership_rules.specs.Signatures.{field_type}
use Rattle.java_control.specs.Owned.{place_of_field}
use Rattle.java_control.specs.PlaceNumbers.{number_of}
use Rattle.control_actions.specs.declared.action.Action.TheVariants as actions
use Rattle.control_actions.specs.declared.action.Edge.{Edge}
use Rattle.control_actions.specs.declared.fact.Fact.{Fact}
use Rattle.control_actions.specs.declared.fact.Mode.{Mode}
use Rattle.control_actions.specs.declared.fact.Mode.TheVariants as modes
use Rattle.control_actions.specs.declared.fact.Origin.{Origin}
use Rattle.control_actions.specs.declared.fact.Rule.TheVariants as rules
use Rattle.control_actions.specs.declared.fact.Outcome.TheVariants.{Next, Fault}
use Rattle.control_actions.specs.declared.place.Place.{Place}
use Rattle.control_actions.specs.declared.place.Place.TheVariants as places
use Rattle.ownership_rules.specs.Facts.{PlaceSet, has, is_alias, is_held, is_met, is_origin_at, is_own, leave, missing, mode_at, with_place, without}
use Rattle.place_laws.specs.PlaceRows.{copied, places_after}
use Rattle.place_laws.specs.OwningFieldsStores.{heavy_stored, is_heavy_store, keeps_other, lacks_reset, may_store, object_stored, overwritten, stored, with_field}
use Rattle.place_laws.specs.Flow.{flow}
use Rattle.fact_laws.specs.Outcomes.{After}
use Rattle.fact_laws.specs.Going.{ArePlaces, StoresAs, left, taken}
use Rattle.fact_laws.proofs.Going.{held_stays, held_within, left_as, lent_before, mode_stays}

-- a place more that was there
there_already : (held : PlaceSet) (x : Place) → has held x ≡ true → ArePlaces held (with_place held x)
there_already held x is n = sym (member_of-insert held (number_of x) n ∙ go (eqb n (number_of x)) refl)
  where
    go : (b : Bool) → eqb n (number_of x) ≡ b → (b || set.contains held n) ≡ set.contains held n
    go true e = sym (ap (set.contains held) (eqb-true n (number_of x) e) ∙ is)
    go false e = refl

-- a place less that was not there
gone_already : (held : PlaceSet) (x : Place) → has held x ≡ false → ArePlaces held (without held x)
gone_already held x out n = go (eqb n (number_of x)) refl
  where
    go : (b : Bool) → eqb n (number_of x) ≡ b → set.contains held n ≡ set.contains (set.remove held (number_of x)) n
    go true e = grind (arith, common_steps, set.contains-remove nat_cmp_total held (number_of x) n, ap (set.contains held) (eqb-true n (number_of x) e) ∙ out, e)
    go false e = grind (arith, common_steps, set.contains-remove nat_cmp_total held (number_of x) n, e)

own_mode : (m : Mode) → is_own m ≡ true → m ≡ modes.Own
own_mode modes.Own is = refl
own_mode modes.None is = absurd (true≢false (sym is))
own_mode modes.Held is = absurd (true≢false (sym is))
own_mode modes.Lent is = absurd (true≢false (sym is))
own_mode modes.Alias is = absurd (true≢false (sym is))

alias_mode : (m : Mode) → is_alias m ≡ true → m ≡ modes.Alias
alias_mode modes.Own is = absurd (true≢false (sym is))
alias_mode modes.None is = absurd (true≢false (sym is))
alias_mode modes.Held is = absurd (true≢false (sym is))
alias_mode modes.Lent is = absurd (true≢false (sym is))
alias_mode modes.Alias is = refl

module _ (p : Program) (b : BodyId) (o : Origin) (x : FieldId) (d : ℕ) (e : Edge) (f : Fact) (q : Place) where
  abbrev now : PlaceSet
  now = copied f.places (place_of_field p x) (places.Temp d)

  abbrev Goal : Fact → Type 0
  Goal g = ArePlaces g.places now × StoresAs p b o x d f g

  -- the frame owns it, or it is the aliased argument of a constructor
  stores_own : (h m n l : Bool) → (h && (m || n && l)) ≡ true → (h ≡ true) × ((m ≡ true) ⊎ ((n ≡ true) × (l ≡ true)))
  stores_own true true n l is = (refl, inl refl)
  stores_own true false true true is = (refl, inr (refl, refl))
  stores_own true false true false is = absurd (true≢false (sym is))
  stores_own true false false l is = absurd (true≢false (sym is))
  stores_own false m n l is = absurd (true≢false (sym is))

  -- in an alias constructor no other is stored
  no_other : (c l : Bool) → (c && not l) ≡ false → c ≡ true → l ≡ true
  no_other true true is one = refl
  no_other true false is one = absurd (true≢false is)
  no_other false l is one = absurd (true≢false (sym one))

  module _ (in_ctor : lacks_reset p b x f ≡ false) (there : has f.places (places.Temp d) ≡ true) where
    joined : now ≡ with_place f.places (place_of_field p x)
    joined = rw there refl

    inside : has f.places (place_of_field p x) ≡ true → Goal f
    inside is = (
      λ n. there_already f.places (place_of_field p x) is n ∙ ap (λ (s : PlaceSet). set.contains s n) (sym joined),
      left in_ctor refl refl (record {
        mode = λ owned. refl;
        lent = λ lent. lent;
        held = λ one within. one;
        met = λ out one held. absurd (true≢false (sym there ∙ out));
        within = λ out one held. absurd (true≢false (sym there ∙ out));
        light = λ one out. absurd (true≢false (sym is ∙ out));
      }),
    )

    kept : has f.places (place_of_field p x) ≡ false → is_heavy_store p o x ≡ false → Goal (with_field p x f.mode f)
    kept absent light = (
      λ n. ap (λ (s : PlaceSet). set.contains s n) (sym joined),
      left in_ctor refl refl (record {
        mode = λ owned. refl;
        lent = λ lent. lent;
        held = λ one within. one;
        met = λ out one held. absurd (true≢false (sym there ∙ out));
        within = λ out one held. absurd (true≢false (sym there ∙ out));
        light = λ one out. light;
      }),
    )

    abbrev MayGo : Type 0
    MayGo = (f.mode ≡ modes.Own) ⊎ ((is_alias_constructor p b ≡ true) × (f.mode ≡ modes.Alias))

    moved : has f.places (place_of_field p x) ≡ false → is_heavy_class p o.class ≡ true → MayGo → (is_alias_constructor p b ≡ true → is_origin_at o.kind (alias_position p b) ≡ true)
        → fits_type p o.class (field_type p x) ≡ true → Goal (with_field p x modes.Held f)
    moved absent heavy may alias fits = (
      λ n. ap (λ (s : PlaceSet). set.contains s n) (sym joined),
      taken in_ctor refl refl (record { there = there; absent = absent; heavy = heavy; may = may; alias = alias; fits = fits; mode = refl }),
    )

    heavy_goes : has f.places (place_of_field p x) ≡ false → After Goal (heavy_stored p b o x f)
    heavy_goes absent = keeps (keeps_other p b o) refl
      where
        fit : is_heavy_class p o.class ≡ true → MayGo → (is_alias_constructor p b ≡ true → is_origin_at o.kind (alias_position p b) ≡ true) → (z : Bool) → fits_type p o.class (field_type p x) ≡ z
            → After Goal (if not z then Fault rules.Narrow (beyond_type p o.class (field_type p x)) else Next (with_field p x modes.Held f))
        fit heavy may alias true is = moved absent heavy may alias is
        fit heavy may alias false is = tt

        by_mode : (is_own f.mode ≡ true) ⊎ ((is_alias_constructor p b ≡ true) × (is_alias f.mode ≡ true)) → MayGo
        by_mode (inl own) = inl (own_mode f.mode own)
        by_mode (inr alias) = inr (alias.0, alias_mode f.mode alias.1)

        may : (is_alias_constructor p b ≡ true → is_origin_at o.kind (alias_position p b) ≡ true) → (z : Bool) → may_store p b o f ≡ z → After Goal (if not z then Fault rules.NotOwned (must_of p o.class)
            else (if not (fits_type p o.class (field_type p x)) then Fault rules.Narrow (beyond_type p o.class (field_type p x)) else Next (with_field p x modes.Held f)))
        may alias true is =
            let parts = stores_own (is_heavy_class p o.class) (is_own f.mode) (is_alias_constructor p b) (is_alias f.mode) is in
            fit parts.0 (by_mode parts.1) alias (fits_type p o.class (field_type p x)) refl
        may alias false is = tt

        keeps : (z : Bool) → keeps_other p b o ≡ z → After Goal (if z then Fault rules.AliasKept (must_of p o.class) else (if not (may_store p b o f) then Fault rules.NotOwned (must_of p o.class)
            else (if not (fits_type p o.class (field_type p x)) then Fault rules.Narrow (beyond_type p o.class (field_type p x)) else Next (with_field p x modes.Held f))))
        keeps true is = tt
        keeps false is = may (no_other (is_alias_constructor p b) (is_origin_at o.kind (alias_position p b)) is) (may_store p b o f) refl

    object_goes : After Goal (object_stored p b o x f)
    object_goes = go (has f.places (place_of_field p x)) refl
      where
        store : has f.places (place_of_field p x) ≡ false → (z : Bool) → is_heavy_store p o x ≡ z → After Goal (if z then heavy_stored p b o x f else Next (with_field p x f.mode f))
        store absent true is = heavy_goes absent
        store absent false is = kept absent is

        go : (z : Bool) → has f.places (place_of_field p x) ≡ z → After Goal (if z then Next f else (if is_heavy_store p o x then heavy_stored p b o x f else Next (with_field p x f.mode f)))
        go true is = inside is
        go false is = store is (is_heavy_store p o x) refl

  module _ (in_ctor : lacks_reset p b x f ≡ false) (out : has f.places (places.Temp d) ≡ false) (is : has now q ≡ true) where
    dropped : now ≡ without f.places (place_of_field p x)
    dropped = rw out refl

    apart : has f.places (place_of_field p x) ≡ false → Goal f
    apart absent = (
      λ n. gone_already f.places (place_of_field p x) absent n ∙ ap (λ (s : PlaceSet). set.contains s n) (sym dropped),
      left in_ctor refl refl (record {
        mode = λ owned. refl;
        lent = λ lent. lent;
        held = λ one within. one;
        met = λ none one held. absurd (true≢false (sym one ∙ absent));
        within = λ none one held. absurd (true≢false (sym one ∙ absent));
        light = λ one none. absurd (true≢false (sym one ∙ out));
      }),
    )

    removed : (is_held f.mode && not (is_met o f)) ≡ false
        → Goal (record f { places = without f.places (place_of_field p x); mode = mode_at f.mode (without f.places (place_of_field p x)) })
    removed fine = (
      λ n. ap (λ (s : PlaceSet). set.contains s n) (sym dropped),
      left in_ctor refl refl (record {
        mode = λ owned. mode_stays f.mode (without f.places (place_of_field p x)) owned;
        lent = λ lent. lent_before f.mode (without f.places (place_of_field p x)) lent;
        held = λ one within. held_stays f.mode (without f.places (place_of_field p x)) one within;
        met = λ none one held. met held;
        within = λ none one held. held_within f.mode (without f.places (place_of_field p x)) held;
        light = λ one none. absurd (true≢false (sym one ∙ out));
      }),
    )
      where
        met_of : (h m : Bool) → h ≡ true → (h && not m) ≡ false → m ≡ true
        met_of true true held fine = refl
        met_of true false held fine = absurd (true≢false fine)
        met_of false m held fine = absurd (true≢false (sym held))

        met : f.mode ≡ modes.Held → is_met o f ≡ true
        met held = met_of (is_held f.mode) (is_met o f) (rw held refl) fine

    over_goes : After Goal (overwritten p o x f)
    over_goes = go (is_held f.mode && not (is_met o f)) refl
      where
        go : (z : Bool) → (is_held f.mode && not (is_met o f)) ≡ z → After Goal (if z then Fault rules.Overwritten (missing o f) else leave o f (without f.places (place_of_field p x)))
        go true one = tt
        go false one = left_as Goal o f (without f.places (place_of_field p x)) q (ap (λ (s : PlaceSet). has s q) (sym dropped) ∙ is) (removed one)

    value_goes : (z : Bool) → has f.places (place_of_field p x) ≡ z → After Goal (if z then overwritten p o x f else Next f)
    value_goes true one = over_goes
    value_goes false one = apart one

  pub store_goes : has now q ≡ true → After Goal (stored p b o x d f)
  store_goes is = go (lacks_reset p b x f) refl
    where
      at : lacks_reset p b x f ≡ false → (z : Bool) → has f.places (places.Temp d) ≡ z → After Goal (if z then object_stored p b o x f else (if has f.places (place_of_field p x) then overwritten p o x f else Next f))
      at in_ctor true one = object_goes in_ctor one
      at in_ctor false one = value_goes in_ctor one is (has f.places (place_of_field p x)) refl

      go : (z : Bool) → lacks_reset p b x f ≡ z → After Goal (if z then Fault rules.ResetMissing (must_of p o.class)
          else (if has f.places (places.Temp d) then object_stored p b o x f else (if has f.places (place_of_field p x) then overwritten p o x f else Next f)))
      go true one = tt
      go false one = at one (has f.places (places.Temp d)) refl

pub stores : (p : Program) (b : BodyId) (o : Origin) (x : FieldId) (d : ℕ) (e : Edge) (f : Fact) (q : Place)
    → has (places_after p b (actions.PutOwn x d) e f.places) q ≡ true
    → After (λ g. ArePlaces g.places (places_after p b (actions.PutOwn x d) e f.places) × StoresAs p b o x d f g) (flow p b o (actions.PutOwn x d) e f)
stores p b o x d e f q is = store_goes p b o x d e f q is
