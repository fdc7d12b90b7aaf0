-- Paths reach a fact of each origin of a body.
use Rattle.std.proofs.Common.{◌≡◌, ◌∙◌, sym, ap, refl, subst, ℕ, ◌<◌, ◌⊎◌, inl, inr, suc, zero, Bool, true, false, Some, None, List, [], ◌∷◌, ◌++◌, length}
use Rattle.std.specs.Prelude.{if◌then◌else◌, map, slice_get}
use Rattle.std.specs.List.{flat_map, list_any}
use Rattle.indexmap.specs.IndexSet.{insert_all, insert_key}
use Rattle.rlc_base.specs.declared.code.Code.TheVariants as refused
use Rattle.rlc_base.specs.declared.faults.Stop.{Stop}
use Rattle.rlc_base.specs.declared.faults.Stop.TheVariants as stops
use Rattle.rlc_base.specs.declared.place.Pos.{Pos}
use Rattle.program_model.specs.declared.kinds.BodyId.{BodyId}
use Rattle.program_model.specs.declared.program.Program.{Program}
use Rattle.reached_pairs.specs.Searches.{AreOnce, IsAt, Stands}
use Rattle.reached_pairs.proofs.ListLaws.{at_map, at_push, at_within, map_at, once_push, stands_append, stands_split}
use Rattle.reached_pairs.proofs.VisitLaws.{lacks_stands}
use Rattle.java_cfg.specs.Limits.{refusal}
use Rattle.java_cfg.specs.declared.arc.Arc.{Arc}
use Rattle.control_actions.specs.declared.fact.Origin.{Origin}
use Rattle.control_actions.specs.contracts.fact.OriginEq.TheImpl.Laws as origin_laws
use Rattle.flow_rules.specs.Births.{Birth, births_at_entry}
use Rattle.flow_rules.specs.Paths.{entered, born}
use Rattle.body_origins.specs.Nodes.{AreNodes, move_of, relation_in, row_in}
use Rattle.body_origins.specs.Origins.{HasManyOrigins, IsBorn, arc_births, births_in, origins_in, row_births, same_origin}
use Rattle.body_origins.specs.Pairs.{IsPairsCause, IsReachedPair, Pair, ReachesMorePairs, most_pairs}

module _ {X : Type 0} (eq : X → X → Bool) where
  inserted_by : (os : List X) (o x : X) (b : Bool) → Stands (if b then os else os ++ o ∷ []) x → Stands os x ⊎ (o ≡ x)
  inserted_by os o x true h = inl h
  inserted_by os o x false h =
      elim (at_push os o h.0 x h.1) [
        | inl here ↦ inl (h.0, here)
        | inr last ↦ inr last.1
      ]

  -- a value of a set was there, or was put in
  inserted : (os xs : List X) (x : X) → Stands (insert_all eq os xs) x → Stands os x ⊎ Stands xs x
  inserted os [] x h = inl h
  inserted os (y ∷ xs) x h =
      elim (inserted (insert_key eq os y) xs x h) [
        | inl held ↦ first os y xs x (inserted_by os y x (list_any (eq y) os) held)
        | inr later ↦ inr (suc later.0, later.1)
      ]
    where
      first : (os : List X) (y : X) (xs : List X) (x : X) → Stands os x ⊎ (y ≡ x) → Stands os x ⊎ Stands (y ∷ xs) x
      first os y xs x (inl old) = inl old
      first os y xs x (inr same) = inr (0, ap Some same)

  once_by : (os : List X) (o : X) (b : Bool) → list_any (eq o) os ≡ b → eq o o ≡ true → AreOnce os → AreOnce (if b then os else os ++ o ∷ [])
  once_by os o true is same once = once
  once_by os o false is same once = once_push os o once (lacks_stands eq os o same is)

  -- no value is put in twice
  once_inserted : ((x : X) → eq x x ≡ true) → (os xs : List X) → AreOnce os → AreOnce (insert_all eq os xs)
  once_inserted same os [] once = once
  once_inserted same os (y ∷ xs) once = once_inserted same (insert_key eq os y) xs (once_by os y (list_any (eq y) os) refl (same y) once)

once_none : {X : Type 0} → AreOnce {X = X} []
once_none i j x here there = absurd (let never : None ≡ Some x = here in cc)

-- the origins of a body, each once
pub origins_once : (os : List Origin) → AreOnce (insert_all same_origin [] os)
origins_once os = once_inserted same_origin (λ o. (origin_laws.laws-law).refl o) [] os once_none

pub flat_stands : {X Y : Type 0} (f : X → List Y) (xs : List X) (y : Y) → Stands (flat_map f xs) y → (x : X) × (Stands xs x × Stands (f x) y)
flat_stands f [] y h = absurd (let never : None ≡ Some y = h.1 in cc)
flat_stands f (x ∷ xs) y h =
    elim (stands_split (f x) (flat_map f xs) y h) [
      | inl here ↦ (x, ((0, refl), here))
      | inr later ↦ (let one = flat_stands f xs y later in (one.0, ((suc one.1.0.0, one.1.0.1), one.1.1)))
    ]

module _ (p : Program) (b : BodyId) (rows : List (List Arc)) (nodes : AreNodes rows) where
  born_at : (k i n : ℕ) (row : List Arc) (a : Arc) (x : Birth) → IsAt rows k row → IsAt row i a → IsAt (arc_births p b a) n x → IsBorn p b rows x.0
  born_at k i n row a x at arc birth = (
    a.to,
    (
      x.1,
      born i n (move_of a) (nodes.reached k (at_within rows k row at))
          (subst (λ r. slice_get (map move_of (row_in r)) i ≡ Some (move_of a)) (sym at) (at_map move_of row i a arc)) birth,
    ),
  )

  -- a path reaches the first fact of each birth
  birth_born : (x : Birth) → Stands (births_in p b rows) x → IsBorn p b rows x.0
  birth_born x h =
      elim (stands_split (births_at_entry p b) (flat_map (row_births p b) rows) x h) [
        | inl entry ↦ (0, (x.1, entered entry.0 entry.1))
        | inr later ↦ (
            let one = flat_stands (row_births p b) rows x later in
            let two = flat_stands (arc_births p b) one.0 x one.1.1 in
            born_at one.1.0.0 two.1.0.0 two.1.1.0 one.0 two.0 x one.1.0.1 two.1.0.1 two.1.1.1)
      ]

  -- a pair for each origin
  record Chosen (os : List Origin) : Type 0 where
    pairs : List (Pair ℕ)
    each : (i : ℕ) (x : Pair ℕ) → IsAt pairs i x → IsReachedPair p b (relation_in rows) x × IsAt os i x.origin
    long : length pairs ≡ length os

  chosen : (os : List Origin) → ((n : ℕ) (o : Origin) → IsAt os n o → IsBorn p b rows o) → Chosen os
  chosen [] known = record { pairs = []; each = λ i x here. absurd (let never : None ≡ Some x = here in cc); long = refl }
  chosen (o ∷ os) known =
      let rest = chosen os (λ n y here. known (suc n) y here) in
      let one = known 0 o refl in
      record { pairs = record { control = one.0; origin = o; fact = one.1.0 } ∷ rest.pairs; each = each o os one rest; long = ap suc rest.long }
    where
      each : (o : Origin) (os : List Origin) (one : IsBorn p b rows o) (rest : Chosen os) (i : ℕ) (x : Pair ℕ) → IsAt (record { control = one.0; origin = o; fact = one.1.0 } ∷ rest.pairs) i x
          → IsReachedPair p b (relation_in rows) x × IsAt (o ∷ os) i x.origin
      each o os one rest zero x here =
          let y : Pair ℕ = record { control = one.0; origin = o; fact = one.1.0 } in
          let same : y ≡ x = cc in
          subst (λ (z : Pair ℕ). IsReachedPair p b (relation_in rows) z × IsAt (o ∷ os) 0 z.origin) same (one.1.1, refl)
      each o os one rest (suc i) x here = rest.each i x here

  -- where the origins are too many, so are the pairs
  many_pairs : HasManyOrigins (origins_in (births_in p b rows)) → ReachesMorePairs p b (relation_in rows) most_pairs
  many_pairs many =
      let os = insert_all same_origin [] many.0 in
      let all =
      chosen os (λ n o here.
      let stands : Stands many.0 o = from_none many.0 o (inserted same_origin [] many.0 o (n, here)) in
      let there : Stands (many.0 ++ many.1) o = stands_append many.0 many.1 o stands in
      let birth = map_at (λ (x : Birth). x.0) (births_in p b rows) there.0 o (ap (λ (xs : List Origin). slice_get xs there.0) many.2.0 ∙ there.1) in
      subst (IsBorn p b rows) birth.1.1 (birth_born birth.0 (there.0, birth.1.0))) in
      record {
        pairs = all.pairs;
        reached = λ i x here. (all.each i x here).0;
        once = λ i j x here there. origins_once many.0 i j x.origin (all.each i x here).1 (all.each j x there).1;
        more = subst (λ (n : ℕ). most_pairs < n) (sym all.long) many.2.1;
      }
    where
      from_none : (xs : List Origin) (o : Origin) → Stands [] o ⊎ Stands xs o → Stands xs o
      from_none xs o (inl never) = absurd (let no : None ≡ Some o = never.1 in cc)
      from_none xs o (inr stands) = stands

  -- why the origins are too many
  pub count_cause : (pos : Pos) (stop : Stop) → stop ≡ stops.TooMuch (refusal refused.TooManyFacts pos) → HasManyOrigins (origins_in (births_in p b rows)) → IsPairsCause p b (relation_in rows) pos stop
  count_cause pos stop is many = subst (IsPairsCause p b (relation_in rows) pos) (sym is) (refl, many_pairs many)
