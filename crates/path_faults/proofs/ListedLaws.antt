-- Each origin that a path bears is in the body's list of origins.
use Rattle.std.proofs.Common.{◌≡◌, ◌∙◌, sym, ap, refl, subst, true≢false, ℕ, zero, suc, Bool, true, false, Option, Some, None, List, [], ◌∷◌, ◌++◌, length}
use Rattle.std.specs.Prelude.{◌||◌, if◌then◌else◌, slice_get}
use Rattle.std.specs.List.{flat_map, list_any}
use Rattle.indexmap.specs.IndexSet.{insert_all, insert_key}
use Rattle.program_model.specs.declared.kinds.BodyId.{BodyId}
use Rattle.program_model.specs.declared.program.Program.{Program}
use Rattle.breadth_first.specs.Searches.{IsAt, Stands}
use Rattle.breadth_first.proofs.ListLaws.{at_behind, at_last, map_at, stands_append, stands_map}
use Rattle.java_cfg.specs.declared.arc.Arc.{Arc}
use Rattle.control_actions.specs.declared.fact.Fact.{Fact}
use Rattle.control_actions.specs.declared.fact.Origin.{Origin}
use Rattle.shortest_paths.specs.Births.{Birth, births_at_entry, births_of_step}
use Rattle.shortest_paths.specs.Paths.{Move, Reach, entered, born, flowed}
use Rattle.shortest_paths.specs.Nodes.{arcs_at, move_of, relation_in, row_in}
use Rattle.shortest_paths.specs.Origins.{arc_births, births_in, origins_in, origins_of, row_births, same_origin}
use Rattle.shortest_paths.proofs.FactLaws.{exact_origin}
use Rattle.shortest_paths.proofs.ListPoints.{stands_flat}

module _ {X : Type 0} (test : X → Bool) where
  any_by : (x : X) (xs : List X) (r : Bool) → test x ≡ r → (r || list_any test xs) ≡ true → (list_any test xs ≡ true → (k : ℕ) × ((y : X) × (IsAt xs k y × (test y ≡ true))))
      → (k : ℕ) × ((y : X) × (IsAt (x ∷ xs) k y × (test y ≡ true)))
  any_by x xs true is any rest = (0, (x, (refl, is)))
  any_by x xs false is any rest = let one = rest any in (suc one.0, (one.1.0, one.1.1))

  -- a value that passes stands somewhere
  any_stands : (xs : List X) → list_any test xs ≡ true → (k : ℕ) × ((y : X) × (IsAt xs k y × (test y ≡ true)))
  any_stands [] any = absurd (true≢false (sym any))
  any_stands (x ∷ xs) any = any_by x xs (test x) refl any (λ h. any_stands xs h)

module _ {X : Type 0} (eq : X → X → Bool) (exact : (x y : X) → eq x y ≡ true → x ≡ y) where
  kept_by : (os : List X) (o x : X) (r : Bool) → Stands os x → Stands (if r then os else os ++ o ∷ []) x
  kept_by os o x true h = h
  kept_by os o x false h = stands_append os (o ∷ []) x h

  put_by : (os : List X) (o : X) (r : Bool) → list_any (eq o) os ≡ r → Stands (if r then os else os ++ o ∷ []) o
  put_by os o true any = let one = any_stands (eq o) os any in (one.0, one.1.1.0 ∙ ap Some (sym (exact o one.1.0 one.1.1.1)))
  put_by os o false any = (length os, at_last os o)

  kept_all : (xs os : List X) (x : X) → Stands os x → Stands (insert_all eq os xs) x
  kept_all [] os x h = h
  kept_all (y ∷ xs) os x h = kept_all xs (insert_key eq os y) x (kept_by os y x (list_any (eq y) os) h)

  -- what is put in is there
  put_all : (xs os : List X) (k : ℕ) (x : X) → IsAt xs k x → Stands (insert_all eq os xs) x
  put_all [] os k x here = absurd (let never : None ≡ Some x = here in cc)
  put_all (y ∷ xs) os zero x here =
      let same : y ≡ x = cc in
      kept_all xs (insert_key eq os y) x (subst (λ (z : X). Stands (insert_key eq os y) z) same (put_by os y (list_any (eq y) os) refl))
  put_all (y ∷ xs) os (suc k) x here = put_all xs (insert_key eq os y) k x here

behind : {X : Type 0} (xs ys : List X) (y : X) → Stands ys y → Stands (xs ++ ys) y
behind xs ys y h = at_behind xs ys h.0 y h.1

module _ (p : Program) (b : BodyId) (rows : List (List Arc)) where
  birth_listed : (x : Birth) → Stands (births_in p b rows) x → Stands (origins_of p b rows) x.0
  birth_listed x h =
      let origin = stands_map (λ (y : Birth). y.0) (births_in p b rows) x h in
      put_all same_origin exact_origin (origins_in (births_in p b rows)) [] origin.0 x.0 origin.1

  row_by : (k : ℕ) (r : Option (List Arc)) (i : ℕ) (a : Arc) → slice_get rows k ≡ r → IsAt (row_in r) i a → (row : List Arc) × (IsAt rows k row × IsAt row i a)
  row_by k None i a is here = absurd (let never : None ≡ Some a = here in cc)
  row_by k (Some row) i a is here = (row, (is, here))

  arc_birth : (k i n : ℕ) (a : Arc) (x : Birth) → IsAt (arcs_at rows k) i a → IsAt (arc_births p b a) n x → Stands (births_in p b rows) x
  arc_birth k i n a x arc birth =
      let row = row_by k (slice_get rows k) i a refl arc in
      let inside = stands_flat (arc_births p b) row.0 i a x row.1.1 (n, birth) in
      behind (births_at_entry p b) (flat_map (row_births p b) rows) x (stands_flat (row_births p b) rows k row.0 x row.1.0 inside)

  -- the origin of what a path reaches is in the list
  pub reach_listed : (o : Origin) (k : ℕ) (f : Fact) → Reach p b (relation_in rows) o k f → Stands (origins_of p b rows) o
  reach_listed o _ f (entered n is) = birth_listed (o, f) (stands_append (births_at_entry p b) (flat_map (row_births p b) rows) (o, f) (n, is))
  reach_listed o _ f (born {k} i n t comes at is) =
      let one = map_at move_of (arcs_at rows k) i t at in
      let birth = subst (λ (x : Move ℕ). slice_get (births_of_step p b x.action x.edge x.pos) n ≡ Some (o, f)) (sym one.1.1) is in
      birth_listed (o, f) (arc_birth k i n one.0 (o, f) one.1.0 birth)
  reach_listed o _ g (flowed {k} {f} i t reached at is) = reach_listed o k f reached
