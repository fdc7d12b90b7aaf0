-- What holds of a text of the form, line by line.
use Rattle.std.proofs.Common.{◌≡◌, ◌∙◌, sym, ap, refl, subst, arith, ℕ, ◌+◌, ◌-◌, ◌<◌, ◌≤◌, zero, suc, false, Option, Some, None, List, [], ◌∷◌, ◌++◌, length, drop, take}
use Rattle.std.specs.Prelude.{if◌then◌else◌, option_map, slice_get}
use Rattle.std.specs.List.{cons_option, filter_map}
use Rattle.std.proofs.lemmas.List.{length-take}
use Rattle.std.proofs.lemmas.List.Elements.{filter_map-append}
use Rattle.std.proofs.lemmas.Bool.{lt-ltb}
use Rattle.breadth_first.specs.Searches.{IsAt}
use Rattle.breadth_first.proofs.ListLaws.{at_within}
use Rattle.program_model.specs.declared.kinds.BodyId.{BodyId}
use Rattle.program_model.specs.declared.program.Program.{Program}
use Rattle.program_model.specs.Lookups.{optional}
use Rattle.flow_certs.proofs.ListPlaces.{drop_at, drop_next, take_next}
use Rattle.flow_certs.specs.declared.form.Stage.TheVariants as stages
use Rattle.flow_certs.specs.declared.pair.Pair.{Pair}
use Rattle.flow_certs.specs.Forms.{ArePairLines, after, after_bodies, after_pair, body_count, body_id, is_none, pairs_in, wrong_from}
use Rattle.flow_certs.specs.Lines.{count_in, is_end, pair_in}

-- a chosen part of a list is no longer than the list
filtered_few : {X Y : Type 0} (f : X → Option Y) (xs : List X) → length (filter_map f xs) ≤ length xs
filtered_few f [] = omega arith
filtered_few f (x ∷ xs) = by_one (f x) (filtered_few f xs)
  where
    by_one : (o : Option _) → length (filter_map f xs) ≤ length xs → length (cons_option o (filter_map f xs)) ≤ length (x ∷ xs)
    by_one None few = omega (arith, few)
    by_one (Some y) few = omega (arith, few)

module _ (p : Program) where
  pub some_none : (n : ℕ) → ◌≡◌ {A = Option ℕ} (Some n) None → ⊥
  some_none n h = cc

  pub not_last : (next left number : ℕ) (line : List ℕ) (rest : List (List ℕ)) → wrong_from p (Some (stages.Within next left)) number (line ∷ rest) ≡ None → (is_none rest ≡ false) × (wrong_from p (after p (stages.Within next left) line) (number + 1) rest ≡ None)
  not_last next left number line [] h = absurd (some_none number h)
  not_last next left number line (other ∷ rest) h = (refl, h)

  pub none_wrong : (number : ℕ) (lines : List (List ℕ)) → wrong_from p None number lines ≡ None → ⊥
  none_wrong number lines h = some_none (number - 1) h

  -- the line of a pair
  pair_line : (next left number : ℕ) (line : List ℕ) (rest : List (List ℕ)) → wrong_from p (Some (stages.Within next (suc left))) number (line ∷ rest) ≡ None
      → ((x : Pair) × (pair_in p (body_id (next - 1)) line ≡ Some x)) × (wrong_from p (Some (stages.Within next left)) (number + 1) rest ≡ None)
  pair_line next left number line rest h =
      let positive = lt-ltb 0 (suc left) (omega arith) in
      let one : suc left - 1 ≡ left = omega arith in
      let behind = ap (λ b. wrong_from p (if b then after_pair next (suc left) (pair_in p (body_id (next - 1)) line) else after_bodies p next line) (number + 1) rest) (sym positive) ∙ (not_last next (suc left) number line rest h).1 in
      by_pair (pair_in p (body_id (next - 1)) line) refl one behind
    where
      by_pair : (said : Option Pair) → pair_in p (body_id (next - 1)) line ≡ said → suc left - 1 ≡ left → wrong_from p (after_pair next (suc left) (pair_in p (body_id (next - 1)) line)) (number + 1) rest ≡ None
          → ((x : Pair) × (pair_in p (body_id (next - 1)) line ≡ Some x)) × (wrong_from p (Some (stages.Within next left)) (number + 1) rest ≡ None)
      by_pair None is one h = absurd (none_wrong (number + 1) rest (ap (λ s. wrong_from p (after_pair next (suc left) s) (number + 1) rest) (sym is) ∙ h))
      by_pair (Some x) is one h = (
        (x, is),
        ap (λ n. wrong_from p (Some (stages.Within next n)) (number + 1) rest) (sym one) ∙ ap (λ s. wrong_from p (after_pair next (suc left) s) (number + 1) rest) (sym is) ∙ h,
      )

  -- The lines of the pairs of a body, and what stands behind them.
  pub record HasPairs (next left number : ℕ) (lines : List (List ℕ)) : Type 0 where
    pub enough : left < length lines
    pub pairs : ArePairLines p (body_id (next - 1)) left lines
    pub rest : wrong_from p (Some (stages.Within next 0)) (number + left) (drop left lines) ≡ None

  pub pair_lines : (next left number : ℕ) (lines : List (List ℕ)) → wrong_from p (Some (stages.Within next left)) number lines ≡ None → HasPairs next left number lines
  pair_lines next left number [] h = absurd (some_none number h)
  pair_lines next zero number (line ∷ lines) h = record { enough = omega arith; pairs = tt; rest = subst (λ (n : ℕ). wrong_from p (Some (stages.Within next 0)) n (line ∷ lines) ≡ None) (omega arith) h }
  pair_lines next (suc left) number (line ∷ lines) h =
      let one = pair_line next left number line lines h in
      let more = pair_lines next left (number + 1) lines one.1 in
      record {
        enough = (let enough = more.enough in omega (arith, enough));
        pairs = (one.0, more.pairs);
        rest = subst (λ (n : ℕ). wrong_from p (Some (stages.Within next 0)) n (drop left lines) ≡ None) (omega arith) more.rest;
      }

  -- the line of a body
  pub record HasBody (next number : ℕ) (line : List ℕ) (rest : List (List ℕ)) : Type 0 where
    pub count : ℕ
    pub says : count_in next line ≡ Some count
    pub form : wrong_from p (Some (stages.Within (next + 1) count)) (number + 1) rest ≡ None

  pub body_line : (next number : ℕ) (line : List ℕ) (rest : List (List ℕ)) → next < body_count p → wrong_from p (Some (stages.Within next 0)) number (line ∷ rest) ≡ None → HasBody next number line rest
  body_line next number line rest inside h =
      let behind : wrong_from p (after_bodies p next line) (number + 1) rest ≡ None = (not_last next 0 number line rest h).1 in
      by_count (count_in next line) refl
      (ap (λ b. wrong_from p (if b then option_map (λ count. stages.Within (next + 1) count) (count_in next line) else (if is_end line then Some stages.Ended else None)) (number + 1) rest) (sym (lt-ltb next (body_count p) inside)) ∙ behind)
    where
      by_count : (said : Option ℕ) → count_in next line ≡ said → wrong_from p (option_map (λ count. stages.Within (next + 1) count) (count_in next line)) (number + 1) rest ≡ None → HasBody next number line rest
      by_count None is h = absurd (none_wrong (number + 1) rest (ap (λ s. wrong_from p (option_map (λ count. stages.Within (next + 1) count) s) (number + 1) rest) (sym is) ∙ h))
      by_count (Some count) is h = record { count = count; says = is; form = ap (λ s. wrong_from p (option_map (λ count. stages.Within (next + 1) count) s) (number + 1) rest) (sym is) ∙ h }

  -- ---- loops over the lines of a text

  -- the pair that the line of a place says is that of this place
  pub pair_at : (body : BodyId) (count place : ℕ) (lines : List (List ℕ)) (line : List ℕ) → ArePairLines p body count lines → place < count → IsAt lines place line
      → (x : Pair) × ((pair_in p body line ≡ Some x) × IsAt (pairs_in p body count lines) place x)
  pair_at body zero place lines line h inside here = absurd (omega (arith, inside))
  pair_at body (suc count) place [] line h inside here = absurd h
  pair_at body (suc count) zero (first ∷ lines) line h inside here =
      let same : first ≡ line = cc in
      let said : pair_in p body line ≡ Some h.0.0 = ap (pair_in p body) (sym same) ∙ h.0.1 in
      (h.0.0, (said, ap (λ o. slice_get (cons_option o (pairs_in p body count lines)) 0) h.0.1))
  pair_at body (suc count) (suc place) (first ∷ lines) line h inside here =
      let more = pair_at body count place lines line h.1 (omega (arith, inside)) here in
      (more.0, (more.1.0, ap (λ o. slice_get (cons_option o (pairs_in p body count lines)) (suc place)) h.0.1 ∙ more.1.1))

  -- no pair stands at a place past those of the lines
  pub pairs_few : (body : BodyId) (count place : ℕ) (lines : List (List ℕ)) (x : Pair) → IsAt (pairs_in p body count lines) place x → place < count
  pairs_few body count place lines x here =
      let inside = at_within (pairs_in p body count lines) place x here in
      let few = filtered_few (pair_in p body) (take count lines) in
      let most = length-take count lines in
      omega (arith, inside, few, most)

  -- one line more
  pub pairs_next : (body : BodyId) (place : ℕ) (lines : List (List ℕ)) (line : List ℕ) → IsAt lines place line
      → pairs_in p body (place + 1) lines ≡ pairs_in p body place lines ++ optional (pair_in p body line)
  pairs_next body place lines line here =
      ap (filter_map (pair_in p body)) (take_next lines place line here) ∙ filter_map-append (pair_in p body) (take place lines) (line ∷ [])
      ∙ ap (λ xs. pairs_in p body place lines ++ xs) (one_line (pair_in p body line))
    where
      one_line : (o : Option Pair) → cons_option o [] ≡ optional o
      one_line None = refl
      one_line (Some x) = refl

-- the line that a loop comes to, and what stands behind it
pub loop_line : (lines : List (List ℕ)) (rest : List (List ℕ)) (more : List (List ℕ)) (place : ℕ) (line : List ℕ) → rest ≡ drop place lines → rest ≡ line ∷ more
    → IsAt lines place line × (more ≡ drop (place + 1) lines)
loop_line lines rest more place line is parts =
    let both : line ∷ more ≡ drop place lines = sym parts ∙ is in
    let next : suc place ≡ place + 1 = omega arith in
    (drop_at place lines line more both, drop_next place lines line more both ∙ ap (λ n. drop n lines) next)
