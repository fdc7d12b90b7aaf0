-- The end of a step: where each unmet object that a frame owns is tracked, nothing is lost, and the frames, the heap and the lines
-- agree with the facts. And what agrees is safe.
use Rattle.std.proofs.Common.{◌≡◌, ℕ, suc, ◌+◌, Bool, true, false, ◌||◌, Some, None, List, [], ◌∷◌, ◌++◌, length, nat_eq, refl, sym, ap, ◌∙◌, subst, true≢false, if◌then◌else◌}
use Rattle.std.specs.Prelude.{MatchBool}
use Rattle.std.specs.List.{list_any}
use Rattle.program_model.specs.declared.program.Program.{Program}
use Rattle.rlc_base.specs.declared.place.Pos.{Pos}
use Rattle.ledger_state.specs.Contents.{HeapContents}
use Rattle.ledger_state.specs.Heaps.{object_at}
use Rattle.ledger_state.specs.Locals.{held}
use Rattle.ledger_state.specs.declared.entry.Entry.{Entry}
use Rattle.ledger_state.specs.declared.entry.Owner.{Owner}
use Rattle.ledger_state.specs.declared.entry.Owner.TheVariants as owners
use Rattle.ledger_state.specs.declared.object.Object.{Object}
use Rattle.ledger_state.specs.declared.value.Value.{Value}
use Rattle.ledger_steps.specs.Obligations.{held_at, holds, is_unmet, lose, owner_holds}
use Rattle.ledger_moves.specs.Configuration.{Frame, held_by}
use Rattle.ledger_steps.specs.Effects.{left}
use Rattle.ledger_state.specs.Leaks.{is_leak}
use Rattle.agreement.specs.Heaps.{HasEarlierLinks}
use Rattle.agreement.specs.Chains.{HaveEnds}
use Rattle.agreement.specs.Agreement.{Agrees, AllStand, Awaits, HasMadeClasses, IsAwaited, IsStacked, IsTracked, Tracks, TracksAs, is_answering}
use Rattle.agreement.specs.Renewing.{fact_as, is_renewed}
use Rattle.agreement.proofs.LibraryCallLaws.{nothing_is_lost, step_leaks_nothing-lines}
use Rattle.fact_laws.proofs.PlaceLaws.{held_place_counts, some_place_is_held}

-- a frame holds what it tracks
tracks_held : (p : Program) (h : HeapContents) (anew : Bool) (fr : Frame) (o : ℕ) (x : Object) → TracksAs p h anew fr o x → holds h (held fr.locals) o ≡ true
tracks_held p h anew fr o x t =
    let f = t.follows in
    let q = some_place_is_held (fact_as anew t.fact).places f.alone f.some in
    let is = f.places q.0 q.1 q.2 in
    held_place_counts p h fr.method fr.locals q.0 o is.0 is.1

length_held : (frs : List Frame) → length (held_by frs) ≡ length frs
length_held [] = refl
length_held (fr ∷ frs) = ap suc (length_held frs)

at_top : (b : Bool) (xs ys : List Value) → b ≡ true → (if b then xs else ys) ≡ xs
at_top b xs ys is = rw is refl

below_top : (b : Bool) (xs ys : List Value) → b ≡ false → (if b then xs else ys) ≡ ys
below_top b xs ys is = rw is refl

same_position : (frs : List Frame) (j : ℕ) → nat_eq (length (held_by frs) + 1) j ≡ nat_eq (length frs + 1) j
same_position frs j = ap (λ n. nat_eq (n + 1) j) (length_held frs)

top_held : (p : Program) (h : HeapContents) (fr : Frame) (frs : List Frame) (o j : ℕ) → nat_eq (length frs + 1) j ≡ true → holds h (held fr.locals) o ≡ true
    → holds h (held_at (held_by (fr ∷ frs)) j) o ≡ true
top_held p h fr frs o j at is =
    ap (λ (vs : List Value). holds h vs o) (at_top (nat_eq (length (held_by frs) + 1) j) (held fr.locals) (held_at (held_by frs) j) (same_position frs j ∙ at)) ∙ is

rest_held : (p : Program) (h : HeapContents) (fr : Frame) (frs : List Frame) (o j : ℕ) → nat_eq (length frs + 1) j ≡ false → holds h (held_at (held_by frs) j) o ≡ true
    → holds h (held_at (held_by (fr ∷ frs)) j) o ≡ true
rest_held p h fr frs o j at is =
    ap (λ (vs : List Value). holds h vs o) (below_top (nat_eq (length (held_by frs) + 1) j) (held fr.locals) (held_at (held_by frs) j) (same_position frs j ∙ at)) ∙ is

awaited_held : (p : Program) (h : HeapContents) (frs : List Frame) (o : ℕ) (x : Object) (j : ℕ) → IsAwaited p h frs o x j → holds h (held_at (held_by frs) j) o ≡ true
awaited_held p h [] o x j t = absurd t
awaited_held p h (fr ∷ frs) o x j t = go (awaited_held p h frs o x j) (nat_eq (length frs + 1) j) refl t
  where
    go : (IsAwaited p h frs o x j → holds h (held_at (held_by frs) j) o ≡ true) → (b : Bool) → nat_eq (length frs + 1) j ≡ b
        → MatchBool b (Awaits p h fr o x) (IsAwaited p h frs o x j) → holds h (held_at (held_by (fr ∷ frs)) j) o ≡ true
    go further true at w = top_held p h fr frs o j at (tracks_held p h (is_renewed p h fr o) fr o x w.tracks)
    go further false at w = rest_held p h fr frs o j at (further w)

pub tracked_held : (p : Program) (h : HeapContents) (frs : List Frame) (o : ℕ) (x : Object) (j : ℕ) → IsTracked p h frs o x j → holds h (held_at (held_by frs) j) o ≡ true
tracked_held p h [] o x j t = absurd t
tracked_held p h (fr ∷ frs) o x j t = go (nat_eq (length frs + 1) j) refl t
  where
    go : (b : Bool) → nat_eq (length frs + 1) j ≡ b → MatchBool b (Tracks p h fr o x) (IsAwaited p h frs o x j) → holds h (held_at (held_by (fr ∷ frs)) j) o ≡ true
    go true at w = top_held p h fr frs o j at (tracks_held p h false fr o x w)
    go false at w = rest_held p h fr frs o j at (awaited_held p h frs o x j w)

owner_holds_it : (p : Program) (h : HeapContents) (frs : List Frame) (o : ℕ) (x : Object) (w : Owner)
    → ((j : ℕ) → w ≡ owners.Frame j → IsTracked p h frs o x j) → owner_holds h (held_by frs) w o ≡ true
owner_holds_it p h frs o x (owners.Frame j) tracked = tracked_held p h frs o x j (tracked j refl)
owner_holds_it p h frs o x (owners.Field w f) tracked = refl
owner_holds_it p h frs o x owners.Library tracked = refl
owner_holds_it p h frs o x owners.Released tracked = refl
owner_holds_it p h frs o x owners.Lost tracked = refl
owner_holds_it p h frs o x owners.Unowned tracked = refl

pub no_leak_in_both : (xs ys : List Entry) → list_any is_leak xs ≡ false → list_any is_leak ys ≡ false → list_any is_leak (xs ++ ys) ≡ false
no_leak_in_both [] ys a b = b
no_leak_in_both (x ∷ xs) ys a b = go (is_leak x) a (no_leak_in_both xs ys)
  where
    go : (c : Bool) → (c || list_any is_leak xs) ≡ false → (list_any is_leak xs ≡ false → list_any is_leak ys ≡ false → list_any is_leak (xs ++ ys) ≡ false) → (c || list_any is_leak (xs ++ ys)) ≡ false
    go true bad rest = absurd (true≢false bad)
    go false good rest = rest good b

-- a step that ends with this heap
pub landed : (p : Program) (frs : List Frame) (k : HeapContents) (es : List Entry) (pos : Pos) (lines : List Entry) → AllStand p frs → IsStacked p k frs → HasEarlierLinks k → HaveEnds k → HasMadeClasses p k
    → ((o : ℕ) (x : Object) (j : ℕ) → object_at k o ≡ Some x → is_unmet x ≡ true → x.owner ≡ owners.Frame j → IsTracked p k frs o x j)
    → ((o : ℕ) (x : Object) → object_at k o ≡ Some x → x.link ≡ None → is_unmet x ≡ true → is_answering x.owner ≡ true)
    → list_any is_leak es ≡ false → list_any is_leak lines ≡ false
    → Agrees p frs (left p pos (held_by frs) lines [] k).heap (es ++ (left p pos (held_by frs) lines [] k).lines)
landed p frs k es pos lines standing stacked links ends classes tracked answered old new =
    let same : lose (held_by frs) k ≡ k = nothing_is_lost (held_by frs) k (λ o x at unmet. owner_holds_it p k frs o x x.owner (λ j is. tracked o x j at unmet is)) in
    subst (λ (h : HeapContents). Agrees p frs h (es ++ (left p pos (held_by frs) lines [] k).lines)) (sym same) (record {
      standing = standing;
      stacked = stacked;
      links = links;
      ends = ends;
      tracked = tracked;
      answered = answered;
      no_leak = no_leak_in_both es (left p pos (held_by frs) lines [] k).lines old (step_leaks_nothing-lines p pos (held_by frs) lines k same new);
      classes = classes;
    })
