-- What the frames of a run hold, the top one first, and what is left to lose.
use Rattle.std.proofs.Common.{◌≡◌, ◌∙◌, ap, sym, subst, ℕ, Bool, ◌&&◌, refl, false, true, List, [], ◌∷◌, ◌++◌, map, reverse}
use Rattle.std.proofs.lemmas.List.{reverse-append}
use Rattle.ledger_state.specs.declared.locals.Locals.{Locals}
use Rattle.ledger_state.specs.declared.value.Value.{Value}
use Rattle.ledger_state.specs.Contents.{HeapContents}
use Rattle.ledger_state.specs.Locals.{held}
use Rattle.ledger_obligations.specs.declared.active_frame.ActiveFrame.{ActiveFrame}
use Rattle.ledger_obligations.specs.Obligations.{held_in}
use Rattle.object_index.specs.declared.index.ObjectIndex.{ObjectIndex}
use Rattle.object_index.specs.ObjectIndexes.{Indexed}
use Rattle.settled_heaps.specs.Settled.{Settled}
use Rattle.machine_state.specs.declared.run_state.RunState.{RunState}
use Rattle.object_index.specs.FrameOwners.{Listed, lists_in}
use Rattle.machine_state.specs.RunStates.{HasNothingToLose, NothingToLose, config_of}

pub top_held : (xs ys : List ActiveFrame) (y : ActiveFrame) → xs ≡ ys ++ y ∷ [] → map held_in (reverse xs) ≡ held_in y ∷ map held_in (reverse ys)
top_held xs ys y e = ap (λ zs. map held_in (reverse zs)) e ∙ ap (map held_in) (reverse-append ys (y ∷ []))

-- the top frame stands apart
pub settled_apart : (m : RunState) (top : ActiveFrame) (below : List ActiveFrame) → m.frames.items ≡ below ++ top ∷ [] → HasNothingToLose m → m.settled ≡ true → Settled m.heap (held top.locals ∷ map held_in (reverse below))
settled_apart m top below split nothing so = subst (λ (held_all : List (List Value)). Settled m.heap held_all) (top_held m.frames.items below top split) (nothing so).0.0

-- so does the frame below it
pub nothing_apart_two : (m : RunState) (top caller : ActiveFrame) (others below : List ActiveFrame) → m.frames.items ≡ others ++ top ∷ [] → others ≡ below ++ caller ∷ [] → HasNothingToLose m → m.settled ≡ true → NothingToLose m.heap (held top.locals ∷ held caller.locals ∷ map held_in (reverse below)) (lists_in m.owned.items)
nothing_apart_two m top caller others below split under nothing so =
    (subst (λ (held_all : List (List Value)). Settled m.heap held_all) (top_held m.frames.items others top split ∙ ap (λ xs. held top.locals ∷ xs) (top_held others below caller under)) (nothing so).0.0, (nothing so).0.1)

pub settled_of : (m : RunState) (frames : List ActiveFrame) → frames ≡ m.frames.items → HasNothingToLose m → m.settled ≡ true → Settled m.heap (map held_in (reverse frames))
settled_of m frames same nothing so = subst (λ (frs : List ActiveFrame). Settled m.heap (map held_in (reverse frs))) (sym same) (nothing so).0.0

-- the same heap
pub settled_as : (g h : HeapContents) (held_all : List (List Value)) → g ≡ h → Settled h held_all → Settled g held_all
settled_as g h held_all heap settled = subst (λ (x : HeapContents). Settled x held_all) (sym heap) settled

-- the lists are those of the heap
pub listed_as : (g h : HeapContents) (lists : List (List ℕ)) → g ≡ h → Listed lists h → Listed lists g
listed_as g h lists heap listed = subst (λ (x : HeapContents). Listed lists x) (sym heap) listed

-- so is the index
pub indexed_as : (g h : HeapContents) (index : ObjectIndex) → g ≡ h → Indexed index h → Indexed index g
indexed_as g h index heap indexed = subst (λ (x : HeapContents). Indexed index x) (sym heap) indexed

-- the top frame stands with the others
pub settled_with : (g h : HeapContents) (frames below : List ActiveFrame) (y : ActiveFrame) (l : Locals) → g ≡ h → frames ≡ below ++ y ∷ [] → y.locals ≡ l → Settled h (held l ∷ map held_in (reverse below)) → Settled g (map held_in (reverse frames))
settled_with g h frames below y l heap split locals settled =
    let all : held l ∷ map held_in (reverse below) ≡ map held_in (reverse frames) =
    ap (λ z. held z ∷ map held_in (reverse below)) (sym locals) ∙ sym (top_held frames below y split) in
    subst (λ (k : HeapContents). Settled k (map held_in (reverse frames))) (sym heap) (subst (λ (held_all : List (List Value)). Settled h held_all) all settled)

-- all are known
pub nothing_after : (a b c : Bool) (h : HeapContents) (held_all : List (List Value)) (lists : List (List ℕ)) (index : ObjectIndex) → (a ≡ true → Settled h held_all) → (b ≡ true → Listed lists h) → (c ≡ true → Indexed index h) → (a && (b && c)) ≡ true → NothingToLose h held_all lists × Indexed index h
nothing_after true true true h held_all lists index settled listed indexed so = ((settled refl, listed refl), indexed refl)
nothing_after true true false h held_all lists index settled listed indexed so = absurd (cc)
nothing_after true false c h held_all lists index settled listed indexed so = absurd (cc)
nothing_after false b c h held_all lists index settled listed indexed so = absurd (cc)

pub both_known : (a b : Bool) → (a && b) ≡ true → (a ≡ true) × (b ≡ true)
both_known true b e = (refl, e)
both_known false b e = absurd (cc)

-- a run of which the heap is the same
pub heap_kept : (m : RunState) (g : HeapContents) → g ≡ m.heap → record (config_of m) { heap = g } ≡ config_of m
heap_kept m g same = ap (λ (h : HeapContents). record (config_of m) { heap = h }) same

-- nothing is left to lose of a run whose frames and heap are the same
pub nothing_again : (m : RunState) (g : HeapContents) (frames : List ActiveFrame) → g ≡ m.heap → frames ≡ m.frames.items → HasNothingToLose m → m.settled ≡ true → NothingToLose g (map held_in (reverse frames)) (lists_in m.owned.items) × Indexed m.index g
nothing_again m g frames heap same nothing so =
    ((settled_as g m.heap (map held_in (reverse frames)) heap (settled_of m frames same nothing so), listed_as g m.heap (lists_in m.owned.items) heap (nothing so).0.1), indexed_as g m.heap m.index heap (nothing so).1)
