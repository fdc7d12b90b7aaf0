-- A change of objects by which nothing is lost leaks nothing.
use Rattle.std.proofs.Common.{◌≡◌, ℕ, suc, ◌+◌, Bool, true, false, not, ◌&&◌, Option, Some, None, List, [], ◌∷◌, ◌++◌, slice_get, refl, ap, ◌∙◌, subst, if◌then◌else◌, arith}
use Rattle.program_model.specs.declared.program.Program.{Program}
use Rattle.program_model.specs.Lookups.{optional}
use Rattle.rlc_base.specs.declared.place.Pos.{Pos}
use Rattle.ledger_obligations.specs.MustCallSets.{is_heavy_class}
use Rattle.ledger_state.specs.Contents.{HeapContents}
use Rattle.ledger_state.specs.Heaps.{change_each, object_at}
use Rattle.ledger_state.specs.declared.entry.Entry.{Entry}
use Rattle.ledger_state.specs.declared.entry.Entry.TheVariants as entries
use Rattle.ledger_state.specs.declared.entry.LeakWord.{LeakWord}
use Rattle.ledger_state.specs.declared.object.Object.{Object}
use Rattle.ledger_obligations.specs.Obligations.{given_up, is_unmet}
use Rattle.ledger_steps.specs.Entries.{heavy_lines, is_lost, leak_entries, leak_in, leak_line, lines_from}
use Rattle.heap_laws.proofs.EndLaws.{changed_back}

if_same : (b : Bool) (es : List Entry) → (if b then es else es) ≡ es
if_same true es = refl
if_same false es = refl

lines_empty : (p : Program) (line : ℕ → Object → List Entry) (j : ℕ) (xs : List Object) → ((i : ℕ) (x : Object) → slice_get xs i ≡ Some x → line (j + i) x ≡ []) → lines_from p line j xs ≡ []
lines_empty p line j [] none = refl
lines_empty p line j (x ∷ xs) none =
    let here : line j x ≡ [] = subst (λ (n : ℕ). line n x ≡ []) (omega arith) (none 0 x refl) in
    let rest : lines_from p line (j + 1) xs ≡ [] = lines_empty p line (j + 1) xs (λ i y at. subst (λ (n : ℕ). line n y ≡ []) (omega arith) (none (suc i) y at)) in
    ap (λ (es : List Entry). heavy_lines p x.class es ++ lines_from p line (j + 1) xs) here ∙ ap (λ (es : List Entry). es ++ lines_from p line (j + 1) xs) (if_same (is_heavy_class p x.class) []) ∙ rest

no_line : (word : LeakWord) (pos : Pos) (k : ℕ) (x y : Object) → (is_lost y.owner ≡ true → is_lost x.owner ≡ true) → optional (leak_line word pos (Some x) k y) ≡ []
no_line word pos k x y kept = go (is_lost y.owner) refl
  where
    go : (b : Bool) → is_lost y.owner ≡ b → optional (if b && not (is_lost x.owner) then Some (entries.Leak k word pos) else None) ≡ []
    go true is = rw (kept is) refl
    go false is = refl

pub changes_leak_nothing : (p : Program) (word : LeakWord) (pos : Pos) (change : ℕ → Object → Object) (h : HeapContents)
    → ((k : ℕ) (x : Object) → object_at h k ≡ Some x → is_lost (change k x).owner ≡ true → is_lost x.owner ≡ true) → leak_entries p word pos h (change_each change h) ≡ []
changes_leak_nothing p word pos change h kept =
    lines_empty p (leak_in word pos h) 1 (change_each change h).objects (λ i y at. line (suc i) y (1 + i) (omega arith) at)
  where
    line : (k : ℕ) (y : Object) (n : ℕ) → k ≡ n → object_at (change_each change h) k ≡ Some y → leak_in word pos h n y ≡ []
    line k y n same at =
        let x = changed_back change h k y at in
        subst (λ (m : ℕ). leak_in word pos h m y ≡ []) same
        (ap (λ (z : Option Object). optional (leak_line word pos z k y)) x.1 ∙ no_line word pos k x.0 y (λ lost. kept k x.0 x.1 (ap (λ (z : Object). is_lost z.owner) x.2 ∙ lost)))

-- what is met and given up is not lost
pub met_is_released : (x : Object) → is_unmet x ≡ false → is_lost (given_up x).owner ≡ false
met_is_released x met = rw met refl
