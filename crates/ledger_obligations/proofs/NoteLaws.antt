-- Notes that join others.
use Rattle.std.proofs.Common.{◌≡◌, ◌∙◌, ap, sym, refl, ℕ, zero, suc, ◌≤◌, Bool, true, false, List, [], ◌∷◌, ◌++◌, length, arith}
use Rattle.std.proofs.lemmas.Grind.{common_steps}
use Rattle.std.specs.List.{flat_map}
use Rattle.program_model.specs.declared.program.Program.{Program}
use Rattle.ledger_state.specs.Contents.{HeapContents}
use Rattle.ledger_obligations.specs.declared.note.Note.{Note}
use Rattle.ledger_obligations.specs.Obligations.{follows, has_note, joined, spread}

-- notes that join others leave these where they are
pub joined_grows : (ns xs : List Note) → length ns ≤ length (joined ns xs)
joined_grows ns [] = omega arith
joined_grows ns (a ∷ as') = go (has_note ns a) refl (joined_grows ns as') (joined_grows (ns ++ a ∷ []) as')
  where
    go : (b : Bool) → has_note ns a ≡ b → length ns ≤ length (joined ns as') → length (ns ++ a ∷ []) ≤ length (joined (ns ++ a ∷ []) as') → length ns ≤ length (joined ns (a ∷ as'))
    go true e same more = rw e same
    go false e same more = rw e (grind (arith, common_steps, more))

-- where they get no more, they stay
pub joined_stays : (ns xs : List Note) → length (joined ns xs) ≡ length ns → joined ns xs ≡ ns
joined_stays ns [] e = refl
joined_stays ns (a ∷ as') e = go (has_note ns a) refl e (joined_stays ns as') (joined_grows (ns ++ a ∷ []) as')
  where
    go : (b : Bool) → has_note ns a ≡ b → length (joined ns (a ∷ as')) ≡ length ns → (length (joined ns as') ≡ length ns → joined ns as' ≡ ns) → length (ns ++ a ∷ []) ≤ length (joined (ns ++ a ∷ []) as') → joined ns (a ∷ as') ≡ ns
    go true f e same more = rw f (same (grind (arith, common_steps, e, f)))
    go false f e same more = absurd (grind (arith, common_steps, e, f, more))

-- further turns add nothing where one adds nothing
pub spread_stays : (n : ℕ) (p : Program) (h : HeapContents) (ns : List Note) → joined ns (flat_map (follows p h) ns) ≡ ns → spread n p h ns ≡ ns
spread_stays zero p h ns e = refl
spread_stays (suc n) p h ns e = ap (spread n p h) e ∙ spread_stays n p h ns e

-- a turn that adds no note is the last that adds one
pub spread_ends : (n : ℕ) (p : Program) (h : HeapContents) (ns more : List Note) → more ≡ joined ns (flat_map (follows p h) ns) → length more ≡ length ns → more ≡ spread n p h ns
spread_ends n p h ns more made same =
    let stays : joined ns (flat_map (follows p h) ns) ≡ ns = joined_stays ns (flat_map (follows p h) ns) (ap length (sym made) ∙ same) in
    made ∙ stays ∙ sym (spread_stays n p h ns stays)
