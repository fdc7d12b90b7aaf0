-- Lists of objects that grow.
use Rattle.std.proofs.Common.{◌≡◌, ◌∙◌, ap, refl, ℕ, ◌<◌, ◌≤◌, Bool, true, false, ◌&&◌, List, [], ◌∷◌, ◌++◌, arith}
use Rattle.std.proofs.lemmas.Grind.{common_steps}
use Rattle.std.specs.Prelude.{nat_lt}
use Rattle.ledger_state.specs.Contents.{HeapContents}
use Rattle.ledger_state.specs.Heaps.{object_at}
use Rattle.ledger_obligations.specs.declared.note.Note.{Note}
use Rattle.spread_notes.specs.declared.numbered.Numbered.{Numbered}
use Rattle.spread_notes.specs.SpreadNotes.{AllMadeOf, MadeOf, rises_beyond}

and_left : (a b : Bool) → (a && b) ≡ true → a ≡ true
and_left true b e = refl
and_left false b e = e

and_right : (a b : Bool) → (a && b) ≡ true → b ≡ true
and_right true b e = e
and_right false b e = absurd (cc)

first_beyond : (k : ℕ) (b : Numbered) (bs : List Numbered) → rises_beyond k (b ∷ bs) ≡ true → k < b.number
first_beyond k b bs rises =
    let less : nat_lt k b.number ≡ true = and_left (nat_lt k b.number) (rises_beyond b.number bs) rises in
    grind (arith, common_steps, less)

rest_beyond : (k : ℕ) (b : Numbered) (bs : List Numbered) → rises_beyond k (b ∷ bs) ≡ true → rises_beyond b.number bs ≡ true
rest_beyond k b bs rises = and_right (nat_lt k b.number) (rises_beyond b.number bs) rises

-- no number is beyond `last`
abbrev pub AllWithin : ℕ → List Numbered → Type 0
AllWithin last [] = Unit {0}
AllWithin last (b ∷ bs) = (b.number ≤ last) × AllWithin last bs

pub within_more : (last : ℕ) (bs : List Numbered) (c : Numbered) → AllWithin last bs → last < c.number → AllWithin c.number (bs ++ c ∷ [])
within_more last [] c all less = (omega arith, tt)
within_more last (b ∷ bs) c all less = (let w = all.0 in omega (arith, w, less), within_more last bs c all.1 less)

pub rises_more : (k last : ℕ) (bs : List Numbered) (c : Numbered) → k ≤ last → AllWithin last bs → last < c.number → rises_beyond k bs ≡ true → rises_beyond k (bs ++ c ∷ []) ≡ true
rises_more k last [] c below all less rises =
    let is : nat_lt k c.number ≡ true = grind (arith, common_steps, below, less) in
    ap (λ t. t && true) is
rises_more k last (b ∷ bs) c below all less rises =
    let first : k < b.number = first_beyond k b bs rises in
    let is : nat_lt k b.number ≡ true = grind (arith, common_steps, first) in
    ap (λ t. t && rises_beyond b.number (bs ++ c ∷ [])) is
    ∙ rises_more b.number last bs c all.0 all.1 less (rest_beyond k b bs rises)

pub made_more : (h : HeapContents) (ns : List Note) (bs : List Numbered) (c : Numbered) → AllMadeOf h ns bs → MadeOf ns c (object_at h c.number) → AllMadeOf h ns (bs ++ c ∷ [])
made_more h ns [] c all one = (one, tt)
made_more h ns (b ∷ bs) c all one = (all.0, made_more h ns bs c all.1 one)
