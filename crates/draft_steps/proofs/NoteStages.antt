-- What notes change.
use Rattle.std.proofs.Common.{◌≡◌, ◌∙◌, ap, sym, refl, subst, ℕ, true, ◌||◌, nat_eq, Some, ◌≤◌, List, [], ◌∷◌, length, arith}
use Rattle.std.specs.Prelude.{nat_lt, ◌&&◌}
use Rattle.program_model.specs.declared.program.Program.{Program}
use Rattle.ledger_state.specs.Contents.{HeapContents}
use Rattle.ledger_state.specs.Heaps.{has_number, object_at, only_at}
use Rattle.ledger_obligations.specs.declared.note.Note.{Note}
use Rattle.ledger_obligations.specs.Obligations.{noted, noted_object}
use Rattle.spread_notes.specs.declared.numbered.Numbered.{Numbered}
use Rattle.spread_notes.specs.SpreadNotes.{NotedAs, has_object, put_each, put_numbered, rises_beyond}
use Rattle.spread_notes.proofs.PlacedLaws.{each_placed, placed_at, placed_other}
use Rattle.spread_notes.proofs.SpreadLaws.{noted_as}
use Rattle.heap_drafts.specs.Drafts.{ChangesAmong, LinksStay, numbers_rise}
use Rattle.heap_drafts.proofs.PlacedLaws.{length_changed}
use Rattle.heap_drafts.proofs.DraftLaws.{links_each}
use Rattle.draft_steps.specs.Steps.{numbers_in}

pub numbers_has : (bs : List Numbered) (k : ℕ) → has_number (numbers_in bs) k ≡ has_object bs k
numbers_has [] k = refl
numbers_has (b ∷ bs) k = ap (λ t. nat_eq b.number k || t) (numbers_has bs k)

numbers_rising : (j : ℕ) (bs : List Numbered) → numbers_rise j (numbers_in bs) ≡ rises_beyond j bs
numbers_rising j [] = refl
numbers_rising j (b ∷ bs) = ap (λ t. nat_lt j b.number && t) (numbers_rising b.number bs)

put_fields : (bs : List Numbered) (h : HeapContents) → (put_each bs h).fields ≡ h.fields
put_fields [] h = refl
put_fields (b ∷ bs) h = put_fields bs (put_numbered b h)

put_count : (bs : List Numbered) (h : HeapContents) → length (put_each bs h).objects ≡ length h.objects
put_count [] h = refl
put_count (b ∷ bs) h = put_count bs (put_numbered b h) ∙ length_changed (only_at b.number (λ _. b.object)) 1 h.objects

pub notes_rise : (p : Program) (h : HeapContents) (first : List Note) (bs : List Numbered) → NotedAs p h first bs → numbers_rise 0 (numbers_in bs) ≡ true
notes_rise p h first bs as' = numbers_rising 0 bs ∙ as'.rises

pub notes_among : (p : Program) (h : HeapContents) (first : List Note) (bs : List Numbered) → NotedAs p h first bs → ChangesAmong (numbers_in bs) h (put_each bs h)
notes_among p h first bs as' = record {
  others = λ k none. placed_at bs h k ∙ placed_other bs k (object_at h k) (sym (numbers_has bs k) ∙ none);
  fields = put_fields bs h;
  count = put_count bs h;
  links = subst (λ (g : HeapContents). LinksStay h g) (each_placed h h as'.all bs (λ k x found. found) as'.made as'.speak) (links_each (noted_object as'.all) h (λ k x. refl));
}

-- the heap with the objects in their places is that of the notes
pub notes_put : (p : Program) (h : HeapContents) (first : List Note) (bs : List Numbered) → NotedAs p h first bs → noted p first h ≡ put_each bs h
notes_put p h first bs as' = noted_as p h h first bs (λ k x found. found) refl (omega_le h) as'
  where
    omega_le : (i : HeapContents) → length i.objects ≤ length i.objects
    omega_le i = omega arith

pub found_among : (p : Program) (h g : HeapContents) (first : List Note) (bs : List Numbered) (ks numbers : List ℕ) → NotedAs p h first bs → ks ≡ numbers → numbers ≡ numbers_in bs → g ≡ put_each bs h → ChangesAmong ks h g
found_among p h g first bs ks numbers as' is made put =
    subst (λ (i : HeapContents). ChangesAmong ks h i) (sym put)
    (subst (λ (js : List ℕ). ChangesAmong js h (put_each bs h)) (sym (is ∙ made)) (notes_among p h first bs as'))
