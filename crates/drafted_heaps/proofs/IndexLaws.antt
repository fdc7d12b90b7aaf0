-- The index of a heap in which objects are put.
use Rattle.std.proofs.Common.{◌≡◌, refl, Some, List, [], ◌∷◌, ◌++◌, true}
use Rattle.ledger_state.specs.declared.object.Object.{Object}
use Rattle.ledger_state.specs.Contents.{HeapContents}
use Rattle.ledger_state.specs.Heaps.{next_number}
use Rattle.object_index.specs.declared.index.ObjectIndex.{ObjectIndex}
use Rattle.object_index.specs.ObjectIndexes.{HasMore, Indexed, is_indexed}
use Rattle.object_index.proofs.IndexLaws.{all_indexed, indexed_made, indexed_put}
use Rattle.spread_notes.specs.declared.numbered.Numbered.{Numbered}
use Rattle.spread_notes.specs.SpreadNotes.{add_made, put_each, put_numbered}

-- one more object is put
pub each_more : (bs : List Numbered) (b : Numbered) (h : HeapContents) → put_each (bs ++ b ∷ []) h ≡ put_numbered b (put_each bs h)
each_more [] b h = refl
each_more (c ∷ bs) b h = each_more bs b (put_numbered c h)

-- the index has the object as it is put
pub index_put : (index more : ObjectIndex) (b : Numbered) (g : HeapContents) → HasMore index more → is_indexed more b.number b.object ≡ true → Indexed index g → Indexed more (put_numbered b g)
index_put index more b g all own indexed = indexed_put more g b.number b.object own (all_indexed index more g all indexed)

-- the index has the object that is made
pub index_made : (index more : ObjectIndex) (x : Object) (g : HeapContents) → HasMore index more → is_indexed more (next_number g) x ≡ true → Indexed index g → Indexed more (add_made (Some x) g)
index_made index more x g all own indexed = indexed_made more g x own (all_indexed index more g all indexed)
