-- The lists of the frames' objects when objects are put in their places.
use Rattle.std.proofs.Common.{◌≡◌, refl, ℕ, true, Option, Some, None, List, [], ◌∷◌, ◌++◌}
use Rattle.frame_owners.specs.FrameOwners.{HasAll, Listed, is_listed}
use Rattle.frame_owners.proofs.ListLaws.{listed_more}
use Rattle.frame_owners.proofs.OwnerLaws.{listed_made, listed_put}
use Rattle.ledger_state.specs.declared.object.Object.{Object}
use Rattle.ledger_state.specs.Contents.{HeapContents}
use Rattle.ledger_state.specs.Heaps.{next_number}
use Rattle.spread_notes.specs.declared.numbered.Numbered.{Numbered}
use Rattle.spread_notes.specs.SpreadNotes.{add_made, put_each, put_numbered}
use Rattle.drafted_heaps.specs.DraftedHeaps.{AllListed}

-- more in the lists
pub listed_again : (lists more : List (List ℕ)) (bs : List Numbered) → HasAll lists more → AllListed lists bs → AllListed more bs
listed_again lists more [] all listed = tt
listed_again lists more (b ∷ bs) all listed = (listed_more lists more b.object.owner b.number all listed.0, listed_again lists more bs all listed.1)

-- one object more
pub listed_also : (lists : List (List ℕ)) (bs : List Numbered) (c : Numbered) → AllListed lists bs → is_listed lists c.object.owner c.number ≡ true → AllListed lists (bs ++ c ∷ [])
listed_also lists [] c listed own = (own, tt)
listed_also lists (b ∷ bs) c listed own = (listed.0, listed_also lists bs c listed.1 own)

-- the objects are put in their places
pub listed_each : (lists : List (List ℕ)) (h : HeapContents) (bs : List Numbered) → AllListed lists bs → Listed lists h → Listed lists (put_each bs h)
listed_each lists h [] all listed = listed
listed_each lists h (b ∷ bs) all listed = listed_each lists (put_numbered b h) bs all.1 (listed_put lists h b.number b.object all.0 listed)

-- so are they with an object more
listed_with : (lists : List (List ℕ)) (h : HeapContents) (made : Option Object) → ((x : Object) → made ≡ Some x → is_listed lists x.owner (next_number h) ≡ true) → Listed lists h → Listed lists (add_made made h)
listed_with lists h None own listed = listed
listed_with lists h (Some z) own listed = listed_made lists h z (own z refl) listed

pub listed_draft : (lists : List (List ℕ)) (h : HeapContents) (bs : List Numbered) (made : Option Object) → AllListed lists bs → ((x : Object) → made ≡ Some x → is_listed lists x.owner (next_number h) ≡ true) → Listed lists h → Listed lists (put_each bs (add_made made h))
listed_draft lists h bs made all own listed = listed_each lists (add_made made h) bs all (listed_with lists h made own listed)
