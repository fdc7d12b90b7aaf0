-- How what is spared, and where ways up end, goes on over a step: where fields own no more than they did, where one object more is owned by a field, and where some are given up.
use Rattle.std.proofs.Common.{◌≡◌, ◌⊎◌, inl, inr, ℕ, Some, sym, subst}
use Rattle.program_model.specs.declared.kinds.FieldId.{FieldId}
use Rattle.ledger_state.specs.Contents.{HeapContents}
use Rattle.ledger_state.specs.Heaps.{object_at}
use Rattle.ledger_state.specs.declared.entry.Owner.TheVariants as owners
use Rattle.ledger_state.specs.declared.object.Object.{Object}
use Rattle.heap_laws.specs.Holders.{HasTop, IsWithin, by_field, itself}
use Rattle.heap_laws.proofs.WaysUp.{top_is_last}

-- ---- which objects are on one way

-- Each field owns what it owned, but those of object `n`.
abbrev pub FieldsGiveUpOf : ℕ → HeapContents → HeapContents → Type 0
FieldsGiveUpOf n h k = (o : ℕ) (x : Object) (w : ℕ) (f : FieldId) → object_at h o ≡ Some x → x.owner ≡ owners.Field w f → ((y : Object) × (object_at k o ≡ Some y) × (y.owner ≡ owners.Field w f)) ⊎ (w ≡ n)

-- where no field owned that one, each way up to another object stays
pub within_stays_but : (h k : HeapContents) (n a b : ℕ) → FieldsGiveUpOf n h k → HasTop h n n → (b ≡ n → ⊥) → IsWithin h a b → IsWithin k a b
within_stays_but h k n _ _ gives top other (itself o) = itself o
within_stays_but h k n _ _ gives top other (by_field o v b f x at owned rest) = go (gives o x v f at owned) (within_stays_but h k n v b gives top other rest)
  where
    go : ((y : Object) × (object_at k o ≡ Some y) × (y.owner ≡ owners.Field v f)) ⊎ (v ≡ n) → IsWithin k v b → IsWithin k o b
    go (inl stays) on = by_field o v b f stays.0 stays.1 stays.2 on
    go (inr gone) on = absurd (other (sym (top_is_last h n b top.object top.at top.unheld (subst (λ (m : ℕ). IsWithin h m b) gone rest))))

-- ---- ends
