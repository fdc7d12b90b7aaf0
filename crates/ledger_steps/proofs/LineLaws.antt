-- Lines that are put behind others.
use Rattle.std.proofs.Common.{◌≡◌, ◌∙◌, ◌++◌, List, ap, append_assoc, sym}
use Rattle.ledger_state.specs.declared.entry.Entry.{Entry}

-- lines are put behind others one kind after the other
pub in_turn : (xs a b c d : List Entry) → ((xs ++ a) ++ (b ++ c)) ++ d ≡ xs ++ (((a ++ b) ++ c) ++ d)
in_turn xs a b c d =
    ap (λ (zs : List Entry). zs ++ d) (append_assoc xs a (b ++ c) ∙ ap (λ (zs : List Entry). xs ++ zs) (sym (append_assoc a b c)))
    ∙ append_assoc xs ((a ++ b) ++ c) d
