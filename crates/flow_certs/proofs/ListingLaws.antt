-- The pairs of a body, line by line.
use Rattle.std.proofs.Common.{◌≡◌, ◌∙◌, sym, ap, subst, ℕ, ◌+◌, ◌⊎◌, inl, inr, Option, Some, None, List, [], ◌∷◌, ◌++◌, length}
use Rattle.std.specs.Prelude.{◌↔◌}
use Rattle.breadth_first.specs.Searches.{IsAt, Stands}
use Rattle.breadth_first.proofs.ListLaws.{append_none, at_last, at_push, stands_append}
use Rattle.program_model.specs.declared.kinds.BodyId.{BodyId}
use Rattle.program_model.specs.declared.program.Program.{Program}
use Rattle.program_model.specs.Lookups.{optional}
use Rattle.flow_certs.specs.declared.pair.Pair.{Pair}
use Rattle.flow_certs.specs.Forms.{AreSamePairs, IsPut, pairs_in}
use Rattle.flow_certs.specs.Lines.{pair_in}
use Rattle.flow_certs.proofs.FormLaws.{pairs_next}

pushed : (xs : List Pair) (x y : Pair) → Stands (xs ++ x ∷ []) y ↔ (Stands xs y ⊎ (x ≡ y))
pushed xs x y = (
  (λ h. elim (at_push xs x h.0 y h.1) [ inl before ↦ inl (h.0, before) | inr last ↦ inr last.1 ]),
  (λ h. elim h [
    | inl before ↦ stands_append xs (x ∷ []) y before
    | inr last ↦ subst (λ (z : Pair). Stands (xs ++ x ∷ []) z) last (length xs, at_last xs x)
  ]),
)

module _ (p : Program) (b : BodyId) (lines : List (List ℕ)) (place : ℕ) (line : List ℕ) (here : IsAt lines place line) where
  -- a line that says no pair
  none_more : (keys : List Pair) → AreSamePairs keys (pairs_in p b place lines) → pair_in p b line ≡ None → AreSamePairs keys (pairs_in p b (place + 1) lines)
  none_more keys same none =
      let more : pairs_in p b (place + 1) lines ≡ pairs_in p b place lines = pairs_next p b place lines line here ∙ ap (λ o. pairs_in p b place lines ++ optional o) none ∙ sym (append_none (pairs_in p b place lines)) in
      subst (AreSamePairs keys) (sym more) same

  -- a line that says a pair, which is put in
  one_more : (keys after : List Pair) (x : Pair) → AreSamePairs keys (pairs_in p b place lines) → pair_in p b line ≡ Some x
      → ((y : Pair) → Stands after y ↔ (Stands keys y ⊎ (x ≡ y))) → AreSamePairs after (pairs_in p b (place + 1) lines)
  one_more keys after x same said put y =
      let more : pairs_in p b (place + 1) lines ≡ pairs_in p b place lines ++ x ∷ [] = pairs_next p b place lines line here ∙ ap (λ o. pairs_in p b place lines ++ optional o) said in
      let last = pushed (pairs_in p b place lines) x y in
      subst (λ (zs : List Pair). Stands after y ↔ Stands zs y) (sym more) (
        (λ h. last.1 (elim ((put y).0 h) [ inl before ↦ inl ((same y).0 before) | inr new ↦ inr new ])),
        (λ h. (put y).1 (elim (last.0 h) [ inl before ↦ inl ((same y).1 before) | inr new ↦ inr new ])),
      )

  -- a line more
  pub line_more : (keys after : List Pair) (said : Option Pair) → AreSamePairs keys (pairs_in p b place lines) → said ≡ pair_in p b line → IsPut said keys after → AreSamePairs after (pairs_in p b (place + 1) lines)
  line_more keys after None same said put = subst (λ (zs : List Pair). AreSamePairs zs (pairs_in p b (place + 1) lines)) (sym put) (none_more keys same (sym said))
  line_more keys after (Some x) same said put = one_more keys after x same (sym said) put
