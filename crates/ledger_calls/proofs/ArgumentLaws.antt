-- The arguments of a call, one after the other.
use Rattle.std.proofs.Common.{◌≡◌, ◌∙◌, ap, subst, sym, refl, ℕ, suc, ◌+◌, ◌<◌, ◌≤◌, List, [], ◌∷◌, ◌++◌, drop, get_or, length, map, set, slice_get, true, arith}
use Rattle.std.proofs.Math.ListN.{drop_of_length-le}
use Rattle.std.proofs.Math.Seq.{drop-cons}
use Rattle.std.proofs.lemmas.Option.{slice_get_past, slice_get_read}
use Rattle.std.proofs.lemmas.List.FromFn.{map-range_with_len_more}
use Rattle.std.specs.List.{range_with_len}
use Rattle.program_model.specs.declared.program.ParamSig.{ParamSig}
use Rattle.program_model.specs.declared.program.Program.{Program}
use Rattle.ledger_state.specs.declared.array.ArrayObject.{ArrayObject}
use Rattle.ledger_state.specs.declared.entry.Owner.{Owner}
use Rattle.ledger_state.specs.declared.value.Value.{Value}
use Rattle.ledger_state.specs.Contents.{HeapContents}
use Rattle.ledger_calls.specs.Calls.{move_param, move_params}
use Rattle.ledger_calls.specs.Conducts.{share, share_all, share_value}

-- one argument more
pub one_more : (f : ℕ → Value) (n : ℕ) → map f (range_with_len 1 (n + 1)) ≡ map f (range_with_len 1 n) ++ f (n + 1) ∷ []
one_more f n = map-range_with_len_more f 1 n (n + 1) (omega arith)

-- the last of the values is shared last
pub shared_last : (arrays : List ArrayObject) (vs : List Value) (v : Value) → share_all arrays (vs ++ v ∷ []) ≡ share_value (share_all arrays vs) v
shared_last arrays [] v = refl
shared_last arrays (w ∷ vs) v = shared_last (share_value arrays w) vs v

-- the arrays of one argument more are shared
pub shared_further : (old now new : List ArrayObject) (f : ℕ → Value) (n : ℕ) → now ≡ share_all old (map f (range_with_len 1 n)) → new ≡ share_value now (f (n + 1)) → new ≡ share_all old (map f (range_with_len 1 (n + 1)))
shared_further old now new f n so_far step =
    step ∙ ap (λ z. share_value z (f (n + 1))) so_far ∙ sym (shared_last old (map f (range_with_len 1 n)) (f (n + 1))) ∙ ap (share_all old) (sym (one_more f n))

-- one argument more has moved: the rest does to the heap so far what all do to the first one
pub moved_further : (p : Program) (o : Owner) (f : ℕ → Value) (i : ℕ) (qs : List ParamSig) (q : ParamSig) (h k whole : HeapContents) → i < length qs → q ≡ get_or qs i q → k ≡ move_param p o (f (i + 1)) q h → move_params p o f (i + 1) (drop i qs) h ≡ whole → move_params p o f (i + 1 + 1) (drop (i + 1) qs) k ≡ whole
moved_further p o f i qs q h k whole within read step before =
    let next : suc i ≡ i + 1 = omega arith in
    let split : drop i qs ≡ get_or qs i q ∷ drop (i + 1) qs = subst (λ n. drop i qs ≡ get_or qs i q ∷ drop n qs) next (drop-cons qs i q within) in
    let here : drop i qs ≡ q ∷ drop (i + 1) qs = split ∙ ap (λ z. z ∷ drop (i + 1) qs) (sym read) in
    ap (λ z. move_params p o f (i + 1 + 1) (drop (i + 1) qs) z) step ∙ sym (ap (λ xs. move_params p o f (i + 1) xs h) here) ∙ before

-- none is left
pub moved_all : (p : Program) (o : Owner) (f : ℕ → Value) (k i : ℕ) (qs : List ParamSig) (h : HeapContents) → length qs ≤ i → move_params p o f k (drop i qs) h ≡ h
moved_all p o f k i qs h past = ap (λ xs. move_params p o f k xs h) (drop_of_length-le qs past)

-- an array is shared at its place
pub share_at : (arrays : List ArrayObject) (n : ℕ) (a : ArrayObject) → n < length arrays → a ≡ get_or arrays n a → set arrays n (record a { shared = true }) ≡ share arrays n (slice_get arrays n)
share_at arrays n a within read = sym (ap (share arrays n) (slice_get_read arrays (length arrays) n a refl within read))

-- there is no array of that number
pub share_past : (arrays : List ArrayObject) (n : ℕ) → length arrays ≤ n → arrays ≡ share arrays n (slice_get arrays n)
share_past arrays n past = sym (ap (share arrays n) (slice_get_past arrays n past))
