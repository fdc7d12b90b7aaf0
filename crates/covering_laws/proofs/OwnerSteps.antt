-- What the owners of objects say of their moves.
use Rattle.std.proofs.Common.{◌≡◌, ℕ, ◌+◌, ◌<◌, ◌≤◌, Bool, true, false, not, ◌&&◌, true≢false, List, Option, Some, refl, sym, ap, ◌∙◌, nat_eq, nat_lt, arith, eq-eqb, eqb-true, lt-ltb, ltb-false, ltb-true, if◌then◌else◌}
use Rattle.std.proofs.lemmas.Bool.{and_parts, not-true}
use Rattle.std.specs.FinSet as set
use Rattle.program_model.specs.declared.kinds.VType.{VType}
use Rattle.program_model.specs.declared.program.Program.{Program}
use Rattle.ledger_obligations.specs.MustCallSets.{must_of, must_of_type}
use Rattle.ledger_state.specs.Contents.{HeapContents}
use Rattle.ledger_state.specs.Heaps.{object_at}
use Rattle.ledger_state.specs.declared.entry.Owner.{Owner}
use Rattle.ledger_state.specs.declared.entry.Owner.TheVariants as owners
use Rattle.ledger_state.specs.declared.object.Object.{Object}
use Rattle.ledger_obligations.specs.Obligations.{given_up, is_frame, is_held_by, is_library_owner, is_unmet, may_move}
use Rattle.value_laws.specs.Configuration.{Frame}
use Rattle.value_laws.specs.PlaceFacts.{is_frame_from, may_owe}
use Rattle.covering_laws.proofs.Owners.{IsNewTo, OwnerGoes, left}

-- a field owns the object
abbrev pub is_field_owner : Owner → Bool
is_field_owner (owners.Field w f) = true
is_field_owner (owners.Frame j) = false
is_field_owner owners.Library = false
is_field_owner owners.Released = false
is_field_owner owners.Lost = false
is_field_owner owners.Unowned = false

-- what the library owns it owns for ever
abbrev pub KeepsLibrary : HeapContents → HeapContents → Type 0
KeepsLibrary h k = (o : ℕ) (x y : Object) → object_at h o ≡ Some x → object_at k o ≡ Some y → x.finished ≡ true → is_library_owner x.owner ≡ true → is_library_owner y.owner ≡ true

-- ---- owners

-- what may move the library does not own
pub movable : (p : Program) (t : VType) (x : Object) → may_move p t x ≡ true → (x.finished ≡ true) × (is_library_owner x.owner ≡ false)
movable p t x may =
    let both = (and_parts (x.finished && not (is_library_owner x.owner)) (set.is_subset (must_of p x.class) (must_of_type p t)) may).0 in
    let parts = and_parts x.finished (not (is_library_owner x.owner)) both in
    (parts.0, not-true (is_library_owner x.owner) parts.1)

-- and may owe a call
pub movable_owes : (p : Program) (t : VType) (x : Object) → may_move p t x ≡ true → may_owe x ≡ true
movable_owes p t x may =
    let parts = movable p t x may in
    ap (λ (b : Bool). not (b && is_library_owner x.owner)) parts.0 ∙ ap not parts.1

pub never_moved : (p : Program) (t : VType) (x : Object) → may_move p t x ≡ true → is_library_owner x.owner ≡ true → ⊥
never_moved p t x may is = true≢false (sym is ∙ (movable p t x may).1)

-- the frame at the position owns what one at this position or above it does
not_below : (j : ℕ) → nat_lt j j ≡ false
not_below j = go (nat_lt j j) refl
  where
    go : (b : Bool) → nat_lt j j ≡ b → b ≡ false
    go true is = absurd (let less = ltb-true j j is in omega (arith, less))
    go false is = refl

pub own_frame : (j : ℕ) (o : Owner) → o ≡ owners.Frame j → is_frame_from j o ≡ true
own_frame j o is = ap (is_frame_from j) is ∙ ap not (not_below j)

pub frame_is : (o : Owner) (j : ℕ) → is_frame o j ≡ true → o ≡ owners.Frame j
frame_is (owners.Frame i) j is = ap owners.Frame (eqb-true i j is)
frame_is (owners.Field w f) j is = absurd (true≢false (sym is))
frame_is owners.Library j is = absurd (true≢false (sym is))
frame_is owners.Released j is = absurd (true≢false (sym is))
frame_is owners.Lost j is = absurd (true≢false (sym is))
frame_is owners.Unowned j is = absurd (true≢false (sym is))

pub held_is : (o : Owner) (w : ℕ) → is_held_by o w ≡ true → is_field_owner o ≡ true
held_is (owners.Field v f) w is = refl
held_is (owners.Frame j) w is = absurd (true≢false (sym is))
held_is owners.Library w is = absurd (true≢false (sym is))
held_is owners.Released w is = absurd (true≢false (sym is))
held_is owners.Lost w is = absurd (true≢false (sym is))
held_is owners.Unowned w is = absurd (true≢false (sym is))

-- no frame owns what is given up
pub given_up_unowned : (x : Object) → is_frame_from 0 (given_up x).owner ≡ false
given_up_unowned x = go (is_unmet x)
  where
    go : (b : Bool) → is_frame_from 0 (if b then owners.Lost else owners.Released) ≡ false
    go true = refl
    go false = refl

-- nor a field
given_up_unheld : (x : Object) (w : ℕ) → is_held_by (given_up x).owner w ≡ false
given_up_unheld x w = go (is_unmet x)
  where
    go : (b : Bool) → is_held_by (if b then owners.Lost else owners.Released) w ≡ false
    go true = refl
    go false = refl

-- what nobody owns
abbrev pub IsFree : Owner → Type 0
IsFree o = (is_frame_from 0 o ≡ false) × ((w : ℕ) → is_held_by o w ≡ false)

pub given_up_free : (x y : Object) → y ≡ given_up x → IsFree y.owner
given_up_free x y is = (ap (λ (z : Object). is_frame_from 0 z.owner) is ∙ given_up_unowned x, λ w. ap (λ (z : Object). is_held_by z.owner w) is ∙ given_up_unheld x w)

-- and a field of an object that is not finished, on which none of the frames below runs
pub gave_up : (h : HeapContents) (into : Option ℕ) (below : List Frame) (j : ℕ) (a b : Owner) → is_field_owner a ≡ true → IsFree b → ((w : ℕ) → is_held_by a w ≡ true → IsNewTo h below w) → OwnerGoes h into below j a b
gave_up h into below j a b field free others = left field free.0 free.1 others

-- ---- frames below a position

-- the frame at the position owns nothing above it
pub below_next : (i : ℕ) → is_frame_from (i + 1) (owners.Frame i) ≡ false
below_next i = ap not (lt-ltb i (i + 1) (omega arith))

pub still_below : (i : ℕ) (o : Owner) → is_frame_from i o ≡ false → is_frame_from (i + 1) o ≡ false
still_below i (owners.Frame n) is = go (nat_lt n i) refl
  where
    go : (b : Bool) → nat_lt n i ≡ b → not (nat_lt n (i + 1)) ≡ false
    go true less = let under = ltb-true n i less in ap not (lt-ltb n (i + 1) (omega (arith, under)))
    go false more = absurd (true≢false (sym (ap not more) ∙ is))
still_below i (owners.Field w f) is = refl
still_below i owners.Library is = refl
still_below i owners.Released is = refl
still_below i owners.Lost is = refl
still_below i owners.Unowned is = refl

-- what no frame owns no frame above a position does
pub free_below : (i : ℕ) (o : Owner) → is_frame_from 0 o ≡ false → is_frame_from i o ≡ false
free_below i (owners.Frame n) is = absurd (true≢false (sym (ap not (go (nat_lt n 0) refl)) ∙ is))
  where
    go : (b : Bool) → nat_lt n 0 ≡ b → nat_lt n 0 ≡ false
    go true less = absurd (let under = ltb-true n 0 less in omega (arith, under))
    go false more = more
free_below i (owners.Field w f) is = refl
free_below i owners.Library is = refl
free_below i owners.Released is = refl
free_below i owners.Lost is = refl
free_below i owners.Unowned is = refl

-- an owner at or below the position is none above it, nor is the frame there, where it is not the one
pub under : (i : ℕ) (o : Owner) → is_frame_from (i + 1) o ≡ false → is_frame o i ≡ false → is_frame_from i o ≡ false
under i (owners.Frame n) below other = go (nat_lt n i) refl
  where
    go : (b : Bool) → nat_lt n i ≡ b → not (nat_lt n i) ≡ false
    go true less = ap not less
    go false more = absurd (true≢false (sym same ∙ other))
      where
        least : i ≤ n
        least = ltb-false n i more

        most : n < i + 1
        most = by (nat_lt n (i + 1)) refl
          where
            by : (b : Bool) → nat_lt n (i + 1) ≡ b → n < i + 1
            by true less = ltb-true n (i + 1) less
            by false no' = absurd (true≢false (sym (ap not no') ∙ below))

        same : nat_eq n i ≡ true
        same = eq-eqb n i (omega (arith, least, most))
under i (owners.Field w f) below other = refl
under i owners.Library below other = refl
under i owners.Released below other = refl
under i owners.Lost below other = refl
under i owners.Unowned below other = refl
