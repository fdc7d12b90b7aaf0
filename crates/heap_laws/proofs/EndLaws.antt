-- What a frame or an object gives up at its end.
use Rattle.std.proofs.Common.{◌≡◌, inl, inr, ℕ, Bool, true, false, Option, Some, None, option_map, refl, sym, ◌∙◌, subst, if◌then◌else◌}
use Rattle.ledger_state.specs.Contents.{HeapContents}
use Rattle.ledger_state.specs.Heaps.{change_each, next_number, object_at}
use Rattle.ledger_state.specs.declared.object.Object.{Object}
use Rattle.ledger_obligations.specs.Obligations.{end_frame, end_holder, given_up, given_up_by_frame, given_up_by_holder, is_frame, is_held_by}
use Rattle.heap_laws.specs.Heaps.{GoesOn, IsKeptOr}
use Rattle.heap_laws.proofs.ObjectLaws.{changed_at, changed_count, goes_on_self}

pub changed_back : (f : ℕ → Object → Object) (h : HeapContents) (n : ℕ) (y : Object) → object_at (change_each f h) n ≡ Some y → (x : Object) × (object_at h n ≡ Some x) × (f n x ≡ y)
changed_back f h n y at = go (object_at h n) refl (sym (changed_at f h n) ∙ at)
  where
    go : (x : Option Object) → object_at h n ≡ x → option_map (f n) x ≡ Some y → (x : Object) × (object_at h n ≡ Some x) × (f n x ≡ y)
    go None before same = absurd (let never : None ≡ Some y = same in cc)
    go (Some x) before same = (x, before, (let one : f n x ≡ y = cc in one))

pub given_up_goes_on : (x : Object) → GoesOn x (given_up x)
given_up_goes_on x = record { class = refl; link = refl; finished = refl; must = refl; called = (goes_on_self x).called }

kept_or : (test : Bool) (x y : Object) → (if test then given_up x else x) ≡ y → IsKeptOr test x y
kept_or true x y is = inr (refl, sym is)
kept_or false x y is = inl (sym is)

pub kept_goes_on : (test : Bool) (x y : Object) → IsKeptOr test x y → GoesOn x y
kept_goes_on test x y (inl same) = subst (GoesOn x) (sym same) (goes_on_self x)
kept_goes_on test x y (inr given) = subst (GoesOn x) (sym given.1) (given_up_goes_on x)

pub frame_back : (j : ℕ) (h : HeapContents) (n : ℕ) (y : Object) → object_at (end_frame j h) n ≡ Some y → (x : Object) × (object_at h n ≡ Some x) × IsKeptOr (is_frame x.owner j) x y
frame_back j h n y at = let x = changed_back (given_up_by_frame j) h n y at in (x.0, x.1, kept_or (is_frame x.0.owner j) x.0 y x.2)

pub frame_count : (j : ℕ) (h : HeapContents) → next_number (end_frame j h) ≡ next_number h
frame_count j h = changed_count (given_up_by_frame j) h

abbrev pub is_held : Option ℕ → Object → Bool
is_held None x = false
is_held (Some w) x = is_held_by x.owner w

pub holder_back : (w : Option ℕ) (h : HeapContents) (n : ℕ) (y : Object) → object_at (end_holder w h) n ≡ Some y → (x : Object) × (object_at h n ≡ Some x) × IsKeptOr (is_held w x) x y
holder_back None h n y at = (y, at, inl refl)
holder_back (Some w) h n y at = let x = changed_back (given_up_by_holder w) h n y at in (x.0, x.1, kept_or (is_held_by x.0.owner w) x.0 y x.2)

pub holder_count : (w : Option ℕ) (h : HeapContents) → next_number (end_holder w h) ≡ next_number h
holder_count None h = refl
holder_count (Some w) h = changed_count (given_up_by_holder w) h
