-- What a frame gives up when it ends.
use Rattle.std.proofs.Common.{◌≡◌, ◌∙◌, ap, sym, refl, ℕ, zero, suc, ◌+◌, Bool, true, false, ◌||◌, nat_eq, Option, Some, None, option_map, List, [], ◌∷◌, arith}
use Rattle.std.proofs.lemmas.Grind.{common_steps}
use Rattle.std.specs.Prelude.{slice_get}
use Rattle.ledger_state.specs.declared.entry.Owner.{Owner}
use Rattle.ledger_state.specs.declared.entry.Owner.TheVariants as owners
use Rattle.ledger_state.specs.declared.object.Object.{Object}
use Rattle.ledger_state.specs.Contents.{HeapContents}
use Rattle.ledger_state.specs.Heaps.{change_each, change_one, changed_from, has_number, object_at, only_at, with_objects}
use Rattle.ledger_obligations.specs.Obligations.{end_frame, given_up, given_up_by_frame, is_frame, is_unmet}
use Rattle.frame_owners.specs.FrameOwners.{Listed, is_listed, list_at, released}

-- Changes of each object

get_changed : (f : ℕ → Object → Object) (j i : ℕ) (xs : List Object) → slice_get (changed_from j f xs) i ≡ option_map (f (j + i)) (slice_get xs i)
get_changed f j i [] = refl
get_changed f j zero (x ∷ xs) = let plus : j ≡ j + 0 = omega arith in ap (λ m. Some (f m x)) plus
get_changed f j (suc i) (x ∷ xs) =
    let n : j + 1 + i ≡ j + suc i = omega arith in
    get_changed f (j + 1) i xs ∙ ap (λ m. option_map (f m) (slice_get xs i)) n

pub object_each : (f : ℕ → Object → Object) (h : HeapContents) (k : ℕ) → object_at (change_each f h) k ≡ option_map (f k) (object_at h k)
object_each f h zero = refl
object_each f h (suc i) =
    let n : 1 + i ≡ suc i = omega arith in
    get_changed f 1 i h.objects ∙ ap (λ m. option_map (f m) (slice_get h.objects i)) n

-- an object that is there was there before
was_there : (f : Object → Object) (o : Option Object) (y : Object) → option_map f o ≡ Some y → (x : Object) × (o ≡ Some x) × (f x ≡ y)
was_there f None y e = absurd (cc)
was_there f (Some x) y e = (x, refl, cc)

pub before_each : (f : ℕ → Object → Object) (h : HeapContents) (k : ℕ) (y : Object) → object_at (change_each f h) k ≡ Some y → (x : Object) × (object_at h k ≡ Some x) × (f k x ≡ y)
before_each f h k y found = was_there (f k) (object_at h k) y (sym (object_each f h k) ∙ found)

-- a second change that includes the first
changed_twice : (f g : ℕ → Object → Object) (j : ℕ) (xs : List Object) → ((i : ℕ) (x : Object) → f i (g i x) ≡ f i x) → changed_from j f (changed_from j g xs) ≡ changed_from j f xs
changed_twice f g j [] same = refl
changed_twice f g j (x ∷ xs) same = λ i. same j x i ∷ changed_twice f g (j + 1) xs same i

changed_none : (f : ℕ → Object → Object) (j : ℕ) (xs : List Object) → ((i : ℕ) (x : Object) → slice_get xs i ≡ Some x → f (j + i) x ≡ x) → changed_from j f xs ≡ xs
changed_none f j [] same = refl
changed_none f j (x ∷ xs) same =
    let plus : j + 0 ≡ j = omega arith in
    let first : f j x ≡ x = ap (λ m. f m x) (sym plus) ∙ same 0 x refl in
    let rest : changed_from (j + 1) f xs ≡ xs = changed_none f (j + 1) xs (λ i y found. let n : j + 1 + i ≡ j + suc i = omega arith in ap (λ m. f m y) n ∙ same (suc i) y found) in
    λ i. first i ∷ rest i

-- What is given up

-- it belongs to no frame
pub given_up_free : (x : Object) (j : ℕ) → is_frame (given_up x).owner j ≡ false
given_up_free x j = go (is_unmet x) refl
  where
    go : (b : Bool) → is_unmet x ≡ b → is_frame (given_up x).owner j ≡ false
    go true e = rw e refl
    go false e = rw e refl

pub left_free : (j k : ℕ) (x : Object) → is_frame (given_up_by_frame j k x).owner j ≡ false
left_free j k x = go (is_frame x.owner j) refl
  where
    go : (b : Bool) → is_frame x.owner j ≡ b → is_frame (given_up_by_frame j k x).owner j ≡ false
    go true e = rw e (given_up_free x j)
    go false e = rw e e

free_stays : (j k : ℕ) (x : Object) → is_frame x.owner j ≡ false → given_up_by_frame j k x ≡ x
free_stays j k x e = rw e refl

given_up_once : (j k m : ℕ) (x : Object) → given_up_by_frame j m (only_at k (given_up_by_frame j k) m x) ≡ given_up_by_frame j m x
given_up_once j k m x = go (nat_eq m k) refl
  where
    go : (b : Bool) → nat_eq m k ≡ b → given_up_by_frame j m (only_at k (given_up_by_frame j k) m x) ≡ given_up_by_frame j m x
    go true e = rw e (free_stays j m (given_up_by_frame j k x) (left_free j k x))
    go false e = rw e refl

end_later : (j k : ℕ) (h : HeapContents) → end_frame j (change_one k (given_up_by_frame j k) h) ≡ end_frame j h
end_later j k h = ap (with_objects h) (changed_twice (given_up_by_frame j) (only_at k (given_up_by_frame j k)) 1 h.objects (given_up_once j k))

end_free : (j : ℕ) (h : HeapContents) → ((k : ℕ) (x : Object) → object_at h k ≡ Some x → is_frame x.owner j ≡ false) → end_frame j h ≡ h
end_free j h free = ap (with_objects h) (changed_none (given_up_by_frame j) 1 h.objects (λ i x found. free_stays j (1 + i) x (free (suc i) x found)))

still_owned : (j k m : ℕ) (ks : List ℕ) (x y : Object) → only_at k (given_up_by_frame j k) m x ≡ y → is_frame y.owner j ≡ true → (is_frame x.owner j ≡ true → (nat_eq k m || has_number ks m) ≡ true) → has_number ks m ≡ true
still_owned j k m ks x y e own listed = go (nat_eq m k) refl
  where
    go : (b : Bool) → nat_eq m k ≡ b → has_number ks m ≡ true
    go true same =
        let is : given_up_by_frame j k x ≡ y = rw same at e in
        let free : is_frame y.owner j ≡ false = ap (λ (z : Object). is_frame z.owner j) (sym is) ∙ left_free j k x in
        absurd (cc (free, own))
    go false same =
        let is : x ≡ y = rw same at e in
        let turned : nat_eq k m ≡ false = grind (arith, common_steps, same) in
        rw turned at (listed (ap (λ (z : Object). is_frame z.owner j) is ∙ own))

-- a frame whose objects are among these gives up those
pub released_ends : (j : ℕ) (ks : List ℕ) (h : HeapContents) → ((k : ℕ) (x : Object) → object_at h k ≡ Some x → is_frame x.owner j ≡ true → has_number ks k ≡ true) → released j ks h ≡ end_frame j h
released_ends j [] h listed =
    sym (end_free j h (λ k x found. go k x found (is_frame x.owner j) refl))
  where
    go : (k : ℕ) (x : Object) → object_at h k ≡ Some x → (b : Bool) → is_frame x.owner j ≡ b → is_frame x.owner j ≡ false
    go k x found true e = absurd (let none = listed k x found e in cc)
    go k x found false e = e
released_ends j (k ∷ ks) h listed =
    released_ends j ks (change_one k (given_up_by_frame j k) h) (λ m y found. next m y (before_each (only_at k (given_up_by_frame j k)) h m y found))
    ∙ end_later j k h
  where
    next : (m : ℕ) (y : Object) → (x : Object) × (object_at h m ≡ Some x) × (only_at k (given_up_by_frame j k) m x ≡ y) → is_frame y.owner j ≡ true → has_number ks m ≡ true
    next m y there own = still_owned j k m ks there.0 y there.2 own (listed m there.0 there.1)

-- the list of the frame has them
pub in_list : (lists : List (List ℕ)) (o : Owner) (j k : ℕ) → is_listed lists o k ≡ true → is_frame o j ≡ true → has_number (list_at lists j) k ≡ true
in_list lists (owners.Frame i) j k listed own = let same : i ≡ j = grind (arith, common_steps, own) in ap (λ m. has_number (list_at lists m) k) (sym same) ∙ listed
in_list lists (owners.Field w f) j k listed own = absurd (cc)
in_list lists owners.Library j k listed own = absurd (cc)
in_list lists owners.Released j k listed own = absurd (cc)
in_list lists owners.Lost j k listed own = absurd (cc)
in_list lists owners.Unowned j k listed own = absurd (cc)

pub list_ends : (lists : List (List ℕ)) (j : ℕ) (h : HeapContents) → Listed lists h → released j (list_at lists j) h ≡ end_frame j h
list_ends lists j h listed = released_ends j (list_at lists j) h (λ k x found own. in_list lists x.owner j k (listed k x found) own)
