-- Objects over a store into an owning field.
use Rattle.std.proofs.Common.{◌≡◌, ◌⊎◌, inl, inr, ℕ, Bool, true, false, not, ◌&&◌, Option, Some, None, [], option_map, nat_eq, refl, sym, ap, ◌∙◌, subst, true≢false, if◌then◌else◌, eq-eqb, eqb-true}
use Rattle.std.proofs.lemmas.Bool.{and_from, and_parts, not-true}
use Rattle.program_model.specs.declared.kinds.FieldId.{FieldId}
use Rattle.program_model.specs.declared.program.Program.{Program}
use Rattle.program_model.specs.Lookups.{field_at}
use Rattle.rlc_base.specs.declared.place.Pos.{Pos}
use Rattle.ledger_state.specs.Contents.{HeapContents}
use Rattle.ledger_state.specs.Fields.{field_of, field_value}
use Rattle.ledger_state.specs.Heaps.{change_each, change_some, next_number, object_at, only_at, put_field, root_of, same_root}
use Rattle.ledger_state.specs.declared.entry.LeakWord.{LeakWord}
use Rattle.ledger_state.specs.declared.entry.Owner.{Owner}
use Rattle.ledger_state.specs.declared.entry.Owner.TheVariants as owners
use Rattle.ledger_state.specs.declared.object.Link.{Link}
use Rattle.ledger_state.specs.declared.object.Object.{Object}
use Rattle.ledger_state.specs.declared.value.Value.{Value}
use Rattle.ledger_state.specs.declared.value.Value.TheVariants as values
use Rattle.ledger_steps.specs.Entries.{is_lost, leak_entries}
use Rattle.ledger_obligations.specs.Obligations.{displaced, displaces, finished_in, given_up, holder_roots, is_field, is_unmet, is_unmet_root, may_move, may_move_in, may_move_root, moved_in, moved_where, moves_in, owner_in, owner_of_root, released_where, reset_in, reset_roots, resets_holder, roots_where, stored_owning, type_of_field, with_owner}
use Rattle.heap_laws.specs.Heaps.{GoesOn, HasEarlierLinks}
use Rattle.heap_laws.proofs.EndLaws.{changed_back, given_up_goes_on}
use Rattle.heap_laws.proofs.LineLaws.{leaks_unchanged}
use Rattle.heap_laws.proofs.ObjectLaws.{changed_at, changed_count, goes_on_self, unchanged}
use Rattle.heap_laws.proofs.HeapLaws.{links_go_on, roots_go_on-root}
use Rattle.heap_laws.specs.Stores.{IsDisplaced, IsMovedIn, IsStored}
use Rattle.heap_laws.proofs.Fields.{same_field}
use Rattle.heap_laws.proofs.Leaks.{changes_leak_nothing, met_is_released}

no_and : (a : Bool) → (a && false) ≡ false
no_and true = refl
no_and false = refl

-- ---- one object

either_at : (k n : ℕ) (change : Object → Object) (x y : Object) → only_at k change n x ≡ y → (y ≡ x) ⊎ ((Some k ≡ Some n) × (y ≡ change x))
either_at k n change x y is = go (nat_eq n k) refl is
  where
    go : (b : Bool) → nat_eq n k ≡ b → (if b then change x else x) ≡ y → (y ≡ x) ⊎ ((Some k ≡ Some n) × (y ≡ change x))
    go true same is' = inr (ap Some (sym (eqb-true n k same)), sym is')
    go false other is' = inl (sym is')

some_back : (r : Option ℕ) (change : Object → Object) (h : HeapContents) (n : ℕ) (y : Object) → object_at (change_some r change h) n ≡ Some y
    → (x : Object) × (object_at h n ≡ Some x) × ((y ≡ x) ⊎ ((r ≡ Some n) × (y ≡ change x)))
some_back None change h n y at = (y, at, inl refl)
some_back (Some k) change h n y at = let x = changed_back (only_at k change) h n y at in (x.0, x.1, either_at k n change x.0 y x.2)

-- the object with this number is there
abbrev pub IsThere : HeapContents → ℕ → Type 0
IsThere h n = (x : Object) × (object_at h n ≡ Some x)

each_there : (change : ℕ → Object → Object) (h : HeapContents) (n : ℕ) → IsThere h n → IsThere (change_each change h) n
each_there change h n x = (change n x.0, changed_at change h n ∙ ap (option_map (change n)) x.1)

some_there : (r : Option ℕ) (change : Object → Object) (h : HeapContents) (n : ℕ) → IsThere h n → IsThere (change_some r change h) n
some_there None change h n x = x
some_there (Some k) change h n x = each_there (only_at k change) h n x

some_count : (r : Option ℕ) (change : Object → Object) (h : HeapContents) → next_number (change_some r change h) ≡ next_number h
some_count None change h = refl
some_count (Some k) change h = changed_count (only_at k change) h

field_owner : (o : Owner) (w : ℕ) (f : FieldId) → is_field o w f ≡ true → o ≡ owners.Field w f
field_owner (owners.Field v g) w f is =
    let parts = and_parts (nat_eq v w) (nat_eq g.0 f.0) is in
    ap (λ (k : ℕ). owners.Field k g) (eqb-true v w parts.0) ∙ ap (owners.Field w) (same_field g f 0 (eqb-true g.0 f.0 parts.1))
field_owner (owners.Frame j) w f is = absurd (true≢false (sym is))
field_owner owners.Library w f is = absurd (true≢false (sym is))
field_owner owners.Released w f is = absurd (true≢false (sym is))
field_owner owners.Lost w f is = absurd (true≢false (sym is))
field_owner owners.Unowned w f is = absurd (true≢false (sym is))

pub stored_goes_on : (p : Program) (h : HeapContents) (w : ℕ) (f : FieldId) (v : Value) (n : ℕ) (x y : Object) → IsStored p h w f v n x y → GoesOn x y
stored_goes_on p h w f v n x y (inl same) = subst (GoesOn x) (sym same) (goes_on_self x)
stored_goes_on p h w f v n x y (inr (inl gone)) = subst (GoesOn x) (sym gone.1) (given_up_goes_on x)
stored_goes_on p h w f v n x y (inr (inr moved)) =
    subst (GoesOn x) (sym moved.1) (record { class = refl; link = refl; finished = refl; must = refl; called = (goes_on_self x).called })

module _ (p : Program) (h : HeapContents) (w : ℕ) (f : FieldId) (v : Value) where
  abbrev old : Value
  old = field_of p h (values.Object w) f

  -- ---- the old content

  same_value : (n : ℕ) → root_of h old ≡ Some n → root_of h v ≡ Some n → same_root (root_of h old) (root_of h v) ≡ true
  same_value n one other = ap (λ (r : Option ℕ). same_root r (root_of h v)) one ∙ ap (same_root (Some n)) other ∙ eq-eqb n n refl

  gone : (n : ℕ) (x : Object) → object_at h n ≡ Some x → displaces h w f old v ≡ true → root_of h old ≡ Some n → IsDisplaced p h w f v n x
  gone n x at is root =
      let parts = and_parts (is_field (owner_of_root h (root_of h old)) w f) (not (same_root (root_of h old) (root_of h v))) is in
      record {
        owner = field_owner x.owner w f (sym (ap (λ (r : Option ℕ). is_field (owner_of_root h r) w f) root ∙ ap (λ (z : Option Object). is_field (owner_in z) w f) at) ∙ parts.0);
        held = root;
        other = λ same. true≢false (sym (same_value n root same) ∙ not-true (same_root (root_of h old) (root_of h v)) parts.1);
      }

  pub displaced_back : (n : ℕ) (y : Object) → object_at (displaced p h w f v) n ≡ Some y
      → (x : Object) × (object_at h n ≡ Some x) × ((y ≡ x) ⊎ (IsDisplaced p h w f v n x × (y ≡ given_up x)))
  displaced_back n y at = go (displaces h w f old v) refl at
    where
      go : (b : Bool) → displaces h w f old v ≡ b → object_at (released_where b (root_of h old) h) n ≡ Some y
          → (x : Object) × (object_at h n ≡ Some x) × ((y ≡ x) ⊎ (IsDisplaced p h w f v n x × (y ≡ given_up x)))
      go false is at' = (y, at', inl refl)
      go true is at' =
          let x = some_back (root_of h old) given_up h n y at' in
          (x.0, x.1, elim x.2 [ inl same ↦ inl same | inr given ↦ inr (gone n x.0 x.1 is given.0, given.1) ])

  -- what is displaced is given up
  displaces_it : (n : ℕ) (x : Object) → object_at h n ≡ Some x → IsDisplaced p h w f v n x → displaces h w f old v ≡ true
  displaces_it n x at is = and_from (is_field (owner_of_root h (root_of h old)) w f) (not (same_root (root_of h old) (root_of h v))) owned other
    where
      itself : is_field (owners.Field w f) w f ≡ true
      itself = rw (eq-eqb w w refl, eq-eqb f.0 f.0 refl) refl

      owned : is_field (owner_of_root h (root_of h old)) w f ≡ true
      owned = ap (λ (r : Option ℕ). is_field (owner_of_root h r) w f) is.held ∙ ap (λ (z : Option Object). is_field (owner_in z) w f) at ∙ ap (λ (o : Owner). is_field o w f) is.owner ∙ itself

      apart : (r : Option ℕ) → (r ≡ Some n → ⊥) → not (same_root (Some n) r) ≡ true
      apart None none = refl
      apart (Some k) none = go (nat_eq n k) refl
        where
          go : (b : Bool) → nat_eq n k ≡ b → not b ≡ true
          go true same = absurd (none (ap Some (sym (eqb-true n k same))))
          go false out = refl

      other : not (same_root (root_of h old) (root_of h v)) ≡ true
      other = ap (λ (r : Option ℕ). not (same_root r (root_of h v))) is.held ∙ apart (root_of h v) is.other

  displaced_gives : (n : ℕ) (x z : Object) → object_at h n ≡ Some x → IsDisplaced p h w f v n x → object_at (displaced p h w f v) n ≡ Some z → z ≡ given_up x
  displaced_gives n x z at is now = let both : Some (given_up x) ≡ Some z = sym given ∙ now in sym (let one : given_up x ≡ z = cc in one)
    where
      only_it : (y : Object) → only_at n given_up n y ≡ given_up y
      only_it y = ap (λ (b : Bool). (let u : Object = if b then given_up y else y in u)) (eq-eqb n n refl)

      given : object_at (displaced p h w f v) n ≡ Some (given_up x)
      given =
          ap (λ (b : Bool). object_at (released_where b (root_of h old) h) n) (displaces_it n x at is)
          ∙ ap (λ (r : Option ℕ). object_at (change_some r given_up h) n) is.held
          ∙ changed_at (only_at n given_up) h n ∙ ap (option_map (only_at n given_up n)) at ∙ ap Some (only_it x)

  displaced_count : next_number (displaced p h w f v) ≡ next_number h
  displaced_count = go (displaces h w f old v)
    where
      go : (b : Bool) → next_number (released_where b (root_of h old) h) ≡ next_number h
      go true = some_count (root_of h old) given_up h
      go false = refl

  displaced_there : (n : ℕ) → IsThere h n → IsThere (displaced p h w f v) n
  displaced_there n x = go (displaces h w f old v)
    where
      go : (b : Bool) → IsThere (released_where b (root_of h old) h) n
      go true = some_there (root_of h old) given_up h n x
      go false = x

  pub displaced_leaks : (word : LeakWord) (pos : Pos) → ((n : ℕ) (x : Object) → object_at h n ≡ Some x → IsDisplaced p h w f v n x → is_unmet x ≡ false)
      → leak_entries p word pos h (displaced p h w f v) ≡ []
  displaced_leaks word pos met = go (displaces h w f old v) refl (root_of h old) refl
    where
      lost : (n k : ℕ) (x : Object) → displaces h w f old v ≡ true → root_of h old ≡ Some n → object_at h k ≡ Some x → (b : Bool) → nat_eq k n ≡ b
          → is_lost (let y : Object = if b then given_up x else x in y).owner ≡ true → is_lost x.owner ≡ true
      lost n k x is root at true same lost' =
          absurd (true≢false (sym lost' ∙ met_is_released x (met n x (subst (λ (m : ℕ). object_at h m ≡ Some x) (eqb-true k n same) at)
          (gone n x (subst (λ (m : ℕ). object_at h m ≡ Some x) (eqb-true k n same) at) is root))))
      lost n k x is root at false other lost' = lost'

      go : (b : Bool) → displaces h w f old v ≡ b → (r : Option ℕ) → root_of h old ≡ r → leak_entries p word pos h (released_where b r h) ≡ []
      go false is r root = leaks_unchanged p word pos h
      go true is None root = leaks_unchanged p word pos h
      go true is (Some n) root = changes_leak_nothing p word pos (only_at n given_up) h (λ k x at. lost n k x is root at (nat_eq k n) refl)

  module _ (bound : Bool) where
    -- ---- the value

    may : (n : ℕ) (x : Object) → object_at h n ≡ Some x → moves_in p h f bound v ≡ true → root_of h v ≡ Some n → IsMovedIn p h f v n x
    may n x at is root =
        let parts = and_parts (not bound) (may_move_root p h (type_of_field (field_at p f)) (root_of h v)) is in
        record {
          root = root;
          may = sym (ap (may_move_root p h (type_of_field (field_at p f))) root ∙ ap (may_move_in p (type_of_field (field_at p f))) at) ∙ parts.1;
        }

    abbrev pub IsBefore : ℕ → Object → Type 0
    IsBefore n y = (x : Object) × (object_at h n ≡ Some x) × IsStored p h w f v n x y

    after_displaced : (n : ℕ) (x y z : Object) → object_at h n ≡ Some x → (z ≡ x) ⊎ (IsDisplaced p h w f v n x × (z ≡ given_up x))
        → moves_in p h f bound v ≡ true → (y ≡ z) ⊎ ((root_of h v ≡ Some n) × (y ≡ with_owner (owners.Field w f) z)) → IsStored p h w f v n x y
    after_displaced n x y z at (inl same) moves (inl still) = inl (still ∙ same)
    after_displaced n x y z at (inl same) moves (inr moved) = inr (inr (may n x at moves moved.0, moved.1 ∙ ap (with_owner (owners.Field w f)) same))
    after_displaced n x y z at (inr gave) moves (inl still) = inr (inl (gave.0, still ∙ gave.1))
    after_displaced n x y z at (inr gave) moves (inr moved) = absurd (gave.0.other moved.0)

    pub moved_back : (n : ℕ) (y : Object) → object_at (moved_in p h w f bound v) n ≡ Some y → IsBefore n y
    moved_back n y at = go (moves_in p h f bound v) refl at
      where
        go : (b : Bool) → moves_in p h f bound v ≡ b → object_at (moved_where b (root_of h v) (owners.Field w f) (displaced p h w f v)) n ≡ Some y → IsBefore n y
        go false is at' = let x = displaced_back n y at' in (x.0, x.1, elim x.2 [ inl same ↦ inl same | inr gave ↦ inr (inl gave) ])
        go true is at' =
            let z = some_back (root_of h v) (with_owner (owners.Field w f)) (displaced p h w f v) n y at' in
            let x = displaced_back n z.0 z.1 in
            (x.0, x.1, after_displaced n x.0 y z.0 x.1 x.2 is z.2)

    pub moved_gives : (n : ℕ) (x y : Object) → object_at h n ≡ Some x → IsDisplaced p h w f v n x → object_at (moved_in p h w f bound v) n ≡ Some y → y ≡ given_up x
    moved_gives n x y before gone' at = go (moves_in p h f bound v) refl at
      where
        go : (b : Bool) → moves_in p h f bound v ≡ b → object_at (moved_where b (root_of h v) (owners.Field w f) (displaced p h w f v)) n ≡ Some y → y ≡ given_up x
        go false is at' = displaced_gives n x y before gone' at'
        go true is at' =
            let z = some_back (root_of h v) (with_owner (owners.Field w f)) (displaced p h w f v) n y at' in
            elim z.2 [ inl same ↦ same ∙ displaced_gives n x z.0 before gone' z.1 | inr moved ↦ absurd (gone'.other moved.0) ]

    pub moved_count : next_number (moved_in p h w f bound v) ≡ next_number h
    moved_count = go (moves_in p h f bound v)
      where
        go : (b : Bool) → next_number (moved_where b (root_of h v) (owners.Field w f) (displaced p h w f v)) ≡ next_number h
        go true = some_count (root_of h v) (with_owner (owners.Field w f)) (displaced p h w f v) ∙ displaced_count
        go false = displaced_count

    pub moved_there : (n : ℕ) → IsThere h n → IsThere (moved_in p h w f bound v) n
    moved_there n x = go (moves_in p h f bound v)
      where
        go : (b : Bool) → IsThere (moved_where b (root_of h v) (owners.Field w f) (displaced p h w f v)) n
        go true = some_there (root_of h v) (with_owner (owners.Field w f)) (displaced p h w f v) n (displaced_there n x)
        go false = displaced_there n x

    -- ---- the holder

    abbrev k : HeapContents
    k = moved_in p h w f bound v

    pub no_reset : resets_holder p h w f bound old v ≡ false → reset_roots p (holder_roots p h w f bound v) k ≡ k
    no_reset still = ap (λ (b : Bool). reset_roots p (roots_where b k w) k) still ∙ unchanged (reset_in p k []) k (λ n x at. refl)

    pub stored_back : (n : ℕ) (y : Object) → resets_holder p h w f bound old v ≡ false → object_at (stored_owning p h w f bound v) n ≡ Some y → IsBefore n y
    stored_back n y still at = moved_back n y (subst (λ (j : HeapContents). object_at j n ≡ Some y) (no_reset still) at)

    -- what the field gives up is given up
    pub stored_gives_up : (n : ℕ) (x y : Object) → resets_holder p h w f bound old v ≡ false → object_at h n ≡ Some x → IsDisplaced p h w f v n x → object_at (stored_owning p h w f bound v) n ≡ Some y → y ≡ given_up x
    stored_gives_up n x y still before gone' at = moved_gives n x y before gone' (subst (λ (j : HeapContents). object_at j n ≡ Some y) (no_reset still) at)

    pub stored_forward : (n : ℕ) (x : Object) → resets_holder p h w f bound old v ≡ false → object_at h n ≡ Some x
        → (y : Object) × (object_at (stored_owning p h w f bound v) n ≡ Some y) × IsStored p h w f v n x y
    stored_forward n x still at =
        let y = each_there (reset_in p k (holder_roots p h w f bound v)) k n (moved_there n (x, at)) in
        let z = stored_back n y.0 still y.1 in
        (y.0, y.1, subst (λ (u : Object). IsStored p h w f v n u y.0) (let same : z.0 ≡ x = (let both : Some z.0 ≡ Some x = sym z.1 ∙ at in cc) in same) z.2)

    pub stored_count : next_number (stored_owning p h w f bound v) ≡ next_number h
    stored_count = changed_count (reset_in p k (holder_roots p h w f bound v)) k ∙ moved_count

    pub unfinished_stays : (old' : Value) → finished_in (object_at h w) ≡ false → resets_holder p h w f bound old' v ≡ false
    unfinished_stays old' none = ap (λ (b : Bool). (moves_in p h f bound v && is_unmet_root h (root_of h v) && not (same_root (root_of h old') (root_of h v))) && b) none
        ∙ no_and (moves_in p h f bound v && is_unmet_root h (root_of h v) && not (same_root (root_of h old') (root_of h v)))

    pub met_stays : (old' : Value) → is_unmet_root h (root_of h v) ≡ false → resets_holder p h w f bound old' v ≡ false
    met_stays old' none =
        ap (λ (b : Bool). (moves_in p h f bound v && b) && not (same_root (root_of h old') (root_of h v)) && finished_in (object_at h w)) none
        ∙ ap (λ (b : Bool). b && not (same_root (root_of h old') (root_of h v)) && finished_in (object_at h w)) (no_and (moves_in p h f bound v))

    pub still_stays : (old' : Value) → may_move_root p h (type_of_field (field_at p f)) (root_of h v) ≡ false → resets_holder p h w f bound old' v ≡ false
    still_stays old' none =
        ap (λ (b : Bool). (not bound && b) && is_unmet_root h (root_of h v) && not (same_root (root_of h old') (root_of h v)) && finished_in (object_at h w)) none
        ∙ ap (λ (b : Bool). b && is_unmet_root h (root_of h v) && not (same_root (root_of h old') (root_of h v)) && finished_in (object_at h w)) (no_and (not bound))

-- what is bound moves nowhere
pub bound_back : (p : Program) (h : HeapContents) (w : ℕ) (f : FieldId) (v : Value) (n : ℕ) (y : Object) → object_at (stored_owning p h w f true v) n ≡ Some y
    → (x : Object) × (object_at h n ≡ Some x) × ((y ≡ x) ⊎ (IsDisplaced p h w f v n x × (y ≡ given_up x)))
bound_back p h w f v n y at = displaced_back p h w f v n y (subst (λ (j : HeapContents). object_at j n ≡ Some y) (no_reset p h w f v true refl) at)

-- the value that may move does
pub moved_takes : (p : Program) (h : HeapContents) (w : ℕ) (f : FieldId) (v : Value) (n : ℕ) (x y : Object)
    → root_of h v ≡ Some n → object_at h n ≡ Some x → may_move p (type_of_field (field_at p f)) x ≡ true → object_at (moved_in p h w f false v) n ≡ Some y → y.owner ≡ owners.Field w f
moved_takes p h w f v n x y root at may now = by_root (root_of h v) root moved
  where
    moves : moves_in p h f false v ≡ true
    moves = ap (may_move_root p h (type_of_field (field_at p f))) root ∙ ap (may_move_in p (type_of_field (field_at p f))) at ∙ may

    moved : object_at (change_some (root_of h v) (with_owner (owners.Field w f)) (displaced p h w f v)) n ≡ Some y
    moved = subst (λ (b : Bool). object_at (moved_where b (root_of h v) (owners.Field w f) (displaced p h w f v)) n ≡ Some y) moves now

    here : (z : Object) → only_at n (with_owner (owners.Field w f)) n z ≡ y → y.owner ≡ owners.Field w f
    here z is = let one : with_owner (owners.Field w f) z ≡ y = sym (ap (λ (b : Bool). (let u : Object = if b then with_owner (owners.Field w f) z else z in u)) (eq-eqb n n refl)) ∙ is in sym (ap (λ (u : Object). u.owner) one)

    by_root : (r : Option ℕ) → r ≡ Some n → object_at (change_some r (with_owner (owners.Field w f)) (displaced p h w f v)) n ≡ Some y → y.owner ≡ owners.Field w f
    by_root None same now' = absurd (let never : None ≡ Some n = same in cc)
    by_root (Some m) same now' =
        let one : m ≡ n = cc in
        let z = changed_back (only_at m (with_owner (owners.Field w f))) (displaced p h w f v) n y now' in
        here z.0 (subst (λ (j : ℕ). only_at j (with_owner (owners.Field w f)) n z.0 ≡ y) one z.2)

pub stored_takes : (p : Program) (h : HeapContents) (w : ℕ) (f : FieldId) (v : Value) (n : ℕ) (x y : Object) → resets_holder p h w f false (field_of p h (values.Object w) f) v ≡ false
    → root_of h v ≡ Some n → object_at h n ≡ Some x → may_move p (type_of_field (field_at p f)) x ≡ true → object_at (stored_owning p h w f false v) n ≡ Some y → y.owner ≡ owners.Field w f
stored_takes p h w f v n x y still root at may now = moved_takes p h w f v n x y root at may (subst (λ (j : HeapContents). object_at j n ≡ Some y) (no_reset p h w f v false still) now)

-- ---- links

-- what moves or is given up is a root, which is not linked
module _ (p : Program) (h : HeapContents) (w : ℕ) (f : FieldId) (bound : Bool) (v : Value) (links : HasEarlierLinks h) where
  not_a_root : (n : ℕ) (x : Object) (l : Link) (u : Value) → object_at h n ≡ Some x → x.link ≡ Some l → root_of h u ≡ Some n → ⊥
  not_a_root n x l u at link root = let never : None ≡ Some l = sym (roots_go_on-root h u n x links root at) ∙ link in cc

  linked_owner : (n : ℕ) (x y : Object) (l : Link) → object_at h n ≡ Some x → x.link ≡ Some l → IsStored p h w f v n x y → y.owner ≡ x.owner
  linked_owner n x y l at link (inl same) = ap (λ (z : Object). z.owner) same
  linked_owner n x y l at link (inr (inl gone')) = absurd (not_a_root n x l (field_value p h w f) at link gone'.0.held)
  linked_owner n x y l at link (inr (inr moved)) = absurd (not_a_root n x l v at link moved.0.root)

  -- so it is without the reset
  pub moved_links : HasEarlierLinks (put_field w f v (moved_in p h w f bound v))
  moved_links = links_go_on h (put_field w f v (moved_in p h w f bound v)) links (λ n y l at link. (let x = moved_back p h w f v bound n y at in
      let goes = stored_goes_on p h w f v n x.0 y x.2 in
      let was : x.0.link ≡ Some l = sym goes.link ∙ link in
      (x.0, x.1, was, linked_owner n x.0 y l x.1 was x.2, goes.finished)))

pub stored_links : (p : Program) (h : HeapContents) (w : ℕ) (f : FieldId) (bound : Bool) (v : Value) → HasEarlierLinks h → resets_holder p h w f bound (field_of p h (values.Object w) f) v ≡ false
    → HasEarlierLinks (stored_owning p h w f bound v)
stored_links p h w f bound v links still = links_go_on h (stored_owning p h w f bound v) links (λ n y l at link. (let x = stored_back p h w f v bound n y still at in
    let goes = stored_goes_on p h w f v n x.0 y x.2 in
    let was : x.0.link ≡ Some l = sym goes.link ∙ link in
    (x.0, x.1, was, linked_owner p h w f bound v links n x.0 y l x.1 was x.2, goes.finished)))
