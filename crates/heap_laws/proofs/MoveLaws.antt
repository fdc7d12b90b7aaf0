-- Arguments that move at the start of a call.
use Rattle.std.proofs.Common.{◌≡◌, ◌⊎◌, inl, inr, ℕ, zero, suc, ◌+◌, Bool, true, false, Option, Some, None, List, [], ◌∷◌, slice_get, option_map, nat_eq, refl, sym, ap, ◌∙◌, subst, if◌then◌else◌, arith, eq-eqb, eqb-true, add-one}
use Rattle.program_model.specs.declared.kinds.VType.{VType}
use Rattle.program_model.specs.declared.program.ParamSig.{ParamSig}
use Rattle.program_model.specs.declared.program.Program.{Program}
use Rattle.ledger_state.specs.Contents.{HeapContents}
use Rattle.ledger_state.specs.Heaps.{change_some, next_number, object_at, only_at, root_of}
use Rattle.ledger_state.specs.declared.entry.Owner.{Owner}
use Rattle.ledger_state.specs.declared.object.Object.{Object}
use Rattle.ledger_state.specs.declared.value.Value.{Value}
use Rattle.ledger_obligations.specs.Obligations.{may_move, move, moved_to, with_owner}
use Rattle.ledger_steps.specs.LedgerCallsCalls.{move_param, move_params}
use Rattle.heap_laws.specs.Heaps.{Evolves, GoesOn, IsGiven, IsMovedFrom, IsOlder}
use Rattle.heap_laws.proofs.ObjectLaws.{changed_at, changed_count, evolves_further, evolves_self, goes_on_further, goes_on_self, root_of_value_changed}

-- the object as it is after a move
abbrev pub IsMoved : Object → Object → Owner → Type 0
IsMoved x y o = GoesOn x y × ((y.owner ≡ x.owner) ⊎ (y.owner ≡ o))

owner_changes : (o : Owner) (x : Object) → IsMoved x (with_owner o x) o
owner_changes o x = (record { class = refl; link = refl; finished = refl; must = refl; called = (goes_on_self x).called }, inr refl)

moved_once : (p : Program) (t : VType) (o : Owner) (x : Object) → IsMoved x (moved_to p t o x) o
moved_once p t o x = go (may_move p t x)
  where
    go : (b : Bool) → IsMoved x (if b then with_owner o x else x) o
    go true = owner_changes o x
    go false = (goes_on_self x, inl refl)

moved_at_number : (p : Program) (t : VType) (o : Owner) (r n : ℕ) (x : Object) → IsMoved x (only_at r (moved_to p t o) n x) o
moved_at_number p t o r n x = go (nat_eq n r)
  where
    go : (b : Bool) → IsMoved x (if b then moved_to p t o x else x) o
    go true = moved_once p t o x
    go false = (goes_on_self x, inl refl)

-- ---- one move

module _ (p : Program) (t : VType) (o : Owner) where
  some_forward : (r : Option ℕ) (h : HeapContents) (n : ℕ) (x : Object) → object_at h n ≡ Some x → (y : Object) × (object_at (change_some r (moved_to p t o) h) n ≡ Some y) × IsMoved x y o
  some_forward None h n x at = (x, at, (goes_on_self x, inl refl))
  some_forward (Some r) h n x at =
      (only_at r (moved_to p t o) n x, changed_at (only_at r (moved_to p t o)) h n ∙ ap (option_map (only_at r (moved_to p t o) n)) at, moved_at_number p t o r n x)

  some_back : (r : Option ℕ) (h : HeapContents) (n : ℕ) (y : Object) → object_at (change_some r (moved_to p t o) h) n ≡ Some y → (x : Object) × (object_at h n ≡ Some x) × IsMoved x y o
  some_back None h n y at = (y, at, (goes_on_self y, inl refl))
  some_back (Some r) h n y at = go (object_at h n) refl (sym (changed_at (only_at r (moved_to p t o)) h n) ∙ at)
    where
      go : (x : Option Object) → object_at h n ≡ x → option_map (only_at r (moved_to p t o) n) x ≡ Some y → (x : Object) × (object_at h n ≡ Some x) × IsMoved x y o
      go None before same = absurd (let never : None ≡ Some y = same in cc)
      go (Some x) before same =
          (x, before, subst (λ (z : Object). IsMoved x z o) (let one : only_at r (moved_to p t o) n x ≡ y = cc in one) (moved_at_number p t o r n x))

  some_count : (r : Option ℕ) (h : HeapContents) → next_number (change_some r (moved_to p t o) h) ≡ next_number h
  some_count None h = refl
  some_count (Some r) h = changed_count (only_at r (moved_to p t o)) h

  keeps_link : (r n : ℕ) (x : Object) → (only_at r (moved_to p t o) n x).link ≡ x.link
  keeps_link r n x = (moved_at_number p t o r n x).0.link

  some_root : (r : Option ℕ) (h : HeapContents) (v : Value) → root_of (change_some r (moved_to p t o) h) v ≡ root_of h v
  some_root None h v = refl
  some_root (Some r) h v = root_of_value_changed (only_at r (moved_to p t o)) h v (keeps_link r)

-- ---- one argument

module _ (p : Program) (o : Owner) (v : Value) (q : ParamSig) (h : HeapContents) where
  one_forward : (n : ℕ) (x : Object) → object_at h n ≡ Some x → (y : Object) × (object_at (move_param p o v q h) n ≡ Some y) × IsMoved x y o
  one_forward n x at = go q.owning
    where
      go : (b : Bool) → (y : Object) × (object_at (if b then move p q.vtype o v h else h) n ≡ Some y) × IsMoved x y o
      go true = some_forward p q.vtype o (root_of h v) h n x at
      go false = (x, at, (goes_on_self x, inl refl))

  one_back : (n : ℕ) (y : Object) → object_at (move_param p o v q h) n ≡ Some y → (x : Object) × (object_at h n ≡ Some x) × IsMoved x y o
  one_back n y at = go q.owning at
    where
      go : (b : Bool) → object_at (if b then move p q.vtype o v h else h) n ≡ Some y → (x : Object) × (object_at h n ≡ Some x) × IsMoved x y o
      go true at' = some_back p q.vtype o (root_of h v) h n y at'
      go false at' = (y, at', (goes_on_self y, inl refl))

  one_count : next_number (move_param p o v q h) ≡ next_number h
  one_count = go q.owning
    where
      go : (b : Bool) → next_number (if b then move p q.vtype o v h else h) ≡ next_number h
      go true = some_count p q.vtype o (root_of h v) h
      go false = refl

  one_root : (w : Value) → root_of (move_param p o v q h) w ≡ root_of h w
  one_root w = go q.owning
    where
      go : (b : Bool) → root_of (if b then move p q.vtype o v h else h) w ≡ root_of h w
      go true = some_root p q.vtype o (root_of h v) h w
      go false = refl

-- ---- all arguments

pub params_older : (p : Program) (o : Owner) (arguments : ℕ → Value) (k : ℕ) (params : List ParamSig) (h : HeapContents) (n : ℕ) (y : Object)
    → object_at (move_params p o arguments k params h) n ≡ Some y → IsOlder h n y o
params_older p o arguments k [] h n y at = record { before = y; at = at; goes_on = goes_on_self y; owner = inl refl }
params_older p o arguments k (q ∷ qs) h n y at =
    let later = params_older p o arguments (k + 1) qs (move_param p o (arguments k) q h) n y at in
    let first = one_back p o (arguments k) q h n later.before later.at in
    record {
      before = first.0;
      at = first.1;
      goes_on = goes_on_further first.0 later.before y first.2.0 later.goes_on;
      owner = elim later.owner [
        | inl same ↦ elim first.2.1 [ inl kept ↦ inl (same ∙ kept) | inr given ↦ inr (same ∙ given) ]
        | inr given ↦ inr given
      ];
    }

pub params_evolve : (p : Program) (o : Owner) (arguments : ℕ → Value) (k : ℕ) (params : List ParamSig) (h : HeapContents) → Evolves h (move_params p o arguments k params h)
params_evolve p o arguments k [] h = evolves_self h
params_evolve p o arguments k (q ∷ qs) h =
    evolves_further h (move_param p o (arguments k) q h) (move_params p o arguments (k + 1) qs (move_param p o (arguments k) q h))
    (λ n x at. let y = one_forward p o (arguments k) q h n x at in (y.0, y.1, y.2.0))
    (params_evolve p o arguments (k + 1) qs (move_param p o (arguments k) q h))

pub params_count : (p : Program) (o : Owner) (arguments : ℕ → Value) (k : ℕ) (params : List ParamSig) (h : HeapContents) → next_number (move_params p o arguments k params h) ≡ next_number h
params_count p o arguments k [] h = refl
params_count p o arguments k (q ∷ qs) h = params_count p o arguments (k + 1) qs (move_param p o (arguments k) q h) ∙ one_count p o (arguments k) q h

-- what the new owner has stays with it
stays_owned : (p : Program) (o : Owner) (arguments : ℕ → Value) (k : ℕ) (params : List ParamSig) (h : HeapContents) (n : ℕ) (x : Object) → object_at h n ≡ Some x → x.owner ≡ o
    → (y : Object) × (object_at (move_params p o arguments k params h) n ≡ Some y) × (y.owner ≡ o)
stays_owned p o arguments k params h n x at owner =
    let y = params_evolve p o arguments k params h n x at in
    let old = params_older p o arguments k params h n y.0 y.1 in
    let same : old.before ≡ x = (let both : Some old.before ≡ Some x = sym old.at ∙ at in cc) in
    (y.0, y.1, elim old.owner [ inl kept ↦ kept ∙ ap (λ (z : Object). z.owner) same ∙ owner | inr given ↦ given ])

-- the argument itself
taken : (p : Program) (o : Owner) (v : Value) (q : ParamSig) (h : HeapContents) (n : ℕ) (x : Object) → q.owning ≡ true → root_of h v ≡ Some n → object_at h n ≡ Some x → may_move p q.vtype x ≡ true
    → object_at (move_param p o v q h) n ≡ Some (with_owner o x)
taken p o v q h n x owning root at may =
    rw (owning, root) (changed_at (only_at n (moved_to p q.vtype o)) h n ∙ ap (option_map (only_at n (moved_to p q.vtype o) n)) at ∙ rw (eq-eqb n n refl, may) refl)

no_element : (i : ℕ) (q : ParamSig) → slice_get [] i ≡ Some q → ⊥
no_element zero q is = let never : None ≡ Some q = is in cc
no_element (suc i) q is = let never : None ≡ Some q = is in cc

pub params_given : (p : Program) (o : Owner) (arguments : ℕ → Value) (k i : ℕ) (params : List ParamSig) (q : ParamSig) (h : HeapContents) (n : ℕ) (x : Object)
    → slice_get params i ≡ Some q → q.owning ≡ true → root_of h (arguments (k + i)) ≡ Some n → object_at h n ≡ Some x → may_move p q.vtype x ≡ true
    → (y : Object) × (object_at (move_params p o arguments k params h) n ≡ Some y) × (y.owner ≡ o)
params_given p o arguments k i [] q h n x there owning root at may = absurd (no_element i q there)
params_given p o arguments k zero (r ∷ qs) q h n x there owning root at may =
    let same : r ≡ q = (let both : Some r ≡ Some q = there in cc) in
    let value : root_of h (arguments k) ≡ Some n = subst (λ (j : ℕ). root_of h (arguments j) ≡ Some n) (omega arith) root in
    stays_owned p o arguments (k + 1) qs (move_param p o (arguments k) r h) n (with_owner o x)
    (taken p o (arguments k) r h n x (ap (λ (z : ParamSig). z.owning) same ∙ owning) value at (ap (λ (z : ParamSig). may_move p z.vtype x) same ∙ may)) refl
params_given p o arguments k (suc i) (r ∷ qs) q h n x there owning root at may =
    let y = one_forward p o (arguments k) r h n x at in
    let value : root_of (move_param p o (arguments k) r h) (arguments (k + 1 + i)) ≡ Some n =
    one_root p o (arguments k) r h (arguments (k + 1 + i)) ∙ subst (λ (j : ℕ). root_of h (arguments j) ≡ Some n) (omega arith) root in
    go y (params_given p o arguments (k + 1) i qs q (move_param p o (arguments k) r h) n) value
  where
    movable : (y : Object) → GoesOn x y → y.owner ≡ x.owner → may_move p q.vtype y ≡ true
    movable y goes kept = rw (goes.finished, kept, goes.class) may

    go : (y : (y : Object) × (object_at (move_param p o (arguments k) r h) n ≡ Some y) × IsMoved x y o)
        → ((x : Object) → slice_get qs i ≡ Some q → q.owning ≡ true → root_of (move_param p o (arguments k) r h) (arguments (k + 1 + i)) ≡ Some n
        → object_at (move_param p o (arguments k) r h) n ≡ Some x → may_move p q.vtype x ≡ true
        → (y : Object) × (object_at (move_params p o arguments (k + 1) qs (move_param p o (arguments k) r h)) n ≡ Some y) × (y.owner ≡ o))
        → root_of (move_param p o (arguments k) r h) (arguments (k + 1 + i)) ≡ Some n
        → (y : Object) × (object_at (move_params p o arguments (k + 1) qs (move_param p o (arguments k) r h)) n ≡ Some y) × (y.owner ≡ o)
    go (y, now, (goes, either)) further value = elim either [
      | inl kept ↦ further y there owning value now (movable y goes kept)
      | inr given ↦ stays_owned p o arguments (k + 1) qs (move_param p o (arguments k) r h) n y now given
    ]

-- ---- why an owner changes

module _ (p : Program) (t : VType) (o : Owner) where
  at_number : (r n : ℕ) (x : Object) → IsMovedFrom p t o (Some r) n x (only_at r (moved_to p t o) n x)
  at_number r n x = go (nat_eq n r) refl (may_move p t x) refl
    where
      go : (b : Bool) → nat_eq n r ≡ b → (c : Bool) → may_move p t x ≡ c → IsMovedFrom p t o (Some r) n x (if b then (if c then with_owner o x else x) else x)
      go true same true may = ((owner_changes o x).0, inr (refl, ap Some (sym (eqb-true n r same)), may))
      go true same false may = (goes_on_self x, inl refl)
      go false other c may = (goes_on_self x, inl refl)

  some_caused : (r : Option ℕ) (h : HeapContents) (n : ℕ) (x : Object) → object_at h n ≡ Some x → (y : Object) × (object_at (change_some r (moved_to p t o) h) n ≡ Some y) × IsMovedFrom p t o r n x y
  some_caused None h n x at = (x, at, (goes_on_self x, inl refl))
  some_caused (Some r) h n x at =
      (only_at r (moved_to p t o) n x, changed_at (only_at r (moved_to p t o)) h n ∙ ap (option_map (only_at r (moved_to p t o) n)) at, at_number r n x)

pub moved_back : (p : Program) (t : VType) (o : Owner) (v : Value) (h : HeapContents) (n : ℕ) (y : Object) → object_at (move p t o v h) n ≡ Some y
    → (x : Object) × (object_at h n ≡ Some x) × IsMovedFrom p t o (root_of h v) n x y
moved_back p t o v h n y now =
    let first = some_back p t o (root_of h v) h n y now in
    let z = some_caused p t o (root_of h v) h n first.0 first.1 in
    (first.0, first.1, subst (IsMovedFrom p t o (root_of h v) n first.0) (let same : z.0 ≡ y = (let both : Some z.0 ≡ Some y = sym z.1 ∙ now in cc) in same) z.2)

pub moved_takes : (p : Program) (t : VType) (o : Owner) (v : Value) (h : HeapContents) (n : ℕ) (x y : Object) → root_of h v ≡ Some n → object_at h n ≡ Some x → may_move p t x ≡ true
    → object_at (move p t o v h) n ≡ Some y → y.owner ≡ o
moved_takes p t o v h n x y root at may now =
    let after : object_at (move p t o v h) n ≡ Some (with_owner o x) =
    rw root (changed_at (only_at n (moved_to p t o)) h n ∙ ap (option_map (only_at n (moved_to p t o) n)) at ∙ rw (eq-eqb n n refl, may) refl) in
    let same : with_owner o x ≡ y = (let both : Some (with_owner o x) ≡ Some y = sym after ∙ now in cc) in
    sym (ap (λ (z : Object). z.owner) same)

pub moved_count : (p : Program) (t : VType) (o : Owner) (v : Value) (h : HeapContents) → next_number (move p t o v h) ≡ next_number h
moved_count p t o v h = some_count p t o (root_of h v) h

-- the argument of one parameter
one_caused : (p : Program) (o : Owner) (v : Value) (q : ParamSig) (h : HeapContents) (n : ℕ) (x : Object) → object_at h n ≡ Some x
    → (y : Object) × (object_at (move_param p o v q h) n ≡ Some y) × GoesOn x y
    × ((y.owner ≡ x.owner) ⊎ ((q.owning ≡ true) × (root_of h v ≡ Some n) × (may_move p q.vtype x ≡ true)))
one_caused p o v q h n x at = go q.owning refl
  where
    go : (b : Bool) → q.owning ≡ b → (y : Object) × (object_at (if b then move p q.vtype o v h else h) n ≡ Some y) × GoesOn x y
        × ((y.owner ≡ x.owner) ⊎ ((q.owning ≡ true) × (root_of h v ≡ Some n) × (may_move p q.vtype x ≡ true)))
    go true owning =
        let y = some_caused p q.vtype o (root_of h v) h n x at in
        (y.0, y.1, y.2.0, elim y.2.1 [ inl kept ↦ inl kept | inr given ↦ inr (owning, given.1, given.2) ])
    go false none = (x, at, goes_on_self x, inl refl)

pub params_caused : (p : Program) (o : Owner) (arguments : ℕ → Value) (k : ℕ) (params : List ParamSig) (h : HeapContents) (n : ℕ) (x y : Object) → object_at h n ≡ Some x
    → object_at (move_params p o arguments k params h) n ≡ Some y → (y.owner ≡ x.owner) ⊎ IsGiven p arguments k params h n x
params_caused p o arguments k [] h n x y before now = inl (let same : x ≡ y = (let both : Some x ≡ Some y = sym before ∙ now in cc) in sym (ap (λ (z : Object). z.owner) same))
params_caused p o arguments k (q ∷ qs) h n x y before now =
    let z = one_caused p o (arguments k) q h n x before in
    go z (params_caused p o arguments (k + 1) qs (move_param p o (arguments k) q h) n z.0 y z.1 now)
  where
    here : (q.owning ≡ true) × (root_of h (arguments k) ≡ Some n) × (may_move p q.vtype x ≡ true) → IsGiven p arguments k (q ∷ qs) h n x
    here (owning, root, may) = record {
      index = 0;
      param = q;
      at = refl;
      owning = owning;
      root = subst (λ (i : ℕ). root_of h (arguments i) ≡ Some n) (omega arith) root;
      may = may;
    }

    later : (z : Object) → GoesOn x z → z.owner ≡ x.owner → IsGiven p arguments (k + 1) qs (move_param p o (arguments k) q h) n z → IsGiven p arguments k (q ∷ qs) h n x
    later z goes kept g = record {
      index = g.index + 1;
      param = g.param;
      at = rw add-one g.at;
      owning = g.owning;
      root = subst (λ (i : ℕ). root_of h (arguments i) ≡ Some n) (omega arith) (sym (one_root p o (arguments k) q h (arguments (k + 1 + g.index))) ∙ g.root);
      may = rw (sym goes.finished, sym kept, sym goes.class) g.may;
    }

    go : (z : (z : Object) × (object_at (move_param p o (arguments k) q h) n ≡ Some z) × GoesOn x z
        × ((z.owner ≡ x.owner) ⊎ ((q.owning ≡ true) × (root_of h (arguments k) ≡ Some n) × (may_move p q.vtype x ≡ true))))
        → (y.owner ≡ z.0.owner) ⊎ IsGiven p arguments (k + 1) qs (move_param p o (arguments k) q h) n z.0 → (y.owner ≡ x.owner) ⊎ IsGiven p arguments k (q ∷ qs) h n x
    go (z, at, goes, inr given) rest = inr (here given)
    go (z, at, goes, inl kept) (inl same) = inl (same ∙ kept)
    go (z, at, goes, inl kept) (inr given) = inr (later z goes kept given)
