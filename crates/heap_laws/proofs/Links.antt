-- The objects and the links of a heap over a call of the library, and which names reach the receiver's root.
use Rattle.std.proofs.Common.{◌≡◌, inl, inr, ℕ, zero, suc, ◌<◌, Bool, true, false, ◌||◌, Option, Some, None, List, option_map, nat_eq, refl, sym, ap, ◌∙◌, subst, if◌then◌else◌, arith, eqb-true}
use Rattle.std.specs.FinSet as set
use Rattle.std.specs.List.{All}
use Rattle.program_model.specs.declared.kinds.ClassId.{ClassId}
use Rattle.program_model.specs.declared.program.Method.{Method}
use Rattle.program_model.specs.declared.program.Program.{Program}
use Rattle.ledger_obligations.specs.MustCallSets.{must_of}
use Rattle.control_actions.specs.declared.action.Action.{Action}
use Rattle.stub_conduct.specs.declared.choice.Conduct.{Conduct}
use Rattle.stub_conduct.specs.declared.choice.Conduct.TheVariants as conducts
use Rattle.ledger_state.specs.Contents.{HeapContents}
use Rattle.ledger_state.specs.Heaps.{append, change_one, next_number, object_at, only_at}
use Rattle.ledger_state.specs.Values.{number_of}
use Rattle.ledger_state.specs.declared.entry.Owner.TheVariants as owners
use Rattle.ledger_state.specs.declared.locals.Locals.{Locals}
use Rattle.ledger_state.specs.declared.object.Link.{Link}
use Rattle.ledger_state.specs.declared.object.Object.{Object}
use Rattle.ledger_state.specs.declared.value.Value.{Value}
use Rattle.ledger_obligations.specs.declared.note.Note.{Note}
use Rattle.ledger_obligations.specs.Obligations.{all_notes, finished, first_set, has_note, noted_object}
use Rattle.ledger_steps.specs.LedgerCallsCalls.{alias_position, arguments_moved, operand_of, params_in, position_of, receiver_note, reset_position}
use Rattle.ledger_steps.specs.Conducts.{fresh_born, library_birth, library_notes, object_made, positions, promises_by}
use Rattle.ledger_steps.specs.CallSteps.{library_called, library_heap, library_made, library_reset}
use Rattle.ledger_steps.specs.InnerSteps.{thrown_heap}
use Rattle.heap_laws.specs.Heaps.{Evolves, GoesOn, HasEarlierLinks, HasSmallName, IsEarlierLink}
use Rattle.heap_laws.specs.Leading.{Leads, goes_on_from, is_passed_on}
use Rattle.heap_laws.proofs.HeapLaws.{changed_object_at-object, evolving_heaps-further, evolving_heaps-same, leading_links-end, leading_links-on, links_stay-made, links_stay-moved, moved_arguments_are_older-evolves, noted_names_reach_roots, notes_add_names-heap, numbers_are_in_range, objects_go_on-made, unchanged_fields_keep_contents}
use Rattle.heap_laws.proofs.NoteLaws.{has_left}
use Rattle.heap_laws.specs.LibraryCalls.{HasSmallInterest, IsAliasMadeAs, IsAliasOf, IsMadeAs}
use Rattle.heap_laws.proofs.CallNotes.{call_names, made_fields, params_fields}
use Rattle.heap_laws.proofs.Traces.{IsBornAs, IsTraced, no_reset, thrown_is_librarys, trace}

-- ---- one object that is made

other_object : (h j : HeapContents) (k : ℕ) (f : Object → Object) (n : ℕ) (x y : Object) → k ≡ next_number h → object_at h n ≡ Some x → object_at j n ≡ Some y → object_at (change_one k f j) n ≡ Some y
other_object h j k f n x y is before at = changed_object_at-object (only_at k f) j n ∙ ap (option_map (only_at k f n)) at ∙ go (nat_eq n k) refl
  where
    go : (b : Bool) → nat_eq n k ≡ b → Some (if b then f y else y) ≡ Some y
    go true same = absurd (let below = (numbers_are_in_range h n x before).1 in let here = eqb-true n k same in omega (arith, below, here, is))
    go false same = refl

-- the object that goes on passes on what it did
pub passed_on : (p : Program) (note : Note) (x y : Object) → GoesOn x y → is_passed_on p note y ≡ is_passed_on p note x
passed_on p note x y on =
    ap (λ (c : ClassId). note.kept || goes_on_from p note.name (record y { class = c }) y.link) on.class
    ∙ ap (λ (k : Option Link). note.kept || goes_on_from p note.name (record y { class = x.class }) k) on.link ∙ by_link x.link
  where
    by_link : (k : Option Link) → (note.kept || goes_on_from p note.name (record y { class = x.class }) k) ≡ (note.kept || goes_on_from p note.name x k)
    by_link None = refl
    by_link (Some k) = refl

-- a change of the object that the step has made is none of those that were there
birth_evolves : (h j : HeapContents) (k : ℕ) (f : Object → Object) → k ≡ next_number h → Evolves h j → Evolves h (change_one k f j)
birth_evolves h j k f is evolves n x at = let y = evolves n x at in (y.0, other_object h j k f n x y.0 is at y.1, y.2)

module _ (p : Program) (l : Locals) (a : Action) (named m : Option Method) (d : Conduct) (i : ℕ) (h : HeapContents) where
  abbrev moved : HeapContents
  moved = arguments_moved p owners.Library l a named h

  abbrev made : HeapContents
  made = library_made p l a named d h

  abbrev notes : List Note
  notes = library_notes p made l a named m (next_number h) d

  made_evolves : Evolves h made
  made_evolves = evolving_heaps-further h moved made (moved_arguments_are_older-evolves p owners.Library (operand_of l a) 1 (params_in named) h) (by_conduct d)
    where
      by_conduct : (c : Conduct) → Evolves moved (object_made c moved)
      by_conduct conducts.Null = evolving_heaps-same moved
      by_conduct (conducts.Throws e) = objects_go_on-made moved e
      by_conduct (conducts.Fresh e) = objects_go_on-made moved e
      by_conduct c = evolving_heaps-same moved

  made_links : HasEarlierLinks h → HasEarlierLinks made
  made_links links = by_conduct d
    where
      first : HasEarlierLinks moved
      first = links_stay-moved p owners.Library (operand_of l a) 1 (params_in named) h links

      by_conduct : (c : Conduct) → HasEarlierLinks (object_made c moved)
      by_conduct conducts.Null = first
      by_conduct (conducts.Throws e) = links_stay-made moved e first
      by_conduct (conducts.Fresh e) = links_stay-made moved e first
      by_conduct c = first

  pub called_evolves : Evolves h (library_called p l a named m d h)
  called_evolves = evolving_heaps-further h made (library_called p l a named m d h) made_evolves (notes_add_names-heap p notes made)

  reset_evolves : reset_position named ≡ None → Evolves h (library_reset p l a named m d h)
  reset_evolves none = subst (Evolves h) (sym (no_reset p l a named m d i h none)) called_evolves

  -- what was there is not what the call makes
  born : (c : Conduct) (j : HeapContents) → Evolves h j → Evolves h (library_birth p l a m i (next_number h) c j)
  born conducts.Null j evolves = evolves
  born (conducts.Throws e) j evolves = birth_evolves h j (next_number h) (finished (first_set p e None) owners.Library) refl evolves
  born (conducts.Fresh e) j evolves = birth_evolves h j (next_number h) (fresh_born p e m a i (position_of None l a)) refl evolves
  born c j evolves = evolves

  pub library_evolves : reset_position named ≡ None → Evolves h (library_heap p l a named m d i h)
  library_evolves none = born d (library_reset p l a named m d h) (reset_evolves none)

  -- ---- links

  module _ (links : HasEarlierLinks h) (none : reset_position named ≡ None)
      (there : (k w : ℕ) → alias_position m ≡ Some k → number_of (operand_of l a k) ≡ Some w → (0 < w) × (w < next_number h)) where
    operand : (k : ℕ) → position_of None l a k ≡ operand_of l a k
    operand zero = refl
    operand (suc k) = refl

    never_linked : (y : Object) (link : Link) → y.link ≡ None → y.link ≡ Some link → ⊥
    never_linked y link is some = let never : None ≡ Some link = sym is ∙ some in cc

    alias_link : (n k : ℕ) (y : Object) (link : Link) → n ≡ next_number h → alias_position m ≡ Some k → y.finished ≡ true → (t : Option ℕ) → number_of (operand_of l a k) ≡ t → IsAliasOf t y
        → y.link ≡ Some link → IsEarlierLink n y link
    alias_link n k y link here alias done None target is some = absurd (never_linked y link is.2 some)
    alias_link n k y link here alias done (Some w) target is some =
        let one : record { to = w; by_library = true } ≡ link = (let both : ◌≡◌ {A = Option Link} (Some (record { to = w; by_library = true })) (Some link) = sym is.1 ∙ some in cc) in
        let to : w ≡ link.to = ap (λ (z : Link). z.to) one in
        let range = there k w alias target in
        let above = range.0 in
        let below = range.1 in
        record {
          there = omega (arith, above, to);
          before = omega (arith, below, to, here);
          owner = is.0;
          finished = done;
        }

    plain_link : (n : ℕ) (y : Object) (link : Link) (c : Conduct) → IsMadeAs p a m i c y → y.link ≡ Some link → IsEarlierLink n y link
    plain_link n y link conducts.Null is some = absurd is
    plain_link n y link (conducts.Throws e) is some = absurd (never_linked y link is.1 some)
    plain_link n y link (conducts.Fresh e) is some = absurd (never_linked y link is.3 some)
    plain_link n y link (conducts.Existing k) is some = absurd is
    plain_link n y link conducts.Argument is some = absurd is
    plain_link n y link (conducts.Value z) is some = absurd is
    plain_link n y link conducts.Nothing is some = absurd is

    made_link : (n k : ℕ) (y : Object) (link : Link) (c : Conduct) → n ≡ next_number h → alias_position m ≡ Some k → IsAliasMadeAs l a k c y → y.link ≡ Some link → IsEarlierLink n y link
    made_link n k y link conducts.Null here alias is some = absurd is
    made_link n k y link (conducts.Throws e) here alias is some = absurd (never_linked y link is.1 some)
    made_link n k y link (conducts.Fresh e) here alias is some =
        alias_link n k y link here alias is.1 (number_of (operand_of l a k)) refl (subst (λ (v : Value). IsAliasOf (number_of v) y) (operand k) is.2) some
    made_link n k y link (conducts.Existing j) here alias is some = absurd is
    made_link n k y link conducts.Argument here alias is some = absurd is
    made_link n k y link (conducts.Value z) here alias is some = absurd is
    made_link n k y link conducts.Nothing here alias is some = absurd is

    born_link : (n : ℕ) (y : Object) (link : Link) (alias : Option ℕ) → alias_position m ≡ alias → n ≡ next_number h → IsBornAs p l a m i d y alias → y.link ≡ Some link → IsEarlierLink n y link
    born_link n y link None is here made' some = plain_link n y link d made' some
    born_link n y link (Some k) is here made' some = made_link n k y link d here is made' some

    old_link : (n : ℕ) (x y : Object) (link : Link) → object_at moved n ≡ Some x → noted_object (all_notes p made notes) n x ≡ y → y.link ≡ Some link → IsEarlierLink n y link
    old_link n x y link before same some =
        let is = links_stay-moved p owners.Library (operand_of l a) 1 (params_in named) h links n x link before (ap (λ (z : Object). z.link) same ∙ some) in
        record {
          there = is.there;
          before = is.before;
          owner = ap (λ (z : Object). z.owner) (sym same) ∙ is.owner;
          finished = ap (λ (z : Object). z.finished) (sym same) ∙ is.finished;
        }

    pub library_links : HasEarlierLinks (library_heap p l a named m d i h)
    library_links n y link at some = go (trace p l a named m d i h n y (alias_position m) none refl at)
      where
        go : IsTraced p l a named m d i h n y (alias_position m) → IsEarlierLink n y link
        go (inl (x, before, same)) = old_link n x y link before same some
        go (inr (here, made')) = born_link n y link (alias_position m) refl here made' some

  -- ---- names

  -- an object that was there is none that the call makes
  born_same : (c : Conduct) (j : HeapContents) (n : ℕ) (x y : Object) → object_at h n ≡ Some x → object_at j n ≡ Some y → object_at (library_birth p l a m i (next_number h) c j) n ≡ Some y
  born_same conducts.Null j n x y before at = at
  born_same (conducts.Throws e) j n x y before at = other_object h j (next_number h) (finished (first_set p e None) owners.Library) n x y refl before at
  born_same (conducts.Fresh e) j n x y before at = other_object h j (next_number h) (fresh_born p e m a i (position_of None l a)) n x y refl before at
  born_same c j n x y before at = at

  pub fields_stay : made.fields ≡ h.fields
  fields_stay = made_fields d moved ∙ params_fields p owners.Library (operand_of l a) 1 (params_in named) h

  notes_small : HasSmallInterest named → All HasSmallName notes
  notes_small small = call_names p made (positions l a (next_number h) d) (promises_by m d) l a named small

  -- a name that the call notes on an object, and that goes on from it, was called on its root
  pub noted_on_root : (note : Note) (r : ℕ) (x y : Object) → HasEarlierLinks h → HasSmallInterest named → reset_position named ≡ None → has_note notes note ≡ true
      → object_at h note.object ≡ Some x → is_passed_on p note x ≡ true → Leads p h note.object r → object_at (library_heap p l a named m d i h) r ≡ Some y → set.contains y.called note.name.0 ≡ true
  noted_on_root note r x y links small none has before on leads at =
      let now = made_evolves note.object x before in
      let leads' : Leads p made note.object r = leading_links-on p h made note.object r links made_evolves (unchanged_fields_keep_contents p h made fields_stay) leads in
      let end = leading_links-end p h note.object r leads in
      let w = called_evolves r end.0 end.1 in
      let there : object_at (library_reset p l a named m d h) r ≡ Some w.0 = ap (λ (g : HeapContents). object_at g r) (no_reset p l a named m d i h none) ∙ w.1 in
      let last = born_same d (library_reset p l a named m d h) r end.0 w.0 end.1 there in
      let one : w.0 ≡ y = (let both : Some w.0 ≡ Some y = sym last ∙ at in cc) in
      ap (λ (z : Object). set.contains z.called note.name.0) (sym one)
      ∙ noted_names_reach_roots p notes made note r now.0 w.0 (notes_small small) has now.1 (passed_on p note x now.0 now.2 ∙ on) leads' w.1

  pub called_on_root : (note : Note) (r : ℕ) (x y : Object) → HasEarlierLinks h → HasSmallInterest named → reset_position named ≡ None → has_note (receiver_note l a named) note ≡ true
      → object_at h note.object ≡ Some x → is_passed_on p note x ≡ true → Leads p h note.object r → object_at (library_heap p l a named m d i h) r ≡ Some y → set.contains y.called note.name.0 ≡ true
  called_on_root note r x y links small none has = noted_on_root note r x y links small none (has_left (receiver_note l a named) _ note has)

-- ---- exceptions of operations

pub thrown_evolves : (p : Program) (e : Option ClassId) (h : HeapContents) → Evolves h (thrown_heap p e h)
thrown_evolves p None h = evolving_heaps-same h
thrown_evolves p (Some e) h = birth_evolves h (append h e) (next_number h) (finished (must_of p e) owners.Library) refl (objects_go_on-made h e)

pub thrown_links : (p : Program) (e : Option ClassId) (h : HeapContents) → HasEarlierLinks h → HasEarlierLinks (thrown_heap p e h)
thrown_links p e h links n y link at some = elim (thrown_is_librarys p e h n y at) [
  | inl old ↦ links n y link old some
  | inr new ↦ absurd (let never : None ≡ Some link = sym new.2 ∙ some in cc)
]
