-- What follows from notes that stand stands too, and which names come of them.
use Rattle.std.proofs.Common.{◌≡◌, ◌⊎◌, inl, inr, ℕ, zero, suc, ◌+◌, ◌*◌, ◌<◌, Bool, true, false, not, ◌||◌, Option, Some, None, List, [], ◌∷◌, length, option_map, slice_get, refl, sym, ap, ◌∙◌, subst, true≢false, arith, eqb-true}
use Rattle.std.proofs.lemmas.Bool.{or_left, or_right}
use Rattle.std.specs.FinSet as set
use Rattle.std.specs.List.{All, flat_map, range_with_len}
use Rattle.rlc_base.specs.declared.name_id.NameId.{NameId}
use Rattle.program_model.specs.declared.kinds.FieldId.{FieldId}
use Rattle.program_model.specs.declared.kinds.Target.{Target}
use Rattle.program_model.specs.declared.kinds.Target.TheVariants as targets
use Rattle.program_model.specs.declared.program.Program.{Program}
use Rattle.program_model.specs.declared.program.Promise.{Promise}
use Rattle.program_model.specs.Lookups.{optional}
use Rattle.program_model.specs.NameSets.{when}
use Rattle.ledger_obligations.specs.MustCallSets.{must_of}
use Rattle.ledger_obligations.specs.Signatures.{is_of_field, promised_names}
use Rattle.ledger_state.specs.Classes.{class_in}
use Rattle.ledger_state.specs.Contents.{HeapContents}
use Rattle.ledger_state.specs.Fields.{field_value}
use Rattle.ledger_state.specs.Heaps.{object_at}
use Rattle.ledger_state.specs.Values.{number_of}
use Rattle.ledger_state.specs.declared.object.Object.{Object}
use Rattle.ledger_state.specs.declared.value.Value.{Value}
use Rattle.ledger_state.specs.declared.value.Value.TheVariants as values
use Rattle.ledger_obligations.specs.declared.note.Note.{Note}
use Rattle.ledger_obligations.specs.Obligations.{all_notes, follows, goes_on, has_note, is_the_one, joined, keep_all, keep_field, keep_own, kept_fields, kept_name, name_of, note, noted, noted_object, own_promises, same_note, spread, through_in}
use Rattle.heap_laws.specs.Heaps.{HasSmallName}
use Rattle.heap_laws.specs.Leading.{Leads, by_library, by_program, goes_on_from, here, is_passed_on}
use Rattle.heap_laws.proofs.NoteCounts.{count, count_grows, count_small}
use Rattle.heap_laws.proofs.NoteLaws.{joined_add, joined_keep, one_note, spread_keep, stands_noted}
use Rattle.heap_laws.proofs.NoteLists.{HasNamed, flat_from, flat_has, follower, has_right, joined_from, joined_stays, link_follows, name_from_all, name_from_notes, name_where, no_follower, note_at, range_has, same_note_self, small_follower, small_names, stands_at}
use Rattle.heap_laws.proofs.ObjectLaws.{changed_at, in_range}
use Rattle.heap_laws.proofs.RootLaws.{one_object}

-- the first note that stands nowhere yet, on an object
abbrev pub IsFirst : HeapContents → List Note → List Note → Note → Type 0
IsFirst h ns xs b = (has_note xs b ≡ true) × ((x : Object) × (object_at h b.object ≡ Some x)) × (has_note ns b ≡ false)

-- a name that no link by the library stops is the one name
stopped_name : (library one : Bool) → (library || not one) ≡ false → one ≡ true
stopped_name true one off = absurd (true≢false off)
stopped_name false true off = refl
stopped_name false false off = absurd (true≢false off)

-- each note on an object stands already
abbrev pub StandAlready : HeapContents → List Note → List Note → Type 0
StandAlready h ns xs = (b : Note) (x : Object) → has_note xs b ≡ true → object_at h b.object ≡ Some x → has_note ns b ≡ true

pub find_first : (h : HeapContents) (ns xs : List Note) → ((b : Note) × IsFirst h ns xs b) ⊎ StandAlready h ns xs
find_first h ns [] = inr (λ b x has at. absurd (true≢false (sym has)))
find_first h ns (c ∷ cs) = elim (find_first h ns cs) [
  | inl found ↦ inl (found.0, (or_right (same_note found.0 c) (has_note cs found.0) found.1.0, found.1.1, found.1.2))
  | inr all ↦ go (object_at h c.object) refl (has_note ns c) refl all
]
  where
    rest : (b : Note) (x : Object) → has_note (c ∷ cs) b ≡ true → object_at h b.object ≡ Some x → (b ≡ c → has_note ns b ≡ true) → StandAlready h ns cs → has_note ns b ≡ true
    rest b x has at first all = by_note (same_note b c) refl has
      where
        by_note : (y : Bool) → same_note b c ≡ y → (y || has_note cs b) ≡ true → has_note ns b ≡ true
        by_note true same one = first (one_note b c same)
        by_note false other one = all b x one at

    go : (o : Option Object) → object_at h c.object ≡ o → (y : Bool) → has_note ns c ≡ y → StandAlready h ns cs → ((b : Note) × IsFirst h ns (c ∷ cs) b) ⊎ StandAlready h ns (c ∷ cs)
    go None none y is all = inr (λ b x has at. rest b x has at
        (λ (same : b ≡ c). absurd (let never : None ≡ Some x = sym none ∙ ap (λ (d : Note). object_at h d.object) (sym same) ∙ at in cc)) all)
    go (Some z) there true is all = inr (λ b x has at. rest b x has at (λ (same : b ≡ c). ap (has_note ns) same ∙ is) all)
    go (Some z) there false is all = inl (c, (or_left (same_note c c) (has_note cs c) (same_note_self c), (z, there), is))

module _ (p : Program) (h : HeapContents) where
  -- what follows from a note that stands stands
  abbrev pub IsClosed : List Note → Type 0
  IsClosed ns = (a b : Note) → has_note ns a ≡ true → has_note (follows p h a) b ≡ true → has_note ns b ≡ true

  abbrev pub turn : List Note → List Note
  turn ns = joined ns (flat_map (follows p h) ns)

  follower_joins : (ns : List Note) (a b : Note) → has_note ns a ≡ true → has_note (follows p h a) b ≡ true → has_note (turn ns) b ≡ true
  follower_joins ns a b has more =
      let place = note_at ns a has in
      joined_add ns (flat_map (follows p h) ns) b (flat_has (follows p h) ns place.0 a b place.1 more)

  turn_from : (ns : List Note) (b : Note) → has_note (flat_map (follows p h) ns) b ≡ true → (a : Note) × (has_note ns a ≡ true) × (has_note (follows p h a) b ≡ true)
  turn_from ns b has = let from = flat_from (follows p h) ns b has in (from.0, stands_at ns from.1 from.0 from.2, from.3)

  turn_stays : (ns : List Note) → IsClosed ns → turn ns ≡ ns
  turn_stays ns closed = joined_stays ns (flat_map (follows p h) ns) (λ b has. (let from = turn_from ns b has in closed from.0 b from.1 from.2))

  spread_stays : (n : ℕ) (ns : List Note) → IsClosed ns → spread n p h ns ≡ ns
  spread_stays zero ns closed = refl
  spread_stays (suc n) ns closed = ap (spread n p h) (turn_stays ns closed) ∙ spread_stays n ns closed

  -- where each note on an object stands already, nothing more follows after the turn
  closed_after : (ns : List Note) → StandAlready h ns (flat_map (follows p h) ns) → IsClosed (turn ns)
  closed_after ns all a b has more = elim (joined_from ns (flat_map (follows p h) ns) a has) [
    | inl old ↦ follower_joins ns a b old more
    | inr new ↦ go (object_at h a.object) refl new
  ]
    where
      go : (o : Option Object) → object_at h a.object ≡ o → has_note (flat_map (follows p h) ns) a ≡ true → has_note (turn ns) b ≡ true
      go None none new = absurd (true≢false (sym more ∙ ap (λ (xs : List Note). has_note xs b) (no_follower p h a none)))
      go (Some x) at new = follower_joins ns a b (all a x new at) more

  abbrev pub AreSmall : List Note → Type 0
  AreSmall ns = (a : Note) → has_note ns a ≡ true → a.name.0 < 128

  turn_small : (ns : List Note) → AreSmall ns → AreSmall (turn ns)
  turn_small ns small a has = elim (joined_from ns (flat_map (follows p h) ns) a has) [
    | inl old ↦ small a old
    | inr new ↦ (let from = turn_from ns a new in small_follower p h from.0 a (small from.0 from.1) from.2)
  ]

  -- a new note on an object is one more
  one_more : (ms ns : List Note) → ((a : Note) → has_note ms a ≡ true → has_note ns a ≡ true) → AreSmall ns → (b : Note) → IsFirst h ms ns b
      → count ms (length h.objects) < count ns (length h.objects)
  one_more ms ns on small b first =
      let range = in_range h b.object first.1.0 first.1.1 in
      let above = range.0 in
      let below = range.1 in
      count_grows ms ns on (length h.objects) b above (omega (arith, below)) (small b first.0) first.2 first.0

  -- the turns are enough
  closing : (n : ℕ) (ns : List Note) → AreSmall ns → 256 * length h.objects < count ns (length h.objects) + n → IsClosed (spread n p h ns)
  closing zero ns small room = absurd (let most = count_small ns (length h.objects) in omega (arith, room, most))
  closing (suc n) ns small room = go (find_first h ns (flat_map (follows p h) ns)) (closing n (turn ns) (turn_small ns small))
    where
      go : ((b : Note) × IsFirst h ns (flat_map (follows p h) ns) b) ⊎ StandAlready h ns (flat_map (follows p h) ns)
          → (256 * length h.objects < count (turn ns) (length h.objects) + n → IsClosed (spread n p h (turn ns))) → IsClosed (spread n p h (turn ns))
      go (inr all) further = let closed = closed_after ns all in subst IsClosed (sym (spread_stays n (turn ns) closed)) closed
      go (inl first) further =
          let more : count ns (length h.objects) < count (turn ns) (length h.objects) =
          one_more ns (turn ns) (joined_keep ns (flat_map (follows p h) ns)) (turn_small ns small) first.0
          (joined_add ns (flat_map (follows p h) ns) first.0 first.1.0, first.1.1, first.1.2) in
          further (omega (arith, room, more))

  -- ---- all notes

  start_small : (notes : List Note) → All HasSmallName notes → AreSmall (joined [] notes)
  start_small notes small a has = elim (joined_from [] notes a has) [
    | inl never ↦ absurd (true≢false (sym never))
    | inr there ↦ small_names notes small a there
  ]

  pub all_closed : (notes : List Note) → All HasSmallName notes → IsClosed (all_notes p h notes)
  all_closed notes small = go (find_first h [] (joined [] notes))
    where
      names : AreSmall (joined [] notes)
      names = start_small notes small

      go : ((b : Note) × IsFirst h [] (joined [] notes) b) ⊎ StandAlready h [] (joined [] notes) → IsClosed (all_notes p h notes)
      go (inl first) =
          let more : count [] (length h.objects) < count (joined [] notes) (length h.objects) =
          one_more [] (joined [] notes) (λ a has. absurd (true≢false (sym has))) names first.0 first.1 in
          closing (256 * length h.objects) (joined [] notes) names (omega (arith, more))
      go (inr none) = subst IsClosed (sym (spread_stays (256 * length h.objects) (joined [] notes) closed)) closed
        where
          closed : IsClosed (joined [] notes)
          closed a b has more = on (object_at h a.object) refl
            where
              on : (o : Option Object) → object_at h a.object ≡ o → has_note (joined [] notes) b ≡ true
              on None absent = absurd (true≢false (sym more ∙ ap (λ (xs : List Note). has_note xs b) (no_follower p h a absent)))
              on (Some x) at = absurd (true≢false (sym (none a x has at)))

  -- a note that is not kept is one of the first
  unkept_spread : (n : ℕ) (ns : List Note) (a : Note) → a.kept ≡ false → has_note (spread n p h ns) a ≡ true → has_note ns a ≡ true
  unkept_spread zero ns a plain has = has
  unkept_spread (suc n) ns a plain has = elim (joined_from ns (flat_map (follows p h) ns) a (unkept_spread n (turn ns) a plain has)) [
    | inl old ↦ old
    | inr new ↦ (let from = turn_from ns a new in absurd (true≢false (sym (follower p h from.0 a from.2).0 ∙ plain)))
  ]

  unkept_first : (notes : List Note) (a : Note) → a.kept ≡ false → has_note (all_notes p h notes) a ≡ true → has_note notes a ≡ true
  unkept_first notes a plain has = elim (joined_from [] notes a (unkept_spread (256 * length h.objects) (joined [] notes) a plain has)) [
    | inl never ↦ absurd (true≢false (sym never))
    | inr there ↦ there
  ]

  pub names_noted : (notes : List Note) (k i : ℕ) (x : Object) → set.contains (noted_object (all_notes p h notes) k x).called i ≡ true
      → (set.contains x.called i ≡ true) ⊎ ((has_note notes (note false k (name_of i)) ≡ true) ⊎ (has_note (all_notes p h notes) (note true k (name_of i)) ≡ true))
  names_noted notes k i x has = elim (name_from_notes k i (all_notes p h notes) x.called has) [
    | inl old ↦ inl old
    | inr new ↦ inr (by_kept new.0.kept new refl)
  ]
    where
      as_it_is : (kept : Bool) (a : Note) → a.kept ≡ kept → a.object ≡ k → a.name.0 ≡ i → a ≡ note kept k (name_of i)
      as_it_is kept a kind at name =
          ap (λ (j : ℕ). note a.kept j a.name) at ∙ ap (λ (j : ℕ). note a.kept k (name_of j)) name ∙ ap (λ (b : Bool). note b k (name_of i)) kind

      by_kept : (kept : Bool) (new : HasNamed k i (all_notes p h notes)) → new.0.kept ≡ kept
          → (has_note notes (note false k (name_of i)) ≡ true) ⊎ (has_note (all_notes p h notes) (note true k (name_of i)) ≡ true)
      by_kept true new kind = inr (ap (has_note (all_notes p h notes)) (sym (as_it_is true new.0 kind new.2 new.3)) ∙ new.1)
      by_kept false new kind = inl (ap (has_note notes) (sym (as_it_is false new.0 kind new.2 new.3)) ∙ unkept_first notes new.0 kind new.1)

  -- ---- contents

  -- a kept name notes what its method promises on what the field holds
  content_follows : (w v i : ℕ) (n : NameId) (x : Object) (f : FieldId) → object_at h w ≡ Some x → set.contains (promised_names (λ t. is_of_field t f) (own_promises p x.class n)) i ≡ true → i < 128
      → field_value p h w f ≡ values.Object v → has_note (follows p h (note true w n)) (note true v (name_of i)) ≡ true
  content_follows w v i n x f at has small held =
      has_right (optional (through_in p n (object_at h w))) (kept_fields p h w n (class_in (object_at h w))) (note true v (name_of i))
      (ap (λ (o : Option Object). has_note (kept_fields p h w n (class_in o)) (note true v (name_of i))) at
      ∙ flat_has (keep_own p h (values.Object w)) (own_promises p x.class n) from.1 from.0 (note true v (name_of i)) from.2 (by_target from.0.target refl from.3))
    where
      from : (q : Promise) × (j : ℕ) × (slice_get (own_promises p x.class n) j ≡ Some q) × (set.contains (when (is_of_field q.target f) q.names) i ≡ true)
      from = name_from_all (λ (q : Promise). when (is_of_field q.target f) q.names) (own_promises p x.class n) i has

      named : set.contains from.0.names i ≡ true → has_note (keep_all (Some v) from.0.names) (note true v (name_of i)) ≡ true
      named is = flat_has (kept_name v from.0.names) (range_with_len 0 128) i i (note true v (name_of i)) (range_has 0 128 i small ∙ (let same : 0 + i ≡ i = omega arith in ap Some same))
          (rw is (or_left (same_note (note true v (name_of i)) (note true v (name_of i))) false (same_note_self (note true v (name_of i)))))

      by_target : (t : Target) → from.0.target ≡ t → set.contains (when (is_of_field from.0.target f) from.0.names) i ≡ true → has_note (keep_own p h (values.Object w) from.0) (note true v (name_of i)) ≡ true
      by_target (targets.At k) is one =
          absurd (true≢false (sym (name_where (is_of_field (targets.At k) f) from.0.names i (ap (λ (t : Target). set.contains (when (is_of_field t f) from.0.names) i) (sym is) ∙ one)).0))
      by_target (targets.OfField g) is one =
          let both = name_where (is_of_field (targets.OfField g) f) from.0.names i (ap (λ (t : Target). set.contains (when (is_of_field t f) from.0.names) i) (sym is) ∙ one) in
          let same : g ≡ f = (let number = eqb-true g.0 f.0 both.0 in ap (λ (k : ℕ). (let z : FieldId = record { 0 = k } in z)) number) in
          ap (λ (t : Target). has_note (keep_field p h (values.Object w) from.0 t) (note true v (name_of i))) is
          ∙ ap (λ (e : FieldId). has_note (keep_all (number_of (field_value p h w e)) from.0.names) (note true v (name_of i))) same
          ∙ ap (λ (u : Value). has_note (keep_all (number_of u) from.0.names) (note true v (name_of i))) held
          ∙ named both.1

  -- ---- the way to the root

  -- a kept name is at the end of the way, where all that follows stands
  climbs : (ns : List Note) → IsClosed ns → (k r : ℕ) (name : NameId) → name.0 < 128 → Leads p h k r → has_note ns (note true k name) ≡ true → has_note ns (note true r name) ≡ true
  climbs ns closed _ _ name small (here k x at none) has = has
  climbs ns closed _ _ name small (by_library k r x l at some library rest) has =
      climbs ns closed l.to r name small rest (closed (note true k name) (note true l.to name) has (link_follows p h true k name x l at some (rw library refl)))
  climbs ns closed _ _ name small (by_program k c r x l f field at some declared owning calls held rest inner) has =
      go (goes_on p name x l) refl (climbs ns closed l.to r name small rest) (climbs ns closed c r name small inner)
    where
      go : (b : Bool) → goes_on p name x l ≡ b → (has_note ns (note true l.to name) ≡ true → has_note ns (note true r name) ≡ true)
          → (has_note ns (note true c name) ≡ true → has_note ns (note true r name) ≡ true) → has_note ns (note true r name) ≡ true
      go true on through' inside = through' (closed (note true k name) (note true l.to name) has (link_follows p h true k name x l at some on))
      go false off through' inside =
          inside (closed (note true k name) (note true c name) has (content_follows k c name.0 name x f at (calls.1 name (stopped_name l.by_library (is_the_one (must_of p x.class) name) off)) small held))

  -- a note that no link stops is at the end of the way too, and kept, where there is a way
  goes_up : (ns : List Note) → IsClosed ns → (k r : ℕ) (name : NameId) (x : Object) → name.0 < 128 → Leads p h k r → object_at h k ≡ Some x → goes_on_from p name x x.link ≡ true
      → has_note ns (note false k name) ≡ true → (c : Bool) × (has_note ns (note c r name) ≡ true)
  goes_up ns closed _ _ name x small (here k y at none) there on has = (false, has)
  goes_up ns closed _ _ name x small (by_library k r y l at some library rest) there on has =
      (true, climbs ns closed l.to r name small rest (closed (note false k name) (note true l.to name) has (link_follows p h false k name y l at some (rw library refl))))
  goes_up ns closed _ _ name x small (by_program k c r y l f field at some declared owning calls held rest inner) there on has =
      let same : x ≡ y = one_object x y (object_at h k) there at in
      let goes : goes_on p name y l ≡ true =
      ap (goes_on_from p name y) (sym some) ∙ ap (λ (z : Object). goes_on_from p name z z.link) (sym same) ∙ on in
      (true, climbs ns closed l.to r name small rest (closed (note false k name) (note true l.to name) has (link_follows p h false k name y l at some goes)))

  -- a note that stands is called on its object
  called_in : (notes : List Note) (kept : Bool) (k : ℕ) (name : NameId) (y : Object) → has_note (all_notes p h notes) (note kept k name) ≡ true → name.0 < 128
      → object_at (noted p notes h) k ≡ Some y → set.contains y.called name.0 ≡ true
  called_in notes kept k name y has small at = go (object_at h k) refl (sym (changed_at (noted_object (all_notes p h notes)) h k) ∙ at)
    where
      go : (o : Option Object) → object_at h k ≡ o → option_map (noted_object (all_notes p h notes) k) o ≡ Some y → set.contains y.called name.0 ≡ true
      go None none is = absurd (let never : None ≡ Some y = is in cc)
      go (Some x) there is =
          let same : noted_object (all_notes p h notes) k x ≡ y = (let both : Some (noted_object (all_notes p h notes) k x) ≡ Some y = is in cc) in
          ap (λ (z : Object). set.contains z.called name.0) (sym same) ∙ stands_noted p notes h (note kept k name) x has small

  pub root_noted : (notes : List Note) (a : Note) (r : ℕ) (x y : Object) → All HasSmallName notes → has_note notes a ≡ true → object_at h a.object ≡ Some x → is_passed_on p a x ≡ true
      → Leads p h a.object r → object_at (noted p notes h) r ≡ Some y → set.contains y.called a.name.0 ≡ true
  root_noted notes a r x y small has at on leads there = go a.kept refl on
    where
      low : a.name.0 < 128
      low = small_names notes small a has

      stands : has_note (all_notes p h notes) a ≡ true
      stands = spread_keep (256 * length h.objects) p h (joined [] notes) a (joined_add [] notes a has)

      as_it_is : (b : Bool) → a.kept ≡ b → has_note (all_notes p h notes) (note b a.object a.name) ≡ true
      as_it_is b is = ap (λ (c : Bool). has_note (all_notes p h notes) (note c a.object a.name)) (sym is) ∙ stands

      go : (b : Bool) → a.kept ≡ b → (b || goes_on_from p a.name x x.link) ≡ true → set.contains y.called a.name.0 ≡ true
      go true is one =
          called_in notes true r a.name y (climbs (all_notes p h notes) (all_closed notes small) a.object r a.name low leads (as_it_is true is)) low there
      go false is one =
          let up = goes_up (all_notes p h notes) (all_closed notes small) a.object r a.name x low leads at one (as_it_is false is) in
          called_in notes up.0 r a.name y up.1 low there

  pub content_noted : (notes : List Note) (w v o i : ℕ) (n : NameId) (x y : Object) (f : FieldId) → All HasSmallName notes → has_note (all_notes p h notes) (note true w n) ≡ true → object_at h w ≡ Some x
      → set.contains (promised_names (λ t. is_of_field t f) (own_promises p x.class n)) i ≡ true → i < 128 → field_value p h w f ≡ values.Object v → Leads p h v o
      → object_at (noted p notes h) o ≡ Some y → set.contains y.called i ≡ true
  content_noted notes w v o i n x y f small has at promised below held leads there =
      let closed = all_closed notes small in
      let first = closed (note true w n) (note true v (name_of i)) has (content_follows w v i n x f at promised below held) in
      called_in notes true o (name_of i) y (climbs (all_notes p h notes) closed v o (name_of i) below leads first) below there
