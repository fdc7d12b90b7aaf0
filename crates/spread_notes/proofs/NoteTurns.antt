-- Turns in which notes are joined by what follows from them.
use Rattle.std.proofs.Common.{◌≡◌, ◌∙◌, ap, sym, refl, ℕ, zero, suc, ◌+◌, ◌-◌, ◌*◌, ◌≤◌, Bool, true, false, ◌&&◌, Option, Some, None, List, [], ◌∷◌, ◌++◌, length, arith}
use Rattle.std.specs.Prelude.{is_some}
use Rattle.std.specs.List.{find, flat_map, list_all}
use Rattle.std.specs.Option.{unwrap_or}
use Rattle.program_model.specs.declared.kinds.FieldId.{FieldId}
use Rattle.program_model.specs.declared.kinds.Target.{Target}
use Rattle.program_model.specs.declared.kinds.Target.TheVariants as targets
use Rattle.program_model.specs.declared.program.Program.{Program}
use Rattle.program_model.specs.declared.program.Promise.{Promise}
use Rattle.program_model.specs.Lookups.{field_at, optional}
use Rattle.ledger_state.specs.declared.object.Object.{Object}
use Rattle.ledger_state.specs.declared.object.StoredField.{StoredField}
use Rattle.ledger_state.specs.declared.value.Value.{Value}
use Rattle.ledger_state.specs.declared.value.Value.TheVariants as values
use Rattle.ledger_state.specs.Classes.{class_in}
use Rattle.ledger_state.specs.Contents.{HeapContents}
use Rattle.ledger_state.specs.Fields.{default_in, field_of}
use Rattle.ledger_state.specs.Heaps.{is_field_of, object_at, value_stored}
use Rattle.ledger_state.specs.Values.{number_of}
use Rattle.ledger_obligations.specs.declared.note.Note.{Note}
use Rattle.ledger_obligations.specs.Obligations.{all_notes, contents, follows, has_note, joined, keep_all, keep_field, keep_own, kept_fields, own_promises, spread, through_in}
use Rattle.ledger_obligations.proofs.NoteLaws.{joined_stays, spread_stays}
use Rattle.spread_notes.specs.SpreadNotes.{SpreadsTo}

-- one turn more stands last
pub spread_last : (n : ℕ) (p : Program) (h : HeapContents) (ns : List Note) → spread (suc n) p h ns ≡ joined (spread n p h ns) (flat_map (follows p h) (spread n p h ns))
spread_last zero p h ns = refl
spread_last (suc n) p h ns = spread_last n p h (joined ns (flat_map (follows p h) ns))

-- a turn more
pub spread_next : (n m : ℕ) (p : Program) (h : HeapContents) (first before after : List Note) → m ≡ suc n → before ≡ spread n p h first → after ≡ joined before (flat_map (follows p h) before) → after ≡ spread m p h first
spread_next n m p h first before after count was is =
    is ∙ ap (λ ns. joined ns (flat_map (follows p h) ns)) was ∙ sym (spread_last n p h first) ∙ ap (λ k. spread k p h first) (sym count)

-- a turn that adds none is the last
pub spread_found : (n : ℕ) (p : Program) (h : HeapContents) (first before after : List Note) → n ≤ 256 * length h.objects → before ≡ spread n p h first → after ≡ joined before (flat_map (follows p h) before) → length after ≡ length before → SpreadsTo p h first after
spread_found n p h first before after few was is same =
    let stays : joined before (flat_map (follows p h) before) ≡ before = joined_stays before (flat_map (follows p h) before) (ap length (sym is) ∙ same) in
    let now : after ≡ before = is ∙ stays in
    record {
      turns = n;
      few = few;
      reached = now ∙ was;
      ends = ap (λ ns. joined ns (flat_map (follows p h) ns)) now ∙ stays ∙ sym now;
    }

spread_plus : (n m : ℕ) (p : Program) (h : HeapContents) (ns : List Note) → spread (n + m) p h ns ≡ spread m p h (spread n p h ns)
spread_plus zero m p h ns =
    let none : 0 + m ≡ m = omega arith in
    ap (λ k. spread k p h ns) none
spread_plus (suc n) m p h ns =
    let more : suc n + m ≡ suc (n + m) = omega arith in
    ap (λ k. spread k p h ns) more ∙ spread_plus n m p h (joined ns (flat_map (follows p h) ns))

-- so they are all notes
pub spread_all : (p : Program) (h : HeapContents) (first all : List Note) → SpreadsTo p h (joined [] first) all → all_notes p h first ≡ all
spread_all p h first all to =
    let few = to.few in
    let count : 256 * length h.objects ≡ to.turns + (256 * length h.objects - to.turns) = omega (arith, few) in
    ap (λ k. spread k p h (joined [] first)) count
    ∙ spread_plus to.turns (256 * length h.objects - to.turns) p h (joined [] first)
    ∙ ap (spread (256 * length h.objects - to.turns) p h) (sym to.reached)
    ∙ spread_stays (256 * length h.objects - to.turns) p h all to.ends

-- Another heap, which has these objects and the same fields

-- the notes speak of objects that are there
abbrev pub is_there : HeapContents → Note → Bool
is_there h a = is_some (object_at h a.object)

and_left : (a b : Bool) → (a && b) ≡ true → a ≡ true
and_left true b e = refl
and_left false b e = e

and_right : (a b : Bool) → (a && b) ≡ true → b ≡ true
and_right true b e = e
and_right false b e = absurd (cc)

all_left : (test : Note → Bool) (ns : List Note) (a : Note) → list_all test (ns ++ a ∷ []) ≡ true → list_all test ns ≡ true
all_left test [] a e = refl
all_left test (n ∷ ns) a e = go (test n) refl (all_left test ns a (and_right (test n) (list_all test (ns ++ a ∷ [])) e)) e
  where
    go : (b : Bool) → test n ≡ b → list_all test ns ≡ true → (test n && list_all test (ns ++ a ∷ [])) ≡ true → list_all test (n ∷ ns) ≡ true
    go true is rest whole = rw is rest
    go false is rest whole = absurd (let no : test n ≡ true = and_left (test n) (list_all test (ns ++ a ∷ [])) whole in cc)

joined_has : (test : Note → Bool) (ns xs : List Note) → list_all test (joined ns xs) ≡ true → list_all test ns ≡ true
joined_has test ns [] e = e
joined_has test ns (a ∷ as') e = go (has_note ns a) refl e (joined_has test ns as') (joined_has test (ns ++ a ∷ []) as')
  where
    go : (b : Bool) → has_note ns a ≡ b → list_all test (joined ns (a ∷ as')) ≡ true → (list_all test (joined ns as') ≡ true → list_all test ns ≡ true) → (list_all test (joined (ns ++ a ∷ []) as') ≡ true → list_all test (ns ++ a ∷ []) ≡ true) → list_all test ns ≡ true
    go true is all same more = same (rw is at all)
    go false is all same more = all_left test ns a (more (rw is at all))

spread_has : (test : Note → Bool) (n : ℕ) (p : Program) (h : HeapContents) (ns : List Note) → list_all test (spread n p h ns) ≡ true → list_all test ns ≡ true
spread_has test zero p h ns e = e
spread_has test (suc n) p h ns e = joined_has test ns (flat_map (follows p h) ns) (spread_has test n p h (joined ns (flat_map (follows p h) ns)) e)

pub field_same : (p : Program) (h g : HeapContents) (v : Value) (f : FieldId) → g.fields ≡ h.fields → field_of p g v f ≡ field_of p h v f
field_same p h g (values.Object k) f same = ap (λ (fs : List StoredField). unwrap_or (value_stored (find (is_field_of k f) fs)) (default_in (field_at p f))) same
field_same p h g values.Nothing f same = refl
field_same p h g values.Null f same = refl
field_same p h g values.Text f same = refl
field_same p h g (values.Number z) f same = refl
field_same p h g (values.Array a) f same = refl

kept_same : (p : Program) (h g : HeapContents) (v : Value) (q : Promise) → g.fields ≡ h.fields → keep_own p g v q ≡ keep_own p h v q
kept_same p h g v q same = go q.target
  where
    go : (t : Target) → keep_field p g v q t ≡ keep_field p h v q t
    go (targets.At k) = refl
    go (targets.OfField f) = ap (λ w. keep_all (number_of w) q.names) (field_same p h g v f same)

contents_same : (p : Program) (h g : HeapContents) (a : Note) (x : Object) (kept : Bool) → object_at h a.object ≡ Some x → object_at g a.object ≡ Some x → g.fields ≡ h.fields → contents p g a kept ≡ contents p h a kept
contents_same p h g a x false found there same = refl
contents_same p h g a x true found there same =
    ap (λ o. kept_fields p g a.object a.name (class_in o)) there
    ∙ (λ i. flat_map (λ q. kept_same p h g (values.Object a.object) q same i) (own_promises p x.class a.name))
    ∙ ap (λ o. kept_fields p h a.object a.name (class_in o)) (sym found)

-- the same follows from a note
follows_same : (p : Program) (h g : HeapContents) (a : Note) (x : Object) → object_at h a.object ≡ Some x → object_at g a.object ≡ Some x → g.fields ≡ h.fields → follows p g a ≡ follows p h a
follows_same p h g a x found there same =
    λ i. optional (through_in p a.name ((there ∙ sym found) i)) ++ contents_same p h g a x a.kept found there same i

all_follow : (p : Program) (h g : HeapContents) (ns : List Note) → ((k : ℕ) (x : Object) → object_at h k ≡ Some x → object_at g k ≡ Some x) → g.fields ≡ h.fields → list_all (is_there h) ns ≡ true → flat_map (follows p g) ns ≡ flat_map (follows p h) ns
all_follow p h g [] more same there = refl
all_follow p h g (a ∷ as') more same there = go (object_at h a.object) refl there (all_follow p h g as' more same)
  where
    go : (o : Option Object) → object_at h a.object ≡ o → (is_some (object_at h a.object) && list_all (is_there h) as') ≡ true → (list_all (is_there h) as' ≡ true → flat_map (follows p g) as' ≡ flat_map (follows p h) as') → flat_map (follows p g) (a ∷ as') ≡ flat_map (follows p h) (a ∷ as')
    go None e both further = absurd (let no : (false && list_all (is_there h) as') ≡ true = ap (λ o. is_some o && list_all (is_there h) as') (sym e) ∙ both in cc)
    go (Some x) e both further = λ i. follows_same p h g a x e (more a.object x e) same i ++ further (and_right (is_some (object_at h a.object)) (list_all (is_there h) as') both) i

spread_same : (n : ℕ) (p : Program) (h g : HeapContents) (ns : List Note) → ((k : ℕ) (x : Object) → object_at h k ≡ Some x → object_at g k ≡ Some x) → g.fields ≡ h.fields → list_all (is_there h) (spread n p h ns) ≡ true → spread n p g ns ≡ spread n p h ns
spread_same zero p h g ns more same there = refl
spread_same (suc n) p h g ns more same there =
    let next : List Note = joined ns (flat_map (follows p h) ns) in
    let now : list_all (is_there h) ns ≡ true = joined_has (is_there h) ns (flat_map (follows p h) ns) (spread_has (is_there h) n p h next there) in
    ap (λ fs. spread n p g (joined ns fs)) (all_follow p h g ns more same now)
    ∙ spread_same n p h g next more same there

-- notes that speak of objects that are there spread alike
pub spreads_alike : (p : Program) (h g : HeapContents) (first all : List Note) → ((k : ℕ) (x : Object) → object_at h k ≡ Some x → object_at g k ≡ Some x) → g.fields ≡ h.fields → length h.objects ≤ length g.objects → list_all (is_there h) all ≡ true → SpreadsTo p h first all → SpreadsTo p g first all
spreads_alike p h g first all more same longer there to =
    let few = to.few in
    record {
      turns = to.turns;
      few = omega (arith, few, longer);
      reached = to.reached ∙ sym (spread_same to.turns p h g first more same (ap (list_all (is_there h)) (sym to.reached) ∙ there));
      ends = ap (joined all) (all_follow p h g all more same there) ∙ to.ends;
    }
