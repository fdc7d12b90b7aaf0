-- Notes of calls that go on to other objects, and the few objects that they change.
use Rattle.std.specs.Prelude.{ℕ, ◌*◌, ◌≤◌, ◌≡◌, Bool, true, ◌&&◌, Option, Some, None, List, [], ◌∷◌, ◌++◌, length, nat_eq, nat_lt}
use Rattle.std.specs.List.{flat_map, list_all, list_any}
use Rattle.program_model.specs.declared.program.Program.{Program}
use Rattle.ledger_state.specs.declared.object.Object.{Object}
use Rattle.ledger_state.specs.Contents.{HeapContents}
use Rattle.ledger_state.specs.Heaps.{change_one, object_at, with_objects}
use Rattle.ledger_obligations.specs.declared.note.Note.{Note}
use Rattle.ledger_obligations.specs.Obligations.{follows, is_unmet, joined, noted_object, spread}
use Rattle.spread_notes.specs.declared.numbered.Numbered.{Numbered}

-- Objects that change

abbrev pub numbered : ℕ → Object → Numbered
numbered k x = record { number = k; object = x }

-- the object in its place
abbrev pub put_numbered : Numbered → HeapContents → HeapContents
put_numbered b h = change_one b.number (λ _. b.object) h

-- each of these objects in its place
abbrev pub put_each : List Numbered → HeapContents → HeapContents
put_each [] h = h
put_each (b ∷ bs) h = put_each bs (put_numbered b h)

-- one object more
abbrev pub add_made : Option Object → HeapContents → HeapContents
add_made None h = h
add_made (Some x) h = with_objects h (h.objects ++ x ∷ [])

abbrev pub is_numbered : ℕ → Numbered → Bool
is_numbered k b = nat_eq b.number k

-- the object `k` is one of these
abbrev pub has_object : List Numbered → ℕ → Bool
has_object bs k = list_any (is_numbered k) bs

-- their numbers rise, and the first one is beyond `k`
abbrev pub rises_beyond : ℕ → List Numbered → Bool
rises_beyond k [] = true
rises_beyond k (b ∷ bs) = nat_lt k b.number && rises_beyond b.number bs

-- What follows from notes

-- what follows from the notes `done` is among the others
abbrev pub HasFollows : Program → HeapContents → List Note → List Note → Type 0
HasFollows p h done ns = joined ns (flat_map (follows p h) done) ≡ ns

-- these notes are all that follow from the first ones, and nothing more follows. Each turn but the last adds one at least
pub record SpreadsTo (p : Program) (h : HeapContents) (first all : List Note) : Type 0 where
  pub turns : ℕ
  pub few : turns ≤ 256 * length h.objects
  pub reached : all ≡ spread turns p h first
  pub ends : joined all (flat_map (follows p h) all) ≡ all

-- What they change

-- the notes make `b` of the object that is there, which is unmet only if it was before
abbrev pub MadeOf : List Note → Numbered → Option Object → Type 0
MadeOf ns b None = ⊥
MadeOf ns b (Some x) = (b.object ≡ noted_object ns b.number x) × (is_unmet b.object ≡ true → is_unmet x ≡ true)

abbrev pub AllMadeOf : HeapContents → List Note → List Numbered → Type 0
AllMadeOf h ns [] = Unit {0}
AllMadeOf h ns (b ∷ bs) = MadeOf ns b (object_at h b.number) × AllMadeOf h ns bs

abbrev pub speaks_of : List Numbered → Note → Bool
speaks_of bs a = has_object bs a.object

-- the notes speak of these objects alone
abbrev pub speak_of : List Numbered → List Note → Bool
speak_of bs ns = list_all (speaks_of bs) ns

-- the notes `first`, and all that follow from them, make these of the objects that are there
pub record NotedAs (p : Program) (h : HeapContents) (first : List Note) (bs : List Numbered) : Type 0 where
  pub all : List Note
  pub spreads : SpreadsTo p h (joined [] first) all
  pub made : AllMadeOf h all bs
  pub rises : rises_beyond 0 bs ≡ true
  pub speak : speak_of bs all ≡ true
