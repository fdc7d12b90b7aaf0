-- Obligations: who owns an object and what was called on it, and how calls, stores and ends of frames change that.
use Rattle.std.specs.Prelude.{ℕ, zero, suc, ◌+◌, ◌*◌, Bool, true, false, not, ◌&&◌, ◌||◌, Option, Some, None, List, [], ◌∷◌, ◌++◌, length, filter, nat_eq, nat_lt, if◌then◌else◌}
use Rattle.std.specs.List.{find, list_any, flat_map, range_with_len}
use Rattle.std.specs.FinSet as set
use Rattle.program_model.specs.declared.kinds.ClassId.{ClassId}
use Rattle.program_model.specs.declared.kinds.FieldId.{FieldId}
use Rattle.program_model.specs.declared.kinds.MethodId.{MethodId}
use Rattle.program_model.specs.declared.kinds.Target.{Target}
use Rattle.program_model.specs.declared.kinds.Target.TheVariants as targets
use Rattle.program_model.specs.declared.kinds.VType.{VType}
use Rattle.program_model.specs.declared.kinds.VType.TheVariants as types
use Rattle.program_model.specs.declared.program.Program.{Program}
use Rattle.program_model.specs.declared.program.Field.{Field}
use Rattle.program_model.specs.declared.program.Method.{Method}
use Rattle.program_model.specs.declared.program.Promise.{Promise}
use Rattle.program_model.specs.Lookups.{field_at, method_at, optional}
use Rattle.program_model.specs.Overrides.{is_library, methods_of, super_classes}
use Rattle.rlc_base.specs.declared.name_id.NameId.{NameId}
use Rattle.must_call_sets.specs.Bodies.{promises_in}
use Rattle.must_call_sets.specs.MustCallSets.{Names, must_of, must_of_type}
use Rattle.ledger_obligations.specs.declared.active_frame.ActiveFrame.{ActiveFrame}
use Rattle.ledger_obligations.specs.declared.note.Note.{Note}
use Rattle.ledger_state.specs.declared.entry.Owner.{Owner}
use Rattle.ledger_state.specs.declared.entry.Owner.TheVariants as owners
use Rattle.ledger_state.specs.declared.object.Link.{Link}
use Rattle.ledger_state.specs.declared.object.Object.{Object}
use Rattle.ledger_state.specs.declared.value.Value.{Value}
use Rattle.ledger_state.specs.declared.value.Value.TheVariants as values
use Rattle.ledger_state.specs.Classes.{class_in}
use Rattle.ledger_state.specs.Contents.{HeapContents}
use Rattle.ledger_state.specs.Fields.{field_of}
use Rattle.ledger_state.specs.Heaps.{change_each, change_some, has_number, is_reached, object_at, put_field, root, root_of, same_root}
use Rattle.ledger_state.specs.Locals.{held}
use Rattle.ledger_state.specs.Values.{number_of}

-- the object is finished, and a name of its set was not called on it
abbrev pub is_unmet : Object → Bool
is_unmet x = x.finished && not (set.is_subset x.must x.called)

abbrev pub is_unmet_in : Option Object → Bool
is_unmet_in None = false
is_unmet_in (Some x) = is_unmet x

-- the obligation of the root `r` is unmet
abbrev pub is_unmet_root : HeapContents → Option ℕ → Bool
is_unmet_root h None = false
is_unmet_root h (Some r) = is_unmet_in (object_at h r)

-- Moves

abbrev pub is_library_owner : Owner → Bool
is_library_owner owners.Library = true
is_library_owner (owners.Frame j) = false
is_library_owner (owners.Field w f) = false
is_library_owner owners.Released = false
is_library_owner owners.Lost = false
is_library_owner owners.Unowned = false

-- a root moves to a place of type `t` where it is finished, the library does not own it, and its class's set lies within the type's
abbrev pub may_move : Program → VType → Object → Bool
may_move p t x = x.finished && not (is_library_owner x.owner) && set.is_subset (must_of p x.class) (must_of_type p t)

abbrev pub with_owner : Owner → Object → Object
with_owner o x = record x { owner = o }

abbrev pub moved_to : Program → VType → Owner → Object → Object
moved_to p t o x = if may_move p t x then with_owner o x else x

-- the value moves to a place of type `t`, whose owner is `o`
abbrev pub move : Program → VType → Owner → Value → HeapContents → HeapContents
move p t o v h = change_some (root_of h v) (moved_to p t o) h

abbrev pub may_move_in : Program → VType → Option Object → Bool
may_move_in p t None = false
may_move_in p t (Some x) = may_move p t x

abbrev pub may_move_root : Program → HeapContents → VType → Option ℕ → Bool
may_move_root p h t None = false
may_move_root p h t (Some r) = may_move_in p t (object_at h r)

-- what is given up is released where it is met, and lost where it is not
abbrev pub given_up : Object → Object
given_up x = with_owner (if is_unmet x then owners.Lost else owners.Released) x

-- Resets

abbrev pub finished_in : Option Object → Bool
finished_in None = false
finished_in (Some x) = x.finished

-- the finished object whose field owns the root
abbrev pub finished_holder : HeapContents → Owner → Option ℕ
finished_holder h (owners.Field w f) = if finished_in (object_at h w) then Some w else None
finished_holder h (owners.Frame j) = None
finished_holder h owners.Library = None
finished_holder h owners.Released = None
finished_holder h owners.Lost = None
finished_holder h owners.Unowned = None

abbrev pub owner_in : Option Object → Owner
owner_in None = owners.Unowned
owner_in (Some x) = x.owner

abbrev pub reach_on : (List ℕ → ℕ → List ℕ) → List ℕ → Option ℕ → List ℕ
reach_on further seen None = seen
reach_on further seen (Some w) = further seen w

-- the way upwards ends at this root: it was seen on the way, or is not finished
abbrev pub stops : HeapContents → List ℕ → ℕ → Bool
stops h seen r = has_number seen r || not (finished_in (object_at h r))

-- the roots that a reset of object `k` reaches: its root, where that is finished, and upwards the root of the finished object
-- whose field owns it, each once; `seen` are those on the way here
abbrev pub reached_within : ℕ → HeapContents → List ℕ → ℕ → List ℕ
reached_within zero h seen k = seen
reached_within (suc n) h seen k =
    if stops h seen (root h k) then seen
    else reach_on (reached_within n h) (seen ++ root h k ∷ []) (finished_holder h (owner_in (object_at h (root h k))))

abbrev pub reached : HeapContents → Option ℕ → List ℕ
reached h None = []
reached h (Some k) = reached_within (length h.objects + 1) h [] k

-- no name was called; the root has the set of its class
abbrev pub emptied : Program → Bool → Object → Object
emptied p true x = record x { must = must_of p x.class; called = set.empty }
emptied p false x = record x { called = set.empty }

abbrev pub reset_in : Program → HeapContents → List ℕ → ℕ → Object → Object
reset_in p h roots k x = if is_reached h roots k then emptied p (nat_eq (root h k) k) x else x

-- the obligations of these roots are created anew
abbrev pub reset_roots : Program → List ℕ → HeapContents → HeapContents
reset_roots p roots h = change_each (reset_in p h roots) h

-- Notes of calls

abbrev pub note : Bool → ℕ → NameId → Note
note kept k n = record { object = k; name = n; kept = kept }

abbrev pub same_bool : Bool → Bool → Bool
same_bool true b = b
same_bool false b = not b

abbrev pub same_note : Note → Note → Bool
same_note a b = nat_eq a.object b.object && nat_eq a.name.0 b.name.0 && same_bool a.kept b.kept

abbrev pub has_note : List Note → Note → Bool
has_note ns a = list_any (same_note a) ns

-- the set has this name alone
abbrev pub is_the_one : Names → NameId → Bool
is_the_one s n = set.contains s n.0 && set.is_subset s (set.insert set.empty n.0)

-- a name goes on through a link: always where the library made the link, and where a constructor did, unless it is the one name
-- of the class's set, whose method the program has written
abbrev pub goes_on : Program → NameId → Object → Link → Bool
goes_on p n x l = l.by_library || not (is_the_one (must_of p x.class) n)

abbrev pub through : Program → NameId → Object → Option Link → Option Note
through p n x None = None
through p n x (Some l) = if goes_on p n x l then Some (note true l.to n) else None

abbrev pub through_in : Program → NameId → Option Object → Option Note
through_in p n None = None
through_in p n (Some x) = through p n x x.link

abbrev pub is_name : NameId → Option NameId → Bool
is_name n None = false
is_name n (Some i) = nat_eq i.0 n.0

-- the method is the instance method without parameters of this name
abbrev pub is_named_in : NameId → Option Method → Bool
is_named_in n None = false
is_named_in n (Some m) = not m.is_private && is_name n m.sig.interest

abbrev pub is_named : Program → NameId → MethodId → Bool
is_named p n m = is_named_in n (method_at p m)

-- the instance method without parameters of this name, of the class or else of the nearest super class that has one
abbrev pub method_named : Program → ClassId → NameId → Option MethodId
method_named p c n = find (is_named p n) (flat_map (methods_of p) (super_classes p c))

abbrev pub method_by : Program → Option MethodId → Option Method
method_by p None = None
method_by p (Some m) = method_at p m

-- a stub declares the method
abbrev pub is_library_method : Program → Option Method → Bool
is_library_method p None = false
is_library_method p (Some m) = is_library p m.class

-- the promises of a method of the program
abbrev pub promises_written : Program → Option Method → List Promise
promises_written p m = if is_library_method p m then [] else promises_in m

-- the promises of the program method `n()` of the class
abbrev pub own_promises : Program → ClassId → NameId → List Promise
own_promises p c n = promises_written p (method_by p (method_named p c n))

abbrev pub name_of : ℕ → NameId
name_of n = record { 0 = n }

-- that the name with this number was called on what `k` is, and kept, where the name is one of these
abbrev pub kept_name : ℕ → Names → ℕ → List Note
kept_name k names n = if set.contains names n then note true k (name_of n) ∷ [] else []

-- that the names were called on what `k` is, and kept; there are 128 names at most
abbrev pub keep_all : Option ℕ → Names → List Note
keep_all None names = []
keep_all (Some k) names = flat_map (kept_name k names) (range_with_len 0 128)

abbrev pub keep_field : Program → HeapContents → Value → Promise → Target → List Note
keep_field p h self q (targets.OfField f) = keep_all (number_of (field_of p h self f)) q.names
keep_field p h self q (targets.At k) = []

abbrev pub keep_own : Program → HeapContents → Value → Promise → List Note
keep_own p h self q = keep_field p h self q q.target

abbrev pub kept_fields : Program → HeapContents → ℕ → NameId → Option ClassId → List Note
kept_fields p h k n None = []
kept_fields p h k n (Some c) = flat_map (keep_own p h (values.Object k)) (own_promises p c n)

abbrev pub contents : Program → HeapContents → Note → Bool → List Note
contents p h a true = kept_fields p h a.object a.name (class_in (object_at h a.object))
contents p h a false = []

-- what follows from a note: the linked object is called too, and a kept method has called on the contents of owning fields what it promises
abbrev pub follows : Program → HeapContents → Note → List Note
follows p h a = optional (through_in p a.name (object_at h a.object)) ++ contents p h a a.kept

-- the second notes join the first, each once
abbrev pub joined : List Note → List Note → List Note
joined ns [] = ns
joined ns (a ∷ as') = if has_note ns a then joined ns as' else joined (ns ++ a ∷ []) as'

-- the notes that follow within `n` turns
abbrev pub spread : ℕ → Program → HeapContents → List Note → List Note
spread zero p h ns = ns
spread (suc n) p h ns = spread n p h (joined ns (flat_map (follows p h) ns))

-- all notes that follow from these: each turn adds one at least, and there are no more than two for each object and name
abbrev pub all_notes : Program → HeapContents → List Note → List Note
all_notes p h ns = spread (256 * length h.objects) p h (joined [] ns)

abbrev pub is_of : ℕ → Note → Bool
is_of k a = nat_eq a.object k

-- a name has a number below 128
abbrev pub with_name : Names → NameId → Names
with_name s n = if nat_lt n.0 128 then set.insert s n.0 else s

abbrev pub with_names : Names → List Note → Names
with_names s [] = s
with_names s (a ∷ as') = with_names (with_name s a.name) as'

abbrev pub noted_object : List Note → ℕ → Object → Object
noted_object ns k x = record x { called = with_names x.called (filter (is_of k) ns) }

-- the names of all notes that follow join what was called
abbrev pub noted : Program → List Note → HeapContents → HeapContents
noted p ns h = change_each (noted_object (all_notes p h ns)) h

-- Births

-- the set of a fresh object: that of its class, cut to the list that the signature gives
abbrev pub first_set : Program → ClassId → Option (Names) → Names
first_set p c None = must_of p c
first_set p c (Some s) = set.intersection (must_of p c) s

abbrev pub finished : Names → Owner → Object → Object
finished must o x = record x { finished = true; must = must; owner = o }

abbrev pub linked_to : Program → Bool → ℕ → Object → Object
linked_to p by_library k x = record x { finished = true; must = must_of p x.class; link = Some (record { to = k; by_library = by_library }) }

-- an alias is linked to the argument; an alias of null has the empty set, and the library owns it
abbrev pub alias_born : Program → Bool → Option ℕ → Object → Object
alias_born p by_library None x = finished set.empty owners.Library x
alias_born p by_library (Some k) x = linked_to p by_library k x

-- Stores

abbrev pub type_of_field : Option Field → VType
type_of_field None = types.NullType
type_of_field (Some f) = f.vtype

abbrev pub is_field : Owner → ℕ → FieldId → Bool
is_field (owners.Field v g) w f = nat_eq v w && nat_eq g.0 f.0
is_field (owners.Frame j) w f = false
is_field owners.Library w f = false
is_field owners.Released w f = false
is_field owners.Lost w f = false
is_field owners.Unowned w f = false

abbrev pub owner_of_root : HeapContents → Option ℕ → Owner
owner_of_root h None = owners.Unowned
owner_of_root h (Some r) = owner_in (object_at h r)

-- the old content has another root than the new value, and this field owns it
abbrev pub displaces : HeapContents → ℕ → FieldId → Value → Value → Bool
displaces h w f old v = is_field (owner_of_root h (root_of h old)) w f && not (same_root (root_of h old) (root_of h v))

-- the value moves with the store: `bound` says that it is the aliased argument of the alias constructor that runs
abbrev pub moves_in : Program → HeapContents → FieldId → Bool → Value → Bool
moves_in p h f bound v = not bound && may_move_root p h (type_of_field (field_at p f)) (root_of h v)

-- a moved value that is unmet and has another root than the old content has a finished holder reset
abbrev pub resets_holder : Program → HeapContents → ℕ → FieldId → Bool → Value → Value → Bool
resets_holder p h w f bound old v =
    moves_in p h f bound v && is_unmet_root h (root_of h v) && not (same_root (root_of h old) (root_of h v)) && finished_in (object_at h w)

abbrev pub released_where : Bool → Option ℕ → HeapContents → HeapContents
released_where true r h = change_some r given_up h
released_where false r h = h

abbrev pub moved_where : Bool → Option ℕ → Owner → HeapContents → HeapContents
moved_where true r o h = change_some r (with_owner o) h
moved_where false r o h = h

abbrev pub roots_where : Bool → HeapContents → ℕ → List ℕ
roots_where true h w = reached h (Some w)
roots_where false h w = []

-- a store into the owning field f of object w, as three steps on the heap: the old content is given up, the value moves, and the
-- holder is reset

abbrev pub displaced : Program → HeapContents → ℕ → FieldId → Value → HeapContents
displaced p h w f v = released_where (displaces h w f (field_of p h (values.Object w) f) v) (root_of h (field_of p h (values.Object w) f)) h

abbrev pub moved_in : Program → HeapContents → ℕ → FieldId → Bool → Value → HeapContents
moved_in p h w f bound v = moved_where (moves_in p h f bound v) (root_of h v) (owners.Field w f) (displaced p h w f v)

abbrev pub holder_roots : Program → HeapContents → ℕ → FieldId → Bool → Value → List ℕ
holder_roots p h w f bound v =
    roots_where (resets_holder p h w f bound (field_of p h (values.Object w) f) v) (moved_in p h w f bound v) w

abbrev pub stored_owning : Program → HeapContents → ℕ → FieldId → Bool → Value → HeapContents
stored_owning p h w f bound v = put_field w f v (reset_roots p (holder_roots p h w f bound v) (moved_in p h w f bound v))

-- Ends of frames

abbrev pub is_frame : Owner → ℕ → Bool
is_frame (owners.Frame i) j = nat_eq i j
is_frame (owners.Field w f) j = false
is_frame owners.Library j = false
is_frame owners.Released j = false
is_frame owners.Lost j = false
is_frame owners.Unowned j = false

abbrev pub given_up_by_frame : ℕ → ℕ → Object → Object
given_up_by_frame j k x = if is_frame x.owner j then given_up x else x

-- frame `j` ends
abbrev pub end_frame : ℕ → HeapContents → HeapContents
end_frame j h = change_each (given_up_by_frame j) h

abbrev pub is_held_by : Owner → ℕ → Bool
is_held_by (owners.Field w f) k = nat_eq w k
is_held_by (owners.Frame j) k = false
is_held_by owners.Library k = false
is_held_by owners.Released k = false
is_held_by owners.Lost k = false
is_held_by owners.Unowned k = false

abbrev pub given_up_by_holder : ℕ → ℕ → Object → Object
given_up_by_holder w k x = if is_held_by x.owner w then given_up x else x

abbrev pub end_holder : Option ℕ → HeapContents → HeapContents
end_holder None h = h
end_holder (Some w) h = change_each (given_up_by_holder w) h

-- What no place holds any more

-- what a frame of a run holds
abbrev pub held_in : ActiveFrame → List Value
held_in fr = held fr.locals

abbrev pub holds : HeapContents → List Value → ℕ → Bool
holds h held r = list_any (λ v. same_root (root_of h v) (Some r)) held

-- what the frame at a position holds, where `held` is what each frame holds, the top one first
abbrev pub held_at : List (List Value) → ℕ → List Value
held_at [] j = []
held_at (x ∷ xs) j = if nat_eq (length xs + 1) j then x else held_at xs j

-- the frame that is the owner holds the root `r`; of another owner this is not asked
abbrev pub owner_holds : HeapContents → List (List Value) → Owner → ℕ → Bool
owner_holds h held (owners.Frame j) r = holds h (held_at held j) r
owner_holds h held (owners.Field w f) r = true
owner_holds h held owners.Library r = true
owner_holds h held owners.Released r = true
owner_holds h held owners.Lost r = true
owner_holds h held owners.Unowned r = true

abbrev pub lost_object : HeapContents → List (List Value) → ℕ → Object → Object
lost_object h held k x = if is_unmet x && not (owner_holds h held x.owner k) then with_owner owners.Lost x else x

-- after a step, an unmet object that no place of its frame holds is lost
abbrev pub lose : List (List Value) → HeapContents → HeapContents
lose held h = change_each (lost_object h held) h
