-- Which facts stand for what the places of a frame hold: each place that holds an object whose class has an obligation, and that may owe
-- a call, or of which a field owns something, is in a fact that a path brings to the frame's control, and where such a fact says that the object is owned, what it says is
-- true. Of each object, one fact of a frame at most says that the frame owns it.
use Rattle.std.specs.Prelude.{◌≡◌, ◌⊎◌, ℕ, ◌+◌, ◌<◌, Bool, true, false, not, ◌&&◌, ◌||◌, Option, Some, None, List, [], ◌∷◌, length, nat_lt, slice_get, if◌then◌else◌}
use Rattle.std.specs.List.{list_all, list_any}
use Rattle.std.specs.FinSet as set
use Rattle.program_model.specs.declared.kinds.BodyId.{BodyId}
use Rattle.program_model.specs.declared.kinds.ClassId.{ClassId}
use Rattle.program_model.specs.declared.kinds.FieldId.{FieldId}
use Rattle.program_model.specs.declared.kinds.MethodId.{MethodId}
use Rattle.program_model.specs.declared.program.Field.{Field}
use Rattle.program_model.specs.declared.program.Method.{Method}
use Rattle.program_model.specs.declared.program.ParamSig.{ParamSig}
use Rattle.program_model.specs.declared.program.Program.{Program}
use Rattle.program_model.specs.Lookups.{method_at}
use Rattle.program_model.specs.Overrides.{is_library}
use Rattle.ownership_rules.specs.Bodies.{alias_in, constructs, reset_in}
use Rattle.ownership_rules.specs.MustCallSets.{Names, fits, fits_type, is_empty, is_heavy_class, must_of, must_of_optional, no_names}
use Rattle.ownership_rules.specs.Signatures.{field_type, is_present}
use Rattle.java_control.specs.PlaceNumbers.{IsSmall}
use Rattle.java_control.specs.Owned.{place_of_field}
use Rattle.control_actions.specs.declared.action.Action.{Action}
use Rattle.control_actions.specs.declared.fact.Fact.{Fact}
use Rattle.control_actions.specs.declared.fact.Mode.TheVariants as modes
use Rattle.control_actions.specs.declared.fact.Origin.{Origin}
use Rattle.control_actions.specs.declared.fact.OriginKind.{OriginKind}
use Rattle.control_actions.specs.declared.fact.OriginKind.TheVariants as kinds
use Rattle.control_actions.specs.declared.place.Place.{Place}
use Rattle.control_actions.specs.declared.place.Place.TheVariants as place
use Rattle.ownership_rules.specs.Callees.{callee}
use Rattle.ownership_rules.specs.Facts.{PlaceSet, has, is_held, is_own, is_this_origin, need, without}
use Rattle.place_laws.specs.Paths.{Reach, relation_of}
use Rattle.ledger_state.specs.Contents.{HeapContents}
use Rattle.ledger_state.specs.Heaps.{object_at, root_of, same_root}
use Rattle.ledger_state.specs.Values.{number_of}
use Rattle.ledger_state.specs.declared.entry.Owner.{Owner}
use Rattle.ledger_state.specs.declared.entry.Owner.TheVariants as owners
use Rattle.ledger_state.specs.declared.locals.Locals.{Locals}
use Rattle.ledger_state.specs.declared.object.Object.{Object}
use Rattle.ledger_state.specs.declared.value.Value.TheVariants as values
use Rattle.place_laws.specs.Obligations.{is_held_by, is_library_owner}
use Rattle.heap_laws.specs.Places.{owning_field_beside, place_value}
use Rattle.heap_laws.specs.LedgerCallsCalls.{operand_of}
use Rattle.ledger_runs.specs.Configuration.{Frame}
use Rattle.ledger_runs.specs.Choosing.{body_id, frame_steps}
use Rattle.place_laws.specs.Places.{HasPlacesAlone}
use Rattle.agreement.specs.PlainForms.{is_lent_parameter}
use Rattle.fact_laws.specs.Going.{is_in_this}
use Rattle.heap_laws.specs.Holders.{HasTop, IsComparable}
use Rattle.agreement.specs.Renewing.{HasOwningField, IsLentFrom, IsOwnedByThis, IsWholeObject, answers_for_fields, fact_as, is_of_heavy_class, is_renewed, is_reread, lends_this, makes_alone, reopens}

-- the object is not finished yet, or the library does not own it. (What the library owns it owns for ever. An alias of null is the library's.)
abbrev pub may_owe : Object → Bool
may_owe x = not (x.finished && is_library_owner x.owner)

-- a field of the object owns a finished object whose class has an obligation
abbrev pub IsHolder : Program → HeapContents → ℕ → Type 0
IsHolder p h w = (c : ℕ) × (y : Object) × (object_at h c ≡ Some y) × (y.finished ≡ true) × (is_heavy_class p y.class ≡ true) × (is_held_by y.owner w ≡ true)

-- no constructor of the class makes an alias
abbrev pub MakesNoAlias : Program → ClassId → Type 0
MakesNoAlias p c = (m : MethodId) (d : Method) → method_at p m ≡ Some d → d.class ≡ c → constructs (Some d) ≡ true → alias_in (Some d) ≡ None

-- The class of the program declares an owning field, and makes no alias: so its methods may store into the field.
abbrev pub MayStore : Program → ClassId → Type 0
MayStore p c = (is_library p c ≡ false) × HasOwningField p c × MakesNoAlias p c

-- the object may owe a call, or a field of it owns an object with an obligation, or may come to own one
abbrev pub OwesOrHolds : Program → HeapContents → ℕ → Object → Type 0
OwesOrHolds p h o x = (may_owe x ≡ true) ⊎ (IsHolder p h o ⊎ MayStore p x.class)

-- The fact says that the object is owned, and that it has an obligation: the frame owns it, or, in a constructor without an aliased argument or a method that creates the obligation of `this` anew, a
-- field of `this`. (Elsewhere a field may hold what it does not own, such as an aliased argument that a constructor has kept; or nothing need be known of it.) A fact whose class
-- has none counts as not owned.
abbrev pub claims : Program → Option Method → Origin → Fact → Bool
claims p m o f = is_heavy_class p o.class && (is_own f.mode || is_held f.mode && answers_for_fields m)

-- what such a fact says is true of the object: it is finished, it is of the class as far as obligations go, all that must be called on
-- it is needed by the fact, and all that the fact knows was called
pub record IsTrueOf (p : Program) (x : Object) (o : Origin) (f : Fact) : Type 0 where
  pub finished : x.finished ≡ true
  pub class : fits p x.class o.class ≡ true
  pub bounded : set.is_subset x.must (must_of p x.class) ≡ true
  pub need : set.is_subset x.must (need o f) ≡ true
  pub called : set.is_subset f.called x.called ≡ true

-- the type of the owning field has an obligation
abbrev pub is_heavy_in : Program → Option FieldId → Bool
is_heavy_in p None = false
is_heavy_in p (Some f) = not (is_empty (must_of_optional p (field_type p f)))

-- the place is that of an owning field of `this` whose type has an obligation
abbrev pub is_heavy_field : Program → MethodId → Place → Bool
is_heavy_field p m (place.Field k) = is_heavy_in p (owning_field_beside p m k)
is_heavy_field p m (place.Var i) = false
is_heavy_field p m place.This = false
is_heavy_field p m (place.Temp d) = false
is_heavy_field p m place.Super = false

-- all that must be called on objects of the class must be called on what the owning field is declared to hold
abbrev pub fits_in : Program → ClassId → Option FieldId → Bool
fits_in p c None = false
fits_in p c (Some f) = fits_type p c (field_type p f)

-- such is the owning field of `this` with this number
abbrev pub fits_field : Program → MethodId → ℕ → ClassId → Bool
fits_field p m k c = fits_in p c (owning_field_beside p m k)

-- the origin is a lent parameter of the method, or `this`
abbrev pub is_lent_kind : Program → Method → OriginKind → Bool
is_lent_kind p m (kinds.Param k) = is_lent_parameter p (slice_get m.sig.params.items k)
is_lent_kind p m kinds.ThisRef = true
is_lent_kind p m kind = false

abbrev pub is_lent : Program → Option Method → OriginKind → Bool
is_lent p None kind = false
is_lent p (Some m) kind = is_lent_kind p m kind

-- The names that the parameter, where it is lent, asks to be called on its argument before (`@CalledMethods`): the body may rely on them, and
-- whether they were called is the caller's to say.
abbrev pub asked_by : Program → Option ParamSig → Names
asked_by p None = no_names
asked_by p (Some x) = if is_lent_parameter p (Some x) then x.before else no_names

-- those that the origin asks for
abbrev pub asked_in : Program → Method → OriginKind → Names
asked_in p m (kinds.Param k) = asked_by p (slice_get m.sig.params.items k)
asked_in p m kind = no_names

abbrev pub asked_of : Program → Option Method → OriginKind → Names
asked_of p None kind = no_names
asked_of p (Some m) kind = asked_in p m kind

-- The fact is that of a lent parameter, or of `this`, or it says that a field of `this` holds the object. (In a constructor without an aliased
-- argument, and in a method that creates the obligation of `this` anew, such a fact claims that the field owns the object, and says more.)
abbrev pub tells_calls : Program → MethodId → Origin → Fact → Bool
tells_calls p m o f = (is_lent p (method_at p m) o.kind || is_held f.mode) && not (is_held f.mode && answers_for_fields (method_at p m))

-- ---- what is given to a frame

-- the parameter of index `k` is owning and takes objects of the class, and its argument is object `o`
abbrev pub is_taken_at : Program → HeapContents → Locals → Action → ℕ → ClassId → ℕ → ParamSig → Bool
is_taken_at p h l a o c k x = x.owning && fits_type p c (Some x.vtype) && same_root (root_of h (operand_of l a (k + 1))) (Some o)

-- one of the parameters from index `k` on is so
abbrev pub is_taken_from : Program → HeapContents → Locals → Action → ℕ → ClassId → ℕ → List ParamSig → Bool
is_taken_from p h l a o c k [] = false
is_taken_from p h l a o c k (x ∷ xs) = is_taken_at p h l a o c k x || is_taken_from p h l a o c (k + 1) xs

abbrev pub is_taken_by : Program → HeapContents → Locals → Action → ℕ → ClassId → Option Method → Bool
is_taken_by p h l a o c None = false
is_taken_by p h l a o c (Some m) = is_taken_from p h l a o c 0 m.sig.params.items

-- the call gives object `o`, of class `c`, to the method that it names
abbrev pub gives_away : Program → HeapContents → Locals → Action → ℕ → ClassId → Bool
gives_away p h l a o c = is_taken_by p h l a o c (callee p a)

-- the call at which the frame waits gives the object away
abbrev pub is_given : Program → HeapContents → Frame → ℕ → ClassId → Bool
is_given p h fr o c = list_any (λ s. gives_away p h fr.locals s.action o c) (frame_steps p fr)

-- ---- who owns an object

-- the frame at position `j` owns it, or one above
abbrev pub is_frame_from : ℕ → Owner → Bool
is_frame_from j (owners.Frame i) = not (nat_lt i j)
is_frame_from j (owners.Field w f) = false
is_frame_from j owners.Library = false
is_frame_from j owners.Released = false
is_frame_from j owners.Lost = false
is_frame_from j owners.Unowned = false

-- a frame below the position `j` owns it
abbrev pub is_frame_below : ℕ → Owner → Bool
is_frame_below j (owners.Frame i) = nat_lt i j
is_frame_below j (owners.Field w f) = false
is_frame_below j owners.Library = false
is_frame_below j owners.Released = false
is_frame_below j owners.Lost = false
is_frame_below j owners.Unowned = false

-- no frame above the position `n` owns anything
abbrev pub OwnersBelow : HeapContents → ℕ → Type 0
OwnersBelow h n = (o : ℕ) (x : Object) → object_at h o ≡ Some x → is_frame_from (n + 1) x.owner ≡ false

-- one of these frames runs on the object
abbrev pub RunsOn : ℕ → List Frame → Type 0
RunsOn w [] = ⊥
RunsOn w (fr ∷ frs) = (fr.locals.this ≡ values.Object w) ⊎ RunsOn w frs

-- The way up from the object ends below the frame that stands on these: no frame from that one on owns its end, and where this is not finished, one of these frames runs on it.
pub record EndsBelow (h : HeapContents) (frs : List Frame) (o : ℕ) : Type 0 where
  pub end : ℕ
  pub top : HasTop h o end
  pub below : is_frame_from (length frs + 1) top.object.owner ≡ false
  pub older : top.object.finished ≡ false → RunsOn end frs

-- nobody answers for what has this owner any more: it was given up
abbrev pub is_given_up : Owner → Bool
is_given_up owners.Released = true
is_given_up owners.Lost = true
is_given_up (owners.Frame i) = false
is_given_up (owners.Field w f) = false
is_given_up owners.Library = false
is_given_up owners.Unowned = false

-- the end of the way up from the object was not given up
abbrev pub IsAnswered : HeapContents → ℕ → Type 0
IsAnswered h o = (end : ℕ) × (top : HasTop h o end) × (is_given_up top.object.owner ≡ false)

-- a field of `this` of the top one of these frames owns what has this owner, and the frame answers for it, and does not lend `this`
abbrev pub IsInFieldBelow : Program → List Frame → Owner → Type 0
IsInFieldBelow p [] owner = ⊥
IsInFieldBelow p (fr ∷ frs) owner = (answers_for_fields (method_at p fr.method) ≡ true) × (lends_this p fr ≡ false) × IsOwnedByThis p fr owner

-- one of these frames owns what has this owner, or so a field does
abbrev pub IsOwnedBelow : Program → List Frame → Owner → Type 0
IsOwnedBelow p frs owner = (is_frame_below (length frs + 1) owner ≡ true) ⊎ IsInFieldBelow p frs owner

-- ---- what a call spares

-- the object is finished, and its class has an obligation
abbrev pub IsHeavyObject : Program → Object → Type 0
IsHeavyObject p x = (x.finished ≡ true) × (is_heavy_class p x.class ≡ true)

-- the call at which the frame waits creates the obligation of no such object anew, finished or with owning fields, that is within this one, or that this one is within
abbrev pub Spares : Program → HeapContents → Frame → ℕ → Type 0
Spares p h fr o = (u : ℕ) (x : Object) → object_at h u ≡ Some x → IsWholeObject p x → IsComparable h u o → is_renewed p h fr u ≡ false

-- the call that began a frame, where `frs` are the frames below it, spares the object
abbrev pub IsSpared : Program → HeapContents → List Frame → ℕ → Type 0
IsSpared p h [] o = Unit {0}
IsSpared p h (fr ∷ frs) o = Spares p h fr o

-- a field of `this` owns the object, and the frame runs no constructor
pub record IsContentOfThis (p : Program) (fr : Frame) (owner : Owner) : Type 0 where
  pub holder : ℕ
  pub field : FieldId
  pub runs : fr.locals.this ≡ values.Object holder
  pub owns : owner ≡ owners.Field holder field
  pub method : constructs (method_at p fr.method) ≡ false

-- ---- what is known of an object

-- the method, where there is one, takes no obligation by its parameters
abbrev pub takes_nothing : Program → Option Method → Bool
takes_nothing p None = true
takes_nothing p (Some m) = list_all (λ x. is_lent_parameter p (Some x)) m.sig.params.items

-- The frame is that of a method that takes no obligation and creates none anew, and is no constructor.
abbrev pub leaves_all : Program → Option Method → Bool
leaves_all p m = not (constructs m) && takes_nothing p m && not (is_present (reset_in m))

-- both run on one object
abbrev pub run_on_one : Frame → Frame → Bool
run_on_one fr caller = same_root (number_of fr.locals.this) (number_of caller.locals.this)

-- While the frame runs, which stands on these, nothing is stored into the fields of `this`: it leaves all as it is; or it runs on the `this` of the frame that waits for it, which does not lend this to it,
-- and runs a constructor, or a method that creates the obligation of `this` anew, or is such a frame.
abbrev pub is_settled : Program → Frame → List Frame → Bool
is_settled p fr [] = leaves_all p (method_at p fr.method)
is_settled p fr (caller ∷ frs) =
    leaves_all p (method_at p fr.method)
    || run_on_one fr caller && not (lends_this p caller) && (constructs (method_at p caller.method) || (reopens (method_at p caller.method) || is_settled p caller frs))

-- The fact says that a field of `this` holds its object, in a method that does not answer for the fields of `this`, into which something may be stored while the frame runs: so nothing is said of the object.
abbrev pub is_idle : Program → List Frame → Frame → Fact → Bool
is_idle p frs fr f =
    is_held f.mode && not (constructs (method_at p fr.method)) && not (reopens (method_at p fr.method)) && is_of_heavy_class p (method_at p fr.method) && not (is_settled p fr frs)

-- the place is that of an owning field of `this`
abbrev pub is_field_place : Place → Bool
is_field_place (place.Field k) = true
is_field_place (place.Var i) = false
is_field_place place.This = false
is_field_place (place.Temp d) = false
is_field_place place.Super = false

-- into the field of the place others may store until the call ends at which the frame stands
abbrev pub is_lent_place : Program → Frame → Place → Bool
is_lent_place p fr q = is_field_place q && lends_this p fr

-- each of the fact's places of which something is said holds object `o`
abbrev pub HoldAsSaid : Program → HeapContents → List Frame → Frame → ℕ → Fact → Type 0
HoldAsSaid p h frs fr o f =
    is_idle p frs fr f ≡ false → (q : Place) → IsSmall q → is_lent_place p fr q ≡ false → has f.places q ≡ true → root_of h (place_value p h fr.method fr.locals q) ≡ Some o

-- What was old when the frame began, of finished objects whose class has an obligation: their ways up end below the frame that stands on these still. What one of the frames below owns was old, and what a
-- field of `this` of the one that waits for it owns, which answers for it and does not lend `this`; so was what a field of `this` owns, in a method that leaves all as it is, and `this`, where nothing is
-- stored into its fields.
pub record IsOld (p : Program) (h : HeapContents) (frs : List Frame) (fr : Frame) (old : ℕ → Bool) : Type 0 where
  pub there : (o : ℕ) → old o ≡ true → (x : Object) × (object_at h o ≡ Some x) × (x.finished ≡ true)
  pub ends : (o : ℕ) (x : Object) → object_at h o ≡ Some x → IsHeavyObject p x → old o ≡ true → EndsBelow h frs o
  pub below : (o : ℕ) (x : Object) → object_at h o ≡ Some x → IsHeavyObject p x → IsOwnedBelow p frs x.owner → old o ≡ true
  pub contents : (o : ℕ) (x : Object) → object_at h o ≡ Some x → IsHeavyObject p x → IsContentOfThis p fr x.owner → leaves_all p (method_at p fr.method) ≡ true → old o ≡ true
  pub self : (w : ℕ) (y : Object) → fr.locals.this ≡ values.Object w → object_at h w ≡ Some y → IsHeavyObject p y → y.link ≡ None → is_settled p fr frs ≡ true → old w ≡ true

-- The object was old when the frame began, and the call that began it spares it; the end of its way up was not given up, and something is said of it in the fact.
abbrev pub IsApart : Program → HeapContents → (ℕ → Bool) → List Frame → Frame → ℕ → Fact → Type 0
IsApart p h old frs fr o f = (old o ≡ true) × IsSpared p h frs o × IsAnswered h o × (is_idle p frs fr f ≡ false)

-- an owning field of `this` owns the object, and of `this`, its parts and its fields that field's place alone is among these
abbrev pub IsInField : Program → Frame → PlaceSet → Owner → Type 0
IsInField p fr held owner =
    (c : IsOwnedByThis p fr owner) × (has held (place_of_field p c.field) ≡ true) × (is_in_this (without held (place_of_field p c.field)) ≡ false)

-- the fact says that the frame owns the object, and that it has an obligation
abbrev pub is_owning_fact : Program → Origin → Fact → Bool
is_owning_fact p o f = is_heavy_class p o.class && is_own f.mode

-- A fact that a path brings to the frame's control stands for object `o`, which is `x`: all places of the fact hold the object, but for those of fields while the frame lends `this`; and nothing is said of
-- what is idle. `frs` are the
-- frames below, `away` says that the call at which the frame waits gives the object away, `anew` that what the frame knows of it is read as after its obligation was created anew, and `old` what was old
-- for the frame when it began.
-- Where the fact says that the object is owned, that is true, as the fact is read while the frame waits, unless the frame owned it and it is given away, or a field does while the frame lends `this`. Where it says
-- in a frame that answers for the fields of `this`, and does not lend it, that a field holds a finished object, and its class has an obligation, it is not given away, and one of its places is that of the owning field
-- that owns the
-- object, the one place of it that is `this`'s. Where it says that the object is lent, the call that began the frame creates the object's obligation anew,
-- and the way leads to a frame that waits for such a call and has the object in hand; it is not given away. Where it is the fact of `this` in a constructor, the object is not finished; else that is so too of what
-- is lent and not finished, if its class has owning fields, and it is none that the frame makes.
-- Where the fact is that of a lent parameter, or of `this`, it says never that the frame owns an object with an obligation, and that a field holds it in a
-- constructor with an aliased argument alone. What it then knows of a finished object to be called was called, or was asked for before, as the fact is read while the frame waits, where the object was old, the call
-- that began the frame spares it, and it was not given up; then the call at which the frame waits does not create its obligation anew.
-- Where its class has an obligation, it is in owning fields alone whose types bound this. Where it is in an owning field whose type has one, or in any in a method
-- that does not create the obligation of `this` anew, it says that the field holds it.
pub record Covers (p : Program) (h : HeapContents) (away anew : Bool) (old : ℕ → Bool) (frs : List Frame) (fr : Frame) (o : ℕ) (x : Object) : Type 0 where
  pub body : BodyId
  pub id : body_id p fr.method ≡ Some body
  pub origin : Origin
  pub fact : Fact
  pub reached : Reach p body (relation_of p body) origin fr.control fact
  pub alone : HasPlacesAlone fact.places
  pub places : HoldAsSaid p h frs fr o fact
  pub true' : claims p (method_at p fr.method) origin fact ≡ true → (away && is_own fact.mode) ≡ false → (is_held fact.mode && lends_this p fr) ≡ false → IsTrueOf p x origin (fact_as (anew) fact)
  pub lent : is_lent p (method_at p fr.method) origin.kind ≡ true → (is_owning_fact p origin fact ≡ false)
      × (is_held fact.mode ≡ true → (constructs (method_at p fr.method) ≡ true) × (makes_alone (method_at p fr.method) ≡ false))
  pub free : x.finished ≡ true → is_held fact.mode ≡ true → answers_for_fields (method_at p fr.method) ≡ true → lends_this p fr ≡ false → is_heavy_class p origin.class ≡ true
      → (away ≡ false) × IsInField p fr fact.places x.owner
  pub lends : fact.mode ≡ modes.Lent → x.finished ≡ true → (away ≡ false) × IsLentFrom p h frs o x.owner
  pub makes : constructs (method_at p fr.method) ≡ true → is_this_origin origin.kind ≡ true → x.finished ≡ false
  pub begun : fact.mode ≡ modes.Lent → (constructs (method_at p fr.method) && is_this_origin origin.kind) ≡ false → HasOwningField p x.class → x.finished ≡ false
      → (away ≡ false) × IsLentFrom p h frs o x.owner × (constructs (method_at p fr.method) ≡ true → fr.locals.this ≡ values.Object o → ⊥)
  pub unrenewed : x.finished ≡ true → tells_calls p fr.method origin fact ≡ true → IsApart p h old frs fr o fact → anew ≡ false
  pub known : x.finished ≡ true → tells_calls p fr.method origin fact ≡ true → IsApart p h old frs fr o fact → anew ≡ false
      → set.is_subset fact.called (set.union (asked_of p (method_at p fr.method) origin.kind) x.called) ≡ true
  pub fields : (k : ℕ) → k < 16 → is_heavy_class p origin.class ≡ true → has fact.places (place.Field k) ≡ true → fits_field p fr.method k origin.class ≡ true
  pub held : (k : ℕ) → k < 16 → has fact.places (place.Field k) ≡ true → is_heavy_field p fr.method (place.Field k) ≡ true
      → (fact.mode ≡ modes.Held) × (is_heavy_class p origin.class ≡ true)
  pub outside : constructs (method_at p fr.method) ≡ false → reopens (method_at p fr.method) ≡ false → (k : ℕ) → k < 16 → has fact.places (place.Field k) ≡ true → fact.mode ≡ modes.Held

-- the place, which holds the object, is in a fact that claims nothing of it
pub record IsUnowned (p : Program) (h : HeapContents) (away anew : Bool) (old : ℕ → Bool) (frs : List Frame) (fr : Frame) (q : Place) (o : ℕ) (x : Object) : Type 0 where
  pub covers : Covers p h away anew old frs fr o x
  pub here : has covers.fact.places q ≡ true
  pub unowned : claims p (method_at p fr.method) covers.origin covers.fact ≡ false

-- The fact claims that the frame owns the object, or a field of `this`; where it says that the frame does, that is so unless it is given away; and no other fact claims
-- anything of it: each place that holds the object is in this fact, or in one that does not.
pub record IsOwned (p : Program) (h : HeapContents) (away anew : Bool) (old : ℕ → Bool) (frs : List Frame) (fr : Frame) (o : ℕ) (x : Object) (c : Covers p h away anew old frs fr o x) : Type 0 where
  pub owning : claims p (method_at p fr.method) c.origin c.fact ≡ true
  pub owner : away ≡ false → is_own c.fact.mode ≡ true → x.owner ≡ owners.Frame (length frs + 1)
  pub others : (q : Place) → IsSmall q → is_lent_place p fr q ≡ false → root_of h (place_value p h fr.method fr.locals q) ≡ Some o → (has c.fact.places q ≡ true) ⊎ IsUnowned p h away anew old frs fr q o x

-- the place is in such a fact
pub data IsKeyed (p : Program) (h : HeapContents) (away anew : Bool) (old : ℕ → Bool) (frs : List Frame) (fr : Frame) (q : Place) (o : ℕ) (x : Object) : Type 0 where
  owned : (c : Covers p h away anew old frs fr o x) → has c.fact.places q ≡ true → IsOwned p h away anew old frs fr o x c → IsKeyed p h away anew old frs fr q o x
  unowned : IsUnowned p h away anew old frs fr q o x → IsKeyed p h away anew old frs fr q o x

-- each place of the frame that holds an object whose class has an obligation, and that may owe a call, or of which a field owns something, is so. `gives` says which objects
-- are given away, and `renewed` which are read as objects whose obligation is created anew
abbrev pub IsCovered : Program → HeapContents → (ℕ → ClassId → Bool) → (ℕ → Owner → Bool) → (ℕ → Bool) → List Frame → Frame → Type 0
IsCovered p h gives renewed old frs fr = (q : Place) (o : ℕ) (x : Object) → IsSmall q → is_lent_place p fr q ≡ false → root_of h (place_value p h fr.method fr.locals q) ≡ Some o → object_at h o ≡ Some x
    → is_heavy_class p x.class ≡ true → OwesOrHolds p h o x → IsKeyed p h (gives o x.class) (renewed o x.owner) old frs fr q o x

-- the top frame gives nothing away
abbrev pub gives_none : ℕ → ClassId → Bool
gives_none o c = false

-- and creates no obligation anew
abbrev pub renews_none : ℕ → Owner → Bool
renews_none o owner = false

-- The frames that wait, where `above` was old for the frame above them: what was old for one of them is so for the one above.
abbrev pub AreWaiting : Program → HeapContents → (ℕ → Bool) → List Frame → Type 0
AreWaiting p h above [] = Unit {0}
AreWaiting p h above (fr ∷ frs) = (old : ℕ → Bool) × ((o : ℕ) → old o ≡ true → above o ≡ true) × IsOld p h frs fr old × IsCovered p h (is_given p h fr) (is_reread p h fr) old frs fr × AreWaiting p h old frs

-- the top frame, those that wait, and no frame above owns anything
abbrev pub AreCovered : Program → HeapContents → List Frame → Type 0
AreCovered p h [] = Unit {0}
AreCovered p h (fr ∷ frs) = (old : ℕ → Bool) × IsOld p h frs fr old × IsCovered p h gives_none renews_none old frs fr × AreWaiting p h old frs × OwnersBelow h (length frs + 1)
