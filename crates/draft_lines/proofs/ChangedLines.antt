-- The lines between two heaps are those of the changes from one to the other.
use Rattle.std.proofs.Common.{◌≡◌, ◌∙◌, ap, sym, refl, ℕ, suc, ◌+◌, Bool, true, false, not, ◌&&◌, nat_eq, Option, Some, None, List, [], ◌∷◌, arith}
use Rattle.std.proofs.lemmas.Grind.{common_steps}
use Rattle.std.specs.Prelude.{filter, map, slice_get}
use Rattle.std.specs.Cmp.{nat_cmp_total}
use Rattle.std.specs.FinSet as set
use Rattle.program_model.specs.declared.program.Program.{Program}
use Rattle.program_model.specs.Lookups.{optional}
use Rattle.rlc_base.specs.declared.name_id.NameId.{NameId}
use Rattle.rlc_base.specs.declared.place.Pos.{Pos}
use Rattle.ledger_state.specs.declared.entry.Entry.{Entry}
use Rattle.ledger_state.specs.declared.entry.LeakWord.{LeakWord}
use Rattle.ledger_state.specs.declared.entry.Owner.{Owner}
use Rattle.ledger_state.specs.declared.entry.Owner.TheVariants as owners
use Rattle.ledger_state.specs.declared.object.Object.{Object}
use Rattle.ledger_state.specs.Contents.{HeapContents}
use Rattle.ledger_state.specs.Heaps.{is_reached, object_at}
use Rattle.ledger_entries.specs.Entries.{birth_entries, birth_in, birth_line, called_entries, called_in, called_line, called_lines, heavy_lines, is_among, is_lost, is_owned, leak_entries, leak_in, leak_line, lines, names_in_order, new_names, owner_entries, owner_in, owner_line, reset_entries, reset_in, same_owner}
use Rattle.draft_lines.specs.declared.change.ObjectChange.{ObjectChange}
use Rattle.draft_lines.specs.DraftLines.{AllBetween, AllReset, Changes, IsReset, ResetBy, birth_by, birth_changes, called_by, called_changes, lines_of_change, lines_of_changes, owner_by, owner_changes, reset_by, reset_changes}
use Rattle.draft_lines.proofs.RisingLines.{AllHave, lines_at, lines_rising}

-- An object that stays has no line

no_leak : (w : LeakWord) (pos : Pos) (k : ℕ) (x : Object) → optional (leak_line w pos (Some x) k x) ≡ []
no_leak w pos k x = go (is_lost x.owner) refl
  where
    go : (b : Bool) → is_lost x.owner ≡ b → optional (leak_line w pos (Some x) k x) ≡ []
    go true e = rw e refl
    go false e = rw e refl

no_birth : (pos : Pos) (k : ℕ) (x : Object) → optional (birth_line pos (Some x) k x) ≡ []
no_birth pos k x = go x.finished refl
  where
    go : (b : Bool) → x.finished ≡ b → optional (birth_line pos (Some x) k x) ≡ []
    go true e = rw e refl
    go false e = rw e refl

same_number : (k : ℕ) → nat_eq k k ≡ true
same_number k = grind (arith, common_steps)

owned_same : (o : Owner) → (is_owned o && not (same_owner o o)) ≡ false
owned_same (owners.Frame j) = rw same_number refl
owned_same (owners.Field w f) = rw same_number (rw same_number refl)
owned_same owners.Library = refl
owned_same owners.Released = refl
owned_same owners.Lost = refl
owned_same owners.Unowned = refl

no_owner : (pos : Pos) (k : ℕ) (x : Object) → optional (owner_line pos (Some x) k x) ≡ []
no_owner pos k x = rw (owned_same x.owner) refl

filter_none : {X : Type 0} (test : X → Bool) (xs : List X) → ((x : X) → test x ≡ false) → filter test xs ≡ []
filter_none test [] none = refl
filter_none test (x ∷ xs) none = rw (none x) (filter_none test xs none)

and_not : (b : Bool) → (b && not b) ≡ false
and_not true = refl
and_not false = refl

no_name : (pos : Pos) (names : List NameId) (k : ℕ) (x : Object) → called_lines pos names (new_names (Some x) x) k ≡ []
no_name pos names k x =
    ap (map (called_line k pos)) (filter_none (is_among (set.difference x.called x.called)) names (λ n. set.contains-difference nat_cmp_total x.called x.called n.0 ∙ and_not (set.contains x.called n.0)))

-- Lines that an object has by what it was before

-- the object in the heap `g` has the lines of its change
one_has : (p : Program) (line : ℕ → Object → List Entry) (by : ObjectChange → List Entry) (h g : HeapContents) (c : ObjectChange) → object_at g c.number ≡ Some c.after → line c.number c.after ≡ by c → (i : ℕ) → c.number ≡ 0 + 1 + i → lines_at p line c.number (slice_get g.objects i) ≡ Some (lines_of_change p by c)
one_has p line by h g c found is i at =
    let n : c.number ≡ suc i = omega (arith, at) in
    let there : slice_get g.objects i ≡ Some c.after = ap (object_at g) (sym n) ∙ found in
    ap (lines_at p line c.number) there ∙ ap (λ es. Some (heavy_lines p c.after.class es)) is

all_have : (p : Program) (line : ℕ → Object → List Entry) (by : ObjectChange → List Entry) (h g : HeapContents) (cs : List ObjectChange) → ((c : ObjectChange) → object_at h c.number ≡ c.before → line c.number c.after ≡ by c) → AllBetween h g cs → AllHave p line (lines_of_change p by) 0 g.objects cs
all_have p line by h g [] is between = tt
all_have p line by h g (c ∷ cs) is between =
    (one_has p line by h g c between.0.1 (is c between.0.0), all_have p line by h g cs is between.1)

pub lines_between : (p : Program) (line : ℕ → Object → List Entry) (by : ObjectChange → List Entry) (h g : HeapContents) (cs : List ObjectChange) → ((c : ObjectChange) → object_at h c.number ≡ c.before → line c.number c.after ≡ by c) → ((k : ℕ) (x : Object) → object_at h k ≡ Some x → line k x ≡ []) → Changes h g cs → lines p line g ≡ lines_of_changes p by cs
lines_between p line by h g cs is quiet changes =
    lines_rising p line (lines_of_change p by) 0 g.objects cs changes.rises (all_have p line by h g cs is changes.between)
    (λ i x found none.
    let n : 0 + 1 + i ≡ suc i = omega arith in
    let there : object_at g (0 + 1 + i) ≡ Some x = ap (object_at g) n ∙ found in
    quiet (0 + 1 + i) x (changes.others (0 + 1 + i) x there none))

pub called_between : (p : Program) (pos : Pos) (h g : HeapContents) (cs : List ObjectChange) → Changes h g cs → called_entries p pos h g ≡ called_changes p pos cs
called_between p pos h g cs changes =
    lines_between p (called_in p pos h) (called_by p pos) h g cs
    (λ c was. ap (λ o. called_lines pos (names_in_order p) (new_names o c.after) c.number) was)
    (λ k x was. ap (λ o. called_lines pos (names_in_order p) (new_names o x) k) was ∙ no_name pos (names_in_order p) k x)
    changes

pub owner_between : (p : Program) (pos : Pos) (h g : HeapContents) (cs : List ObjectChange) → Changes h g cs → owner_entries p pos h g ≡ owner_changes p pos cs
owner_between p pos h g cs changes =
    lines_between p (owner_in pos h) (owner_by pos) h g cs
    (λ c was. ap (λ o. optional (owner_line pos o c.number c.after)) was)
    (λ k x was. ap (λ o. optional (owner_line pos o k x)) was ∙ no_owner pos k x)
    changes

pub birth_between : (p : Program) (pos : Pos) (h g : HeapContents) (cs : List ObjectChange) → Changes h g cs → birth_entries p pos h g ≡ birth_changes p pos cs
birth_between p pos h g cs changes =
    lines_between p (birth_in pos h) (birth_by pos) h g cs
    (λ c was. ap (λ o. optional (birth_line pos o c.number c.after)) was)
    (λ k x was. ap (λ o. optional (birth_line pos o k x)) was ∙ no_birth pos k x)
    changes

-- the leaks, line by line
abbrev pub leak_line_by : LeakWord → Pos → ObjectChange → List Entry
leak_line_by word pos c = optional (leak_line word pos c.before c.number c.after)

pub leak_lines_between : (p : Program) (word : LeakWord) (pos : Pos) (h g : HeapContents) (cs : List ObjectChange) → Changes h g cs → leak_entries p word pos h g ≡ lines_of_changes p (leak_line_by word pos) cs
leak_lines_between p word pos h g cs changes =
    lines_between p (leak_in word pos h) (leak_line_by word pos) h g cs
    (λ c was. ap (λ o. optional (leak_line word pos o c.number c.after)) was)
    (λ k x was. ap (λ o. optional (leak_line word pos o k x)) was ∙ no_leak word pos k x)
    changes

-- Resets

one_reset : (p : Program) (pos : Pos) (h : HeapContents) (roots : List ℕ) (c : ObjectChange) (o : Option Object) → object_at h c.number ≡ o → IsReset h roots c o → (i : ℕ) → c.number ≡ 0 + 1 + i → lines_at p (reset_in pos h roots) c.number (slice_get h.objects i) ≡ Some (lines_of_change p (reset_by pos) c)
one_reset p pos h roots c None found is i at = absurd is
one_reset p pos h roots c (Some x) found is i at =
    let n : c.number ≡ suc i = omega (arith, at) in
    let there : slice_get h.objects i ≡ Some x = ap (object_at h) (sym n) ∙ found in
    ap (lines_at p (reset_in pos h roots) c.number) there
    ∙ ap (λ class. Some (heavy_lines p class (reset_in pos h roots c.number x))) is.0
    ∙ rw is.1 refl

all_reset : (p : Program) (pos : Pos) (h : HeapContents) (roots : List ℕ) (cs : List ObjectChange) → AllReset h roots cs → AllHave p (reset_in pos h roots) (lines_of_change p (reset_by pos)) 0 h.objects cs
all_reset p pos h roots [] reset = tt
all_reset p pos h roots (c ∷ cs) reset = (one_reset p pos h roots c (object_at h c.number) refl reset.0, all_reset p pos h roots cs reset.1)

pub reset_between : (p : Program) (pos : Pos) (h : HeapContents) (roots : List ℕ) (cs : List ObjectChange) → ResetBy h roots cs → reset_entries p pos roots h ≡ reset_changes p pos cs
reset_between p pos h roots cs by =
    lines_rising p (reset_in pos h roots) (lines_of_change p (reset_by pos)) 0 h.objects cs by.rises (all_reset p pos h roots cs by.reset)
    (λ i x found none.
    let n : 0 + 1 + i ≡ suc i = omega arith in
    let there : object_at h (0 + 1 + i) ≡ Some x = ap (object_at h) n ∙ found in
    let not_reached : is_reached h roots (0 + 1 + i) ≡ false = by.others (0 + 1 + i) x there none in
    rw not_reached refl)
