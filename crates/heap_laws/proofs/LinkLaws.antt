-- The links of a heap, and its objects, over the changes that calls and their ends make.
use Rattle.std.proofs.Common.{◌≡◌, ◌⊎◌, inl, inr, ℕ, ◌+◌, Bool, true, false, true≢false, not, ◌&&◌, Option, Some, None, List, option_map, nat_eq, refl, sym, ap, ◌∙◌, if◌then◌else◌, arith, eqb-true}
use Rattle.program_model.specs.declared.kinds.ClassId.{ClassId}
use Rattle.program_model.specs.declared.kinds.VType.{VType}
use Rattle.program_model.specs.declared.program.ParamSig.{ParamSig}
use Rattle.program_model.specs.declared.program.Program.{Program}
use Rattle.ledger_state.specs.Contents.{HeapContents}
use Rattle.ledger_state.specs.Heaps.{append, change_each, change_one, change_some, next_number, object_at, only_at, root_of, unfinished}
use Rattle.ledger_state.specs.declared.entry.Owner.{Owner}
use Rattle.ledger_state.specs.declared.entry.Owner.TheVariants as owners
use Rattle.ledger_state.specs.declared.object.Link.{Link}
use Rattle.ledger_state.specs.declared.object.Object.{Object}
use Rattle.ledger_state.specs.declared.value.Value.{Value}
use Rattle.ledger_obligations.specs.declared.note.Note.{Note}
use Rattle.ledger_obligations.specs.Obligations.{all_notes, end_frame, end_holder, given_up, given_up_by_frame, given_up_by_holder, is_frame, is_held_by, is_unmet, lose, lost_object, may_move, move, moved_to, noted, noted_object, owner_holds, with_owner}
use Rattle.ledger_steps.specs.LedgerCallsCalls.{move_params}
use Rattle.heap_laws.specs.Heaps.{Evolves, GoesOn, HasEarlierLinks}
use Rattle.heap_laws.proofs.EndLaws.{changed_back, given_up_goes_on}
use Rattle.heap_laws.proofs.MoveLaws.{moved_back, params_caused, params_older}
use Rattle.heap_laws.proofs.NoteLaws.{noted_goes_on}
use Rattle.heap_laws.proofs.ObjectLaws.{appended_at, changed_at, goes_on_self, in_range}
use Rattle.heap_laws.proofs.RootLaws.{earlier_links_go_on, root_is_not_linked}

unlinked_is_not : (x : Object) (l : Link) → x.link ≡ None → x.link ≡ Some l → ⊥
unlinked_is_not x l none some = let never : None ≡ Some l = sym none ∙ some in cc

-- ---- moves

pub moved_links : (p : Program) (o : Owner) (arguments : ℕ → Value) (k : ℕ) (params : List ParamSig) (h : HeapContents) → HasEarlierLinks h → HasEarlierLinks (move_params p o arguments k params h)
moved_links p o arguments k params h links = earlier_links_go_on h (move_params p o arguments k params h) links (λ n y l at link.
    (let old = params_older p o arguments k params h n y at in
    let was : old.before.link ≡ Some l = sym old.goes_on.link ∙ link in
    (old.before, old.at, was, owner n old.before y l old.at at was, old.goes_on.finished)))
  where
    owner : (n : ℕ) (x y : Object) (l : Link) → object_at h n ≡ Some x → object_at (move_params p o arguments k params h) n ≡ Some y → x.link ≡ Some l → y.owner ≡ x.owner
    owner n x y l before at link = elim (params_caused p o arguments k params h n x y before at) [
      | inl same ↦ same
      | inr given ↦ absurd (unlinked_is_not x l (root_is_not_linked h (arguments (k + given.index)) n x links given.root before) link)
    ]

pub value_links : (p : Program) (t : VType) (o : Owner) (v : Value) (h : HeapContents) → HasEarlierLinks h → HasEarlierLinks (move p t o v h)
value_links p t o v h links = earlier_links_go_on h (move p t o v h) links (λ n y l at link.
    (let old = moved_back p t o v h n y at in
    let was : old.0.link ≡ Some l = sym old.2.0.link ∙ link in (
      old.0,
      old.1,
      was,
      elim old.2.1 [
        | inl same ↦ same
        | inr moved ↦ absurd (unlinked_is_not old.0 l (root_is_not_linked h v n old.0 links moved.1 old.1) was)
      ],
      old.2.0.finished,
    )))

-- ---- objects that are made

-- an object of the heap with one object more is that one, or was there
pub appended_back : (h : HeapContents) (c : ClassId) (n : ℕ) (x : Object) → object_at (append h c) n ≡ Some x → ((n ≡ next_number h) × (x ≡ unfinished c)) ⊎ (object_at h n ≡ Some x)
appended_back h c n x at = go (nat_eq n (next_number h)) refl (sym (appended_at h c n) ∙ at)
  where
    go : (b : Bool) → nat_eq n (next_number h) ≡ b → (if b then Some (unfinished c) else object_at h n) ≡ Some x → ((n ≡ next_number h) × (x ≡ unfinished c)) ⊎ (object_at h n ≡ Some x)
    go true is same = inl (eqb-true n (next_number h) is, (let one : x ≡ unfinished c = cc in one))
    go false is same = inr same

pub appended_links : (h : HeapContents) (c : ClassId) → HasEarlierLinks h → HasEarlierLinks (append h c)
appended_links h c links n y l at link = elim (appended_back h c n y at) [
  | inl new ↦ absurd (unlinked_is_not y l (ap (λ (z : Object). z.link) new.1) link)
  | inr old ↦ links n y l old link
]

pub appended_evolves : (h : HeapContents) (c : ClassId) → Evolves h (append h c)
appended_evolves h c n x at = (x, appended_at h c n ∙ go (nat_eq n (next_number h)) refl, goes_on_self x)
  where
    go : (b : Bool) → nat_eq n (next_number h) ≡ b → (if b then Some (unfinished c) else object_at h n) ≡ Some x
    go true is = absurd (let below = (in_range h n x at).1 in let here = eqb-true n (next_number h) is in omega (arith, below, here))
    go false is = at

-- ---- changes of each object

-- each object goes on, and one that nobody owns keeps its owner
abbrev pub LeavesUnowned : (ℕ → Object → Object) → Type 0
LeavesUnowned f = (n : ℕ) (x : Object) → GoesOn x (f n x) × (x.owner ≡ owners.Unowned → (f n x).owner ≡ owners.Unowned)

pub each_links : (f : ℕ → Object → Object) (h : HeapContents) → LeavesUnowned f → HasEarlierLinks h → HasEarlierLinks (change_each f h)
each_links f h leaves links n y l at link =
    let x = changed_back f h n y at in
    let was : x.0.link ≡ Some l = sym (leaves n x.0).0.link ∙ ap (λ (z : Object). z.link) x.2 ∙ link in
    let is = links n x.0 l x.1 was in
    record {
      there = is.there;
      before = is.before;
      owner = ap (λ (z : Object). z.owner) (sym x.2) ∙ (leaves n x.0).1 is.owner;
      finished = ap (λ (z : Object). z.finished) (sym x.2) ∙ (leaves n x.0).0.finished ∙ is.finished;
    }

pub each_evolves : (f : ℕ → Object → Object) (h : HeapContents) → LeavesUnowned f → Evolves h (change_each f h)
each_evolves f h leaves n x at = (f n x, changed_at f h n ∙ ap (option_map (f n)) at, (leaves n x).0)

noted_leaves : (notes : List Note) → LeavesUnowned (noted_object notes)
noted_leaves notes n x = (noted_goes_on notes n x, λ none. none)

given_up_where : (b : Bool) (x : Object) → (x.owner ≡ owners.Unowned → b ≡ false) → GoesOn x (if b then given_up x else x) × (x.owner ≡ owners.Unowned → (if b then given_up x else x).owner ≡ owners.Unowned)
given_up_where true x never = (given_up_goes_on x, λ none. absurd (true≢false (never none)))
given_up_where false x never = (goes_on_self x, λ none. none)

frame_leaves : (j : ℕ) → LeavesUnowned (given_up_by_frame j)
frame_leaves j n x = given_up_where (is_frame x.owner j) x (λ none. ap (λ (o : Owner). is_frame o j) none)

holder_leaves : (w : ℕ) → LeavesUnowned (given_up_by_holder w)
holder_leaves w n x = given_up_where (is_held_by x.owner w) x (λ none. ap (λ (o : Owner). is_held_by o w) none)

lost_leaves : (h : HeapContents) (held : List (List Value)) → LeavesUnowned (lost_object h held)
lost_leaves h held n x = go (is_unmet x) (owner_holds h held x.owner n) (λ none. ap (λ (o : Owner). owner_holds h held o n) none)
  where
    go : (b c : Bool) → (x.owner ≡ owners.Unowned → c ≡ true)
        → GoesOn x (if b && not c then with_owner owners.Lost x else x) × (x.owner ≡ owners.Unowned → (if b && not c then with_owner owners.Lost x else x).owner ≡ owners.Unowned)
    go true true held' = (goes_on_self x, λ none. none)
    go true false held' = (record { class = refl; link = refl; finished = refl; must = refl; called = (goes_on_self x).called }, λ none. absurd (true≢false (sym (held' none))))
    go false c held' = (goes_on_self x, λ none. none)

pub noted_links : (p : Program) (notes : List Note) (h : HeapContents) → HasEarlierLinks h → HasEarlierLinks (noted p notes h)
noted_links p notes h = each_links (noted_object (all_notes p h notes)) h (noted_leaves (all_notes p h notes))

pub frame_links : (j : ℕ) (h : HeapContents) → HasEarlierLinks h → HasEarlierLinks (end_frame j h)
frame_links j h = each_links (given_up_by_frame j) h (frame_leaves j)

pub frame_evolves : (j : ℕ) (h : HeapContents) → Evolves h (end_frame j h)
frame_evolves j h = each_evolves (given_up_by_frame j) h (frame_leaves j)

pub holder_links : (w : Option ℕ) (h : HeapContents) → HasEarlierLinks h → HasEarlierLinks (end_holder w h)
holder_links None h links = links
holder_links (Some w) h links = each_links (given_up_by_holder w) h (holder_leaves w) links

pub holder_evolves : (w : Option ℕ) (h : HeapContents) → Evolves h (end_holder w h)
holder_evolves None h n x at = (x, at, goes_on_self x)
holder_evolves (Some w) h n x at = each_evolves (given_up_by_holder w) h (holder_leaves w) n x at

pub lost_links : (held : List (List Value)) (h : HeapContents) → HasEarlierLinks h → HasEarlierLinks (lose held h)
lost_links held h = each_links (lost_object h held) h (lost_leaves h held)

pub lost_evolves : (held : List (List Value)) (h : HeapContents) → Evolves h (lose held h)
lost_evolves held h = each_evolves (lost_object h held) h (lost_leaves h held)

-- one value moves: each object goes on
pub value_evolves : (p : Program) (t : VType) (o : Owner) (v : Value) (h : HeapContents) → Evolves h (move p t o v h)
value_evolves p t o v h n x at = go (root_of h v) refl
  where
    one : (r : ℕ) → (y : Object) × (object_at (change_one r (moved_to p t o) h) n ≡ Some y) × GoesOn x y
    one r = (only_at r (moved_to p t o) n x, changed_at (only_at r (moved_to p t o)) h n ∙ ap (option_map (only_at r (moved_to p t o) n)) at, by_number (nat_eq n r) (may_move p t x))
      where
        by_number : (b c : Bool) → GoesOn x (if b then (if c then with_owner o x else x) else x)
        by_number true true = record { class = refl; link = refl; finished = refl; must = refl; called = (goes_on_self x).called }
        by_number true false = goes_on_self x
        by_number false c = goes_on_self x

    go : (r : Option ℕ) → root_of h v ≡ r → (y : Object) × (object_at (change_some r (moved_to p t o) h) n ≡ Some y) × GoesOn x y
    go None is = (x, at, goes_on_self x)
    go (Some r) is = one r
