-- The search begins with the class, and goes on from each class that it finds.
use Rattle.std.proofs.Common.{◌∙◌, sym, subst, length, arith, List, All, ◌<◌}
use Rattle.std.proofs.lemmas.List.{length-map}
use Rattle.program_model.specs.declared.kinds.ClassId.{ClassId}
use Rattle.class_names.specs.ClassNames.{rows_in}
use Rattle.class_headers.specs.Search.{AreMarked, Grows}
use Rattle.class_headers.proofs.SearchLemmas.{above_within, search_done, search_start, search_step}
use Rattle.class_headers.proofs.search.search.Goals as goal

pub put-requires-clause-marked : goal.put-requires-clause-marked
put-requires-clause-marked c = subst (λ (xs : List ClassId). AreMarked xs c.args.marks.now.items) (sym c.new-found.ensures.items) c.requires.clear

pub search-init : goal.search-init
search-init c =
    search_start (rows_in c.args.direct.now) c.args.class c.new-found.result.items c.put.new.found.items c.put.new.marks.items c.new-found.ensures.items c.in_ok-put.ensures.grows c.in_ok-put.ensures.marked
    (c.in_ok-put.ensures.length ∙ c.requires.long ∙ sym (length-map c.args.direct.now (λ r. r.items)))

pub put_all-requires-clause-within : goal.put_all-requires-clause-within
put_all-requires-clause-within c =
    let P : List ClassId → Type 0 = All (λ x. x.0 < length c.search.marks.items) in
    subst P (sym c.right_above.ensures) (above_within (rows_in c.args.direct.now) c.index-next.result.now (length c.search.marks.items) c.requires.known (sym c.search.invariant.long))

pub search-preserved : goal.search-preserved
search-preserved c =
    let test = c.search-test.true in
    let count = c.len.ensures in
    let inside : c.search.at < length c.search.found.items = omega arith in
    let G : List ClassId → Type 0 = Grows c.search.found.items c.put_all.new.found.items in
    search_step (rows_in c.args.direct.now) c.args.class c.index-next.result.now c.search.found.items c.put_all.new.found.items c.search.marks.items c.put_all.new.marks.items c.search.at
    c.search.invariant inside c.index-next.ensures (subst G c.right_above.ensures c.in_ok-put_all.ensures.grows) c.in_ok-put_all.ensures.marked c.in_ok-put_all.ensures.length

pub returns-clause-found : goal.returns-clause-found
returns-clause-found c =
    let test = c.search-test.false in
    let count = c.len.ensures in
    search_done (rows_in c.args.direct.now) c.args.class c.search.found.items c.search.marks.items c.search.at c.search.invariant (omega arith)

pub returns-clause-length : goal.returns-clause-length
returns-clause-length c = c.search.invariant.long ∙ length-map c.args.direct.now (λ r. r.items) ∙ sym c.requires.long
