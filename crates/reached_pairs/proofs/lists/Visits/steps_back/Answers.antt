-- The walk back comes to one earlier visit after another.
use Rattle.std.proofs.Common.{◌≡◌, ◌∙◌, ap, arith, subst, sym, List, None, Some}
use Rattle.std.proofs.lemmas.Option.{slice_get-get_or}
use Rattle.breadth_first.specs.Searches.{IsAt}
use Rattle.reached_pairs.specs.declared.visit.Source.{Source as Step}
use Rattle.reached_pairs.specs.Trails.{IsBack}
use Rattle.reached_pairs.proofs.TrailLaws.{back_more}
use Rattle.reached_pairs.proofs.lists.Visits.steps_back.Goals as goal

pub back-preserved : goal.back-preserved
back-preserved c =
    let steps = c.args.self.now.sources.items in
    let here : IsAt steps c.back.place (Some c.in-Some.source) = slice_get-get_or steps c.back.place c.index.result.now c.back.invariant.within ∙ ap Some (sym c.index.ensures ∙ c.in-Some.is) in
    record {
      back = subst (λ (xs : List Step). IsBack steps xs c.args.at c.in-Some.source.visit) (sym c.in_ok-push.ensures.items) (back_more steps c.back.back.items c.args.at c.back.place c.in-Some.source c.back.invariant.back here);
      within = let low = c.requires.behind c.back.place c.in-Some.source here in let inside = c.back.invariant.within in omega (arith, low, inside);
    }

pub returns : goal.returns
returns c =
    let none : c.index.result.now ≡ None = (let h = c.in_default.is in cc) in
    (c.back.place, (c.back.invariant.back, slice_get-get_or c.args.self.now.sources.items c.back.place c.index.result.now c.back.invariant.within ∙ ap Some (sym c.index.ensures ∙ none)))
