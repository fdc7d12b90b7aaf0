-- One of the classes that are found says a name.
use Rattle.std.proofs.Common.{◌∙◌, ap, map}
use Rattle.std.specs.List.{list_any}
use Rattle.class_names.specs.ClassNames.{rows_in}
use Rattle.class_headers.specs.SuperTypes.{supers_of}
use Rattle.super_obligations.specs.Obligations.{says_name}
use Rattle.super_obligations.proofs.ObligationLemmas.{obligation_law}
use Rattle.super_obligations.proofs.obligations.has_obligation.Goals as goal

pub returns-clause-has : goal.returns-clause-has
returns-clause-has c =
    let sets = c.args.sets.now in
    obligation_law sets.owns.now (map supers_of sets.supers.now) (rows_in sets.sources.now) c.in_ok-found.found.items c.args.class c.any_says_name.result
    c.requires.sources (c.any_says_name.ensures ∙ ap (list_any (says_name sets.owns.now)) c.deref.ensures.value) c.in_ok-found.ensures.found
