use Rattle.std.proofs.Common.{◌≡◌, ◌∙◌, sym, ap, subst, List, ℕ, [], ◌∷◌, ◌++◌, length}
use Rattle.std.specs.List.{slice_get}
use Rattle.rlc_base.specs.Names.{texts, Lacks}
use Rattle.rlc_base.proofs.TableLemmas.{texts-insert, pushed_text, IsTable-push}
use Rattle.rlc_base.proofs.name_table.put_last.Goals as goal

pub returns-clause-ok : goal.returns-clause-ok
returns-clause-ok c =
    let copied : c.in_ok-key.key.items ≡ c.args.name.now = c.in_ok-key.ensures.items_if_clones_equal (λ x y same. same) in
    let IsNew : List ℕ → Type 0 = Lacks (texts c.args.table.now.keys) in
    let new = subst IsNew (sym copied) c.requires.new in
    ap texts c.in_ok-insert.ensures.keys ∙ texts-insert c.args.table.now.keys c.in_ok-key.key new ∙ ap (λ t. texts c.args.table.now.keys ++ t ∷ []) copied

pub returns-clause-last : goal.returns-clause-last
returns-clause-last c = ap (λ names. slice_get names (length (texts c.args.table.now.keys))) (returns-clause-ok c) ∙ pushed_text (texts c.args.table.now.keys) c.args.name.now

pub returns-clause-table : goal.returns-clause-table
returns-clause-table c = rw (returns-clause-ok c) (IsTable-push _ _ c.requires.table c.requires.new c.requires.room)
