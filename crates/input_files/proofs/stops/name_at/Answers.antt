use Rattle.std.proofs.Common.{rules, string_bytes, Global}
use Rattle.input_files.proofs.PlaceLaws.{slice_get_map}
use Rattle.input_files.proofs.stops.name_at.Goals as goal

pub returns : goal.returns
returns c =
    let there = slice_get_map (string_bytes {Z = Global}) c.args.names.now c.args.at c.index-names-at.result c.requires c.index-names-at.is in
    search (rules, there)
