use Rattle.std.proofs.Common.{◌<◌, ap, get_or, length, arith}
use Rattle.draft_stages.proofs.AliasLaws.{aliases_next}
use Rattle.draft_stages.proofs.aliases.add_aliases.Goals as goal

pub places-preserved : goal.places-preserved
places-preserved c =
    let within : c.places.place < length c.places.among.keys = omega (arith, c.len.ensures.len, c.if-place-len.false) in
    aliases_next c.args.index.now c.args.among.now.keys c.places.among.keys c.add_numbers.new.among.keys c.aliases_of-aliases.result.now c.places.place (get_or c.as_slice.result.now c.places.place 0) 0 within
    (ap (λ ks. get_or ks c.places.place 0) c.as_slice.ensures.keys) c.aliases_of-aliases.ensures c.in_ok-add_numbers.ensures c.places.invariant
