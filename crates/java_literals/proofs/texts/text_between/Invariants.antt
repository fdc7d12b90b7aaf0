use Rattle.std.proofs.Common.{◌≡◌, ◌++◌, drop}
use Rattle.std.specs.Prelude.{option_map}
use Rattle.java_literals.specs.declared.texts.Within.TheVariants as within
use Rattle.java_literals.specs.Texts.{HasRoom, text_from}
use Rattle.java_literals.proofs.texts.text_between.Given as goal

-- the text so far, with what the bytes to come stand for behind it, is that of all bytes
abbrev pub invariant-each : goal.invariant-each
invariant-each l = record {
  read : option_map (λ more. l.text.items ++ more) (text_from (drop l.byte-index l.bytes) l.state) ≡ text_from l.bytes within.Plain;
  room : HasRoom l.state;
}
