use Rattle.std.proofs.Common.{◌≡◌, ◌≤◌, ◌+◌, map, string_bytes, take}
use Rattle.source_files.specs.Reading.{AreContents, total_of, max_text}
use Rattle.source_files.proofs.reading.read_all.Given as goal

-- the first files were read, and no fault was counted
abbrev pub invariant-each : goal.invariant-each
invariant-each g l = record {
  told : g.F.Files.contents l.files ≡ g.F.Files.contents l.initial.files;
  texts : AreContents (g.F.Files.contents l.initial.files) (map string_bytes (take l.name-index l.names)) l.texts.items;
  total : l.total ≡ l.held + total_of l.texts.items;
  few : l.total ≤ max_text;
  no_fault : g.F.Files.faults l.files ≡ g.F.Files.faults l.initial.files;
  taken : g.F.Files.taken l.initial.files ≤ g.F.Files.taken l.files;
  sound : g.F.Files.sound l.initial.files → g.F.Files.sound l.files;
}
