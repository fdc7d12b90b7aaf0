-- The lines of the ledger: an object is written as `#` and its number, and the rest as in all texts of a program.
use Rattle.std.specs.Prelude.{ℕ, List, ◌++◌, codes, decimal}
use Rattle.program_model.specs.declared.kinds.ClassId.{ClassId}
use Rattle.program_model.specs.declared.program.Program.{Program}
use Rattle.rlc_base.specs.declared.place.Pos.{Pos}
use Rattle.program_texts.specs.Texts.{class_text, field_text, name_text, place_text}
use Rattle.ledger_state.specs.declared.entry.Entry.{Entry}
use Rattle.ledger_state.specs.declared.entry.Entry.TheVariants as entries
use Rattle.ledger_state.specs.declared.entry.LeakWord.{LeakWord}
use Rattle.ledger_state.specs.declared.entry.LeakWord.TheVariants as words
use Rattle.ledger_state.specs.declared.entry.Owner.{Owner}
use Rattle.ledger_state.specs.declared.entry.Owner.TheVariants as owners

-- no line of the ledger has one of the last three
abbrev pub owner_text : Program → Owner → List ℕ
owner_text p (owners.Frame j) = codes "frame " ++ decimal j
owner_text p (owners.Field w f) = codes "field #" ++ (decimal w ++ (codes "." ++ field_text p f))
owner_text p owners.Library = codes "library"
owner_text p owners.Released = codes "released"
owner_text p owners.Lost = codes "lost"
owner_text p owners.Unowned = codes "unowned"

abbrev pub leak_text : LeakWord → List ℕ
leak_text words.Overwritten = codes "overwritten"
leak_text words.Exit = codes "exit"
leak_text words.Lost = codes "lost"
leak_text words.ConstructorThrow = codes "ctor.throw"

-- the first words of a line: what happened to which object
abbrev pub start : List ℕ → ℕ → List ℕ
start word k = word ++ (codes " #" ++ decimal k)

abbrev pub birth_text : Program → ℕ → ClassId → Owner → List ℕ
birth_text p k c o = start (codes "born") k ++ (codes " " ++ (class_text p c ++ (codes " " ++ owner_text p o)))

abbrev pub link_text : Program → ℕ → ClassId → ℕ → List ℕ
link_text p k c j = start (codes "linked") k ++ (codes " " ++ (class_text p c ++ (codes " to #" ++ decimal j)))

-- what happened, without the place
abbrev pub event_text : Program → Entry → List ℕ
event_text p (entries.Born k c o pos) = birth_text p k c o
event_text p (entries.Linked k c j pos) = link_text p k c j
event_text p (entries.Called k n pos) = start (codes "called") k ++ (codes " " ++ name_text p n)
event_text p (entries.Owner k o pos) = start (codes "owner") k ++ (codes " " ++ owner_text p o)
event_text p (entries.Reset k pos) = start (codes "reset") k
event_text p (entries.Leak k word pos) = start (codes "leak") k ++ (codes " " ++ leak_text word)

-- where it happened
abbrev pub place_of : Entry → Pos
place_of (entries.Born k c o pos) = pos
place_of (entries.Linked k c j pos) = pos
place_of (entries.Called k n pos) = pos
place_of (entries.Owner k o pos) = pos
place_of (entries.Reset k pos) = pos
place_of (entries.Leak k word pos) = pos

abbrev pub line_end : List (List ℕ) → Pos → List ℕ
line_end files pos = codes " at " ++ (place_text files pos ++ codes "\n")

-- the line of an entry
abbrev pub entry_line : Program → List (List ℕ) → Entry → List ℕ
entry_line p files e = event_text p e ++ line_end files (place_of e)
