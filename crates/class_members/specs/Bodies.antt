-- Which methods have a body in a class. A method that a class of a stub declares counts as having one, whether it is
-- abstract or not. One of an interface has none, but where a class of a stub stands for it.
use Rattle.std.specs.Prelude.{Bool, ◌&&◌, ◌||◌, not, if◌then◌else◌}
use Rattle.program_model.specs.declared.kinds.ClassId.{ClassId}
use Rattle.program_model.specs.declared.program.Program.{Program}
use Rattle.program_model.specs.declared.program.Method.{Method}
use Rattle.program_model.specs.Overrides.{is_carried, is_interface, is_library}

-- the method, which the class declares or has from above, has a body in it
abbrev pub has_body : Program → ClassId → Method → Bool
has_body p c m = if is_interface p m.class then is_carried p c m.class else not m.is_abstract || is_library p m.class

-- in `c`, the body of `n` goes before that of `m`: `m` has none, or `n` is declared by a class and `m` by an interface
-- (JLS 8.4.8)
abbrev pub goes_before : Program → ClassId → Method → Method → Bool
goes_before p c n m = has_body p c n && (not (has_body p c m) || (is_interface p m.class && not (is_interface p n.class)))
