-- The marks of one declaration.
use Rattle.std.specs.Prelude.{ℕ, ◌+◌, List, ◌++◌, length, nat_le, ◌&&◌}
use Rattle.asm_lang.specs.Modules.{Variable, Function, Table, Module}
use Rattle.asm_lang_valid.specs.declared.rule.Rule.TheVariants.{PastLimit}
use Rattle.asm_lang_valid.specs.Rows.{need}
use Rattle.asm_lang_valid.specs.LimitRows.{Mark, rows_of, counted, names_marks, member_length, most_functions, most_params, most_locals, most_globals, longest_name, most_members, most_entries}

abbrev pub global_marks : Module → ℕ → ℕ → Variable → List Mark
global_marks m before at v = counted before most_globals at ++ rows_of (need (nat_le (member_length m v.init) longest_name) PastLimit at)

abbrev pub table_marks : ℕ → ℕ → Table → List Mark
table_marks before at t = rows_of (need (nat_le (length t.members) most_members && nat_le (before + length t.members) most_entries) PastLimit at)

-- those of a function before its body
abbrev pub heading_marks : ℕ → ℕ → Function → List Mark
heading_marks before at f = counted before most_functions at ++ (names_marks 0 most_params (at + 1) f.params ++ names_marks (length f.params) most_locals (at + 1 + length f.params) f.locals)
