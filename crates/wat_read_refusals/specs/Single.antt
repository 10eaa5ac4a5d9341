-- What one token adds to the rows.
use Rattle.std.specs.Prelude.{ℕ, Bool, false, ◌&&◌, not, List, [], ◌∷◌, nat_lt, if◌then◌else◌}
use Rattle.std.specs.Str.{is_utf8}
use Rattle.wasm_lang.specs.Limits.{most_entries}
use Rattle.wat_lang.specs.declared.parts.Space.{Space}
use Rattle.wat_lang.specs.declared.fault.Row.TheVariants as rows
use Rattle.wat_lang.specs.Numbers.{number_of}
use Rattle.wat_lang.specs.declared.parts.Space.TheVariants as spaces
use Rattle.wat_lang.specs.Grammar.{Mark, binds, Marked}
use Rattle.wat_lang.specs.Names.{text_of, same_space, binds_in}
use Rattle.wat_lang.specs.Modules.{natural_or_0}
use Rattle.wat_lang.specs.Rows.{Refusal, where_holds, is_bad_number, is_name, is_taken, is_table_minimum}

abbrev pub number_row : Marked → List Refusal
number_row m = where_holds (is_bad_number m) rows.Number m.token.at

abbrev pub name_row : Marked → List Refusal
name_row m = if is_name m.mark then where_holds (not (is_utf8 (text_of m))) rows.Utf8 m.token.at else []

abbrev pub entries_row : Marked → List Refusal
entries_row m = if is_table_minimum m.mark then where_holds (nat_lt most_entries (natural_or_0 (number_of (text_of m)))) rows.Limit m.token.at else []

-- the ids of the space behind a token, the last first
abbrev pub before_next : Space → List (List ℕ) → Marked → List (List ℕ)
before_next s before m = if binds_in s m.mark then text_of m ∷ before else before

abbrev pub taken_row : Space → List (List ℕ) → Marked → List Refusal
taken_row s before m = if binds_in s m.mark then where_holds (is_taken before (text_of m)) rows.IdTaken m.token.at else []

-- it binds an id in a space of the module
abbrev pub binds_in_module : Mark → Bool
binds_in_module (binds s) = not (same_space spaces.Local s) && not (same_space spaces.Label s)
binds_in_module _ = false

-- the spaces of the module, in the order in which their ids are looked at
abbrev pub module_spaces : List Space
module_spaces = spaces.Type ∷ spaces.Func ∷ spaces.Table ∷ spaces.Memory ∷ spaces.Global ∷ spaces.Elem ∷ spaces.Data ∷ []
