-- Which marks are those of strings, and items that take strings exactly for these.
use Rattle.std.specs.Prelude.{Bool, true, false, List, Option, Some, None}
use Rattle.std.specs.List.{list_all}
use Rattle.wat_lang.specs.Grammar.{Mark, a_module_name, a_field_name, an_export_name, some_bytes, Want, a_string, Item, token, rule}

abbrev pub reads_string : Mark → Bool
reads_string a_module_name = true
reads_string a_field_name = true
reads_string an_export_name = true
reads_string some_bytes = true
reads_string _ = false

abbrev pub wants_string : Want → Bool
wants_string a_string = true
wants_string _ = false

abbrev pub same : Bool → Bool → Bool
same true true = true
same false false = true
same _ _ = false

abbrev pub item_fits : Item → Bool
item_fits (token w m) = same (wants_string w) (reads_string m)
item_fits (rule r) = true

abbrev pub all_fit : List Item → Bool
all_fit is = list_all item_fits is

-- what may still come fits, where there is a stack of it
abbrev pub stack_fits : Option (List Item) → Bool
stack_fits (Some is) = all_fit is
stack_fits None = true
