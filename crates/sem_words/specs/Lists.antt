-- What clauses see of a `Text` and of a `List`.
use Rattle.std.specs.Prelude.{ℕ, List}
use Rattle.sem_words.specs.declared.text.Text.{Text}
use Rattle.sem_words.specs.declared.list.List.{List as Listed}

-- the bytes of a text
abbrev pub text_bytes : Text → List ℕ
text_bytes text = text.bytes.items

-- the items of a list
abbrev pub list_items : {T : Type 0} → Listed T → List T
list_items list = list.items.items
