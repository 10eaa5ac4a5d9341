-- The marks that are kept: those that say something of the module.
use Rattle.std.specs.Prelude.{Bool, true, false, List, filter}
use Rattle.wat_lang.specs.Grammar.{Mark, nothing, Marked}

-- it isn't there for the form alone
abbrev pub says_something : Mark → Bool
says_something nothing = false
says_something _ = true

abbrev pub kept : List Marked → List Marked
kept ms = filter (λ m. says_something m.mark) ms
