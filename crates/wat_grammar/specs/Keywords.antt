-- The words of the grammar.
use Rattle.std.specs.Prelude.{ℕ, List, codes}
use Rattle.wat_grammar.specs.declared.keyword.Keyword.{Keyword}
use Rattle.wat_grammar.specs.declared.keyword.Keyword.TheVariants as keywords

abbrev pub word_of : Keyword → List ℕ
word_of keywords.Module = codes "module"
word_of keywords.Type = codes "type"
word_of keywords.Import = codes "import"
word_of keywords.Func = codes "func"
word_of keywords.Table = codes "table"
word_of keywords.Memory = codes "memory"
word_of keywords.Global = codes "global"
word_of keywords.Export = codes "export"
word_of keywords.Start = codes "start"
word_of keywords.Elem = codes "elem"
word_of keywords.Data = codes "data"
word_of keywords.Param = codes "param"
word_of keywords.Result = codes "result"
word_of keywords.Local = codes "local"
word_of keywords.Mut = codes "mut"
word_of keywords.Funcref = codes "funcref"
word_of keywords.Else = codes "else"
word_of keywords.End = codes "end"
word_of keywords.Const32 = codes "i32.const"
word_of keywords.Const64 = codes "i64.const"
word_of keywords.GlobalGet = codes "global.get"
