-- A stack of what is open, as a list.
use Rattle.std.specs.Prelude.{List, map, reverse}
use Rattle.asm_grammar_stmts.specs.declared.frame.Frame.{Frame}
use Rattle.asm_grammar_stmts.specs.declared.frames.Entry.{Entry}
use Rattle.asm_grammar_stmts.specs.declared.frames.Frames.{Frames}

abbrev pub frames_of : List Entry → List Frame
frames_of es = map (λ (e : Entry). e.frame) es

-- the innermost first
abbrev pub frames_list : Frames → List Frame
frames_list fs = frames_of (reverse fs.entries.items)
