-- A stack of what is open, as a list.
use Rattle.std.specs.Prelude.{List, map}
use Rattle.asm_grammar_exprs.specs.declared.frame.Frame.{Frame}
use Rattle.asm_grammar_exprs.specs.declared.frames.Entry.{Entry}
use Rattle.asm_grammar_exprs.specs.declared.frames.Frames.{Frames}

-- the innermost last
abbrev pub frames_list : Frames → List Frame
frames_list fs = map (λ (e : Entry). e.frame) fs.entries.items
