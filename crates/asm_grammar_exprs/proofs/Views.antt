-- The equation of a frame that is put on a stack.
use Rattle.std.proofs.Common.{◌≡◌, List, [], ◌∷◌, ◌++◌, refl}
use Rattle.asm_lang.specs.Trees.{ExprTree}
use Rattle.asm_lang.specs.Machine.{State}
use Rattle.asm_grammar_exprs.specs.declared.frame.Frame.{Frame}
use Rattle.asm_grammar_exprs.specs.Views.{frame_view, around}

pub around-last : (fs : List Frame) (f : Frame) (k : ExprTree → State) → around (fs ++ f ∷ []) k ≡ frame_view f (around fs k)
around-last [] f k = refl
around-last (x ∷ fs) f k = around-last fs f (frame_view x k)

pub ruleset views = (around-last)
