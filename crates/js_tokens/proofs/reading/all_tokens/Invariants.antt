use Rattle.std.proofs.Common.{length}
use Rattle.asm_lang_tokens.specs.Text.{IsReading}
use Rattle.js_tokens.specs.Views.{placed_tokens}
use Rattle.js_tokens.proofs.GoingOn.{GoesOn}
use Rattle.js_tokens.proofs.reading.all_tokens.Given as goal

abbrev pub invariant-loop-token : goal.invariant-loop-token
invariant-loop-token l = GoesOn (IsReading l.source) (placed_tokens l.found.items) l.scanner

abbrev pub decreases-loop-token : goal.decreases-loop-token
decreases-loop-token l = length l.scanner.rest.now
