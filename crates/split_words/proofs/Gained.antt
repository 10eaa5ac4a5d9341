-- Statements that were added, and what they compute.
use Rattle.std.proofs.Common.{◌≡◌, List, ◌++◌}
use Rattle.std.specs.Prelude.{Result, Ok, Err, IfOk}
use Rattle.asm_lang.specs.Modules.{Stmt}
use Rattle.wasm2js_lang.specs.SplitWords.{Gains}

pub gained : {A E : Type 0} (r : Result A E) (before after ss : List Stmt) (P : List Stmt → Type 0) → P ss → IfOk r (λ _. after ≡ before ++ ss) → IfOk r (λ _. Gains before after P)
gained (Ok a) before after ss P p e = (ss, e, p)
gained (Err x) before after ss P p e = e
