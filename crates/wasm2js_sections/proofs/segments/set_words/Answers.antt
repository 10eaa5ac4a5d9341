use Rattle.std.proofs.Common.{◌≡◌, ◌+◌, ◌-◌, ◌≤◌, [], ◌∷◌, ◌++◌, length, take, drop, sym, ap, ◌∙◌, append_assoc, arith}
use Rattle.wasm2js_build.specs.Blocks.{statements_of}
use Rattle.wasm2js_translation.specs.Modules.{set_word, set_words}
use Rattle.wasm2js_sections.proofs.Runs.{words_more}
use Rattle.wasm2js_sections.proofs.segments.set_words.Goals as goal

pub loop-done-preserved : goal.loop-done-preserved
loop-done-preserved c =
    let i = c.loop-done.done in
    let at = c.args.at in
    let bytes = c.args.bytes.now in
    let before = statements_of c.loop-done.body in
    let inside : i + 4 ≤ length bytes = omega arith in
    let word = set_word (at + i) (take (i + 4 - i) (drop i bytes)) in
    let rest = set_words (at + (i + 4)) (drop (i + 4) bytes) in
    let pushed : statements_of c.set_word.new.body ≡ before ++ word ∷ [] = c.in_ok-set_word.ensures in
    (inside, ap (λ ss. ss ++ rest) pushed ∙ append_assoc before (word ∷ []) rest ∙ ap (λ ss. before ++ ss) (sym (words_more at bytes i (i + 4 - i) inside (omega arith))) ∙ c.loop-done.invariant.1)
