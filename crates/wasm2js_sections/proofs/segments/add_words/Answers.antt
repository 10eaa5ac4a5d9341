use Rattle.std.proofs.Common.{◌≡◌, ◌+◌, ◌-◌, ◌≤◌, [], ◌∷◌, ◌++◌, length, take, drop, map, sym, ap, ◌∙◌, append_assoc, append-nil, arith}
use Rattle.sem_words.specs.Words.{signed_of}
use Rattle.sem_words.specs.Lists.{list_items}
use Rattle.heap_lang.specs.Numbers.{little_endian}
use Rattle.asm_lang.specs.Modules.{lit}
use Rattle.asm_tree.specs.Views.{expr_view}
use Rattle.wasm2js_translation.specs.Words.{int_of}
use Rattle.wasm2js_translation.specs.Modules.{words_in}
use Rattle.wasm2js_sections.proofs.Chunks.{words_further, words_end}
use Rattle.wasm2js_sections.proofs.segments.add_words.Goals as goal

pub loop-done-preserved : goal.loop-done-preserved
loop-done-preserved c =
    let i = c.loop-done.done in
    let bytes = c.args.bytes.now in
    let before = map expr_view (list_items c.loop-done.arguments) in
    let inside : i + 4 ≤ length bytes = omega arith in
    let word = lit (signed_of 32 (little_endian (take (i + 4 - i) (drop i bytes)))) in
    let rest = map int_of (words_in (drop (i + 4) bytes)) in
    let pushed : map expr_view (list_items c.add_word.new.arguments) ≡ before ++ word ∷ [] = c.in_ok-add_word.ensures in
    (inside, ap (λ es. es ++ rest) pushed ∙ append_assoc before (word ∷ []) rest ∙ ap (λ es. before ++ es) (sym (words_further bytes i (i + 4 - i) inside (omega arith))) ∙ c.loop-done.invariant.1)

pub returns : goal.returns
returns c =
    let i = c.loop-done.done in
    let bytes = c.args.bytes.now in
    let done = map expr_view (list_items c.loop-done.arguments) in
    let few : length bytes ≤ i + 3 = omega arith in
    sym (append-nil done) ∙ ap (λ es. done ++ es) (sym (words_end bytes i few)) ∙ c.loop-done.invariant.1
