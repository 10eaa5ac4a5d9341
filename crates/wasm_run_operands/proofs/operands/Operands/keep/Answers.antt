use Rattle.std.proofs.Common.{◌≡◌, ◌≤◌, ◌+◌, ◌-◌, ◌<◌, List, Some, length, take, drop, reverse, refl, sym, ap, ◌∙◌, arith}
use Rattle.sem_words.specs.declared.word.Word.{Word}
use Rattle.wasm_lang_exec.specs.Reductions.{top_of}
use Rattle.wasm_run_operands.specs.Stack.{Stack}
use Rattle.wasm_run_operands.proofs.StackLemmas.{too_few, top_words, kept_words}
use Rattle.wasm_run_operands.proofs.operands.Operands.keep.Goals as goal

pub returns-then-held-count-clause-kept : goal.returns-then-held-count-clause-kept
returns-then-held-count-clause-kept c =
    let few : length c.self.inside.words.items - c.self.inside.floor < c.args.count = omega arith in
    (ap (λ (s : Stack). top_of c.args.count s.values) (sym c.self.view_is) ∙ too_few c.self.inside.floor c.args.count c.self.inside.words.items few, refl)

pub returns-clause-kept : goal.returns-clause-kept
returns-clause-kept c =
    let f = c.self.inside.floor in
    let xs = c.self.inside.words.items in
    let k = c.len-2.result - c.args.count in
    let low : f ≤ k = omega arith in
    let whole : k + c.args.count ≡ length xs = omega arith in
    let moved : c.truncate.new.self.items ≡ take (f + c.args.count) c.copy_within.new.self.items = c.truncate.ensures.items in
    ap (λ (s : Stack). top_of c.args.count s.values) (sym c.self.view_is)
    ∙ (top_words f k c.args.count xs low whole
    ∙ ap (λ (ys : List Word). Some ys) (sym (ap (λ (ys : List Word). reverse (drop f ys)) (moved ∙ ap (λ (ys : List Word). take (f + c.args.count) ys) c.copy_within.ensures.items)
    ∙ kept_words f k c.args.count _ xs low whole (omega arith))))
