use Rattle.std.proofs.Common.{◌≡◌, ◌≤◌, ◌+◌, ◌-◌, ◌<◌, List, Some, length, drop, reverse, refl, sym, ap, ◌∙◌, arith}
use Rattle.sem_words.specs.declared.word.Word.{Word}
use Rattle.wasm_lang_exec.specs.Reductions.{top_of, below_top}
use Rattle.wasm_run_operands.specs.Stack.{Stack}
use Rattle.wasm_run_operands.proofs.StackLemmas.{too_few, top_words, other_words}
use Rattle.wasm_run_operands.proofs.operands.Operands.split_top.Goals as goal

pub returns-then-len-self-clause-words : goal.returns-then-len-self-clause-words
returns-then-len-self-clause-words c =
    let few : length c.self.inside.words.items - c.self.inside.floor < c.args.count = omega arith in
    (ap (λ (s : Stack). top_of c.args.count s.values) (sym c.self.view_is) ∙ too_few c.self.inside.floor c.args.count c.self.inside.words.items few, refl)

pub returns-clause-words : goal.returns-clause-words
returns-clause-words c =
    let f = c.self.inside.floor in
    let xs = c.self.inside.words.items in
    let k = c.len-2.result - c.args.count in
    let low : f ≤ k = omega arith in
    let whole : k + c.args.count ≡ length xs = omega arith in (
      ap (λ (s : Stack). top_of c.args.count s.values) (sym c.self.view_is)
          ∙ (top_words f k c.args.count xs low whole ∙ ap (λ (ys : List Word). Some (reverse ys)) (sym c.in_ok-split_off.ensures.tail)),
      ap (λ (ys : List Word). reverse (drop f ys)) c.in_ok-split_off.ensures.items
          ∙ (other_words f k c.args.count xs low whole ∙ ap (λ (s : Stack). below_top c.args.count s.values) c.self.view_is),
    )
