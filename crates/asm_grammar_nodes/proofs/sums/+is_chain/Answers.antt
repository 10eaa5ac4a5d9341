use Rattle.std.proofs.Common.{rules, ◌≡◌, [], sym, ap, ◌∙◌}
use Rattle.sem_words.specs.Lists.{list_items}
use Rattle.asm_lang.specs.Modules.{expr_of}
use Rattle.asm_grammar_nodes.specs.Heights.{is_chain}
use Rattle.asm_grammar_nodes.specs.Views.{expr_view}
use Rattle.asm_grammar_nodes.proofs.Levels.{chain-Sum, chain-Sum_of_none}
use Rattle.asm_grammar_nodes.proofs.sums.+is_chain.Goals as goal

pub returns-then-is_empty : goal.returns-then-is_empty
returns-then-is_empty t c =
    let none : list_items c.in-Sum.others ≡ [] = search rules in
    let first : c.deref.result.now ≡ c.in-Sum.first.value = search rules in
    c.is_chain.ensures ∙ ap (λ e. is_chain (expr_of (expr_view e))) first ∙ sym (ap (λ e. is_chain (expr_of (expr_view e))) c.in-Sum.is ∙ chain-Sum_of_none c.in-Sum.first c.in-Sum.others none)

pub returns-else-is_empty : goal.returns-else-is_empty
returns-else-is_empty t c = sym (ap (λ e. is_chain (expr_of (expr_view e))) c.in-Sum.is ∙ chain-Sum c.in-Sum.first c.in-Sum.others (λ none. search rules))
