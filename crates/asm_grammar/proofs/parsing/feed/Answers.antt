use Rattle.asm_lang.specs.Lexemes.{lexeme_of}
use Rattle.asm_grammar_nodes.specs.Views.{lexeme_view}
use Rattle.js_tokens.specs.Views.{placed_token}
use Rattle.asm_grammar_modules.specs.declared.reading.ModuleFed.TheVariants.{Stuck, NoUseAsm}
use Rattle.asm_grammar_modules.specs.Readings.{reading_view}
use Rattle.asm_grammar.proofs.Fed.{fed_step, fed_stuck, fed_no_use}
use Rattle.asm_grammar.proofs.parsing.feed.Goals as goal

pub returns-in-Stuck : goal.returns-in-Stuck
returns-in-Stuck c = λ ts.
    let t = lexeme_of (placed_token c.args.token.now) in
    fed_stuck (reading_view c.args.reading.now) t ts (fed_step c.in_ok-feed.field-0 Stuck c.feed.new.self (reading_view c.args.reading.now) (lexeme_view c.lexeme_of.result) t c.in-Stuck.is c.lexeme_of.ensures c.in_ok-feed.ensures)

pub returns-in-NoUseAsm : goal.returns-in-NoUseAsm
returns-in-NoUseAsm c = λ ts.
    let t = lexeme_of (placed_token c.args.token.now) in
    fed_no_use (reading_view c.args.reading.now) t ts (fed_step c.in_ok-feed.field-0 NoUseAsm c.feed.new.self (reading_view c.args.reading.now) (lexeme_view c.lexeme_of.result) t c.in-NoUseAsm.is c.lexeme_of.ensures c.in_ok-feed.ensures)
