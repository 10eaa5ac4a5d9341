use Rattle.std.proofs.Common.{sym, ap, ◌∙◌}
use Rattle.std.proofs.lemmas.Bool.{false≢true}
use Rattle.wat_lang.specs.Grammar.{is_string}
use Rattle.wat_tokens.specs.declared.token.Class.{Class}
use Rattle.wat_tokens.specs.Views.{class_of}
use Rattle.wat_read_tokens.proofs.tokens.atom.Goals as goal

pub returns-in-String : goal.returns-in-String
returns-in-String c = absurd (false≢true (sym c.requires ∙ sym c.args.token.now.fits ∙ ap (λ (k : Class). is_string (class_of k)) c.in-String.is))
