use Rattle.std.proofs.Common.{sym, ap, ◌∙◌}
use Rattle.std.specs.Str.{is_utf8}
use Rattle.wat_lang.specs.Names.{bytes_of}
use Rattle.wat_tokens.specs.declared.token.Class.{Class}
use Rattle.wat_tokens.specs.Views.{class_of}
use Rattle.wat_read_refusals.proofs.TextTests.{no_bytes}
use Rattle.wat_read_refusals.proofs.numbers.is_text_utf8.Goals as goal

pub returns-in-Opens : goal.returns-in-Opens
returns-in-Opens c = no_bytes ∙ sym (ap (λ (k : Class). is_utf8 (bytes_of (class_of k))) c.in-Opens.is)

pub returns-in-Closes : goal.returns-in-Closes
returns-in-Closes c = no_bytes ∙ sym (ap (λ (k : Class). is_utf8 (bytes_of (class_of k))) c.in-Closes.is)
