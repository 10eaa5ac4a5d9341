use Rattle.std.proofs.Common.{◌∙◌, map}
use Rattle.wat_lang.specs.Names.{fields_of}
use Rattle.wat_laws_kept.specs.Heads.{headed}
use Rattle.wat_laws_kept.proofs.Headed.{types_of_headed}
use Rattle.wat_read_outline.proofs.Outlining.{names_whole, orders_whole}
use Rattle.wat_read_outline.proofs.outline.Outline.outlined.Goals as goal

pub returns : goal.returns
returns c = λ ks h.
    let w = c.in_ok-close.ensures.whole ks h in
    let fs = fields_of ks in
    let named = c.in_ok-names.ensures (map headed fs) w.fields.naming in
    record {
      spaces = names_whole _ fs named.0;
      types = named.1 ∙ types_of_headed fs;
      utf8 = w.tokens.names;
      taken = c.in_ok-taken.ensures ks w.tokens;
      orders = c.found.ensures (map headed fs) w.fields.orders ∙ orders_whole fs;
      entries = w.tokens.entries;
    }
