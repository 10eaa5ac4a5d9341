use Rattle.std.proofs.Common.{◌-◌, ◌∙◌, ap, arith}
use Rattle.std.specs.Prelude.{if◌then◌else◌}
use Rattle.std.specs.Str.{bytes_eq}
use Rattle.sem_words.specs.Lists.{text_bytes}
use Rattle.asm_lang_valid.specs.Scope.{Meaning}
use Rattle.asm_names.specs.Scopes.{local_seen}
use Rattle.asm_names.proofs.Variables.{local_put}
use Rattle.asm_names.proofs.locals.put_locals.Goals as goal

pub loop-i-preserved : goal.loop-i-preserved
loop-i-preserved c =
    let i = c.loop-i.i in
    let positive = c.loop-i-test.true in
    let within = c.loop-i.invariant.within in
    record {
      within = omega arith;
      put = λ n o. local_put c.args.locals.now (i - 1) i _ n _ _ _ (omega arith) (omega arith) c.index-locals-i.is (c.in_ok-put.ensures n o ∙ ap (λ (v : Meaning). if bytes_eq (text_bytes c.index-locals-i.result.name) n then v else local_seen c.loop-i.names n o) c.is_int.ensures) (c.loop-i.invariant.put n o);
    }
