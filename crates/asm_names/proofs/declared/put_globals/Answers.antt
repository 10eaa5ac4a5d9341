use Rattle.std.proofs.Common.{◌-◌, ◌∙◌, ap, arith}
use Rattle.std.specs.Prelude.{if◌then◌else◌}
use Rattle.std.specs.Str.{bytes_eq}
use Rattle.sem_words.specs.Lists.{text_bytes}
use Rattle.asm_tree.specs.Views.{module_view}
use Rattle.asm_lang_valid.specs.Scope.{Meaning}
use Rattle.asm_names.specs.Meanings.{seen}
use Rattle.asm_names.proofs.Put.{global_put}
use Rattle.asm_names.proofs.Numbered.{imported}
use Rattle.asm_names.proofs.declared.put_globals.Goals as goal

pub loop-i-preserved : goal.loop-i-preserved
loop-i-preserved c =
    let i = c.loop-i.i in
    let positive = c.loop-i-test.true in
    let within = c.loop-i.invariant.within in
    record {
      within = omega arith;
      put = λ n. global_put (module_view c.args.home.now) c.args.globals.now (i - 1) i _ n _ _ _ (omega arith) (omega arith) c.index-globals-i.is (c.in_ok-put.ensures.known n ∙ ap (λ (v : Meaning). if bytes_eq (text_bytes c.index-globals-i.result.name) n then v else seen c.loop-i.names n) c.init_meaning-meaning.ensures.known) (c.loop-i.invariant.put n);
      numbered = λ h. c.in_ok-put.ensures.numbered (module_view c.args.home.now) (c.loop-i.invariant.numbered h) (c.init_meaning-meaning.ensures.numbered (imported c.args.home.now c.args.globals.now c.requires.whole (i - 1) _ (omega arith) c.index-globals-i.is));
    }
