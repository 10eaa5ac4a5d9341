use Rattle.std.proofs.Common.{[], refl}
use Rattle.sem_words.specs.Lists.{list_items}
use Rattle.asm_run_emit_bodies.proofs.Whole.{whole_made}
use Rattle.asm_run_emit_bodies.proofs.modules.emit_body.Goals as goal

pub returns : goal.returns
returns c =
    whole_made c.emit_all.result c.emit_all.new.output c.args.names.now c.first_free-free.result [] (list_items c.args.names.now.function.body) c.args.output.now c.put.new.self c.put-2.new.self c.requires c.first_free-free.ensures c.in_ok-put.ensures c.in_ok-put-2.ensures refl refl c.emit_all.ensures
