use Rattle.bridge_io.proofs.FilesOf.{content-put_same, content-put_other}
use Rattle.bridge_io.proofs.stored.put_file.Goals as goal

pub returns-clause-named : goal.returns-clause-named
returns-clause-named c =
    content-put_same c.args.stored.now c.insert.new.self c.in_ok-key.key c.in_ok-content.content c.in_ok-insert.ensures.updates
    c.args.name.now c.args.bytes.now c.in_ok-key.ensures.ok c.in_ok-content.ensures.items

pub returns-clause-others : goal.returns-clause-others
returns-clause-others c = λ other apart.
    content-put_other c.args.stored.now c.insert.new.self c.in_ok-key.key c.in_ok-content.content c.in_ok-insert.ensures.updates
    c.args.name.now other c.in_ok-key.ensures.ok apart
