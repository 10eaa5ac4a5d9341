use Rattle.std.proofs.Common.{◌+◌, refl, arith}
use Rattle.sem_words.specs.Lists.{text_bytes}
use Rattle.asm_short_tree.specs.declared.labels.NewLabel.{NewLabel}
use Rattle.asm_short_tree.proofs.Copied.{one_copied}
use Rattle.asm_short_tree.proofs.Around.{one_numbered}
use Rattle.asm_short_tree.proofs.labels.numbered_labels.Goals as goal

pub loop-i-preserved : goal.loop-i-preserved
loop-i-preserved c =
    let l = c.loop-i in
    let room = c.requires in
    record {
      olds = one_copied (λ (l : NewLabel). text_bytes l.old.now) text_bytes l.labels.items c.push.new.self.items c.args.names.now l.i c.index-names-i.result _ (omega arith) c.index-names-i.is c.in_ok-push.ensures.items refl l.invariant.olds;
      news = one_numbered l.labels.items c.push.new.self.items _ c.args.fresh.now c.args.before l.i (omega arith) c.in_ok-push.ensures.items refl l.invariant.news;
    }
