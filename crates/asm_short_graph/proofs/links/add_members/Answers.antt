use Rattle.std.proofs.Common.{◌++◌, ℕ, List, refl, ap, ◌∙◌}
use Rattle.asm_lang.specs.Modules.{Module}
use Rattle.asm_tree.specs.Views.{module_view, texts_view}
use Rattle.sem_words.specs.Lists.{text_bytes}
use Rattle.sem_words.specs.declared.text.Text.{Text}
use Rattle.asm_short_graph.specs.Graphs.{link_if, member_links, members_links}
use Rattle.asm_short_graph.proofs.Gathered.{none_yet, one_more, at_end}
use Rattle.asm_short_graph.proofs.links.add_members.Goals as goal

abbrev all : Module → List Text → List ℕ
all m ts = members_links m (texts_view ts)

abbrev own : Module → Text → List ℕ
own m t = member_links m (text_bytes t)

pub loop-member-init : goal.loop-member-init
loop-member-init c = let m = module_view c.args.environment.now.home.now in none_yet (all m) (own m) refl (λ t ts. refl) c.args.links.now.items c.args.members.now

pub loop-member-preserved : goal.loop-member-preserved
loop-member-preserved c =
    let m = module_view c.args.environment.now.home.now in
    let l = c.loop-member in
    let t = c.member-item.result in
    one_more (all m) (own m) refl (λ t ts. refl) c.args.links.now.items l.links.items _ c.args.members.now l.member-index t c.loop-member-test.true c.member-item.is
    (c.in_ok-add_link.ensures m c.requires.numbered ∙ ap (λ b. l.links.items ++ link_if b m (text_bytes t)) c.has_function-is_linked.ensures) l.invariant

pub returns : goal.returns
returns c =
    let m = module_view c.args.environment.now.home.now in
    at_end (all m) (own m) refl (λ t ts. refl) c.args.links.now.items _ c.args.members.now c.loop-member.member-index c.loop-member-test.false c.loop-member.invariant
