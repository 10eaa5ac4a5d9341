use Rattle.std.proofs.Common.{ℕ, List, refl}
use Rattle.asm_lang_valid.specs.Typing.{Scope}
use Rattle.asm_names.specs.Scopes.{scope_view}
use Rattle.asm_short_uses.specs.declared.naming.Use.{Use}
use Rattle.asm_short_uses.specs.Views.{use_view, uses_view}
use Rattle.asm_short_graph.specs.Graphs.{use_links, uses_links}
use Rattle.asm_short_graph.proofs.Gathered.{none_yet, one_more, at_end}
use Rattle.asm_short_graph.proofs.links.follow_all.Goals as goal

abbrev all : Scope → List Use → List ℕ
all s us = uses_links s (uses_view us)

abbrev own : Scope → Use → List ℕ
own s u = use_links s (use_view u)

pub loop-used-init : goal.loop-used-init
loop-used-init c = let s = scope_view c.args.scope.now in none_yet (all s) (own s) refl (λ u us. refl) c.args.links.now.items c.args.uses.now

pub loop-used-preserved : goal.loop-used-preserved
loop-used-preserved c =
    let s = scope_view c.args.scope.now in
    let l = c.loop-used in
    one_more (all s) (own s) refl (λ u us. refl) c.args.links.now.items l.links.items _ c.args.uses.now l.used-index c.used-item.result c.loop-used-test.true c.used-item.is c.in_ok-follow.ensures l.invariant

pub returns : goal.returns
returns c =
    let s = scope_view c.args.scope.now in
    at_end (all s) (own s) refl (λ u us. refl) c.args.links.now.items _ c.args.uses.now c.loop-used.used-index c.loop-used-test.false c.loop-used.invariant
