use Rattle.std.proofs.Common.{ℕ, List, [], ◌∷◌, sym, subst, refl}
use Rattle.sem_words.specs.Lists.{text_bytes}
use Rattle.asm_validate_limits.specs.declared.tally.Tally.{Tally}
use Rattle.asm_validate_limits.specs.declared.calls.ForeignCall.{ForeignCall}
use Rattle.asm_tree.specs.Views.{module_view}
use Rattle.asm_lang_valid.specs.LimitRows.{a_use}
use Rattle.asm_names.proofs.Numbered.{member_first}
use Rattle.asm_validate_limits.specs.Passes.{Tallied, limited}
use Rattle.asm_validate_limits.proofs.Uses.{used}
use Rattle.asm_validate_limits.proofs.tally.use_call.Goals as goal

pub returns-in-Ok : goal.returns-in-Ok
returns-in-Ok c =
    let m = module_view c.args.tally.now.home.now in
    let now : Tally = record { home = c.args.tally.now.home; calls = c.insert.new.self; at = c.args.tally.now.at } in
    let call : ForeignCall = record { declaration = c.args.member.declaration; params = c.args.params; result = c.args.valued } in
    subst (λ r. Tallied (a_use (record { name = text_bytes c.args.member.name.now; params = c.args.params; result = c.args.valued }) c.args.node ∷ []) 0 c.args.tally.now now r) (sym c.needs.ensures)
    (subst (λ (name : List ℕ). Tallied (a_use (record { name = name; params = c.args.params; result = c.args.valued }) c.args.node ∷ []) 0 c.args.tally.now now (limited c.is_within.result c.args.node)) c.requires.member.named
    (used c.args.tally.now now call c.requires.of (member_first m _ _ c.requires.member) refl c.in-Ok.is_new c.in-Ok.ensures.added c.in-Ok.ensures.keys refl c.args.node c.len.result c.is_within.result c.len.ensures.len c.is_within.ensures.known c.is_within.ensures.new))
