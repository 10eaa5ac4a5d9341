use Rattle.std.proofs.Common.{◌≡◌, ℕ, List, ◌++◌, length, take, drop, sym, ap, ◌∙◌, subst, arith}
use Rattle.std.proofs.lemmas.Result.{IfOk-weaker}
use Rattle.std.proofs.Math.Seq.{take-append_seam}
use Rattle.sem_words.specs.declared.word.Word.{Word}
use Rattle.wasm_lang.specs.Instructions.{global_get, global_set}
use Rattle.wasm_lang_exec.specs.Plain.{do_plain}
use Rattle.wasm_tree.specs.declared.instr.Instr.{Instr}
use Rattle.wasm_tree.specs.Views.{instr_of}
use Rattle.wasm_run_operands.specs.Effects.{Keeps, effect_of, store_of, with_globals}
use Rattle.wasm_run_plain.specs.Forms.{instruction_effect}
use Rattle.wasm_run_plain.proofs.plain.do_plain.Goals as goal

-- what a slice of a whole vector leaves of it
refilled : (n : ℕ) (ws vs : List Word) → length ws ≡ n → take n (ws ++ drop (length ws) vs) ≡ ws
refilled n ws vs e = subst (λ (k : ℕ). take k (ws ++ drop (length ws) vs) ≡ ws) e (take-append_seam ws (drop (length ws) vs))

pub returns-in-GlobalGet-clause-effect : goal.returns-in-GlobalGet-clause-effect
returns-in-GlobalGet-clause-effect c =
    IfOk-weaker c.global_get.result _ _ (λ effect h events replies.
    let s = store_of c.args.state.now events replies in
    let is : c.deref.result.now ≡ c.args.state.now.globals.items = cc (c.deref.ensures.value) in
    subst (λ (gs : List Word). effect_of effect c.global_get.new.operands.values c.args.locals.now (with_globals gs s) ≡ do_plain (global_get c.in-GlobalGet.global) c.args.operands.now.values c.args.locals.now (with_globals gs s)) is (h c.args.locals.now s)
    ∙ sym (ap (λ (i : Instr). instruction_effect (instr_of i) c.args.operands.now.values c.args.locals.now s) c.in-GlobalGet.is)) c.global_get.ensures.effect

pub returns-in-GlobalSet-clause-effect : goal.returns-in-GlobalSet-clause-effect
returns-in-GlobalSet-clause-effect c = λ events replies.
    let s = store_of c.args.state.now events replies in
    let is : c.deref_mut.result.now ≡ c.args.state.now.globals.items = cc (c.deref_mut.ensures.value) in
    let long : length c.global_set.new.globals ≡ c.args.state.now.globals.len = omega (arith, c.global_set.auto.globals, c.deref_mut.ensures.len) in
    let whole : take c.args.state.now.globals.len (c.global_set.new.globals ++ drop (length c.global_set.new.globals) c.args.state.now.globals.items) ≡ c.global_set.new.globals = refilled _ _ _ long in
    ap (λ (gs : List Word). effect_of c.global_set.result c.global_set.new.operands.values c.args.locals.now (with_globals gs s)) whole
    ∙ (c.global_set.ensures.effect c.args.locals.now s
    ∙ (ap (λ (gs : List Word). do_plain (global_set c.in-GlobalSet.global) c.args.operands.now.values c.args.locals.now (with_globals gs s)) is
    ∙ sym (ap (λ (i : Instr). instruction_effect (instr_of i) c.args.operands.now.values c.args.locals.now s) c.in-GlobalSet.is)))

pub returns-in-GlobalSet-clause-keeps : goal.returns-in-GlobalSet-clause-keeps
returns-in-GlobalSet-clause-keeps c = λ events replies.
    let s = store_of c.args.state.now events replies in
    let is : c.deref_mut.result.now ≡ c.args.state.now.globals.items = cc (c.deref_mut.ensures.value) in
    let long : length c.global_set.new.globals ≡ c.args.state.now.globals.len = omega (arith, c.global_set.auto.globals, c.deref_mut.ensures.len) in
    let whole : take c.args.state.now.globals.len (c.global_set.new.globals ++ drop (length c.global_set.new.globals) c.args.state.now.globals.items) ≡ c.global_set.new.globals = refilled _ _ _ long in
    subst (λ (gs : List Word). Keeps c.global_set.result (with_globals gs s) (with_globals c.args.state.now.globals.items s)) (sym whole)
    (subst (λ (gs : List Word). Keeps c.global_set.result (with_globals c.global_set.new.globals s) (with_globals gs s)) is (c.global_set.ensures.keeps s))

pub returns-in-Load-clause-effect : goal.returns-in-Load-clause-effect
returns-in-Load-clause-effect c =
    IfOk-weaker c.load.result _ _ (λ effect h events replies.
    let s = store_of c.args.state.now events replies in
    h c.in-Load.field-1 c.args.locals.now s
    ∙ sym (ap (λ (i : Instr). instruction_effect (instr_of i) c.args.operands.now.values c.args.locals.now s) c.in-Load.is)) c.load.ensures.effect

pub returns-in-Store-clause-effect : goal.returns-in-Store-clause-effect
returns-in-Store-clause-effect c = λ events replies.
    let s = store_of c.args.state.now events replies in
    c.store.ensures.effect c.in-Store.field-1 c.args.locals.now s
    ∙ sym (ap (λ (i : Instr). instruction_effect (instr_of i) c.args.operands.now.values c.args.locals.now s) c.in-Store.is)

pub returns-in-Store-clause-keeps : goal.returns-in-Store-clause-keeps
returns-in-Store-clause-keeps c = λ events replies. c.store.ensures.keeps (store_of c.args.state.now events replies)

pub returns-in-MemorySize-clause-effect : goal.returns-in-MemorySize-clause-effect
returns-in-MemorySize-clause-effect c =
    IfOk-weaker c.size.result _ _ (λ effect h events replies.
    let s = store_of c.args.state.now events replies in
    h c.args.locals.now s
    ∙ sym (ap (λ (i : Instr). instruction_effect (instr_of i) c.args.operands.now.values c.args.locals.now s) c.in-MemorySize.is)) c.size.ensures.effect

pub returns-in-MemoryCopy-clause-effect : goal.returns-in-MemoryCopy-clause-effect
returns-in-MemoryCopy-clause-effect c = λ events replies.
    let s = store_of c.args.state.now events replies in
    c.copy.ensures.effect c.args.locals.now s
    ∙ sym (ap (λ (i : Instr). instruction_effect (instr_of i) c.args.operands.now.values c.args.locals.now s) c.in-MemoryCopy.is)

pub returns-in-MemoryCopy-clause-keeps : goal.returns-in-MemoryCopy-clause-keeps
returns-in-MemoryCopy-clause-keeps c = λ events replies. c.copy.ensures.keeps (store_of c.args.state.now events replies)

pub returns-in-MemoryFill-clause-effect : goal.returns-in-MemoryFill-clause-effect
returns-in-MemoryFill-clause-effect c = λ events replies.
    let s = store_of c.args.state.now events replies in
    c.fill.ensures.effect c.args.locals.now s
    ∙ sym (ap (λ (i : Instr). instruction_effect (instr_of i) c.args.operands.now.values c.args.locals.now s) c.in-MemoryFill.is)

pub returns-in-MemoryFill-clause-keeps : goal.returns-in-MemoryFill-clause-keeps
returns-in-MemoryFill-clause-keeps c = λ events replies. c.fill.ensures.keeps (store_of c.args.state.now events replies)
