use Rattle.std.proofs.Common.{◌+◌, ◌++◌, ◌∷◌, [], List, length, drop, refl, sym, ap, ◌∙◌, append_assoc}
use Rattle.std.proofs.lemmas.List.{append-nil}
use Rattle.std.proofs.lemmas.Option.{slice_get_past, slice_get_read}
use Rattle.sem_words.specs.declared.word.Word.{Word}
use Rattle.wasm_lang_exec.specs.Session.{words_for}
use Rattle.wasm_run.proofs.Given.{no_words, one_word}
use Rattle.wasm_run.proofs.words.add_words.Goals as goal

pub returns-in_default : goal.returns-in_default
returns-in_default c =
    sym (append-nil c.loop-k.words.items) ∙ ap (λ (l : List Word). c.loop-k.words.items ++ l) (sym (no_words c.args.kinds.now c.args.numbers.now c.loop-k.k (slice_get_past c.args.numbers.now c.loop-k.k c.in_default.ensures.lookup.3)))
    ∙ c.loop-k.invariant

pub loop-k-preserved : goal.loop-k-preserved
loop-k-preserved c =
    let rest = words_for (drop (c.loop-k.k + 1) c.args.kinds.now) (drop (c.loop-k.k + 1) c.args.numbers.now) in
    ap (λ (l : List Word). l ++ rest) (c.in_ok-push.ensures.items) ∙ append_assoc c.loop-k.words.items (c.word_at.result ∷ []) rest
    ∙ ap (λ (x : Word). c.loop-k.words.items ++ x ∷ rest) c.word_at.ensures
    ∙ ap (λ (l : List Word). c.loop-k.words.items ++ l) (sym (one_word c.args.kinds.now c.args.numbers.now c.loop-k.k _ c.in-Some.number.now c.loop-k-test.true (slice_get_read c.args.numbers.now (length c.args.numbers.now) c.loop-k.k c.in-Some.number.now refl c.in-Some.ensures.lookup.3.0 c.in-Some.ensures.lookup.1)))
    ∙ c.loop-k.invariant
