-- Operands of the host's calls, and where a session begins.
use Rattle.std.proofs.Common.{◌≡◌, ℕ, zero, suc, ◌+◌, ◌<◌, List, [], ◌∷◌, ◌++◌, length, take, get_or, reverse, refl, sym, ap, ◌∙◌}
use Rattle.std.proofs.lemmas.List.{reverse-append, take_more}
use Rattle.sem_words.specs.declared.word.Word.{Word}
use Rattle.session_lang.specs.Script.{ScriptPlain}
use Rattle.wasm_lang.specs.Modules.{WasmModule}
use Rattle.wasm_lang_exec.specs.Session.{first_store, wasm}
use Rattle.wasm_run.specs.Runs.{begun}

-- one operand more on top
pub push_more : (ws : List Word) (k : ℕ) (d : Word) (new old base : List Word) → k < length ws → new ≡ get_or ws k d ∷ old → old ≡ reverse (take k ws) ++ base → new ≡ reverse (take (k + 1) ws) ++ base
push_more ws k d new old base inside is before =
    let more : reverse (take (k + 1) ws) ≡ get_or ws k d ∷ reverse (take k ws) = ap reverse (take_more ws k d inside) ∙ reverse-append (take k ws) (get_or ws k d ∷ []) in
    is ∙ ap (λ l. get_or ws k d ∷ l) before ∙ ap (λ l. l ++ base) (sym more)

pub begins : (m : WasmModule) (script : ScriptPlain) (n : ℕ) → begun m script n (first_store m script) ≡ wasm m script n
begins m script zero = refl
begins m script (suc n) = refl
