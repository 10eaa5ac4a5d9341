-- Lists of zeros and of what encloses code, from their ends.
use Rattle.std.proofs.Common.{◌≡◌, ℕ, zero, suc, ◌+◌, ◌<◌, List, [], ◌∷◌, ◌++◌, length, get_or, replicate, map, reverse, take, refl, ap, ◌∙◌}
use Rattle.std.proofs.lemmas.List.{reverse-append}
use Rattle.wasm_lang.specs.declared.types.ValType.{ValType}
use Rattle.wasm_tree.specs.declared.module.Run.{Run}
use Rattle.wasm_tree.specs.Views.{locals_in}
use Rattle.wasm_tree.proofs.Runs.{locals_more}
use Rattle.wasm_lang_exec.specs.Store.{word_of_type, zeros_of}
use Rattle.wasm_run_frames.specs.declared.machine.Enclosing.{Enclosing}
use Rattle.wasm_run_frames.specs.Views.{enclosing_of, all_enclosing}

pub zeros_append : (ts us : List ValType) → zeros_of (ts ++ us) ≡ zeros_of ts ++ zeros_of us
zeros_append [] us = refl
zeros_append (t ∷ ts) us = ap (λ l. word_of_type t 0 ∷ l) (zeros_append ts us)

zeros_of_one : (n : ℕ) (t : ValType) → zeros_of (replicate n t) ≡ replicate n (word_of_type t 0)
zeros_of_one zero t = refl
zeros_of_one (suc n) t = ap (λ l. word_of_type t 0 ∷ l) (zeros_of_one n t)

-- one run more
pub zeros_more : (runs : List Run) (i : ℕ) (run : Run) → i < length runs → run ≡ get_or runs i run
    → zeros_of (locals_in (take (i + 1) runs)) ≡ zeros_of (locals_in (take i runs)) ++ replicate run.count (word_of_type run.kind 0)
zeros_more runs i run lt h =
    ap zeros_of (locals_more runs i run lt h) ∙ zeros_append (locals_in (take i runs)) (replicate run.count run.kind) ∙ ap (λ l. zeros_of (locals_in (take i runs)) ++ l) (zeros_of_one run.count run.kind)

map_append : (es fs : List Enclosing) → map enclosing_of (es ++ fs) ≡ map enclosing_of es ++ map enclosing_of fs
map_append [] fs = refl
map_append (e ∷ es) fs = ap (λ l. enclosing_of e ∷ l) (map_append es fs)

-- what is pushed last is the innermost
pub innermost : (es : List Enclosing) (e : Enclosing) → all_enclosing (es ++ e ∷ []) ≡ enclosing_of e ∷ all_enclosing es
innermost es e = ap reverse (map_append es (e ∷ [])) ∙ reverse-append (map enclosing_of es) (enclosing_of e ∷ [])
