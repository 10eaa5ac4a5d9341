-- What is left where an else at the end is taken back.
use Rattle.std.proofs.Common.{◌≡◌, Bool, true, false, List, [], ◌∷◌, ◌++◌, map, sym, ap, ◌∙◌, append-nil}
use Rattle.std.proofs.lemmas.List.{map-append}
use Rattle.std.specs.Prelude.{if◌then◌else◌}
use Rattle.wasm_tree.specs.declared.instr.Instr.{Instr}
use Rattle.wasm_tree.specs.Views.{instr_of}
use Rattle.asm2wasm_emit_pieces.specs.Endings.{is_else, without_else}
use Rattle.asm2wasm_emit_pieces.proofs.Endings.{ends_later}

module _ (old new : List Instr) (x : Instr) (h : old ≡ new ++ x ∷ []) where
  ended : without_else (map instr_of old) ≡ map instr_of new ++ without_else (instr_of x ∷ [])
  ended = ap (λ l. without_else (map instr_of l)) h ∙ ap without_else (map-append instr_of new (x ∷ [])) ∙ ends_later (map instr_of new) (instr_of x) []

  of_last : (b : Bool) → b ≡ is_else (instr_of x) → without_else (instr_of x ∷ []) ≡ (if b then [] else instr_of x ∷ [])
  of_last b k = ap (λ c. if c then [] else instr_of x ∷ []) (sym k)

  pub an_else : (b : Bool) → b ≡ is_else (instr_of x) → b ≡ true → map instr_of new ≡ without_else (map instr_of old)
  an_else b k t = sym (ended ∙ ap (λ l. map instr_of new ++ l) (of_last b k ∙ ap (λ c. if c then [] else instr_of x ∷ []) t) ∙ append-nil (map instr_of new))

  pub another : (pushed : List Instr) → pushed ≡ new ++ x ∷ [] → (b : Bool) → b ≡ is_else (instr_of x) → b ≡ false → map instr_of pushed ≡ without_else (map instr_of old)
  another pushed p b k t =
      ap (map instr_of) p ∙ map-append instr_of new (x ∷ [])
      ∙ sym (ended ∙ ap (λ l. map instr_of new ++ l) (of_last b k ∙ ap (λ c. if c then [] else instr_of x ∷ []) t))
