-- Runs, joined one after another.
use Rattle.std.proofs.Common.{◌≡◌, ℕ, zero, suc, ◌+◌, ◌*◌, ◌^◌, ◌<◌, true, false, List, [], ◌∷◌, ◌++◌, length, get_or, drop, replicate, map, refl, sym, ap, subst, ◌∙◌, arith, append_assoc, drop-cons}
use Rattle.std.specs.Prelude.{Option}
use Rattle.std.proofs.lemmas.List.{map-append}
use Rattle.wasm_lang.specs.declared.types.ValType.{ValType}
use Rattle.wasm_tree.specs.declared.module.Run.{Run}
use Rattle.wasm_tree.specs.Views.{locals_in}
use Rattle.wasm_binary_write.specs.declared.code.Joined.{Joined}
use Rattle.wasm_binary_write.specs.Runs.{runs_after, IsBelow}
use Rattle.wasm_binary_write.specs.Spelling.{runs, runs_from, same_type}
use Rattle.wasm_binary_write.specs.Views.{joined_of}
use Rattle.wasm_binary_write.proofs.Locals.{first_run, same_run, other_run}

some_locals : (n : ℕ) → (n ≡ 0 → ⊥) → 0 < n
some_locals zero h = absurd (h refl)
some_locals (suc n) h = omega arith

pub runs_begun : (done : List (ℕ × ValType)) (run : Run) → (run.count ≡ 0 → ⊥) → (rest : List ValType)
    → done ++ runs_from run.count run.kind rest ≡ done ++ runs (replicate run.count run.kind ++ rest)
runs_begun done run some rest = ap (λ l. done ++ l) (sym (first_run run.count run.kind rest (some_locals run.count some)))

pub runs_joined : (done : List (ℕ × ValType)) (last : Joined) (run : Run) → same_type last.kind run.kind ≡ true → (rest : List ValType)
    → done ++ runs_from (last.count + run.count) last.kind rest ≡ done ++ runs_from last.count last.kind (replicate run.count run.kind ++ rest)
runs_joined done last run same rest = ap (λ l. done ++ l) (sym (same_run last.count last.kind run.kind run.count rest same))

pub runs_ended : (done now : List Joined) (last : Joined) (run : Run) → now ≡ done ++ last ∷ [] → (run.count ≡ 0 → ⊥) → same_type last.kind run.kind ≡ false → (rest : List ValType)
    → map joined_of now ++ runs_from run.count run.kind rest ≡ map joined_of done ++ runs_from last.count last.kind (replicate run.count run.kind ++ rest)
runs_ended done now last run is some other rest =
    ap (λ l. map joined_of l ++ runs_from run.count run.kind rest) is
    ∙ ap (λ l. l ++ runs_from run.count run.kind rest) (map-append joined_of done (last ∷ []))
    ∙ append_assoc (map joined_of done) (joined_of last ∷ []) (runs_from run.count run.kind rest)
    ∙ ap (λ l. map joined_of done ++ l) (sym (other_run last.count last.kind run.kind run.count rest (some_locals run.count some) other))

pub joined_step : (done now whole : List (ℕ × ValType)) (xs : List Run) (i : ℕ) (d : Run) (last next : Option Joined) → i < length xs
    → ((rest : List ValType) → now ++ runs_after next rest ≡ done ++ runs_after last (replicate (get_or xs i d).count (get_or xs i d).kind ++ rest))
    → done ++ runs_after last (locals_in (drop i xs)) ≡ whole → now ++ runs_after next (locals_in (drop (i + 1) xs)) ≡ whole
joined_step done now whole xs i d last next lt joins e =
    joins (locals_in (drop (i + 1) xs)) ∙ ap (λ n. done ++ runs_after last (locals_in (get_or xs i d ∷ drop n xs))) (let n : i + 1 ≡ suc i = omega arith in n)
    ∙ ap (λ l. done ++ runs_after last (locals_in l)) (sym (drop-cons xs i d lt)) ∙ e

pub one_run_below : (i : ℕ) (next : Option Joined) → IsBelow (i * 2 ^ 32 + 2 ^ 32) next → IsBelow ((i + 1) * 2 ^ 32) next
one_run_below i next h = let e : i * 2 ^ 32 + 2 ^ 32 ≡ (i + 1) * 2 ^ 32 = omega arith in subst (λ n. IsBelow n next) e h
